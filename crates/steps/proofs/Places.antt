-- What changes when one more task is placed.
use Rattle.std.proofs.Common.{◌≡◌, ℕ, ◌+◌, ◌^◌, ◌<◌, ◌≤◌, max, Bool, true, false, cond, not, ◌||◌, eqb, ltb, List, length, replicate, set, is_some, Some, None, Decides, Option, sym, refl, ap, ◌∙◌, subst, inl, inr, arith}
use Rattle.std.proofs.lemmas.List.{get_or-set_same, get_or-set_other, get_or-replicate, get_or_past, length-replicate}
use Rattle.std.proofs.lemmas.Bool.{cases_lt, cases_eq, eq-eqb, ne_eqb, ltb-true, leb-true, lt-ltb, le-leb, and_parts, and_from, not-true, not_from_false}
use Rattle.scans.proofs.Scans.{total_put, total_zero, largest_put, largest_under, some_put, some_none}
use Rattle.graphs.specs.Model.{TaskGraph}
use Rattle.plans.specs.declared.types.Row.{Row}
use Rattle.steps.specs.Seats.{Seats, nobody, at, sits, sits_on, over, end_of, placed, placeable, put, Early, open_test, free, end_on, in_use, size_on}
use Rattle.steps.specs.Lanes.{lane_at, free_in, used_in}
use Rattle.steps.specs.Laws.{Placeable}
use Rattle.steps.specs.declared.desk.Lane.{Lane}

nobody_there : (o : Option Row) (v x : ℕ) → is_some o ≡ false → cond (sits o v) x 0 ≡ 0
nobody_there None v x e = refl
nobody_there (Some r) v x e = absurd (let z : ◌≡◌ {A = ℕ} 0 1 = cc in omega arith)

not_there : (o : Option Row) (v : ℕ) → is_some o ≡ false → sits o v ≡ false
not_there None v e = refl
not_there (Some r) v e = absurd (let z : ◌≡◌ {A = ℕ} 0 1 = cc in omega arith)

-- the test of what may be placed says it
pub placeable_law : (g : TaskGraph) (s : Seats) (t : ℕ) (r : Row) → Decides (placeable g s t r) (Placeable g s t r)
unfolding placeable
placeable_law g s t r = (
  (λ e.
      let a = and_parts (ltb t g.tasks) _ e in
      let b = and_parts (not (placed s t)) _ a.1 in
      let d = and_parts (ltb r.worker 16) _ b.1 in
      record { task = ltb-true _ _ a.0; unplaced = not-true _ b.0; worker = ltb-true _ _ d.0; early = leb-true _ _ d.1 }),
  λ p. and_from _ _ (lt-ltb _ _ p.task) (and_from _ _ (not_from_false _ p.unplaced) (and_from _ _ (lt-ltb _ _ p.worker) (le-leb _ _ p.early))),
)

module _ (g : TaskGraph) (s : Seats) (t : ℕ) (r : Row) (in_table : t < length s) where
  pub put_here : at (put s t r) t ≡ Some r
  put_here = get_or-set_same s t (Some r) None in_table

  pub put_other : (u : ℕ) → (u ≡ t → ⊥) → at (put s t r) u ≡ at s u
  put_other u ne = get_or-set_other s t u (Some r) None ne

  pub early_more : Early g s → r.start + g.time t ≤ 2 ^ 40 → Early g (put s t r)
  early_more early low u = elim (cases_eq u t) [
    | inl e ↦ subst (λ (v : ℕ). end_of g (put s t r) v ≤ 2 ^ 40) (sym e) (subst (λ (o : Option Row). over o (g.time t) ≤ 2 ^ 40) (sym put_here) low)
    | inr ne ↦ subst (λ (o : Option Row). over o (g.time u) ≤ 2 ^ 40) (sym (put_other u ne)) (early u)
  ]

  module _ (task : t < g.tasks) (unplaced : placed s t ≡ false) where
    pub in_use_more : (w : ℕ) → in_use g (put s t r) w ≡ in_use g s w + cond (eqb r.worker w) (g.size t) 0
    unfolding in_use
    in_use_more w =
        total_put (size_on g s w) (size_on g (put s t r) w) g.tasks t task (nobody_there (at s t) w (g.size t) unplaced) (λ u ne. let q = put_other u ne in simp q)
        ∙ ap (λ (n : ℕ). in_use g s w + n) (ap (λ (o : Option Row). cond (sits o w) (g.size t) 0) put_here)

    pub free_more : (w : ℕ) → free g (put s t r) w ≡ max (free g s w) (cond (eqb r.worker w) (r.start + g.time t) 0)
    unfolding free
    free_more w =
        largest_put (end_on g s w) (end_on g (put s t r) w) g.tasks t task (nobody_there (at s t) w (end_of g s t) unplaced) (λ u ne. let q = put_other u ne in simp q)
        ∙ ap (λ (n : ℕ). max (free g s w) n) (ap (λ (o : Option Row). cond (sits o w) (over o (g.time t)) 0) put_here)

    pub open_more : (w : ℕ) → open_test g (put s t r) w ≡ (open_test g s w || eqb r.worker w)
    unfolding open_test
    open_more w =
        some_put (sits_on s w) (sits_on (put s t r) w) g.tasks t task (not_there (at s t) w unplaced) (λ u ne. let q = put_other u ne in simp q)
        ∙ ap (λ (b : Bool). open_test g s w || b) (ap (λ (o : Option Row). sits o w) put_here)

    or_true : (b : Bool) → (b || true) ≡ true
    or_true true = refl
    or_true false = refl

    or_false : (b : Bool) → (b || false) ≡ b
    or_false true = refl
    or_false false = refl

    -- what a table of lanes says once the lane of the row's worker is written: what placing adds there, and the others stay
    module _ (lanes : List (Option Lane)) (lane : Option Lane) (sized : length lanes ≡ 16) (below : r.worker < 16) where
      lane_more : {X : Type 0} (says : Option Lane → X) (was will : ℕ → X) → ((w : ℕ) → says (lane_at lanes w) ≡ was w) → will r.worker ≡ says lane → ((w : ℕ) → eqb r.worker w ≡ false → will w ≡ was w)
          → (w : ℕ) → says (lane_at (set lanes r.worker lane) w) ≡ will w
      lane_more says was will kept here there w = elim (cases_eq w r.worker) [
        | inl e ↦ subst (λ (v : ℕ). says (lane_at (set lanes r.worker lane) v) ≡ will v) (sym e) (ap says (get_or-set_same lanes r.worker lane None (omega arith)) ∙ sym here)
        | inr ne ↦ ap says (get_or-set_other lanes r.worker w lane None ne) ∙ kept w ∙ sym (there w (ne_eqb r.worker w (λ q. ne (sym q))))
      ]

      self_eq : eqb r.worker r.worker ≡ true
      self_eq = eq-eqb _ _ refl

      pub opens_more : is_some lane ≡ true → ((w : ℕ) → is_some (lane_at lanes w) ≡ open_test g s w) → (w : ℕ) → is_some (lane_at (set lanes r.worker lane) w) ≡ open_test g (put s t r) w
      opens_more is kept = lane_more is_some (open_test g s) (open_test g (put s t r)) kept
          (open_more r.worker ∙ (let e = self_eq in simp e (or_true (open_test g s r.worker))) ∙ sym is)
          (λ w e. open_more w ∙ (simp e (or_false (open_test g s w))))

      pub frees_more : free_in lane ≡ max (free g s r.worker) (r.start + g.time t) → ((w : ℕ) → free_in (lane_at lanes w) ≡ free g s w) → (w : ℕ) → free_in (lane_at (set lanes r.worker lane) w) ≡ free g (put s t r) w
      frees_more is kept = lane_more free_in (free g s) (free g (put s t r)) kept
          (free_more r.worker ∙ (let e = self_eq in simp (e, is)))
          (λ w e. free_more w ∙ (simp e (omega arith)))

      pub uses_more : used_in lane ≡ in_use g s r.worker + g.size t → ((w : ℕ) → used_in (lane_at lanes w) ≡ in_use g s w) → (w : ℕ) → used_in (lane_at (set lanes r.worker lane) w) ≡ in_use g (put s t r) w
      uses_more is kept = lane_more used_in (in_use g s) (in_use g (put s t r)) kept
          (in_use_more r.worker ∙ (let e = self_eq in simp (e, is)))
          (λ w e. in_use_more w ∙ (simp e (omega arith)))

-- where nobody is placed
pub lane_none : (w : ℕ) → lane_at (replicate 16 None) w ≡ None
lane_none w = elim (cases_lt w 16) [
  | inl l ↦ get_or-replicate 16 w None None l
  | inr g ↦ get_or_past (replicate 16 None) w None (omega (arith, length-replicate {A = Option Lane} 16 None))
]

nobody_at : (t : ℕ) → at nobody t ≡ None
nobody_at t = elim (cases_lt t 512) [
  | inl l ↦ get_or-replicate 512 t None None l
  | inr g ↦ get_or_past nobody t None (omega (arith, length-replicate {A = Option Row} 512 None))
]

module _ (g : TaskGraph) where
  pub early_none : Early g nobody
  early_none t = subst (λ (o : Option Row). over o (g.time t) ≤ 2 ^ 40) (sym (nobody_at t)) (omega arith)

  pub open_none : (w : ℕ) → open_test g nobody w ≡ false
  unfolding open_test
  open_none w = some_none (sits_on nobody w) g.tasks (λ t l. ap (λ (o : Option Row). sits o w) (nobody_at t))

  pub free_none : (w : ℕ) → free g nobody w ≡ 0
  unfolding free
  free_none w = omega (arith, largest_under (end_on g nobody w) g.tasks 0 (λ t l. subst (λ (o : Option Row). cond (sits o w) (over o (g.time t)) 0 ≤ 0) (sym (nobody_at t)) (omega arith)))

  pub in_use_none : (w : ℕ) → in_use g nobody w ≡ 0
  unfolding in_use
  in_use_none w = total_zero (size_on g nobody w) g.tasks (λ t. ap (λ (o : Option Row). cond (sits o w) (g.size t) 0) (nobody_at t))
