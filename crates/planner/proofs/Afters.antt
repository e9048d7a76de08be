-- What holds after some placements: the rules among the placed tasks, as many as there were turns.
use Rattle.std.proofs.Common.{◌≡◌, ℕ, zero, suc, ◌+◌, ◌<◌, ◌≤◌, Bool, true, false, cond, not, eqb, List, length, get_or, set, is_some, Some, None, Ok, Err, Option, Result, sym, refl, ap, ◌∙◌, subst, inl, inr, add-one, arith}
use Rattle.std.proofs.lemmas.List.{get_or-set_same, get_or-set_other, get_or_past, get_or-replicate, length-replicate}
use Rattle.std.proofs.lemmas.Bool.{cases_lt, cases_eq, cases_Bool, both_ways, cond_both, eqb-true, eq-eqb, and_parts, and_from, or_left, or_right, not-true, not-false, not_from_false}
use Rattle.scans.specs.Scans.{total}
use Rattle.scans.specs.Bids.{Chosen}
use Rattle.scans.specs.declared.Aim.TheVariants.{Smallest, Largest}
use Rattle.scans.proofs.Scans.{every_all, total_one, total_put, total_zero, total_full, total_same, some_none}
use Rattle.scans.proofs.Bids.{best_is_chosen}
use Rattle.graphs.specs.Model.{TaskGraph, Known, Acyclic}
use Rattle.links.specs.Links.{Arrives}
use Rattle.plans.specs.declared.types.Row.{Row}
use Rattle.plans.specs.declared.types.Limits.{Limits}
use Rattle.plans.specs.declared.fault.PlanFault.{PlanFault}
use Rattle.plans.specs.Jobs.{job, no_row}
use Rattle.plans.specs.Rules.{Rules, used, reaches}
use Rattle.plans.specs.Rules.{size_on as sizes_on}
use Rattle.steps.specs.Seats.{Seats, nobody, at, sits, sits_on, placed, open_test, in_use, size_on}
use Rattle.steps.specs.Steps.{seat}
use Rattle.planner.specs.Turns.{brings, ready, rank, next, put, place, turn, go_on, after}
use Rattle.planner.specs.Plans.{row_of}
use Rattle.planner.proofs.Choices.{wins, none_wins}
use Rattle.planner.specs.Goods.{Good}
use Rattle.planner.proofs.Goods.{good_more}

nobody_at : (t : ℕ) → at nobody t ≡ None
nobody_at t = elim (cases_lt t 512) [
  | inl l ↦ get_or-replicate 512 t None None l
  | inr ge ↦ get_or_past nobody t None (simp length-replicate ge)
]

-- as many tasks as are placed
abbrev one_placed : Seats → ℕ → ℕ
one_placed s t = cond (placed s t) 1 0

abbrev count : TaskGraph → Seats → ℕ
count g s = total (one_placed s) g.tasks

-- a contradiction from a seat that nobody has
nobody_sits : (t w : ℕ) → sits (at nobody t) w ≡ true → ⊥
nobody_sits t w y = let e = nobody_at t in let q = simp e at y in let z : ◌≡◌ {A = ℕ} 0 1 = cc in omega arith

module _ (limits : Limits) (policy : ℕ) (arrives : Arrives) (g : TaskGraph) where
  pub nobody_good : Good limits arrives g nobody
  unfolding in_use open_test
  nobody_good = record {
    sized = length-replicate {A = Option Row} 512 None;
    tasks = λ t y. absurd (let e = nobody_at t in let q = simp e at y in let z : ◌≡◌ {A = ℕ} 0 1 = cc in omega arith);
    early = λ t. let e = nobody_at t in simp e (omega arith);
    on = λ t w y. absurd (nobody_sits t w y);
    room = λ w. omega (arith, total_zero (size_on g nobody w) g.tasks (λ t. let e = nobody_at t in simp e));
    apart = λ t u w ne y z. absurd (nobody_sits t w y);
    fed = λ k w l y. absurd (nobody_sits (g.to k) w y);
    lowest = λ w v l y. absurd (both_ways _ (some_none (sits_on nobody w) g.tasks (λ t l. let e = nobody_at t in simp e)) y);
  }

  -- the task that is next is ready
  pub next_ready : (s : Seats) (t : ℕ) → next policy arrives g s ≡ Some t → (t < g.tasks) × (ready g s t ≡ true)
  unfolding next
  next_ready s t e = wins Largest (ready g s) (rank policy arrives g s) g.tasks t e

  -- where none is next, none is ready
  none_ready : (s : Seats) → next policy arrives g s ≡ None → (t : ℕ) → t < g.tasks → ready g s t ≡ false
  unfolding next
  none_ready s e = none_wins Largest (ready g s) (rank policy arrives g s) g.tasks e

  pub put_is : (s e : Seats) (t : ℕ) (o : Result Row PlanFault) → put s t o ≡ Ok e → (r : Row) × (o ≡ Ok r) × (set s t (Some r) ≡ e)
  put_is s e t (Ok r) p = (r, refl, cc)
  put_is s e t (Err y) p = absurd (let z : ◌≡◌ {A = ℕ} 0 1 = cc in omega arith)

  module _ (few : g.tasks ≤ 512) (small : (t : ℕ) → t < g.tasks → g.size t ≤ limits.memory) where
    place_good : (s e : Seats) (o : Option ℕ) → next policy arrives g s ≡ o → Good limits arrives g s → place limits policy arrives g s o ≡ Ok e → Good limits arrives g e
    place_good s e None n was p = let q : s ≡ e = cc in subst (Good limits arrives g) q was
    place_good s e (Some t) n was p =
        let h = next_ready s t n in
        let u = put_is s e t (seat limits arrives g s t) p in
        subst (Good limits arrives g) u.2 (good_more limits arrives g small s t u.0 few was h.0 h.1 u.1)

    good_on : (e : Seats) (o : Result Seats PlanFault) → ((s : Seats) → o ≡ Ok s → Good limits arrives g s) → go_on limits policy arrives g o ≡ Ok e → Good limits arrives g e
    good_on e (Err y) was p = absurd (let z : ◌≡◌ {A = ℕ} 0 1 = cc in omega arith)
    good_on e (Ok s) was p = place_good s e _ refl (was s refl) p

    pub after_good : (n : ℕ) (s : Seats) → after limits policy arrives g n ≡ Ok s → Good limits arrives g s
    after_good zero s p = let q : nobody ≡ s = cc in subst (Good limits arrives g) q nobody_good
    after_good (suc n) s p = good_on s (after limits policy arrives g n) (after_good n) p

  -- where no task is ready, all are placed: an unplaced one of least height would be ready
  all_if_none_ready : Known g → (s : Seats) (o : Option ℕ) (high : ℕ → ℕ) → ((k : ℕ) → k < g.edges → high (g.from k) < high (g.to k)) → Chosen Smallest (λ t. not (placed s t)) high g.tasks o → ((t : ℕ) → t < g.tasks → ready g s t ≡ false) → (t : ℕ) → t < g.tasks → placed s t ≡ true
  unfolding ready
  all_if_none_ready known s None high up low no_one t tl = not-false _ (low t tl)
  all_if_none_ready known s (Some x) high up low no_one t tl =
      let nx : placed s x ≡ false = not-true _ low.1 in
      let brought : (k : ℕ) → k < g.edges → brings g s x k ≡ true = λ k l. elim (cases_Bool (eqb (g.to k) x)) [
        | inr n ↦ or_left _ _ (not_from_false _ n)
        | inl y ↦ or_right _ _ (elim (cases_Bool (placed s (g.from k))) [
          | inl p ↦ p
          | inr q ↦ absurd (let e = eqb-true _ _ y in
              let h = (low.2 (g.from k) (known k l).0 (not_from_false _ q)).0 in
              omega (arith, up k l, ap high e))
        ])
      ] in
      absurd (both_ways (ready g s x) (no_one x low.0) (and_from _ _ (not_from_false _ nx) (every_all (brings g s x) g.edges brought)))

  pub ready_free : (s : Seats) (t : ℕ) → ready g s t ≡ true → placed s t ≡ false
  unfolding ready
  ready_free s t y = not-true _ (and_parts _ _ y).0

  -- once all tasks are placed, their rows keep the five rules
  pub good_rules : Known g → (s : Seats) (rows : List Row) → Good limits arrives g s → ((t : ℕ) → t < g.tasks → at s t ≡ Some (get_or rows t no_row)) → Rules (job g rows limits arrives)
  unfolding in_use used reaches
  good_rules known s rows good has =
      let row : ℕ → Row = λ t. get_or rows t no_row in
      let sat : (t : ℕ) → t < g.tasks → sits (at s t) (row t).worker ≡ true = λ t l. rw (has t l) (eq-eqb _ _ refl) in
      record {
        placed = λ t l. good.on t (row t).worker (sat t l);
        in_time = λ t l. let q = has t l in simp q at (good.early t);
        apart = λ t tl u ul ne same. let p = has t tl in let q = has u ul in simp (p, q) at (good.apart t u (row t).worker ne (sat t tl) (subst (λ w. sits (at s u) w ≡ true) (sym same) (sat u ul)));
        roomy = λ w wl. omega (arith, good.room w, total_same (size_on g s w) (sizes_on (job g rows limits arrives) w) g.tasks (λ t l. let q = has t l in simp q));
        fed = λ k l.
            let f = (known k l).0 in let t = (known k l).1 in
            let p = has (g.from k) f in let q = has (g.to k) t in
            simp (p, q) at (good.fed k (row (g.to k)).worker l (sat (g.to k) t)).1;
      }

  module _ (few : g.tasks ≤ 512) (known : Known g) (ac : Acyclic g) (small : (t : ℕ) → t < g.tasks → g.size t ≤ limits.memory) where
    place_count : (s e : Seats) (o : Option ℕ) (n : ℕ) → n < g.tasks → next policy arrives g s ≡ o → Good limits arrives g s → count g s ≡ n → place limits policy arrives g s o ≡ Ok e → count g e ≡ suc n
    place_count s e None n nl was good c p =
        let all = all_if_none_ready known s _ ac.height ac.up (best_is_chosen Smallest (λ t. not (placed s t)) ac.height g.tasks) (none_ready s was) in
        absurd (omega (arith, total_one (one_placed s) g.tasks (λ u l. let q = all u l in simp q)))
    place_count s e (Some t) n nl was good c p =
        let h = next_ready s t was in
        let u = put_is s e t (seat limits arrives g s t) p in
        let r = u.0 in
        let s' : Seats = set s t (Some r) in
        let f = ready_free s t h.1 in
        let in_row : t < length s = omega (arith, good.sized, h.0) in
        let here : at s' t ≡ Some r = get_or-set_same s t (Some r) None in_row in
        let more = total_put (one_placed s) (one_placed s') g.tasks t h.0 (simp f) (λ v ne. let q = get_or-set_other s t v (Some r) None ne in simp q) in
        let one : one_placed s' t ≡ 1 = simp here in
        omega (arith, more, one, ap (count g) u.2)

    count_on : (e : Seats) (n : ℕ) (o : Result Seats PlanFault) → n < g.tasks → ((s : Seats) → o ≡ Ok s → Good limits arrives g s × (count g s ≡ n)) → go_on limits policy arrives g o ≡ Ok e → count g e ≡ suc n
    count_on e n (Err y) nl was p = absurd (let z : ◌≡◌ {A = ℕ} 0 1 = cc in omega arith)
    count_on e n (Ok s) nl was p = place_count s e _ n nl refl (was s refl).0 (was s refl).1 p

    after_count : (n : ℕ) (s : Seats) → n ≤ g.tasks → after limits policy arrives g n ≡ Ok s → count g s ≡ n
    after_count zero s l p =
        let q : nobody ≡ s = cc in
        subst (λ (x : Seats). count g x ≡ 0) q (total_zero (one_placed nobody) g.tasks (λ t. let e = nobody_at t in simp e))
    after_count (suc n) s l p = count_on s n (after limits policy arrives g n) (omega arith) (λ c e. (after_good few small n c e, after_count n c (omega arith) e)) p

    -- all tasks are placed at the end
    pub all_placed : (s : Seats) → after limits policy arrives g g.tasks ≡ Ok s → (t : ℕ) → t < g.tasks → placed s t ≡ true
    all_placed s e t l =
        let one = total_full (one_placed s) g.tasks (λ u. cond_both (placed s u) 1 0 (λ x. x ≤ 1) (λ _. omega arith) (λ _. omega arith)) (after_count g.tasks s (omega arith) e) t l in
        there (placed s t) one
      where
        there : (b : Bool) → ◌≡◌ {A = ℕ} (cond b 1 0) 1 → b ≡ true
        there true x = refl
        there false x = absurd (omega arith)

    pub rules : (s : Seats) (rows : List Row) → after limits policy arrives g g.tasks ≡ Ok s → ((t : ℕ) → t < g.tasks → get_or rows t no_row ≡ row_of (at s t)) → Rules (job g rows limits arrives)
    rules s rows e has = good_rules known s rows (after_good few small g.tasks s e) (λ t l. there (at s t) (get_or rows t no_row) (all_placed s e t l) (has t l))
      where
        there : (o : Option Row) (r : Row) → is_some o ≡ true → r ≡ row_of o → o ≡ Some r
        there None r y h = absurd (let z : ◌≡◌ {A = ℕ} 0 1 = cc in omega arith)
        there (Some q) r y h = ap Some (sym h)

  pub after_more : (n : ℕ) (s : Seats) (o : Result Seats PlanFault) → after limits policy arrives g n ≡ Ok s → turn limits policy arrives g s ≡ o → after limits policy arrives g (n + 1) ≡ o
  after_more n s o e t = rw (add-one, e) t

  -- once denied, always denied
  pub after_denied : (n m : ℕ) (y : PlanFault) → after limits policy arrives g n ≡ Err y → n ≤ m → after limits policy arrives g m ≡ Err y
  after_denied n zero y e l = let z : n ≡ 0 = omega arith in ap (after limits policy arrives g) (sym z) ∙ e
  after_denied n (suc m) y e l = elim (cases_eq n (suc m)) [
    | inl i ↦ ap (after limits policy arrives g) (sym i) ∙ e
    | inr ne ↦ (let h = after_denied n m y e (omega arith) in rw h)
  ]
