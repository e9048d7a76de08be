-- One placement keeps the rules among the tasks placed so far.
use Rattle.std.proofs.Common.{◌≡◌, ℕ, ◌+◌, ◌^◌, ◌<◌, ◌≤◌, true, false, cond, eqb, leb, ◌⊎◌, length, set, is_some, Some, None, Ok, Option, Result, sym, refl, ap, ◌∙◌, subst, inl, inr, arith}
use Rattle.std.proofs.lemmas.List.{get_or-set_same, get_or-set_other, length-set}
use Rattle.std.proofs.lemmas.Bool.{cases_lt, cases_eq, cases_Bool, both_ways, leb-true, eqb-true, eq-eqb, and_parts, or_cases, not-true}
use Rattle.scans.specs.Scans.{total, some}
use Rattle.scans.proofs.Scans.{largest_above, every_at, total_put, total_zero, some_one, some_is, some_not}
use Rattle.graphs.specs.Model.{TaskGraph}
use Rattle.links.specs.Links.{Arrives}
use Rattle.plans.specs.declared.types.Row.{Row}
use Rattle.plans.specs.declared.types.Limits.{Limits}
use Rattle.plans.specs.declared.fault.PlanFault.{PlanFault}
use Rattle.steps.specs.Seats.{Seats, at, sits, sits_on, end_of, placed, open_test, free, in_use, end_on, size_on, reach, input_at, start_on_worker}
use Rattle.steps.specs.Steps.{choice, seat_at, seat}
use Rattle.planner.specs.Goods.{Good}
use Rattle.planner.specs.Turns.{brings, ready}
use Rattle.planner.proofs.Choices.{Candidate, choice_in}

-- t starts on its worker when the definition says, and ends in time
abbrev Seated : Arrives → TaskGraph → Seats → ℕ → Row → Type 0
Seated arrives g s t r = (r.start ≡ start_on_worker arrives g s t r.worker) × (r.start + g.time t ≤ 2 ^ 40)

ok_same : (a r : Row) → (◌≡◌ {A = Result Row PlanFault} (Ok a) (Ok r)) → a ≡ r
ok_same a r e = cc

pub seated_is : (limits : Limits) (arrives : Arrives) (g : TaskGraph) (s : Seats) (t : ℕ) (r : Row) (o : Option ℕ) → seat_at limits arrives g s t o ≡ Ok r → (o ≡ Some r.worker) × Seated arrives g s t r
seated_is limits arrives g s t r None e = absurd (let z : ◌≡◌ {A = ℕ} 0 1 = cc in omega arith)
seated_is limits arrives g s t r (Some w) e = elim (cases_Bool (leb (start_on_worker arrives g s t w + g.time t) (2 ^ 40))) [
  | inl y ↦ (let h : record { worker = w; start = start_on_worker arrives g s t w } ≡ r = ok_same _ r (simp y at e) in
      let P : Row → Type 0 = λ q. (◌≡◌ {A = Option ℕ} (Some w) (Some q.worker)) × Seated arrives g s t q in
      subst P h (refl, (refl, leb-true _ _ y)))
  | inr n ↦ absurd (let x = simp n at e in let z : ◌≡◌ {A = ℕ} 0 1 = cc in omega arith)
]

-- a task on some worker is placed
pub sits_placed : (o : Option Row) (w : ℕ) → sits o w ≡ true → is_some o ≡ true
sits_placed None w e = absurd (let z : ◌≡◌ {A = ℕ} 0 1 = cc in omega arith)
sits_placed (Some r) w e = refl

-- a task that is not placed is on no worker
none_sits : (o : Option Row) (v : ℕ) → is_some o ≡ false → sits o v ≡ false
none_sits None v e = refl
none_sits (Some r) v e = absurd (let z : ◌≡◌ {A = ℕ} 0 1 = cc in omega arith)

-- an unopened worker has no memory in use
pub unopened_unused : (g : TaskGraph) (s : Seats) (w : ℕ) → ((u : ℕ) → placed s u ≡ true → u < g.tasks) → open_test g s w ≡ false → in_use g s w ≡ 0
unfolding in_use open_test
unopened_unused g s w known e = total_zero (size_on g s w) g.tasks (λ u. elim (cases_lt u g.tasks) [
  | inl l ↦ (let n = some_not (sits_on s w) g.tasks u e l in simp n)
  | inr ge ↦ elim (cases_Bool (sits (at s u) w)) [
    | inl y ↦ absurd (omega (arith, known u (sits_placed (at s u) w y)))
    | inr n ↦ simp n
  ]
])

module _ (limits : Limits) (arrives : Arrives) (g : TaskGraph) (small : (t : ℕ) → t < g.tasks → g.size t ≤ limits.memory) where
  -- the chosen worker has room
  room_there : (s : Seats) (t w : ℕ) → t < g.tasks → Good limits arrives g s → Candidate limits g s t w → in_use g s w + g.size t ≤ limits.memory
  room_there s t w tl was c = elim c [
    | inl a ↦ leb-true _ _ a.1
    | inr a ↦ omega (arith, unopened_unused g s w was.tasks a.0, small t tl)
  ]

  -- it is free by the start, and all inputs are there
  free_by : (s : Seats) (t w u : ℕ) → u < g.tasks → sits (at s u) w ≡ true → end_of g s u ≤ start_on_worker arrives g s t w
  unfolding start_on_worker free
  free_by s t w u l y =
      let a = largest_above (end_on g s w) g.tasks u l in
      omega (arith, simp y at a)

  there_by : (s : Seats) (t w k : ℕ) → k < g.edges → g.to k ≡ t → reach arrives g s w (g.from k) (g.amount k) ≤ start_on_worker arrives g s t w
  unfolding start_on_worker
  there_by s t w k l e =
      let a = largest_above (input_at arrives g s t w) g.edges k l in
      let y : eqb (g.to k) t ≡ true = eq-eqb _ _ e in
      omega (arith, simp y at a)

  pub good_more : (s : Seats) (t : ℕ) (r : Row) → g.tasks ≤ 512 → Good limits arrives g s → t < g.tasks → ready g s t ≡ true → seat limits arrives g s t ≡ Ok r → Good limits arrives g (set s t (Some r))
  unfolding ready seat in_use open_test
  good_more s t r few was tl rdy sat =
      let s' : Seats = set s t (Some r) in
      let w : ℕ = r.worker in
      let is = seated_is limits arrives g s t r (choice limits arrives g s t) sat in
      let cand = choice_in limits arrives g s t w is.0 in
      let in_row : t < length s = omega (arith, was.sized) in
      let fresh-t : placed s t ≡ false = not-true _ (and_parts _ _ rdy).0 in
      let here : at s' t ≡ Some r = get_or-set_same s t (Some r) None in_row in
      let there : (u : ℕ) → (u ≡ t → ⊥) → at s' u ≡ at s u = λ u ne. get_or-set_other s t u (Some r) None ne in
      let look : (u : ℕ) → ((u ≡ t) × (at s' u ≡ Some r)) ⊎ ((u ≡ t → ⊥) × (at s' u ≡ at s u)) = λ u. elim (cases_eq u t) [
        | inl e ↦ inl (e, ap (at s') e ∙ here)
        | inr ne ↦ inr (ne, there u ne)
      ] in
      let brought : (k : ℕ) → k < g.edges → g.to k ≡ t → placed s (g.from k) ≡ true = λ k l e. elim (or_cases _ _ (every_at (brings g s t) g.edges k (and_parts _ _ rdy).1 l)) [
        | inl a ↦ absurd (both_ways (eqb (g.to k) t) (not-true _ a) (eq-eqb _ _ e))
        | inr a ↦ a
      ] in
      let other : (u : ℕ) → placed s u ≡ true → at s' u ≡ at s u = λ u y. there u (λ e. both_ways (placed s t) fresh-t (ap (placed s) (sym e) ∙ y)) in
      let mine : (v : ℕ) → sits (Some r) v ≡ true → w ≡ v = λ v y. eqb-true w v y in
      let task : (u v : ℕ) → sits (at s u) v ≡ true → u < g.tasks = λ u v y. was.tasks u (sits_placed (at s u) v y) in
      let still : (v : ℕ) → some (sits_on s v) g.tasks ≡ true → some (sits_on s' v) g.tasks ≡ true = λ v y.
      let k = some_is (sits_on s v) g.tasks y in
      some_one (sits_on s' v) g.tasks k.0 k.1 (let o = other k.0 (sits_placed (at s k.0) v k.2) in simp o k.2) in
      record {
        sized = simp length-set was.sized;
        tasks = λ u y. elim (look u) [
          | inl a ↦ omega (arith, a.0)
          | inr a ↦ (let q = a.1 in was.tasks u (simp q at y))
        ];
        early = λ u. elim (look u) [
          | inl a ↦ (let q = a.1 in simp q (omega (arith, is.1.1, ap g.time a.0)))
          | inr a ↦ (let q = a.1 in simp q (was.early u))
        ];
        on = λ u v y. elim (look u) [
          | inl a ↦ (let q = a.1 in omega (arith, mine v (simp q at y), cand.0))
          | inr a ↦ (let q = a.1 in was.on u v (simp q at y))
        ];
        room = λ v.
            let n = none_sits (at s t) v fresh-t in
            let zero-t : size_on g s v t ≡ 0 = simp n in
            let all = total_put (size_on g s v) (size_on g s' v) g.tasks t tl zero-t (λ u ne. let q = there u ne in simp q) in
            let one : size_on g s' v t ≡ cond (eqb w v) (g.size t) 0 = simp here in
            elim (cases_Bool (eqb w v)) [
              | inl y ↦ (let e : w ≡ v = eqb-true w v y in let P : ℕ → Type 0 = λ x. total (size_on g s x) g.tasks + g.size t ≤ limits.memory in
                  omega (arith, all, simp y at one, subst P e (room_there s t w tl was cand.1)))
              | inr n ↦ omega (arith, all, simp n at one, was.room v)
            ];
        apart = λ a b v ne y z. elim (look a) [
          | inl p ↦ elim (look b) [
            | inl q ↦ absurd (ne (p.0 ∙ sym q.0))
            | inr q ↦ (let i = p.1 in let j = q.1 in let e = mine v (simp i at y) in let zb = simp j at z in inr (simp (i, j) (omega (arith, is.1.0, free_by s t w b (task b v zb) (subst (λ x. sits (at s b) x ≡ true) (sym e) zb)))))
          ]
          | inr p ↦ elim (look b) [
            | inl q ↦ (let i = p.1 in let j = q.1 in let e = mine v (simp j at z) in let ya = simp i at y in inl (simp (i, j) (omega (arith, is.1.0, free_by s t w a (task a v ya) (subst (λ x. sits (at s a) x ≡ true) (sym e) ya)))))
            | inr q ↦ (let i = p.1 in let j = q.1 in simp (i, j) (was.apart a b v ne (simp i at y) (simp j at z)))
          ]
        ];
        fed = λ k v l y. elim (look (g.to k)) [
          | inl p ↦ (let i = p.1 in
              let e = mine v (simp i at y) in
              let b = brought k l p.0 in
              let o = other (g.from k) b in
              (simp o b, simp (i, o) (omega (arith, is.1.0, subst (λ x. reach arrives g s x (g.from k) (g.amount k) ≤ start_on_worker arrives g s t w) e (there_by s t w k l p.0)))))
          | inr p ↦ (let i = p.1 in
              let h = was.fed k v l (simp i at y) in
              let o = other (g.from k) h.0 in
              (simp o h.0, simp (i, o) h.1))
        ];
        lowest = λ a v l y.
            let k = some_is (sits_on s' a) g.tasks y in
            elim (look k.0) [
              | inl p ↦ (let i = p.1 in let e : w ≡ a = mine a (simp i at k.2) in elim cand.1 [
                | inl c ↦ still v (was.lowest w v (omega arith) c.0)
                | inr c ↦ still v (c.1 v (omega arith))
              ])
              | inr p ↦ (let i = p.1 in still v (was.lowest a v l (some_one (sits_on s a) g.tasks k.0 k.1 (simp i at k.2))))
            ];
      }
