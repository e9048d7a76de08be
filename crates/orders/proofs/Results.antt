-- What the search has found when each task of the order is taken up.
use Rattle.std.proofs.Common.{◌≡◌, ℕ, zero, suc, ◌<◌, ◌≤◌, Bool, true, false, ◌&&◌, eqb, ltb, leb, List, [], ◌∷◌, length, get_or, position, not, None, count_by, vec_items, sym, refl, ap, ◌∙◌, inl, inr, arith}
use Rattle.std.proofs.lemmas.List.Sums.{sum_by-cons, prefix_len_passes, prefix_len_stops}
use Rattle.std.proofs.lemmas.Bool.{not-true, not-false, cases_eq, cases_lt, cases_Bool, eqb-true, and_left, leb-true, and_parts, or_from, and_from, or_left, or_right, lt-ltb, le-ltb, both_ways}
use Rattle.scans.specs.Scans.{some_in, lowest}
use Rattle.std.specs.List.{position_or_len}
use Rattle.scans.proofs.Scans.{lowest_none, lowest_is, lowest_all}
use Rattle.edges.specs.declared.edge.Edge.{Edge}
use Rattle.edges.specs.Edges.{no_edge, Within}
use Rattle.orders.specs.Orders.{stuck, Ordered}
use Rattle.orders.specs.declared.search.Search.{Search}
use Rattle.orders.specs.Searches.{is_waiting}
use Rattle.orders.specs.Turns.{Finished}
use Rattle.orders.proofs.Shapes.{one_if, busy}

none_in : (p : Edge → Bool) (es : List Edge) → ((k : ℕ) → k < length es → p (get_or es k no_edge) ≡ false) → some_in p es ≡ false
none_in p [] h = refl
none_in p (e ∷ es) h = or_from (p e) (some_in p es) (h 0 (omega arith)) (none_in p es (λ k lt. h (suc k) (omega arith)))

pub one_in : (p : Edge → Bool) (es : List Edge) (k : ℕ) → k < length es → p (get_or es k no_edge) ≡ true → some_in p es ≡ true
one_in p [] k lt y = absurd (omega arith)
one_in p (e ∷ es) zero lt y = or_left (p e) (some_in p es) y
one_in p (e ∷ es) (suc k) lt y = or_right (p e) (some_in p es) (one_in p es k (omega arith) y)

some_passes : (p : Edge → Bool) (es : List Edge) → 0 < count_by p es → (k : ℕ) × (k < length es) × (p (get_or es k no_edge) ≡ true)
some_passes p [] pos = absurd (omega arith)
some_passes p (e ∷ es) pos = elim (cases_Bool (p e)) [
  | inl y ↦ (0, omega arith, y)
  | inr n ↦ (let r = some_passes p es (omega (arith, sum_by-cons (λ (x : Edge). one_if (p x)) e es, ap one_if n)) in (suc r.0, omega (arith, r.1), r.2))
]

-- no long way leads to a task of the order
free : (es : List Edge) (n : ℕ) (s : Search) → Finished es n s → (j t : ℕ) → get_or (vec_items s.rank) t 0 < j → get_or (vec_items s.rank) t 0 < s.tail → stuck es j t ≡ false
unfolding stuck
free es n s was zero t lt low = absurd (omega arith)
free es n s was (suc j) t lt low = none_in (λ e. eqb e.to t && stuck es j e.from) es (λ k kl.
    let a = (get_or es k no_edge).from in
    let b = (get_or es k no_edge).to in
    elim (cases_Bool (eqb b t)) [
      | inl y ↦ (let e = ap (λ (x : ℕ). get_or (vec_items s.rank) x 0) (eqb-true b t y) in
          let f = was.forward k kl (omega arith) in
          let r = free es n s was j a (omega arith) (omega arith) in
          simp (y, r))
      | inr no' ↦ and_left (eqb b t) (stuck es j a) no'
    ])

-- ways of each length lead to a task that waits
fast : (es : List Edge) (n : ℕ) (s : Search) → Within es n → Finished es n s → (j t : ℕ) → t < n → s.tail ≤ get_or (vec_items s.rank) t 0 → stuck es j t ≡ true
unfolding stuck
fast es n s w was zero t tl ge = refl
fast es n s w was (suc j) t tl ge =
    let rank = vec_items s.rank in
    let waits = vec_items s.waits in
    let pos : 0 < get_or waits t 0 = elim (cases_eq (get_or waits t 0) 0) [ inl z ↦ absurd (omega (arith, (s.shape.placed t (omega (arith, was.long)) z).0)) | inr nz ↦ omega arith ] in
    let p = some_passes (λ e. eqb e.to t && leb s.tail (get_or rank e.from 0)) es (omega (arith, was.waiting t tl)) in
    let a = (get_or es p.0 no_edge).from in
    let b = (get_or es p.0 no_edge).to in
    let parts = and_parts (eqb b t) (leb s.tail (get_or rank a 0)) p.2 in
    let up = fast es n s w was j a (w p.0 p.1).0 (leb-true s.tail (get_or rank a 0) parts.1) in
    one_in (λ e. eqb e.to t && stuck es j e.from) es p.0 p.1 (and_from (eqb b t) (stuck es j a) parts.0 up)

-- the tasks that wait are the stuck ones
stuck_is : (es : List Edge) (n : ℕ) (s : Search) → Within es n → Finished es n s → (t : ℕ) → t < n → is_waiting (vec_items s.waits) t ≡ stuck es n t
stuck_is es n s w was t tl =
    let waits = vec_items s.waits in
    let long = was.long in
    elim (cases_lt 0 (get_or waits t 0)) [
      | inl pos ↦ lt-ltb 0 (get_or waits t 0) pos ∙ sym (fast es n s w was n t tl (omega (arith, s.shape.idle t pos, s.shape.count)))
      | inr z ↦ (let r = (s.shape.placed t (omega arith) (omega arith)).0 in
          le-ltb 0 (get_or waits t 0) z ∙ sym (free es n s was n t (omega (arith, s.shape.count)) r))
    ]

lowest_same : (p q : ℕ → Bool) (n : ℕ) → ((k : ℕ) → k < n → p k ≡ q k) → lowest p n ≡ lowest q n
lowest_same p q zero h = refl
lowest_same p q (suc n) h = let a = lowest_same p q n (λ k l. h k (omega arith)) in let b = h n (omega arith) in simp (a, b)

-- the first element that passes is at the lowest place that passes
first_is : (p : ℕ → Bool) (xs : List ℕ) → position p xs ≡ lowest (λ t. p (get_or xs t 0)) (length xs)
first_is p xs =
    let i = position_or_len p xs in
    let q : ℕ → Bool = λ t. p (get_or xs t 0) in
    let before : (k : ℕ) → k < i → q k ≡ false = λ k l. not-true (q k) (prefix_len_passes (λ x. not (p x)) xs k 0 l) in
    elim (cases_lt i (length xs)) [
      | inl lt ↦ (let y = lt-ltb i (length xs) lt in simp y (sym (lowest_is q (length xs) i lt before (not-false (q i) (prefix_len_stops (λ x. not (p x)) xs 0 lt)))))
      | inr ge ↦ (let y = le-ltb i (length xs) ge in simp y (sym (lowest_none q (length xs) (λ k l. before k (omega arith)))))
    ]

pub first_stuck : (es : List Edge) (n : ℕ) (s : Search) → Within es n → Finished es n s → position (λ w. ltb 0 w) (vec_items s.waits) ≡ lowest (stuck es n) n
first_stuck es n s w was =
    let long = was.long in
    first_is (λ w. ltb 0 w) (vec_items s.waits) ∙ rw long (lowest_same (is_waiting (vec_items s.waits)) (stuck es n) n (stuck_is es n s w was))

none_busy : (xs : List ℕ) → ((k : ℕ) → k < length xs → get_or xs k 0 ≡ 0) → count_by (λ w. ltb 0 w) xs ≡ 0
none_busy [] h = refl
none_busy (x ∷ xs) h = omega (arith, sum_by-cons busy x xs, ap busy (h 0 (omega arith)), none_busy xs (λ k lt. h (suc k) (omega arith)))

none_waits : (waits : List ℕ) → position (λ w. ltb 0 w) waits ≡ None → (t : ℕ) → t < length waits → get_or waits t 0 ≡ 0
none_waits waits e t tl = elim (cases_lt 0 (get_or waits t 0)) [
  | inl pos ↦ absurd (both_ways (is_waiting waits t) (lowest_all (is_waiting waits) (length waits) t (sym (first_is (λ w. ltb 0 w) waits) ∙ e) tl) (lt-ltb 0 (get_or waits t 0) pos))
  | inr z ↦ omega arith
]

pub all_ordered : (es : List Edge) (n : ℕ) (s : Search) → Within es n → Finished es n s → position (λ w. ltb 0 w) (vec_items s.waits) ≡ None → Ordered es n (vec_items s.rank) (vec_items s.order)
all_ordered es n s w was e =
    let all = none_waits (vec_items s.waits) e in
    let long = was.long in
    let full : s.tail ≡ n = omega (arith, s.shape.count, none_busy (vec_items s.waits) all) in
    record {
      sized = (omega (arith, s.shape.ranks), omega (arith, s.shape.orders));
      ranked = λ t tl. let p = s.shape.placed t (omega arith) (all t (omega arith)) in (omega (arith, p.0), p.1);
      places = λ j jl. let p = s.shape.filled j (omega arith) in (omega (arith, p.0), p.1);
      forward = λ k kl. was.forward k kl (let bl : (get_or es k no_edge).to < length (vec_items s.waits) = omega (arith, (w k kl).1) in (s.shape.placed (get_or es k no_edge).to bl (all (get_or es k no_edge).to bl)).0);
    }
