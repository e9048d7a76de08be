-- A turn of the search: the first task that was not taken up is taken up, and the edges out of it are released.
use Rattle.std.proofs.Common.{◌≡◌, ℕ, suc, ◌+◌, ◌<◌, ◌≤◌, Bool, true, false, ◌&&◌, eqb, leb, List, [], ◌∷◌, length, get_or, count_by, vec_items, sym, refl, ap, ◌∙◌, inl, inr, arith}
use Rattle.std.proofs.lemmas.List.{get_or_default}
use Rattle.std.proofs.lemmas.List.Sums.{get_or-le-sum_by, sum_by-cons}
use Rattle.std.proofs.lemmas.Bool.{cases_eq, cases_lt, cases_Bool, eq-eqb, ne_eqb, cond-true, cond-false, le-leb, lt-leb, both_ways, and_from}
use Rattle.edges.specs.declared.edge.Edge.{Edge}
use Rattle.edges.specs.Edges.{no_edge, out_of, Within}
use Rattle.orders.specs.declared.search.Search.{Search}
use Rattle.orders.specs.Searches.{count_to, count_from}
use Rattle.orders.specs.Turns.{Kept, Going}
use Rattle.orders.proofs.Shapes.{one_if, kept_none}

-- x alone leaves the tasks of rank head or above
abbrev Taken : ℕ → ℕ → ℕ → List ℕ → List ℕ → Type 0
Taken n head x rank ranks = (f : ℕ) → f < n → (f ≡ x → (leb head (get_or rank f 0) ≡ true) × (leb (head + 1) (get_or ranks f 0) ≡ false)) × ((f ≡ x → ⊥) → leb head (get_or rank f 0) ≡ leb (head + 1) (get_or ranks f 0))

and_yes : (b p q : Bool) → p ≡ true → q ≡ false → one_if (b && p) ≡ one_if b + one_if (b && q)
and_yes true p q e f = omega (arith, ap one_if e, ap one_if f)
and_yes false p q e f = refl

split : (es : List Edge) (n head t x : ℕ) (rank ranks : List ℕ) → Within es n → Taken n head x rank ranks → count_from head rank es t ≡ count_to (out_of es x) t + count_from (head + 1) ranks es t
split [] n head t x rank ranks w taken = refl
split (e ∷ es) n head t x rank ranks w taken =
    let ih = split es n head t x rank ranks (λ k lt. w (suc k) (omega arith)) taken in
    let f = e.from in
    let fl = (w 0 (omega arith)).0 in
    let p : Edge → ℕ = λ y. one_if (eqb y.to t && leb head (get_or rank y.from 0)) in
    let q : Edge → ℕ = λ y. one_if (eqb y.to t && leb (head + 1) (get_or ranks y.from 0)) in
    let r : Edge → ℕ = λ y. one_if (eqb y.to t) in
    elim (cases_eq f x) [
      | inl same ↦ (let here = cond-true (eqb f x) (e ∷ out_of es x) (out_of es x) (eq-eqb f x same) in
          let l = (taken f fl).0 same in
          omega (arith, ih, sum_by-cons p e es, sum_by-cons q e es, sum_by-cons r e (out_of es x), ap (λ (xs : List Edge). count_to xs t) here, and_yes (eqb e.to t) (leb head (get_or rank f 0)) (leb (head + 1) (get_or ranks f 0)) l.0 l.1))
      | inr ne ↦ (let here = cond-false (eqb f x) (e ∷ out_of es x) (out_of es x) (ne_eqb f x ne) in
          omega (arith, ih, sum_by-cons p e es, sum_by-cons q e es, ap (λ (xs : List Edge). count_to xs t) here, ap (λ (b : Bool). one_if (eqb e.to t && b)) ((taken f fl).1 ne)))
    ]

-- a task with a rank waits for nothing
ranked_is : (s : Search) (t : ℕ) → t < length (vec_items s.waits) → get_or (vec_items s.rank) t 0 < length (vec_items s.waits) → (get_or (vec_items s.waits) t 0 ≡ 0) × (get_or (vec_items s.order) (get_or (vec_items s.rank) t 0) 0 ≡ t)
ranked_is s t tl lt = elim (cases_lt 0 (get_or (vec_items s.waits) t 0)) [
  | inl pos ↦ absurd (omega (arith, s.shape.idle t pos))
  | inr z ↦ (let e : get_or (vec_items s.waits) t 0 ≡ 0 = omega arith in (e, (s.shape.placed t tl e).1))
]

-- x is the first task that was not taken up
turn_taken : (old new : Search) (head x : ℕ) → head < old.tail → x ≡ get_or (vec_items old.order) head x → Kept old new → Taken (length (vec_items old.waits)) head x (vec_items old.rank) (vec_items new.rank)
turn_taken old new head x ht at kept f fl =
    let rank = vec_items old.rank in
    let order = vec_items old.order in
    let ranks = vec_items new.rank in
    let l = old.shape.filled head ht in
    let is : x ≡ get_or order head 0 = at ∙ get_or_default order head x 0 (omega (arith, old.shape.orders, old.shape.count)) in (
      (λ e. let r : get_or rank f 0 ≡ head = ap (λ (y : ℕ). get_or rank y 0) (e ∙ is) ∙ l.1 in
          let s = kept.same f (omega arith) in
          (le-leb head (get_or rank f 0) (omega arith), lt-leb (head + 1) (get_or ranks f 0) (omega arith))),
      (λ ne. let off : get_or rank f 0 ≡ head → ⊥ = λ q. ne (sym (ranked_is old f fl (omega (arith, old.shape.count))).1 ∙ ap (λ (y : ℕ). get_or order y 0) q ∙ sym is) in
          elim (cases_lt (get_or rank f 0) head) [
            | inl lt ↦ (let s = kept.same f (omega arith) in lt-leb head (get_or rank f 0) lt ∙ sym (lt-leb (head + 1) (get_or ranks f 0) (omega arith)))
            | inr ge ↦ elim (cases_lt (get_or ranks f 0) (head + 1)) [
              | inl low ↦ absurd (off (let b = kept.back f (omega arith) in omega arith))
              | inr high ↦ le-leb head (get_or rank f 0) ge ∙ sym (le-leb (head + 1) (get_or ranks f 0) high)
            ]
          ]),
    )

none_passes : (p : Edge → Bool) (es : List Edge) (k : ℕ) → count_by p es ≡ 0 → k < length es → p (get_or es k no_edge) ≡ false
none_passes p es k z lt = elim (cases_Bool (p (get_or es k no_edge))) [
  | inl y ↦ absurd (omega (arith, get_or-le-sum_by (λ (e : Edge). one_if (p e)) es k no_edge lt, ap one_if y))
  | inr n ↦ n
]

pub turn : (es : List Edge) (n : ℕ) (old new : Search) (head : ℕ) (outs : List Edge) (x : ℕ) → Within es n → head < old.tail → x ≡ get_or (vec_items old.order) head x → outs ≡ out_of es x → Going es n old head
    → ((t : ℕ) → t < length (vec_items old.waits) → get_or (vec_items new.waits) t 0 + count_to outs t ≡ get_or (vec_items old.waits) t 0) → Kept old new → Going es n new (head + 1)
turn es n old new head outs x w ht at is was gone kept =
    let rank = vec_items old.rank in
    let ranks = vec_items new.rank in
    let taken : Taken n head x rank ranks = λ f fl. turn_taken old new head x ht at kept f (omega (arith, was.long)) in
    record {
      long = omega (arith, kept.long, was.long);
      behind = omega (arith, kept.more);
      waiting = λ t tl.
          omega (arith, gone t (omega (arith, was.long)), was.waiting t tl, split es n head t x rank ranks w taken, ap (λ (xs : List Edge). count_to xs t) is);
      forward = λ k kl low.
          let a = (get_or es k no_edge).from in
          let b = (get_or es k no_edge).to in
          let bl = (w k kl).1 in
          let rb = kept.back b (omega arith) in
          let less : get_or rank a 0 < get_or rank b 0 = elim (cases_lt (get_or rank b 0) head) [
            | inl lt ↦ was.forward k kl lt
            | inr ge ↦ (let z = (ranked_is old b (omega (arith, was.long)) (omega (arith, old.shape.count))).0 in
                let no' = none_passes (λ e. eqb e.to b && leb head (get_or rank e.from 0)) es k (sym (was.waiting b bl) ∙ z) kl in
                elim (cases_lt (get_or rank a 0) head) [
                  | inl lt ↦ omega arith
                  | inr ge' ↦ absurd (both_ways _ no' (and_from (eqb b b) (leb head (get_or rank a 0)) (eq-eqb b b refl) (le-leb head (get_or rank a 0) ge')))
                ])
          ] in
          omega (arith, less, rb, kept.same a (omega arith));
    }

-- each task waits at least for the edges that a turn releases
pub turn_due : (es : List Edge) (n : ℕ) (s : Search) (head : ℕ) (outs : List Edge) (x : ℕ) → Within es n → head < s.tail → x ≡ get_or (vec_items s.order) head x → outs ≡ out_of es x → Going es n s head
    → (t : ℕ) → t < n → count_to outs t ≤ get_or (vec_items s.waits) t 0
turn_due es n s head outs x w ht at is was t tl =
    let rank = vec_items s.rank in
    let taken : Taken n head x rank rank = λ f fl. turn_taken s s head x ht at (kept_none s) f (omega (arith, was.long)) in
    omega (arith, was.waiting t tl, split es n head t x rank rank w taken, ap (λ (xs : List Edge). count_to xs t) is)
