-- The tables of a new search, and how the waits go down.
use Rattle.std.proofs.Common.{◌≡◌, ℕ, suc, ◌+◌, ◌-◌, ◌<◌, ◌≤◌, Bool, cond, eqb, ltb, List, [], ◌∷◌, length, get_or, take, set, replicate, count_by, sym, refl, ap, ◌∙◌, inl, inr, arith}
use Rattle.std.proofs.lemmas.List.Sums.{sum_by-set, sum_by-cons, count_by_more_yes, sum_by-take-le}
use Rattle.std.proofs.lemmas.Grind.{common_steps}
use Rattle.std.proofs.lemmas.Bool.{cases_lt, eq-eqb, lt-ltb}
use Rattle.std.proofs.lemmas.List.{get_or_past, get_or-replicate, length-replicate, length-set}
use Rattle.edges.specs.declared.edge.Edge.{Edge}
use Rattle.edges.specs.Edges.{no_edge}
use Rattle.orders.specs.declared.search.Search.{Search}
use Rattle.orders.specs.Searches.{count_to, Shape}
use Rattle.orders.specs.Turns.{Kept}

abbrev pub one_if : Bool → ℕ
one_if b = cond b 1 0

abbrev pub busy : ℕ → ℕ
busy w = cond (ltb 0 w) 1 0

-- while a task waits, a place is free
pub tail_room : (waits rank order : List ℕ) (tail y : ℕ) → y < length waits → 0 < get_or waits y 0 → Shape waits rank order tail → tail < length waits
tail_room waits rank order tail y yl pos was =
    omega (arith, was.count, sum_by-set busy waits y 0 0 yl, ap one_if (lt-ltb 0 (get_or waits y 0) pos))

pub shape_push : (waits rank order : List ℕ) (tail y v : ℕ) → y < length waits → v + 1 ≡ get_or waits y 0 → v ≡ 0 → Shape waits rank order tail
    → Shape (set waits y v) (set rank y tail) (set order tail y) (tail + 1)
shape_push waits rank order tail y v yl one none was =
    let room = tail_room waits rank order tail y yl (omega arith) was in
    let fresh = was.idle y (omega arith) in
    record {
      ranks = grind (arith, common_steps, was.ranks);
      orders = grind (arith, common_steps, was.orders);
      idle = λ t pos. grind (arith, common_steps, was.ranks, was.idle t);
      placed = λ t tl z. grind (arith, common_steps, was.ranks, was.orders, was.placed t);
      filled = λ j jl. grind (arith, common_steps, was.ranks, was.orders, was.filled j);
      count = omega (arith, was.count, length-set waits y v, sum_by-set busy waits y v 0 yl, ap one_if (lt-ltb 0 (get_or waits y 0) (omega arith)), ap busy none);
    }

pub kept_none : (s : Search) → Kept s s
kept_none s = record { long = refl; more = omega arith; same = λ f h. refl; back = λ f h. refl; list = λ j jl. refl }

pub kept_join : (a b c : Search) → Kept a b → Kept b c → Kept a c
kept_join a b c p q = record {
  long = q.long ∙ p.long;
  more = omega (arith, p.more, q.more);
  same = λ f h. let e = p.same f h in q.same f (omega (arith, e, p.more)) ∙ e;
  back = λ f h. let e = q.back f (omega (arith, p.more)) in p.back f (omega arith) ∙ e;
  list = λ j jl. q.list j (omega (arith, p.more)) ∙ p.list j jl;
}

-- one more edge released
pub released_more : (outs : List Edge) (i : ℕ) (was waits : List ℕ) → i < length outs → length waits ≡ length was → (get_or outs i no_edge).to < length was → 0 < get_or waits (get_or outs i no_edge).to 0
    → ((t : ℕ) → t < length was → get_or waits t 0 + count_to (take i outs) t ≡ get_or was t 0)
    → (t : ℕ) → t < length was → get_or (set waits (get_or outs i no_edge).to (get_or waits (get_or outs i no_edge).to 0 - 1)) t 0 + count_to (take (i + 1) outs) t ≡ get_or was t 0
released_more outs i was waits lt long yl pos inv t tl = grind (arith, common_steps, inv t tl)

-- the target of the next edge still waits
pub released_room : (outs : List Edge) (i : ℕ) (was waits : List ℕ) → i < length outs → (get_or outs i no_edge).to < length was
    → ((t : ℕ) → t < length was → count_to outs t ≤ get_or was t 0)
    → ((t : ℕ) → t < length was → get_or waits t 0 + count_to (take i outs) t ≡ get_or was t 0)
    → 0 < get_or waits (get_or outs i no_edge).to 0
released_room outs i was waits lt yl due inv =
    let y = (get_or outs i no_edge).to in
    let p : Edge → Bool = λ e. eqb e.to y in
    omega (arith, due y yl, inv y yl, count_by_more_yes p outs i no_edge lt (eq-eqb y y refl), sum_by-take-le (λ (e : Edge). cond (p e) 1 0) outs (i + 1))

-- one more edge counted; w is the count at its target
pub inputs_more : (es : List Edge) (i n : ℕ) (waits : List ℕ) (w : ℕ) → i < length es → (get_or es i no_edge).to < n → length waits ≡ n → w ≡ get_or waits (get_or es i no_edge).to w
    → ((t : ℕ) → t < n → get_or waits t 0 ≡ count_to (take i es) t + 1)
    → (length (set waits (get_or es i no_edge).to (w + 1)) ≡ n) × ((t : ℕ) → t < n → get_or (set waits (get_or es i no_edge).to (w + 1)) t 0 ≡ count_to (take (i + 1) es) t + 1)
inputs_more es i n waits w lt yl long here inv = (length-set waits (get_or es i no_edge).to (w + 1) ∙ long, λ t tl. grind (arith, common_steps, inv t tl))

all_busy : (xs : List ℕ) → ((k : ℕ) → k < length xs → 0 < get_or xs k 0) → count_by (λ w. ltb 0 w) xs ≡ length xs
all_busy [] h = refl
all_busy (x ∷ xs) h = omega (arith, sum_by-cons busy x xs, ap one_if (lt-ltb 0 x (h 0 (omega arith))), all_busy xs (λ k lt. h (suc k) (omega arith)))

pub shape_none : (waits rank order : List ℕ) (n : ℕ) → length waits ≡ n → rank ≡ replicate n n → order ≡ replicate n 0 → ((t : ℕ) → t < n → 0 < get_or waits t 0) → Shape waits rank order 0
shape_none waits rank order n long r o pos = record {
  ranks = ap length r ∙ length-replicate n n ∙ sym long;
  orders = ap length o ∙ length-replicate n 0 ∙ sym long;
  idle = λ t p. elim (cases_lt t n) [ inl tl ↦ ap (λ (xs : List ℕ). get_or xs t 0) r ∙ get_or-replicate n t n 0 tl ∙ sym long | inr ge ↦ absurd (omega (arith, get_or_past waits t 0 (omega arith))) ];
  placed = λ t tl z. absurd (omega (arith, pos t (omega arith)));
  filled = λ j jl. absurd (omega arith);
  count = omega (arith, all_busy waits (λ t tl. pos t (omega arith)));
}
