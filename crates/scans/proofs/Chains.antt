-- What the last call of a chain of iterators answers, as a scan.
use Rattle.std.proofs.Common.{◌≡◌, ℕ, ◌+◌, ◌-◌, ◌<◌, ◌≤◌, max, Bool, true, false, List, [], ◌∷◌, length, get_or, Some, None, Option, sym, ap, ◌∙◌, subst, arith}
use Rattle.std.specs.Bool.{MatchBool}
use Rattle.std.specs.List.{fold, range_with_len, AllWithin, HoldsAt}
use Rattle.std.specs.Option.{MatchOption}
use Rattle.std.proofs.lemmas.List.FromFn.{length-range_with_len, get_or-range_with_len}
use Rattle.scans.specs.Scans.{largest, lowest, largest_in, some_in, every_in}
use Rattle.scans.proofs.Scans.{largest_same, lowest_none, lowest_is}
use Rattle.scans.proofs.Lists.{largest_whole, some_in_one, some_in_none, every_in_not, every_in_all}

-- the largest of what f says of the elements of a list, or 0
from_first : {X : Type 0} (f : X → ℕ) (a : ℕ) (xs : List X) → fold (λ b x. max b (f x)) a xs ≡ max a (largest_in f xs)
from_first f a [] = omega arith
from_first f a (x ∷ xs) = omega (arith, from_first f (max a (f x)) xs)

pub largest_in_by_fold : {X : Type 0} (f : X → ℕ) (xs : List X) → fold (λ b x. max b (f x)) 0 xs ≡ largest_in f xs
largest_in_by_fold f xs = omega (arith, from_first f 0 xs)

-- the same over the numbers below n
largest_in_range : (f : ℕ → ℕ) (n : ℕ) → largest_in f (range_with_len 0 n) ≡ largest f n
largest_in_range f n =
    let ns = range_with_len 0 n in
    let l : length ns ≡ n = length-range_with_len 0 n in
    let same : (k : ℕ) → k < n → f (get_or ns k 0) ≡ f k = λ k h. ap f (omega (arith, get_or-range_with_len 0 n k 0 h)) in
    sym (largest_whole f ns 0) ∙ ap (largest (λ k. f (get_or ns k 0))) l ∙ largest_same _ f n same

pub largest_by_fold : (f : ℕ → ℕ) (n : ℕ) → fold (λ b k. max b (f k)) 0 (range_with_len 0 n) ≡ largest f n
largest_by_fold f n = largest_in_by_fold f (range_with_len 0 n) ∙ largest_in_range f n

-- the lowest number that passes is the first that a search of the numbers from 0 up finds
pub lowest_by_find : (p : ℕ → Bool) (n : ℕ) (r : Option ℕ) → MatchOption r ((k : ℕ) → 0 ≤ k → k < n → p k ≡ false) (λ t. (0 ≤ t) × (t < n) × (p t ≡ true) × ((k : ℕ) → 0 ≤ k → k < t → p k ≡ false)) → r ≡ lowest p n
lowest_by_find p n None h = sym (lowest_none p n (λ k l. h k (omega arith) l))
lowest_by_find p n (Some t) h = sym (lowest_is p n t h.1 (λ k l. h.3 k (omega arith) l) h.2)

-- whether all numbers from a up to b pass, or one does not
pub each_by_all : (Yes No : ℕ → Type 0) (a n : ℕ) (r : Bool) → MatchBool r (AllWithin Yes (range_with_len a n) 0 (length (range_with_len a n))) ((k : ℕ) × (k < length (range_with_len a n)) × HoldsAt No (range_with_len a n) k) → MatchBool r ((k : ℕ) → a ≤ k → k < a + n → Yes k) ((k : ℕ) × (a ≤ k) × (k < a + n) × No k)
each_by_all Yes No a n true h = λ k low high.
    let i = k - a in
    let e : get_or (range_with_len a n) i 0 ≡ k = omega (arith, get_or-range_with_len a n i 0 (omega arith)) in
    subst Yes e (h i 0 (omega arith) (omega (arith, length-range_with_len a n)))
each_by_all Yes No a n false h =
    let l : h.0 < n = omega (arith, length-range_with_len a n, h.1) in
    (a + h.0, omega arith, omega arith, subst No (get_or-range_with_len a n h.0 0 l) (h.2 0))

-- whether all elements of a list pass, or some do
pub every_by_all : {X : Type 0} (p : X → Bool) (xs : List X) (r : Bool) → MatchBool r (AllWithin (λ x. p x ≡ true) xs 0 (length xs)) ((k : ℕ) × (k < length xs) × HoldsAt (λ x. p x ≡ false) xs k) → r ≡ every_in p xs
every_by_all p xs true h = sym (every_in_all p xs (λ k d l. h k d (omega arith) l))
every_by_all p [] false h = absurd (omega (arith, h.1))
every_by_all p (x ∷ l) false h = sym (every_in_not p (x ∷ l) h.0 x h.1 (h.2 x))

pub some_by_any : {X : Type 0} (p : X → Bool) (xs : List X) (r : Bool) → MatchBool r ((k : ℕ) × (k < length xs) × HoldsAt (λ x. p x ≡ true) xs k) (AllWithin (λ x. p x ≡ false) xs 0 (length xs)) → r ≡ some_in p xs
some_by_any p xs false h = sym (some_in_none p xs (λ k d l. h k d (omega arith) l))
some_by_any p [] true h = absurd (omega (arith, h.1))
some_by_any p (x ∷ l) true h = sym (some_in_one p (x ∷ l) h.0 x h.1 (h.2 x))
