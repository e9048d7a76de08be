-- Scans over a list: one turn of a loop, and the same scan over all places of the list, or over what a test keeps of it.
use Rattle.std.proofs.Common.{◌≡◌, ℕ, zero, suc, ◌+◌, ◌<◌, ◌≤◌, max, Bool, true, false, cond, not, ◌&&◌, ◌||◌, List, [], ◌∷◌, ◌++◌, length, get_or, take, filter, sym, refl, ap, ◌∙◌, inl, inr, add-one, arith}
use Rattle.std.proofs.lemmas.List.{take_more, take_all}
use Rattle.std.proofs.lemmas.Bool.{cases_Bool}
use Rattle.scans.specs.Scans.{largest, some, every, largest_in, some_in, every_in}
use Rattle.scans.proofs.Scans.{some_one, every_not}

or_assoc : (a b c : Bool) → ((a || b) || c) ≡ (a || (b || c))
or_assoc true b c = refl
or_assoc false b c = refl

or_false : (a : Bool) → (a || false) ≡ a
or_false true = refl
or_false false = refl

and_assoc : (a b c : Bool) → ((a && b) && c) ≡ (a && (b && c))
and_assoc true b c = refl
and_assoc false b c = refl

and_true : (a : Bool) → (a && true) ≡ a
and_true true = refl
and_true false = refl

module _ {X : Type 0} where
  largest_in_push : (f : X → ℕ) (l : List X) (x : X) → largest_in f (l ++ x ∷ []) ≡ max (largest_in f l) (f x)
  largest_in_push f [] x = omega arith
  largest_in_push f (y ∷ l) x = omega (arith, largest_in_push f l x)

  some_in_push : (p : X → Bool) (l : List X) (x : X) → some_in p (l ++ x ∷ []) ≡ (some_in p l || p x)
  some_in_push p [] x = or_false (p x)
  some_in_push p (y ∷ l) x = ap (λ (b : Bool). p y || b) (some_in_push p l x) ∙ sym (or_assoc (p y) (some_in p l) (p x))

  every_in_push : (p : X → Bool) (l : List X) (x : X) → every_in p (l ++ x ∷ []) ≡ (every_in p l && p x)
  every_in_push p [] x = and_true (p x)
  every_in_push p (y ∷ l) x = ap (λ (b : Bool). p y && b) (every_in_push p l x) ∙ sym (and_assoc (p y) (every_in p l) (p x))

  -- one turn of a loop over a list
  pub largest_in_more : (f : X → ℕ) (xs : List X) (i : ℕ) (d : X) → i < length xs → largest_in f (take (i + 1) xs) ≡ max (largest_in f (take i xs)) (f (get_or xs i d))
  largest_in_more f xs i d l = ap (largest_in f) (take_more xs i d l) ∙ largest_in_push f (take i xs) (get_or xs i d)

  pub some_in_more : (p : X → Bool) (xs : List X) (i : ℕ) (d : X) → i < length xs → some_in p (take (i + 1) xs) ≡ (some_in p (take i xs) || p (get_or xs i d))
  some_in_more p xs i d l = ap (some_in p) (take_more xs i d l) ∙ some_in_push p (take i xs) (get_or xs i d)

  pub every_in_more : (p : X → Bool) (xs : List X) (i : ℕ) (d : X) → i < length xs → every_in p (take (i + 1) xs) ≡ (every_in p (take i xs) && p (get_or xs i d))
  every_in_more p xs i d l = ap (every_in p) (take_more xs i d l) ∙ every_in_push p (take i xs) (get_or xs i d)

  -- a scan of the first n places is a scan of the first n elements
  largest_front : (f : X → ℕ) (xs : List X) (d : X) (n : ℕ) → n ≤ length xs → largest (λ k. f (get_or xs k d)) n ≡ largest_in f (take n xs)
  largest_front f xs d zero h = refl
  largest_front f xs d (suc n) h = let e = rw add-one at (largest_in_more f xs n d (omega arith)) in omega (arith, largest_front f xs d n (omega arith), e)

  pub largest_whole : (f : X → ℕ) (xs : List X) (d : X) → largest (λ k. f (get_or xs k d)) (length xs) ≡ largest_in f xs
  largest_whole f xs d = largest_front f xs d (length xs) (omega arith) ∙ ap (largest_in f) (take_all (length xs) xs (omega arith))

  some_front : (p : X → Bool) (xs : List X) (d : X) (n : ℕ) → n ≤ length xs → some (λ k. p (get_or xs k d)) n ≡ some_in p (take n xs)
  some_front p xs d zero h = refl
  some_front p xs d (suc n) h = let e = rw add-one at (some_in_more p xs n d (omega arith)) in ap (λ (b : Bool). b || p (get_or xs n d)) (some_front p xs d n (omega arith)) ∙ sym e

  every_front : (p : X → Bool) (xs : List X) (d : X) (n : ℕ) → n ≤ length xs → every (λ k. p (get_or xs k d)) n ≡ every_in p (take n xs)
  every_front p xs d zero h = refl
  every_front p xs d (suc n) h = let e = rw add-one at (every_in_more p xs n d (omega arith)) in ap (λ (b : Bool). b && p (get_or xs n d)) (every_front p xs d n (omega arith)) ∙ sym e

  -- a scan that passes over what a test refuses is a scan of what the test keeps
  largest_in_kept : (p : X → Bool) (f : X → ℕ) (xs : List X) → largest_in (λ x. cond (p x) (f x) 0) xs ≡ largest_in f (filter p xs)
  largest_in_kept p f [] = refl
  largest_in_kept p f (x ∷ xs) = let h = largest_in_kept p f xs in elim (cases_Bool (p x)) [ inl y ↦ simp y (omega arith) | inr n ↦ simp n (omega arith) ]

  some_in_kept : (p q : X → Bool) (xs : List X) → some_in (λ x. p x && q x) xs ≡ some_in q (filter p xs)
  some_in_kept p q [] = refl
  some_in_kept p q (x ∷ xs) = let h = some_in_kept p q xs in elim (cases_Bool (p x)) [ inl y ↦ simp (y, h) | inr n ↦ simp (n, h) ]

  every_in_kept : (p q : X → Bool) (xs : List X) → every_in (λ x. not (p x) || q x) xs ≡ every_in q (filter p xs)
  every_in_kept p q [] = refl
  every_in_kept p q (x ∷ xs) = let h = every_in_kept p q xs in elim (cases_Bool (p x)) [ inl y ↦ simp (y, h) | inr n ↦ simp (n, h) ]

  -- both together: a scan of all places, passing over what the test refuses, and a scan of what it keeps
  pub largest_kept : (p : X → Bool) (f : X → ℕ) (xs : List X) (d : X) → largest (λ k. cond (p (get_or xs k d)) (f (get_or xs k d)) 0) (length xs) ≡ largest_in f (filter p xs)
  largest_kept p f xs d = largest_front (λ x. cond (p x) (f x) 0) xs d (length xs) (omega arith) ∙ ap (largest_in (λ x. cond (p x) (f x) 0)) (take_all (length xs) xs (omega arith)) ∙ largest_in_kept p f xs

  pub some_kept : (p q : X → Bool) (xs : List X) (d : X) → some (λ k. p (get_or xs k d) && q (get_or xs k d)) (length xs) ≡ some_in q (filter p xs)
  some_kept p q xs d = some_front (λ x. p x && q x) xs d (length xs) (omega arith) ∙ ap (some_in (λ x. p x && q x)) (take_all (length xs) xs (omega arith)) ∙ some_in_kept p q xs

  pub every_kept : (p q : X → Bool) (xs : List X) (d : X) → every (λ k. not (p (get_or xs k d)) || q (get_or xs k d)) (length xs) ≡ every_in q (filter p xs)
  every_kept p q xs d = every_front (λ x. not (p x) || q x) xs d (length xs) (omega arith) ∙ ap (every_in (λ x. not (p x) || q x)) (take_all (length xs) xs (omega arith)) ∙ every_in_kept p q xs

  -- one element that passes, or fails, decides
  pub some_in_one : (p : X → Bool) (xs : List X) (i : ℕ) (d : X) → i < length xs → p (get_or xs i d) ≡ true → some_in p xs ≡ true
  some_in_one p xs i d l e = ap (some_in p) (sym (take_all (length xs) xs (omega arith))) ∙ sym (some_front p xs d (length xs) (omega arith)) ∙ some_one (λ k. p (get_or xs k d)) (length xs) i l e

  pub every_in_not : (p : X → Bool) (xs : List X) (i : ℕ) (d : X) → i < length xs → p (get_or xs i d) ≡ false → every_in p xs ≡ false
  every_in_not p xs i d l e = ap (every_in p) (sym (take_all (length xs) xs (omega arith))) ∙ sym (every_front p xs d (length xs) (omega arith)) ∙ every_not (λ k. p (get_or xs k d)) (length xs) i l e

  -- all elements pass, or none does
  pub every_in_all : (p : X → Bool) (xs : List X) → ((k : ℕ) (d : X) → k < length xs → p (get_or xs k d) ≡ true) → every_in p xs ≡ true
  every_in_all p [] h = refl
  every_in_all p (x ∷ l) h = simp (h 0 x (omega arith), every_in_all p l (λ k d m. h (suc k) d (omega arith)))

  pub some_in_none : (p : X → Bool) (xs : List X) → ((k : ℕ) (d : X) → k < length xs → p (get_or xs k d) ≡ false) → some_in p xs ≡ false
  some_in_none p [] h = refl
  some_in_none p (x ∷ l) h = simp (h 0 x (omega arith), some_in_none p l (λ k d m. h (suc k) d (omega arith)))
