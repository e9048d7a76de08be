-- Scans over the numbers below n, and over a list: the largest, the sum, whether some or every one passes, the lowest that passes.
use Rattle.std.specs.Prelude.{ℕ, zero, suc, ◌+◌, max, Bool, true, false, ◌&&◌, ◌||◌, List, [], ◌∷◌, Some, None, Option}

-- the largest of what f says below n, or 0
abbrev pub largest : (ℕ → ℕ) → ℕ → ℕ
largest f zero = 0
largest f (suc n) = max (largest f n) (f n)

abbrev pub total : (ℕ → ℕ) → ℕ → ℕ
total f zero = 0
total f (suc n) = total f n + f n

abbrev pub some : (ℕ → Bool) → ℕ → Bool
some p zero = false
some p (suc n) = some p n || p n

abbrev pub every : (ℕ → Bool) → ℕ → Bool
every p zero = true
every p (suc n) = every p n && p n

abbrev pub or_else : Option ℕ → Bool → ℕ → Option ℕ
or_else (Some k) b n = Some k
or_else None true n = Some n
or_else None false n = None

-- the lowest number below n that passes, or none
abbrev pub lowest : (ℕ → Bool) → ℕ → Option ℕ
lowest p zero = None
lowest p (suc n) = or_else (lowest p n) (p n) n

-- the same over the elements of a list
abbrev pub largest_in : {X : Type 0} → (X → ℕ) → List X → ℕ
largest_in f [] = 0
largest_in f (x ∷ l) = max (f x) (largest_in f l)

abbrev pub some_in : {X : Type 0} → (X → Bool) → List X → Bool
some_in p [] = false
some_in p (x ∷ l) = p x || some_in p l

abbrev pub every_in : {X : Type 0} → (X → Bool) → List X → Bool
every_in p [] = true
every_in p (x ∷ l) = p x && every_in p l
