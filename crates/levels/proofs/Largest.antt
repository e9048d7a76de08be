-- A fold that keeps the larger is the largest of the list.
use Rattle.std.proofs.Common.{◌≡◌, ℕ, ◌≤◌, max, List, [], ◌∷◌, arith}
use Rattle.std.specs.List.{fold}
use Rattle.scans.specs.Scans.{largest_in}

module _ {X : Type 0} (f : X → ℕ) where
  pub fold_largest : (n : ℕ) (xs : List X) → fold (λ m x. max m (f x)) n xs ≡ max n (largest_in f xs)
  fold_largest n [] = omega arith
  fold_largest n (x ∷ xs) = omega (arith, fold_largest (max n (f x)) xs)

  pub largest_in_under : (n : ℕ) → ((x : X) → f x ≤ n) → (xs : List X) → largest_in f xs ≤ n
  largest_in_under n low [] = omega arith
  largest_in_under n low (x ∷ xs) = omega (arith, low x, largest_in_under n low xs)
