-- The rows of a plan in a table that has more rows.
use Rattle.std.proofs.Common.{◌≡◌, ℕ, zero, suc, ◌+◌, List, [], ◌∷◌, ◌++◌, get_or, take, replicate, refl, ap}
use Rattle.std.proofs.lemmas.List.{get_or-take}
use Rattle.scans.proofs.Scans.{largest_same}
use Rattle.graphs.specs.Model.{TaskGraph}
use Rattle.plans.specs.declared.types.Row.{Row}
use Rattle.plans.specs.Jobs.{no_row, unlinked}
use Rattle.plans.specs.Rules.{latest}

get_d_empty : (m k : ℕ) → get_or (replicate m no_row) k no_row ≡ no_row
get_d_empty zero k = refl
get_d_empty (suc m) zero = refl
get_d_empty (suc m) (suc k) = get_d_empty m k

pub get_d_padded : (rs : List Row) (m k : ℕ) → get_or (rs ++ replicate m no_row) k no_row ≡ get_or rs k no_row
get_d_padded [] m k = get_d_empty m k
get_d_padded (r ∷ rs) m zero = refl
get_d_padded (r ∷ rs) m (suc k) = get_d_padded rs m k

module _ (g : TaskGraph) (rs : List Row) where
  -- rows of 0 after a plan change no end
  pub latest_padded : (m : ℕ) → latest (unlinked g (rs ++ replicate m no_row) 0 0) ≡ latest (unlinked g rs 0 0)
  unfolding latest
  latest_padded m = largest_same _ _ g.tasks (λ k _. ap (λ r. r.start + g.time k) (get_d_padded rs m k))

  -- and rows past the tasks tell nothing
  pub latest_take : latest (unlinked g (take g.tasks rs) 0 0) ≡ latest (unlinked g rs 0 0)
  unfolding latest
  latest_take = largest_same _ _ g.tasks (λ k h. ap (λ r. r.start + g.time k) (get_or-take g.tasks rs k no_row h))
