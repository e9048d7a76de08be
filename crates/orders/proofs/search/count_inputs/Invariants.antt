use Rattle.std.proofs.Common.{◌≡◌, ℕ, ◌+◌, ◌<◌, length, get_or, take, vec_items}
use Rattle.orders.specs.Searches.{count_to}
use Rattle.orders.proofs.search.count_inputs.Given as goal

abbrev pub invariant-loop-e : goal.invariant-loop-e
invariant-loop-e l = (length (vec_items l.waits) ≡ l.tasks) × ((t : ℕ) → t < l.tasks → get_or (vec_items l.waits) t 0 ≡ count_to (take l.e-index l.edges) t + 1)
