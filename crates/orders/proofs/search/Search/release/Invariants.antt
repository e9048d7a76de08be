use Rattle.std.proofs.Common.{◌≡◌, ℕ, ◌+◌, ◌<◌, length, get_or, take, vec_items}
use Rattle.orders.specs.Searches.{count_to}
use Rattle.orders.specs.Turns.{Kept}
use Rattle.orders.proofs.search.Search.release.Given as goal

abbrev pub invariant-loop-e : goal.invariant-loop-e
invariant-loop-e l = Kept l.initial.self l.self
    × ((t : ℕ) → t < length (vec_items l.initial.self.waits) → get_or (vec_items l.self.waits) t 0 + count_to (take l.e-index l.outs) t ≡ get_or (vec_items l.initial.self.waits) t 0)
