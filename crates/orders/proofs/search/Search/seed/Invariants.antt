use Rattle.std.proofs.Common.{◌≡◌, ℕ, ◌+◌, ◌<◌, ◌≤◌, length, get_or, vec_items}
use Rattle.orders.proofs.search.Search.seed.Given as goal

abbrev pub invariant-loop-t : goal.invariant-loop-t
invariant-loop-t l = (length (vec_items l.self.waits) ≡ length (vec_items l.initial.self.waits))
    × ((t : ℕ) → t < l.t → get_or (vec_items l.self.waits) t 0 + 1 ≡ get_or (vec_items l.initial.self.waits) t 0)
    × ((t : ℕ) → l.t ≤ t → get_or (vec_items l.self.waits) t 0 ≡ get_or (vec_items l.initial.self.waits) t 0)
