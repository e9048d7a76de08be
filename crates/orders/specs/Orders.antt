-- What an order of the tasks is, and which tasks no order can have.
use Rattle.std.specs.Prelude.{◌≡◌, ℕ, zero, suc, ◌<◌, Bool, true, ◌&&◌, List, length, ◌==◌, slice_index, slice_index_or}
use Rattle.scans.specs.Scans.{some_in}
use Rattle.edges.specs.declared.edge.Edge.{Edge}
use Rattle.edges.specs.Edges.{no_edge}

-- order has each task below n once, at its rank, and each edge goes to a greater rank
pub record Ordered (es : List Edge) (n : ℕ) (rank order : List ℕ) : Type 0 where
  pub sized : (length rank ≡ n) × (length order ≡ n)
  pub ranked : (t : ℕ) → t < n → (slice_index rank t < n) × (slice_index order (slice_index rank t) ≡ t)
  pub places : (j : ℕ) → j < n → (slice_index order j < n) × (slice_index rank (slice_index order j) ≡ j)
  pub forward : (k : ℕ) → k < length es → slice_index rank (slice_index_or es k no_edge).from < slice_index rank (slice_index_or es k no_edge).to

-- some way of k edges leads to t; with k the number of tasks, t is stuck: such a way passes a task twice
unfoldable pub stuck : List Edge → ℕ → ℕ → Bool
stuck es zero t = true
stuck es (suc k) t = some_in (λ e. (e.to == t) && stuck es k e.from) es
