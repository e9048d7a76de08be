-- How many inputs a task has at most, where no two edges join the same pair.
use Rattle.std.specs.Prelude.{ℕ, ◌<◌, ◌≤◌, List, length, ◌≢◌, slice_index_or}
use Rattle.edges.specs.declared.edge.Edge.{Edge}
use Rattle.edges.specs.Edges.{no_edge, into, Within}
use Rattle.orders.specs.PairSets.{Repeats}

-- no task has more inputs than there are tasks, and fewer if no edge leads back to its own source
pub record FewInputs : Type 0 where
  pub most : (es : List Edge) (n t : ℕ) → Within es n → ((j k : ℕ) → Repeats es j k → ⊥) → length (into es t) ≤ n
  pub less : (es : List Edge) (n t : ℕ) → Within es n → ((j k : ℕ) → Repeats es j k → ⊥) → ((k : ℕ) → k < length es → (slice_index_or es k no_edge).from ≢ (slice_index_or es k no_edge).to) → t < n → length (into es t) < n
