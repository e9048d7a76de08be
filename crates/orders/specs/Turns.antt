-- What holds at each turn of the search for an order.
use Rattle.std.specs.Prelude.{◌≡◌, ℕ, ◌+◌, ◌<◌, ◌≤◌, List, length, vec_items, slice_index, slice_index_or}
use Rattle.edges.specs.declared.edge.Edge.{Edge}
use Rattle.edges.specs.Edges.{no_edge}
use Rattle.orders.specs.declared.search.Search.{Search}
use Rattle.orders.specs.Searches.{count_to, count_from}

-- the tasks are as many as they were, and the first tail places, and the ranks below tail, are as they were
pub record Kept (old new : Search) : Type 0 where
  pub long : length (vec_items new.waits) ≡ length (vec_items old.waits)
  pub more : old.tail ≤ new.tail
  pub same : (f : ℕ) → slice_index (vec_items old.rank) f < old.tail → slice_index (vec_items new.rank) f ≡ slice_index (vec_items old.rank) f
  pub back : (f : ℕ) → slice_index (vec_items new.rank) f < old.tail → slice_index (vec_items old.rank) f ≡ slice_index (vec_items new.rank) f
  pub list : (j : ℕ) → j < old.tail → slice_index (vec_items new.order) j ≡ slice_index (vec_items old.order) j

-- each of n tasks waits for the edges that lead to it, and for one thing more: its own turn
pub record Fresh (es : List Edge) (n : ℕ) (s : Search) : Type 0 where
  pub long : length (vec_items s.waits) ≡ n
  pub waiting : (t : ℕ) → t < n → slice_index (vec_items s.waits) t ≡ count_to es t + 1

-- of n tasks, the first head of the order are taken up: each task waits for the edges to it from the others
pub record Going (es : List Edge) (n : ℕ) (s : Search) (head : ℕ) : Type 0 where
  pub long : length (vec_items s.waits) ≡ n
  pub behind : head ≤ s.tail
  pub waiting : (t : ℕ) → t < n → slice_index (vec_items s.waits) t ≡ count_from head (vec_items s.rank) es t
  pub forward : (k : ℕ) → k < length es → slice_index (vec_items s.rank) (slice_index_or es k no_edge).to < head → slice_index (vec_items s.rank) (slice_index_or es k no_edge).from < slice_index (vec_items s.rank) (slice_index_or es k no_edge).to

-- each task of the order is taken up
abbrev pub Finished : List Edge → ℕ → Search → Type 0
Finished es n s = Going es n s s.tail
