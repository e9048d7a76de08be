-- Cycles of edges, the tasks that lie on one or after one, and what they mean for an order.
use Rattle.std.specs.Prelude.{◌≡◌, ℕ, zero, suc, ◌<◌, ◌≤◌, true, List, length, Ok, Err, Result, slice_index_or}
use Rattle.edges.specs.declared.edge.Edge.{Edge}
use Rattle.edges.specs.Edges.{no_edge}
use Rattle.orders.specs.declared.order.Order.{Order}
use Rattle.orders.specs.declared.order.OrderFault.{OrderFault}
use Rattle.orders.specs.declared.order.OrderFault.TheVariants.{Memory, Cycle}
use Rattle.orders.specs.Orders.{stuck}

-- an edge leads from a to b
abbrev pub Leads : List Edge → ℕ → ℕ → Type 0
Leads es a b = (k : ℕ) × (k < length es) × ((slice_index_or es k no_edge).from ≡ a) × ((slice_index_or es k no_edge).to ≡ b)

-- a way of k edges leads from a to b
abbrev pub Way : List Edge → ℕ → ℕ → ℕ → Type 0
Way es zero a b = a ≡ b
Way es (suc k) a b = (x : ℕ) × Leads es x b × Way es k a x

-- t lies on a cycle, or a way leads to it from a task c that does
abbrev pub AfterCycle : List Edge → ℕ → Type 0
AfterCycle es t = (c k l : ℕ) × Way es (suc k) c c × Way es l c t

-- the stuck tasks are those on a cycle or after one
pub record StuckLaw (es : List Edge) (n : ℕ) : Type 0 where
  pub only : (t : ℕ) → t < n → stuck es n t ≡ true → AfterCycle es t
  pub each : (t : ℕ) → AfterCycle es t → stuck es n t ≡ true

-- t is the lowest task on a cycle or after one; and however the tasks are ranked, an edge does not go to a greater rank
pub record Cyclic (es : List Edge) (t : ℕ) : Type 0 where
  pub place : AfterCycle es t
  pub lower : (u : ℕ) → u < t → AfterCycle es u → ⊥
  pub backward : (rank : ℕ → ℕ) → (k : ℕ) × (k < length es) × (rank (slice_index_or es k no_edge).to ≤ rank (slice_index_or es k no_edge).from)

-- where there is an order there is no cycle, and a cycle rules out each order
abbrev pub CycleLaw : List Edge → Result Order OrderFault → Type 0
CycleLaw es (Ok o) = (t : ℕ) → AfterCycle es t → ⊥
CycleLaw es (Err Memory) = Unit {0}
CycleLaw es (Err (Cycle t)) = Cyclic es t
