-- What the search for an order answers.
use Rattle.std.specs.Prelude.{◌≡◌, ℕ, List, Some, None, Ok, Err, vec_items, Result}
use Rattle.scans.specs.Scans.{lowest}
use Rattle.edges.specs.declared.edge.Edge.{Edge}
use Rattle.orders.specs.declared.order.Order.{Order}
use Rattle.orders.specs.declared.order.OrderFault.{OrderFault}
use Rattle.orders.specs.declared.order.OrderFault.TheVariants.{Memory, Cycle}
use Rattle.orders.specs.Orders.{stuck, Ordered}

-- an order, and then no task is stuck; or the lowest stuck task; for want of memory nothing is said
abbrev pub Answered : List Edge → ℕ → Result Order OrderFault → Type 0
Answered es n (Ok o) = Ordered es n (vec_items o.rank) (vec_items o.order) × (lowest (stuck es n) n ≡ None)
Answered es n (Err Memory) = Unit {0}
Answered es n (Err (Cycle t)) = lowest (stuck es n) n ≡ Some t
