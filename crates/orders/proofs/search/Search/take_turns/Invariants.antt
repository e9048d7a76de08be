use Rattle.std.proofs.Common.{◌-◌}
use Rattle.edges.specs.Tables.{listed}
use Rattle.orders.specs.Turns.{Going}
use Rattle.orders.proofs.search.Search.take_turns.Given as goal

abbrev pub invariant-loop-head : goal.invariant-loop-head
invariant-loop-head l = Going (listed l.table) l.table.tasks l.self l.head

abbrev pub decreases-loop-head : goal.decreases-loop-head
decreases-loop-head l = l.table.tasks - l.head
