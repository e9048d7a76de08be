-- The four numbers of a graph's fault, and of a name's.
use Rattle.faults.specs.declared.Fault.{Fault}
use Rattle.faults.specs.Faults.{told}
use Rattle.records.specs.Faults.{record_tells}
use Rattle.orders.specs.declared.order.OrderFault.{OrderFault}
use Rattle.orders.specs.declared.order.OrderFault.TheVariants as order
use Rattle.graphs.specs.declared.fault.GraphFault.{GraphFault}
use Rattle.graphs.specs.declared.fault.GraphFault.TheVariants.{InRecord, Repeated, Cycle, Memory}
use Rattle.graphs.specs.declared.fault.NameFault.{NameFault}
use Rattle.graphs.specs.declared.fault.NameFault.TheVariants.{InGraph, NoTask}

-- want of memory is no fault of the file, and has no number of its own
abbrev pub graph_tells : GraphFault → Fault
graph_tells (InRecord c) = record_tells c.fault c.«record»
graph_tells (Repeated place) = told 7 3 place 0
graph_tells (Cycle task) = told 9 3 task 0
graph_tells Memory = told 0 3 0 0

abbrev pub name_tells : NameFault → Fault
name_tells (InGraph fault) = graph_tells fault
name_tells (NoTask task) = told 21 5 task 0

abbrev pub of_order : OrderFault → GraphFault
of_order order.Memory = Memory
of_order (order.Cycle task) = Cycle task
