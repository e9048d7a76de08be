use Rattle.std.proofs.Common.{false, not, get_or}
use Rattle.graphs.specs.Graphs.{model_of}
use Rattle.planner.specs.Turns.{rank}
use Rattle.planner.specs.Queues.{Waiting}
use Rattle.planner.proofs.Queues.{woken}
use Rattle.planner.proofs.queue.admit.Given as goal

abbrev pub invariant-loop-u : goal.invariant-loop-u
invariant-loop-u g l =
    let m = model_of l.desk.graph.now in
    Waiting (woken m l.desk.seats (λ v. not (get_or l.marks v false)) l.u) (rank l.planner.policy (g.L.Link.arrives l.planner.link.now) m l.desk.seats) m.tasks l.queue
