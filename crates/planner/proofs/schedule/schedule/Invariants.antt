use Rattle.std.proofs.Common.{◌≡◌, Ok}
use Rattle.graphs.specs.Graphs.{model_of}
use Rattle.planner.specs.Turns.{after}
use Rattle.planner.specs.States.{Going}
use Rattle.planner.proofs.schedule.schedule.Given as goal

abbrev pub invariant-loop-turn : goal.invariant-loop-turn
invariant-loop-turn g l =
    let m = model_of l.initial.desk.graph.now in
    let a = g.L.Link.arrives l.planner.link.now in
    (l.desk.graph.now ≡ l.initial.desk.graph.now) × (after l.planner.limits l.planner.policy a m l.turn ≡ Ok l.desk.seats) × Going l.planner.limits l.planner.policy a m l.desk.seats l.queue
