use Rattle.std.proofs.Common.{arith}
use Rattle.graphs.specs.Graphs.{model_of}
use Rattle.steps.proofs.Seats.{start_under}
use Rattle.steps.proofs.desk.Desk.seat_within.Goals as goal

pub overflow_add-start : goal.overflow_add-start
overflow_add-start g c =
    let s = c.args.self.now in
    omega (arith, c.start_on-start.ensures, c.time.ensures.low, start_under (model_of s.graph.now) s.seats (g.L.Link.arrives c.args.link.now) (g.met.L.Link.lawful c.args.link.now) s.early c.args.t c.in-Some.worker)
