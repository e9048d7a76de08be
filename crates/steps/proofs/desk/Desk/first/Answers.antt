use Rattle.std.proofs.Common.{rules}
use Rattle.scans.specs.Bids.{bids, best}
use Rattle.graphs.specs.Graphs.{model_of}
use Rattle.steps.specs.Seats.{start_on_worker}
use Rattle.steps.specs.Steps.{near_by}
use Rattle.steps.proofs.desk.Desk.first.Goals as goal

pub returns : goal.returns
unfolding best
returns g c =
    let s = c.args.self.now in
    let m = model_of s.graph.now in
    c.best.ensures (λ w. bids (near_by c.args.limits.memory c.args.level (g.L.Link.arrives c.args.link.now) m s.seats c.args.t w) (start_on_worker (g.L.Link.arrives c.args.link.now) m s.seats c.args.t w)) (λ w r k. search rules)
