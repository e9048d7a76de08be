use Rattle.std.proofs.Common.{rules}
use Rattle.scans.specs.Bids.{bids, best}
use Rattle.graphs.specs.Graphs.{model_of}
use Rattle.steps.specs.Seats.{free}
use Rattle.steps.specs.Steps.{roomy_by}
use Rattle.steps.proofs.desk.Desk.fourth.Goals as goal

pub returns : goal.returns
unfolding best
returns c =
    let s = c.args.self.now in
    let m = model_of s.graph.now in
    c.best.ensures (λ w. bids (roomy_by c.args.limits.memory m s.seats c.args.t w) (free m s.seats w)) (λ w r k. search rules)
