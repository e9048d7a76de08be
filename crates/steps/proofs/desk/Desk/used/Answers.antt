use Rattle.std.proofs.Common.{◌≡◌, rules, arith}
use Rattle.graphs.specs.Graphs.{model_of}
use Rattle.graphs.proofs.Sound.{sound}
use Rattle.steps.specs.Seats.{in_use}
use Rattle.steps.proofs.Seats.{in_use_under}
use Rattle.steps.proofs.desk.Desk.used.Goals as goal

pub returns : goal.returns
returns c =
    let s = c.args.self.now in
    let is : c.map_or.result ≡ in_use (model_of s.graph.now) s.seats c.args.w = search rules in
    record { is = is; low = omega (arith, is, in_use_under (model_of s.graph.now) s.seats (sound s.graph.now) c.args.w) }
