use Rattle.std.proofs.Common.{◌≡◌, ℕ, ◌+◌, max, ap, rules, arith}
use Rattle.std.specs.List.{fold}
use Rattle.scans.specs.Scans.{largest_in}
use Rattle.edges.specs.declared.edge.Edge.{Edge}
use Rattle.graphs.specs.Graphs.{model_of, tasks_of, edges_of}
use Rattle.levels.proofs.Largest.{fold_largest}
use Rattle.steps.specs.Seats.{end_of, t_level_of}
use Rattle.steps.proofs.Seats.{t_level_of_is, t_level_of_under}
use Rattle.steps.proofs.desk.Desk.t_level.Goals as goal

pub returns : goal.returns
returns g c =
    let s = c.args.self.now in
    let m = model_of s.graph.now in
    let arrives = g.L.Link.arrives c.args.link.now in
    let f : Edge → ℕ = λ (e : Edge). end_of m s.seats e.from + arrives 0 0 1 e.amount in
    let folded : c.fold.result ≡ fold (λ n e. max n (f e)) 0 c.inputs.result.now = search rules in
    let is : c.fold.result ≡ t_level_of arrives m s.seats c.args.t =
    omega (arith, folded, fold_largest f 0 c.inputs.result.now, ap (largest_in f) c.inputs.ensures.is, t_level_of_is (tasks_of s.graph.now) (edges_of s.graph.now) arrives s.seats c.args.t) in
    record { is = is; low = omega (arith, is, t_level_of_under m s.seats arrives (g.met.L.Link.lawful c.args.link.now) s.early c.args.t) }
