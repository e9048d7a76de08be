use Rattle.std.proofs.Common.{◌≡◌, ℕ, max, ap, rules, arith}
use Rattle.std.specs.List.{fold}
use Rattle.scans.specs.Scans.{largest_in}
use Rattle.edges.specs.declared.edge.Edge.{Edge}
use Rattle.graphs.specs.Graphs.{model_of, tasks_of, edges_of}
use Rattle.levels.proofs.Largest.{fold_largest}
use Rattle.steps.specs.Seats.{reach}
use Rattle.steps.proofs.Seats.{start_on_worker_is}
use Rattle.steps.proofs.desk.Desk.start_on.Goals as goal

pub returns : goal.returns
returns g c =
    let s = c.args.self.now in
    let arrives = g.L.Link.arrives c.args.link.now in
    let f : Edge → ℕ = λ (e : Edge). reach arrives (model_of s.graph.now) s.seats c.args.w e.from e.amount in
    let folded : c.fold.result ≡ fold (λ n e. max n (f e)) c.free.result c.inputs-inputs.result.now = search rules in
    omega (arith, folded, fold_largest f c.free.result c.inputs-inputs.result.now, c.free.ensures, ap (largest_in f) c.inputs-inputs.ensures.is, start_on_worker_is (tasks_of s.graph.now) (edges_of s.graph.now) arrives s.seats c.args.t c.args.w)
