use Rattle.std.proofs.Common.{Bool, sym, refl, ap, ◌∙◌, rules}
use Rattle.std.proofs.lemmas.List.Recursion.{or_is}
use Rattle.scans.specs.Scans.{some_in}
use Rattle.edges.specs.declared.edge.Edge.{Edge}
use Rattle.edges.specs.Edges.{no_edge}
use Rattle.graphs.specs.Graphs.{tasks_of, edges_of}
use Rattle.steps.specs.Seats.{at, sits}
use Rattle.steps.proofs.Seats.{holds_is}
use Rattle.steps.proofs.desk.Desk.holds.Goals as goal

pub returns : goal.returns
returns c =
    let s = c.args.self.now in
    let p : Edge → Bool = λ (e : Edge). sits (at s.seats e.from) c.args.w in
    or_is (some_in p) p refl (λ _ _. refl) c.inputs.result.now no_edge _ (search rules) (search rules)
    ∙ ap (some_in p) c.inputs.ensures.is
    ∙ sym (holds_is (tasks_of s.graph.now) (edges_of s.graph.now) s.seats c.args.t c.args.w)
