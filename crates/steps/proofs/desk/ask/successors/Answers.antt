use Rattle.std.proofs.Common.{false, eqb, sym, refl, ap, ◌∙◌, arith}
use Rattle.std.proofs.lemmas.List.{get_or-replicate, take_all}
use Rattle.scans.specs.Scans.{some_in}
use Rattle.edges.specs.declared.edge.Edge.{Edge}
use Rattle.graphs.specs.Graphs.{tasks_of, edges_of}
use Rattle.steps.proofs.Seats.{follows_is}
use Rattle.steps.proofs.desk.ask.successors.Goals as goal

pub loop-e-init : goal.loop-e-init
loop-e-init c = (refl, λ v l. get_or-replicate 512 v false false l)

pub returns : goal.returns
returns c = λ v l.
    c.loop-e.invariant.1 v l
    ∙ ap (some_in (λ (e : Edge). eqb e.to v)) (take_all c.loop-e.e-index c.outputs-outs.result.now (omega arith) ∙ c.outputs-outs.ensures.is)
    ∙ sym (follows_is (tasks_of c.args.graph.now) (edges_of c.args.graph.now) c.args.t v)
