use Rattle.std.proofs.Common.{◌≡◌, true, false, not, sym, ap, ◌∙◌, rules, tests}
use Rattle.std.proofs.lemmas.Iterator.{cases_from_all, YieldsList-from_slice}
use Rattle.scans.proofs.Chains.{every_by_all}
use Rattle.edges.specs.Edges.{into}
use Rattle.graphs.specs.declared.graph.Graph.{Graph}
use Rattle.graphs.specs.Graphs.{tasks_of, edges_of}
use Rattle.planner.proofs.Ready.{brought, ready_unplaced, ready_placed}
use Rattle.planner.proofs.queue.is_ready.Goals as goal

pub returns-then-not-is_placed : goal.returns-then-not-is_placed
returns-then-not-is_placed c =
    let d = c.args.desk.now in
    let xs = c.inputs-inputs.result.now in
    let p = brought d.seats in
    let all = every_by_all p xs _ (cases_from_all _ _ _ (λ e. p e ≡ true) (λ e. p e ≡ false) c.all.ensures.ran (YieldsList-from_slice xs cc) (λ x q k. search (rules, tests)) (λ x q k. search (rules, tests))) in
    ready_unplaced (tasks_of d.graph.now) (edges_of d.graph.now) xs d.seats c.args.t _
    (c.inputs-inputs.ensures.is ∙ ap (λ (x : Graph). into (edges_of x) c.args.t) c.graph.ensures)
    (sym c.if-not-is_placed.ensures) all

pub returns-else-not-is_placed : goal.returns-else-not-is_placed
returns-else-not-is_placed c =
    let d = c.args.desk.now in
    ap not c.if-not-is_placed.false ∙ ready_placed (tasks_of d.graph.now) (edges_of d.graph.now) d.seats c.args.t (sym c.if-not-is_placed.ensures)
