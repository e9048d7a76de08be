use Rattle.std.proofs.Common.{ℕ, Bool, false, not, ◌||◌, List, length, get_or, sym, ap, ◌∙◌, arith}
use Rattle.std.proofs.lemmas.Bool.{or_from, not_from_true}
use Rattle.scans.specs.Scans.{every_in}
use Rattle.scans.proofs.Scans.{every_all, every_not}
use Rattle.scans.proofs.Lists.{every_in_not}
use Rattle.edges.specs.declared.edge.Edge.{Edge}
use Rattle.edges.specs.Edges.{no_edge, out_of}
use Rattle.graphs.specs.Graphs.{tasks_of, edges_of}
use Rattle.graphs.proofs.Sound.{sound}
use Rattle.steps.specs.Seats.{Seats, at, sits, placed}
use Rattle.steps.proofs.Seats.{closed_is}
use Rattle.steps.proofs.desk.Desk.closed.Goals as goal

-- an output whose target is placed or marked, and a task all of whose outputs are such if it is on w
abbrev settles : Seats → List Bool → Edge → Bool
settles s marks e = placed s e.to || get_or marks e.to false

abbrev shuts : Seats → List Bool → ℕ → List Edge → ℕ → Bool
shuts s marks w es u = not (sits (at s u) w) || every_in (settles s marks) (out_of es u)

pub returns-after-search : goal.returns-after-search
returns-after-search c = λ t marked.
    let s = c.args.self.now in
    let ts = tasks_of s.graph.now in
    let es = edges_of s.graph.now in
    let marks = c.args.marks.now in
    c.search.invariant.0
    ∙ sym (closed_is ts es s.seats t c.args.w marks (sound s.graph.now).few (sound s.graph.now).known marked
    ∙ every_all (shuts s.seats marks c.args.w es) (length ts) (λ u l. c.search.invariant.1 u (omega (arith, ap length c.tasks-u-end.ensures.is))))

pub returns-then-not-is_settled : goal.returns-then-not-is_settled
returns-then-not-is_settled c = λ t marked.
    let s = c.args.self.now in
    let ts = tasks_of s.graph.now in
    let es = edges_of s.graph.now in
    let marks = c.args.marks.now in
    let off = ap (every_in (settles s.seats marks)) (sym c.outputs-outs.ensures.is) ∙ every_in_not (settles s.seats marks) c.outputs-outs.result.now c.loop-e.e-index no_edge (omega arith) (sym c.is_settled.ensures ∙ c.if-not-is_settled.true) in
    sym (closed_is ts es s.seats t c.args.w marks (sound s.graph.now).few (sound s.graph.now).known marked
    ∙ every_not (shuts s.seats marks c.args.w es) (length ts) c.search.u (omega (arith, ap length c.tasks-u-end.ensures.is))
    (or_from _ _ (not_from_true _ (sym c.sits.ensures ∙ c.if-not-sits.false)) off))
