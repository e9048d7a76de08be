use Rattle.std.proofs.Common.{sym, ◌∙◌, arith}
use Rattle.graphs.specs.Graphs.{model_of}
use Rattle.steps.proofs.Places.{placeable_law}
use Rattle.steps.proofs.desk.Desk.place.Goals as goal

pub put-requires : goal.put-requires
put-requires c =
    let s = c.args.self.now in
    let p = (placeable_law (model_of s.graph.now) s.seats c.args.t c.args.row).0 (sym c.may_place.ensures ∙ c.if-not-may_place.false) in
    record { table = omega (arith, p.task, s.graph.now.few.0); may = p }

pub returns-then-not-may_place-clause-words : goal.returns-then-not-may_place-clause-words
returns-then-not-may_place-clause-words c =
    let s = c.args.self.now in
    let law = placeable_law (model_of s.graph.now) s.seats c.args.t c.args.row in
    rw (sym c.may_place.ensures ∙ c.if-not-may_place.true) at law

pub returns-clause-words : goal.returns-clause-words
returns-clause-words c =
    let s = c.args.self.now in
    let law = placeable_law (model_of s.graph.now) s.seats c.args.t c.args.row in
    rw (sym c.may_place.ensures ∙ c.if-not-may_place.false) at law
