use Rattle.std.proofs.Common.{rules, ◌<◌, length, ◌∙◌, arith}
use Rattle.std.proofs.lemmas.List.{length-set}
use Rattle.graphs.specs.Graphs.{model_of}
use Rattle.steps.proofs.Places.{early_more, opens_more, frees_more, uses_more}
use Rattle.steps.proofs.desk.Desk.put.Goals as goal

pub invariant_of-self : goal.invariant_of-self
invariant_of-self c =
    let s = c.args.self.now in
    let g = model_of s.graph.now in
    let t = c.args.t in
    let r = c.args.row in
    let may = c.requires.may in
    let here : t < length s.seats = omega (arith, s.sized, c.requires.table) in
    record {
      sized = length-set _ _ _ ∙ s.sized;
      wide = length-set _ _ _ ∙ s.wide;
      early = early_more g s.seats t r here s.early may.early;
      opens = opens_more g s.seats t r here may.task may.unplaced s.lanes _ s.wide may.worker (search rules) s.opens;
      frees = frees_more g s.seats t r here may.task may.unplaced s.lanes _ s.wide may.worker (omega (arith, c.max.ensures, c.free.ensures, c.time.ensures.is)) s.frees;
      uses = uses_more g s.seats t r here may.task may.unplaced s.lanes _ s.wide may.worker (omega (arith, c.used.ensures.is, c.size.ensures.is)) s.uses;
    }
