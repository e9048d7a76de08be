use Rattle.std.proofs.Common.{max, length, refl, ap, ◌∙◌, arith, rules}
use Rattle.std.proofs.lemmas.Iterator.{YieldsList-from_range}
use Rattle.std.proofs.lemmas.Iterator.Consumers.{fold_from_yields_List}
use Rattle.graphs.specs.Graphs.{model_of, tasks_of}
use Rattle.scans.specs.Scans.{largest}
use Rattle.scans.proofs.Chains.{largest_by_fold}
use Rattle.steps.specs.Seats.{end_of}
use Rattle.planner.proofs.whole.latest.Goals as goal

pub returns : goal.returns
returns c =
    let d = c.args.desk.now in
    let end = end_of (model_of d.graph.now) d.seats in
    let n = length c.tasks-tasks.result.now in
    let ends = fold_from_yields_List _ (λ b t. max b (end t)) _ _ c.fold.ensures.ran (YieldsList-from_range 0 n n refl (omega arith)) (λ b t r q k. search rules) in
    ends ∙ largest_by_fold end n ∙ ap (largest end) (ap length (c.tasks-tasks.ensures.is ∙ ap tasks_of c.graph.ensures))
