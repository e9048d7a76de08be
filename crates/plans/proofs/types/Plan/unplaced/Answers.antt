use Rattle.std.proofs.Common.{rules, tests}
use Rattle.std.proofs.lemmas.Iterator.{first_from_Range}
use Rattle.graphs.specs.Graphs.{model_of}
use Rattle.plans.specs.Jobs.{unlinked}
use Rattle.plans.specs.Rules.{Placed}
use Rattle.plans.proofs.Finds.{found_task}
use Rattle.plans.proofs.Tests.{says_placed, found_is}
use Rattle.plans.proofs.types.Plan.unplaced.Goals as goal

pub returns : goal.returns
returns c =
    let j = unlinked (model_of c.args.self.now.graph.now) c.args.self.now.rows.now c.args.workers 0 in
    let h = first_from_Range _ _ _ _ (λ t. Placed j t → ⊥) (Placed j) c.find.ensures.ran (λ x q k. search (rules, tests)) (λ x q k. search (rules, tests)) in
    let found = found_task (Placed j) c.args.self.now.graph.now _ _ c.tasks.ensures.is h in
    record { is = found_is (says_placed j) j.graph.tasks _ found; found = found }
