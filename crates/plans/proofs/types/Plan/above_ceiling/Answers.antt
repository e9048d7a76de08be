use Rattle.std.proofs.Common.{rules, tests}
use Rattle.std.proofs.lemmas.Iterator.{first_from_Range}
use Rattle.plans.specs.Jobs.{placing}
use Rattle.plans.specs.Rules.{InTime}
use Rattle.plans.proofs.Finds.{found_task}
use Rattle.plans.proofs.Tests.{says_in_time, found_is}
use Rattle.plans.proofs.types.Plan.above_ceiling.Goals as goal

pub returns : goal.returns
returns c =
    let j = placing c.args.self.now in
    let h = first_from_Range _ _ _ _ (λ t. InTime j t → ⊥) (InTime j) c.find.ensures.ran (λ x q k. search (rules, tests)) (λ x q k. search (rules, tests)) in
    let found = found_task (InTime j) c.args.self.now.graph.now _ _ c.tasks.ensures.is h in
    record { is = found_is (says_in_time j) j.graph.tasks _ found; found = found }
