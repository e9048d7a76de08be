use Rattle.std.proofs.Common.{rules, tests}
use Rattle.std.proofs.lemmas.Iterator.{first_from_Range}
use Rattle.graphs.specs.Graphs.{model_of}
use Rattle.plans.specs.Jobs.{unlinked}
use Rattle.plans.specs.Rules.{Roomy, used}
use Rattle.plans.proofs.Finds.{found_by}
use Rattle.plans.proofs.types.Plan.overfull.Goals as goal

pub returns : goal.returns
unfolding used
returns c =
    let j = unlinked (model_of c.args.self.now.graph.now) c.args.self.now.rows.now c.args.limits.workers c.args.limits.memory in
    found_by (Roomy j) _ _ (first_from_Range _ _ _ _ (λ w. Roomy j w → ⊥) (Roomy j) c.find.ensures.ran (λ x q k. search (rules, tests)) (λ x q k. search (rules, tests)))
