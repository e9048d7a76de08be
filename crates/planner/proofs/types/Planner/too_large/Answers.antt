use Rattle.std.proofs.Common.{false, true, length, ap, ltb, ◌∙◌, ◌≡◌, ℕ, Bool, rules, tests}
use Rattle.std.proofs.lemmas.Iterator.{first_from_Range}
use Rattle.graphs.specs.Graphs.{model_of}
use Rattle.scans.specs.Scans.{lowest}
use Rattle.scans.proofs.Chains.{lowest_by_find}
use Rattle.planner.proofs.types.Planner.too_large.Goals as goal

pub returns : goal.returns
returns g c =
    let m = model_of c.args.graph.now in
    let test : ℕ → Bool = λ u. ltb c.args.self.now.limits.memory (m.size u) in
    lowest_by_find test _ _ (first_from_Range _ _ _ _ (λ t. test t ≡ true) (λ t. test t ≡ false) c.find.ensures.ran (λ x q k. search (rules, tests)) (λ x q k. search (rules, tests)))
    ∙ ap (lowest test) (ap length c.tasks.ensures.is)
