use Rattle.std.proofs.Common.{◌+◌, ◌-◌, ◌^◌, min, max, length, ap, refl, ◌∙◌, arith, rules}
use Rattle.std.proofs.lemmas.Iterator.{YieldsList-from_range}
use Rattle.std.proofs.lemmas.Iterator.Consumers.{fold_from_yields_List}
use Rattle.scans.specs.Scans.{largest}
use Rattle.scans.proofs.Scans.{largest_cut, largest_under}
use Rattle.scans.proofs.Chains.{largest_by_fold}
use Rattle.plans.specs.Jobs.{placing}
use Rattle.plans.specs.Rules.{end, latest}
use Rattle.plans.proofs.types.Plan.latest_end.Goals as goal

pub returns : goal.returns
unfolding latest
returns c =
    let j = placing c.args.self.now in
    let most = 2 ^ 64 - 1 in
    let n = length c.tasks.result.now in
    let ends = fold_from_yields_List _ (λ b t. max b (min (end j t) most)) _ _ c.fold.ensures.ran (YieldsList-from_range 0 n n refl (omega arith)) (λ b t r q k. search rules) in
    let all = ends ∙ largest_by_fold (λ t. min (end j t) most) n ∙ largest_cut (end j) most n ∙ ap (λ k. min (largest (end j) k) most) (ap length c.tasks.ensures.is) in
    let low = largest_under (end j) j.graph.tasks (2 ^ 40 + 2 ^ 20) in
    record { is = all; exact = λ e. omega (arith, all, low (λ t l. omega (arith, e t l, c.tasks.ensures.sound.times t))) }
