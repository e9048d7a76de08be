use Rattle.std.proofs.Common.{◌≡◌, ℕ, ◌+◌, ◌-◌, ◌<◌, ◌≤◌, true, false, Bool, length, refl, ap, arith, rules, tests}
use Rattle.std.specs.Bool.{MatchBool, Decides}
use Rattle.std.proofs.lemmas.Iterator.{cases_from_all, YieldsList-from_range}
use Rattle.std.proofs.lemmas.Bool.{both_ways}
use Rattle.scans.proofs.Chains.{each_by_all}
use Rattle.plans.specs.Jobs.{Job, placing}
use Rattle.plans.specs.Rules.{Apart, AloneAhead}
use Rattle.plans.proofs.types.Plan.is_alone_ahead.Goals as goal

-- a pair that is apart, where both are tasks
abbrev Yes : Job → ℕ → ℕ → Type 0
Yes j t u = u < j.graph.tasks → Apart j t u

abbrev No : Job → ℕ → ℕ → Type 0
No j t u = u < j.graph.tasks → Apart j t u → ⊥

ahead : (j : Job) (t n : ℕ) (r : Bool) → t < j.graph.tasks → n ≡ j.graph.tasks → MatchBool r ((u : ℕ) → t + 1 ≤ u → u < t + 1 + (n - (t + 1)) → Yes j t u) ((u : ℕ) × (t + 1 ≤ u) × (u < t + 1 + (n - (t + 1))) × No j t u) → Decides r (AloneAhead j t)
ahead j t n true low e h = ((λ _ u a b. h u (omega arith) (omega arith) b), λ _. refl)
ahead j t n false low e h = ((λ f. absurd (both_ways _ refl f)), λ all. absurd (h.3 (omega arith) (all h.0 (omega arith) (omega arith))))

pub returns : goal.returns
returns c =
    let j = placing c.args.self.now in
    let t = c.args.t in
    let n = length c.tasks.result.now in
    ahead j t n _ c.requires.0 (ap length c.tasks.ensures.is) (each_by_all (Yes j t) (No j t) (t + 1) _ _ (cases_from_all _ _ _ (Yes j t) (No j t) c.all.ensures.ran (YieldsList-from_range (t + 1) n _ refl refl) (λ x q k. search (rules, tests)) (λ x q k l a. search (rules, tests))))
