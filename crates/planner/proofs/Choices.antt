-- Which worker the four steps can choose, and bounds on starts and levels.
use Rattle.std.proofs.Common.{◌≡◌, ℕ, ◌^◌, ◌<◌, ◌≤◌, Bool, true, false, not, ◌⊎◌, Some, None, Option, subst, inl, inr, arith}
use Rattle.std.proofs.lemmas.Bool.{cond_both, and_parts, not-true, not-false}
use Rattle.std.proofs.lemmas.Bool.Decides.{nat_tests}
use Rattle.scans.specs.Bids.{best, Chosen}
use Rattle.scans.specs.declared.Aim.{Aim}
use Rattle.scans.specs.declared.Aim.TheVariants.{Smallest, Largest}
use Rattle.scans.proofs.Scans.{largest_under, lowest_found}
use Rattle.scans.proofs.Bids.{best_is_chosen}
use Rattle.graphs.specs.Model.{TaskGraph}
use Rattle.links.specs.Links.{Arrives, Lawful}
use Rattle.plans.specs.declared.types.Limits.{Limits}
use Rattle.steps.specs.Seats.{Seats, at, sits, host, end_of, Early, open_test, free, end_on, fits, input_at, start_on_worker}
use Rattle.steps.specs.Steps.{near, spent, roomy, step1, step2, step3, step4, choice}
use Rattle.steps.specs.Steps.{or_else as or_next}

or_split : (a b : Option ℕ) (w : ℕ) → or_next a b ≡ Some w → (a ≡ Some w) ⊎ (b ≡ Some w)
or_split None b w e = inr e
or_split (Some x) b w e = inl e

-- a number that wins a scan passes
pub wins : (aim : Aim) (passes : ℕ → Bool) (key : ℕ → ℕ) (n w : ℕ) → best aim passes key n ≡ Some w → (w < n) × (passes w ≡ true)
wins aim passes key n w e = let h = subst (Chosen aim passes key n) e (best_is_chosen aim passes key n) in (h.0, h.1)

pub none_wins : (aim : Aim) (passes : ℕ → Bool) (key : ℕ → ℕ) (n : ℕ) → best aim passes key n ≡ None → (v : ℕ) → v < n → passes v ≡ false
none_wins aim passes key n e = subst (Chosen aim passes key n) e (best_is_chosen aim passes key n)

-- open and roomy, or the lowest unopened
abbrev pub Candidate : Limits → TaskGraph → Seats → ℕ → ℕ → Type 0
Candidate limits g s t w = ((open_test g s w ≡ true) × (fits limits.memory g s t w ≡ true)) ⊎ ((open_test g s w ≡ false) × ((v : ℕ) → v < w → open_test g s v ≡ true))

module _ (limits : Limits) (arrives : Arrives) (g : TaskGraph) (s : Seats) (t : ℕ) where
  pub choice_in : (w : ℕ) → choice limits arrives g s t ≡ Some w → (w < limits.workers) × Candidate limits g s t w
  unfolding choice step1 step2 step3 step4
  choice_in w e = elim (or_split (step1 limits arrives g s t) _ w e) [
    | inl a ↦ (let h = wins Smallest (near limits arrives g s t) (start_on_worker arrives g s t) limits.workers w a in
        let p = and_parts _ _ h.1 in
        (h.0, inl (p.0, (and_parts _ _ (and_parts _ _ p.1).1).0)))
    | inr r ↦ elim (or_split (step2 limits arrives g s t) _ w r) [
      | inl a ↦ (let h = wins Largest (spent limits arrives g s t) (free g s) limits.workers w a in
          let p = and_parts _ _ h.1 in
          (h.0, inl (p.0, (and_parts _ _ p.1).0)))
      | inr q ↦ elim (or_split (step3 limits arrives g s t) _ w q) [
        | inl a ↦ (let h = lowest_found (λ v. not (open_test g s v)) limits.workers w a in
            (h.0, inr (not-true _ h.1, λ v l. not-false _ (h.2 v l))))
        | inr a ↦ (let h = wins Smallest (roomy limits arrives g s t) (free g s) limits.workers w a in
            let p = and_parts _ _ h.1 in (h.0, inl (p.0, p.1)))
      ]
    ]
  ]

module _ (arrives : Arrives) (g : TaskGraph) (s : Seats) where
  -- no start is above the ceiling
  pub start_under : Lawful arrives → Early g s → (t w : ℕ) → start_on_worker arrives g s t w ≤ 2 ^ 40
  unfolding start_on_worker free
  start_under ok early t w =
      let a = largest_under (end_on g s w) g.tasks (2 ^ 40) (λ k l. cond_both (sits (at s k) w) (end_of g s k) 0 (λ x. x ≤ 2 ^ 40) (λ _. early k) (λ _. omega arith)) in
      let b = largest_under (input_at arrives g s t w) g.edges (2 ^ 40) (λ k l. let e = early (g.from k) in let v = ok.ceiling (end_of g s (g.from k)) (host (at s (g.from k))) w (g.amount k) in grind (arith, nat_tests)) in
      omega arith
