-- What the four steps choose.
use Rattle.std.proofs.Common.{◌≡◌, ℕ, ◌<◌, ◌≤◌, Bool, true, false, not, ◌⊎◌, Some, None, Option, MatchOption, sym, refl, subst, inl, inr, arith}
use Rattle.std.proofs.lemmas.Bool.{and_parts, not-true, not-false}
use Rattle.scans.specs.Scans.{lowest}
use Rattle.scans.specs.Bids.{Chosen, best}
use Rattle.scans.specs.declared.Aim.{Aim}
use Rattle.scans.specs.declared.Aim.TheVariants.{Smallest, Largest}
use Rattle.scans.proofs.Scans.{lowest_all, lowest_found, lowest_none, lowest_is}
use Rattle.scans.proofs.Bids.{best_is_chosen}
use Rattle.graphs.specs.Model.{TaskGraph}
use Rattle.links.specs.Links.{Arrives}
use Rattle.plans.specs.declared.types.Limits.{Limits}
use Rattle.steps.specs.Seats.{Seats, open_test, fits, free, start_on_worker}
use Rattle.steps.specs.Steps.{or_else, near, spent, roomy, unopened, step1, step2, step3, step4, choice}
use Rattle.steps.specs.Laws.{Unopened, InWords}

or_split : (a b : Option ℕ) (w : ℕ) → or_else a b ≡ Some w → (a ≡ Some w) ⊎ (b ≡ Some w)
or_split None b w e = inr e
or_split (Some x) b w e = inl e

-- the lowest that passes, by what a call of `find` answers
pub lowest_from : (p : ℕ → Bool) (n : ℕ) (r : Option ℕ)
    → MatchOption r ((k : ℕ) → 0 ≤ k → k < n → p k ≡ false) (λ i. (0 ≤ i) × (i < n) × (p i ≡ true) × ((k : ℕ) → 0 ≤ k → k < i → p k ≡ false)) → r ≡ lowest p n
lowest_from p n None h = sym (lowest_none p n (λ k l. h k (omega arith) l))
lowest_from p n (Some i) h = sym (lowest_is p n i h.1 (λ k l. h.3 k (omega arith) l) h.2)

-- the winner of a scan is below n and passes
won : (aim : Aim) (passes : ℕ → Bool) (key : ℕ → ℕ) (n w : ℕ) → best aim passes key n ≡ Some w → (w < n) × (passes w ≡ true)
won aim passes key n w e = let h = subst (Chosen aim passes key n) e (best_is_chosen aim passes key n) in (h.0, h.1)

unopened_is : (g : TaskGraph) (s : Seats) (workers : ℕ) (o : Option ℕ) → unopened g s workers ≡ o → Unopened g s workers o
unopened_is g s workers None e = λ w l. not-false _ (lowest_all (λ v. not (open_test g s v)) workers w e l)
unopened_is g s workers (Some w) e = let h = lowest_found (λ v. not (open_test g s v)) workers w e in (h.0, not-true _ h.1, λ v l. not-false _ (h.2 v l))

module _ (limits : Limits) (arrives : Arrives) (g : TaskGraph) (s : Seats) (t : ℕ) where
  -- the four steps, in words
  pub in_words : InWords limits arrives g s t
  unfolding step1 step2 step3 step4
  in_words = record {
    first = best_is_chosen Smallest (near limits arrives g s t) (start_on_worker arrives g s t) limits.workers;
    second = best_is_chosen Largest (spent limits arrives g s t) (free g s) limits.workers;
    third = unopened_is g s limits.workers _ refl;
    fourth = best_is_chosen Smallest (roomy limits arrives g s t) (free g s) limits.workers;
  }

  -- a chosen worker is open and fits, or is not open and all below it are
  pub choice_in : (w : ℕ) → choice limits arrives g s t ≡ Some w
      → (w < limits.workers) × (((open_test g s w ≡ true) × (fits limits.memory g s t w ≡ true)) ⊎ ((open_test g s w ≡ false) × ((v : ℕ) → v < w → open_test g s v ≡ true)))
  unfolding choice step1 step2 step3 step4
  choice_in w e = elim (or_split (step1 limits arrives g s t) _ w e) [
    | inl a ↦ (let h = won Smallest (near limits arrives g s t) (start_on_worker arrives g s t) limits.workers w a in let p = and_parts _ _ h.1 in (h.0, inl (p.0, (and_parts _ _ (and_parts _ _ p.1).1).0)))
    | inr b ↦ elim (or_split (step2 limits arrives g s t) _ w b) [
      | inl a ↦ (let h = won Largest (spent limits arrives g s t) (free g s) limits.workers w a in let p = and_parts _ _ h.1 in (h.0, inl (p.0, (and_parts _ _ p.1).0)))
      | inr c ↦ elim (or_split (step3 limits arrives g s t) _ w c) [
        | inl a ↦ (let h = unopened_is g s limits.workers (Some w) a in (h.0, inr (h.1, h.2)))
        | inr a ↦ (let h = won Smallest (roomy limits arrives g s t) (free g s) limits.workers w a in let p = and_parts _ _ h.1 in (h.0, inl (p.0, p.1)))
      ]
    ]
  ]

  pub choice_below : (w : ℕ) → choice limits arrives g s t ≡ Some w → w < limits.workers
  choice_below w e = (choice_in w e).0
