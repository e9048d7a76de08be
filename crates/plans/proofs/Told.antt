-- What is told in the words of the rules is what the tests compute, and a plan is accepted exactly when the rules hold.
use Rattle.std.proofs.Common.{◌≡◌, ℕ, ◌^◌, ◌≤◌, true, false, Some, None, Ok, Err, Result, sym, ap, ◌∙◌, subst, inl, inr, arith}
use Rattle.std.proofs.lemmas.Bool.{le-leb, leb-true, lt-ltb, le-ltb, and_from, and_parts, cond-true, cond-false, cases_Bool, both_ways}
use Rattle.plans.specs.declared.fault.PlanFault.{PlanFault}
use Rattle.plans.specs.declared.fault.PlanFault.TheVariants.{Parameter, NoWorker, AboveCeiling, Overlap, Overfull, LateInput}
use Rattle.plans.specs.Jobs.{Job}
use Rattle.plans.specs.Rules.{Each, Lowest, Allowed, Rules, latest}
use Rattle.plans.specs.Checked.{between, bad_limit, placed_test, in_time_test, alone_test, roomy_test, fed_test, failing, unless, checked, Denied, short, workers, memory, rule1, rule2, rule3, rule4, rule5, Told, Accepts}
use Rattle.plans.proofs.Tests.{not_holds, none, one, says_placed, says_in_time, says_alone, says_roomy, says_fed}

inside : (low high n : ℕ) → (low ≤ n) × (n ≤ high) → between low high n ≡ true
inside low high n h = and_from _ _ (le-leb low n h.0) (le-leb n high h.1)

within : (low high n : ℕ) → between low high n ≡ true → (low ≤ n) × (n ≤ high)
within low high n e = let p = and_parts _ _ e in (leb-true low n p.0, leb-true n high p.1)

beyond : (low high n : ℕ) → ((low ≤ n) × (n ≤ high) → ⊥) → between low high n ≡ false
beyond low high n h = not_holds _ (λ e. h (within low high n e))

outside : (low high n : ℕ) → between low high n ≡ false → (low ≤ n) × (n ≤ high) → ⊥
outside low high n e h = both_ways _ e (inside low high n h)

module _ (rows : ℕ) (j : Job) where
  -- the lowest limit that is outside its own, in the words of a refusal
  pub bad_denied : (p : ℕ) → 512 ≤ rows → Some p ≡ bad_limit j.workers j.memory → Denied rows j (Parameter p)
  bad_denied p long e = elim (cases_Bool (between 1 16 j.workers)) [
    | inl w ↦ elim (cases_Bool (between 1 (2 ^ 30) j.memory)) [
      | inl m ↦ absurd (let z : Some p ≡ None = e ∙ cond-true _ _ _ w ∙ cond-true _ _ _ m in let o : ◌≡◌ {A = ℕ} 0 1 = cc in omega arith)
      | inr m ↦ (let z : Some p ≡ Some 2 = e ∙ cond-true _ _ _ w ∙ cond-false _ _ _ m in let i : 2 ≡ p = cc in subst (λ (q : ℕ). Denied rows j (Parameter q)) i (memory long (within 1 16 _ w) (outside 1 (2 ^ 30) _ m)))
    ]
    | inr w ↦ (let z : Some p ≡ Some 1 = e ∙ cond-false _ _ _ w in let i : 1 ≡ p = cc in subst (λ (q : ℕ). Denied rows j (Parameter q)) i (workers long (outside 1 16 _ w)))
  ]

  pub none_allowed : 512 ≤ rows → None ≡ bad_limit j.workers j.memory → Allowed rows j
  none_allowed long e = elim (cases_Bool (between 1 16 j.workers)) [
    | inl w ↦ elim (cases_Bool (between 1 (2 ^ 30) j.memory)) [
      | inl m ↦ record { long = long; workers = within 1 16 _ w; memory = within 1 (2 ^ 30) _ m }
      | inr m ↦ absurd (let z : None ≡ Some 2 = e ∙ cond-true _ _ _ w ∙ cond-false _ _ _ m in let o : ◌≡◌ {A = ℕ} 0 1 = cc in omega arith)
    ]
    | inr w ↦ absurd (let z : None ≡ Some 1 = e ∙ cond-false _ _ _ w in let o : ◌≡◌ {A = ℕ} 0 1 = cc in omega arith)
  ]

  -- past the tables and the limits, the rules
  abbrev ruled : Result ℕ PlanFault
  ruled =
      unless (failing (placed_test j) j.graph.tasks) NoWorker
      (unless (failing (in_time_test j) j.graph.tasks) AboveCeiling
      (unless (failing (alone_test j) j.graph.tasks) Overlap
      (unless (failing (roomy_test j) j.workers) Overfull
      (unless (failing (fed_test j) j.graph.edges) LateInput
      (Ok (latest j))))))

  past : Allowed rows j → checked rows j ≡ ruled
  unfolding checked
  past a =
      let l : bad_limit j.workers j.memory ≡ None = cond-true _ _ _ (inside 1 16 _ a.workers) ∙ cond-true _ _ _ (inside 1 (2 ^ 30) _ a.memory) in
      cond-false _ _ _ (le-ltb rows 512 a.long) ∙ rw l

  denied_is : (e : PlanFault) → Denied rows j e → checked rows j ≡ Err e
  unfolding checked
  denied_is _ (short h) = cond-true _ _ _ (lt-ltb rows 512 h)
  denied_is _ (workers h f) = cond-false _ _ _ (le-ltb rows 512 h) ∙ rw (beyond 1 16 _ f)
  denied_is _ (memory h g f) = cond-false _ _ _ (le-ltb rows 512 h) ∙ rw (inside 1 16 _ g, beyond 1 (2 ^ 30) _ f)
  denied_is _ (rule1 t a l) = past a ∙ rw (one (says_placed j) _ t l)
  denied_is _ (rule2 t a b l) = past a ∙ rw (none (says_placed j) _ b, one (says_in_time j) _ t l)
  denied_is _ (rule3 t a b c l) = past a ∙ rw (none (says_placed j) _ b, none (says_in_time j) _ c, one (says_alone j) _ t l)
  denied_is _ (rule4 t a b c d l) = past a ∙ rw (none (says_placed j) _ b, none (says_in_time j) _ c, none (says_alone j) _ d, one (says_roomy j) _ t l)
  denied_is _ (rule5 t a b c d e l) = past a ∙ rw (none (says_placed j) _ b, none (says_in_time j) _ c, none (says_alone j) _ d, none (says_roomy j) _ e, one (says_fed j) _ t l)

  pub told_is : (r : Result ℕ PlanFault) → Told rows j r → r ≡ checked rows j
  told_is (Ok n) t =
      let k = t.1 in
      ap Ok t.2 ∙ sym (past t.0 ∙ rw (none (says_placed j) _ k.placed, none (says_in_time j) _ k.in_time, none (says_alone j) _ k.apart, none (says_roomy j) _ k.roomy, none (says_fed j) _ k.fed))
  told_is (Err e) t = sym (denied_is e t)

  missed : (P : ℕ → Type 0) (n p : ℕ) → Lowest P n p → Each P n → ⊥
  missed P n p l e = l.fails (e p l.within)

  -- no plan is denied that keeps the rules
  never : (e : PlanFault) → Denied rows j e → Allowed rows j → Rules j → ⊥
  never _ (short h) a r = omega (arith, a.long)
  never _ (workers h f) a r = f a.workers
  never _ (memory h g f) a r = f a.memory
  never _ (rule1 t _ l) a r = missed _ _ t l r.placed
  never _ (rule2 t _ _ l) a r = missed _ _ t l r.in_time
  never _ (rule3 t _ _ _ l) a r = missed _ _ t l r.apart
  never _ (rule4 t _ _ _ _ l) a r = missed _ _ t l r.roomy
  never _ (rule5 t _ _ _ _ _ l) a r = missed _ _ t l r.fed

  pub told_accepts : (r : Result ℕ PlanFault) → Told rows j r → Accepts rows j r
  told_accepts (Ok n) t = record {
    kept = λ a r. ap Ok t.2;
    only = λ m e. let i : n ≡ m = cc in (t.0, t.1, sym i ∙ t.2);
  }
  told_accepts (Err f) t = record {
    kept = λ a r. absurd (never f t a r);
    only = λ m e. absurd (let z : ◌≡◌ {A = ℕ} 0 1 = cc in omega arith);
  }
