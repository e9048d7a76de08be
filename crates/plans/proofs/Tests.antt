-- Each test says what its rule says, and so what a scan finds is the lowest number that fails the test.
use Rattle.std.proofs.Common.{◌≡◌, ℕ, ◌≤◌, Bool, true, false, not, ◌||◌, eqb, leb, ◌⊎◌, Some, None, Option, sym, refl, inl, inr, arith}
use Rattle.std.proofs.lemmas.Bool.{le-leb, leb-true, lt-ltb, ltb-true, cases_lt, not_from_true, not_from_false}
use Rattle.std.proofs.lemmas.Bool.Decides.{nat_tests}
use Rattle.scans.proofs.Scans.{every_all, every_at, lowest_none, lowest_is}
use Rattle.plans.specs.Jobs.{Job}
use Rattle.plans.specs.Rules.{end, Placed, InTime, Alone, Roomy, Fed, Each, Lowest, Found}
use Rattle.plans.specs.Checked.{placed_test, in_time_test, alone_test, roomy_test, fed_test, failing}

pub record Says (P : ℕ → Type 0) (p : ℕ → Bool) : Type 0 where
  pub yes : (k : ℕ) → P k → p k ≡ true
  pub back : (k : ℕ) → p k ≡ true → P k

pub not_holds : (b : Bool) → (b ≡ true → ⊥) → b ≡ false
not_holds true h = absurd (h refl)
not_holds false h = refl

module _ {P : ℕ → Type 0} {p : ℕ → Bool} (s : Says P p) where
  pub none : (n : ℕ) → Each P n → failing p n ≡ None
  none n e = lowest_none _ n (λ k l. not_from_true _ (s.yes k (e k l)))

  pub one : (n t : ℕ) → Lowest P n t → failing p n ≡ Some t
  one n t l = lowest_is _ n t l.within (λ k h. not_from_true _ (s.yes k (l.below k h))) (not_from_false _ (not_holds _ (λ y. l.fails (s.back t y))))

  pub found_is : (n : ℕ) (r : Option ℕ) → Found P n r → r ≡ failing p n
  found_is n None e = sym (none n e)
  found_is n (Some t) l = sym (one n t l)

-- the four parts of the test of two tasks
apart_yes : (t u a b d s e r : ℕ) → ((t ≡ u → ⊥) → a ≡ b → (d ≤ s) ⊎ (e ≤ r)) → ((eqb t u || not (eqb a b)) || (leb d s || leb e r)) ≡ true
apart_yes t u a b d s e r h = grind (arith, nat_tests)

apart_back : (t u a b d s e r : ℕ) → ((eqb t u || not (eqb a b)) || (leb d s || leb e r)) ≡ true → (t ≡ u → ⊥) → a ≡ b → (d ≤ s) ⊎ (e ≤ r)
apart_back t u a b d s e r h n q = elim (cases_lt s d) [ inl x ↦ inr (grind (arith, nat_tests)) | inr x ↦ inl x ]

module _ (j : Job) where
  pub says_placed : Says (Placed j) (placed_test j)
  says_placed = record { yes = λ k h. lt-ltb _ _ h; back = λ k h. ltb-true _ _ h }

  pub says_in_time : Says (InTime j) (in_time_test j)
  says_in_time = record { yes = λ k h. le-leb _ _ h; back = λ k h. leb-true _ _ h }

  pub says_alone : Says (Alone j) (alone_test j)
  says_alone = record {
    yes = λ t h. every_all _ j.graph.tasks (λ u l. apart_yes t u (j.worker t) (j.worker u) (end j t) (j.start u) (end j u) (j.start t) (h u l));
    back = λ t h u l n. apart_back t u (j.worker t) (j.worker u) (end j t) (j.start u) (end j u) (j.start t) (every_at _ j.graph.tasks u h l) n;
  }

  pub says_roomy : Says (Roomy j) (roomy_test j)
  says_roomy = record { yes = λ k h. le-leb _ _ h; back = λ k h. leb-true _ _ h }

  pub says_fed : Says (Fed j) (fed_test j)
  says_fed = record { yes = λ k h. le-leb _ _ h; back = λ k h. leb-true _ _ h }
