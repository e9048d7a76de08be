-- An order by one key, and then by what is left, keeps the laws of what is left.
use Rattle.std.specs.Prelude.{◌≡◌, ℕ, Bool, true, false, nat_lt}
use Rattle.std.proofs.Common.{sym, arith}
use Rattle.std.proofs.lemmas.Bool.Decides.{nat_tests}
use Rattle.heaps.specs.Entries.{lower, sooner, above}
use Rattle.heaps.specs.Orders.{TotalOrder}
use Rattle.heaps.specs.declared.entries.Line.{Line}

pub lower_one_way : (a b : ℕ) (p q : Bool) → (p ≡ true → q ≡ false) → lower a b p ≡ true → lower b a q ≡ false
lower_one_way a b p q h e = grind (arith, nat_tests)

pub lower_chain : (a b c : ℕ) (p q r : Bool) → (p ≡ true → q ≡ true → r ≡ true) → lower a b p ≡ true → lower b c q ≡ true → lower a c r ≡ true
lower_chain a b c p q r h e f = grind (arith, nat_tests)

pub lower_same : (a b : ℕ) (p q : Bool) → lower a b p ≡ false → lower b a q ≡ false → (a ≡ b) × (p ≡ false) × (q ≡ false)
lower_same a b p q e f = grind (arith, nat_tests)

-- the last key

pub last_one_way : (a b : ℕ) → nat_lt a b ≡ true → nat_lt b a ≡ false
last_one_way a b e = grind (arith, nat_tests)

pub last_chain : (a b c : ℕ) → nat_lt a b ≡ true → nat_lt b c ≡ true → nat_lt a c ≡ true
last_chain a b c e f = grind (arith, nat_tests)

pub last_same : (a b : ℕ) → nat_lt a b ≡ false → nat_lt b a ≡ false → a ≡ b
last_same a b e f = grind (arith, nat_tests)

-- two keys

pub sooner_total : TotalOrder sooner
sooner_total = record {
  one_way = λ x y. lower_one_way y.rank x.rank _ _ (last_one_way x.task y.task);
  chain = λ x y z e f. lower_chain z.rank y.rank x.rank _ _ _ (λ p q. last_chain x.task y.task z.task q p) f e;
  same = λ x y p q.
      let ranks = lower_same y.rank x.rank _ _ p q in
      let rank = sym ranks.0 in
      let tasks = last_same x.task y.task ranks.1 ranks.2 in
      λ i. record { rank = rank i; task = tasks i };
}

-- three keys

-- worker and task, where the starts are equal
abbrev rest : Line → Line → Bool
rest x y = lower x.worker y.worker (nat_lt x.task y.task)

pub above_total : TotalOrder above
above_total = record {
  one_way = λ x y. lower_one_way x.start y.start (rest x y) (rest y x)
      (lower_one_way x.worker y.worker _ _ (last_one_way x.task y.task));
  chain = λ x y z. lower_chain x.start y.start z.start (rest x y) (rest y z) (rest x z)
      (lower_chain x.worker y.worker z.worker _ _ _ (last_chain x.task y.task z.task));
  same = λ x y p q.
      let starts = lower_same x.start y.start (rest x y) (rest y x) p q in
      let workers = lower_same x.worker y.worker _ _ starts.1 starts.2 in
      let tasks = last_same x.task y.task workers.1 workers.2 in
      λ i. record { start = starts.0 i; worker = workers.0 i; task = tasks i };
}
