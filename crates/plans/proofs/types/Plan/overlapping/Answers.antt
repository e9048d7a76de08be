use Rattle.std.proofs.Common.{◌≡◌, ℕ, ◌<◌, ◌≤◌, Some, None, Option, length, sym, ap, inl, inr, arith, rules, tests}
use Rattle.std.specs.Option.{MatchOption}
use Rattle.std.proofs.lemmas.Bool.{cases_lt}
use Rattle.std.proofs.lemmas.Iterator.{first_from_Range}
use Rattle.plans.specs.Jobs.{Job, placing}
use Rattle.plans.specs.Rules.{Apart, Alone, AloneAhead, Each, Found}
use Rattle.plans.proofs.types.Plan.overlapping.Goals as goal

turned : (j : Job) (t u : ℕ) → Apart j t u → Apart j u t
turned j t u h e = elim (h (sym e)) [ inl a ↦ inr a | inr b ↦ inl b ]

-- where each of the first tasks shares no tick with one after it, none of them shares one with any other
alone_both : (j : Job) (m : ℕ) → m ≤ j.graph.tasks → Each (AloneAhead j) m → Each (Alone j) m
alone_both j m l ahead k lk u lu ne = elim (cases_lt u k) [
  | inl a ↦ turned j u k (ahead u (omega arith) k a (omega arith))
  | inr b ↦ ahead k lk u (omega arith) lu
]

found : (j : Job) (n : ℕ) (r : Option ℕ) → n ≡ j.graph.tasks → MatchOption r ((k : ℕ) → 0 ≤ k → k < n → k < j.graph.tasks → AloneAhead j k) (λ t. (0 ≤ t) × (t < n) × (t < j.graph.tasks → AloneAhead j t → ⊥) × ((k : ℕ) → 0 ≤ k → k < t → k < j.graph.tasks → AloneAhead j k)) → Found (Alone j) j.graph.tasks r
found j n None e h = alone_both j j.graph.tasks (omega arith) (λ k l. h k (omega arith) (omega arith) l)
found j n (Some t) e h = record {
  within = omega arith;
  fails = λ alone. h.2 (omega arith) (λ u a b. alone u b (λ i. omega arith));
  below = alone_both j t (omega arith) (λ k l. h.3 k (omega arith) l (omega arith));
}

pub returns : goal.returns
returns c =
    let j = placing c.args.self.now in
    found j _ _ (ap length c.tasks.ensures.is) (first_from_Range _ _ _ _ (λ t. t < j.graph.tasks → AloneAhead j t → ⊥) (λ t. t < j.graph.tasks → AloneAhead j t) c.find.ensures.ran (λ x q k l a. search (rules, tests)) (λ x q k. search (rules, tests)))
