-- When what an edge brings is there: from its own worker at once, from another by the link.
use Rattle.std.proofs.Common.{◌≡◌, ℕ}
use Rattle.std.proofs.lemmas.Bool.{cond-true, cond-false, eq-eqb, ne_eqb}
use Rattle.plans.specs.Jobs.{Job}
use Rattle.plans.specs.Rules.{end, reaches}

module _ (j : Job) (k : ℕ) where
  pub reaches_here : j.worker (j.graph.from k) ≡ j.worker (j.graph.to k) → reaches j k ≡ end j (j.graph.from k)
  unfolding reaches
  reaches_here e = cond-true _ _ _ (eq-eqb _ _ e)

  pub reaches_there : (j.worker (j.graph.from k) ≡ j.worker (j.graph.to k) → ⊥) → reaches j k ≡ j.arrives (end j (j.graph.from k)) (j.worker (j.graph.from k)) (j.worker (j.graph.to k)) (j.graph.amount k)
  unfolding reaches
  reaches_there e = cond-false _ _ _ (ne_eqb _ _ e)
