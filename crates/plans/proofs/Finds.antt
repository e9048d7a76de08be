-- What a search of the numbers from 0 up finds is the lowest that breaks a rule.
use Rattle.std.proofs.Common.{◌≡◌, ℕ, ◌<◌, ◌≤◌, Some, None, Option, List, length, subst, arith}
use Rattle.std.specs.Option.{MatchOption}
use Rattle.graphs.specs.declared.graph.Graph.{Graph}
use Rattle.graphs.specs.declared.types.Task.{Task}
use Rattle.graphs.specs.Graphs.{tasks_of, model_of}
use Rattle.plans.specs.Rules.{Found}

abbrev pub Searched : (ℕ → Type 0) → ℕ → Option ℕ → Type 0
Searched P n r = MatchOption r ((k : ℕ) → 0 ≤ k → k < n → P k) (λ t. (0 ≤ t) × (t < n) × (P t → ⊥) × ((k : ℕ) → 0 ≤ k → k < t → P k))

pub found_by : (P : ℕ → Type 0) (n : ℕ) (r : Option ℕ) → Searched P n r → Found P n r
found_by P n None h = λ k l. h k (omega arith) l
found_by P n (Some t) h = record { within = h.1; fails = h.2; below = λ k l. h.3 k (omega arith) l }

-- the same over the tasks of a graph, read as a slice
pub found_task : (P : ℕ → Type 0) (g : Graph) (ts : List Task) (r : Option ℕ) → ts ≡ tasks_of g → Searched P (length ts) r → Found P (model_of g).tasks r
found_task P g ts r e h = subst (λ (us : List Task). Found P (length us) r) e (found_by P (length ts) r h)
