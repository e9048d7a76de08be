-- What holds of the tasks placed so far, at every turn of planning.
use Rattle.std.specs.Prelude.{◌≡◌, ℕ, ◌<◌, ◌≤◌, true, ◌⊎◌, length, Some, None, Option, ◌≢◌}
use Rattle.graphs.specs.Model.{TaskGraph}
use Rattle.links.specs.Links.{Arrives}
use Rattle.plans.specs.declared.types.Row.{Row}
use Rattle.plans.specs.declared.types.Limits.{Limits}
use Rattle.steps.specs.Seats.{Seats, at, sits, end_of, placed, Early, open_test, in_use, reach}

abbrev pub begin : Option Row → ℕ
begin None = 0
begin (Some r) = r.start

-- what holds of the tasks placed so far
pub record Good (limits : Limits) (arrives : Arrives) (g : TaskGraph) (s : Seats) : Type 0 where
  pub sized : length s ≡ 512
  pub tasks : (t : ℕ) → placed s t ≡ true → t < g.tasks
  pub early : Early g s
  pub on : (t w : ℕ) → sits (at s t) w ≡ true → w < limits.workers
  pub room : (w : ℕ) → in_use g s w ≤ limits.memory
  pub apart : (t u w : ℕ) → (t ≢ u) → sits (at s t) w ≡ true → sits (at s u) w ≡ true → (end_of g s t ≤ begin (at s u)) ⊎ (end_of g s u ≤ begin (at s t))
  pub fed : (k w : ℕ) → k < g.edges → sits (at s (g.to k)) w ≡ true → (placed s (g.from k) ≡ true) × (reach arrives g s w (g.from k) (g.amount k) ≤ begin (at s (g.to k)))
  pub lowest : (w v : ℕ) → v < w → open_test g s w ≡ true → open_test g s v ≡ true
