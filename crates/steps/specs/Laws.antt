-- The four steps in words: who wins each, and who was asked; and what may be placed.
use Rattle.std.specs.Prelude.{◌≡◌, ℕ, ◌+◌, ◌^◌, ◌<◌, ◌≤◌, true, false, Some, None, Option}
use Rattle.scans.specs.Bids.{Chosen}
use Rattle.scans.specs.declared.Aim.TheVariants.{Smallest, Largest}
use Rattle.graphs.specs.Model.{TaskGraph}
use Rattle.links.specs.Links.{Arrives}
use Rattle.plans.specs.declared.types.Row.{Row}
use Rattle.plans.specs.declared.types.Limits.{Limits}
use Rattle.steps.specs.Seats.{Seats, placed, open_test, free, start_on_worker}
use Rattle.steps.specs.Steps.{near, spent, roomy, step1, step2, step3, step4}

-- the lowest unopened worker, or all are open
abbrev pub Unopened : TaskGraph → Seats → ℕ → Option ℕ → Type 0
Unopened g s workers None = (w : ℕ) → w < workers → open_test g s w ≡ true
Unopened g s workers (Some w) = (w < workers) × (open_test g s w ≡ false) × ((v : ℕ) → v < w → open_test g s v ≡ true)

pub record InWords (limits : Limits) (arrives : Arrives) (g : TaskGraph) (s : Seats) (t : ℕ) : Type 0 where
  pub first : Chosen Smallest (near limits arrives g s t) (start_on_worker arrives g s t) limits.workers (step1 limits arrives g s t)
  pub second : Chosen Largest (spent limits arrives g s t) (free g s) limits.workers (step2 limits arrives g s t)
  pub third : Unopened g s limits.workers (step3 limits arrives g s t)
  pub fourth : Chosen Smallest (roomy limits arrives g s t) (free g s) limits.workers (step4 limits arrives g s t)

-- t may be placed at r: it is a task, is not placed, the worker is below 16, and the end is not above the ceiling
pub record Placeable (g : TaskGraph) (s : Seats) (t : ℕ) (r : Row) : Type 0 where
  pub task : t < g.tasks
  pub unplaced : placed s t ≡ false
  pub worker : r.worker < 16
  pub early : r.start + g.time t ≤ 2 ^ 40
