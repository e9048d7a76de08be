-- What every plan keeps: each task is placed once, after its inputs, by the five rules; and workers are opened from the lowest.
use Rattle.std.specs.Prelude.{◌≡◌, ℕ, ◌<◌, ◌≤◌, true, List, length, Ok}
use Rattle.scans.specs.Bids.{Chosen}
use Rattle.scans.specs.declared.Aim.TheVariants.{Largest}
use Rattle.graphs.specs.Model.{TaskGraph, Sound}
use Rattle.links.specs.Links.{Arrives}
use Rattle.plans.specs.declared.types.Row.{Row}
use Rattle.plans.specs.declared.types.Limits.{Limits}
use Rattle.plans.specs.Jobs.{job}
use Rattle.plans.specs.Rules.{Rules, latest}
use Rattle.plans.specs.Checked.{checked}
use Rattle.steps.specs.Seats.{Seats, open_test, placed}
use Rattle.planner.specs.Turns.{ready, rank, next, after}
use Rattle.planner.specs.Plans.{planned, Rows}

-- at every turn the task that is placed is ready, no ready one has a higher rank, and no lower number has as high a one
abbrev pub NextInWords : Type 0
NextInWords = (policy : ℕ) (arrives : Arrives) (g : TaskGraph) (s : Seats) → Chosen Largest (ready g s) (rank policy arrives g s) g.tasks (next policy arrives g s)

-- after any number of placements, a worker is open only if all lower ones are
abbrev pub OpenedFromLowest : Type 0
OpenedFromLowest = (limits : Limits) (policy : ℕ) (arrives : Arrives) (g : TaskGraph) → Sound g → ((t : ℕ) → t < g.tasks → g.size t ≤ limits.memory)
    → (n : ℕ) (s : Seats) → after limits policy arrives g n ≡ Ok s → (w v : ℕ) → v < w → open_test g s w ≡ true → open_test g s v ≡ true

-- after any number of placements, a placed task has its inputs placed; and in the end every task is placed
abbrev pub PlacedAfterInputs : Type 0
PlacedAfterInputs = (limits : Limits) (policy : ℕ) (arrives : Arrives) (g : TaskGraph) → Sound g → ((t : ℕ) → t < g.tasks → g.size t ≤ limits.memory)
    → (n : ℕ) (s : Seats) → after limits policy arrives g n ≡ Ok s
    → ((k : ℕ) → k < g.edges → placed s (g.to k) ≡ true → placed s (g.from k) ≡ true) × (n ≡ g.tasks → (t : ℕ) → t < g.tasks → placed s t ≡ true)

-- whatever the link answers, a plan keeps the five rules, and the check accepts it with the same graph, limits and link
abbrev pub PlansPass : Type 0
PlansPass = (limits : Limits) (policy : ℕ) (arrives : Arrives) (g : TaskGraph) → Sound g → (s : Seats) → planned limits policy arrives g ≡ Ok s
    → (rows : List Row) → 512 ≤ length rows → Rows (Ok s) rows
    → Rules (job g rows limits arrives) × (checked (length rows) (job g rows limits arrives) ≡ Ok (latest (job g rows limits arrives)))

pub record PlanLaws : Type 0 where
  pub next : NextInWords
  pub lowest : OpenedFromLowest
  pub inputs : PlacedAfterInputs
  pub pass : PlansPass
