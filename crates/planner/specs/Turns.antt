-- The order of placing: the ready task of highest rank is placed next, as often as there are tasks.
use Rattle.std.specs.Prelude.{ℕ, zero, suc, ◌+◌, Bool, cond, not, ◌&&◌, ◌||◌, Some, None, Ok, Err, Option, Result, ◌==◌, slice_set}
use Rattle.scans.specs.Scans.{every}
use Rattle.scans.specs.Bids.{best}
use Rattle.scans.specs.declared.Aim.TheVariants.{Largest}
use Rattle.graphs.specs.Model.{TaskGraph}
use Rattle.levels.specs.Levels.{b_level_of}
use Rattle.links.specs.Links.{Arrives}
use Rattle.plans.specs.declared.types.Row.{Row}
use Rattle.plans.specs.declared.types.Limits.{Limits}
use Rattle.plans.specs.declared.fault.PlanFault.{PlanFault}
use Rattle.steps.specs.Seats.{Seats, nobody, placed, t_level_of}
use Rattle.steps.specs.Steps.{seat}

-- edge k does not keep t from being ready
abbrev pub brings : TaskGraph → Seats → ℕ → ℕ → Bool
brings g s t k = not (g.to k == t) || placed s (g.from k)

-- a task is ready when it is not placed and all its inputs are
unfoldable pub ready : TaskGraph → Seats → ℕ → Bool
ready g s t = not (placed s t) && every (brings g s t) g.edges

-- policy 1 ranks by t-level plus b-level, policy 2 by b-level
unfoldable pub rank : ℕ → Arrives → TaskGraph → Seats → ℕ → ℕ
rank policy arrives g s t = cond (policy == 1) (t_level_of arrives g s t) 0 + b_level_of arrives g t

-- the ready task of highest rank, the lowest number on ties
unfoldable pub next : ℕ → Arrives → TaskGraph → Seats → Option ℕ
next policy arrives g s = best Largest (ready g s) (rank policy arrives g s) g.tasks

-- a task takes its row, or the plan is denied
abbrev pub put : Seats → ℕ → Result Row PlanFault → Result Seats PlanFault
put s t (Err e) = Err e
put s t (Ok r) = Ok (slice_set s t (Some r))

module _ (limits : Limits) (policy : ℕ) (arrives : Arrives) (g : TaskGraph) where
  abbrev pub place : Seats → Option ℕ → Result Seats PlanFault
  place s None = Ok s
  place s (Some t) = put s t (seat limits arrives g s t)

  -- one placement
  abbrev pub turn : Seats → Result Seats PlanFault
  turn s = place s (next policy arrives g s)

  abbrev pub go_on : Result Seats PlanFault → Result Seats PlanFault
  go_on (Err e) = Err e
  go_on (Ok s) = turn s

  -- after n placements
  abbrev pub after : ℕ → Result Seats PlanFault
  after zero = Ok nobody
  after (suc n) = go_on (after n)
