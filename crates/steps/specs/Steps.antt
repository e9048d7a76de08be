-- The four steps that choose the worker of a task.
use Rattle.std.specs.Prelude.{ℕ, ◌+◌, ◌^◌, Bool, cond, not, ◌&&◌, Some, None, Ok, Err, Option, Result, nat_le, nat_lt}
use Rattle.scans.specs.Scans.{lowest}
use Rattle.scans.specs.Bids.{best}
use Rattle.scans.specs.declared.Aim.TheVariants.{Smallest, Largest}
use Rattle.graphs.specs.Model.{TaskGraph}
use Rattle.links.specs.Links.{Arrives}
use Rattle.plans.specs.declared.types.Row.{Row}
use Rattle.plans.specs.declared.types.Limits.{Limits}
use Rattle.plans.specs.declared.fault.PlanFault.{PlanFault}
use Rattle.plans.specs.declared.fault.PlanFault.TheVariants.{NoneFits, TooLate}
use Rattle.steps.specs.Seats.{Seats, open_test, free, fits, holds, closed, t_level_of, start_on_worker}

-- the first that there is
abbrev pub or_else : Option ℕ → Option ℕ → Option ℕ
or_else None b = b
or_else (Some a) b = Some a

-- w is open, holds an input of t, fits, and starts t strictly below the level
abbrev pub near_by : ℕ → ℕ → Arrives → TaskGraph → Seats → ℕ → ℕ → Bool
near_by memory level arrives g s t w = open_test g s w && (holds g s t w && (fits memory g s t w && nat_lt (start_on_worker arrives g s t w) level))

-- w is open, fits, is free by the level, and every successor of its tasks is placed or is a successor of t
abbrev pub spent_by : ℕ → ℕ → TaskGraph → Seats → ℕ → ℕ → Bool
spent_by memory level g s t w = open_test g s w && (fits memory g s t w && (nat_le (free g s w) level && closed g s t w))

-- w is open and fits
abbrev pub roomy_by : ℕ → TaskGraph → Seats → ℕ → ℕ → Bool
roomy_by memory g s t w = open_test g s w && fits memory g s t w

-- the lowest unopened worker
abbrev pub unopened : TaskGraph → Seats → ℕ → Option ℕ
unopened g s workers = lowest (λ w. not (open_test g s w)) workers

module _ (limits : Limits) (arrives : Arrives) (g : TaskGraph) (s : Seats) (t : ℕ) where
  -- step 1: of the open workers that hold an input of t, fit, and start t strictly below its t-level, the smallest start
  abbrev pub near : ℕ → Bool
  near w = near_by limits.memory (t_level_of arrives g s t) arrives g s t w

  unfoldable pub step1 : Option ℕ
  step1 = best Smallest near (start_on_worker arrives g s t) limits.workers

  -- step 2: of the open workers that fit, are free by the t-level, and whose tasks' successors are placed or successors of t, the largest free tick
  abbrev pub spent : ℕ → Bool
  spent w = spent_by limits.memory (t_level_of arrives g s t) g s t w

  unfoldable pub step2 : Option ℕ
  step2 = best Largest spent (free g s) limits.workers

  -- step 3: the lowest unopened worker
  unfoldable pub step3 : Option ℕ
  step3 = unopened g s limits.workers

  -- step 4: of the open workers that fit, the smallest free tick
  abbrev pub roomy : ℕ → Bool
  roomy w = roomy_by limits.memory g s t w

  unfoldable pub step4 : Option ℕ
  step4 = best Smallest roomy (free g s) limits.workers

  -- the first step that gives a worker
  unfoldable pub choice : Option ℕ
  choice = or_else step1 (or_else step2 (or_else step3 step4))

  -- the row of t there, or why there is none
  abbrev pub seat_at : Option ℕ → Result Row PlanFault
  seat_at None = Err (NoneFits t)
  seat_at (Some w) = cond (nat_le (start_on_worker arrives g s t w + g.time t) (2 ^ 40)) (Ok (record { worker = w; start = start_on_worker arrives g s t w })) (Err (TooLate t))

  unfoldable pub seat : Result Row PlanFault
  seat = seat_at choice
