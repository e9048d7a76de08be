-- What planning answers, and what it writes.
use Rattle.std.specs.Prelude.{◌≡◌, ℕ, ◌<◌, Bool, cond, ◌&&◌, List, length, Some, None, Ok, Err, Option, Result, nat_le, nat_lt, slice_index, slice_index_or}
use Rattle.scans.specs.Scans.{largest, lowest}
use Rattle.graphs.specs.Model.{TaskGraph}
use Rattle.levels.specs.Levels.{b_level_of}
use Rattle.links.specs.Links.{Arrives}
use Rattle.plans.specs.declared.types.Row.{Row}
use Rattle.plans.specs.declared.types.Limits.{Limits}
use Rattle.plans.specs.declared.fault.PlanFault.{PlanFault}
use Rattle.plans.specs.declared.fault.PlanFault.TheVariants.{ShortTable, Parameter, TooLarge}
use Rattle.plans.specs.Jobs.{no_row}
use Rattle.plans.specs.Checked.{between, bad_limit, unless}
use Rattle.steps.specs.Seats.{Seats, at, end_of}
use Rattle.planner.specs.Turns.{after}

-- the lowest parameter outside its limits: the workers 1, the memory 2, the policy 3
abbrev pub or_policy : Option ℕ → ℕ → Option ℕ
or_policy (Some p) policy = Some p
or_policy None policy = cond (between 1 2 policy) None (Some 3)

abbrev pub bad_parameter : Limits → ℕ → Option ℕ
bad_parameter limits policy = or_policy (bad_limit limits.workers limits.memory) policy

-- the lowest task that alone exceeds the memory
abbrev pub too_large_task : Limits → TaskGraph → Option ℕ
too_large_task limits g = lowest (λ t. nat_lt limits.memory (g.size t)) g.tasks

-- the seats of all tasks, or the first denial
unfoldable pub planned : Limits → ℕ → Arrives → TaskGraph → Result Seats PlanFault
planned limits policy arrives g =
    unless (bad_parameter limits policy) Parameter
    (unless (too_large_task limits g) TooLarge
    (after limits policy arrives g g.tasks))

-- the length: the latest end, or 0
abbrev pub answer : TaskGraph → Result Seats PlanFault → Result ℕ PlanFault
answer g (Ok s) = Ok (largest (end_of g s) g.tasks)
answer g (Err e) = Err e

abbrev pub row_of : Option Row → Row
row_of None = no_row
row_of (Some r) = r

-- the row and the level at each index: 0 past the task count, and 0 everywhere where the plan is denied
abbrev pub row_at : Result Seats PlanFault → ℕ → Row
row_at (Ok s) k = row_of (at s k)
row_at (Err e) k = no_row

abbrev pub level_at : Arrives → TaskGraph → Result Seats PlanFault → ℕ → ℕ
level_at arrives g (Ok s) k = cond (nat_lt k g.tasks) (b_level_of arrives g k) 0
level_at arrives g (Err e) k = 0

abbrev pub Rows : Result Seats PlanFault → List Row → Type 0
Rows o rows = (k : ℕ) → k < length rows → slice_index_or rows k no_row ≡ row_at o k

abbrev pub Levels : Arrives → TaskGraph → Result Seats PlanFault → List ℕ → Type 0
Levels arrives g o levels = (k : ℕ) → k < length levels → slice_index levels k ≡ level_at arrives g o k

-- each table that is lent has its 512 rows
abbrev pub enough : ℕ → ℕ → ℕ → Bool
enough rows levels queue = nat_le 512 rows && (nat_le 512 levels && nat_le 512 queue)

-- the answer of planning, for every input
unfoldable pub planning : Bool → Limits → ℕ → Arrives → TaskGraph → Result ℕ PlanFault
planning tables limits policy arrives g = cond tables (answer g (planned limits policy arrives g)) (Err ShortTable)

-- what planning answers and leaves, where the tables have their rows
pub record Outcome (limits : Limits) (policy : ℕ) (arrives : Arrives) (g : TaskGraph) (r : Result ℕ PlanFault) (rows : List Row) (levels : List ℕ) : Type 0 where
  pub answered : r ≡ answer g (planned limits policy arrives g)
  pub rowed : Rows (planned limits policy arrives g) rows
  pub levelled : Levels arrives g (planned limits policy arrives g) levels

-- the seats of a plan with its rows and levels, or the denial, which says nothing of them
abbrev pub Made : Limits → ℕ → Arrives → TaskGraph → Result ℕ PlanFault → List Row → List ℕ → Type 0
Made limits policy arrives g (Ok n) rows levels = Outcome limits policy arrives g (Ok n) rows levels
Made limits policy arrives g (Err e) rows levels = planned limits policy arrives g ≡ Err e
