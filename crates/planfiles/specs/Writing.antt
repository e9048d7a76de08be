-- What writing a plan file tells, and what it leaves in the buffer.
use Rattle.std.specs.Prelude.{◌≡◌, ℕ, ◌<◌, ◌≤◌, cond, List, ◌++◌, length, drop, Ok, Err, Result, nat_le, nat_lt}
use Rattle.numbers.specs.Texts.{Stands}
use Rattle.graphs.specs.Model.{TaskGraph}
use Rattle.plans.specs.declared.types.Row.{Row}
use Rattle.plans.specs.declared.fault.PlanFault.{PlanFault}
use Rattle.plans.specs.declared.fault.PlanFault.TheVariants.{ShortTable, Parameter, NoWorker, AboveCeiling, ShortBuffer}
use Rattle.plans.specs.Jobs.{unlinked}
use Rattle.plans.specs.Rules.{Placed, InTime, Each, Lowest}
use Rattle.plans.specs.Checked.{between, placed_test, in_time_test, failing, unless}
use Rattle.planfiles.specs.Plans.{Few, plan_file}

-- a plan that can be written: it keeps rules 1 and 2
pub record Writable (g : TaskGraph) (rows : List Row) (workers : ℕ) : Type 0 where
  pub long : 512 ≤ length rows
  pub few : Few workers
  pub placed : Each (Placed (unlinked g rows workers 0)) g.tasks
  pub in_time : Each (InTime (unlinked g rows workers 0)) g.tasks

-- the first test that fails, where there is room for so many bytes
pub data Unwritten (g : TaskGraph) (rows : List Row) (workers room : ℕ) : PlanFault → Type 0 where
  short : length rows < 512 → Unwritten g rows workers room ShortTable
  limit : 512 ≤ length rows → (Few workers → ⊥) → Unwritten g rows workers room (Parameter 1)
  rule1 : (t : ℕ) → 512 ≤ length rows → Few workers → Lowest (Placed (unlinked g rows workers 0)) g.tasks t → Unwritten g rows workers room (NoWorker t)
  rule2 : (t : ℕ) → 512 ≤ length rows → Few workers → Each (Placed (unlinked g rows workers 0)) g.tasks → Lowest (InTime (unlinked g rows workers 0)) g.tasks t → Unwritten g rows workers room (AboveCeiling t)
  buffer : Writable g rows workers → room < length (plan_file g rows workers) → Unwritten g rows workers room (ShortBuffer (length (plan_file g rows workers)))

-- written: the file stands at the front of the buffer; or refused for its reason, and the buffer is as it was
abbrev pub Wrote : TaskGraph → List Row → ℕ → List ℕ → List ℕ → Result ℕ PlanFault → Type 0
Wrote g rows workers was now (Ok n) = Writable g rows workers × Stands (plan_file g rows workers) was now n
Wrote g rows workers was now (Err e) = Unwritten g rows workers (length was) e × (now ≡ was)

-- the same as it is computed: the number of bytes, or the first fault
abbrev pub sized : ℕ → ℕ → Result ℕ PlanFault
sized needed room = cond (nat_le needed room) (Ok needed) (Err (ShortBuffer needed))

unfoldable pub written : TaskGraph → List Row → ℕ → ℕ → Result ℕ PlanFault
written g rows workers room =
    cond (nat_lt (length rows) 512) (Err ShortTable)
    (cond (between 1 16 workers)
    (unless (failing (placed_test (unlinked g rows workers 0)) g.tasks) NoWorker
    (unless (failing (in_time_test (unlinked g rows workers 0)) g.tasks) AboveCeiling
    (sized (length (plan_file g rows workers)) room)))
    (Err (Parameter 1)))

-- the file, and then the later bytes; or all bytes as they were
abbrev pub leaves : List ℕ → List ℕ → Result ℕ PlanFault → List ℕ
leaves text was (Ok n) = text ++ drop (length text) was
leaves text was (Err e) = was
