-- What reading a plan file tells, and what it leaves in the table.
use Rattle.std.specs.Prelude.{◌≡◌, ℕ, zero, suc, ◌+◌, ◌-◌, ◌^◌, ◌≤◌, cond, List, [], ◌∷◌, ◌++◌, length, replicate, IfOk, Ok, Err, Result, ◌==◌, nat_lt}
use Rattle.records.specs.Faults.{counted}
use Rattle.records.specs.declared.fault.RecordFault.{RecordFault}
use Rattle.records.specs.declared.fault.RecordFault.TheVariants.{Trailing}
use Rattle.records.specs.Fields.{and_then, map_ok, map_err, field_at}
use Rattle.graphs.specs.Model.{TaskGraph}
use Rattle.plans.specs.declared.types.Row.{Row}
use Rattle.plans.specs.declared.fault.PlanFault.{PlanFault}
use Rattle.plans.specs.declared.fault.PlanFault.TheVariants.{ShortTable, InRecord, NotOfGraph}
use Rattle.plans.specs.Jobs.{no_row, unlinked}
use Rattle.plans.specs.Rules.{latest}
use Rattle.planfiles.specs.declared.head.Head.{Head}
use Rattle.planfiles.specs.Plans.{Plan, Fits, plan_bytes}

-- what the caller is told of a plan: its workers and its length
abbrev pub answer_of : Plan → ℕ × ℕ
answer_of p = (p.workers, p.ticks)

-- the rows at the front of a table of n rows, and rows of 0 after them
abbrev pub padded : ℕ → List Row → List Row
padded n rows = rows ++ replicate (n - length rows) no_row

-- A file is accepted exactly where it is the file of a plan of the graph's tasks within the limits of files,
-- and then that plan stands in the table, before rows of 0.
pub record Accepts (g : TaskGraph) (file : List ℕ) (was now : List Row) (r : Result (ℕ × ℕ) PlanFault) : Type 0 where
  pub kept : (p : Plan) → 512 ≤ length was → Fits g p → file ≡ plan_bytes p → r ≡ Ok (answer_of p)
  pub only : IfOk r (λ a. (p : Plan) × Fits g p × (file ≡ plan_bytes p) × (a ≡ answer_of p) × (now ≡ padded (length was) p.rows))

-- ---- what is read, from left to right

-- a fault of a number, where so many rows were read before
abbrev pub in_row : ℕ → RecordFault → PlanFault
in_row count e = InRecord (counted count e)

abbrev pub row_of : ℕ → ℕ → Row
row_of worker start = record { worker = worker; start = start }

-- a worker below the number of workers, and a start that is not above the ceiling
unfoldable pub row_at : List ℕ → ℕ → ℕ → Result (Row × ℕ) RecordFault
row_at file workers at =
    and_then (field_at file at 0 (workers - 1))
    (λ worker. and_then (field_at file worker.1 0 (2 ^ 40))
    (λ start. Ok (row_of worker.0 start.0, start.1)))

abbrev pub ahead : Row → List Row × ℕ → List Row × ℕ
ahead r q = (r ∷ q.0, q.1)

-- n rows after `count` others, and the offset after them
abbrev pub rows_at : ℕ → List ℕ → ℕ → ℕ → ℕ → Result (List Row × ℕ) PlanFault
rows_at zero file workers count at = Ok ([], at)
rows_at (suc n) file workers count at =
    and_then (map_err (in_row count) (row_at file workers at))
    (λ p. map_ok (ahead p.0) (rows_at n file workers (count + 1) p.1))

abbrev pub head_of : ℕ → ℕ → ℕ → ℕ → Head
head_of workers ticks place next = record { workers = workers; ticks = ticks; place = place; next = next }

abbrev pub head_field : List ℕ → ℕ → ℕ → ℕ → Result (ℕ × ℕ) PlanFault
head_field file at low high = map_err (in_row 0) (field_at file at low high)

-- the workers and the length
abbrev pub limits_at : List ℕ → ℕ → Result Head PlanFault
limits_at file at =
    and_then (head_field file at 1 16)
    (λ workers. and_then (head_field file workers.1 0 (2 ^ 40))
    (λ ticks. Ok (head_of workers.0 ticks.0 workers.1 ticks.1)))

-- what stands before the rows of a plan of so many tasks
unfoldable pub head_at : List ℕ → ℕ → Result Head PlanFault
head_at file tasks =
    and_then (head_field file 0 2 2)
    (λ kind. and_then (head_field file kind.1 0 512)
    (λ count. cond (count.0 == tasks) (limits_at file count.1) (Err (NotOfGraph kind.1))))

-- after the rows: bytes that follow, and then a length that is not the latest end
abbrev pub closed : TaskGraph → List ℕ → Head → List Row × ℕ → Result Plan PlanFault
closed g file h q =
    cond (nat_lt q.1 (length file)) (Err (in_row g.tasks (Trailing q.1)))
    (cond (h.ticks == latest (unlinked g q.0 0 0))
    (Ok (record { workers = h.workers; ticks = h.ticks; rows = q.0 }))
    (Err (NotOfGraph h.place)))

-- the plan of the graph's tasks that a file holds, or its first fault
unfoldable pub plan_at : TaskGraph → List ℕ → Result Plan PlanFault
plan_at g file =
    and_then (head_at file g.tasks)
    (λ h. and_then (rows_at g.tasks file h.workers 0 h.next) (closed g file h))

-- ---- the answer, and the table afterwards

abbrev pub answered : ℕ → TaskGraph → List ℕ → Result (ℕ × ℕ) PlanFault
answered rows g file = cond (nat_lt rows 512) (Err ShortTable) (map_ok answer_of (plan_at g file))

-- the table of n rows that a read leaves: all rows are 0 where the file is refused
abbrev pub table_of : ℕ → Result Plan PlanFault → List Row
table_of n (Ok p) = padded n p.rows
table_of n (Err e) = replicate n no_row

-- a table that is too short stays as it was
abbrev pub filled : List Row → TaskGraph → List ℕ → List Row
filled was g file = cond (nat_lt (length was) 512) was (table_of (length was) (plan_at g file))

-- ---- what the parts of the reader tell

-- n rows of a table hold the rows that were read and then rows of 0, and the answer is the offset after them
abbrev pub Filled : ℕ → Result (List Row × ℕ) PlanFault → Result ℕ PlanFault → List Row → Type 0
Filled n (Ok q) r now = (r ≡ Ok q.1) × (now ≡ padded n q.0)
Filled n (Err e) r now = r ≡ Err e

abbrev pub Loaded : ℕ → Result Plan PlanFault → Result (ℕ × ℕ) PlanFault → List Row → Type 0
Loaded n (Ok p) r now = (r ≡ Ok (answer_of p)) × (now ≡ padded n p.rows)
Loaded n (Err e) r now = r ≡ Err e
