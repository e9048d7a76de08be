-- A plan as its file holds it, and the bytes of that file.
use Rattle.std.specs.Prelude.{◌≡◌, ℕ, ◌^◌, ◌≤◌, List, ◌++◌, length, take}
use Rattle.std.specs.List.{flat_map}
use Rattle.numbers.specs.Numbers.{coded}
use Rattle.graphs.specs.Model.{TaskGraph}
use Rattle.plans.specs.declared.types.Row.{Row}
use Rattle.plans.specs.Jobs.{unlinked}
use Rattle.plans.specs.Rules.{latest, Placed, Early, Each}

-- the number of workers, the length in ticks, and a row for each task
pub record Plan : Type 0 where
  pub workers : ℕ
  pub ticks : ℕ
  pub rows : List Row

-- a file may have 1 to 16 workers
abbrev pub Few : ℕ → Type 0
Few workers = (1 ≤ workers) × (workers ≤ 16)

-- a plan of the graph's tasks that a file may hold: its length is the latest end, and no number is beyond its limit
pub record Fits (g : TaskGraph) (p : Plan) : Type 0 where
  pub few : Few p.workers
  pub short : length p.rows ≤ 512
  pub each : length p.rows ≡ g.tasks
  pub placed : Each (Placed (unlinked g p.rows p.workers 0)) g.tasks
  pub early : Each (Early (unlinked g p.rows p.workers 0)) g.tasks
  pub last : p.ticks ≡ latest (unlinked g p.rows 0 0)
  pub low : p.ticks ≤ 2 ^ 40

-- a row's worker and start
abbrev pub row_bytes : Row → List ℕ
row_bytes r = coded r.worker ++ coded r.start

-- the file's kind, the task count, the workers, the length and the rows
abbrev pub plan_bytes : Plan → List ℕ
plan_bytes p = coded 2 ++ (coded (length p.rows) ++ (coded p.workers ++ (coded p.ticks ++ flat_map row_bytes p.rows)))

-- the plan of the graph's tasks in a table, which may have more rows
abbrev pub plan_of : TaskGraph → List Row → ℕ → Plan
plan_of g rows workers = record { workers = workers; ticks = latest (unlinked g rows 0 0); rows = take g.tasks rows }

abbrev pub plan_file : TaskGraph → List Row → ℕ → List ℕ
plan_file g rows workers = plan_bytes (plan_of g rows workers)
