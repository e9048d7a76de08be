-- The sheet of a plan: its text, and the law of its lines.
use Rattle.std.specs.Prelude.{◌≡◌, ℕ, ◌<◌, ◌⊎◌, List, [], map, length, slice_index_or}
use Rattle.std.specs.List.{range_with_len, flat_map}
use Rattle.std.specs.List.Sorted.{IsPermutation}
use Rattle.graphs.specs.declared.types.Name.{Name}
use Rattle.graphs.specs.Graphs.{spelled}
use Rattle.heaps.specs.declared.entries.Line.{Line}
use Rattle.heaps.specs.Orders.{ordered}
use Rattle.heaps.specs.Entries.{above}
use Rattle.plans.specs.Jobs.{Job}
use Rattle.plans.specs.Rules.{end}
use Rattle.sheets.specs.Lines.{line_text}

-- the text of the line of task t
abbrev pub task_text : Job → List Name → ℕ → List ℕ
task_text j names t = line_text (j.start t) (end j t) (j.worker t) (slice_index_or (map spelled names) t [])

-- the line of task t
abbrev pub line_of : Job → ℕ → Line
line_of j t = record { start = j.start t; worker = j.worker t; task = t }

-- the lines of the first n tasks, by task number
abbrev pub lined : Job → ℕ → List Line
lined j n = map (line_of j) (range_with_len 0 n)

-- the lines of all tasks, by start, then by worker
abbrev pub lines_of : Job → List Line
lines_of j = ordered above (lined j j.graph.tasks)

-- the texts of some lines, one after the other
abbrev pub lines_text : Job → List Name → List Line → List ℕ
lines_text j names lines = flat_map (λ l. task_text j names l.task) lines

-- the text of a sheet
unfoldable pub sheet_text : Job → List Name → List ℕ
sheet_text j names = lines_text j names (lines_of j)

-- a starts earlier than b, or at the same tick on a lower worker
abbrev pub Before : Line → Line → Type 0
Before a b = (a.start < b.start) ⊎ ((a.start ≡ b.start) × (a.worker < b.worker))

-- a sheet has the line of each task once, and each line comes before those below it
pub record Sheet (j : Job) (names : List Name) (text : List ℕ) : Type 0 where
  pub lines : List Line
  pub each : IsPermutation (lined j j.graph.tasks) lines
  pub rises : (i k : ℕ) (d : Line) → i < k → k < length lines → Before (slice_index_or lines i d) (slice_index_or lines k d)
  pub is : text ≡ lines_text j names lines
