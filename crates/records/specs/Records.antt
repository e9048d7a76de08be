-- The records of a graph file after its head: the tasks, the edges, and the end.
use Rattle.std.specs.Prelude.{◌≡◌, ℕ, ◌+◌, ◌-◌, ◌^◌, ◌<◌, ◌≤◌, cond, ◌||◌, List, [], ◌++◌, length, drop, Ok, Err, Result, ◌==◌, nat_le, nat_lt}
use Rattle.numbers.specs.Numbers.{coded}
use Rattle.records.specs.declared.fault.RecordFault.{RecordFault}
use Rattle.records.specs.declared.fault.RecordFault.TheVariants.{NoTask, Trailing}
use Rattle.records.specs.declared.types.Head.{Head}
use Rattle.records.specs.declared.types.Record.{Record}
use Rattle.records.specs.declared.types.Record.TheVariants.{Task, Edge, End}
use Rattle.records.specs.Fields.{and_then, map_ok, plain_at, field_at}
use Rattle.records.specs.Names.{name_at, Printable}

-- a record without its loan: a task's name by its offset and its bytes
pub data Item : Type 0 where
  task : (place : ℕ) (name : List ℕ) (time size : ℕ) → Item
  edge : (from to amount : ℕ) → Item
  end : Item

abbrev pub seen : Record → Item
seen (Task name place time size) = task place name.now time size
seen (Edge from to amount) = edge from to amount
seen End = end

abbrev pub record_seen : {E : Type 0} → Result (Record × ℕ) E → Result (Item × ℕ) E
record_seen r = map_ok (λ p. (seen p.0, p.1)) r

-- the same of a record that is read up to `next`
abbrev pub item_seen : {E : Type 0} → Result Record E → ℕ → Result (Item × ℕ) E
item_seen r next = map_ok (λ x. (seen x, next)) r

-- how many records are read after one: the end is not counted
abbrev pub read_after : Item → ℕ → ℕ
read_after (task place name time size) read = read + 1
read_after (edge from to amount) read = read + 1
read_after end read = read

-- ---- which records a file may have, and their bytes

pub record TaskFits (name : List ℕ) (time size : ℕ) : Type 0 where
  pub named : (1 ≤ length name) × (length name ≤ 31)
  pub printable : Printable name
  pub timed : (1 ≤ time) × (time ≤ 2 ^ 20)
  pub sized : size ≤ 2 ^ 24

pub record EdgeFits (tasks from to amount : ℕ) : Type 0 where
  pub start : from < tasks
  pub goal : to < tasks
  pub apart : from ≡ to → ⊥
  pub carried : amount ≤ 2 ^ 20

abbrev pub task_bytes : List ℕ → ℕ → ℕ → List ℕ
task_bytes name time size = coded (length name) ++ (name ++ (coded time ++ coded size))

abbrev pub edge_bytes : ℕ → ℕ → ℕ → List ℕ
edge_bytes from to amount = coded from ++ (coded to ++ coded amount)

abbrev pub item_bytes : Item → List ℕ
item_bytes (task place name time size) = task_bytes name time size
item_bytes (edge from to amount) = edge_bytes from to amount
item_bytes end = []

-- the record that is next after `read` others, where it stands at `at` in a file of so many bytes
abbrev pub Due : Head → ℕ → ℕ → ℕ → Item → Type 0
Due h read len at (task place name time size) = (read < h.tasks) × (place ≡ at + length (coded (length name))) × TaskFits name time size
Due h read len at (edge from to amount) = (h.tasks ≤ read) × (read < h.tasks + h.edges) × EdgeFits h.tasks from to amount
Due h read len at end = (h.tasks + h.edges ≤ read) × (len ≤ at)

-- such a record stands at `at`, with all its bytes, and ends before `next`
pub record Holds (file : List ℕ) (h : Head) (read at : ℕ) (i : Item) (next : ℕ) : Type 0 where
  pub due : Due h read (length file) at i
  pub bytes : drop at file ≡ item_bytes i ++ drop next file
  pub long : next ≡ at + length (item_bytes i)

-- ---- what is read

abbrev pub task_at : List ℕ → ℕ → Result (Item × ℕ) RecordFault
task_at file at =
    and_then (name_at file at)
    (λ n. and_then (field_at file (n.1 + length n.0) 1 (2 ^ 20))
    (λ t. and_then (field_at file t.1 0 (2 ^ 24))
    (λ s. Ok (task n.1 n.0 t.0 s.0, s.1))))

-- an edge is read whole before its ends are judged
abbrev pub joins : ℕ → ℕ → ℕ → ℕ → ℕ × ℕ → Result (Item × ℕ) RecordFault
joins tasks at from to amount = cond (nat_le tasks from || (nat_le tasks to || from == to)) (Err (NoTask at)) (Ok (edge from to amount.0, amount.1))

abbrev pub edge_at : List ℕ → ℕ → ℕ → Result (Item × ℕ) RecordFault
edge_at file tasks at =
    and_then (plain_at file at)
    (λ from. and_then (plain_at file from.1)
    (λ to. and_then (field_at file to.1 0 (2 ^ 20)) (joins tasks at from.0 to.0)))

abbrev pub end_at : List ℕ → ℕ → Result (Item × ℕ) RecordFault
end_at file at = cond (nat_lt at (length file)) (Err (Trailing at)) (Ok (end, at))

-- after `read` records, at `at`: a task while tasks are left, then an edge while edges are left, then the end
unfoldable pub record_at : List ℕ → Head → ℕ → ℕ → Result (Item × ℕ) RecordFault
record_at file h read at =
    cond (nat_lt read h.tasks) (task_at file at)
    (cond (nat_lt (read - h.tasks) h.edges) (edge_at file h.tasks at) (end_at file at))
