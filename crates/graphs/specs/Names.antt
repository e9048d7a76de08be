-- The name of a task in the file of its graph, and where it stands there.
use Rattle.std.specs.Prelude.{◌≡◌, ℕ, ◌+◌, cond, ◌⊎◌, List, [], ◌++◌, length, take, Ok, Err, Result, nat_lt, slice_index_or}
use Rattle.std.specs.Borrow.{Bor}
use Rattle.numbers.specs.Numbers.{coded}
use Rattle.records.specs.Fields.{and_then, map_ok, map_err}
use Rattle.records.specs.Heads.{head_bytes}
use Rattle.graphs.specs.declared.fault.GraphFault.TheVariants.{Memory}
use Rattle.graphs.specs.declared.fault.NameFault.{NameFault}
use Rattle.graphs.specs.declared.fault.NameFault.TheVariants.{InGraph, NoTask}
use Rattle.graphs.specs.Parts.{Parts, tasks_bytes}
use Rattle.graphs.specs.Files.{graph_of}

-- the offset of a task: the head and the tasks before it stand ahead of it
unfoldable pub task_place : Parts → ℕ → ℕ
task_place p t = length (head_bytes (length p.tasks) (length p.edges) ++ tasks_bytes (take t p.tasks) (take t p.names))

-- the name of a task, and its offset, after that of its length
abbrev pub name_in : Parts → ℕ → List ℕ × ℕ
name_in p t = (slice_index_or p.names t [], task_place p t + length (coded (length (slice_index_or p.names t []))))

-- the reader's faults come first, and then that there is no such task
unfoldable pub name_of : List ℕ → ℕ → Result (List ℕ × ℕ) NameFault
name_of file t = and_then (map_err InGraph (graph_of file)) (λ p. cond (nat_lt t (length p.tasks)) (Ok (name_in p t)) (Err (NoTask t)))

-- a part of a file by its bytes and its offset
abbrev pub part_seen : {E : Type 0} → Result (Bor (List ℕ) × ℕ) E → Result (List ℕ × ℕ) E
part_seen r = map_ok (λ p. (p.0.now, p.1)) r

-- the answer: a refusal is for want of memory, or the one that is defined
abbrev pub Named : Result (List ℕ × ℕ) NameFault → Result (Bor (List ℕ) × ℕ) NameFault → Type 0
Named g (Ok p) = g ≡ Ok (p.0.now, p.1)
Named g (Err e) = (e ≡ InGraph Memory) ⊎ (g ≡ Err e)
