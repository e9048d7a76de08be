-- The head of a graph file: the number 1, the task count and the edge count.
use Rattle.std.specs.Prelude.{◌≡◌, ℕ, ◌≤◌, List, ◌++◌, length, drop, Ok, Result}
use Rattle.numbers.specs.Numbers.{coded}
use Rattle.records.specs.declared.fault.RecordFault.{RecordFault}
use Rattle.records.specs.declared.types.Head.{Head}
use Rattle.records.specs.Fields.{and_then, field_at}

abbrev pub head_of : ℕ → ℕ → ℕ → Head
head_of tasks edges next = record { tasks = tasks; edges = edges; next = next }

-- a graph has at most 512 tasks and at most 4096 edges
abbrev pub Few : Head → Type 0
Few h = (h.tasks ≤ 512) × (h.edges ≤ 4096)

-- its bytes
abbrev pub head_bytes : ℕ → ℕ → List ℕ
head_bytes tasks edges = coded 1 ++ (coded tasks ++ coded edges)

-- the file begins with this head, whose counts are within limits
pub record Opens (file : List ℕ) (h : Head) : Type 0 where
  pub few : Few h
  pub bytes : file ≡ head_bytes h.tasks h.edges ++ drop h.next file
  pub long : h.next ≡ length (head_bytes h.tasks h.edges)

-- what is read
unfoldable pub head_at : List ℕ → Result Head RecordFault
head_at file =
    and_then (field_at file 0 1 1)
    (λ kind. and_then (field_at file kind.1 0 512)
    (λ tasks. and_then (field_at file tasks.1 0 4096)
    (λ edges. Ok (head_of tasks.0 edges.0 edges.1))))
