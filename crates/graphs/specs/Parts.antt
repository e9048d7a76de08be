-- The parts of a graph: which are well formed, and how they are written.
use Rattle.std.specs.Prelude.{◌≡◌, ℕ, ◌<◌, ◌≤◌, List, [], ◌∷◌, ◌++◌, length, slice_index_or}
use Rattle.std.specs.List.{flat_map}
use Rattle.edges.specs.declared.edge.Edge.{Edge}
use Rattle.edges.specs.Edges.{no_edge}
use Rattle.orders.specs.PairSets.{Repeats}
use Rattle.orders.specs.Cycles.{AfterCycle}
use Rattle.records.specs.Heads.{head_bytes}
use Rattle.records.specs.Records.{TaskFits, EdgeFits, task_bytes, edge_bytes}
use Rattle.graphs.specs.declared.types.Task.{Task}
use Rattle.graphs.specs.Model.{no_task}

pub record Parts : Type 0 where
  pub tasks : List Task
  pub names : List (List ℕ)
  pub edges : List Edge

abbrev pub parts_over : List Task → List (List ℕ) → List Edge → Parts
parts_over tasks names edges = record { tasks = tasks; names = names; edges = edges }

abbrev pub no_parts : Parts
no_parts = parts_over [] [] []

-- ---- which are well formed

-- each task with its name, and each edge, is within its limits, and no pair is joined twice
pub record Limited (p : Parts) : Type 0 where
  pub few : (length p.tasks ≤ 512) × (length p.edges ≤ 4096)
  pub named : length p.names ≡ length p.tasks
  pub tasks : (t : ℕ) → t < length p.tasks → TaskFits (slice_index_or p.names t []) (slice_index_or p.tasks t no_task).time (slice_index_or p.tasks t no_task).size
  pub edges : (k : ℕ) → k < length p.edges → EdgeFits (length p.tasks) (slice_index_or p.edges k no_edge).from (slice_index_or p.edges k no_edge).to (slice_index_or p.edges k no_edge).amount
  pub single : (j k : ℕ) → Repeats p.edges j k → ⊥

-- and no task lies on a cycle of edges or after one
pub record WellFormed (p : Parts) : Type 0 where
  pub limited : Limited p
  pub acyclic : (t : ℕ) → t < length p.tasks → AfterCycle p.edges t → ⊥

-- ---- how they are written: the head, then each task with its name, then each edge

abbrev pub tasks_bytes : List Task → List (List ℕ) → List ℕ
tasks_bytes [] names = []
tasks_bytes (t ∷ ts) [] = []
tasks_bytes (t ∷ ts) (name ∷ names) = task_bytes name t.time t.size ++ tasks_bytes ts names

abbrev pub edges_bytes : List Edge → List ℕ
edges_bytes es = flat_map (λ (e : Edge). edge_bytes e.from e.to e.amount) es

-- under a head that has so many edges
abbrev pub front_bytes : ℕ → Parts → List ℕ
front_bytes edges p = head_bytes (length p.tasks) edges ++ (tasks_bytes p.tasks p.names ++ edges_bytes p.edges)

unfoldable pub file_bytes : Parts → List ℕ
file_bytes p = front_bytes (length p.edges) p
