-- A task graph as numbers and functions: what planner, check, files and run speak of.
use Rattle.std.specs.Prelude.{ℕ, ◌^◌, ◌<◌, ◌≤◌, List, length, slice_index_or}
use Rattle.edges.specs.declared.edge.Edge.{Edge}
use Rattle.edges.specs.Edges.{no_edge}
use Rattle.graphs.specs.declared.types.Task.{Task}

pub record TaskGraph : Type 0 where
  pub tasks : ℕ
  pub edges : ℕ
  pub time : ℕ → ℕ
  pub size : ℕ → ℕ
  pub from : ℕ → ℕ
  pub to : ℕ → ℕ
  pub amount : ℕ → ℕ

abbrev pub no_task : Task
no_task = record { time = 0; size = 0 }

abbrev pub model : List Task → List Edge → TaskGraph
model ts es = record {
  tasks = length ts;
  edges = length es;
  time = λ t. (slice_index_or ts t no_task).time;
  size = λ t. (slice_index_or ts t no_task).size;
  from = λ k. (slice_index_or es k no_edge).from;
  to = λ k. (slice_index_or es k no_edge).to;
  amount = λ k. (slice_index_or es k no_edge).amount;
}

-- both ends of each edge are tasks
abbrev pub Known : TaskGraph → Type 0
Known g = (k : ℕ) → k < g.edges → (g.from k < g.tasks) × (g.to k < g.tasks)

-- no way along edges leads back: each edge goes from a lesser height to a greater one
pub record Acyclic (g : TaskGraph) : Type 0 where
  pub height : ℕ → ℕ
  pub low : (t : ℕ) → t < g.tasks → height t < g.tasks
  pub up : (k : ℕ) → k < g.edges → height (g.from k) < height (g.to k)

-- what holds of every graph: its limits, edges between its tasks, and no cycle
pub record Sound (g : TaskGraph) : Type 0 where
  pub few : g.tasks ≤ 512
  pub few_edges : g.edges ≤ 4096
  pub times : (t : ℕ) → g.time t ≤ 2 ^ 20
  pub lasting : (t : ℕ) → t < g.tasks → 1 ≤ g.time t
  pub sizes : (t : ℕ) → g.size t ≤ 2 ^ 24
  pub amounts : (k : ℕ) → g.amount k ≤ 2 ^ 20
  pub known : Known g
  pub acyclic : Acyclic g
