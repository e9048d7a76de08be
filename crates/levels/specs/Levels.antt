-- The level of a task: its time plus the longest way on from it, over the times of tasks and the nominal costs of edges.
use Rattle.std.specs.Prelude.{◌≡◌, ℕ, zero, suc, ◌+◌, ◌<◌, ◌≤◌, cond, ◌⊎◌, ◌==◌, nat_lt}
use Rattle.scans.specs.Scans.{largest}
use Rattle.graphs.specs.Model.{TaskGraph, Known, Acyclic}
use Rattle.links.specs.Links.{Arrives}

-- the nominal cost of an edge: departure 0, worker 0 to worker 1
abbrev pub nominal : Arrives → TaskGraph → ℕ → ℕ
nominal arrives g k = arrives 0 0 1 (g.amount k)

-- the nominal cost of edge k and the level of the task that it leads to, if it leads out of t
abbrev pub way_on : Arrives → TaskGraph → (ℕ → ℕ) → ℕ → ℕ → ℕ
way_on arrives g level t k = cond (g.from k == t) (nominal arrives g k + level (g.to k)) 0

-- the time of t plus the largest, over its successors, of nominal cost plus level; or its time alone
unfoldable pub level_of_task : Arrives → TaskGraph → (ℕ → ℕ) → ℕ → ℕ
level_of_task arrives g level t = g.time t + largest (way_on arrives g level t) g.edges

-- each task has the level that its successors' levels give it
abbrev pub Levels : Arrives → TaskGraph → (ℕ → ℕ) → Type 0
Levels arrives g level = (t : ℕ) → t < g.tasks → level t ≡ level_of_task arrives g level t

-- the same with no scan: no way on from t is longer than its level, and its level is its time alone, or one way on is as long
pub record Longest (arrives : Arrives) (g : TaskGraph) (level : ℕ → ℕ) (t : ℕ) : Type 0 where
  pub above : (k : ℕ) → k < g.edges → g.from k ≡ t → g.time t + (nominal arrives g k + level (g.to k)) ≤ level t
  pub reached : (level t ≡ g.time t) ⊎ ((k : ℕ) × (k < g.edges) × (g.from k ≡ t) × (level t ≡ g.time t + (nominal arrives g k + level (g.to k))))

-- the level of t over ways of at most n tasks
abbrev pub level_in : Arrives → TaskGraph → ℕ → ℕ → ℕ
level_in arrives g zero t = 0
level_in arrives g (suc n) t = level_of_task arrives g (level_in arrives g n) t

-- with no cycle, no way has more tasks than the graph
unfoldable pub b_level_of : Arrives → TaskGraph → ℕ → ℕ
b_level_of arrives g t = level_in arrives g g.tasks t

-- the levels as a table of any length: 0 past the tasks
abbrev pub level_at : Arrives → TaskGraph → ℕ → ℕ
level_at arrives g k = cond (nat_lt k g.tasks) (b_level_of arrives g k) 0

-- in a graph with no cycle the levels are what `b_level_of` says, and nothing else
abbrev pub LevelsAreUnique : Type 0
LevelsAreUnique = (arrives : Arrives) (g : TaskGraph) → Known g → Acyclic g
    → Levels arrives g (b_level_of arrives g) × ((level : ℕ → ℕ) → Levels arrives g level → (t : ℕ) → t < g.tasks → level t ≡ b_level_of arrives g t)
