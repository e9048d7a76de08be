-- The state of planning between two placements.
use Rattle.std.specs.Prelude.{ℕ, ◌<◌, ◌≤◌}
use Rattle.graphs.specs.Model.{TaskGraph}
use Rattle.heaps.specs.Heaps.{ReadyHeap}
use Rattle.links.specs.Links.{Arrives}
use Rattle.plans.specs.declared.types.Limits.{Limits}
use Rattle.steps.specs.Seats.{Seats}
use Rattle.planner.specs.Goods.{Good}
use Rattle.planner.specs.Turns.{ready, rank}
use Rattle.planner.specs.Queues.{Waiting}

-- what is placed keeps the rules, and the heap holds the ready tasks
pub record Going (limits : Limits) (policy : ℕ) (arrives : Arrives) (g : TaskGraph) (s : Seats) (h : ReadyHeap) : Type 0 where
  pub few : g.tasks ≤ 512
  pub workers : limits.workers ≤ 16
  pub small : (t : ℕ) → t < g.tasks → g.size t ≤ limits.memory
  pub good : Good limits arrives g s
  pub lined : Waiting (ready g s) (rank policy arrives g s) g.tasks h
