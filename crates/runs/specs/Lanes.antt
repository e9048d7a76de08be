-- The order of a lane: who follows whom, and that tasks are done in that order.
use Rattle.std.specs.Prelude.{◌≡◌, ℕ, ◌<◌, Bool, true, false, ◌&&◌, List, Option, ◌==◌, ◌≢◌, nat_lt}
use Rattle.scans.specs.Bids.{best}
use Rattle.scans.specs.declared.Aim.TheVariants.{Smallest}
use Rattle.edges.specs.declared.edge.Edge.{Edge}
use Rattle.graphs.specs.declared.types.Task.{Task}
use Rattle.graphs.specs.Model.{model}
use Rattle.plans.specs.declared.types.Row.{Row}
use Rattle.plans.specs.Jobs.{Job, unlinked}
use Rattle.runs.specs.Runs.{Spans, done_test}

-- a plan with no limits and no link
abbrev pub plan_of : List Task → List Edge → List Row → Job
plan_of tasks edges rows = unlinked (model tasks edges) rows 0 0

-- u comes after t in its lane
abbrev pub after_test : Job → ℕ → ℕ → Bool
after_test j t u = j.worker u == j.worker t && nat_lt (j.start t) (j.start u)

-- the task that follows t: the first of those after it in its lane
unfoldable pub follower : Job → ℕ → Option ℕ
follower j t = best Smallest (after_test j t) j.start j.graph.tasks

-- t and u are two tasks of a lane that start at one tick
abbrev pub Tied : Job → ℕ → ℕ → Type 0
Tied j t u = (t < j.graph.tasks) × (u < j.graph.tasks) × (t ≢ u) × (j.worker t ≡ j.worker u) × (j.start t ≡ j.start u)

-- u is done, and t before it in its lane is not
abbrev pub Passed : Job → Spans → ℕ → ℕ → Type 0
Passed j s t u = (t < j.graph.tasks) × (u < j.graph.tasks) × (j.worker t ≡ j.worker u) × (j.start t < j.start u) × (done_test s t ≡ false) × (done_test s u ≡ true)
