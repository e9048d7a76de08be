-- A job: a task graph, a plan of it, the limits of the workers, and the link between them.
use Rattle.std.specs.Prelude.{ℕ, List, slice_index_or}
use Rattle.graphs.specs.Model.{TaskGraph}
use Rattle.graphs.specs.Graphs.{model_of}
use Rattle.links.specs.Links.{Arrives}
use Rattle.plans.specs.declared.types.Row.{Row}
use Rattle.plans.specs.declared.types.Limits.{Limits}
use Rattle.plans.specs.declared.types.Plan.{Plan}

pub record Job : Type 0 where
  pub graph : TaskGraph
  pub worker : ℕ → ℕ
  pub start : ℕ → ℕ
  pub workers : ℕ
  pub memory : ℕ
  pub arrives : Arrives

-- what is read past the end of a table
abbrev pub no_row : Row
no_row = record { worker = 0; start = 0 }

abbrev pub job : TaskGraph → List Row → Limits → Arrives → Job
job g rows limits arr = record {
  graph = g;
  worker = λ t. (slice_index_or rows t no_row).worker;
  start = λ t. (slice_index_or rows t no_row).start;
  workers = limits.workers;
  memory = limits.memory;
  arrives = arr;
}

-- where no limit is asked for
abbrev pub no_limits : Limits
no_limits = record { workers = 0; memory = 0 }

-- where no link is asked, by the numbers of the limits
abbrev pub unlinked : TaskGraph → List Row → ℕ → ℕ → Job
unlinked g rows workers memory = job g rows (record { workers = workers; memory = memory }) (λ t a b m. t)

-- what a plan says of its tasks, where neither limits nor a link are asked
abbrev pub placing : Plan → Job
placing p = unlinked (model_of p.graph.now) p.rows.now 0 0
