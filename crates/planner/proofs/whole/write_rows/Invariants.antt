use Rattle.std.proofs.Common.{◌≡◌, ℕ, ◌<◌, get_or}
use Rattle.plans.specs.Jobs.{no_row}
use Rattle.steps.specs.Seats.{at}
use Rattle.planner.specs.Plans.{row_of}
use Rattle.planner.proofs.whole.write_rows.Given as goal

abbrev pub invariant-loop-k : goal.invariant-loop-k
invariant-loop-k l = (k : ℕ) → k < l.k → get_or l.rows k no_row ≡ row_of (at l.desk.seats k)
