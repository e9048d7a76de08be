use Rattle.std.proofs.Common.{ℕ, ◌^◌, ◌<◌, ◌≤◌, get_or}
use Rattle.plans.specs.Jobs.{no_row}
use Rattle.planfiles.proofs.Rows.{Turn}
use Rattle.planfiles.proofs.read.read_rows.Given as goal

abbrev pub invariant-loop-k : goal.invariant-loop-k
invariant-loop-k l =
    Turn l.tasks l.file l.head.workers l.head.next l.row-items l.at l.k
    × ((k : ℕ) → k < l.k → (get_or l.row-items k no_row).start ≤ 2 ^ 40)
