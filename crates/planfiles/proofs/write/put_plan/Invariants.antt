use Rattle.std.proofs.Common.{take}
use Rattle.std.specs.List.{flat_map}
use Rattle.numbers.specs.Writers.{Writes}
use Rattle.planfiles.specs.Plans.{row_bytes}
use Rattle.planfiles.proofs.write.put_plan.Given as goal

abbrev pub invariant-loop-row : goal.invariant-loop-row
invariant-loop-row l = Writes l.initial.writer (flat_map row_bytes (take l.row-index l.rows)) l.writer
