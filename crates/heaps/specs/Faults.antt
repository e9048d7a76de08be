-- What the refusal of a full heap tells.
use Rattle.std.specs.Prelude.{◌+◌, ◌-◌, ◌^◌, min}
use Rattle.faults.specs.declared.Fault.{Fault}
use Rattle.faults.specs.Faults.{in_plan}
use Rattle.heaps.specs.declared.full.HeapFull.{HeapFull}

-- number 1, and as its place the table's rows plus 1, or the greatest number of 64 bits where that passes it
abbrev pub full_tells : HeapFull → Fault
full_tells e = in_plan 1 (min (e.rows + 1) (2 ^ 64 - 1))
