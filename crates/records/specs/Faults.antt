-- The four numbers of a record's fault.
use Rattle.std.specs.Prelude.{ℕ, Ok, Err, Result}
use Rattle.faults.specs.declared.Fault.{Fault}
use Rattle.faults.specs.Faults.{told}
use Rattle.numbers.specs.Faults.{number_tells}
use Rattle.records.specs.declared.fault.RecordFault.{RecordFault}
use Rattle.records.specs.declared.fault.RecordFault.TheVariants.{InNumber, NameCut, Limit, NameByte, NoTask, Trailing}
use Rattle.records.specs.declared.fault.Counted.{Counted}

-- where so many records were read before; a file that ends too soon is a fault of the first layer
abbrev pub record_tells : RecordFault → ℕ → Fault
record_tells (InNumber fault) count = number_tells fault count
record_tells (NameCut place) count = told 2 1 place count
record_tells (Limit place) count = told 4 2 place count
record_tells (NameByte place) count = told 5 2 place count
record_tells (NoTask place) count = told 6 2 place count
record_tells (Trailing place) count = told 8 2 place count

-- a result with that number at its fault
abbrev pub counted : ℕ → RecordFault → Counted
counted count e = record { fault = e; «record» = count }

abbrev pub counted_by : {T : Type 0} → ℕ → Result T RecordFault → Result T Counted
counted_by count (Ok x) = Ok x
counted_by count (Err e) = Err (counted count e)
