-- The four numbers of a number's fault.
use Rattle.std.specs.Prelude.{ℕ}
use Rattle.faults.specs.declared.Fault.{Fault}
use Rattle.faults.specs.Faults.{told}
use Rattle.numbers.specs.declared.fault.NumberFault.{NumberFault}
use Rattle.numbers.specs.declared.fault.NumberFault.TheVariants.{Truncated, Malformed}

-- where so many records were read before
abbrev pub number_tells : NumberFault → ℕ → Fault
number_tells (Truncated place) count = told 2 1 place count
number_tells (Malformed place) count = told 3 1 place count
