-- The four numbers that a refusal tells.
use Rattle.std.specs.Prelude.{ℕ}
use Rattle.faults.specs.declared.Fault.{Fault}

-- number, layer, place and record
abbrev pub told : ℕ → ℕ → ℕ → ℕ → Fault
told number layer place count = record { number = number; layer = layer; place = place; «record» = count }

-- a refusal of the plan's layer has no record
abbrev pub in_plan : ℕ → ℕ → Fault
in_plan number place = told number 4 place 0
