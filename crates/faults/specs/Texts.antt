-- The text of a fault.
use Rattle.std.specs.Prelude.{ℕ, List, ◌∷◌, ◌++◌, decimal}
use Rattle.faults.specs.declared.Fault.{Fault}

-- the four numbers in decimal digits, with single spaces (byte 32) between them
abbrev pub numbers_of : Fault → List ℕ
numbers_of f = decimal f.number ++ 32 ∷ decimal f.layer ++ 32 ∷ decimal f.place ++ 32 ∷ decimal f.«record»
