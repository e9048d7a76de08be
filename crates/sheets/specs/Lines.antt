-- The lines that are written: one of a sheet, and one that tells a denial.
use Rattle.std.specs.Prelude.{ℕ, List, [], ◌∷◌, ◌++◌, decimal}
use Rattle.faults.specs.declared.Fault.{Fault}

-- a number in decimals, and a space
abbrev pub spaced : ℕ → List ℕ
spaced n = decimal n ++ 32 ∷ []

-- a line of a sheet: start, end, worker and name, and byte 10 at the end
abbrev pub line_text : ℕ → ℕ → ℕ → List ℕ → List ℕ
line_text start end worker name = spaced start ++ spaced end ++ spaced worker ++ name ++ 10 ∷ []

-- the word "denied" and a space
abbrev pub denied : List ℕ
denied = 100 ∷ 101 ∷ 110 ∷ 105 ∷ 101 ∷ 100 ∷ 32 ∷ []

-- the line of a denial: that word, then number, layer, place and record, and byte 10 at the end
abbrev pub denial_text : Fault → List ℕ
denial_text f = denied ++ spaced f.number ++ spaced f.layer ++ spaced f.place ++ decimal f.«record» ++ 10 ∷ []
