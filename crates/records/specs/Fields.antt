-- A number within limits.
use Rattle.std.specs.Prelude.{ℕ, cond, ◌||◌, List, Ok, Err, Result, nat_lt}
use Rattle.numbers.specs.Numbers.{number_at}
use Rattle.records.specs.declared.fault.RecordFault.{RecordFault}
use Rattle.records.specs.declared.fault.RecordFault.TheVariants.{InNumber, Limit}

-- what is read after a part, which is refused where the part is
abbrev pub and_then : {A B E : Type 0} → Result A E → (A → Result B E) → Result B E
and_then (Ok x) next = next x
and_then (Err e) next = Err e

-- a result with its value or its fault under another form
abbrev pub map_ok : {A B E : Type 0} → (A → B) → Result A E → Result B E
map_ok f (Ok x) = Ok (f x)
map_ok f (Err e) = Err e

abbrev pub map_err : {A E F : Type 0} → (E → F) → Result A E → Result A F
map_err f (Ok x) = Ok x
map_err f (Err e) = Err (f e)

-- any number, and the offset after it
abbrev pub plain_at : List ℕ → ℕ → Result (ℕ × ℕ) RecordFault
plain_at file at = map_err InNumber (number_at file at)

abbrev pub limited : ℕ → ℕ → ℕ → ℕ × ℕ → Result (ℕ × ℕ) RecordFault
limited at low high p = cond (nat_lt p.0 low || nat_lt high p.0) (Err (Limit at)) (Ok p)

-- a number from `low` to `high`, and the offset after it
unfoldable pub field_at : List ℕ → ℕ → ℕ → ℕ → Result (ℕ × ℕ) RecordFault
field_at file at low high = and_then (plain_at file at) (limited at low high)
