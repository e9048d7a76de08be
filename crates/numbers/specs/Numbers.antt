-- A number's bytes: groups of seven bits, lowest first, one byte each, with the high bit set on every byte but the last.
use Rattle.std.specs.Prelude.{ℕ, zero, suc, ◌+◌, ◌-◌, ◌*◌, ◌/◌, ◌%◌, Bool, true, false, cond, not, ◌&&◌, List, [], ◌∷◌, length, drop, Ok, Err, Result, ◌==◌, nat_lt}
use Rattle.numbers.specs.declared.fault.NumberFault.{NumberFault}
use Rattle.numbers.specs.declared.fault.NumberFault.TheVariants.{Truncated, Malformed}

-- the bytes of a value in at most so many groups
abbrev pub groups : ℕ → ℕ → List ℕ
groups zero v = []
groups (suc n) v = cond (nat_lt v 128) (v ∷ []) ((128 + v % 128) ∷ groups n (v / 128))

-- the bytes of a value below 2 ^ 70; six groups suffice below 2 ^ 42
unfoldable pub coded : ℕ → List ℕ
coded v = groups 10 v

-- what stands at the front of a list: a value in so many bytes, or a number that the list cuts short, or none
pub data Front : Type 0 where
  is : ℕ → ℕ → Front
  short : Front
  bad : Front

-- a group, and then the others
abbrev pub more : ℕ → Front → Front
more g (is v n) = is (g + 128 * v) (n + 1)
more g short = short
more g bad = bad

-- the last group: needless where it is 0 and not the first
abbrev pub last : Bool → ℕ → Front
last first b = cond (b == 0 && not first) bad (is b 1)

-- at most so many groups, the first of the number or a later one
abbrev pub decode : ℕ → Bool → List ℕ → Front
decode zero first bs = bad
decode (suc left) first [] = short
decode (suc left) first (b ∷ bs) = cond (nat_lt b 128) (last first b) (more (b - 128) (decode left false bs))

-- in a file of so many bytes: a number that begins at `start`, of which the front at `at` is read
abbrev pub placed : ℕ → ℕ → ℕ → Front → Result (ℕ × ℕ) NumberFault
placed len start at (is v n) = Ok (v, at + n)
placed len start at short = Err (Truncated len)
placed len start at bad = Err (Malformed start)

abbrev pub groups_at : List ℕ → ℕ → ℕ → ℕ → Bool → Result (ℕ × ℕ) NumberFault
groups_at file start at left first = placed (length file) start at (decode left first (drop at file))

-- the number at an offset, and the offset after it: one to six groups
unfoldable pub number_at : List ℕ → ℕ → Result (ℕ × ℕ) NumberFault
number_at file at = groups_at file at at 6 true
