-- Which bytes are a number, and why others are not: what reading and writing numbers is held to.
use Rattle.std.specs.Prelude.{◌≡◌, ℕ, ◌+◌, ◌-◌, ◌*◌, ◌<◌, ◌≤◌, List, [], ◌∷◌, length, take, drop, Ok, Err, Result, slice_index}
use Rattle.numbers.specs.declared.fault.NumberFault.{NumberFault}
use Rattle.numbers.specs.declared.fault.NumberFault.TheVariants.{Truncated, Malformed}

-- The bytes are a value's: the high bit is set on every byte but the last, a group weighs 128 times the one before,
-- and the groups after the first are worth something, so that none is needless.
pub data Spells : List ℕ → ℕ → Type 0 where
  lone : (b : ℕ) → b < 128 → Spells (b ∷ []) b
  then : (b v : ℕ) (bs : List ℕ) → 128 ≤ b → b < 256 → 0 < v → Spells bs v → Spells (b ∷ bs) (b - 128 + 128 * v)

-- so many bytes from an offset on each announce another
abbrev pub Announce : List ℕ → ℕ → ℕ → Type 0
Announce file at n = (k : ℕ) → k < n → 128 ≤ slice_index file (at + k)

-- No number is at the offset: the file ends first, or a sixth byte announces another, or the last of several groups is 0.
pub data Unread (file : List ℕ) (at : ℕ) : NumberFault → Type 0 where
  ended : (n : ℕ) → n < 6 → Announce file at n → length file ≤ at + n → Unread file at (Truncated (length file))
  overlong : Announce file at 6 → Unread file at (Malformed at)
  needless : (n : ℕ) → 0 < n → n < 6 → Announce file at n → at + n < length file → slice_index file (at + n) ≡ 0 → Unread file at (Malformed at)

-- a number that is read stands there in at most six bytes; a refused one is told for its reason
abbrev pub Told : List ℕ → ℕ → Result (ℕ × ℕ) NumberFault → Type 0
Told file at (Ok p) = Spells (take (p.1 - at) (drop at file)) p.0 × (p.1 ≤ at + 6)
Told file at (Err e) = Unread file at e
