-- What links mean: departure tick, sending worker, receiving worker and amount give the tick of arrival.
use Rattle.std.specs.Prelude.{◌≡◌, ℕ, ◌+◌, ◌-◌, ◌*◌, ◌/◌, ◌%◌, ◌^◌, ◌<◌, ◌≤◌, min, cond, ◌&&◌, List, nat_lt, slice_index}

abbrev pub Arrives : Type 0
Arrives = ℕ → ℕ → ℕ → ℕ → ℕ

-- a tick above the ceiling, asked or answered, counts as the ceiling
abbrev pub capped : ℕ → ℕ
capped t = min t (2 ^ 40)

-- a fixed wait, and a wait for each unit of the amount
abbrev pub rate : ℕ → ℕ → Arrives
rate base each t a b m = capped (capped t + base + each * m)

-- the wait from worker a to worker b: 16 rows of 16 entries, and the ceiling for a worker number above 15
abbrev pub entry : List ℕ → ℕ → ℕ → ℕ
entry entries a b = cond (nat_lt a 16 && nat_lt b 16) (slice_index entries (16 * a + b)) (2 ^ 40)

abbrev pub matrix : List ℕ → Arrives
matrix entries t a b m = capped (capped t + entry entries a b)

-- r is the first multiple of the period that is not before t
pub record FirstMultiple (period t r : ℕ) : Type 0 where
  pub multiple : r % period ≡ 0
  pub after : t ≤ r
  pub first : r < t + period

abbrev pub raised : ℕ → ℕ → ℕ
raised period t = ((t + (period - 1)) / period) * period

-- departures wait for the next multiple of the period
abbrev pub slot : ℕ → Arrives → Arrives
slot period below t a b m = below (capped (raised period (capped t))) a b m

-- a wait before the link below is asked, and a wait after its arrival
abbrev pub packing : ℕ → ℕ → Arrives → Arrives
packing pack unpack below t a b m = capped (below (capped (capped t + pack)) a b m + unpack)

-- the laws of every link
pub record Lawful (arrives : Arrives) : Type 0 where
  -- nothing arrives before it departs
  pub after : (t a b m : ℕ) → capped t ≤ arrives t a b m
  pub ceiling : (t a b m : ℕ) → arrives t a b m ≤ 2 ^ 40
  -- a later departure never arrives earlier
  pub monotone : (t u a b m : ℕ) → t ≤ u → arrives t a b m ≤ arrives u a b m
  -- a departure above the ceiling is a departure at the ceiling
  pub capped_asks : (t a b m : ℕ) → arrives t a b m ≡ arrives (capped t) a b m
