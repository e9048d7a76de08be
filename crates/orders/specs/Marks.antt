-- Bits of a table of words of 64 bits, one for each pair of numbers below 512.
use Rattle.std.specs.Prelude.{ℕ, ◌+◌, ◌*◌, ◌/◌, ◌%◌, ◌^◌, Bool, ◌&&◌, List, ◌==◌, nat_lt, slice_index}

-- bit b of the table is 1
abbrev pub marked : List ℕ → ℕ → Bool
marked words b = slice_index words (b / 64) / 2 ^ (b % 64) % 2 == 1

-- both numbers are below 512, and the bit of the pair is 1
abbrev pub joined : List ℕ → ℕ → ℕ → Bool
joined words p q = nat_lt p 512 && (nat_lt q 512 && marked words (p * 512 + q))
