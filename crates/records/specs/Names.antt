-- A task's name in a file: its length, 1 to 31, and then that many bytes, each from 33 to 126.
use Rattle.std.specs.Prelude.{ℕ, ◌+◌, ◌-◌, ◌<◌, ◌≤◌, cond, ◌||◌, List, [], ◌∷◌, length, take, drop, Some, None, Ok, Err, Option, Result, nat_lt, slice_index}
use Rattle.std.specs.Borrow.{Bor}
use Rattle.records.specs.declared.fault.RecordFault.{RecordFault}
use Rattle.records.specs.declared.fault.RecordFault.TheVariants.{NameCut, NameByte}
use Rattle.records.specs.Fields.{and_then, map_ok, field_at}

-- each byte is from 33 to 126
abbrev pub Printable : List ℕ → Type 0
Printable name = (k : ℕ) → k < length name → (33 ≤ slice_index name k) × (slice_index name k ≤ 126)

-- the first byte that is not, where the bytes are counted from `k`
abbrev pub outside : ℕ → List ℕ → Option ℕ
outside k [] = None
outside k (b ∷ bs) = cond (nat_lt b 33 || nat_lt 126 b) (Some k) (outside (k + 1) bs)

abbrev pub judged : ℕ → List ℕ → Option ℕ → Result (List ℕ × ℕ) RecordFault
judged start name None = Ok (name, start)
judged start name (Some k) = Err (NameByte (start + k))

-- so many bytes of the file from `start` on: a name that the file cuts short is refused first
abbrev pub whole_at : List ℕ → ℕ × ℕ → Result (List ℕ × ℕ) RecordFault
whole_at file p =
    cond (nat_lt (length file - p.1) p.0) (Err (NameCut (length file)))
    (judged p.1 (take p.0 (drop p.1 file)) (outside 0 (take p.0 (drop p.1 file))))

-- the name whose length is at `at`, with its own offset
unfoldable pub name_at : List ℕ → ℕ → Result (List ℕ × ℕ) RecordFault
name_at file at = and_then (field_at file at 1 31) (whole_at file)

-- a part of a file by its bytes and its offset
abbrev pub name_seen : Result (Bor (List ℕ) × ℕ) RecordFault → Result (List ℕ × ℕ) RecordFault
name_seen r = map_ok (λ p. (p.0.now, p.1)) r
