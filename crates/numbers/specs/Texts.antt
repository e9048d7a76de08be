-- A text written into lent bytes.
use Rattle.std.specs.Prelude.{◌≡◌, ℕ, ◌+◌, ◌-◌, ◌^◌, ◌≤◌, min, List, ◌++◌, length, drop}
use Rattle.std.proofs.lemmas.List.Edits.{sets}

-- the offset after a text that begins at `from`, or the largest offset there is
abbrev pub after : ℕ → List ℕ → ℕ
after from text = min (from + length text) (2 ^ 64 - 1)

-- the text was written from `from` on, as far as the bytes go, all other bytes stay, and the offset after it is `to`
pub record Puts (was : List ℕ) (from : ℕ) (text now : List ℕ) (to : ℕ) : Type 0 where
  pub bytes : now ≡ sets was from text
  pub place : to ≡ after from text

-- the whole text stands at the front, n bytes, and the later bytes stay
pub record Stands (text was now : List ℕ) (n : ℕ) : Type 0 where
  pub count : n ≡ length text
  pub room : length text ≤ length was
  pub bytes : now ≡ text ++ drop (length text) was
