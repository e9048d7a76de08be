-- What a writer writes into the slice that it was lent.
use Rattle.std.specs.Prelude.{◌≡◌, ℕ, List, length}
use Rattle.numbers.specs.declared.writer.Writer.{Writer}
use Rattle.numbers.specs.Texts.{Puts}

-- the text was written next, into the same lent slice
pub record Writes (was : Writer) (text : List ℕ) (now : Writer) : Type 0 where
  pub same : now.out.ghost_name ≡ was.out.ghost_name
  pub long : length now.out.now ≡ length was.out.now
  pub puts : Puts was.out.now was.at text now.out.now now.at
