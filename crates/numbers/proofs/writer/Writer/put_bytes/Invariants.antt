use Rattle.std.proofs.Common.{take}
use Rattle.numbers.specs.Writers.{Writes}
use Rattle.numbers.proofs.writer.Writer.put_bytes.Given as goal

abbrev pub invariant-loop-byte : goal.invariant-loop-byte
invariant-loop-byte l = Writes l.initial.self (take l.byte-index l.text) l.self
