use Rattle.std.proofs.Common.{arith}
use Rattle.numbers.proofs.Writers.{writes_take}
use Rattle.numbers.proofs.writer.Writer.put_bytes.Goals as goal

pub loop-byte-preserved : goal.loop-byte-preserved
loop-byte-preserved c = writes_take c.args.text.now c.loop-byte.byte-index 0 (omega arith) (omega arith) c.loop-byte.invariant c.put.ensures
