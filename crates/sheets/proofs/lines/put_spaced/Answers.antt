use Rattle.std.proofs.Common.{arith, lit<}
use Rattle.std.proofs.lemmas.Fmt.{length-decimal-le}
use Rattle.numbers.proofs.Writers.{writes_next}
use Rattle.sheets.proofs.lines.put_spaced.Goals as goal

pub returns : goal.returns
returns c = record {
  writes = writes_next (omega arith) c.put_decimal.ensures c.put.ensures;
  short = length-decimal-le 20 c.args.value (lit< tt) (omega arith) (omega arith);
}
