use Rattle.std.proofs.Common.{arith}
use Rattle.numbers.proofs.Writers.{decimal_more, decimal_one}
use Rattle.numbers.proofs.writer.Writer.+put_decimal.Goals as goal
use Rattle.numbers.proofs.writer.Writer.+put_decimal.Goals.{then-value-ge10, else-value-ge10}

pub returns : goal.returns
returns t c =
    elim c.if-value-ge10.branch [
      | then-value-ge10 w ↦
          decimal_more c.args.value (omega arith) w.if-value-ge10.true (omega arith) w.put_decimal.ensures (rw w.self-is at c.put.ensures)
      | else-value-ge10 w ↦ decimal_one c.args.value w.if-value-ge10.false (rw w.self-is at c.put.ensures)
    ]
