use Rattle.std.proofs.Common.{sym, arith}
use Rattle.numbers.proofs.Groups.{coded_one, coded_more}
use Rattle.numbers.proofs.Laid.{puts_reads}
use Rattle.numbers.proofs.Spelt.{spells}
use Rattle.numbers.proofs.Writers.{writes_next, writes_same}
use Rattle.numbers.proofs.writer.Writer.+put_number.Goals as goal

pub returns-then-value-lt128 : goal.returns-then-value-lt128
returns-then-value-lt128 t c =
    let p = writes_same (sym (coded_one c.args.value c.if-value-lt128.true)) c.put.ensures in
    record { writes = p; law = spells c.args.value (omega arith); back = λ h r. puts_reads c.args.value (omega arith) p.puts h r }

pub returns : goal.returns
returns t c =
    let e = coded_more c.args.value c.if-value-lt128.false (omega arith) in
    let p = writes_same (sym e) (writes_next (omega arith) c.put-2.ensures c.put_number.ensures.writes) in
    record { writes = p; law = spells c.args.value (omega arith); back = λ h r. puts_reads c.args.value (omega arith) p.puts h r }
