use Rattle.std.proofs.Common.{◌^◌, ◌<◌, length, arith, lit<, length-append}
use Rattle.std.proofs.lemmas.Fmt.{length-decimal-le}
use Rattle.numbers.proofs.Writers.{writes_next}
use Rattle.sheets.proofs.denial.put_denial.Goals as goal

pub returns : goal.returns
returns c =
    let w : length c.args.writer.now.out.now < 2 ^ 64 = omega arith in
    let word = writes_next w c.put_bytes.ensures c.put_spaced.ensures.writes in
    let place = writes_next w (writes_next w word c.put_spaced-2.ensures.writes) c.put_spaced-3.ensures.writes in
    record {
      writes = writes_next w (writes_next w place c.put_decimal.ensures) c.put.ensures;
      short = simp length-append (omega (arith, length-decimal-le 20 c.args.fault.«record» (lit< tt) (omega arith) (omega arith)));
    }
