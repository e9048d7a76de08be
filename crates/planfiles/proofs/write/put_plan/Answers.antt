use Rattle.std.proofs.Common.{arith, rules}
use Rattle.plans.specs.Jobs.{no_row}
use Rattle.numbers.proofs.Writers.{writes_next, writes_more, writes_each, writes_puts}
use Rattle.planfiles.specs.Plans.{row_bytes}
use Rattle.planfiles.proofs.write.put_plan.Goals as goal

pub loop-row-preserved : goal.loop-row-preserved
loop-row-preserved c =
    writes_more row_bytes c.args.rows.now c.loop-row.row-index no_row (omega arith) (omega arith) c.loop-row.invariant
    (writes_next (omega arith) c.put_number-in-loop-row.ensures.writes c.put_number-in-loop-row-2.ensures.writes)

pub returns : goal.returns
returns c =
    let rows = writes_each row_bytes c.args.rows.now c.loop-row.row-index (omega arith) c.loop-row.invariant in
    let p =
    writes_next (omega arith) c.put_number.ensures.writes
    (writes_next (omega arith) c.put_number-2.ensures.writes
    (writes_next (omega arith) c.put_number-3.ensures.writes (writes_next (omega arith) c.put_number-4.ensures.writes rows))) in
    writes_puts p c.new-writer.ensures.out c.new-writer.ensures.at (search rules) c.at.ensures
