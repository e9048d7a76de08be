use Rattle.std.proofs.Common.{◌^◌, ◌<◌, ◌≤◌, length, arith}
use Rattle.std.proofs.lemmas.List.{length-take-le}
use Rattle.planfiles.proofs.Rows.{begins, goes, ends, early_more, got, got_at}
use Rattle.planfiles.proofs.read.read_rows.Goals as goal

pub loop-k-init : goal.loop-k-init
loop-k-init c = (begins _ _ _ _ _, λ k h. omega arith)

pub loop-k-preserved : goal.loop-k-preserved
loop-k-preserved c =
    let lt : c.loop-k.k < length c.loop-k.row-items = omega arith in
    let g = got _ c.read_row.result _ _ c.read_row.ensures.is c.in_ok-read.ensures in
    let h = got_at _ (λ x. x.0.start ≤ 2 ^ 40) c.read_row.result (c.in_ok-read.read, c.in_ok-read.next) c.in_ok-read.ensures c.read_row.ensures.early in
    (goes c.loop-k.invariant.0 _ _ (omega (arith, length-take-le c.args.tasks c.args.rows.now c.requires.few.1)) lt g, early_more _ _ _ lt h c.loop-k.invariant.1)

pub returns-clause-filled : goal.returns-clause-filled
returns-clause-filled c =
    let long = length-take-le c.args.tasks c.args.rows.now c.requires.few.1 in
    ends c.loop-k.invariant.0 c.args.rows.now (omega (arith, long)) (omega (arith, long)) c.requires.zero
