use Rattle.std.proofs.Common.{arith}
use Rattle.edges.specs.Tables.{listed}
use Rattle.orders.proofs.Turns.{turn_due, turn}
use Rattle.orders.proofs.search.Search.take_turns.Goals as goal

pub release-requires-clause-due : goal.release-requires-clause-due
release-requires-clause-due c t tl =
    let l = c.loop-head in
    let table = c.args.table.now in
    turn_due (listed table) table.tasks l.self l.head c.outputs-outs.result.now c.index.result.now table.within c.loop-head-test.true c.index.ensures c.outputs-outs.ensures.is l.invariant t (omega (arith, l.invariant.long))

pub loop-head-preserved : goal.loop-head-preserved
loop-head-preserved c =
    let l = c.loop-head in
    let table = c.args.table.now in
    turn (listed table) table.tasks l.self c.release.new.self l.head c.outputs-outs.result.now c.index.result.now table.within c.loop-head-test.true c.index.ensures c.outputs-outs.ensures.is l.invariant c.release.ensures.waits c.release.ensures.kept
