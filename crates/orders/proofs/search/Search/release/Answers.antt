use Rattle.std.proofs.Common.{vec_items, arith}
use Rattle.orders.proofs.Shapes.{kept_join, released_more, released_room}
use Rattle.orders.proofs.search.Search.release.Goals as goal

pub settle-requires-clause-waiting : goal.settle-requires-clause-waiting
settle-requires-clause-waiting c =
    let i = c.loop-e.e-index in
    released_room c.args.outs.now i (vec_items c.args.self.now.waits) (vec_items c.loop-e.self.waits) (omega arith) (c.requires.under i (omega arith)) c.requires.due c.loop-e.invariant.1

pub loop-e-preserved : goal.loop-e-preserved
loop-e-preserved c =
    let outs = c.args.outs.now in
    let old = c.args.self.now in
    let l = c.loop-e in
    let i = l.e-index in
    let yl = c.requires.under i (omega arith) in
    let pos = released_room outs i (vec_items old.waits) (vec_items l.self.waits) (omega arith) yl c.requires.due l.invariant.1 in (
      kept_join old l.self c.settle.new.self l.invariant.0 c.settle.ensures.kept,
      λ t tl. rw c.settle.ensures.waits (released_more outs i (vec_items old.waits) (vec_items l.self.waits) (omega arith) l.invariant.0.long yl pos l.invariant.1 t tl),
    )
