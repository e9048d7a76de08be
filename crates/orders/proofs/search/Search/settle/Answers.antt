use Rattle.std.proofs.Common.{◌≡◌, ◌-◌, vec_items, arith}
use Rattle.std.proofs.lemmas.List.{get_or_default, get_or-set_same}
use Rattle.orders.proofs.Shapes.{shape_push}
use Rattle.orders.proofs.search.Search.settle.Goals as goal

pub invariant_of-self-2 : goal.invariant_of-self-2
invariant_of-self-2 c =
    let s = c.args.self.now in
    let waits = vec_items s.waits in
    let t = c.args.t in
    let w = c.index_mut.result.now in
    let zero : w - 1 ≡ 0 = omega (arith, c.index.ensures, get_or-set_same waits t (w - 1) c.index.result.now c.requires.task) in
    record {
      shape = shape_push waits (vec_items s.rank) (vec_items s.order) s.tail t (w - 1) c.requires.task (omega (arith, c.index_mut.ensures.value, get_or_default waits t w 0 c.requires.task)) zero s.shape;
    }
