use Rattle.std.proofs.Common.{vec_items, arith}
use Rattle.orders.proofs.Shapes.{shape_none}
use Rattle.orders.proofs.search.Search.new.Goals as goal

pub invariant_of-result : goal.invariant_of-result
invariant_of-result c =
    let w = c.in_ok-count_inputs in
    record {
      shape = shape_none (vec_items w.field-0) (vec_items c.in_ok-vec.field-0) (vec_items c.in_ok-vec-2.field-0) c.tasks-tasks.result w.ensures.long
          (c.in_ok-vec.ensures.items_if_clones_equal (λ y e. e)) (c.in_ok-vec-2.ensures.items_if_clones_equal (λ y e. e))
          (λ t tl. omega (arith, w.ensures.waits t tl));
    }
