use Rattle.std.proofs.Common.{◌<◌, eqb, get_or, take, vec_items, arith}
use Rattle.std.proofs.lemmas.List.{length-take, get_or_default}
use Rattle.std.proofs.lemmas.List.Sums.{count_by-le-length}
use Rattle.edges.specs.declared.edge.Edge.{Edge}
use Rattle.edges.specs.Edges.{no_edge}
use Rattle.orders.proofs.Shapes.{inputs_more}
use Rattle.orders.proofs.search.count_inputs.Goals as goal

pub overflow_add-index_mut : goal.overflow_add-index_mut
overflow_add-index_mut c =
    let es = c.args.edges.now in
    let i = c.loop-e.e-index in
    let y = (get_or es i no_edge).to in
    let yl : y < c.args.tasks = c.requires i (omega arith) in
    let waits = vec_items c.loop-e.waits in
    let long = c.loop-e.invariant.0 in
    omega (arith, c.loop-e.invariant.1 y yl, get_or_default waits y c.index_mut.result.now 0 (omega arith), c.index_mut.ensures.value, count_by-le-length (λ (e : Edge). eqb e.to y) (take i es), length-take i es)

pub loop-e-preserved : goal.loop-e-preserved
loop-e-preserved c =
    let es = c.args.edges.now in
    let i = c.loop-e.e-index in
    let y = (get_or es i no_edge).to in
    let waits = vec_items c.loop-e.waits in
    inputs_more es i c.args.tasks waits c.index_mut.result.now (omega arith) (c.requires i (omega arith)) c.loop-e.invariant.0 c.index_mut.ensures.value c.loop-e.invariant.1
