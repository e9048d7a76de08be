use Rattle.std.proofs.Common.{length, arith}
use Rattle.std.specs.Iterator.Adapters.{rev_source}
use Rattle.std.specs.Slice.Iter.{iter_rest}
use Rattle.levels.proofs.Visits.{left_one_more, left_less, left_last, visited_more}
use Rattle.levels.proofs.visit.Goals as goal

pub loop-t-preserved : goal.loop-t-preserved
loop-t-preserved g c =
    let graph = c.args.graph.now in
    let was = iter_rest (rev_source c.loop-t.t-iterator) in
    let rest = iter_rest (rev_source c.next.new.self) in
    let t = c.in-Some.field-0.now in
    let left = c.loop-t.invariant.2 in
    let taken = c.in-Some.ensures.steps in (
      tt,
      tt,
      left_less graph was rest t taken left,
      visited_more (g.L.Link.arrives c.args.link.now) (g.met.L.Link.lawful c.args.link.now) graph c.loop-t.levels (length was) (length rest) t _
          (left_last graph was rest t taken left) (left_one_more graph was rest t taken left)
          (omega (arith, left_one_more graph was rest t taken left, left.few)) (omega (arith, c.requires.rows, c.loop-t.auto.levels)) c.loop-t.invariant.3 (omega (arith, c.level_of.ensures)),
    )
