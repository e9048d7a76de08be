use Rattle.std.proofs.Common.{length}
use Rattle.std.specs.Iterator.Adapters.{rev_source}
use Rattle.std.specs.Slice.Iter.{iter_rest}
use Rattle.levels.proofs.Visits.{Left, Visited}
use Rattle.levels.proofs.visit.Given as goal

abbrev pub invariant-loop-t : goal.invariant-loop-t
invariant-loop-t g l =
    (goal.iterator-loop-t g).can_next l.t-iterator
    × (goal.iterator-loop-t g).is_finite l.t-iterator
    × Left l.graph (iter_rest (rev_source l.t-iterator))
    × Visited (g.L.Link.arrives l.link) l.graph (length (iter_rest (rev_source l.t-iterator))) l.levels
