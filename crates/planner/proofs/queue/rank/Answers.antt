use Rattle.std.proofs.Common.{arith, eq-eqb}
use Rattle.std.proofs.lemmas.Bool.{ne_eqb}
use Rattle.planner.specs.Turns.{rank}
use Rattle.planner.proofs.queue.rank.Goals as goal

pub returns-then-planner-eq1 : goal.returns-then-planner-eq1
unfolding rank
returns-then-planner-eq1 g c =
    let y = eq-eqb _ _ c.if-planner-eq1.true in
    let l = c.requires.levels.is c.args.t c.requires.task in
    simp y (omega (arith, l, c.t_level.ensures.is))

pub returns-else-planner-eq1 : goal.returns-else-planner-eq1
unfolding rank
returns-else-planner-eq1 g c =
    let n = ne_eqb _ _ c.if-planner-eq1.false in
    let l = c.requires.levels.is c.args.t c.requires.task in
    simp n (omega (arith, l))
