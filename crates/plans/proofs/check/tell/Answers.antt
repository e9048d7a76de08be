use Rattle.std.proofs.Common.{arith}
use Rattle.plans.specs.Rules.{used, reaches, latest}
use Rattle.plans.specs.Checked.{short, rule1, rule2, rule3, rule4, rule5}
use Rattle.plans.proofs.Told.{bad_denied, none_allowed}
use Rattle.plans.proofs.check.tell.Goals as goal

pub returns-then-rows-lt512 : goal.returns-then-rows-lt512
returns-then-rows-lt512 g c = short (omega arith)

pub returns-in-Some : goal.returns-in-Some
returns-in-Some g c = bad_denied _ _ _ (omega arith) c.in-Some.ensures

pub returns-in-Some-unplaced : goal.returns-in-Some-unplaced
returns-in-Some-unplaced g c = rule1 _ (none_allowed _ _ (omega arith) c.in_default.ensures) c.in-Some-unplaced.ensures.found

pub returns-in-Some-above_ceiling : goal.returns-in-Some-above_ceiling
returns-in-Some-above_ceiling g c = rule2 _ (none_allowed _ _ (omega arith) c.in_default.ensures) c.in_default-unplaced.ensures.found c.in-Some-above_ceiling.ensures.found

pub returns-in-Some-overlapping : goal.returns-in-Some-overlapping
returns-in-Some-overlapping g c = rule3 _ (none_allowed _ _ (omega arith) c.in_default.ensures) c.in_default-unplaced.ensures.found c.in_default-above_ceiling.ensures.found c.in-Some-overlapping.ensures

pub returns-in-Some-overfull : goal.returns-in-Some-overfull
unfolding used
returns-in-Some-overfull g c = rule4 _ (none_allowed _ _ (omega arith) c.in_default.ensures) c.in_default-unplaced.ensures.found c.in_default-above_ceiling.ensures.found c.in_default-overlapping.ensures c.in-Some-overfull.ensures

pub returns-in-Some-late_input : goal.returns-in-Some-late_input
unfolding used reaches
returns-in-Some-late_input g c = rule5 _ (none_allowed _ _ (omega arith) c.in_default.ensures) c.in_default-unplaced.ensures.found c.in_default-above_ceiling.ensures.found c.in_default-overlapping.ensures c.in_default-overfull.ensures c.in-Some-late_input.ensures

pub returns : goal.returns
unfolding used reaches latest
returns g c = (
  none_allowed _ _ (omega arith) c.in_default.ensures,
  record {
    placed = c.in_default-unplaced.ensures.found;
    in_time = c.in_default-above_ceiling.ensures.found;
    apart = c.in_default-overlapping.ensures;
    roomy = c.in_default-overfull.ensures;
    fed = c.in_default-late_input.ensures;
  },
  c.latest_end.ensures.exact (λ t l. omega (arith, c.in_default-above_ceiling.ensures.found t l)),
)
