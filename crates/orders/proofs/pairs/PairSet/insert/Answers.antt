use Rattle.std.proofs.Common.{arith}
use Rattle.std.proofs.lemmas.Grind.{common_steps}
use Rattle.orders.proofs.Inputs.{few_inputs}
use Rattle.orders.proofs.Joins.{reads}
use Rattle.orders.proofs.pairs.PairSet.insert.Goals as goal

pub returns-then-from-ge512-clause-few : goal.returns-then-from-ge512-clause-few
returns-then-from-ge512-clause-few c = few_inputs

pub returns-clause-reads : goal.returns-clause-reads
returns-clause-reads c = reads _ c.args.from c.args.to c.mark.result _ (grind (arith, common_steps)) (λ p q pl ql. grind (arith, common_steps))

pub returns-clause-few : goal.returns-clause-few
returns-clause-few c = few_inputs
