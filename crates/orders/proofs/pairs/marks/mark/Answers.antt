use Rattle.orders.proofs.Bits.{marks}
use Rattle.orders.proofs.pairs.marks.mark.Goals as goal

pub returns-clause-marks : goal.returns-clause-marks
returns-clause-marks c = marks c.args.words.now c.args.p c.requires.long c.requires.place
