use Rattle.std.proofs.Common.{rules}
use Rattle.planfiles.specs.Reading.{row_at}
use Rattle.planfiles.proofs.read.read_row.Goals as goal

pub returns-in_err-worker : goal.returns-in_err-worker
unfolding row_at
returns-in_err-worker c = search rules

pub returns-in_err-start : goal.returns-in_err-start
unfolding row_at
returns-in_err-start c = search rules

pub returns : goal.returns
unfolding row_at
returns c = search rules
