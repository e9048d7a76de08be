use Rattle.std.proofs.Common.{rules}
use Rattle.planfiles.specs.Reading.{head_at}
use Rattle.planfiles.proofs.read.read_head.Goals as goal

pub returns-in_err-counted : goal.returns-in_err-counted
unfolding head_at
returns-in_err-counted c = search rules

pub returns-in_err-count : goal.returns-in_err-count
unfolding head_at
returns-in_err-count c = search rules

pub returns-then-count-tasks : goal.returns-then-count-tasks
unfolding head_at
returns-then-count-tasks c = search rules

pub returns-in_err-workers : goal.returns-in_err-workers
unfolding head_at
returns-in_err-workers c = search rules

pub returns-in_err-ticks : goal.returns-in_err-ticks
unfolding head_at
returns-in_err-ticks c = search rules

pub returns : goal.returns
unfolding head_at
returns c = search rules
