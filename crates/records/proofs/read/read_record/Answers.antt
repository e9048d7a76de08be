use Rattle.records.proofs.read.read_record.Goals as goal

pub returns-then-read-head-clause-law : goal.returns-then-read-head-clause-law
returns-then-read-head-clause-law c = c.read_task.ensures.law c.args.head c.args.read c.if-read-head.true
