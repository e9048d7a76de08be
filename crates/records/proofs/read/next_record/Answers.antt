use Rattle.std.proofs.Common.{rules}
use Rattle.records.proofs.Records.{counted_lem}
use Rattle.records.proofs.read.next_record.Goals as goal

pub returns-clause-back : goal.returns-clause-back
returns-clause-back c = counted_lem c.args.file.now c.args.head c.args.read c.args.at _ (search rules)
