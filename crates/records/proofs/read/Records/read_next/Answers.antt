use Rattle.std.proofs.Common.{rules}
use Rattle.records.specs.Records.{seen, Holds}
use Rattle.records.proofs.Records.{counted_lem, read_after_lem}
use Rattle.records.proofs.read.Records.read_next.Goals as goal
use Rattle.records.proofs.read.Records.read_next.Goals.{then-self-next, else-self-next}

pub returns-in_err-record-clause-back : goal.returns-in_err-record-clause-back
returns-in_err-record-clause-back c = counted_lem c.args.self.now.file.now c.args.self.now.head c.args.self.now.read c.args.self.now.at _ (search rules)

pub returns-clause-back : goal.returns-clause-back
returns-clause-back c = counted_lem c.args.self.now.file.now c.args.self.now.head c.args.self.now.read c.args.self.now.at _ (search rules)

pub returns-clause-count : goal.returns-clause-count
returns-clause-count c =
    let there : Holds c.args.self.now.file.now c.args.self.now.head c.args.self.now.read c.args.self.now.at (seen c.in_ok-record.record) c.in_ok-record.next = search rules in
    let counts = read_after_lem _ _ _ _ _ _ there in
    elim c.if-self-next.branch [ then-self-next w ↦ rw w.self-is (counts.0 w.if-self-next.true) | else-self-next w ↦ rw w.self-is (counts.1 w.if-self-next.false) ]
