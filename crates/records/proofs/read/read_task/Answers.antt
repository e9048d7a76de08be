use Rattle.std.proofs.Common.{arith, rules}
use Rattle.numbers.proofs.Groups.{Bytes}
use Rattle.records.specs.Records.{task}
use Rattle.records.proofs.Records.{un_task}
use Rattle.records.proofs.read.read_task.Goals as goal

pub returns-clause-law : goal.returns-clause-law
returns-clause-law c = λ h read due.
    let bytes : Bytes c.args.file.now = λ i. omega (arith, c.type_inv.file i) in
    un_task c.args.file.now bytes h read c.args.at (task c.in_ok-name.place c.in_ok-name.name.now c.in_ok-time.time c.in_ok-size.size, c.in_ok-size.next) due (search rules)
