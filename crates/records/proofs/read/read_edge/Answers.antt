use Rattle.std.proofs.Common.{◌≡◌, Ok, arith, rules}
use Rattle.numbers.proofs.Groups.{Bytes}
use Rattle.records.specs.Records.{edge, edge_at}
use Rattle.records.proofs.Records.{un_edge}
use Rattle.records.proofs.read.read_edge.Goals as goal

pub returns-clause-law : goal.returns-clause-law
returns-clause-law c = λ h read same before due.
    let bytes : Bytes c.args.file.now = λ i. omega (arith, c.type_inv.file i) in
    let is : edge_at c.args.file.now c.args.tasks c.args.at ≡ Ok (edge c.in_ok-from.from c.in_ok-to.to c.in_ok-amount.amount, c.in_ok-amount.next) = search rules in
    un_edge c.args.file.now bytes h read c.args.at (edge c.in_ok-from.from c.in_ok-to.to c.in_ok-amount.amount, c.in_ok-amount.next) (omega arith) (omega arith) (rw same is)
