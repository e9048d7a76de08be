use Rattle.std.proofs.Common.{arith}
use Rattle.numbers.proofs.Groups.{Bytes}
use Rattle.planfiles.proofs.Accepted.{accepted, read_back}
use Rattle.planfiles.proofs.read.read_plan.Goals as goal

pub returns : goal.returns
returns c =
    let bytes : Bytes c.args.file.now = λ i. omega (arith, c.type_inv.file i) in
    let a = accepted _ _ bytes _ _ _ c.load_plan.ensures.is c.load_plan.ensures.rows in
    record { is = c.load_plan.ensures.is; rows = c.load_plan.ensures.rows; accepts = a; back = read_back _ _ _ _ c.load_plan.result a }
