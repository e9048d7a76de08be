use Rattle.std.proofs.Common.{◌∙◌, arith}
use Rattle.numbers.proofs.Groups.{Bytes}
use Rattle.records.proofs.Heads.{head_at_lem, opens}
use Rattle.records.proofs.read.read_head.Goals as goal

pub returns : goal.returns
returns c =
    let bytes : Bytes c.args.file.now = λ i. omega (arith, c.type_inv.file i) in
    let e = c.read_counts.ensures in
    record { is = e; law = opens c.args.file.now c.read_counts.result bytes e; back = λ h o. e ∙ head_at_lem c.args.file.now h o }
