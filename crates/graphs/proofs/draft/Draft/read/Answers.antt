use Rattle.std.proofs.Common.{◌≡◌, ◌+◌, ◌-◌, ◌<◌, length, ◌∙◌, inl, inr, ⊎_elim, arith}
use Rattle.std.proofs.lemmas.Result.{err_from_is_err_and}
use Rattle.records.specs.Fields.{and_then}
use Rattle.records.specs.Records.{seen, record_at}
use Rattle.graphs.specs.Drafts.{drafted}
use Rattle.graphs.specs.Files.{all_parts, parts_from, added}
use Rattle.graphs.proofs.Drafts.{counts_on}
use Rattle.graphs.proofs.Turns.{got, lost, then_goes, then_fails, turn_fails, turn_adds, turn_ends}
use Rattle.graphs.proofs.draft.Draft.read.Goals as goal
use Rattle.graphs.proofs.draft.Draft.read.Goals.{In_ok-record}

-- what is left after the record that came
turned : (c : In_ok-record) → all_parts c.args.file.now c.args.head ≡ and_then (added (seen c.in_ok-record.record) c.at-at.result (drafted c.loop.draft)) (parts_from (c.args.head.tasks + c.args.head.edges - (c.loop.counter + 1)) c.loop.records.file.now c.loop.records.head (c.loop.records.read + 1) c.read_next.new.self.at)
turned c =
    let r = c.loop.records in
    rw c.at-at.ensures (c.loop.invariant.left ∙ turn_adds r.file.now r.head r.read r.at (drafted c.loop.draft) _ _ _ _ (omega (arith, c.loop-test.true)) (got _ (record_at r.file.now r.head r.read r.at) _ c.in_ok-record.ensures.is))

pub returns-in_err-record : goal.returns-in_err-record
returns-in_err-record c =
    let p = err_from_is_err_and c.from_residual-in_err-record.result c.from_residual-in_err-record.ensures.1 in
    let r = c.loop.records in
    let l = lost _ (record_at r.file.now r.head r.read r.at) c.in_err-record.field-0.0 c.in_err-record.ensures.is in
    rw (p.1, p.2, l.1) (inr (c.loop.invariant.left ∙ turn_fails r.file.now r.head r.read r.at (drafted c.loop.draft) _ _ l.0))

pub returns-in_err-add : goal.returns-in_err-add
returns-in_err-add c =
    let p = err_from_is_err_and c.from_residual-in_err-add.result c.from_residual-in_err-add.ensures.1 in
    let t = turned (goal.at.returns-in_err-add c).In_ok-record in
    rw (p.1, p.2) (⊎_elim inl (λ e. inr (t ∙ then_fails _ _ _ e)) c.in_err-add.ensures)

pub loop-preserved : goal.loop-preserved
loop-preserved c =
    let t = turned (goal.at.loop-preserved c).In_ok-record in
    let r = c.loop.records in
    let was = c.loop.invariant in
    let over = c.in_ok-record.ensures.over in
    let left : c.loop.records.read < c.loop.records.head.tasks + c.loop.records.head.edges = omega (arith, was.turns, was.read, c.loop-test.true) in
    let more = c.in_ok-record.ensures.count ∙ counts_on r.head r.read (length r.file.now) r.at _ c.in_ok-record.ensures.law.due left in
    record {
      few = rw over.1 was.few;
      turns = rw over.1 was.turns;
      read = omega (arith, more, was.read);
      left = rw (over.0, over.1, more) (t ∙ then_goes _ _ _ c.in_ok-add.ensures);
    }

pub returns-in_err-read_next : goal.returns-in_err-read_next
returns-in_err-read_next c =
    let p = err_from_is_err_and c.from_residual-in_err-read_next.result c.from_residual-in_err-read_next.ensures.1 in
    let r = c.loop.records in
    let l = lost _ (record_at r.file.now r.head r.read r.at) c.in_err-read_next.field-0.0 c.in_err-read_next.ensures.is in
    rw (p.1, p.2, l.1) (inr (c.loop.invariant.left ∙ turn_fails r.file.now r.head r.read r.at (drafted c.loop.draft) _ _ l.0))

pub returns : goal.returns
returns c =
    let r = c.loop.records in
    let came = got _ (record_at r.file.now r.head r.read r.at) _ c.in_ok-read_next.ensures.is in
    c.loop.invariant.left ∙ turn_ends r.file.now r.head r.read r.at (drafted c.loop.draft) _ _ (omega (arith, c.loop-test.false)) came
