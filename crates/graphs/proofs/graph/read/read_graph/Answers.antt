use Rattle.std.proofs.Common.{◌≡◌, sym, ◌∙◌, inl, inr, ⊎_elim, arith}
use Rattle.std.proofs.lemmas.Result.{err_from_is_err_and, IfOk-at_ok, MatchResult-weaker}
use Rattle.numbers.proofs.Groups.{Bytes}
use Rattle.records.specs.Fields.{and_then}
use Rattle.records.specs.Heads.{Opens}
use Rattle.graphs.specs.Drafts.{drafted}
use Rattle.graphs.specs.Files.{all_parts, uncycled, graph_of}
use Rattle.graphs.proofs.Accepted.{parts_limited}
use Rattle.graphs.proofs.Turns.{got, lost, then_goes, then_fails, head_fails, head_read}
use Rattle.graphs.proofs.graph.read.read_graph.Goals as goal
use Rattle.graphs.proofs.graph.read.read_graph.Goals.{In_ok-head}

opened : (c : In_ok-head) → Opens c.args.file.now c.in_ok-head.head
opened c = IfOk-at_ok (Opens c.args.file.now) (got 0 c.read_head.result c.in_ok-head.head c.in_ok-head.ensures) c.read_head.ensures.law

after_head : (c : In_ok-head) → graph_of c.args.file.now ≡ and_then (all_parts c.args.file.now c.in_ok-head.head) uncycled
after_head c =
    let h = c.in_ok-head.head in
    head_read c.args.file.now h (sym c.read_head.ensures.is ∙ got 0 c.read_head.result h c.in_ok-head.ensures)

pub returns-in_err-head : goal.returns-in_err-head
returns-in_err-head c =
    let p = err_from_is_err_and c.from_residual.result c.from_residual.ensures.1 in
    let l = lost 0 c.read_head.result c.in_err-head.field-0.0 c.in_err-head.ensures in
    rw (p.1, p.2, l.1) (inr (head_fails c.args.file.now _ (sym c.read_head.ensures.is ∙ l.0)))

pub read-requires : goal.read-requires
read-requires c = (opened c).few

pub returns-in_err-draft : goal.returns-in_err-draft
returns-in_err-draft c =
    let p = err_from_is_err_and c.from_residual-in_err-draft.result c.from_residual-in_err-draft.ensures.1 in
    let t = after_head (goal.at.returns-in_err-draft c).In_ok-head in
    rw (p.1, p.2) (⊎_elim inl (λ e. inr (t ∙ then_fails _ _ _ e)) c.in_err-draft.ensures)

pub build-requires : goal.build-requires
build-requires c =
    let bytes : Bytes c.args.file.now = λ i. omega (arith, c.type_inv.file i) in
    let o = opened (goal.at.build-requires c).In_ok-head in
    (parts_limited c.args.file.now bytes c.in_ok-head.head o.few (drafted c.in_ok-draft.draft) o c.in_ok-draft.ensures).1

pub returns : goal.returns
returns c =
    let t = after_head (goal.at.returns c).In_ok-head ∙ then_goes _ _ _ c.in_ok-draft.ensures in
    MatchResult-weaker c.build.result c.build.ensures (λ g e. t ∙ e) (λ d e. ⊎_elim inl (λ f. inr (t ∙ f)) e)
