use Rattle.std.proofs.Common.{length, Err, refl, ap, ◌∙◌, arith}
use Rattle.std.proofs.lemmas.Result.{err_from_is_err_and}
use Rattle.graphs.specs.Graphs.{model_of}
use Rattle.planfiles.proofs.Loads.{no_head, no_rows, too_long, wrong_length, good}
use Rattle.planfiles.proofs.read.read_into.Goals as goal

pub returns-in_err-head : goal.returns-in_err-head
returns-in_err-head c =
    let p = err_from_is_err_and c.from_residual.result c.from_residual.ensures.1 in
    no_head _ (model_of c.args.graph.now) _ _ _ _ (ap length c.tasks-tasks.ensures.is) _ c.in_err-head.ensures.is (p.1 ∙ ap Err p.2)

pub returns-in_err-end : goal.returns-in_err-end
returns-in_err-end c =
    let p = err_from_is_err_and c.from_residual-in_err-end.result c.from_residual-in_err-end.ensures.1 in
    no_rows _ (model_of c.args.graph.now) c.args.file.now c.from_residual-in_err-end.result c.read_rows.new.rows _ (ap length c.tasks-tasks.ensures.is) c.in_ok-head.head c.in_ok-head.ensures.is _ c.in_err-end.ensures.filled (p.1 ∙ ap Err p.2)

pub returns-then-end-file : goal.returns-then-end-file
returns-then-end-file c =
    too_long _ (model_of c.args.graph.now) _ _ _ _ (ap length c.tasks-tasks.ensures.is) c.in_ok-head.head c.in_ok-head.ensures.is _ c.in_ok-end.ensures.filled c.if-end-file.true refl

pub returns-then-head-latest_end : goal.returns-then-head-latest_end
returns-then-head-latest_end c =
    let n = ap length c.tasks-tasks.ensures.is in
    let e = c.latest_end.ensures.exact (λ k l. c.in_ok-end.ensures.early k (omega (arith, n))) in
    wrong_length _ (model_of c.args.graph.now) _ _ _ _ n c.in_ok-head.head c.in_ok-head.ensures.is _ c.in_ok-end.ensures.filled (omega arith) (λ q. omega (arith, q, e)) refl

pub returns : goal.returns
returns c =
    let n = ap length c.tasks-tasks.ensures.is in
    let e = c.latest_end.ensures.exact (λ k l. c.in_ok-end.ensures.early k (omega (arith, n))) in
    good _ (model_of c.args.graph.now) _ _ _ _ n c.in_ok-head.head c.in_ok-head.ensures.is _ c.in_ok-end.ensures.filled (omega arith) (omega (arith, e)) refl
