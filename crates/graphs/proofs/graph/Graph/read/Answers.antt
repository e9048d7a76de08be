use Rattle.std.proofs.Common.{◌≡◌, ℕ, sym, ◌∙◌, inl, inr, ⊎_elim, arith}
use Rattle.std.proofs.lemmas.Result.{err_from_is_err_and}
use Rattle.numbers.proofs.Groups.{Bytes}
use Rattle.records.proofs.Fields.{ok_same}
use Rattle.graphs.specs.Files.{graph_of}
use Rattle.graphs.proofs.Accepted.{accepted}
use Rattle.graphs.proofs.Cycles.{denied_cycle}
use Rattle.graphs.proofs.Encoded.{encoded}
use Rattle.graphs.proofs.Repeated.{denied_repeated}
use Rattle.graphs.proofs.Turns.{not_both}
use Rattle.graphs.proofs.graph.Graph.read.Goals as goal

pub returns-in_err-self : goal.returns-in_err-self
returns-in_err-self c =
    let file = c.args.file.now in
    let p = err_from_is_err_and c.from_residual.result c.from_residual.ensures.1 in
    let d = c.in_err-self.ensures in
    let bytes : Bytes c.args.file.now = λ i. omega (arith, c.type_inv.file i) in
    rw (p.1, p.2)
    record {
      is = (d, c.new.ensures);
      law = ⊎_elim inl (λ e. inr (λ q w s. not_both (graph_of file) q _ (encoded file q w s) e)) d;
      repeated = λ place e. denied_repeated file _ place bytes d e;
      cycle = λ t e. denied_cycle file _ t bytes d e;
    }

pub returns : goal.returns
returns c =
    let file = c.args.file.now in
    let bytes : Bytes c.args.file.now = λ i. omega (arith, c.type_inv.file i) in
    let is = c.in_ok-self.ensures in
    let a = accepted file _ bytes is in
    record {
      is = is;
      law = (a.1, a.0, (λ q w s. ok_same q _ (sym (encoded file q w s) ∙ is)));
      repeated = λ place e. absurd (let z : ◌≡◌ {A = ℕ} 0 1 = cc e in omega arith);
      cycle = λ t e. absurd (let z : ◌≡◌ {A = ℕ} 0 1 = cc e in omega arith);
    }
