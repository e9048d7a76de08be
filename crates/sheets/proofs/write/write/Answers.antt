use Rattle.std.proofs.Common.{◌≡◌, ℕ, length, refl, arith}
use Rattle.std.proofs.lemmas.Result.{err_from_is_err_and}
use Rattle.numbers.proofs.Texts.{puts_stands}
use Rattle.graphs.specs.Graphs.{model_of, names_of}
use Rattle.plans.specs.Jobs.{job}
use Rattle.sheets.specs.Sheets.{sheet_text}
use Rattle.sheets.specs.Answers.{short, unchecked, full}
use Rattle.sheets.proofs.write.write.Goals as goal

pub returns-then-lines-lt-MOST_TASKS : goal.returns-then-lines-lt-MOST_TASKS
returns-then-lines-lt-MOST_TASKS g c = record { table = (refl, λ e q. refl); written = (short (omega arith), refl) }

pub returns-in_err-check : goal.returns-in_err-check
returns-in_err-check g c =
    let p = err_from_is_err_and c.from_residual.result c.from_residual.ensures.1 in
    record { table = (refl, λ e q. refl); written = rw (p.1, p.2) (unchecked _ (omega arith) c.in_err-check.ensures.told, refl) }

pub returns-then-needed-out : goal.returns-then-needed-out
unfolding sheet_text
returns-then-needed-out g c =
    let told = c.in_ok-check.ensures.told in
    let j = job (model_of c.args.graph.now) c.args.rows.now c.args.limits (g.L.Link.arrives c.args.link.now) in
    let needed : c.sheet_len-needed.result ≡ length (sheet_text j (names_of c.args.graph.now)) = c.sheet_len-needed.ensures in
    record { table = (refl, λ e q. refl); written = (rw needed (full (omega arith) told.0 told.1 (omega arith)), refl) }

pub returns : goal.returns
unfolding sheet_text
returns g c =
    let told = c.in_ok-check.ensures.told in
    record {
      table = (omega arith, λ e q. absurd (let z : ◌≡◌ {A = ℕ} 0 1 = cc in omega arith));
      written = (omega arith, told.0, told.1, puts_stands (grind arith) c.put_sheet.ensures (omega (arith, c.sheet_len-needed.ensures)));
    }
