use Rattle.std.proofs.Common.{◌≡◌, ℕ, ◌-◌, List, take, drop, IfOk, Ok, Err, Result, sym, refl, ap, ◌∙◌, subst, arith}
use Rattle.std.proofs.lemmas.Bool.{eq-eqb}
use Rattle.numbers.specs.declared.fault.NumberFault.{NumberFault}
use Rattle.numbers.specs.Numbers.{groups_at, number_at, coded}
use Rattle.numbers.specs.Spelling.{Told}
use Rattle.numbers.proofs.Groups.{Bytes}
use Rattle.numbers.proofs.Laid.{number_back}
use Rattle.numbers.proofs.Spelt.{told}
use Rattle.numbers.proofs.number.read_number.Goals as goal

back_by : (file : List ℕ) (at : ℕ) (r : Result (ℕ × ℕ) NumberFault) → Bytes file → r ≡ number_at file at → IfOk r (λ p. take (p.1 - at) (drop at file) ≡ coded p.0)
back_by file at (Ok p) h e = number_back file at p.0 p.1 h (sym e)
back_by file at (Err d) h e = tt

pub returns : goal.returns
unfolding number_at
returns c =
    let bytes : Bytes c.args.file.now = λ i. omega (arith, c.type_inv.file i) in
    let e : c.read_groups.result ≡ number_at c.args.file.now c.args.at =
    c.read_groups.ensures.is ∙ ap (groups_at c.args.file.now c.args.at c.args.at 6) (eq-eqb c.args.at c.args.at refl) in
    record {
      is = e;
      law = subst (Told c.args.file.now c.args.at) (sym e) (told c.args.file.now c.args.at bytes);
      within = c.read_groups.ensures.within;
      back = back_by c.args.file.now c.args.at c.read_groups.result bytes e;
    }
