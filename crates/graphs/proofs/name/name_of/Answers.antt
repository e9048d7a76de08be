use Rattle.std.proofs.Common.{◌≡◌, ℕ, ◌<◌, ◌≤◌, List, length, take, drop, Ok, sym, ap, ◌∙◌, subst, inl, inr, ⊎_elim, arith}
use Rattle.std.proofs.lemmas.Result.{err_from_is_err_and}
use Rattle.numbers.proofs.Groups.{Bytes}
use Rattle.records.proofs.Fields.{ok_same}
use Rattle.graphs.specs.declared.fault.NameFault.TheVariants.{InGraph}
use Rattle.graphs.specs.Graphs.{tasks_of, parts_of}
use Rattle.graphs.proofs.Places.{known, name_stands, name_refused, name_none, name_some}
use Rattle.graphs.proofs.name.name_of.Goals as goal

pub returns-in_err-read : goal.returns-in_err-read
returns-in_err-read c =
    let p = err_from_is_err_and c.from_residual.result c.from_residual.ensures.1 in
    rw (p.1, p.2) record { is = ⊎_elim (λ m. inl (ap InGraph m)) (λ e. inr (name_refused c.args.file.now c.args.task _ e)) c.in_err-read.ensures.is.0; stands = tt }

pub returns-then-task-tasks : goal.returns-then-task-tasks
returns-then-task-tasks c =
    let p = parts_of c.read.new.self in
    let l : length (tasks_of c.read.new.self) ≤ c.args.task = omega (arith, ap length c.tasks.ensures.is, c.if-task-tasks.true) in
    record { is = inr (name_none c.args.file.now c.args.task p c.in_ok-read.ensures.is l); stands = tt }

pub returns-in_err-find_name : goal.returns-in_err-find_name
returns-in_err-find_name c =
    let s = c.in_err-find_name.ensures (parts_of c.read.new.self) c.in_ok-read.ensures.is in
    absurd (let z : ◌≡◌ {A = ℕ} 0 1 = cc s in omega arith)

pub returns : goal.returns
returns c =
    let file = c.args.file.now in
    let t = c.args.task in
    let p = parts_of c.read.new.self in
    let e = c.in_ok-read.ensures.is in
    let bytes : Bytes c.args.file.now = λ i. omega (arith, c.type_inv.file i) in
    let l : c.args.task < length (tasks_of c.read.new.self) = omega (arith, ap length c.tasks.ensures.is, c.if-task-tasks.false) in
    let k = known file p bytes e in
    let s = c.in_ok-find_name.ensures p e in
    record {
      is = name_some file t p e l ∙ ap Ok (sym (ok_same _ _ s));
      stands = subst (λ (x : List ℕ × ℕ). take (length x.0) (drop x.1 file) ≡ x.0) (sym (ok_same _ _ s)) (name_stands file p k.1 k.0 t l);
    }
