-- A file is accepted exactly where it is the file of a plan, and what was read is written as that file.
use Rattle.std.proofs.Common.{◌≡◌, ℕ, ◌-◌, Bool, true, false, cond, ltb, List, length, replicate, IfOk, Ok, Err, Result, sym, refl, ap, ◌∙◌, arith}
use Rattle.std.proofs.lemmas.List.{take_at}
use Rattle.std.proofs.lemmas.Bool.{le-ltb, cond-false}
use Rattle.numbers.proofs.Groups.{Bytes}
use Rattle.records.specs.Fields.{map_ok}
use Rattle.records.proofs.Fields.{ok_same}
use Rattle.graphs.specs.Model.{TaskGraph}
use Rattle.plans.specs.declared.types.Row.{Row}
use Rattle.plans.specs.declared.fault.PlanFault.{PlanFault}
use Rattle.plans.specs.declared.fault.PlanFault.TheVariants.{ShortTable}
use Rattle.plans.specs.Jobs.{no_row}
use Rattle.planfiles.specs.Plans.{Plan, Fits, plan_bytes, plan_file}
use Rattle.planfiles.specs.Reading.{plan_at, answer_of, padded, table_of, answered, filled, Accepts}
use Rattle.planfiles.proofs.Files.{plan_at_lem, un_plan}
use Rattle.planfiles.proofs.Tables.{latest_padded}

-- where a read answered, the table was long enough and the file held a plan
came : (short : Bool) (n : ℕ) (q : Result Plan PlanFault) (was now : List Row) (a : ℕ × ℕ) → Ok a ≡ cond short (Err ShortTable) (map_ok answer_of q) → now ≡ cond short was (table_of n q) → (p : Plan) × (q ≡ Ok p) × (a ≡ answer_of p) × (now ≡ padded n p.rows)
came true n q was now a e t = absurd (let z : ◌≡◌ {A = ℕ} 0 1 = cc e in omega arith)
came false n (Err d) was now a e t = absurd (let z : ◌≡◌ {A = ℕ} 0 1 = cc e in omega arith)
came false n (Ok p) was now a e t = (p, refl, ok_same a (answer_of p) e, t)

module _ (g : TaskGraph) (file : List ℕ) where
  only : (was now : List Row) (r : Result (ℕ × ℕ) PlanFault) → Bytes file → r ≡ answered (length was) g file → now ≡ filled was g file
      → IfOk r (λ a. (p : Plan) × Fits g p × (file ≡ plan_bytes p) × (a ≡ answer_of p) × (now ≡ padded (length was) p.rows))
  only was now (Ok a) bytes e t =
      let k = came (ltb (length was) 512) (length was) (plan_at g file) was now a e t in
      let u = un_plan file bytes g k.0 k.1 in
      (k.0, u.0, u.1, k.2, k.3)
  only was now (Err d) bytes e t = tt

  pub accepted : Bytes file → (was now : List Row) (r : Result (ℕ × ℕ) PlanFault) → r ≡ answered (length was) g file → now ≡ filled was g file → Accepts g file was now r
  accepted bytes was now r e t =
      record {
        kept = λ p l f q. e ∙ cond-false _ _ _ (le-ltb (length was) 512 l) ∙ ap (map_ok answer_of) (plan_at_lem g file p f q);
        only = only was now r bytes e t;
      }

  pub read_back : (was now : List Row) (r : Result (ℕ × ℕ) PlanFault) → Accepts g file was now r → IfOk r (λ a. plan_file g now a.0 ≡ file)
  read_back was now (Ok a) s =
      let u = s.only in
      let rows = u.0.rows in
      let f = u.1 in
      let m = length was - length rows in
      let l = latest_padded g rows m ∙ sym f.last in
      let t = take_at rows (replicate m no_row) g.tasks f.each in
      rw (u.3, u.4, l, t) (sym u.2)
  read_back was now (Err d) s = tt
