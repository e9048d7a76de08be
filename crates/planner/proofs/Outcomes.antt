-- What planning leaves, from what it met: a parameter, a task that is too large, a denied placement, or a plan.
use Rattle.std.proofs.Common.{◌≡◌, ℕ, ◌<◌, ◌≤◌, Bool, true, false, ltb, List, [], length, get_or, Some, None, Ok, Err, Option, Result, sym, refl, ap, ◌∙◌, arith}
use Rattle.std.proofs.lemmas.Bool.{and_parts, leb-true, ltb-false}
use Rattle.scans.specs.Scans.{largest}
use Rattle.scans.proofs.Scans.{lowest_all}
use Rattle.graphs.specs.Model.{TaskGraph, Sound}
use Rattle.levels.specs.Levels.{level_at as level_of_index}
use Rattle.links.specs.Links.{Arrives}
use Rattle.plans.specs.declared.types.Row.{Row}
use Rattle.plans.specs.declared.types.Limits.{Limits}
use Rattle.plans.specs.declared.fault.PlanFault.{PlanFault}
use Rattle.plans.specs.declared.fault.PlanFault.TheVariants.{Parameter, TooLarge, ShortTable}
use Rattle.plans.specs.Jobs.{job, no_row}
use Rattle.plans.specs.Rules.{Rules}
use Rattle.plans.specs.Checked.{bad_limit}
use Rattle.plans.proofs.Told.{none_allowed}
use Rattle.steps.specs.Seats.{Seats, at, end_of}
use Rattle.planner.specs.Turns.{after}
use Rattle.planner.specs.Plans.{or_policy, bad_parameter, too_large_task, planned, answer, row_of, row_at, level_at, enough, planning, Outcome}
use Rattle.planner.proofs.Laws.{plan_laws}

module _ (limits : Limits) (policy : ℕ) (arrives : Arrives) (g : TaskGraph) where
  pub parameter_denied : (p : ℕ) → Some p ≡ bad_parameter limits policy → planned limits policy arrives g ≡ Err (Parameter p)
  unfolding planned
  parameter_denied p e = let q = sym e in simp q

  pub large_denied : (t : ℕ) → None ≡ bad_parameter limits policy → Some t ≡ too_large_task limits g → planned limits policy arrives g ≡ Err (TooLarge t)
  unfolding planned
  large_denied t e f = let q = sym e in let r = sym f in simp (q, r)

  pub planned_after : bad_parameter limits policy ≡ None → too_large_task limits g ≡ None → planned limits policy arrives g ≡ after limits policy arrives g g.tasks
  unfolding planned
  planned_after e f = simp (e, f)

  -- every row and every level is 0
  pub denied_outcome : (e : PlanFault) (rows : List Row) (levels : List ℕ) → planned limits policy arrives g ≡ Err e
      → ((k : ℕ) → k < length rows → get_or rows k no_row ≡ no_row) → ((k : ℕ) → k < length levels → get_or levels k 0 ≡ 0) → Outcome limits policy arrives g (Err e) rows levels
  denied_outcome e rows levels p r l = record {
    answered = sym (ap (answer g) p);
    rowed = λ k h. r k h ∙ sym (ap (λ (o : Result Seats PlanFault). row_at o k) p);
    levelled = λ k h. l k h ∙ sym (ap (λ (o : Result Seats PlanFault). level_at arrives g o k) p);
  }

  pub made_outcome : (s : Seats) (n : ℕ) (rows : List Row) (levels : List ℕ) → planned limits policy arrives g ≡ Ok s → n ≡ largest (end_of g s) g.tasks
      → ((k : ℕ) → k < length rows → get_or rows k no_row ≡ row_of (at s k)) → ((k : ℕ) → get_or levels k 0 ≡ level_of_index arrives g k) → Outcome limits policy arrives g (Ok n) rows levels
  made_outcome s n rows levels p e r l = record {
    answered = ap Ok e ∙ sym (ap (answer g) p);
    rowed = λ k h. r k h ∙ sym (ap (λ (o : Result Seats PlanFault). row_at o k) p);
    levelled = λ k h. l k ∙ sym (ap (λ (o : Result Seats PlanFault). level_at arrives g o k) p);
  }

  -- the workers are few, and no task exceeds the memory
  pub few_workers : bad_parameter limits policy ≡ None → limits.workers ≤ 16
  few_workers e = (none_allowed 512 (job g [] limits arrives) (omega arith) (sym (none_there (bad_limit limits.workers limits.memory) e))).workers.1
    where
      none_there : (o : Option ℕ) → or_policy o policy ≡ None → o ≡ None
      none_there None h = refl
      none_there (Some p) h = h

  pub small_tasks : too_large_task limits g ≡ None → (t : ℕ) → t < g.tasks → g.size t ≤ limits.memory
  small_tasks e t l = ltb-false _ _ (lowest_all (λ u. ltb limits.memory (g.size u)) g.tasks t e l)

  answer_ok : (n : ℕ) (o : Result Seats PlanFault) → Ok n ≡ answer g o → (s : Seats) × (o ≡ Ok s)
  answer_ok n (Ok s) e = (s, refl)
  answer_ok n (Err y) e = absurd (let z : ◌≡◌ {A = ℕ} 0 1 = cc in omega arith)

  -- the rows of a plan keep the five rules
  pub outcome_rules : Sound g → (r : Result ℕ PlanFault) (rows : List Row) (levels : List ℕ) → 512 ≤ length rows → Outcome limits policy arrives g r rows levels → (n : ℕ) → r ≡ Ok n → Rules (job g rows limits arrives)
  outcome_rules sound r rows levels long out n e =
      let is = answer_ok n (planned limits policy arrives g) (sym e ∙ out.answered) in
      (plan_laws.pass limits policy arrives g sound is.0 is.1 rows long (λ k l. out.rowed k l ∙ ap (λ (o : Result Seats PlanFault). row_at o k) is.1)).0

  pub planning_enough : (b : Bool) (r : Result ℕ PlanFault) (rows : List Row) (levels : List ℕ) → b ≡ true → Outcome limits policy arrives g r rows levels → r ≡ planning b limits policy arrives g
  unfolding planning
  planning_enough b r rows levels e out = simp e out.answered

  pub planning_short : (b : Bool) → b ≡ false → Err ShortTable ≡ planning b limits policy arrives g
  unfolding planning
  planning_short b e = simp e

pub enough_long : (a b c : ℕ) → enough a b c ≡ true → (512 ≤ a) × (512 ≤ b) × (512 ≤ c)
enough_long a b c e = let p = and_parts _ _ e in let q = and_parts _ _ p.1 in (leb-true _ _ p.0, leb-true _ _ q.0, leb-true _ _ q.1)
