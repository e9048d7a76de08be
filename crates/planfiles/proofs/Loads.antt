-- What the reader of a plan file has come to.
use Rattle.std.proofs.Common.{◌≡◌, ℕ, ◌<◌, ◌≤◌, List, length, Ok, Err, Result, sym, refl, ap, ◌∙◌, arith}
use Rattle.std.proofs.lemmas.Bool.{lt-ltb, le-ltb, cond-true, cond-false, eq-eqb, ne_eqb}
use Rattle.records.specs.declared.fault.RecordFault.TheVariants.{Trailing}
use Rattle.records.specs.Fields.{and_then}
use Rattle.graphs.specs.Model.{TaskGraph}
use Rattle.plans.specs.declared.types.Row.{Row}
use Rattle.plans.specs.declared.fault.PlanFault.{PlanFault}
use Rattle.plans.specs.declared.fault.PlanFault.TheVariants.{NotOfGraph}
use Rattle.plans.specs.Jobs.{unlinked}
use Rattle.plans.specs.Rules.{latest}
use Rattle.planfiles.specs.declared.head.Head.{Head}
use Rattle.planfiles.specs.Plans.{Plan}
use Rattle.planfiles.specs.Reading.{in_row, rows_at, head_at, plan_at, closed, answer_of, padded, Filled, Loaded}
use Rattle.planfiles.proofs.Tables.{latest_padded}

filled_not : (n : ℕ) (r : Result (List Row × ℕ) PlanFault) (e : PlanFault) (now : List Row) → Filled n r (Err e) now → r ≡ Err e
filled_not n (Ok q) e now f = absurd (let z : ◌≡◌ {A = ℕ} 0 1 = cc f.0 in omega arith)
filled_not n (Err d) e now f = let z : d ≡ e = cc f in ap Err z

filled_yes : (n : ℕ) (r : Result (List Row × ℕ) PlanFault) (x : ℕ) (now : List Row) → Filled n r (Ok x) now → (q : List Row × ℕ) × (r ≡ Ok q) × (x ≡ q.1) × (now ≡ padded n q.0)
filled_yes n (Ok q) x now f = (q, refl, (let e = f.0 in cc), f.1)
filled_yes n (Err d) x now f = absurd (let z : ◌≡◌ {A = ℕ} 0 1 = cc f in omega arith)

-- the task count as the code has it
module _ (n : ℕ) (g : TaskGraph) (file : List ℕ) (r : Result (ℕ × ℕ) PlanFault) (now : List Row) (tasks : ℕ) (t : tasks ≡ g.tasks) where
  refused : (e : PlanFault) → plan_at g file ≡ Err e → r ≡ Err e → Loaded n (plan_at g file) r now
  refused e p q = rw p q

  given : (p : Plan) → plan_at g file ≡ Ok p → r ≡ Ok (answer_of p) → now ≡ padded n p.rows → Loaded n (plan_at g file) r now
  given p e a b = rw e (a, b)

  pub no_head : (e : PlanFault) → Err e ≡ head_at file tasks → r ≡ Err e → Loaded n (plan_at g file) r now
  unfolding plan_at
  no_head e p q = let d = p ∙ ap (head_at file) t in refused e (rw (← d)) q

  module _ (h : Head) (hp : Ok h ≡ head_at file tasks) where
    headed : plan_at g file ≡ and_then (rows_at tasks file h.workers 0 h.next) (closed g file h)
    unfolding plan_at
    headed =
        ap (λ x. and_then x (λ y. and_then (rows_at g.tasks file y.workers 0 y.next) (closed g file y))) (sym (hp ∙ ap (head_at file) t))
        ∙ ap (λ m. and_then (rows_at m file h.workers 0 h.next) (closed g file h)) (sym t)

    pub no_rows : (e : PlanFault) → Filled n (rows_at tasks file h.workers 0 h.next) (Err e) now → r ≡ Err e → Loaded n (plan_at g file) r now
    no_rows e f q = refused e (headed ∙ ap (λ x. and_then x (closed g file h)) (filled_not n _ e now f)) q

    module _ (end : ℕ) (f : Filled n (rows_at tasks file h.workers 0 h.next) (Ok end) now) where
      came : (q : List Row × ℕ) × (plan_at g file ≡ closed g file h q) × (end ≡ q.1) × (now ≡ padded n q.0)
      came = let y = filled_yes n _ end now f in (y.0, headed ∙ ap (λ x. and_then x (closed g file h)) y.1, y.2, y.3)

      pub too_long : end < length file → r ≡ Err (in_row tasks (Trailing end)) → Loaded n (plan_at g file) r now
      too_long l e =
          let y = came in
          let k : y.0.1 < length file = omega arith in
          refused _ (y.1 ∙ cond-true _ _ _ (lt-ltb _ _ k) ∙ ap (λ x. Err (in_row g.tasks (Trailing x))) (sym y.2)) (e ∙ ap (λ m. Err (in_row m (Trailing end))) t)

      lasts : latest (unlinked g now 0 0) ≡ latest (unlinked g came.0.0 0 0)
      lasts = ap (λ x. latest (unlinked g x 0 0)) came.3 ∙ latest_padded g came.0.0 _

      pub wrong_length : length file ≤ end → (h.ticks ≡ latest (unlinked g now 0 0) → ⊥) → r ≡ Err (NotOfGraph h.place) → Loaded n (plan_at g file) r now
      wrong_length l d e =
          let y = came in
          let k : length file ≤ y.0.1 = omega arith in
          refused _ (y.1 ∙ cond-false _ _ _ (le-ltb _ _ k) ∙ cond-false _ _ _ (ne_eqb _ _ (λ t. d (t ∙ sym lasts)))) e

      pub good : length file ≤ end → h.ticks ≡ latest (unlinked g now 0 0) → r ≡ Ok (h.workers, h.ticks) → Loaded n (plan_at g file) r now
      good l d e =
          let y = came in
          let k : length file ≤ y.0.1 = omega arith in
          given _ (y.1 ∙ cond-false _ _ _ (le-ltb _ _ k) ∙ cond-true _ _ _ (eq-eqb _ _ (d ∙ lasts))) e y.3
