use Rattle.std.proofs.Common.{◌≡◌, ℕ, ◌≤◌, List, length, take, refl, ap, arith, length-take, rules}
use Rattle.graphs.specs.Graphs.{model_of}
use Rattle.graphs.specs.Model.{TaskGraph}
use Rattle.plans.specs.declared.types.Row.{Row}
use Rattle.plans.specs.Jobs.{unlinked}
use Rattle.plans.specs.Rules.{latest}
use Rattle.numbers.specs.Texts.{Puts}
use Rattle.numbers.proofs.Texts.{puts_stands, puts_same, puts_count}
use Rattle.planfiles.specs.Plans.{plan_bytes, plan_of, plan_file}
use Rattle.planfiles.specs.Writing.{Writable, short, limit, rule1, rule2, buffer}
use Rattle.planfiles.proofs.Bytes.{plan_few}
use Rattle.planfiles.proofs.write.lay_plan.Goals as goal

pub returns-then-rows-lt-MOST_TASKS : goal.returns-then-rows-lt-MOST_TASKS
returns-then-rows-lt-MOST_TASKS c = record { told = (short (omega arith), refl); few = c.tasks-tasks.ensures.sound.few }

pub returns-then-not-contains : goal.returns-then-not-contains
returns-then-not-contains c = record { told = (limit (omega arith) (search rules), refl); few = c.tasks-tasks.ensures.sound.few }

pub returns-in-Some : goal.returns-in-Some
returns-in-Some c = record { told = (rule1 _ (omega arith) (search rules) c.in-Some.ensures.found, refl); few = c.tasks-tasks.ensures.sound.few }

pub returns-in-Some-above_ceiling : goal.returns-in-Some-above_ceiling
returns-in-Some-above_ceiling c =
    record { told = (rule2 _ (omega arith) (search rules) c.in_default.ensures.found c.in-Some-above_ceiling.ensures.found, refl); few = c.tasks-tasks.ensures.sound.few }

-- the plan that the writer was given, in the words of the contract
module _ (g : TaskGraph) (rows : List Row) (n workers ticks : ℕ) (e : n ≡ g.tasks) (l : ticks ≡ latest (unlinked g rows 0 0)) (s : g.tasks ≤ 512) where
  same-plan : plan_bytes (record { workers = workers; ticks = ticks; rows = take n rows }) ≡ plan_file g rows workers
  same-plan = rw (e, l)

  -- how many bytes it needs
  needs-bytes : {xs ys : List ℕ} {k : ℕ} → Puts xs 0 (plan_bytes (record { workers = workers; ticks = ticks; rows = take n rows })) ys k → k ≡ length (plan_file g rows workers)
  needs-bytes p = puts_count (puts_same same-plan p) (omega (arith, plan_few (plan_of g rows workers), length-take g.tasks rows))

pub returns-then-needed-out : goal.returns-then-needed-out
returns-then-needed-out c =
    let g = model_of c.args.graph.now in
    let last = c.latest_end-ticks.ensures.exact (λ t l. omega (arith, c.in_default-above_ceiling.ensures.found t l)) in
    let few = c.tasks-tasks.ensures.sound.few in
    let n = needs-bytes g c.args.rows.now _ c.args.workers _ (ap length c.tasks-tasks.ensures.is) last few c.put_plan-needed.ensures in
    let w : Writable (model_of c.args.graph.now) c.args.rows.now c.args.workers =
    record { long = omega arith; few = search rules; placed = c.in_default.ensures.found; in_time = c.in_default-above_ceiling.ensures.found } in
    record { told = (rw n (buffer w (omega (arith, n))), refl); few = few }

pub returns : goal.returns
returns c =
    let g = model_of c.args.graph.now in
    let last = c.latest_end-ticks.ensures.exact (λ t l. omega (arith, c.in_default-above_ceiling.ensures.found t l)) in
    let few = c.tasks-tasks.ensures.sound.few in
    let count = ap length c.tasks-tasks.ensures.is in
    let n = needs-bytes g c.args.rows.now _ c.args.workers _ count last few c.put_plan-needed.ensures in
    record {
      told = (
        record { long = omega arith; few = search rules; placed = c.in_default.ensures.found; in_time = c.in_default-above_ceiling.ensures.found },
        puts_stands (omega arith) (puts_same (same-plan g c.args.rows.now _ c.args.workers _ count last few) c.put_plan.ensures) (omega (arith, n)),
      );
      few = few;
    }
