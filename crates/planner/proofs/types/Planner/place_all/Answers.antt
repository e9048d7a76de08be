use Rattle.std.proofs.Common.{◌≡◌, ℕ, ◌<◌, ◌≤◌, true, Ok, Err, OnOk, Result, is_ok, sym, ap, ◌∙◌, subst, arith}
use Rattle.std.proofs.lemmas.Bool.{false≢true, le-leb, cond-true, lt-ltb}
use Rattle.std.proofs.lemmas.Result.{err_from_is_err_and}
use Rattle.graphs.specs.declared.graph.Graph.{Graph}
use Rattle.graphs.specs.Graphs.{model_of}
use Rattle.graphs.proofs.Sound.{sound}
use Rattle.links.specs.Links.{Arrives}
use Rattle.scans.specs.Scans.{largest}
use Rattle.steps.specs.Seats.{end_of}
use Rattle.planner.specs.Turns.{after}
use Rattle.planner.specs.Queues.{Levelled}
use Rattle.planner.proofs.Outcomes.{parameter_denied, large_denied, planned_after, made_outcome, few_workers, small_tasks}
use Rattle.planner.proofs.types.Planner.place_all.Goals as goal

at_ok : {T E P : Type 0} (r : Result T E) → is_ok r ≡ true → OnOk r P → P
at_ok (Ok x) e h = h
at_ok (Err x) e h = absurd (false≢true e)

pub schedule-requires : goal.schedule-requires
schedule-requires g c =
    let p = c.args.self.now in
    let gr = c.args.graph.now in
    let a : Arrives = g.L.Link.arrives p.link.now in
    let same : c.new-desk.result.graph.now ≡ gr = c.new-desk.ensures.graph in
    let few = (sound gr).few in
    let fl = c.fill_levels.ensures in
    let yes : is_ok c.fill_levels.result ≡ true = fl.answers ∙ le-leb _ _ (omega (arith, c.requires.1)) in
    let small = small_tasks p.limits p.policy a (model_of gr) (sym c.in_default-too_large.ensures) in
    record {
      levels = subst (λ (y : Graph). Levelled a (model_of y) c.fill_levels.new.levels) (sym same)
          (record {
            rows = omega (arith, few, c.requires.1);
            is = λ t l. at_ok c.fill_levels.result yes fl.each t ∙ cond-true _ _ _ (lt-ltb _ _ l);
            low = at_ok c.fill_levels.result yes fl.low;
          });
      limits = few_workers p.limits p.policy a (model_of gr) (sym c.in_default.ensures);
      small = subst (λ (y : Graph). (t : ℕ) → t < (model_of y).tasks → (model_of y).size t ≤ p.limits.memory) (sym same) small;
      fresh = c.new-desk.ensures.seats;
      queue = (c.over-ready.ensures.empty.1, omega (arith, c.over-ready.ensures.table.2, c.requires.2));
    }

pub returns-in-Some : goal.returns-in-Some
returns-in-Some g c =
    let p = c.args.self.now in
    let a : Arrives = g.L.Link.arrives p.link.now in
    parameter_denied p.limits p.policy a (model_of c.args.graph.now) c.in-Some.position c.in-Some.ensures

pub returns-in-Some-too_large : goal.returns-in-Some-too_large
returns-in-Some-too_large g c =
    let p = c.args.self.now in
    let a : Arrives = g.L.Link.arrives p.link.now in
    large_denied p.limits p.policy a (model_of c.args.graph.now) c.in-Some-too_large.task c.in_default.ensures c.in-Some-too_large.ensures

pub returns-in_err-schedule : goal.returns-in_err-schedule
returns-in_err-schedule g c =
    let p = c.args.self.now in
    let gr = c.args.graph.now in
    let a : Arrives = g.L.Link.arrives p.link.now in
    let same : c.new-desk.result.graph.now ≡ gr = c.new-desk.ensures.graph in
    let e = c.in_err-schedule.field-0.0 in
    let gone : after p.limits p.policy a (model_of gr) (model_of gr).tasks ≡ Err e = subst (λ (y : Graph). after p.limits p.policy a (model_of y) (model_of y).tasks ≡ Err e) same c.in_err-schedule.ensures.after in
    let was = err_from_is_err_and c.from_residual.result c.from_residual.ensures.1 in
    rw (was.1, was.2) (planned_after p.limits p.policy a (model_of gr) (sym c.in_default.ensures) (sym c.in_default-too_large.ensures) ∙ gone)

pub returns : goal.returns
returns g c =
    let p = c.args.self.now in
    let gr = c.args.graph.now in
    let a : Arrives = g.L.Link.arrives p.link.now in
    let same : c.new-desk.result.graph.now ≡ gr = c.new-desk.ensures.graph in
    let d = c.schedule.new.desk in
    let there : d.graph.now ≡ gr = c.schedule.ensures.graph ∙ same in
    let fl = c.fill_levels.ensures in
    let yes : is_ok c.fill_levels.result ≡ true = fl.answers ∙ le-leb _ _ (omega (arith, (sound gr).few, c.requires.1)) in
    let done : after p.limits p.policy a (model_of gr) (model_of gr).tasks ≡ Ok d.seats = subst (λ (y : Graph). after p.limits p.policy a (model_of y) (model_of y).tasks ≡ Ok d.seats) same c.in_ok-schedule.ensures.after in
    made_outcome p.limits p.policy a (model_of gr) d.seats c.latest.result c.write_rows.new.rows c.fill_levels.new.levels
    (planned_after p.limits p.policy a (model_of gr) (sym c.in_default.ensures) (sym c.in_default-too_large.ensures) ∙ done)
    (c.latest.ensures ∙ ap (λ (y : Graph). largest (end_of (model_of y) d.seats) (model_of y).tasks) there)
    c.write_rows.ensures (at_ok c.fill_levels.result yes fl.each)
