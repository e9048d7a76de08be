use Rattle.std.proofs.Common.{◌≡◌, ℕ, ◌+◌, true, false, not, ◌&&◌, length, get_or, replicate, Ok, Err, sym, refl, ap, ◌∙◌, subst, arith}
use Rattle.std.proofs.lemmas.List.{get_or-replicate}
use Rattle.std.proofs.lemmas.Bool.{and_right}
use Rattle.std.proofs.lemmas.Result.{err_from_is_err_and}
use Rattle.graphs.specs.declared.graph.Graph.{Graph}
use Rattle.graphs.specs.Graphs.{model_of, tasks_of}
use Rattle.graphs.specs.Model.{TaskGraph}
use Rattle.graphs.proofs.Sound.{sound}
use Rattle.links.specs.Links.{Arrives}
use Rattle.planner.specs.Turns.{ready, rank, turn}
use Rattle.planner.specs.Goods.{Good}
use Rattle.planner.specs.States.{Going}
use Rattle.planner.proofs.Afters.{nobody_good, after_more, after_denied}
use Rattle.planner.proofs.Queues.{waiting_none, waiting_same}
use Rattle.planner.proofs.schedule.schedule.Goals as goal

pub admit-requires : goal.admit-requires
admit-requires g c =
    let p = c.args.planner.now in
    let d = c.args.desk.now in
    let a : Arrives = g.L.Link.arrives p.link.now in
    let m : TaskGraph = model_of d.graph.now in
    let few = (sound d.graph.now).few in
    let key : ℕ → ℕ = rank p.policy a m d.seats in
    let q = c.requires.queue in
    record {
      levels = c.requires.levels;
      waiting = waiting_same (λ _. false) (λ v. ready m d.seats v && not (get_or (replicate 512 true) v false)) key key m.tasks c.args.queue.now
          (λ v l. sym (and_right _ _ (ap not (get_or-replicate 512 v true false (omega arith))))) (λ v l y. refl)
          (waiting_none (λ _. false) key m.tasks c.args.queue.now (λ _. refl) (omega (arith, q.1)) q.0);
    }

pub loop-turn-init : goal.loop-turn-init
loop-turn-init g c =
    let p = c.args.planner.now in
    let d = c.args.desk.now in
    let a : Arrives = g.L.Link.arrives p.link.now in
    let m : TaskGraph = model_of d.graph.now in (
      refl,
      ap Ok (sym c.requires.fresh),
      record {
        few = (sound d.graph.now).few;
        workers = c.requires.limits;
        small = c.requires.small;
        good = subst (Good p.limits a m) (sym c.requires.fresh) (nobody_good p.limits p.policy a m);
        lined = c.admit.ensures;
      },
    )

pub returns-in_err-advance-clause-after : goal.returns-in_err-advance-clause-after
returns-in_err-advance-clause-after g c =
    let p = c.args.planner.now in
    let a : Arrives = g.L.Link.arrives p.link.now in
    let m : TaskGraph = model_of c.args.desk.now.graph.now in
    let inv = c.loop-turn.invariant in
    let s = c.loop-turn.desk.seats in
    let e = c.in_err-advance.field-0.0 in
    let n : m.tasks ≡ length c.tasks-tasks.result.now = ap length (sym (c.tasks-tasks.ensures.is ∙ ap tasks_of c.graph.ensures)) in
    let t : turn p.limits p.policy a m s ≡ Err e = subst (λ (y : Graph). turn p.limits p.policy a (model_of y) s ≡ Err e) inv.0 c.in_err-advance.ensures.turn in
    let was = err_from_is_err_and c.from_residual.result c.from_residual.ensures.1 in
    rw (was.1, was.2) (after_denied p.limits p.policy a m (c.loop-turn.turn + 1) m.tasks e (after_more p.limits p.policy a m c.loop-turn.turn s (Err e) inv.1 t) (omega arith))

pub loop-turn-preserved : goal.loop-turn-preserved
loop-turn-preserved g c =
    let p = c.args.planner.now in
    let a : Arrives = g.L.Link.arrives p.link.now in
    let m : TaskGraph = model_of c.args.desk.now.graph.now in
    let inv = c.loop-turn.invariant in
    let s = c.loop-turn.desk.seats in
    let s' = c.advance.new.desk.seats in
    let both = c.in_ok-advance.ensures.turn in
    let t : turn p.limits p.policy a m s ≡ Ok s' = subst (λ (y : Graph). turn p.limits p.policy a (model_of y) s ≡ Ok s') inv.0 both.0 in (
      c.advance.ensures.graph ∙ inv.0,
      after_more p.limits p.policy a m c.loop-turn.turn s (Ok s') inv.1 t,
      subst (λ (y : Graph). Going p.limits p.policy a (model_of y) s' c.advance.new.queue) inv.0 both.1,
    )
