use Rattle.std.proofs.Common.{◌≡◌, Bool, false, cond, not, ◌&&◌, get_or, set, Some, Ok, sym, ap, ◌∙◌, subst}
use Rattle.std.proofs.lemmas.Result.{err_from_is_err_and}
use Rattle.graphs.specs.declared.graph.Graph.{Graph}
use Rattle.graphs.specs.Graphs.{model_of}
use Rattle.graphs.specs.Model.{TaskGraph}
use Rattle.links.specs.Links.{Arrives}
use Rattle.steps.specs.Seats.{Seats, Marks}
use Rattle.planner.specs.Turns.{ready, rank}
use Rattle.planner.specs.Queues.{Levelled, Waiting}
use Rattle.planner.specs.States.{Going}
use Rattle.planner.proofs.Turning.{turn_ends, turn_denied, turn_places, may_place_lem, rest_waits, going_on}
use Rattle.planner.proofs.schedule.advance.Goals as goal

pub admit-requires : goal.admit-requires
admit-requires g c =
    let p = c.args.planner.now in
    let d = c.args.desk.now in
    let a : Arrives = g.L.Link.arrives p.link.now in
    let m : TaskGraph = model_of d.graph.now in
    let go = c.requires.going in
    let k = c.pop.new.self in
    let x = c.in-Some.first in
    let gave = c.in-Some.ensures.popped in
    let sat = c.in_ok-row.ensures.is go.workers in
    let row = c.in_ok-row.row in
    let s' : Seats = set d.seats x.task (Some row) in
    let same_graph : model_of c.place.new.self.graph.now ≡ m = ap model_of c.place.ensures.graph in
    let same-seats : c.place.new.self.seats ≡ s' = c.place.ensures.seats ∙ ap (λ (b : Bool). cond b s' d.seats) (c.place.ensures.is ∙ may_place_lem p.limits p.policy a m d.seats c.args.queue.now go k x gave row sat) in
    let marks = c.successors-marks.result in
    let marked : Marks m x.task marks = subst (λ (y : Graph). Marks (model_of y) x.task marks) (c.graph.ensures ∙ c.place.ensures.graph) c.successors-marks.ensures in
    let waits = rest_waits p.limits p.policy a m d.seats c.args.queue.now go k x gave row sat marks marked c.pop.ensures.stays.1 in
    record {
      levels = subst (λ (y : TaskGraph). Levelled a y c.args.levels.now) (sym same_graph) c.requires.levels;
      waiting =
          subst (λ (y : TaskGraph). Waiting (λ v. ready y c.place.new.self.seats v && not (get_or marks v false)) (rank p.policy a y c.place.new.self.seats) y.tasks k) (sym same_graph)
          (subst (λ (z : Seats). Waiting (λ v. ready m z v && not (get_or marks v false)) (rank p.policy a m z) m.tasks k) (sym same-seats) waits);
    }

pub returns-in_default-clause-turn : goal.returns-in_default-clause-turn
returns-in_default-clause-turn g c =
    let p = c.args.planner.now in
    let d = c.args.desk.now in
    let a : Arrives = g.L.Link.arrives p.link.now in
    let m : TaskGraph = model_of d.graph.now in
    let go = c.requires.going in
    let none = c.in_default.ensures.popped in
    (turn_ends p.limits p.policy a m d.seats c.args.queue.now go none.1, subst (Going p.limits p.policy a m d.seats) (sym none.2) go)

pub returns-in_err-row-clause-turn : goal.returns-in_err-row-clause-turn
returns-in_err-row-clause-turn g c =
    let p = c.args.planner.now in
    let d = c.args.desk.now in
    let a : Arrives = g.L.Link.arrives p.link.now in
    let m : TaskGraph = model_of d.graph.now in
    let go = c.requires.going in
    let gave = c.in-Some.ensures.popped in
    let e = err_from_is_err_and c.from_residual.result c.from_residual.ensures.1 in
    rw (e.1, e.2) (turn_denied p.limits p.policy a m d.seats c.args.queue.now go c.pop.new.self c.in-Some.first gave c.in_err-row.field-0.0 (c.in_err-row.ensures.is go.workers))

pub returns-clause-turn : goal.returns-clause-turn
returns-clause-turn g c =
    let p = c.args.planner.now in
    let d = c.args.desk.now in
    let a : Arrives = g.L.Link.arrives p.link.now in
    let m : TaskGraph = model_of d.graph.now in
    let go = c.requires.going in
    let h = c.args.queue.now in
    let k = c.pop.new.self in
    let x = c.in-Some.first in
    let gave = c.in-Some.ensures.popped in
    let sat = c.in_ok-row.ensures.is go.workers in
    let row = c.in_ok-row.row in
    let s' : Seats = set d.seats x.task (Some row) in
    let same_graph : model_of c.place.new.self.graph.now ≡ m = ap model_of c.place.ensures.graph in
    let same-seats : c.place.new.self.seats ≡ s' = c.place.ensures.seats ∙ ap (λ (b : Bool). cond b s' d.seats) (c.place.ensures.is ∙ may_place_lem p.limits p.policy a m d.seats h go k x gave row sat) in
    let q = c.admit.new.queue in
    let lined : Waiting (ready m s') (rank p.policy a m s') m.tasks q =
    subst (λ (z : Seats). Waiting (ready m z) (rank p.policy a m z) m.tasks q) same-seats
    (subst (λ (y : TaskGraph). Waiting (ready y c.place.new.self.seats) (rank p.policy a y c.place.new.self.seats) y.tasks q) same_graph c.admit.ensures) in (
      turn_places p.limits p.policy a m d.seats h go k x gave row sat ∙ ap Ok (sym same-seats),
      subst (λ (z : Seats). Going p.limits p.policy a m z q) (sym same-seats) (going_on p.limits p.policy a m d.seats h go k x gave row sat q lined),
    )
