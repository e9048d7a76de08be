-- One turn of planning: the first of the heap is placed, and its successors that became ready join.
use Rattle.std.proofs.Common.{◌≡◌, ℕ, ◌<◌, Bool, true, false, not, ◌&&◌, List, [], length, get_or, set, Some, Ok, Err, sym, refl, ap, ◌∙◌, arith}
use Rattle.std.proofs.lemmas.Bool.{and_from, lt-ltb, le-leb, not_from_false}
use Rattle.graphs.specs.Model.{TaskGraph}
use Rattle.heaps.specs.declared.entries.Ready.{Ready}
use Rattle.heaps.specs.Heaps.{ReadyHeap, room, queue, Gave}
use Rattle.links.specs.Links.{Arrives}
use Rattle.plans.specs.declared.types.Row.{Row}
use Rattle.plans.specs.declared.types.Limits.{Limits}
use Rattle.plans.specs.declared.fault.PlanFault.{PlanFault}
use Rattle.steps.specs.Seats.{Seats, placed, placeable, Marks}
use Rattle.steps.specs.Steps.{choice, seat}
use Rattle.planner.specs.Turns.{ready, rank, next, put, place, turn}
use Rattle.planner.specs.Queues.{apart_from, Waiting}
use Rattle.planner.specs.States.{Going}
use Rattle.planner.proofs.Choices.{choice_in}
use Rattle.planner.proofs.Goods.{seated_is, good_more}
use Rattle.planner.proofs.Afters.{ready_free}
use Rattle.planner.proofs.Queues.{line_ends, line_next, line_in, line_left, waiting_same}

module _ (limits : Limits) (policy : ℕ) (arrives : Arrives) (g : TaskGraph) (s : Seats) (h : ReadyHeap) (go : Going limits policy arrives g s h) where
  pub turn_ends : queue h ≡ [] → turn limits policy arrives g s ≡ Ok s
  turn_ends e = ap (place limits policy arrives g s) (line_ends policy arrives g s h e go.lined)

  module _ (k : ReadyHeap) (x : Ready) (gave : Gave h x k) where
    is_next : next policy arrives g s ≡ Some x.task
    is_next = line_next policy arrives g s h k x go.lined gave

    pub is_task : x.task < g.tasks
    is_task = (line_in policy arrives g s h k x go.lined gave).0

    is_ready_lem : ready g s x.task ≡ true
    is_ready_lem = (line_in policy arrives g s h k x go.lined gave).1

    is_free : placed s x.task ≡ false
    is_free = ready_free limits policy arrives g s x.task is_ready_lem

    turned : turn limits policy arrives g s ≡ put s x.task (seat limits arrives g s x.task)
    turned = ap (place limits policy arrives g s) is_next

    pub turn_denied : (e : PlanFault) → Err e ≡ seat limits arrives g s x.task → turn limits policy arrives g s ≡ Err e
    turn_denied e q = turned ∙ ap (put s x.task) (sym q)

    module _ (r : Row) (sat : Ok r ≡ seat limits arrives g s x.task) where
      pub turn_places : turn limits policy arrives g s ≡ Ok (set s x.task (Some r))
      turn_places = turned ∙ ap (put s x.task) (sym sat)

      -- the desk takes the row
      pub may_place_lem : placeable g s x.task r ≡ true
      unfolding placeable seat
      may_place_lem =
          let is = seated_is limits arrives g s x.task r (choice limits arrives g s x.task) (sym sat) in
          let w = choice_in limits arrives g s x.task r.worker is.0 in
          and_from _ _ (lt-ltb _ _ is_task) (and_from _ _ (not_from_false _ is_free) (and_from _ _ (lt-ltb _ _ (omega (arith, w.0, go.workers))) (le-leb _ _ is.1.1)))

      -- the rest of the heap: those that do not wait for the task
      pub rest_waits : (marks : List Bool) → Marks g x.task marks → room k ≡ room h
          → Waiting (λ v. ready g (set s x.task (Some r)) v && not (get_or marks v false)) (rank policy arrives g (set s x.task (Some r))) g.tasks k
      rest_waits marks is long =
          let in_row : x.task < length s = omega (arith, go.good.sized, go.few, is_task) in
          waiting_same (apart_from g (set s x.task (Some r)) x.task) _ _ _ g.tasks k
          (λ v l. ap (λ (b : Bool). ready g (set s x.task (Some r)) v && not b) (sym (is v (omega (arith, go.few))))) (λ v l y. refl)
          (line_left policy arrives g s h k x go.lined gave r in_row is_free long)

      pub going_on : (m : ReadyHeap) → Waiting (ready g (set s x.task (Some r))) (rank policy arrives g (set s x.task (Some r))) g.tasks m → Going limits policy arrives g (set s x.task (Some r)) m
      going_on m lined = record {
        few = go.few;
        workers = go.workers;
        small = go.small;
        good = good_more limits arrives g go.small s x.task r go.few go.good is_task is_ready_lem (sym sat);
        lined = lined;
      }
