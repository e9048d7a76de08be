use Rattle.std.proofs.Common.{◌≡◌, ℕ, ◌+◌, ◌<◌, Bool, true, false, not, length, get_or, sym, refl, ap, ◌∙◌, subst, ◌⊎◌, inl, inr, arith}
use Rattle.graphs.specs.Graphs.{model_of, tasks_of}
use Rattle.heaps.specs.declared.entries.Ready.{Ready}
use Rattle.heaps.specs.Heaps.{Pushed}
use Rattle.planner.specs.Turns.{ready, rank}
use Rattle.planner.specs.Queues.{Waiting, entry}
use Rattle.planner.proofs.Queues.{woken, woken_all, woken_skip, woken_put, woken_not, woken_now, waiting_same, waiting_room, waiting_put}
use Rattle.planner.proofs.queue.admit.Goals as goal
use Rattle.planner.proofs.queue.admit.Goals.{then-marks-u+then-is_ready, else-marks-u, else-marks-u-via-then-marks-u+else-is_ready, else-marks-u-via-else-marks-u}

pub loop-u-preserved : goal.loop-u-preserved
loop-u-preserved g c =
    let d = c.args.desk.now in
    let m = model_of d.graph.now in
    let key : ℕ → ℕ = rank c.args.planner.now.policy (g.L.Link.arrives c.args.planner.now.link.now) m d.seats in
    let q : ℕ → Bool = λ v. not (get_or c.args.marks.now v false) in
    let u = c.loop-u.u in
    let h = c.loop-u.queue in
    let l : u < m.tasks = omega (arith, ap length (c.tasks-tasks.ensures.is ∙ ap tasks_of c.graph.ensures), c.loop-u-test.true) in
    elim c.if-marks-u.branch [
      | then-marks-u+then-is_ready w ↦
          (let marked : q u ≡ false = ap not w.if-marks-u.true in
          let is_ready_lem : ready m d.seats u ≡ true = sym w.is_ready.ensures ∙ w.if-is_ready.true in
          let np = woken_not m d.seats q u marked in
          let room = waiting_room (woken m d.seats q u) key m.tasks h u l np c.loop-u.invariant in
          let same-entry : record { rank = w.rank-rank.result; task = u } ≡ entry key u = ap (λ (x : ℕ). record { rank = x; task = u }) w.rank-rank.ensures in
          let pushed = subst (λ (x : Ready). Pushed h x w.push.new.self) same-entry (w.push.ensures.pushed room) in
          let done = waiting_put (woken m d.seats q u) (woken m d.seats q (u + 1)) key m.tasks h w.push.new.self u l np (woken_now m d.seats q u is_ready_lem) (λ v ne. woken_put m d.seats q u v ne) w.push.ensures.stays.1 c.loop-u.invariant pushed in
          subst (Waiting (woken m d.seats q (u + 1)) key m.tasks) (sym w.queue-is) done)
      | else-marks-u w ↦
          (let skipped : (q u ≡ true) ⊎ (ready m d.seats u ≡ false) = elim w.else-marks-u.branch [
            | else-marks-u-via-then-marks-u+else-is_ready x ↦ inr (sym x.is_ready.ensures ∙ x.if-is_ready.false)
            | else-marks-u-via-else-marks-u x ↦ inl (ap not x.if-marks-u.false)
          ] in
          let done = waiting_same (woken m d.seats q u) (woken m d.seats q (u + 1)) key key m.tasks h (λ v _. woken_skip m d.seats q u skipped v) (λ v _ _. refl) c.loop-u.invariant in
          subst (Waiting (woken m d.seats q (u + 1)) key m.tasks) (sym w.queue-is) done)
    ]

pub returns : goal.returns
returns g c =
    let d = c.args.desk.now in
    let m = model_of d.graph.now in
    let key = rank c.args.planner.now.policy (g.L.Link.arrives c.args.planner.now.link.now) m d.seats in
    let n : m.tasks ≡ c.loop-u.u = omega (arith, ap length (c.tasks-tasks.ensures.is ∙ ap tasks_of c.graph.ensures), c.loop-u-test.false, c.loop-u.auto.u-end) in
    waiting_same (woken m d.seats (λ v. not (get_or c.args.marks.now v false)) c.loop-u.u) (ready m d.seats) key key m.tasks c.loop-u.queue
    (λ v l. woken_all m d.seats (λ v. not (get_or c.args.marks.now v false)) c.loop-u.u v (omega arith)) (λ v l y. refl) c.loop-u.invariant
