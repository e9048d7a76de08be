use Rattle.std.proofs.Common.{◌≡◌, ℕ, length, subst, ap, arith}
use Rattle.scans.specs.Scans.{total}
use Rattle.plans.specs.Jobs.{placing}
use Rattle.plans.specs.Rules.{size_on, used}
use Rattle.plans.proofs.types.Plan.memory_used.Goals as goal

pub returns : goal.returns
unfolding used
returns c =
    let j = placing c.args.self.now in
    let n : c.loop-t.t ≡ j.graph.tasks = omega (arith, ap length c.tasks-task-items.ensures.is) in
    subst (λ (k : ℕ). c.loop-t.sum ≡ total (size_on j c.args.worker) k) n c.loop-t.invariant.0
