use Rattle.std.proofs.Common.{◌≡◌, ◌*◌, ◌^◌, ◌≤◌}
use Rattle.scans.specs.Scans.{total}
use Rattle.plans.specs.Jobs.{placing}
use Rattle.plans.specs.Rules.{size_on}
use Rattle.plans.proofs.types.Plan.memory_used.Given as goal

abbrev pub invariant-loop-t : goal.invariant-loop-t
invariant-loop-t l = (l.sum ≡ total (size_on (placing l.self) l.worker) l.t) × (l.sum ≤ 2 ^ 24 * l.t)
