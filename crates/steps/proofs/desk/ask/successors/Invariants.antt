use Rattle.std.proofs.Common.{◌≡◌, ℕ, ◌<◌, false, eqb, length, get_or, take}
use Rattle.scans.specs.Scans.{some_in}
use Rattle.edges.specs.declared.edge.Edge.{Edge}
use Rattle.steps.proofs.desk.ask.successors.Given as goal

abbrev pub invariant-loop-e : goal.invariant-loop-e
invariant-loop-e l = (length l.marks ≡ 512) × ((v : ℕ) → v < 512 → get_or l.marks v false ≡ some_in (λ (e : Edge). eqb e.to v) (take l.e-index l.outs))
