use Rattle.std.proofs.Common.{◌≡◌, ℕ, ◌<◌, true, false, not, ◌||◌, get_or, take}
use Rattle.scans.specs.Scans.{every_in}
use Rattle.edges.specs.declared.edge.Edge.{Edge}
use Rattle.edges.specs.Edges.{out_of}
use Rattle.graphs.specs.Graphs.{edges_of}
use Rattle.steps.specs.Seats.{at, sits, placed}
use Rattle.steps.proofs.desk.Desk.closed.Given as goal

abbrev pub invariant-loop-e : goal.invariant-loop-e
invariant-loop-e l = (l.shut ≡ true) × (every_in (λ (e : Edge). placed l.self.seats e.to || get_or l.marks e.to false) (take l.e-index l.outs) ≡ true)

abbrev pub invariant-search : goal.invariant-search
invariant-search l = (l.shut ≡ true) × ((u : ℕ) → u < l.u → (not (sits (at l.self.seats u) l.w) || every_in (λ (e : Edge). placed l.self.seats e.to || get_or l.marks e.to false) (out_of (edges_of l.self.graph.now) u)) ≡ true)
