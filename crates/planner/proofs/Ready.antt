-- Whether a task is ready, by the edges into it.
use Rattle.std.proofs.Common.{◌≡◌, ℕ, Bool, true, false, not, ◌&&◌, eqb, List, sym, ap, ◌∙◌}
use Rattle.scans.specs.Scans.{every_in}
use Rattle.scans.proofs.Lists.{every_kept}
use Rattle.edges.specs.declared.edge.Edge.{Edge}
use Rattle.edges.specs.Edges.{no_edge, into}
use Rattle.graphs.specs.declared.types.Task.{Task}
use Rattle.graphs.specs.Model.{model}
use Rattle.steps.specs.Seats.{Seats, placed}
use Rattle.planner.specs.Turns.{ready}

-- the source of an edge is placed
abbrev pub brought : Seats → Edge → Bool
brought s e = placed s e.from

pub ready_is : (ts : List Task) (es : List Edge) (s : Seats) (t : ℕ) → ready (model ts es) s t ≡ (not (placed s t) && every_in (brought s) (into es t))
unfolding ready
ready_is ts es s t = ap (λ (b : Bool). not (placed s t) && b) (every_kept (λ (e : Edge). eqb e.to t) (brought s) es no_edge)

pub ready_unplaced : (ts : List Task) (es xs : List Edge) (s : Seats) (t : ℕ) (b : Bool) → xs ≡ into es t → placed s t ≡ false → b ≡ every_in (brought s) xs → b ≡ ready (model ts es) s t
ready_unplaced ts es xs s t b is p e = e ∙ ap (every_in (brought s)) is ∙ sym (ready_is ts es s t ∙ simp p)

pub ready_placed : (ts : List Task) (es : List Edge) (s : Seats) (t : ℕ) → placed s t ≡ true → false ≡ ready (model ts es) s t
ready_placed ts es s t p = sym (ready_is ts es s t ∙ simp p)
