-- The edges of a task on one side: those that lead into it, or out of it, in the order of the file.
use Rattle.std.specs.Prelude.{ℕ, ◌<◌, List, length, filter, slice_index_or, ◌==◌}
use Rattle.edges.specs.declared.edge.Edge.{Edge}
use Rattle.edges.specs.declared.edge.Side.{Side}
use Rattle.edges.specs.declared.edge.Side.TheVariants.{From, To}

abbrev pub no_edge : Edge
no_edge = record { from = 0; to = 0; amount = 0 }

abbrev pub end_on : Side → Edge → ℕ
end_on From e = e.from
end_on To e = e.to

-- those whose key is t, in order
abbrev pub share : {X : Type 0} → (X → ℕ) → List X → ℕ → List X
share key xs t = filter (λ x. key x == t) xs

-- the edges into a task, and out of it
abbrev pub into : List Edge → ℕ → List Edge
into es t = share (end_on To) es t

abbrev pub out_of : List Edge → ℕ → List Edge
out_of es t = share (end_on From) es t

-- both ends of each edge are below n
abbrev pub Within : List Edge → ℕ → Type 0
Within es n = (k : ℕ) → k < length es → ((slice_index_or es k no_edge).from < n) × ((slice_index_or es k no_edge).to < n)

-- each end on that side is below n
abbrev pub Under : Side → List Edge → ℕ → Type 0
Under side es n = (k : ℕ) → k < length es → end_on side (slice_index_or es k no_edge) < n
