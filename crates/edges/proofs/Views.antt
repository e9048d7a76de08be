-- What a table of edges shows: the share of a task, and what holds of its edges.
use Rattle.std.proofs.Common.{◌≡◌, ℕ, ◌<◌, Bool, eqb, List, ◌++◌, length, get_or, take, vec_items, ap, ◌∙◌, arith}
use lib.Seq.{take-append-le}
use Rattle.std.proofs.lemmas.List.{take_all}
use Rattle.std.proofs.lemmas.List.Elements.{All-from_get_or, All-filter, filter_passes}
use Rattle.std.proofs.lemmas.Bool.{eqb-true}
use Rattle.edges.specs.declared.edge.Edge.{Edge}
use Rattle.edges.specs.declared.edge.Side.{Side}
use Rattle.edges.specs.declared.sort.Sorted.{Sorted}
use Rattle.edges.specs.Edges.{no_edge, share, end_on, Within}
use Rattle.edges.specs.Sorts.{SortedBy}

-- the share that a sorted copy shows is the share of the edges that were sorted
pub shown : (side : Side) (es : List Edge) (n : ℕ) (s : Sorted) (xs : List Edge) (t : ℕ) → SortedBy side es n s → xs ≡ share (end_on s.side) (vec_items s.edges) t → xs ≡ share (end_on side) es t
shown side es n s xs t h e = e ∙ ap (λ (d : Side). share (end_on d) (vec_items s.edges) t) h.side_is ∙ h.shares t

-- the edges of a share are of the table, and have the task at that end
pub within_by : (side : Side) (es xs : List Edge) (n t : ℕ) → xs ≡ share (end_on side) es t → Within es n → (k : ℕ) → k < length xs → ((get_or xs k no_edge).from < n) × ((get_or xs k no_edge).to < n) × (end_on side (get_or xs k no_edge) ≡ t)
within_by side es xs n t e h = rw e (λ k l.
    let p : Edge → Bool = λ e. eqb (end_on side e) t in
    let P : Edge → Type 0 = λ e. (e.from < n) × (e.to < n) in
    let w = All-filter p P es (All-from_get_or P es no_edge h) k no_edge l in
    (w.0, w.1, eqb-true _ _ (filter_passes p es k no_edge l)))

-- a table whose elements were all written holds what was written
pub whole : {X : Type 0} (n : ℕ) (xs ys : List X) → length xs ≡ n → take n (xs ++ ys) ≡ xs
whole n xs ys e = take-append-le n xs ys (omega arith) ∙ take_all n xs (omega arith)
