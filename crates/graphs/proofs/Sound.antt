-- Every graph is sound.
use Rattle.std.proofs.Common.{◌≡◌, ℕ, ◌^◌, ◌<◌, ◌≤◌, List, length, get_or, vec_items, refl, ap, inl, inr, arith}
use Rattle.std.proofs.lemmas.List.{get_or_past}
use Rattle.std.proofs.lemmas.Bool.{cases_lt}
use Rattle.edges.specs.declared.edge.Edge.{Edge}
use Rattle.edges.specs.Edges.{no_edge}
use Rattle.graphs.specs.declared.types.Task.{Task}
use Rattle.graphs.specs.declared.graph.Graph.{Graph}
use Rattle.graphs.specs.Model.{no_task, Sound, Acyclic}
use Rattle.graphs.specs.Graphs.{tasks_of, edges_of, model_of}

-- a limit that holds of each element holds past them too, where what is read is 0
beyond : {X : Type 0} (xs : List X) (d : X) (f : X → ℕ) (m : ℕ) → f d ≡ 0 → ((k : ℕ) → k < length xs → f (get_or xs k d) ≤ m) → (k : ℕ) → f (get_or xs k d) ≤ m
beyond xs d f m z h k = elim (cases_lt k (length xs)) [
  | inl l ↦ h k l
  | inr g ↦ omega (arith, ap f (get_or_past xs k d g))
]

module _ (g : Graph) where
  acyclic : Acyclic (model_of g)
  acyclic = record {
    height = λ t. get_or (vec_items g.rank) t 0;
    low = λ t l. (g.ranked t l).0;
    up = g.forward;
  }

  pub sound : Sound (model_of g)
  sound = record {
    few = g.few.0;
    few_edges = g.few.1;
    times = beyond (tasks_of g) no_task (λ (x : Task). x.time) (2 ^ 20) refl (λ t l. (g.times t l).1);
    lasting = λ t l. (g.times t l).0;
    sizes = beyond (tasks_of g) no_task (λ (x : Task). x.size) (2 ^ 24) refl g.sizes;
    amounts = beyond (edges_of g) no_edge (λ (e : Edge). e.amount) (2 ^ 20) refl g.amounts;
    known = λ k l. let w = g.table.within k l in (omega (arith, w.0, g.joined), omega (arith, w.1, g.joined));
    acyclic = acyclic;
  }
