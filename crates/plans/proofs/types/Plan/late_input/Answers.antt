use Rattle.std.proofs.Common.{ℕ, ◌<◌, ◌≤◌, Some, None, Option, List, length, get_or, subst, arith, rules, tests}
use Rattle.std.specs.List.{AllWithin, HoldsAt}
use Rattle.std.specs.Option.{MatchOption}
use Rattle.std.proofs.lemmas.Iterator.{IsFirst-from_position, YieldsList-from_slice}
use Rattle.edges.specs.declared.edge.Edge.{Edge}
use Rattle.edges.specs.Edges.{no_edge}
use Rattle.graphs.specs.declared.graph.Graph.{Graph}
use Rattle.graphs.specs.Graphs.{edges_of, model_of}
use Rattle.links.specs.Links.{Arrives}
use Rattle.plans.specs.declared.types.Row.{Row}
use Rattle.plans.specs.Jobs.{Job, job, no_limits}
use Rattle.plans.specs.Rules.{Fed, Found, brings, reaches}
use Rattle.plans.proofs.types.Plan.late_input.Goals as goal

-- what an edge brings is there, or is not, when its target starts
abbrev InTime : Job → Edge → Type 0
InTime j e = e.from < j.graph.tasks → brings j e.from e.to e.amount ≤ j.start e.to

abbrev Late : Job → Edge → Type 0
Late j e = e.from < j.graph.tasks → j.start e.to < brings j e.from e.to e.amount

-- both ends of an edge of a graph are tasks
known : (g : Graph) (k : ℕ) → k < (model_of g).edges → (get_or (edges_of g) k no_edge).from < (model_of g).tasks
known g k l = let in_table = (g.table.within k l).0 in omega (arith, g.joined)

module _ (g : Graph) (rows : List Row) (arr : Arrives) where
  abbrev j : Job
  j = job (model_of g) rows no_limits arr

  found : (r : Option ℕ) → MatchOption r (AllWithin (InTime j) (edges_of g) 0 (length (edges_of g))) (λ k. (k < length (edges_of g)) × HoldsAt (Late j) (edges_of g) k × AllWithin (InTime j) (edges_of g) 0 k) → Found (Fed j) (model_of g).edges r
  unfolding reaches
  found None h = λ k l. h k no_edge (omega arith) l (known g k l)
  found (Some k) h = record {
    within = h.0;
    fails = λ fed. omega (arith, h.1 no_edge (known g k h.0));
    below = λ i l. h.2 i no_edge (omega arith) l (known g i (omega (arith, h.0)));
  }

pub returns : goal.returns
unfolding reaches
returns g c =
    let j = job (model_of c.args.self.now.graph.now) c.args.self.now.rows.now no_limits (g.L.Link.arrives c.args.link.now) in
    let gr = c.args.self.now.graph.now in
    found gr c.args.self.now.rows.now (g.L.Link.arrives c.args.link.now) _ (subst (λ (es : List Edge). MatchOption c.position.result (AllWithin (InTime j) es 0 (length es)) (λ k. (k < length es) × HoldsAt (Late j) es k × AllWithin (InTime j) es 0 k)) c.edges.ensures (IsFirst-from_position _ _ _ (Late j) (InTime j) c.position.ensures.ran (YieldsList-from_slice c.edges.result.now cc) (λ x q k. search (rules, tests)) (λ x q k. search (rules, tests))))
