-- Which pairs of tasks a set has, and what a reader of edges learns from it.
use Rattle.std.specs.Prelude.{◌≡◌, ℕ, ◌+◌, ◌<◌, Bool, ◌&&◌, List, length, take, vec_items, Decides, ◌==◌, slice_index_or}
use Rattle.scans.specs.Scans.{some_in}
use Rattle.edges.specs.declared.edge.Edge.{Edge}
use Rattle.edges.specs.Edges.{no_edge}
use Rattle.orders.specs.declared.pairs.PairSet.{PairSet}
use Rattle.orders.specs.Marks.{joined}

-- the pair is in the set
abbrev pub held : PairSet → ℕ → ℕ → Bool
held s p q = joined (vec_items s.words) p q

-- edge k joins the pair that edge j, before it, joins
abbrev pub Repeats : List Edge → ℕ → ℕ → Type 0
Repeats es j k = (j < k) × (k < length es) × ((slice_index_or es j no_edge).from ≡ (slice_index_or es k no_edge).from) × ((slice_index_or es j no_edge).to ≡ (slice_index_or es k no_edge).to)

-- of the tasks below 512, the pairs that the first i edges join are in, and no other
abbrev pub Filled : List Edge → ℕ → (ℕ → ℕ → Bool) → Type 0
Filled es i has = (p q : ℕ) → p < 512 → q < 512 → has p q ≡ some_in (λ e. (p == e.from) && q == e.to) (take i es)

-- edge i is the next of a list whose edges before i are in
pub record Next (es : List Edge) (i from to : ℕ) (was : ℕ → ℕ → Bool) : Type 0 where
  pub index : i < length es
  pub source : (slice_index_or es i no_edge).from ≡ from
  pub target : (slice_index_or es i no_edge).to ≡ to
  pub tasks : (from < 512) × (to < 512)
  pub filled : Filled es i was

-- a reader that puts in each edge in turn learns whether the edge repeats an earlier one
pub record Reads (was : ℕ → ℕ → Bool) (from to : ℕ) (r : Bool) (is : ℕ → ℕ → Bool) : Type 0 where
  pub tells : (es : List Edge) (i : ℕ) → Next es i from to was → Decides r ((j : ℕ) × Repeats es j i)
  pub more : (es : List Edge) (i : ℕ) → Next es i from to was → Filled es (i + 1) is
