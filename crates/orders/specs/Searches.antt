-- The tables of the search for an order.
use Rattle.std.specs.Prelude.{◌≡◌, ℕ, ◌+◌, ◌<◌, Bool, ◌&&◌, List, length, count_by, ◌==◌, nat_le, nat_lt, slice_index}
use Rattle.edges.specs.declared.edge.Edge.{Edge}

-- how many edges lead to t
abbrev pub count_to : List Edge → ℕ → ℕ
count_to es t = count_by (λ (e : Edge). e.to == t) es

-- how many edges lead to t from a task of rank head or above
abbrev pub count_from : ℕ → List ℕ → List Edge → ℕ → ℕ
count_from head rank es t = count_by (λ (e : Edge). (e.to == t) && nat_le head (slice_index rank e.from)) es

abbrev pub is_waiting : List ℕ → ℕ → Bool
is_waiting waits t = nat_lt 0 (slice_index waits t)

-- the first tail places of order hold the tasks that wait for nothing, each at its rank; the rank of each other is the number of tasks
pub record Shape (waits rank order : List ℕ) (tail : ℕ) : Type 0 where
  pub ranks : length rank ≡ length waits
  pub orders : length order ≡ length waits
  pub idle : (t : ℕ) → 0 < slice_index waits t → slice_index rank t ≡ length waits
  pub placed : (t : ℕ) → t < length waits → slice_index waits t ≡ 0 → (slice_index rank t < tail) × (slice_index order (slice_index rank t) ≡ t)
  pub filled : (j : ℕ) → j < tail → (slice_index order j < length waits) × (slice_index rank (slice_index order j) ≡ j)
  pub count : tail + count_by (λ w. nat_lt 0 w) waits ≡ length waits
