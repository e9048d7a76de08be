-- Where the tasks placed so far sit, and what follows from it: free ticks, memory in use, levels and starts.
use Rattle.std.specs.Prelude.{◌≡◌, ℕ, ◌+◌, ◌^◌, ◌<◌, ◌≤◌, max, Bool, false, cond, not, ◌&&◌, ◌||◌, List, replicate, is_some, Some, None, Option, ◌==◌, nat_le, nat_lt, slice_index_or, slice_set}
use Rattle.scans.specs.Scans.{largest, total, some, every}
use Rattle.graphs.specs.Model.{TaskGraph}
use Rattle.levels.specs.Levels.{nominal}
use Rattle.links.specs.Links.{Arrives}
use Rattle.plans.specs.declared.types.Row.{Row}

-- the row of each task that is placed
abbrev pub Seats : Type 0
Seats = List (Option Row)

abbrev pub nobody : Seats
nobody = replicate 512 None

abbrev pub at : Seats → ℕ → Option Row
at s t = slice_index_or s t None

abbrev pub sits : Option Row → ℕ → Bool
sits None w = false
sits (Some r) w = r.worker == w

abbrev pub placed : Seats → ℕ → Bool
placed s t = is_some (at s t)

abbrev pub over : Option Row → ℕ → ℕ
over None time = 0
over (Some r) time = r.start + time

abbrev pub host : Option Row → ℕ
host None = 0
host (Some r) = r.worker

-- the end of a placed task
abbrev pub end_of : TaskGraph → Seats → ℕ → ℕ
end_of g s t = over (at s t) (g.time t)

-- no end is above the ceiling
abbrev pub Early : TaskGraph → Seats → Type 0
Early g s = (t : ℕ) → end_of g s t ≤ 2 ^ 40

-- whether t may be placed at r
unfoldable pub placeable : TaskGraph → Seats → ℕ → Row → Bool
placeable g s t r = nat_lt t g.tasks && (not (placed s t) && (nat_lt r.worker 16 && nat_le (r.start + g.time t) (2 ^ 40)))

-- t is placed at r
abbrev pub put : Seats → ℕ → Row → Seats
put s t r = slice_set s t (Some r)

-- a worker is open when it has a task
abbrev pub sits_on : Seats → ℕ → ℕ → Bool
sits_on s w t = sits (at s t) w

unfoldable pub open_test : TaskGraph → Seats → ℕ → Bool
open_test g s w = some (sits_on s w) g.tasks

-- the free tick of a worker: the end of its last task, or 0
abbrev pub end_on : TaskGraph → Seats → ℕ → ℕ → ℕ
end_on g s w t = cond (sits (at s t) w) (end_of g s t) 0

unfoldable pub free : TaskGraph → Seats → ℕ → ℕ
free g s w = largest (end_on g s w) g.tasks

-- the memory in use on a worker: the sum of its tasks' sizes
abbrev pub size_on : TaskGraph → Seats → ℕ → ℕ → ℕ
size_on g s w t = cond (sits (at s t) w) (g.size t) 0

unfoldable pub in_use : TaskGraph → Seats → ℕ → ℕ
in_use g s w = total (size_on g s w) g.tasks

-- t fits on w
abbrev pub fits : ℕ → TaskGraph → Seats → ℕ → ℕ → Bool
fits memory g s t w = nat_le (in_use g s w + g.size t) memory

-- v is a successor of t
abbrev pub leads : TaskGraph → ℕ → ℕ → ℕ → Bool
leads g t v k = g.from k == t && g.to k == v

unfoldable pub follows : TaskGraph → ℕ → ℕ → Bool
follows g t v = some (leads g t v) g.edges

-- a table that marks the successors of t
abbrev pub Marks : TaskGraph → ℕ → List Bool → Type 0
Marks g t marks = (v : ℕ) → v < 512 → slice_index_or marks v false ≡ follows g t v

module _ (g : TaskGraph) (s : Seats) where
  -- w holds an input of t
  abbrev pub feeds : ℕ → ℕ → ℕ → Bool
  feeds t w k = g.to k == t && sits (at s (g.from k)) w

  unfoldable pub holds : ℕ → ℕ → Bool
  holds t w = some (feeds t w) g.edges

  -- every successor of every task on w is placed or is a successor of t
  abbrev pub settled : ℕ → ℕ → Bool
  settled t v = placed s v || follows g t v

  abbrev pub shut : ℕ → ℕ → ℕ → Bool
  shut t w k = not (sits (at s (g.from k)) w) || settled t (g.to k)

  unfoldable pub closed : ℕ → ℕ → Bool
  closed t w = every (shut t w) g.edges

module _ (arrives : Arrives) (g : TaskGraph) (s : Seats) where
  -- the t-level of t: the largest, over its inputs, of end plus nominal cost, or 0
  abbrev pub nominal_at : ℕ → ℕ → ℕ
  nominal_at t k = cond (g.to k == t) (end_of g s (g.from k) + nominal arrives g k) 0

  unfoldable pub t_level_of : ℕ → ℕ
  t_level_of t = largest (nominal_at t) g.edges

  -- when an amount that task u makes is on w: at the end of u where u sits there, else when the link says
  abbrev pub reach : ℕ → ℕ → ℕ → ℕ
  reach w u amount = cond (sits (at s u) w) (end_of g s u) (arrives (end_of g s u) (host (at s u)) w amount)

  abbrev pub input_at : ℕ → ℕ → ℕ → ℕ
  input_at t w k = cond (g.to k == t) (reach w (g.from k) (g.amount k)) 0

  -- the start of t on w: the largest of the free tick and when its inputs are there
  unfoldable pub start_on_worker : ℕ → ℕ → ℕ
  start_on_worker t w = max (free g s w) (largest (input_at t w) g.edges)
