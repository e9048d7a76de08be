-- The ready tasks as they wait in the heap: the higher rank first, then the lower number.
use Rattle.std.specs.Prelude.{◌≡◌, ℕ, zero, suc, ◌^◌, ◌<◌, ◌≤◌, Bool, cond, not, ◌&&◌, List, [], length, slice_index}
use Rattle.heaps.specs.declared.entries.Ready.{Ready}
use Rattle.heaps.specs.Entries.{sooner}
use Rattle.heaps.specs.Heaps.{ReadyHeap, room, queue}
use Rattle.heaps.specs.Orders.{insert}
use Rattle.graphs.specs.Model.{TaskGraph}
use Rattle.levels.specs.Levels.{b_level_of}
use Rattle.links.specs.Links.{Arrives}
use Rattle.steps.specs.Seats.{Seats, follows}
use Rattle.planner.specs.Turns.{ready}

abbrev pub entry : (ℕ → ℕ) → ℕ → Ready
entry key t = record { rank = key t; task = t }

-- the numbers below n that pass, with their keys, in the order of the heap
abbrev pub line : (ℕ → Bool) → (ℕ → ℕ) → ℕ → List Ready
line p key zero = []
line p key (suc n) = cond (p n) (insert sooner (entry key n) (line p key n)) (line p key n)

-- v is ready, and does not wait for t
abbrev pub apart_from : TaskGraph → Seats → ℕ → ℕ → Bool
apart_from g s t v = ready g s v && not (follows g t v)

-- the heap holds the numbers below n that pass, each with its key, and has room for all
pub record Waiting (p : ℕ → Bool) (key : ℕ → ℕ) (n : ℕ) (h : ReadyHeap) : Type 0 where
  pub roomy : n ≤ room h
  pub holds : queue h ≡ line p key n

-- the table has the level of each task, and none is so great that a rank could overflow
pub record Levelled (arrives : Arrives) (g : TaskGraph) (levels : List ℕ) : Type 0 where
  pub rows : g.tasks ≤ length levels
  pub is : (t : ℕ) → t < g.tasks → slice_index levels t ≡ b_level_of arrives g t
  pub low : (t : ℕ) → slice_index levels t < 2 ^ 62
