-- The five rules of a plan, one by one, over any rows.
use Rattle.std.specs.Prelude.{◌≡◌, ℕ, ◌+◌, ◌^◌, ◌<◌, ◌≤◌, cond, ◌⊎◌, Option, MatchOption, ◌==◌, ◌≢◌}
use Rattle.scans.specs.Scans.{largest, total}
use Rattle.plans.specs.Jobs.{Job}

-- the end of a task: its start plus its time
abbrev pub end : Job → ℕ → ℕ
end j t = j.start t + j.graph.time t

-- the length of a plan: the latest end, or 0
unfoldable pub latest : Job → ℕ
latest j = largest (end j) j.graph.tasks

-- the memory in use on a worker: the sum of its tasks' sizes
abbrev pub size_on : Job → ℕ → ℕ → ℕ
size_on j w t = cond (j.worker t == w) (j.graph.size t) 0

unfoldable pub used : Job → ℕ → ℕ
used j w = total (size_on j w) j.graph.tasks

-- when what edge k brings is on the worker of its target: at the end of its source, or when the link says
unfoldable pub reaches : Job → ℕ → ℕ
reaches j k =
    cond (j.worker (j.graph.from k) == j.worker (j.graph.to k))
    (end j (j.graph.from k))
    (j.arrives (end j (j.graph.from k)) (j.worker (j.graph.from k)) (j.worker (j.graph.to k)) (j.graph.amount k))

-- when an amount from task a to task b is on the worker of b: at the end of a, or when the link says
abbrev pub brings : Job → ℕ → ℕ → ℕ → ℕ
brings j a b amount = cond (j.worker a == j.worker b) (end j a) (j.arrives (end j a) (j.worker a) (j.worker b) amount)

-- when what edge k brings is on the worker of its target, where its source ends at tick e: then, or when the link says
abbrev pub reaches_by : Job → ℕ → ℕ → ℕ
reaches_by j k e =
    cond (j.worker (j.graph.from k) == j.worker (j.graph.to k)) e
    (j.arrives e (j.worker (j.graph.from k)) (j.worker (j.graph.to k)) (j.graph.amount k))

-- rule 1, of a task: its worker number is below the number of workers
abbrev pub Placed : Job → ℕ → Type 0
Placed j t = j.worker t < j.workers

-- of a task: its start is not above the ceiling
abbrev pub Early : Job → ℕ → Type 0
Early j t = j.start t ≤ 2 ^ 40

-- rule 2, of a task: its end is not above the ceiling
abbrev pub InTime : Job → ℕ → Type 0
InTime j t = end j t ≤ 2 ^ 40

-- rule 3, of two tasks: on one worker, one ends no later than the other starts
abbrev pub Apart : Job → ℕ → ℕ → Type 0
Apart j t u = j.worker t ≡ j.worker u → (end j t ≤ j.start u) ⊎ (end j u ≤ j.start t)

abbrev pub Alone : Job → ℕ → Type 0
Alone j t = (u : ℕ) → u < j.graph.tasks → (t ≢ u) → Apart j t u

-- the same against the tasks after it alone
abbrev pub AloneAhead : Job → ℕ → Type 0
AloneAhead j t = (u : ℕ) → t < u → u < j.graph.tasks → Apart j t u

-- rule 4, of a worker: the memory in use is at most its memory
abbrev pub Roomy : Job → ℕ → Type 0
Roomy j w = used j w ≤ j.memory

-- rule 5, of an edge: what it brings is there no later than its target starts
abbrev pub Fed : Job → ℕ → Type 0
Fed j k = reaches j k ≤ j.start (j.graph.to k)

-- P holds of each number below n
abbrev pub Each : (ℕ → Type 0) → ℕ → Type 0
Each P n = (k : ℕ) → k < n → P k

-- p is the lowest number below n of which P does not hold
pub record Lowest (P : ℕ → Type 0) (n p : ℕ) : Type 0 where
  pub within : p < n
  pub fails : P p → ⊥
  pub below : Each P p

-- r is that number, or none where P holds of each number below n
abbrev pub Found : (ℕ → Type 0) → ℕ → Option ℕ → Type 0
Found P n r = MatchOption r (Each P n) (Lowest P n)

pub record Rules (j : Job) : Type 0 where
  pub placed : Each (Placed j) j.graph.tasks
  pub in_time : Each (InTime j) j.graph.tasks
  pub apart : Each (Alone j) j.graph.tasks
  pub roomy : Each (Roomy j) j.workers
  pub fed : Each (Fed j) j.graph.edges

-- the tables have their 512 rows, and the limits are within theirs
pub record Allowed (rows : ℕ) (j : Job) : Type 0 where
  pub long : 512 ≤ rows
  pub workers : (1 ≤ j.workers) × (j.workers ≤ 16)
  pub memory : (1 ≤ j.memory) × (j.memory ≤ 2 ^ 30)
