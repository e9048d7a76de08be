-- What the check answers: the length, or the first test that fails, with its lowest place.
use Rattle.std.specs.Prelude.{◌≡◌, ℕ, ◌^◌, ◌<◌, ◌≤◌, Bool, cond, not, ◌&&◌, ◌||◌, Some, None, Ok, Err, Option, Result, ◌==◌, nat_le, nat_lt}
use Rattle.scans.specs.Scans.{every, lowest}
use Rattle.plans.specs.declared.fault.PlanFault.{PlanFault}
use Rattle.plans.specs.declared.fault.PlanFault.TheVariants.{ShortTable, Parameter, NoWorker, AboveCeiling, Overlap, Overfull, LateInput}
use Rattle.plans.specs.Jobs.{Job}
use Rattle.plans.specs.Rules.{end, latest, used, reaches, Placed, InTime, Alone, Roomy, Fed, Each, Lowest, Rules, Allowed}

abbrev pub between : ℕ → ℕ → ℕ → Bool
between low high n = nat_le low n && nat_le n high

-- the lowest of the two limits that is outside its own: the workers are the first, the memory the second
abbrev pub bad_limit : ℕ → ℕ → Option ℕ
bad_limit workers memory = cond (between 1 16 workers) (cond (between 1 (2 ^ 30) memory) None (Some 2)) (Some 1)

-- each rule as a test
abbrev pub placed_test : Job → ℕ → Bool
placed_test j t = nat_lt (j.worker t) j.workers

abbrev pub in_time_test : Job → ℕ → Bool
in_time_test j t = nat_le (end j t) (2 ^ 40)

abbrev pub apart_test : Job → ℕ → ℕ → Bool
apart_test j t u = (t == u || not (j.worker t == j.worker u)) || (nat_le (end j t) (j.start u) || nat_le (end j u) (j.start t))

abbrev pub alone_test : Job → ℕ → Bool
alone_test j t = every (apart_test j t) j.graph.tasks

abbrev pub roomy_test : Job → ℕ → Bool
roomy_test j w = nat_le (used j w) j.memory

abbrev pub fed_test : Job → ℕ → Bool
fed_test j k = nat_le (reaches j k) (j.start (j.graph.to k))

-- the lowest number below n that fails a test
abbrev pub failing : (ℕ → Bool) → ℕ → Option ℕ
failing p n = lowest (λ k. not (p k)) n

-- a test, before the others
abbrev pub unless : {T : Type 0} → Option ℕ → (ℕ → PlanFault) → Result T PlanFault → Result T PlanFault
unless (Some p) fault next = Err (fault p)
unless None fault next = next

unfoldable pub checked : ℕ → Job → Result ℕ PlanFault
checked rows j =
    cond (nat_lt rows 512) (Err ShortTable)
    (unless (bad_limit j.workers j.memory) Parameter
    (unless (failing (placed_test j) j.graph.tasks) NoWorker
    (unless (failing (in_time_test j) j.graph.tasks) AboveCeiling
    (unless (failing (alone_test j) j.graph.tasks) Overlap
    (unless (failing (roomy_test j) j.workers) Overfull
    (unless (failing (fed_test j) j.graph.edges) LateInput
    (Ok (latest j))))))))

-- the same in the words of the rules: the first test that fails, and where
pub data Denied (rows : ℕ) (j : Job) : PlanFault → Type 0 where
  short : rows < 512 → Denied rows j ShortTable
  workers : 512 ≤ rows → ((1 ≤ j.workers) × (j.workers ≤ 16) → ⊥) → Denied rows j (Parameter 1)
  memory : 512 ≤ rows → (1 ≤ j.workers) × (j.workers ≤ 16) → ((1 ≤ j.memory) × (j.memory ≤ 2 ^ 30) → ⊥) → Denied rows j (Parameter 2)
  rule1 : (t : ℕ) → Allowed rows j → Lowest (Placed j) j.graph.tasks t → Denied rows j (NoWorker t)
  rule2 : (t : ℕ) → Allowed rows j → Each (Placed j) j.graph.tasks → Lowest (InTime j) j.graph.tasks t → Denied rows j (AboveCeiling t)
  rule3 : (t : ℕ) → Allowed rows j → Each (Placed j) j.graph.tasks → Each (InTime j) j.graph.tasks → Lowest (Alone j) j.graph.tasks t → Denied rows j (Overlap t)
  rule4 : (w : ℕ) → Allowed rows j → Each (Placed j) j.graph.tasks → Each (InTime j) j.graph.tasks → Each (Alone j) j.graph.tasks → Lowest (Roomy j) j.workers w → Denied rows j (Overfull w)
  rule5 : (k : ℕ) → Allowed rows j → Each (Placed j) j.graph.tasks → Each (InTime j) j.graph.tasks → Each (Alone j) j.graph.tasks → Each (Roomy j) j.workers → Lowest (Fed j) j.graph.edges k → Denied rows j (LateInput k)

-- accepted: the limits and the rules hold, and the answer is the length; or denied
abbrev pub Told : ℕ → Job → Result ℕ PlanFault → Type 0
Told rows j (Ok n) = Allowed rows j × Rules j × (n ≡ latest j)
Told rows j (Err e) = Denied rows j e

-- a plan is accepted exactly when the limits and the rules hold, and then with its length
pub record Accepts (rows : ℕ) (j : Job) (r : Result ℕ PlanFault) : Type 0 where
  pub kept : Allowed rows j → Rules j → r ≡ Ok (latest j)
  pub only : (n : ℕ) → r ≡ Ok n → Allowed rows j × Rules j × (n ≡ latest j)
