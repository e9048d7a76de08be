-- The loader's log, and what holds at every line of it.
use Rattle.std.specs.Prelude.{◌≡◌, ℕ, ◌+◌, ◌<◌, ◌≤◌, cond, ◌⊎◌, List, [], ◌∷◌, ◌++◌, take, Some, None, Ok, Err, slice_set}
use Rattle.scans.specs.Scans.{total}
use Rattle.graphs.specs.Model.{Sound}
use Rattle.plans.specs.Jobs.{Job}
use Rattle.plans.specs.Rules.{end, reaches_by, Rules}
use Rattle.runs.specs.declared.types.Span.{Span}
use Rattle.runs.specs.declared.types.RunFault.{RunFault}
use Rattle.runs.specs.declared.types.RunFault.TheVariants.{NoWorker, NoTaskLeft, InputMissing, Overrun}
use Rattle.runs.specs.declared.types.Call.{Call}
use Rattle.runs.specs.declared.types.Call.TheVariants.{Next, Done}
use Rattle.runs.specs.declared.types.Line.{Line}
use Rattle.runs.specs.declared.types.Line.TheVariants.{Opened, Asked, Reported}
use Rattle.runs.specs.Runs.{Spans, at, done_test, fresh, begin_of, Report, span_of, next, done, answered, left}

-- ---- tasks of a run, in relations

-- t is done, with that begin and end
abbrev pub Did : Spans → ℕ → Span → Type 0
Did s t x = at s t ≡ Some x

-- u comes before t in its lane
abbrev pub Before : Job → ℕ → ℕ → Type 0
Before j u t = (u < j.graph.tasks) × (j.worker u ≡ j.worker t) × (j.start u < j.start t)

-- edge k brings an input of t
abbrev pub Feeds : Job → ℕ → ℕ → Type 0
Feeds j k t = (k < j.graph.edges) × (j.graph.to k ≡ t)

-- the tasks before t in its lane and its inputs are done and ended by tick b, and the inputs are on its worker by then
pub record After (j : Job) (s : Spans) (t b : ℕ) : Type 0 where
  pub lane : (u : ℕ) → Before j u t → (x : Span) × Did s u x × (x.end ≤ b)
  pub inputs : (k : ℕ) → Feeds j k t → (x : Span) × Did s (j.graph.from k) x × (x.end ≤ b) × (reaches_by j k x.end ≤ b)

-- t is the head of w's lane: it is not done, and the tasks before it are
pub record Head (j : Job) (s : Spans) (w t : ℕ) : Type 0 where
  pub task : t < j.graph.tasks
  pub mine : j.worker t ≡ w
  pub undone : at s t ≡ None
  pub lane : (u : ℕ) → Before j u t → (x : Span) × Did s u x

-- all inputs of t are done
abbrev pub Fed : Job → Spans → ℕ → Type 0
Fed j s t = (k : ℕ) → Feeds j k t → (x : Span) × Did s (j.graph.from k) x

-- t is the head of w's lane, has its inputs, and b is the first tick by which all that it waits for is over
pub record Begins (j : Job) (s : Spans) (w t b : ℕ) : Type 0 where
  pub worker : w < j.workers
  pub head : Head j s w t
  pub after : After j s t b
  pub soonest : (c : ℕ) → After j s t c → b ≤ c

-- u is the lowest input of t that is not done
pub record Missing (j : Job) (s : Spans) (t u : ℕ) : Type 0 where
  pub input : (k : ℕ) × Feeds j k t × (j.graph.from k ≡ u)
  pub undone : at s u ≡ None
  pub lowest : (k : ℕ) → Feeds j k t → at s (j.graph.from k) ≡ None → u ≤ j.graph.from k

-- ---- what a call is told, in relations: the first refusal in number order, or the answer

-- why the head of w's lane cannot begin
pub data Unready (j : Job) (s : Spans) (w : ℕ) : RunFault → Type 0 where
  no_worker : j.workers ≤ w → Unready j s w (NoWorker w)
  no_task_left : w < j.workers → ((t : ℕ) → t < j.graph.tasks → j.worker t ≡ w → (x : Span) × Did s t x) → Unready j s w (NoTaskLeft w)
  no_input : (t u : ℕ) → w < j.workers → Head j s w t → Missing j s t u → Unready j s w (InputMissing u)

-- the line that a call adds, and the state that it leaves
pub data Step (j : Job) (s : Spans) : Line → Spans → Type 0 where
  begins : (w t b : ℕ) → Begins j s w t b → Step j s (Asked w (Ok (t, b))) s
  not_ready : (w : ℕ) (e : RunFault) → Unready j s w e → Step j s (Asked w (Err e)) s
  ends : (w t b used : ℕ) → Begins j s w t b → used ≤ j.graph.time t → Step j s (Reported w used (Ok (b + used))) (slice_set s t (Some (span_of b used)))
  too_long : (w t b used : ℕ) → Begins j s w t b → j.graph.time t < used → Step j s (Reported w used (Err (Overrun t))) s
  too_soon : (w used : ℕ) (e : RunFault) → Unready j s w e → Step j s (Reported w used (Err e)) s

-- a log: the accepted open, with no task done, then one line for each call
pub data Logged (j : Job) : List Line → Spans → Type 0 where
  opened : Logged j (Opened ∷ []) fresh
  called : {log : List Line} {s r : Spans} {line : Line} → Logged j log s → Step j s line r → Logged j (log ++ line ∷ []) r

-- ---- the law, at a state

-- t has begun at b: it is done, or it is a head with all inputs done
abbrev pub Begun : Job → Spans → ℕ → ℕ → Type 0
Begun j s t b = ((x : Span) × Did s t x × (x.begin ≡ b)) ⊎ ((w : ℕ) × Head j s w t × Fed j s t × (begin_of j s t ≡ b))

pub record Lawful (j : Job) (s : Spans) : Type 0 where
  -- what has begun came after the tasks before it and its inputs
  pub after : (t b : ℕ) → Begun j s t b → After j s t b
  -- nothing began or ended after plan
  pub on_time : (t b : ℕ) → Begun j s t b → b ≤ j.start t
  pub in_time : (t : ℕ) (x : Span) → Did s t x → x.end ≤ end j t
  -- while a task is undone, some worker's report of 0 ticks would be accepted
  pub moves : (t : ℕ) → t < j.graph.tasks → at s t ≡ None → (w : ℕ) × (r : Report) × (done j s w 0 ≡ Ok r)

-- ---- the lines of a list of calls

-- how many tasks are done
abbrev pub done_in : Spans → ℕ → ℕ
done_in s t = cond (done_test s t) 1 0

unfoldable pub done_count : Job → Spans → ℕ
done_count j s = total (done_in s) j.graph.tasks

-- how many reports a log accepted
abbrev pub accepted : Line → ℕ
accepted (Reported w used (Ok n)) = 1
accepted (Reported w used (Err e)) = 0
accepted (Asked w r) = 0
accepted Opened = 0

abbrev pub accepted_in : List Line → ℕ
accepted_in [] = 0
accepted_in (l ∷ log) = accepted l + accepted_in log

abbrev pub line_of : Job → Spans → Call → Line
line_of j s (Next w) = Asked w (next j s w)
line_of j s (Done w used) = Reported w used (answered (done j s w used))

abbrev pub leaves : Job → Spans → Call → Spans
leaves j s (Next w) = s
leaves j s (Done w used) = left s (done j s w used)

abbrev pub lines_of : Job → Spans → List Call → List Line
lines_of j s [] = []
lines_of j s (c ∷ cs) = line_of j s c ∷ lines_of j (leaves j s c) cs

abbrev pub leaves_all : Job → Spans → List Call → Spans
leaves_all j s [] = s
leaves_all j s (c ∷ cs) = leaves_all j (leaves j s c) cs

-- what a log that leads to s keeps: each answer is the defined one after the lines before it, no task is done twice, and the law holds
pub record Kept (j : Job) (log : List Line) (s : Spans) : Type 0 where
  pub lines : Logged j log s
  pub once : accepted_in log ≡ done_count j s
  pub law : Lawful j s

-- the plan keeps the rules, and its graph is sound
pub record Planned (j : Job) : Type 0 where
  pub graph : Sound j.graph
  pub rules : Rules j

-- every log that leads to s goes on with the lines of the calls, and is kept after each of them
abbrev pub GoesOn : Job → Spans → List Call → Type 0
GoesOn j s calls = (log : List Line) → Kept j log s → Planned j → (n : ℕ) → Kept j (log ++ lines_of j s (take n calls)) (leaves_all j s (take n calls))
