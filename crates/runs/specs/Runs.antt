-- A run of a plan: which tasks are done, when they began and ended, and what next and done answer.
use Rattle.std.specs.Prelude.{ℕ, ◌+◌, max, Bool, cond, not, ◌&&◌, List, replicate, is_some, Some, None, Ok, Err, Option, Result, ◌==◌, nat_le, nat_lt, slice_index_or, slice_set}
use Rattle.scans.specs.Scans.{largest, some, lowest}
use Rattle.scans.specs.Bids.{best}
use Rattle.scans.specs.declared.Aim.TheVariants.{Smallest, Largest}
use Rattle.plans.specs.Jobs.{Job}
use Rattle.plans.specs.Rules.{reaches_by}
use Rattle.runs.specs.declared.types.Span.{Span}
use Rattle.runs.specs.declared.types.RunFault.{RunFault}
use Rattle.runs.specs.declared.types.RunFault.TheVariants.{NoWorker, NoTaskLeft, InputMissing, Overrun}

-- ---- the state: when each done task began and ended

abbrev pub Spans : Type 0
Spans = List (Option Span)

abbrev pub at : Spans → ℕ → Option Span
at s t = slice_index_or s t None

abbrev pub done_test : Spans → ℕ → Bool
done_test s t = is_some (at s t)

-- the end of a done task, or 0
abbrev pub ended : Option Span → ℕ
ended None = 0
ended (Some x) = x.end

-- no task is done; a table of 512
abbrev pub fresh : Spans
fresh = replicate 512 None

-- ---- lanes: the lane of a worker is its tasks by planned start

-- t is a task of w's lane that is not done
abbrev pub waits_test : Job → Spans → ℕ → ℕ → Bool
waits_test j s w t = j.worker t == w && not (done_test s t)

-- the head of w's lane: the first of its tasks that is not done
unfoldable pub head : Job → Spans → ℕ → Option ℕ
head j s w = best Smallest (waits_test j s w) j.start j.graph.tasks

-- u comes before t in its lane
abbrev pub before_test : Job → ℕ → ℕ → Bool
before_test j t u = j.worker u == j.worker t && nat_lt (j.start u) (j.start t)

-- the task ahead of t: the last of those before it in its lane
unfoldable pub ahead : Job → ℕ → Option ℕ
ahead j t = best Largest (before_test j t) j.start j.graph.tasks

-- ---- inputs

-- edge k leads from u to t
abbrev pub joins_test : Job → ℕ → ℕ → ℕ → Bool
joins_test j u t k = j.graph.to k == t && j.graph.from k == u

abbrev pub input_test : Job → ℕ → ℕ → Bool
input_test j t u = some (joins_test j u t) j.graph.edges

-- the lowest input of t that is not done
unfoldable pub missing : Job → Spans → ℕ → Option ℕ
missing j s t = lowest (λ u. input_test j t u && not (done_test s u)) j.graph.tasks

-- ---- begin ticks

abbrev pub end_of : Spans → Option ℕ → ℕ
end_of s None = 0
end_of s (Some u) = ended (at s u)

-- when what edge k brings to t is there
abbrev pub brought : Job → Spans → ℕ → ℕ → ℕ
brought j s t k = cond (j.graph.to k == t) (reaches_by j k (ended (at s (j.graph.from k)))) 0

-- the begin tick of t: the largest of 0, the end of the task ahead, and the ticks at which its inputs are there
unfoldable pub begin_of : Job → Spans → ℕ → ℕ
begin_of j s t = max (end_of s (ahead j t)) (largest (brought j s t) j.graph.edges)

-- ---- the calls

-- a task and its begin tick
abbrev pub Turn : Type 0
Turn = ℕ × ℕ

abbrev pub turn : Job → Spans → ℕ → Option ℕ → Result Turn RunFault
turn j s t None = Ok (t, begin_of j s t)
turn j s t (Some u) = Err (InputMissing u)

abbrev pub turn_of : Job → Spans → ℕ → Option ℕ → Result Turn RunFault
turn_of j s w None = Err (NoTaskLeft w)
turn_of j s w (Some t) = turn j s t (missing j s t)

-- next answers the head and its begin tick
unfoldable pub next : Job → Spans → ℕ → Result Turn RunFault
next j s w = cond (nat_lt w j.workers) (turn_of j s w (head j s w)) (Err (NoWorker w))

-- a task with its begin and its end
abbrev pub Report : Type 0
Report = ℕ × Span

abbrev pub span_of : ℕ → ℕ → Span
span_of begin used = record { begin = begin; end = begin + used }

abbrev pub report : Job → ℕ → Result Turn RunFault → Result Report RunFault
report j used (Err e) = Err e
report j used (Ok n) = cond (nat_le used (j.graph.time n.0)) (Ok (n.0, span_of n.1 used)) (Err (Overrun n.0))

-- done makes the head done, with the ticks that it used
unfoldable pub done : Job → Spans → ℕ → ℕ → Result Report RunFault
done j s w used = report j used (next j s w)

-- what done answers, and what it leaves
abbrev pub answered : Result Report RunFault → Result ℕ RunFault
answered (Ok r) = Ok r.1.end
answered (Err e) = Err e

abbrev pub left : Spans → Result Report RunFault → Spans
left s (Ok r) = slice_set s r.0 (Some r.1)
left s (Err e) = s
