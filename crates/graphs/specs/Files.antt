-- The graph of a file, or the file's first fault from left to right; a cycle is told last.
use Rattle.std.specs.Prelude.{◌≡◌, ℕ, zero, suc, ◌+◌, ◌<◌, Bool, cond, ◌&&◌, ◌⊎◌, List, [], ◌∷◌, ◌++◌, length, Some, None, Ok, Err, Option, Result, ◌==◌, ◌≢◌, slice_index_or}
use Rattle.scans.specs.Scans.{some_in, lowest}
use Rattle.edges.specs.declared.edge.Edge.{Edge}
use Rattle.edges.specs.Edges.{no_edge}
use Rattle.orders.specs.Orders.{stuck}
use Rattle.orders.specs.PairSets.{Repeats}
use Rattle.orders.specs.Cycles.{Cyclic}
use Rattle.records.specs.declared.fault.RecordFault.{RecordFault}
use Rattle.records.specs.declared.types.Head.{Head}
use Rattle.records.specs.Faults.{counted}
use Rattle.records.specs.Fields.{and_then, map_err}
use Rattle.records.specs.Heads.{head_at}
use Rattle.records.specs.Records.{Item, task, edge, end, edge_bytes, record_at}
use Rattle.graphs.specs.declared.types.Task.{Task}
use Rattle.graphs.specs.declared.fault.GraphFault.{GraphFault}
use Rattle.graphs.specs.declared.fault.GraphFault.TheVariants.{InRecord, Repeated, Cycle, Memory}
use Rattle.graphs.specs.Parts.{Parts, parts_over, no_parts, Limited, WellFormed, front_bytes, file_bytes}

-- ---- what is read

-- a fault of a record, with how many records were read before it
abbrev pub in_record : {T : Type 0} → ℕ → Result T RecordFault → Result T GraphFault
in_record read r = map_err (λ e. InRecord (counted read e)) r

-- an edge joins the pair
abbrev pub joined_in : List Edge → ℕ → ℕ → Bool
joined_in es from to = some_in (λ e. (from == e.from) && to == e.to) es

abbrev pub with_task : Parts → Task → List ℕ → Parts
with_task p t name = parts_over (p.tasks ++ t ∷ []) (p.names ++ name ∷ []) p.edges

abbrev pub with_edge : Parts → Edge → Parts
with_edge p e = parts_over p.tasks p.names (p.edges ++ e ∷ [])

-- the parts with the record that stands at `at`: an edge is refused where an earlier one joins the same pair
abbrev pub added : Item → ℕ → Parts → Result Parts GraphFault
added (task place name time size) at p = Ok (with_task p (record { time = time; size = size }) name)
added (edge from to amount) at p = cond (joined_in p.edges from to) (Err (Repeated at)) (Ok (with_edge p (record { from = from; to = to; amount = amount })))
added end at p = Ok p

-- the parts with the next `left` records, after `read` of them, and then the end of the file
unfoldable pub parts_from : ℕ → List ℕ → Head → ℕ → ℕ → Parts → Result Parts GraphFault
parts_from zero file h read at p = and_then (in_record read (record_at file h read at)) (λ _. Ok p)
parts_from (suc left) file h read at p = and_then (in_record read (record_at file h read at)) (λ r. and_then (added r.0 at p) (parts_from left file h (read + 1) r.1))

abbrev pub all_parts : List ℕ → Head → Result Parts GraphFault
all_parts file h = parts_from (h.tasks + h.edges) file h 0 h.next no_parts

-- refused where a task lies on a cycle or after one: the lowest such task
abbrev pub refused_at : Option ℕ → Parts → Result Parts GraphFault
refused_at None p = Ok p
refused_at (Some t) p = Err (Cycle t)

abbrev pub uncycled : Parts → Result Parts GraphFault
uncycled p = refused_at (lowest (stuck p.edges (length p.tasks)) (length p.tasks)) p

unfoldable pub graph_of : List ℕ → Result Parts GraphFault
graph_of file = and_then (in_record 0 (head_at file)) (λ h. and_then (all_parts file h) uncycled)

-- ---- what a reader answers

-- a refusal is for want of memory, or the first fault
abbrev pub Denies : {T : Type 0} → Result T GraphFault → GraphFault → Type 0
Denies g e = (e ≡ Memory) ⊎ (g ≡ Err e)

-- the answer of a reader, and the parts that it leaves: none where it refuses
abbrev pub Read : Result Parts GraphFault → Result (Unit {0}) GraphFault → Parts → Type 0
Read g (Ok _) p = g ≡ Ok p
Read g (Err e) p = Denies g e × (p ≡ no_parts)

-- the law: an accepted file is the encoding of the parts that are left, and of no others;
-- a refused one, but for want of memory, is the encoding of no well-formed parts
abbrev pub Lawful : List ℕ → Result (Unit {0}) GraphFault → Parts → Type 0
Lawful file (Ok _) p = WellFormed p × (file ≡ file_bytes p) × ((q : Parts) → WellFormed q → file ≡ file_bytes q → q ≡ p)
Lawful file (Err e) p = (e ≡ Memory) ⊎ ((q : Parts) → WellFormed q → file ≢ file_bytes q)

-- a repeated pair is told of the first edge that joins the pair of an earlier one: it stands at `place`, after the parts before it
pub record RepeatedIn (file : List ℕ) (place : ℕ) : Type 0 where
  pub before : Parts
  pub edges : ℕ
  pub next : Edge
  pub after : List ℕ
  pub bytes : file ≡ front_bytes edges before ++ (edge_bytes next.from next.to next.amount ++ after)
  pub long : place ≡ length (front_bytes edges before)
  pub single : (j k : ℕ) → Repeats before.edges j k → ⊥
  pub repeats : (j : ℕ) × (j < length before.edges) × ((slice_index_or before.edges j no_edge).from ≡ next.from) × ((slice_index_or before.edges j no_edge).to ≡ next.to)

-- a cycle is told of a file that is the encoding of parts within their limits:
-- the task is the lowest that lies on a cycle of their edges or after one
abbrev pub CycleIn : List ℕ → ℕ → Type 0
CycleIn file t = (p : Parts) × Limited p × (file ≡ file_bytes p) × Cyclic p.edges t
