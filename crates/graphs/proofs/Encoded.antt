-- The encoding of well-formed parts is accepted, and read back.
use Rattle.std.proofs.Common.{◌≡◌, ℕ, suc, ◌+◌, ◌<◌, ◌≤◌, false, ◌&&◌, eqb, List, [], ◌∷◌, ◌++◌, length, get_or, drop, None, Ok, Err, sym, refl, ap, ◌∙◌, subst, inl, inr, append_assoc, append-nil, arith}
use Rattle.std.proofs.lemmas.List.{length-append, length-drop, drop_at, get_or_append_left, get_or_at}
use Rattle.std.proofs.lemmas.Bool.{cases_Bool, cond-false, and_parts, eqb-true}
use Rattle.scans.specs.Scans.{lowest}
use Rattle.scans.proofs.Scans.{lowest_none}
use Rattle.edges.specs.declared.edge.Edge.{Edge}
use Rattle.edges.specs.Edges.{no_edge}
use Rattle.orders.specs.PairSets.{Repeats}
use Rattle.orders.specs.Orders.{stuck}
use Rattle.orders.proofs.Ways.{stuck_law, find_in}
use Rattle.numbers.specs.Numbers.{coded}
use Rattle.numbers.proofs.Laid.{past}
use Rattle.records.specs.declared.types.Head.{Head}
use Rattle.records.specs.Fields.{and_then}
use Rattle.records.specs.Heads.{head_of, head_bytes, Few, Opens}
use Rattle.records.specs.Records.{task, edge, end, TaskFits, EdgeFits, task_bytes, edge_bytes, Holds}
use Rattle.records.proofs.Heads.{head_at_lem}
use Rattle.records.proofs.Records.{record_at_lem}
use Rattle.graphs.specs.declared.types.Task.{Task}
use Rattle.graphs.specs.declared.fault.GraphFault.TheVariants.{Repeated}
use Rattle.graphs.specs.Model.{no_task}
use Rattle.graphs.specs.Parts.{Parts, parts_over, no_parts, Limited, WellFormed, tasks_bytes, edges_bytes, file_bytes}
use Rattle.graphs.specs.Files.{in_record, joined_in, with_task, with_edge, parts_from, all_parts, refused_at, uncycled, graph_of}
use Rattle.graphs.proofs.Turns.{turn_adds, turn_ends}
use Rattle.graphs.proofs.Accepted.{within_limits}

-- an edge that repeats no earlier one joins a pair that none joins
not_joined : (es rest : List Edge) (e : Edge) → ((j k : ℕ) → Repeats (es ++ e ∷ rest) j k → ⊥) → joined_in es e.from e.to ≡ false
not_joined es rest e h = elim (cases_Bool (joined_in es e.from e.to)) [
  | inl y ↦ (
      let f = find_in (λ (x : Edge). eqb e.from x.from && eqb e.to x.to) es y in
      let j = f.0 in
      let x = get_or es j no_edge in
      let same = and_parts (eqb e.from x.from) (eqb e.to x.to) f.2 in
      let a = get_or_append_left es (e ∷ rest) no_edge j f.1 in
      let b = get_or_at es e rest no_edge (length es) refl in
      let m = length-append es (e ∷ rest) in
      absurd (h j (length es) (
        f.1,
        omega arith,
        ap (λ (y : Edge). y.from) a ∙ sym (eqb-true _ _ same.0) ∙ ap (λ (y : Edge). y.from) (sym b),
        ap (λ (y : Edge). y.to) a ∙ sym (eqb-true _ _ same.1) ∙ ap (λ (y : Edge). y.to) (sym b),
      )))
  | inr n ↦ n
]

module _ (file : List ℕ) (h : Head) (few : Few h) where
  -- the tasks that stand at `at` are read, and what follows them stands next
  read_tasks_lem : (ts : List Task) (ns : List (List ℕ)) (n read at : ℕ) (q : Parts) (rest : List ℕ) → length ns ≡ length ts → read + length ts ≡ h.tasks
      → ((t : ℕ) → t < length ts → TaskFits (get_or ns t []) (get_or ts t no_task).time (get_or ts t no_task).size) → drop at file ≡ tasks_bytes ts ns ++ rest
      → (next : ℕ) × (drop next file ≡ rest) × (parts_from (length ts + n) file h read at q ≡ parts_from n file h h.tasks next (parts_over (q.tasks ++ ts) (q.names ++ ns) q.edges))
  read_tasks_lem [] [] n read at q rest e l f d =
      let k : read ≡ h.tasks = omega arith in
      let m : 0 + n ≡ n = omega arith in (
        at,
        d,
        ap (λ (x : ℕ). parts_from x file h read at q) m ∙ ap (λ (x : ℕ). parts_from n file h x at q) k
            ∙ ap (λ (x : List Task). parts_from n file h h.tasks at (parts_over x q.names q.edges)) (sym (append-nil q.tasks))
            ∙ ap (λ (x : List (List ℕ)). parts_from n file h h.tasks at (parts_over (q.tasks ++ []) x q.edges)) (sym (append-nil q.names)),
      )
  read_tasks_lem [] (m ∷ ns) n read at q rest e l f d = absurd (omega arith)
  read_tasks_lem (t ∷ ts) [] n read at q rest e l f d = absurd (omega arith)
  read_tasks_lem (t ∷ ts) (m ∷ ns) n read at q rest e l f d =
      let b = task_bytes m t.time t.size in
      let next = at + length b in
      let d₁ : drop at file ≡ b ++ (tasks_bytes ts ns ++ rest) = d ∙ append_assoc b (tasks_bytes ts ns) rest in
      let d₂ = past file at b (tasks_bytes ts ns ++ rest) d₁ in
      let i = task (at + length (coded (length m))) m t.time t.size in
      let s : Holds file h read at (task (at + length (coded (length m))) m t.time t.size) (at + length (task_bytes m t.time t.size)) =
      record { due = (omega arith, refl, f 0 (omega arith)); bytes = d₁ ∙ ap (λ (x : List ℕ). b ++ x) (sym d₂); long = refl } in
      let turn = turn_adds file h read at q (length (t ∷ ts) + n) (length ts + n) i next (omega arith) (record_at_lem file h read at i next few s) in
      let r = read_tasks_lem ts ns n (read + 1) next (with_task q t m) rest (omega arith) (omega arith) (λ k kl. f (suc k) (omega arith)) d₂ in (
        r.0,
        r.1,
        turn ∙ r.2
            ∙ ap (λ (x : List Task). parts_from n file h h.tasks r.0 (parts_over x ((q.names ++ m ∷ []) ++ ns) q.edges)) (append_assoc q.tasks (t ∷ []) ts)
            ∙ ap (λ (x : List (List ℕ)). parts_from n file h h.tasks r.0 (parts_over (q.tasks ++ t ∷ ts) x q.edges)) (append_assoc q.names (m ∷ []) ns),
      )

  -- the edges that stand at `at` are read, and then the end
  read_edges_lem : (es : List Edge) (read at : ℕ) (q : Parts) → h.tasks ≤ read → read + length es ≡ h.tasks + h.edges
      → ((k : ℕ) → k < length es → EdgeFits h.tasks (get_or es k no_edge).from (get_or es k no_edge).to (get_or es k no_edge).amount)
      → ((j k : ℕ) → Repeats (q.edges ++ es) j k → ⊥) → drop at file ≡ edges_bytes es
      → parts_from (length es) file h read at q ≡ Ok (parts_over q.tasks q.names (q.edges ++ es))
  read_edges_lem [] read at q a l f o d =
      let len : length file ≤ at = omega (arith, length-drop at file, ap length d) in
      let s : Holds file h read at end at = record { due = (omega arith, len); bytes = refl; long = omega arith } in
      turn_ends file h read at q 0 (end, at) refl (record_at_lem file h read at end at few s)
      ∙ ap (λ (x : List Edge). Ok (parts_over q.tasks q.names x)) (sym (append-nil q.edges))
  read_edges_lem (e ∷ es) read at q a l f o d =
      let b = edge_bytes e.from e.to e.amount in
      let next = at + length b in
      let d₂ = past file at b (edges_bytes es) d in
      let i = edge e.from e.to e.amount in
      let s : Holds file h read at (edge e.from e.to e.amount) (at + length (edge_bytes e.from e.to e.amount)) =
      record { due = (a, omega arith, f 0 (omega arith)); bytes = d ∙ ap (λ (x : List ℕ). b ++ x) (sym d₂); long = refl } in
      let turn = turn_adds file h read at q (length (e ∷ es)) (length es) i next refl (record_at_lem file h read at i next few s) in
      let fresh = cond-false (joined_in q.edges e.from e.to) (Err (Repeated at)) (Ok (with_edge q e)) (not_joined q.edges es e o) in
      let same = append_assoc q.edges (e ∷ []) es in
      let r = read_edges_lem es (read + 1) next (with_edge q e) (omega arith) (omega arith) (λ k kl. f (suc k) (omega arith)) (subst (λ (x : List Edge). (j k : ℕ) → Repeats x j k → ⊥) (sym same) o) d₂ in
      turn ∙ ap (λ x. and_then x (parts_from (length es) file h (read + 1) next)) fresh ∙ r ∙ ap (λ (x : List Edge). Ok (parts_over q.tasks q.names x)) same

abbrev pub head_in : Parts → Head
head_in p = head_of (length p.tasks) (length p.edges) (length (head_bytes (length p.tasks) (length p.edges)))

-- the head of the encoding
pub opens : (file : List ℕ) (p : Parts) → Limited p → file ≡ file_bytes p → Opens file (head_in p)
unfolding file_bytes
opens file p l e =
    let b = head_bytes (length p.tasks) (length p.edges) in
    let r = tasks_bytes p.tasks p.names ++ edges_bytes p.edges in
    let d : drop (length b) file ≡ r = ap (drop (length b)) e ∙ drop_at b r (length b) refl in
    record { few = l.few; bytes = e ∙ ap (λ (x : List ℕ). b ++ x) (sym d); long = refl }

all_parts_lem : (file : List ℕ) (p : Parts) → Limited p → file ≡ file_bytes p → all_parts file (head_in p) ≡ Ok p
unfolding file_bytes
all_parts_lem file p l e =
    let h = head_in p in
    let b = head_bytes (length p.tasks) (length p.edges) in
    let r = tasks_bytes p.tasks p.names ++ edges_bytes p.edges in
    let d : drop (length b) file ≡ r = ap (drop (length b)) e ∙ drop_at b r (length b) refl in
    let t = read_tasks_lem file h l.few p.tasks p.names (length p.edges) 0 (length b) no_parts (edges_bytes p.edges) l.named (omega arith) l.tasks d in
    t.2 ∙ read_edges_lem file h l.few p.edges (length p.tasks) t.0 (parts_over p.tasks p.names []) (omega arith) refl l.edges l.single t.1

none_stuck : (p : Parts) → WellFormed p → lowest (stuck p.edges (length p.tasks)) (length p.tasks) ≡ None
none_stuck p w =
    let n = length p.tasks in
    lowest_none (stuck p.edges n) n (λ t tl. elim (cases_Bool (stuck p.edges n t)) [
      | inl y ↦ absurd (w.acyclic t tl ((stuck_law p.edges n (within_limits p w.limited)).only t tl y))
      | inr f ↦ f
    ])

pub encoded : (file : List ℕ) (p : Parts) → WellFormed p → file ≡ file_bytes p → graph_of file ≡ Ok p
unfolding graph_of
encoded file p w e =
    ap (λ x. and_then (in_record 0 x) (λ h. and_then (all_parts file h) uncycled)) (head_at_lem file (head_in p) (opens file p w.limited e))
    ∙ ap (λ x. and_then x uncycled) (all_parts_lem file p w.limited e) ∙ ap (λ x. refused_at x p) (none_stuck p w)
