-- A file that is accepted is the encoding of well-formed parts.
use Rattle.std.proofs.Common.{◌≡◌, ℕ, zero, suc, ◌+◌, ◌-◌, ◌<◌, ◌≤◌, min, false, ◌&&◌, eqb, List, [], ◌∷◌, ◌++◌, length, get_or, drop, Some, None, Ok, Option, sym, refl, ap, ◌∙◌, subst, inl, inr, append_assoc, append-nil, arith}
use Rattle.std.proofs.lemmas.List.{get_or_append_left, get_or_push, length-append, length_push, nil_from_length, drop_all, flat_map_more}
use Rattle.std.proofs.lemmas.Bool.{cases_lt, both_ways, and_from, eq-eqb}
use Rattle.scans.specs.Scans.{lowest}
use Rattle.scans.proofs.Scans.{lowest_all}
use Rattle.edges.specs.declared.edge.Edge.{Edge}
use Rattle.edges.specs.Edges.{no_edge, Within}
use Rattle.orders.specs.PairSets.{Repeats}
use Rattle.orders.specs.Orders.{stuck}
use Rattle.orders.specs.Cycles.{AfterCycle}
use Rattle.orders.proofs.Results.{one_in}
use Rattle.orders.proofs.Ways.{stuck_law}
use Rattle.numbers.proofs.Groups.{Bytes}
use Rattle.records.specs.Faults.{counted}
use Rattle.records.specs.declared.types.Head.{Head}
use Rattle.records.specs.Heads.{Few, head_bytes, head_at, Opens}
use Rattle.records.specs.Records.{Item, task, edge, end, TaskFits, EdgeFits, task_bytes, edge_bytes, Holds, record_at}
use Rattle.records.proofs.Fields.{ok_same, un_then, un_map_err, un_refused}
use Rattle.records.proofs.Heads.{un_head}
use Rattle.records.proofs.Records.{un_record}
use Rattle.graphs.specs.declared.types.Task.{Task}
use Rattle.graphs.specs.declared.fault.GraphFault.TheVariants.{InRecord, Repeated}
use Rattle.graphs.specs.Model.{no_task}
use Rattle.graphs.specs.Parts.{Parts, no_parts, Limited, WellFormed, tasks_bytes, edges_bytes, file_bytes}
use Rattle.graphs.specs.Files.{in_record, joined_in, with_edge, added, parts_from, all_parts, refused_at, uncycled, graph_of}

-- ---- one more at the end

abbrev edge_on : Edge → List ℕ
edge_on e = edge_bytes e.from e.to e.amount

pub tasks_bytes_push : (ts : List Task) (ns : List (List ℕ)) (t : Task) (n : List ℕ) → length ns ≡ length ts → tasks_bytes (ts ++ t ∷ []) (ns ++ n ∷ []) ≡ tasks_bytes ts ns ++ task_bytes n t.time t.size
tasks_bytes_push [] [] t n e = append-nil _
tasks_bytes_push [] (m ∷ ns) t n e = absurd (omega arith)
tasks_bytes_push (u ∷ ts) [] t n e = absurd (omega arith)
tasks_bytes_push (u ∷ ts) (m ∷ ns) t n e = ap (λ x. task_bytes m u.time u.size ++ x) (tasks_bytes_push ts ns t n (omega arith)) ∙ sym (append_assoc (task_bytes m u.time u.size) (tasks_bytes ts ns) (task_bytes n t.time t.size))

-- what holds of each, and of one more at the end
each_push : {X : Type 0} (P : X → Type 0) (xs : List X) (x d : X) → ((k : ℕ) → k < length xs → P (get_or xs k d)) → P x → (k : ℕ) → k < length (xs ++ x ∷ []) → P (get_or (xs ++ x ∷ []) k d)
each_push P xs x d h p k l =
    let m = length_push xs x in
    elim (cases_lt k (length xs)) [
      | inl a ↦ subst P (sym (get_or_append_left xs (x ∷ []) d k a)) (h k a)
      | inr b ↦ subst P (sym (get_or_push xs x d k (omega arith))) p
    ]

abbrev TaskAt : List Task → List (List ℕ) → ℕ → Type 0
TaskAt ts ns t = TaskFits (get_or ns t []) (get_or ts t no_task).time (get_or ts t no_task).size

tasks_push : (ts : List Task) (ns : List (List ℕ)) (x : Task) (n : List ℕ) → length ns ≡ length ts → ((t : ℕ) → t < length ts → TaskAt ts ns t) → TaskFits n x.time x.size
    → (t : ℕ) → t < length (ts ++ x ∷ []) → TaskAt (ts ++ x ∷ []) (ns ++ n ∷ []) t
tasks_push ts ns x n e h f t l =
    let m = length_push ts x in
    elim (cases_lt t (length ts)) [
      | inl a ↦ subst (λ (y : Task). TaskFits (get_or (ns ++ n ∷ []) t []) y.time y.size) (sym (get_or_append_left ts (x ∷ []) no_task t a))
          (subst (λ (y : List ℕ). TaskFits y (get_or ts t no_task).time (get_or ts t no_task).size) (sym (get_or_append_left ns (n ∷ []) [] t (omega arith))) (h t a))
      | inr b ↦ subst (λ (y : Task). TaskFits (get_or (ns ++ n ∷ []) t []) y.time y.size) (sym (get_or_push ts x no_task t (omega arith)))
          (subst (λ (y : List ℕ). TaskFits y x.time x.size) (sym (get_or_push ns n [] t (omega arith))) f)
    ]

-- an edge whose pair no earlier edge joins repeats none
single_push : (es : List Edge) (e : Edge) → joined_in es e.from e.to ≡ false → ((j k : ℕ) → Repeats es j k → ⊥) → (j k : ℕ) → Repeats (es ++ e ∷ []) j k → ⊥
single_push es e f h j k r =
    let m = length_push es e in
    let jl : j < length es = omega (arith, r.0, r.1) in
    let a = get_or_append_left es (e ∷ []) no_edge j jl in
    elim (cases_lt k (length es)) [
      | inl l ↦ (let b = get_or_append_left es (e ∷ []) no_edge k l in
          h j k (r.0, l, ap (λ (x : Edge). x.from) (sym a) ∙ r.2 ∙ ap (λ (x : Edge). x.from) b, ap (λ (x : Edge). x.to) (sym a) ∙ r.3 ∙ ap (λ (x : Edge). x.to) b))
      | inr g ↦ (let b = get_or_push es e no_edge k (omega (arith, r.1)) in
          let u : e.from ≡ (get_or es j no_edge).from = ap (λ (x : Edge). x.from) (sym b) ∙ sym r.2 ∙ ap (λ (x : Edge). x.from) a in
          let v : e.to ≡ (get_or es j no_edge).to = ap (λ (x : Edge). x.to) (sym b) ∙ sym r.3 ∙ ap (λ (x : Edge). x.to) a in
          both_ways (joined_in es e.from e.to) f (one_in (λ (x : Edge). eqb e.from x.from && eqb e.to x.to) es j jl (and_from _ _ (eq-eqb _ _ u) (eq-eqb _ _ v))))
    ]

-- the offset after what was added to one of two parts
placed : (at next : ℕ) (b tb eb tb' eb' x : List ℕ) → at ≡ length (b ++ (tb ++ eb)) → next ≡ at + length x → length tb' + length eb' ≡ length tb + length eb + length x → next ≡ length (b ++ (tb' ++ eb'))
placed at next b tb eb tb' eb' x p n e = omega (arith, length-append b (tb ++ eb), length-append tb eb, length-append b (tb' ++ eb'), length-append tb' eb')

-- ---- what holds at each record

module _ (file : List ℕ) (w : Bytes file) (h : Head) (few : Few h) where
  -- after `read` records, the file up to `at` is the encoding of the parts so far
  pub record Going (read at : ℕ) (p : Parts) : Type 0 where
    pub tasks : length p.tasks ≡ min read h.tasks
    pub edges : length p.edges ≡ read - h.tasks
    pub named : length p.names ≡ length p.tasks
    pub fits : (t : ℕ) → t < length p.tasks → TaskAt p.tasks p.names t
    pub joins : (k : ℕ) → k < length p.edges → EdgeFits h.tasks (get_or p.edges k no_edge).from (get_or p.edges k no_edge).to (get_or p.edges k no_edge).amount
    pub single : (j k : ℕ) → Repeats p.edges j k → ⊥
    pub bytes : file ≡ (head_bytes h.tasks h.edges ++ (tasks_bytes p.tasks p.names ++ edges_bytes p.edges)) ++ drop at file
    pub place : at ≡ length (head_bytes h.tasks h.edges ++ (tasks_bytes p.tasks p.names ++ edges_bytes p.edges))

  pub step : (read at : ℕ) (p q : Parts) (i : Item) (next : ℕ) → read < h.tasks + h.edges → Going read at p → Holds file h read at i next → added i at p ≡ Ok q → Going (read + 1) next q
  step read at p q (task place name time size) next l g s e =
      let x : Task = record { time = time; size = size } in
      let b = head_bytes h.tasks h.edges in
      let tb = tasks_bytes p.tasks p.names in
      let eb = edges_bytes p.edges in
      let grown = tasks_bytes_push p.tasks p.names x name g.named in
      let none : p.edges ≡ [] = nil_from_length p.edges (omega (arith, g.edges, s.due.0)) in
      let long = length_push p.tasks x in
      let named = length_push p.names name in
      let now : file ≡ (b ++ (tasks_bytes p.tasks p.names ++ edges_bytes [])) ++ (task_bytes name time size ++ drop next file) =
      g.bytes ∙ ap (λ (es : List Edge). (b ++ (tasks_bytes p.tasks p.names ++ edges_bytes es)) ++ drop at file) none ∙ ap (λ (r : List ℕ). (b ++ (tasks_bytes p.tasks p.names ++ edges_bytes [])) ++ r) s.bytes in
      let more : (b ++ (tasks_bytes p.tasks p.names ++ [])) ++ (task_bytes name time size ++ drop next file) ≡ (b ++ ((tasks_bytes p.tasks p.names ++ task_bytes name time size) ++ [])) ++ drop next file = simp (append_assoc, append-nil) in
      subst (Going (read + 1) next) (ok_same _ _ e)
      record {
        tasks = omega (arith, g.tasks, s.due.0);
        edges = omega (arith, g.edges, s.due.0);
        named = omega (arith, g.named);
        fits = tasks_push p.tasks p.names x name g.named g.fits s.due.2;
        joins = g.joins;
        single = g.single;
        bytes = now ∙ more ∙ ap (λ (tb : List ℕ). (b ++ (tb ++ edges_bytes [])) ++ drop next file) (sym (tasks_bytes_push p.tasks p.names x name g.named))
            ∙ ap (λ (es : List Edge). (b ++ (tasks_bytes (p.tasks ++ x ∷ []) (p.names ++ name ∷ []) ++ edges_bytes es)) ++ drop next file) (sym none);
        place = placed at next b tb eb (tasks_bytes (p.tasks ++ x ∷ []) (p.names ++ name ∷ [])) eb (task_bytes name time size) g.place s.long (omega (arith, ap length grown, length-append tb (task_bytes name time size)));
      }
  step read at p q (edge from to amount) next l g s e =
      let x : Edge = record { from = from; to = to; amount = amount } in
      let b = head_bytes h.tasks h.edges in
      let tb = tasks_bytes p.tasks p.names in
      let u = un_refused (joined_in p.edges from to) (Repeated at) (Ok (with_edge p x)) q e in
      let long = length_push p.edges x in
      let now : file ≡ (b ++ (tb ++ edges_bytes p.edges)) ++ (edge_on x ++ drop next file) = g.bytes ∙ ap (λ (r : List ℕ). (b ++ (tb ++ edges_bytes p.edges)) ++ r) s.bytes in
      let more : (b ++ (tb ++ edges_bytes p.edges)) ++ (edge_on x ++ drop next file) ≡ (b ++ (tb ++ (edges_bytes p.edges ++ edge_on x))) ++ drop next file = simp append_assoc in
      subst (Going (read + 1) next) (ok_same _ _ u.1)
      record {
        tasks = omega (arith, g.tasks, s.due.0);
        edges = omega (arith, g.edges, s.due.0);
        named = g.named;
        fits = g.fits;
        joins = each_push (λ (y : Edge). EdgeFits h.tasks y.from y.to y.amount) p.edges x no_edge g.joins s.due.2;
        single = single_push p.edges x u.0 g.single;
        bytes = now ∙ more ∙ ap (λ (eb : List ℕ). (b ++ (tb ++ eb)) ++ drop next file) (flat_map_more edge_on [] p.edges x);
        place = placed at next b tb (edges_bytes p.edges) tb (edges_bytes (p.edges ++ x ∷ [])) (edge_on x) g.place s.long (omega (arith, ap length (flat_map_more edge_on [] p.edges x), length-append (edges_bytes p.edges) (edge_on x)));
      }
  step read at p q end next l g s e = absurd (omega (arith, s.due.0))

  -- after all records only the end can follow
  ended : (at : ℕ) (i : Item) (next : ℕ) → Holds file h (h.tasks + h.edges) at i next → length file ≤ at
  ended at (task place name time size) next s = absurd (omega (arith, s.due.0))
  ended at (edge from to amount) next s = absurd (omega (arith, s.due.1))
  ended at end next s = s.due.1

  pub came : (read at : ℕ) (r : Item × ℕ) → in_record read (record_at file h read at) ≡ Ok r → Holds file h read at r.0 r.1
  came read at r e = un_record file w h read at r (un_map_err (λ d. InRecord (counted read d)) (record_at file h read at) r e)

  pub all_read : (n read at : ℕ) (p q : Parts) → n + read ≡ h.tasks + h.edges → Going read at p → parts_from n file h read at p ≡ Ok q → (next : ℕ) × Going (h.tasks + h.edges) next q × (length file ≤ next)
  unfolding parts_from
  all_read zero read at p q l g e =
      let u = un_then (in_record read (record_at file h read at)) (λ _. Ok p) q e in
      let s = came read at u.0 u.1 in
      let k : read ≡ h.tasks + h.edges = omega arith in (
        at,
        subst (λ (x : Parts). Going (h.tasks + h.edges) at x) (ok_same p q u.2) (subst (λ (x : ℕ). Going x at p) k g),
        ended at u.0.0 u.0.1 (subst (λ (x : ℕ). Holds file h x at u.0.0 u.0.1) k s),
      )
  all_read (suc n) read at p q l g e =
      let u = un_then (in_record read (record_at file h read at)) _ q e in
      let i = u.0.0 in
      let next = u.0.1 in
      let v = un_then (added i at p) (parts_from n file h (read + 1) next) q u.2 in
      all_read n (read + 1) next v.0 q (omega arith) (step read at p v.0 i next (omega arith) g (came read at u.0 u.1) v.1) v.2

  pub limited : (next : ℕ) (q : Parts) → Going (h.tasks + h.edges) next q → Limited q
  limited next q g =
      let k : h.tasks ≡ length q.tasks = omega (arith, g.tasks) in
      record {
        few = (omega (arith, few.0), omega (arith, g.edges, few.1));
        named = g.named;
        tasks = g.fits;
        edges = λ j l. subst (λ (x : ℕ). EdgeFits x (get_or q.edges j no_edge).from (get_or q.edges j no_edge).to (get_or q.edges j no_edge).amount) k (g.joins j l);
        single = g.single;
      }

  encoding : (next : ℕ) (q : Parts) → Going (h.tasks + h.edges) next q → length file ≤ next → file ≡ file_bytes q
  unfolding file_bytes
  encoding next q g l =
      let k : h.tasks ≡ length q.tasks = omega (arith, g.tasks) in
      let m : h.edges ≡ length q.edges = omega (arith, g.edges) in
      let b = tasks_bytes q.tasks q.names ++ edges_bytes q.edges in
      g.bytes ∙ ap (λ (r : List ℕ). (head_bytes h.tasks h.edges ++ b) ++ r) (drop_all next file l) ∙ append-nil (head_bytes h.tasks h.edges ++ b)
      ∙ ap (λ (x : ℕ). head_bytes x h.edges ++ b) k ∙ ap (λ (x : ℕ). head_bytes (length q.tasks) x ++ b) m

  pub started : Opens file h → Going 0 h.next no_parts
  started o = record {
    tasks = omega arith;
    edges = omega arith;
    named = refl;
    fits = λ t l. absurd (omega arith);
    joins = λ k l. absurd (omega arith);
    single = λ j k r. absurd (omega (arith, r.1));
    bytes = o.bytes ∙ ap (λ (x : List ℕ). x ++ drop h.next file) (sym (append-nil (head_bytes h.tasks h.edges)));
    place = o.long ∙ ap length (sym (append-nil (head_bytes h.tasks h.edges)));
  }

  pub parts_limited : (q : Parts) → Opens file h → all_parts file h ≡ Ok q → (file ≡ file_bytes q) × Limited q
  parts_limited q o e =
      let r = all_read (h.tasks + h.edges) 0 h.next no_parts q (omega arith) (started o) e in
      (encoding r.0 q r.1 r.2, limited r.0 q r.1)

-- ---- no cycle

pub within_limits : (p : Parts) → Limited p → Within p.edges (length p.tasks)
within_limits p l k kl = ((l.edges k kl).start, (l.edges k kl).goal)

un_cycled : (o : Option ℕ) (p q : Parts) → refused_at o p ≡ Ok q → (o ≡ None) × (p ≡ q)
un_cycled None p q e = (refl, ok_same p q e)
un_cycled (Some t) p q e = absurd (let z : ◌≡◌ {A = ℕ} 0 1 = cc e in omega arith)

no_cycle : (p : Parts) → Limited p → lowest (stuck p.edges (length p.tasks)) (length p.tasks) ≡ None → (t : ℕ) → t < length p.tasks → AfterCycle p.edges t → ⊥
no_cycle p l e t tl a =
    let n = length p.tasks in
    both_ways (stuck p.edges n t) (lowest_all (stuck p.edges n) n t e tl) ((stuck_law p.edges n (within_limits p l)).each t a)

pub accepted : (file : List ℕ) (p : Parts) → Bytes file → graph_of file ≡ Ok p → (file ≡ file_bytes p) × WellFormed p
unfolding graph_of
accepted file p w e =
    let u = un_then (in_record 0 (head_at file)) _ p e in
    let h = u.0 in
    let o = un_head file h w (un_map_err (λ d. InRecord (counted 0 d)) (head_at file) h u.1) in
    let v = un_then (all_parts file h) uncycled p u.2 in
    let q = v.0 in
    let s = parts_limited file w h o.few q o v.1 in
    let c = un_cycled (lowest (stuck q.edges (length q.tasks)) (length q.tasks)) q p v.2 in
    subst (λ (x : Parts). (file ≡ file_bytes x) × WellFormed x) c.1 (s.0, record { limited = s.1; acyclic = no_cycle q s.1 c.0 })
