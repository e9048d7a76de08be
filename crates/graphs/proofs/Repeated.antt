-- A repeated pair is told of an edge that stands in the file and joins the pair of an earlier one.
use Rattle.std.proofs.Common.{◌≡◌, ℕ, zero, suc, ◌+◌, ◌&&◌, eqb, List, ◌++◌, length, get_or, drop, Some, None, Ok, Err, Option, Result, sym, ap, ◌∙◌, subst, inl, inr, arith}
use Rattle.std.proofs.lemmas.Bool.{cases_Bool, cond-true, cond-false, and_parts, eqb-true}
use Rattle.scans.specs.Scans.{lowest}
use Rattle.edges.specs.declared.edge.Edge.{Edge}
use Rattle.edges.specs.Edges.{no_edge}
use Rattle.orders.specs.Orders.{stuck}
use Rattle.orders.proofs.Ways.{find_in}
use Rattle.numbers.proofs.Groups.{Bytes}
use Rattle.records.specs.Faults.{counted}
use Rattle.records.specs.declared.fault.RecordFault.{RecordFault}
use Rattle.records.specs.declared.types.Head.{Head}
use Rattle.records.specs.Heads.{Few, head_at, head_bytes}
use Rattle.records.specs.Records.{Item, task, edge, end, edge_bytes, Holds, record_at}
use Rattle.records.proofs.Fields.{un_map_err}
use Rattle.records.proofs.Heads.{un_head}
use Rattle.graphs.specs.declared.fault.GraphFault.{GraphFault}
use Rattle.graphs.specs.declared.fault.GraphFault.TheVariants.{InRecord, Repeated}
use Rattle.graphs.specs.Parts.{Parts, no_parts, tasks_bytes, edges_bytes}
use Rattle.graphs.specs.Files.{in_record, joined_in, with_edge, added, parts_from, all_parts, refused_at, uncycled, graph_of, Denies, RepeatedIn}
use Rattle.graphs.proofs.Accepted.{Going, step, came, started}
use Rattle.graphs.proofs.Turns.{un_err, not_in_record}

not_record : {T : Type 0} (k : ℕ) (r : Result T RecordFault) (a : ℕ) → in_record k r ≡ Err (Repeated a) → ⊥
not_record k r a = not_in_record k r (Repeated a) (λ d e. let z : ◌≡◌ {A = ℕ} 0 1 = cc e in omega arith)

not_cycle : (o : Option ℕ) (p : Parts) (a : ℕ) → refused_at o p ≡ Err (Repeated a) → ⊥
not_cycle None p a e = let z : ◌≡◌ {A = ℕ} 0 1 = cc e in omega arith
not_cycle (Some t) p a e = let z : ◌≡◌ {A = ℕ} 0 1 = cc e in omega arith

module _ (file : List ℕ) (w : Bytes file) (h : Head) (few : Few h) where
  stands : (read at : ℕ) (p : Parts) (i : Item) (next a : ℕ) → Going file w h few read at p → Holds file h read at i next → added i at p ≡ Err (Repeated a) → RepeatedIn file a
  stands read at p (task place name time size) next a g s e = absurd (let z : ◌≡◌ {A = ℕ} 0 1 = cc e in omega arith)
  stands read at p end next a g s e = absurd (let z : ◌≡◌ {A = ℕ} 0 1 = cc e in omega arith)
  stands read at p (edge from to amount) next a g s e =
      let x : Edge = record { from = from; to = to; amount = amount } in
      let rest = tasks_bytes p.tasks p.names ++ edges_bytes p.edges in
      let k : h.tasks ≡ length p.tasks = omega (arith, g.tasks, s.due.0) in
      elim (cases_Bool (joined_in p.edges from to)) [
        | inl y ↦ (
            let same : at ≡ a = (let u = sym (cond-true _ (Err (Repeated at)) (Ok (with_edge p x)) y) ∙ e in cc u) in
            let f = find_in (λ (d : Edge). eqb from d.from && eqb to d.to) p.edges y in
            let m = and_parts (eqb from (get_or p.edges f.0 no_edge).from) (eqb to (get_or p.edges f.0 no_edge).to) f.2 in
            record {
              before = p;
              edges = h.edges;
              next = x;
              after = drop next file;
              bytes = g.bytes ∙ ap (λ (r : List ℕ). (head_bytes h.tasks h.edges ++ rest) ++ r) s.bytes ∙ ap (λ (n : ℕ). (head_bytes n h.edges ++ rest) ++ (edge_bytes from to amount ++ drop next file)) k;
              long = sym same ∙ g.place ∙ ap (λ (n : ℕ). length (head_bytes n h.edges ++ rest)) k;
              single = g.single;
              repeats = (f.0, f.1, sym (eqb-true _ _ m.0), sym (eqb-true _ _ m.1));
            })
        | inr n ↦ absurd (let u = sym (cond-false _ (Err (Repeated at)) (Ok (with_edge p x)) n) ∙ e in let z : ◌≡◌ {A = ℕ} 0 1 = cc u in omega arith)
      ]

  told : (n read at : ℕ) (p : Parts) (a : ℕ) → n + read ≡ h.tasks + h.edges → Going file w h few read at p → parts_from n file h read at p ≡ Err (Repeated a) → RepeatedIn file a
  unfolding parts_from
  told zero read at p a l g e = elim (un_err (in_record read (record_at file h read at)) (λ _. Ok p) (Repeated a) e) [
    | inl c ↦ absurd (not_record read (record_at file h read at) a c)
    | inr c ↦ absurd (let z : ◌≡◌ {A = ℕ} 0 1 = cc c.2 in omega arith)
  ]
  told (suc n) read at p a l g e = elim (un_err (in_record read (record_at file h read at)) _ (Repeated a) e) [
    | inl c ↦ absurd (not_record read (record_at file h read at) a c)
    | inr c ↦ (
        let i = c.0.0 in
        let next = c.0.1 in
        let s = came file w h few read at c.0 c.1 in
        elim (un_err (added i at p) (parts_from n file h (read + 1) next) (Repeated a) c.2) [
          | inl d ↦ stands read at p i next a g s d
          | inr d ↦ told n (read + 1) next d.0 a (omega arith) (step file w h few read at p d.0 i next (omega arith) g s d.1) d.2
        ])
  ]

repeated_in : (file : List ℕ) (a : ℕ) → Bytes file → graph_of file ≡ Err (Repeated a) → RepeatedIn file a
unfolding graph_of
repeated_in file a w e = elim (un_err (in_record 0 (head_at file)) _ (Repeated a) e) [
  | inl c ↦ absurd (not_record 0 (head_at file) a c)
  | inr b ↦ elim (un_err (all_parts file b.0) uncycled (Repeated a) b.2) [
    | inl c ↦ (
        let h = b.0 in
        let o = un_head file h w (un_map_err (λ f. InRecord (counted 0 f)) (head_at file) h b.1) in
        told file w h o.few (h.tasks + h.edges) 0 h.next no_parts a (omega arith) (started file w h o.few o) c)
    | inr d ↦ absurd (not_cycle (lowest (stuck d.0.edges (length d.0.tasks)) (length d.0.tasks)) d.0 a d.2)
  ]
]

-- the same of a reader's refusal
pub denied_repeated : (file : List ℕ) (y : GraphFault) (a : ℕ) → Bytes file → Denies (graph_of file) y → ◌≡◌ {A = Result (Unit {0}) GraphFault} (Err y) (Err (Repeated a)) → RepeatedIn file a
denied_repeated file y a w d e =
    let s : y ≡ Repeated a = cc e in
    elim d [
      | inl m ↦ absurd (let z : ◌≡◌ {A = ℕ} 0 1 = cc (m, s) in omega arith)
      | inr g ↦ repeated_in file a w (subst (λ (x : GraphFault). graph_of file ≡ Err x) s g)
    ]
