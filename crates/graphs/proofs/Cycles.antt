-- A cycle is told last: of a file that is the encoding of parts within their limits.
use Rattle.std.proofs.Common.{◌≡◌, ℕ, zero, suc, ◌+◌, List, length, Some, None, Ok, Err, Option, Result, ap, subst, inl, inr, arith}
use Rattle.std.proofs.lemmas.Bool.{cond_both}
use Rattle.scans.specs.Scans.{lowest}
use Rattle.orders.specs.declared.order.OrderFault.TheVariants as order
use Rattle.orders.specs.Orders.{stuck}
use Rattle.orders.proofs.Ways.{cycle_law}
use Rattle.numbers.proofs.Groups.{Bytes}
use Rattle.records.specs.Faults.{counted}
use Rattle.records.specs.declared.fault.RecordFault.{RecordFault}
use Rattle.records.specs.declared.types.Head.{Head}
use Rattle.records.specs.Heads.{head_at}
use Rattle.records.specs.Records.{Item, task, edge, end, record_at}
use Rattle.records.proofs.Fields.{un_map_err}
use Rattle.records.proofs.Heads.{un_head}
use Rattle.graphs.specs.declared.fault.GraphFault.{GraphFault}
use Rattle.graphs.specs.declared.fault.GraphFault.TheVariants.{InRecord, Cycle}
use Rattle.graphs.specs.Parts.{Parts}
use Rattle.graphs.specs.Files.{in_record, joined_in, added, parts_from, all_parts, refused_at, uncycled, graph_of, Denies, CycleIn}
use Rattle.graphs.proofs.Accepted.{parts_limited, within_limits}
use Rattle.graphs.proofs.Turns.{un_err, not_in_record}

-- ---- no part before the end tells of a cycle

not_record : {T : Type 0} (k : ℕ) (r : Result T RecordFault) (t : ℕ) → in_record k r ≡ Err (Cycle t) → ⊥
not_record k r t = not_in_record k r (Cycle t) (λ d e. let z : ◌≡◌ {A = ℕ} 0 1 = cc e in omega arith)

not_added : (i : Item) (at : ℕ) (p : Parts) (t : ℕ) → added i at p ≡ Err (Cycle t) → ⊥
not_added (task place name time size) at p t e = let z : ◌≡◌ {A = ℕ} 0 1 = cc e in omega arith
not_added (edge from to amount) at p t e =
    cond_both (joined_in p.edges from to) _ _ (λ r. r ≡ Err (Cycle t) → ⊥) (λ b d. let z : ◌≡◌ {A = ℕ} 0 1 = cc d in omega arith) (λ b d. let z : ◌≡◌ {A = ℕ} 0 1 = cc d in omega arith) e
not_added end at p t e = let z : ◌≡◌ {A = ℕ} 0 1 = cc e in omega arith

not_parts : (n : ℕ) (file : List ℕ) (h : Head) (read at : ℕ) (p : Parts) (t : ℕ) → parts_from n file h read at p ≡ Err (Cycle t) → ⊥
unfolding parts_from
not_parts zero file h read at p t e = elim (un_err (in_record read (record_at file h read at)) (λ _. Ok p) (Cycle t) e) [
  | inl a ↦ not_record read (record_at file h read at) t a
  | inr b ↦ (let z : ◌≡◌ {A = ℕ} 0 1 = cc b.2 in omega arith)
]
not_parts (suc n) file h read at p t e = elim (un_err (in_record read (record_at file h read at)) _ (Cycle t) e) [
  | inl a ↦ not_record read (record_at file h read at) t a
  | inr b ↦ elim (un_err (added b.0.0 at p) (parts_from n file h (read + 1) b.0.1) (Cycle t) b.2) [
    | inl c ↦ not_added b.0.0 at p t c
    | inr d ↦ not_parts n file h (read + 1) b.0.1 d.0 t d.2
  ]
]

-- ---- the end

un_refused_at : (o : Option ℕ) (p : Parts) (t : ℕ) → refused_at o p ≡ Err (Cycle t) → o ≡ Some t
un_refused_at None p t e = absurd (let z : ◌≡◌ {A = ℕ} 0 1 = cc e in omega arith)
un_refused_at (Some u) p t e = let s : u ≡ t = cc e in ap Some s

pub cycle_in : (file : List ℕ) (t : ℕ) → Bytes file → graph_of file ≡ Err (Cycle t) → CycleIn file t
unfolding graph_of
cycle_in file t w e = elim (un_err (in_record 0 (head_at file)) _ (Cycle t) e) [
  | inl a ↦ absurd (not_record 0 (head_at file) t a)
  | inr b ↦ elim (un_err (all_parts file b.0) uncycled (Cycle t) b.2) [
    | inl c ↦ absurd (not_parts (b.0.tasks + b.0.edges) file b.0 0 b.0.next _ t c)
    | inr d ↦ (
        let h = b.0 in
        let p = d.0 in
        let n = length p.tasks in
        let o = un_head file h w (un_map_err (λ f. InRecord (counted 0 f)) (head_at file) h b.1) in
        let s = parts_limited file w h o.few p o d.1 in
        let l = un_refused_at (lowest (stuck p.edges n) n) p t d.2 in
        (p, s.1, s.0, cycle_law p.edges n (Err (order.Cycle t)) (within_limits p s.1) l))
  ]
]

-- the same of a reader's refusal
pub denied_cycle : (file : List ℕ) (y : GraphFault) (t : ℕ) → Bytes file → Denies (graph_of file) y → ◌≡◌ {A = Result (Unit {0}) GraphFault} (Err y) (Err (Cycle t)) → CycleIn file t
denied_cycle file y t w d e =
    let s : y ≡ Cycle t = cc e in
    elim d [
      | inl m ↦ absurd (let z : ◌≡◌ {A = ℕ} 0 1 = cc (m, s) in omega arith)
      | inr g ↦ cycle_in file t w (subst (λ (x : GraphFault). graph_of file ≡ Err x) s g)
    ]
