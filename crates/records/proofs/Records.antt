-- Records: those that stand in a file are read, and those that are read stand there.
use Rattle.std.proofs.Common.{◌≡◌, ℕ, ◌+◌, ◌-◌, ◌^◌, ◌<◌, ◌≤◌, ◌||◌, eqb, ltb, leb, List, ◌++◌, length, drop, Ok, Result, sym, refl, ap, ◌∙◌, subst, append_assoc, add-zero, arith, length-append}
use Rattle.std.proofs.lemmas.Bool.{lt-ltb, le-ltb, lt-leb, ne_eqb, leb-false, eqb-false, ltb-true, ltb-false, or_from, or_parts, cond-true, cond-false, cond_both}
use Rattle.numbers.specs.Numbers.{coded}
use Rattle.numbers.proofs.Groups.{Bytes}
use Rattle.numbers.proofs.Laid.{past}
use Rattle.records.specs.declared.fault.RecordFault.TheVariants.{NoTask, Trailing}
use Rattle.records.specs.declared.fault.Counted.{Counted}
use Rattle.records.specs.declared.types.Head.{Head}
use Rattle.records.specs.Faults.{counted_by}
use Rattle.records.specs.Fields.{plain_at, field_at}
use Rattle.records.specs.Heads.{Few}
use Rattle.records.specs.Names.{name_at}
use Rattle.records.specs.Records.{Item, task, edge, end, read_after, TaskFits, EdgeFits, task_bytes, edge_bytes, Holds, task_at, edge_at, end_at, record_at}
use Rattle.records.proofs.Fields.{ok_same, un_then, un_refused, plain_at_lem, field_at_lem, un_plain, un_field}
use Rattle.records.proofs.Names.{name_at_lem, un_name}

-- ---- what stands is read

module _ (file : List ℕ) where
  pub task_at_lem : (at : ℕ) (name : List ℕ) (t z : ℕ) (rest : List ℕ) → TaskFits name t z → drop at file ≡ task_bytes name t z ++ rest
      → task_at file at ≡ Ok (task (at + length (coded (length name))) name t z, at + length (task_bytes name t z))
  task_at_lem at name t z rest f e =
      let n = length name in
      let s = at + length (coded n) in
      let e₀ : drop at file ≡ coded n ++ (name ++ (coded t ++ (coded z ++ rest))) = e ∙ simp append_assoc in
      let e₁ = past file at (coded n) _ e₀ in
      let e₂ = past file s name _ e₁ in
      let e₃ = past file (s + n) (coded t) _ e₂ in
      let k : s + n + length (coded t) + length (coded z) ≡ at + length (task_bytes name t z) = simp length-append (omega arith) in
      rw (
        name_at_lem file at name _ f.named.0 f.named.1 f.printable e₀,
        field_at_lem file (s + n) 1 (2 ^ 20) t _ f.timed.0 f.timed.1 (omega (arith, f.timed)) e₂,
        field_at_lem file (s + n + length (coded t)) 0 (2 ^ 24) z rest (omega arith) f.sized (omega (arith, f.sized)) e₃,
        k,
      )

  pub edge_at_lem : (tasks at a b n : ℕ) (rest : List ℕ) → tasks ≤ 512 → EdgeFits tasks a b n → drop at file ≡ edge_bytes a b n ++ rest
      → edge_at file tasks at ≡ Ok (edge a b n, at + length (edge_bytes a b n))
  edge_at_lem tasks at a b n rest w f e =
      let s = at + length (coded a) in
      let e₀ : drop at file ≡ coded a ++ (coded b ++ (coded n ++ rest)) = e ∙ simp append_assoc in
      let e₁ = past file at (coded a) _ e₀ in
      let e₂ = past file s (coded b) _ e₁ in
      let k : s + length (coded b) + length (coded n) ≡ at + length (edge_bytes a b n) = simp length-append (omega arith) in
      rw (
        plain_at_lem file at a _ (omega (arith, f.start)) e₀,
        plain_at_lem file s b _ (omega (arith, f.goal)) e₁,
        field_at_lem file (s + length (coded b)) 0 (2 ^ 20) n rest (omega arith) f.carried (omega (arith, f.carried)) e₂,
        k,
      )
      (cond-false _ _ _ (or_from _ _ (lt-leb tasks a f.start) (or_from _ _ (lt-leb tasks b f.goal) (ne_eqb a b f.apart))))

  pub record_at_lem : (h : Head) (read at : ℕ) (i : Item) (next : ℕ) → Few h → Holds file h read at i next → record_at file h read at ≡ Ok (i, next)
  unfolding record_at
  record_at_lem h read at (task place name t z) next w s =
      cond-true _ _ _ (lt-ltb read h.tasks s.due.0) ∙ task_at_lem at name t z _ s.due.2 s.bytes
      ∙ ap (λ x. Ok (task x name t z, at + length (task_bytes name t z))) (sym s.due.1) ∙ ap (λ x. Ok (task place name t z, x)) (sym s.long)
  record_at_lem h read at (edge a b n) next w s =
      cond-false _ _ _ (le-ltb read h.tasks s.due.0) ∙ cond-true _ _ _ (lt-ltb (read - h.tasks) h.edges (omega (arith, s.due.0, s.due.1)))
      ∙ edge_at_lem h.tasks at a b n _ w.0 s.due.2 s.bytes ∙ ap (λ x. Ok (edge a b n, x)) (sym s.long)
  record_at_lem h read at end next w s =
      let k : at ≡ next = omega (arith, s.long) in
      cond-false _ _ _ (le-ltb read h.tasks (omega (arith, s.due.0))) ∙ cond-false _ _ _ (le-ltb (read - h.tasks) h.edges (omega (arith, s.due.0)))
      ∙ cond-false _ _ _ (le-ltb at (length file) s.due.1) ∙ ap (λ x. Ok (end, x)) k

-- ---- what is read stands

module _ (file : List ℕ) (w : Bytes file) (h : Head) (read at : ℕ) where
  abbrev There : Item × ℕ → Type 0
  There p = Holds file h read at p.0 p.1

  pub un_task : (p : Item × ℕ) → read < h.tasks → task_at file at ≡ Ok p → There p
  un_task p l e =
      let n = un_then (name_at file at) _ p e in
      let name = n.0.0 in
      let t = un_then (field_at file (n.0.1 + length name) 1 (2 ^ 20)) _ p n.2 in
      let z = un_then (field_at file t.0.1 0 (2 ^ 24)) _ p t.2 in
      let fn = un_name file at n.0 w n.1 in
      let ft = un_field file w (n.0.1 + length name) 1 (2 ^ 20) t.0 t.1 in
      let fz = un_field file w t.0.1 0 (2 ^ 24) z.0 z.1 in
      let s : drop at file ≡ coded (length name) ++ (name ++ (coded t.0.0 ++ (coded z.0.0 ++ drop z.0.1 file))) =
      fn.bytes ∙ ap (λ x. coded (length name) ++ (name ++ x)) (ft.0.bytes ∙ ap (λ x. coded t.0.0 ++ x) fz.0.bytes) in
      subst There (ok_same _ _ z.2)
      record {
        due = (l, fn.place, record { named = fn.limits; printable = fn.printable; timed = (ft.1, ft.2); sized = fz.2 });
        bytes = s ∙ simp append_assoc;
        long = simp length-append (omega (arith, fn.place, ft.0.long, fz.0.long));
      }

  pub un_edge : (p : Item × ℕ) → h.tasks ≤ read → read - h.tasks < h.edges → edge_at file h.tasks at ≡ Ok p → There p
  un_edge p l m e =
      let a = un_then (plain_at file at) _ p e in
      let b = un_then (plain_at file a.0.1) _ p a.2 in
      let n = un_then (field_at file b.0.1 0 (2 ^ 20)) _ p b.2 in
      let t = un_refused (leb h.tasks a.0.0 || (leb h.tasks b.0.0 || eqb a.0.0 b.0.0)) (NoTask at) (Ok (edge a.0.0 b.0.0 n.0.0, n.0.1)) p n.2 in
      let o = or_parts _ _ t.0 in
      let q = or_parts _ _ o.1 in
      let fa = un_plain file w at a.0 a.1 in
      let fb = un_plain file w a.0.1 b.0 b.1 in
      let fn = un_field file w b.0.1 0 (2 ^ 20) n.0 n.1 in
      let s : drop at file ≡ coded a.0.0 ++ (coded b.0.0 ++ (coded n.0.0 ++ drop n.0.1 file)) =
      fa.bytes ∙ ap (λ x. coded a.0.0 ++ x) (fb.bytes ∙ ap (λ x. coded b.0.0 ++ x) fn.0.bytes) in
      let d : (edge a.0.0 b.0.0 n.0.0, n.0.1) ≡ p = ok_same _ _ t.1 in
      subst There d
      record {
        due = (l, omega arith, record { start = leb-false _ _ o.0; goal = leb-false _ _ q.0; apart = eqb-false _ _ q.1; carried = fn.2 });
        bytes = s ∙ simp append_assoc;
        long = simp length-append (omega (arith, fa.long, fb.long, fn.0.long));
      }

  un_end : (p : Item × ℕ) → h.tasks ≤ read → h.edges ≤ read - h.tasks → end_at file at ≡ Ok p → There p
  un_end p l m e =
      let t = un_refused (ltb at (length file)) (Trailing at) (Ok (end, at)) p e in
      let d : (end, at) ≡ p = ok_same _ _ t.1 in
      subst There d record { due = (omega arith, ltb-false _ _ t.0); bytes = refl; long = sym (add-zero at) }

  pub un_record : (p : Item × ℕ) → record_at file h read at ≡ Ok p → There p
  unfolding record_at
  un_record p =
      cond_both (ltb read h.tasks) _ _ (λ r. r ≡ Ok p → There p)
      (λ t. un_task p (ltb-true _ _ t))
      (λ t. cond_both (ltb (read - h.tasks) h.edges) _ _ (λ r. r ≡ Ok p → There p)
      (λ u. un_edge p (ltb-false _ _ t) (ltb-true _ _ u))
      (λ u. un_end p (ltb-false _ _ t) (ltb-false _ _ u)))

-- ---- how many records are read

coded_some : (v : ℕ) → 1 ≤ length (coded v)
unfolding coded
coded_some v = cond_both (ltb v 128) _ _ (λ (bs : List ℕ). 1 ≤ length bs) (λ _. omega arith) (λ _. omega arith)

-- each record but the end has a byte
pub read_after_lem : (file : List ℕ) (h : Head) (read at : ℕ) (i : Item) (next : ℕ) → Holds file h read at i next → (at < next → read + 1 ≡ read_after i read) × (next ≤ at → read ≡ read_after i read)
read_after_lem file h read at (task place name t z) next s = (λ _. refl, λ l. absurd (omega (arith, l, s.long, s.due.2.named.0, simp length-append at s.long)))
read_after_lem file h read at (edge a b n) next s = (λ _. refl, λ l. absurd (omega (arith, l, s.long, coded_some a, simp length-append at s.long)))
read_after_lem file h read at end next s = (λ l. absurd (omega (arith, l, s.long)), λ _. refl)

-- ---- what stands is read, with the number of records read before

pub counted_lem : (file : List ℕ) (h : Head) (read at : ℕ) (r : Result (Item × ℕ) Counted) → r ≡ counted_by read (record_at file h read at) → Few h → (i : Item) (next : ℕ) → Holds file h read at i next → r ≡ Ok (i, next)
counted_lem file h read at r e few i next s = e ∙ ap (counted_by read) (record_at_lem file h read at i next few s)
