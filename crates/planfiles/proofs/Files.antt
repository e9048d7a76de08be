-- Plan files: the file of a plan is read as that plan, and a file that is read is the file of its plan.
use Rattle.std.proofs.Common.{◌≡◌, ℕ, zero, suc, ◌+◌, ◌-◌, ◌^◌, ◌<◌, ◌≤◌, Bool, true, false, cond, eqb, ltb, List, [], ◌∷◌, ◌++◌, length, drop, Ok, Err, Result, sym, refl, ap, ◌∙◌, subst, append_assoc, append-nil, arith, length-append, length-drop}
use Rattle.std.specs.List.{flat_map, AllByRecursion as All}
use Rattle.std.proofs.ByRecursion.{All-from_get_or, All-get_or}
use Rattle.std.proofs.lemmas.List.{drop_all}
use Rattle.std.proofs.lemmas.Bool.{cond-true, cond-false, eq-eqb, eqb-true, le-ltb, ltb-false}
use Rattle.numbers.specs.Numbers.{coded}
use Rattle.numbers.proofs.Groups.{Bytes}
use Rattle.numbers.proofs.Laid.{past}
use Rattle.records.specs.Fields.{map_ok, map_err, field_at}
use Rattle.records.proofs.Fields.{Number, ok_same, un_then, un_map_err, un_refused, field_at_lem, un_field}
use Rattle.graphs.specs.Model.{TaskGraph}
use Rattle.plans.specs.declared.types.Row.{Row}
use Rattle.plans.specs.declared.fault.PlanFault.TheVariants.{NotOfGraph}
use Rattle.plans.specs.Jobs.{no_row, unlinked}
use Rattle.plans.specs.Rules.{latest}
use Rattle.planfiles.specs.declared.head.Head.{Head}
use Rattle.planfiles.specs.Plans.{Plan, Few, Fits, row_bytes, plan_bytes}
use Rattle.planfiles.specs.Reading.{in_row, row_of, row_at, ahead, rows_at, head_of, head_field, limits_at, head_at, closed, plan_at}

-- a row that a plan of so many workers may have
abbrev Fit : ℕ → Row → Type 0
Fit workers r = (r.worker < workers) × (r.start ≤ 2 ^ 40)

-- ---- what is written is read

module _ (file : List ℕ) where
  row_at_lem : (workers at : ℕ) (r : Row) (rest : List ℕ) → workers ≤ 16 → Fit workers r → drop at file ≡ row_bytes r ++ rest → row_at file workers at ≡ Ok (r, at + length (row_bytes r))
  unfolding row_at
  row_at_lem workers at r rest s f e =
      let e₀ : drop at file ≡ coded r.worker ++ (coded r.start ++ rest) = e ∙ simp append_assoc in
      let e₁ = past file at (coded r.worker) _ e₀ in
      let n : at + length (coded r.worker) + length (coded r.start) ≡ at + length (row_bytes r) = simp length-append (omega arith) in
      rw (field_at_lem file at 0 (workers - 1) r.worker _ (omega arith) (omega arith) (omega arith) e₀, field_at_lem file (at + length (coded r.worker)) 0 (2 ^ 40) r.start rest (omega arith) f.1 (omega arith) e₁, n)

  rows_at_lem : (workers k at : ℕ) (rs : List Row) (rest : List ℕ) → workers ≤ 16 → All (Fit workers) rs → drop at file ≡ flat_map row_bytes rs ++ rest → rows_at (length rs) file workers k at ≡ Ok (rs, at + length (flat_map row_bytes rs))
  rows_at_lem workers k at [] rest s f e = let n : at ≡ at + 0 = omega arith in ap (λ x. Ok ([], x)) n
  rows_at_lem workers k at (r ∷ rs) rest s f e =
      let e₀ : drop at file ≡ row_bytes r ++ (flat_map row_bytes rs ++ rest) = e ∙ append_assoc (row_bytes r) (flat_map row_bytes rs) rest in
      let i = rows_at_lem workers (k + 1) (at + length (row_bytes r)) rs rest s f.1 (past file at (row_bytes r) _ e₀) in
      let n : at + length (row_bytes r) + length (flat_map row_bytes rs) ≡ at + length (row_bytes r ++ flat_map row_bytes rs) = omega (arith, length-append (row_bytes r) (flat_map row_bytes rs)) in
      rw (row_at_lem workers at r _ s f.0 e₀, i, n)

  head_field_lem : (at low high v : ℕ) (rest : List ℕ) → low ≤ v → v ≤ high → v < 2 ^ 42 → drop at file ≡ coded v ++ rest → head_field file at low high ≡ Ok (v, at + length (coded v))
  head_field_lem at low high v rest l h s e = ap (map_err (in_row 0)) (field_at_lem file at low high v rest l h s e)

  head_at_lem : (n workers ticks : ℕ) (rest : List ℕ) → n ≤ 512 → Few workers → ticks ≤ 2 ^ 40 → file ≡ coded 2 ++ (coded n ++ (coded workers ++ (coded ticks ++ rest)))
      → (h : Head) × (head_at file n ≡ Ok h) × (h.workers ≡ workers) × (h.ticks ≡ ticks) × (drop h.next file ≡ rest)
  unfolding head_at
  head_at_lem n workers ticks rest s f l e =
      let a₁ = 0 + length (coded 2) in
      let a₂ = a₁ + length (coded n) in
      let a₃ = a₂ + length (coded workers) in
      let e₁ = past file 0 (coded 2) _ e in
      let e₂ = past file a₁ (coded n) _ e₁ in
      let e₃ = past file a₂ (coded workers) _ e₂ in (
        head_of workers ticks a₃ (a₃ + length (coded ticks)),
        rw (head_field_lem 0 2 2 2 _ (omega arith) (omega arith) (omega arith) e, head_field_lem a₁ 0 512 n _ (omega arith) s (omega arith) e₁, eq-eqb n n refl, head_field_lem a₂ 1 16 workers _ f.0 f.1 (omega arith) e₂, head_field_lem a₃ 0 (2 ^ 40) ticks rest (omega arith) l (omega arith) e₃),
        refl,
        refl,
        past file a₃ (coded ticks) rest e₃,
      )

fits_each : (g : TaskGraph) (p : Plan) → Fits g p → All (Fit p.workers) p.rows
fits_each g p f = All-from_get_or _ p.rows no_row (λ k h. (f.placed k (omega (arith, f.each)), f.early k (omega (arith, f.each))))

closes : (g : TaskGraph) (file : List ℕ) (h : Head) (rs : List Row) (end workers ticks : ℕ) → h.workers ≡ workers → h.ticks ≡ ticks → length file ≤ end → ticks ≡ latest (unlinked g rs 0 0) → closed g file h (rs, end) ≡ Ok (record { workers = workers; ticks = ticks; rows = rs })
closes g file h rs end workers ticks a b l e =
    cond-false _ _ _ (le-ltb end (length file) l) ∙ cond-true _ _ _ (eq-eqb h.ticks _ (b ∙ e)) ∙ ap (λ x. Ok (record { workers = x; ticks = h.ticks; rows = rs })) a ∙ ap (λ x. Ok (record { workers = workers; ticks = x; rows = rs })) b

pub plan_at_lem : (g : TaskGraph) (file : List ℕ) (p : Plan) → Fits g p → file ≡ plan_bytes p → plan_at g file ≡ Ok p
unfolding plan_at
plan_at_lem g file p f q =
    let rs = p.rows in
    let w = p.workers in
    let h = head_at_lem file (length rs) w p.ticks (flat_map row_bytes rs) f.short f.few f.low q in
    let e : drop h.0.next file ≡ flat_map row_bytes rs ++ [] = h.4 ∙ sym (append-nil _) in
    let r = rows_at_lem file w 0 h.0.next rs [] f.few.1 (fits_each g p f) e in
    let d : length file ≤ h.0.next + length (flat_map row_bytes rs) = omega (arith, length-drop h.0.next file, ap length h.4) in
    rw (ap (head_at file) (sym f.each) ∙ h.1, h.2, ap (λ m. rows_at m file w 0 h.0.next) (sym f.each) ∙ r)
    (closes g file h.0 rs _ w p.ticks h.2 h.3 d f.last)

-- ---- what is read is what would be written

un_map_ok : {A B E : Type 0} (f : A → B) (r : Result A E) (x : B) → map_ok f r ≡ Ok x → (a : A) × (r ≡ Ok a) × (f a ≡ x)
un_map_ok f (Ok a) x e = (a, refl, cc e)
un_map_ok f (Err d) x e = absurd (let z : ◌≡◌ {A = ℕ} 0 1 = cc e in omega arith)

-- a test that lets through was passed
un_passed : {A E : Type 0} (b : Bool) (r : Result A E) (d : E) (x : A) → cond b r (Err d) ≡ Ok x → (b ≡ true) × (r ≡ Ok x)
un_passed true r d x e = (refl, e)
un_passed false r d x e = absurd (let z : ◌≡◌ {A = ℕ} 0 1 = cc e in omega arith)

module _ (file : List ℕ) (bytes : Bytes file) where
  -- a row within limits stands at an offset, and what is next at p.1
  abbrev RowThere : ℕ → ℕ → Row × ℕ → Type 0
  RowThere workers at p = (drop at file ≡ row_bytes p.0 ++ drop p.1 file) × Fit workers p.0

  un_row : (workers at : ℕ) (p : Row × ℕ) → 1 ≤ workers → row_at file workers at ≡ Ok p → RowThere workers at p
  unfolding row_at
  un_row workers at p s e =
      let a = un_then (field_at file at 0 (workers - 1)) _ p e in
      let b = un_then (field_at file a.0.1 0 (2 ^ 40)) _ p a.2 in
      let fa = un_field file bytes at 0 (workers - 1) a.0 a.1 in
      let fb = un_field file bytes a.0.1 0 (2 ^ 40) b.0 b.1 in
      let d : (row_of a.0.0 b.0.0, b.0.1) ≡ p = ok_same _ _ b.2 in
      let t : drop at file ≡ row_bytes (row_of a.0.0 b.0.0) ++ drop b.0.1 file =
      fa.0.bytes ∙ ap (λ x. coded a.0.0 ++ x) fb.0.bytes ∙ sym (append_assoc (coded a.0.0) (coded b.0.0) (drop b.0.1 file)) in
      subst (RowThere workers at) d (t, (omega (arith, fa.2), fb.2))

  abbrev RowsThere : ℕ → ℕ → ℕ → List Row × ℕ → Type 0
  RowsThere n workers at q = (drop at file ≡ flat_map row_bytes q.0 ++ drop q.1 file) × (length q.0 ≡ n) × All (Fit workers) q.0

  un_rows : (n workers k at : ℕ) (q : List Row × ℕ) → 1 ≤ workers → rows_at n file workers k at ≡ Ok q → RowsThere n workers at q
  un_rows zero workers k at q s e = let d : ([], at) ≡ q = ok_same _ _ e in subst (RowsThere 0 workers at) d (refl, refl, tt)
  un_rows (suc n) workers k at q s e =
      let a = un_then (map_err (in_row k) (row_at file workers at)) _ q e in
      let m = un_map_ok (ahead a.0.0) (rows_at n file workers (k + 1) a.0.1) q a.2 in
      let r = un_row workers at a.0 s (un_map_err (in_row k) _ a.0 a.1) in
      let i = un_rows n workers (k + 1) a.0.1 m.0 s m.1 in
      let t : drop at file ≡ (row_bytes a.0.0 ++ flat_map row_bytes m.0.0) ++ drop m.0.1 file =
      r.0 ∙ ap (λ x. row_bytes a.0.0 ++ x) i.0 ∙ sym (append_assoc (row_bytes a.0.0) _ _) in
      subst (RowsThere (suc n) workers at) m.2 (t, ap suc i.1, (r.1, i.2))

  un_head_field : (at low high : ℕ) (p : ℕ × ℕ) → head_field file at low high ≡ Ok p → Number file at p × (low ≤ p.0) × (p.0 ≤ high)
  un_head_field at low high p e = un_field file bytes at low high p (un_map_err (in_row 0) (field_at file at low high) p e)

  -- the workers and the length stand at an offset, within their limits
  record LimitsThere (at : ℕ) (h : Head) : Type 0 where
    there : drop at file ≡ coded h.workers ++ (coded h.ticks ++ drop h.next file)
    few : Few h.workers
    low : h.ticks ≤ 2 ^ 40

  un_limits : (at : ℕ) (h : Head) → limits_at file at ≡ Ok h → LimitsThere at h
  un_limits at h e =
      let w = un_then (head_field file at 1 16) _ h e in
      let l = un_then (head_field file w.0.1 0 (2 ^ 40)) _ h w.2 in
      let fw = un_head_field at 1 16 w.0 w.1 in
      let fl = un_head_field w.0.1 0 (2 ^ 40) l.0 l.1 in
      let d : head_of w.0.0 l.0.0 w.0.1 l.0.1 ≡ h = ok_same _ _ l.2 in
      subst (LimitsThere at) d (record { there = fw.0.bytes ∙ ap (λ x. coded w.0.0 ++ x) fl.0.bytes; few = (fw.1, fw.2); low = fl.2 })

  -- a head stands at the start of the file
  record HeadThere (n : ℕ) (h : Head) : Type 0 where
    whole : file ≡ coded 2 ++ (coded n ++ (coded h.workers ++ (coded h.ticks ++ drop h.next file)))
    short : n ≤ 512
    few : Few h.workers
    low : h.ticks ≤ 2 ^ 40

  un_head : (n : ℕ) (h : Head) → head_at file n ≡ Ok h → HeadThere n h
  unfolding head_at
  un_head n h e =
      let a = un_then (head_field file 0 2 2) _ h e in
      let b = un_then (head_field file a.0.1 0 512) _ h a.2 in
      let t = un_passed (eqb b.0.0 n) (limits_at file b.0.1) (NotOfGraph a.0.1) h b.2 in
      let fa = un_head_field 0 2 2 a.0 a.1 in
      let fb = un_head_field a.0.1 0 512 b.0 b.1 in
      let l = un_limits b.0.1 h t.1 in
      let two : a.0.0 ≡ 2 = omega (arith, fa.1, fa.2) in
      let same = eqb-true b.0.0 n t.0 in
      record {
        whole = fa.0.bytes ∙ ap (λ x. coded x ++ drop a.0.1 file) two ∙ ap (λ x. coded 2 ++ x) (fb.0.bytes ∙ ap (λ x. coded x ++ drop b.0.1 file) same ∙ ap (λ x. coded n ++ x) l.there);
        short = omega (arith, fb.2, same);
        few = l.few;
        low = l.low;
      }

  pub un_plan : (g : TaskGraph) (p : Plan) → plan_at g file ≡ Ok p → Fits g p × (file ≡ plan_bytes p)
  unfolding plan_at
  un_plan g p e =
      let h = un_then (head_at file g.tasks) _ p e in
      let q = un_then (rows_at g.tasks file h.0.workers 0 h.0.next) _ p h.2 in
      let a = un_refused (ltb q.0.1 (length file)) _ _ p q.2 in
      let b = un_passed (eqb h.0.ticks _) _ _ p a.1 in
      let t = un_head g.tasks h.0 h.1 in
      let r = un_rows g.tasks h.0.workers 0 h.0.next q.0 t.few.0 q.1 in
      let rs = q.0.0 in
      let none : drop q.0.1 file ≡ [] = drop_all q.0.1 file (ltb-false q.0.1 (length file) a.0) in
      let tail : drop h.0.next file ≡ flat_map row_bytes q.0.0 = r.0 ∙ ap (λ x. flat_map row_bytes rs ++ x) none ∙ append-nil _ in
      let d : record { workers = h.0.workers; ticks = h.0.ticks; rows = q.0.0 } ≡ p = ok_same _ _ b.1 in
      let s : file ≡ plan_bytes (record { workers = h.0.workers; ticks = h.0.ticks; rows = q.0.0 }) =
      t.whole ∙ ap (λ x. coded 2 ++ (coded g.tasks ++ (coded h.0.workers ++ (coded h.0.ticks ++ x)))) tail
      ∙ ap (λ x. coded 2 ++ (coded x ++ (coded h.0.workers ++ (coded h.0.ticks ++ flat_map row_bytes rs)))) (sym r.1) in
      subst (λ (x : Plan). Fits g x × (file ≡ plan_bytes x)) d (
        record {
          few = t.few;
          short = omega (arith, t.short, r.1);
          each = r.1;
          placed = λ k l. (All-get_or (Fit h.0.workers) rs k no_row (omega (arith, r.1)) r.2).0;
          early = λ k l. (All-get_or (Fit h.0.workers) rs k no_row (omega (arith, r.1)) r.2).1;
          last = eqb-true h.0.ticks _ b.0;
          low = t.low;
        },
        s,
      )
