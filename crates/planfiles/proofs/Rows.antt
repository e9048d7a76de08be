-- One turn of the reader of rows.
use Rattle.std.proofs.Common.{◌≡◌, ℕ, zero, suc, ◌+◌, ◌-◌, ◌^◌, ◌<◌, ◌≤◌, ◌≢◌, List, [], ◌∷◌, ◌++◌, length, get_or, take, drop, set, replicate, IfOk, Ok, Err, Result, sym, refl, ap, ◌∙◌, subst, append_assoc, append-nil, arith, below_more}
use Rattle.std.proofs.lemmas.List.{get_or-set_same, get_or-set_other, take_more_set, take_all, drop-replicate}
use Rattle.records.specs.declared.fault.RecordFault.{RecordFault}
use Rattle.records.specs.declared.fault.Counted.{Counted}
use Rattle.records.specs.Faults.{counted_by}
use Rattle.records.specs.Fields.{and_then, map_ok, map_err}
use Rattle.plans.specs.declared.types.Row.{Row}
use Rattle.plans.specs.declared.fault.PlanFault.{PlanFault}
use Rattle.plans.specs.Jobs.{no_row}
use Rattle.planfiles.specs.Reading.{in_row, ahead, row_at, rows_at, Filled}

-- rows that stand before others
abbrev before : List Row → Result (List Row × ℕ) PlanFault → Result (List Row × ℕ) PlanFault
before rs r = map_ok (λ q. (rs ++ q.0, q.1)) r

before_ahead : (rs : List Row) (x : Row) (r : Result (List Row × ℕ) PlanFault) → before rs (map_ok (ahead x) r) ≡ before (rs ++ x ∷ []) r
before_ahead rs x (Ok q) = let e : rs ++ x ∷ q.0 ≡ (rs ++ x ∷ []) ++ q.0 = simp append_assoc in rw e
before_ahead rs x (Err e) = refl

before_none : (r : Result (List Row × ℕ) PlanFault) → r ≡ before [] r
before_none (Ok q) = refl
before_none (Err e) = refl

-- the first k of n rows are read, and the next is at `at`
pub record Turn (n : ℕ) (file : List ℕ) (workers from : ℕ) (rows : List Row) (at k : ℕ) : Type 0 where
  pub left : ℕ
  pub count : left + k ≡ n
  pub same : rows_at n file workers 0 from ≡ before (take k rows) (rows_at left file workers k at)

pub begins : (n : ℕ) (file : List ℕ) (workers from : ℕ) (rows : List Row) → Turn n file workers from rows from 0
begins n file workers from rows = record { left = n; count = omega arith; same = before_none _ }

-- the next row, and those after it
abbrev step : ℕ → List ℕ → ℕ → ℕ → Result (Row × ℕ) RecordFault → Result (List Row × ℕ) PlanFault
step m file workers k r = and_then (map_err (in_row k) r) (λ p. map_ok (ahead p.0) (rows_at m file workers (k + 1) p.1))

more_at : (left : ℕ) (file : List ℕ) (workers at k : ℕ) → 0 < left → (m : ℕ) × (left ≡ m + 1) × (rows_at left file workers k at ≡ step m file workers k (row_at file workers at))
more_at zero file workers at k h = absurd (omega arith)
more_at (suc m) file workers at k h = (m, omega arith, refl)

none_at : (left : ℕ) (file : List ℕ) (workers at k : ℕ) → left ≡ 0 → rows_at left file workers k at ≡ Ok ([], at)
none_at zero file workers at k h = refl
none_at (suc m) file workers at k h = absurd (omega arith)

module _ {n : ℕ} {file : List ℕ} {workers from : ℕ} {rows : List Row} {at k : ℕ} (s : Turn n file workers from rows at k) where
  pub goes : (x : Row) (next : ℕ) → k < n → k < length rows → Ok (x, next) ≡ row_at file workers at → Turn n file workers from (set rows k x) next (k + 1)
  goes x next h l e =
      let m = more_at s.left file workers at k (omega (arith, s.count)) in
      let t : rows_at s.left file workers k at ≡ map_ok (ahead x) (rows_at m.0 file workers (k + 1) next) = m.2 ∙ ap (step m.0 file workers k) (sym e) in
      record {
        left = m.0;
        count = omega (arith, s.count, m.1);
        same = s.same ∙ ap (before (take k rows)) t ∙ before_ahead (take k rows) x _ ∙ ap (λ r. before r (rows_at m.0 file workers (k + 1) next)) (sym (take_more_set rows k x l));
      }

  -- all are read, in front of the later rows of a table that was all 0
  pub ends : (was : List Row) → n ≤ k → length rows ≡ n → was ≡ replicate (length was) no_row → Filled (length was) (rows_at n file workers 0 from) (Ok at) (rows ++ drop n was)
  ends was h l z =
      let t : rows_at n file workers 0 from ≡ Ok (take k rows ++ [], at) = s.same ∙ ap (before (take k rows)) (none_at s.left file workers at k (omega (arith, s.count))) in
      let all : take k rows ++ [] ≡ rows = append-nil (take k rows) ∙ take_all k rows (omega arith) in
      let later : drop n was ≡ replicate (length was - length rows) no_row = ap (drop n) z ∙ drop-replicate n (length was) no_row ∙ ap (λ m. replicate (length was - m) no_row) (sym l) in
      rw t (refl, rw all (ap (λ x. rows ++ x) later))

-- the starts of the rows that are read
pub early_more : (rows : List Row) (k : ℕ) (x : Row) → k < length rows → x.start ≤ 2 ^ 40 → ((i : ℕ) → i < k → (get_or rows i no_row).start ≤ 2 ^ 40) → (i : ℕ) → i < k + 1 → (get_or (set rows k x) i no_row).start ≤ 2 ^ 40
early_more rows k x l h b =
    below_more (λ i. (get_or (set rows k x) i no_row).start ≤ 2 ^ 40) k
    (λ i g. let ne : i ≢ k = omega arith in rw get_or-set_other (b i g))
    (rw get_or-set_same h)

-- ---- what the count at a fault leaves of a result

module _ {T : Type 0} (k : ℕ) where
  pub got : (r s : Result T RecordFault) (x : T) → r ≡ s → Ok x ≡ counted_by k r → Ok x ≡ s
  got (Ok y) s x e p = ap Ok (let z : ◌≡◌ {A = Result _ Counted} (Ok x) (Ok y) = p in cc) ∙ e
  got (Err d) s x e p = absurd (let z : ◌≡◌ {A = ℕ} 0 1 = cc p in omega arith)

  pub got_at : (P : T → Type 0) (r : Result T RecordFault) (x : T) → Ok x ≡ counted_by k r → IfOk r P → P x
  got_at P (Ok y) x p m = let z : y ≡ x = cc p in subst P z m
  got_at P (Err d) x p m = absurd (let z : ◌≡◌ {A = ℕ} 0 1 = cc p in omega arith)
