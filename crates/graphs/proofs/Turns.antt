-- The reader: what came, one turn of it, and the head.
use Rattle.std.proofs.Common.{◌≡◌, ℕ, zero, suc, ◌+◌, ◌⊎◌, List, Ok, Err, Result, sym, refl, ap, ◌∙◌, inl, inr, arith}
use Rattle.records.specs.Faults.{counted}
use Rattle.records.specs.declared.fault.RecordFault.{RecordFault}
use Rattle.records.specs.declared.fault.Counted.{Counted}
use Rattle.records.specs.declared.types.Head.{Head}
use Rattle.records.specs.Faults.{counted_by}
use Rattle.records.specs.Fields.{and_then}
use Rattle.records.specs.Heads.{head_at}
use Rattle.records.specs.Records.{Item, record_at}
use Rattle.graphs.specs.declared.fault.GraphFault.{GraphFault}
use Rattle.graphs.specs.declared.fault.GraphFault.TheVariants.{InRecord}
use Rattle.graphs.specs.Parts.{Parts}
use Rattle.graphs.specs.Files.{in_record, added, parts_from, all_parts, uncycled, graph_of}

-- ---- what came, without its count

pub got : {T : Type 0} (k : ℕ) (q : Result T RecordFault) (x : T) → Ok x ≡ counted_by k q → q ≡ Ok x
got k (Ok y) x e = let d : y ≡ x = cc in ap Ok d
got k (Err f) x e = absurd (let z : ◌≡◌ {A = ℕ} 0 1 = cc in omega arith)

pub lost : {T : Type 0} (k : ℕ) (q : Result T RecordFault) (d : Counted) → Err d ≡ counted_by k q → (q ≡ Err d.fault) × (d.«record» ≡ k)
lost k (Ok y) d e = absurd (let z : ◌≡◌ {A = ℕ} 0 1 = cc in omega arith)
lost k (Err f) d e = let s : d ≡ record { fault = f; «record» = k } = cc in (ap (λ (x : Counted). Err x.fault) (sym s), ap (λ (x : Counted). x.«record») s)

pub then_goes : {A B E : Type 0} (r : Result A E) (f : A → Result B E) (x : A) → r ≡ Ok x → and_then r f ≡ f x
then_goes r f x e = ap (λ y. and_then y f) e

pub then_fails : {A B E : Type 0} (r : Result A E) (f : A → Result B E) (d : E) → r ≡ Err d → and_then r f ≡ Err d
then_fails r f d e = ap (λ y. and_then y f) e

-- what is refused is refused by one of its parts
pub un_err : {A B E : Type 0} (r : Result A E) (f : A → Result B E) (d : E) → and_then r f ≡ Err d → (r ≡ Err d) ⊎ ((a : A) × (r ≡ Ok a) × (f a ≡ Err d))
un_err (Ok a) f d e = inr (a, refl, e)
un_err (Err x) f d e = inl (let s : x ≡ d = cc e in ap Err s)

pub not_in_record : {T : Type 0} (k : ℕ) (r : Result T RecordFault) (d : GraphFault) → ((e : RecordFault) → InRecord (counted k e) ≡ d → ⊥) → in_record k r ≡ Err d → ⊥
not_in_record k (Ok x) d other e = let z : ◌≡◌ {A = ℕ} 0 1 = cc e in omega arith
not_in_record k (Err f) d other e = let s : InRecord (counted k f) ≡ d = cc e in other f s

pub not_both : {A E : Type 0} (r : Result A E) (x : A) (d : E) → r ≡ Ok x → r ≡ Err d → ⊥
not_both r x d a b = let z : ◌≡◌ {A = ℕ} 0 1 = cc in omega arith

-- ---- what it does

module _ (file : List ℕ) (h : Head) (read at : ℕ) (p : Parts) where
  pub turn_fails : (n : ℕ) (e : RecordFault) → record_at file h read at ≡ Err e → parts_from n file h read at p ≡ Err (InRecord (counted read e))
  unfolding parts_from
  turn_fails zero e r = ap (λ x. and_then (in_record read x) (λ _. Ok p)) r
  turn_fails (suc n) e r = ap (λ x. and_then (in_record read x) (λ y. and_then (added y.0 at p) (parts_from n file h (read + 1) y.1))) r

  pub turn_adds : (n m : ℕ) (i : Item) (next : ℕ) → n ≡ suc m → record_at file h read at ≡ Ok (i, next) → parts_from n file h read at p ≡ and_then (added i at p) (parts_from m file h (read + 1) next)
  unfolding parts_from
  turn_adds n m i next e r =
      ap (λ k. parts_from k file h read at p) e
      ∙ ap (λ x. and_then (in_record read x) (λ y. and_then (added y.0 at p) (parts_from m file h (read + 1) y.1))) r

  pub turn_ends : (n : ℕ) (x : Item × ℕ) → n ≡ 0 → record_at file h read at ≡ Ok x → parts_from n file h read at p ≡ Ok p
  unfolding parts_from
  turn_ends n x e r = ap (λ m. parts_from m file h read at p) e ∙ ap (λ y. and_then (in_record read y) (λ _. Ok p)) r

-- ---- the head, and then the records

module _ (file : List ℕ) where
  pub head_fails : (e : RecordFault) → head_at file ≡ Err e → graph_of file ≡ Err (InRecord (counted 0 e))
  unfolding graph_of
  head_fails e r = ap (λ x. and_then (in_record 0 x) (λ h. and_then (all_parts file h) uncycled)) r

  pub head_read : (h : Head) → head_at file ≡ Ok h → graph_of file ≡ and_then (all_parts file h) uncycled
  unfolding graph_of
  head_read h r = ap (λ x. and_then (in_record 0 x) (λ y. and_then (all_parts file y) uncycled)) r
