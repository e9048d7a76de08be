-- Numbers within limits: those that stand in a file are read, and those that are read stand there.
use Rattle.std.proofs.Common.{◌≡◌, ℕ, ◌+◌, ◌^◌, ◌<◌, ◌≤◌, Bool, true, false, cond, List, ◌++◌, length, drop, Ok, Err, Result, refl, ap, ◌∙◌, subst, arith}
use Rattle.std.proofs.lemmas.Bool.{le-ltb, ltb-false, or_from, or_parts, cond-false}
use Rattle.numbers.specs.Numbers.{number_at, coded}
use Rattle.numbers.proofs.Groups.{Bytes}
use Rattle.numbers.proofs.Laid.{number_at_lem, un_number, number_long}
use Rattle.records.specs.declared.fault.RecordFault.TheVariants.{InNumber}
use Rattle.records.specs.Fields.{and_then, map_err, plain_at, limited, field_at}

-- ---- the parts of what was read

pub ok_same : {A E : Type 0} (a b : A) → ◌≡◌ {A = Result A E} (Ok a) (Ok b) → a ≡ b
ok_same a b e = cc

pub un_then : {A B E : Type 0} (r : Result A E) (f : A → Result B E) (x : B) → and_then r f ≡ Ok x → (a : A) × (r ≡ Ok a) × (f a ≡ Ok x)
un_then (Ok a) f x e = (a, refl, e)
un_then (Err d) f x e = absurd (let z : ◌≡◌ {A = ℕ} 0 1 = cc e in omega arith)

pub un_map_err : {A E F : Type 0} (f : E → F) (r : Result A E) (x : A) → map_err f r ≡ Ok x → r ≡ Ok x
un_map_err f (Ok a) x e = ap Ok (ok_same a x e)
un_map_err f (Err d) x e = absurd (let z : ◌≡◌ {A = ℕ} 0 1 = cc e in omega arith)

-- a test that refuses was not passed
pub un_refused : {A E : Type 0} (b : Bool) (d : E) (r : Result A E) (x : A) → cond b (Err d) r ≡ Ok x → (b ≡ false) × (r ≡ Ok x)
un_refused false d r x e = (refl, e)
un_refused true d r x e = absurd (let z : ◌≡◌ {A = ℕ} 0 1 = cc e in omega arith)

-- ---- what stands is read

module _ (file : List ℕ) where
  pub plain_at_lem : (at v : ℕ) (rest : List ℕ) → v < 2 ^ 42 → drop at file ≡ coded v ++ rest → plain_at file at ≡ Ok (v, at + length (coded v))
  plain_at_lem at v rest s e = ap (map_err InNumber) (number_at_lem file at v rest s e)

  pub field_at_lem : (at low high v : ℕ) (rest : List ℕ) → low ≤ v → v ≤ high → v < 2 ^ 42 → drop at file ≡ coded v ++ rest → field_at file at low high ≡ Ok (v, at + length (coded v))
  unfolding field_at
  field_at_lem at low high v rest l h s e =
      ap (λ r. and_then r (limited at low high)) (plain_at_lem at v rest s e) ∙ cond-false _ _ _ (or_from _ _ (le-ltb v low l) (le-ltb high v h))

-- ---- what is read stands

-- the number p .0 stands at an offset, and what is next at p.1
pub record Number (file : List ℕ) (at : ℕ) (p : ℕ × ℕ) : Type 0 where
  pub bytes : drop at file ≡ coded p.0 ++ drop p.1 file
  pub long : p.1 ≡ at + length (coded p.0)

module _ (file : List ℕ) (h : Bytes file) where
  pub un_plain : (at : ℕ) (p : ℕ × ℕ) → plain_at file at ≡ Ok p → Number file at p
  un_plain at p e =
      let d = un_map_err InNumber (number_at file at) p e in
      record { bytes = un_number file at p.0 p.1 h d; long = number_long file at p.0 p.1 h d }

  pub un_field : (at low high : ℕ) (p : ℕ × ℕ) → field_at file at low high ≡ Ok p → Number file at p × (low ≤ p.0) × (p.0 ≤ high)
  unfolding field_at
  un_field at low high p e =
      let u = un_then (plain_at file at) (limited at low high) p e in
      let t = un_refused _ _ (Ok u.0) p u.2 in
      let d : u.0 ≡ p = ok_same _ _ t.1 in
      let o = or_parts _ _ t.0 in
      subst (λ (q : ℕ × ℕ). Number file at q × (low ≤ q.0) × (q.0 ≤ high)) d
      (un_plain at u.0 u.1, ltb-false _ _ o.0, ltb-false _ _ o.1)
