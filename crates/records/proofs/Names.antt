-- Names: those that stand in a file are read, and those that are read stand there.
use Rattle.std.proofs.Common.{◌≡◌, ℕ, zero, suc, ◌+◌, ◌-◌, ◌≤◌, Bool, true, false, cond, not, ◌||◌, ltb, List, [], ◌∷◌, ◌++◌, length, take, drop, Some, None, Ok, Option, sym, refl, ap, ◌∙◌, subst, add-one, arith, length-append}
use Rattle.std.specs.Char.{is_ascii_graphic}
use Rattle.std.specs.List.{position, position_from}
use Rattle.std.proofs.lemmas.Bool.Decides.{nat_tests}
use Rattle.std.proofs.lemmas.Iterator.Adapters.{position_from-zero}
use Rattle.std.proofs.lemmas.List.{drop-drop, length-drop, take_at, take-append-drop, length-take-le}
use Rattle.std.proofs.lemmas.Bool.{le-ltb, ltb-false, or_from, or_parts, cond-false}
use Rattle.numbers.specs.Numbers.{coded}
use Rattle.numbers.proofs.Groups.{Bytes}
use Rattle.numbers.proofs.Laid.{past}
use Rattle.records.specs.Fields.{and_then, field_at}
use Rattle.records.specs.Names.{Printable, outside, judged, whole_at, name_at}
use Rattle.records.proofs.Fields.{ok_same, un_then, un_refused, field_at_lem, un_field}

outside_from : (k : ℕ) (bs : List ℕ) → position_from (λ b. not (is_ascii_graphic b)) k bs ≡ outside k bs
outside_from k [] = refl
outside_from k (b ∷ bs) =
    let same : not (is_ascii_graphic b) ≡ (ltb b 33 || ltb 126 b) = grind (arith, nat_tests) in
    rw (same, add-one k) (ap (cond (ltb b 33 || ltb 126 b) (Some k)) (outside_from (suc k) bs))

-- the first byte that is no printable one of ASCII
outside_position : (bs : List ℕ) → position (λ b. not (is_ascii_graphic b)) bs ≡ outside 0 bs
outside_position bs = position_from-zero (λ b. not (is_ascii_graphic b)) bs ∙ outside_from 0 bs

pub outside_none : (k : ℕ) (bs : List ℕ) → Printable bs → outside k bs ≡ None
outside_none k [] h = refl
outside_none k (b ∷ bs) h =
    let p : (33 ≤ b) × (b ≤ 126) = h 0 (omega arith) in
    cond-false _ _ _ (or_from _ _ (le-ltb b 33 p.0) (le-ltb 126 b p.1)) ∙ outside_none (k + 1) bs (λ j l. h (suc j) (omega arith))

un_cond_none : (b : Bool) (k : ℕ) (o : Option ℕ) → cond b (Some k) o ≡ None → (b ≡ false) × (o ≡ None)
un_cond_none false k o e = (refl, e)
un_cond_none true k o e = absurd (let z : ◌≡◌ {A = ℕ} 0 1 = cc e in omega arith)

pub un_outside : (k : ℕ) (bs : List ℕ) → outside k bs ≡ None → Printable bs
un_outside k [] e j l = absurd (omega arith)
un_outside k (b ∷ bs) e zero l =
    let u = or_parts _ _ (un_cond_none (ltb b 33 || ltb 126 b) k (outside (k + 1) bs) e).0 in
    (ltb-false _ _ u.0, ltb-false _ _ u.1)
un_outside k (b ∷ bs) e (suc j) l = un_outside (k + 1) bs (un_cond_none (ltb b 33 || ltb 126 b) k (outside (k + 1) bs) e).1 j (omega arith)

-- a name that the file does not cut short
pub name_whole : (file : List ℕ) (at n start : ℕ) (name : List ℕ) → field_at file at 1 31 ≡ Ok (n, start) → start + n ≤ length file → name ≡ take (start + n - start) (drop start file)
    → name_at file at ≡ judged start name (position (λ b. not (is_ascii_graphic b)) name)
unfolding name_at
name_whole file at n start name e l part =
    let k : start + n - start ≡ n = omega arith in
    let same : take n (drop start file) ≡ name = sym (part ∙ ap (λ m. take m (drop start file)) k) in
    ap (λ r. and_then r (whole_at file)) e
    ∙ cond-false _ _ _ (le-ltb (length file - start) n (omega arith))
    ∙ ap (λ x. judged start x (outside 0 x)) same
    ∙ ap (judged start name) (sym (outside_position name))

un_judged : (start : ℕ) (name : List ℕ) (o : Option ℕ) (q : List ℕ × ℕ) → judged start name o ≡ Ok q → (o ≡ None) × ((name, start) ≡ q)
un_judged start name None q e = (refl, ok_same _ _ e)
un_judged start name (Some k) q e = absurd (let z : ◌≡◌ {A = ℕ} 0 1 = cc e in omega arith)

-- the name q .0 stands at q.1, after its length
pub record Named (file : List ℕ) (at : ℕ) (q : List ℕ × ℕ) : Type 0 where
  pub bytes : drop at file ≡ coded (length q.0) ++ (q.0 ++ drop (q.1 + length q.0) file)
  pub place : q.1 ≡ at + length (coded (length q.0))
  pub limits : (1 ≤ length q.0) × (length q.0 ≤ 31)
  pub printable : Printable q.0

pub name_at_lem : (file : List ℕ) (at : ℕ) (name rest : List ℕ) → 1 ≤ length name → length name ≤ 31 → Printable name → drop at file ≡ coded (length name) ++ (name ++ rest)
    → name_at file at ≡ Ok (name, at + length (coded (length name)))
unfolding name_at
name_at_lem file at name rest l h p e =
    let n = length name in
    let s = at + length (coded n) in
    let e₁ : drop s file ≡ name ++ rest = past file at (coded n) _ e in
    let m : length file - s ≡ n + length rest = sym (length-drop s file) ∙ ap length e₁ ∙ length-append name rest in
    let t : take n (drop s file) ≡ name = ap (take n) e₁ ∙ take_at name rest n refl in
    rw (field_at_lem file at 1 31 n _ l h (omega arith) e)
    (cond-false _ _ _ (le-ltb (length file - s) n (omega arith)) ∙ ap (λ x. judged s x (outside 0 x)) t ∙ ap (judged s name) (outside_none 0 name p))

pub un_name : (file : List ℕ) (at : ℕ) (q : List ℕ × ℕ) → Bytes file → name_at file at ≡ Ok q → Named file at q
unfolding name_at
un_name file at q w e =
    let a = un_then (field_at file at 1 31) (whole_at file) q e in
    let f = un_field file w at 1 31 a.0 a.1 in
    let n = a.0.0 in
    let s = a.0.1 in
    let name : List ℕ = take n (drop s file) in
    let t = un_refused (ltb (length file - s) n) _ _ q a.2 in
    let j = un_judged s name (outside 0 name) q t.1 in
    let l : n ≤ length (drop s file) = rw (length-drop s file) (ltb-false _ _ t.0) in
    let k : length name ≡ n = length-take-le n (drop s file) l in
    let d : drop s file ≡ name ++ drop (s + n) file = sym (take-append-drop n (drop s file)) ∙ ap (λ x. name ++ x) (drop-drop n s file) in
    subst (Named file at) j.1
    record {
      bytes = f.0.bytes ∙ ap (λ x. coded n ++ x) d ∙ ap (λ x. coded x ++ (name ++ drop (s + x) file)) (sym k);
      place = f.0.long ∙ ap (λ x. at + length (coded x)) (sym k);
      limits = (omega (arith, k, f.1), omega (arith, k, f.2));
      printable = un_outside 0 name j.0;
    }
