-- The law of numbers: which bytes are read, and why others are not.
use Rattle.std.proofs.Common.{◌≡◌, ℕ, zero, suc, ◌+◌, ◌-◌, ◌*◌, ◌/◌, ◌%◌, ◌^◌, ◌<◌, ◌≤◌, Bool, true, false, not, ◌&&◌, eqb, ltb, ◌⊎◌, List, [], ◌∷◌, length, get_or, take, drop, sym, refl, ◌∙◌, subst, inl, inr, ⊎_elim, pow-suc, add-one, arith}
use Rattle.std.proofs.lemmas.List.{get_or-drop, length-drop}
use Rattle.std.proofs.lemmas.Bool.{false≢true, ltb-true, ltb-false, ne_eqb, and_left, cond-false, cond_both, cases_lt}
use Rattle.numbers.specs.Numbers.{coded, Front, is, short, bad, more, last, decode, placed, number_at}
use Rattle.numbers.specs.Spelling.{Spells, lone, then, Announce, ended, overlong, needless, Told}
use Rattle.numbers.proofs.Groups.{Bytes, bytes_drop, coded_one, coded_more}

-- ---- the bytes of a value spell it

spelt : (n v : ℕ) → v < 128 ^ n → v < 2 ^ 64 → Spells (coded v) v
spelt zero v h f = let z : v < 1 = h in rw (coded_one v (omega arith)) (lone v (omega arith))
spelt (suc n) v h f =
    ⊎_elim
    (λ l. rw (coded_one v l) (lone v l))
    (λ l.
    let u : v < 128 ^ n * 128 = rw pow-suc at h in
    let e : 128 + v % 128 - 128 + 128 * (v / 128) ≡ v = omega arith in
    let s = then (128 + v % 128) (v / 128) (coded (v / 128)) (omega arith) (omega arith) (omega arith) (spelt n (v / 128) (omega arith) (omega arith)) in
    rw (coded_more v l f) (subst (λ (x : ℕ). Spells ((128 + v % 128) ∷ coded (v / 128)) x) e s))
    (cases_lt v 128)

pub spells : (v : ℕ) → v < 2 ^ 64 → Spells (coded v) v
spells v h = spelt 10 v (omega arith) h

-- ---- what the front of a list tells

abbrev High : List ℕ → ℕ → Type 0
High bs n = (k : ℕ) → k < n → 128 ≤ get_or bs k 0

high_none : (bs : List ℕ) → High bs 0
high_none bs k h = absurd (omega arith)

high_more : (b : ℕ) (bs : List ℕ) (n : ℕ) → 128 ≤ b → High bs n → High (b ∷ bs) (suc n)
high_more b bs n l h zero i = l
high_more b bs n l h (suc k) i = h k (omega arith)

abbrev Needless : Bool → ℕ → List ℕ → Type 0
Needless first left bs = (n : ℕ) × (first ≡ true → 0 < n) × (n < left) × High bs n × (n < length bs) × (get_or bs n 0 ≡ 0)

abbrev Fronts : ℕ → Bool → List ℕ → Front → Type 0
Fronts left first bs (is v n) = Spells (take n bs) v × (n ≤ left) × (first ≡ false → 0 < v)
Fronts left first bs short = (n : ℕ) × (n < left) × High bs n × (length bs ≤ n)
Fronts left first bs bad = High bs left ⊎ Needless first left bs

fronts_last : (left : ℕ) (first : Bool) (b : ℕ) (bs : List ℕ) → b < 128 → Fronts (suc left) first (b ∷ bs) (last first b)
fronts_last left true zero bs l = (lone zero l, omega arith, λ e. absurd (false≢true (sym e)))
fronts_last left false zero bs l = inr (0, (λ e. absurd (false≢true e)), omega arith, high_none (0 ∷ bs), omega arith, refl)
fronts_last left first (suc b) bs l =
    let t : (eqb (suc b) 0 && not first) ≡ false = and_left (eqb (suc b) 0) (not first) (ne_eqb (suc b) 0 (λ q. omega arith)) in
    subst (Fronts (suc left) first (suc b ∷ bs)) (sym (cond-false _ _ _ t)) (lone (suc b) l, omega arith, λ _. omega arith)

fronts_more : (left : ℕ) (first : Bool) (b : ℕ) (bs : List ℕ) (f : Front) → 128 ≤ b → b < 256 → Fronts left false bs f → Fronts (suc left) first (b ∷ bs) (more (b - 128) f)
fronts_more left first b bs (is v n) l h p =
    let z : 0 < v = p.2 refl in
    (rw (add-one n) (then b v (take n bs) l h z p.0), omega (arith, p.1), λ _. omega arith)
fronts_more left first b bs short l h p = (suc p.0, omega (arith, p.1), high_more b bs p.0 l p.2, omega (arith, p.3))
fronts_more left first b bs bad l h (inl a) = inl (high_more b bs left l a)
fronts_more left first b bs bad l h (inr q) = inr (suc q.0, (λ _. omega arith), omega (arith, q.2), high_more b bs q.0 l q.3, omega (arith, q.4), q.5)

fronts : (left : ℕ) (first : Bool) (bs : List ℕ) → Bytes bs → Fronts left first bs (decode left first bs)
fronts zero first bs h = inl (high_none bs)
fronts (suc left) first [] h = (0, omega arith, high_none [], omega arith)
fronts (suc left) first (b ∷ bs) h =
    cond_both (ltb b 128) _ _ (Fronts (suc left) first (b ∷ bs))
    (λ t. fronts_last left first b bs (ltb-true b 128 t))
    (λ t. fronts_more left first b bs (decode left false bs) (ltb-false b 128 t) (h 0) (fronts left false bs (λ k. h (suc k))))

-- ---- the same of a file

module _ (file : List ℕ) (at : ℕ) where
  announced : (n : ℕ) → High (drop at file) n → Announce file at n
  announced n h k l = rw (← get_or-drop at file k 0) (h k l)

  told_by : (f : Front) → Fronts 6 true (drop at file) f → Told file at (placed (length file) at at f)
  told_by (is v n) p =
      let e : at + n - at ≡ n = omega arith in
      (rw e p.0, omega (arith, p.1))
  told_by short p = ended p.0 p.1 (announced p.0 p.2) (omega (arith, p.3, length-drop at file))
  told_by bad (inl a) = overlong (announced 6 a)
  told_by bad (inr q) =
      needless q.0 (q.1 refl) q.2 (announced q.0 q.3) (omega (arith, q.4, length-drop at file)) (sym (get_or-drop at file q.0 0) ∙ q.5)

  pub told : Bytes file → Told file at (number_at file at)
  unfolding number_at
  told h = told_by (decode 6 true (drop at file)) (fronts 6 true (drop at file) (bytes_drop at file h))
