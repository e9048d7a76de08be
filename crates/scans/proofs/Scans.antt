-- What the scans find.
use Rattle.std.proofs.Common.{◌≡◌, ℕ, zero, suc, ◌+◌, ◌<◌, ◌≤◌, max, min, Bool, true, false, ◌||◌, ◌⊎◌, Some, None, Option, sym, refl, ap, ◌∙◌, subst, inl, inr, add-one, arith}
use Rattle.std.proofs.lemmas.Bool.{cases_lt, cases_eq, or_cases, or_parts, and_parts, and_cases, and_right, or_right}
use Rattle.scans.specs.Scans.{largest, total, some, every, or_else, lowest}

-- what holds of each number below n, and of n
pub each_more : (P : ℕ → Type 0) (n : ℕ) → ((k : ℕ) → k < n → P k) → P n → (k : ℕ) → k < suc n → P k
each_more P n below here k h =
    elim (cases_lt k n) [ inl l ↦ below k l | inr g ↦ (let e : n ≡ k = omega arith in subst P e here) ]

pub largest_above : (f : ℕ → ℕ) (n k : ℕ) → k < n → f k ≤ largest f n
largest_above f zero k h = omega arith
largest_above f (suc n) k h =
    each_more (λ i. f i ≤ largest f (suc n)) n (λ i l. omega (arith, largest_above f n i l)) (omega arith) k h

pub largest_under : (f : ℕ → ℕ) (n m : ℕ) → ((k : ℕ) → k < n → f k ≤ m) → largest f n ≤ m
largest_under f zero m h = omega arith
largest_under f (suc n) m h =
    let a : largest f n ≤ m = largest_under f n m (λ k l. h k (omega arith)) in
    omega (arith, h n (omega arith))

pub largest_more : (f : ℕ → ℕ) (n : ℕ) → largest f (n + 1) ≡ max (largest f n) (f n)
largest_more f n = rw add-one

pub largest_same : (f h : ℕ → ℕ) (n : ℕ) → ((k : ℕ) → k < n → f k ≡ h k) → largest f n ≡ largest h n
largest_same f h zero e = refl
largest_same f h (suc n) e = let a = largest_same f h n (λ k l. e k (omega arith)) in let b = e n (omega arith) in simp (a, b)

pub largest_cut : (f : ℕ → ℕ) (m n : ℕ) → largest (λ k. min (f k) m) n ≡ min (largest f n) m
largest_cut f m zero = omega arith
largest_cut f m (suc n) = omega (arith, largest_cut f m n)

-- one place more that counts
pub largest_put : (f h : ℕ → ℕ) (n t : ℕ) → t < n → f t ≡ 0 → ((u : ℕ) → (u ≡ t → ⊥) → h u ≡ f u) → largest h n ≡ max (largest f n) (h t)
largest_put f h zero t l z e = absurd (omega arith)
largest_put f h (suc n) t l z e = elim (cases_eq n t) [
  | inl i ↦ omega (arith, largest_same h f n (λ u v. e u (omega arith)), ap h i, ap f i)
  | inr ne ↦ omega (arith, largest_put f h n t (omega arith) z e, e n ne)
]

pub total_more : (f : ℕ → ℕ) (n : ℕ) → total f (n + 1) ≡ total f n + f n
total_more f n = rw add-one

pub total_same : (f h : ℕ → ℕ) (n : ℕ) → ((u : ℕ) → u < n → f u ≡ h u) → total f n ≡ total h n
total_same f h zero e = refl
total_same f h (suc n) e = omega (arith, total_same f h n (λ u l. e u (omega arith)), e n (omega arith))

pub total_zero : (f : ℕ → ℕ) (n : ℕ) → ((u : ℕ) → f u ≡ 0) → total f n ≡ 0
total_zero f zero e = refl
total_zero f (suc n) e = omega (arith, total_zero f n e, e n)

pub total_put : (f h : ℕ → ℕ) (n t : ℕ) → t < n → f t ≡ 0 → ((u : ℕ) → (u ≡ t → ⊥) → h u ≡ f u) → total h n ≡ total f n + h t
total_put f h zero t l z e = absurd (omega arith)
total_put f h (suc n) t l z e = elim (cases_eq n t) [
  | inl i ↦ omega (arith, total_same h f n (λ u v. e u (omega arith)), ap h i, ap f i)
  | inr ne ↦ omega (arith, total_put f h n t (omega arith) z e, e n ne)
]

-- a sum of ones and zeros
pub total_under : (f : ℕ → ℕ) (n : ℕ) → ((u : ℕ) → f u ≤ 1) → total f n ≤ n
total_under f zero h = omega arith
total_under f (suc n) h = omega (arith, total_under f n h, h n)

pub total_full : (f : ℕ → ℕ) (n : ℕ) → ((u : ℕ) → f u ≤ 1) → total f n ≡ n → (u : ℕ) → u < n → f u ≡ 1
total_full f zero h e u l = absurd (omega arith)
total_full f (suc n) h e u l = let a = h n in let b = total_under f n h in each_more (λ u. f u ≡ 1) n (λ u i. total_full f n h (omega arith) u i) (omega arith) u l

pub total_one : (f : ℕ → ℕ) (n : ℕ) → ((u : ℕ) → u < n → f u ≡ 1) → total f n ≡ n
total_one f zero h = refl
total_one f (suc n) h = omega (arith, total_one f n (λ u l. h u (omega arith)), h n (omega arith))

pub total_past : (f : ℕ → ℕ) (u t : ℕ) → u < t → total f u + f u ≤ total f t
total_past f u zero lt = absurd (omega arith)
total_past f u (suc t) lt = elim (cases_eq u t) [
  | inl e ↦ subst (λ (v : ℕ). total f v + f v ≤ total f t + f t) (sym e) (omega arith)
  | inr ne ↦ omega (arith, total_past f u t (omega arith))
]

pub some_none : (p : ℕ → Bool) (n : ℕ) → ((k : ℕ) → k < n → p k ≡ false) → some p n ≡ false
some_none p zero h = refl
some_none p (suc n) h = let a = some_none p n (λ k l. h k (omega arith)) in let b = h n (omega arith) in simp (a, b)

pub some_one : (p : ℕ → Bool) (n k : ℕ) → k < n → p k ≡ true → some p n ≡ true
some_one p zero k l e = absurd (omega arith)
some_one p (suc n) k l e = elim (cases_lt k n) [
  | inl a ↦ (let i = some_one p n k a e in simp i)
  | inr b ↦ (let i : k ≡ n = omega arith in let q : p n ≡ true = sym (ap p i) ∙ e in or_right (some p n) (p n) q)
]

pub some_is : (p : ℕ → Bool) (n : ℕ) → some p n ≡ true → (k : ℕ) × (k < n) × (p k ≡ true)
some_is p zero e = absurd (let z : ◌≡◌ {A = ℕ} 0 1 = cc in omega arith)
some_is p (suc n) e = elim (or_cases (some p n) (p n) e) [
  | inl a ↦ (let h = some_is p n a in (h.0, omega (arith, h.1), h.2))
  | inr b ↦ (n, omega arith, b)
]

pub some_not : (p : ℕ → Bool) (n k : ℕ) → some p n ≡ false → k < n → p k ≡ false
some_not p zero k e l = absurd (omega arith)
some_not p (suc n) k e l = let h = or_parts (some p n) (p n) e in each_more (λ k. p k ≡ false) n (λ k i. some_not p n k h.0 i) h.1 k l

pub every_all : (p : ℕ → Bool) (n : ℕ) → ((k : ℕ) → k < n → p k ≡ true) → every p n ≡ true
every_all p zero h = refl
every_all p (suc n) h = let a = every_all p n (λ k l. h k (omega arith)) in let b = h n (omega arith) in simp (a, b)

pub every_not : (p : ℕ → Bool) (n k : ℕ) → k < n → p k ≡ false → every p n ≡ false
every_not p zero k l e = absurd (omega arith)
every_not p (suc n) k l e = elim (cases_lt k n) [
  | inl a ↦ (let i = every_not p n k a e in simp i)
  | inr b ↦ (let i : k ≡ n = omega arith in let q : p n ≡ false = sym (ap p i) ∙ e in and_right (every p n) (p n) q)
]

pub every_at : (p : ℕ → Bool) (n k : ℕ) → every p n ≡ true → k < n → p k ≡ true
every_at p zero k e l = absurd (omega arith)
every_at p (suc n) k e l = let h = and_parts (every p n) (p n) e in each_more (λ k. p k ≡ true) n (λ k i. every_at p n k h.0 i) h.1 k l

pub every_same : (p q : ℕ → Bool) (n : ℕ) → ((k : ℕ) → k < n → p k ≡ q k) → every p n ≡ every q n
every_same p q zero e = refl
every_same p q (suc n) e = let a = every_same p q n (λ k l. e k (omega arith)) in let b = e n (omega arith) in simp (a, b)

pub lowest_none : (p : ℕ → Bool) (n : ℕ) → ((k : ℕ) → k < n → p k ≡ false) → lowest p n ≡ None
lowest_none p zero h = refl
lowest_none p (suc n) h = let a = lowest_none p n (λ k l. h k (omega arith)) in let b = h n (omega arith) in simp (a, b)

pub lowest_is : (p : ℕ → Bool) (n t : ℕ) → t < n → ((k : ℕ) → k < t → p k ≡ false) → p t ≡ true → lowest p n ≡ Some t
lowest_is p zero t l h e = absurd (omega arith)
lowest_is p (suc n) t l h e = elim (cases_eq n t) [
  | inl i ↦ (let a = lowest_none p n (λ k m. h k (omega arith)) in let b : p n ≡ true = ap p i ∙ e in let j = ap (λ (x : ℕ). Some x) i in simp (a, b) j)
  | inr ne ↦ (let a = lowest_is p n t (omega arith) h e in simp a)
]

both_none : (o : Option ℕ) (b : Bool) (n : ℕ) → or_else o b n ≡ None → (o ≡ None) × (b ≡ false)
both_none (Some k) b n e = absurd (let z : ◌≡◌ {A = ℕ} 0 1 = cc in omega arith)
both_none None true n e = absurd (let z : ◌≡◌ {A = ℕ} 0 1 = cc in omega arith)
both_none None false n e = (refl, refl)

pub lowest_all : (p : ℕ → Bool) (n k : ℕ) → lowest p n ≡ None → k < n → p k ≡ false
lowest_all p zero k e l = absurd (omega arith)
lowest_all p (suc n) k e l = let h = both_none (lowest p n) (p n) n e in each_more (λ k. p k ≡ false) n (λ k i. lowest_all p n k h.0 i) h.1 k l

pub every_fails : (p : ℕ → Bool) (n : ℕ) → every p n ≡ false → (k : ℕ) × (k < n) × (p k ≡ false)
every_fails p zero e = absurd (let z : ◌≡◌ {A = ℕ} 0 1 = cc in omega arith)
every_fails p (suc n) e = elim (and_cases (every p n) (p n) e) [
  | inl a ↦ (let h = every_fails p n a in (h.0, omega (arith, h.1), h.2))
  | inr b ↦ (n, omega arith, b)
]

either_some : (o : Option ℕ) (b : Bool) (n k : ℕ) → or_else o b n ≡ Some k → (o ≡ Some k) ⊎ ((o ≡ None) × (b ≡ true) × (n ≡ k))
either_some (Some j) b n k e = inl e
either_some None true n k e = inr (refl, refl, cc)
either_some None false n k e = absurd (let z : ◌≡◌ {A = ℕ} 0 1 = cc in omega arith)

-- what the scan finds passes, and none below it does
pub lowest_found : (p : ℕ → Bool) (n k : ℕ) → lowest p n ≡ Some k → (k < n) × (p k ≡ true) × ((j : ℕ) → j < k → p j ≡ false)
lowest_found p zero k e = absurd (let z : ◌≡◌ {A = ℕ} 0 1 = cc in omega arith)
lowest_found p (suc n) k e = elim (either_some (lowest p n) (p n) n k e) [
  | inl a ↦ (let h = lowest_found p n k a in (omega (arith, h.0), h.1, h.2))
  | inr b ↦ subst (λ (m : ℕ). (m < suc n) × (p m ≡ true) × ((j : ℕ) → j < m → p j ≡ false)) b.2 (omega arith, b.1, λ j l. lowest_all p n j b.0 l)
]

pub some_same : (p q : ℕ → Bool) (n : ℕ) → ((k : ℕ) → k < n → p k ≡ q k) → some p n ≡ some q n
some_same p q zero e = refl
some_same p q (suc n) e = let a = some_same p q n (λ k l. e k (omega arith)) in let b = e n (omega arith) in simp (a, b)

or_swap : (a b c : Bool) → ((a || b) || c) ≡ ((a || c) || b)
or_swap true b c = refl
or_swap false true true = refl
or_swap false true false = refl
or_swap false false true = refl
or_swap false false false = refl

or_none : (a : Bool) → (a || false) ≡ a
or_none true = refl
or_none false = refl

pub some_put : (p q : ℕ → Bool) (n t : ℕ) → t < n → p t ≡ false → ((u : ℕ) → (u ≡ t → ⊥) → q u ≡ p u) → some q n ≡ (some p n || q t)
some_put p q zero t l z e = absurd (omega arith)
some_put p q (suc n) t l z e = elim (cases_eq n t) [
  | inl i ↦ (let a = some_same q p n (λ u v. e u (omega arith)) in let b : p n ≡ false = ap p i ∙ z in let c = ap q i in let f = or_none (some p n) in simp (a, b, c, f))
  | inr ne ↦ (let a = some_put p q n t (omega arith) z e in let b = e n ne in simp (a, b) (or_swap (some p n) (q t) (p n)))
]
