-- The line of those that pass: one more joins it, and its first wins the scan.
use Rattle.std.proofs.Common.{◌≡◌, ℕ, zero, suc, ◌+◌, ◌<◌, ◌≤◌, Bool, true, false, cond, ltb, List, [], ◌∷◌, length, Some, None, Option, sym, refl, ap, ◌∙◌, subst, inl, inr, add-one, arith}
use Rattle.std.proofs.lemmas.Bool.{cases_eq, cases_Bool, both_ways}
use Rattle.std.proofs.lemmas.Bool.Decides.{nat_tests}
use Rattle.heaps.specs.declared.entries.Ready.{Ready}
use Rattle.heaps.specs.Entries.{sooner}
use Rattle.heaps.specs.Keys.{sooner_total}
use Rattle.heaps.specs.Orders.{insert}
use Rattle.heaps.proofs.Inserts.{commute}
use Rattle.scans.specs.Bids.{outbids, best_bid, bidder, bids, bid_of, best}
use Rattle.scans.specs.declared.Bid.{Bid}
use Rattle.scans.specs.declared.Aim.TheVariants.{Largest}
use Rattle.planner.specs.Queues.{entry, line}

pub line_more : (p : ℕ → Bool) (key : ℕ → ℕ) (n : ℕ) → line p key (n + 1) ≡ cond (p n) (insert sooner (entry key n) (line p key n)) (line p key n)
line_more p key n = rw add-one

-- only those that pass count, and their keys
pub line_same : (p q : ℕ → Bool) (key other : ℕ → ℕ) (n : ℕ) → ((v : ℕ) → v < n → p v ≡ q v) → ((v : ℕ) → v < n → p v ≡ true → key v ≡ other v) → line p key n ≡ line q other n
line_same p q key other zero e k = refl
line_same p q key other (suc n) e k =
    let ih = line_same p q key other n (λ v l. e v (omega arith)) (λ v l. k v (omega arith)) in
    let here = e n (omega arith) in
    elim (cases_Bool (p n)) [
      | inl y ↦ (let same_key = k n (omega arith) y in let z : q n ≡ true = sym here ∙ y in simp (y, z, ih, same_key))
      | inr x ↦ (let z : q n ≡ false = sym here ∙ x in simp (x, z, ih))
    ]

-- one more that passes
pub line_put : (p q : ℕ → Bool) (key : ℕ → ℕ) (n t : ℕ) → t < n → p t ≡ false → q t ≡ true → ((v : ℕ) → (v ≡ t → ⊥) → p v ≡ q v) → line q key n ≡ insert sooner (entry key t) (line p key n)
line_put p q key zero t l np qt e = absurd (omega arith)
line_put p q key (suc n) t l np qt e = elim (cases_eq n t) [
  | inl i ↦ (let a : p n ≡ false = ap p i ∙ np in let b : q n ≡ true = ap q i ∙ qt in
      let rest = line_same q p key key n (λ v k. sym (e v (omega arith))) (λ v k y. refl) in
      let same = ap (entry key) i in simp (a, b, rest, same))
  | inr ne ↦ (let ih = line_put p q key n t (omega arith) np qt e in
      elim (cases_Bool (p n)) [
        | inl y ↦ (let z : q n ≡ true = sym (e n ne) ∙ y in simp (y, z, ih) (commute sooner sooner_total (entry key n) (entry key t) (line p key n)))
        | inr x ↦ (let z : q n ≡ false = sym (e n ne) ∙ x in simp (x, z, ih))
      ])
]

-- the first of the line wins the scan
abbrev first_of : List Ready → Option Bid
first_of [] = None
first_of (x ∷ l) = Some (bid_of x.task x.rank)

-- the first of the line stands below n
abbrev Below : List Ready → ℕ → Type 0
Below [] n = Unit {0}
Below (x ∷ l) n = x.task < n

below_insert : (l : List Ready) (key : ℕ → ℕ) (n : ℕ) → Below l n → Below (insert sooner (entry key n) l) (suc n)
below_insert [] key n h = omega arith
below_insert (x ∷ l) key n h = elim (cases_Bool (sooner x (entry key n))) [
  | inl y ↦ simp y (omega arith)
  | inr y ↦ simp y (omega arith)
]

below_more : (l : List Ready) (n : ℕ) → Below l n → Below l (suc n)
below_more [] n h = tt
below_more (x ∷ l) n h = omega arith

line_below : (p : ℕ → Bool) (key : ℕ → ℕ) (n : ℕ) → Below (line p key n) n
line_below p key zero = tt
line_below p key (suc n) = elim (cases_Bool (p n)) [
  | inl y ↦ simp y (below_insert (line p key n) key n (line_below p key n))
  | inr x ↦ simp x (below_more (line p key n) n (line_below p key n))
]

first_insert : (l : List Ready) (key : ℕ → ℕ) (n : ℕ) → Below l n → first_of (insert sooner (entry key n) l) ≡ outbids Largest (first_of l) n (Some (key n))
first_insert [] key n h = refl
first_insert (x ∷ l) key n h = elim (cases_Bool (ltb x.rank (key n))) [
  | inl y ↦ (let z : sooner x (entry key n) ≡ false = grind (arith, nat_tests) in simp (y, z))
  | inr y ↦ (let z : sooner x (entry key n) ≡ true = grind (arith, nat_tests) in simp (y, z))
]

line_first : (p : ℕ → Bool) (key : ℕ → ℕ) (n : ℕ) → first_of (line p key n) ≡ best_bid Largest (λ t. bids (p t) (key t)) n
line_first p key zero = refl
line_first p key (suc n) =
    let ih = line_first p key n in
    elim (cases_Bool (p n)) [
      | inl y ↦ simp y (first_insert (line p key n) key n (line_below p key n) ∙ ap (λ (o : Option Bid). outbids Largest o n (Some (key n))) ih)
      | inr x ↦ simp x ih
    ]

pub line_best : (p : ℕ → Bool) (key : ℕ → ℕ) (n : ℕ) (x : Ready) (rest : List Ready) → line p key n ≡ x ∷ rest → best Largest p key n ≡ Some x.task
unfolding best
line_best p key n x rest e = ap bidder (sym (line_first p key n) ∙ ap first_of e)

pub line_empty : (p : ℕ → Bool) (key : ℕ → ℕ) (n : ℕ) → line p key n ≡ [] → best Largest p key n ≡ None
unfolding best
line_empty p key n e = ap bidder (sym (line_first p key n) ∙ ap first_of e)

-- each entry has its key
abbrev Keyed : (ℕ → ℕ) → List Ready → Type 0
Keyed key [] = Unit {0}
Keyed key (x ∷ l) = (x.rank ≡ key x.task) × Keyed key l

keyed_insert : (key : ℕ → ℕ) (n : ℕ) (l : List Ready) → Keyed key l → Keyed key (insert sooner (entry key n) l)
keyed_insert key n [] h = (refl, tt)
keyed_insert key n (x ∷ l) h = elim (cases_Bool (sooner x (entry key n))) [
  | inl y ↦ simp y (h.0, keyed_insert key n l h.1)
  | inr y ↦ simp y (refl, h)
]

line_keyed : (p : ℕ → Bool) (key : ℕ → ℕ) (n : ℕ) → Keyed key (line p key n)
line_keyed p key zero = tt
line_keyed p key (suc n) = elim (cases_Bool (p n)) [
  | inl y ↦ simp y (keyed_insert key n (line p key n) (line_keyed p key n))
  | inr x ↦ simp x (line_keyed p key n)
]

pub line_key : (p : ℕ → Bool) (key : ℕ → ℕ) (n : ℕ) (x : Ready) (rest : List Ready) → line p key n ≡ x ∷ rest → x.rank ≡ key x.task
line_key p key n x rest e = (subst (Keyed key) e (line_keyed p key n)).0

-- what is left once the first is off
pub take_off : (x : Ready) (l rest : List Ready) → insert sooner x l ≡ x ∷ rest → rest ≡ l
take_off x [] rest e = cc
take_off x (y ∷ l) rest e = elim (cases_Bool (sooner y x)) [
  | inl t ↦ absurd (let h = simp t at e in let i : y ≡ x = cc in both_ways (sooner x x) (sooner_total.one_way x x (subst (λ z. sooner z x ≡ true) i t)) (subst (λ z. sooner z x ≡ true) i t))
  | inr f ↦ (let h = simp f at e in cc)
]

insert_length : (x : Ready) (l : List Ready) → length (insert sooner x l) ≡ length l + 1
insert_length x [] = refl
insert_length x (y ∷ l) = elim (cases_Bool (sooner y x)) [
  | inl t ↦ simp t (omega (arith, insert_length x l))
  | inr f ↦ simp f (omega arith)
]

line_length : (p : ℕ → Bool) (key : ℕ → ℕ) (n : ℕ) → length (line p key n) ≤ n
line_length p key zero = omega arith
line_length p key (suc n) = elim (cases_Bool (p n)) [
  | inl y ↦ simp y (omega (arith, insert_length (entry key n) (line p key n), line_length p key n))
  | inr x ↦ simp x (omega (arith, line_length p key n))
]

less : (a b : ℕ) → a < suc b → (a ≡ b → ⊥) → a < b
less a b l ne = omega arith

-- a line that lacks one of the numbers below n is shorter
pub line_short : (p : ℕ → Bool) (key : ℕ → ℕ) (n t : ℕ) → t < n → p t ≡ false → length (line p key n) < n
line_short p key zero t l e = absurd (omega arith)
line_short p key (suc n) t l e = elim (cases_Bool (p n)) [
  | inl y ↦ simp y (let ne : t ≡ n → ⊥ = (λ i. both_ways (p n) (ap p (sym i) ∙ e) y) in omega (arith, insert_length (entry key n) (line p key n), line_short p key n t (less t n l ne) e))
  | inr x ↦ simp x (omega (arith, line_length p key n))
]

pub line_none : (p : ℕ → Bool) (key : ℕ → ℕ) (n : ℕ) → ((v : ℕ) → p v ≡ false) → line p key n ≡ []
line_none p key zero e = refl
line_none p key (suc n) e = let h = e n in simp h (line_none p key n e)
