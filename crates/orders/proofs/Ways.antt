-- Ways along edges: a way that passes more edges than there are tasks passes a cycle, and ranks that rise along each edge leave no cycle.
use Rattle.std.proofs.Common.{◌≡◌, ℕ, zero, suc, ◌+◌, ◌-◌, ◌<◌, ◌≤◌, Bool, true, cond, ◌&&◌, eqb, ltb, ◌⊎◌, List, [], ◌∷◌, length, get_or, Some, Ok, Err, vec_items, Result, sym, refl, ap, ◌∙◌, subst, inl, inr, arith}
use Rattle.std.proofs.lemmas.Bool.{cases_eq, cases_lt, eq-eqb, eqb-true, and_parts, and_from, or_cases, both_ways, true≢false}
use Rattle.scans.specs.Scans.{some_in, lowest}
use Rattle.scans.proofs.Scans.{each_more, lowest_found}
use Rattle.edges.specs.declared.edge.Edge.{Edge}
use Rattle.edges.specs.Edges.{no_edge, Within}
use Rattle.orders.specs.declared.order.Order.{Order}
use Rattle.orders.specs.declared.order.OrderFault.{OrderFault}
use Rattle.orders.specs.declared.order.OrderFault.TheVariants.{Memory, Cycle}
use Rattle.orders.specs.Orders.{stuck}
use Rattle.orders.specs.Answers.{Answered}
use Rattle.orders.specs.Cycles.{Leads, Way, AfterCycle, StuckLaw, Cyclic, CycleLaw}
use Rattle.orders.proofs.Results.{one_in}

-- of n + 1 numbers below n, two are the same

abbrev Twice : (ℕ → ℕ) → ℕ → Type 0
Twice g n = (i j : ℕ) × (i < j) × (j ≤ n) × (g i ≡ g j)

seek : (g : ℕ → ℕ) (v m : ℕ) → ((i : ℕ) × (i < m) × (g i ≡ v)) ⊎ ((i : ℕ) → i < m → g i ≡ v → ⊥)
seek g v zero = inr (λ i lt e. omega arith)
seek g v (suc m) = elim (cases_eq (g m) v) [
  | inl e ↦ inl (m, omega arith, e)
  | inr ne ↦ elim (seek g v m) [
    | inl h ↦ inl (h.0, omega (arith, h.1), h.2)
    | inr no' ↦ inr (λ i lt e. elim (cases_eq i m) [
      | inl im ↦ ne (ap g (sym im) ∙ e)
      | inr nm ↦ no' i (omega arith) e
    ])
  ]
]

-- the numbers other than v, closed up
abbrev without : ℕ → ℕ → ℕ
without v x = cond (ltb v x) (x - 1) x

without_lt : (v x n : ℕ) → x < suc n → v < suc n → (x ≡ v → ⊥) → without v x < n
without_lt v x n xl vl ne = grind (arith, xl, vl, ne)

without_same : (v x y : ℕ) → (x ≡ v → ⊥) → (y ≡ v → ⊥) → without v x ≡ without v y → x ≡ y
without_same v x y nx ny e = grind (arith, nx, ny, e)

twice : (n : ℕ) (g : ℕ → ℕ) → ((k : ℕ) → k ≤ n → g k < n) → Twice g n
twice zero g h = absurd (omega (arith, h 0 (omega arith)))
twice (suc n) g h =
    let v = g (suc n) in
    elim (seek g v (suc n)) [
      | inl s ↦ (s.0, suc n, s.1, omega arith, s.2)
      | inr apart ↦ (
          let t = twice n (λ k. without v (g k)) (λ k kl. without_lt v (g k) n (h k (omega arith)) (h (suc n) (omega arith)) (apart k (omega arith))) in
          (t.0, t.1, t.2, omega (arith, t.3), without_same v (g t.0) (g t.1) (apart t.0 (omega (arith, t.2, t.3))) (apart t.1 (omega (arith, t.3))) t.4))
    ]

pub find_in : (p : Edge → Bool) (es : List Edge) → some_in p es ≡ true → (k : ℕ) × (k < length es) × (p (get_or es k no_edge) ≡ true)
find_in p [] y = absurd (true≢false (sym y))
find_in p (e ∷ es) y = elim (or_cases (p e) (some_in p es) y) [
  | inl here ↦ (0, omega arith, here)
  | inr there ↦ (let r = find_in p es there in (suc r.0, omega (arith, r.1), r.2))
]

-- a way back from t

abbrev before : ℕ → (ℕ → ℕ) → ℕ → ℕ
before t g zero = t
before t g (suc i) = g i

record Back (es : List Edge) (n k t : ℕ) (g : ℕ → ℕ) : Type 0 where
  from_t : g 0 ≡ t
  under : (i : ℕ) → i ≤ k → g i < n
  leads : (i : ℕ) → i < k → Leads es (g (suc i)) (g i)

back_under : (es : List Edge) (n k t f : ℕ) (g : ℕ → ℕ) → t < n → Back es n k f g → (i : ℕ) → i ≤ suc k → before t g i < n
back_under es n k t f g tl b zero le = tl
back_under es n k t f g tl b (suc i) le = b.under i (omega arith)

back_leads : (es : List Edge) (n k t f : ℕ) (g : ℕ → ℕ) → Leads es f t → Back es n k f g → (i : ℕ) → i < suc k → Leads es (before t g (suc i)) (before t g i)
back_leads es n k t f g l b zero lt = subst (λ (x : ℕ). Leads es x t) (sym b.from_t) l
back_leads es n k t f g l b (suc i) lt = b.leads i (omega arith)

back : (es : List Edge) (n k t : ℕ) → Within es n → t < n → stuck es k t ≡ true → (g : ℕ → ℕ) × Back es n k t g
unfolding stuck
back es n zero t w tl y = ((λ _. t), record { from_t = refl; under = λ i le. tl; leads = λ i lt. absurd (omega arith) })
back es n (suc k) t w tl y =
    let s = find_in (λ e. eqb e.to t && stuck es k e.from) es y in
    let e = get_or es s.0 no_edge in
    let parts = and_parts (eqb e.to t) (stuck es k e.from) s.2 in
    let rest = back es n k e.from w (w s.0 s.1).0 parts.1 in
    let g = rest.0 in
    (before t g, record { from_t = refl; under = back_under es n k t e.from g tl rest.1; leads = back_leads es n k t e.from g (s.0, s.1, refl, eqb-true e.to t parts.0) rest.1 })

way_along : (es : List Edge) (n k t : ℕ) (g : ℕ → ℕ) → Back es n k t g → (d i j : ℕ) → i + d ≡ j → j ≤ k → Way es d (g j) (g i)
way_along es n k t g b zero i j e le = ap g (omega arith)
way_along es n k t g b (suc d) i j e le = (g (suc i), b.leads i (omega arith), way_along es n k t g b d (suc i) j (omega arith) le)

only : (es : List Edge) (n t : ℕ) → Within es n → t < n → stuck es n t ≡ true → AfterCycle es t
only es n t w tl y =
    let b = back es n n t w tl y in
    let g = b.0 in
    let s = twice n g (λ k le. b.1.under k le) in
    let i = s.0 in
    let j = s.1 in
    let k = j - i - 1 in
    let loop : Way es (suc k) (g j) (g i) = way_along es n n t g b.1 (suc k) i j (omega (arith, s.2)) s.3 in
    let on : Way es i (g i) (g 0) = way_along es n n t g b.1 i 0 i (omega arith) (omega (arith, s.2, s.3)) in
    (g i, k, i, subst (λ (x : ℕ). Way es (suc k) x (g i)) (sym s.4) loop, subst (λ (x : ℕ). Way es i (g i) x) b.1.from_t on)

-- ways join

join : (es : List Edge) (p q a b c : ℕ) → Way es p a b → Way es q b c → (m : ℕ) × (m ≡ q + p) × Way es m a c
join es p zero a b c u v = (p, omega arith, subst (λ (x : ℕ). Way es p a x) v u)
join es p (suc q) a b c u v = let r = join es p q a b v.0 u v.2 in (suc r.0, omega (arith, r.1), (v.0, v.1, r.2))

-- a cycle gives ways of any length
loops : (es : List Edge) (c k r : ℕ) → Way es (suc k) c c → (m : ℕ) × (r ≤ m) × Way es m c c
loops es c k zero u = (0, omega arith, refl)
loops es c k (suc r) u = let s = loops es c k r u in let t = join es s.0 (suc k) c c c s.2 u in (t.0, omega (arith, s.1, t.1), t.2)

long_way : (es : List Edge) (n m a b : ℕ) → n ≤ m → Way es m a b → stuck es n b ≡ true
unfolding stuck
long_way es zero m a b le u = refl
long_way es (suc n) zero a b le u = absurd (omega arith)
long_way es (suc n) (suc m) a b le u =
    let l = u.1 in
    let e = get_or es l.0 no_edge in
    let up = long_way es n m a u.0 (omega arith) u.2 in
    one_in (λ x. eqb x.to b && stuck es n x.from) es l.0 l.1
    (and_from (eqb e.to b) (stuck es n e.from) (eq-eqb e.to b l.3) (ap (stuck es n) l.2 ∙ up))

each : (es : List Edge) (n t : ℕ) → AfterCycle es t → stuck es n t ≡ true
each es n t a =
    let s = loops es a.0 a.1 n a.3 in
    let r = join es s.0 a.2 a.0 a.0 t s.2 a.4 in
    long_way es n r.0 a.0 t (omega (arith, s.1, r.1)) r.2

pub stuck_law : (es : List Edge) (n : ℕ) → Within es n → StuckLaw es n
stuck_law es n w = record { only = λ t tl y. only es n t w tl y; each = each es n }

-- each edge goes to a greater rank
abbrev Forward : List Edge → (ℕ → ℕ) → Type 0
Forward es rank = (k : ℕ) → k < length es → rank (get_or es k no_edge).from < rank (get_or es k no_edge).to

rising : (es : List Edge) (rank : ℕ → ℕ) → Forward es rank → (m a b : ℕ) → Way es m a b → rank a + m ≤ rank b
rising es rank o zero a b u = omega (arith, ap rank u)
rising es rank o (suc m) a b u =
    let l = u.1 in
    omega (arith, rising es rank o m a u.0 u.2, o l.0 l.1, ap rank l.2, ap rank l.3)

none_after : (es : List Edge) (rank : ℕ → ℕ) → Forward es rank → (t : ℕ) → AfterCycle es t → ⊥
none_after es rank o t a = omega (arith, rising es rank o (suc a.1) a.0 a.0 a.3)

-- an edge among the first m that does not go to a greater rank, or none
not_forward : (es : List Edge) (rank : ℕ → ℕ) (m : ℕ) → ((k : ℕ) × (k < m) × (rank (get_or es k no_edge).to ≤ rank (get_or es k no_edge).from)) ⊎ ((k : ℕ) → k < m → rank (get_or es k no_edge).from < rank (get_or es k no_edge).to)
not_forward es rank zero = inr (λ k l. absurd (omega arith))
not_forward es rank (suc m) = elim (not_forward es rank m) [
  | inl h ↦ inl (h.0, omega (arith, h.1), h.2)
  | inr below ↦ elim (cases_lt (rank (get_or es m no_edge).from) (rank (get_or es m no_edge).to)) [
    | inl here ↦ inr (each_more (λ k. rank (get_or es k no_edge).from < rank (get_or es k no_edge).to) m below here)
    | inr no' ↦ inl (m, omega arith, no')
  ]
]

cyclic : (es : List Edge) (n t : ℕ) → Within es n → lowest (stuck es n) n ≡ Some t → Cyclic es t
cyclic es n t w e =
    let f = lowest_found (stuck es n) n t e in
    let place = only es n t w f.0 f.1 in
    record {
      place = place;
      lower = λ u ul a. both_ways (stuck es n u) (f.2 u ul) (each es n u a);
      backward = λ rank. elim (not_forward es rank (length es)) [
        | inl h ↦ h
        | inr o ↦ absurd (none_after es rank o t place)
      ];
    }

pub cycle_law : (es : List Edge) (n : ℕ) (r : Result Order OrderFault) → Within es n → Answered es n r → CycleLaw es r
cycle_law es n (Ok o) w a = none_after es (λ t. get_or (vec_items o.rank) t 0) a.0.forward
cycle_law es n (Err Memory) w a = tt
cycle_law es n (Err (Cycle t)) w a = cyclic es n t w a
