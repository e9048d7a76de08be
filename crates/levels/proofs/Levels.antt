-- In a graph with no cycle there is one table of levels, and its entries are low.
use Rattle.std.proofs.Common.{◌≡◌, ℕ, zero, suc, ◌+◌, ◌*◌, ◌^◌, ◌<◌, ◌≤◌, eqb, ◌⊎◌, List, sym, refl, ap, ◌∙◌, inl, inr, arith}
use Rattle.std.proofs.lemmas.Bool.{cases_Bool, cases_eq, cases_lt, cond-true, cond-false, eqb-true, eq-eqb, ne_eqb, lt-ltb, le-ltb}
use Rattle.std.proofs.lemmas.Bool.Decides.{nat_tests}
use Rattle.scans.specs.Scans.{largest, largest_in}
use Rattle.scans.proofs.Scans.{largest_above, largest_same, largest_under}
use Rattle.scans.proofs.Lists.{largest_kept}
use Rattle.edges.specs.declared.edge.Edge.{Edge}
use Rattle.edges.specs.Edges.{no_edge, out_of}
use Rattle.graphs.specs.declared.types.Task.{Task}
use Rattle.graphs.specs.Model.{TaskGraph, Known, Acyclic, Sound, model}
use Rattle.links.specs.Links.{Arrives, Lawful}
use Rattle.levels.specs.Levels.{nominal, way_on, level_of_task, Levels, Longest, level_in, b_level_of, level_at, LevelsAreUnique}

largest_reached : (f : ℕ → ℕ) (n : ℕ) → (largest f n ≡ 0) ⊎ ((k : ℕ) × (k < n) × (largest f n ≡ f k))
largest_reached f zero = inl refl
largest_reached f (suc n) = elim (cases_lt (largest f n) (f n)) [
  | inl l ↦ inr (n, omega arith, omega arith)
  | inr ge ↦ elim (largest_reached f n) [
    | inl z ↦ inl (omega arith)
    | inr p ↦ inr (p.0, omega (arith, p.1), omega (arith, p.2))
  ]
]

module _ (arrives : Arrives) (g : TaskGraph) where
  -- only the levels of successors count
  pub level_same : (f h : ℕ → ℕ) (t : ℕ) → ((k : ℕ) → k < g.edges → g.from k ≡ t → f (g.to k) ≡ h (g.to k)) → level_of_task arrives g f t ≡ level_of_task arrives g h t
  unfolding level_of_task
  level_same f h t e =
      let same = largest_same (way_on arrives g f t) (way_on arrives g h t) g.edges (λ k l. elim (cases_Bool (eqb (g.from k) t)) [
        | inl y ↦ (let q = e k l (eqb-true _ _ y) in simp (y, q))
        | inr n ↦ simp n
      ]) in
      simp same

  pub longest_by : (level : ℕ → ℕ) → Levels arrives g level → (t : ℕ) → t < g.tasks → Longest arrives g level t
  unfolding level_of_task
  longest_by level is t l =
      let way = way_on arrives g level t in
      let e = is t l in
      let out : (k : ℕ) → g.from k ≡ t → way_on arrives g level t k ≡ nominal arrives g k + level (g.to k) = λ k q. cond-true _ _ _ (eq-eqb _ _ q) in
      record {
        above = λ k kl q. omega (arith, e, largest_above way g.edges k kl, out k q);
        reached = elim (largest_reached way g.edges) [
          | inl z ↦ inl (omega (arith, e, z))
          | inr p ↦ elim (cases_eq (g.from p.0) t) [
            | inl q ↦ inr (p.0, p.1, q, omega (arith, e, p.2, out p.0 q))
            | inr ne ↦ inl (let none : way_on arrives g level t p.0 ≡ 0 = cond-false _ _ _ (ne_eqb _ _ ne) in omega (arith, e, p.2))
          ]
        ];
      }

  under : Lawful arrives → ((t : ℕ) → g.time t ≤ 2 ^ 20) → (n t : ℕ) → level_in arrives g n t ≤ n * 2 ^ 41
  unfolding level_of_task
  under lawful times zero t = omega arith
  under lawful times (suc n) t =
      let way = largest_under (way_on arrives g (level_in arrives g n) t) g.edges (2 ^ 40 + n * 2 ^ 41) (λ k l. let a = lawful.ceiling 0 0 1 (g.amount k) in let b = under lawful times n (g.to k) in grind (arith, nat_tests)) in
      let time = times t in
      omega arith

  pub b_level_of_low : Lawful arrives → Sound g → (t : ℕ) → b_level_of arrives g t < 2 ^ 62
  unfolding b_level_of
  b_level_of_low lawful sound t = omega (arith, under lawful sound.times g.tasks t, sound.few)

  pub level_at_low : Lawful arrives → Sound g → (k : ℕ) → level_at arrives g k < 2 ^ 62
  level_at_low lawful sound k = let low = b_level_of_low lawful sound k in grind (arith, nat_tests)

  pub level_at_task : (t : ℕ) → t < g.tasks → level_at arrives g t ≡ b_level_of arrives g t
  level_at_task t l = simp (lt-ltb t g.tasks l)

  pub level_at_past : (t : ℕ) → g.tasks ≤ t → level_at arrives g t ≡ 0
  level_at_past t l = simp (le-ltb t g.tasks l)

  module _ (known : Known g) (ac : Acyclic g) where
    -- longer ways than those of m tasks do not count at a task that m tasks at most follow
    settled : (m t : ℕ) → t < g.tasks → g.tasks ≤ m + ac.height t → level_in arrives g m t ≡ level_in arrives g (suc m) t
    settled zero t l h = absurd (omega (arith, ac.low t l))
    settled (suc m) t l h = level_same (level_in arrives g m) (level_in arrives g (suc m)) t (λ k kl e. settled m (g.to k) (known k kl).1 (omega (arith, ac.up k kl, ap ac.height e)))

    pub b_level_of_is : Levels arrives g (b_level_of arrives g)
    unfolding b_level_of
    b_level_of_is t l = settled g.tasks t l (omega arith)

    agree : (f h : ℕ → ℕ) → Levels arrives g f → Levels arrives g h → (m t : ℕ) → t < g.tasks → g.tasks ≤ m + ac.height t → f t ≡ h t
    agree f h fl hl zero t l b = absurd (omega (arith, ac.low t l))
    agree f h fl hl (suc m) t l b = fl t l ∙ level_same f h t (λ k kl e. agree f h fl hl m (g.to k) (known k kl).1 (omega (arith, ac.up k kl, ap ac.height e))) ∙ sym (hl t l)

    pub b_level_of_only : (level : ℕ → ℕ) → Levels arrives g level → (t : ℕ) → t < g.tasks → level t ≡ b_level_of arrives g t
    b_level_of_only level is t l = agree level (b_level_of arrives g) is b_level_of_is g.tasks t l (omega arith)

    -- a table that agrees with the levels has them
    pub levels_by : (level : ℕ → ℕ) → ((k : ℕ) → level k ≡ level_at arrives g k) → Levels arrives g level
    levels_by level e t l =
        e t ∙ level_at_task t l ∙ b_level_of_is t l ∙ sym (level_same level (b_level_of arrives g) t (λ k kl _. e (g.to k) ∙ level_at_task (g.to k) (known k kl).1))

pub levels_are_unique : LevelsAreUnique
levels_are_unique arrives g known ac = (b_level_of_is arrives g known ac, b_level_of_only arrives g known ac)

-- a level is the scan of the edges out of the task
pub level_outputs : (arrives : Arrives) (ts : List Task) (es : List Edge) (level : ℕ → ℕ) (t : ℕ)
    → level_of_task arrives (model ts es) level t ≡ (model ts es).time t + largest_in (λ e. arrives 0 0 1 e.amount + level e.to) (out_of es t)
unfolding level_of_task
level_outputs arrives ts es level t =
    let e = largest_kept (λ (e : Edge). eqb e.from t) (λ e. arrives 0 0 1 e.amount + level e.to) es no_edge in
    ap (λ (n : ℕ). (model ts es).time t + n) e
