-- What next tells, in a run whose done tasks keep to the plan.
use Rattle.std.proofs.Common.{◌≡◌, ℕ, ◌^◌, ◌<◌, ◌≤◌, Bool, true, false, cond, not, ◌&&◌, eqb, ltb, ◌⊎◌, length, is_some, Some, None, Ok, Err, Option, Result, sym, refl, ap, ◌∙◌, subst, inl, inr, arith}
use Rattle.std.proofs.lemmas.Bool.{cases_lt, cases_eq, cond_both, cond-true, eqb-true, eq-eqb, and_parts, and_from, ltb-true, lt-ltb, ltb-false, both_ways}
use Rattle.scans.specs.Scans.{largest, lowest}
use Rattle.scans.specs.declared.Aim.TheVariants.{Smallest, Largest}
use Rattle.scans.specs.Bids.{Chosen}
use Rattle.scans.proofs.Bids.{best_is_chosen}
use Rattle.scans.proofs.Scans.{largest_above, largest_under, some_one, some_is, lowest_all, lowest_found}
use Rattle.links.specs.Links.{Lawful as Links}
use Rattle.plans.specs.Jobs.{Job}
use Rattle.plans.specs.Rules.{end, reaches_by, reaches}
use Rattle.runs.specs.declared.types.Span.{Span}
use Rattle.runs.specs.declared.types.RunFault.{RunFault}
use Rattle.runs.specs.declared.types.RunFault.TheVariants.{NoWorker}
use Rattle.runs.specs.Runs.{Spans, at, done_test, ended, waits_test, head, before_test, ahead, joins_test, input_test, missing, end_of, brought, begin_of, Turn, turn, turn_of, next}
use Rattle.runs.specs.Logs.{Did, Before, Feeds, After, Head, Fed, Begins, Unready, no_worker, no_task_left, no_input, Planned}

pub done_or : (o : Option Span) → (o ≡ None) ⊎ ((x : Span) × (o ≡ Some x))
done_or None = inl refl
done_or (Some x) = inr (x, refl)

pub not_both : {A : Type 0} (o : Option A) (x : A) → o ≡ None → o ≡ Some x → ⊥
not_both o x p q = let z : ◌≡◌ {A = ℕ} 0 1 = cc in omega arith

pub undone_true : (o : Option Span) → o ≡ None → not (is_some o) ≡ true
undone_true o e = rw e

pub true_undone : (o : Option Span) → not (is_some o) ≡ true → o ≡ None
true_undone None e = refl
true_undone (Some x) e = let z : ◌≡◌ {A = ℕ} 0 1 = cc in absurd (omega arith)

-- what keeps to the plan: a done task began after all that it waits for, and neither began nor ended after plan
pub record Timely (j : Job) (s : Spans) (t : ℕ) (x : Span) : Type 0 where
  pub after : After j s t x.begin
  pub forward : x.begin ≤ x.end
  pub on_time : x.begin ≤ j.start t
  pub in_time : x.end ≤ end j t

pub record Held (j : Job) (s : Spans) : Type 0 where
  pub sized : length s ≡ 512
  pub timely : (t : ℕ) (x : Span) → Did s t x → Timely j s t x

module _ (j : Job) (link : Links j.arrives) where
  pub reach_low : (k e : ℕ) → e ≤ 2 ^ 40 → e ≤ reaches_by j k e
  reach_low k e h = cond_both (eqb (j.worker (j.graph.from k)) (j.worker (j.graph.to k))) e (j.arrives e (j.worker (j.graph.from k)) (j.worker (j.graph.to k)) (j.graph.amount k)) (λ v. e ≤ v)
      (λ _. omega arith)
      (λ _. omega (arith, link.after e (j.worker (j.graph.from k)) (j.worker (j.graph.to k)) (j.graph.amount k)))

  pub reach_grows : (k d e : ℕ) → d ≤ e → reaches_by j k d ≤ reaches_by j k e
  reach_grows k d e h = elim (eqb (j.worker (j.graph.from k)) (j.worker (j.graph.to k))) as (λ b. cond b d (j.arrives d (j.worker (j.graph.from k)) (j.worker (j.graph.to k)) (j.graph.amount k)) ≤ cond b e (j.arrives e (j.worker (j.graph.from k)) (j.worker (j.graph.to k)) (j.graph.amount k)))
      [ true ↦ h | false ↦ link.monotone d e _ _ _ h ]

-- ---- what follows from the rules alone
module _ (j : Job) (link : Links j.arrives) (plan : Planned j) where
  -- a task that comes before another in its lane is planned to end before that starts
  pub before_ends : (u t : ℕ) → t < j.graph.tasks → Before j u t → end j u ≤ j.start t
  before_ends u t l b = elim (plan.rules.apart u b.0 t l (λ same. let e : j.start u ≡ j.start t = ap j.start same in omega (arith, b.2, e)) b.1) [
    | inl a ↦ a
    | inr c ↦ absurd (omega (arith, b.2))
  ]

  -- two tasks of a lane do not start at one tick
  pub untied : (u t : ℕ) → u < j.graph.tasks → t < j.graph.tasks → (u ≡ t → ⊥) → j.worker u ≡ j.worker t → j.start u ≡ j.start t → ⊥
  untied u t l m ne e same = elim (plan.rules.apart u l t m ne e) [
    | inl a ↦ omega (arith, same, plan.graph.lasting u l)
    | inr b ↦ omega (arith, same, plan.graph.lasting t m)
  ]

  -- an input is planned to be there when its target starts
  pub fed_by_plan : (k : ℕ) → k < j.graph.edges → reaches_by j k (end j (j.graph.from k)) ≤ j.start (j.graph.to k)
  unfolding reaches
  fed_by_plan k l = plan.rules.fed k l

  pub planned_early : (k : ℕ) → k < j.graph.edges → end j (j.graph.from k) ≤ 2 ^ 40
  planned_early k l = plan.rules.in_time (j.graph.from k) (plan.graph.known k l).0

  pub input_ends : (k : ℕ) → k < j.graph.edges → end j (j.graph.from k) ≤ j.start (j.graph.to k)
  input_ends k l = omega (arith, fed_by_plan k l, reach_low j link k (end j (j.graph.from k)) (planned_early k l))

  module _ (s : Spans) (held : Held j s) where
    -- ---- an input that is done
    module _ (k : ℕ) (l : k < j.graph.edges) (x : Span) (d : Did s (j.graph.from k) x) where
      input_low : x.end ≤ reaches_by j k x.end
      input_low = reach_low j link k x.end (omega (arith, planned_early k l, (held.timely (j.graph.from k) x d).in_time))

      input_fits : reaches_by j k x.end ≤ j.start (j.graph.to k)
      input_fits = omega (arith, fed_by_plan k l, reach_grows j link k x.end (end j (j.graph.from k)) (held.timely (j.graph.from k) x d).in_time)

    -- ---- the head of a lane
    module _ (w t : ℕ) (h : Head j s w t) where
      before_true : (u : ℕ) → Before j u t → before_test j t u ≡ true
      before_true u b = and_from _ _ (eq-eqb _ _ b.1) (lt-ltb _ _ b.2)

      true_before : (u : ℕ) → u < j.graph.tasks → before_test j t u ≡ true → Before j u t
      true_before u l e = let p = and_parts _ _ e in (l, eqb-true _ _ p.0, ltb-true _ _ p.1)

      -- the tasks before t have ended when the one ahead of it has
      lane_over : (o : Option ℕ) → Chosen Largest (before_test j t) j.start j.graph.tasks o → (u : ℕ) → Before j u t → (x : Span) × Did s u x × (x.end ≤ end_of s o)
      lane_over None none u b = absurd (both_ways (before_test j t u) (none u b.0) (before_true u b))
      lane_over (Some a) c u b =
          let ba = true_before a c.0 c.1 in
          let d = h.lane a ba in
          elim (cases_eq u a) [
            | inl same ↦ subst (λ n. (x : Span) × Did s n x × (x.end ≤ end_of s (Some a))) (sym same) (d.0, d.1, rw d.1 (omega arith))
            | inr ne ↦
                let lower : j.start u < j.start a = omega (arith, (c.2 u b.0 (before_true u b)).0, untied' u a b.0 c.0 ne (b.1 ∙ sym ba.1)) in
                let timely = held.timely a d.0 d.1 in
                let y = timely.after.lane u (b.0, b.1 ∙ sym ba.1, lower) in
                (y.0, y.1, rw d.1 (omega (arith, y.2, timely.forward)))
          ]
        where
          untied' : (u a : ℕ) → u < j.graph.tasks → a < j.graph.tasks → (u ≡ a → ⊥) → j.worker u ≡ j.worker a → (j.start u < j.start a) ⊎ (j.start a < j.start u)
          untied' u a l m ne e = elim (cases_lt (j.start u) (j.start a)) [
            | inl y ↦ inl y
            | inr g ↦ elim (cases_lt (j.start a) (j.start u)) [ inl y ↦ inr y | inr g' ↦ absurd (untied u a l m ne e (omega arith)) ]
          ]

      soonest : (c : ℕ) → After j s t c → begin_of j s t ≤ c
      unfolding begin_of ahead
      soonest c a =
          let lane = go (ahead j t) (best_is_chosen Largest (before_test j t) j.start j.graph.tasks) in
          let inputs = largest_under (brought j s t) j.graph.edges c (λ k l. cond_both (eqb (j.graph.to k) t) (reaches_by j k (ended (at s (j.graph.from k)))) 0 (λ v. v ≤ c)
          (λ e. let y = a.inputs k (l, eqb-true _ _ e) in rw y.1 y.3)
          (λ _. omega arith)) in
          omega (arith, lane, inputs)
        where
          go : (o : Option ℕ) → Chosen Largest (before_test j t) j.start j.graph.tasks o → end_of s o ≤ c
          go None none = omega arith
          go (Some u) is = let y = a.lane u (true_before u is.0 is.1) in rw y.1 y.2

      module _ (fed : Fed j s t) where
        after_begin : After j s t (begin_of j s t)
        unfolding begin_of ahead
        after_begin = record {
          lane = λ u b. let y = lane_over (ahead j t) (best_is_chosen Largest (before_test j t) j.start j.graph.tasks) u b in (y.0, y.1, omega (arith, y.2));
          inputs = λ k f.
              let d = fed k f in
              let a : brought j s t k ≤ largest (brought j s t) j.graph.edges = largest_above (brought j s t) j.graph.edges k f.0 in
              let v : brought j s t k ≡ reaches_by j k d.0.end = cond-true _ _ _ (eq-eqb _ _ f.1) ∙ ap (λ o. reaches_by j k (ended o)) d.1 in
              let r = input_low k f.0 d.0 d.1 in
              (d.0, d.1, omega (arith, a, v, r), omega (arith, a, v));
        }

        after_start : After j s t (j.start t)
        after_start = record {
          lane = λ u b. let d = h.lane u b in (d.0, d.1, omega (arith, (held.timely u d.0 d.1).in_time, before_ends u t h.task b));
          inputs = λ k f.
              let d = fed k f in
              let fits : reaches_by j k d.0.end ≤ j.start t = subst (λ n. reaches_by j k d.0.end ≤ j.start n) f.1 (input_fits k f.0 d.0 d.1) in
              (d.0, d.1, omega (arith, fits, input_low k f.0 d.0 d.1), fits);
        }

        pub begin_after : After j s t (begin_of j s t)
        begin_after = after_begin

        pub begin_on_time : begin_of j s t ≤ j.start t
        begin_on_time = soonest (j.start t) after_start

        pub begin_first : w < j.workers → Begins j s w t (begin_of j s t)
        begin_first l = record { worker = l; head = h; after = after_begin; soonest = soonest }

    -- ---- what next tells
    abbrev pub Told : ℕ → Result Turn RunFault → Type 0
    Told w (Ok n) = Begins j s w n.0 n.1 × (n.1 ≤ j.start n.0)
    Told w (Err e) = Unready j s w e

    head_of : (w t : ℕ) → Chosen Smallest (waits_test j s w) j.start j.graph.tasks (Some t) → Head j s w t
    head_of w t c = record {
      task = c.0;
      mine = mine;
      undone = true_undone _ p.1;
      lane = λ u b. elim (done_or (at s u)) [
        | inl o ↦ absurd (omega (arith, b.2, (c.2 u b.0 (and_from _ _ (eq-eqb _ _ (b.1 ∙ mine)) (undone_true _ o))).0))
        | inr d ↦ d
      ];
    }
      where
        p : (eqb (j.worker t) w ≡ true) × (not (done_test s t) ≡ true)
        p = and_parts _ _ c.1

        mine : j.worker t ≡ w
        mine = eqb-true _ _ p.0

    -- edge k shows that its source is an input of its target
    input_true : (t k : ℕ) → Feeds j k t → input_test j t (j.graph.from k) ≡ true
    input_true t k f = some_one (joins_test j (j.graph.from k) t) j.graph.edges k f.0 (and_from _ _ (eq-eqb _ _ f.1) (eq-eqb _ _ refl))

    lacks : ℕ → ℕ → Bool
    lacks t u = input_test j t u && not (done_test s u)

    told_turn : (w t : ℕ) → w < j.workers → Head j s w t → (o : Option ℕ) → lowest (λ u. input_test j t u && not (done_test s u)) j.graph.tasks ≡ o → Told w (turn j s t o)
    told_turn w t l h None none =
        let fed : Fed j s t = λ k f. elim (done_or (at s (j.graph.from k))) [
          | inl o ↦ absurd (both_ways _ (lowest_all (λ u. input_test j t u && not (done_test s u)) j.graph.tasks (j.graph.from k) none (plan.graph.known k f.0).0) (and_from _ _ (input_true t k f) (undone_true _ o)))
          | inr d ↦ d
        ] in
        (begin_first w t h fed l, begin_on_time w t h fed)
    told_turn w t l h (Some u) is =
        let f = lowest_found (λ u. input_test j t u && not (done_test s u)) j.graph.tasks u is in
        let p = and_parts _ _ f.1 in
        let k = some_is (joins_test j u t) j.graph.edges p.0 in
        let q = and_parts _ _ k.2 in
        no_input t u l h record {
          input = (k.0, (k.1, eqb-true _ _ q.0), eqb-true _ _ q.1);
          undone = true_undone _ p.1;
          lowest = λ i g o. elim (cases_lt (j.graph.from i) u) [
            | inl lower ↦ absurd (both_ways _ (f.2 (j.graph.from i) lower) (and_from _ _ (input_true t i g) (undone_true _ o)))
            | inr ge ↦ omega (arith, ge)
          ];
        }

    told_head : (w : ℕ) → w < j.workers → (o : Option ℕ) → Chosen Smallest (waits_test j s w) j.start j.graph.tasks o → Told w (turn_of j s w o)
    unfolding missing
    told_head w l None none = no_task_left l (λ t i e. elim (done_or (at s t)) [
      | inl o ↦ absurd (both_ways _ (none t i) (and_from _ _ (eq-eqb _ _ e) (undone_true _ o)))
      | inr d ↦ d
    ])
    told_head w l (Some t) c = told_turn w t l (head_of w t c) (missing j s t) refl

    pub told : (w : ℕ) → Told w (next j s w)
    unfolding next head
    told w = cond_both (ltb w j.workers) (turn_of j s w (head j s w)) (Err (NoWorker w)) (Told w)
        (λ l. told_head w (ltb-true _ _ l) (head j s w) (best_is_chosen Smallest (waits_test j s w) j.start j.graph.tasks))
        (λ g. no_worker (ltb-false _ _ g))
