-- What the tasks placed so far tell: scans of all edges as scans of the edges of one task, and limits.
use Rattle.std.proofs.Common.{◌≡◌, ℕ, zero, suc, ◌+◌, ◌*◌, ◌^◌, ◌≤◌, max, Bool, true, false, not, ◌||◌, eqb, List, length, get_or, sym, refl, ap, ◌∙◌, inl, inr, arith}
use Rattle.std.proofs.lemmas.Bool.{cases_Bool, cond_both, eqb-true, eq-eqb, or_parts, or_from, or_right, not_from_true}
use Rattle.scans.specs.Scans.{total, every, largest_in, some_in, every_in}
use Rattle.scans.proofs.Scans.{largest_under, every_all, every_at, every_not, every_fails, every_same}
use Rattle.scans.proofs.Lists.{largest_kept, some_kept, every_kept}
use Rattle.edges.specs.declared.edge.Edge.{Edge}
use Rattle.edges.specs.Edges.{no_edge, into, out_of, Within}
use Rattle.graphs.specs.declared.types.Task.{Task}
use Rattle.graphs.specs.Model.{TaskGraph, model, Known, Sound}
use Rattle.levels.specs.Levels.{nominal}
use Rattle.links.specs.Links.{Arrives, Lawful}
use Rattle.steps.specs.Seats.{Seats, at, sits, host, placed, end_of, Early, free, end_on, in_use, size_on, follows, Marks, holds, shut, closed, nominal_at, t_level_of, reach, input_at, start_on_worker}

module _ (ts : List Task) (es : List Edge) where
  pub follows_is : (t v : ℕ) → follows (model ts es) t v ≡ some_in (λ (e : Edge). eqb e.to v) (out_of es t)
  unfolding follows
  follows_is t v = some_kept (λ (e : Edge). eqb e.from t) (λ (e : Edge). eqb e.to v) es no_edge

  pub holds_is : (s : Seats) (t w : ℕ) → holds (model ts es) s t w ≡ some_in (λ (e : Edge). sits (at s e.from) w) (into es t)
  unfolding holds
  holds_is s t w = some_kept (λ (e : Edge). eqb e.to t) (λ (e : Edge). sits (at s e.from) w) es no_edge

  pub t_level_of_is : (arrives : Arrives) (s : Seats) (t : ℕ) → t_level_of arrives (model ts es) s t ≡ largest_in (λ (e : Edge). end_of (model ts es) s e.from + arrives 0 0 1 e.amount) (into es t)
  unfolding t_level_of
  t_level_of_is arrives s t = largest_kept (λ (e : Edge). eqb e.to t) (λ (e : Edge). end_of (model ts es) s e.from + arrives 0 0 1 e.amount) es no_edge

  pub start_on_worker_is : (arrives : Arrives) (s : Seats) (t w : ℕ) → start_on_worker arrives (model ts es) s t w ≡ max (free (model ts es) s w) (largest_in (λ (e : Edge). reach arrives (model ts es) s w e.from e.amount) (into es t))
  unfolding start_on_worker
  start_on_worker_is arrives s t w = ap (λ (n : ℕ). max (free (model ts es) s w) n) (largest_kept (λ (e : Edge). eqb e.to t) (λ (e : Edge). reach arrives (model ts es) s w e.from e.amount) es no_edge)

-- every edge, by the task that it leaves
module _ (p : ℕ → Bool) (q : Edge → Bool) (es : List Edge) (n : ℕ) (within : Within es n) where
  left_by : ℕ → ℕ → Bool
  left_by u k = not (eqb (get_or es k no_edge).from u) || q (get_or es k no_edge)

  at_edge : ℕ → Bool
  at_edge k = not (p (get_or es k no_edge).from) || q (get_or es k no_edge)

  at_task : ℕ → Bool
  at_task u = not (p u) || every_in q (out_of es u)

  outputs_are : (u : ℕ) → every (left_by u) (length es) ≡ every_in q (out_of es u)
  unfolding left_by
  outputs_are u = every_kept (λ (e : Edge). eqb e.from u) q es no_edge

  task_passes : every at_edge (length es) ≡ true → (u : ℕ) → at_task u ≡ true
  unfolding at_task at_edge left_by
  task_passes a u = elim (cases_Bool (p u)) [
    | inl y ↦ or_right (not (p u)) _ (sym (outputs_are u) ∙ every_all (left_by u) (length es) (λ k l. elim (cases_Bool (eqb (get_or es k no_edge).from u)) [
      | inl e ↦ or_right (not (eqb (get_or es k no_edge).from u)) _ (let i = ap p (eqb-true _ _ e) ∙ y in simp i at (every_at at_edge (length es) k a l))
      | inr e ↦ simp e
    ]))
    | inr n ↦ simp n
  ]

  task_fails : every at_edge (length es) ≡ false → every at_task n ≡ false
  unfolding at_task at_edge left_by
  task_fails a =
      let h = every_fails at_edge (length es) a in
      let k = h.0 in
      let u = (get_or es k no_edge).from in
      let parts = or_parts (not (p u)) (q (get_or es k no_edge)) h.2 in
      let self : eqb u u ≡ true = eq-eqb u u refl in
      let off : left_by u k ≡ false = or_from _ _ (not_from_true _ self) parts.1 in
      every_not at_task n u (within k h.1).0 (or_from _ _ parts.0 (sym (outputs_are u) ∙ every_not (left_by u) (length es) k h.1 off))

  pub every_by_task : every (λ k. not (p (get_or es k no_edge).from) || q (get_or es k no_edge)) (length es) ≡ every (λ u. not (p u) || every_in q (out_of es u)) n
  unfolding at_task at_edge
  every_by_task = elim (cases_Bool (every at_edge (length es))) [
    | inl a ↦ a ∙ sym (every_all at_task n (λ u l. task_passes a u))
    | inr a ↦ a ∙ sym (task_fails a)
  ]

-- the successors of the tasks on w are those of its tasks' outputs, and marks tell which follow t
pub closed_is : (ts : List Task) (es : List Edge) (s : Seats) (t w : ℕ) (marks : List Bool) → length ts ≤ 512 → Known (model ts es) → Marks (model ts es) t marks
    → closed (model ts es) s t w ≡ every (λ u. not (sits (at s u) w) || every_in (λ (e : Edge). placed s e.to || get_or marks e.to false) (out_of es u)) (length ts)
unfolding closed
closed_is ts es s t w marks few known marked =
    every_same (shut (model ts es) s t w) (λ k. not (sits (at s (get_or es k no_edge).from) w) || (placed s (get_or es k no_edge).to || get_or marks (get_or es k no_edge).to false)) (length es)
    (λ k l. ap (λ (b : Bool). not (sits (at s (get_or es k no_edge).from) w) || (placed s (get_or es k no_edge).to || b)) (sym (marked (get_or es k no_edge).to (omega (arith, (known k l).1)))))
    ∙ every_by_task (λ u. sits (at s u) w) (λ (e : Edge). placed s e.to || get_or marks e.to false) es (length ts) known

-- limits
sizes_under : (f : ℕ → ℕ) (n : ℕ) → ((u : ℕ) → f u ≤ 2 ^ 24) → total f n ≤ n * 2 ^ 24
sizes_under f zero h = omega arith
sizes_under f (suc n) h = omega (arith, sizes_under f n h, h n)

module _ (g : TaskGraph) (s : Seats) where
  pub in_use_under : Sound g → (w : ℕ) → in_use g s w ≤ 512 * 2 ^ 24
  unfolding in_use
  in_use_under ok w =
      let a = sizes_under (size_on g s w) g.tasks (λ t. cond_both (sits (at s t) w) (g.size t) 0 (λ n. n ≤ 2 ^ 24) (λ _. ok.sizes t) (λ _. omega arith)) in
      omega (arith, ok.few)

  pub free_under : Early g s → (w : ℕ) → free g s w ≤ 2 ^ 40
  unfolding free
  free_under early w = largest_under (end_on g s w) g.tasks (2 ^ 40) (λ t l. cond_both (sits (at s t) w) (end_of g s t) 0 (λ n. n ≤ 2 ^ 40) (λ _. early t) (λ _. omega arith))

  module _ (arrives : Arrives) (lawful : Lawful arrives) (early : Early g s) where
    reach_under : (w u amount : ℕ) → reach arrives g s w u amount ≤ 2 ^ 40
    reach_under w u amount = cond_both (sits (at s u) w) (end_of g s u) (arrives (end_of g s u) (host (at s u)) w amount) (λ n. n ≤ 2 ^ 40) (λ _. early u) (λ _. lawful.ceiling (end_of g s u) (host (at s u)) w amount)

    -- no start is above the ceiling
    pub start_under : (t w : ℕ) → start_on_worker arrives g s t w ≤ 2 ^ 40
    unfolding start_on_worker
    start_under t w =
        let a = free_under early w in
        let b = largest_under (input_at arrives g s t w) g.edges (2 ^ 40) (λ k l. cond_both (eqb (g.to k) t) (reach arrives g s w (g.from k) (g.amount k)) 0 (λ n. n ≤ 2 ^ 40) (λ _. reach_under w (g.from k) (g.amount k)) (λ _. omega arith)) in
        omega arith

    pub t_level_of_under : (t : ℕ) → t_level_of arrives g s t ≤ 2 ^ 41
    unfolding t_level_of
    t_level_of_under t = largest_under (nominal_at arrives g s t) g.edges (2 ^ 41) (λ k l. cond_both (eqb (g.to k) t) (end_of g s (g.from k) + nominal arrives g k) 0 (λ n. n ≤ 2 ^ 41) (λ _. omega (arith, early (g.from k), lawful.ceiling 0 0 1 (g.amount k))) (λ _. omega arith))
