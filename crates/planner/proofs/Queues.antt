-- The heap holds the ready tasks: after a push, after a pop, and once the task that came out is placed.
use Rattle.std.proofs.Common.{◌≡◌, ℕ, ◌+◌, ◌<◌, ◌≤◌, Bool, true, false, not, ◌&&◌, ◌||◌, eqb, ltb, ◌⊎◌, [], ◌∷◌, length, set, Some, None, sym, refl, ap, ◌∙◌, subst, inl, inr, arith, length-take}
use Rattle.std.proofs.lemmas.List.{get_or-set_same, get_or-set_other}
use Rattle.std.proofs.lemmas.Bool.{cases_eq, cases_Bool, both_ways, eqb-true, eq-eqb, ne_eqb, and_parts, and_right, or_cases, or_from, not-true, not_from_true, lt-ltb, le-ltb}
use Rattle.std.proofs.lemmas.Bool.Decides.{nat_tests}
use Rattle.heaps.specs.declared.entries.Ready.{Ready}
use Rattle.heaps.specs.Entries.{sooner}
use Rattle.heaps.specs.Heaps.{ReadyHeap, room, entries, queue, Pushed, Gave}
use Rattle.heaps.specs.Orders.{insert}
use Rattle.heaps.proofs.Inserts.{length_ordered}
use Rattle.scans.specs.Scans.{every}
use Rattle.scans.proofs.Scans.{some_is, some_not, every_at, every_not, every_same, largest_same}
use Rattle.graphs.specs.Model.{TaskGraph}
use Rattle.links.specs.Links.{Arrives}
use Rattle.plans.specs.declared.types.Row.{Row}
use Rattle.steps.specs.Seats.{Seats, at, placed, leads, follows, nominal_at, t_level_of}
use Rattle.planner.specs.Turns.{brings, ready, rank, next}
use Rattle.planner.specs.Queues.{entry, line, apart_from, Waiting}
use Rattle.planner.proofs.Choices.{wins}
use Rattle.scans.specs.Bids.{best}
use Rattle.scans.specs.declared.Aim.TheVariants.{Largest}
use Rattle.heaps.specs.Keys.{sooner_total}
use Rattle.planner.proofs.Lines.{line_same, line_put, line_best, line_empty, line_key, take_off, line_short, line_none}

-- ---- pushes

pub waiting_none : (p : ℕ → Bool) (key : ℕ → ℕ) (n : ℕ) (h : ReadyHeap) → ((v : ℕ) → p v ≡ false) → n ≤ room h → queue h ≡ [] → Waiting p key n h
waiting_none p key n h e roomy empty = record { roomy = roomy; holds = empty ∙ sym (line_none p key n e) }

pub waiting_same : (p q : ℕ → Bool) (key other : ℕ → ℕ) (n : ℕ) (h : ReadyHeap) → ((v : ℕ) → v < n → p v ≡ q v) → ((v : ℕ) → v < n → p v ≡ true → key v ≡ other v) → Waiting p key n h → Waiting q other n h
waiting_same p q key other n h e k was = record { roomy = was.roomy; holds = was.holds ∙ line_same p q key other n e k }

-- where one is lacking there is room
pub waiting_room : (p : ℕ → Bool) (key : ℕ → ℕ) (n : ℕ) (h : ReadyHeap) (u : ℕ) → u < n → p u ≡ false → Waiting p key n h → h.len < room h
waiting_room p key n h u l e was =
    omega (arith, length_ordered sooner sooner_total (entries h), length-take h.len h.table.now, h.within, ap length was.holds, line_short p key n u l e, was.roomy)

pub waiting_put : (p q : ℕ → Bool) (key : ℕ → ℕ) (n : ℕ) (h k : ReadyHeap) (u : ℕ) → u < n → p u ≡ false → q u ≡ true → ((v : ℕ) → (v ≡ u → ⊥) → p v ≡ q v) → room k ≡ room h → Waiting p key n h → Pushed h (entry key u) k → Waiting q key n k
waiting_put p q key n h k u l np qu same long was put = record {
  roomy = omega (arith, was.roomy);
  holds = put.queued ∙ ap (insert sooner (entry key u)) was.holds ∙ sym (line_put p q key n u l np qu same);
}

-- ---- the successors of a task join one by one: v is ready, and is below u or passes q

abbrev pub woken : TaskGraph → Seats → (ℕ → Bool) → ℕ → ℕ → Bool
woken g s q u v = ready g s v && (ltb v u || q v)

module _ (g : TaskGraph) (s : Seats) (q : ℕ → Bool) where
  pub woken_first : (v : ℕ) → woken g s q 0 v ≡ (ready g s v && q v)
  woken_first v = let e = le-ltb v 0 (omega arith) in simp e

  woken_other : (u v : ℕ) → (v ≡ u → ⊥) → woken g s q u v ≡ woken g s q (u + 1) v
  woken_other u v ne = let e : ltb v u ≡ ltb v (u + 1) = grind (arith, nat_tests) in simp e

  pub woken_skip : (u : ℕ) → (q u ≡ true) ⊎ (ready g s u ≡ false) → (v : ℕ) → woken g s q u v ≡ woken g s q (u + 1) v
  woken_skip u skips v = elim (cases_eq v u) [
    | inl e ↦ (let P : ℕ → Type 0 = λ x. woken g s q u x ≡ woken g s q (u + 1) x in subst P (sym e) (elim skips [
      | inl f ↦ (let b = lt-ltb u (u + 1) (omega arith) in let a = le-ltb u u (omega arith) in simp (a, b, f))
      | inr r ↦ simp r
    ]))
    | inr ne ↦ woken_other u v ne
  ]

  pub woken_put : (u v : ℕ) → (v ≡ u → ⊥) → woken g s q u v ≡ woken g s q (u + 1) v
  woken_put u v ne = woken_other u v ne

  pub woken_not : (u : ℕ) → q u ≡ false → woken g s q u u ≡ false
  woken_not u f = let a = le-ltb u u (omega arith) in grind (arith, nat_tests)

  pub woken_now : (u : ℕ) → ready g s u ≡ true → woken g s q (u + 1) u ≡ true
  woken_now u r = let b = lt-ltb u (u + 1) (omega arith) in grind (arith, nat_tests)

  pub woken_all : (u v : ℕ) → v < u → woken g s q u v ≡ ready g s v
  woken_all u v l = let b = lt-ltb v u l in grind (arith, nat_tests)

-- ---- where t, which is ready, is placed

module _ (g : TaskGraph) (s : Seats) (t : ℕ) (r : Row) (in_row : t < length s) (free-t : placed s t ≡ false) where
  abbrev s' : Seats
  s' = set s t (Some r)

  here : at s' t ≡ Some r
  here = get_or-set_same s t (Some r) None in_row

  other : (u : ℕ) → (u ≡ t → ⊥) → at s' u ≡ at s u
  other u ne = get_or-set_other s t u (Some r) None ne

  was_placed : (u : ℕ) → placed s u ≡ true → u ≡ t → ⊥
  was_placed u y e = both_ways (placed s t) free-t (ap (placed s) (sym e) ∙ y)

  -- those ready before, but t, are those ready now that are no successors of t
  pub ready_now : (v : ℕ) → (ready g s v && not (eqb v t)) ≡ apart_from g s' t v
  unfolding ready follows
  ready_now v = elim (cases_eq v t) [
    | inl e ↦ (let y : eqb v t ≡ true = eq-eqb v t e in let h : at s' v ≡ Some r = ap (at s') e ∙ here in simp (y, h) (and_right _ _ refl))
    | inr ne ↦ (let n : eqb v t ≡ false = ne_eqb v t ne in let o = other v ne in
        elim (cases_Bool (follows g t v)) [
          | inl f ↦ (let k = some_is (leads g t v) g.edges f in
              let ps = and_parts _ _ k.2 in
              let from_t : placed s (g.from k.0) ≡ false = ap (placed s) (eqb-true _ _ ps.0) ∙ free-t in
              let to-v = ps.1 in
              let no_all : every (brings g s v) g.edges ≡ false = every_not (brings g s v) g.edges k.0 k.1 (or_from _ _ (not_from_true _ to-v) from_t) in
              simp (n, o, f, no_all) (grind (arith, nat_tests)))
          | inr f ↦ (let same = every_same (brings g s v) (brings g s' v) g.edges (λ k l. elim (cases_eq (g.from k) t) [
            | inl e ↦ (let no_lead = some_not (leads g t v) g.edges k f l in
                let a = eq-eqb (g.from k) t e in
                let b : eqb (g.to k) v ≡ false = (let h = simp a at no_lead in h) in
                simp b)
            | inr ne2 ↦ (let o2 = other (g.from k) ne2 in simp o2)
          ]) in
              simp (n, o, f, same))
        ])
  ]

  -- their ranks are what they were
  pub rank_now : (policy : ℕ) (arrives : Arrives) (v : ℕ) → ready g s v ≡ true → rank policy arrives g s v ≡ rank policy arrives g s' v
  unfolding rank ready t_level_of
  rank_now policy arrives v y =
      let same = largest_same (nominal_at arrives g s v) (nominal_at arrives g s' v) g.edges (λ k l. elim (or_cases _ _ (every_at (brings g s v) g.edges k (and_parts _ _ y).1 l)) [
        | inl a ↦ (let b : eqb (g.to k) v ≡ false = not-true _ a in simp b)
        | inr p ↦ (let o = other (g.from k) (was_placed (g.from k) p) in simp o)
      ]) in
      simp same

module _ (policy : ℕ) (arrives : Arrives) (g : TaskGraph) (s : Seats) where
  abbrev pub Lined : ReadyHeap → Type 0
  Lined h = Waiting (ready g s) (rank policy arrives g s) g.tasks h

  -- an empty heap: none is next
  pub line_ends : (h : ReadyHeap) → queue h ≡ [] → Lined h → next policy arrives g s ≡ None
  unfolding next
  line_ends h e was = line_empty (ready g s) (rank policy arrives g s) g.tasks (sym was.holds ∙ e)

  module _ (h k : ReadyHeap) (x : Ready) (was : Lined h) (gave : Gave h x k) where
    whole_line : line (ready g s) (rank policy arrives g s) g.tasks ≡ x ∷ queue k
    whole_line = sym was.holds ∙ gave.queued

    wins_scan : best Largest (ready g s) (rank policy arrives g s) g.tasks ≡ Some x.task
    wins_scan = line_best (ready g s) (rank policy arrives g s) g.tasks x (queue k) whole_line

    pub line_next : next policy arrives g s ≡ Some x.task
    unfolding next
    line_next = wins_scan

    pub line_in : (x.task < g.tasks) × (ready g s x.task ≡ true)
    line_in = wins Largest (ready g s) (rank policy arrives g s) g.tasks x.task wins_scan

    and_true : (b : Bool) → (b && true) ≡ b
    and_true true = refl
    and_true false = refl

    pub line_left : (r : Row) → x.task < length s → placed s x.task ≡ false → room k ≡ room h
        → Waiting (apart_from g (set s x.task (Some r)) x.task) (rank policy arrives g (set s x.task (Some r))) g.tasks k
    line_left r in_row free-t long =
        let t = x.task in
        let key = rank policy arrives g s in
        let p : ℕ → Bool = λ v. ready g s v && not (eqb v t) in
        let same-t : entry key t ≡ x = ap (λ (n : ℕ). record { rank = n; task = t }) (sym (line_key (ready g s) key g.tasks x (queue k) whole_line)) in
        let t-eq : eqb t t ≡ true = eq-eqb t t refl in
        let put = line_put p (ready g s) key g.tasks t line_in.0 (and_right _ _ (not_from_true _ t-eq)) line_in.1 (λ v ne. let n = ne_eqb v t ne in simp n (and_true _)) in
        let all : insert sooner x (line p key g.tasks) ≡ x ∷ queue k = ap (λ (e : Ready). insert sooner e (line p key g.tasks)) (sym same-t) ∙ sym put ∙ whole_line in
        let rest = take_off x (line p key g.tasks) (queue k) all in
        record {
          roomy = omega (arith, was.roomy);
          holds = rest ∙ line_same p (apart_from g (set s t (Some r)) t) key (rank policy arrives g (set s t (Some r))) g.tasks
              (λ v l. ready_now g s t r in_row free-t v) (λ v l y. rank_now g s t r in_row free-t policy arrives v (and_parts _ _ y).0);
        }
