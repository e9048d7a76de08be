-- The laws of every plan.
use Rattle.std.proofs.Common.{◌≡◌, ℕ, ◌<◌, ◌≤◌, true, ltb, length, is_some, Some, None, Ok, Option, Result, sym, refl, ap, ◌∙◌, arith}
use Rattle.std.proofs.lemmas.Bool.{ltb-false, eq-eqb}
use Rattle.scans.specs.declared.Aim.TheVariants.{Largest}
use Rattle.scans.proofs.Bids.{best_is_chosen}
use Rattle.scans.proofs.Scans.{lowest_all}
use Rattle.graphs.specs.Model.{TaskGraph}
use Rattle.links.specs.Links.{Arrives}
use Rattle.plans.specs.declared.types.Row.{Row}
use Rattle.plans.specs.declared.types.Limits.{Limits}
use Rattle.plans.specs.declared.fault.PlanFault.{PlanFault}
use Rattle.plans.specs.Jobs.{job}
use Rattle.plans.specs.Rules.{latest}
use Rattle.plans.specs.Checked.{bad_limit, unless}
use Rattle.plans.proofs.Told.{told_is, none_allowed}
use Rattle.steps.specs.Seats.{Seats, at, sits, host}
use Rattle.planner.specs.Turns.{next, ready, rank, after}
use Rattle.planner.specs.Plans.{or_policy, bad_parameter, too_large_task, planned}
use Rattle.planner.specs.Laws.{NextInWords, OpenedFromLowest, PlacedAfterInputs, PlansPass, PlanLaws}
use Rattle.planner.proofs.Afters.{after_good, all_placed, rules}

pub next_in_words : NextInWords
unfolding next
next_in_words policy arrives g s = best_is_chosen Largest (ready g s) (rank policy arrives g s) g.tasks

unless_ok : {T : Type 0} (o : Option ℕ) (f : ℕ → PlanFault) (r : Result T PlanFault) (x : T) → unless o f r ≡ Ok x → (o ≡ None) × (r ≡ Ok x)
unless_ok None f r x e = (refl, e)
unless_ok (Some p) f r x e = absurd (let z : ◌≡◌ {A = ℕ} 0 1 = cc in omega arith)

no_policy : (o : Option ℕ) (policy : ℕ) → or_policy o policy ≡ None → o ≡ None
no_policy None policy e = refl
no_policy (Some p) policy e = e

-- a plan that was made: its limits are within theirs, no task exceeds the memory, and all were placed
pub planned_is : (limits : Limits) (policy : ℕ) (arrives : Arrives) (g : TaskGraph) (s : Seats) → planned limits policy arrives g ≡ Ok s
    → (bad_limit limits.workers limits.memory ≡ None) × ((t : ℕ) → t < g.tasks → g.size t ≤ limits.memory) × (after limits policy arrives g g.tasks ≡ Ok s)
unfolding planned
planned_is limits policy arrives g s e =
    let a = unless_ok (bad_parameter limits policy) _ _ s e in
    let b = unless_ok (too_large_task limits g) _ _ s a.1 in
    (no_policy _ policy a.0, (λ t l. ltb-false _ _ (lowest_all (λ t. ltb limits.memory (g.size t)) g.tasks t b.0 l)), b.1)

opened_from_lowest : OpenedFromLowest
opened_from_lowest limits policy arrives g sound small n s e = (after_good limits policy arrives g sound.few small n s e).lowest

at_host : (o : Option Row) → is_some o ≡ true → sits o (host o) ≡ true
at_host None e = absurd (let z : ◌≡◌ {A = ℕ} 0 1 = cc in omega arith)
at_host (Some r) e = eq-eqb _ _ refl

placed_after_inputs : PlacedAfterInputs
placed_after_inputs limits policy arrives g sound small n s e = (
  (λ k l y. ((after_good limits policy arrives g sound.few small n s e).fed k (host (at s (g.to k))) l (at_host (at s (g.to k)) y)).0),
  (λ i. all_placed limits policy arrives g sound.few sound.known sound.acyclic small s (ap (after limits policy arrives g) (sym i) ∙ e)),
)

plans_pass : PlansPass
plans_pass limits policy arrives g sound s e rows long has =
    let p = planned_is limits policy arrives g s e in
    let r = rules limits policy arrives g sound.few sound.known sound.acyclic p.1 s rows p.2 (λ t l. has t (omega (arith, sound.few))) in
    let j = job g rows limits arrives in
    (r, sym (told_is (length rows) j (Ok (latest j)) (none_allowed (length rows) j long (sym p.0), r, refl)))

pub plan_laws : PlanLaws
plan_laws = record { next = next_in_words; lowest = opened_from_lowest; inputs = placed_after_inputs; pass = plans_pass }
