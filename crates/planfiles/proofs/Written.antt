-- What is told of a plan that is written is what the tests compute, and what is written is read as that plan.
use Rattle.std.proofs.Common.{◌≡◌, ℕ, ◌<◌, ◌≤◌, true, false, List, length, get_or, take, IfOk, Ok, Err, Result, sym, ap, ◌∙◌, arith, length-take}
use Rattle.std.proofs.lemmas.List.{take_at, length-take-le, get_or-take}
use Rattle.std.proofs.lemmas.Bool.{le-leb, leb-true, lt-leb, lt-ltb, le-ltb, and_from, and_parts, cond-true, cond-false}
use Rattle.scans.proofs.Scans.{largest_under}
use Rattle.graphs.specs.Model.{TaskGraph}
use Rattle.plans.specs.declared.types.Row.{Row}
use Rattle.plans.specs.declared.fault.PlanFault.{PlanFault}
use Rattle.plans.specs.Jobs.{no_row, unlinked}
use Rattle.plans.specs.Rules.{latest}
use Rattle.plans.specs.Checked.{between}
use Rattle.plans.proofs.Tests.{not_holds, none, one, says_placed, says_in_time}
use Rattle.planfiles.specs.Plans.{Few, Fits, plan_of, plan_file}
use Rattle.planfiles.specs.Writing.{Writable, Unwritten, short, limit, rule1, rule2, buffer, Wrote, written, sized, leaves}
use Rattle.planfiles.specs.Reading.{plan_at}
use Rattle.planfiles.proofs.Files.{plan_at_lem}
use Rattle.planfiles.proofs.Tables.{latest_take}

few_tested : (workers : ℕ) → Few workers → between 1 16 workers ≡ true
few_tested workers f = and_from _ _ (le-leb 1 workers f.0) (le-leb workers 16 f.1)

few_failed : (workers : ℕ) → (Few workers → ⊥) → between 1 16 workers ≡ false
few_failed workers f = not_holds _ (λ e. let p = and_parts _ _ e in f (leb-true 1 workers p.0, leb-true workers 16 p.1))

module _ (g : TaskGraph) (rows : List Row) (workers : ℕ) where
  sized_is : (room : ℕ) → Writable g rows workers → written g rows workers room ≡ sized (length (plan_file g rows workers)) room
  unfolding written
  sized_is room w = rw (le-ltb _ 512 w.long, few_tested workers w.few, none (says_placed (unlinked g rows workers 0)) _ w.placed, none (says_in_time (unlinked g rows workers 0)) _ w.in_time)

  denied_is : (room : ℕ) (e : PlanFault) → Unwritten g rows workers room e → written g rows workers room ≡ Err e
  unfolding written
  denied_is room _ (short h) = rw (lt-ltb _ 512 h)
  denied_is room _ (limit h f) = rw (le-ltb _ 512 h, few_failed workers f)
  denied_is room _ (rule1 t h f l) = rw (le-ltb _ 512 h, few_tested workers f, one (says_placed (unlinked g rows workers 0)) _ t l)
  denied_is room _ (rule2 t h f p l) = rw (le-ltb _ 512 h, few_tested workers f, none (says_placed (unlinked g rows workers 0)) _ p, one (says_in_time (unlinked g rows workers 0)) _ t l)
  denied_is room _ (buffer w l) = sized_is room w ∙ cond-false _ _ _ (lt-leb _ room l)

  module _ (was now : List ℕ) where
    pub wrote_is : (r : Result ℕ PlanFault) → Wrote g rows workers was now r → r ≡ written g rows workers (length was)
    wrote_is (Ok n) t = ap Ok t.1.count ∙ sym (sized_is (length was) t.0 ∙ cond-true _ _ _ (le-leb _ _ t.1.room))
    wrote_is (Err e) t = sym (denied_is (length was) e t.0)

    pub wrote_leaves : (r : Result ℕ PlanFault) → Wrote g rows workers was now r → now ≡ leaves (plan_file g rows workers) was r
    wrote_leaves (Ok n) t = t.1.bytes
    wrote_leaves (Err e) t = t.1

  -- a plan that keeps rules 1 and 2 is within the limits of files
  fits : g.tasks ≤ 512 → Writable g rows workers → Fits g (plan_of g rows workers)
  unfolding latest
  fits s w =
      let at : (k : ℕ) → k < g.tasks → get_or (take g.tasks rows) k no_row ≡ get_or rows k no_row = λ k l. get_or-take g.tasks rows k no_row l in
      record {
        few = w.few;
        short = omega (arith, length-take g.tasks rows);
        each = length-take-le g.tasks rows (omega (arith, w.long));
        placed = λ k l. rw (at k l) (w.placed k l);
        early = λ k l. rw (at k l) (omega (arith, w.in_time k l));
        last = sym (latest_take g rows);
        low = largest_under _ g.tasks _ w.in_time;
      }

  pub written_back : (was now : List ℕ) (r : Result ℕ PlanFault) → g.tasks ≤ 512 → Wrote g rows workers was now r → IfOk r (λ n. plan_at g (take n now) ≡ Ok (plan_of g rows workers))
  written_back was now (Ok n) s t =
      plan_at_lem g (take n now) (plan_of g rows workers) (fits s t.0) (ap (take n) t.1.bytes ∙ take_at (plan_file g rows workers) _ n (sym t.1.count))
  written_back was now (Err e) s t = tt
