-- How many bytes a plan has.
use Rattle.std.proofs.Common.{ℕ, zero, suc, ◌+◌, ◌*◌, ◌/◌, ◌≤◌, ltb, List, [], ◌∷◌, length, ⊎_elim, arith, length-append}
use Rattle.std.specs.List.{flat_map}
use Rattle.std.proofs.lemmas.Bool.{cases_Bool}
use Rattle.numbers.specs.Numbers.{groups, coded}
use Rattle.plans.specs.declared.types.Row.{Row}
use Rattle.planfiles.specs.Plans.{Plan, row_bytes, plan_bytes}

groups_few : (n v : ℕ) → length (groups n v) ≤ n
groups_few zero v = omega arith
groups_few (suc n) v = ⊎_elim (λ e. rw e (omega arith)) (λ e. rw e (omega (arith, groups_few n (v / 128)))) (cases_Bool (ltb v 128))

coded_few : (v : ℕ) → length (coded v) ≤ 10
unfolding coded
coded_few v = groups_few 10 v

rows_few : (rs : List Row) → length (flat_map row_bytes rs) ≤ 20 * length rs
rows_few [] = omega arith
rows_few (r ∷ rs) = simp length-append (omega (arith, coded_few r.worker, coded_few r.start, rows_few rs))

pub plan_few : (p : Plan) → length (plan_bytes p) ≤ 40 + 20 * length p.rows
plan_few p = simp length-append (omega (arith, coded_few 2, coded_few (length p.rows), coded_few p.workers, coded_few p.ticks, rows_few p.rows))
