use Rattle.std.proofs.Common.{◌≡◌, ℕ, zero, suc, ◌-◌, ◌*◌, ◌^◌, ◌<◌, ◌≤◌, length, pow-suc, arith}
use native.Mathlib.Nat.{pow-le-pow_right}
use Rattle.std.proofs.lemmas.Bool.Decides.{nat_tests}
use Rattle.std.proofs.lemmas.List.{get_or_read}
use Rattle.std.proofs.lemmas.Result.{err_from_is_err_and}
use Rattle.numbers.proofs.Groups.{opened}
use Rattle.numbers.proofs.number.+read_groups.Goals as goal

power : (left : ℕ) → 0 < left → 128 ^ left ≡ 128 ^ (left - 1) * 128
power zero h = absurd (omega arith)
power (suc k) h = let e : suc k - 1 ≡ k = omega arith in rw (e, pow-suc 128 k)

bound : (left : ℕ) → left ≤ 6 → 128 ^ left ≤ 4398046511104
bound left h = pow-le-pow_right {n = 128} (omega arith) {i = left} {j = 6} h

positive : (left : ℕ) → 1 ≤ 128 ^ left
positive left = pow-le-pow_right {n = 128} (omega arith) {i = 0} {j = left} (omega arith)

pub returns-in_default-clause-is : goal.returns-in_default-clause-is
returns-in_default-clause-is t c =
    let o = opened c.args.file.now c.args.start c.args.at c.args.left c.requires.on (omega arith) in
    grind (arith, nat_tests, o, c.in_default.ensures.lookup)

pub returns-then-at-start-clause-is : goal.returns-then-at-start-clause-is
returns-then-at-start-clause-is t c =
    let o = opened c.args.file.now c.args.start c.args.at c.args.left c.requires.on (omega arith) in
    grind (arith, nat_tests, o, c.in-Some.ensures.lookup)

pub returns-then-byte-lt128-clause-is : goal.returns-then-byte-lt128-clause-is
returns-then-byte-lt128-clause-is t c =
    let o = opened c.args.file.now c.args.start c.args.at c.args.left c.requires.on (omega arith) in
    grind (arith, nat_tests, o, c.in-Some.ensures.lookup)

pub returns-then-byte-lt128-clause-small : goal.returns-then-byte-lt128-clause-small
returns-then-byte-lt128-clause-small t c = omega (arith, power c.args.left (omega arith), positive (c.args.left - 1))

pub returns-in_err-rest-clause-is : goal.returns-in_err-rest-clause-is
returns-in_err-rest-clause-is t c =
    let p = err_from_is_err_and c.from_residual.result c.from_residual.ensures.1 in
    let o = opened c.args.file.now c.args.start c.args.at c.args.left c.requires.on (omega arith) in
    rw (p.1, p.2) (grind (arith, nat_tests, o, c.in-Some.ensures.lookup, c.in_err-rest.ensures.is))

pub overflow_mul-result : goal.overflow_mul-result
overflow_mul-result t c = omega (arith, c.in_ok-rest.ensures.small, bound (c.args.left - 1) (omega arith))

pub overflow_add-result-2 : goal.overflow_add-result-2
overflow_add-result-2 t c = omega (arith, c.in_ok-rest.ensures.small, bound (c.args.left - 1) (omega arith))

pub returns-clause-is : goal.returns-clause-is
returns-clause-is t c =
    let o = opened c.args.file.now c.args.start c.args.at c.args.left c.requires.on (omega arith) in
    grind (arith, nat_tests, o, c.in-Some.ensures.lookup, c.in_ok-rest.ensures.is)

pub returns-clause-small : goal.returns-clause-small
returns-clause-small t c =
    let at : c.args.at < length c.args.file.now = grind (arith, nat_tests, c.in-Some.ensures.lookup) in
    let byte = get_or_read c.args.file.now c.args.at c.in-Some.field-0.now at c.in-Some.ensures.lookup.1 0 in
    omega (arith, power c.args.left (omega arith), c.in_ok-rest.ensures.small, c.type_inv.file c.args.at, byte)
