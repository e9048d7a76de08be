-- Heads: those that stand at the start of a file are read, and those that are read stand there.
use Rattle.std.proofs.Common.{◌≡◌, ℕ, ◌+◌, List, ◌++◌, length, drop, IfOk, Ok, Err, Result, sym, ap, ◌∙◌, subst, append_assoc, arith, length-append}
use Rattle.numbers.specs.Numbers.{coded}
use Rattle.numbers.proofs.Groups.{Bytes}
use Rattle.numbers.proofs.Laid.{past}
use Rattle.records.specs.declared.fault.RecordFault.{RecordFault}
use Rattle.records.specs.declared.types.Head.{Head}
use Rattle.records.specs.Fields.{field_at}
use Rattle.records.specs.Heads.{head_of, head_at, Opens}
use Rattle.records.proofs.Fields.{ok_same, un_then, field_at_lem, un_field}

pub head_at_lem : (file : List ℕ) (h : Head) → Opens file h → head_at file ≡ Ok h
unfolding head_at
head_at_lem file h o =
    let t = h.tasks in
    let n = h.edges in
    let rest = drop h.next file in
    let a = 0 + length (coded 1) in
    let b = a + length (coded t) in
    let e : drop 0 file ≡ coded 1 ++ (coded t ++ (coded n ++ rest)) = o.bytes ∙ simp append_assoc in
    let e₁ = past file 0 (coded 1) _ e in
    let e₂ = past file a (coded t) _ e₁ in
    let k : b + length (coded n) ≡ h.next = omega (arith, o.long, length-append (coded 1) (coded t ++ coded n), length-append (coded t) (coded n)) in
    rw (
      field_at_lem file 0 1 1 1 _ (omega arith) (omega arith) (omega arith) e,
      field_at_lem file a 0 512 t _ (omega arith) o.few.0 (omega (arith, o.few)) e₁,
      field_at_lem file b 0 4096 n rest (omega arith) o.few.1 (omega (arith, o.few)) e₂,
      k,
    )

pub un_head : (file : List ℕ) (h : Head) → Bytes file → head_at file ≡ Ok h → Opens file h
unfolding head_at
un_head file h w e =
    let a = un_then (field_at file 0 1 1) _ h e in
    let b = un_then (field_at file a.0.1 0 512) _ h a.2 in
    let c = un_then (field_at file b.0.1 0 4096) _ h b.2 in
    let fa = un_field file w 0 1 1 a.0 a.1 in
    let fb = un_field file w a.0.1 0 512 b.0 b.1 in
    let fc = un_field file w b.0.1 0 4096 c.0 c.1 in
    let one : a.0.0 ≡ 1 = omega (arith, fa.1, fa.2) in
    let t = b.0.0 in
    let n = c.0.0 in
    let d : head_of t n c.0.1 ≡ h = ok_same _ _ c.2 in
    let s : file ≡ coded 1 ++ (coded t ++ (coded n ++ drop c.0.1 file)) =
    fa.0.bytes ∙ ap (λ x. coded x ++ drop a.0.1 file) one ∙ ap (λ x. coded 1 ++ x) (fb.0.bytes ∙ ap (λ x. coded t ++ x) fc.0.bytes) in
    subst (Opens file) d
    record {
      few = (fb.2, fc.2);
      bytes = s ∙ simp append_assoc;
      long =
          omega (arith, fa.0.long, fb.0.long, fc.0.long, ap (λ x. length (coded x)) one, length-append (coded 1) (coded t ++ coded n), length-append (coded t) (coded n));
    }

pub opens : (file : List ℕ) (r : Result Head RecordFault) → Bytes file → r ≡ head_at file → IfOk r (Opens file)
opens file (Ok h) w e = un_head file h w (sym e)
opens file (Err d) w e = tt
