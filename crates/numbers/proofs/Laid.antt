-- A number that stands in a file, at what follows an offset.
use Rattle.std.proofs.Common.{◌≡◌, ℕ, ◌+◌, ◌-◌, ◌^◌, ◌<◌, ◌≤◌, true, List, ◌++◌, length, take, drop, Ok, sym, refl, ap, ◌∙◌, append_assoc, arith}
use lib.Seq.{sets-eq}
use Rattle.std.proofs.lemmas.List.{drop_at, drop-drop, take-append-drop, length-take-le}
use Rattle.numbers.specs.Numbers.{placed, decode, number_at, coded}
use Rattle.numbers.specs.Texts.{Puts}
use Rattle.numbers.proofs.Groups.{Bytes, bytes_drop, reads, writes, un_placed, front_fits}

-- the bytes of a number are read as it
pub number_at_lem : (file : List ℕ) (at v : ℕ) (rest : List ℕ) → v < 2 ^ 42 → drop at file ≡ coded v ++ rest → number_at file at ≡ Ok (v, at + length (coded v))
unfolding number_at coded
number_at_lem file at v rest h e = rw e (ap (placed (length file) at at) (reads 6 10 true v rest (omega arith) h (λ _. refl) (omega arith)))

-- what follows the bytes that stand at an offset
pub past : (file : List ℕ) (at : ℕ) (bytes rest : List ℕ) → drop at file ≡ bytes ++ rest → drop (at + length bytes) file ≡ rest
past file at bytes rest e = sym (drop-drop (length bytes) at file) ∙ ap (drop (length bytes)) e ∙ drop_at bytes rest (length bytes) refl

-- a text that was written stands where it was written
pub puts_at : {xs ys text : List ℕ} {i k : ℕ} → Puts xs i text ys k → i + length text ≤ length xs → drop i ys ≡ text ++ drop (i + length text) xs
puts_at {xs} {ys} {text} {i} {k} p h =
    let l : i ≤ length xs = omega arith in
    ap (drop i) (p.bytes ∙ sets-eq text xs i h ∙ append_assoc (take i xs) text (drop (i + length text) xs))
    ∙ drop_at (take i xs) (text ++ drop (i + length text) xs) i (length-take-le i xs l)

pub puts_reads : {xs ys : List ℕ} {i k : ℕ} (v : ℕ) → length xs < 2 ^ 64 → Puts xs i (coded v) ys k → v < 2 ^ 42 → i + length (coded v) ≤ length xs → number_at ys i ≡ Ok (v, k)
puts_reads {xs} {ys} {i} {k} v f p h r =
    let e : i + length (coded v) ≡ k = omega (arith, p.place) in
    number_at_lem ys i v _ h (puts_at p r) ∙ ap (λ x. Ok (v, x)) e

-- a number that was read has its bytes there
pub number_back : (file : List ℕ) (at v next : ℕ) → Bytes file → number_at file at ≡ Ok (v, next) → take (next - at) (drop at file) ≡ coded v
unfolding number_at coded
number_back file at v next h e =
    let u = un_placed (length file) at at (decode 6 true (drop at file)) v next e in
    let n : next - at ≡ u.0 = omega arith in
    rw n (writes 6 10 true (drop at file) v u.0 (omega arith) (bytes_drop at file h) u.1).0

pub number_moves : (file : List ℕ) (at v next : ℕ) → number_at file at ≡ Ok (v, next) → at ≤ next
unfolding number_at
number_moves file at v next e = omega (arith, (un_placed (length file) at at (decode 6 true (drop at file)) v next e).2)

pub un_number : (file : List ℕ) (at v next : ℕ) → Bytes file → number_at file at ≡ Ok (v, next) → drop at file ≡ coded v ++ drop next file
un_number file at v next h e =
    let n : at + (next - at) ≡ next = omega (arith, number_moves file at v next e) in
    sym (take-append-drop (next - at) (drop at file)) ∙ ap (λ x. x ++ drop (next - at) (drop at file)) (number_back file at v next h e)
    ∙ ap (λ x. coded v ++ x) (drop-drop (next - at) at file ∙ ap (λ k. drop k file) n)

pub number_long : (file : List ℕ) (at v next : ℕ) → Bytes file → number_at file at ≡ Ok (v, next) → next ≡ at + length (coded v)
unfolding number_at
number_long file at v next h e =
    let u = un_placed (length file) at at (decode 6 true (drop at file)) v next e in
    let n : next - at ≡ u.0 = omega arith in
    let l : length (take u.0 (drop at file)) ≡ u.0 = length-take-le u.0 (drop at file) (front_fits 6 true (drop at file) v u.0 u.1) in
    let m : length (take (next - at) (drop at file)) ≡ length (coded v) = ap length (number_back file at v next h e) in
    omega (arith, u.2, l, rw n at m)
