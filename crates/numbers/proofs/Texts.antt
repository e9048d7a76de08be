-- One text written after another.
use Rattle.std.proofs.Common.{◌≡◌, ℕ, suc, ◌+◌, ◌^◌, ◌<◌, ◌≤◌, min, List, [], ◌∷◌, ◌++◌, length, set, sym, refl, ap, ◌∙◌, subst, ⊎_elim, add-zero, zero-add, arith, length-append}
use lib.Seq.{sets, sets-eq, length-sets}
use Rattle.std.proofs.lemmas.List.{set_past}
use Rattle.std.proofs.lemmas.Bool.{cases_lt}
use Rattle.numbers.specs.Texts.{Puts, Stands}

-- ---- `sets`

pub sets_append : {X : Type 0} (xs : List X) (at : ℕ) (cs bs : List X) → sets xs at (cs ++ bs) ≡ sets (sets xs at cs) (at + length cs) bs
sets_append xs at [] bs = rw add-zero
sets_append xs at (a ∷ cs) bs =
    let e : at + suc (length cs) ≡ suc at + length cs = omega arith in
    rw e (sets_append (set xs at a) (suc at) cs bs)

pub sets_past : {X : Type 0} (xs : List X) (at : ℕ) (bs : List X) → length xs ≤ at → sets xs at bs ≡ xs
sets_past xs at [] h = refl
sets_past xs at (b ∷ bs) h = rw (set_past xs at b h) (sets_past xs (suc at) bs (omega arith))

-- the largest offset is past the end
sets_capped : {X : Type 0} (xs : List X) (n m : ℕ) (bs : List X) → length xs ≤ m → sets xs (min n m) bs ≡ sets xs n bs
sets_capped xs n m bs h =
    ⊎_elim
    (λ l. let e : min n m ≡ n = omega arith in rw e)
    (λ l. let e : length xs ≤ min n m = omega arith in sets_past xs (min n m) bs e ∙ sym (sets_past xs n bs (omega arith)))
    (cases_lt n m)

-- ---- `Puts`: every premise `length xs < 2 ^ 64` holds of each slice

pub puts_none : (xs : List ℕ) (at : ℕ) → at < 2 ^ 64 → Puts xs at [] xs at
puts_none xs at h = record { bytes = refl; place = omega arith }

pub puts_same : {xs zs cs bs : List ℕ} {i k : ℕ} → cs ≡ bs → Puts xs i cs zs k → Puts xs i bs zs k
puts_same {xs} {zs} {cs} {bs} {i} {k} e p = subst (λ (x : List ℕ). Puts xs i x zs k) e p

-- one text after another
pub puts_next : {xs ys zs cs bs : List ℕ} {i j k : ℕ} → length xs < 2 ^ 64 → Puts xs i cs ys j → Puts ys j bs zs k → Puts xs i (cs ++ bs) zs k
puts_next {xs} {ys} {zs} {cs} {bs} {i} {j} {k} h p q =
    let l : length (sets xs i cs) ≤ 18446744073709551615 = rw (length-sets xs i cs) (omega arith) in
    record {
      bytes =
          q.bytes ∙ ap (λ x. sets x j bs) p.bytes ∙ ap (λ x. sets (sets xs i cs) x bs) p.place
          ∙ sets_capped (sets xs i cs) (i + length cs) 18446744073709551615 bs l ∙ sym (sets_append xs i cs bs);
      place = rw length-append (omega (arith, p.place, q.place));
    }

-- a text from the start on, where there is room
pub puts_stands : {xs ys text : List ℕ} {n : ℕ} → length xs < 2 ^ 64 → Puts xs 0 text ys n → length text ≤ length xs → Stands text xs ys n
puts_stands {xs} {ys} {text} {n} f p h =
    let e : 0 + length text ≤ length xs = omega arith in
    record { count = omega (arith, p.place); room = h; bytes = p.bytes ∙ (rw zero-add at (sets-eq text xs 0 e)) }

-- how many bytes a text needs, from the answer of a writer that was lent none
pub puts_count : {xs ys text : List ℕ} {n : ℕ} → Puts xs 0 text ys n → length text < 2 ^ 64 → n ≡ length text
puts_count p h = omega (arith, p.place)
