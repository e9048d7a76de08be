-- One bit marked in a table of words: that bit is 1, and each other is as it was.
use Rattle.std.proofs.Common.{◌≡◌, ℕ, ◌*◌, ◌/◌, ◌%◌, ◌^◌, ◌<◌, Bool, false, ◌||◌, eqb, w64, List, length, get_or, set, replicate, sym, ap, ◌∙◌, inl, inr, arith}
use lib.Bits.{bit_or}
use Rattle.std.specs.Int.{bit_at}
use Rattle.std.proofs.lemmas.Nat.{div-add-mod', mod_below, div_below}
use Rattle.std.proofs.lemmas.Nat.Bits.{bit_at-zero, bit_at_set_same, bit_at_set_other}
use Rattle.std.proofs.lemmas.Bool.{cases_eq, cases_lt, eq-eqb, ne_eqb, or_left}
use Rattle.std.proofs.lemmas.List.{get_or-set_same, get_or-set_other, get_or-replicate, get_or_past, length-replicate}
use Rattle.orders.specs.Marks.{marked}

pub marks : (words : List ℕ) (p : ℕ) → length words ≡ 4096 → p < 262144 → (q : ℕ) → marked (set words (p / 64) (bit_or (get_or words (p / 64) 0) (1 * 2 ^ (p % 64) % 2 ^ 64))) q ≡ (eqb q p || marked words q)
marks words p long pl q =
    let w = get_or words (p / 64) 0 in
    let v = bit_or w (1 * 2 ^ (p % 64) % 2 ^ 64) in
    let inside : p / 64 < length words = omega (arith, div_below p 64 4096 (omega arith) (omega arith)) in
    let low = mod_below p 64 (omega arith) in
    let at : ℕ → Bool = λ n. eqb (bit_at n (q % 64)) 1 in
    elim (cases_eq (q / 64) (p / 64)) [
      | inl e ↦ (let here : get_or (set words (p / 64) v) (q / 64) 0 ≡ v = ap (λ (n : ℕ). get_or (set words (p / 64) v) n 0) e ∙ get_or-set_same words (p / 64) v 0 inside in
          elim (cases_eq (q % 64) (p % 64)) [
            | inl f ↦ (let same : q ≡ p = omega (arith, div-add-mod' q 64, div-add-mod' p 64) in
                ap at here ∙ eq-eqb _ 1 (ap (bit_at v) f ∙ bit_at_set_same w64 w (p % 64) low) ∙ sym (or_left (eqb q p) (marked words q) (eq-eqb q p same)))
            | inr ne ↦ (let no' = ne_eqb q p (λ s. ne (ap (λ (n : ℕ). n % 64) s)) in
                let old : marked words q ≡ at w = ap (λ (n : ℕ). at (get_or words n 0)) e in
                ap at here ∙ ap (λ (n : ℕ). eqb n 1) (bit_at_set_other w64 w (p % 64) low (q % 64) ne) ∙ sym old ∙ sym (ap (λ (b : Bool). b || marked words q) no'))
          ])
      | inr ne ↦ (let no' = ne_eqb q p (λ s. ne (ap (λ (n : ℕ). n / 64) s)) in
          ap at (get_or-set_other words (p / 64) (q / 64) v 0 ne) ∙ sym (ap (λ (b : Bool). b || marked words q) no'))
    ]

-- a new table of zeros has no bit
pub none_marked : (words : List ℕ) (n : ℕ) → words ≡ replicate n 0 → (p : ℕ) → marked words p ≡ false
none_marked words n e p =
    let zero : get_or words (p / 64) 0 ≡ 0 = elim (cases_lt (p / 64) n) [
      | inl l ↦ ap (λ (ws : List ℕ). get_or ws (p / 64) 0) e ∙ get_or-replicate n (p / 64) 0 0 l
      | inr ge ↦ get_or_past words (p / 64) 0 (omega (arith, ap length e, length-replicate {A = ℕ} n 0))
    ] in
    ap (λ (w : ℕ). eqb (bit_at w (p % 64)) 1) zero ∙ ap (λ (b : ℕ). eqb b 1) (bit_at-zero (p % 64))
