-- The best bid is the one that is to be chosen.
use Rattle.std.proofs.Common.{◌≡◌, ℕ, zero, suc, ◌+◌, ◌<◌, Bool, true, false, Some, None, Option, refl, add-one, arith}
use Rattle.std.proofs.lemmas.Bool.{cond_both, ltb-true, ltb-false}
use Rattle.scans.specs.Bids.{Aim, Smallest, Largest, Bid, beats, bid_of, outbids, best_bid, bidder, bids, best, NoWorse, Better, Chosen, BestIsChosen}
use Rattle.scans.proofs.Scans.{each_more}

beats_yes : (aim : Aim) (j k : ℕ) → beats aim j k ≡ true → Better aim j k
beats_yes Smallest j k e = ltb-true j k e
beats_yes Largest j k e = ltb-true k j e

beats_no : (aim : Aim) (j k : ℕ) → beats aim j k ≡ false → NoWorse aim k j
beats_no Smallest j k e = ltb-false j k e
beats_no Largest j k e = ltb-false k j e

equal_no_worse : (aim : Aim) (j k : ℕ) → j ≡ k → NoWorse aim j k
equal_no_worse Smallest j k e = omega arith
equal_no_worse Largest j k e = omega arith

better_no_worse : (aim : Aim) (j k : ℕ) → Better aim j k → NoWorse aim j k
better_no_worse Smallest j k h = omega arith
better_no_worse Largest j k h = omega arith

better_still : (aim : Aim) (j k l : ℕ) → Better aim j k → NoWorse aim k l → Better aim j l
better_still Smallest j k l h g = omega arith
better_still Largest j k l h g = omega arith

-- the best of what was bid below n
abbrev Best : Aim → (ℕ → Option ℕ) → ℕ → Option Bid → Type 0
Best aim bid n None = (v : ℕ) → v < n → bid v ≡ None
Best aim bid n (Some b) =
    (b.by < n) × (bid b.by ≡ Some b.key) × ((v k : ℕ) → v < n → bid v ≡ Some k → NoWorse aim b.key k × (v < b.by → Better aim b.key k))

apart : {x : Option ℕ} {k : ℕ} → x ≡ None → x ≡ Some k → ⊥
apart p q = let z : ◌≡◌ {A = ℕ} 0 1 = cc in omega arith

same : {x : Option ℕ} {j k : ℕ} → x ≡ Some j → x ≡ Some k → j ≡ k
same p q = cc

best_step : (aim : Aim) (bid : ℕ → Option ℕ) (n : ℕ) (o : Option Bid) (x : Option ℕ) → bid n ≡ x → Best aim bid n o → Best aim bid (suc n) (outbids aim o n x)
best_step aim bid n None None e h = each_more (λ v. bid v ≡ None) n h e
best_step aim bid n (Some b) None e h =
    (omega (arith, h.0), h.1, λ v k l. each_more (λ v. bid v ≡ Some k → NoWorse aim b.key k × (v < b.by → Better aim b.key k)) n (λ v i. h.2 v k i) (λ y. absurd (apart e y)) v l)
best_step aim bid n None (Some k) e h =
    (omega arith, e, λ v j l. each_more (λ v. bid v ≡ Some j → NoWorse aim k j × (v < n → Better aim k j)) n (λ v i y. absurd (apart (h v i) y)) (λ y. (equal_no_worse aim k j (same e y), λ i. absurd (omega arith))) v l)
best_step aim bid n (Some b) (Some k) e h = cond_both (beats aim k b.key) (Some (bid_of n k)) (Some b) (Best aim bid (suc n))
    (λ t. let lt = beats_yes aim k b.key t in (
      omega arith,
      e,
      λ v j l. each_more (λ v. bid v ≡ Some j → NoWorse aim k j × (v < n → Better aim k j)) n
          (λ v i y. let f = better_still aim k b.key j lt (h.2 v j i y).0 in (better_no_worse aim k j f, λ _. f))
          (λ y. (equal_no_worse aim k j (same e y), λ i. absurd (omega arith))) v l,
    ))
    (λ t. let ge = beats_no aim k b.key t in (
      omega (arith, h.0),
      h.1,
      λ v j l. each_more (λ v. bid v ≡ Some j → NoWorse aim b.key j × (v < b.by → Better aim b.key j)) n (λ v i. h.2 v j i)
          (λ y. (rw (same e y) at ge, λ i. absurd (omega (arith, h.0)))) v l,
    ))

best_is : (aim : Aim) (bid : ℕ → Option ℕ) (n : ℕ) → Best aim bid n (best_bid aim bid n)
best_is aim bid zero = λ v l. absurd (omega arith)
best_is aim bid (suc n) = best_step aim bid n (best_bid aim bid n) (bid n) refl (best_is aim bid n)

bid_none : (b : Bool) (k : ℕ) → bids b k ≡ None → b ≡ false
bid_none true k e = absurd (let z : ◌≡◌ {A = ℕ} 0 1 = cc in omega arith)
bid_none false k e = refl

bid_is : (b : Bool) (k j : ℕ) → bids b k ≡ Some j → (b ≡ true) × (k ≡ j)
bid_is true k j e = (refl, cc)
bid_is false k j e = absurd (let z : ◌≡◌ {A = ℕ} 0 1 = cc in omega arith)

bid_some : (b : Bool) (k : ℕ) → b ≡ true → bids b k ≡ Some k
bid_some b k e = rw e

module _ (aim : Aim) (passes : ℕ → Bool) (key : ℕ → ℕ) (n : ℕ) where
  chosen : (o : Option Bid) → Best aim (λ v. bids (passes v) (key v)) n o → Chosen aim passes key n (bidder o)
  chosen None h = λ v l. bid_none _ _ (h v l)
  chosen (Some b) h =
      let is = bid_is (passes b.by) (key b.by) b.key h.1 in
      (h.0, is.0, λ v l y. let f = h.2 v (key v) l (bid_some _ _ y) in rw is.1 f)

pub best_is_chosen : BestIsChosen
unfolding best
best_is_chosen aim passes key n = chosen aim passes key n _ (best_is aim _ n)

pub best_bid_more : (aim : Aim) (bid : ℕ → Option ℕ) (n : ℕ) → best_bid aim bid (n + 1) ≡ outbids aim (best_bid aim bid n) n (bid n)
best_bid_more aim bid n = rw add-one
