-- The same choice from tests that agree, the one choice that beats all others, and the lowest after one more passes.
use Rattle.std.proofs.Common.{◌≡◌, ℕ, zero, suc, ◌<◌, Bool, true, Some, None, Option, refl, ap, ◌∙◌, inl, inr, arith}
use Rattle.std.proofs.lemmas.Bool.{cases_eq, both_ways}
use Rattle.scans.specs.Scans.{lowest}
use Rattle.scans.specs.declared.Aim.{Aim}
use Rattle.scans.specs.declared.Aim.TheVariants.{Smallest, Largest}
use Rattle.scans.specs.Bids.{best_bid, bidder, bids, best, NoWorse, Better, Chosen}
use Rattle.scans.proofs.Bids.{best_is_chosen}

best_bid_same : (aim : Aim) (p q : ℕ → Bool) (key : ℕ → ℕ) (n : ℕ) → ((k : ℕ) → k < n → p k ≡ q k) → best_bid aim (λ v. bids (p v) (key v)) n ≡ best_bid aim (λ v. bids (q v) (key v)) n
best_bid_same aim p q key zero h = refl
best_bid_same aim p q key (suc n) h = rw (h n (omega arith), best_bid_same aim p q key n (λ k l. h k (omega arith))) refl

pub best_same : (aim : Aim) (p q : ℕ → Bool) (key : ℕ → ℕ) (n : ℕ) → ((k : ℕ) → k < n → p k ≡ q k) → best aim p key n ≡ best aim q key n
unfolding best
best_same aim p q key n h = ap bidder (best_bid_same aim p q key n h)

not_better : (aim : Aim) (j k : ℕ) → Better aim j k → NoWorse aim k j → ⊥
not_better Smallest j k h g = omega arith
not_better Largest j k h g = omega arith

pub best_only : (aim : Aim) (p : ℕ → Bool) (key : ℕ → ℕ) (n t : ℕ) → t < n → p t ≡ true → ((v : ℕ) → v < n → p v ≡ true → (v ≡ t → ⊥) → Better aim (key t) (key v)) → best aim p key n ≡ Some t
best_only aim p key n t l e h = go (best aim p key n) refl (best_is_chosen aim p key n)
  where
    go : (o : Option ℕ) → best aim p key n ≡ o → Chosen aim p key n o → best aim p key n ≡ Some t
    go None is none = absurd (both_ways (p t) (none t l) e)
    go (Some w) is c = elim (cases_eq w t) [
      | inl same ↦ is ∙ ap Some same
      | inr ne ↦ absurd (not_better aim (key t) (key w) (h w c.0 c.1 ne) (c.2 t l e).0)
    ]

pub lowest_same : (p q : ℕ → Bool) (n : ℕ) → ((k : ℕ) → k < n → p k ≡ q k) → lowest p n ≡ lowest q n
lowest_same p q zero h = refl
lowest_same p q (suc n) h = rw (h n (omega arith), lowest_same p q n (λ k l. h k (omega arith))) refl
