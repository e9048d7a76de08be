-- The best of those that bid: each number below n bids a key or does not, and the smallest or the largest key wins.
use Rattle.std.specs.Prelude.{◌≡◌, ℕ, zero, suc, ◌<◌, ◌≤◌, Bool, true, false, cond, Some, None, Option, nat_lt}
pub use Rattle.scans.specs.declared.Aim.{Aim}
pub use Rattle.scans.specs.declared.Aim.TheVariants.{Smallest, Largest}
pub use Rattle.scans.specs.declared.Bid.{Bid}

-- key j wins over key k
abbrev pub beats : Aim → ℕ → ℕ → Bool
beats Smallest j k = nat_lt j k
beats Largest j k = nat_lt k j

abbrev pub bid_of : ℕ → ℕ → Bid
bid_of n k = record { by = n; key = k }

-- the best bid, after n bids a key or does not
abbrev pub outbids : Aim → Option Bid → ℕ → Option ℕ → Option Bid
outbids aim best n None = best
outbids aim None n (Some k) = Some (bid_of n k)
outbids aim (Some b) n (Some k) = cond (beats aim k b.key) (Some (bid_of n k)) (Some b)

abbrev pub best_bid : Aim → (ℕ → Option ℕ) → ℕ → Option Bid
best_bid aim bid zero = None
best_bid aim bid (suc n) = outbids aim (best_bid aim bid n) n (bid n)

abbrev pub bidder : Option Bid → Option ℕ
bidder None = None
bidder (Some b) = Some b.by

-- those that pass bid their key
abbrev pub bids : Bool → ℕ → Option ℕ
bids true k = Some k
bids false k = None

-- of the numbers below n that pass, the one of the best key, the lowest on ties; or none
unfoldable pub best : Aim → (ℕ → Bool) → (ℕ → ℕ) → ℕ → Option ℕ
best aim passes key n = bidder (best_bid aim (λ v. bids (passes v) (key v)) n)

-- key j is as good as key k, and better
abbrev pub NoWorse : Aim → ℕ → ℕ → Type 0
NoWorse Smallest j k = j ≤ k
NoWorse Largest j k = k ≤ j

abbrev pub Better : Aim → ℕ → ℕ → Type 0
Better Smallest j k = j < k
Better Largest j k = k < j

-- what is chosen passes, no other that passes has a better key, and no lower one has as good a key; or none passes
abbrev pub Chosen : Aim → (ℕ → Bool) → (ℕ → ℕ) → ℕ → Option ℕ → Type 0
Chosen aim passes key n None = (v : ℕ) → v < n → passes v ≡ false
Chosen aim passes key n (Some w) =
    (w < n) × (passes w ≡ true) × ((v : ℕ) → v < n → passes v ≡ true → NoWorse aim (key w) (key v) × (v < w → Better aim (key w) (key v)))

abbrev pub BestIsChosen : Type 0
BestIsChosen = (aim : Aim) (passes : ℕ → Bool) (key : ℕ → ℕ) (n : ℕ) → Chosen aim passes key n (best aim passes key n)
