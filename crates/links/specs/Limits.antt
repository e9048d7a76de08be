-- What the making of a link answers: the value that was asked for, or the lowest position that is outside its limits.
use Rattle.std.specs.Prelude.{◌≡◌, ℕ, ◌^◌, ◌<◌, ◌⊎◌, List, Result, MatchResult, slice_index}
use Rattle.faults.specs.Faults.{in_plan}
use Rattle.faults.specs.declared.Fault.{Fault}
use Rattle.links.specs.declared.fault.LinkFault.{LinkFault}

-- the numbers of a refusal
abbrev pub link_tells : LinkFault → Fault
link_tells fault = in_plan 11 fault.position

abbrev pub Lowest : (ℕ → Type 0) → ℕ → Type 0
Lowest outside p = outside p × ((q : ℕ) → q < p → outside q → ⊥)

abbrev pub LowestTold : (ℕ → Type 0) → LinkFault → Type 0
LowestTold outside fault = Lowest outside fault.position

-- either nothing is outside its limits and the value made is as asked, or the lowest position outside is told
abbrev pub Made : {A : Type 0} → (ℕ → Type 0) → (A → Type 0) → Result A LinkFault → Type 0
Made outside asked r = MatchResult r (λ made. ((p : ℕ) → outside p → ⊥) × asked made) (LowestTold outside)

-- the positions outside their limits, for the parameters of each link
abbrev pub RateOutside : ℕ → ℕ → ℕ → Type 0
RateOutside base each p = ((p ≡ 1) × (2 ^ 20 < base)) ⊎ ((p ≡ 2) × (2 ^ 10 < each))

abbrev pub MatrixOutside : List ℕ → ℕ → Type 0
MatrixOutside entries p = (p < 256) × (2 ^ 40 < slice_index entries p)

abbrev pub SlotOutside : ℕ → ℕ → Type 0
SlotOutside period p = (p ≡ 1) × ((period ≡ 0) ⊎ (2 ^ 40 < period))

abbrev pub PackingOutside : ℕ → ℕ → ℕ → Type 0
PackingOutside pack unpack p = ((p ≡ 1) × (2 ^ 20 < pack)) ⊎ ((p ≡ 2) × (2 ^ 20 < unpack))
