-- What a link that is chosen at run time means, and what its making answers.
use Rattle.std.specs.Prelude.{ℕ, Result, MatchResult}
use Rattle.links.specs.Limits.{LowestTold}
use Rattle.links.specs.Links.{Arrives, matrix, packing, rate, slot}
use Rattle.links.specs.declared.any.AnyLink.{AnyLink}
use Rattle.links.specs.declared.any.AnyLink.TheVariants.{Rated, Table, Slotted', Packed'}
use Rattle.links.specs.declared.any.PileFault.{PileFault}
use Rattle.links.specs.declared.any.PileFault.TheVariants.{Limit, Memory}

-- the meaning of a pile is that of its layers; p stands for the box's pointer
abbrev pub chosen : AnyLink → Arrives
chosen (Rated r) = rate r.base r.each
chosen (Table x) = matrix x.value.entries
chosen (Slotted' p period below) = slot period.ticks (chosen below)
chosen (Packed' p handling below) = packing handling.pack handling.unpack (chosen below)

abbrev pub PileRefused : (ℕ → Type 0) → PileFault → Type 0
PileRefused outside (Limit fault) = LowestTold outside fault
PileRefused outside Memory = (p : ℕ) → outside p → ⊥

-- as `Made`, and memory may run out where nothing is outside its limits
abbrev pub Piled : (ℕ → Type 0) → (AnyLink → Type 0) → Result AnyLink PileFault → Type 0
Piled outside asked r = MatchResult r (λ made. ((p : ℕ) → outside p → ⊥) × asked made) (PileRefused outside)
