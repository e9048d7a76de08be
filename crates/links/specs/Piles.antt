-- Every pile that is chosen at run time is a lawful link.
use Rattle.links.specs.Laws.{slot_lawful, packing_lawful, rate_lawful, matrix_lawful}
use Rattle.links.specs.Chosen.{chosen}
use Rattle.links.specs.Links.{Lawful}
use Rattle.links.specs.declared.any.AnyLink.{AnyLink}
use Rattle.links.specs.declared.any.AnyLink.TheVariants.{Rated, Table, Slotted', Packed'}

pub chosen_lawful : (l : AnyLink) → Lawful (chosen l)
chosen_lawful (Rated r) = rate_lawful r.base r.each
chosen_lawful (Table x) = matrix_lawful x.value.entries
chosen_lawful (Slotted' p period below) = slot_lawful period.ticks (chosen below) period.limits.0 (chosen_lawful below)
chosen_lawful (Packed' p handling below) = packing_lawful handling.pack handling.unpack (chosen below) (chosen_lawful below)
