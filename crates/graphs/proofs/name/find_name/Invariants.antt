use Rattle.std.proofs.Common.{◌≡◌, Ok}
use Rattle.graphs.specs.Files.{graph_of}
use Rattle.graphs.specs.Parts.{Parts}
use Rattle.graphs.proofs.Places.{Reached}
use Rattle.graphs.proofs.name.find_name.Given as goal

abbrev pub invariant-loop : goal.invariant-loop
invariant-loop l = (p : Parts) → graph_of l.fn.file ≡ Ok p → Reached l.records l.fn.file p l.counter
