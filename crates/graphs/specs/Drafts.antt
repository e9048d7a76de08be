-- The parts of a graph while its file is read.
use Rattle.std.specs.Prelude.{◌≡◌, ◌<◌, ◌≤◌, map, length, Ok, Err, vec_items, Result}
use Rattle.records.specs.Records.{Item, task, edge, end}
use Rattle.graphs.specs.declared.draft.Draft.{Draft}
use Rattle.graphs.specs.declared.fault.GraphFault.{GraphFault}
use Rattle.graphs.specs.Graphs.{spelled}
use Rattle.graphs.specs.Parts.{Parts, parts_over}
use Rattle.graphs.specs.Files.{Denies}

abbrev pub drafted : Draft → Parts
drafted d = parts_over (vec_items d.tasks) (map spelled (vec_items d.names)) (vec_items d.edges)

-- a record that a draft has room for
abbrev pub Ready : Item → Type 0
Ready (task place name time size) = (1 ≤ length name) × (length name ≤ 31)
Ready (edge from to amount) = (from < 512) × (to < 512)
Ready end = Unit {0}

-- the answer of what adds to a draft, and the draft that it leaves
abbrev pub Adds : Result Parts GraphFault → Result (Unit {0}) GraphFault → Draft → Type 0
Adds g (Ok _) d = g ≡ Ok (drafted d)
Adds g (Err e) d = Denies g e
