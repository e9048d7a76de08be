-- What the making of a table answers.
use Rattle.std.specs.Prelude.{◌≡◌, ℕ, List, Ok, Err, vec_items, Result}
use Rattle.edges.specs.declared.edge.Edge.{Edge}
use Rattle.edges.specs.declared.table.EdgeTable.{EdgeTable}
use Rattle.edges.specs.declared.table.build.TableFault.{TableFault}
use Rattle.edges.specs.declared.table.build.TableFault.TheVariants.{Memory, NoTask}
use Rattle.edges.specs.Edges.{Within}

-- the edges of a table, in the order of the file
abbrev pub listed : EdgeTable → List Edge
listed t = vec_items t.edges

-- the table has what was asked; or memory is short; or an end is no task
abbrev pub Tabled : ℕ → List Edge → Result EdgeTable TableFault → Type 0
Tabled n es (Ok t) = (t.tasks ≡ n) × (listed t ≡ es)
Tabled n es (Err Memory) = Within es n
Tabled n es (Err NoTask) = Within es n → ⊥
