-- What a graph holds.
use Rattle.std.specs.Prelude.{ℕ, List, map, take, vec_items}
use Rattle.edges.specs.declared.edge.Edge.{Edge}
use Rattle.graphs.specs.declared.types.Task.{Task}
use Rattle.graphs.specs.declared.types.Name.{Name}
use Rattle.graphs.specs.declared.graph.Graph.{Graph}
use Rattle.graphs.specs.Model.{TaskGraph, model}
use Rattle.graphs.specs.Parts.{Parts, parts_over}

-- the tasks, the names and the edges, each in the order of the file
abbrev pub tasks_of : Graph → List Task
tasks_of g = vec_items g.tasks

abbrev pub names_of : Graph → List Name
names_of g = vec_items g.names

abbrev pub edges_of : Graph → List Edge
edges_of g = vec_items g.table.edges

abbrev pub model_of : Graph → TaskGraph
model_of g = model (tasks_of g) (edges_of g)

-- the bytes of a name
abbrev pub spelled : Name → List ℕ
spelled n = take n.len n.bytes

abbrev pub parts_of : Graph → Parts
parts_of g = parts_over (tasks_of g) (map spelled (names_of g)) (edges_of g)
