-- The graph of a desk, as numbers and functions.
use Rattle.graphs.specs.Model.{TaskGraph}
use Rattle.graphs.specs.Graphs.{model_of}
use Rattle.steps.specs.declared.desk.Desk.{Desk}

abbrev pub graph_of : Desk → TaskGraph
graph_of d = model_of d.graph.now
