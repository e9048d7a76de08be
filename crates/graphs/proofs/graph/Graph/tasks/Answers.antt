use Rattle.graphs.proofs.Sound.{sound}
use Rattle.graphs.proofs.graph.Graph.tasks.Goals as goal

pub returns : goal.returns
returns c = record { is = c.as_slice.ensures.value; sound = sound c.args.self.now }
