use Rattle.graphs.specs.Graphs.{model_of}
use Rattle.steps.proofs.Steps.{in_words}
use Rattle.steps.proofs.desk.Desk.seat.Goals as goal

pub returns-then-limits-gt-WORKERS-clause-words : goal.returns-then-limits-gt-WORKERS-clause-words
returns-then-limits-gt-WORKERS-clause-words g c = let s = c.args.self.now in in_words c.args.limits (g.L.Link.arrives c.args.link.now) (model_of s.graph.now) s.seats c.args.t

pub returns-clause-words : goal.returns-clause-words
returns-clause-words g c = let s = c.args.self.now in in_words c.args.limits (g.L.Link.arrives c.args.link.now) (model_of s.graph.now) s.seats c.args.t
