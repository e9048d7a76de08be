use Rattle.std.proofs.Common.{vec_items}
use Rattle.edges.specs.declared.edge.Side.TheVariants.{To}
use Rattle.edges.proofs.Views.{shown, within_by}
use Rattle.edges.proofs.table.EdgeTable.inputs.Goals as goal

pub returns-clause-within : goal.returns-clause-within
returns-clause-within c =
    let s = c.args.self.now in
    λ k l. let w = within_by To (vec_items s.edges) _ s.tasks c.args.t (shown To _ s.tasks s.target _ c.args.t s.target_sorted c.share.ensures) s.within k l in (w.0, w.2)
