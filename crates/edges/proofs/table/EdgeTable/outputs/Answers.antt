use Rattle.std.proofs.Common.{vec_items}
use Rattle.edges.specs.declared.edge.Side.TheVariants.{From}
use Rattle.edges.proofs.Views.{shown, within_by}
use Rattle.edges.proofs.table.EdgeTable.outputs.Goals as goal

pub returns-clause-within : goal.returns-clause-within
returns-clause-within c =
    let s = c.args.self.now in
    λ k l. let w = within_by From (vec_items s.edges) _ s.tasks c.args.t (shown From _ s.tasks s.source _ c.args.t s.source_sorted c.share.ensures) s.within k l in (w.2, w.1)
