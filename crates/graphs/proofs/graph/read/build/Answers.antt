use Rattle.std.proofs.Common.{◌≡◌, ℕ, List, map, length, vec_items, sym, subst, arith}
use Rattle.edges.specs.declared.edge.Edge.{Edge}
use Rattle.edges.specs.Tables.{listed}
use Rattle.orders.specs.Orders.{Ordered}
use Rattle.graphs.specs.Graphs.{spelled}
use Rattle.graphs.specs.Parts.{parts_over, Limited}
use Rattle.graphs.proofs.graph.read.build.Goals as goal
use Rattle.graphs.proofs.graph.read.build.Goals.{In-Ok}

counted : (c : In-Ok) → c.in-Ok.table.tasks ≡ length (vec_items c.args.draft.tasks)
counted c = omega (arith, c.in-Ok.ensures.0, c.len.ensures, c.args.draft.tasks.ok.0)

pub assemble-requires : goal.assemble-requires
assemble-requires c =
    let d = c.args.draft in
    let same = c.in-Ok.ensures.1 in
    let tasks = counted (goal.at.assemble-requires c).In-Ok in
    let table = c.in-Ok.table in
    let found = c.in_ok-found.found in
    record {
      limited = subst (λ (es : List Edge). Limited (parts_over (vec_items d.tasks) (map spelled (vec_items d.names)) es)) (sym same) c.requires;
      joined = tasks;
      ordered = subst (λ (n : ℕ). Ordered (listed table) n (vec_items found.rank) (vec_items found.order)) tasks c.in_ok-found.ensures.answered.0;
    }
