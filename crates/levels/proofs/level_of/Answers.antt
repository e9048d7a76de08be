use Rattle.std.proofs.Common.{ℕ, ◌+◌, ◌^◌, get_or, ap, arith}
use Rattle.scans.specs.Scans.{largest_in}
use Rattle.edges.specs.declared.edge.Edge.{Edge}
use Rattle.graphs.specs.Graphs.{tasks_of, edges_of}
use Rattle.levels.proofs.Levels.{level_outputs}
use Rattle.levels.proofs.Largest.{fold_largest, largest_in_under}
use Rattle.levels.proofs.level_of.Goals as goal

pub overflow_add-result : goal.overflow_add-result
overflow_add-result g c =
    let a = g.L.Link.arrives c.args.link.now in
    let way : Edge → ℕ = λ e. a 0 0 1 e.amount + get_or c.args.levels.now e.to 0 in
    let low = largest_in_under way (2 ^ 63) (λ e. omega (arith, (g.met.L.Link.lawful c.args.link.now).ceiling 0 0 1 e.amount, c.requires.low e.to)) c.outputs.result.now in
    omega (arith, c.longest_way.ensures, fold_largest way 0 c.outputs.result.now, low, c.time.ensures.low)

pub returns : goal.returns
returns g c =
    let graph = c.args.graph.now in
    let a = g.L.Link.arrives c.args.link.now in
    let level : ℕ → ℕ = λ k. get_or c.args.levels.now k 0 in
    let way : Edge → ℕ = λ e. a 0 0 1 e.amount + level e.to in
    let longest = fold_largest way 0 c.outputs.result.now in
    omega (arith, c.longest_way.ensures, longest, ap (largest_in way) c.outputs.ensures.is, c.time.ensures.is, level_outputs a (tasks_of graph) (edges_of graph) level c.args.t)
