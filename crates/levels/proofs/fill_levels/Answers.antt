use Rattle.std.proofs.Common.{ℕ, ◌^◌, ◌<◌, get_or, sym, subst}
use Rattle.graphs.specs.Graphs.{model_of}
use Rattle.graphs.proofs.Sound.{sound}
use Rattle.levels.proofs.Levels.{levels_are_unique, level_at_low, levels_by, longest_by}
use Rattle.levels.proofs.fill_levels.Goals as goal

pub returns-then-levels-tasks-clause-unique : goal.returns-then-levels-tasks-clause-unique
returns-then-levels-tasks-clause-unique g c = levels_are_unique

pub returns-clause-low : goal.returns-clause-low
returns-clause-low g c = λ k.
    subst (λ (n : ℕ). n < 2 ^ 62) (sym (c.visit.ensures k)) (level_at_low (g.L.Link.arrives c.args.link.now) (model_of c.args.graph.now) (g.met.L.Link.lawful c.args.link.now) (sound c.args.graph.now) k)

pub returns-clause-relation : goal.returns-clause-relation
returns-clause-relation g c =
    let ok = sound c.args.graph.now in
    levels_by (g.L.Link.arrives c.args.link.now) (model_of c.args.graph.now) ok.known ok.acyclic (λ k. get_or c.visit.new.levels k 0) c.visit.ensures

pub returns-clause-longest : goal.returns-clause-longest
returns-clause-longest g c =
    let ok = sound c.args.graph.now in
    let a = g.L.Link.arrives c.args.link.now in
    let level : ℕ → ℕ = λ k. get_or c.visit.new.levels k 0 in
    longest_by a (model_of c.args.graph.now) level (levels_by a (model_of c.args.graph.now) ok.known ok.acyclic level c.visit.ensures)

pub returns-clause-unique : goal.returns-clause-unique
returns-clause-unique g c = levels_are_unique
