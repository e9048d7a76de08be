use Rattle.std.proofs.Common.{◌≡◌, ℕ, ◌≤◌, length, sym, refl, ◌∙◌, arith}
use Rattle.std.proofs.lemmas.Bool.{both_ways}
use Rattle.graphs.specs.Graphs.{model_of}
use Rattle.graphs.proofs.Sound.{sound}
use Rattle.links.specs.Links.{Arrives}
use Rattle.planner.proofs.Laws.{plan_laws}
use Rattle.planner.proofs.Outcomes.{outcome_rules, planning_enough, planning_short, enough_long}
use Rattle.planner.proofs.types.Planner.plan.Goals as goal

pub fill-requires : goal.fill-requires
fill-requires g c = enough_long _ _ _ (sym c.are_enough.ensures ∙ c.if-not-are_enough.false)

pub returns-then-not-are_enough : goal.returns-then-not-are_enough
returns-then-not-are_enough g c =
    let p = c.args.self.now in
    let a : Arrives = g.L.Link.arrives p.link.now in
    let no = sym c.are_enough.ensures ∙ c.if-not-are_enough.true in
    record {
      is = planning_short p.limits p.policy a (model_of c.args.graph.now) _ no;
      outcome = λ yes. absurd (both_ways _ no yes);
      short = λ _. (refl, refl, refl);
      rules = λ n e. absurd (let z : ◌≡◌ {A = ℕ} 0 1 = cc in omega arith);
      laws = plan_laws;
    }

pub returns : goal.returns
returns g c =
    let p = c.args.self.now in
    let a : Arrives = g.L.Link.arrives p.link.now in
    let gr = c.args.graph.now in
    let yes = sym c.are_enough.ensures ∙ c.if-not-are_enough.false in
    let long : 512 ≤ length c.args.rows.now = (enough_long (length c.args.rows.now) (length c.args.levels.now) (length c.args.queue.now) yes).0 in
    let out = c.fill.ensures in
    record {
      is = planning_enough p.limits p.policy a (model_of gr) _ c.fill.result _ _ yes out;
      outcome = λ _. out;
      short = λ no. absurd (both_ways _ no yes);
      rules = outcome_rules p.limits p.policy a (model_of gr) (sound gr) c.fill.result _ _ (omega arith) out;
      laws = plan_laws;
    }
