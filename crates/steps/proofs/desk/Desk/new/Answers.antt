use Rattle.std.proofs.Common.{is_some, sym, refl, ap, ◌∙◌}
use Rattle.graphs.specs.Graphs.{model_of}
use Rattle.steps.specs.Lanes.{free_in, used_in}
use Rattle.steps.proofs.Places.{early_none, lane_none, open_none, free_none, in_use_none}
use Rattle.steps.proofs.desk.Desk.new.Goals as goal

pub invariant_of-result : goal.invariant_of-result
invariant_of-result c =
    let g = model_of c.args.graph.now in
    record {
      sized = refl;
      wide = refl;
      early = early_none g;
      opens = λ w. ap is_some (lane_none w) ∙ sym (open_none g w);
      frees = λ w. ap free_in (lane_none w) ∙ sym (free_none g w);
      uses = λ w. ap used_in (lane_none w) ∙ sym (in_use_none g w);
    }
