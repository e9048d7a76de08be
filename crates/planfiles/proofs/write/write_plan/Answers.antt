use Rattle.planfiles.proofs.Written.{wrote_is, wrote_leaves, written_back}
use Rattle.planfiles.proofs.write.write_plan.Goals as goal

pub returns : goal.returns
returns c =
    let t = c.lay_plan.ensures.told in
    record {
      is = wrote_is _ _ _ _ _ c.lay_plan.result t;
      leaves = wrote_leaves _ _ _ _ _ c.lay_plan.result t;
      told = t;
      back = written_back _ _ _ _ _ c.lay_plan.result c.lay_plan.ensures.few t;
    }
