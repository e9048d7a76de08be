use Rattle.plans.proofs.Told.{told_is, told_accepts}
use Rattle.plans.proofs.check.check.Goals as goal

pub returns : goal.returns
returns g c = record {
  is = told_is _ _ c.tell.result c.tell.ensures;
  told = c.tell.ensures;
  accepts = told_accepts _ _ c.tell.result c.tell.ensures;
}
