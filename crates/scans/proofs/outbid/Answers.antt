use Rattle.scans.proofs.Bids.{best_is_chosen}
use Rattle.scans.proofs.outbid.Goals as goal

pub returns : goal.returns
returns c = record { is = c.better.ensures; chosen = best_is_chosen }
