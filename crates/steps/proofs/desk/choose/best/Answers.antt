use Rattle.std.proofs.Common.{◌≡◌, sym, subst, refl, ◌∙◌, arith, rules}
use Rattle.std.proofs.lemmas.Fn.{serves_by}
use Rattle.std.proofs.lemmas.Iterator.{YieldsList-from_range}
use Rattle.std.proofs.lemmas.Iterator.Consumers.{fold_from_yields_List}
use Rattle.scans.specs.Bids.{outbids}
use Rattle.steps.proofs.Bidding.{best_by_fold}
use Rattle.steps.proofs.desk.choose.best.Goals as goal

pub fold-leader-requires-clause-callable : goal.fold-leader-requires-clause-callable
fold-leader-requires-clause-callable g c = serves_by _ (λ xs q. q.0.1.now ≡ c.args.bid) (λ xs q x v j k. search rules) _ _ _ _ refl (λ xs t q x u y st j. record { at = λ a. subst (λ b. goal.F-pre g b a.0) (sym j) (c.requires a.0) })

pub returns : goal.returns
returns g c = λ key says.
    let folded = fold_from_yields_List _ (λ o w. outbids c.args.aim o w (key w)) _ _ c.fold-leader.ensures.ran (YieldsList-from_range 0 c.args.workers c.args.workers refl (omega arith)) (λ o w r q k. search rules) in
    let is = folded ∙ best_by_fold c.args.aim key c.args.workers in
    search rules
