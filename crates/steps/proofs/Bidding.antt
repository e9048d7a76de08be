-- The best bid of the workers one after another is that of a fold over them.
use Rattle.std.proofs.Common.{◌≡◌, ℕ, zero, suc, ◌+◌, None, Option, sym, ap, ◌∙◌, arith}
use Rattle.std.specs.List.{fold, range_with_len}
use Rattle.scans.specs.declared.Aim.{Aim}
use Rattle.scans.specs.Bids.{outbids, best_bid}
use Rattle.scans.proofs.Bids.{best_bid_more}

module _ (aim : Aim) (key : ℕ → Option ℕ) where
  best_from : (n a : ℕ) → fold (λ o w. outbids aim o w (key w)) (best_bid aim key a) (range_with_len a n) ≡ best_bid aim key (a + n)
  best_from zero a = ap (best_bid aim key) (omega arith)
  best_from (suc n) a = ap (λ o. fold (λ o w. outbids aim o w (key w)) o (range_with_len (a + 1) n)) (sym (best_bid_more aim key a)) ∙ best_from n (a + 1) ∙ ap (best_bid aim key) (omega arith)

  pub best_by_fold : (n : ℕ) → fold (λ o w. outbids aim o w (key w)) None (range_with_len 0 n) ≡ best_bid aim key n
  best_by_fold n = best_from n 0 ∙ ap (best_bid aim key) (omega arith)
