use Rattle.std.proofs.Common.{◌+◌, ◌*◌, vec_items}
use Rattle.orders.proofs.Bits.{none_marked}
use Rattle.orders.proofs.Joins.{joined_none}
use Rattle.orders.proofs.pairs.PairSet.new.Goals as goal

pub returns : goal.returns
returns c = λ p q.
    let words = vec_items c.in_ok-words.words in
    joined_none words p q (none_marked words 4096 (c.in_ok-words.ensures.items_if_clones_equal (λ y e. e)) (p * 512 + q))
