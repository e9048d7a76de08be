use Rattle.std.proofs.Common.{Ok, Err, sym, ◌∙◌}
use Rattle.edges.specs.Tables.{listed}
use Rattle.orders.specs.declared.order.OrderFault.TheVariants.{Cycle}
use Rattle.orders.specs.Answers.{Answered}
use Rattle.orders.proofs.Results.{first_stuck, all_ordered}
use Rattle.orders.proofs.Ways.{stuck_law, cycle_law}
use Rattle.orders.proofs.order.order_tasks.Goals as goal

pub returns-in_err-search-clause-stuck : goal.returns-in_err-search-clause-stuck
returns-in_err-search-clause-stuck c = stuck_law (listed c.args.table.now) c.args.table.now.tasks c.args.table.now.within

pub returns-in-Some : goal.returns-in-Some
returns-in-Some c =
    let t = c.args.table.now in
    let answered : Answered (listed t) t.tasks (Err (Cycle c.in-Some.task)) = sym (first_stuck (listed t) t.tasks c.in_ok-search.search t.within c.in_ok-search.ensures) ∙ sym c.first_waiting.ensures ∙ c.in-Some.is in
    record { answered = answered; stuck = stuck_law (listed t) t.tasks t.within; cycles = cycle_law (listed t) t.tasks (Err (Cycle c.in-Some.task)) t.within answered }

pub returns-in-None : goal.returns-in-None
returns-in-None c =
    let t = c.args.table.now in
    let s = c.in_ok-search.search in
    let none = sym c.first_waiting.ensures ∙ c.in-None.is in
    let answered : Answered (listed t) t.tasks (Ok (record { order = s.order; rank = s.rank })) = (all_ordered (listed t) t.tasks s t.within c.in_ok-search.ensures none, sym (first_stuck (listed t) t.tasks s t.within c.in_ok-search.ensures) ∙ none) in
    record { answered = answered; stuck = stuck_law (listed t) t.tasks t.within; cycles = cycle_law (listed t) t.tasks (Ok (record { order = s.order; rank = s.rank })) t.within answered }
