use Rattle.std.proofs.Common.{◌≡◌, ℕ, Bool, true, false, not, rules}
use Rattle.std.proofs.lemmas.Iterator.{first_from_Range}
use Rattle.graphs.specs.Graphs.{model_of}
use Rattle.steps.specs.Seats.{open_test}
use Rattle.steps.proofs.Steps.{lowest_from}
use Rattle.steps.proofs.desk.Desk.third.Goals as goal

pub returns : goal.returns
returns c =
    let s = c.args.self.now in
    let unopened : ℕ → Bool = λ w. not (open_test (model_of s.graph.now) s.seats w) in
    lowest_from unopened c.args.workers c.find.result
    (first_from_Range _ _ _ c.find.result (λ w. unopened w ≡ true) (λ w. unopened w ≡ false) c.find.ensures.ran (λ w q k. search rules) (λ w q k. search rules))
