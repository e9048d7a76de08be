use Rattle.std.proofs.Common.{◌≡◌, sym, ap, ◌∙◌, not}
use Rattle.std.specs.Char.{is_ascii_graphic}
use Rattle.std.specs.List.{position}
use Rattle.records.specs.Names.{judged, name_at}
use Rattle.records.proofs.Names.{name_whole}
use Rattle.records.proofs.read.read_name.Goals as goal
use Rattle.records.proofs.read.read_name.Goals.{In-Some}

-- the file does not cut the name short
whole : (c : In-Some) → name_at c.args.file.now c.args.at ≡ judged c.in_ok-len.start c.in-Some.name.now (position (λ b. not (is_ascii_graphic b)) c.in-Some.name.now)
whole c =
    let part = c.in-Some.ensures.lookup.0 in
    name_whole c.args.file.now c.args.at c.in_ok-len.len c.in_ok-len.start c.in-Some.name.now (sym c.in_ok-len.ensures.is) part.1 part.2

pub returns-in-Some-outside_at-clause-is : goal.returns-in-Some-outside_at-clause-is
returns-in-Some-outside_at-clause-is c = sym (whole (goal.at.returns-in-Some-outside_at-clause-is c).In-Some ∙ ap (judged c.in_ok-len.start c.in-Some.name.now) (sym c.in-Some-outside_at.ensures))

pub returns-clause-is : goal.returns-clause-is
returns-clause-is c = sym (whole (goal.at.returns-clause-is c).In-Some ∙ ap (judged c.in_ok-len.start c.in-Some.name.now) (sym c.in_default-outside_at.ensures))
