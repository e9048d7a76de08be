use Rattle.std.proofs.Common.{◌≡◌, ◌+◌, ◌-◌}
use Rattle.records.specs.Heads.{Few}
use Rattle.graphs.specs.Drafts.{drafted}
use Rattle.graphs.specs.Files.{all_parts, parts_from}
use Rattle.graphs.proofs.draft.Draft.read.Given as goal

abbrev pub invariant-loop : goal.invariant-loop
invariant-loop l = record {
  few : Few l.records.head;
  turns : l.records.head.tasks + l.records.head.edges ≡ l.end;
  read : l.records.read ≡ l.counter;
  left : all_parts l.fn.file l.fn.head ≡ parts_from (l.end - l.counter) l.records.file.now l.records.head l.records.read l.records.at (drafted l.draft);
}
