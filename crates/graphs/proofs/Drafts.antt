-- What a record counts for while a draft is read.
use Rattle.std.proofs.Common.{◌≡◌, ℕ, ◌+◌, ◌<◌, refl, arith}
use Rattle.records.specs.declared.types.Head.{Head}
use Rattle.records.specs.Records.{Item, task, edge, end, read_after, Due}

-- a record that is due while records are left is counted
pub counts_on : (h : Head) (read len at : ℕ) (i : Item) → Due h read len at i → read < h.tasks + h.edges → read_after i read ≡ read + 1
counts_on h read len at (task place name time size) due l = refl
counts_on h read len at (edge from to amount) due l = refl
counts_on h read len at end due l = absurd (omega arith)
