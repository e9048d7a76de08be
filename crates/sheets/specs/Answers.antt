-- What writing a sheet answers, and what it leaves in the buffer and in the table of lines.
use Rattle.std.specs.Prelude.{◌≡◌, ℕ, ◌<◌, ◌≤◌, cond, List, ◌++◌, length, take, drop, Ok, Err, Result, nat_lt}
use Rattle.graphs.specs.declared.types.Name.{Name}
use Rattle.heaps.specs.declared.entries.Line.{Line}
use Rattle.numbers.specs.Texts.{Stands}
use Rattle.plans.specs.declared.fault.PlanFault.{PlanFault}
use Rattle.plans.specs.declared.fault.PlanFault.TheVariants.{ShortTable, ShortBuffer}
use Rattle.plans.specs.Jobs.{Job}
use Rattle.plans.specs.Rules.{Allowed, Rules}
use Rattle.plans.specs.Checked.{checked, Denied}
use Rattle.sheets.specs.Sheets.{sheet_text, Sheet}

-- after the check, the room: the answer is how many bytes the sheet has, or that they are too many
abbrev pub roomed : ℕ → ℕ → Result ℕ PlanFault → Result ℕ PlanFault
roomed room size (Ok _) = cond (nat_lt room size) (Err (ShortBuffer size)) (Ok size)
roomed room size (Err e) = Err e

-- the answer, where the plan has `rows` rows, the table of lines `table` rows and the buffer `room` bytes
unfoldable pub sheeted : ℕ → ℕ → ℕ → Job → List Name → Result ℕ PlanFault
sheeted rows table room j names = cond (nat_lt table 512) (Err ShortTable) (roomed room (length (sheet_text j names)) (checked rows j))

-- the buffer afterwards: the text in front of the later bytes, or what it was
abbrev pub leaves : List ℕ → List ℕ → Result ℕ PlanFault → List ℕ
leaves text was (Ok n) = text ++ drop n was
leaves text was (Err _) = was

-- the same in the words of the tests: the first that fails, the room last
pub data Unwritten (rows table room size : ℕ) (j : Job) : PlanFault → Type 0 where
  short : table < 512 → Unwritten rows table room size j ShortTable
  unchecked : (e : PlanFault) → 512 ≤ table → Denied rows j e → Unwritten rows table room size j e
  full : 512 ≤ table → Allowed rows j → Rules j → room < size → Unwritten rows table room size j (ShortBuffer size)

-- written: the limits and the rules hold, and the text stands in front; or not, and the buffer is as it was
abbrev pub Written : ℕ → ℕ → Job → List Name → List ℕ → List ℕ → Result ℕ PlanFault → Type 0
Written rows table j names was now (Ok n) = (512 ≤ table) × Allowed rows j × Rules j × Stands (sheet_text j names) was now n
Written rows table j names was now (Err e) = Unwritten rows table (length was) (length (sheet_text j names)) j e × (now ≡ was)

-- the n bytes in front, where n is answered, are a sheet
abbrev pub LinesStand : Job → List Name → List ℕ → Result ℕ PlanFault → Type 0
LinesStand j names now r = (n : ℕ) → r ≡ Ok n → Sheet j names (take n now)

-- the table of lines has as many rows as before, and where no sheet is written the same ones
abbrev pub Lent : List Line → List Line → Result ℕ PlanFault → Type 0
Lent was now r = (length now ≡ length was) × ((e : PlanFault) → r ≡ Err e → now ≡ was)
