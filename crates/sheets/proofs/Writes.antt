-- What is written, in the words of the tests, is what is computed, and it is a sheet.
use Rattle.std.proofs.Common.{◌≡◌, ℕ, ◌≤◌, List, ◌++◌, length, take, drop, Ok, Err, Result, sym, refl, ap, ◌∙◌, subst, arith}
use Rattle.std.proofs.lemmas.List.{take_at}
use Rattle.std.proofs.lemmas.Bool.{lt-ltb, le-ltb, cond-true, cond-false}
use Rattle.graphs.specs.declared.types.Name.{Name}
use Rattle.graphs.specs.Model.{Sound}
use Rattle.plans.specs.declared.fault.PlanFault.{PlanFault}
use Rattle.plans.specs.Jobs.{Job}
use Rattle.plans.specs.Rules.{Allowed, Rules, latest}
use Rattle.plans.specs.Checked.{checked}
use Rattle.plans.proofs.Told.{told_is}
use Rattle.sheets.specs.Sheets.{sheet_text, Sheet}
use Rattle.sheets.specs.Answers.{roomed, sheeted, leaves, Unwritten, short, unchecked, full, Written, LinesStand}
use Rattle.sheets.proofs.Laws.{text_lawful}

module _ (rows table : ℕ) (j : Job) (names : List Name) (was now : List ℕ) where
  abbrev size : ℕ
  size = length (sheet_text j names)

  abbrev answer : Result ℕ PlanFault
  answer = sheeted rows table (length was) j names

  past : 512 ≤ table → answer ≡ roomed (length was) size (checked rows j)
  unfolding sheeted
  past h = cond-false _ _ _ (le-ltb table 512 h)

  -- the check's answer, in the words of its tests, is what it computes
  checks : 512 ≤ table → Allowed rows j → Rules j → answer ≡ roomed (length was) size (Ok (latest j))
  checks h a r = past h ∙ ap (roomed (length was) size) (sym (told_is rows j (Ok (latest j)) (a, r, refl)))

  unwritten_is : (e : PlanFault) → Unwritten rows table (length was) size j e → answer ≡ Err e
  unfolding sheeted
  unwritten_is _ (short h) = cond-true _ _ _ (lt-ltb table 512 h)
  unwritten_is _ (unchecked e h d) = past h ∙ ap (roomed (length was) size) (sym (told_is rows j (Err e) d))
  unwritten_is _ (full h a r l) = checks h a r ∙ cond-true _ _ _ (lt-ltb _ _ l)

  pub written_is : (r : Result ℕ PlanFault) → Written rows table j names was now r → r ≡ answer
  written_is (Ok n) w = ap Ok w.3.count ∙ sym (checks w.0 w.1 w.2 ∙ cond-false _ _ _ (le-ltb _ _ w.3.room))
  written_is (Err e) w = sym (unwritten_is e w.0)

  pub written_leaves : (r : Result ℕ PlanFault) → Written rows table j names was now r → now ≡ leaves (sheet_text j names) was r
  written_leaves (Ok n) w = w.3.bytes ∙ ap (λ (k : ℕ). sheet_text j names ++ drop k was) (sym w.3.count)
  written_leaves (Err e) w = w.1

  pub written_stands : Sound j.graph → (r : Result ℕ PlanFault) → Written rows table j names was now r → LinesStand j names now r
  written_stands s (Ok n) w m e =
      let i : n ≡ m = cc in
      let front : take n now ≡ sheet_text j names = ap (take n) w.3.bytes ∙ take_at (sheet_text j names) _ n (sym w.3.count) in
      let text : sheet_text j names ≡ take m now = sym front ∙ ap (λ (k : ℕ). take k now) i in
      subst (Sheet j names) text (text_lawful j s w.2 names)
  written_stands s (Err e) w m f = absurd (let z : ◌≡◌ {A = ℕ} 0 1 = cc in omega arith)
