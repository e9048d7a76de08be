-- The text of a plan that keeps the rules is a sheet.
use Rattle.std.proofs.Common.{◌≡◌, ℕ, zero, suc, ◌+◌, ◌<◌, ◌≤◌, false, List, map, sym, refl, inl, inr, arith}
use Rattle.std.specs.List.{range_with_len}
use Rattle.std.proofs.lemmas.Bool.{cases_lt}
use Rattle.std.proofs.lemmas.Bool.Decides.{nat_tests}
use Rattle.graphs.specs.declared.types.Name.{Name}
use Rattle.graphs.specs.Model.{Sound}
use Rattle.heaps.specs.declared.entries.Line.{Line}
use Rattle.heaps.specs.Entries.{above}
use Rattle.heaps.proofs.Inserts.{ordered_in_order, ordered_shuffled}
use Rattle.heaps.specs.Keys.{above_total}
use Rattle.plans.specs.Jobs.{Job}
use Rattle.plans.specs.Rules.{Rules}
use Rattle.sheets.specs.Sheets.{line_of, lined, lines_of, sheet_text, Before, Sheet}
use Rattle.sheets.proofs.Lined.{all_lined}
use Rattle.sheets.proofs.Pairs.{Pairs, pairs_at, pairs_ordered}

-- not both start and worker are the same
abbrev Differ : Line → Line → Type 0
Differ a b = a.start ≡ b.start → a.worker ≡ b.worker → ⊥

rises_from : (a b : Line) → above b a ≡ false → Differ a b → Before a b
rises_from a b e d = elim (cases_lt a.start b.start) [
  | inl l ↦ inl l
  | inr g ↦ (
      let s : a.start ≡ b.start = grind (arith, nat_tests) in
      let w : a.worker ≤ b.worker = grind (arith, nat_tests) in
      inr (s, elim (cases_lt a.worker b.worker) [ inl l ↦ l | inr m ↦ absurd (d s (omega arith)) ]))
]

module _ (j : Job) (sound : Sound j.graph) (rules : Rules j) where
  -- two tasks of one worker do not start at one tick, since the one ends before the other starts
  differ : (t u : ℕ) → t < u → u < j.graph.tasks → Differ (line_of j t) (line_of j u)
  differ t u p q s w = elim (rules.apart t (omega arith) u q (omega arith) w) [
    | inl e ↦ omega (arith, sound.lasting t (omega arith))
    | inr e ↦ omega (arith, sound.lasting u q)
  ]

  all_differ : (a n : ℕ) → a + n ≤ j.graph.tasks → Pairs Differ (map (line_of j) (range_with_len a n))
  all_differ a zero h = tt
  all_differ a (suc n) h =
      (all_lined j (Differ (line_of j a)) (a + 1) n (λ t p q. differ a t (omega arith) (omega arith)), all_differ (a + 1) n (omega arith))

  pub text_lawful : (names : List Name) → Sheet j names (sheet_text j names)
  unfolding sheet_text
  text_lawful names =
      let lines = lined j j.graph.tasks in
      let pairs = pairs_ordered Differ above above_total (λ x y d s w. d (sym s) (sym w)) lines (all_differ 0 j.graph.tasks (omega arith)) in
      record {
        lines = lines_of j;
        each = ordered_shuffled above above_total lines;
        rises = λ i k d p q. rises_from _ _ (ordered_in_order above above_total lines i k d (omega arith) q) (pairs_at Differ (lines_of j) i k d pairs p q);
        is = refl;
      }
