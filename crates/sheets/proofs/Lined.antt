-- The lines of the tasks: one line more, what holds of each, and how many bytes they have.
use Rattle.std.proofs.Common.{◌≡◌, ℕ, zero, suc, ◌+◌, ◌<◌, ◌≤◌, List, [], ◌∷◌, map, length, take, sum_by, sym, refl, ap, ◌∙◌, arith, length-append}
use Rattle.std.specs.List.{range_with_len, flat_map, AllByRecursion as All}
use Rattle.std.proofs.lemmas.List.{take_all}
use Rattle.std.proofs.lemmas.List.FromFn.{length-map-range_with_len, get_or-map-range_with_len, take-map-range_with_len}
use Rattle.std.proofs.lemmas.List.Sorted.{sum_by-IsPermutation}
use Rattle.std.proofs.ByRecursion.{all_shuffled}
use Rattle.std.proofs.lemmas.List.Sums.{sum_by-cons}
use Rattle.graphs.specs.declared.types.Name.{Name}
use Rattle.heaps.specs.declared.entries.Line.{Line}
use Rattle.heaps.specs.Orders.{insert, ordered}
use Rattle.heaps.specs.Entries.{above}
use Rattle.heaps.proofs.Inserts.{ordered_more, ordered_shuffled}
use Rattle.heaps.specs.Keys.{above_total}
use Rattle.plans.specs.Jobs.{Job}
use Rattle.sheets.specs.Sheets.{task_text, line_of, lined, lines_of, sheet_text}

length_joined : {X : Type 0} (f : X → List ℕ) (xs : List X) → length (flat_map f xs) ≡ sum_by (λ x. length (f x)) xs
length_joined f [] = refl
length_joined f (x ∷ xs) =
    length-append (f x) (flat_map f xs) ∙ ap (λ (n : ℕ). length (f x) + n) (length_joined f xs) ∙ sym (sum_by-cons (λ y. length (f y)) x xs)

module _ (j : Job) where
  pub lines_more : (t : ℕ) → ordered above (lined j (t + 1)) ≡ insert above (line_of j t) (ordered above (lined j t))
  lines_more t =
      let xs = lined j (t + 1) in
      let x = line_of j t in
      let size = length-map-range_with_len (line_of j) 0 (t + 1) in
      ap (ordered above) (sym (take_all (t + 1) xs (omega arith)))
      ∙ ordered_more above above_total xs t x (omega arith)
      ∙ ap (λ (y : Line). insert above y (ordered above (take t xs))) (get_or-map-range_with_len (line_of j) 0 (t + 1) t t x (omega arith) (omega arith))
      ∙ ap (λ (l : List Line). insert above x (ordered above l)) (take-map-range_with_len (line_of j) 0 (t + 1) t (omega arith))

  pub all_lined : (P : Line → Type 0) (a n : ℕ) → ((t : ℕ) → a ≤ t → t < a + n → P (line_of j t)) → All P (map (line_of j) (range_with_len a n))
  all_lined P a zero h = tt
  all_lined P a (suc n) h = (h a (omega arith) (omega arith), all_lined P (a + 1) n (λ t p q. h t (omega arith) (omega arith)))

  -- each line is that of a task
  pub lines_below : All (λ l. l.task < j.graph.tasks) (lines_of j)
  lines_below =
      let n = j.graph.tasks in
      let all = all_lined (λ l. l.task < n) 0 n (λ t p q. omega arith) in
      all_shuffled (λ l. l.task < n) (lined j n) (lines_of j) (ordered_shuffled above above_total (lined j n)) all

  module _ (names : List Name) where
    abbrev pub size : Line → ℕ
    size l = length (task_text j names l.task)

    -- the order of the lines does not alter how many bytes they have
    pub sheet_size : length (sheet_text j names) ≡ sum_by size (lined j j.graph.tasks)
    unfolding sheet_text
    sheet_size =
        let lines = lined j j.graph.tasks in
        length_joined (λ l. task_text j names l.task) (lines_of j) ∙ sum_by-IsPermutation size lines (lines_of j) (ordered_shuffled above above_total lines)
