-- One pass over the order of a graph, from its end: each task is visited after all its successors.
use Rattle.std.proofs.Common.{◌≡◌, ℕ, ◌+◌, ◌^◌, ◌<◌, ◌≤◌, List, [], ◌∷◌, ◌++◌, length-append, length, get_or, set, vec_items, sym, ap, ◌∙◌, inl, inr, arith}
use Rattle.std.proofs.lemmas.List.{get_or-set_same, get_or-set_other, get_or_append_left}
use Rattle.std.proofs.Math.Seq.{get_or-append_seam}
use Rattle.std.proofs.lemmas.Bool.{cases_eq}
use Rattle.graphs.specs.declared.graph.Graph.{Graph}
use Rattle.graphs.specs.Graphs.{model_of}
use Rattle.graphs.proofs.Sound.{sound}
use Rattle.links.specs.Links.{Arrives, Lawful}
use Rattle.levels.specs.Levels.{level_of_task, b_level_of}
use Rattle.levels.proofs.Levels.{level_same, b_level_of_low, b_level_of_is}

abbrev rank_of : Graph → ℕ → ℕ
rank_of g t = get_or (vec_items g.rank) t 0

-- the tasks from place i of the order on have their levels, and past the tasks all is 0
pub record Visited (arrives : Arrives) (g : Graph) (i : ℕ) (levels : List ℕ) : Type 0 where
  pub done : (t : ℕ) → t < (model_of g).tasks → i ≤ get_or (vec_items g.rank) t 0 → get_or levels t 0 ≡ b_level_of arrives (model_of g) t
  pub past : (k : ℕ) → (model_of g).tasks ≤ k → get_or levels k 0 ≡ 0
  pub low : (k : ℕ) → get_or levels k 0 < 2 ^ 62

-- what is left of the order, from its front
pub record Left (g : Graph) (rest : List ℕ) : Type 0 where
  pub few : length rest ≤ (model_of g).tasks
  pub places : (k : ℕ) → k < length rest → get_or rest k 0 ≡ get_or (vec_items g.order) k 0

-- its last place is taken off
module _ (g : Graph) (was rest : List ℕ) (t : ℕ) (taken : was ≡ rest ++ t ∷ []) (left : Left g was) where
  pub left_one_more : length rest + 1 ≡ length was
  left_one_more = omega (arith, ap length taken, length-append rest (t ∷ []))

  pub left_less : Left g rest
  left_less = record {
    few = omega (arith, left_one_more, left.few);
    places = λ k l. sym (get_or_append_left rest (t ∷ []) 0 k l) ∙ ap (λ (xs : List ℕ). get_or xs k 0) (sym taken) ∙ left.places k (omega (arith, left_one_more));
  }

  pub left_last : t ≡ get_or (vec_items g.order) (length rest) 0
  left_last = sym (get_or-append_seam rest t [] 0) ∙ ap (λ (xs : List ℕ). get_or xs (length rest) 0) (sym taken) ∙ left.places (length rest) (omega (arith, left_one_more))

module _ (arrives : Arrives) (lawful : Lawful arrives) (g : Graph) where
  -- one visit more, of the task at place j
  module _ (levels : List ℕ) (i j t level : ℕ) (here : t ≡ get_or (vec_items g.order) j 0) (next : j + 1 ≡ i) (jl : j < (model_of g).tasks) (rows : (model_of g).tasks ≤ length levels)
      (was : Visited arrives g i levels) (found : level ≡ level_of_task arrives (model_of g) (λ k. get_or levels k 0) t) where
    task : t < (model_of g).tasks
    task = omega (arith, here, (g.listed j jl).0)

    rank : rank_of g t ≡ j
    rank = ap (rank_of g) here ∙ (g.listed j jl).1

    level_is : level ≡ b_level_of arrives (model_of g) t
    level_is =
        let later = λ (k : ℕ) (kl : k < (model_of g).edges) (e : (model_of g).from k ≡ t). was.done ((model_of g).to k) ((sound g).known k kl).1 (omega (arith, g.forward k kl, ap (rank_of g) e, rank)) in
        found ∙ level_same arrives (model_of g) (λ k. get_or levels k 0) (b_level_of arrives (model_of g)) t later ∙ sym (b_level_of_is arrives (model_of g) (sound g).known (sound g).acyclic t task)

    -- another task stands at another place
    elsewhere : (u : ℕ) → u < (model_of g).tasks → (u ≡ t → ⊥) → rank_of g u ≡ j → ⊥
    elsewhere u l ne e = ne (sym (g.ranked u l).1 ∙ ap (λ (n : ℕ). get_or (vec_items g.order) n 0) e ∙ sym here)

    same : get_or (set levels t level) t 0 ≡ level
    same = get_or-set_same levels t level 0 (omega (arith, task))

    other : (u : ℕ) → (u ≡ t → ⊥) → get_or (set levels t level) u 0 ≡ get_or levels u 0
    other u ne = get_or-set_other levels t u level 0 ne

    pub visited_more : Visited arrives g j (set levels t level)
    visited_more = record {
      done = λ u l h. elim (cases_eq u t) [
        | inl e ↦ ap (λ (n : ℕ). get_or (set levels t level) n 0) e ∙ same ∙ level_is ∙ ap (b_level_of arrives (model_of g)) (sym e)
        | inr ne ↦ other u ne ∙ was.done u l (let apart = elsewhere u l ne in elim (cases_eq (rank_of g u) j) [ inl e ↦ absurd (apart e) | inr far ↦ omega arith ])
      ];
      past = λ k le. other k (λ e. omega (arith, task, e)) ∙ was.past k le;
      low = λ k. elim (cases_eq k t) [
        | inl e ↦ omega (arith, ap (λ (n : ℕ). get_or (set levels t level) n 0) e, same, level_is, b_level_of_low arrives (model_of g) lawful (sound g) t)
        | inr ne ↦ omega (arith, other k ne, was.low k)
      ];
    }
