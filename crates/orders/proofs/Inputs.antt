-- Inputs of a task that come from different tasks are no more than the tasks.
use Rattle.std.proofs.Common.{◌≡◌, ℕ, zero, suc, ◌<◌, ◌≤◌, Bool, true, eqb, List, [], ◌∷◌, length, get_or, filter, sym, refl, ap, ◌∙◌, inl, inr, arith}
use Rattle.std.proofs.lemmas.List.Elements.{All-filter, All-from_get_or}
use Rattle.std.proofs.lemmas.Bool.{cases_eq, cases_Bool, eqb-true}
use Rattle.scans.specs.Scans.{total}
use Rattle.scans.proofs.Scans.{total_under}
use Rattle.edges.specs.declared.edge.Edge.{Edge}
use Rattle.edges.specs.declared.edge.Side.TheVariants.{From}
use Rattle.edges.specs.Edges.{no_edge, end_on, into, out_of, Within}
use Rattle.edges.specs.Groups.{begin}
use Rattle.edges.proofs.Regroups.{begin_full}
use Rattle.orders.specs.PairSets.{Repeats}
use Rattle.orders.specs.Inputs.{FewInputs}

-- a sum of ones and zeros with a zero in it
total_less : (f : ℕ → ℕ) (n t : ℕ) → ((u : ℕ) → f u ≤ 1) → t < n → f t ≡ 0 → total f n < n
total_less f zero t h tl z = absurd (omega arith)
total_less f (suc n) t h tl z = elim (cases_eq n t) [
  | inl e ↦ omega (arith, total_under f n h, ap f e)
  | inr ne ↦ omega (arith, total_less f n t h (omega arith) z, h n)
]

none_both : (p q : Edge → Bool) (es : List Edge) → ((j : ℕ) → j < length es → q (get_or es j no_edge) ≡ true → p (get_or es j no_edge) ≡ true → ⊥) → length (filter p (filter q es)) ≡ 0
none_both p q [] h = refl
none_both p q (e ∷ es) h =
    let ih = none_both p q es (λ j lt. h (suc j) (omega arith)) in
    elim (cases_Bool (q e)) [
      | inl y ↦ elim (cases_Bool (p e)) [
        | inl z ↦ absurd (h 0 (omega arith) y z)
        | inr z ↦ simp (y, z) ih
      ]
      | inr n ↦ simp n ih
    ]

one_both : (p q : Edge → Bool) (es : List Edge) → ((i j : ℕ) → i < j → j < length es → q (get_or es i no_edge) ≡ true → p (get_or es i no_edge) ≡ true → q (get_or es j no_edge) ≡ true → p (get_or es j no_edge) ≡ true → ⊥) → length (filter p (filter q es)) ≤ 1
one_both p q [] h = omega arith
one_both p q (e ∷ es) h =
    let ih = one_both p q es (λ i j ij lt. h (suc i) (suc j) (omega arith) (omega arith)) in
    elim (cases_Bool (q e)) [
      | inl y ↦ elim (cases_Bool (p e)) [
        | inl z ↦ (let none = none_both p q es (λ j lt a b. h 0 (suc j) (omega arith) (omega arith) y z a b) in simp (y, z) (omega (arith, none)))
        | inr z ↦ simp (y, z) ih
      ]
      | inr n ↦ simp n ih
    ]

-- the inputs of t, counted by their sources
inputs_full : (es : List Edge) (n t : ℕ) → Within es n → length (into es t) ≤ total (λ f. length (out_of (into es t) f)) n
unfolding begin
inputs_full es n t w = omega (arith, begin_full (end_on From) (into es t) n (All-filter (λ (e : Edge). eqb e.to t) (λ (e : Edge). e.from < n) es (All-from_get_or (λ (e : Edge). e.from < n) es no_edge (λ k l. (w k l).0))))

inputs_each : (es : List Edge) (t f : ℕ) → ((j k : ℕ) → Repeats es j k → ⊥) → length (out_of (into es t) f) ≤ 1
inputs_each es t f once =
    one_both (λ e. eqb e.from f) (λ e. eqb e.to t) es (λ i j ij jl qi pi qj pj.
    once i j (ij, jl, eqb-true _ f pi ∙ sym (eqb-true _ f pj), eqb-true _ t qi ∙ sym (eqb-true _ t qj)))

pub few_inputs : FewInputs
few_inputs = record {
  most = λ es n t w once. omega (arith, inputs_full es n t w, total_under (λ f. length (out_of (into es t) f)) n (λ f. inputs_each es t f once));
  less = λ es n t w once apart tl.
      let none = none_both (λ e. eqb e.from t) (λ e. eqb e.to t) es (λ j jl q p. apart j jl (eqb-true _ t p ∙ sym (eqb-true _ t q))) in
      omega (arith, inputs_full es n t w, total_less (λ f. length (out_of (into es t) f)) n t (λ f. inputs_each es t f once) tl none);
}
