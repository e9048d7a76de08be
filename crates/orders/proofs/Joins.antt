-- Pairs in a set: one pair put in, and what a reader of edges learns.
use Rattle.std.proofs.Common.{◌≡◌, ℕ, ◌+◌, ◌*◌, ◌<◌, Bool, true, false, ◌&&◌, ◌||◌, eqb, List, length, get_or, take, sym, refl, ap, ◌∙◌, subst, inl, inr, arith}
use Rattle.std.proofs.lemmas.Bool.{cases_lt, eq-eqb, eqb-true, lt-ltb, le-ltb, and_parts, and_from}
use Rattle.std.proofs.lemmas.List.{get_or-take, length-take}
use Rattle.scans.specs.Scans.{some_in}
use Rattle.scans.proofs.Lists.{some_in_more}
use Rattle.edges.specs.declared.edge.Edge.{Edge}
use Rattle.edges.specs.Edges.{no_edge}
use Rattle.orders.specs.Marks.{marked, joined}
use Rattle.orders.specs.PairSets.{Repeats, Reads}
use Rattle.orders.proofs.Results.{one_in}
use Rattle.orders.proofs.Ways.{find_in}

pub joined_bit : (words : List ℕ) (p q : ℕ) → p < 512 → q < 512 → joined words p q ≡ marked words (p * 512 + q)
joined_bit words p q pl ql = let a = lt-ltb p 512 pl in let b = lt-ltb q 512 ql in simp (a, b)

pub joined_none : (words : List ℕ) (p q : ℕ) → marked words (p * 512 + q) ≡ false → joined words p q ≡ false
joined_none words p q e = elim (cases_lt p 512) [
  | inl pl ↦ elim (cases_lt q 512) [
    | inl ql ↦ joined_bit words p q pl ql ∙ e
    | inr ge ↦ (let a = lt-ltb p 512 pl in let b = le-ltb q 512 ge in simp (a, b))
  ]
  | inr ge ↦ (let a = le-ltb p 512 ge in simp a)
]

-- the pair is put in, and no other
abbrev pub Puts : (ℕ → ℕ → Bool) → ℕ → ℕ → (ℕ → ℕ → Bool) → Type 0
Puts was from to is = (p q : ℕ) → p < 512 → q < 512 → is p q ≡ ((eqb p from && eqb q to) || was p q)

or_swap : (a b : Bool) → (a || b) ≡ (b || a)
or_swap true true = refl
or_swap true false = refl
or_swap false true = refl
or_swap false false = refl

-- edge e joins the pair (p, q)
abbrev joins : ℕ → ℕ → Edge → Bool
joins p q e = eqb p e.from && eqb q e.to

repeated : (es : List Edge) (i from to : ℕ) → i < length es → (get_or es i no_edge).from ≡ from → (get_or es i no_edge).to ≡ to → some_in (joins from to) (take i es) ≡ true → (j : ℕ) × Repeats es j i
repeated es i from to il a b e =
    let f = find_in (joins from to) (take i es) e in
    let j = f.0 in
    let ji : j < i = omega (arith, f.1, length-take i es) in
    let y = subst (λ (x : Edge). joins from to x ≡ true) (get_or-take i es j no_edge ji) f.2 in
    let parts = and_parts (eqb from (get_or es j no_edge).from) (eqb to (get_or es j no_edge).to) y in
    (j, (ji, il, sym (eqb-true _ _ parts.0) ∙ sym a, sym (eqb-true _ _ parts.1) ∙ sym b))

joins_earlier : (es : List Edge) (i from to : ℕ) → (get_or es i no_edge).from ≡ from → (get_or es i no_edge).to ≡ to → (j : ℕ) × Repeats es j i → some_in (joins from to) (take i es) ≡ true
joins_earlier es i from to a b r =
    let j = r.0 in
    let here : joins from to (get_or es j no_edge) ≡ true = and_from (eqb from (get_or es j no_edge).from) (eqb to (get_or es j no_edge).to) (eq-eqb from _ (sym a ∙ sym r.1.2)) (eq-eqb to _ (sym b ∙ sym r.1.3)) in
    one_in (joins from to) (take i es) j (omega (arith, r.1.0, r.1.1, length-take i es)) (subst (λ (x : Edge). joins from to x ≡ true) (sym (get_or-take i es j no_edge r.1.0)) here)

pub reads : (was : ℕ → ℕ → Bool) (from to : ℕ) (r : Bool) (is : ℕ → ℕ → Bool) → r ≡ was from to → Puts was from to is → Reads was from to r is
reads was from to r is e puts = record {
  tells = λ es i next.
      let same : r ≡ some_in (joins from to) (take i es) = e ∙ next.filled from to next.tasks.0 next.tasks.1 in (
        (λ y. repeated es i from to next.index next.source next.target (sym same ∙ y)),
        (λ d. same ∙ joins_earlier es i from to next.source next.target d),
      );
  more = λ es i next p q pl ql.
      let at : joins p q (get_or es i no_edge) ≡ (eqb p from && eqb q to) = ap (λ (x : ℕ). eqb p x && eqb q (get_or es i no_edge).to) next.source ∙ ap (λ (x : ℕ). eqb p from && eqb q x) next.target in
      puts p q pl ql ∙ ap (λ (x : Bool). (eqb p from && eqb q to) || x) (next.filled p q pl ql) ∙ or_swap (eqb p from && eqb q to) (some_in (joins p q) (take i es)) ∙ ap (λ (x : Bool). some_in (joins p q) (take i es) || x) (sym at) ∙ sym (some_in_more (joins p q) es i no_edge next.index);
}
