-- Rates and matrices are lawful links, and a layer over a lawful link is one.
use Rattle.std.specs.Prelude.{◌≡◌, ℕ, ◌+◌, ◌-◌, ◌*◌, ◌/◌, ◌<◌, ◌≤◌, List}
use Rattle.std.proofs.Common.{ap, le-div_iff_mul-le, mul-le-mul_right, div-mul-le_self, arith}
use Rattle.std.proofs.Math.Nat.{lt-div-mul-add, mul-mod_left}
use Rattle.links.specs.Links.{Arrives, FirstMultiple, Lawful, capped, entry, matrix, packing, raised, rate, slot}

pub raised_first : (s t : ℕ) → 0 < s → FirstMultiple s t (raised s t)
raised_first s t h = record {
  multiple = mul-mod_left ((t + (s - 1)) / s) s;
  after = omega (arith, lt-div-mul-add {a = t + (s - 1)} h);
  first = omega (arith, div-mul-le_self (t + (s - 1)) s);
}

raised_monotone : (s t u : ℕ) → 0 < s → t ≤ u → raised s t ≤ raised s u
raised_monotone s t u h le =
    mul-le-mul_right s ((le-div_iff_mul-le {x = (t + (s - 1)) / s} {y = u + (s - 1)} h).1 (omega (arith, div-mul-le_self (t + (s - 1)) s)))

capped_twice : (t : ℕ) → capped t ≡ capped (capped t)
capped_twice t = omega arith

pub rate_lawful : (base each : ℕ) → Lawful (rate base each)
rate_lawful base each = record {
  after = λ t a b m. omega arith;
  ceiling = λ t a b m. omega arith;
  monotone = λ t u a b m le. omega arith;
  capped_asks = λ t a b m. ap (λ (n : ℕ). capped (n + base + each * m)) (capped_twice t);
}

pub matrix_lawful : (entries : List ℕ) → Lawful (matrix entries)
matrix_lawful entries = record {
  after = λ t a b m. omega arith;
  ceiling = λ t a b m. omega arith;
  monotone = λ t u a b m le. omega arith;
  capped_asks = λ t a b m. ap (λ (n : ℕ). capped (n + entry entries a b)) (capped_twice t);
}

pub slot_lawful : (period : ℕ) (below : Arrives) → 0 < period → Lawful below → Lawful (slot period below)
slot_lawful period below h ok = record {
  after = λ t a b m. omega (arith, (raised_first period (capped t) h).after, ok.after (capped (raised period (capped t))) a b m);
  ceiling = λ t a b m. ok.ceiling (capped (raised period (capped t))) a b m;
  monotone = λ t u a b m le. ok.monotone _ _ a b m (omega (arith, raised_monotone period (capped t) (capped u) h (omega arith)));
  capped_asks = λ t a b m. ap (λ (n : ℕ). below (capped (raised period n)) a b m) (capped_twice t);
}

pub packing_lawful : (pack unpack : ℕ) (below : Arrives) → Lawful below → Lawful (packing pack unpack below)
packing_lawful pack unpack below ok = record {
  after = λ t a b m. omega (arith, ok.after (capped (capped t + pack)) a b m);
  ceiling = λ t a b m. omega arith;
  monotone = λ t u a b m le. omega (arith, ok.monotone (capped (capped t + pack)) (capped (capped u + pack)) a b m (omega arith));
  capped_asks = λ t a b m. ap (λ (n : ℕ). capped (below (capped (n + pack)) a b m + unpack)) (capped_twice t);
}
