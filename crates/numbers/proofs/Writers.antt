-- One text written after another by a writer.
use Rattle.std.proofs.Common.{◌≡◌, ℕ, ◌+◌, ◌/◌, ◌%◌, ◌^◌, ◌<◌, ◌≤◌, List, [], ◌∷◌, ◌++◌, length, get_or, take, decimal, sym, refl, ap, ◌∙◌, arith}
use Rattle.std.specs.List.{flat_map}
use Rattle.std.proofs.lemmas.Fmt.{decimal_step, decimal_digit}
use Rattle.std.proofs.lemmas.List.{take_more, take_all, flat_map_more}
use Rattle.numbers.specs.declared.writer.Writer.{Writer}
use Rattle.numbers.specs.Writers.{Writes}
use Rattle.numbers.specs.Texts.{Puts}
use Rattle.numbers.proofs.Texts.{puts_none, puts_same, puts_next}

-- every premise `length w.out.now < 2 ^ 64` holds of each writer

pub writes_none : (w : Writer) → w.at < 2 ^ 64 → Writes w [] w
writes_none w h = record { same = refl; long = refl; puts = puts_none w.out.now w.at h }

pub writes_same : {w v : Writer} {cs bs : List ℕ} → cs ≡ bs → Writes w cs v → Writes w bs v
writes_same e p = record { same = p.same; long = p.long; puts = puts_same e p.puts }

-- one text after another
pub writes_next : {w u v : Writer} {cs bs : List ℕ} → length w.out.now < 2 ^ 64 → Writes w cs u → Writes u bs v → Writes w (cs ++ bs) v
writes_next h p q = record { same = q.same ∙ p.same; long = q.long ∙ p.long; puts = puts_next h p.puts q.puts }

-- a turn of a loop over a text
pub writes_take : {w u v : Writer} (text : List ℕ) (n d : ℕ) → length w.out.now < 2 ^ 64 → n < length text → Writes w (take n text) u → Writes u (get_or text n d ∷ []) v → Writes w (take (n + 1) text) v
writes_take text n d f h p q = writes_same (sym (take_more text n d h)) (writes_next f p q)

-- the same of a loop that writes a text for each element
module _ {X : Type 0} (f : X → List ℕ) where
  pub writes_more : {w u v : Writer} (l : List X) (n : ℕ) (d : X) → length w.out.now < 2 ^ 64 → n < length l → Writes w (flat_map f (take n l)) u → Writes u (f (get_or l n d)) v → Writes w (flat_map f (take (n + 1) l)) v
  writes_more l n d h k p q = writes_same (flat_map_more f [] (take n l) (get_or l n d) ∙ ap (flat_map f) (sym (take_more l n d k))) (writes_next h p q)

  pub writes_each : {w v : Writer} (l : List X) (n : ℕ) → length l ≤ n → Writes w (flat_map f (take n l)) v → Writes w (flat_map f l) v
  writes_each l n h p = writes_same (ap (flat_map f) (take_all n l h)) p

-- a number's last digit after the others
pub decimal_more : {w u v : Writer} (n : ℕ) → length w.out.now < 2 ^ 64 → 10 ≤ n → n < 2 ^ 64 → Writes w (decimal (n / 10)) u → Writes u ((48 + n % 10) ∷ []) v → Writes w (decimal n) v
decimal_more n w h f p q = writes_same (sym (decimal_step n h f)) (writes_next w p q)

pub decimal_one : {w v : Writer} (n : ℕ) → n < 10 → Writes w ((48 + n % 10) ∷ []) v → Writes w (decimal n) v
decimal_one n h q = let e : n % 10 ≡ n = omega arith in writes_same (rw e (sym (decimal_digit n h))) q

-- what a writer that began at the start of a slice leaves in it
pub writes_puts : {w v : Writer} {text xs ys : List ℕ} {n : ℕ} → Writes w text v → w.out.now ≡ xs → w.at ≡ 0 → v.out.now ≡ ys → n ≡ v.at → Puts xs 0 text ys n
writes_puts p a b c d = rw (← a, ← b, ← c, d) p.puts
