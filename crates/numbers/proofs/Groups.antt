-- A number's groups, written and read back.
use Rattle.std.proofs.Common.{◌≡◌, ℕ, zero, suc, ◌+◌, ◌-◌, ◌*◌, ◌/◌, ◌%◌, ◌^◌, ◌<◌, ◌≤◌, Bool, true, false, cond, not, ◌&&◌, eqb, ltb, leb, List, [], ◌∷◌, ◌++◌, length, get_or, take, drop, Ok, Err, Result, sym, refl, ap, ◌∙◌, ⊎_elim, pow-suc, add-one, arith}
use Rattle.std.proofs.lemmas.List.{drop_more, drop_all, get_or-drop}
use Rattle.std.proofs.lemmas.Bool.{lt-ltb, le-ltb, le-leb, lt-leb, cond-true, cond-false, ne_eqb, cases_lt}
use Rattle.std.proofs.lemmas.Bool.Decides.{nat_tests}
use Rattle.numbers.specs.declared.fault.NumberFault.{NumberFault}
use Rattle.numbers.specs.declared.fault.NumberFault.TheVariants.{Truncated, Malformed}
use Rattle.numbers.specs.Numbers.{groups, coded, Front, is, short, bad, more, last, decode, placed, groups_at}

-- every byte is below 256, as those of a slice are
abbrev pub Bytes : List ℕ → Type 0
Bytes bs = (k : ℕ) → get_or bs k 0 < 256

pub bytes_drop : (n : ℕ) (bs : List ℕ) → Bytes bs → Bytes (drop n bs)
bytes_drop n bs h k = rw (get_or-drop n bs k 0) (h (n + k))

-- ---- the groups of a value

groups_one : (n v : ℕ) → v < 128 → groups (suc n) v ≡ v ∷ []
groups_one n v h = cond-true _ _ _ (lt-ltb v 128 h)

groups_more : (n v : ℕ) → 128 ≤ v → groups (suc n) v ≡ (128 + v % 128) ∷ groups n (v / 128)
groups_more n v h = cond-false _ _ _ (le-ltb v 128 h)

-- a value of several groups leaves groups after the first
several : (n v : ℕ) → v < 128 ^ suc n → 128 ≤ v → (0 < n) × (v / 128 < 128 ^ n)
several zero v h l = absurd (let u : v < 128 ^ 0 * 128 = rw pow-suc at h in omega arith)
several (suc n) v h l = let u : v < 128 ^ suc n * 128 = rw pow-suc at h in (omega arith, omega arith)

-- groups beyond those that a value needs change nothing
pub groups_enough : (m n v : ℕ) → 0 < m → m ≤ n → v < 128 ^ m → groups n v ≡ groups m v
groups_enough zero n v s h b = absurd (omega arith)
groups_enough (suc m) zero v s h b = absurd (omega arith)
groups_enough (suc m) (suc n) v s h b =
    ⊎_elim
    (λ l. groups_one n v l ∙ sym (groups_one m v l))
    (λ l.
    let u = several m v b l in
    groups_more n v l ∙ ap (λ x. (128 + v % 128) ∷ x) (groups_enough m n (v / 128) u.0 (omega arith) u.1) ∙ sym (groups_more m v l))
    (cases_lt v 128)

pub coded_one : (v : ℕ) → v < 128 → coded v ≡ v ∷ []
unfolding coded
coded_one v h = groups_one 9 v h

pub coded_more : (v : ℕ) → 128 ≤ v → v < 2 ^ 64 → coded v ≡ (128 + v % 128) ∷ coded (v / 128)
unfolding coded
coded_more v h f = groups_more 9 v h ∙ ap (λ x. (128 + v % 128) ∷ x) (sym (groups_enough 9 10 (v / 128) (omega arith) (omega arith) (omega arith)))

-- ---- what is written is read

pub reads : (left n : ℕ) (first : Bool) (v : ℕ) (rest : List ℕ) → left ≤ n → v < 128 ^ left → (v ≡ 0 → first ≡ true) → 0 < left → decode left first (groups n v ++ rest) ≡ is v (length (groups n v))
reads zero n first v rest m s z h = absurd (omega arith)
reads (suc k) zero first v rest m s z h = absurd (omega arith)
reads (suc k) (suc n) first v rest m s z h =
    ⊎_elim
    (λ l.
    let d : last first v ≡ is v 1 = grind (arith, nat_tests) in
    rw (groups_one n v l) (cond-true _ _ _ (lt-ltb v 128 l) ∙ d))
    (λ l.
    let u = several k v s l in
    let p : 128 ≤ 128 + v % 128 = omega arith in
    let i = reads k n false (v / 128) rest (omega arith) u.1 (λ e. absurd (omega arith)) u.0 in
    let e : 128 + v % 128 - 128 + 128 * (v / 128) ≡ v = omega arith in
    let m : length (groups n (v / 128)) + 1 ≡ suc (length (groups n (v / 128))) = omega arith in
    let w : is (128 + v % 128 - 128 + 128 * (v / 128)) (length (groups n (v / 128)) + 1) ≡ is v (suc (length (groups n (v / 128)))) = cc in
    rw (groups_more n v l) (cond-false _ _ _ (le-ltb (128 + v % 128) 128 p) ∙ ap (more (128 + v % 128 - 128)) i ∙ w))
    (cases_lt v 128)

-- ---- what is read is what is written

un_more : (g : ℕ) (f : Front) (v n : ℕ) → more g f ≡ is v n → (x : ℕ) × (k : ℕ) × (f ≡ is x k) × (v ≡ g + 128 * x) × (n ≡ k + 1)
un_more g (is x k) v n e = (x, k, refl, cc, cc)
un_more g short v n e = absurd (let z : ◌≡◌ {A = ℕ} 0 1 = cc in omega arith)
un_more g bad v n e = absurd (let z : ◌≡◌ {A = ℕ} 0 1 = cc in omega arith)

un_last : (first : Bool) (b v n : ℕ) → last first b ≡ is v n → (v ≡ b) × (n ≡ 1) × (first ≡ false → 0 < v)
un_last true zero v n e = (cc, cc, λ x. absurd (let z : ◌≡◌ {A = ℕ} 0 1 = cc in omega arith))
un_last false zero v n e = absurd (let z : ◌≡◌ {A = ℕ} 0 1 = cc in omega arith)
un_last true (suc b) v n e =
    let t : eqb (suc b) 0 ≡ false = ne_eqb (suc b) 0 (λ q. omega arith) in
    let d : is (suc b) 1 ≡ is v n = sym (ap (λ x. cond (x && false) bad (is (suc b) 1)) t) ∙ e in
    (cc, cc, λ x. let z : v ≡ suc b = cc in omega arith)
un_last false (suc b) v n e =
    let t : eqb (suc b) 0 ≡ false = ne_eqb (suc b) 0 (λ q. omega arith) in
    let d : is (suc b) 1 ≡ is v n = sym (ap (λ x. cond (x && true) bad (is (suc b) 1)) t) ∙ e in
    (cc, cc, λ x. let z : v ≡ suc b = cc in omega arith)

pub writes : (left n : ℕ) (first : Bool) (bs : List ℕ) (v m : ℕ) → left ≤ n → Bytes bs → decode left first bs ≡ is v m → (take m bs ≡ groups n v) × (first ≡ false → 0 < v)
writes zero n first bs v m l h e = absurd (let z : ◌≡◌ {A = ℕ} 0 1 = cc in omega arith)
writes (suc k) zero first bs v m l h e = absurd (omega arith)
writes (suc k) (suc n) first [] v m l h e = absurd (let z : ◌≡◌ {A = ℕ} 0 1 = cc in omega arith)
writes (suc k) (suc n) first (b ∷ bs) v m l h e = ⊎_elim
    (λ s.
    let u = un_last first b v m (sym (cond-true _ _ _ (lt-ltb b 128 s)) ∙ e) in
    (rw (u.1, u.0) (sym (groups_one n b s)), u.2))
    (λ s.
    let u = un_more (b - 128) (decode k false bs) v m (sym (cond-false _ _ _ (le-ltb b 128 s)) ∙ e) in
    let i = writes k n false bs u.0 u.1 (omega arith) (λ j. h (suc j)) u.2 in
    let z : 0 < u.0 = i.1 refl in
    let y : b < 256 = h 0 in
    let w : 128 ≤ v = omega arith in
    let q : v / 128 ≡ u.0 = omega arith in
    let r : 128 + v % 128 ≡ b = omega arith in
    (rw (u.4, add-one u.1, groups_more n v w, q, r) (ap (λ x. b ∷ x) i.0), λ _. omega arith))
    (cases_lt b 128)

-- a number that is read ends before the list does
pub front_fits : (left : ℕ) (first : Bool) (bs : List ℕ) (v n : ℕ) → decode left first bs ≡ is v n → n ≤ length bs
front_fits zero first bs v n e = absurd (let z : ◌≡◌ {A = ℕ} 0 1 = cc in omega arith)
front_fits (suc k) first [] v n e = absurd (let z : ◌≡◌ {A = ℕ} 0 1 = cc in omega arith)
front_fits (suc k) first (b ∷ bs) v n e = ⊎_elim
    (λ l. omega (arith, (un_last first b v n (sym (cond-true _ _ _ (lt-ltb b 128 l)) ∙ e)).1))
    (λ l.
    let u = un_more (b - 128) (decode k false bs) v n (sym (cond-false _ _ _ (le-ltb b 128 l)) ∙ e) in
    omega (arith, u.4, front_fits k false bs u.0 u.1 u.2))
    (cases_lt b 128)

-- what stands where a number was read
pub un_placed : (len start at : ℕ) (f : Front) (v next : ℕ) → placed len start at f ≡ Ok (v, next) → (n : ℕ) × (f ≡ is v n) × (next ≡ at + n)
un_placed len start at (is x k) v next e =
    let p : (x, at + k) ≡ (v, next) = cc in
    (k, ap (λ (y : ℕ × ℕ). is y.0 k) p, sym (ap (λ (y : ℕ × ℕ). y.1) p))
un_placed len start at short v next e = absurd (let z : ◌≡◌ {A = ℕ} 0 1 = cc in omega arith)
un_placed len start at bad v next e = absurd (let z : ◌≡◌ {A = ℕ} 0 1 = cc in omega arith)

-- ---- one call of the reader

-- a group before what is read after it
abbrev pub onto : ℕ → Result (ℕ × ℕ) NumberFault → Result (ℕ × ℕ) NumberFault
onto g (Ok p) = Ok (g + 128 * p.0, p.1)
onto g (Err e) = Err e

placed_more : (len start at g : ℕ) (f : Front) → placed len start at (more g f) ≡ onto g (placed len start (at + 1) f)
placed_more len start at g (is v n) = let e : at + (n + 1) ≡ at + 1 + n = omega arith in ap (λ x. Ok (g + 128 * v, x)) e
placed_more len start at g short = refl
placed_more len start at g bad = refl

placed_cond : (len start at : ℕ) (t : Bool) (f g : Front) → placed len start at (cond t f g) ≡ cond t (placed len start at f) (placed len start at g)
placed_cond len start at true f g = refl
placed_cond len start at false f g = refl

unfolded : (file : List ℕ) (start at left : ℕ) (first : Bool) → 0 < left → groups_at file start at left first ≡ cond (leb (length file) at) (Err (Truncated (length file)))
    (cond (ltb (get_or file at 0) 128)
    (cond (eqb (get_or file at 0) 0 && not first) (Err (Malformed start)) (Ok (get_or file at 0, at + 1)))
    (onto (get_or file at 0 - 128) (groups_at file start (at + 1) (left - 1) false)))
unfolded file start at zero first h = absurd (omega arith)
unfolded file start at (suc k) first h =
    let len = length file in
    let b = get_or file at 0 in
    let p : Front → Result (ℕ × ℕ) NumberFault = placed len start at in
    let e : suc k - 1 ≡ k = omega arith in
    ⊎_elim
    (λ l.
    ap (λ x. p (decode (suc k) first x)) (drop_more file at 0 l)
    ∙ placed_cond len start at (ltb b 128) (last first b) _
    ∙ ap (λ x. cond (ltb b 128) x (p (more (b - 128) (decode k false (drop (at + 1) file))))) (placed_cond len start at (eqb b 0 && not first) bad (is b 1))
    ∙ ap (cond (ltb b 128) _) (placed_more len start at (b - 128) (decode k false (drop (at + 1) file)))
    ∙ rw e (sym (cond-false _ _ _ (lt-leb len at l))))
    (λ l. ap (λ x. p (decode (suc k) first x)) (drop_all at file l) ∙ sym (cond-true _ _ _ (le-leb len at l)))
    (cases_lt at len)

-- the same where the group is the first one exactly at the number's start
pub opened : (file : List ℕ) (start at left : ℕ) → start ≤ at → 0 < left → groups_at file start at left (eqb at start) ≡ cond (leb (length file) at) (Err (Truncated (length file)))
    (cond (ltb (get_or file at 0) 128)
    (cond (eqb (get_or file at 0) 0 && ltb start at) (Err (Malformed start)) (Ok (get_or file at 0, at + 1)))
    (onto (get_or file at 0 - 128) (groups_at file start (at + 1) (left - 1) (eqb (at + 1) start))))
opened file start at left s h =
    let later : not (eqb at start) ≡ ltb start at = grind (arith, nat_tests) in
    let next : eqb (at + 1) start ≡ false = ne_eqb (at + 1) start (λ e. omega arith) in
    rw (← later, next) (unfolded file start at left (eqb at start) h)
