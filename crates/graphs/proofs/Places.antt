-- Where the tasks stand in the file of their graph.
use Rattle.std.proofs.Common.{◌≡◌, ℕ, zero, suc, ◌+◌, ◌<◌, ◌≤◌, cond, ltb, List, [], ◌∷◌, ◌++◌, length, get_or, take, drop, Ok, Err, Result, sym, refl, ap, ◌∙◌, append_assoc, append-nil, arith}
use Rattle.std.proofs.lemmas.List.{length-append, length-take, drop_at, take_at, take_more}
use Rattle.std.proofs.lemmas.Bool.{lt-ltb, le-ltb, cond-true, cond-false}
use Rattle.numbers.specs.Numbers.{coded}
use Rattle.numbers.proofs.Groups.{Bytes}
use Rattle.numbers.proofs.Laid.{past}
use Rattle.records.specs.declared.read.Records.{Records}
use Rattle.records.specs.Fields.{and_then, map_err}
use Rattle.records.specs.Heads.{head_bytes, Few, Opens}
use Rattle.records.specs.Records.{task, task_bytes, Holds}
use Rattle.graphs.specs.declared.types.Task.{Task as TaskOf}
use Rattle.graphs.specs.declared.fault.GraphFault.{GraphFault}
use Rattle.graphs.specs.declared.fault.NameFault.{NameFault}
use Rattle.graphs.specs.declared.fault.NameFault.TheVariants.{InGraph, NoTask}
use Rattle.graphs.specs.Model.{no_task}
use Rattle.graphs.specs.Parts.{Parts, Limited, tasks_bytes, edges_bytes, file_bytes}
use Rattle.graphs.specs.Files.{graph_of}
use Rattle.graphs.specs.Names.{task_place, name_in, name_of}
use Rattle.graphs.proofs.Accepted.{tasks_bytes_push, accepted}
use Rattle.graphs.proofs.Encoded.{head_in, opens}

-- the tasks before one, that task, and those after it
tasks_split : (ts : List TaskOf) (ns : List (List ℕ)) (t : ℕ) → length ns ≡ length ts → t < length ts
    → tasks_bytes ts ns ≡ tasks_bytes (take t ts) (take t ns) ++ (task_bytes (get_or ns t []) (get_or ts t no_task).time (get_or ts t no_task).size ++ tasks_bytes (drop (suc t) ts) (drop (suc t) ns))
tasks_split [] ns t e l = absurd (omega arith)
tasks_split (u ∷ ts) [] t e l = absurd (omega arith)
tasks_split (u ∷ ts) (m ∷ ns) zero e l = refl
tasks_split (u ∷ ts) (m ∷ ns) (suc t) e l =
    ap (λ (x : List ℕ). task_bytes m u.time u.size ++ x) (tasks_split ts ns t (omega arith) (omega arith)) ∙ sym (append_assoc (task_bytes m u.time u.size) (tasks_bytes (take t ts) (take t ns)) _)

module _ (file : List ℕ) (p : Parts) (l : Limited p) (e : file ≡ file_bytes p) where
  abbrev name_at : ℕ → List ℕ
  name_at t = get_or p.names t []

  abbrev bytes_at : ℕ → List ℕ
  bytes_at t = task_bytes (name_at t) (get_or p.tasks t no_task).time (get_or p.tasks t no_task).size

  abbrev before : ℕ → List ℕ
  before t = head_bytes (length p.tasks) (length p.edges) ++ tasks_bytes (take t p.tasks) (take t p.names)

  abbrev after : ℕ → List ℕ
  after t = tasks_bytes (drop (suc t) p.tasks) (drop (suc t) p.names) ++ edges_bytes p.edges

  split : (t : ℕ) → t < length p.tasks → file ≡ before t ++ (bytes_at t ++ after t)
  unfolding file_bytes
  split t tl =
      let h = head_bytes (length p.tasks) (length p.edges) in
      let f = tasks_bytes (take t p.tasks) (take t p.names) in
      let r = tasks_bytes (drop (suc t) p.tasks) (drop (suc t) p.names) in
      e ∙ ap (λ (x : List ℕ). h ++ (x ++ edges_bytes p.edges)) (tasks_split p.tasks p.names t l.named tl)
      ∙ ap (λ (x : List ℕ). h ++ x) (append_assoc f (bytes_at t ++ r) (edges_bytes p.edges) ∙ ap (λ (x : List ℕ). f ++ x) (append_assoc (bytes_at t) r (edges_bytes p.edges)))
      ∙ sym (append_assoc h f (bytes_at t ++ after t))

  next_place : (t : ℕ) → t < length p.tasks → task_place p (t + 1) ≡ task_place p t + length (bytes_at t)
  unfolding task_place
  next_place t tl =
      let h = head_bytes (length p.tasks) (length p.edges) in
      let f = tasks_bytes (take t p.tasks) (take t p.names) in
      let nl : t < length p.names = omega (arith, l.named) in
      let same : length (take t p.names) ≡ length (take t p.tasks) = omega (arith, length-take t p.names, length-take t p.tasks, l.named) in
      let more : tasks_bytes (take (t + 1) p.tasks) (take (t + 1) p.names) ≡ f ++ bytes_at t =
      ap (λ (x : List TaskOf). tasks_bytes x (take (t + 1) p.names)) (take_more p.tasks t no_task tl)
      ∙ ap (λ (x : List (List ℕ)). tasks_bytes (take t p.tasks ++ get_or p.tasks t no_task ∷ []) x) (take_more p.names t [] nl)
      ∙ tasks_bytes_push (take t p.tasks) (take t p.names) (get_or p.tasks t no_task) (name_at t) same in
      ap (λ (x : List ℕ). length (h ++ x)) more ∙ ap length (sym (append_assoc h f (bytes_at t))) ∙ length-append (h ++ f) (bytes_at t)

  there : (t : ℕ) → t < length p.tasks → drop (task_place p t) file ≡ bytes_at t ++ after t
  unfolding task_place
  there t tl = ap (drop (length (before t))) (split t tl) ∙ drop_at (before t) (bytes_at t ++ after t) (length (before t)) refl

  -- the record of a task stands at its place, and the next one follows it
  pub at_task : (t : ℕ) → t < length p.tasks → Holds file (head_in p) t (task_place p t) (task (name_in p t).1 (name_at t) (get_or p.tasks t no_task).time (get_or p.tasks t no_task).size) (task_place p (t + 1))
  at_task t tl =
      let d = there t tl in
      let rest = past file (task_place p t) (bytes_at t) (after t) d in
      let next = next_place t tl in
      record {
        due = (tl, refl, l.tasks t tl);
        bytes = d ∙ ap (λ (x : List ℕ). bytes_at t ++ x) (sym rest ∙ ap (λ (x : ℕ). drop x file) (sym next));
        long = next;
      }

  -- a name is the part of the file at its offset
  pub name_stands : (t : ℕ) → t < length p.tasks → take (length (name_at t)) (drop (name_in p t).1 file) ≡ name_at t
  name_stands t tl =
      let n = name_at t in
      let rest = coded (get_or p.tasks t no_task).time ++ coded (get_or p.tasks t no_task).size in
      let d : drop (task_place p t) file ≡ coded (length n) ++ (n ++ (rest ++ after t)) =
      there t tl ∙ append_assoc (coded (length n)) (n ++ rest) (after t) ∙ ap (λ (x : List ℕ). coded (length n) ++ x) (append_assoc n rest (after t)) in
      ap (take (length n)) (past file (task_place p t) (coded (length n)) _ d) ∙ take_at n (rest ++ after t) (length n) refl

pub first_place : (p : Parts) → (head_in p).next ≡ task_place p 0
unfolding task_place
first_place p = ap length (sym (append-nil (head_bytes (length p.tasks) (length p.edges))))

-- what is known of a file that is accepted
pub known : (file : List ℕ) (p : Parts) → Bytes file → graph_of file ≡ Ok p → (file ≡ file_bytes p) × Limited p
known file p w e = let a = accepted file p w e in (a.0, a.1.limited)

pub head_known : (file : List ℕ) (p : Parts) → Bytes file → graph_of file ≡ Ok p → Opens file (head_in p)
head_known file p w e = let k = known file p w e in opens file p k.1 k.0

-- the next record of a file that is read is that of task t
pub record Reached (r : Records) (file : List ℕ) (p : Parts) (t : ℕ) : Type 0 where
  pub file_is : r.file.now ≡ file
  pub head : r.head ≡ head_in p
  pub read : r.read ≡ t
  pub at : r.at ≡ task_place p t

-- the record of task t stands there, and the next one after it
abbrev pub Standing : Records → Parts → ℕ → Type 0
Standing r p t = Few r.head × Holds r.file.now r.head r.read r.at (task (name_in p t).1 (name_in p t).0 (get_or p.tasks t no_task).time (get_or p.tasks t no_task).size) (task_place p (t + 1))

pub reached : (r : Records) (file : List ℕ) (p : Parts) (t : ℕ) → Bytes file → graph_of file ≡ Ok p → Reached r file p t → t < length p.tasks → Standing r p t
reached r file p t w e s l =
    let k = known file p w e in
    rw (s.file_is, s.head, s.read, s.at) (k.1.few, at_task file p k.1 k.0 t l)

pub same_name : (a b : ℕ) (n m : List ℕ) (t z u v : ℕ) → task a n t z ≡ task b m u v → ◌≡◌ {A = List ℕ × ℕ} (n, a) (m, b)
same_name a b n m t z u v e = let x : n ≡ m = cc in let y : a ≡ b = cc in ap (λ (k : List ℕ). (k, a)) x ∙ ap (λ (k : ℕ). (m, k)) y

-- ---- what a name is where the file is refused, where there is no such task, and where there is

module _ (file : List ℕ) (t : ℕ) where
  abbrev answer : Parts → Result (List ℕ × ℕ) NameFault
  answer p = cond (ltb t (length p.tasks)) (Ok (name_in p t)) (Err (NoTask t))

  pub name_refused : (e : GraphFault) → graph_of file ≡ Err e → name_of file t ≡ Err (InGraph e)
  unfolding name_of
  name_refused e g = ap (λ x. and_then (map_err InGraph x) answer) g

  pub name_none : (p : Parts) → graph_of file ≡ Ok p → length p.tasks ≤ t → name_of file t ≡ Err (NoTask t)
  unfolding name_of
  name_none p g l = ap (λ x. and_then (map_err InGraph x) answer) g ∙ cond-false _ _ _ (le-ltb t (length p.tasks) l)

  pub name_some : (p : Parts) → graph_of file ≡ Ok p → t < length p.tasks → name_of file t ≡ Ok (name_in p t)
  unfolding name_of
  name_some p g l = ap (λ x. and_then (map_err InGraph x) answer) g ∙ cond-true _ _ _ (lt-ltb t (length p.tasks) l)
