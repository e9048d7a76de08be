use Rattle.std.proofs.Common.{◌≡◌, ℕ, ◌+◌, ◌<◌, ◌≤◌, length, Ok, sym, ap, ◌∙◌, subst, arith}
use Rattle.numbers.proofs.Groups.{Bytes}
use Rattle.records.specs.declared.read.Records.{Records}
use Rattle.records.specs.declared.types.Head.{Head}
use Rattle.records.specs.Records.{Item, seen, read_after}
use Rattle.records.proofs.Fields.{ok_same}
use Rattle.graphs.specs.Files.{graph_of}
use Rattle.graphs.specs.Parts.{Parts}
use Rattle.graphs.proofs.Encoded.{head_in}
use Rattle.graphs.proofs.Places.{Reached, Standing, head_known, reached, first_place, same_name}
use Rattle.graphs.proofs.Turns.{got, lost, not_both}
use Rattle.graphs.proofs.name.find_name.Goals as goal
use Rattle.graphs.proofs.name.find_name.Goals.{In_ok-head}

bytes : (c : In_ok-head) → Bytes c.args.file.now
bytes c i = omega (arith, c.type_inv.file i)

head_is : (c : In_ok-head) (p : Parts) → graph_of c.args.file.now ≡ Ok p → c.in_ok-head.head ≡ head_in p
head_is c p e =
    let b = c.read_head.ensures.back (head_in p) (head_known c.args.file.now p (bytes c) e) in
    ok_same _ _ (sym (got 0 c.read_head.result c.in_ok-head.head c.in_ok-head.ensures) ∙ b)

task_in : (c : In_ok-head) (p : Parts) → graph_of c.args.file.now ≡ Ok p → c.args.task < length p.tasks
task_in c p e = let q = c.requires in subst (λ (x : Parts). c.args.task < length x.tasks) (ok_same q.0 p (sym q.1 ∙ e)) q.2

standing : (c : In_ok-head) (r : Records) (p : Parts) (t : ℕ) → graph_of c.args.file.now ≡ Ok p → Reached r c.args.file.now p t → t ≤ c.args.task → Standing r p t
standing c r p t e s l = reached r c.args.file.now p t (bytes c) e s (omega (arith, task_in c p e))

pub returns-in_err-head : goal.returns-in_err-head
returns-in_err-head c = λ p e.
    let w : Bytes c.args.file.now = λ i. omega (arith, c.type_inv.file i) in
    absurd (not_both c.read_head.result (head_in p) _ (c.read_head.ensures.back (head_in p) (head_known c.args.file.now p w e)) (lost 0 c.read_head.result c.in_err-head.field-0.0 c.in_err-head.ensures).0)

pub loop-init : goal.loop-init
loop-init c = λ p e.
    let head = head_is (goal.at.loop-init c).In_ok-head p e in
    record {
      file_is = c.new-records.ensures.over.0;
      head = c.new-records.ensures.over.1 ∙ head;
      read = c.new-records.ensures.start.0;
      at = c.new-records.ensures.start.1 ∙ ap (λ (h : Head). h.next) head ∙ first_place p;
    }

pub returns-in_err-read_next : goal.returns-in_err-read_next
returns-in_err-read_next c = λ p e.
    let d = (goal.at.returns-in_err-read_next c).In_ok-head in
    let w = standing d c.loop.records p c.loop.counter e (c.loop.invariant p e) (omega (arith, c.loop-test.true)) in
    cc (c.in_err-read_next.ensures.back w.0 _ _ w.1)

pub loop-preserved : goal.loop-preserved
loop-preserved c = λ p e.
    let d = (goal.at.loop-preserved c).In_ok-head in
    let was = c.loop.invariant p e in
    let w = standing d c.loop.records p c.loop.counter e was (omega (arith, c.loop-test.true)) in
    let read = c.in_ok-read_next.ensures in
    let s = ok_same _ _ (read.back w.0 _ _ w.1) in
    record {
      file_is = rw read.over.0 was.file_is;
      head = read.over.1 ∙ was.head;
      read = read.count ∙ ap (λ (q : Item × ℕ). read_after q.0 c.loop.records.read) s ∙ ap (λ (n : ℕ). n + 1) was.read;
      at = ap (λ (q : Item × ℕ). q.1) s;
    }

pub returns-in_err-name : goal.returns-in_err-name
returns-in_err-name c = λ p e.
    let d = (goal.at.returns-in_err-name c).In_ok-head in
    let w = standing d c.loop.records p c.loop.counter e (c.loop.invariant p e) (omega (arith, c.loop.auto.counter-end)) in
    cc (c.in_err-name.ensures.back w.0 _ _ w.1)

pub returns : goal.returns
returns c = λ p e.
    let d = (goal.at.returns c).In_ok-head in
    let all : c.loop.counter ≡ c.args.task = omega (arith, c.loop.auto.counter-end, c.loop-test.false) in
    let w = standing d c.loop.records p c.args.task e (subst (Reached c.loop.records c.args.file.now p) all (c.loop.invariant p e)) (omega arith) in
    let s = ap (λ (q : Item × ℕ). q.0) (ok_same _ _ (c.in_ok-name.ensures.back w.0 _ _ w.1)) in
    ap Ok (same_name _ _ _ _ _ _ _ _ (sym (ap seen c.in-Task.is) ∙ s))
