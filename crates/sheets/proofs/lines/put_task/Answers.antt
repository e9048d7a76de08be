use Rattle.std.proofs.Common.{◌≡◌, ℕ, ◌^◌, ◌<◌, List, [], map, length, get_or, decimal, sym, ap, ◌∙◌, arith, length-append}
use Rattle.std.proofs.lemmas.List.{get_or-map}
use Rattle.numbers.specs.declared.writer.Writer.{Writer}
use Rattle.numbers.specs.Writers.{Writes}
use Rattle.numbers.proofs.Writers.{writes_next, writes_same}
use Rattle.graphs.specs.declared.types.Name.{Name}
use Rattle.graphs.specs.Graphs.{names_of, spelled}
use Rattle.plans.specs.declared.types.Row.{Row}
use Rattle.plans.specs.Jobs.{placing}
use Rattle.plans.specs.Rules.{end}
use Rattle.sheets.specs.Lines.{spaced}
use Rattle.sheets.proofs.lines.put_task.Goals as goal

-- a number that is written for another that it equals
spaced_same : {w v : Writer} {m n : ℕ} → m ≡ n → Writes w (spaced m) v → Writes w (spaced n) v
spaced_same e = writes_same (ap spaced e)

pub returns : goal.returns
returns c =
    let t = c.args.t in
    let j = placing c.args.plan.now in
    let w : length c.args.writer.now.out.now < 2 ^ 64 = omega arith in
    let start : c.row-row.result.start ≡ j.start t = ap (λ (r : Row). r.start) c.row-row.ensures in
    let ends : c.end.result ≡ end j t = omega (arith, c.end.ensures, c.requires.ends) in
    let worker : c.row-row.result.worker ≡ j.worker t = ap (λ (r : Row). r.worker) c.row-row.ensures in
    let within : t < length c.names.result.now = omega (arith, c.names.ensures.each, c.requires.task) in
    let name : c.as_bytes.result.now ≡ get_or (map spelled (names_of c.args.plan.now.graph.now)) t [] =
    c.as_bytes.ensures.is ∙ ap spelled c.index-names-t.is ∙ sym (get_or-map spelled c.names.result.now t _ [] within) ∙ ap (λ (ns : List Name). get_or (map spelled ns) t []) c.names.ensures.is in
    let numbers = writes_next w (writes_next w (spaced_same start c.put_spaced.ensures.writes) (spaced_same ends c.put_spaced-2.ensures.writes)) (spaced_same worker c.put_spaced-3.ensures.writes) in
    record {
      writes = writes_next w (writes_next w numbers (writes_same name c.put_bytes.ensures)) c.put.ensures;
      short =
          simp length-append
          (omega (arith, ap (λ (n : ℕ). length (decimal n)) start, ap (λ (n : ℕ). length (decimal n)) ends, ap (λ (n : ℕ). length (decimal n)) worker, ap length name, c.put_spaced.ensures.short, c.put_spaced-2.ensures.short, c.put_spaced-3.ensures.short, c.as_bytes.ensures.short));
    }
