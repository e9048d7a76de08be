use Rattle.std.proofs.Common.{length}
use Rattle.graphs.specs.Graphs.{model_of, names_of}
use Rattle.graphs.proofs.Sound.{sound}
use Rattle.plans.specs.Jobs.{job}
use Rattle.sheets.proofs.Writes.{written_is, written_leaves, written_stands}
use Rattle.sheets.proofs.write.sheet.Goals as goal

pub returns : goal.returns
returns g c =
    let args = c.args in
    let graph = args.graph.now in
    let j = job (model_of graph) args.rows.now args.limits (g.L.Link.arrives args.link.now) in
    let rows = length args.rows.now in
    let table = length args.lines.now in
    let names = names_of graph in
    let r = c.write.result in
    let did = c.write.ensures in
    record {
      is = written_is rows table j names args.out.now c.write.new.out r did.written;
      bytes = written_leaves rows table j names args.out.now c.write.new.out r did.written;
      table = did.table;
      written = did.written;
      stands = written_stands rows table j names args.out.now c.write.new.out (sound graph) r did.written;
    }
