use Rattle.std.proofs.Common.{refl}
use Rattle.ae_vmodule.specs.ModuleTree as m
use Rattle.ae_vmodule.specs.Numbered as n
use Rattle.ae_vread.specs.StmtReading.{stmt_found}
use Rattle.ae_vread.proofs.Meanings.{no_more, named_kept, deep_then}
use Rattle.ae_vread.proofs.reading.Reader.set.Goals as goal

pub returns-clause-read : goal.returns-clause-read
returns-clause-read c name x below word h = (
  stmt_found (m.set name x.tree) c.in_ok-depth.depth x.rest,
  deep_then _ _ _ c.in_ok-depth.depth h.deep c.in_ok-depth.ensures,
  record {
    top = n.set c.args.name h.top;
    pieces = c.in_ok-set.ensures.pieces h.top below h.pieces;
    means = λ ws g. λ i. m.set (named_kept _ ws c.args.name name word g i) (h.means ws g i);
    deep = refl;
    rest = h.rest;
  },
  no_more c.args.self.now.words,
)
