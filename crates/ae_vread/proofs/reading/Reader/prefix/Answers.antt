use Rattle.std.proofs.Common.{refl, ap}
use Rattle.ae_vmodule.specs.ModuleTree as m
use Rattle.ae_vmodule.specs.Numbered as n
use Rattle.ae_vread.specs.Reading.{found}
use Rattle.ae_vread.proofs.Meanings.{no_more, deep_then}
use Rattle.ae_vread.proofs.reading.Reader.prefix.Goals as goal

pub returns-clause-read : goal.returns-clause-read
returns-clause-read c x below h = (
  found (m.unary c.args.op x.tree) c.in_ok-depth.depth x.rest,
  deep_then _ c.args.depth x.depth c.in_ok-depth.depth h.deep c.in_ok-depth.ensures,
  record {
    top = n.unary c.args.op h.top;
    pieces = c.in_ok-unary.ensures.pieces h.top below h.pieces;
    means = λ ws g. ap (m.unary c.args.op) (h.means ws g);
    deep = refl;
    rest = h.rest;
  },
  no_more c.args.self.now.words,
)
