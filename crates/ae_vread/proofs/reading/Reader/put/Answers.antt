use Rattle.std.proofs.Common.{refl, ◌∙◌, max}
use Rattle.ae_vmodule.specs.ModuleTree as m
use Rattle.ae_vmodule.specs.Numbered as n
use Rattle.ae_vread.specs.StmtReading.{stmt_found}
use Rattle.ae_vread.proofs.Meanings.{no_more, named_kept, deep_then}
use Rattle.ae_vread.proofs.reading.Reader.put.Goals as goal

pub returns-clause-read : goal.returns-clause-read
returns-clause-read c name x y below word h = (
  stmt_found (m.put name x.tree y.tree) c.in_ok-depth.depth y.rest,
  deep_then _ _ _ c.in_ok-depth.depth (c.max.ensures ∙ (λ i. max (h.is_x i) (h.is_y i))) c.in_ok-depth.ensures,
  record {
    top = n.put c.args.name h.first h.second;
    pieces = c.in_ok-put.ensures.pieces h.second h.first below h.pieces;
    means = λ ws g. λ i. m.put (named_kept _ ws c.args.name name word g i) (h.means_x ws g i) (h.means_y ws g i);
    deep = refl;
    rest = h.rest;
  },
  no_more c.args.self.now.words,
)
