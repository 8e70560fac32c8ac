use Rattle.std.proofs.Common.{refl, ◌∙◌, max}
use Rattle.ae_vmodule.specs.ModuleTree as m
use Rattle.ae_vmodule.specs.Numbered as n
use Rattle.ae_vread.specs.StmtReading.{stmt_found}
use Rattle.ae_vread.proofs.Meanings.{no_more, deep_then}
use Rattle.ae_vread.proofs.reading.Reader.alone.Goals as goal

pub returns-clause-read : goal.returns-clause-read
returns-clause-read c x y below h = (
  stmt_found (m.when x.tree y.tree) c.in_ok-depth.depth y.rest,
  deep_then _ _ _ c.in_ok-depth.depth (c.max.ensures ∙ (λ i. max (h.is_x i) (h.is_y i))) c.in_ok-depth.ensures,
  record {
    top = n.when h.test h.then;
    pieces = c.in_ok-when.ensures.pieces h.then h.test below h.pieces;
    means = λ ws g. λ i. m.when (h.means_x ws g i) (h.means_y ws g i);
    deep = refl;
    rest = h.rest;
  },
  no_more c.args.self.now.words,
)
