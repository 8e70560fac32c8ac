use Rattle.std.proofs.Common.{refl, ap, ◌∙◌, max}
use Rattle.ae_vmodule.specs.ModuleTree as m
use Rattle.ae_vmodule.specs.Numbered as n
use Rattle.ae_vread.specs.StmtReading.{stmt_found}
use Rattle.ae_vread.proofs.Meanings.{no_more, deep_then}
use Rattle.ae_vread.proofs.reading.Reader.either.Goals as goal

pub returns-clause-read : goal.returns-clause-read
returns-clause-read c x y z below h = (
  stmt_found (m.either x.tree y.tree z.tree) c.in_ok-depth.depth z.rest,
  deep_then _ _ _ c.in_ok-depth.depth (c.max-2.ensures ∙ ap (max c.args.test) c.max.ensures ∙ (λ i. max (h.is_x i) (max (h.is_y i) (h.is_z i))))
      c.in_ok-depth.ensures,
  record {
    top = n.either h.test h.then h.otherwise;
    pieces = c.in_ok-either.ensures.pieces h.otherwise h.then h.test below h.pieces;
    means = λ ws g. λ i. m.either (h.means_x ws g i) (h.means_y ws g i) (h.means_z ws g i);
    deep = refl;
    rest = h.rest;
  },
  no_more c.args.self.now.words,
)
