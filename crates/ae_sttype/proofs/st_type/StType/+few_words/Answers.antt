use Rattle.std.proofs.Common.{ap, ◌∙◌}
use Rattle.ae_sttype.specs.StTree.{st_tree}
use Rattle.ae_sttype.proofs.Limits.{few_in_sseq}
use Rattle.ae_sttype.proofs.st_type.StType.+few_words.Goals as goal

pub returns-in_ok-few_words-in-S : goal.returns-in_ok-few_words-in-S
returns-in_ok-few_words-in-S t c =
    c.product_within-in-S.ensures
    ∙ few_in_sseq (st_tree c.args.self.now) (st_tree c.deref-in-S.result.now) c.in-S.n _ _ _
    (cc (ap st_tree c.in-S.is)) c.from-in-S.ensures c.in_ok-few_words-in-S.ensures
