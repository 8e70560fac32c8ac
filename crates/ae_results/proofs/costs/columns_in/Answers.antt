use Rattle.std.proofs.Common.{◌≡◌, ◌*◌, ◌∙◌, ap, arith}
use Rattle.ae_sttype.specs.StTree.{element_words, lanes, st_tree}
use Rattle.ae_moves.proofs.Words.{columns_small}
use Rattle.ae_results.proofs.costs.columns_in.Goals as goal

pub overflow_mul-result : goal.overflow_mul-result
overflow_mul-result c =
    let e : c.lanes.result * c.element_words.result ≡ lanes (st_tree c.args.layout.now) * element_words (st_tree c.args.layout.now) =
    ap (λ n. n * c.element_words.result) c.lanes.ensures ∙ ap (λ n. lanes (st_tree c.args.layout.now) * n) c.element_words.ensures in
    omega (arith, columns_small (st_tree c.args.layout.now) c.requires, e)

pub returns-clause-few : goal.returns-clause-few
returns-clause-few c =
    let e : c.lanes.result * c.element_words.result ≡ lanes (st_tree c.args.layout.now) * element_words (st_tree c.args.layout.now) =
    ap (λ n. n * c.element_words.result) c.lanes.ensures ∙ ap (λ n. lanes (st_tree c.args.layout.now) * n) c.element_words.ensures in
    omega (arith, columns_small (st_tree c.args.layout.now) c.requires, e)
