use Rattle.std.proofs.Common.{◌≡◌, ◌*◌, arith, ap}
use Rattle.ae_sttype.specs.StTree.{element_words, st_tree}
use Rattle.ae_moves.proofs.Words.{columns_small}
use Rattle.ae_moves.proofs.layouts.column.Goals as goal

pub overflow_mul-result : goal.overflow_mul-result
overflow_mul-result c =
    let e : c.args.lane * c.element_words.result ≡ c.args.lane * element_words (st_tree c.args.s.now) = ap (λ n. c.args.lane * n) c.element_words.ensures in
    omega (arith, columns_small (st_tree c.args.s.now) c.requires.in_size, c.requires.lane, e)

pub overflow_add-result : goal.overflow_add-result
overflow_add-result c =
    let e : c.args.lane * c.element_words.result ≡ c.args.lane * element_words (st_tree c.args.s.now) = ap (λ n. c.args.lane * n) c.element_words.ensures in
    omega (arith, columns_small (st_tree c.args.s.now) c.requires.in_size, c.requires.lane, e)
