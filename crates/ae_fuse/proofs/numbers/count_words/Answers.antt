use Rattle.std.proofs.Common.{◌≡◌, ◌*◌, ◌∙◌, ap, arith}
use Rattle.ae_sttype.specs.StTree.{element_words, st_atoms, st_tree}
use Rattle.ae_fuse.proofs.numbers.count_words.Goals as goal

pub overflow_mul-result : goal.overflow_mul-result
overflow_mul-result c =
    let e : c.atoms.result * c.element_words.result ≡ st_atoms (st_tree c.args.layout.now) * element_words (st_tree c.args.layout.now) =
    ap (λ n. n * c.element_words.result) c.atoms.ensures ∙ ap (λ n. st_atoms (st_tree c.args.layout.now) * n) c.element_words.ensures in
    omega (arith, c.requires.in_words, e)

pub returns-clause-words : goal.returns-clause-words
returns-clause-words c = ap (λ n. n * c.element_words.result) c.atoms.ensures ∙ ap (λ n. st_atoms (st_tree c.args.layout.now) * n) c.element_words.ensures

pub returns-clause-few : goal.returns-clause-few
returns-clause-few c =
    let e : c.atoms.result * c.element_words.result ≡ st_atoms (st_tree c.args.layout.now) * element_words (st_tree c.args.layout.now) =
    ap (λ n. n * c.element_words.result) c.atoms.ensures ∙ ap (λ n. st_atoms (st_tree c.args.layout.now) * n) c.element_words.ensures in
    omega (arith, c.requires.in_words, e)
