use Rattle.std.proofs.Common.{◌≡◌, ◌*◌, ◌∙◌, length, ap, arith}
use Rattle.ae_sttype.specs.StTree.{element_words, st_atoms, st_tree}
use Rattle.ae_sttype.proofs.Bounds.{element_words_pos}
use Rattle.ae_fuse.proofs.ClockSteps.{length-element_clocks}
use Rattle.ae_fuse.proofs.clocks.add_layout.Goals as goal

pub add_words-requires-clause-some : goal.add_words-requires-clause-some
add_words-requires-clause-some c = omega (arith, c.element_words.ensures, element_words_pos (st_tree c.args.layout.now))

pub add_words-requires-clause-few : goal.add_words-requires-clause-few
add_words-requires-clause-few c =
    let long : length c.deref.result.now ≡ st_atoms (st_tree c.args.layout.now) = ap length (c.deref.ensures.value ∙ c.in_ok-elements.ensures) ∙
    length-element_clocks (st_tree c.args.layout.now) in
    let all : length c.deref.result.now * c.element_words.result ≡ st_atoms (st_tree c.args.layout.now) * element_words
    (st_tree c.args.layout.now) = (λ i. long i * c.element_words.ensures i) in
    omega (arith, all, c.requires.in_words)
