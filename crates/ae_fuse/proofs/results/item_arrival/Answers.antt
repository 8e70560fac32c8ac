use Rattle.std.proofs.Common.{◌≡◌, ◌*◌, ◌∙◌, length, ap, arith, sym}
use Rattle.ae_sttype.specs.StTree.{element_words, st_atoms, st_tree}
use Rattle.ae_sttype.proofs.Bounds.{element_words_pos}
use Rattle.ae_fuse.proofs.ClockSteps.{arrival-is, length-element_clocks}
use Rattle.ae_fuse.proofs.results.item_arrival.Goals as goal

pub lateness-requires-clause-some : goal.lateness-requires-clause-some
lateness-requires-clause-some c = omega (arith, c.element_words.ensures, element_words_pos (st_tree c.args.out.now))

pub lateness-requires-clause-long : goal.lateness-requires-clause-long
lateness-requires-clause-long c =
    let long : length c.deref.result.now ≡ st_atoms (st_tree c.args.out.now) = ap length (c.deref.ensures.value ∙ c.in_ok-elements.ensures) ∙
    length-element_clocks (st_tree c.args.out.now) in
    let all : length c.deref.result.now * c.element_words.result ≡ st_atoms (st_tree c.args.out.now) * element_words
    (st_tree c.args.out.now) = (λ i. long i * c.element_words.ensures i) in
    c.requires.long ∙ sym all

pub returns : goal.returns
returns c =
    λ ins from. c.lateness.ensures
    ∙ arrival-is ins (st_tree c.args.out.now) c.args.sources.now c.args.labels.now c.deref.result.now c.element_words.result from
    (c.deref.ensures.value ∙ c.in_ok-elements.ensures) c.element_words.ensures c.requires.long
