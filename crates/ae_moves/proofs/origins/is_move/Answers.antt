-- One part of the test after the other.
use Rattle.std.proofs.Common.{IsTrue, refl, sym, ◌∙◌}
use Rattle.std.proofs.lemmas.Bool.{false≢true}
use Rattle.std.proofs.lemmas.List.{length-map}
use Rattle.ae_sttype.specs.StTree.{st_tree}
use Rattle.ae_moves.specs.Trees.{origin_tree}
use Rattle.ae_moves.proofs.Lists.{get_mapped}
use Rattle.ae_moves.proofs.origins.is_move.Goals as goal

pub returns-then-not-take_time : goal.returns-then-not-take_time
returns-then-not-take_time c = (
  λ x. absurd (false≢true x),
  λ m. (let t : IsTrue c.take_time.result = c.take_time.ensures.1 (rw c.time.ensures m.types) in absurd (false≢true (sym c.if-not-take_time.true ∙ t))),
)

pub are_origins-requires-clause-sizes : goal.are_origins-requires-clause-sizes
are_origins-requires-clause-sizes c = λ i t f. (c.take_time.ensures.0 c.if-not-take_time.false i (st_tree t) (get_mapped st_tree c.args.ins.now i t f)).0

pub returns : goal.returns
returns c = (
  λ t. record {
    out = c.in_size.ensures.0 c.if-not-in_size.false;
    types = rw c.time.ensures at (c.take_time.ensures.0 c.if-not-take_time.false);
    count = length-map c.args.source.now origin_tree ∙ (c.if-source-atoms.false ∙ rw (c.atoms.ensures, c.element_words.ensures) refl);
    origins = c.are_origins.ensures.0 t;
  },
  λ m. c.are_origins.ensures.1 m.origins,
)
