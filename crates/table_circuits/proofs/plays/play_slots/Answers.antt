-- The layout is known, and the words are bytes.
use Rattle.std.proofs.Common.{◌≡◌, ◌∙◌, [], ◌∷◌, map, ap, arith, refl, rules}
use Rattle.std.proofs.lemmas.List.Elements.{All-nil, All-cons}
use Rattle.ae_word.specs.AtomTree.{word}
use Rattle.ae_sttype.specs.declared.st_type.StType.{StType}
use Rattle.ae_sttype.specs.StTree.{StTree, atom, tseq, st_tree, time}
use Rattle.ae_sttype.specs.Size.{IsInSize}
use Rattle.table_circuits.specs.Bytes.{byte_kind}
use Rattle.table_circuits.proofs.plays.play_slots.Goals as goal

abbrev layout : StTree
layout = tseq 2 1 (atom (word byte_kind))

in_size : IsInSize layout
in_size = record { lengths = (omega arith, refl); in_time = omega arith; in_words = omega arith; in_depth = omega arith }

pub play-requires-clause-takes : goal.play-requires-clause-takes
play-requires-clause-takes c =
    let shape : map st_tree c.as_slice.result.now ≡ layout ∷ [] =
    ap (map st_tree) (c.as_slice.ensures.value ∙ c.in_ok-layout.ensures.items) ∙ ap (λ (t : StType). tseq 2 1 (st_tree t) ∷ []) c.in_ok-of.ensures.ok in
    rw (shape, c.in-Some-of.ensures.0)
    (record {
      ins = All-cons (λ (s : StTree). IsInSize s × (time s ≡ 3)) layout [] (in_size, refl) (All-nil (λ (s : StTree). IsInSize s × (time s ≡ 3)));
      whole = omega (arith, c.in-Some.ensures.whole);
      rows =
          c.can_be_fed.ensures c.args.nl.now.cells 3 c.args.fill (layout ∷ []) c.in-Some.blocks c.args.words.now
          (c.has_widths.ensures (search rules)) c.in-Some.ensures.fit;
    })
