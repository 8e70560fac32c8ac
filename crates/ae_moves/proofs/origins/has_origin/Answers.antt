-- An input's word is there where its element and its width are.
use Rattle.std.proofs.Common.{length, refl, arith}
use Rattle.std.proofs.lemmas.Bool.{false≢true}
use Rattle.std.proofs.lemmas.Option.{slice_get_read}
use Rattle.ae_sttype.specs.StTree.{st_tree}
use Rattle.ae_moves.proofs.CodeLaws.{input_below, origin_there}
use Rattle.ae_moves.proofs.Lists.{get_mapped}
use Rattle.ae_moves.proofs.origins.has_origin.Goals as goal

pub atoms-requires : goal.atoms-requires
atoms-requires c =
    let read = c.in-Some.ensures.lookup in
    c.requires.sizes c.in-Word.input c.in-Some.s.now (slice_get_read c.args.ins.now (length c.args.ins.now) c.in-Word.input c.in-Some.s.now refl read.3.0
    read.1)

pub returns-in-None : goal.returns-in-None
returns-in-None c =
    let past = c.in-None.ensures.lookup in (
      λ x. absurd (false≢true x),
      λ h. absurd (omega (arith, input_below c.args.ins.now c.in-Word.input c.in-Word.element c.in-Word.word c.args.width (rw c.in-Word.is at h), past.3)),
    )

pub returns-then-element-atoms : goal.returns-then-element-atoms
returns-then-element-atoms c =
    let read = c.in-Some.ensures.lookup in
    let found = slice_get_read c.args.ins.now (length c.args.ins.now) c.in-Word.input c.in-Some.s.now refl read.3.0 read.1 in (
      λ t. rw c.in-Word.is (
        st_tree c.in-Some.s.now,
        get_mapped st_tree c.args.ins.now c.in-Word.input c.in-Some.s.now found,
        rw c.atoms.ensures at c.if-element-atoms.true,
        c.has_width.ensures.0 t,
      ),
      λ h. c.has_width.ensures.1 (origin_there c.args.ins.now c.in-Word.input c.in-Word.element c.in-Word.word c.args.width c.in-Some.s.now
          (rw c.in-Word.is at h) found).1,
    )
