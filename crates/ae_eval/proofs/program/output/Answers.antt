use Rattle.std.proofs.Common.{◌∙◌, subst, sym, arith}
use Rattle.ae_seq.specs.ProgramTree.{program_tree}
use Rattle.ae_seqtype.specs.SeqTree.{seq_tree}
use Rattle.ae_seqtype.specs.ValueTree.{Fit}
use Rattle.ae_eval.proofs.Answering.{item-room, output-is}
use Rattle.ae_eval.proofs.program.output.Goals as goal

pub place_of-place-requires-clause-room : goal.place_of-place-requires-clause-room
place_of-place-requires-clause-room c =
    let r = item-room (program_tree c.args.p.now) c.args.func c.args.item c.args.stack.now c.requires.fits c.requires.there in
    omega (arith, r)

pub words_at-requires : goal.words_at-requires
words_at-requires c =
    (output-is (program_tree c.args.p.now) c.args.func c.args.item c.place_of-place.result.start c.words.result c.args.stack.now
    (seq_tree c.place_of-place.result.ty.now) c.requires.fits c.place_of-place.ensures.is c.place_of-place.ensures.start c.words.ensures).room

pub returns-clause-words : goal.returns-clause-words
returns-clause-words c =
    let r = output-is (program_tree c.args.p.now) c.args.func c.args.item c.place_of-place.result.start c.words.result c.args.stack.now
    (seq_tree c.place_of-place.result.ty.now) c.requires.fits c.place_of-place.ensures.is c.place_of-place.ensures.start c.words.ensures in
    c.in_ok-words_at.ensures ∙ r.words

pub returns-clause-fits : goal.returns-clause-fits
returns-clause-fits c =
    let r = output-is (program_tree c.args.p.now) c.args.func c.args.item c.place_of-place.result.start c.words.result c.args.stack.now
    (seq_tree c.place_of-place.result.ty.now) c.requires.fits c.place_of-place.ensures.is c.place_of-place.ensures.start c.words.ensures in
    λ t e. subst (Fit t) (sym c.in_ok-words_at.ensures) (r.fits t e)
