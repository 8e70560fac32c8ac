use Rattle.std.proofs.Common.{◌≡◌, ◌∙◌, ◌*◌, ap, arith, sym}
use Rattle.std.proofs.lemmas.Result.{on_ok_weaker}
use Rattle.ae_word.specs.AtomTree.{atom_words}
use Rattle.ae_seqtype.specs.SeqTree.{atoms, seq_tree, words}
use Rattle.ae_eval.proofs.Zips.{atom-depth, words-atoms, zip-pushed, zip-words}
use Rattle.ae_eval.proofs.moves.push_zipped.Goals as goal

pub words-size-requires : goal.words-size-requires
words-size-requires c = rw c.atom.ensures (atom-depth (seq_tree c.args.ty.now) c.requires.sized)

pub words-next-requires : goal.words-next-requires
words-next-requires c = rw c.atom-2.ensures (atom-depth (seq_tree c.args.other.now) c.requires.sized_too)

pub push_paired-requires-clause-first_room : goal.push_paired-requires-clause-first_room
push_paired-requires-clause-first_room c =
    let s = seq_tree c.args.ty.now in
    let k = c.words-size.ensures ∙ ap atom_words c.atom.ensures in
    let all : c.atoms.result * c.words-size.result ≡ words s = ap (λ j. j * c.words-size.result) c.atoms.ensures ∙ ap (λ j. atoms s * j) k ∙
    sym (words-atoms s) in
    omega (arith, all, c.requires.fits.room)

pub push_paired-requires-clause-second_room : goal.push_paired-requires-clause-second_room
push_paired-requires-clause-second_room c =
    let z = seq_tree c.args.other.now in
    let l = c.words-next.ensures ∙ ap atom_words c.atom-2.ensures in
    let all = zip-words (seq_tree c.args.ty.now) z c.atoms.result c.words-next.result c.atoms.ensures l c.requires.typed in
    omega (arith, all, c.requires.fits_too.room)

pub returns : goal.returns
returns c =
    let k = c.words-size.ensures ∙ ap atom_words c.atom.ensures in
    let l = c.words-next.ensures ∙ ap atom_words c.atom-2.ensures in
    on_ok_weaker c.push_paired.result (zip-pushed (seq_tree c.args.ty.now)
    (seq_tree c.args.other.now) c.atoms.result c.words-size.result c.words-next.result c.args.start c.args.place c.args.stack.now.items
    c.push_paired.new.stack.items c.atoms.ensures k l c.requires.fits c.requires.fits_too) c.push_paired.ensures
