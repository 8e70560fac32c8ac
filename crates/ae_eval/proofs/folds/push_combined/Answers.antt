use Rattle.std.proofs.Common.{◌≡◌, ◌∙◌, arith, ap, IsTrue}
use Rattle.std.proofs.lemmas.Bool.Decides.{nat_tests}
use Rattle.ae_word.specs.AtomTree.{atom_words}
use Rattle.ae_seqtype.specs.SeqTree.{parts_in_size, seq_tree, words}
use Rattle.ae_eval.proofs.Zips.{atom-depth, atom-in-size}
use Rattle.ae_eval.proofs.Combining.{grown-room, kind-there, word-fits, combine-step, combine-done, some-words}
use Rattle.ae_eval.proofs.folds.push_combined.Goals as goal

pub words-size-requires : goal.words-size-requires
words-size-requires c = rw c.atom-atom.ensures (atom-depth (seq_tree c.args.ty.now) c.requires.sized)

pub index-a-requires : goal.index-a-requires
index-a-requires c =
    let r = grown-room (seq_tree c.args.ty.now) c.args.left c.loop-index.index c.args.stack.now.items _ c.loop-index.stack.items c.requires.first
    c.loop-index.invariant (omega arith) in
    omega arith

pub index-b-requires : goal.index-b-requires
index-b-requires c =
    let r = grown-room (seq_tree c.args.ty.now) c.args.right c.loop-index.index c.args.stack.now.items _ c.loop-index.stack.items c.requires.second
    c.loop-index.invariant (omega arith) in
    omega arith

pub nonzero_rem-index : goal.nonzero_rem-index
nonzero_rem-index c =
    let m = c.words-size.ensures ∙ ap atom_words c.atom-atom.ensures in
    some-words (seq_tree c.args.ty.now) c.words-size.result m

pub combine-word-requires-clause-sized : goal.combine-word-requires-clause-sized
combine-word-requires-clause-sized c =
    let p : IsTrue (parts_in_size (seq_tree c.args.ty.now)) = (let s = c.requires.sized in grind (arith, nat_tests)) in
    rw c.atom-atom.ensures (atom-in-size (seq_tree c.args.ty.now) p)

pub combine-word-requires-clause-there : goal.combine-word-requires-clause-there
combine-word-requires-clause-there c =
    let m = c.words-size.ensures ∙ ap atom_words c.atom-atom.ensures in
    rw c.atom-atom.ensures (kind-there (seq_tree c.args.ty.now) c.loop-index.index c.words-size.result (omega arith) m)

pub combine-word-requires-clause-first : goal.combine-word-requires-clause-first
combine-word-requires-clause-first c =
    let m = c.words-size.ensures ∙ ap atom_words c.atom-atom.ensures in
    rw c.atom-atom.ensures (λ k s. word-fits (seq_tree c.args.ty.now) c.args.left c.loop-index.index c.words-size.result c.index-a.result.now
    c.args.stack.now.items _ c.loop-index.stack.items k c.requires.first c.loop-index.invariant (omega arith) m c.index-a.ensures s)

pub combine-word-requires-clause-second : goal.combine-word-requires-clause-second
combine-word-requires-clause-second c =
    let m = c.words-size.ensures ∙ ap atom_words c.atom-atom.ensures in
    rw c.atom-atom.ensures (λ k s. word-fits (seq_tree c.args.ty.now) c.args.right c.loop-index.index c.words-size.result c.index-b.result.now
    c.args.stack.now.items _ c.loop-index.stack.items k c.requires.second c.loop-index.invariant (omega arith) m c.index-b.ensures s)

pub loop-index-preserved : goal.loop-index-preserved
loop-index-preserved c =
    let m = c.words-size.ensures ∙ ap atom_words c.atom-atom.ensures in
    let a = rw c.atom-atom.ensures at c.combine-word.ensures in
    c.in_ok-push_word.ensures ∙ combine-step c.args.op (seq_tree c.args.ty.now) c.args.left c.args.right c.loop-index.index c.words-size.result
    c.index-a.result.now c.index-b.result.now c.combine-word.result c.args.stack.now.items c.loop-index.stack.items c.requires.first c.requires.second
    (omega arith) m c.loop-index.invariant c.index-a.ensures c.index-b.ensures a

pub returns : goal.returns
returns c =
    let done : c.loop-index.index ≡ words (seq_tree c.args.ty.now) = (let e = c.words-index-end.ensures in omega arith) in
    combine-done c.args.op (seq_tree c.args.ty.now) c.args.left c.args.right c.loop-index.index c.args.stack.now.items c.loop-index.stack.items
    c.requires.first c.requires.second done c.loop-index.invariant
