use Rattle.ae_word.specs.AtomTree.{atom_kinds}
use Rattle.ae_sttype.specs.StTree.{element_atom, st_tree}
use Rattle.ae_fold.proofs.Kinding.{folds_all, folds_more, word_there}
use Rattle.ae_fold.proofs.words.word_folds.Goals as goal

pub word_fold-requires : goal.word_fold-requires
word_fold-requires c = rw c.atom-atom.ensures (word_there (st_tree c.args.element.now) c.loop-j.j _ c.element_words-j-end.ensures c.loop-j-test.true)

pub loop-j-preserved : goal.loop-j-preserved
loop-j-preserved c =
    rw c.in_ok-push.ensures.items
    (folds_more c.args.op (atom_kinds (element_atom (st_tree c.args.element.now))) c.loop-j.j c.loop-j.folds.items c.word_fold.result
    (word_there (st_tree c.args.element.now) c.loop-j.j _ c.element_words-j-end.ensures c.loop-j-test.true) c.loop-j.invariant
    (rw c.atom-atom.ensures at c.word_fold.ensures))

pub returns : goal.returns
returns c =
    record {
      folds = folds_all c.args.op (st_tree c.args.element.now) c.loop-j.j _ c.loop-j.folds.items c.element_words-j-end.ensures c.loop-j-test.false
          c.loop-j.invariant;
    }
