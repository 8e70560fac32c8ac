use Rattle.std.proofs.Common.{arith}
use Rattle.std.proofs.lemmas.Result.{on_ok_weaker}
use Rattle.ae_seqtype.specs.SeqTree.{seq_tree}
use Rattle.ae_eval.proofs.Wording.{choice-pushed, choice-fit, choice-rooms}
use Rattle.ae_eval.proofs.words.push_chosen.Goals as goal

pub index-requires : goal.index-requires
index-requires c =
    let r = choice-rooms c.args.op (seq_tree c.args.test.now) (seq_tree c.args.ty.now)
    (seq_tree c.args.other.now) c.args.place c.args.first c.args.second c.args.stack.now.items c.requires.test_fits c.requires.first_fits
    c.requires.second_fits c.requires.typed in
    omega (arith, r.0)

pub word_result-word-requires-clause-fit : goal.word_result-word-requires-clause-fit
word_result-word-requires-clause-fit c =
    choice-fit c.args.op (seq_tree c.args.test.now) (seq_tree c.args.ty.now)
    (seq_tree c.args.other.now) c.args.place c.args.first c.args.second c.args.stack.now.items c.index.result.now c.index-2.result.now c.index-3.result.now
    c.requires.test_fits c.requires.first_fits c.requires.second_fits c.index.ensures c.index-2.ensures c.index-3.ensures c.requires.typed

pub returns : goal.returns
returns c =
    on_ok_weaker c.push_word.result (choice-pushed c.args.op (seq_tree c.args.test.now) (seq_tree c.args.ty.now)
    (seq_tree c.args.other.now) c.args.place c.args.first c.args.second c.args.stack.now.items c.push_word.new.stack.items c.index.result.now
    c.index-2.result.now c.index-3.result.now c.word_result-word.result c.requires.test_fits c.requires.first_fits c.requires.second_fits c.index.ensures
    c.index-2.ensures c.index-3.ensures c.word_result-word.ensures) c.push_word.ensures
