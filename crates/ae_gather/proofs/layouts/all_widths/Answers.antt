use Rattle.std.proofs.Common.{◌≡◌, ◌+◌, ◌*◌, ◌++◌, ◌∷◌, [], ◌∙◌, ap, arith}
use Rattle.std.proofs.lemmas.List.{length_push}
use Rattle.ae_sttype.specs.StTree.{element_words, lanes, st_tree}
use Rattle.ae_moves.proofs.Words.{columns_small}
use Rattle.ae_gather.proofs.CodeLaws.{widths_more}
use Rattle.ae_gather.proofs.layouts.all_widths.Goals as goal

pub overflow_mul-columns : goal.overflow_mul-columns
overflow_mul-columns c =
    let e : c.lanes.result * c.element_words-words.result ≡ lanes (st_tree c.args.s.now) * element_words (st_tree c.args.s.now) =
    ap (λ n. n * c.element_words-words.result) c.lanes.ensures ∙ ap (λ n. lanes (st_tree c.args.s.now) * n) c.element_words-words.ensures in
    omega (arith, columns_small (st_tree c.args.s.now) c.requires, e)

pub loop-q-preserved : goal.loop-q-preserved
loop-q-preserved c =
    let kept : c.push.new.self.items ≡ c.loop-q.widths.items ++ c.word_width.result ∷ [] = c.in_ok-push.ensures.items in
    let wide = rw c.element_words-words.ensures at c.word_width.ensures in
    record {
      long = rw kept (length_push c.loop-q.widths.items c.word_width.result ∙ ap (λ n. n + 1) c.loop-q.invariant.long);
      widths = rw kept (widths_more (st_tree c.args.s.now) c.loop-q.widths.items c.loop-q.q c.word_width.result c.loop-q.invariant.long
          c.loop-q.invariant.widths wide);
    }

pub returns-clause-long : goal.returns-clause-long
returns-clause-long c =
    let e : c.lanes.result * c.element_words-words.result ≡ lanes (st_tree c.args.s.now) * element_words (st_tree c.args.s.now) =
    ap (λ n. n * c.element_words-words.result) c.lanes.ensures ∙ ap (λ n. lanes (st_tree c.args.s.now) * n) c.element_words-words.ensures in
    omega (arith, c.loop-q.invariant.long, c.loop-q-test.false, c.loop-q.auto.q-end, e)
