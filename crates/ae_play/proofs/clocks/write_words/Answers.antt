use Rattle.std.proofs.Common.{◌+◌, ◌++◌, drop, ap, ◌∙◌}
use Rattle.std.specs.Prelude.{string_bytes}
use Rattle.std.proofs.lemmas.List.{drop_more}
use Rattle.ae_play.proofs.WordLines.{spaced_more}
use Rattle.ae_play.proofs.clocks.write_words.Goals as goal

pub loop-word-preserved : goal.loop-word-preserved
loop-word-preserved c =
    spaced_more _ (drop c.loop-word.word-index c.args.words.now) (drop (c.loop-word.word-index + 1) c.args.words.now) (string_bytes c.loop-word.out)
    (string_bytes c.push_str.new.self) (string_bytes c.push_str-in-loop-word.new.self)
    _ (drop_more c.args.words.now c.loop-word.word-index 0 c.loop-word-test.true) c.in_ok-push_str.ensures.bytes
    (c.in_ok-push_str-2.ensures.bytes ∙ ap (λ x. string_bytes c.push_str.new.self ++ x) c.format.ensures.text) c.loop-word.invariant
