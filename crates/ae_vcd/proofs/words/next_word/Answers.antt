use Rattle.std.proofs.Common.{◌≡◌, ◌∷◌, ◌∙◌, sym, arith, drop, get_or, false}
use Rattle.std.proofs.lemmas.Grind.{common_steps}
use Rattle.ae_vcd.specs.TextWords.{is_in_word, is_white, text_words}
use Rattle.ae_vcd.proofs.FirstWord.{no_blank-more, goes_on-blank, goes_on-end, words-taken}
use Rattle.ae_vcd.proofs.words.next_word.Goals.{then-loop-end-test+else-not-is_blank, else-loop-end-test}
use Rattle.ae_vcd.proofs.words.next_word.Goals as goal

pub loop-end-preserved : goal.loop-end-preserved
loop-end-preserved c =
    let e : is_white (get_or c.after_blanks-begun.result.now c.loop-end.end 0) ≡ false = grind (arith, common_steps) in
    (grind (arith, common_steps), no_blank-more c.after_blanks-begun.result.now c.loop-end.end c.loop-end-test.true c.loop-end.invariant.1 e)

pub returns-clause-cases : goal.returns-clause-cases
returns-clause-cases c =
    let xs = c.after_blanks-begun.result.now in
    let k = c.loop-end.end in
    let g : is_in_word (drop k xs) ≡ false = elim c.loop-end-test.branch [
      | then-loop-end-test+else-not-is_blank w ↦ goes_on-blank xs k w.loop-end-test.true (sym w.is_blank.ensures ∙ w.if-not-is_blank.false)
      | else-loop-end-test w ↦ goes_on-end xs k (grind (arith, common_steps))
    ] in
    sym c.after_blanks-begun.ensures.same
    ∙ words-taken xs k (grind (arith, common_steps)) c.loop-end.invariant.0 c.loop-end.invariant.1 g
    ∙ (λ j. sym c.split_at.ensures.front j ∷ text_words (sym c.split_at.ensures.back j))
