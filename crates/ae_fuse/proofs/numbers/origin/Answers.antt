use Rattle.std.proofs.Common.{◌≡◌, Some, slice_get, length, arith, refl}
use Rattle.std.proofs.lemmas.Option.{slice_get_read}
use Rattle.ae_fuse.proofs.NumberSteps.{number-found, number-step}
use Rattle.ae_fuse.proofs.numbers.origin.Goals as goal

pub loop-i-preserved : goal.loop-i-preserved
loop-i-preserved c =
    let k = c.loop-i.i in
    let ls = c.args.ins.now in
    let t = c.index-ins-i.result in
    let found : slice_get ls k ≡ Some t = slice_get_read ls (length ls) k t refl (omega arith) c.index-ins-i.is in
    number-step ls k c.loop-i.rest c.count_words-count.result t _ found c.count_words-count.ensures.words (omega arith) c.loop-i.invariant

pub returns-then-rest-count : goal.returns-then-rest-count
returns-then-rest-count c =
    let k = c.loop-i.i in
    let ls = c.args.ins.now in
    let t = c.index-ins-i.result in
    let found : slice_get ls k ≡ Some t = slice_get_read ls (length ls) k t refl (omega arith) c.index-ins-i.is in
    number-found ls k c.args.label c.loop-i.rest c.count_words-count.result c.element_words-words.result t found c.count_words-count.ensures.words
    c.element_words-words.ensures (omega arith) (omega arith) c.loop-i.invariant
