use Rattle.std.proofs.Common.{◌<◌, length, sym, ◌∙◌, arith}
use Rattle.ae_fields.proofs.PartLemmas.{passed-line, passed-mark}
use Rattle.ae_fields.proofs.parts.split.Goals as goal

pub returns-then-is_mark : goal.returns-then-is_mark
returns-then-is_mark c =
    let some : 0 < length c.loop-line.rest.now = omega (arith, c.in-Some.ensures.shorter) in
    passed-mark c.args.text.now c.loop-line.rest.now c.in-Some.line.now c.in-Some.after.now c.loop-line.invariant.passed c.in-Some.ensures.bytes
    c.in-Some.ensures.cases some (sym c.is_mark.ensures ∙ c.if-is_mark.true)

pub loop-line-preserved : goal.loop-line-preserved
loop-line-preserved c =
    let some : 0 < length c.loop-line.rest.now = omega (arith, c.in-Some.ensures.shorter) in
    record {
      short = omega (arith, c.in-Some.ensures.shorter, c.loop-line.invariant.short);
      passed = passed-line c.args.text.now c.loop-line.rest.now c.in-Some.line.now c.in-Some.after.now c.loop-line.invariant.passed c.in-Some.ensures.bytes
          c.in-Some.ensures.cases some (sym c.is_mark.ensures ∙ c.if-is_mark.false);
    }
