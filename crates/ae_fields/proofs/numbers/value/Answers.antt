use Rattle.std.proofs.Common.{◌≡◌, ◌+◌, take, sym, ap, ◌∙◌, arith}
use Rattle.std.proofs.lemmas.Grind.{common_steps}
use Rattle.std.specs.Str.Parse.{digits_value}
use Rattle.ae_fields.proofs.Digits.{one-more, digit-least, later-digits, too-large, bounded-small, bounded}
use Rattle.ae_fields.proofs.numbers.value.Goals as goal

pub returns-in_default : goal.returns-in_default
returns-in_default c =
    let ds = c.args.digits.now in
    let i = c.loop-digit.digit-index in
    let m = one-more ds i c.loop-digit.value (omega arith) c.loop-digit.invariant.0 c.loop-digit.invariant.1 in
    let d = digit-least ds i (omega arith) c.loop-digit.invariant.1 in
    sym (too-large ds (i + 1) (omega (arith, m, c.in_default.ensures)))

pub returns-in_default-checked_add : goal.returns-in_default-checked_add
returns-in_default-checked_add c =
    let ds = c.args.digits.now in
    let i = c.loop-digit.digit-index in
    let m = one-more ds i c.loop-digit.value (omega arith) c.loop-digit.invariant.0 c.loop-digit.invariant.1 in
    let d = digit-least ds i (omega arith) c.loop-digit.invariant.1 in
    sym (too-large ds (i + 1) (omega (arith, m, c.in-Some.ensures, c.in_default-checked_add.ensures, c.from.ensures)))

pub loop-digit-preserved : goal.loop-digit-preserved
loop-digit-preserved c =
    let ds = c.args.digits.now in
    let i = c.loop-digit.digit-index in
    let m = one-more ds i c.loop-digit.value (omega arith) c.loop-digit.invariant.0 c.loop-digit.invariant.1 in
    let d = digit-least ds i (omega arith) c.loop-digit.invariant.1 in (
      omega (arith, m, c.in-Some.ensures, c.in-Some-checked_add.ensures, c.from.ensures),
      later-digits ds i (omega arith) c.loop-digit.invariant.1,
      omega (arith, c.in-Some-checked_add.ensures),
    )

pub returns : goal.returns
returns c =
    let ds = c.args.digits.now in
    let t : take c.loop-digit.digit-index ds ≡ ds = grind (arith, common_steps) in
    let e : c.loop-digit.value ≡ digits_value 10 ds = c.loop-digit.invariant.0 ∙ ap (digits_value 10) t in
    sym (bounded-small c.loop-digit.value c.loop-digit.invariant.2) ∙ ap bounded e
