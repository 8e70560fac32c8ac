use Rattle.std.proofs.Common.{◌≡◌, Some, None, refl, sym, ap, ◌∙◌, subst, arith}
use Rattle.std.specs.Str.Parse.{digits_value}
use Rattle.ae_vcd.specs.Forms.{is_after}
use Rattle.ae_vcd.specs.Machine.{time_of}
use Rattle.ae_vcd.specs.Held.{IsLater}
use Rattle.ae_vcd.proofs.Times.{after, is_none, not_after, times_again}
use Rattle.ae_vcd.proofs.body.Recorded.advance.Goals as goal

pub returns-in_default-clause-answer : goal.returns-in_default-clause-answer
returns-in_default-clause-answer c = λ vs ps digits h m r e.
    let none : time_of None ps ≡ None = sym h.last ∙ is_none c.args.self.now.last c.in_default.not-Some in
    let o = c.in_ok-open.ensures.answer vs ps digits h m r e (subst (λ o. IsLater o c.args.time) (sym none) tt) in
    (ap (λ o. is_after o (digits_value 10 digits)) none, o.0, o.1)

pub returns-then-time-last-clause-answer : goal.returns-then-time-last-clause-answer
returns-then-time-last-clause-answer c = λ vs ps digits h m r e.
    let some : time_of None ps ≡ Some c.in-Some.last = sym h.last ∙ c.in-Some.is in
    ap (λ o. is_after o (digits_value 10 digits)) some ∙ not_after c.in-Some.last (digits_value 10 digits) (let l = c.if-time-last.true in omega arith)

pub returns-then-time-last-2-clause-answer : goal.returns-then-time-last-2-clause-answer
returns-then-time-last-2-clause-answer c = λ vs ps digits h m r e.
    let some : time_of None ps ≡ Some c.in-Some.last = sym h.last ∙ c.in-Some.is in (
      ap (λ o. is_after o (digits_value 10 digits)) some ∙ after c.in-Some.last (digits_value 10 digits) (let l = c.if-time-last-2.true in omega arith),
      times_again c.args.self.now vs ps digits c.in-Some.last (sym e ∙ c.if-time-last-2.true) some h,
      refl,
    )

pub returns-clause-answer : goal.returns-clause-answer
returns-clause-answer c = λ vs ps digits h m r e.
    let some : time_of None ps ≡ Some c.in-Some.last = sym h.last ∙ c.in-Some.is in
    let o = c.in_ok-open-2.ensures.answer vs ps digits h m r e (subst (λ o. IsLater o c.args.time) (sym some) (omega arith)) in
    (ap (λ o. is_after o (digits_value 10 digits)) some ∙ after c.in-Some.last (digits_value 10 digits) (omega arith), o.0, o.1)
