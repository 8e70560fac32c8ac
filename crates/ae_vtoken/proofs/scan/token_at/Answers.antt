use Rattle.std.proofs.Common.{sym, ◌∙◌, subst}
use Rattle.ae_vtoken.specs.Scan.{TokenAt}
use Rattle.ae_vtoken.proofs.TokenAt.{word_at, all_words}
use Rattle.ae_vtoken.proofs.DecimalLemmas.{all_digits}
use Rattle.ae_vtoken.proofs.SizedLemmas.{decimal_there}
use Rattle.ae_vtoken.proofs.MarkLemmas.{one_sign, two_sign, no_sign}
use Rattle.ae_vtoken.proofs.scan.token_at.Goals as goal

pub returns-then-is_letter-clause-found : goal.returns-then-is_letter-clause-found
returns-then-is_letter-clause-found c =
    let end = c.word_end-end.ensures.within in
    let at = word_at c.args.text.now c.args.from c.word_end-end.result c.requires end.0 end.1
    (sym c.is_letter.ensures ∙ c.if-is_letter.true) c.word_end-end.ensures.all c.word_end-end.ensures.ends in
    subst (TokenAt c.args.text.now c.args.from c.word_end-end.result) (sym c.word.ensures) at

pub returns-in-Some-clause-found : goal.returns-in-Some-clause-found
returns-in-Some-clause-found c =
    two_sign c.args.text.now c.args.from c.in-Some.sign c.requires
    (sym c.is_letter.ensures ∙ c.if-is_letter.false, sym c.is_ascii_digit.ensures.value ∙ c.if-is_ascii_digit.false) (sym c.in-Some.ensures)

pub returns-in-Some-front_sign-clause-found : goal.returns-in-Some-front_sign-clause-found
returns-in-Some-front_sign-clause-found c =
    one_sign c.args.text.now c.args.from c.in-Some-front_sign.sign c.requires
    (sym c.is_letter.ensures ∙ c.if-is_letter.false, sym c.is_ascii_digit.ensures.value ∙ c.if-is_ascii_digit.false) (sym c.in-None.ensures)
    (sym c.in-Some-front_sign.ensures)

pub returns-in-None-front_sign-clause-none : goal.returns-in-None-front_sign-clause-none
returns-in-None-front_sign-clause-none c =
    no_sign c.args.text.now c.args.from c.requires (
      sym c.is_letter.ensures ∙ c.if-is_letter.false,
      sym c.is_ascii_digit.ensures.value ∙
          c.if-is_ascii_digit.false,
    ) (sym c.in-None.ensures) (sym c.in-None-front_sign.ensures)

pub returns-else-is_sized-clause-found : goal.returns-else-is_sized-clause-found
returns-else-is_sized-clause-found c =
    let end = c.digits_end-end.ensures.within in
    let at = decimal_there c.args.text.now c.args.from c.digits_end-end.result c.requires end.0 end.1 (sym c.is_letter.ensures ∙ c.if-is_letter.false)
    (sym c.is_ascii_digit.ensures.value ∙ c.if-is_ascii_digit.true) c.digits_end-end.ensures.all
    c.digits_end-end.ensures.ends (c.is_sized.ensures.none c.if-is_sized.false) in
    subst (TokenAt c.args.text.now c.args.from c.digits_end-end.result) (sym c.decimal.ensures) at

pub decimal-requires : goal.decimal-requires
decimal-requires c =
    let end = c.digits_end-end.ensures.within in
    all_digits c.args.text.now c.args.from c.digits_end-end.result c.requires end.0
    (sym c.is_ascii_digit.ensures.value ∙ c.if-is_ascii_digit.true) c.digits_end-end.ensures.all

pub word-requires : goal.word-requires
word-requires c =
    let end = c.word_end-end.ensures.within in
    all_words c.args.text.now c.args.from c.word_end-end.result c.requires end.0 (sym c.is_letter.ensures ∙ c.if-is_letter.true) c.word_end-end.ensures.all

pub sized-requires-clause-digits : goal.sized-requires-clause-digits
sized-requires-clause-digits c =
    let end = c.digits_end-end.ensures.within in
    all_digits c.args.text.now c.args.from c.digits_end-end.result c.requires end.0
    (sym c.is_ascii_digit.ensures.value ∙ c.if-is_ascii_digit.true) c.digits_end-end.ensures.all
