use Rattle.std.proofs.Common.{◌≡◌, ◌+◌, inr, drop, arith, subst, true, get_or, nat_lt}
use Rattle.std.specs.Char.{digit_value}
use Rattle.std.proofs.lemmas.Bool.{ne_eqb}
use Rattle.ae_vtoken.specs.Tokens.{base_of}
use Rattle.ae_vtoken.proofs.SizedLemmas.{zero_size}
use Rattle.ae_vtoken.proofs.sized.is_sized.Goals as goal

pub returns-then-text-from-eq48-clause-none : goal.returns-then-text-from-eq48-clause-none
returns-then-text-from-eq48-clause-none c e within =
    inr (zero_size c.args.text.now c.args.from c.args.quote c.requires.0 c.requires.1 c.if-text-from-eq48.true (drop (c.args.quote + 1) c.args.text.now))

pub returns-clause-sized : goal.returns-clause-sized
returns-clause-sized c e =
    let quote = c.quote_at.ensures.there c.if-not-quote_at.false in
    let digit = c.base_digit_at.ensures.there e in
    let next : c.args.quote + 1 + 1 ≡ c.args.quote + 2 = omega arith in
    record {
      past = c.requires.0;
      within = omega (arith, digit.0);
      mark = quote.1;
      size = ne_eqb _ _ c.if-text-from-eq48.false;
      digit = subst (λ n. nat_lt (digit_value (get_or c.args.text.now n 0)) (base_of (get_or c.args.text.now (c.args.quote + 1) 0)) ≡ true) next digit.1;
    }
