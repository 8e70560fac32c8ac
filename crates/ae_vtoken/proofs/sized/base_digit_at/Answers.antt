use Rattle.std.proofs.Common.{true, false, arith, sym, ◌∙◌}
use Rattle.std.specs.Char.{digit_value}
use Rattle.ae_vtoken.proofs.SizedLemmas.{no_sized_short, no_sized_at, below_base}
use Rattle.ae_vtoken.proofs.sized.base_digit_at.Goals as goal

pub returns-then-text-at-lt2-clause-none : goal.returns-then-text-at-lt2-clause-none
returns-then-text-at-lt2-clause-none c e size = no_sized_short c.args.text.now c.args.at (omega (arith, c.if-text-at-lt2.true)) size

pub returns-clause-there : goal.returns-clause-there
returns-clause-there c e = (omega (arith, c.if-text-at-lt2.false), sym (below_base _ _ _ _ c.digit_value.ensures c.base_of.ensures) ∙ e)

pub returns-clause-none : goal.returns-clause-none
returns-clause-none c e size =
    no_sized_at c.args.text.now c.args.at (omega (arith, c.if-text-at-lt2.false)) (sym (below_base _ _ _ _ c.digit_value.ensures c.base_of.ensures) ∙ e) size
