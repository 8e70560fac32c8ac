use Rattle.std.proofs.Common.{◌≡◌, ◌∙◌, ℕ, ◌<◌, ◌^◌, List, Option, Some, None, ap, sym, subst, arith}
use Rattle.std.specs.Prelude.{MatchOption}
use Rattle.std.specs.Fmt.{decimal}
use Rattle.std.specs.Str.Parse.{digits_value}
use Rattle.std.proofs.lemmas.Fmt.{digits_value-decimal}
use Rattle.ae_fields.proofs.PlainLemmas.{own}
use Rattle.ae_sttype.specs.Slowdowns.{IsSlowdown}
use Rattle.ae_tool.proofs.command.slowdown_of.Goals as goal

-- a number is written in one way
same_number : (m n : ℕ) → m < 2 ^ 64 → n < 2 ^ 64 → decimal m ≡ decimal n → m ≡ n
same_number m n a b e = sym (digits_value-decimal own m a) ∙ ap (digits_value 10) e ∙ digits_value-decimal own n b

-- the slowdown of a number is the one that its digits write
written_by : (result : Option ℕ) (n : ℕ) (digits : List ℕ) → n < 2 ^ 64 → digits ≡ decimal n
    → MatchOption result (IsSlowdown n → ⊥) (λ s. (s ≡ n) × IsSlowdown s)
    → MatchOption result ((s : ℕ) → IsSlowdown s → digits ≡ decimal s → ⊥) (λ s. (digits ≡ decimal s) × IsSlowdown s)
written_by (Some s) n digits low is h = (is ∙ ap decimal (sym h.0), h.1)
written_by None n digits low is h = λ s range written.
    h (subst IsSlowdown (sym (same_number n s low (omega (arith, range.1)) (sym is ∙ written))) range)

pub returns-then-n-le4096 : goal.returns-then-n-le4096
returns-then-n-le4096 c =
    written_by c.of.result c.in-Some.n c.args.digits.now (omega arith) (sym c.as_bytes.ensures.value ∙ c.in-Some.ensures) c.of.ensures

pub returns-else-n-le4096 : goal.returns-else-n-le4096
returns-else-n-le4096 c = λ s range written.
    let same : c.in-Some.n ≡ s = same_number c.in-Some.n s (omega arith) (omega (arith, range.1))
    (sym c.in-Some.ensures ∙ c.as_bytes.ensures.value ∙ written) in
    omega (arith, same, range.1)
