use Rattle.std.proofs.Common.{◌≡◌, ◌∙◌, ℕ, ◌<◌, ◌^◌, ap, sym, arith}
use Rattle.std.specs.Fmt.{decimal}
use Rattle.std.specs.Str.Parse.{digits_value}
use Rattle.std.proofs.lemmas.Fmt.{digits_value-decimal}
use Rattle.ae_fields.proofs.PlainLemmas.{own}
use Rattle.ae_tool.proofs.command.size_of.Goals.{else-n-ge1-via-then-n-ge1+else-n-le64, else-n-ge1-via-else-n-ge1}
use Rattle.ae_tool.proofs.command.size_of.Goals as goal

-- a number is written in one way
same_number : (m n : ℕ) → m < 2 ^ 64 → n < 2 ^ 64 → decimal m ≡ decimal n → m ≡ n
same_number m n a b e = sym (digits_value-decimal own m a) ∙ ap (digits_value 10) e ∙ digits_value-decimal own n b

pub returns-else-n-ge1 : goal.returns-else-n-ge1
returns-else-n-ge1 c = λ s range written.
    let same : c.in-Some.n ≡ s = same_number c.in-Some.n s (omega arith) (omega (arith, range.0, range.1))
    (sym c.in-Some.ensures ∙ c.as_bytes.ensures.value ∙ written) in
    elim c.else-n-ge1.branch [
      | else-n-ge1-via-then-n-ge1+else-n-le64 w ↦ omega (arith, same, range.1)
      | else-n-ge1-via-else-n-ge1 w ↦ omega (arith, same, range.0)
    ]
