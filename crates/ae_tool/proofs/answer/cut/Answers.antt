use Rattle.std.proofs.Common.{◌-◌, length, drop, refl, ap, arith, subst}
use Rattle.std.specs.Prelude.{MatchOption}
use Rattle.std.proofs.lemmas.List.{take_all, length-drop}
use Rattle.ae_fields.specs.Parts.{HasNoMark, IsSplit}
use Rattle.ae_fields.specs.Rows.{rows}
use Rattle.ae_tool.specs.Cuts.{Marked}
use Rattle.ae_tool.proofs.answer.cut.Goals as goal

pub returns-in_default-Some-clause-parts : goal.returns-in_default-Some-clause-parts
returns-in_default-Some-clause-parts c =
    let bytes = c.args.bytes.now in
    let end = c.split.result.0 in
    let start = c.in_default-Some.start in
    let found : IsSplit bytes end start = subst (λ o. MatchOption o (HasNoMark bytes end) (λ s. IsSplit bytes end s)) c.in_default-Some.is-1 c.split.ensures in
    let long = length-drop start bytes in
    Marked end start found refl (ap rows (take_all (length bytes - start) (drop start bytes) (omega (arith, long))))
