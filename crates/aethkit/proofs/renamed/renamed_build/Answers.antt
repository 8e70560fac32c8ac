use Rattle.std.proofs.Common.{ℕ, List, string_bytes, subst}
use Rattle.aethkit.specs.Renamed.{IsRenamed}
use Rattle.aethkit.proofs.renamed.renamed_build.Goals as goal

pub returns-in-Some : goal.returns-in-Some
returns-in-Some c =
    let differs = rw c.in-Some.is at c.in_ok-out.ensures in
    record {
      text = string_bytes c.in_ok-text.text;
      build = c.in_ok-text.ensures;
      differs = subst (λ (text : List ℕ). IsRenamed c.args.name.now text (string_bytes c.in-Some.out)) c.as_str.ensures.value differs;
    }
