use Rattle.std.proofs.Common.{ℕ, List, ◌∙◌, ap, subst, string_bytes, sym}
use Rattle.ae_tool.specs.Commands.{word_bytes}
use Rattle.ae_tool.specs.Outcomes.{IsOutcome}
use Rattle.aethkit.proofs.renamed.built.Goals as goal

pub returns-then-is_ok : goal.returns-then-is_ok
returns-then-is_ok c =
    let words = ap word_bytes c.deref.ensures.value ∙ c.in_ok-words.ensures in
    let reply = c.in_ok-reply.reply in
    record {
      status = reply.status;
      done = sym c.is_ok.ensures ∙ c.if-is_ok.true;
      outcome = subst (λ (ws : List (List ℕ)). IsOutcome ws c.args.input.now reply.status (string_bytes reply.text)) words c.in_ok-reply.ensures;
    }
