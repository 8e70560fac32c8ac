use Rattle.std.proofs.Common.{◌++◌, ◌∙◌, ap, string_bytes}
use Rattle.aethkit.specs.Explained.{Refused}
use Rattle.aethkit.proofs.why.explained.Goals as goal

pub returns : goal.returns
returns g c =
    Refused c.args.reply.status c.requires.refused (string_bytes c.args.reply.text) (string_bytes c.in_ok-more.more) c.requires.outcome
    (c.in_ok-text.ensures ∙ ap (λ s. string_bytes c.args.reply.text ++ s) c.as_str.ensures.value)
