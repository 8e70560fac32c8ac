use Rattle.std.proofs.Common.{string_bytes, sym, ◌∙◌}
use Rattle.aethkit.specs.Explained.{Nothing}
use Rattle.aethkit.proofs.why.why.Goals as goal

pub returns-then-is_ok : goal.returns-then-is_ok
returns-then-is_ok g c =
    let done = sym c.is_ok.ensures ∙ c.if-is_ok.true in
    Nothing c.in_ok-reply.reply.status done (string_bytes c.in_ok-reply.reply.text) c.in_ok-reply.ensures c.in_ok-text.ensures.ok

pub explained-requires-clause-refused : goal.explained-requires-clause-refused
explained-requires-clause-refused g c = sym c.is_ok.ensures ∙ c.if-is_ok.false

pub explained-requires-clause-outcome : goal.explained-requires-clause-outcome
explained-requires-clause-outcome g c = c.in_ok-reply.ensures
