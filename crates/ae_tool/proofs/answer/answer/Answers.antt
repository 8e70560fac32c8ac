use Rattle.std.specs.Prelude.{string_bytes}
use Rattle.std.proofs.lemmas.Result.{IfOk-weaker}
use Rattle.ae_fields.specs.Rows.{rows}
use Rattle.ae_jobs.specs.declared.reply.Reply.{Reply}
use Rattle.ae_tool.specs.Outcomes.{IsReply, IsDone}
use Rattle.ae_tool.proofs.answer.answer.Goals as goal

pub returns : goal.returns
returns c =
    IfOk-weaker c.answer_parts.result (λ (r : Reply). IsReply c.args.command.now c.parts.result.0.now (rows c.parts.result.1.now) r.status
    (string_bytes r.text))
    (λ (r : Reply). IsDone c.args.command.now c.args.bytes.now r.status (string_bytes r.text))
    (λ r w. record { part = c.parts.result.0.now; table = rows c.parts.result.1.now; cut = c.parts.ensures.parts; reply = w }) c.answer_parts.ensures
