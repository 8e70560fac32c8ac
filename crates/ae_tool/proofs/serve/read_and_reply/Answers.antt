use Rattle.std.proofs.Common.{rules, ◌≡◌, ℕ, List, sym, ap, ◌∙◌, ◌≤◌, subst, length, arith, vec_len}
use Rattle.std.specs.Prelude.{string_bytes}
use Rattle.ae_jobs.specs.declared.status.Status.{Status}
use Rattle.ae_tool.specs.Answers.{Puts, SinkView, Unread, Past_limit, Done, No_room}
use Rattle.ae_tool.specs.Outcomes.{IsDone}
use Rattle.ae_tool.proofs.serve.read_and_reply.Goals as goal

pub returns-in-Ok-answer : goal.returns-in-Ok-answer
returns-in-Ok-answer g c ws h =
    let reply = c.in-Ok-answer.reply in
    let bytes : List ℕ = c.in-Ok.bytes.items in
    let text : List ℕ = string_bytes reply.text in
    let status : Status = reply.status in
    let O : List ℕ → Type 0 = λ bs. IsDone c.args.command.now bs status text in
    let old : SinkView = record {
      written = g.K.Sink.written c.args.sink.now;
      faults = g.K.Sink.faults c.args.sink.now;
      wants = g.K.Sink.wants c.args.sink.now;
      ends = g.K.Sink.ends c.args.sink.now;
    } in
    let new : SinkView = record {
      written = g.K.Sink.written c.put.new.sink;
      faults = g.K.Sink.faults c.put.new.sink;
      wants = g.K.Sink.wants c.put.new.sink;
      ends = g.K.Sink.ends c.put.new.sink;
    } in
    let P : List ℕ → Type 0 = λ ts. Puts ts status c.put.result old new in
    let long : length bytes ≡ vec_len c.in-Ok.bytes = ap length (sym c.deref.ensures.value) ∙ c.deref.ensures.len in
    let few : length bytes ≤ 16777216 = omega (arith, long, c.in-Ok.ensures.within) in
    Done c.args.command.now h c.requires bytes text status c.in-Ok.ensures.ok few (subst O c.deref.ensures.value c.in-Ok-answer.ensures)
    (subst P c.as_bytes.ensures.value c.put.ensures)

pub returns-in-Err-Read : goal.returns-in-Err-Read
returns-in-Err-Read g c ws h = Unread c.args.command.now h c.requires (c.in-Err-Read.ensures.read (search rules)) c.put-in-Err-Read.ensures

pub returns-in-Ok : goal.returns-in-Ok
returns-in-Ok g c ws h = No_room c.args.command.now h c.requires c.put-in-Err.ensures

pub returns-in-Err-TooLong : goal.returns-in-Err-TooLong
returns-in-Err-TooLong g c ws h = Past_limit c.args.command.now h c.requires (c.in-Err-TooLong.ensures.too_long (search rules)) c.put-in-Err-TooLong.ensures

pub returns : goal.returns
returns g c ws h = No_room c.args.command.now h c.requires c.put-in-Err-Memory.ensures
