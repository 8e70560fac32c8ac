-- A demo is written whole, or there was no memory for it.
use Rattle.std.proofs.Common.{ℕ, List, subst}
use Rattle.std.specs.Prelude.{string_bytes}
use Rattle.ae_jobs.specs.declared.status.Status.TheVariants.{Ok}
use Rattle.ae_tool.specs.Answers.{Puts, SinkView, Demo_whole}
use Rattle.ae_tool.proofs.serve.make.Goals as goal

pub returns-in-Ok : goal.returns-in-Ok
returns-in-Ok g c =
    let old : SinkView = record {
      written = g.K.Sink.written c.args.sink.now;
      faults = g.K.Sink.faults c.args.sink.now;
      wants = g.K.Sink.wants c.args.sink.now;
      ends = g.K.Sink.ends c.args.sink.now;
    } in
    let new : SinkView = record {
      written = g.K.Sink.written c.put.new.sink;
      faults = g.K.Sink.faults c.put.new.sink;
      wants = g.K.Sink.wants c.put.new.sink;
      ends = g.K.Sink.ends c.put.new.sink;
    } in
    let P : List ℕ → Type 0 = λ ts. Puts ts Ok c.put.result old new in
    Demo_whole (string_bytes c.in-Ok.text) c.in-Ok.ensures (subst P c.as_bytes.ensures.value c.put.ensures)
