use Rattle.std.proofs.Common.{◌++◌, ap, ◌∙◌}
use Rattle.std.specs.Prelude.{string_bytes}
use Rattle.ae_jobs.proofs.SimRuns.{line_is}
use Rattle.ae_jobs.proofs.sim_job.ClockWriterMonitor.take.Goals as goal

pub returns-clause-takes : goal.returns-clause-takes
returns-clause-takes c =
    line_is c.args.clock c.args.words.now (string_bytes c.args.out.now) (string_bytes c.push_str.new.self) (string_bytes c.write_words.new.out)
    (string_bytes c.push_str-2.new.self)
    (c.in_ok-push_str.ensures.bytes ∙ ap (λ x. string_bytes c.args.out.now ++ x) c.format.ensures.text) c.in_ok-write_words.ensures
    c.in_ok-push_str-2.ensures.bytes
