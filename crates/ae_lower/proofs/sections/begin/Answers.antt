use Rattle.ae_lower.proofs.Covering.{begins}
use Rattle.ae_lower.proofs.sections.begin.Goals as goal

pub returns : goal.returns
returns c =
    record {
      ok = λ a. begins c.args.section c.args.sections.now.items c.drop_empty.new.sections.items c.push.new.self.items (c.drop_empty.ensures a)
          (c.in_ok-push.ensures.items) a;
    }
