-- The mark, and the counters that belong to the netlist.
use Rattle.ae_streamed.proofs.layouts.period_bit.Goals as goal

pub returns-clause-gains : goal.returns-clause-gains
returns-clause-gains c = record {
  grows = c.in_ok-y.ensures.adds.grows;
  belongs = c.in_ok-y.ensures.belongs;
  rst = c.in_ok-y.ensures.keeps.rst;
  told = record { net = c.in_ok-y.ensures.net; words = c.in_ok-y.ensures.marks };
}

pub returns-clause-adds : goal.returns-clause-adds
returns-clause-adds c = c.in_ok-y.ensures.adds
