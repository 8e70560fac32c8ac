-- Each mark is a net.
use Rattle.ae_streamed.proofs.wrapping.placed_wires.Goals as goal
use Rattle.ae_gates.proofs.Added.{net_within}

pub placed-first-requires-clause-there : goal.placed-first-requires-clause-there
placed-first-requires-clause-there c = net_within c.requires.marks.first

pub placed-last-requires-clause-there : goal.placed-last-requires-clause-there
placed-last-requires-clause-there c = net_within c.requires.marks.last

pub placed-wants-requires-clause-there : goal.placed-wants-requires-clause-there
placed-wants-requires-clause-there c = net_within c.requires.marks.wants

pub placed-late-requires-clause-there : goal.placed-late-requires-clause-there
placed-late-requires-clause-there c = net_within c.requires.marks.late

pub placed-behind-requires-clause-there : goal.placed-behind-requires-clause-there
placed-behind-requires-clause-there c = net_within c.requires.marks.behind
