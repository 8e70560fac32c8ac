use Rattle.std.proofs.Common.{◌≤◌}
use Rattle.ae_sttype.specs.StTree.{st_tree, time}
use Rattle.ae_layout.proofs.LaidOut.{AreRows}
use Rattle.ae_layout.proofs.rows.lay_out.Given as goal

abbrev pub invariant-loop-clock : goal.invariant-loop-clock
invariant-loop-clock l = record {
  rows : AreRows l.fill (st_tree l.s) l.v l.clock l.words.items;
  within : l.clock ≤ time (st_tree l.s);
}
