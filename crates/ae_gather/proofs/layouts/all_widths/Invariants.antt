use Rattle.std.proofs.Common.{◌≡◌, length}
use Rattle.ae_sttype.specs.StTree.{st_tree}
use Rattle.ae_gather.specs.Gathers.{AreWidths}
use Rattle.ae_gather.proofs.layouts.all_widths.Given as goal

abbrev pub invariant-loop-q : goal.invariant-loop-q
invariant-loop-q l = record {
  long : length l.widths.items ≡ l.q;
  widths : AreWidths (st_tree l.s) l.widths.items;
}
