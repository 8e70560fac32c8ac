use Rattle.std.proofs.Common.{◌≡◌, drop, map}
use Rattle.ae_vmodule.specs.View.{net_tree}
use Rattle.ae_judge.specs.Judging.{first_too_large}
use Rattle.ae_judge.proofs.widths.first_too_large.Given as goal

abbrev pub invariant-net : goal.invariant-net
invariant-net l = first_too_large (map (net_tree l.names.words) (drop l.net-index l.nets)) ≡ first_too_large (map (net_tree l.names.words) l.nets)
