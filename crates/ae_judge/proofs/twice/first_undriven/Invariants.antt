use Rattle.std.proofs.Common.{◌≡◌, drop, map}
use Rattle.ae_vmodule.specs.View.{net_tree}
use Rattle.ae_judge.specs.Judging.{first_from, is_undriven}
use Rattle.ae_judge.proofs.twice.first_undriven.Given as goal

abbrev pub invariant-net : goal.invariant-net
invariant-net l =
    (l.place ≡ l.net-index)
    × (first_from (λ _. is_undriven l.driven.entries) l.place (map (net_tree l.driven.table.words) (drop l.net-index l.nets))
    ≡ first_from (λ _. is_undriven l.driven.entries) 0 (map (net_tree l.driven.table.words) l.nets))
