use Rattle.std.proofs.Common.{◌≡◌, ◌+◌, ◌-◌, ◌≤◌, length}
use Rattle.ae_vtoken.specs.Ahead.{ahead}
use Rattle.ae_vmodule.specs.Held.{held}
use Rattle.ae_vmodule.specs.View.{net_tree}
use Rattle.ae_vmodule.specs.ModuleTree.{NetTree}
use Rattle.ae_vread.specs.ItemReading.{Entries, entries, net_by, net_list, comma_net}
use Rattle.ae_vread.specs.ReadExpr.{used}
use Rattle.ae_vread.specs.ReadList.{Added}
use Rattle.ae_vread.proofs.reading.Reader.net_list.Given as goal

-- what is left to do is what there was to do
abbrev pub invariant-next : goal.invariant-next
invariant-next l =
    (e : Entries NetTree) × Added net_tree l.fn.nets.items l.nets.items l.fn.self.words l.self e
    × (net_list (net_by l.high l.kind l.item) (ahead l.fn.self.tokens) ≡ entries (comma_net (net_by l.high l.kind l.item))
    (length (ahead l.fn.self.tokens) - l.turn) e.0 e.1)
    × (used l.self + 1 ≤ used l.fn.self) × (held l.self.stack ≡ held l.fn.self.stack)
