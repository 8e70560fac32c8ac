-- There are no more inputs than cells.
use Rattle.std.proofs.Common.{arith}
use Rattle.std.proofs.lemmas.List.Sums.{count_by-le-length}
use Rattle.ae_netlist.specs.Counts.{is_input}
use Rattle.ae_netlist.proofs.netlist.Netlist.inputs.Goals as goal

pub overflow_cast-result : goal.overflow_cast-result
overflow_cast-result c =
    grind (arith, c.len.ensures, c.self.invariant.3.long, c.self.invariant.0, count_by-le-length (λ sized. is_input sized.cell) c.self.inside.cells.items)
