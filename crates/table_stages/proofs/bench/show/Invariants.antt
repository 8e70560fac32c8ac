use Rattle.std.proofs.Common.{◌≡◌}
use Rattle.table_stages.proofs.bench.show.Given as goal

abbrev pub invariant-loop-net : goal.invariant-loop-net
invariant-loop-net l = l.nl.cells ≡ l.fn.nl.cells
