use Rattle.std.proofs.Common.{take}
use Rattle.ae_netlist.specs.Circuit.{width_of}
use Rattle.ae_clocked.specs.Delays.{AreTaps}
use Rattle.ae_clocked.proofs.lines.line.Given as goal

abbrev pub invariant-loop-tap : goal.invariant-loop-tap
invariant-loop-tap l = AreTaps l.nl.cells l.clocks.rst (width_of l.fn.nl.cells l.fn.x.0) l.fn.x.0 (take l.tap-index l.taps) l.tapped.items
