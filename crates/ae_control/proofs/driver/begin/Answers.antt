-- Two constants, and the registers behind them.
use Rattle.std.proofs.Common.{◌∷◌, [], length, length-append, arith, ap}
use Rattle.ae_netlist.specs.declared.cell.Cell.TheVariants.{Const}
use Rattle.ae_netlist.specs.Circuit.{Circuit}
use Rattle.ae_control.proofs.Standing.{begun}
use Rattle.ae_control.proofs.driver.begin.Goals as goal

pub returns : goal.returns
returns c =
    begun c.args.nl.now c.push.new.self c.push-2.new.self c.registers.new.nl c.args.blocks c.in_ok-push.ensures.added c.in_ok-push-2.ensures.added
    c.in_ok-registers.ensures

pub push-requires-clause-room : goal.push-requires-clause-room
push-requires-clause-room c = omega (arith, c.requires.room)

pub push-requires-2-clause-room : goal.push-requires-2-clause-room
push-requires-2-clause-room c = omega (
  arith,
  c.requires.room,
  ap (λ (v : Circuit). v.limit) c.in_ok-push.ensures.added,
  ap (λ (v : Circuit). length v.cells) c.in_ok-push.ensures.added,
  length-append c.args.nl.now.cells ((record { width = 1; cell = Const 0 }) ∷ []),
)

pub registers-requires : goal.registers-requires
registers-requires c = omega (
  arith,
  c.requires.room,
  ap (λ (v : Circuit). v.limit) c.in_ok-push.ensures.added,
  ap (λ (v : Circuit). length v.cells) c.in_ok-push.ensures.added,
  length-append c.args.nl.now.cells ((record { width = 1; cell = Const 0 }) ∷ []),
  ap (λ (v : Circuit). v.limit) c.in_ok-push-2.ensures.added,
  ap (λ (v : Circuit). length v.cells) c.in_ok-push-2.ensures.added,
  length-append c.push.new.self.cells ((record { width = 1; cell = Const 1 }) ∷ []),
)
