use Rattle.std.proofs.Common.{arith}
use Rattle.ae_vmodule.specs.View.{module_tree}
use Rattle.ae_gates.proofs.Words.{grows_refl}
use Rattle.ae_elab.proofs.Wiring.{open_equations, wiring_first, wiring_whole}
use Rattle.ae_elab.proofs.wires.add_wires.Goals as goal

pub loop-turn-init : goal.loop-turn-init
loop-turn-init c = record {
  wiring = rw c.requires.from (wiring_first (module_tree c.args.m.now) c.requires.regular c.requires.shape c.args.order.items c.args.nets.now.items
      c.args.nl.now.cells c.requires.declared);
  grows = grows_refl c.args.nl.now;
  keeps = λ p y h. h;
  few = omega arith;
}

pub add_wire-requires-clause-room : goal.add_wire-requires-clause-room
add_wire-requires-clause-room c =
    let all = open_equations (module_tree c.args.m.now) c.args.nets.now.items in
    let room = c.requires.room in
    let few = c.loop-turn.invariant.few in
    let limit = c.loop-turn.invariant.grows.grows.limit in
    omega arith

pub returns-clause-wired : goal.returns-clause-wired
returns-clause-wired c =
    wiring_whole (module_tree c.args.m.now) c.requires.regular c.requires.shape c.args.order.items c.args.from c.loop-turn.turn c.loop-turn.nets.items
    c.loop-turn.nl.cells c.requires.sorted (omega arith) c.loop-turn.invariant.wiring

pub returns-clause-few : goal.returns-clause-few
returns-clause-few c =
    let all = open_equations (module_tree c.args.m.now) c.args.nets.now.items in
    let few = c.loop-turn.invariant.few in
    omega arith
