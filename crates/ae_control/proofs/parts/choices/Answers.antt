-- Each choice reads cells that stand before it.
use Rattle.std.proofs.Common.{[], length, length-append, length-take, map, take, arith, ap, get_or}
use Rattle.std.proofs.lemmas.List.{length-map}
use Rattle.ae_netlist.specs.Circuit.{Circuit}
use Rattle.ae_control.specs.Cells.{choice}
use Rattle.ae_control.proofs.Cells.{choice_allowed, found_at}
use Rattle.ae_control.proofs.parts.choices.Goals as goal

pub push-requires-clause-allowed : goal.push-requires-clause-allowed
push-requires-clause-allowed c =
    let e = ap (λ (v : Circuit). v.cells) c.loop-k.invariant.added in
    rw e (choice_allowed c.args.nl.now.cells c.args.width c.args.gates.now c.loop-k.k (get_or c.args.gates.now c.loop-k.k []) c.requires.choices
    (found_at c.args.gates.now c.loop-k.k [] (omega (arith, c.loop-k.invariant.all))))

pub push-requires-clause-room : goal.push-requires-clause-room
push-requires-clause-room c =
    let now = map (choice c.args.width) (take c.loop-k.k c.args.gates.now) in
    omega (
      arith,
      c.requires.room,
      c.loop-k-test.true,
      c.loop-k.invariant.all,
      ap (λ (v : Circuit). v.limit) c.loop-k.invariant.added,
      ap (λ (v : Circuit). length v.cells) c.loop-k.invariant.added,
      length-append c.args.nl.now.cells now,
      length-map (take c.loop-k.k c.args.gates.now) (choice c.args.width),
      length-take c.loop-k.k c.args.gates.now,
    )
