use Rattle.std.proofs.Common.{length, ap, ◌∙◌, arith}
use Rattle.ae_vmodule.specs.View.{module_tree}
use Rattle.ae_netlist.proofs.Growing.{extends_length}
use Rattle.ae_netlist.specs.Circuit.{Circuit}
use Rattle.ae_runs.specs.SameRuns.{input_cells}
use Rattle.ae_judge.proofs.Members.{among_from}
use Rattle.ae_runs.proofs.Clocks.{output_no_clock}
use Rattle.ae_elab.proofs.Unchanged.{inputs_kept, states_kept}
use Rattle.ae_elab.proofs.Realizing.{at_of, nets_connected, plain_ports, realizes, still_unconnected}
use Rattle.ae_elab.proofs.WeightParts.{weight_parts}
use Rattle.ae_elab.proofs.build.construct.Goals as goal

pub add_wires-requires-clause-room : goal.add_wires-requires-clause-room
add_wires-requires-clause-room c =
    let parts = weight_parts (module_tree c.args.m.now) in
    let few = c.in_ok-nets.ensures.declared.few in
    let limit = c.in_ok-nets.ensures.limit in
    let new = ap (λ (n : Circuit). n.limit) c.new-nl.ensures in
    let small = c.requires.small in
    omega arith

pub perform-requires-clause-from : goal.perform-requires-clause-from
perform-requires-clause-from c =
    let l = extends_length _ _ c.in_ok-add_wires.ensures.grows.grows.extends in
    let e = c.len-from.ensures in
    omega arith

pub perform-requires-clause-free : goal.perform-requires-clause-free
perform-requires-clause-free c =
    rw c.deref.ensures.value
    (still_unconnected (module_tree c.args.m.now) c.in_ok-nets.nets.items c.add_wires.new.nets.items c.declare_nets.new.nl.cells c.add_wires.new.nl.cells
    c.in_ok-nets.ensures.declared c.in_ok-add_wires.ensures.keeps c.in_ok-add_wires.ensures.grows.grows.extends c.len-from.result c.len-from.ensures)

pub perform-requires-clause-room : goal.perform-requires-clause-room
perform-requires-clause-room c =
    let parts = weight_parts (module_tree c.args.m.now) in
    let few = c.in_ok-nets.ensures.declared.few in
    let more = c.in_ok-add_wires.ensures.few in
    let limit = c.in_ok-nets.ensures.limit in
    let same = c.in_ok-add_wires.ensures.grows.grows.limit in
    let new = ap (λ (n : Circuit). n.limit) c.new-nl.ensures in
    let small = c.requires.small in
    omega arith

pub add_outputs-requires-clause-nets : goal.add_outputs-requires-clause-nets
add_outputs-requires-clause-nets c =
    rw c.deref-2.ensures.value
    (nets_connected (module_tree c.args.m.now) c.len-from.result c.add_wires.new.nets.items c.add_wires.new.nl c.perform.new.nl
    c.in_ok-perform.ensures.connects c.in_ok-add_wires.ensures.wired.nets_are)

pub add_outputs-requires-clause-each : goal.add_outputs-requires-clause-each
add_outputs-requires-clause-each c = λ p x hx t.
    let m = module_tree c.args.m.now in
    rw c.deref-2.ensures.value (c.in_ok-add_wires.ensures.wired.each p x hx (output_no_clock m c.requires.regular x (among_from x m.nets p hx) t))

pub returns-clause-realizes : goal.returns-clause-realizes
returns-clause-realizes c =
    let m = module_tree c.args.m.now in
    let nets = c.add_wires.new.nets.items in
    let grows = c.in_ok-add_wires.ensures.grows in (
      at_of m.nets nets,
      realizes m c.requires.regular c.requires.shape nets c.len-from.result c.in_ok-nets.nets.items c.declare_nets.new.nl.cells c.add_wires.new.nl
          c.perform.new.nl c.add_outputs.new.nl
          c.in_ok-nets.ensures.declared c.in_ok-add_wires.ensures.keeps (inputs_kept grows) (states_kept grows) c.in_ok-add_wires.ensures.wired
          c.in_ok-perform.ensures.connects c.in_ok-add_outputs.ensures.cells
          (rw c.deref.ensures.value at c.in_ok-perform.ensures.steps) (rw c.deref-2.ensures.value at c.in_ok-add_outputs.ensures.outlets),
    )

pub returns-clause-few : goal.returns-clause-few
returns-clause-few c =
    let parts = weight_parts (module_tree c.args.m.now) in
    let few = c.in_ok-nets.ensures.declared.few in
    let more = c.in_ok-add_wires.ensures.few in
    let most = c.in_ok-perform.ensures.few in
    let same = ap length c.in_ok-add_outputs.ensures.cells in
    omega arith

pub returns-clause-plain : goal.returns-clause-plain
returns-clause-plain c =
    plain_ports c.declare_nets.new.nl.cells c.add_outputs.new.nl
    (ap (λ cs. input_cells cs) c.in_ok-add_outputs.ensures.cells ∙ c.in_ok-perform.ensures.connects.inputs ∙ inputs_kept c.in_ok-add_wires.ensures.grows)
    c.in_ok-nets.ensures.declared.plain c.in_ok-add_outputs.ensures.plain
