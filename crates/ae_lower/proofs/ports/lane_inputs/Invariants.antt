use Rattle.std.proofs.Common.{take, map}
use Rattle.ae_word.specs.AtomTree.{WordKind, atom_kinds, atom_tree}
use Rattle.ae_netlist.specs.declared.cell.Port.TheVariants.{In}
use Rattle.ae_ports.specs.Ports.{word_ports}
use Rattle.ae_lower.specs.PortNets.{AddsInputs}
use Rattle.ae_lower.proofs.ports.lane_inputs.Given as goal

abbrev pub invariant-loop-word : goal.invariant-loop-word
invariant-loop-word l =
    AddsInputs l.fn.nl l.nl l.fn.nets.items l.nets.items (word_ports (In l.param l.lane) 0
    (take l.word (map (λ (k : WordKind). k.width) (atom_kinds (atom_tree l.atom)))))
