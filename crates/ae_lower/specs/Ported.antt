-- A netlist with the ports of these layouts, and within these costs.
use Rattle.std.specs.Prelude.{◌≡◌, ◌+◌, ◌*◌, ◌≤◌, List, [], ◌∷◌, length, map, take}
use Rattle.ae_sttype.specs.StTree.{StTree}
use Rattle.ae_netlist.specs.Circuit.{Circuit, IsFormed, HaveNets}
use Rattle.ae_netlist.specs.Counts.{AreWhole, count_of, is_input, is_memory, is_mul}
use Rattle.ae_ops.specs.Blocks.{Stream}
use Rattle.ae_delay.specs.declared.own.OwnCosts.{OwnCosts}
use Rattle.ae_ports.specs.Ports.{streams_of, input_cell, input_ports, outlet_port, output_ports, reset_port}

-- a netlist with the inputs alone
pub record HasBegun (ins : List StTree) (n : Circuit) : Type 0 where
  pub cells : n.cells ≡ map input_cell (reset_port ∷ input_ports (streams_of ins))
  pub outlets : n.outlets ≡ []

-- the reset and the words of the parameters are the inputs, the words of the results the outputs, and the cells are within
-- the costs
pub record IsPorted (ins : List StTree) (outs : List Stream) (costs : OwnCosts) (n : Circuit) : Type 0 where
  pub inputs : take (1 + length (input_ports (streams_of ins))) n.cells ≡ map input_cell
      (reset_port ∷ input_ports (streams_of ins))
  pub no_others : count_of is_input n.cells ≡ 1 + length (input_ports (streams_of ins))
  pub outputs : map (outlet_port n.cells) n.outlets ≡ output_ports outs
  pub formed : IsFormed n.cells
  pub shown : HaveNets n.cells n.outlets
  pub whole : AreWhole n.cells
  pub small : length n.cells ≤ 16 * costs.load + 1 + length (input_ports (streams_of ins))
  pub muls : count_of is_mul n.cells ≡ costs.muls
  pub memories : count_of is_memory n.cells ≤ costs.mems
