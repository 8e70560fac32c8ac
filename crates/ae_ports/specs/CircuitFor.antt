-- A circuit for a program, whichever way it was made: its ports, what it does block after block, and its costs.
use Rattle.std.specs.Prelude.{◌≡◌, ℕ, ◌+◌, ◌*◌, ◌≤◌, List, ◌∷◌, length, map, take}
use Rattle.ae_sttype.specs.StTree.{StTree}
use Rattle.ae_netlist.specs.Circuit.{Circuit, IsFormed, HaveNets}
use Rattle.ae_netlist.specs.Counts.{AreWhole, count_of, is_input, is_memory, is_mul}
use Rattle.ae_tidy.specs.Needed.{IsLean}
use Rattle.ae_seq.specs.ProgramTree.{ProgramTree}
use Rattle.ae_rewrite.specs.Blocks.{MakesBlocks}
use Rattle.ae_delay.specs.declared.own.OwnCosts.{OwnCosts}
use Rattle.ae_ports.specs.Ports.{input_cell, input_ports, outlet_port, output_ports, reset_port, streams_of}

-- the reset and the words of the parameters are the inputs, the words of the results the outputs, the results of each block
-- come in time, and the cells are within the costs and needed
pub record IsCircuitFor (p : ProgramTree) (slowdown : ℕ) (costs : OwnCosts) (ins outs : List StTree)
    (n : Circuit) : Type 0 where
  pub inputs : take (1 + length (input_ports (streams_of ins))) n.cells ≡ map input_cell
      (reset_port ∷ input_ports (streams_of ins))
  pub no_others : count_of is_input n.cells ≡ 1 + length (input_ports (streams_of ins))
  pub outputs : map (outlet_port n.cells) n.outlets ≡ output_ports (streams_of outs)
  pub makes : MakesBlocks n p slowdown costs.latency ins outs
  pub formed : IsFormed n.cells
  pub shown : HaveNets n.cells n.outlets
  pub whole : AreWhole n.cells
  pub small : length n.cells ≤ 16 * costs.load + 1 + length (input_ports (streams_of ins))
  pub muls : count_of is_mul n.cells ≡ costs.muls
  pub memories : count_of is_memory n.cells ≤ costs.mems
  pub lean : IsLean n
