-- How many cells a circuit between two channels has at the most.
use Rattle.std.specs.Prelude.{◌≡◌, ℕ, ◌+◌, ◌*◌, ◌≤◌, ◌⊎◌, List, length, sum_by, Result, IfErr}
use Rattle.ae_sttype.specs.StTree.{StTree, st_depth}
use Rattle.ae_netlist.specs.declared.netlist.NetFault.{NetFault}
use Rattle.ae_netlist.specs.declared.netlist.NetFault.TheVariants.{Full}
use Rattle.ae_netlist.specs.Circuit.{Circuit}
use Rattle.ae_control.specs.Count.{control_cells}

-- the cells of the bit that says that an element of a layout stands: for each level a counter, a mark and a gate
abbrev pub beat_cells : StTree → ℕ
beat_cells s = 22 * st_depth s + 1

-- of the bit that says so of any of these layouts: a gate more for each
abbrev pub any_beat_cells : List StTree → ℕ
any_beat_cells layouts = sum_by (λ s. beat_cells s + 1) layouts + 1

-- of all marks: those of the first and the last clock of a block, and of the block before, have 21 each
abbrev pub mark_cells : (inputs outputs : List StTree) → ℕ
mark_cells inputs outputs = 63 + any_beat_cells inputs + any_beat_cells outputs

-- of a circuit that is held, between two channels: at most a gate for each cell that it had, two inputs, the control,
-- and four for each output
abbrev pub wrapped_cells : (cells outputs blocks : ℕ) → ℕ
wrapped_cells cells outputs blocks = 2 * cells + 2 + control_cells blocks + 4 * outputs

-- at most twice the cells of the circuit and of its marks, and these few more
abbrev pub stream_cells : Circuit → (inputs outputs : List StTree) → (blocks : ℕ) → ℕ
stream_cells n inputs outputs blocks =
    wrapped_cells (length n.cells + mark_cells inputs outputs) (length n.outlets) blocks

-- only where the circuit is large, so that its cells and those of its marks, or all around it, pass these limits
abbrev pub IsFullForStream : {X : Type 0} → Result X NetFault → Circuit → (inputs outputs : List StTree) → (blocks : ℕ)
    → Type 0
IsFullForStream r n inputs outputs blocks = IfErr r (λ fault. fault ≡ Full
    → (1000000 ≤ length n.cells + mark_cells inputs outputs) ⊎ (4000000 ≤ stream_cells n inputs outputs blocks))
