-- What is asked of a circuit and its report, so that it can stand between two channels.
use Rattle.std.specs.Prelude.{◌≡◌, ◌<◌, ◌≤◌, Some, length, map, slice_get, sum_by}
use Rattle.ae_sttype.specs.StTree.{st_tree}
use Rattle.ae_sttype.specs.Moves.{columns_of}
use Rattle.ae_netlist.specs.Circuit.{Circuit}
use Rattle.ae_stall.specs.Copies.{reset_cell}
use Rattle.ae_verilog.specs.declared.report.Report.{Report}
use Rattle.ae_streamed.specs.Beats.{AreLayouts}

-- it has the reset first, and behind it an input for each column of the parameters, an output for each column of the results,
-- and layouts that take the clocks of the report
pub record CanStream (n : Circuit) (report : Report) : Type 0 where
  pub reset : slice_get n.cells 0 ≡ Some reset_cell
  pub inputs : AreLayouts report.slowdown report.ins.items
  pub outputs : AreLayouts report.slowdown report.outs.items
  pub ins : sum_by columns_of (map st_tree report.ins.items) < length n.cells
  pub outs : length n.outlets ≡ sum_by columns_of (map st_tree report.outs.items)
  pub few : length n.outlets ≤ 1000000000
