-- The widths are the same at each place.
use Rattle.std.proofs.Common.{◌≡◌, length, arith}
use Rattle.std.proofs.lemmas.List.Sums.{length-filter}
use Rattle.ae_netlist.specs.declared.cell.SizedCell.{SizedCell}
use Rattle.ae_netlist.specs.Counts.{cells_of, is_input}
use Rattle.table_circuits.proofs.Fed.{all_same}
use Rattle.table_circuits.proofs.plays.has_widths.Goals as goal

pub returns : goal.returns
returns c = λ _.
    let long = length-filter (λ (s : SizedCell). is_input s.cell) c.args.nl.now.cells in
    let same : length (cells_of is_input c.args.nl.now.cells) ≡ length c.args.widths.now = omega (arith, long, c.inputs.ensures, c.if-inputs-widths.false) in
    all_same (λ (s : SizedCell). s.width) (cells_of is_input c.args.nl.now.cells) c.args.widths.now same
    (λ k below. c.loop-k.invariant k (omega (arith, below, same, long, c.inputs-k-end.ensures, c.loop-k-test.false)))
