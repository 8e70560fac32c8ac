-- There is a width for each input.
use Rattle.std.proofs.Common.{arith}
use Rattle.std.proofs.lemmas.List.Sums.{length-filter}
use Rattle.std.proofs.lemmas.Option.{slice_get_within}
use Rattle.ae_netlist.specs.declared.cell.SizedCell.{SizedCell}
use Rattle.ae_netlist.specs.Counts.{cells_of, is_input}
use Rattle.table_text.proofs.rows.fits.Goals as goal

pub returns : goal.returns
returns c = λ _. record {
  long = omega (arith, c.inputs.ensures, c.if-inputs-row.false);
  fit = λ k sized found.
      let inside = slice_get_within (cells_of is_input c.args.nl.now.cells) k sized found in
      let long = length-filter (λ (s : SizedCell). is_input s.cell) c.args.nl.now.cells in
      c.loop-k.invariant k sized (omega (arith, inside, long, c.inputs-k-end.ensures, c.loop-k-test.false)) found;
}
