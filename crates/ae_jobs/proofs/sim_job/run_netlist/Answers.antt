use Rattle.std.proofs.Common.{◌≡◌, ◌∙◌, ◌≤◌, List, ℕ, length, map, All, ap, sym, subst, arith}
use Rattle.std.specs.Prelude.{string_bytes}
use Rattle.std.proofs.lemmas.Result.{IfOk-weaker}
use Rattle.ae_fields.specs.Rows.{rows}
use Rattle.ae_netlist.specs.declared.cell.SizedCell.{SizedCell}
use Rattle.ae_netlist.specs.Counts.{is_input, cells_of}
use Rattle.ae_jobs.specs.declared.reply.Reply.{Reply}
use Rattle.ae_jobs.specs.SimPlaying.{AreSimRows, IsNetSim, cell_widths}
use Rattle.ae_jobs.proofs.SimRows.{few_widths, inputs_long, read_rows_are, small_widths}
use Rattle.ae_jobs.proofs.sim_job.run_netlist.Goals as goal

pub read_rows-requires-clause-few : goal.read_rows-requires-clause-few
read_rows-requires-clause-few c =
    let cells = c.args.nl.now.cells in
    let w : c.as_slice.result.now ≡ cell_widths cells = c.as_slice.ensures.value ∙ c.in_ok-widths.ensures in
    let long = inputs_long cells in
    let few : length (cell_widths cells) ≤ 10000000 = few_widths (map (λ (s : SizedCell). s.width) (cells_of is_input cells)) 10000000 (omega arith)
    (omega (arith, long, c.requires.few)) in
    subst (λ n. n ≤ 10000000) (sym (ap length w)) few

pub read_rows-requires-clause-small : goal.read_rows-requires-clause-small
read_rows-requires-clause-small c =
    let w : c.as_slice.result.now ≡ cell_widths c.args.nl.now.cells = c.as_slice.ensures.value ∙ c.in_ok-widths.ensures in
    subst (All (λ w. w ≤ 64)) (sym w) (small_widths c.args.nl.now.cells c.formed.ensures.cells)

pub run_rows-requires : goal.run_rows-requires
run_rows-requires c =
    let w : c.as_slice.result.now ≡ cell_widths c.args.nl.now.cells = c.as_slice.ensures.value ∙ c.in_ok-widths.ensures in
    record {
      rows = (
        rows c.args.rest.now,
        read_rows_are c.args.nl.now.cells c.args.rest.now c.as_slice.result.now c.as_slice-in-Ok.result.now c.in-Ok.table.columns c.requires.rest w
            c.in-Ok.ensures.table.0 c.in-Ok.ensures.right (c.as_slice-in-Ok.ensures.value ∙ c.in-Ok.ensures.table.1),
      );
    }

pub returns-in-Ok : goal.returns-in-Ok
returns-in-Ok c =
    let n = c.args.nl.now in
    let ws = c.as_slice-in-Ok.result.now in
    let table = rows c.args.rest.now in
    let columns = c.in-Ok.table.columns in
    let w : c.as_slice.result.now ≡ cell_widths n.cells = c.as_slice.ensures.value ∙ c.in_ok-widths.ensures in
    let a : AreSimRows n.cells columns table ws = read_rows_are n.cells c.args.rest.now c.as_slice.result.now ws columns c.requires.rest w
    c.in-Ok.ensures.table.0 c.in-Ok.ensures.right (c.as_slice-in-Ok.ensures.value ∙ c.in-Ok.ensures.table.1) in
    IfOk-weaker c.run_rows.result (λ (r : Reply). (t : List (List (List ℕ))) → AreSimRows n.cells columns t ws
    → IsNetSim c.args.fill n t r.status (string_bytes r.text))
    (λ (r : Reply). IsNetSim c.args.fill n table r.status (string_bytes r.text)) (λ r h. h table a) c.run_rows.ensures
