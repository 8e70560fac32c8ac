-- The circuit of a compiled program meets what is asked.
use Rattle.std.proofs.lemmas.Result.{err_from_is_err_and}
use Rattle.std.proofs.Common.{map}
use Rattle.ae_seq.specs.ProgramTree.{program_tree}
use Rattle.ae_rewrite.specs.StProgramTree.{st_func_trees}
use Rattle.ae_verilog.specs.Notes.{note_tree}
use Rattle.ae_verilog.specs.ReportLines.{report_tree}
use Rattle.ae_channel.proofs.Asked.{can_stream}
use Rattle.ae_channel.proofs.Between.{compiled_fed}
use Rattle.ae_channel.proofs.channels.streamed.Goals as goal

pub between-requires : goal.between-requires
between-requires c =
    let d = c.args.compiled.now in
    rw (c.netlist-netlist.ensures.is, c.report-told.ensures.is)
    (can_stream (program_tree d.costed.program) d.costed.slowdown (st_func_trees d.costed.schedule) d.netlist d.report
    (map note_tree d.notes) c.netlist-netlist.ensures.known.compiled)

pub returns-clause-stream : goal.returns-clause-stream
returns-clause-stream c = rw (c.netlist-netlist.ensures.is, c.report-told.ensures.is) at c.in_ok-new.ensures.stream

pub returns-clause-fed : goal.returns-clause-fed
returns-clause-fed c =
    let d = c.args.compiled.now in
    let known = c.netlist-netlist.ensures.known in
    compiled_fed (program_tree d.costed.program) d.costed.slowdown (st_func_trees d.costed.schedule) d.costed.costs d.netlist (report_tree d.report)
    (map note_tree d.notes) known.costed known.compiled c.can_be_fed.ensures
    (rw c.netlist-netlist.ensures.is at c.has_one_run_with.ensures) (rw c.netlist-netlist.ensures.is at c.fill_begins.ensures)

pub returns-in_err-new-clause-full : goal.returns-in_err-new-clause-full
returns-in_err-new-clause-full c =
    let p = err_from_is_err_and c.from_residual.result c.from_residual.ensures.1 in
    let full = rw (c.netlist-netlist.ensures.is, c.report-told.ensures.is) at c.in_err-new.ensures.full in
    rw (p.1, p.2) full
