-- The listing of the circuit between two channels, with its name.
use Rattle.std.proofs.lemmas.Result.{err_from_is_err_and}
use Rattle.std.proofs.Common.{inr, map}
use Rattle.std.specs.Prelude.{string_bytes}
use Rattle.ae_seq.specs.ProgramTree.{program_tree}
use Rattle.ae_rewrite.specs.StProgramTree.{st_func_trees}
use Rattle.ae_verilog.specs.Notes.{note_tree}
use Rattle.ae_verilog.specs.ReportLines.{report_tree}
use Rattle.ae_channel.proofs.Between.{is_stream_text, report_short, stream_large, stream_ports, stream_whole}
use Rattle.ae_channel.proofs.texts.stream_text.Goals as goal

pub listing-requires-clause-short : goal.listing-requires-clause-short
listing-requires-clause-short c =
    let d = c.args.compiled.now in
    rw c.report-told.ensures.is (report_short (program_tree d.costed.program) d.costed.slowdown (st_func_trees d.costed.schedule) d.netlist
    (report_tree d.report) (map note_tree d.notes) c.report-told.ensures.known.compiled)

pub listing-requires-clause-ports : goal.listing-requires-clause-ports
listing-requires-clause-ports c =
    let d = c.args.compiled.now in
    rw c.report-told.ensures.is
    (stream_ports (program_tree d.costed.program) d.costed.slowdown (st_func_trees d.costed.schedule) d.netlist c.in_ok-netlist.netlist (report_tree d.report)
    (map note_tree d.notes) c.report-told.ensures.known.compiled c.in_ok-netlist.ensures.stream)

pub listing-requires-clause-whole : goal.listing-requires-clause-whole
listing-requires-clause-whole c =
    let d = c.args.compiled.now in
    stream_whole (program_tree d.costed.program) d.costed.slowdown (st_func_trees d.costed.schedule) d.netlist c.in_ok-netlist.netlist (report_tree d.report)
    (map note_tree d.notes) c.report-told.ensures.known.compiled c.in_ok-netlist.ensures.stream

pub returns-clause-text : goal.returns-clause-text
returns-clause-text c =
    let d = c.args.compiled.now in
    is_stream_text (program_tree d.costed.program) d.costed.slowdown (st_func_trees d.costed.schedule) d.netlist c.in_ok-netlist.netlist (report_tree d.report)
    (map note_tree d.notes) c.args.name.now (string_bytes c.in_ok-text.text)
    c.report-told.ensures.known.compiled c.in_ok-netlist.ensures.stream c.in_ok-netlist.ensures.fed (rw c.report-told.ensures.is at c.in_ok-text.ensures.listed)

pub returns-in_err-netlist-clause-full : goal.returns-in_err-netlist-clause-full
returns-in_err-netlist-clause-full c =
    let p = err_from_is_err_and c.from_residual.result c.from_residual.ensures.1 in
    rw (p.1, p.2) c.in_err-netlist.ensures.full

pub returns-in_err-text-clause-full : goal.returns-in_err-text-clause-full
returns-in_err-text-clause-full c =
    let d = c.args.compiled.now in
    let p = err_from_is_err_and c.from_residual-in_err-text.result c.from_residual-in_err-text.ensures.1 in
    rw (p.1, p.2) (λ e. inr (inr (stream_large d.netlist c.in_ok-netlist.netlist (report_tree d.report) c.in_ok-netlist.ensures.stream
    (c.in_err-text.ensures.full e))))
