-- The listing by the laws of listings.
use Rattle.std.proofs.Common.{◌≡◌, ℕ, length, arith, sym, subst}
use Rattle.std.specs.Prelude.{string_bytes}
use Rattle.std.proofs.lemmas.List.{length-map}
use Rattle.ae_sttype.specs.StTree.{st_tree}
use Rattle.ae_verilog.specs.ReportLines.{report_lines, report_tree}
use Rattle.ae_verilog.specs.Text.{stream_listing}
use Rattle.ae_channel.proofs.Listed.{HaveListings, is_listed}
use Rattle.ae_channel.proofs.listings.listing.Goals as goal

pub returns-clause-listed : goal.returns-clause-listed
returns-clause-listed c =
    let n = c.args.netlist.now in
    let report = report_tree c.args.report.now in
    let laws : HaveListings = record {
      spells = c.streams_spell.ensures.spells;
      short = c.streams_spell.ensures.short;
      runs = c.module_keeps.ensures.runs;
      formed = c.module_keeps.ensures.formed;
      renamed_runs = c.names_are_free.ensures.runs;
      renamed_formed = c.names_are_free.ensures.formed;
      once = c.spelled_once.ensures;
    } in
    let outs : length c.args.report.now.outs.items ≡ length report.outs = sym (length-map c.args.report.now.outs.items st_tree) in
    is_listed report c.args.name.now n (string_bytes c.in_ok-text.text) laws c.requires.short
    (omega (arith, c.len.ensures, c.outputs.ensures, c.from.ensures, c.from-2.ensures, c.if-cells-gt-MOST_CELLS.false))
    c.in_ok-text.ensures.listable c.in_ok-text.ensures.numbers c.requires.ports c.requires.whole
    (subst (λ (k : ℕ). string_bytes c.in_ok-text.text ≡ stream_listing c.args.name.now (report_lines report) n.cells n.outlets k) outs
    c.in_ok-text.ensures.text)
