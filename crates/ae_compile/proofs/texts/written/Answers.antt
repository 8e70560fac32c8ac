use Rattle.std.proofs.Common.{◌≡◌, ℕ, ◌<◌, ◌^◌, List, length, map, ap, sym, subst, ◌∙◌}
use Rattle.std.specs.Prelude.{string_bytes}
use Rattle.std.specs.List.{list_all}
use Rattle.std.proofs.lemmas.List.{length-map}
use Rattle.ae_sttype.specs.StTree.{st_tree}
use Rattle.ae_vread.specs.Spells.{Spells}
use Rattle.ae_verilog.specs.Notes.{NoteTree, note_tree, noted_module}
use Rattle.ae_verilog.specs.ReportLines.{is_clean, report_lines, report_tree}
use Rattle.ae_verilog.specs.Text.{whole_text}
use Rattle.ae_compile.proofs.texts.written.Goals as goal

pub returns : goal.returns
returns c =
    let n = c.args.netlist.now in
    let text : List ℕ = string_bytes c.in_ok-text.text in
    let report = report_tree c.args.report.now in
    let notes : List NoteTree = map note_tree c.args.notes.now in
    let outs : ℕ = length report.outs in
    let listed : text ≡ whole_text (report_lines report) notes n.cells n.outlets outs =
    subst (λ (k : ℕ). text ≡ whole_text (report_lines report) notes n.cells n.outlets k)
    (sym (length-map c.args.report.now.outs.items st_tree)) c.in_ok-text.ensures.text in
    let law = c.listings_spell.ensures in
    let begins = law.reports report notes n.cells n.outlets outs in
    record {
      spells = subst (λ (l : List ℕ). Spells l (noted_module notes n.cells n.outlets outs)) (sym listed)
          (law.spells report notes n.cells n.outlets outs c.requires.printed c.in_ok-text.ensures.listable);
      stars_are = law.stars notes n.cells n.outlets outs;
      rest = begins.0;
      reports = listed ∙ begins.1;
      clean = ap (list_all is_clean) listed ∙ law.clean report notes n.cells n.outlets outs c.requires.printed c.in_ok-text.ensures.listable;
      few = subst (λ (l : List ℕ). length l < 2 ^ 32) (sym listed)
          (c.listings_are_short.ensures report notes n.cells n.outlets outs c.in_ok-text.ensures.listable c.in_ok-text.ensures.numbers c.requires.short);
      listed = listed;
    }
