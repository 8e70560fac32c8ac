use Rattle.ae_verilog.specs.Notes.{lines_of}
use Rattle.ae_verilog.specs.ReportLines.{report_lines}
use Rattle.std.proofs.Common.{[], length, refl}
use Rattle.std.specs.Prelude.{codes}
use Rattle.ae_spelled.proofs.Lines.{aeth_named, no_text}
use Rattle.ae_spelled.proofs.Comments.{report_comments}
use Rattle.ae_spelled.proofs.StarLaw.{one_star_each}
use Rattle.ae_spelled.proofs.Whole.{listing_spelled, named_clean}
use Rattle.ae_spelled.proofs.laws.listings_spell.Goals as goal

pub returns-clause-spells : goal.returns-clause-spells
returns-clause-spells c r notes cells outlets outs printed ok = listing_spelled (report_lines r) notes cells outlets outs (report_comments r) printed ok

pub returns-clause-stars : goal.returns-clause-stars
returns-clause-stars c notes cells outlets outs = one_star_each (lines_of notes (length cells)) cells outlets outs

pub returns-clause-reports : goal.returns-clause-reports
returns-clause-reports c r notes cells outlets outs = (_, refl)

pub returns-clause-clean : goal.returns-clause-clean
returns-clause-clean c r notes cells outlets outs printed ok =
    named_clean (codes "aeth") [] (report_lines r) notes cells outlets outs aeth_named no_text (report_comments r) printed ok
