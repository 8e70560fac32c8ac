use Rattle.std.proofs.Common.{lit≤, []}
use Rattle.std.proofs.lemmas.Option.{none-some}
use Rattle.std.specs.Prelude.{codes}
use Rattle.ae_verilog.specs.ReportLines.{report_lines}
use Rattle.ae_spelled.proofs.Comments.{report_comments, stream_comment}
use Rattle.ae_spelled.proofs.LawShort.{short_text}
use Rattle.ae_spelled.proofs.Whole.{named_spelled}
use Rattle.ae_spelled.proofs.laws.streams_spell.Goals as goal

pub returns-clause-spells : goal.returns-clause-spells
returns-clause-spells c title r cells outlets outs named ok =
    named_spelled title (codes "// stream\n") (report_lines r) [] cells outlets outs named stream_comment (report_comments r)
    (λ i n e. absurd (none-some n e)) ok

pub returns-clause-short : goal.returns-clause-short
returns-clause-short c title r cells outlets outs named ok told sizes =
    short_text title (codes "// stream\n") r [] cells outlets outs named.short (lit≤ tt) ok told sizes
