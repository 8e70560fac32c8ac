use Rattle.ae_layout.proofs.RowWords.{low_bits-wide}
use Rattle.ae_layout.proofs.row.low_bits.Goals as goal

pub returns-else-width-lt64 : goal.returns-else-width-lt64
returns-else-width-lt64 c = low_bits-wide c.args.word c.args.width c.ranges.word.fits c.if-width-lt64.false
