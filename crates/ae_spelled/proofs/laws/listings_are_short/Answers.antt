use Rattle.std.proofs.Common.{lit≤, []}
use Rattle.std.specs.Prelude.{codes}
use Rattle.ae_spelled.proofs.LawShort.{short_text}
use Rattle.ae_spelled.proofs.laws.listings_are_short.Goals as goal

pub returns : goal.returns
returns c r notes cells outlets outs ok told short = short_text (codes "aeth") [] r notes cells outlets outs (lit≤ tt) (lit≤ tt) ok told short
