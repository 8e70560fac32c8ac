-- An output shows a net.
use Rattle.std.proofs.Common.{◌≡◌, ◌∙◌, ap, sym, Some, slice_get}
use Rattle.std.specs.Option.{option_copied}
use Rattle.table_circuits.proofs.stepping.width_of_output.Goals as goal

pub width_at-requires : goal.width_at-requires
width_at-requires c =
    let found : slice_get c.args.nl.now.outlets c.args.k ≡ Some c.in-Some.outlet.now = sym c.output.ensures ∙ ap option_copied c.in-Some.is in
    c.formed.ensures.outlets.each c.args.k c.in-Some.outlet.now found
