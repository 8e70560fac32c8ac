use Rattle.ae_stream.proofs.Insides.{inside}
use Rattle.ae_stream.proofs.laws.held_circuits_are_inside.Goals as goal

pub returns : goal.returns
returns c x ends n marked copied new h run r = inside x ends n marked copied new h run r
