use Rattle.ae_order.proofs.PlaceLaws.{place_found}
use Rattle.ae_order.proofs.places.place_of.Goals as goal

pub returns : goal.returns
returns c = place_found _ _ _ c.requires.named c.in-Some.ensures.net
