use Rattle.std.proofs.Common.{◌<◌, IfSome, length, slice_get, sym, ap, ◌∙◌, subst}
use Rattle.std.specs.Prelude.{option_and_then}
use Rattle.ae_vmodule.specs.View.{word_at}
use Rattle.ae_judge.proofs.PlaceLemmas.{place_net, place_within}
use Rattle.ae_judge.proofs.names.Names.place.Goals as goal

pub returns-clause-within : goal.returns-clause-within
returns-clause-within c =
    let ns = c.args.self.now.nets in
    subst (λ o. IfSome o (λ p. p < length ns)) (sym c.noted_place.ensures) (place_within ns (word_at c.args.self.now.words c.args.name))

pub returns-clause-net : goal.returns-clause-net
returns-clause-net c =
    let ns = c.args.self.now.nets in
    ap (option_and_then (slice_get ns)) c.noted_place.ensures ∙ place_net ns (word_at c.args.self.now.words c.args.name)
