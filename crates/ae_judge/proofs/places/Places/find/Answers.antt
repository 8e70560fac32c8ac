use Rattle.std.proofs.Common.{◌≡◌, ◌∙◌, List}
use Rattle.ae_judge.specs.Places.{place_in, places_of}
use Rattle.ae_judge.proofs.PlaceLemmas.{CodeEntry, lookup_place}
use Rattle.ae_judge.proofs.places.Places.find.Goals as goal

pub returns : goal.returns
returns c =
    let es : List CodeEntry = c.self.inside.first.entries in
    let v : places_of es ≡ c.args.self.now = c.self.view_is in
    c.copied.ensures ∙ c.get.ensures.value ∙ lookup_place c.args.name.now es
    ∙ (λ i. place_in (v i) c.args.name.now)
