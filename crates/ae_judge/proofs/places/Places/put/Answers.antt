use Rattle.std.proofs.Common.{◌∙◌, ap, sym, refl, is_some, nat_eq, unwrap_or, Bool, ℕ, List, Bor}
use Rattle.std.specs.Str.{bytes_eq}
use Rattle.indexmap.specs.Entry.{entry_value}
use Rattle.indexmap.specs.IndexMap.{IndexMap, index_map_len, insert_entry}
use Rattle.ae_judge.specs.Places.{place_in, places_of, with_place}
use Rattle.ae_judge.proofs.PlaceLemmas.{CodeEntry, lookup_place, put_place, same_length}
use Rattle.ae_judge.proofs.places.Places.put.Goals as goal

pub returns-clause-put : goal.returns-clause-put
returns-clause-put c =
    let eq : Bor (List ℕ) → Bor (List ℕ) → Bool = λ x y. bytes_eq x.now y.now in
    let es : List CodeEntry = c.self.inside.first.entries in
    let kept = c.or_insert.ensures.value ∙ ap (λ o. unwrap_or o c.args.place) c.in_ok-self-inside.ensures.value in
    let new = c.self-3-1.given.1 (sym c.in_ok-self-inside.ensures.same_map) in
    ap (λ (m : IndexMap (Bor (List ℕ)) ℕ _). places_of m.entries) new
    ∙ ap places_of (c.in_ok-self-inside.ensures.update.1 c.or_insert.result.now ∙ ap (insert_entry eq es c.args.name) kept)
    ∙ put_place eq (λ k x. refl) es c.args.name c.args.place
    ∙ (λ j. with_place (c.self.view_is j) c.args.name.now c.args.place)

pub returns-clause-there : goal.returns-clause-there
returns-clause-there c =
    let es : List CodeEntry = c.self.inside.first.entries in
    let new = c.self-3-1.given.1 (sym c.in_ok-self-inside.ensures.same_map) in
    let more = c.len.ensures.len ∙ ap index_map_len new ∙ c.in_ok-self-inside.ensures.len c.or_insert.result.now in
    (λ j. nat_eq (more j) (c.len-before.ensures.len j))
    ∙ same_length (is_some (entry_value c.in_ok-self-inside.field-0)) _
    ∙ ap is_some c.in_ok-self-inside.ensures.value
    ∙ ap is_some (lookup_place c.args.name.now es)
    ∙ (λ j. is_some (place_in (c.self.view_is j) c.args.name.now))
