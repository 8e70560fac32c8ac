-- Net by net, what is noted are the places of the first nets.
use Rattle.std.proofs.Common.{◌<◌, List, length, get_or, is_some, refl, sym, ap, subst, ◌∙◌, map, drop, ◌+◌, [], Some, None, if◌then◌else◌, arith, rules}
use Rattle.std.specs.Option.{option_or}
use Rattle.std.proofs.lemmas.List.{length-map, take_all}
use Rattle.ae_vmodule.specs.View.{net_tree, word_at}
use Rattle.ae_judge.specs.Places.{AreNoted, Entry, Finds, place_in, with_place}
use Rattle.ae_judge.specs.Judging.{first_again}
use Rattle.ae_judge.proofs.PlaceLemmas.{finds_none, finds_next, none_noted, places_found}
use Rattle.ae_judge.proofs.Again.{IsNoted, noted_next, noted_all}
use Rattle.ae_vmodule.specs.declared.module.VNet.{VNet}
use Rattle.ae_judge.proofs.names.Names.of.Goals as goal

pub net-init : goal.net-init
net-init c = (
  [],
  finds_none,
  rw (c.none-empty.ensures, c.in_ok-places.ensures) (none_noted c.args.words.now c.len.result c.len.ensures),
  refl,
)

pub invariant_of-result : goal.invariant_of-result
invariant_of-result c =
    let nets = map (net_tree c.args.words.now) c.args.nets.now in
    let es = c.net.invariant.0 in
    let finds : Finds nets es = subst (λ ns. Finds ns es)
    (take_all c.net.place nets (omega (arith, c.net-test.false, length-map c.args.nets.now (net_tree c.args.words.now)))) c.net.invariant.1 in (
      places_found c.args.words.now nets es c.net.places.items c.net.empty finds c.net.invariant.2,
      noted_all c.args.words.now c.args.nets.now es c.net.place c.net.again (first_again [] nets)
          (omega (arith, c.net-test.false)) c.net.invariant.3,
    )

pub net-preserved : goal.net-preserved
net-preserved c =
    let ws = c.args.words.now in
    let nets = c.args.nets.now in
    let es = c.net.invariant.0 in
    let l : c.net.place < length nets = search rules in
    let d : VNet = c.index-nets-place.result in
    let next : List Entry = with_place es (word_at ws (get_or nets c.net.place d).name) c.net.place in
    let name = c.name.ensures ∙ ap (λ (v : VNet). v.name) c.index-nets-place.is in
    let number = c.item.ensures ∙ ap (λ (v : VNet). v.item) c.index-nets-place.is in
    let there = c.note-there.ensures.there es c.net.invariant.2 ∙ ap (λ k. is_some (place_in es (word_at ws k))) name in
    let item = c.noted-again.ensures ∙ (λ j. option_or c.net.again (if there j then Some (number j) else None)) in (
      next,
      finds_next ws nets es c.net.place d l c.net.invariant.1,
      subst (λ k. AreNoted ws (with_place es (word_at ws k) c.net.place) c.note-there.new.places.items c.note-there.new.empty) name
          (c.note-there.ensures.notes es c.net.invariant.2),
      subst (λ o. IsNoted (map (net_tree ws) (drop (c.net.place + 1) nets)) next o (first_again [] (map (net_tree ws) nets))) (sym item)
          (noted_next ws nets es c.net.place d c.net.again (first_again [] (map (net_tree ws) nets)) l c.net.invariant.3),
    )
