use Rattle.std.proofs.Common.{length, Some, sym, ap, ◌∙◌, arith}
use Rattle.std.proofs.lemmas.Option.{slice_get_read}
use Rattle.ae_order.proofs.SparseLaws.{all_there, item_at, none_at, none_there, place_within}
use Rattle.ae_order.proofs.sparse.Sparse.at.Goals as goal

pub returns-then-is_empty : goal.returns-then-is_empty
returns-then-is_empty g c =
    let s = c.self.inside in
    none_at s.count s.index.items s.items.items c.args.self.now c.self.view_is c.args.place c.requires.inside
    (none_there s.index.items _ s.index.ok.0 (sym c.is_empty.ensures ∙ c.if-is_empty.true))

pub index-requires : goal.index-requires
index-requires g c =
    let s = c.self.inside in
    let l = place_within s.count s.index.items s.items.items c.args.self.now c.self.view_is c.args.place c.requires.inside in
    let long = all_there s.count s.index.items _ c.self.invariant.long s.index.ok.0 (sym c.is_empty.ensures ∙ c.if-is_empty.false) in
    let all = s.index.ok.0 in
    omega arith

pub index-requires-in-Some : goal.index-requires-in-Some
index-requires-in-Some g c =
    let s = c.self.inside in
    let l = place_within s.count s.index.items s.items.items c.args.self.now c.self.view_is c.args.place c.requires.inside in
    let long = all_there s.count s.index.items _ c.self.invariant.long s.index.ok.0 (sym c.is_empty.ensures ∙ c.if-is_empty.false) in
    let there = slice_get_read s.index.items s.count c.args.place c.index.result.now (sym long) l c.index.ensures in
    let below = c.self.invariant.below c.args.place c.in-Some.k (there ∙ ap Some (sym c.place.ensures ∙ c.in-Some.is)) in
    let all = s.items.ok.0 in
    omega arith

pub returns-in-Some : goal.returns-in-Some
returns-in-Some g c =
    let s = c.self.inside in
    let l = place_within s.count s.index.items s.items.items c.args.self.now c.self.view_is c.args.place c.requires.inside in
    let long = all_there s.count s.index.items _ c.self.invariant.long s.index.ok.0 (sym c.is_empty.ensures ∙ c.if-is_empty.false) in
    let there = slice_get_read s.index.items s.count c.args.place c.index.result.now (sym long) l c.index.ensures in
    let here = there ∙ ap Some (sym c.place.ensures ∙ c.in-Some.is) in
    let below = c.self.invariant.below c.args.place c.in-Some.k here in
    item_at s.count s.index.items s.items.items c.args.self.now c.self.view_is c.args.place c.requires.inside (Some c.in-Some.k) here
    ∙ ap Some
    (slice_get_read s.items.items (length s.items.items) c.in-Some.k c.index-in-Some.result.now (λ i. length s.items.items) below c.index-in-Some.ensures)

pub returns-in-None : goal.returns-in-None
returns-in-None g c =
    let s = c.self.inside in
    let l = place_within s.count s.index.items s.items.items c.args.self.now c.self.view_is c.args.place c.requires.inside in
    let long = all_there s.count s.index.items _ c.self.invariant.long s.index.ok.0 (sym c.is_empty.ensures ∙ c.if-is_empty.false) in
    let there = slice_get_read s.index.items s.count c.args.place c.index.result.now (sym long) l c.index.ensures in
    item_at s.count s.index.items s.items.items c.args.self.now c.self.view_is c.args.place c.requires.inside _
    (there ∙ ap Some (sym c.place.ensures ∙ c.in-None.is))
