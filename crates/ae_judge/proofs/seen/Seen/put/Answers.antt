use Rattle.std.proofs.Common.{◌≡◌, false, is_some, slice_set, true, sym, ap, ◌∙◌, subst}
use Rattle.ae_vmodule.specs.View.{word_at}
use Rattle.ae_judge.specs.Places.{place_in, with_place}
use Rattle.ae_judge.specs.Seen.{AreMarked, SeenNames, entries_of}
use Rattle.ae_judge.proofs.SeenLaws.{entries_more, marked_more, marked_same}
use Rattle.ae_judge.proofs.seen.Seen.put.Goals as goal

pub invariant_of-self-in-Some : goal.invariant_of-self-in-Some
invariant_of-self-in-Some c =
    let ns = c.self.inside.names.now.nets in
    let ws = c.self.inside.names.now.words in
    let es = entries_of ws c.self.inside.order.items in
    let m = word_at ws c.args.name in
    let none : is_some (place_in es m) ≡ false = ap (λ (v : SeenNames). is_some (place_in v.entries (word_at v.table.words c.args.name))) c.self.view_is
    ∙ sym c.has.ensures ∙ c.if-has.false in
    let more : entries_of ws c.push.new.self.items ≡ with_place es m 0 = ap (entries_of ws) c.in_ok-push.ensures.items
    ∙ entries_more ws c.self.inside.order.items c.args.name none in
    subst (λ xs. AreMarked ns xs (slice_set c.self.inside.marks.items c.in-Some.place true)) (sym more)
    (marked_more ns es c.self.inside.marks.items m c.in-Some.place c.self.invariant (sym c.in-Some.ensures.place))

pub invariant_of-self-in_default : goal.invariant_of-self-in_default
invariant_of-self-in_default c =
    let ns = c.self.inside.names.now.nets in
    let ws = c.self.inside.names.now.words in
    let es = entries_of ws c.self.inside.order.items in
    let m = word_at ws c.args.name in
    let none : is_some (place_in es m) ≡ false = ap (λ (v : SeenNames). is_some (place_in v.entries (word_at v.table.words c.args.name))) c.self.view_is
    ∙ sym c.has.ensures ∙ c.if-has.false in
    let more : entries_of ws c.push.new.self.items ≡ with_place es m 0 = ap (entries_of ws) c.in_ok-push.ensures.items
    ∙ entries_more ws c.self.inside.order.items c.args.name none in
    subst (λ xs. AreMarked ns xs c.self.inside.marks.items) (sym more)
    (marked_same ns es c.self.inside.marks.items m c.self.invariant (sym c.place-place.ensures.place ∙ c.in_default.is))
