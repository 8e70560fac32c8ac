use Rattle.std.proofs.Common.{◌≡◌, ◌∷◌, [], length, None, Some, slice_get, sym, ap, ◌∙◌, length-append, arith}
use Rattle.std.proofs.lemmas.Option.{slice_get_read}
use Rattle.ae_order.proofs.SparseLaws.{present_less, pushed, pushed_index, replaced}
use Rattle.ae_order.proofs.sparse.put.Goals as goal

pub overflow_cast-k-in-None : goal.overflow_cast-k-in-None
overflow_cast-k-in-None g c =
    let there = slice_get_read c.args.index.now.items c.args._count c.args.place c.index.result.now (sym c.requires.long) c.requires.inside c.index.ensures in
    let less = present_less c.args.index.now.items c.args.place (there ∙ ap Some (sym c.place.ensures ∙ c.in-None.is)) in
    let few = c.requires.index.few in
    let all = c.args.items.now.ok.0 in
    let long = c.requires.long in
    let len = c.len-k.ensures in
    let fits = c.ranges._count.fits in
    omega arith

pub some-requires : goal.some-requires
some-requires g c =
    let there = slice_get_read c.args.index.now.items c.args._count c.args.place c.index.result.now (sym c.requires.long) c.requires.inside c.index.ensures in
    let less = present_less c.args.index.now.items c.args.place (there ∙ ap Some (sym c.place.ensures ∙ c.in-None.is)) in
    let few = c.requires.index.few in
    let all = c.args.items.now.ok.0 in
    let long = c.requires.long in
    let len = c.len-k.ensures in
    let fits = c.ranges._count.fits in
    record { few = omega arith }

pub returns-in-Some-clause-put : goal.returns-in-Some-clause-put
returns-in-Some-clause-put g c =
    let there = slice_get_read c.args.index.now.items c.args._count c.args.place c.index.result.now (sym c.requires.long) c.requires.inside c.index.ensures in
    let here = there ∙ ap Some (sym c.place.ensures ∙ c.in-Some.is) in
    replaced c.args._count c.args.index.now.items c.args.items.now.items c.in-Some.k c.args.item c.args.place c.requires.inside
    (c.requires.index.below c.args.place c.in-Some.k here) here (λ q h. c.requires.index.apart q c.args.place c.in-Some.k h here)

pub returns-in_ok-push-in-None-clause-index : goal.returns-in_ok-push-in-None-clause-index
returns-in_ok-push-in-None-clause-index g c =
    let there = slice_get_read c.args.index.now.items c.args._count c.args.place c.index.result.now (sym c.requires.long) c.requires.inside c.index.ensures in
    let none : slice_get c.args.index.now.items c.args.place ≡ Some None = there ∙ ap Some (sym c.place.ensures ∙ c.in-None.is) in
    let number : c.len-k.result ≡ length c.args.items.now.items = c.len-k.ensures ∙ c.args.items.now.ok.0 in
    let more = length-append c.args.items.now.items (c.args.item ∷ []) in
    rw (c.some.ensures, number, c.in_ok-push-in-None.ensures.items, more)
    (pushed_index c.args._count c.args.index.now.items (length c.args.items.now.items) c.args.place c.requires.index c.requires.long none)

pub returns-in_ok-push-in-None-clause-put : goal.returns-in_ok-push-in-None-clause-put
returns-in_ok-push-in-None-clause-put g c =
    let number : c.len-k.result ≡ length c.args.items.now.items = c.len-k.ensures ∙ c.args.items.now.ok.0 in
    let long = c.requires.long in
    let inside = c.requires.inside in
    rw (c.some.ensures, number, c.in_ok-push-in-None.ensures.items)
    (pushed c.args._count c.args.index.now.items c.args.items.now.items c.args.item c.args.place c.requires.index.below c.requires.inside (omega arith))
