use Rattle.std.proofs.Common.{◌≡◌, length, Some, None, slice_get, ap, arith}
use Rattle.std.proofs.lemmas.List.{length-map}
use Rattle.ae_vmodule.specs.Roots.{numbered}
use Rattle.ae_vmodule.specs.View.{expr_tree, module_tree}
use Rattle.ae_order.specs.Drives.{value_tree, values_of}
use Rattle.ae_judge.proofs.Members.{among_from}
use Rattle.ae_order.proofs.DriveLaws.{values_long, values_sound}
use Rattle.ae_order.proofs.SoundOf.{sized}
use Rattle.ae_elab.proofs.Wiring.{keeps_set, open_less, value_ready, wiring_more, wiring_same}
use Rattle.ae_elab.proofs.Tables.{table_nets}
use Rattle.ae_elab.proofs.wires.add_wire.Goals as goal
use Rattle.ae_judge.proofs.PlaceLemmas.{get_within as some_at}

pub value_at-requires : goal.value_at-requires
value_at-requires c =
    let m = module_tree c.args.m.now in
    let l = c.requires.sorted.places c.args.turn c.place_at-place.result c.place_at-place.ensures in
    let long = values_long m c.requires.regular c.requires.shape in
    let same = ap length c.requires.values in
    let all = length-map c.args.values.now (value_tree c.args.names.now.words) in
    record { inside = omega arith }

pub given_word-requires-clause-sound : goal.given_word-requires-clause-sound
given_word-requires-clause-sound c =
    let m = module_tree c.args.m.now in
    let v : slice_get (values_of m) c.place_at-place.result ≡ Some
    (Some (expr_tree c.args.names.now.words (numbered c.in-Some.e))) = rw (c.requires.values, c.in-Some.is) at (c.value_at.ensures c.args.names.now.words) in
    rw (table_nets c.requires.names) (values_sound m c.requires.regular c.requires.shape c.place_at-place.result
    (expr_tree c.args.names.now.words (numbered c.in-Some.e)) v)

pub given_word-requires-clause-ready : goal.given_word-requires-clause-ready
given_word-requires-clause-ready c =
    let m = module_tree c.args.m.now in
    let v : slice_get (values_of m) c.place_at-place.result ≡ Some
    (Some (expr_tree c.args.names.now.words (numbered c.in-Some.e))) = rw (c.requires.values, c.in-Some.is) at (c.value_at.ensures c.args.names.now.words) in
    rw (table_nets c.requires.names, c.deref.ensures.value)
    (value_ready m c.requires.regular c.requires.shape c.args.order.now c.requires.sorted c.args.from c.args.turn c.place_at-place.result
    c.place_at-place.ensures _ _ (expr_tree c.args.names.now.words (numbered c.in-Some.e)) c.requires.wiring v)

pub given_word-requires-clause-low : goal.given_word-requires-clause-low
given_word-requires-clause-low c =
    let m = module_tree c.args.m.now in
    let x = some_at m.nets c.place_at-place.result (c.requires.sorted.places c.args.turn c.place_at-place.result c.place_at-place.ensures) in
    let e = c.net_width-width.ensures x.0 x.1 in
    let l = c.requires.shape.wide x.0 (among_from x.0 m.nets c.place_at-place.result x.1) in
    omega arith

pub given_word-requires-clause-high : goal.given_word-requires-clause-high
given_word-requires-clause-high c =
    let m = module_tree c.args.m.now in
    let x = some_at m.nets c.place_at-place.result (c.requires.sorted.places c.args.turn c.place_at-place.result c.place_at-place.ensures) in
    let e = c.net_width-width.ensures x.0 x.1 in
    let l = (sized m c.requires.regular c.requires.shape x.0 (among_from x.0 m.nets c.place_at-place.result x.1)).0 in
    omega arith

pub given_word-requires-clause-room : goal.given_word-requires-clause-room
given_word-requires-clause-room c =
    let m = module_tree c.args.m.now in
    let v : slice_get (values_of m) c.place_at-place.result ≡ Some
    (Some (expr_tree c.args.names.now.words (numbered c.in-Some.e))) = rw (c.requires.values, c.in-Some.is) at (c.value_at.ensures c.args.names.now.words) in
    let l = open_less m c.requires.regular c.requires.shape c.args.order.now c.requires.sorted c.args.from c.args.turn c.place_at-place.result
    c.place_at-place.ensures _ _ (expr_tree c.args.names.now.words (numbered c.in-Some.e)) (record { 0 = 0 }) c.requires.wiring v in
    let room = c.requires.room in
    omega arith

pub returns-in-None-clause-wiring : goal.returns-in-None-clause-wiring
returns-in-None-clause-wiring c =
    let m = module_tree c.args.m.now in
    let v : slice_get (values_of m) c.place_at-place.result ≡ Some None = rw (c.requires.values, c.in-None.is) at (c.value_at.ensures c.args.names.now.words) in
    wiring_same m c.requires.regular c.requires.shape c.args.order.now c.requires.sorted c.args.from c.args.turn c.place_at-place.result
    c.place_at-place.ensures _ _ c.requires.wiring v

pub returns-in_ok-y-in-Some-clause-wiring : goal.returns-in_ok-y-in-Some-clause-wiring
returns-in_ok-y-in-Some-clause-wiring c =
    let m = module_tree c.args.m.now in
    let v : slice_get (values_of m) c.place_at-place.result ≡ Some
    (Some (expr_tree c.args.names.now.words (numbered c.in-Some.e))) = rw (c.requires.values, c.in-Some.is) at (c.value_at.ensures c.args.names.now.words) in
    let l = c.requires.sorted.places c.args.turn c.place_at-place.result c.place_at-place.ensures in
    let x = some_at m.nets c.place_at-place.result l in
    let width = c.net_width-width.ensures x.0 x.1 in
    rw c.set_net.ensures
    (wiring_more m c.requires.regular c.requires.shape c.args.order.now c.requires.sorted c.args.from c.args.turn c.place_at-place.result
    c.place_at-place.ensures c.args.nets.now.items c.args.nl.now c.given_word.new.nl x.0
    (expr_tree c.args.names.now.words (numbered c.in-Some.e)) c.in_ok-y-in-Some.y
    c.requires.wiring v x.1 c.in_ok-y-in-Some.ensures.adds.grows c.in_ok-y-in-Some.ensures.adds.more (rw width at c.in_ok-y-in-Some.ensures.net)
    (λ at named. rw (width, table_nets c.requires.names) at
    (c.in_ok-y-in-Some.ensures.word at (rw (table_nets c.requires.names, c.deref.ensures.value) named))))

pub returns-in_ok-y-in-Some-clause-keeps : goal.returns-in_ok-y-in-Some-clause-keeps
returns-in_ok-y-in-Some-clause-keeps c =
    let m = module_tree c.args.m.now in
    let v : slice_get (values_of m) c.place_at-place.result ≡ Some
    (Some (expr_tree c.args.names.now.words (numbered c.in-Some.e))) = rw (c.requires.values, c.in-Some.is) at (c.value_at.ensures c.args.names.now.words) in
    let free = c.requires.wiring.behind c.args.turn c.place_at-place.result (expr_tree c.args.names.now.words (numbered c.in-Some.e))
    (omega arith) c.place_at-place.ensures v in
    rw c.set_net.ensures (keeps_set _ c.place_at-place.result c.in_ok-y-in-Some.y free)

pub returns-in_ok-y-in-Some-clause-few : goal.returns-in_ok-y-in-Some-clause-few
returns-in_ok-y-in-Some-clause-few c =
    let m = module_tree c.args.m.now in
    let v : slice_get (values_of m) c.place_at-place.result ≡ Some
    (Some (expr_tree c.args.names.now.words (numbered c.in-Some.e))) = rw (c.requires.values, c.in-Some.is) at (c.value_at.ensures c.args.names.now.words) in
    let less = open_less m c.requires.regular c.requires.shape c.args.order.now c.requires.sorted c.args.from c.args.turn c.place_at-place.result
    c.place_at-place.ensures c.args.nets.now.items c.args.nl.now.cells
    (expr_tree c.args.names.now.words (numbered c.in-Some.e)) c.in_ok-y-in-Some.y c.requires.wiring v in
    let few = c.in_ok-y-in-Some.ensures.adds.few in
    rw c.set_net.ensures (omega arith)
