use Rattle.std.proofs.Common.{◌<◌, ◌+◌, length, Some, arith, sym, ap, ◌∙◌, subst}
use Rattle.std.proofs.lemmas.List.{length-map}
use Rattle.std.proofs.lemmas.Option.{slice_get_within}
use Rattle.ae_vmodule.specs.View.{module_tree, net_tree}
use Rattle.ae_order.proofs.Turns.{at_turn}
use Rattle.ae_elab.proofs.Showing.{read_there}
use Rattle.ae_elab.proofs.EdgeJoins.{AreJoined, joins_step, joins_none}
use Rattle.ae_elab.proofs.edges.connect_all.Goals as goal
use Rattle.ae_elab.proofs.edges.connect_all.Goals.{in-Some, in_default}

pub connect-requires-clause-unconnected : goal.connect-requires-clause-unconnected
connect-requires-clause-unconnected c =
    let k = c.loop-place.place in
    let all = length-map c.args.m.now.nets.items (net_tree c.args.m.now.words) in
    let long = c.requires.long in
    let many = c.requires.fits.long in
    let l : c.loop-place.place < length c.args.m.now.nets.items = omega arith in
    let n : c.loop-place.place < length c.args.nets.now = omega arith in
    let here = at_turn (net_tree c.args.m.now.words) c.args.m.now.nets.items k c.index.result.now l c.index.ensures in
    let net = read_there c.args.nets.now k c.index-nets-place.result c.net.result n c.index-nets-place.is c.net.ensures ∙ ap Some c.in-Some.is in
    c.loop-place.invariant.free k (net_tree c.args.m.now.words c.index.result.now) c.in-Some.net (omega arith) here net

pub connect-requires-clause-early : goal.connect-requires-clause-early
connect-requires-clause-early c = λ state.
    let k = c.loop-place.place in
    let all = length-map c.args.m.now.nets.items (net_tree c.args.m.now.words) in
    let long = c.requires.long in
    let many = c.requires.fits.long in
    let l : c.loop-place.place < length c.args.m.now.nets.items = omega arith in
    let n : c.loop-place.place < length c.args.nets.now = omega arith in
    let here = at_turn (net_tree c.args.m.now.words) c.args.m.now.nets.items k c.index.result.now l c.index.ensures in
    let net = read_there c.args.nets.now k c.index-nets-place.result c.net.result n c.index-nets-place.is c.net.ensures ∙ ap Some c.in-Some.is in
    c.requires.unconnected.early k (net_tree c.args.m.now.words c.index.result.now) c.in-Some.net here state net

pub connect-requires-clause-fits : goal.connect-requires-clause-fits
connect-requires-clause-fits c =
    let k = c.loop-place.place in
    let all = length-map c.args.m.now.nets.items (net_tree c.args.m.now.words) in
    let long = c.requires.long in
    let many = c.requires.fits.long in
    let l : c.loop-place.place < length c.args.m.now.nets.items = omega arith in
    let here = at_turn (net_tree c.args.m.now.words) c.args.m.now.nets.items k c.index.result.now l c.index.ensures in
    c.loop-place.invariant.fits.each k (net_tree c.args.m.now.words c.index.result.now) _ here c.at.ensures

pub loop-place-preserved : goal.loop-place-preserved
loop-place-preserved c =
    let m = module_tree c.args.m.now in
    let k = c.loop-place.place in
    let all = length-map c.args.m.now.nets.items (net_tree c.args.m.now.words) in
    let long = c.requires.long in
    let many = c.requires.fits.long in
    let l : c.loop-place.place < length c.args.m.now.nets.items = omega arith in
    let n : c.loop-place.place < length c.args.nets.now = omega arith in
    let there = read_there c.args.nets.now k c.index-nets-place.result c.net.result n c.index-nets-place.is c.net.ensures in
    elim c.match-net.branch [
      | in-Some w ↦
          let here = at_turn (net_tree c.args.m.now.words) c.args.m.now.nets.items k w.index.result.now l w.index.ensures in
          let net = there ∙ ap Some w.in-Some.is in
          let e = w.connect.ensures in
          subst (λ a. AreJoined c.args.from m c.args.nets.now c.args.nexts.now c.args.nl.now a (k + 1)) (sym w.nl-is)
          (joins_step c.args.from m c.args.nets.now c.args.nexts.now c.args.nl.now c.requires.unconnected c.loop-place.nl w.connect.new.nl k
          (net_tree c.args.m.now.words w.index.result.now) w.in-Some.net w.at.result c.loop-place.invariant here net w.at.ensures
          (record { connects = e.connects; long = e.long; constants = e.constants; others = e.others; stays = e.stays; connected = e.connected }))
      | in_default w ↦
          subst (λ a. AreJoined c.args.from m c.args.nets.now c.args.nexts.now c.args.nl.now a (k + 1)) (sym w.nl-is)
          (joins_none c.args.from m c.args.nets.now c.args.nexts.now c.args.nl.now c.requires.unconnected c.loop-place.nl k c.loop-place.invariant
          (there ∙ ap Some w.in_default.is))
    ]

pub returns-clause-connected : goal.returns-clause-connected
returns-clause-connected c = λ p x y n here net next.
    let l = slice_get_within c.args.nexts.now p n next in
    let long = c.requires.long in
    let many = c.requires.fits.long in
    c.loop-place.invariant.done p x y n (omega arith) here net next
