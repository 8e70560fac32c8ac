use Rattle.std.proofs.Common.{◌≡◌, ◌+◌, ◌≤◌, List, [], ◌∷◌, ◌++◌, length, map, take, Some, slice_get, refl, ◌∙◌, subst}
use Rattle.ae_vmodule.specs.declared.module.VNet.{VNet}
use Rattle.ae_vmodule.specs.View.{module_tree, net_tree}
use Rattle.ae_netlist.specs.Counts.{count_of, is_input}
use Rattle.ae_judge.specs.Names.{depth_of_kind, is_clock}
use Rattle.ae_elab.specs.Declaring.{AddsCell, given_cell}
use Rattle.ae_judge.proofs.Members.{among_from}
use Rattle.ae_order.proofs.Turns.{at_turn, take_turn}
use Rattle.ae_order.proofs.SoundOf.{sized}
use Rattle.ae_elab.proofs.Declaring.{adds_limit, adds_outlets, declared_more}
use Rattle.ae_elab.proofs.declare.declare_nets.Goals as goal

pub declare-requires-clause-low : goal.declare-requires-clause-low
declare-requires-clause-low c =
    let m = module_tree c.args.m.now in
    let tree = net_tree c.args.m.now.words in
    let vs = c.deref-net-items.result.now in
    let i = c.loop-net.net-index in
    let x = c.net-item.result in
    let found : slice_get m.nets i ≡ Some (tree x) = subst (λ (us : List VNet). slice_get (map tree us) i ≡ Some (tree x)) c.deref-net-items.ensures.value
    (at_turn tree vs i x c.loop-net-test.true c.net-item.is) in
    c.requires.shape.wide (tree x) (among_from _ m.nets i found)

pub declare-requires-clause-high : goal.declare-requires-clause-high
declare-requires-clause-high c =
    let m = module_tree c.args.m.now in
    let tree = net_tree c.args.m.now.words in
    let vs = c.deref-net-items.result.now in
    let i = c.loop-net.net-index in
    let x = c.net-item.result in
    let found : slice_get m.nets i ≡ Some (tree x) = subst (λ (us : List VNet). slice_get (map tree us) i ≡ Some (tree x)) c.deref-net-items.ensures.value
    (at_turn tree vs i x c.loop-net-test.true c.net-item.is) in
    (sized m c.requires.regular c.requires.shape (tree x) (among_from _ m.nets i found)).0

pub declare-requires-clause-deep : goal.declare-requires-clause-deep
declare-requires-clause-deep c = λ depth e.
    let m = module_tree c.args.m.now in
    let tree = net_tree c.args.m.now.words in
    let vs = c.deref-net-items.result.now in
    let i = c.loop-net.net-index in
    let x = c.net-item.result in
    let found : slice_get m.nets i ≡ Some (tree x) = subst (λ (us : List VNet). slice_get (map tree us) i ≡ Some (tree x)) c.deref-net-items.ensures.value
    (at_turn tree vs i x c.loop-net-test.true c.net-item.is) in
    let there = among_from (tree x) m.nets i found in
    let most = (sized m c.requires.regular c.requires.shape (tree x) there).1 in
    (c.requires.shape.deep (tree x) depth there e, subst (λ k. depth_of_kind k ≤ 65536) e most)

pub loop-net-preserved : goal.loop-net-preserved
unfolding is_clock
loop-net-preserved c =
    let m = module_tree c.args.m.now in
    let tree = net_tree c.args.m.now.words in
    let vs = c.deref-net-items.result.now in
    let i = c.loop-net.net-index in
    let x = c.net-item.result in
    let turn : take (i + 1) m.nets ≡ take i m.nets ++ tree x ∷ [] = subst (λ (us : List VNet). take (i + 1) (map tree us) ≡ take i (map tree us) ++ tree x ∷ [])
    c.deref-net-items.ensures.value (take_turn tree vs i x c.loop-net-test.true c.net-item.is) in
    let clock : c.is_named-is_clock.result ≡ is_clock m (tree x).name =
    rw (c.name.ensures, c.clock_of-clock.ensures, c.requires.names, c.deref.ensures.value) at c.is_named-is_clock.ensures in
    let adds : AddsCell (given_cell x.kind (is_clock m (tree x).name) (length c.loop-net.nl.cells) (count_of is_input c.loop-net.nl.cells) x.width)
    c.loop-net.nl c.declare.new.nl c.in_ok-found.found = rw clock at c.in_ok-found.ensures in
    record {
      declared = rw (turn, c.in_ok-push.ensures.items) (declared_more m _ c.loop-net.nets.items c.loop-net.nl c.declare.new.nl (tree x) c.in_ok-found.found
          (count_of is_input c.loop-net.nl.cells) c.loop-net.invariant.declared refl adds);
      limit = adds_limit _ c.loop-net.nl c.declare.new.nl c.in_ok-found.found adds ∙ c.loop-net.invariant.limit;
      outlets = adds_outlets _ c.loop-net.nl c.declare.new.nl c.in_ok-found.found adds ∙ c.loop-net.invariant.outlets;
    }
