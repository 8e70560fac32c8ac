use Rattle.std.proofs.Common.{◌≡◌, false, true, get_or, length, Some, slice_get, sym, ap, ◌∙◌, subst, arith}
use Rattle.std.specs.Prelude.{bytes_eq, option_and_then}
use Rattle.std.proofs.lemmas.List.{length-map}
use Rattle.ae_vmodule.specs.View.{net_tree, word_at}
use Rattle.ae_vmodule.specs.declared.module.VNet.{VNet}
use Rattle.ae_judge.specs.Table.{NameTable}
use Rattle.ae_judge.proofs.PlaceLemmas.{named_head, named_none, named_tail, net_there, place_net}
use Rattle.ae_judge.proofs.names.Names.scan.Goals as goal

pub returns-then-eq-clause-place : goal.returns-then-eq-clause-place
returns-then-eq-clause-place c =
    let d : VNet = c.index-self-place.result in
    let x = net_tree c.self.inside.words.now (get_or c.self.inside.nets.now c.net.place d) in
    let there : slice_get c.args.self.now.nets c.net.place ≡ Some x = subst (λ (t : NameTable). slice_get t.nets c.net.place ≡ Some x) c.self.view_is
    (net_there c.self.inside.words.now c.self.inside.nets.now c.net.place d c.net-test.true) in
    let name = c.name-in-net.ensures ∙ ap (word_at c.self.inside.words.now) c.name.ensures in
    let same : bytes_eq x.name c.args.word.now ≡ true = ap (λ w. bytes_eq w c.args.word.now) (sym name) ∙ sym c.eq.ensures ∙ c.if-eq.true in
    named_head c.args.self.now.nets c.net.place x c.args.word.now there same ∙ c.net.invariant

pub returns-then-eq-clause-net : goal.returns-then-eq-clause-net
returns-then-eq-clause-net c =
    ap (option_and_then (slice_get c.args.self.now.nets)) (returns-then-eq-clause-place c) ∙ place_net c.args.self.now.nets c.args.word.now

pub net-preserved : goal.net-preserved
net-preserved c =
    let d : VNet = c.index-self-place.result in
    let x = net_tree c.self.inside.words.now (get_or c.self.inside.nets.now c.net.place d) in
    let there : slice_get c.args.self.now.nets c.net.place ≡ Some x = subst (λ (t : NameTable). slice_get t.nets c.net.place ≡ Some x) c.self.view_is
    (net_there c.self.inside.words.now c.self.inside.nets.now c.net.place d c.net-test.true) in
    let name = c.name-in-net.ensures ∙ ap (word_at c.self.inside.words.now) c.name.ensures in
    let other : bytes_eq x.name c.args.word.now ≡ false = ap (λ w. bytes_eq w c.args.word.now) (sym name) ∙ sym c.eq.ensures ∙ c.if-eq.false in
    named_tail c.args.self.now.nets c.net.place x c.args.word.now there other ∙ c.net.invariant

pub returns-clause-place : goal.returns-clause-place
returns-clause-place c =
    let long = length-map c.self.inside.nets.now (net_tree c.self.inside.words.now) in
    let same = ap (λ (t : NameTable). length t.nets) c.self.view_is in
    named_none c.args.self.now.nets c.net.place c.args.word.now (omega (arith, c.net-test.false, long, same)) ∙ c.net.invariant

pub returns-clause-net : goal.returns-clause-net
returns-clause-net c =
    ap (option_and_then (slice_get c.args.self.now.nets)) (returns-clause-place c) ∙ place_net c.args.self.now.nets c.args.word.now
