use Rattle.std.proofs.Common.{◌<◌, ◌%◌, ◌^◌, length, max, inl, arith, sym, ap, ◌∙◌, subst}
use Rattle.ae_netlist.specs.Circuit.{IsNet}
use Rattle.ae_vmodule.specs.Roots.{numbered}
use Rattle.ae_vmodule.specs.View.{expr_tree, word_at}
use Rattle.ae_judge.specs.Widths.{own_width}
use Rattle.ae_runs.specs.Values.{value_at}
use Rattle.ae_runs.specs.Named.{place_of, read}
use Rattle.ae_assign.specs.Edges.{IsSoFar, next_at}
use Rattle.ae_assign.specs.declared.statements.Next.TheVariants.{Word}
use Rattle.ae_gates.proofs.Words.{grows_trans, same_word}
use Rattle.ae_order.proofs.SoundLaws.{named_width}
use Rattle.ae_assign.proofs.EdgeLaws.{assign_acts, guard_grows, next_other}
use Rattle.ae_assign.proofs.EdgeFits.{kind_of_register, next_fits, next_inside, nexts_set, register_net, register_next, register_store, so_far_word}
use Rattle.ae_assign.proofs.statements.assign.Goals as goal

pub set-requires : goal.set-requires
set-requires c =
    let inside : place_of c.args.names.now.nets (word_at c.args.names.now.words c.args.name) < length c.args.nexts.now = next_inside
    c.args.names.now.nets c.args.nexts.now
    c.args.nl.now.cells (word_at c.args.names.now.words c.args.name) c.requires.sound.0 c.requires.nexts in
    let e = c.place_of-place.ensures in
    record { inside = omega arith }

pub so_far-before-requires : goal.so_far-before-requires
so_far-before-requires c =
    let inside : place_of c.args.names.now.nets (word_at c.args.names.now.words c.args.name) < length c.args.nexts.now = next_inside
    c.args.names.now.nets c.args.nexts.now
    c.args.nl.now.cells (word_at c.args.names.now.words c.args.name) c.requires.sound.0 c.requires.nexts in
    let fits = next_fits c.args.names.now.nets c.args.nexts.now c.args.nl.now.cells
    (word_at c.args.names.now.words c.args.name) c.requires.sound.0 c.requires.nexts in
    rw c.place_of-place.ensures (record {
      inside = inside;
      word = register_next c.args.nl.now.cells c.requires.sound.0.net _ (kind_of_register c.requires.sound.0 c.requires.sound.1) fits;
    })

pub taken-requires-clause-right : goal.taken-requires-clause-right
taken-requires-clause-right c =
    let so_far : IsSoFar (next_at c.args.names.now.nets c.args.nexts.now (word_at c.args.names.now.words c.args.name)) c.net_of-own.result
    c.so_far-before.result = rw c.place_of-place.ensures at c.so_far-before.ensures in
    register_net c.args.names.now.nets c.args.nets.now c.args.nexts.now c.args.nl.now c.given_word.new.nl
    (word_at c.args.names.now.words c.args.name) c.name_width-width.result
    c.net_of-own.result c.so_far-before.result c.requires.sound.0 c.requires.sound.1 c.requires.nets
    c.net_of-own.ensures c.requires.nexts c.name_width-width.ensures.width so_far c.in_ok-word.ensures.adds.grows

pub returns-clause-nexts : goal.returns-clause-nexts
returns-clause-nexts c =
    let here = c.requires.sound.0 in
    let net : IsNet c.taken.new.nl.cells c.in_ok-next.next.0 here.net.width = subst (IsNet c.taken.new.nl.cells c.in_ok-next.next.0)
    (c.name_width-width.ensures.width ∙ named_width here) c.in_ok-next.ensures.net in
    rw (c.in_ok-set.ensures.ok, c.place_of-place.ensures)
    (nexts_set c.args.names.now.nets c.args.nexts.now (word_at c.args.names.now.words c.args.name) here c.args.nl.now c.taken.new.nl
    (Word c.in_ok-next.next)
    (grows_trans c.in_ok-word.ensures.adds.grows c.in_ok-next.ensures.adds.grows) c.requires.nexts (kind_of_register here c.requires.sound.1, net))

pub returns-clause-others : goal.returns-clause-others
returns-clause-others c = λ n none.
    rw (c.in_ok-set.ensures.ok, c.place_of-place.ensures)
    (next_other c.args.names.now.nets c.args.nexts.now (word_at c.args.names.now.words c.args.name) c.requires.sound.0 c.requires.nexts.long
    (Word c.in_ok-next.next) n
    (λ e. none (inl (sym e))))

pub returns-clause-acts : goal.returns-clause-acts
returns-clause-acts c =
    let here = c.requires.sound.0 in
    let ns = c.args.names.now.nets in
    let fits = next_fits ns c.args.nexts.now c.args.nl.now.cells (word_at c.args.names.now.words c.args.name) here c.requires.nexts in
    let is_word = register_next c.args.nl.now.cells here.net _ (kind_of_register here c.requires.sound.1) fits in
    let so_far : IsSoFar (next_at c.args.names.now.nets c.args.nexts.now (word_at c.args.names.now.words c.args.name)) c.net_of-own.result
    c.so_far-before.result = rw c.place_of-place.ensures at c.so_far-before.ensures in
    rw (c.in_ok-set.ensures.ok, c.place_of-place.ensures)
    (assign_acts c.args.from ns c.args.nets.now c.args.guard c.args.nl.now.cells c.taken.new.nl.cells c.args.nexts.now
    (word_at c.args.names.now.words c.args.name)
    (expr_tree c.args.names.now.words (numbered c.args.value)) c.in_ok-next.next c.name_width-width.result
    here c.requires.nexts.long (λ run t own. register_store _ run t own is_word)
    (λ at g named guards.
    c.in_ok-next.ensures.word g _ _ (guard_grows c.args.from c.args.guard g c.in_ok-word.ensures.adds.grows guards)
    (same_word _ _ (λ run t. ap (λ w. value_at ns (read at run t) (max (own_width ns (expr_tree c.args.names.now.words (numbered c.args.value))) w)
    (expr_tree c.args.names.now.words (numbered c.args.value)) % 2 ^ w)
    c.name_width-width.ensures.width) (c.in_ok-word.ensures.word at named))
    (record {
      found =
          register_net ns c.args.nets.now c.args.nexts.now c.args.nl.now c.given_word.new.nl
          (word_at c.args.names.now.words c.args.name) c.name_width-width.result
          c.net_of-own.result c.so_far-before.result here c.requires.sound.1 c.requires.nets
          c.net_of-own.ensures c.requires.nexts c.name_width-width.ensures.width so_far c.in_ok-word.ensures.adds.grows;
      words = λ all k run is t l. so_far_word _ c.net_of-own.result c.so_far-before.result run t (at (word_at c.args.names.now.words c.args.name)) so_far
          (named.each (word_at c.args.names.now.words c.args.name) c.net_of-own.result c.net_of-own.ensures);
    })))
