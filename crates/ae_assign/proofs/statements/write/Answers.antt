use Rattle.std.proofs.Common.{◌<◌, ◌%◌, ◌^◌, length, max, inl, arith, refl, sym, ap}
use Rattle.ae_vmodule.specs.Roots.{numbered}
use Rattle.ae_vmodule.specs.View.{expr_tree, word_at}
use Rattle.ae_judge.specs.Names.{depth_of}
use Rattle.ae_judge.specs.Widths.{own_width}
use Rattle.ae_runs.specs.Values.{value_at}
use Rattle.ae_runs.specs.Named.{place_of, read}
use Rattle.ae_assign.specs.declared.statements.Next.TheVariants.{Write}
use Rattle.ae_gates.proofs.Words.{back, grows_trans, net_grows, same_word, word_grows}
use Rattle.ae_assign.proofs.EdgeLaws.{write_acts, guard_grows, next_other}
use Rattle.ae_assign.proofs.EdgeFits.{address_grows, memory_fits, next_inside, nexts_set}
use Rattle.ae_assign.proofs.statements.write.Goals as goal

pub set-requires : goal.set-requires
set-requires c =
    let inside : place_of c.args.names.now.nets (word_at c.args.names.now.words c.args.name) < length c.args.nexts.now = next_inside
    c.args.names.now.nets c.args.nexts.now
    c.args.nl.now.cells (word_at c.args.names.now.words c.args.name) c.requires.sound.0.0 c.requires.nexts in
    let e = c.place_of-place.ensures in
    record { inside = omega arith }

pub returns-clause-nexts : goal.returns-clause-nexts
returns-clause-nexts c =
    let here = c.requires.sound.0.0 in
    let later = grows_trans c.in_ok-word.ensures.adds.grows c.in_ok-enable.ensures.adds.grows in
    let g = grows_trans c.in_ok-at.ensures.adds.grows later in
    rw (c.in_ok-set.ensures.ok, c.place_of-place.ensures)
    (nexts_set c.args.names.now.nets c.args.nexts.now (word_at c.args.names.now.words c.args.name) here c.args.nl.now c.reached.new.nl
    (Write c.in_ok-at.at c.in_ok-word.word c.in_ok-enable.enable) g c.requires.nexts
    (memory_fits c.args.names.now.nets (word_at c.args.names.now.words c.args.name) here c.reached.new.nl.cells c.in_ok-at.at c.in_ok-word.word
    c.in_ok-enable.enable c.name_width-width.result
    c.requires.sound.1 c.name_width-width.ensures.width
    (address_grows c.written_at.new.nl c.reached.new.nl c.in_ok-at.at.0
    (depth_of c.args.names.now.nets (word_at c.args.names.now.words c.args.name)) later c.in_ok-at.ensures.address)
    (net_grows c.in_ok-enable.ensures.adds.grows c.in_ok-word.ensures.net) c.in_ok-enable.ensures.net))

pub returns-clause-others : goal.returns-clause-others
returns-clause-others c = λ n none.
    rw (c.in_ok-set.ensures.ok, c.place_of-place.ensures)
    (next_other c.args.names.now.nets c.args.nexts.now (word_at c.args.names.now.words c.args.name) c.requires.sound.0.0 c.requires.nexts.long
    (Write c.in_ok-at.at c.in_ok-word.word c.in_ok-enable.enable) n (λ e. none (inl (sym e))))

pub returns-clause-acts : goal.returns-clause-acts
returns-clause-acts c =
    let ns = c.args.names.now.nets in
    let later = grows_trans c.in_ok-word.ensures.adds.grows c.in_ok-enable.ensures.adds.grows in
    rw (c.in_ok-set.ensures.ok, c.place_of-place.ensures)
    (write_acts c.args.from ns c.args.nets.now c.args.guard c.args.nl.now.cells c.reached.new.nl.cells c.args.nexts.now
    (word_at c.args.names.now.words c.args.name)
    (expr_tree c.args.names.now.words (numbered c.args.at)) (expr_tree c.args.names.now.words (numbered c.args.value))
    c.in_ok-at.at c.in_ok-word.word c.in_ok-enable.enable c.name_width-width.result
    c.requires.sound.0.0 c.requires.nexts.long (c.requires.fresh.kept (word_at c.args.names.now.words c.args.name) (inl refl) c.requires.sound.1)
    (λ at named all k run is t l. c.in_ok-at.ensures.word at named all (back later k) run is t l)
    (λ at named.
    word_grows c.in_ok-enable.ensures.adds.grows
    (same_word _ _ (λ run t. ap (λ w. value_at ns (read at run t) (max (own_width ns (expr_tree c.args.names.now.words (numbered c.args.value))) w)
    (expr_tree c.args.names.now.words (numbered c.args.value)) % 2 ^ w)
    c.name_width-width.ensures.width) (c.in_ok-word.ensures.word at named)))
    (λ g guards. c.in_ok-enable.ensures.word g (guard_grows c.args.from c.args.guard g
    (grows_trans c.in_ok-at.ensures.adds.grows c.in_ok-word.ensures.adds.grows) guards)))
