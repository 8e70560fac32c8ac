use Rattle.std.proofs.Common.{subst}
use Rattle.ae_vmodule.specs.Roots.{numbered}
use Rattle.ae_vmodule.specs.View.{expr_tree, word_at}
use Rattle.ae_judge.specs.Names.{depth_of}
use Rattle.ae_judge.specs.Widths.{own_width}
use Rattle.ae_order.specs.Sound.{IsSound, IsSoundIndex, place_number}
use Rattle.ae_express.proofs.NetLaws.{varying_address}
use Rattle.ae_assign.proofs.statements.written_at.Goals as goal

pub returns-in_ok-y-in-None-clause-address : goal.returns-in_ok-y-in-None-clause-address
returns-in_ok-y-in-None-clause-address c =
    let ns = c.args.names.now.nets in
    let at = expr_tree c.args.names.now.words (numbered c.args.at) in
    let v = subst (λ b. IsSoundIndex b ns (word_at c.args.names.now.words c.args._name) (place_number at) (own_width ns at) (IsSound ns at))
    (c.in-None.ensures.none c.args.names.now.words) c.requires.sound.1 in
    varying_address c.own_word.new.nl.cells c.in_ok-y-in-None.y.0 c.in_ok-y-in-None._own
    (depth_of ns (word_at c.args.names.now.words c.args._name)) c.in_ok-y-in-None.ensures.lowered.net
    (rw c.in_ok-y-in-None.ensures.own v.inside)
