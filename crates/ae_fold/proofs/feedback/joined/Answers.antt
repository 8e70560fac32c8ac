use Rattle.std.proofs.Common.{◌∙◌, arith}
use Rattle.ae_netlist.proofs.Carried.{carries_extends, carries_later}
use Rattle.ae_gates.proofs.Adding.{adds_trans}
use Rattle.ae_gates.proofs.Added.{back}
use Rattle.ae_fold.proofs.Feeding.{adds_is}
use Rattle.ae_fold.proofs.feedback.joined.Goals as goal

pub returns-clause-adds : goal.returns-clause-adds
returns-clause-adds c = adds_is (omega arith) (omega arith) (adds_trans c.in_ok-both.ensures.adds c.in_ok-y.ensures.adds)

pub returns-clause-words : goal.returns-clause-words
returns-clause-words c = λ all e run is t l.
    let k = carries_extends 0 e in
    c.in_ok-y.ensures.words all (carries_later _ _ (omega arith) k) run is t l
    ∙ c.in_ok-both.ensures.words all (carries_later _ _ (omega arith) (back c.in_ok-y.ensures.adds.grows k)) run is t (omega arith)

pub delayed-requires-clause-room : goal.delayed-requires-clause-room
delayed-requires-clause-room c = omega (arith, c.requires.room, c.in_ok-both.ensures.adds.cells, c.in_ok-both.ensures.adds.grows.limit)
