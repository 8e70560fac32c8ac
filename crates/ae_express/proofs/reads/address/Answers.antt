use Rattle.ae_gates.proofs.Words.{fixed_word, gates_added}
use Rattle.ae_express.proofs.NetLaws.{constant_address}
use Rattle.ae_express.proofs.reads.address.Goals as goal

pub returns-clause-adds : goal.returns-clause-adds
returns-clause-adds c = gates_added c.in_ok-y.ensures.adds c.in_ok-y.ensures.registers

pub returns-clause-word : goal.returns-clause-word
returns-clause-word c =
    rw c.from.ensures at (fixed_word c.args.from _ _ _ 16 c.from.result c.requires.from c.in_ok-y.ensures.net c.in_ok-y.ensures.words)

pub returns-clause-address : goal.returns-clause-address
returns-clause-address c = λ depth l. constant_address _ _ _ _ depth c.in_ok-y.ensures.cell (rw c.from.ensures l)
