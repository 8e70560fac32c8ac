use Rattle.ae_express.proofs.NetLaws.{name_net, name_word}
use Rattle.ae_express.proofs.reads.read_part.Goals as goal

pub cut-requires-clause-net : goal.cut-requires-clause-net
cut-requires-clause-net c =
    rw c.name_width-width.ensures.width (name_net _ _ _ _ _ c.requires.named.named c.requires.named.word c.requires.nets c.net_of-net.ensures)

pub returns-clause-word : goal.returns-clause-word
returns-clause-word c = λ at a.
    let net = name_net _ _ _ _ _ c.requires.named.named c.requires.named.word c.requires.nets c.net_of-net.ensures in
    c.in_ok-y.ensures.word _ (rw c.name_width-width.ensures.width (name_word _ _ _ _ _ _ _ at net a c.net_of-net.ensures))
