use Rattle.std.proofs.Common.{get_or, sym, ap}
use Rattle.ae_netlist.specs.Runs.{store_at}
use Rattle.ae_gates.proofs.Words.{same_word}
use Rattle.ae_express.proofs.NetLaws.{name_memory, varying_address}
use Rattle.ae_express.proofs.reads.read_word.Goals as goal

pub peek-requires-clause-memory : goal.peek-requires-clause-memory
peek-requires-clause-memory c =
    rw (c.name_width-width.ensures.width, c.depth.ensures) (name_memory _ _ _ _ _ c.requires.named c.requires.memory c.requires.nets c.net_of-net.ensures)

pub peek-requires-clause-address : goal.peek-requires-clause-address
peek-requires-clause-address c = rw c.depth.ensures (varying_address _ _ _ _ c.requires.at c.requires.inside)

pub returns-clause-word : goal.returns-clause-word
returns-clause-word c = λ at f a p.
    same_word _ _ (λ run k. ap (λ m. get_or (store_at run k m) (f run k) 0) (sym (a.each _ _ c.net_of-net.ensures)))
    (c.in_ok-y.ensures.word _ (c.in_ok-word.ensures.word f p))
