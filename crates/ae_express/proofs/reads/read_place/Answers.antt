use Rattle.ae_vmodule.specs.View.{word_at}
use Rattle.std.proofs.Common.{◌≡◌, get_or, true, false, sym, ap, ◌∙◌}
use Rattle.ae_netlist.specs.Runs.{store_at}
use Rattle.ae_netlist.proofs.Growing.{keeps_extends}
use Rattle.ae_judge.specs.Names.{is_memory_name}
use Rattle.ae_runs.specs.Named.{read}
use Rattle.ae_gates.proofs.Words.{same_word}
use Rattle.ae_express.proofs.NetLaws.{name_net, name_memory, name_word, index_value, bit_value}
use Rattle.ae_express.proofs.reads.read_place.Goals as goal

pub peek-requires-clause-memory : goal.peek-requires-clause-memory
peek-requires-clause-memory c =
    let t : is_memory_name c.args.names.now.nets (word_at c.args.names.now.words c.args.name) ≡ true = sym c.is_memory.ensures ∙ c.if-is_memory.true in
    let m = name_memory _ _ _ _ _ c.requires.named t c.requires.nets c.net_of-net.ensures in
    rw (c.name_width-width.ensures.width, c.depth.ensures) ((keeps_extends c.in_ok-at.ensures.adds.grows.grows.extends).memories _ _ _ m)

pub returns-then-is_memory-clause-word : goal.returns-then-is_memory-clause-word
returns-then-is_memory-clause-word c = λ at a.
    let t : is_memory_name c.args.names.now.nets (word_at c.args.names.now.words c.args.name) ≡ true = sym c.is_memory.ensures ∙ c.if-is_memory.true in
    same_word _ _
    (λ run k. ap (λ m. get_or (store_at run k m) c.args.k 0) (sym (a.each _ _ c.net_of-net.ensures)) ∙
    index_value c.args.names.now.nets (read at run k) (word_at c.args.names.now.words c.args.name) c.args.k c.args.w t)
    (c.in_ok-read.ensures.word _ (c.in_ok-word.ensures.word _ c.in_ok-at.ensures.word))

pub cut-requires-clause-net : goal.cut-requires-clause-net
cut-requires-clause-net c =
    let f : is_memory_name c.args.names.now.nets (word_at c.args.names.now.words c.args.name) ≡ false = sym c.is_memory.ensures ∙ c.if-is_memory.false in
    rw c.name_width-width.ensures.width (name_net _ _ _ _ _ c.requires.named f c.requires.nets c.net_of-net.ensures)

pub returns-clause-word : goal.returns-clause-word
returns-clause-word c = λ at a.
    let f : is_memory_name c.args.names.now.nets (word_at c.args.names.now.words c.args.name) ≡ false = sym c.is_memory.ensures ∙ c.if-is_memory.false in
    let net = name_net _ _ _ _ _ c.requires.named f c.requires.nets c.net_of-net.ensures in
    same_word _ _ (λ run k. bit_value c.args.names.now.nets (read at run k) (word_at c.args.names.now.words c.args.name) c.args.k c.args.w f)
    (c.in_ok-y.ensures.word _ (rw c.name_width-width.ensures.width (name_word _ _ _ _ _ _ _ at net a c.net_of-net.ensures)))
