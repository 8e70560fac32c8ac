use Rattle.std.proofs.Common.{◌≡◌, Option, IfOk, option_map, subst}
use Rattle.ae_seqtype.specs.SeqTree.{SeqTree, seq_tree}
use Rattle.ae_fields.proofs.TypeSteps.{type-opens}
use Rattle.ae_fields.proofs.types.+nested.Goals as goal

pub read_nested-returns-then-levels-gt0 : goal.read_nested-returns-then-levels-gt0
read_nested-returns-then-levels-gt0 t c =
    let Q : Option SeqTree → Type 0 = λ x. IfOk c.read_sequence.result (λ o. option_map seq_tree o ≡ x) in
    subst Q (type-opens c.args.version c.args.levels c.args.bytes.now c.in-len1-up.len_at_least c.if-first-eq91.true c.if-levels-gt0.true)
    c.read_sequence.ensures
