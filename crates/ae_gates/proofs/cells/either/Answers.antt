use Rattle.std.proofs.Common.{◌∷◌, []}
use Rattle.ae_word.specs.declared.op.WordOp.TheVariants.{Or}
use Rattle.ae_gates.proofs.Adding.{uncounted}
use Rattle.ae_gates.proofs.Added.{or_operation, result_at}
use Rattle.ae_gates.proofs.cells.either.Goals as goal

pub operate-requires-clause-operation : goal.operate-requires-clause-operation
operate-requires-clause-operation c = or_operation _ c.args.a c.args.b c.args.width c.requires.left c.requires.right

pub returns-clause-words : goal.returns-clause-words
returns-clause-words c =
    result_at c.operate.new.nl.cells c.operate.result c.args.nl.now.cells Or
    (c.args.a ∷ c.args.b ∷ c.args.a ∷ []) c.args.width c.requires.left c.operate.ensures.words

pub returns-clause-adds : goal.returns-clause-adds
returns-clause-adds c = c.operate.ensures.adds

pub returns-clause-registers : goal.returns-clause-registers
returns-clause-registers c = c.operate.ensures.registers

pub returns-clause-tests : goal.returns-clause-tests
returns-clause-tests c = uncounted c.operate.result _ _ c.operate.ensures.tests
