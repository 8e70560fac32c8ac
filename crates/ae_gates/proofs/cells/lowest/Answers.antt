use Rattle.std.proofs.Common.{◌∷◌, [], arith}
use Rattle.ae_word.specs.declared.op.WordOp.TheVariants.{Cast}
use Rattle.ae_gates.proofs.Adding.{uncounted}
use Rattle.ae_gates.proofs.Added.{cast_operation, result_at}
use Rattle.ae_gates.proofs.cells.lowest.Goals as goal

pub operate-requires-clause-operation : goal.operate-requires-clause-operation
operate-requires-clause-operation c = cast_operation _ c.args.a 1 c.args.width (omega arith) (omega arith) c.requires.net

pub returns-clause-words : goal.returns-clause-words
returns-clause-words c =
    result_at c.operate.new.nl.cells c.operate.result c.args.nl.now.cells (Cast 1)
    (c.args.a ∷ c.args.a ∷ c.args.a ∷ []) c.args.width c.requires.net c.operate.ensures.words

pub returns-clause-adds : goal.returns-clause-adds
returns-clause-adds c = c.operate.ensures.adds

pub returns-clause-registers : goal.returns-clause-registers
returns-clause-registers c = c.operate.ensures.registers

pub returns-clause-tests : goal.returns-clause-tests
returns-clause-tests c = uncounted c.operate.result _ _ c.operate.ensures.tests
