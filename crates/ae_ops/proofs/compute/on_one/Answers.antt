use Rattle.std.proofs.Common.{◌∷◌, []}
use Rattle.ae_netlist.specs.Circuit.{IsNet, main_operand}
use Rattle.ae_netlist.proofs.Growing.{net_width}
use Rattle.ae_ops.proofs.Computing.{one_main, one_operands, operation_of}
use Rattle.ae_ops.proofs.compute.on_one.Goals as goal

pub operate-requires-clause-operation : goal.operate-requires-clause-operation
operate-requires-clause-operation c =
    rw c.result_width.ensures
    (operation_of _ _ _ c.args.width c.requires.unsigned c.requires.range
    (one_operands c.args.op (IsNet c.args.nl.now.cells) c.args.a c.args.width c.requires.one c.requires.net))

pub returns-clause-words : goal.returns-clause-words
returns-clause-words c =
    let own : IsNet c.args.nl.now.cells (main_operand c.args.op (c.args.a ∷ c.args.a ∷ c.args.a ∷ []))
    c.args.width = rw (one_main c.args.op c.args.a) c.requires.net in
    rw (net_width own) at c.in_ok-y.ensures.words
