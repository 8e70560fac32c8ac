use Rattle.std.proofs.Common.{arith, sym, append-nil}
use Rattle.ae_eval.proofs.Windows.{kept-length, paired-all, paired-step, piece-within}
use Rattle.ae_eval.proofs.stack.push_paired.Goals as goal

pub loop-piece-init : goal.loop-piece-init
loop-piece-init c = sym (append-nil c.args.stack.now.items)

pub overflow_mul-piece : goal.overflow_mul-piece
overflow_mul-piece c =
    omega (arith, piece-within c.args.first c.args.pieces c.loop-piece.piece c.args.size _ c.loop-piece-test.true c.requires.first_room, c.args.stack.now.ok)

pub overflow_add-first : goal.overflow_add-first
overflow_add-first c =
    omega (arith, piece-within c.args.first c.args.pieces c.loop-piece.piece c.args.size _ c.loop-piece-test.true c.requires.first_room, c.args.stack.now.ok)

pub push_copy-requires : goal.push_copy-requires
push_copy-requires c =
    omega (
      arith,
      piece-within c.args.first c.args.pieces c.loop-piece.piece c.args.size _ c.loop-piece-test.true c.requires.first_room,
      kept-length c.args.stack.now.items _ c.loop-piece.stack.items c.loop-piece.invariant,
    )

pub overflow_mul-piece-in-loop-piece : goal.overflow_mul-piece-in-loop-piece
overflow_mul-piece-in-loop-piece c =
    omega (arith, piece-within c.args.second c.args.pieces c.loop-piece.piece c.args.other _ c.loop-piece-test.true c.requires.second_room, c.args.stack.now.ok)

pub overflow_add-second : goal.overflow_add-second
overflow_add-second c =
    omega (arith, piece-within c.args.second c.args.pieces c.loop-piece.piece c.args.other _ c.loop-piece-test.true c.requires.second_room, c.args.stack.now.ok)

pub push_copy-requires-in-loop-piece : goal.push_copy-requires-in-loop-piece
push_copy-requires-in-loop-piece c =
    omega (
      arith,
      piece-within c.args.second c.args.pieces c.loop-piece.piece c.args.other _ c.loop-piece-test.true c.requires.second_room,
      kept-length c.args.stack.now.items _ c.loop-piece.stack.items c.loop-piece.invariant,
      kept-length c.loop-piece.stack.items _ c.push_copy.new.stack.items c.in_ok-push_copy.ensures,
    )

pub loop-piece-preserved : goal.loop-piece-preserved
loop-piece-preserved c =
    paired-step c.args.stack.now.items c.loop-piece.stack.items c.push_copy.new.stack.items c.push_copy-in-loop-piece.new.stack.items c.args.pieces
    c.loop-piece.piece c.args.first c.args.second c.args.size c.args.other
    c.loop-piece-test.true c.requires.first_room c.requires.second_room c.loop-piece.invariant c.in_ok-push_copy.ensures c.in_ok-push_copy-2.ensures

pub returns : goal.returns
returns c =
    paired-all c.args.stack.now.items c.loop-piece.stack.items c.args.pieces c.loop-piece.piece c.args.size c.args.other c.args.first c.args.second
    (omega (arith, c.loop-piece-test.false, c.loop-piece.auto.piece-end)) c.loop-piece.invariant
