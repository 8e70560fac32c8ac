use Rattle.std.proofs.Common.{◌∙◌, ◌+◌, ap, arith}
use Rattle.ae_gather.specs.Gathers.{gather_part, move_of}
use Rattle.ae_reduce.specs.Reduces.{reduce_part}
use Rattle.ae_gates.proofs.Adding.{grows_trans}
use Rattle.ae_lower.proofs.Behind.{behind_law}
use Rattle.ae_lower.proofs.nodes.fold_and_move.Goals as goal
use Rattle.ae_clocked.proofs.InRow.{keeps_trans}

pub returns-clause-grows : goal.returns-clause-grows
returns-clause-grows c = grows_trans c.in_ok-raw.ensures.grows c.in_ok-out.ensures.grows

pub returns-clause-law : goal.returns-clause-law
returns-clause-law c =
    behind_law c.in_ok-out.out _ _ _ _ c.args.at _ (reduce_part c.args.fold.now) (gather_part (move_of c.args.moved.now)) c.args.args.now _ c.in_ok-raw.raw
    c.in_ok-out.ensures.grows.extends c.in_ok-raw.ensures.keeps.rst (ap (λ n. c.args.at + n) c.latency.ensures) (c.deref.ensures.value ∙ c.in_ok-mid.ensures.ok)
    c.requires.follows c.requires.period c.requires.typed c.in_ok-raw.ensures.law c.in_ok-out.ensures.law

pub build-requires-2-clause-belongs : goal.build-requires-2-clause-belongs
build-requires-2-clause-belongs c = c.in_ok-raw.ensures.belongs

pub returns-clause-belongs : goal.returns-clause-belongs
returns-clause-belongs c = c.in_ok-out.ensures.belongs

pub returns-clause-keeps : goal.returns-clause-keeps
returns-clause-keeps c = keeps_trans c.in_ok-raw.ensures.keeps c.in_ok-out.ensures.keeps

pub returns-clause-cells : goal.returns-clause-cells
returns-clause-cells c = omega (arith, c.in_ok-raw.ensures.cells, c.in_ok-out.ensures.cells)

pub returns-clause-muls : goal.returns-clause-muls
returns-clause-muls c = omega (arith, c.in_ok-raw.ensures.muls, c.in_ok-out.ensures.muls)

pub returns-clause-memories : goal.returns-clause-memories
returns-clause-memories c = omega (arith, c.in_ok-raw.ensures.memories, c.in_ok-out.ensures.memories)

pub returns-clause-whole : goal.returns-clause-whole
returns-clause-whole c = λ h. c.in_ok-out.ensures.whole (c.in_ok-raw.ensures.whole h)

pub build-requires-clause-room : goal.build-requires-clause-room
build-requires-clause-room c = omega (arith, c.requires.room)

pub build-requires-2-clause-room : goal.build-requires-2-clause-room
build-requires-2-clause-room c = omega (arith, c.requires.room, c.in_ok-raw.ensures.cells, c.in_ok-raw.ensures.grows.limit)
