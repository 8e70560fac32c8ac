-- A mark is found; or a counter is found or made, and then the mark by it.
use Rattle.std.proofs.Common.{◌∙◌, sym, arith}
use Rattle.ae_clocked.proofs.InRow.{keeps_trans}
use Rattle.ae_clocked.proofs.Belonging.{phase_keeps, keeps_same, marked_keeps}
use Rattle.ae_gates.proofs.Adding.{adds_most, adds_none, adds_trans}
use Rattle.ae_clocked.proofs.clocks.Clocks.lead.Goals as goal

pub returns-in-Some-clause-marks : goal.returns-in-Some-clause-marks
returns-in-Some-clause-marks c = (c.requires.belongs.marks _ c.in-Some.net (sym c.find_mark.ensures ∙ c.in-Some.is)).words

pub returns-in-Some-clause-keeps : goal.returns-in-Some-clause-keeps
returns-in-Some-clause-keeps c = keeps_same _

pub returns-in-Some-clause-adds : goal.returns-in-Some-clause-adds
returns-in-Some-clause-adds c = adds_most 21 (omega arith) (adds_none _)

pub returns-clause-keeps : goal.returns-clause-keeps
returns-clause-keeps c =
    keeps_trans
    (phase_keeps _ _ _ c.in_ok-counter.counter c.in_ok-counter.ensures.rst c.in_ok-counter.ensures.keeps (λ n found. (c.in_ok-counter.ensures.again n found).2))
    (marked_keeps _ _ c.in_ok-y.ensures.rst c.in_ok-y.ensures.counters)

pub returns-clause-adds : goal.returns-clause-adds
returns-clause-adds c = adds_trans c.in_ok-counter.ensures.adds c.in_ok-y.ensures.adds

pub returns-clause-marks : goal.returns-clause-marks
returns-clause-marks c = rw c.in_ok-counter.ensures.rst at c.in_ok-y.ensures.mark.words

pub make_mark-requires-clause-room : goal.make_mark-requires-clause-room
make_mark-requires-clause-room c = omega (arith, c.requires.room, c.in_ok-counter.ensures.adds.cells, c.in_ok-counter.ensures.adds.grows.limit)
