-- The mark of the counter's own phase.
use Rattle.std.proofs.Common.{◌∙◌, sym, arith}
use Rattle.ae_netlist.proofs.Growing.{extends_trans}
use Rattle.ae_gates.proofs.Adding.{adds_most, adds_none}
use Rattle.ae_clocked.proofs.Belonging.{keeps_same, marked_keeps}
use Rattle.ae_clocked.proofs.Marked.{marks_counter}
use Rattle.ae_clocked.proofs.clocks.Clocks.mark.Goals as goal

pub returns-in-Some-clause-marks : goal.returns-in-Some-clause-marks
returns-in-Some-clause-marks c = λ all e run is start reset.
    let found = sym c.find_mark.ensures ∙ c.in-Some.is in
    let kept = c.requires.belongs.marks _ c.in-Some.net found in
    marks_counter run _ _ c.args.period c.args.offset c.args.from start (c.requires.counter.words all e run is start reset)
    (kept.words all e run is start reset)

pub returns-in-Some-clause-keeps : goal.returns-in-Some-clause-keeps
returns-in-Some-clause-keeps c = keeps_same _

pub returns-in-Some-clause-adds : goal.returns-in-Some-clause-adds
returns-in-Some-clause-adds c = adds_most 9 (omega arith) (adds_none _)

pub returns-clause-keeps : goal.returns-clause-keeps
returns-clause-keeps c = marked_keeps _ _ c.in_ok-y.ensures.rst c.in_ok-y.ensures.counters

pub returns-clause-marks : goal.returns-clause-marks
returns-clause-marks c = λ all e run is start reset.
    let before = extends_trans c.in_ok-y.ensures.adds.grows.extends e in
    marks_counter run _ _ c.args.period c.args.offset c.args.from start (c.requires.counter.words all before run is start reset)
    (c.in_ok-y.ensures.mark.words all e run is start reset)
