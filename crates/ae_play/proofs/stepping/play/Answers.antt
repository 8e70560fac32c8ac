use Rattle.std.proofs.Common.{List, length, ap, sym, ◌∙◌, subst, arith}
use Rattle.ae_netlist.specs.declared.cell.SizedCell.{SizedCell}
use Rattle.ae_netlist.specs.Rows.{AreInputs}
use Rattle.ae_play.proofs.Keeping.{keeps_all, keeps_more, keeps_none}
use Rattle.ae_play.proofs.stepping.play.Goals as goal

pub loop-clock-init : goal.loop-clock-init
loop-clock-init g c =
    (keeps_none c.args.sim.now (g.S.Stimulus.given c.args.stimulus.now) (g.M.Monitor.takes c.args.monitor.now) c.args.clocks c.args.kept.now, c.requires.within)

pub step-requires : goal.step-requires
step-requires g c = record {
  inputs =
      subst (λ (cs : List SizedCell). AreInputs cs c.as_slice.result.now) (sym c.loop-clock.invariant.0.gone.cells_are)
      (subst (AreInputs c.args.sim.now.cells) (sym (c.as_slice.ensures.value ∙ c.in_ok-set.ensures))
      (c.requires.rows c.loop-clock.clock c.loop-clock-test.true));
}

pub set_words-requires : goal.set_words-requires
set_words-requires g c = c.requires.outputs ∙ ap length (sym (c.step.ensures.outlets ∙ c.loop-clock.invariant.0.gone.outlets_are))

pub loop-clock-preserved : goal.loop-clock-preserved
loop-clock-preserved g c = (
  keeps_more c.args.sim.now (g.S.Stimulus.given c.args.stimulus.now)
      (g.M.Monitor.takes c.args.monitor.now) c.args.clocks c.args.kept.now c.loop-clock.sim c.step.new.self c.loop-clock.kept c.take.new.kept
      c.as_slice.result.now c.as_slice-in-loop-clock.result.now c.as_slice-in-loop-clock-2.result.now c.loop-clock.clock c.loop-clock.invariant.0
      c.loop-clock-test.true (c.as_slice.ensures.value ∙ c.in_ok-set.ensures)
      (c.as_slice-in-loop-clock.ensures.value ∙ c.in_ok-set.ensures) c.step.ensures.cells c.step.ensures.outlets c.step.ensures.plays
      (λ fill rows run h some p. c.as_slice-in-loop-clock-2.ensures.value ∙ c.in_ok-set_words.ensures.are fill rows run h some p)
      c.in_ok-take.ensures.takes,
  c.in_ok-take.ensures.within,
)

pub returns : goal.returns
returns g c =
    keeps_all c.args.sim.now (g.S.Stimulus.given c.args.stimulus.now)
    (g.M.Monitor.takes c.args.monitor.now) c.args.clocks c.args.kept.now c.loop-clock.sim c.loop-clock.kept c.loop-clock.clock
    c.loop-clock.invariant.0 (omega (arith, c.loop-clock-test.false, c.loop-clock.auto.clock-end))
