use Rattle.std.proofs.Common.{◌+◌, ◌-◌, ◌++◌, refl, sym, ap, ◌∙◌, true, false, arith}
use Rattle.ae_vtoken.specs.Ahead.{ahead}
use Rattle.ae_vmodule.specs.View.{net_tree}
use Rattle.ae_vread.specs.ItemReading.{with_comma, port, port_list}
use Rattle.ae_vread.proofs.ListSteps.{list_begins, list_next, list_ends, list_fails, list_runs_out, added_more, added_same, went, fails_at}
use Rattle.std.proofs.lemmas.Result.{err_from_is_err_and}
use Rattle.ae_vread.proofs.reading.Reader.port_list.Goals as goal

pub next-init : goal.next-init
next-init c =
    let e = c.in_ok-port.ensures.read in (
      e.0,
      e.2,
      list_begins (port) (with_comma port) (ahead c.args.self.now.tokens) e.0 e.1,
      c.in_ok-port.ensures.few,
      c.in_ok-port.ensures.stack,
    )

pub next-preserved : goal.next-preserved
next-preserved c =
    let e = c.next.invariant in
    let w = went net_tree c.next.nets.items c.comma_port.new.nets.items c.next.self.words c.comma_port.new.self c.in_ok-comma_port.field-0 true _
    (ahead c.next.self.tokens) c.if-not-branch.false c.in_ok-comma_port.ensures.read in (
      (e.0.0 ++ w.0.0, w.0.1),
      added_more net_tree _ _ _ _ _ c.next.self _ e.0 w.0 e.1 refl w.2,
      list_next _ (with_comma port) _ c.next.turn e.0 w.0 (omega (arith, c.next-test.true, c.len-most.ensures)) e.2 (ap (with_comma port) (sym e.1.rest) ∙ w.1),
      omega (arith, e.3, c.in_ok-comma_port.ensures.few),
      c.in_ok-comma_port.ensures.stack ∙ e.4,
    )

pub returns-then-not-branch-clause-read : goal.returns-then-not-branch-clause-read
returns-then-not-branch-clause-read c =
    let e = c.next.invariant in
    let w = went net_tree c.next.nets.items c.comma_port.new.nets.items c.next.self.words c.comma_port.new.self c.in_ok-comma_port.field-0 false _
    (ahead c.next.self.tokens) c.if-not-branch.true c.in_ok-comma_port.ensures.read in (
      e.0,
      list_ends _ (with_comma port) _ c.next.turn e.0 (omega (arith, c.next-test.true, c.len-most.ensures)) e.2 (ap (with_comma port) (sym e.1.rest) ∙ w.0),
      added_same net_tree _ _ _ _ c.next.self _ e.0 e.1 w.1 w.2 w.3,
    )

pub returns-in_err-comma_port-clause-read : goal.returns-in_err-comma_port-clause-read
returns-in_err-comma_port-clause-read c =
    let exit = err_from_is_err_and c.from_residual-in_err-comma_port.result c.from_residual-in_err-comma_port.ensures.1 in
    let e = c.next.invariant in
    rw (exit.1, exit.2)
    (list_fails c.in_err-comma_port.field-0.0 _ (with_comma port) _ c.next.turn e.0 (omega (arith, c.next-test.true, c.len-most.ensures)) e.2
    (fails_at c.in_err-comma_port.field-0.0 (with_comma port) _ _ e.1.rest c.in_err-comma_port.ensures.read))

pub returns-clause-read : goal.returns-clause-read
returns-clause-read c =
    let e = c.next.invariant in
    list_runs_out _ (with_comma port) _ c.next.turn e.0 (omega (arith, c.next-test.false, c.len-most.ensures, c.next.auto.turn-end)) e.2
