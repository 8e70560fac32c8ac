use Rattle.std.proofs.Common.{◌+◌, ◌-◌, ◌++◌, refl, sym, ap, ◌∙◌, true, false, arith}
use Rattle.ae_vtoken.specs.Ahead.{ahead}
use Rattle.ae_vmodule.specs.View.{drive_tree}
use Rattle.ae_vread.specs.ItemReading.{with_comma, one_drive, drive_list}
use Rattle.ae_vread.proofs.ListSteps.{list_begins, list_next, list_ends, list_fails, list_runs_out, added_more, added_same, went, fails_at}
use Rattle.std.proofs.lemmas.Result.{err_from_is_err_and}
use Rattle.ae_vread.proofs.reading.Reader.drive_list.Goals as goal

pub next-init : goal.next-init
next-init c =
    let e = c.in_ok-one_drive.ensures.read in (
      e.0,
      e.2,
      list_begins (one_drive) (with_comma one_drive) (ahead c.args.self.now.tokens) e.0 e.1,
      c.in_ok-one_drive.ensures.few,
      c.in_ok-one_drive.ensures.stack,
    )

pub next-preserved : goal.next-preserved
next-preserved c =
    let e = c.next.invariant in
    let w = went drive_tree c.next.drives.items c.comma_drive.new.drives.items c.next.self.words c.comma_drive.new.self c.in_ok-comma_drive.field-0 true _
    (ahead c.next.self.tokens) c.if-not-branch.false c.in_ok-comma_drive.ensures.read in (
      (e.0.0 ++ w.0.0, w.0.1),
      added_more drive_tree _ _ _ _ _ c.next.self _ e.0 w.0 e.1 refl w.2,
      list_next _ (with_comma one_drive) _ c.next.turn e.0 w.0 (omega (arith, c.next-test.true, c.len-most.ensures)) e.2
          (ap (with_comma one_drive) (sym e.1.rest) ∙ w.1),
      omega (arith, e.3, c.in_ok-comma_drive.ensures.few),
      c.in_ok-comma_drive.ensures.stack ∙ e.4,
    )

pub returns-then-not-branch-clause-read : goal.returns-then-not-branch-clause-read
returns-then-not-branch-clause-read c =
    let e = c.next.invariant in
    let w = went drive_tree c.next.drives.items c.comma_drive.new.drives.items c.next.self.words c.comma_drive.new.self c.in_ok-comma_drive.field-0 false _
    (ahead c.next.self.tokens) c.if-not-branch.true c.in_ok-comma_drive.ensures.read in (
      e.0,
      list_ends _ (with_comma one_drive) _ c.next.turn e.0 (omega (arith, c.next-test.true, c.len-most.ensures)) e.2
          (ap (with_comma one_drive) (sym e.1.rest) ∙ w.0),
      added_same drive_tree _ _ _ _ c.next.self _ e.0 e.1 w.1 w.2 w.3,
    )

pub returns-in_err-comma_drive-clause-read : goal.returns-in_err-comma_drive-clause-read
returns-in_err-comma_drive-clause-read c =
    let exit = err_from_is_err_and c.from_residual-in_err-comma_drive.result c.from_residual-in_err-comma_drive.ensures.1 in
    let e = c.next.invariant in
    rw (exit.1, exit.2)
    (list_fails c.in_err-comma_drive.field-0.0 _ (with_comma one_drive) _ c.next.turn e.0 (omega (arith, c.next-test.true, c.len-most.ensures)) e.2
    (fails_at c.in_err-comma_drive.field-0.0 (with_comma one_drive) _ _ e.1.rest c.in_err-comma_drive.ensures.read))

pub returns-clause-read : goal.returns-clause-read
returns-clause-read c =
    let e = c.next.invariant in
    list_runs_out _ (with_comma one_drive) _ c.next.turn e.0 (omega (arith, c.next-test.false, c.len-most.ensures, c.next.auto.turn-end)) e.2
