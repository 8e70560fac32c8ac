use Rattle.std.proofs.Common.{◌≡◌, ◌*◌, ◌+◌, ◌≤◌, ◌/◌, ◌%◌, ◌∙◌, ap, arith, subst, sym}
use Rattle.std.proofs.Math.Nat.{mul-le-mul_right}
use Rattle.ae_rewrite.specs.declared.st_program.MoveOp.{MoveOp}
use Rattle.ae_rewrite.specs.Sound.{IsMoveFrom}
use Rattle.ae_delay.specs.Moving.{origin_from}
use Rattle.ae_fuse.specs.Labels.{label_from}
use Rattle.ae_fuse.proofs.LabelSteps.{repeated-at, shifted-late}
use Rattle.ae_fuse.proofs.labelling.moved_label.Goals as goal

pub bounds-labels-k : goal.bounds-labels-k
bounds-labels-k c =
    let from : c.in-Select.k * c.args.out_atoms + c.args.out_atoms ≤ c.args.arg_atoms = subst
    (λ (h : MoveOp). IsMoveFrom h c.args.arg_atoms c.args.out_atoms) c.in-Select.is c.requires.from in
    let all = mul-le-mul_right c.args.words from in
    omega (arith, all, c.requires.below, c.requires.long)

pub returns-in-Shift-2 : goal.returns-in-Shift-2
returns-in-Shift-2 c =
    let k = c.in-Shift-2.k in
    let same : c.in-Shift.k ≡ k = cc (sym c.in-Shift.is ∙ c.in-Shift-2.is) in
    let high : k * c.args.words ≤ c.args.o = omega (arith, c.if-o-k.false, ap (λ n. n * c.args.words) same) in
    shifted-late c.args.labels.now k c.args.arg_atoms c.args.out_atoms c.args.words c.args.o c.requires.some high
    ∙ ap (λ (h : MoveOp). label_from c.args.labels.now c.args.words
    (origin_from h c.args.arg_atoms c.args.out_atoms (c.args.o / c.args.words) (c.args.o % c.args.words))) (sym c.in-Shift-2.is)

pub returns-in-Up : goal.returns-in-Up
returns-in-Up c =
    repeated-at c.args.labels.now c.in-Up.field-0 c.args.arg_atoms c.args.out_atoms c.args.words c.args.o c.requires.some_atoms c.requires.some
    ∙ ap (λ (h : MoveOp). label_from c.args.labels.now c.args.words
    (origin_from h c.args.arg_atoms c.args.out_atoms (c.args.o / c.args.words) (c.args.o % c.args.words))) (sym c.in-Up.is)
