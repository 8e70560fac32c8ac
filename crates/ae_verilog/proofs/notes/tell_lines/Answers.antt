use Rattle.std.proofs.Common.{◌≡◌, ◌+◌, ◌-◌, length, subst, arith}
use Rattle.ae_verilog.specs.Notes.{note_tree}
use Rattle.ae_verilog.proofs.NoteLines.{AreTold, none_told, more_told, all_told}
use Rattle.ae_verilog.proofs.notes.tell_lines.Goals as goal

pub loop-left-init : goal.loop-left-init
loop-left-init c = (
  omega arith,
  omega arith,
  none_told note_tree c.args.notes.now c.args.lines.now (length c.args.lines.now) (length c.args.notes.now)
      (omega arith) c.requires,
)

pub loop-left-preserved : goal.loop-left-preserved
loop-left-preserved c =
    let some = c.loop-left-test.true in
    let first = c.loop-left.invariant.0 in
    let within = c.loop-left.invariant.1 in
    let behind : c.loop-left.left ≡ c.loop-left.left - 1 + 1 = omega arith in
    let least = c.min-from.ensures in (
      omega arith,
      omega arith,
      more_told note_tree c.args.notes.now c.loop-left.lines c.set_lines.new.lines (length c.args.lines.now) c.loop-left.first
          (c.loop-left.left - 1) c.min-from.result c.index-notes-left.result
          (omega arith) c.index-notes-left.is least (subst (AreTold note_tree c.args.notes.now c.loop-left.lines (length c.args.lines.now) c.loop-left.first)
          behind c.loop-left.invariant.2)
          c.set_lines.ensures.between c.set_lines.ensures.before c.set_lines.ensures.behind,
    )

pub returns : goal.returns
returns c k within =
    let none : c.loop-left.left ≡ 0 = omega arith in
    all_told note_tree c.args.notes.now c.loop-left.lines (length c.args.lines.now) c.loop-left.first
    (subst (AreTold note_tree c.args.notes.now c.loop-left.lines (length c.args.lines.now) c.loop-left.first) none c.loop-left.invariant.2) k within
