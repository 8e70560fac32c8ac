-- A cell that is not kept is no root.
use Rattle.std.proofs.Common.{◌≡◌, Some, true, false, slice_get, inl, inr, ap, sym, ◌∙◌, arith}
use Rattle.std.proofs.lemmas.Bool.{cases_Bool}
use Rattle.std.proofs.lemmas.Option.{slice_get_cases}
use Rattle.ae_tidy.specs.Marks.{IsKept, is_root}
use Rattle.ae_tidy.proofs.Copying.{copied_skip}
use Rattle.ae_tidy.proofs.copy.copy_cell.Goals as goal

pub is_kept-requires : goal.is_kept-requires
is_kept-requires c = omega (arith, c.requires.marked.rooted.long, c.requires.below)

pub returns-then-not-is_kept-clause-copied : goal.returns-then-not-is_kept-clause-copied
returns-then-not-is_kept-clause-copied c =
    let out : slice_get c.args.keep.now c.args.n ≡ Some false = c.is_kept.ensures ∙ ap Some c.if-not-is_kept.true in
    let gone : IsKept c.args.keep.now c.args.n → ⊥ = λ k. (let q : Some true ≡ Some false = sym k.kept ∙ out in cc) in
    elim (slice_get_cases c.args.nl.now.cells c.args.n).1 [
      | inl w ↦
          let plain : is_root w.0.cell ≡ false = elim (cases_Bool (is_root w.0.cell)) [
            | inl e ↦ absurd (gone (c.requires.marked.rooted.roots.each c.args.n w.0 c.requires.below w.2 e))
            | inr e ↦ e
          ] in
          rw (c.in_ok-skip.ensures.at, c.in_ok-skip.ensures.made)
          (copied_skip c.args.nl.now.cells c.args.new.now.cells c.args.keep.now c.args.table.now.at.items c.args.table.now.made.items c.args.n 0 w.0 w.2 plain
          gone c.requires.copied)
      | inr w ↦ absurd (omega (arith, c.requires.below, w.0))
    ]

pub copy_kept-requires-clause-kept : goal.copy_kept-requires-clause-kept
copy_kept-requires-clause-kept c = record { kept = c.is_kept.ensures ∙ ap Some c.if-not-is_kept.false }
