-- The cell is late, or one that is there, or a new one.
use Rattle.std.proofs.Common.{◌≡◌, true, false, refl, ap, sym, ◌∙◌}
use Rattle.ae_netlist.specs.Circuit.{Circuit}
use Rattle.ae_tidy.specs.Images.{late_cell}
use Rattle.ae_tidy.proofs.Copying.{copied_late, copied_merge, copied_add}
use Rattle.ae_tidy.proofs.Connecting.{reads_mapped, follows, has_depth}
use Rattle.ae_tidy.proofs.copy.copy_kept.Goals as goal

pub add_late-requires-clause-low : goal.add_late-requires-clause-low
add_late-requires-clause-low c = (c.formed.ensures.cells.each c.args.n c.cell_at-sized.result c.cell_at-sized.ensures).low

pub add_late-requires-clause-high : goal.add_late-requires-clause-high
add_late-requires-clause-high c = (c.formed.ensures.cells.each c.args.n c.cell_at-sized.result c.cell_at-sized.ensures).high

pub returns-then-is_late-clause-copied : goal.returns-then-is_late-clause-copied
returns-then-is_late-clause-copied c =
    let late : late_cell c.args.n c.cell_at-sized.result.cell ≡ true = sym c.is_late.ensures ∙ c.if-is_late.true in
    let grown = ap (λ (v : Circuit). v.cells) c.in_ok-late.ensures.added in
    rw (grown, c.in_ok-add.ensures.at, c.in_ok-add.ensures.made)
    (copied_late c.args.nl.now.cells c.args.new.now.cells c.args.keep.now c.args.table.now.at.items c.args.table.now.made.items c.args.n c.cell_at-sized.result
    c.in_ok-late.late (record { 0 = c.args.n }) c.cell_at-sized.ensures c.in_ok-late.ensures.net refl late c.requires.kept c.requires.copied)

pub add_late-requires-clause-depth : goal.add_late-requires-clause-depth
add_late-requires-clause-depth c = has_depth c.args.nl.now.cells c.args.n c.cell_at-sized.result c.formed.ensures.cells c.cell_at-sized.ensures

pub image-requires : goal.image-requires
image-requires c =
    let early : late_cell c.args.n c.cell_at-sized.result.cell ≡ false = sym c.is_late.ensures ∙ c.if-is_late.false in
    reads_mapped c.args.nl.now.cells c.args.new.now.cells c.args.keep.now c.args.table.now.at.items c.args.table.now.made.items c.args.n 0
    c.cell_at-sized.result c.formed.ensures.cells c.cell_at-sized.ensures early
    (c.requires.marked.reads c.args.n c.cell_at-sized.result c.requires.kept c.cell_at-sized.ensures) c.requires.copied

pub returns-in-Some-clause-copied : goal.returns-in-Some-clause-copied
returns-in-Some-clause-copied c =
    let early : late_cell c.args.n c.cell_at-sized.result.cell ≡ false = sym c.is_late.ensures ∙ c.if-is_late.false in
    rw (c.in_ok-merge.ensures.at, c.in_ok-merge.ensures.made)
    (copied_merge c.args.nl.now.cells c.args.new.now.cells c.args.keep.now c.args.table.now.at.items c.args.table.now.made.items c.args.n
    c.cell_at-sized.result (record { width = c.cell_at-sized.result.width; cell = c.image.result })
    c.in-Some.there c.cell_at-sized.ensures refl c.image.ensures early c.in-Some.ensures c.requires.kept c.requires.copied)

pub append-requires-clause-low : goal.append-requires-clause-low
append-requires-clause-low c = (c.formed.ensures.cells.each c.args.n c.cell_at-sized.result c.cell_at-sized.ensures).low

pub append-requires-clause-high : goal.append-requires-clause-high
append-requires-clause-high c = (c.formed.ensures.cells.each c.args.n c.cell_at-sized.result c.cell_at-sized.ensures).high

pub append-requires-clause-follows : goal.append-requires-clause-follows
append-requires-clause-follows c =
    let early : late_cell c.args.n c.cell_at-sized.result.cell ≡ false = sym c.is_late.ensures ∙ c.if-is_late.false in
    follows c.args.nl.now.cells c.args.new.now.cells c.args.keep.now c.args.table.now.at.items c.args.table.now.made.items c.args.n 0 c.cell_at-sized.result
    c.image.result c.formed.ensures.cells c.cell_at-sized.ensures early c.image.ensures c.requires.copied

pub returns-clause-copied : goal.returns-clause-copied
returns-clause-copied c =
    let early : late_cell c.args.n c.cell_at-sized.result.cell ≡ false = sym c.is_late.ensures ∙ c.if-is_late.false in
    let grown = ap (λ (v : Circuit). v.cells) c.in_ok-made.ensures.added in
    rw (grown, c.in_ok-add-2.ensures.at, c.in_ok-add-2.ensures.made)
    (copied_add c.args.nl.now.cells c.args.new.now.cells c.args.keep.now c.args.table.now.at.items c.args.table.now.made.items c.args.n c.cell_at-sized.result
    (record { width = c.cell_at-sized.result.width; cell = c.image.result })
    c.in_ok-made.made (record { 0 = c.args.n }) c.cell_at-sized.ensures refl c.in_ok-made.ensures.net refl c.image.ensures early c.requires.kept
    c.requires.copied)
