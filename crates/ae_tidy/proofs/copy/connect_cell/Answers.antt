-- A late register takes the net in the place of its next one.
use Rattle.std.proofs.Common.{◌≡◌, List, length, Some, true, false, slice_get, refl, ap, sym, subst, ◌∙◌, arith}
use Rattle.std.proofs.lemmas.Option.{slice_get_within}
use Rattle.ae_netlist.specs.declared.cell.NetId.{NetId}
use Rattle.ae_netlist.specs.declared.cell.Cell.{Cell}
use Rattle.ae_netlist.specs.declared.cell.Cell.TheVariants.{Reg, Mem}
use Rattle.ae_netlist.specs.declared.cell.SizedCell.{SizedCell}
use Rattle.ae_netlist.specs.Circuit.{Circuit, depth_in_cell}
use Rattle.ae_tidy.specs.Copies.{IsMapped}
use Rattle.ae_tidy.specs.Images.{IsImage, late_cell, is_late}
use Rattle.ae_tidy.specs.Marks.{EachRead}
use Rattle.ae_tidy.proofs.Copying.{late_is}
use Rattle.ae_tidy.proofs.Connecting.{late_depth, late_mapped, late_width, may_connect, may_write, copied_connect, copied_idle, copied_pass}
use Rattle.ae_tidy.proofs.copy.connect_cell.Goals as goal

as_cell : (sized : SizedCell) (cell : Cell) → sized.cell ≡ cell → sized ≡ record { width = sized.width; cell = cell }
as_cell sized cell e = ap (λ (x : Cell). record { width = sized.width; cell = x }) e

-- the old net of the register
pub net_at-own-requires : goal.net_at-own-requires
net_at-own-requires c = rw c.deref.ensures.value (omega (arith, c.requires.copied.all_made, c.requires.below))

pub cell_at-sized-requires : goal.cell_at-sized-requires
cell_at-sized-requires c =
    let at : slice_get c.args.table.now.made.items c.args.m ≡ Some c.net_at-own.result = ap (λ (l : List NetId). slice_get l c.args.m)
    (sym c.deref.ensures.value) ∙ c.net_at-own.ensures in
    let s = c.requires.copied.each c.net_at-own.result.0 c.args.m (c.requires.copied.source c.args.m c.net_at-own.result at) in
    slice_get_within c.args.nl.now.cells c.net_at-own.result.0 s.sized s.found

pub returns-then-not-is_late-clause-copied : goal.returns-then-not-is_late-clause-copied
returns-then-not-is_late-clause-copied c =
    let at : slice_get c.args.table.now.made.items c.args.m ≡ Some c.net_at-own.result = ap (λ (l : List NetId). slice_get l c.args.m)
    (sym c.deref.ensures.value) ∙ c.net_at-own.ensures in
    let early : is_late c.args.nl.now.cells c.net_at-own.result.0 ≡ false = late_is c.args.nl.now.cells c.net_at-own.result.0 c.cell_at-sized.result
    c.cell_at-sized.ensures ∙ (sym c.is_late.ensures ∙ c.if-not-is_late.true) in
    copied_pass c.args.nl.now.cells c.args.new.now.cells c.args._keep.now c.args.table.now.at.items c.args.table.now.made.items
    (length c.args.nl.now.cells) c.args.m c.net_at-own.result at early c.requires.copied

pub net-to-requires : goal.net-to-requires
net-to-requires c =
    let at : slice_get c.args.table.now.made.items c.args.m ≡ Some c.net_at-own.result = ap (λ (l : List NetId). slice_get l c.args.m)
    (sym c.deref.ensures.value) ∙ c.net_at-own.ensures in
    let reads : EachRead (IsMapped c.args.table.now.at.items) c.cell_at-sized.result.cell =
    late_mapped c.args.nl.now c.args.new.now.cells c.args._keep.now c.args.table.now.at.items c.args.table.now.made.items c.args.m c.net_at-own.result
    c.cell_at-sized.result c.formed.ensures.cells c.requires.marked at c.cell_at-sized.ensures c.requires.copied in
    subst (EachRead (IsMapped c.args.table.now.at.items)) c.in-Reg.is reads

pub connect-requires-clause-register : goal.connect-requires-clause-register
connect-requires-clause-register c =
    let at : slice_get c.args.table.now.made.items c.args.m ≡ Some c.net_at-own.result = ap (λ (l : List NetId). slice_get l c.args.m)
    (sym c.deref.ensures.value) ∙ c.net_at-own.ensures in
    let there = c.cell_at-sized.ensures ∙ ap (λ (x : SizedCell). Some x) (as_cell c.cell_at-sized.result _ c.in-Reg.is) in
    let late : late_cell c.net_at-own.result.0 (Reg c.in-Reg.next) ≡ true = ap (late_cell c.net_at-own.result.0) (sym c.in-Reg.is) ∙
    (sym c.is_late.ensures ∙ c.if-not-is_late.false) in
    (may_connect c.args.nl.now.cells c.args.new.now.cells c.args._keep.now c.args.table.now.at.items c.args.table.now.made.items
    (length c.args.nl.now.cells) c.args.m c.cell_at-sized.result.width c.net_at-own.result c.in-Reg.next c.net-to.result c.formed.ensures.cells at there
    late c.net-to.ensures c.requires.copied).0

pub connect-requires-clause-next : goal.connect-requires-clause-next
connect-requires-clause-next c =
    let at : slice_get c.args.table.now.made.items c.args.m ≡ Some c.net_at-own.result = ap (λ (l : List NetId). slice_get l c.args.m)
    (sym c.deref.ensures.value) ∙ c.net_at-own.ensures in
    let there = c.cell_at-sized.ensures ∙ ap (λ (x : SizedCell). Some x) (as_cell c.cell_at-sized.result _ c.in-Reg.is) in
    let late : late_cell c.net_at-own.result.0 (Reg c.in-Reg.next) ≡ true = ap (late_cell c.net_at-own.result.0) (sym c.in-Reg.is) ∙
    (sym c.is_late.ensures ∙ c.if-not-is_late.false) in
    (may_connect c.args.nl.now.cells c.args.new.now.cells c.args._keep.now c.args.table.now.at.items c.args.table.now.made.items
    (length c.args.nl.now.cells) c.args.m c.cell_at-sized.result.width c.net_at-own.result c.in-Reg.next c.net-to.result c.formed.ensures.cells at there
    late c.net-to.ensures c.requires.copied).1

pub returns-in-Reg-clause-copied : goal.returns-in-Reg-clause-copied
returns-in-Reg-clause-copied c =
    let at : slice_get c.args.table.now.made.items c.args.m ≡ Some c.net_at-own.result = ap (λ (l : List NetId). slice_get l c.args.m)
    (sym c.deref.ensures.value) ∙ c.net_at-own.ensures in
    let late : late_cell c.net_at-own.result.0 c.cell_at-sized.result.cell ≡ true = sym c.is_late.ensures ∙ c.if-not-is_late.false in
    let wide = late_width c.args.nl.now.cells c.args.new.now.cells c.args._keep.now c.args.table.now.at.items c.args.table.now.made.items
    (length c.args.nl.now.cells) c.args.m c.net_at-own.result c.cell_at-sized.result at c.cell_at-sized.ensures late c.requires.copied in
    let written = ap (λ (v : Circuit). v.cells) c.connect.ensures in
    let alike : IsImage c.args.table.now.at.items c.cell_at-sized.result.cell (Reg c.net-to.result) = rw c.in-Reg.is
    (c.net-to.result, refl, c.net-to.ensures) in
    rw (written, wide) (copied_connect c.args.nl.now.cells c.args.new.now.cells c.args._keep.now c.args.table.now.at.items c.args.table.now.made.items
    (length c.args.nl.now.cells) c.args.m c.net_at-own.result c.cell_at-sized.result
    (Reg c.net-to.result) at c.cell_at-sized.ensures late alike c.requires.copied)

-- and those of a memory
pub net-place-requires : goal.net-place-requires
net-place-requires c =
    let at : slice_get c.args.table.now.made.items c.args.m ≡ Some c.net_at-own.result = ap (λ (l : List NetId). slice_get l c.args.m)
    (sym c.deref.ensures.value) ∙ c.net_at-own.ensures in
    let reads : EachRead (IsMapped c.args.table.now.at.items) c.cell_at-sized.result.cell =
    late_mapped c.args.nl.now c.args.new.now.cells c.args._keep.now c.args.table.now.at.items c.args.table.now.made.items c.args.m c.net_at-own.result
    c.cell_at-sized.result c.formed.ensures.cells c.requires.marked at c.cell_at-sized.ensures c.requires.copied in
    (subst (EachRead (IsMapped c.args.table.now.at.items)) c.in-Mem.is reads).0

pub net-word-requires : goal.net-word-requires
net-word-requires c =
    let at : slice_get c.args.table.now.made.items c.args.m ≡ Some c.net_at-own.result = ap (λ (l : List NetId). slice_get l c.args.m)
    (sym c.deref.ensures.value) ∙ c.net_at-own.ensures in
    let reads : EachRead (IsMapped c.args.table.now.at.items) c.cell_at-sized.result.cell =
    late_mapped c.args.nl.now c.args.new.now.cells c.args._keep.now c.args.table.now.at.items c.args.table.now.made.items c.args.m c.net_at-own.result
    c.cell_at-sized.result c.formed.ensures.cells c.requires.marked at c.cell_at-sized.ensures c.requires.copied in
    (subst (EachRead (IsMapped c.args.table.now.at.items)) c.in-Mem.is reads).1

pub net-bit-requires : goal.net-bit-requires
net-bit-requires c =
    let at : slice_get c.args.table.now.made.items c.args.m ≡ Some c.net_at-own.result = ap (λ (l : List NetId). slice_get l c.args.m)
    (sym c.deref.ensures.value) ∙ c.net_at-own.ensures in
    let reads : EachRead (IsMapped c.args.table.now.at.items) c.cell_at-sized.result.cell =
    late_mapped c.args.nl.now c.args.new.now.cells c.args._keep.now c.args.table.now.at.items c.args.table.now.made.items c.args.m c.net_at-own.result
    c.cell_at-sized.result c.formed.ensures.cells c.requires.marked at c.cell_at-sized.ensures c.requires.copied in
    (subst (EachRead (IsMapped c.args.table.now.at.items)) c.in-Mem.is reads).2

pub connect_memory-requires-clause-memory : goal.connect_memory-requires-clause-memory
connect_memory-requires-clause-memory c =
    let at : slice_get c.args.table.now.made.items c.args.m ≡ Some c.net_at-own.result = ap (λ (l : List NetId). slice_get l c.args.m)
    (sym c.deref.ensures.value) ∙ c.net_at-own.ensures in
    let there = c.cell_at-sized.ensures ∙ ap (λ (x : SizedCell). Some x) (as_cell c.cell_at-sized.result _ c.in-Mem.is) in
    let late : late_cell c.net_at-own.result.0 (Mem c.in-Mem.depth c.in-Mem.at c.in-Mem.next c.in-Mem.enable) ≡ true = ap (late_cell c.net_at-own.result.0)
    (sym c.in-Mem.is) ∙ (sym c.is_late.ensures ∙ c.if-not-is_late.false) in
    (may_write c.args.nl.now.cells c.args.new.now.cells c.args._keep.now c.args.table.now.at.items c.args.table.now.made.items
    (length c.args.nl.now.cells) c.args.m c.cell_at-sized.result.width c.in-Mem.depth c.net_at-own.result c.in-Mem.at c.in-Mem.next c.in-Mem.enable
    c.net-place.result c.net-word.result c.net-bit.result c.formed.ensures.cells at there late
    c.if-enable-own.true c.net-place.ensures c.net-word.ensures c.net-bit.ensures c.requires.copied).0

pub connect_memory-requires-clause-written : goal.connect_memory-requires-clause-written
connect_memory-requires-clause-written c =
    let at : slice_get c.args.table.now.made.items c.args.m ≡ Some c.net_at-own.result = ap (λ (l : List NetId). slice_get l c.args.m)
    (sym c.deref.ensures.value) ∙ c.net_at-own.ensures in
    let there = c.cell_at-sized.ensures ∙ ap (λ (x : SizedCell). Some x) (as_cell c.cell_at-sized.result _ c.in-Mem.is) in
    let late : late_cell c.net_at-own.result.0 (Mem c.in-Mem.depth c.in-Mem.at c.in-Mem.next c.in-Mem.enable) ≡ true = ap (late_cell c.net_at-own.result.0)
    (sym c.in-Mem.is) ∙ (sym c.is_late.ensures ∙ c.if-not-is_late.false) in
    (may_write c.args.nl.now.cells c.args.new.now.cells c.args._keep.now c.args.table.now.at.items c.args.table.now.made.items
    (length c.args.nl.now.cells) c.args.m c.cell_at-sized.result.width c.in-Mem.depth c.net_at-own.result c.in-Mem.at c.in-Mem.next c.in-Mem.enable
    c.net-place.result c.net-word.result c.net-bit.result c.formed.ensures.cells at there late
    c.if-enable-own.true c.net-place.ensures c.net-word.ensures c.net-bit.ensures c.requires.copied).1

pub returns-then-enable-own-clause-copied : goal.returns-then-enable-own-clause-copied
returns-then-enable-own-clause-copied c =
    let at : slice_get c.args.table.now.made.items c.args.m ≡ Some c.net_at-own.result = ap (λ (l : List NetId). slice_get l c.args.m)
    (sym c.deref.ensures.value) ∙ c.net_at-own.ensures in
    let late : late_cell c.net_at-own.result.0 c.cell_at-sized.result.cell ≡ true = sym c.is_late.ensures ∙ c.if-not-is_late.false in
    let wide = late_width c.args.nl.now.cells c.args.new.now.cells c.args._keep.now c.args.table.now.at.items c.args.table.now.made.items
    (length c.args.nl.now.cells) c.args.m c.net_at-own.result c.cell_at-sized.result at c.cell_at-sized.ensures late c.requires.copied in
    let deep = late_depth c.args.nl.now.cells c.args.new.now.cells c.args._keep.now c.args.table.now.at.items c.args.table.now.made.items
    (length c.args.nl.now.cells) c.args.m c.net_at-own.result c.cell_at-sized.result at c.cell_at-sized.ensures late c.requires.copied ∙
    ap depth_in_cell c.in-Mem.is in
    let written = ap (λ (v : Circuit). v.cells) c.connect_memory.ensures in
    let alike : IsImage c.args.table.now.at.items c.cell_at-sized.result.cell (Mem c.in-Mem.depth c.net-place.result c.net-word.result c.net-bit.result) =
    rw c.in-Mem.is (c.net-place.result, c.net-word.result, c.net-bit.result, refl, c.net-place.ensures, c.net-word.ensures, c.net-bit.ensures) in
    rw (written, wide, deep)
    (copied_connect c.args.nl.now.cells c.args.new.now.cells c.args._keep.now c.args.table.now.at.items c.args.table.now.made.items
    (length c.args.nl.now.cells) c.args.m c.net_at-own.result c.cell_at-sized.result
    (Mem c.in-Mem.depth c.net-place.result c.net-word.result c.net-bit.result) at c.cell_at-sized.ensures late alike c.requires.copied)

pub returns-else-enable-own-clause-copied : goal.returns-else-enable-own-clause-copied
returns-else-enable-own-clause-copied c =
    let at : slice_get c.args.table.now.made.items c.args.m ≡ Some c.net_at-own.result = ap (λ (l : List NetId). slice_get l c.args.m)
    (sym c.deref.ensures.value) ∙ c.net_at-own.ensures in
    let there = c.cell_at-sized.ensures ∙ ap (λ (x : SizedCell). Some x) (as_cell c.cell_at-sized.result _ c.in-Mem.is) in
    let late : late_cell c.net_at-own.result.0 (Mem c.in-Mem.depth c.in-Mem.at c.in-Mem.next c.in-Mem.enable) ≡ true = ap (late_cell c.net_at-own.result.0)
    (sym c.in-Mem.is) ∙ (sym c.is_late.ensures ∙ c.if-not-is_late.false) in
    copied_idle c.args.nl.now.cells c.args.new.now.cells c.args._keep.now c.args.table.now.at.items c.args.table.now.made.items
    (length c.args.nl.now.cells) c.args.m c.cell_at-sized.result.width c.in-Mem.depth c.net_at-own.result c.in-Mem.at c.in-Mem.next c.in-Mem.enable
    c.formed.ensures.cells at there c.if-enable-own.false late c.requires.copied
