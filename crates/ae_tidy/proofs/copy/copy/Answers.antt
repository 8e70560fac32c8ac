-- The copy is whole where all cells are copied, the late registers connected and the outputs shown.
use Rattle.std.proofs.Common.{◌≡◌, length, ap, ◌∙◌, arith}
use Rattle.ae_netlist.specs.Circuit.{Circuit}
use Rattle.ae_tidy.proofs.Whole.{copied_none, tidied}
use Rattle.ae_tidy.proofs.SameRuns.{AreImages}
use Rattle.ae_tidy.proofs.Connecting.{all_images}
use Rattle.ae_tidy.proofs.Cutting.{copied_made_of, copied_moved}
use Rattle.ae_tidy.proofs.copy.copy.Goals as goal

pub loop-n-init : goal.loop-n-init
loop-n-init c =
    let cells = ap (λ (v : Circuit). v.cells) c.new-new.ensures in
    record {
      all = c.len-n-end.ensures;
      copied = rw (cells, c.new-table.ensures.at, c.new-table.ensures.made) (copied_none c.args.nl.now.cells c.args.keep.now);
      limit = ap (λ (v : Circuit). v.limit) c.new-new.ensures ∙ c.len.ensures;
      outlets = ap (λ (v : Circuit). v.outlets) c.new-new.ensures;
    }

pub loop-n-preserved : goal.loop-n-preserved
loop-n-preserved c = record {
  all = c.loop-n.invariant.all;
  copied = c.in_ok-copy_cell.ensures.copied;
  limit = c.in_ok-copy_cell.ensures.limit ∙ c.loop-n.invariant.limit;
  outlets = c.in_ok-copy_cell.ensures.outlets ∙ c.loop-n.invariant.outlets;
}

pub connect_cells-requires-clause-copied : goal.connect_cells-requires-clause-copied
connect_cells-requires-clause-copied c =
    let e : length c.args.nl.now.cells ≡ c.loop-n.n = omega (arith, c.loop-n.invariant.all) in rw (← e) at c.loop-n.invariant.copied

pub show-requires-clause-none : goal.show-requires-clause-none
show-requires-clause-none c = c.connect_cells.ensures.outlets ∙ c.loop-n.invariant.outlets

pub returns-clause-tidied : goal.returns-clause-tidied
returns-clause-tidied c =
    let limit : c.show.new.new.limit ≡ length c.args.nl.now.cells = c.in_ok-show.ensures.limit ∙ (c.connect_cells.ensures.limit ∙ c.loop-n.invariant.limit) in
    let copied = rw (← c.in_ok-show.ensures.cells) at c.connect_cells.ensures.copied in
    tidied c.args.nl.now c.show.new.new c.args.keep.now c.loop-n.table.at.items c.loop-n.table.made.items
    (length c.show.new.new.cells) c.formed.ensures.cells c.has_one_run.ensures c.requires.marked c.requires.needed
    copied (omega arith) c.in_ok-show.ensures.shown c.formed-2.ensures.cells c.formed-2.ensures.outlets (omega (arith, c.formed.ensures.limit))

pub returns-clause-made : goal.returns-clause-made
returns-clause-made c =
    let copied = rw (← c.in_ok-show.ensures.cells) at c.connect_cells.ensures.copied in
    let images : AreImages c.args.nl.now.cells c.show.new.new.cells c.loop-n.table.at.items =
    all_images c.args.nl.now.cells c.show.new.new.cells c.args.keep.now c.loop-n.table.at.items c.loop-n.table.made.items (length c.args.nl.now.cells)
    (length c.show.new.new.cells) (omega arith) copied in
    record {
      long = copied.all_made;
      are = copied_made_of c.args.nl.now.cells c.show.new.new.cells c.args.keep.now c.loop-n.table.at.items c.loop-n.table.made.items
          (length c.args.nl.now.cells) (length c.show.new.new.cells) images copied;
      rising = copied.rising;
    }

pub returns-clause-moved : goal.returns-clause-moved
returns-clause-moved c =
    let copied = rw (← c.in_ok-show.ensures.cells) at c.connect_cells.ensures.copied in
    let images : AreImages c.args.nl.now.cells c.show.new.new.cells c.loop-n.table.at.items =
    all_images c.args.nl.now.cells c.show.new.new.cells c.args.keep.now c.loop-n.table.at.items c.loop-n.table.made.items (length c.args.nl.now.cells)
    (length c.show.new.new.cells) (omega arith) copied in
    λ cells count h. copied_moved c.args.nl.now.cells c.show.new.new.cells c.args.keep.now c.loop-n.table.at.items c.loop-n.table.made.items
    (length c.args.nl.now.cells) (length c.show.new.new.cells) c.args.marks.now c.in_ok-marks.marks.items
    images copied c.in_ok-marks.ensures.marks.long (rw c.deref.ensures.value at (c.in_ok-marks.ensures.cut cells count h))
