use Rattle.std.proofs.Common.{length, Some, set, map, ap, ◌∙◌, arith, length-set}
use Rattle.std.proofs.lemmas.Option.{slice_get_within}
use Rattle.ae_vmodule.specs.Numbered.{NumberedExpr}
use Rattle.ae_vmodule.specs.View.{drive_tree, expr_tree}
use Rattle.ae_order.proofs.Turns.{at_turn, take_turn}
use Rattle.ae_order.proofs.NameLists.{more_noted, map_written}
use Rattle.ae_order.specs.Drives.{value_tree}
use Rattle.ae_order.proofs.order.note_drives.Goals as goal

pub place_of-place-requires : goal.place_of-place-requires
place_of-place-requires c =
    let found = at_turn (drive_tree c.args.names.now.words) c.args.drives.now c.drive.drive-index c.drive-item.result (omega arith) c.drive-item.is in
    record { named = c.requires.driven c.drive.drive-index _ found }

pub set-requires : goal.set-requires
set-requires c =
    let found = at_turn (drive_tree c.args.names.now.words) c.args.drives.now c.drive.drive-index c.drive-item.result (omega arith) c.drive-item.is in
    let named = c.requires.driven c.drive.drive-index _ found in
    let inside = slice_get_within c.args.names.now.nets _ named.net named.at in
    let place = c.place_of-place.ensures in
    let long = c.drive.invariant.long in
    record { inside = omega arith }

pub drive-preserved : goal.drive-preserved
drive-preserved c =
    let i = c.drive.invariant in
    let turn = take_turn (drive_tree c.args.names.now.words) c.args.drives.now c.drive.drive-index c.drive-item.result (omega arith) c.drive-item.is in
    let place = c.place_of-place.ensures in
    record {
      long = ap length c.in_ok-set.ensures.ok ∙ length-set c.drive.values c.place_of-place.result _ ∙ i.long;
      noted = ap (map (value_tree c.args.names.now.words)) c.in_ok-set.ensures.ok
          ∙ map_written (value_tree c.args.names.now.words) c.drive.values c.place_of-place.result _
          ∙ ap (λ (t : NumberedExpr). set (map (value_tree c.args.names.now.words) c.drive.values) c.place_of-place.result
          (Some (expr_tree c.args.names.now.words t))) c.expr.ensures
          ∙ more_noted c.args.names.now.nets _ _ (map (drive_tree c.args.names.now.words) c.args.drives.now) c.drive.drive-index c.place_of-place.result
          (drive_tree c.args.names.now.words c.drive-item.result) i.noted turn place;
    }
