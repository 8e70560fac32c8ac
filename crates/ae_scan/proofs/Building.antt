-- What the stage's circuit owes to the part.
use Rattle.std.proofs.Common.{ℕ, ◌≡◌, ◌+◌, ◌*◌, ◌≤◌, List, length, arith}
use Rattle.ae_netlist.specs.declared.cell.NetId.{NetId}
use Rattle.ae_netlist.specs.declared.cell.SizedCell.{SizedCell}
use Rattle.ae_sttype.specs.StTree.{st_tree}
use Rattle.ae_ops.specs.Folds.{log_up}
use Rattle.ae_ops.specs.Waves.{AreNets}
use Rattle.ae_ops.specs.Blocks.{KeepsLaw, stream_of, stream_widths}
use Rattle.ae_fold.specs.declared.words.WordFold.{WordFold}
use Rattle.ae_fold.specs.declared.plan.Plan.{Plan}
use Rattle.ae_fold.specs.Folding.{products_in}
use Rattle.ae_fold.specs.Rows.{AreFoldNets, AreScans, wait_of}
use Rattle.ae_fold.specs.Shapes.{FoldShape, element_columns, elements_layout}
use Rattle.ae_fold.proofs.Kinding.{all_products}
use Rattle.ae_fold.proofs.Building.{IsBuild, build_folds, build_whole, plan_for}
use Rattle.ae_fold.proofs.Ending.{scans_nets}
use Rattle.ae_fold.proofs.Bundles.{elements_bundle, length-bundle}
use Rattle.ae_scan.specs.Scans.{scan_cells, scan_part, scan_products}
use Rattle.ae_scan.proofs.Counting.{cells_bound, products_are}
use Rattle.ae_scan.proofs.ScanLaw.{scan_law}

pub build_cells : (cells : List SizedCell) (f : FoldShape) (folds : List WordFold) (plan : Plan) (ins : List (List NetId)) (nets : List NetId)
    → IsBuild cells f folds plan ins nets → scan_cells plan ≤ (scan_part f).most_cells
build_cells cells f folds plan ins nets h =
    let placed : 1 ≤ element_columns (st_tree f.element) = rw h.plan_are at h.is_plan.placed in
    let bound = cells_bound f.slots f.lanes (log_up f.lanes) (element_columns (st_tree f.element)) (plan_for f).inner
    (scan_part f).latency h.shape.lanes_some placed in
    rw h.plan_are bound

pub build_products : (cells : List SizedCell) (f : FoldShape) (folds : List WordFold) (plan : Plan) (ins : List (List NetId)) (nets : List NetId)
    → IsBuild cells f folds plan ins nets → scan_products plan (products_in folds) ≡ (scan_part f).products
build_products cells f folds plan ins nets h =
    rw (h.plan_are, h.folds_are, all_products f.op (st_tree f.element) h.shape.op h.shape.element)
    (products_are f.op f.slots f.lanes (element_columns (st_tree f.element)) (log_up f.lanes))

pub build_bundle : (cells new : List SizedCell) (rst arrival : ℕ) (f : FoldShape) (folds : List WordFold) (plan : Plan) (ins : List (List NetId))
    (nets outs out : List NetId) → IsBuild cells f folds plan ins nets → out ≡ outs → length outs ≡ plan.lanes * plan.stride
    → AreScans new rst folds nets plan arrival (plan.levels + wait_of plan.slots) 0 outs → AreNets new (stream_widths (stream_of (elements_layout f))) out
build_bundle cells new rst arrival f folds plan ins nets outs out h is long scans =
    let own : AreFoldNets new folds outs = scans_nets new rst folds nets plan arrival (plan.levels + wait_of plan.slots) 0 0 outs
    (build_folds cells f folds plan ins nets h).some (build_whole cells f folds plan ins nets h) (omega arith) scans in
    rw is (elements_bundle f.op new (st_tree f.element) f.slots f.lanes outs (rw h.plan_are at long) (rw h.folds_are at own))

pub build_law : (cells new : List SizedCell) (rst arrival : ℕ) (f : FoldShape) (folds : List WordFold) (plan : Plan) (ins : List (List NetId))
    (nets outs out : List NetId) → IsBuild cells f folds plan ins nets → out ≡ outs → length outs ≡ plan.lanes * plan.stride
    → AreScans new rst folds nets plan arrival (plan.levels + wait_of plan.slots) 0 outs → KeepsLaw new rst arrival (scan_part f) ins out
build_law cells new rst arrival f folds plan ins nets outs out h is long scans =
    rw (is, h.one)
    (scan_law new rst arrival f nets outs h.shape (length-bundle cells (st_tree f.element) f.slots f.lanes nets h.own) (rw h.plan_are at long)
    (rw (h.plan_are, h.folds_are) at scans))
