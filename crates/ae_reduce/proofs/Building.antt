-- What the stage's circuit owes to the part.
use Rattle.std.proofs.Common.{ℕ, ◌≡◌, ◌+◌, ◌-◌, ◌*◌, ◌≤◌, List, length, refl}
use Rattle.ae_netlist.specs.declared.cell.NetId.{NetId}
use Rattle.ae_netlist.specs.declared.cell.SizedCell.{SizedCell}
use Rattle.ae_sttype.specs.StTree.{st_tree}
use Rattle.ae_ops.specs.Folds.{log_up}
use Rattle.ae_ops.specs.Waves.{AreNets}
use Rattle.ae_ops.specs.Blocks.{KeepsLaw, stream_of, stream_widths}
use Rattle.ae_fold.specs.declared.words.WordFold.{WordFold}
use Rattle.ae_fold.specs.declared.plan.Plan.{Plan}
use Rattle.ae_fold.specs.Folding.{products_in}
use Rattle.ae_fold.specs.Rows.{AreFoldNets, AreScans, wait_of}
use Rattle.ae_fold.specs.Shapes.{FoldShape, element_columns}
use Rattle.ae_fold.proofs.Planning.{levels_below}
use Rattle.ae_fold.proofs.Kinding.{all_products}
use Rattle.ae_fold.proofs.Building.{IsBuild, build_folds, build_whole, plan_for}
use Rattle.ae_fold.proofs.Ending.{scans_nets}
use Rattle.ae_fold.proofs.Bundles.{element_bundle, length-bundle}
use Rattle.ae_reduce.specs.Reduces.{reduce_cells, reduce_part, reduce_products}
use Rattle.ae_reduce.proofs.Counting.{cells_bound, products_are}
use Rattle.ae_reduce.proofs.ReduceLaw.{reduce_law}

pub build_cells : (cells : List SizedCell) (f : FoldShape) (folds : List WordFold) (plan : Plan) (ins : List (List NetId)) (nets : List NetId)
    → IsBuild cells f folds plan ins nets → reduce_cells plan ≤ (reduce_part f).most_cells
build_cells cells f folds plan ins nets h =
    let low : plan.levels ≤ plan.lanes = levels_below plan.lanes plan.levels h.is_plan.wide h.is_plan.least in
    let below : log_up f.lanes ≤ f.lanes = rw h.plan_are at low in
    let placed : 1 ≤ element_columns (st_tree f.element) = rw h.plan_are at h.is_plan.placed in
    let bound = cells_bound f.slots f.lanes (log_up f.lanes) (element_columns (st_tree f.element)) (plan_for f).inner
    (reduce_part f).latency h.shape.lanes_some placed below in
    rw h.plan_are bound

pub build_products : (cells : List SizedCell) (f : FoldShape) (folds : List WordFold) (plan : Plan) (ins : List (List NetId)) (nets : List NetId)
    → IsBuild cells f folds plan ins nets → reduce_products plan (products_in folds) ≡ (reduce_part f).products
build_products cells f folds plan ins nets h =
    rw (h.plan_are, h.folds_are, all_products f.op (st_tree f.element) h.shape.op h.shape.element)
    (products_are f.op f.slots f.lanes (element_columns (st_tree f.element)) h.shape.lanes_some)

pub build_bundle : (cells new : List SizedCell) (rst arrival : ℕ) (f : FoldShape) (folds : List WordFold) (plan : Plan) (ins : List (List NetId))
    (nets outs out : List NetId) → IsBuild cells f folds plan ins nets → out ≡ outs → length outs ≡ plan.stride
    → AreScans new rst folds nets plan arrival (plan.levels + wait_of plan.slots) ((plan.lanes - 1) * plan.stride) outs
    → AreNets new (stream_widths (stream_of (st_tree f.element))) out
build_bundle cells new rst arrival f folds plan ins nets outs out h is long scans =
    let own : AreFoldNets new folds outs = scans_nets new rst folds nets plan arrival (plan.levels + wait_of plan.slots) ((plan.lanes - 1) * plan.stride)
    (plan.lanes - 1) outs (build_folds cells f folds plan ins nets h).some (build_whole cells f folds plan ins nets h) refl scans in
    rw is (element_bundle f.op new (st_tree f.element) outs (rw h.plan_are at long) (rw h.folds_are at own))

pub build_law : (cells new : List SizedCell) (rst arrival : ℕ) (f : FoldShape) (folds : List WordFold) (plan : Plan) (ins : List (List NetId))
    (nets outs out : List NetId) → IsBuild cells f folds plan ins nets → out ≡ outs → length outs ≡ plan.stride
    → AreScans new rst folds nets plan arrival (plan.levels + wait_of plan.slots) ((plan.lanes - 1) * plan.stride) outs
    → KeepsLaw new rst arrival (reduce_part f) ins out
build_law cells new rst arrival f folds plan ins nets outs out h is long scans =
    rw (is, h.one)
    (reduce_law new rst arrival f nets outs h.shape (length-bundle cells (st_tree f.element) f.slots f.lanes nets h.own) (rw h.plan_are at long)
    (rw (h.plan_are, h.folds_are) at scans))
