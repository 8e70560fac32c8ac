-- The circuit of a fold or of a scan: what it is built of.
use Rattle.std.proofs.Common.{◌≡◌, ◌*◌, ◌%◌, List, ◌∷◌, [], length, get_or, nat_lt, if◌then◌else◌, ◌∙◌}
use Rattle.ae_netlist.specs.declared.cell.NetId.{NetId}
use Rattle.ae_netlist.specs.declared.cell.SizedCell.{SizedCell}
use Rattle.ae_sttype.specs.StTree.{st_tree, time}
use Rattle.ae_clocked.specs.Rings.{rings}
use Rattle.ae_ops.specs.Folds.{log_up}
use Rattle.ae_ops.specs.Waves.{AreNets}
use Rattle.ae_ops.specs.Blocks.{AreBundles, stream_of, stream_widths}
use Rattle.ae_fold.specs.declared.words.WordFold.{WordFold}
use Rattle.ae_fold.specs.declared.plan.Plan.{Plan}
use Rattle.ae_fold.specs.Folding.{AreFolds}
use Rattle.ae_fold.specs.Rows.{AreFoldNets, IsPlan, loop_memories}
use Rattle.ae_fold.specs.Shapes.{FoldShape, IsFoldShape, IsPlanFor, element_columns, element_folds, elements_layout}
use Rattle.ae_fold.proofs.Kinding.{are_folds}
use Rattle.ae_fold.proofs.Marking.{wait_times}
use Rattle.ae_fold.proofs.Bundles.{first_bundle, length-bundle, nets_of_bundle, plan_is, whole_stride}

-- the numbers of a fold
abbrev pub plan_for : FoldShape → Plan
plan_for f =
    record {
      slots = f.slots;
      lanes = f.lanes;
      stride = element_columns (st_tree f.element);
      inner = time (st_tree f.element);
      period = f.period;
      levels = log_up f.lanes;
    }

-- what a build of a fold stands on: the folds of its words, its numbers, and its one bundle
pub record IsBuild (cells : List SizedCell) (f : FoldShape) (folds : List WordFold) (plan : Plan) (ins : List (List NetId)) (nets : List NetId) : Type 0 where
  pub shape : IsFoldShape f
  pub folds_are : folds ≡ element_folds f.op (st_tree f.element)
  pub plan_are : plan ≡ plan_for f
  pub is_plan : IsPlan plan
  pub one : ins ≡ nets ∷ []
  pub own : AreNets cells (stream_widths (stream_of (elements_layout f))) nets

pub build_of : (cells : List SizedCell) (f : FoldShape) (items folds : List WordFold) (plan : Plan) (ins : List (List NetId)) (x nets : List NetId)
    → IsFoldShape f → folds ≡ items → items ≡ element_folds f.op (st_tree f.element) → IsPlan plan
    → IsPlanFor (st_tree f.element) f.slots f.lanes f.period plan → AreBundles cells (stream_of (elements_layout f) ∷ []) ins → x ≡ get_or ins 0 x → nets ≡ x
    → IsBuild cells f folds plan ins nets
build_of cells f items folds plan ins x nets shape ef ei p numbers bundles is same =
    let first = first_bundle cells (stream_of (elements_layout f)) ins x nets bundles is same in
    record {
      shape = shape;
      folds_are = ef ∙ ei;
      plan_are = plan_is (st_tree f.element) f.slots f.lanes f.period plan numbers;
      is_plan = p;
      one = first.0;
      own = first.1;
    }

pub build_folds : (cells : List SizedCell) (f : FoldShape) (folds : List WordFold) (plan : Plan) (ins : List (List NetId)) (nets : List NetId)
    → IsBuild cells f folds plan ins nets → AreFolds folds
build_folds cells f folds plan ins nets h = rw h.folds_are (are_folds f.op (st_tree f.element) h.shape.op h.shape.element)

pub build_nets : (cells : List SizedCell) (f : FoldShape) (folds : List WordFold) (plan : Plan) (ins : List (List NetId)) (nets : List NetId)
    → IsBuild cells f folds plan ins nets → AreFoldNets cells folds nets
build_nets cells f folds plan ins nets h = rw h.folds_are (nets_of_bundle f.op cells (st_tree f.element) f.slots f.lanes nets h.own)

pub build_long : (cells : List SizedCell) (f : FoldShape) (folds : List WordFold) (plan : Plan) (ins : List (List NetId)) (nets : List NetId)
    → IsBuild cells f folds plan ins nets → length nets ≡ plan.lanes * plan.stride
build_long cells f folds plan ins nets h = rw h.plan_are (length-bundle cells (st_tree f.element) f.slots f.lanes nets h.own)

pub build_whole : (cells : List SizedCell) (f : FoldShape) (folds : List WordFold) (plan : Plan) (ins : List (List NetId)) (nets : List NetId)
    → IsBuild cells f folds plan ins nets → plan.stride % length folds ≡ 0
build_whole cells f folds plan ins nets h = rw (h.plan_are, h.folds_are) (whole_stride f.op (st_tree f.element))

pub build_memories : (cells : List SizedCell) (f : FoldShape) (folds : List WordFold) (plan : Plan) (ins : List (List NetId)) (nets : List NetId)
    → IsBuild cells f folds plan ins nets → loop_memories
    plan ≡ (if nat_lt 1 f.slots then element_columns (st_tree f.element) * rings (time (st_tree f.element)) else 0)
build_memories cells f folds plan ins nets h =
    rw h.plan_are (wait_times f.slots (element_columns (st_tree f.element) * rings (time (st_tree f.element))))
