-- A scan keeps the law of a part.
use Rattle.std.proofs.Common.{ℕ, ◌≡◌, ◌+◌, ◌-◌, ◌*◌, ◌≤◌, List, ◌∷◌, [], length, map, refl, ◌∙◌}
use Rattle.std.proofs.lemmas.List.{length-map}
use Rattle.ae_word.specs.AtomTree.{WordKind, atom_kinds}
use Rattle.ae_word.proofs.Sizes.{length-atom_kinds}
use Rattle.ae_netlist.specs.declared.cell.NetId.{NetId}
use Rattle.ae_netlist.specs.declared.cell.SizedCell.{SizedCell}
use Rattle.ae_netlist.specs.Runs.{Clock}
use Rattle.ae_sttype.specs.StTree.{StTree, st_tree, element_atom, element_words}
use Rattle.ae_ops.specs.Waves.{wave_of}
use Rattle.ae_ops.specs.Blocks.{AllAreWords, AllHold, HoldsWords, KeepsLaw, stream_of}
use Rattle.ae_fold.specs.Rows.{AreScans}
use Rattle.ae_fold.specs.Shapes.{FoldShape, IsFoldShape, element_columns, element_folds, elements_layout}
use Rattle.ae_fold.proofs.Blocks.{AllScan, scan_holds}
use Rattle.ae_fold.proofs.Building.{plan_for}
use Rattle.ae_fold.proofs.Bundles.{length-folds, words_fit}
use Rattle.ae_scan.specs.Scans.{scan_latency, scan_part}

pub length-widths_of : (t : StTree) → length (map (λ (k : WordKind). k.width) (atom_kinds (element_atom t))) ≡ element_words t
length-widths_of t = length-map (atom_kinds (element_atom t)) (λ (k : WordKind). k.width) ∙ length-atom_kinds (element_atom t)

-- in one run
scan_makes : (f : FoldShape) (run : List Clock) (start arrival b : ℕ) (bundle outs : List NetId) (vs : List (List ℕ)) → IsFoldShape f
    → length bundle ≡ f.lanes * element_columns (st_tree f.element) → length outs ≡ f.lanes * element_columns (st_tree f.element)
    → AllScan (element_folds f.op (st_tree f.element)) bundle (plan_for f) arrival (scan_latency f) 0 outs run start
    → arrival + scan_latency f + (b + 1) * f.period ≤ length run - start → AllAreWords (stream_of (elements_layout f) ∷ []) vs
    → AllHold (arrival + b * f.period) (stream_of (elements_layout f) ∷ []) (wave_of run start bundle ∷ []) vs
    → HoldsWords (arrival + scan_latency f + b * f.period) (stream_of (elements_layout f)) (wave_of run start outs) ((scan_part f).means vs)
scan_makes f run start arrival b bundle outs [] ok long_in long_out scan bound words held = absurd words
scan_makes f run start arrival b bundle outs (v ∷ []) ok long_in long_out scan bound words held =
    let t : StTree = st_tree f.element in
    let wide : length (map (λ (k : WordKind). k.width) (atom_kinds (element_atom t))) ≡ element_words t = length-widths_of t in
    rw wide
    (scan_holds t (plan_for f) arrival (scan_latency f) b run start
    (element_folds f.op t) bundle outs v ok.element refl refl ok.lanes_some ok.room long_in long_out (length-folds f.op t) scan bound
    (rw wide at held.0) (words_fit f.op t f.slots f.lanes v words.0))
scan_makes f run start arrival b bundle outs (v ∷ w ∷ more) ok long_in long_out scan bound words held = absurd words.1

pub scan_law : (cells : List SizedCell) (rst arrival : ℕ) (f : FoldShape) (bundle outs : List NetId) → IsFoldShape f
    → length bundle ≡ f.lanes * element_columns (st_tree f.element) → length outs ≡ f.lanes * element_columns (st_tree f.element)
    → AreScans cells rst (element_folds f.op (st_tree f.element)) bundle (plan_for f) arrival (scan_latency f) 0 outs
    → KeepsLaw cells rst arrival (scan_part f) (bundle ∷ []) outs
scan_law cells rst arrival f bundle outs ok long_in long_out scans = λ all e run r start reset. record {
  makes = λ b vs bound words held.
      scan_makes f run start arrival b bundle outs vs ok long_in long_out (λ q y found. (scans.each q y found).words all e run r start reset) bound words held;
}
