-- A fold keeps the law of a part.
use Rattle.std.proofs.Common.{ℕ, ◌≡◌, ◌+◌, ◌-◌, ◌*◌, ◌≤◌, nat_lt, if◌then◌else◌, Bool, true, false, List, ◌∷◌, [], length, map, arith, refl, ap, ◌∙◌}
use Rattle.std.proofs.lemmas.Bool.Decides.{nat_tests}
use Rattle.std.proofs.lemmas.List.{length-map}
use Rattle.ae_word.specs.AtomTree.{WordKind, atom_kinds}
use Rattle.ae_word.proofs.Sizes.{length-atom_kinds}
use Rattle.ae_netlist.specs.declared.cell.NetId.{NetId}
use Rattle.ae_netlist.specs.declared.cell.SizedCell.{SizedCell}
use Rattle.ae_netlist.specs.Runs.{Clock}
use Rattle.ae_sttype.specs.StTree.{StTree, st_tree, time, element_atom, element_words}
use Rattle.ae_ops.specs.Folds.{log_up}
use Rattle.ae_ops.specs.Waves.{wave_of}
use Rattle.ae_ops.specs.Blocks.{AllAreWords, AllHold, HoldsWords, KeepsLaw, stream_of}
use Rattle.ae_fold.specs.Rows.{AreScans, wait_of}
use Rattle.ae_fold.specs.Shapes.{FoldShape, IsFoldShape, element_columns, element_folds, elements_layout}
use Rattle.ae_fold.proofs.Blocks.{AllScan, reduce_holds}
use Rattle.ae_fold.proofs.Building.{plan_for}
use Rattle.ae_fold.proofs.Bundles.{length-folds, words_fit}
use Rattle.ae_reduce.specs.Reduces.{reduce_latency, reduce_part}

latency_by : (b : Bool) (slots inner levels : ℕ) → nat_lt 1 slots ≡ b → 1 ≤ slots
    → levels + (if b then (slots - 1) * inner + 1 else 0) ≡ (slots - 1) * inner + (levels + (if b then 1 else 0))
latency_by true slots inner levels e some = omega arith
latency_by false slots inner levels e some =
    let one : slots ≡ 1 = at_most_one slots e some in
    let none : (slots - 1) * inner ≡ 0 * inner = ap (λ k. (k - 1) * inner) one in
    omega arith
  where
    at_most_one : (slots : ℕ) → nat_lt 1 slots ≡ false → 1 ≤ slots → slots ≡ 1
    at_most_one slots e some = grind (arith, nat_tests)

latency_is : (f : FoldShape) → 1 ≤ f.slots → reduce_latency f ≡ (f.slots - 1) * time (st_tree f.element) + (log_up f.lanes + wait_of f.slots)
latency_is f some = latency_by (nat_lt 1 f.slots) f.slots (time (st_tree f.element)) (log_up f.lanes) refl some

pub length-widths_of : (t : StTree) → length (map (λ (k : WordKind). k.width) (atom_kinds (element_atom t))) ≡ element_words t
length-widths_of t = length-map (atom_kinds (element_atom t)) (λ (k : WordKind). k.width) ∙ length-atom_kinds (element_atom t)

-- in one run
reduce_makes : (f : FoldShape) (run : List Clock) (start arrival b : ℕ) (bundle outs : List NetId) (vs : List (List ℕ)) → IsFoldShape f
    → length bundle ≡ f.lanes * element_columns (st_tree f.element) → length outs ≡ element_columns (st_tree f.element)
    → AllScan (element_folds f.op (st_tree f.element)) bundle (plan_for f) arrival (log_up f.lanes + wait_of f.slots)
    ((f.lanes - 1) * element_columns (st_tree f.element)) outs run start
    → arrival + reduce_latency f + (b + 1) * f.period ≤ length run - start → AllAreWords (stream_of (elements_layout f) ∷ []) vs
    → AllHold (arrival + b * f.period) (stream_of (elements_layout f) ∷ []) (wave_of run start bundle ∷ []) vs
    → HoldsWords (arrival + reduce_latency f + b * f.period) (stream_of (st_tree f.element)) (wave_of run start outs) ((reduce_part f).means vs)
reduce_makes f run start arrival b bundle outs [] ok long_in long_out scan bound words held = absurd words
reduce_makes f run start arrival b bundle outs (v ∷ []) ok long_in long_out scan bound words held =
    let t : StTree = st_tree f.element in
    let late = latency_is f ok.slots_some in
    let wide : length (map (λ (k : WordKind). k.width) (atom_kinds (element_atom t))) ≡ element_words t = length-widths_of t in
    rw (late, wide)
    (reduce_holds t (plan_for f) arrival (log_up f.lanes + wait_of f.slots) b run start
    (element_folds f.op t) bundle outs v ok.element refl refl ok.slots_some ok.lanes_some ok.room long_in long_out (length-folds f.op t) scan
    (rw late at bound) (rw wide at held.0) (words_fit f.op t f.slots f.lanes v words.0))
reduce_makes f run start arrival b bundle outs (v ∷ w ∷ more) ok long_in long_out scan bound words held = absurd words.1

pub reduce_law : (cells : List SizedCell) (rst arrival : ℕ) (f : FoldShape) (bundle outs : List NetId) → IsFoldShape f
    → length bundle ≡ f.lanes * element_columns (st_tree f.element) → length outs ≡ element_columns (st_tree f.element)
    → AreScans cells rst (element_folds f.op (st_tree f.element)) bundle (plan_for f) arrival (log_up f.lanes + wait_of f.slots)
    ((f.lanes - 1) * element_columns (st_tree f.element)) outs
    → KeepsLaw cells rst arrival (reduce_part f) (bundle ∷ []) outs
reduce_law cells rst arrival f bundle outs ok long_in long_out scans = λ all e run r start reset. record {
  makes = λ b vs bound words held.
      reduce_makes f run start arrival b bundle outs vs ok long_in long_out
      (λ q y found. (scans.each q y found).words all e run r start reset) bound words held;
}
