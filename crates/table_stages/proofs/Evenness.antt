-- Bundles of nets of one width.
use Rattle.std.proofs.Common.{ℕ, false, ◌≡◌, ◌*◌, ◌+◌, ◌%◌, ◌<◌, inl, inr, List, ◌++◌, ◌∷◌, [], length, get_or, arith, ap, ◌∙◌, subst}
use Rattle.std.proofs.lemmas.Nat.{mod_below}
use Rattle.std.proofs.lemmas.List.{length_push}
use Rattle.std.proofs.lemmas.Option.{get_or_from_slice_get, slice_get-get_or, slice_get_within}
use Rattle.ae_word.specs.declared.op.WordOp.TheVariants.{Add}
use Rattle.ae_word.specs.AtomTree.{WordKind, word}
use Rattle.ae_seqtype.specs.SeqTree.{repeated}
use Rattle.ae_sttype.specs.StTree.{atom, sseq, tseq}
use Rattle.ae_netlist.specs.declared.cell.NetId.{NetId}
use Rattle.ae_netlist.specs.declared.cell.SizedCell.{SizedCell}
use Rattle.ae_netlist.specs.Circuit.{Extends, IsNet}
use Rattle.ae_netlist.proofs.Gets.{get_push_cases}
use Rattle.ae_netlist.proofs.Growing.{net_later}
use Rattle.ae_clocked.specs.Phases.{Belongs, Kept}
use Rattle.ae_gates.proofs.Added.{own_net}
use Rattle.ae_ops.specs.Waves.{AreNets, HaveOwnWidths}
use Rattle.ae_ops.specs.Blocks.{AreBundles, Part, stream_of, stream_widths}
use Rattle.ae_fold.specs.Folding.{fold_at, fold_by}
use Rattle.ae_fold.proofs.Bundles.{elements_bundle, one_bundle}
use Rattle.table_stages.specs.Even.{AreEven, TakesLanes}

-- one net more
pub even_more : (a b : List SizedCell) (lanes w : ℕ) (nets : List NetId) (y : NetId) → Extends a b → AreEven a lanes w nets → IsNet b y.0 w
    → AreEven b (lanes + 1) w (nets ++ y ∷ [])
even_more a b lanes w nets y g h new = record {
  long = length_push nets y ∙ ap (λ k. k + 1) h.long;
  each = λ q l. elim (get_push_cases nets y q _ (slice_get-get_or (nets ++ y ∷ []) q (record { 0 = 0 }) l)) [
    | inl v ↦ (let same : (get_or nets q (record { 0 = 0 })).0 ≡ (get_or (nets ++ y ∷ []) q (record { 0 = 0 })).0 = ap (λ (n : NetId). n.0)
        (get_or_from_slice_get nets q _ (record { 0 = 0 }) v.0) in rw (← same) (net_later g (h.each q v.1)))
    | inr v ↦ subst (λ (n : NetId). IsNet b n.0 w) v.1 new
  ];
}

one_word : (k : WordKind) (q : ℕ) → (fold_at (fold_by Add k ∷ []) q).width ≡ k.width
one_word k q =
    let z : q % 1 ≡ 0 = omega (arith, mod_below q 1 (omega arith)) in
    ap (λ i. (get_or (fold_by Add k ∷ []) i (record { op = Add; width = 0 })).width) z

word_nets : (cells : List SizedCell) (m : ℕ) (k : WordKind) (nets : List NetId) → length nets ≡ m
    → ((q : ℕ) → q < length nets → IsNet cells (get_or nets q (record { 0 = 0 })).0 k.width)
    → AreNets cells (stream_widths (stream_of (tseq 1 0 (sseq m (atom (word k)))))) nets
word_nets cells m k nets long h =
    elements_bundle Add cells (atom (word k)) 1 m nets (let one : m * (1 * 1) ≡ m = omega arith in long ∙ omega arith)
    (record { each = λ q l. rw (one_word k q) (h q l) })

pub even_nets : (cells : List SizedCell) (lanes w : ℕ) (nets : List NetId) → AreEven cells lanes w nets → AreNets cells (repeated lanes (w ∷ [])) nets
even_nets cells lanes w nets h =
    let one : lanes * 1 ≡ lanes = omega arith in
    subst (λ (n : ℕ). AreNets cells (repeated n (w ∷ [])) nets) one (word_nets cells lanes (record { signed = false; width = w }) nets h.long h.each)

-- the bundle of a part that takes words on lanes
pub lanes_bundle : (cells : List SizedCell) (part : Part) (lanes w : ℕ) (nets : List NetId) → TakesLanes part lanes w → AreEven cells lanes w nets
    → AreBundles cells part.ins (nets ∷ [])
lanes_bundle cells part lanes w nets t h = rw t.one (one_bundle cells t.stream nets (rw (t.lanes_are, t.widths_are) (even_nets cells lanes w nets h)))

-- each net of a bundle has its own width
pub own_widths : (cells : List SizedCell) (widths : List ℕ) (nets : List NetId) → AreNets cells widths nets → HaveOwnWidths cells nets
own_widths cells widths nets h = λ q net found.
    let low : q < length widths = omega (arith, h.long, slice_get_within nets q net found) in
    own_net (h.each q _ net (slice_get-get_or widths q 0 low) found)

pub own_even : (cells : List SizedCell) (lanes w : ℕ) (nets : List NetId) → AreEven cells lanes w nets → HaveOwnWidths cells nets
own_even cells lanes w nets h = own_widths cells (repeated lanes (w ∷ [])) nets (even_nets cells lanes w nets h)

-- clocks without a counter belong to a netlist that has their reset
pub begins : (kept : Kept) (cells : List SizedCell) (rst : ℕ) → kept ≡ record { rst = rst; counters = []; marks = [] } → IsNet cells rst 1 → Belongs kept cells
begins kept cells rst e h = rw e (record { rst = h; counters = λ phase net found. cc; marks = λ mark net found. cc })
