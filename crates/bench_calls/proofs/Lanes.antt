-- The nets of four words side by side.
use Rattle.std.proofs.Common.{ℕ, zero, suc, ◌≡◌, ◌+◌, List, [], ◌∷◌, ◌++◌, length, map, Some, slice_get, refl, ap, ◌∙◌, subst, inl, inr}
use Rattle.std.proofs.lemmas.List.{length_push}
use Rattle.ae_word.specs.AtomTree.{unsigned_word}
use Rattle.ae_sttype.specs.StTree.{StTree, atom, sseq, tseq}
use Rattle.ae_netlist.specs.declared.cell.NetId.{NetId}
use Rattle.ae_netlist.specs.declared.cell.SizedCell.{SizedCell}
use Rattle.ae_netlist.specs.Circuit.{IsNet, Extends}
use Rattle.ae_netlist.proofs.Gets.{get_push_cases}
use Rattle.ae_netlist.proofs.Growing.{net_later}
use Rattle.ae_clocked.specs.Phases.{Belongs, Kept}
use Rattle.ae_ops.specs.Waves.{AreNets}
use Rattle.ae_ops.specs.Blocks.{stream_of, AreBundles, Stream, stream_widths}

-- so many nets of 16 bits
pub record AreLanes (cells : List SizedCell) (count : ℕ) (nets : List NetId) : Type 0 where
  pub long : length nets ≡ count
  pub each : (q : ℕ) (net : NetId) → slice_get nets q ≡ Some net → IsNet cells net.0 16

pub lanes_more : (a b : List SizedCell) (count : ℕ) (nets : List NetId) (net : NetId) → Extends a b → AreLanes a count nets → IsNet b net.0 16
    → AreLanes b (count + 1) (nets ++ net ∷ [])
lanes_more a b count nets net g h own = record {
  long = length_push nets net ∙ ap (λ k. k + 1) h.long;
  each = λ q x found. elim (get_push_cases nets net q x found) [
    | inl v ↦ net_later g (h.each q x v.0)
    | inr v ↦ subst (λ (n : NetId). IsNet b n.0 16) v.1 own
  ];
}

abbrev grid : ℕ → StTree
grid n = tseq n 0 (sseq 4 (atom (unsigned_word 16)))

-- they are the bundle of a move of such words
pub one_bundle : (cells : List SizedCell) (ins : List StTree) (n : ℕ) (x : List NetId) → ins ≡ tseq n 0 (sseq 4 (atom (unsigned_word 16))) ∷ []
    → AreNets cells (16 ∷ 16 ∷ 16 ∷ 16 ∷ []) x → AreBundles cells (map stream_of ins) (x ∷ [])
one_bundle cells ins n x em h = rw em (record { long = refl; each = each })
  where
    each : (k : ℕ) (stream : Stream) (nets : List NetId) → slice_get (stream_of (grid n) ∷ []) k ≡ Some stream → slice_get (x ∷ []) k ≡ Some nets
        → AreNets cells (stream_widths stream) nets
    each zero stream nets f g =
        let s : stream_of (grid n) ≡ stream = cc in
        let y : x ≡ nets = cc in
        subst (λ (v : Stream). AreNets cells (stream_widths v) nets) s (subst (λ (v : List NetId). AreNets cells (stream_widths (stream_of (grid n))) v) y h)
    each (suc k) stream nets f g = cc

-- nothing is kept yet of a netlist with a reset
pub belongs_new : (clocks : Kept) (cells : List SizedCell) (rst : ℕ) → clocks ≡ record { rst = rst; counters = []; marks = [] } → IsNet cells rst 1
    → Belongs clocks cells
belongs_new clocks cells rst is h = rw is (record { rst = h; counters = λ phase net found. cc; marks = λ mark net found. cc })
