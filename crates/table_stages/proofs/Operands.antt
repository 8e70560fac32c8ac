-- Bundles of one word for the operands of a word stage.
use Rattle.std.proofs.Common.{ℕ, zero, suc, ◌≡◌, ◌≤◌, List, ◌∷◌, [], map, Some, slice_get, arith, refl, subst}
use Rattle.ae_word.specs.declared.op.WordOp.{WordOp}
use Rattle.ae_word.specs.declared.op.WordOp.TheVariants.{Mux, Not, Shl, Shr, Cast, Sar, SCast}
use Rattle.ae_word.specs.WordTable.{arity_of}
use Rattle.ae_netlist.specs.declared.cell.NetId.{NetId}
use Rattle.ae_netlist.specs.declared.cell.SizedCell.{SizedCell}
use Rattle.ae_netlist.specs.Circuit.{IsNet}
use Rattle.ae_ops.specs.Waves.{AreNets}
use Rattle.ae_ops.specs.Blocks.{AreBundles, Stream, stream_widths}
use Rattle.ae_ops.specs.Words.{operand_widths, word_stream}
use Rattle.ae_ops.proofs.WordBlocks.{each_one}

widths_two : (op : WordOp) (w : ℕ) → arity_of op ≡ 2 → operand_widths op w ≡ w ∷ w ∷ []
widths_two Mux w h = absurd (omega arith)
widths_two Not w h = absurd (omega arith)
widths_two (Shl k) w h = absurd (omega arith)
widths_two (Shr k) w h = absurd (omega arith)
widths_two (Cast v) w h = absurd (omega arith)
widths_two (Sar k) w h = absurd (omega arith)
widths_two (SCast v) w h = absurd (omega arith)
widths_two _ w h = refl

pub arity_some : (op : WordOp) → 1 ≤ arity_of op
arity_some Mux = omega arith
arity_some Not = omega arith
arity_some (Shl k) = omega arith
arity_some (Shr k) = omega arith
arity_some (Cast v) = omega arith
arity_some (Sar k) = omega arith
arity_some (SCast v) = omega arith
arity_some _ = omega arith

widths_one : (op : WordOp) (w : ℕ) → arity_of op ≡ 1 → operand_widths op w ≡ w ∷ []
widths_one Not w h = refl
widths_one (Shl k) w h = refl
widths_one (Shr k) w h = refl
widths_one (Cast v) w h = refl
widths_one (Sar k) w h = refl
widths_one (SCast v) w h = refl
widths_one _ w h = absurd (omega arith)

nets_one : (cells : List SizedCell) (w : ℕ) (a : NetId) → IsNet cells a.0 w → AreNets cells (stream_widths (word_stream w)) (a ∷ [])
nets_one cells w a h = record { long = refl; each = each_one cells w a h }

pub two_bundles : (cells : List SizedCell) (op : WordOp) (w : ℕ) (a b : NetId) (x y : List NetId) → arity_of op ≡ 2 → x ≡ a ∷ [] → y ≡ b ∷ []
    → IsNet cells a.0 w → IsNet cells b.0 w
    → AreBundles cells (map word_stream (operand_widths op w)) (x ∷ y ∷ [])
two_bundles cells op w a b x y two ex ey ha hb = rw (widths_two op w two, ex, ey) (record { long = refl; each = each })
  where
    each : (k : ℕ) (stream : Stream) (nets : List NetId) → slice_get (word_stream w ∷ word_stream w ∷ []) k ≡ Some stream
        → slice_get ((a ∷ []) ∷ (b ∷ []) ∷ []) k ≡ Some nets → AreNets cells (stream_widths stream) nets
    each zero stream nets f g =
        let s : word_stream w ≡ stream = cc in
        let n : a ∷ [] ≡ nets = cc in
        subst (λ (v : Stream). AreNets cells (stream_widths v) nets) s
        (subst (λ (v : List NetId). AreNets cells (stream_widths (word_stream w)) v) n (nets_one cells w a ha))
    each (suc zero) stream nets f g =
        let s : word_stream w ≡ stream = cc in
        let n : b ∷ [] ≡ nets = cc in
        subst (λ (v : Stream). AreNets cells (stream_widths v) nets) s
        (subst (λ (v : List NetId). AreNets cells (stream_widths (word_stream w)) v) n (nets_one cells w b hb))
    each (suc (suc k)) stream nets f g = cc

pub one_bundle : (cells : List SizedCell) (op : WordOp) (w : ℕ) (a : NetId) (x : List NetId) → arity_of op ≡ 1 → x ≡ a ∷ [] → IsNet cells a.0 w
    → AreBundles cells (map word_stream (operand_widths op w)) (x ∷ [])
one_bundle cells op w a x one ex ha = rw (widths_one op w one, ex) (record { long = refl; each = each })
  where
    each : (k : ℕ) (stream : Stream) (nets : List NetId) → slice_get (word_stream w ∷ []) k ≡ Some stream → slice_get ((a ∷ []) ∷ []) k ≡ Some nets
        → AreNets cells (stream_widths stream) nets
    each zero stream nets f g =
        let s : word_stream w ≡ stream = cc in
        let n : a ∷ [] ≡ nets = cc in
        subst (λ (v : Stream). AreNets cells (stream_widths v) nets) s
        (subst (λ (v : List NetId). AreNets cells (stream_widths (word_stream w)) v) n (nets_one cells w a ha))
    each (suc k) stream nets f g = cc
