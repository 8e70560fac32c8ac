-- The nets of a bundle, and the words of a block, by what they are folded by.
use Rattle.std.proofs.Common.{ℕ, zero, suc, ◌≡◌, ◌+◌, ◌*◌, ◌/◌, ◌%◌, ◌<◌, false, List, ◌∷◌, [], length, map, get_or, Some, slice_get, arith, refl, sym, ap, ◌∙◌, subst}
use Rattle.std.specs.Option.{option_map}
use Rattle.std.proofs.Math.Nat.{suc-mul, mul_assoc}
use Rattle.std.proofs.lemmas.Nat.{div-add-mod', div_below, mod-mul-add, mod_below, mul-add-lt}
use Rattle.std.proofs.lemmas.List.{get_or-map, length-map}
use Rattle.std.proofs.lemmas.Option.{slice_get-map, slice_get_within, slice_get-get_or, get_or_from_slice_get}
use Rattle.ae_word.specs.declared.op.WordOp.{WordOp}
use Rattle.ae_word.specs.declared.op.WordOp.TheVariants.{Add}
use Rattle.ae_word.specs.AtomTree.{WordKind, atom_kinds}
use Rattle.ae_word.proofs.Sizes.{length-atom_kinds}
use Rattle.ae_seqtype.specs.SeqTree.{repeated}
use Rattle.ae_seqtype.proofs.Sizes.{length-repeated}
use Rattle.ae_sttype.specs.StTree.{StTree, tseq, sseq, time, lanes, st_atoms, element_atom, element_words}
use Rattle.ae_sttype.specs.Slots.{slots}
use Rattle.ae_sttype.proofs.Bounds.{element_words_pos}
use Rattle.ae_sttype.proofs.Places.{length-slots}
use Rattle.ae_netlist.specs.declared.cell.NetId.{NetId}
use Rattle.ae_netlist.specs.declared.cell.SizedCell.{SizedCell}
use Rattle.ae_netlist.specs.Circuit.{IsNet}
use Rattle.ae_netlist.proofs.Gets.{get_left}
use Rattle.ae_ops.specs.Waves.{AreNets}
use Rattle.ae_ops.specs.Blocks.{AreBundles, AreWords, Stream, stream_of, stream_widths}
use Rattle.ae_ops.specs.Folds.{log_up}
use Rattle.ae_fold.specs.declared.words.WordFold.{WordFold}
use Rattle.ae_fold.specs.declared.plan.Plan.{Plan}
use Rattle.ae_fold.specs.Folding.{fold_at, fold_by}
use Rattle.ae_fold.specs.Rows.{AreFoldNets}
use Rattle.ae_fold.specs.Shapes.{IsPlanFor, element_columns, element_folds}
use Rattle.ae_fold.proofs.Kinding.{get_right}
use Rattle.ae_fold.proofs.Blocks.{AllFit, mod_cut}

pub length-folds : (op : WordOp) (t : StTree) → length (element_folds op t) ≡ element_words t
length-folds op t = length-map (atom_kinds (element_atom t)) (fold_by op) ∙ length-atom_kinds (element_atom t)

get_repeated : {A : Type 0} (n : ℕ) (xs : List A) (l j : ℕ) (x : A) → l < n → slice_get xs j ≡ Some x → slice_get (repeated n xs) (l * length xs + j) ≡ Some x
get_repeated zero xs l j x ll h = absurd (omega arith)
get_repeated (suc n) xs zero j x ll h = let e : 0 * length xs + j ≡ j = omega arith in rw e (get_left xs (repeated n xs) j x h)
get_repeated (suc n) xs (suc l) j x ll h =
    let m : suc l * length xs ≡ l * length xs + length xs = suc-mul l (length xs) in
    let e : suc l * length xs + j ≡ length xs + (l * length xs + j) = omega arith in
    rw e (get_right xs (repeated n xs) (l * length xs + j) ∙ get_repeated n xs l j x (omega arith) h)

abbrev widths_of : StTree → List ℕ
widths_of t = map (λ (k : WordKind). k.width) (atom_kinds (element_atom t))

-- the width of word q, where the words of an atom come again and again
pub width_is : (op : WordOp) (t : StTree) (q : ℕ) → slice_get (widths_of t) (q % element_words t) ≡ Some (fold_at (element_folds op t) q).width
width_is op t q =
    let kinds : List WordKind = atom_kinds (element_atom t) in
    let none : WordKind = record { signed = false; width = 0 } in
    let long : length kinds ≡ element_words t = length-atom_kinds (element_atom t) in
    let l : q % element_words t < length kinds = omega (arith, mod_below q (element_words t) (element_words_pos t)) in
    let k : WordKind = get_or kinds (q % element_words t) none in
    let left : slice_get (widths_of t) (q % element_words t) ≡ Some k.width = slice_get-map (λ (x : WordKind). x.width) kinds (q % element_words t) ∙
    ap (option_map (λ (x : WordKind). x.width)) (slice_get-get_or kinds (q % element_words t) none l) in
    let right : get_or (element_folds op t) (q % element_words t) (record { op = Add; width = 0 }) ≡ fold_by op k = get_or-map (fold_by op) kinds
    (q % element_words t) none (record { op = Add; width = 0 }) l in
    rw (length-folds op t) (left ∙ ap Some (ap (λ (f : WordFold). f.width) (sym right)))

pub column_width : (op : WordOp) (t : StTree) (n q : ℕ) → q < n * element_words t
    → slice_get (repeated n (widths_of t)) q ≡ Some (fold_at (element_folds op t) q).width
column_width op t n q l =
    let w : ℕ = element_words t in
    let long : length (widths_of t) ≡ w = length-map (atom_kinds (element_atom t)) (λ (k : WordKind). k.width) ∙ length-atom_kinds (element_atom t) in
    let d : q / w * w + q % w ≡ q = div-add-mod' q w in
    let lq : q / w < n = div_below q w n (element_words_pos t) l in
    rw d at (rw long at (get_repeated n (widths_of t) (q / w) (q % w) _ lq (width_is op t q)))

pub length-widths : (t s : StTree) → element_atom s ≡ element_atom t → length (stream_widths (stream_of s)) ≡ lanes s * element_words t
length-widths t s e =
    length-repeated (lanes s) (widths_of s) ∙ ap (λ n. lanes s * n)
    (length-map (atom_kinds (element_atom s)) (λ (k : WordKind). k.width) ∙ length-atom_kinds (element_atom s) ∙ rw e refl)

-- the nets of a bundle of a layout of elements
pub nets_of_bundle : (op : WordOp) (cells : List SizedCell) (t : StTree) (n m : ℕ) (nets : List NetId)
    → AreNets cells (stream_widths (stream_of (tseq n 0 (sseq m t)))) nets → AreFoldNets cells (element_folds op t) nets
nets_of_bundle op cells t n m nets h = record {
  each = λ q l.
      let below : q < m * lanes t * element_words t = omega (arith, h.long, length-widths t (tseq n 0 (sseq m t)) refl) in
      h.each q _ (get_or nets q (record { 0 = 0 })) (column_width op t (m * lanes t) q below) (slice_get-get_or nets q (record { 0 = 0 }) l);
}

pub length-bundle : (cells : List SizedCell) (t : StTree) (n m : ℕ) (nets : List NetId) → AreNets cells (stream_widths (stream_of (tseq n 0 (sseq m t)))) nets
    → length nets ≡ m * (lanes t * element_words t)
length-bundle cells t n m nets h = h.long ∙ (length-widths t (tseq n 0 (sseq m t)) refl ∙ mul_assoc m (lanes t) (element_words t))

bundle_by : (op : WordOp) (cells : List SizedCell) (t : StTree) (n : ℕ) (nets : List NetId) → length nets ≡ n * element_words t
    → AreFoldNets cells (element_folds op t) nets → AreNets cells (repeated n (widths_of t)) nets
bundle_by op cells t n nets long h = record {
  long = long ∙ sym (length-repeated n (widths_of t) ∙ ap (λ k. n * k)
      (length-map (atom_kinds (element_atom t)) (λ (k : WordKind). k.width) ∙ length-atom_kinds (element_atom t)));
  each = λ q width net fw fn.
      let l : q < length nets = slice_get_within nets q net fn in
      let same : Some width ≡ Some (fold_at (element_folds op t) q).width = sym fw ∙ column_width op t n q (omega arith) in
      let is : width ≡ (fold_at (element_folds op t) q).width = cc in
      let at : get_or nets q (record { 0 = 0 }) ≡ net = get_or_from_slice_get nets q net (record { 0 = 0 }) fn in
      rw is (subst (λ (y : NetId). IsNet cells y.0 (fold_at (element_folds op t) q).width) at (h.each q l));
}

-- and back, for one element and for all
pub element_bundle : (op : WordOp) (cells : List SizedCell) (t : StTree) (nets : List NetId) → length nets ≡ lanes t * element_words t
    → AreFoldNets cells (element_folds op t) nets → AreNets cells (stream_widths (stream_of t)) nets
element_bundle op cells t nets long h = bundle_by op cells t (lanes t) nets long h

pub elements_bundle : (op : WordOp) (cells : List SizedCell) (t : StTree) (n m : ℕ) (nets : List NetId) → length nets ≡ m * (lanes t * element_words t)
    → AreFoldNets cells (element_folds op t) nets
    → AreNets cells (stream_widths (stream_of (tseq n 0 (sseq m t)))) nets
elements_bundle op cells t n m nets long h = bundle_by op cells t (m * lanes t) nets (long ∙ sym (mul_assoc m (lanes t) (element_words t))) h

-- the words of a block fit
pub words_fit : (op : WordOp) (t : StTree) (n m : ℕ) (v : List ℕ) → AreWords (stream_of (tseq n 0 (sseq m t))) v
    → AllFit (element_folds op t) (n * m) (st_atoms t * element_words t) v
words_fit op t n m v h = λ i p li lp.
    let w : ℕ = element_words t in
    let size : ℕ = st_atoms t * w in
    let x : ℕ = i * size + p in
    let long : length (widths_of t) ≡ w = length-map (atom_kinds (element_atom t)) (λ (k : WordKind). k.width) ∙ length-atom_kinds (element_atom t) in
    let count : length (slots (tseq n 0 (sseq m t))) ≡ n * (m * st_atoms t) = length-slots (tseq n 0 (sseq m t)) in
    let a1 : n * m * st_atoms t ≡ n * (m * st_atoms t) = mul_assoc n m (st_atoms t) in
    let a2 : n * m * st_atoms t * w ≡ n * m * size = mul_assoc (n * m) (st_atoms t) w in
    let all_of : length v ≡ n * m * size = h.long ∙ (ap (λ k. length (slots (tseq n 0 (sseq m t))) * k) long ∙ (ap (λ k. k * w) (count ∙ sym a1) ∙ a2)) in
    let below : x < length v = omega (arith, mul-add-lt i size p (n * m) li lp) in
    let a3 : i * st_atoms t * w ≡ i * size = mul_assoc i (st_atoms t) w in
    let at : x ≡ i * st_atoms t * w + p = omega arith in
    let turn : x % w ≡ p % w = ap (λ k. k % w) at ∙ mod_cut (i * st_atoms t) w p (element_words_pos t) in
    h.fit x (get_or v x 0) _ (slice_get-get_or v x 0 below) (rw (long, turn) (width_is op t p))

-- ---- the one bundle of a part

one_only : (ins : List (List NetId)) (x : List NetId) → length ins ≡ 1 → x ≡ get_or ins 0 x → ins ≡ x ∷ []
one_only [] x long is = absurd (omega arith)
one_only (y ∷ []) x long is = ap (λ (z : List NetId). z ∷ []) (sym is)
one_only (y ∷ z ∷ more) x long is = absurd (omega arith)

pub first_bundle : (cells : List SizedCell) (s : Stream) (ins : List (List NetId)) (x nets : List NetId) → AreBundles cells (s ∷ []) ins → x ≡ get_or ins 0 x
    → nets ≡ x → (ins ≡ nets ∷ []) × AreNets cells (stream_widths s) nets
first_bundle cells s ins x nets h is same =
    let e : ins ≡ x ∷ [] = one_only ins x h.long is in
    let own = rw e at h in
    rw same (e, own.each 0 s x refl refl)

-- the numbers of a fold
made : (a b c d e f : ℕ) → Plan
made a b c d e f = record { slots = a; lanes = b; stride = c; inner = d; period = e; levels = f }

pub plan_is : (t : StTree) (slots lanes period : ℕ) (plan : Plan) → IsPlanFor t slots lanes period plan
    → plan ≡ record { slots = slots; lanes = lanes; stride = element_columns t; inner = time t; period = period; levels = log_up lanes }
unfolding made
plan_is t slots lanes period plan h =
    plan_by plan.slots plan.lanes plan.stride plan.inner plan.period plan.levels _ _ _ _ _ _ h.slots_is h.lanes_is h.stride_is h.inner_is h.period_is
    h.levels_is
  where
    plan_by : (a b c d e f u v w x y z : ℕ) → a ≡ u → b ≡ v → c ≡ w → d ≡ x → e ≡ y → f ≡ z
        → made a b c d e f ≡ made u v w x y z
    plan_by a b c d e f u v w x y z p q r s t i = rw (p, q, r, s, t, i) refl

-- a stride is whole atoms
pub whole_stride : (op : WordOp) (t : StTree) → element_columns t % length (element_folds op t) ≡ 0
whole_stride op t =
    let z : lanes t * element_words t + 0 ≡ lanes t * element_words t = omega arith in
    rw (length-folds op t) (ap (λ n. n % element_words t) (sym z) ∙ mod-mul-add (lanes t) (element_words t) 0 (element_words_pos t))

pub one_bundle : (cells : List SizedCell) (s : Stream) (x : List NetId) → AreNets cells (stream_widths s) x → AreBundles cells (s ∷ []) (x ∷ [])
one_bundle cells s x h = record { long = refl; each = each }
  where
    each : (k : ℕ) (stream : Stream) (nets : List NetId) → slice_get (s ∷ []) k ≡ Some stream → slice_get (x ∷ []) k ≡ Some nets
        → AreNets cells (stream_widths stream) nets
    each zero stream nets f g =
        let a : s ≡ stream = cc in
        let b : x ≡ nets = cc in
        subst (λ (v : Stream). AreNets cells (stream_widths v) nets) a (subst (λ (v : List NetId). AreNets cells (stream_widths s) v) b h)
    each (suc k) stream nets f g = cc
