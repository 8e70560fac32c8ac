-- Bodies on lanes: what each takes of the arguments, and that together they keep the law of the node.
use Rattle.std.proofs.Common.{ℕ, zero, suc, ◌≡◌, ◌+◌, ◌-◌, ◌*◌, ◌/◌, ◌<◌, ◌≤◌, inl, inr, List, [], ◌∷◌, ◌++◌, length, length-append, map, take, drop, Some, slice_get, arith, refl, ap, sym, ◌∙◌, subst, mul_assoc}
use Rattle.std.proofs.Math.Nat.{mul-div_cancel, mul-div_cancel_left, mul-le-mul_right}
use Rattle.std.proofs.Math.Seq.{drop-append_seam}
use Rattle.std.proofs.lemmas.List.{drop-append-le, take-append-le, take_all, length-drop, length-map, length-take-le}
use Rattle.std.proofs.lemmas.Bool.{cases_lt}
use Rattle.std.proofs.lemmas.Option.{none-some, slice_get_within}
use Rattle.ae_seqtype.specs.SeqTree.{repeated}
use Rattle.ae_seqtype.proofs.Sizes.{length-repeated}
use Rattle.ae_sttype.specs.StTree.{StTree, tseq, sseq, lanes, st_atoms, element_words}
use Rattle.ae_sttype.specs.Size.{IsInSize}
use Rattle.ae_sttype.specs.Slots.{slots}
use Rattle.ae_sttype.specs.Moves.{columns_of}
use Rattle.ae_sttype.proofs.Places.{length-slots}
use Rattle.ae_netlist.specs.declared.cell.NetId.{NetId}
use Rattle.ae_netlist.specs.declared.cell.SizedCell.{SizedCell}
use Rattle.ae_netlist.specs.Circuit.{Circuit, Extends}
use Rattle.ae_netlist.specs.Runs.{Clock}
use Rattle.ae_netlist.proofs.Gets.{get_left}
use Rattle.ae_netlist.proofs.Growing.{extends_trans}
use Rattle.ae_fold.proofs.Kinding.{get_append_cases, get_right}
use Rattle.ae_eval.proofs.Items.{slice_get-take}
use Rattle.ae_ops.specs.Waves.{Wave, AreNets, net_word, wave_of}
use Rattle.ae_ops.specs.Blocks.{Stream, AreBundles, BlockLaw, AllAreWords, AllHold, AreWords, HoldsWords, KeepsLaw, stream_of, stream_widths}
use Rattle.ae_rewrite.specs.StProgramTree.{StFuncTree, StNodeTree, body}
use Rattle.ae_rewrite.specs.Scheduled.{AreFilling, IsFilling}
use Rattle.ae_rewrite.specs.Sound.{item_layout, item_layouts}
use Rattle.ae_flow.specs.Flow.{Callee, callee, callee_at, element_count, first_result, item_words, mapped, op_words, words_at}
use Rattle.ae_flow.specs.Fitted.{FitsBody, elements_stream}
use Rattle.ae_ports.specs.Ports.{streams_of}
use Rattle.ae_flow.proofs.Widths.{repeated_mul}
use Rattle.ae_lower.specs.Parts.{plain_part, from_column, lane_waves, mapped_by, AllTake}
use Rattle.ae_lower.specs.Growth.{IsBuilt}
use Rattle.ae_lower.specs.Nodes.{arguments_of, node_part}
use Rattle.ae_lower.specs.Lowering.{IsItem, bodies_part, item_part, lane_nets}
use Rattle.ae_lower.proofs.Delaying.{nets_grow}
use Rattle.ae_lower.proofs.Spreading.{in_row, spread}
use Rattle.ae_lower.proofs.NodeLaw.{same_means}
use Rattle.ae_fold.proofs.Blocks.{slot_in}
use Rattle.ae_ports.proofs.Columns.{element_columns as widths_long}

-- ---- stretches of nets

pub get_drop_net : {X : Type 0} (k q : ℕ) (xs : List X) → slice_get (drop k xs) q ≡ slice_get xs (k + q)
get_drop_net zero q xs = ap (slice_get xs) (let e : q ≡ 0 + q = omega arith in e)
get_drop_net (suc k) q [] = refl
get_drop_net (suc k) q (x ∷ xs) = get_drop_net k q xs ∙ ap (slice_get (x ∷ xs)) (let e : suc (k + q) ≡ suc k + q = omega arith in e)

pub get_stretch : {X : Type 0} (n k q : ℕ) (xs : List X) → q < n → slice_get (take n (drop k xs)) q ≡ slice_get xs (k + q)
get_stretch n k q xs l = slice_get-take n q (drop k xs) l ∙ get_drop_net k q xs

stretch_wave : (run : List Clock) (start n k : ℕ) (nets : List NetId) (c q : ℕ) → q < n
    → wave_of run start (take n (drop k nets)) c q ≡ from_column k (wave_of run start nets) c q
unfolding wave_of
stretch_wave run start n k nets c q l = ap (net_word run (start + c)) (get_stretch n k q nets l)

pub get_repeated : (m : ℕ) (ws : List ℕ) (l q : ℕ) (w : ℕ) → l < m → slice_get ws q ≡ Some w → slice_get (repeated m ws) (l * length ws + q) ≡ Some w
get_repeated zero ws l q w h at = absurd (omega arith)
get_repeated (suc m) ws zero q w h at =
    ap (slice_get (ws ++ repeated m ws)) (let e : zero * length ws + q ≡ q = omega arith in e) ∙ get_left ws (repeated m ws) q w at
get_repeated (suc m) ws (suc l) q w h at =
    ap (slice_get (ws ++ repeated m ws)) (let e : suc l * length ws + q ≡ length ws + (l * length ws + q) = omega arith in e)
    ∙ (get_right ws (repeated m ws) (l * length ws + q) ∙ get_repeated m ws l q w (omega arith) at)

repeated_end : (n : ℕ) (ws : List ℕ) → repeated n ws ++ ws ≡ ws ++ repeated n ws
repeated_end zero ws = sym (append-empty ws) where
  append-empty : (xs : List ℕ) → xs ++ [] ≡ xs
  append-empty [] = refl
  append-empty (x ∷ xs) = ap (λ ys. x ∷ ys) (append-empty xs)
repeated_end (suc n) ws = assoc ws (repeated n ws) ws ∙ ap (λ ys. ws ++ ys) (repeated_end n ws) where
  assoc : (xs ys zs : List ℕ) → (xs ++ ys) ++ zs ≡ xs ++ (ys ++ zs)
  assoc [] ys zs = refl
  assoc (x ∷ xs) ys zs = ap (λ rest. x ∷ rest) (assoc xs ys zs)

nets_append : (cells : List SizedCell) (us vs : List ℕ) (xs ys : List NetId) → AreNets cells us xs → AreNets cells vs ys → AreNets cells (us ++ vs) (xs ++ ys)
nets_append cells us vs xs ys h g = record {
  long = length-append xs ys ∙ (let e : length xs + length ys ≡ length us + length vs = omega (arith, h.long, g.long) in e ∙ sym (length-append us vs));
  each = λ q w net fw fn. elim (get_append_cases us vs q w 0 fw) [
    | inl u ↦ elim (get_append_cases xs ys q net net fn) [
      | inl x ↦ h.each q w net u.1 x.1
      | inr x ↦ absurd (omega (arith, u.0, x.0, h.long))
    ]
    | inr u ↦ elim (get_append_cases xs ys q net net fn) [
      | inl x ↦ absurd (omega (arith, u.0, x.0, h.long))
      | inr x ↦
          let same : q - length xs ≡ q - length us = ap (λ n. q - n) h.long in
          g.each (q - length us) w net u.1 (ap (slice_get ys) (sym same) ∙ x.1)
    ]
  ];
}

-- ---- widths

-- the nets of a layout are as many as its columns
pub columns_long : (t : StTree) → length (stream_widths (stream_of t)) ≡ columns_of t
columns_long t = length-repeated (lanes t) (stream_of t).widths ∙ ap (λ n. lanes t * n) (widths_long t)

lanes_widths : (n m : ℕ) (t : StTree) → stream_widths (elements_stream n m t) ≡ repeated m (stream_widths (stream_of t))
lanes_widths n m t = repeated_mul m (lanes t) (stream_of t).widths

-- ---- what a body takes of the arguments

-- each argument has so many columns a lane
abbrev pub AllSpread : (m : ℕ) → List StTree → List (List NetId) → Type 0
AllSpread m [] [] = Unit {0}
AllSpread m (x ∷ xs) (b ∷ bs) = (length b / m ≡ columns_of x) × AllSpread m xs bs
AllSpread m _ _ = ⊥

all_spread : (cells : List SizedCell) (n m : ℕ) → 0 < m → (xs : List StTree) (bs : List (List NetId)) → AreBundles cells (map (elements_stream n m) xs) bs
    → AllSpread m xs bs
all_spread cells n m some [] [] h = tt
all_spread cells n m some [] (b ∷ bs) h = absurd (let e : length (b ∷ bs) ≡ 0 = h.long in omega arith)
all_spread cells n m some (x ∷ xs) [] h = absurd (let e : 0 ≡ suc (length (map (elements_stream n m) xs)) = h.long in omega arith)
all_spread cells n m some (x ∷ xs) (b ∷ bs) h =
    let own = h.each 0 (elements_stream n m x) b refl refl in
    let total : length b ≡ m * columns_of x = own.long ∙ (ap length (lanes_widths n m x) ∙
    (length-repeated m (stream_widths (stream_of x)) ∙ ap (λ i. m * i) (columns_long x))) in (
      ap (λ i. i / m) total ∙ mul-div_cancel_left (columns_of x) some,
      all_spread cells n m some xs bs (record {
        long = (let e : suc (length bs) ≡ suc (length (map (elements_stream n m) xs)) = h.long in omega arith);
        each = λ k s nets fs fn. h.each (suc k) s nets fs fn;
      }),
    )

-- the nets of a lane are a bundle for the body's parameter
lane_bundle : (cells : List SizedCell) (n m l : ℕ) (t : StTree) (nets : List NetId) → l < m → AreNets cells (stream_widths (elements_stream n m t)) nets
    → AreNets cells (stream_widths (stream_of t)) (lane_nets m l nets)
lane_bundle cells n m l t nets h own =
    let ws : List ℕ = stream_widths (stream_of t) in
    let C : ℕ = length ws in
    let some : 0 < m = omega arith in
    let total : length nets ≡ m * C = own.long ∙ (ap length (lanes_widths n m t) ∙ length-repeated m ws) in
    let cut : length nets / m ≡ C = ap (λ i. i / m) total ∙ mul-div_cancel_left C some in
    let up : (l + 1) * C ≤ m * C = mul-le-mul_right C (let z : l + 1 ≤ m = omega arith in z) in
    let ends : l * C + C ≤ length nets = omega (arith, total, up) in
    let made : AreNets cells ws (take C (drop (l * C) nets)) = record {
      long = length-take-le C (drop (l * C) nets) (omega (arith, length-drop (l * C) nets));
      each = λ q w net fw fn.
          let inside : q < C = slice_get_within ws q w fw in
          own.each (l * C + q) w net (ap (λ us. slice_get us (l * C + q)) (lanes_widths n m t) ∙ get_repeated m ws l q w h fw)
          (sym (get_stretch C (l * C) q nets inside) ∙ fn);
    } in
    subst (λ (i : ℕ). AreNets cells ws (take i (drop (l * i) nets))) (sym cut) made

pub lane_bundles : (cells : List SizedCell) (n m l : ℕ) (xs : List StTree) (bs : List (List NetId)) → l < m
    → AreBundles cells (map (elements_stream n m) xs) bs → AreBundles cells (streams_of xs) (map (lane_nets m l) bs)
lane_bundles cells n m l xs bs h own = record {
  long = length-map bs (lane_nets m l) ∙ (own.long ∙ (length-map xs (elements_stream n m) ∙ sym (length-map xs stream_of)));
  each = λ k s nets fs fn. each xs bs k s nets own fs fn;
} where
  each : (ys : List StTree) (cs : List (List NetId)) (k : ℕ) (s : Stream) (nets : List NetId) → AreBundles cells (map (elements_stream n m) ys) cs
      → slice_get (streams_of ys) k ≡ Some s → slice_get (map (lane_nets m l) cs) k ≡ Some nets → AreNets cells (stream_widths s) nets
  each [] cs k s nets g fs fn = absurd (none-some s fs)
  each (y ∷ ys) [] k s nets g fs fn = absurd (none-some nets fn)
  each (y ∷ ys) (c ∷ cs) zero s nets g fs fn =
      let es : stream_of y ≡ s = cc in
      let en : lane_nets m l c ≡ nets = cc in
      subst (λ (z : List NetId). AreNets cells (stream_widths s) z) en
      (subst (λ (z : Stream). AreNets cells (stream_widths z) (lane_nets m l c)) es
      (lane_bundle cells n m l y c h (g.each 0 (elements_stream n m y) c refl refl)))
  each (y ∷ ys) (c ∷ cs) (suc k) s nets g fs fn =
      each ys cs k s nets (record {
        long = (let e : suc (length cs) ≡ suc (length (map (elements_stream n m) ys)) = g.long in omega arith);
        each = λ i z ns fz fi. g.each (suc i) z ns fz fi;
      }) fs fn

-- ---- waves of stretches

hold_columns : (k : ℕ) (t : StTree) (v w : Wave) (ws : List ℕ) → IsInSize t → ((c q : ℕ) → q < columns_of t → v c q ≡ w c q) → HoldsWords k (stream_of t) v ws
    → HoldsWords k (stream_of t) w ws
hold_columns k t v w ws size same holds e j s at lt =
    let wide : length (stream_of t).widths ≡ element_words t = widths_long t in
    let lane : s.lane < lanes t = (slot_in t e s size at).1 in
    let inside : s.lane * element_words t + j < columns_of t = in_row s.lane (element_words t) j (lanes t) lane (omega (arith, wide)) in
    let place : s.lane * length (stream_of t).widths + j ≡ s.lane * element_words t + j = ap (λ i. s.lane * i + j) wide in
    sym (same (k + s.clock) (s.lane * length (stream_of t).widths + j) (rw place inside)) ∙ holds e j s at lt

lane_held : (run : List Clock) (start k m l : ℕ) (xs : List StTree) (bs : List (List NetId)) (vs : List (List ℕ))
    → ((i : ℕ) (x : StTree) → slice_get xs i ≡ Some x → IsInSize x) → AllSpread m xs bs
    → AllHold k (streams_of xs) (lane_waves l xs (map (wave_of run start) bs)) vs
    → AllHold k (streams_of xs) (map (wave_of run start) (map (lane_nets m l) bs)) vs
lane_held run start k m l [] [] vs size cut holds = holds
lane_held run start k m l [] (b ∷ bs) vs size cut holds = absurd cut
lane_held run start k m l (x ∷ xs) [] vs size cut holds = absurd cut
lane_held run start k m l (x ∷ xs) (b ∷ bs) [] size cut holds = absurd holds
lane_held run start k m l (x ∷ xs) (b ∷ bs) (v ∷ vs) size cut holds = (
  hold_columns k x (from_column (l * columns_of x) (wave_of run start b)) (wave_of run start (lane_nets m l b)) v (size 0 x refl)
      (λ c q h. (let e : length b / m ≡ columns_of x = cut.0 in
      subst (λ (i : ℕ). from_column (l * columns_of x) (wave_of run start b) c q ≡ wave_of run start (take i (drop (l * i) b)) c q) (sym e)
      (sym (stretch_wave run start (columns_of x) (l * columns_of x) b c q h)))) holds.0,
  lane_held run start k m l xs bs vs (λ i y f. size (suc i) y f) cut.1 holds.1,
)

-- ---- lane after lane

-- the layout of a callee's first result
abbrev pub result_layout : StFuncTree → StTree
result_layout f = item_layout (item_layouts f) (first_result f)

-- nets that are the first results of so many bodies, lane by lane
pub record AreLanes (cells : List SizedCell) (rst at : ℕ) (known : List Callee) (f : StFuncTree) (latency copies : ℕ) (args : List (List NetId)) (count : ℕ)
    (out : List NetId) : Type 0 where
  pub nets : AreNets cells (repeated count (stream_widths (stream_of (result_layout f)))) out
  pub each : (l : ℕ) → l < count → KeepsLaw cells rst at (item_part known f latency (first_result f)) (map (lane_nets copies l) args)
      (take (columns_of (result_layout f)) (drop (l * columns_of (result_layout f)) out))

pub no_lanes : (cells : List SizedCell) (rst at : ℕ) (known : List Callee) (f : StFuncTree) (latency copies : ℕ) (args : List (List NetId))
    → AreLanes cells rst at known f latency copies args 0 []
no_lanes cells rst at known f latency copies args =
    record { nets = record { long = refl; each = λ q w net fw fn. absurd (none-some w fw) }; each = λ l h. absurd (omega arith) }

pub more_lanes : (old new : List SizedCell) (rst at : ℕ) (known : List Callee) (f : StFuncTree) (latency copies : ℕ) (args : List (List NetId)) (count : ℕ)
    (out nets : List NetId) → Extends old new
    → IsItem new rst at known f (map (lane_nets copies count) args) latency (first_result f) nets → AreLanes old rst at known f latency copies args count out
    → AreLanes new rst at known f latency copies args (count + 1) (out ++ nets)
more_lanes old new rst at known f latency copies args count out nets g one was =
    let ws : List ℕ = stream_widths (stream_of (result_layout f)) in
    let C : ℕ = columns_of (result_layout f) in
    let wide : length ws ≡ C = columns_long (result_layout f) in
    let had : length out ≡ count * C = was.nets.long ∙ (length-repeated count ws ∙ ap (λ i. count * i) wide) in
    let own : length nets ≡ C = one.there.long ∙ wide in
    let s : count + 1 ≡ suc count = omega arith in
    record {
      nets = subst (λ (us : List ℕ). AreNets new us (out ++ nets)) (repeated_end count ws ∙ ap (λ i. repeated i ws) (sym s))
          (nets_append new (repeated count ws) ws out nets (nets_grow g was.nets) one.there);
      each = λ l h. elim (cases_lt l count) [
        | inl low ↦
            let up : (l + 1) * C ≤ count * C = mul-le-mul_right C (let z : l + 1 ≤ count = omega arith in z) in
            let ends : l * C + C ≤ length out = omega (arith, had, up) in
            let same : take C (drop (l * C) (out ++ nets)) ≡ take C (drop (l * C) out) =
            ap (take C) (drop-append-le (l * C) out nets (omega arith)) ∙ take-append-le C (drop (l * C) out) nets (omega (arith, length-drop (l * C) out)) in
            subst (λ (ns : List NetId). KeepsLaw new rst at (item_part known f latency (first_result f)) (map (lane_nets copies l) args) ns) (sym same)
            (λ all e run r. was.each l low all (extends_trans g e) run r)
        | inr high ↦
            let is : l ≡ count = omega (arith, h, high) in
            let place : l * C ≡ length out = ap (λ i. i * C) is ∙ sym had in
            let same : take C (drop (l * C) (out ++ nets)) ≡ nets = ap (λ i. take C (drop i (out ++ nets))) place ∙
            (ap (take C) (drop-append_seam out nets) ∙ take_all C nets (omega arith)) in
            subst (λ (ns : List NetId). KeepsLaw new rst at (item_part known f latency (first_result f)) (map (lane_nets copies l) args) ns) (sym same)
            (subst (λ (i : ℕ). KeepsLaw new rst at (item_part known f latency (first_result f)) (map (lane_nets copies i) args) nets) (sym is) one.law)
      ];
    }

-- bodies on all lanes
pub bodies_built : (new : Circuit) (cells : List SizedCell) (rst at : ℕ) (known : List Callee) (f : StFuncTree) (n m slots rounds latency : ℕ)
    (args : List (List NetId)) (out : List NetId) → 0 < m → slots ≤ rounds
    → AreFilling f.budget f.ins → IsFilling f.budget (result_layout f)
    → ((vs : List (List ℕ)) → AllAreWords (streams_of f.ins) vs → AreWords (stream_of (result_layout f)) (words_at (item_words known f vs) (first_result f)))
    → AreBundles cells (map (elements_stream n m) f.ins) args → AreLanes new.cells rst at known f latency m args m out
    → IsBuilt new rst at (bodies_part known f slots rounds m latency) args out
bodies_built new cells rst at known f n m slots rounds latency args out some few ins own fits bundles lanes_are =
    let y : StTree = result_layout f in
    let C : ℕ = columns_of y in
    let xs : List StTree = f.ins in
    let means : List (List ℕ) → List ℕ = (callee known f).flow in
    let size : (i : ℕ) (x : StTree) → slice_get xs i ≡ Some x → IsInSize x = λ i x found. (ins i x found).size in
    let cut : AllSpread m xs args = all_spread cells n m some xs args bundles in
    record {
      nets = rw (lanes_widths slots m y) lanes_are.nets;
      law = λ all e run r start reset.
          let W : List NetId → Wave = wave_of run start in
          spread (length run - start) at (rounds * f.budget) latency f.budget rounds slots m xs y means (map W args) (W out) refl few
          (all_take f.budget xs ins) own.time
          (λ vs words. (fits vs words).long ∙ (ap (λ i. i * length (stream_of y).widths) (length-slots y) ∙ ap (λ i. st_atoms y * i) (widths_long y)))
          (λ l h. record {
            makes = λ b vs ends words holds.
                let made = (lanes_are.each l h all e run r start reset).makes b vs ends words
                (lane_held run start (at + b * f.budget) m l xs args vs size cut holds) in
                hold_columns (at + latency + b * f.budget) y (W (take C (drop (l * C) out))) (from_column (l * C) (W out)) (means vs) own.size
                (λ c q inside. stretch_wave run start C (l * C) out c q inside) made;
          });
    } where
      all_take : (budget : ℕ) (zs : List StTree) → AreFilling budget zs → AllTake budget zs
      all_take budget [] h = tt
      all_take budget (z ∷ zs) h = ((h 0 z refl).time, all_take budget zs (λ i x found. h (suc i) x found))

-- ---- a node that is a body

-- bodies are what the node does
pub body_node : (new : Circuit) (rst at k latency : ℕ) (all known : List Callee) (s : StFuncTree) (n : StNodeTree) (f : StFuncTree) (args : List (List NetId))
    (out : List NetId)
    → n.op ≡ body k → callee_at all k ≡ callee known f → 0 < st_atoms (result_layout f) → (h : FitsBody s.budget n.copies (arguments_of s n) n.type f)
    → IsBuilt new rst at (bodies_part known f h.slots h.rounds n.copies latency) args out → IsBuilt new rst at (node_part all latency s n) args out
body_node new rst at k latency all known s n f args out op is some h built =
    let c : Callee = callee_at all k in
    let y : StTree = result_layout f in
    let lay : c.out ≡ y = ap (λ (z : Callee). z.out) is in
    let many : length (slots (tseq h.slots 0 (sseq n.copies y))) ≡ h.slots * n.copies * st_atoms y = length-slots (tseq h.slots 0 (sseq n.copies y)) ∙
    sym (mul_assoc h.slots n.copies (st_atoms y)) in
    let atoms : st_atoms n.type ≡ h.slots * n.copies * st_atoms y = sym (length-slots n.type) ∙ (ap (λ (z : Stream). length z.slots) h.out ∙ many) in
    let count : element_count c n.type ≡ h.slots * n.copies = ap (λ (z : StTree). st_atoms n.type / st_atoms z) lay ∙
    (ap (λ i. i / st_atoms y) atoms ∙ mul-div_cancel (h.slots * n.copies) some) in
    let means : (vs : List (List ℕ)) → mapped_by (callee known f).flow f.ins (h.slots * n.copies) vs ≡ op_words all (arguments_of s n) n.type n.op vs = λ vs.
    ap (λ (z : Callee). mapped z (h.slots * n.copies) vs) (sym is) ∙
    (ap (λ i. mapped c i vs) (sym count) ∙ ap (λ o. op_words all (arguments_of s n) n.type o vs) (sym op)) in
    record {
      nets = subst (λ (z : Stream). AreNets new.cells (stream_widths z) out) (sym h.out) built.nets;
      law = λ cells e run r start reset.
          let made = built.law cells e run r start reset in
          let M : List (List ℕ) → List ℕ = op_words all (arguments_of s n) n.type n.op in
          let P : ℕ → List Stream → Stream → Type 0 = λ t ss z. BlockLaw (length run - start) at (plain_part t latency ss z M) (map (wave_of run start) args)
          (wave_of run start out) in
          let same = same_means (length run - start) at (h.rounds * f.budget) latency (map (elements_stream h.slots n.copies) f.ins)
          (elements_stream h.slots n.copies y) _ (op_words all (arguments_of s n) n.type n.op) (map (wave_of run start) args) (wave_of run start out)
          (λ vs words. means vs) made in
          let placed : P (h.rounds * f.budget) (streams_of (arguments_of s n)) (elements_stream h.slots n.copies y) = subst
          (λ (ss : List Stream). P (h.rounds * f.budget) ss (elements_stream h.slots n.copies y)) (sym h.ins) same in
          subst (λ (t : ℕ). P t (streams_of (arguments_of s n)) (stream_of n.type)) h.clocks
          (subst (λ (z : Stream). P (h.rounds * f.budget) (streams_of (arguments_of s n)) z) (sym h.out) placed);
    }
