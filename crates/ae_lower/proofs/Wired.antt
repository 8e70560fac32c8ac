-- Pairs and parts of elements: wires that keep the law of a node.
use Rattle.std.proofs.Common.{ℕ, zero, suc, ◌≡◌, ◌+◌, ◌-◌, ◌*◌, ◌/◌, ◌%◌, ◌<◌, ◌≤◌, inl, inr, List, [], ◌∷◌, ◌++◌, length, length-append, Some, slice_get, option_map, arith, refl, sym, ap, ◌∙◌}
use Rattle.std.proofs.lemmas.Nat.{div_below, mod_below, div-add-mod'}
use Rattle.std.proofs.lemmas.Bool.{cases_lt}
use Rattle.std.proofs.lemmas.Option.{slice_get_within}
use Rattle.std.specs.Prelude.{unwrap_or}
use Rattle.ae_word.specs.AtomTree.{WordKind, atom_kinds}
use Rattle.ae_word.proofs.Sizes.{length-atom_kinds}
use Rattle.ae_netlist.specs.declared.cell.NetId.{NetId}
use Rattle.ae_netlist.specs.declared.cell.SizedCell.{SizedCell}
use Rattle.ae_netlist.specs.Runs.{Clock}
use Rattle.ae_sttype.specs.StTree.{StTree, lanes, st_atoms, element_atom, element_words}
use Rattle.ae_sttype.specs.Size.{IsInSize}
use Rattle.ae_sttype.specs.Slots.{slots}
use Rattle.ae_sttype.proofs.Bounds.{element_words_pos}
use Rattle.ae_sttype.proofs.Places.{length-slots, slot_below, slot_of}
use Rattle.ae_moves.specs.Origins.{width_at}
use Rattle.ae_eval.specs.Stack.{paired}
use Rattle.ae_ops.specs.Waves.{AreNets, net_word, wave_of}
use Rattle.ae_ops.specs.Blocks.{Stream, KeepsLaw, stream_of, stream_widths}
use Rattle.ae_gather.proofs.GatherLaw.{length_stream, widths_at, length_widths}
use Rattle.ae_gather.proofs.OneList.{get_right}
use Rattle.ae_flow.specs.Flow.{parts, words_at}
use Rattle.ae_flow.specs.Fitted.{FitsFirst, FitsPair, FitsSecond}
use Rattle.ae_lower.specs.Parts.{plain_part}
use Rattle.ae_lower.specs.Wiring.{ArePairs, AreParts}
use Rattle.ae_lower.proofs.Streams.{widths_of}
use Rattle.ae_lower.proofs.WireLaws.{AreOnLanes, ArePaired, IsPartOf, pairs_law, parts_law}

abbrev kinds_of : StTree → List WordKind
kinds_of s = atom_kinds (element_atom s)

on_lanes : (s : StTree) → IsInSize s → AreOnLanes (lanes s) (slots s)
on_lanes s size = record {
  each = λ e w found.
      let low : e < st_atoms s = omega (arith, slice_get_within (slots s) e w found, length-slots s) in
      let is : slot_of s e ≡ w = ap (λ o. unwrap_or o (record { clock = 0; lane = 0 })) found in
      rw is at (slot_below s size.lengths e low).1;
}

-- a layout whose elements stand where those of another do
stream_as : (a s : StTree) → slots a ≡ slots s → lanes a ≡ lanes s
    → ◌≡◌ {A = Stream} (stream_of a) (record { slots = slots s; lanes = lanes s; widths = widths_of a })
stream_as a s es el = rw (es, el) refl

left_kind : (xs ys : List WordKind) (j : ℕ) → j < length xs → slice_get (xs ++ ys) j ≡ slice_get xs j
left_kind [] ys j h = absurd (omega (arith, h))
left_kind (x ∷ xs) ys zero h = refl
left_kind (x ∷ xs) ys (suc j) h = left_kind xs ys j (let more : length (x ∷ xs) ≡ suc (length xs) = omega arith in omega (arith, h, more))

-- ---- parts

-- the words of an element of one layout are some of those of the other, from one on
pub record IsPartIn (s whole : StTree) (o : ℕ) : Type 0 where
  pub slots : slots s ≡ slots whole
  pub lanes : lanes s ≡ lanes whole
  pub inside : o + element_words s ≤ element_words whole
  pub kinds : (j : ℕ) → j < element_words s → slice_get (atom_kinds (element_atom s)) j ≡ slice_get (atom_kinds (element_atom whole)) (o + j)

words_of_both : (a b s : StTree) → kinds_of s ≡ kinds_of a ++ kinds_of b → element_words s ≡ element_words a + element_words b
words_of_both a b s e =
    let all : length (kinds_of s) ≡ length (kinds_of a) + length (kinds_of b) = ap length e ∙ length-append (kinds_of a) (kinds_of b) in
    omega (arith, all, length-atom_kinds (element_atom s), length-atom_kinds (element_atom a), length-atom_kinds (element_atom b))

pub first_in : (s whole : StTree) → FitsFirst s whole → IsPartIn s whole 0
first_in s whole h = record {
  slots = h.pair.first.slots;
  lanes = h.pair.first.lanes;
  inside = omega (arith, words_of_both s h.other whole h.pair.kinds);
  kinds = λ j low.
      let z : 0 + j ≡ j = omega arith in
      sym (ap (slice_get (kinds_of whole)) z ∙ (ap (λ ks. slice_get ks j) h.pair.kinds ∙
      left_kind (kinds_of s) (kinds_of h.other) j (omega (arith, low, length-atom_kinds (element_atom s)))));
}

pub second_in : (s whole : StTree) → FitsSecond s whole → IsPartIn s whole (element_words whole - element_words s)
second_in s whole h =
    let sum : element_words whole ≡ element_words h.other + element_words s = words_of_both h.other s whole h.pair.kinds in record {
      slots = h.pair.second.slots;
      lanes = h.pair.second.lanes;
      inside = omega (arith, sum);
      kinds = λ j low.
          let place : element_words whole - element_words s + j ≡ length
          (kinds_of h.other) + j = omega (arith, sum, length-atom_kinds (element_atom h.other)) in
          sym (ap (slice_get (kinds_of whole)) place ∙ (ap (λ ks. slice_get ks (length (kinds_of h.other) + j)) h.pair.kinds ∙
          get_right (kinds_of h.other) (kinds_of s) j));
    }

same_width : (s whole : StTree) (o j : ℕ) → IsPartIn s whole o → j < element_words s → width_at s j ≡ width_at whole (o + j)
same_width s whole o j h low = ap (option_map (λ (k : WordKind). k.width)) (h.kinds j low)

pub part_nets : (cells : List SizedCell) (s whole : StTree) (o : ℕ) (nets y : List NetId) → IsPartIn s whole o
    → AreNets cells (stream_widths (stream_of whole)) nets → AreParts nets (lanes s) (element_words whole) o (element_words s) y
    → AreNets cells (stream_widths (stream_of s)) y
part_nets cells s whole o nets y h there are = record {
  long = are.long ∙ sym (length_stream s);
  each = λ q width net fw fn.
      let w : ℕ = element_words s in
      let low : q < lanes s * w = omega (arith, slice_get_within (stream_widths (stream_of s)) q width fw, length_stream s) in
      let e : ℕ = q / w in
      let j : ℕ = q % w in
      let le : e < lanes s = div_below q w (lanes s) (element_words_pos s) low in
      let lj : j < w = mod_below q w (element_words_pos s) in
      let place : e * w + j ≡ q = div-add-mod' q w in
      let own : width_at s j ≡ Some width = sym (widths_at s e j le lj) ∙ (ap (slice_get (stream_widths (stream_of s))) place ∙ fw) in
      let far : o + j < element_words whole = omega (arith, lj, h.inside) in
      let wide : slice_get (stream_widths (stream_of whole)) (e * element_words whole + (o + j)) ≡ Some width = widths_at whole e (o + j)
      (omega (arith, le, h.lanes)) far ∙ (sym (same_width s whole o j h lj) ∙ own) in
      let found : slice_get nets (e * element_words whole + (o + j)) ≡ Some net = sym (are.each e j le lj) ∙ (ap (slice_get y) place ∙ fn) in
      there.each (e * element_words whole + (o + j)) width net wide found;
}

part_waves : (run : List Clock) (start n k o l : ℕ) (nets y : List NetId) → AreParts nets n k o l y
    → IsPartOf n k o l (wave_of run start nets) (wave_of run start y)
unfolding wave_of
part_waves run start n k o l nets y h = record { each = λ c e j le lj. ap (net_word run (start + c)) (h.each e j le lj) }

pub part_keeps : (cells : List SizedCell) (rst at budget : ℕ) (s whole : StTree) (o : ℕ) (nets y : List NetId) → IsInSize s → IsPartIn s whole o
    → AreParts nets (lanes s) (element_words whole) o (element_words s) y
    → KeepsLaw cells rst at (plain_part budget 0 (stream_of whole ∷ []) (stream_of s)
    (λ vs. parts (st_atoms s) (element_words whole) o (element_words s) (words_at vs 0))) (nets ∷ []) y
part_keeps cells rst at budget s whole o nets y size h are = λ all e run r start reset.
    rw (stream_as whole s (sym h.slots) (sym h.lanes))
    (parts_law (length run - start) at budget (lanes s) (element_words whole) o (element_words s) (st_atoms s) (lanes s) (widths_of whole) (widths_of s)
    (slots s) (wave_of run start nets) (wave_of run start y)
    (length_widths whole) (length_widths s) h.inside (sym (length-slots s)) (on_lanes s size)
    (part_waves run start (lanes s) (element_words whole) o (element_words s) nets y are))

-- ---- pairs

-- each of a pair is a part of it
first_of_pair : (a b s : StTree) → FitsPair a b s → IsPartIn a s 0
first_of_pair a b s h = first_in a s (record { other = b; pair = h })

second_of_pair : (a b s : StTree) → FitsPair a b s → IsPartIn b s (element_words s - element_words b)
second_of_pair a b s h = second_in b s (record { other = a; pair = h })

pub pair_nets : (cells : List SizedCell) (a b s : StTree) (first second y : List NetId) → FitsPair a b s → AreNets cells (stream_widths (stream_of a)) first
    → AreNets cells (stream_widths (stream_of b)) second
    → ArePairs first second (lanes s) (element_words a) (element_words b) y → AreNets cells (stream_widths (stream_of s)) y
pair_nets cells a b s first second y fits ones twos are =
    let k : ℕ = element_words a in
    let l : ℕ = element_words b in
    let sum : element_words s ≡ k + l = words_of_both a b s fits.kinds in record {
      long = are.long ∙ (ap (λ n. lanes s * n) (sym sum) ∙ sym (length_stream s));
      each = λ q width net fw fn.
          let w : ℕ = element_words s in
          let low : q < lanes s * w = omega (arith, slice_get_within (stream_widths (stream_of s)) q width fw, length_stream s) in
          let e : ℕ = q / w in
          let j : ℕ = q % w in
          let le : e < lanes s = div_below q w (lanes s) (element_words_pos s) low in
          let lj : j < w = mod_below q w (element_words_pos s) in
          let place : e * w + j ≡ q = div-add-mod' q w in
          let split : e * (k + l) + j ≡ q = ap (λ n. e * n + j) (sym sum) ∙ place in
          let own : width_at s j ≡ Some width = sym (widths_at s e j le lj) ∙ (ap (slice_get (stream_widths (stream_of s))) place ∙ fw) in
          elim (cases_lt j k) [
            | inl near ↦
                let z : 0 + j ≡ j = omega arith in
                let wide : width_at a j ≡ Some width = same_width a s 0 j (first_of_pair a b s fits) near ∙ (ap (width_at s) z ∙ own) in
                let found : slice_get first (e * k + j) ≡ Some net = sym (are.firsts e j le near) ∙ (ap (slice_get y) split ∙ fn) in
                ones.each (e * k + j) width net (widths_at a e j (omega (arith, le, fits.first.lanes)) near ∙ wide) found
            | inr far ↦
                let i : ℕ = j - k in
                let li : i < l = omega (arith, lj, sum, far) in
                let back : k + i ≡ j = omega (arith, far) in
                let z : element_words s - l + i ≡ j = omega (arith, sum, far) in
                let wide : width_at b i ≡ Some width = same_width b s (element_words s - l) i (second_of_pair a b s fits) li ∙ (ap (width_at s) z ∙ own) in
                let found : slice_get second (e * l + i) ≡ Some net = sym (are.seconds e i le li) ∙
                (ap (λ n. slice_get y (e * (k + l) + n)) back ∙ (ap (slice_get y) split ∙ fn)) in
                twos.each (e * l + i) width net (widths_at b e i (omega (arith, le, fits.second.lanes)) li ∙ wide) found
          ];
    }

pair_waves : (run : List Clock) (start n k l : ℕ) (first second y : List NetId) → ArePairs first second n k l y
    → ArePaired n k l (wave_of run start first) (wave_of run start second) (wave_of run start y)
unfolding wave_of
pair_waves run start n k l first second y h = record {
  firsts = λ c e j le lj. ap (net_word run (start + c)) (h.firsts e j le lj);
  seconds = λ c e j le lj. ap (net_word run (start + c)) (h.seconds e j le lj);
}

pub pair_keeps : (cells : List SizedCell) (rst at budget : ℕ) (a b s : StTree) (first second y : List NetId) → IsInSize s → FitsPair a b s
    → ArePairs first second (lanes s) (element_words a) (element_words b) y
    → KeepsLaw cells rst at (plain_part budget 0 (stream_of a ∷ stream_of b ∷ []) (stream_of s)
    (λ vs. paired (st_atoms s) (element_words a) (element_words b) (words_at vs 0) (words_at vs 1))) (first ∷ second ∷ []) y
pair_keeps cells rst at budget a b s first second y size fits are = λ all e run r start reset.
    rw (stream_as a s fits.first.slots fits.first.lanes, stream_as b s fits.second.slots fits.second.lanes)
    (pairs_law (length run - start) at budget (lanes s) (element_words a) (element_words b) (st_atoms s) (lanes s) (widths_of a) (widths_of b) (widths_of s)
    (slots s) (wave_of run start first) (wave_of run start second) (wave_of run start y)
    (length_widths a) (length_widths b) (length_widths s ∙ words_of_both a b s fits.kinds) (sym (length-slots s)) (on_lanes s size)
    (pair_waves run start (lanes s) (element_words a) (element_words b) first second y are))
