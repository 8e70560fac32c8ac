-- Operators on words and on pairs, moves and fixed words give words that fit.
use Rattle.std.proofs.Common.{◌≡◌, ℕ, ◌+◌, ◌-◌, ◌*◌, ◌/◌, ◌%◌, ◌<◌, ◌^◌, nat_lt, cond, Bool, true, false, List, [], ◌∷◌, ◌++◌, length, length-append, map, append-nil, Option, Some, None, slice_get, get_or, refl, ap, sym, ◌∙◌, arith, subst}
use Rattle.std.specs.Option.{option_map}
use Rattle.std.specs.List.{range_with_len}
use Rattle.std.proofs.lemmas.Nat.{pow_pos, mod-mul-add, mod_below}
use Rattle.std.proofs.lemmas.List.{map-append}
use Rattle.std.proofs.lemmas.List.FromFn.{length-map-range_with_len, get_or-map-range_with_len}
use Rattle.std.proofs.lemmas.Option.{none-some, same_Some, slice_get_within, slice_get-map, get_or_from_slice_get}
use Rattle.ae_word.specs.declared.op.WordOp.{WordOp}
use Rattle.ae_word.specs.declared.op.WordOp.TheVariants.{Not, Mux, Shl, Shr, Cast, Sar, SCast}
use Rattle.ae_word.specs.AtomTree.{WordKind, atom_kinds}
use Rattle.ae_word.specs.WordTable.{OperandsFit, result_width_of}
use Rattle.ae_netlist.proofs.Fits.{word_fits}
use Rattle.ae_seqtype.specs.SeqTree.{repeated}
use Rattle.ae_sttype.specs.StTree.{StTree, st_atoms, element_atom, element_words}
use Rattle.ae_sttype.specs.Slots.{slots}
use Rattle.ae_sttype.specs.Moves.{OriginTree, from_input, fixed as fixed_origin}
use Rattle.ae_sttype.proofs.Bounds.{element_words_pos}
use Rattle.ae_sttype.proofs.Places.{length-slots}
use Rattle.ae_ops.specs.Blocks.{Stream, AreWords, AllAreWords, stream_of}
use Rattle.ae_ops.specs.Words.{operand_widths, word_stream}
use Rattle.ae_rewrite.specs.declared.st_program.MoveOp.{MoveOp}
use Rattle.ae_rewrite.specs.declared.st_program.MoveOp.TheVariants.{Shift, Up, Select, Same}
use Rattle.ae_rewrite.specs.StProgramTree.{word, join, first, second, move}
use Rattle.ae_rewrite.specs.Sound.{FixedFits}
use Rattle.ae_delay.specs.Moving.{origin_number}
use Rattle.ae_gather.specs.Gathers.{origin_word}
use Rattle.ae_flow.specs.Flow.{Callee, op_words, words_at, width_of}
use Rattle.ae_flow.specs.Fitted.{FitsWord, FitsPair, FitsFirst, FitsSecond, FitsMove}
use Rattle.ae_ports.specs.Ports.{streams_of}
use Rattle.ae_flow.proofs.Widths.{FitWidths, fit_of, words_of, word_fit, pairs_fit, parts_fit}
use Rattle.ae_gather.proofs.GatherLaw.{length_widths as length-widths_of}

-- the widths of an element's words
abbrev pub widths_of : StTree → List ℕ
widths_of s = map (λ (k : WordKind). k.width) (atom_kinds (element_atom s))

-- ---- the words of several streams

pub first_words : (s : Stream) (ss : List Stream) (vs : List (List ℕ)) → AllAreWords (s ∷ ss) vs → AreWords s (words_at vs 0)
first_words s ss [] h = absurd h
first_words s ss (v ∷ vs) h = h.0

pub second_words : (s t : Stream) (ss : List Stream) (vs : List (List ℕ)) → AllAreWords (s ∷ t ∷ ss) vs → AreWords t (words_at vs 1)
second_words s t ss [] h = absurd h
second_words s t ss (v ∷ []) h = absurd h.1
second_words s t ss (v ∷ w ∷ vs) h = h.1.0

third_words : (s t u : Stream) (ss : List Stream) (vs : List (List ℕ)) → AllAreWords (s ∷ t ∷ u ∷ ss) vs → AreWords u (words_at vs 2)
third_words s t u ss [] h = absurd h
third_words s t u ss (v ∷ []) h = absurd h.1
third_words s t u ss (v ∷ w ∷ []) h = absurd h.1.1
third_words s t u ss (v ∷ w ∷ z ∷ vs) h = h.1.1.0

-- ---- a table of words

pub table_fits : (s : StTree) (f : ℕ → ℕ) → ((q w : ℕ) → q < st_atoms s * element_words s → slice_get (widths_of s) (q % length (widths_of s)) ≡ Some w
    → f q < 2 ^ w) → AreWords (stream_of s) (map f (range_with_len 0 (st_atoms s * element_words s)))
table_fits s f h =
    let n : ℕ = st_atoms s * element_words s in
    let many : length (map f (range_with_len 0 n)) ≡ n = length-map-range_with_len f 0 n in
    record {
      long = many ∙ (ap (λ i. i * element_words s) (sym (length-slots s)) ∙ ap (λ i. length (slots s) * i) (sym (length-widths_of s)));
      fit = λ i x w g e.
          let within : i < n = omega (arith, many, slice_get_within (map f (range_with_len 0 n)) i x g) in
          let is : f i ≡ x = sym (get_or-map-range_with_len f 0 n i i 0 within (omega arith)) ∙ get_or_from_slice_get (map f (range_with_len 0 n)) i x 0 g in
          rw (← is) (h i w within e);
    }

-- ---- operators on words

one_word : (w : ℕ) (v : List ℕ) → AreWords (word_stream w) v → get_or v 0 0 < 2 ^ w
one_word w v h = word_fit (word_stream w) v 0 w h refl

operands_fit : (op : WordOp) (w : ℕ) (vs : List (List ℕ)) → AllAreWords (map word_stream (operand_widths op w)) vs
    → OperandsFit op w (get_or (words_at vs 0) 0 0) (get_or (words_at vs 1) 0 0) (get_or (words_at vs 2) 0 0)
operands_fit Not w vs h = one_word w (words_at vs 0) (first_words (word_stream w) [] vs h)
operands_fit (Shl k) w vs h = one_word w (words_at vs 0) (first_words (word_stream w) [] vs h)
operands_fit (Shr k) w vs h = one_word w (words_at vs 0) (first_words (word_stream w) [] vs h)
operands_fit (Cast v) w vs h = one_word w (words_at vs 0) (first_words (word_stream w) [] vs h)
operands_fit (Sar k) w vs h = one_word w (words_at vs 0) (first_words (word_stream w) [] vs h)
operands_fit (SCast v) w vs h = one_word w (words_at vs 0) (first_words (word_stream w) [] vs h)
operands_fit Mux w vs h = (
  one_word 1 (words_at vs 0) (first_words (word_stream 1) (word_stream w ∷ word_stream w ∷ []) vs h),
  one_word w (words_at vs 1) (second_words (word_stream 1) (word_stream w) (word_stream w ∷ []) vs h),
  one_word w (words_at vs 2) (third_words (word_stream 1) (word_stream w) (word_stream w) [] vs h),
)
operands_fit _ w vs h = (
  one_word w (words_at vs 0) (first_words (word_stream w) (word_stream w ∷ []) vs h),
  one_word w (words_at vs 1) (second_words (word_stream w) (word_stream w) [] vs h),
)

result_fits : (w x : ℕ) → x < 2 ^ w → AreWords (word_stream w) (x ∷ [])
result_fits w x h = words_of (word_stream w) (x ∷ []) (h, tt)

pub word_words : (known : List Callee) (op : WordOp) (ins : List StTree) (s : StTree) (vs : List (List ℕ)) → FitsWord op ins s
    → AllAreWords (streams_of ins) vs → AreWords (stream_of s) (op_words known ins s (word op) vs)
word_words known op ins s vs h fit =
    let w : ℕ = width_of op ins in
    let operands = operands_fit op w vs (subst (λ (ss : List Stream). AllAreWords ss vs) h.ins fit) in
    subst (λ (z : Stream). AreWords z (op_words known ins s (word op) vs)) (sym h.out) (result_fits (result_width_of op w) _ (word_fits op w _ _ _ operands))

-- ---- pairs

-- words of a layout whose elements stand as those of another
rows_of : (a s : StTree) (widths v : List ℕ) → slots a ≡ slots s → widths_of a ≡ widths → AreWords (stream_of a) v → FitWidths v (repeated (st_atoms s) widths)
rows_of a s widths v same wide h =
    let n : length (slots a) ≡ st_atoms s = ap length same ∙ length-slots s in
    rw (← n, ← wide) (fit_of (stream_of a) v h)

pub words_from : (s : StTree) (v : List ℕ) → FitWidths v (repeated (st_atoms s) (widths_of s)) → AreWords (stream_of s) v
words_from s v h = words_of (stream_of s) v (rw (length-slots s) h)

pair_widths : (a b s : StTree) → FitsPair a b s → widths_of s ≡ widths_of a ++ widths_of b
pair_widths a b s h =
    ap (map (λ (k : WordKind). k.width)) h.kinds ∙ map-append (λ (k : WordKind). k.width) (atom_kinds (element_atom a)) (atom_kinds (element_atom b))

pub join_words : (known : List Callee) (a b s : StTree) (vs : List (List ℕ)) → FitsPair a b s → AllAreWords (stream_of a ∷ stream_of b ∷ []) vs
    → AreWords (stream_of s) (op_words known (a ∷ b ∷ []) s join vs)
join_words known a b s vs h fit =
    let us = rows_of a s (widths_of a) (words_at vs 0) h.first.slots refl (first_words (stream_of a) (stream_of b ∷ []) vs fit) in
    let ws = rows_of b s (widths_of b) (words_at vs 1) h.second.slots refl (second_words (stream_of a) (stream_of b) [] vs fit) in
    let both = pairs_fit (st_atoms s) (widths_of a) (widths_of b) (words_at vs 0) (words_at vs 1) us ws in
    words_from s (op_words known (a ∷ b ∷ []) s join vs) (rw (pair_widths a b s h, ← length-widths_of a, ← length-widths_of b) both)

pub first_part : (known : List Callee) (a s : StTree) (vs : List (List ℕ)) → FitsFirst s a → AllAreWords (stream_of a ∷ []) vs
    → AreWords (stream_of s) (op_words known (a ∷ []) s first vs)
first_part known a s vs h fit =
    let wide = pair_widths s h.other a h.pair in
    let rows = rows_of a s (widths_of s ++ widths_of h.other) (words_at vs 0) (sym h.pair.first.slots) wide (first_words (stream_of a) [] vs fit) in
    let all : element_words a ≡ length (widths_of s ++ widths_of h.other) = sym (length-widths_of a) ∙ ap length wide in
    words_from s (op_words known (a ∷ []) s first vs) (rw (all, ← length-widths_of s)
    (parts_fit (st_atoms s) [] (widths_of s) (widths_of h.other) (words_at vs 0) rows))

pub second_part : (known : List Callee) (a s : StTree) (vs : List (List ℕ)) → FitsSecond s a → AllAreWords (stream_of a ∷ []) vs
    → AreWords (stream_of s) (op_words known (a ∷ []) s second vs)
second_part known a s vs h fit =
    let front : List ℕ = widths_of h.other in
    let own : List ℕ = widths_of s in
    let wide : widths_of a ≡ front ++ (own ++ []) = pair_widths h.other s a h.pair ∙ ap (λ ys. front ++ ys) (sym (append-nil own)) in
    let rows = rows_of a s (front ++ (own ++ [])) (words_at vs 0) (sym h.pair.second.slots) wide (first_words (stream_of a) [] vs fit) in
    let all : element_words a ≡ length (front ++ (own ++ [])) = sym (length-widths_of a) ∙ ap length wide in
    let size : element_words s ≡ length own = sym (length-widths_of s) in
    let place : element_words a - element_words s ≡ length front = omega (arith, all, size, length-append front (own ++ []), length-append own []) in
    words_from s (op_words known (a ∷ []) s second vs) (rw (place, all, size) (parts_fit (st_atoms s) front own [] (words_at vs 0) rows))

-- ---- fixed words

pub fixed_words : (s : StTree) (ws : List ℕ) → FixedFits s ws → AreWords (stream_of s) ws
fixed_words s ws h = record {
  long = h.long ∙ (ap (λ i. i * element_words s) (sym (length-slots s)) ∙ ap (λ i. length (slots s) * i) (sym (length-widths_of s)));
  fit = λ i x w g e.
      let k = kind_at (slice_get (atom_kinds (element_atom s)) (i % length (widths_of s))) w
      (sym (slice_get-map (λ (k : WordKind). k.width) (atom_kinds (element_atom s)) (i % length (widths_of s))) ∙ e) in
      rw k.2 (h.fits i x k.0 g (ap (λ m. slice_get (atom_kinds (element_atom s)) (i % m)) (sym (length-widths_of s)) ∙ k.1));
}
  where
    kind_at : (o : Option WordKind) (w : ℕ) → option_map (λ (k : WordKind). k.width) o ≡ Some w → (k : WordKind) × (o ≡ Some k) × (w ≡ k.width)
    kind_at None w h = absurd (none-some w h)
    kind_at (Some k) w h = (k, refl, sym (same_Some k.width w h))

-- ---- moves

-- a word of the argument at the place in its element that the word of the result has
input_fits : (a s : StTree) (vs : List (List ℕ)) (e q w : ℕ) → element_atom a ≡ element_atom s → AreWords (stream_of a) (words_at vs 0)
    → slice_get (widths_of s) (q % length (widths_of s)) ≡ Some w
    → origin_word (a ∷ []) vs (from_input 0 e (q % element_words s)) < 2 ^ w
input_fits a s vs e q w same h at =
    let l : ℕ = element_words s in
    let words : element_words a ≡ l = rw same refl in
    let place : (e * l + q % l) % l ≡ q % l = mod-mul-add e l (q % l) (mod_below q l (element_words_pos s)) in
    let there : slice_get (widths_of s) ((e * l + q % l) % l) ≡ Some w = ap (slice_get (widths_of s)) place ∙
    (ap (λ m. slice_get (widths_of s) (q % m)) (sym (length-widths_of s)) ∙ at) in
    let own : widths_of a ≡ widths_of s = rw same refl in
    let found : slice_get (widths_of a) ((e * element_words a + q % l) % length (widths_of a)) ≡ Some w = rw (own, length-widths_of s, words) there in
    word_fit (stream_of a) (words_at vs 0) (e * element_words a + q % l) w h found

either_fits : (b : Bool) (ins : List StTree) (vs : List (List ℕ)) (o : OriginTree) (w : ℕ) → origin_word ins vs o < 2 ^ w
    → origin_word ins vs (cond b (fixed_origin 0) o) < 2 ^ w
either_fits true ins vs o w h = pow_pos w
either_fits false ins vs o w h = h

origin_fits : (how : MoveOp) (a s : StTree) (vs : List (List ℕ)) (q w : ℕ) → element_atom a ≡ element_atom s → AreWords (stream_of a) (words_at vs 0)
    → slice_get (widths_of s) (q % length (widths_of s)) ≡ Some w
    → origin_word (a ∷ []) vs (origin_number how a s q) < 2 ^ w
origin_fits (Shift k) a s vs q w same h at =
    let e : ℕ = q / element_words s in
    either_fits (nat_lt e k) (a ∷ []) vs (from_input 0 (e - k) (q % element_words s)) w (input_fits a s vs (e - k) q w same h at)
origin_fits (Up c) a s vs q w same h at = input_fits a s vs (q / element_words s % st_atoms a) q w same h at
origin_fits (Select k) a s vs q w same h at = input_fits a s vs (k * st_atoms s + q / element_words s) q w same h at
origin_fits Same a s vs q w same h at = input_fits a s vs (q / element_words s) q w same h at

map_twice : {X : Type 0} (f : X → ℕ) (g : ℕ → X) (xs : List ℕ) → map f (map g xs) ≡ map (λ i. f (g i)) xs
map_twice f g [] = refl
map_twice f g (x ∷ xs) = ap (λ ys. f (g x) ∷ ys) (map_twice f g xs)

pub move_words : (known : List Callee) (how : MoveOp) (a s : StTree) (vs : List (List ℕ)) → FitsMove how a s → AllAreWords (stream_of a ∷ []) vs
    → AreWords (stream_of s) (op_words known (a ∷ []) s (move how) vs)
move_words known how a s vs h fit =
    let words = table_fits s (λ q. origin_word (a ∷ []) vs (origin_number how a s q))
    (λ q w below at. origin_fits how a s vs q w h.0 (first_words (stream_of a) [] vs fit) at) in
    rw (map_twice (origin_word (a ∷ []) vs) (origin_number how a s) (range_with_len 0 (st_atoms s * element_words s))) words
