-- An operator on words keeps the law of blocks.
use Rattle.std.proofs.Common.{ℕ, zero, suc, ◌≡◌, ◌+◌, ◌-◌, ◌*◌, ◌<◌, ◌≤◌, ◌^◌, List, ◌∷◌, [], length, map, Some, slice_get, get_or, arith, refl, sym, ap, ◌∙◌, subst}
use Rattle.std.proofs.Math.Nat.{add-mul}
use Rattle.std.proofs.lemmas.List.{length-map}
use Rattle.std.proofs.lemmas.Option.{slice_get_within, slice_get-get_or, unwrap_or-slice_get}
use Rattle.std.specs.Prelude.{unwrap_or}
use Rattle.ae_word.specs.declared.op.WordOp.{WordOp}
use Rattle.ae_word.specs.declared.op.WordOp.TheVariants.{Mux, Not, Shl, Shr, Cast, Sar, SCast}
use Rattle.ae_word.specs.WordTable.{latency_of, word_result}
use Rattle.ae_sttype.specs.declared.st_type.Slot.{Slot}
use Rattle.ae_sttype.specs.Holds.{Holds}
use Rattle.ae_netlist.specs.declared.cell.NetId.{NetId}
use Rattle.ae_netlist.specs.declared.cell.SizedCell.{SizedCell}
use Rattle.ae_netlist.specs.Circuit.{Circuit, Extends, IsNet, OperandsAre, operand}
use Rattle.ae_netlist.specs.Runs.{Clock, InEveryResetRun, InEveryRun, word_at}
use Rattle.ae_netlist.proofs.Growing.{extends_trans, net_later}
use Rattle.ae_gates.specs.Cells.{Grows}
use Rattle.ae_clocked.specs.Delays.{IsTap}
use Rattle.ae_ops.specs.Waves.{AreNets, wave_of}
use Rattle.ae_ops.specs.Blocks.{AllAreWords, AllHold, AreBundles, KeepsLaw, Stream, stream_widths}
use Rattle.ae_ops.specs.Words.{IsResultLater, first_net, operand_widths, operands_of, picked, word_of, word_part, word_stream}

-- ---- one word

one_slot : (wave : ℕ → ℕ → ℕ) (k : ℕ) (ws : List ℕ) → wave k 0 ≡ get_or ws 0 0 → Holds wave k 1 ((record { clock = 0; lane = 0 }) ∷ []) ws
one_slot wave k ws h zero zero slot found small =
    let s : record { clock = 0; lane = 0 } ≡ slot = cc in
    let t : k + 0 ≡ k = omega arith in
    let u : wave k 0 ≡ unwrap_or (slice_get ws 0) 0 = rw (unwrap_or-slice_get ws 0 0) h in
    subst (λ (i : Slot). wave (k + i.clock) (i.lane * 1 + 0) ≡ unwrap_or (slice_get ws (0 * 1 + 0)) 0) s (rw t u)
one_slot wave k ws h zero (suc j) slot found small = absurd (omega arith)
one_slot wave k ws h (suc e) j slot found small = cc

slot_held : (wave : ℕ → ℕ → ℕ) (k : ℕ) (ws : List ℕ) → Holds wave k 1 ((record { clock = 0; lane = 0 }) ∷ []) ws → wave k 0 ≡ get_or ws 0 0
slot_held wave k ws h = let t : k + 0 ≡ k = omega arith in
    (rw t at (h 0 0 (record { clock = 0; lane = 0 }) refl (omega arith))) ∙ unwrap_or-slice_get ws 0 0

-- ---- values and nets, operand by operand

value_at : (ws : List ℕ) (vs : List (List ℕ)) → AllAreWords (map word_stream ws) vs → (i w : ℕ) → slice_get ws i ≡ Some w → word_of vs i < 2 ^ w
value_at [] vs h i w f = cc
value_at (u ∷ ws) [] h i w f = absurd h
value_at (u ∷ ws) (v ∷ vs) h zero w f =
    let e : u ≡ w = cc in
    let l : length v ≡ 1 = h.0.long in
    let there : slice_get v 0 ≡ Some (get_or v 0 0) = slice_get-get_or v 0 0 (omega arith) in
    h.0.fit 0 (get_or v 0 0) w there (ap Some e)
value_at (u ∷ ws) (v ∷ vs) h (suc i) w f = value_at ws vs h.1 i w f

first_word : (run : List Clock) (start k : ℕ) (nets : List NetId) (a : NetId) → slice_get nets 0 ≡ Some a
    → wave_of run start nets k 0 ≡ word_at run (start + k) a.0
unfolding wave_of
first_word run start k nets a f = rw f refl

held_at : (run : List Clock) (start k : ℕ) (ws : List ℕ) (ins : List (List NetId)) (vs : List (List ℕ))
    → AllHold k (map word_stream ws) (map (wave_of run start) ins) vs
    → (i w : ℕ) (a : NetId) → slice_get ws i ≡ Some w → slice_get (get_or ins i []) 0 ≡ Some a → word_at run (start + k) a.0 ≡ word_of vs i
held_at run start k [] ins vs h i w a f g = cc
held_at run start k (u ∷ ws) [] vs h i w a f g = absurd h
held_at run start k (u ∷ ws) (nets ∷ ins) [] h i w a f g = absurd h
held_at run start k (u ∷ ws) (nets ∷ ins) (v ∷ vs) h zero w a f g =
    sym (first_word run start k nets a g) ∙ slot_held (wave_of run start nets) k v h.0
held_at run start k (u ∷ ws) (nets ∷ ins) (v ∷ vs) h (suc i) w a f g = held_at run start k ws ins vs h.1 i w a f g

mapped : {X Y : Type 0} (f : X → Y) (xs : List X) (i : ℕ) (x : X) → slice_get xs i ≡ Some x → slice_get (map f xs) i ≡ Some (f x)
mapped f [] i x h = cc
mapped f (y ∷ xs) zero x h = let e : y ≡ x = cc in ap (λ z. Some (f z)) e
mapped f (y ∷ xs) (suc i) x h = mapped f xs i x h

length_mapped : {X Y : Type 0} (f : X → Y) (xs : List X) → length (map f xs) ≡ length xs
length_mapped f xs = length-map xs f

-- the first net of a bundle
pub first_there : (cells : List SizedCell) (ws : List ℕ) (ins : List (List NetId)) → AreBundles cells (map word_stream ws) ins → (i w : ℕ)
    → slice_get ws i ≡ Some w
    → (slice_get (get_or ins i []) 0 ≡ Some (first_net ins i)) × IsNet cells (first_net ins i).0 w
first_there cells ws ins h i w f =
    let l : i < length ws = slice_get_within ws i w f in
    let s : length ins ≡ length (map word_stream ws) = h.long in
    let m : length (map word_stream ws) ≡ length ws = length_mapped word_stream ws in
    let there : slice_get ins i ≡ Some (get_or ins i []) = slice_get-get_or ins i [] (omega arith) in
    let nets = (h.each i (word_stream w) (get_or ins i []) (mapped word_stream ws i w f) there) in
    let one : length (get_or ins i []) ≡ 1 = nets.long in
    let net : slice_get (get_or ins i []) 0 ≡ Some (first_net ins i) = slice_get-get_or (get_or ins i []) 0 (record { 0 = 0 }) (omega arith) in
    (net, nets.each 0 w (first_net ins i) refl net)

pub some_nets : (cells : List SizedCell) (ws : List ℕ) (ins : List (List NetId)) → AreBundles cells (map word_stream ws) ins → (i : ℕ) → i < length ins
    → 0 < length (get_or ins i [])
some_nets cells ws ins h i l =
    let s : length ins ≡ length (map word_stream ws) = h.long in
    let m : length (map word_stream ws) ≡ length ws = length_mapped word_stream ws in
    slice_get_within (get_or ins i []) 0 _ (first_there cells ws ins h i (get_or ws i 0) (slice_get-get_or ws i 0 (omega arith))).0

-- ---- operator by operator

pub operands_ready : (cells : List SizedCell) (op : WordOp) (w : ℕ) (ins : List (List NetId)) → AreBundles cells (map word_stream (operand_widths op w)) ins
    → OperandsAre op (IsNet cells) (operands_of op ins) w
operands_ready cells Mux w ins h = let at = first_there cells (operand_widths Mux w) ins h in ((at 0 1 refl).1, (at 1 w refl).1, (at 2 w refl).1)
operands_ready cells Not w ins h = let a = (first_there cells (operand_widths Not w) ins h 0 w refl).1 in (a, a, a)
operands_ready cells (Shl k) w ins h = let a = (first_there cells (operand_widths (Shl k) w) ins h 0 w refl).1 in (a, a, a)
operands_ready cells (Shr k) w ins h = let a = (first_there cells (operand_widths (Shr k) w) ins h 0 w refl).1 in (a, a, a)
operands_ready cells (Cast v) w ins h = let a = (first_there cells (operand_widths (Cast v) w) ins h 0 w refl).1 in (a, a, a)
operands_ready cells (Sar k) w ins h = let a = (first_there cells (operand_widths (Sar k) w) ins h 0 w refl).1 in (a, a, a)
operands_ready cells (SCast v) w ins h = let a = (first_there cells (operand_widths (SCast v) w) ins h 0 w refl).1 in (a, a, a)
operands_ready cells op w ins h = let at = first_there cells (operand_widths op w) ins h in ((at 0 w refl).1, (at 1 w refl).1, (at 0 w refl).1)

words_same : (op : WordOp) (w : ℕ) (word : NetId → ℕ) (ins : List (List NetId)) (vs : List (List ℕ))
    → ((i v : ℕ) → slice_get (operand_widths op w) i ≡ Some v → word (first_net ins i) ≡ word_of vs i)
    → word_result op w (word (picked op ins 0)) (word (picked op ins 1)) (word (picked op ins 2)) ≡ word_result op w (word_of vs 0) (word_of vs 1)
    (word_of vs 2)
words_same Mux w word ins vs h = rw (h 0 1 refl, h 1 w refl, h 2 w refl) refl
words_same Not w word ins vs h = rw (h 0 w refl) refl
words_same (Shl k) w word ins vs h = rw (h 0 w refl) refl
words_same (Shr k) w word ins vs h = rw (h 0 w refl) refl
words_same (Cast v) w word ins vs h = rw (h 0 w refl) refl
words_same (Sar k) w word ins vs h = rw (h 0 w refl) refl
words_same (SCast v) w word ins vs h = rw (h 0 w refl) refl
words_same op w word ins vs h = rw (h 0 w refl, h 1 w refl) refl

-- ---- the law

-- net y has, from clock d after reset on, the result of the words that the operands had d clocks before
abbrev pub Computes : List SizedCell → (rst : ℕ) → WordOp → (w d : ℕ) → List NetId → ℕ → Type 0
Computes cells rst op w d args y = InEveryResetRun cells rst (λ run start.
    (c : ℕ) → d ≤ c → start + c < length run
    → word_at run (start + c) y ≡ word_result op w (word_at run (start + (c - d)) (operand args 0)) (word_at run (start + (c - d)) (operand args 1))
    (word_at run (start + (c - d)) (operand args 2)))

-- by a result that comes so many clocks later, and a tap with the rest of the delay
pub computed : (mid new : Circuit) (rst v w d early : ℕ) (op : WordOp) (args : List NetId) (made y : NetId) → early ≤ d → Grows mid new
    → InEveryRun mid.cells (λ run. IsResultLater run made.0 early op w args)
    → IsTap new.cells rst v made.0 (d - early) y.0 → Computes new.cells rst op w d args y.0
computed mid new rst v w d early op args made y small grows result tap = λ all e run r start reset c le l.
    let s : start + (c - (d - early)) ≡ start + (c - d) + early = omega arith in
    (tap.words all e run r start reset c (omega arith) l ∙ ap (λ n. word_at run n made.0) s) ∙
    result all (extends_trans grows.extends e) run r (start + (c - d)) (omega arith)

word_law : (cells : List SizedCell) (rst arrival w p : ℕ) (op : WordOp) (ins : List (List NetId)) (y : NetId) → 1 ≤ p
    → AreBundles cells (map word_stream (operand_widths op w)) ins
    → Computes cells rst op w (latency_of op) (operands_of op ins) y.0 → KeepsLaw cells rst arrival (word_part op w p) ins (y ∷ [])
word_law cells rst arrival w p op ins y some bundles made = λ all e run r start reset. record {
  makes = λ b vs long fits given.
      let d : ℕ = latency_of op in
      let k : ℕ = arrival + b * p in
      let c : ℕ = arrival + d + b * p in
      let whole : (b + 1) * p ≡ b * p + 1 * p = add-mul b 1 p in
      let l : start + c < length run = omega (arith, whole) in
      let back : start + (c - d) ≡ start + k = omega arith in
      let same = words_same op w (λ (n : NetId). word_at run (start + k) n.0) ins vs
      (λ i v f. held_at run start k (operand_widths op w) ins vs given i v (first_net ins i) f (first_there cells (operand_widths op w) ins bundles i v f).0) in
      let word = rw back at (made all e run r start reset c (omega arith) l) in
      one_slot (wave_of run start (y ∷ [])) c (word_result op w (word_of vs 0) (word_of vs 1) (word_of vs 2) ∷ [])
      (first_word run start c (y ∷ []) y refl ∙ (word ∙ same));
}

pub each_one : (cells : List SizedCell) (w : ℕ) (y : NetId) → IsNet cells y.0 w → (q width : ℕ) (net : NetId) → slice_get (w ∷ []) q ≡ Some width
    → slice_get (y ∷ []) q ≡ Some net → IsNet cells net.0 width
each_one cells w y h zero width net f g =
    let e : w ≡ width = cc in
    let n : y ≡ net = cc in
    subst (λ (v : ℕ). IsNet cells net.0 v) e (subst (λ (x : NetId). IsNet cells x.0 w) n h)
each_one cells w y h (suc q) width net f g = cc

pub word_answers : (cells : List SizedCell) (rst arrival w p : ℕ) (op : WordOp) (ins : List (List NetId)) (y : NetId) (out : List NetId) → out ≡ y ∷ [] → 1 ≤ p
    → AreBundles cells (map word_stream (operand_widths op w)) ins → Computes cells rst op w (latency_of op) (operands_of op ins) y.0
    → KeepsLaw cells rst arrival (word_part op w p) ins out
word_answers cells rst arrival w p op ins y out is some bundles made = rw is (word_law cells rst arrival w p op ins y some bundles made)

-- the bundle of the result
pub word_nets : (cells : List SizedCell) (w : ℕ) (y : NetId) (out : List NetId) → out ≡ y ∷ [] → IsNet cells y.0 w
    → AreNets cells (stream_widths (word_stream w)) out
word_nets cells w y out is net = rw is (record { long = refl; each = each_one cells w y net })

pub bundles_grow : (a b : List SizedCell) (streams : List Stream) (bundles : List (List NetId)) → Extends a b → AreBundles a streams bundles
    → AreBundles b streams bundles
bundles_grow a b streams bundles g h = record {
  long = h.long;
  each = λ k stream nets f u. let was = h.each k stream nets f u in
      record { long = was.long; each = λ q width net x y. net_later g (was.each q width net x y) };
}
