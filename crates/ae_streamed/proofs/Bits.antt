-- Bits that pass over as a netlist grows, and gates of two of them.
use Rattle.std.proofs.Common.{ℕ, ◌≡◌, ◌+◌, ◌-◌, ◌*◌, ◌%◌, ◌<◌, ◌≤◌, arith, Bool, true, false, List, [], ◌∷◌, ◌++◌, length, map, take, Some, slice_get, refl, sym, ap, ◌∙◌, subst}
use Rattle.std.specs.Prelude.{◌&&◌, ◌||◌, nat_lt, if◌then◌else◌}
use Rattle.std.proofs.lemmas.Nat.{mod_below}
use Rattle.ae_word.specs.AtomTree.{AtomTree}
use Rattle.ae_word.specs.declared.op.WordOp.TheVariants.{And, Or}
use Rattle.ae_sttype.specs.declared.st_type.StType.{StType}
use Rattle.ae_sttype.specs.StTree.{StTree, atom, tseq, sseq, st_tree, time}
use Rattle.ae_sttype.specs.Size.{HasLengths, IsInSize}
use Rattle.ae_sttype.specs.Slots.{slots}
use Rattle.ae_sttype.proofs.Bounds.{slots_below, time_pos}
use Rattle.ae_netlist.specs.declared.cell.NetId.{NetId}
use Rattle.ae_netlist.specs.declared.cell.SizedCell.{SizedCell}
use Rattle.ae_netlist.specs.Circuit.{Circuit, IsNet, IsOperation, width_of}
use Rattle.ae_netlist.specs.Runs.{InEveryRunFrom, word_at}
use Rattle.ae_netlist.proofs.Carried.{carries_extends}
use Rattle.ae_netlist.proofs.Growing.{extends_trans, net_later, net_width}
use Rattle.ae_clocked.specs.Phases.{Belongs, Kept, phase_of}
use Rattle.ae_gates.specs.Cells.{Grows, IsConstant, IsResult}
use Rattle.ae_gates.proofs.Adding.{grows_trans}
use Rattle.ae_clocked.proofs.Belonging.{belongs_grows}
use Rattle.ae_stream.specs.Streams.{in_clock, is_beat}
use Rattle.ae_streamed.specs.Beats.{GainsBit, IsBitOf}
use Rattle.ae_control.proofs.Cells.{next_first}
use Rattle.ae_streamed.proofs.Beats.{and_words, in_slots_across, or_words, slot_told}

pub bit_later : {a b : Circuit} {rst y : ℕ} {f : ℕ → Bool} → Grows a b → IsBitOf a.cells rst y f → IsBitOf b.cells rst y f
bit_later g h = record { net = net_later g.extends h.net; words = λ all e run is. h.words all (extends_trans g.extends e) run is }

pub bit_same : {cells : List SizedCell} {rst y : ℕ} (f g : ℕ → Bool) → ((c : ℕ) → f c ≡ g c) → IsBitOf cells rst y f → IsBitOf cells rst y g
bit_same f g same h = record {
  net = h.net;
  words = λ all e run is start reset c l. h.words all e run is start reset c l ∙ ap (λ b. if b then 1 else 0) (same c);
}

pub and_bit : (a b : Circuit) (rst x y z v : ℕ) (f g : ℕ → Bool) → Grows a b → IsNet b.cells z 1
    → InEveryRunFrom (length a.cells) b.cells (λ run. IsResult run z And v (record { 0 = x } ∷ record { 0 = y } ∷ record { 0 = x } ∷ []))
    → IsBitOf a.cells rst x f → IsBitOf a.cells rst y g → IsBitOf b.cells rst z (λ c. f c && g c)
and_bit a b rst x y z v f g grows net made p q = record {
  net = net;
  words = λ all e run is start reset c l.
      let left : word_at run (start + c) x ≡ (if f c then 1 else 0) = p.words all (extends_trans grows.extends e) run is start reset c l in
      let right : word_at run (start + c) y ≡ (if g c then 1 else 0) = q.words all (extends_trans grows.extends e) run is start reset c l in
      (rw (left, right) at (made all (carries_extends (length a.cells) e) run is (start + c) l)) ∙ and_words (f c) (g c);
}

pub or_bit : (a b : Circuit) (rst x y z v : ℕ) (f g : ℕ → Bool) → Grows a b → IsNet b.cells z 1
    → InEveryRunFrom (length a.cells) b.cells (λ run. IsResult run z Or v (record { 0 = x } ∷ record { 0 = y } ∷ record { 0 = x } ∷ []))
    → IsBitOf a.cells rst x f → IsBitOf a.cells rst y g → IsBitOf b.cells rst z (λ c. f c || g c)
or_bit a b rst x y z v f g grows net made p q = record {
  net = net;
  words = λ all e run is start reset c l.
      let left : word_at run (start + c) x ≡ (if f c then 1 else 0) = p.words all (extends_trans grows.extends e) run is start reset c l in
      let right : word_at run (start + c) y ≡ (if g c then 1 else 0) = q.words all (extends_trans grows.extends e) run is start reset c l in
      (rw (left, right) at (made all (carries_extends (length a.cells) e) run is (start + c) l)) ∙ or_words (f c) (g c);
}

-- a constant tells of all clocks the same
pub constant_bit : (a b : Circuit) (clocks : Kept) (z : ℕ) (bit : Bool) (passes : ℕ → Bool) → Belongs clocks a.cells → Grows a b → IsNet b.cells z 1
    → InEveryRunFrom (length a.cells) b.cells (λ run. IsConstant run z (if bit then 1 else 0)) → ((c : ℕ) → bit ≡ passes c)
    → GainsBit a b clocks clocks z passes
constant_bit a b clocks z bit passes h grows net made same = record {
  grows = grows;
  belongs = belongs_grows clocks a b grows h;
  rst = refl;
  told = record {
    net = net;
    words = λ all e run is start reset c l. made all (carries_extends (length a.cells) e) run is (start + c) l ∙ ap (λ v. if v then 1 else 0) (same c);
  };
}

-- of two bits that were gained one behind the other a third is made
pub gains_joined : (a b c d : Circuit) (first second third : Kept) (x y z : ℕ) (f g h : ℕ → Bool) → GainsBit a b first second x f
    → GainsBit b c second third y g → Grows c d
    → (IsBitOf c.cells first.rst x f → IsBitOf c.cells first.rst y g → IsBitOf d.cells first.rst z h) → GainsBit a d first third z h
gains_joined a b c d first second third x y z f g h p q grows made = record {
  grows = grows_trans p.grows (grows_trans q.grows grows);
  belongs = belongs_grows third c d grows q.belongs;
  rst = q.rst ∙ p.rst;
  told = made (bit_later q.grows p.told) (subst (λ r. IsBitOf c.cells r y g) p.rst q.told);
}

pub gains_same : {a b : Circuit} {before after : Kept} {y : ℕ} (f g : ℕ → Bool) → ((c : ℕ) → f c ≡ g c) → GainsBit a b before after y f
    → GainsBit a b before after y g
gains_same f g same h = record { grows = h.grows; belongs = h.belongs; rst = h.rst; told = bit_same f g same h.told }

or_false : (b : Bool) → b ≡ (b || false)
or_false true = refl
or_false false = refl

or_assoc : (a b c : Bool) → ((a || b) || c) ≡ (a || (b || c))
or_assoc true b c = refl
or_assoc false b c = refl

pub beat_more : (layouts : List StTree) (s : StTree) (c : ℕ) → (is_beat layouts c || in_clock (slots s) c) ≡ is_beat (layouts ++ s ∷ []) c
beat_more [] s c = or_false (in_clock (slots s) c)
beat_more (t ∷ layouts) s c =
    or_assoc (in_clock (slots t) c) (is_beat layouts c) (in_clock (slots s) c) ∙ ap (λ b. in_clock (slots t) c || b) (beat_more layouts s c)

pub and_operation : (cells : List SizedCell) (a b : NetId) → IsNet cells a.0 1 → IsNet cells b.0 1 → IsOperation cells And (a ∷ b ∷ a ∷ []) 1
and_operation cells a b p q = let e : width_of cells a.0 ≡ 1 = net_width p in record { unsigned = refl; range = tt; operands = rw e (p, q, p); result = sym e }

-- ---- the bit of a layout, by its form

one_phase : (offset c : ℕ) → phase_of 1 offset c ≡ 0
unfolding phase_of
one_phase offset c = (let l : (c + 1 - offset) % 1 < 1 = mod_below (c + 1 - offset) 1 (omega arith) in omega (arith, l))

pub atom_told : (s : StTree) (a : AtomTree) (offset c : ℕ) → s ≡ atom a → true ≡ in_clock (slots s) (phase_of (time s) offset c)
atom_told s a offset c is =
    subst (λ v. true ≡ in_clock (slots v) (phase_of (time v) offset c)) (sym is) (ap (in_clock (slots (atom a))) (sym (one_phase offset c)))

module _ (a b c d : Circuit) (first second third : Kept) (inner here y offset : ℕ) (grows : Grows c d)
    (told : (rst : ℕ) (f g : ℕ → Bool) → IsBitOf c.cells rst here f → IsBitOf c.cells rst inner g → IsBitOf d.cells rst y (λ k. f k && g k)) where
  tseq_gained : (t : StTree) (n i : ℕ) → HasLengths (tseq n i t) → offset < time (tseq n i t)
      → GainsBit a b first second inner (λ k. in_clock (slots t) (phase_of (time t) (offset % time t) k))
      → GainsBit b c second third here (λ k. nat_lt (phase_of ((n + i) * time t) offset k) (n * time t))
      → GainsBit a d first third y (λ k. in_clock (slots (tseq n i t)) (phase_of (time (tseq n i t)) offset k))
  tseq_gained t n i h low p q =
      let part : ℕ → Bool = λ k. in_clock (slots t) (phase_of (time t) (offset % time t) k) in
      let front : ℕ → Bool = λ k. nat_lt (phase_of ((n + i) * time t) offset k) (n * time t) in
      gains_same (λ k. front k && part k) (λ k. in_clock (slots (tseq n i t)) (phase_of (time (tseq n i t)) offset k)) (λ k. slot_told n i t offset k h low)
      (gains_joined a b c d first second third inner here y part front (λ k. front k && part k) p q grows (λ x z. told first.rst front part z x))

  pub in_tseq_gained : (s t : StTree) (n i span : ℕ) → s ≡ tseq n i t → span ≡ time t → HasLengths s → offset < time s
      → GainsBit a b first second inner (λ k. in_clock (slots t) (phase_of (time t) (offset % span) k))
      → GainsBit b c second third here (λ k. nat_lt (phase_of ((n + i) * span) offset k) (n * span))
      → GainsBit a d first third y (λ k. in_clock (slots s) (phase_of (time s) offset k))
  in_tseq_gained s t n i span is same h low p q =
      subst (λ v. GainsBit a d first third y (λ k. in_clock (slots v) (phase_of (time v) offset k))) (sym is)
      (tseq_gained t n i (subst HasLengths is h) (subst (λ v. offset < time v) is low)
      (subst (λ v. GainsBit a b first second inner (λ k. in_clock (slots t) (phase_of (time t) (offset % v) k))) same p)
      (subst (λ v. GainsBit b c second third here (λ k. nat_lt (phase_of ((n + i) * v) offset k) (n * v))) same q))

pub in_sseq_gained : (a b : Circuit) (before after : Kept) (y offset : ℕ) (s t : StTree) (n : ℕ) → s ≡ sseq n t → HasLengths s
    → GainsBit a b before after y (λ k. in_clock (slots t) (phase_of (time t) offset k))
    → GainsBit a b before after y (λ k. in_clock (slots s) (phase_of (time s) offset k))
in_sseq_gained a b before after y offset s t n is h p =
    subst (λ v. GainsBit a b before after y (λ k. in_clock (slots v) (phase_of (time v) offset k))) (sym is)
    (gains_same (λ k. in_clock (slots t) (phase_of (time t) offset k)) (λ k. in_clock (slots (sseq n t)) (phase_of (time t) offset k))
    (λ k. sym (in_slots_across n t (phase_of (time t) offset k) (subst HasLengths is h))) p)

-- what the bit of a layout in time asks for
pub record AreTimes (t : StTree) (n i span offset : ℕ) : Type 0 where
  pub few : n + i ≤ 4096
  pub whole : (n + i) * span ≤ 4096
  pub part : n * span ≤ (n + i) * span
  pub low : offset < (n + i) * span
  pub rest : offset % span < time t
  pub some : 0 < span

pub times : (s t : StTree) (n i span offset : ℕ) → s ≡ tseq n i t → span ≡ time t → IsInSize s → offset < time s → AreTimes t n i span offset
times s t n i span offset is same size low =
    let whole : IsInSize (tseq n i t) = subst IsInSize is size in
    let some : 0 < time t = time_pos t whole.lengths.1 in
    let at : offset < (n + i) * time t = subst (λ v. offset < time v) is low in
    let rest : offset % time t < time t = mod_below offset (time t) some in
    let at_most : (n + i) * time t ≤ 4096 = whole.in_time in
    rw same (record {
      few = slots_below n i t whole;
      whole = at_most;
      part = omega arith;
      low = at;
      rest = rest;
      some = some;
    })

-- one layout more
pub in_turn : (a b c d : Circuit) (first second third : Kept) (x y z slowdown offset : ℕ) (layouts : List StType) (k : ℕ) (layout : StType)
    → slice_get layouts k ≡ Some layout → time (st_tree layout) ≡ slowdown
    → GainsBit a b first second x (λ t. is_beat (map st_tree (take k layouts)) (phase_of slowdown offset t))
    → GainsBit b c second third y (λ t. in_clock (slots (st_tree layout)) (phase_of (time (st_tree layout)) offset t)) → Grows c d
    → ((rst : ℕ) (f g : ℕ → Bool) → IsBitOf c.cells rst x f → IsBitOf c.cells rst y g → IsBitOf d.cells rst z (λ t. f t || g t))
    → GainsBit a d first third z (λ t. is_beat (map st_tree (take (k + 1) layouts)) (phase_of slowdown offset t))
in_turn a b c d first second third x y z slowdown offset layouts k layout found long p q grows told =
    let before : ℕ → Bool = λ t. is_beat (map st_tree (take k layouts)) (phase_of slowdown offset t) in
    let here : ℕ → Bool = λ t. in_clock (slots (st_tree layout)) (phase_of slowdown offset t) in
    let all : map st_tree (take (k + 1) layouts) ≡ map st_tree (take k layouts) ++ st_tree layout ∷ [] = next_first st_tree layouts k layout found in
    gains_same (λ t. before t || here t) (λ t. is_beat (map st_tree (take (k + 1) layouts)) (phase_of slowdown offset t))
    (λ t. beat_more (map st_tree (take k layouts)) (st_tree layout) (phase_of slowdown offset t) ∙ ap (λ v. is_beat v (phase_of slowdown offset t)) (sym all))
    (gains_joined a b c d first second third x y z before here (λ t. before t || here t) p
    (subst (λ v. GainsBit b c second third y (λ t. in_clock (slots (st_tree layout)) (phase_of v offset t))) long q) grows
    (λ u v. told first.rst before here u v))
