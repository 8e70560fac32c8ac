-- Where the words of layouts stand: an atom's one slot, elements that the layout rule arranges, sequences as long as each other.
use Rattle.std.proofs.Common.{◌≡◌, ℕ, ◌+◌, ◌-◌, ◌*◌, ◌<◌, ◌≤◌, List, [], ◌∷◌, ◌++◌, map, cond, nat_eq, Bool, true, false, ◌==◌, Option, Some, None, refl, ap, sym, subst, ◌∙◌, arith}
use Rattle.std.specs.Option.{option_map}
use Rattle.std.proofs.lemmas.Bool.{eqb-true}
use Rattle.std.proofs.lemmas.Option.{none-some, same_Some, option_and_then_some}
use Rattle.ae_word.specs.AtomTree.{AtomTree, pair, atom_kinds}
use Rattle.ae_seqtype.specs.SeqTree.{SeqTree, atom, seq}
use Rattle.ae_seq.specs.Typing.{zipped_type, where_ok, ◌>>=◌}
use Rattle.ae_sttype.specs.declared.st_type.Slot.{Slot}
use Rattle.ae_sttype.specs.StTree.{StTree, atom as st_atom, tseq, sseq, time, lanes, st_atoms, element_atom}
use Rattle.ae_sttype.specs.Slots.{moved, copies, slots}
use Rattle.ae_ops.specs.Blocks.{stream_of}
use Rattle.ae_rewrite.specs.declared.cases.Case.{Case}
use Rattle.ae_rewrite.specs.declared.cases.Case.TheVariants.{Parallel, Spread, Grouped, Padded, Folded}
use Rattle.ae_rewrite.specs.LayoutRule.{arranged, case_of, inner_of, lanes_of, slots_of, rounds_of, lay_of}
use Rattle.ae_rewrite.proofs.Applies.{Applies, whole}
use Rattle.ae_flow.specs.Fitted.{SameSlots, elements_stream}
use Rattle.ae_sttype.proofs.Places.{same_slot}

abbrev pub slot_at : ℕ → ℕ → Slot
slot_at c l = record { clock = c; lane = l }

-- ---- copies

moved_none : (w : Slot) → moved 0 0 w ≡ w
moved_none w = same_slot (0 + w.clock) (0 + w.lane) w.clock w.lane (omega arith) (omega arith)

all_moved_none : (ws : List Slot) → map (moved 0 0) ws ≡ ws
all_moved_none [] = refl
all_moved_none (w ∷ ws) = rw (moved_none w, all_moved_none ws) refl

pub one_copy : (c l : ℕ) (ws : List Slot) → copies 1 c l ws ≡ ws
one_copy c l ws =
    let a : 0 * c ≡ 0 = omega arith in
    let b : 0 * l ≡ 0 = omega arith in
    ap (λ x. map (moved x (0 * l)) ws) a ∙ (ap (λ y. map (moved 0 y) ws) b ∙ all_moved_none ws)

-- ---- streams

pub same_stream : (a b : StTree) → slots a ≡ slots b → lanes a ≡ lanes b → element_atom a ≡ element_atom b → stream_of a ≡ stream_of b
same_stream a b p q r = rw (p, q, r) refl

one_lane : (n : ℕ) (t : StTree) → copies n (time t) 0 (slots t) ≡ slots (tseq n 0 (sseq 1 t))
one_lane n t = sym (ap (copies n (time t) 0) (one_copy 0 (lanes t) (slots t)))

-- an element is one on one lane in one slot
pub single : (t : StTree) → stream_of t ≡ elements_stream 1 1 t
single t = same_stream t (tseq 1 0 (sseq 1 t)) (sym (one_copy (time t) 0 (slots t)) ∙ one_lane 1 t) (omega arith) refl

-- elements that are arranged by a case
pub arranged_stream : (n clocks : ℕ) (c : Case) (t : StTree) → stream_of (arranged n clocks c t) ≡ elements_stream (slots_of n clocks c) (lanes_of n clocks c) t
arranged_stream n clocks Parallel t = same_stream (sseq n t) (tseq 1 0 (sseq n t)) (sym (one_copy (time t) 0 (slots (sseq n t)))) refl refl
arranged_stream n clocks Spread t = same_stream (tseq n 0 t) (tseq n 0 (sseq 1 t)) (one_lane n t) (omega arith) refl
arranged_stream n clocks Grouped t = refl
arranged_stream n clocks Padded t = same_stream (tseq n (clocks - n) t) (tseq n 0 (sseq 1 t)) (one_lane n t) (omega arith) refl
arranged_stream n clocks (Folded d) t = refl

-- ---- how many slots there are

pub some_slots : (n clocks : ℕ) (c : Case) → 0 < n → 0 < clocks → Applies n clocks c → 1 ≤ slots_of n clocks c
some_slots n clocks Parallel p q h = omega arith
some_slots n clocks Spread p q h = p
some_slots n clocks Grouped p q h = q
some_slots n clocks Padded p q h = p
some_slots n clocks (Folded d) p q h = omega (arith, h.0)

pub few_slots : (n clocks : ℕ) (c : Case) → Applies n clocks c → slots_of n clocks c ≤ rounds_of n clocks c
few_slots n clocks Parallel h = omega arith
few_slots n clocks Spread h = omega arith
few_slots n clocks Grouped h = omega arith
few_slots n clocks Padded h = omega (arith, h)
few_slots n clocks (Folded d) h = omega (arith, h.2)

pub whole_rounds : (n clocks : ℕ) (c : Case) → 0 < n → Applies n clocks c → rounds_of n clocks c * inner_of n clocks c ≡ clocks
whole_rounds n clocks Parallel p h = omega (arith, h)
whole_rounds n clocks Spread p h = whole clocks n p h
whole_rounds n clocks Grouped p h = omega arith
whole_rounds n clocks Padded p h = omega arith
whole_rounds n clocks (Folded d) p h = omega arith

-- ---- an atom's layout

pub record IsOneAtom (a : AtomTree) (s : StTree) : Type 0 where
  pub slots : slots s ≡ slot_at 0 0 ∷ []
  pub lanes : lanes s ≡ 1
  pub atom : element_atom s ≡ a
  pub atoms : st_atoms s ≡ 1

pub one_atom : (a : AtomTree) → IsOneAtom a (st_atom a)
one_atom a = record { slots = refl; lanes = refl; atom = refl; atoms = refl }

atom_by : (a : AtomTree) (clocks : ℕ) (b : Bool) → IsOneAtom a (cond b (st_atom a) (tseq 1 (clocks - 1) (st_atom a)))
atom_by a clocks true = one_atom a
atom_by a clocks false = record { slots = one_copy 1 0 (slot_at 0 0 ∷ []); lanes = refl; atom = refl; atoms = omega arith }

pub atom_laid : (a : AtomTree) (clocks : ℕ) (s : StTree) → lay_of (atom a) clocks ≡ Some s → IsOneAtom a s
atom_laid a clocks s h = rw (← same_Some _ s h) (atom_by a clocks (nat_eq clocks 1))

-- two atoms stand in the same slot
pub same_place : (a b : AtomTree) (s t : StTree) → IsOneAtom a s → IsOneAtom b t → SameSlots s t
same_place a b s t h g = record { slots = h.slots ∙ sym g.slots; lanes = h.lanes ∙ sym g.lanes }

-- ---- a sequence's layout

-- it is arranged by the case that applies
pub record IsArrangedBy (n : ℕ) (t : SeqTree) (clocks : ℕ) (s : StTree) : Type 0 where
  pub case : Case
  pub of : StTree
  pub applies : case_of n clocks ≡ Some case
  pub laid : lay_of t (inner_of n clocks case) ≡ Some of
  pub is : arranged n clocks case of ≡ s

by_part : (n : ℕ) (t : SeqTree) (clocks : ℕ) (s : StTree) (c : Case) (o : Option StTree) → case_of n clocks ≡ Some c → lay_of t (inner_of n clocks c) ≡ o
    → option_map (arranged n clocks c) o ≡ Some s → IsArrangedBy n t clocks s
by_part n t clocks s c None p q h = absurd (none-some s h)
by_part n t clocks s c (Some x) p q h = record { case = c; of = x; applies = p; laid = q; is = same_Some (arranged n clocks c x) s h }

pub seq_laid : (n : ℕ) (t : SeqTree) (clocks : ℕ) (s : StTree) → lay_of (seq n t) clocks ≡ Some s → IsArrangedBy n t clocks s
seq_laid n t clocks s h =
    option_and_then_some (λ c. option_map (arranged n clocks c) (lay_of t (inner_of n clocks c))) (case_of n clocks) s h
    (λ c at some. by_part n t clocks s c (lay_of t (inner_of n clocks c)) at refl some)

-- another sequence as long as it is arranged by the same case
pub seq_laid_too : (n : ℕ) (t u : SeqTree) (clocks : ℕ) (s z : StTree) (h : IsArrangedBy n t clocks s) → lay_of (seq n u) clocks ≡ Some z
    → (y : StTree) × (lay_of u (inner_of n clocks h.case) ≡ Some y) × (arranged n clocks h.case y ≡ z)
seq_laid_too n t u clocks s z h laid =
    let g = seq_laid n u clocks z laid in
    let e : g.case ≡ h.case = same_Some g.case h.case (sym g.applies ∙ h.applies) in
    (g.of, rw e at g.laid, ap (λ c. arranged n clocks c g.of) (sym e) ∙ g.is)

-- ---- pairs of sequences

pub record IsShapedAs (a s : StTree) : Type 0 where
  pub slots : slots a ≡ slots s
  pub lanes : lanes a ≡ lanes s
  pub time : time a ≡ time s
  pub atoms : st_atoms a ≡ st_atoms s

shaped : (n clocks : ℕ) (c : Case) (a s : StTree) → IsShapedAs a s → IsShapedAs (arranged n clocks c a) (arranged n clocks c s)
shaped n clocks Parallel a s h = record { slots = rw (h.slots, h.lanes) refl; lanes = rw h.lanes refl; time = h.time; atoms = rw h.atoms refl }
shaped n clocks Spread a s h = record { slots = rw (h.slots, h.time) refl; lanes = h.lanes; time = rw h.time refl; atoms = rw h.atoms refl }
shaped n clocks Grouped a s h = record { slots = rw (h.slots, h.time, h.lanes) refl; lanes = rw h.lanes refl; time = rw h.time refl; atoms = rw h.atoms refl }
shaped n clocks Padded a s h = record { slots = rw (h.slots, h.time) refl; lanes = h.lanes; time = rw h.time refl; atoms = rw h.atoms refl }
shaped n clocks (Folded d) a s h =
    record { slots = rw (h.slots, h.time, h.lanes) refl; lanes = rw h.lanes refl; time = rw h.time refl; atoms = rw h.atoms refl }

arranged_atom : (n clocks : ℕ) (c : Case) (s : StTree) → element_atom (arranged n clocks c s) ≡ element_atom s
arranged_atom n clocks Parallel s = refl
arranged_atom n clocks Spread s = refl
arranged_atom n clocks Grouped s = refl
arranged_atom n clocks Padded s = refl
arranged_atom n clocks (Folded d) s = refl

pub record IsZipped (a b s : StTree) : Type 0 where
  pub first : IsShapedAs a s
  pub second : IsShapedAs b s
  pub kinds : atom_kinds (element_atom s) ≡ atom_kinds (element_atom a) ++ atom_kinds (element_atom b)

zipped_by : (n clocks : ℕ) (c : Case) (a b s : StTree) → IsZipped a b s → IsZipped (arranged n clocks c a) (arranged n clocks c b) (arranged n clocks c s)
zipped_by n clocks c a b s h = record {
  first = shaped n clocks c a s h.first;
  second = shaped n clocks c b s h.second;
  kinds = rw (arranged_atom n clocks c a, arranged_atom n clocks c b, arranged_atom n clocks c s) h.kinds;
}

atom_shape : (a : AtomTree) (clocks : ℕ) (s : StTree) → lay_of (atom a) clocks ≡ Some s
    → cond (nat_eq clocks 1) (st_atom a) (tseq 1 (clocks - 1) (st_atom a)) ≡ s
atom_shape a clocks s h = same_Some _ s h

atoms_by : (a b : AtomTree) (clocks : ℕ) (v : Bool) → IsShapedAs (cond v (st_atom a) (tseq 1 (clocks - 1) (st_atom a)))
    (cond v (st_atom b) (tseq 1 (clocks - 1) (st_atom b)))
atoms_by a b clocks true = record { slots = refl; lanes = refl; time = refl; atoms = refl }
atoms_by a b clocks false = record { slots = refl; lanes = refl; time = refl; atoms = refl }

atoms_shaped : (a b : AtomTree) (clocks : ℕ) (s z : StTree) → lay_of (atom a) clocks ≡ Some s → lay_of (atom b) clocks ≡ Some z → IsShapedAs s z
atoms_shaped a b clocks s z h g = rw (← atom_shape a clocks s h, ← atom_shape b clocks z g) (atoms_by a b clocks (nat_eq clocks 1))

ok_where : {A : Type 0} (b : Bool) (o : Option A) (y : A) → where_ok b o ≡ Some y → (b ≡ true) × (o ≡ Some y)
ok_where true o y h = (refl, h)
ok_where false o y h = absurd (none-some y h)

-- what a pair of types is laid out as
pub zipped : (t u v : SeqTree) (clocks : ℕ) (a b s : StTree) → zipped_type t u ≡ Some v → lay_of t clocks ≡ Some a → lay_of u clocks ≡ Some b
    → lay_of v clocks ≡ Some s → IsZipped a b s
zipped (atom x) (atom y) v clocks a b s h p q r =
    let e : atom (pair x y) ≡ v = same_Some _ v h in
    let out : lay_of (atom (pair x y)) clocks ≡ Some s = subst (λ (z : SeqTree). lay_of z clocks ≡ Some s) (sym e) r in
    let k = atom_laid (pair x y) clocks s out in
    record {
      first = atoms_shaped x (pair x y) clocks a s p out;
      second = atoms_shaped y (pair x y) clocks b s q out;
      kinds = rw (k.atom, (atom_laid x clocks a p).atom, (atom_laid y clocks b q).atom) refl;
    }
zipped (atom x) (seq m u) v clocks a b s h p q r = absurd (none-some v h)
zipped (seq n t) (atom y) v clocks a b s h p q r = absurd (none-some v h)
zipped (seq n t) (seq m u) v clocks a b s h p q r =
    let o = ok_where (n == m) (zipped_type t u >>= λ w. Some (seq n w)) v h in
    let same : n ≡ m = eqb-true n m o.0 in
    option_and_then_some (λ w. Some (seq n w)) (zipped_type t u) v o.1 (λ w part out.
    let e : seq n w ≡ v = same_Some (seq n w) v out in
    let whole_a = seq_laid n t clocks a p in
    let part_b = seq_laid_too n t u clocks a b whole_a (subst (λ (i : ℕ). lay_of (seq i u) clocks ≡ Some b) (sym same) q) in
    let part_s = seq_laid_too n t w clocks a s whole_a (subst (λ (z : SeqTree). lay_of z clocks ≡ Some s) (sym e) r) in
    let inside = zipped t u w (inner_of n clocks whole_a.case) whole_a.of part_b.0 part_s.0 part whole_a.laid part_b.1 part_s.1 in
    rw (← whole_a.is, ← part_b.2, ← part_s.2) (zipped_by n clocks whole_a.case whole_a.of part_b.0 part_s.0 inside))
