-- Operators on words, constants and moves as parts.
use Rattle.std.specs.Prelude.{unwrap_or}
use Rattle.std.proofs.Common.{ℕ, zero, suc, ◌≡◌, ◌*◌, List, [], ◌∷◌, map, slice_get, Some, if◌then◌else◌, arith, refl, sym, ap, subst}
use Rattle.std.specs.List.{range_with_len}
use Rattle.ae_word.specs.declared.op.WordOp.{WordOp}
use Rattle.ae_word.specs.declared.op.WordOp.TheVariants.{Add, Sub, Mul, And, Or, Xor, Not, Min, Max, Eq, Lt, Mux, Shl, Shr, Cast, SLt, SMin, SMax, Sar, SCast}
use Rattle.ae_netlist.specs.Counts.{is_product}
use Rattle.ae_sttype.specs.StTree.{StTree, time, st_atoms, element_words}
use Rattle.ae_sttype.specs.Moves.{TripTree, fixed, greatest, lead_from, source_of, trip_number, trips_of}
use Rattle.ae_moves.specs.Origins.{move_latency}
use Rattle.ae_gather.specs.Gathers.{gather_part, origin_word}
use Rattle.ae_ops.specs.Words.{word_part}
use Rattle.ae_rewrite.specs.declared.st_program.MoveOp.{MoveOp}
use Rattle.ae_rewrite.specs.StProgramTree.{word, fixed as fixed_op, move}
use Rattle.ae_delay.specs.Moving.{constant_move, op_move}
use Rattle.ae_delay.specs.OwnCosts.{where_mul}
use Rattle.ae_flow.specs.Flow.{Callee, width_of}
use Rattle.ae_flow.specs.Fitted.{FitsWord}
use Rattle.ae_lower.specs.Nodes.{IsOpPart}

-- a product is one of the operator that multiplies
pub where_product : (op : WordOp) (n : ℕ) → (if is_product op then n else 0) ≡ where_mul op n
where_product Add n = refl
where_product Sub n = refl
where_product Mul n = refl
where_product And n = refl
where_product Or n = refl
where_product Xor n = refl
where_product Not n = refl
where_product Min n = refl
where_product Max n = refl
where_product Eq n = refl
where_product Lt n = refl
where_product Mux n = refl
where_product (Shl k) n = refl
where_product (Shr k) n = refl
where_product (Cast k) n = refl
where_product SLt n = refl
where_product SMin n = refl
where_product SMax n = refl
where_product (Sar k) n = refl
where_product (SCast k) n = refl

pub word_is : (known : List Callee) (budget copies : ℕ) (args : List StTree) (arg s : StTree) (op : WordOp) → FitsWord op args s
    → IsOpPart known budget copies args arg s (word op) (word_part op (width_of op args) budget)
word_is known budget copies args arg s op fits = record {
  period = refl;
  latency = refl;
  ins = sym fits.ins;
  out = sym fits.out;
  means = λ vs words. refl;
  cells = omega arith;
  products = where_product op 1;
  memories = omega arith;
}

pub move_is : (known : List Callee) (budget copies : ℕ) (a s : StTree) (how : MoveOp) → time s ≡ budget
    → IsOpPart known budget copies (a ∷ []) a s (move how) (gather_part (op_move how a s))
move_is known budget copies a s how fills = record {
  period = fills;
  latency = refl;
  ins = refl;
  out = refl;
  means = λ vs words. refl;
  cells = omega arith;
  products = refl;
  memories = omega arith;
}

-- ---- constants

fixed_source : (ws : List ℕ) (o : ℕ) → (w : ℕ) × (unwrap_or (slice_get (map fixed ws) o) (fixed 0) ≡ fixed w)
fixed_source [] o = (0, refl)
fixed_source (w ∷ ws) zero = (w, refl)
fixed_source (w ∷ ws) (suc o) = fixed_source ws o

fixed_lead : (ws : List ℕ) (s : StTree) (o clock : ℕ) → lead_from clock (source_of [] (unwrap_or (slice_get (map fixed ws) o) (fixed 0))) ≡ 0
fixed_lead ws s o clock = (let h = fixed_source ws o in rw h.1 refl)

greatest_none : {X : Type 0} (f : X → ℕ) (xs : List X) → ((i : ℕ) (x : X) → slice_get xs i ≡ Some x → f x ≡ 0) → greatest f xs ≡ 0
greatest_none f [] h = refl
greatest_none f (x ∷ xs) h =
    let here : f x ≡ 0 = h 0 x refl in
    rw here (greatest_none f xs (λ i y found. h (suc i) y found))

no_leads : (ws : List ℕ) (s : StTree) (numbers : List ℕ) (i : ℕ) (t : TripTree) → slice_get (map (trip_number [] s (map fixed ws)) numbers) i ≡ Some t
    → lead_from t.clock t.source ≡ 0
no_leads ws s [] i t found = cc
no_leads ws s (o ∷ numbers) zero t found =
    let same : Some (trip_number [] s (map fixed ws) o) ≡ Some t = found in
    let is : trip_number [] s (map fixed ws) o ≡ t = cc in
    subst (λ (x : TripTree). lead_from x.clock x.source ≡ 0) is (fixed_lead ws s o (trip_number [] s (map fixed ws) o).clock)
no_leads ws s (o ∷ numbers) (suc i) t found = no_leads ws s numbers i t found

pub constant_latency : (ws : List ℕ) (s : StTree) → move_latency (constant_move ws s) ≡ 0
constant_latency ws s =
    greatest_none (λ (t : TripTree). lead_from t.clock t.source) (trips_of [] s (map fixed ws))
    (λ i t found. no_leads ws s (range_with_len 0 (st_atoms s * element_words s)) i t found)

constant_words : (vs : List (List ℕ)) (ws : List ℕ) → map (origin_word [] vs) (map fixed ws) ≡ ws
constant_words vs [] = refl
constant_words vs (w ∷ ws) = ap (λ xs. w ∷ xs) (constant_words vs ws)

pub constant_is : (known : List Callee) (budget copies : ℕ) (arg s : StTree) (ws : List ℕ) → time s ≡ budget
    → IsOpPart known budget copies [] arg s (fixed_op ws) (gather_part (constant_move ws s))
constant_is known budget copies arg s ws fills = record {
  period = fills;
  latency = constant_latency ws s;
  ins = refl;
  out = refl;
  means = λ vs words. constant_words vs ws;
  cells = omega (arith, constant_latency ws s);
  products = refl;
  memories = omega arith;
}
