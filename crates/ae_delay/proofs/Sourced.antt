-- The moves of operators and of constants are moves.
use Rattle.std.proofs.Common.{ℕ, zero, suc, ◌≡◌, ◌+◌, ◌-◌, ◌*◌, ◌/◌, ◌%◌, ◌^◌, ◌<◌, Bool, true, false, cond, nat_lt, List, [], ◌∷◌, ◌++◌, length, map, Option, Some, None, slice_get, option_map, arith, refl, sym, ap, ◌∙◌, subst}
use Rattle.std.specs.List.{range_with_len}
use Rattle.std.proofs.lemmas.List.{length-map, map-append}
use Rattle.std.proofs.lemmas.List.FromFn.{length-map-range_with_len, map-range_with_len_more}
use Rattle.std.proofs.lemmas.Nat.{div_below, mod_below, pow_pos}
use Rattle.std.proofs.lemmas.Option.{slice_get_within, same_Some}
use Rattle.ae_word.specs.AtomTree.{WordKind, atom_kinds}
use Rattle.ae_sttype.specs.StTree.{StTree, time, st_atoms, element_atom, element_words}
use Rattle.ae_sttype.specs.Size.{IsInSize}
use Rattle.ae_sttype.specs.Moves.{from_input, fixed}
use Rattle.ae_sttype.proofs.Bounds.{atoms_pos}
use Rattle.ae_moves.specs.declared.trip.Origin.{Origin}
use Rattle.ae_moves.specs.declared.trip.Origin.TheVariants.{Fixed}
use Rattle.ae_moves.specs.Trees.{origin_tree}
use Rattle.ae_moves.specs.Origins.{HasOrigin, IsMove, width_at}
use Rattle.ae_moves.proofs.Lists.{get_mapped, range_get}
use Rattle.ae_moves.proofs.Words.{words_pos}
use Rattle.ae_rewrite.specs.declared.st_program.MoveOp.{MoveOp}
use Rattle.ae_rewrite.specs.declared.st_program.MoveOp.TheVariants.{Shift, Up, Select, Same}
use Rattle.ae_rewrite.specs.Sound.{FixedFits, IsMoveFrom}
use Rattle.ae_delay.specs.Moving.{constant_move, op_move, origin_from, origin_number}

one_type : (a t : StTree) (clocks i : ℕ) → IsInSize a → time a ≡ clocks → slice_get (a ∷ []) i ≡ Some t → IsInSize t × (time t ≡ clocks)
one_type a t clocks zero size e f = let same : a ≡ t = same_Some a t f in subst (λ (x : StTree). IsInSize x × (time x ≡ clocks)) same (size, e)
one_type a t clocks (suc i) size e f = cc

no_power : (w : ℕ) → 0 < 2 ^ w
no_power w = pow_pos w

-- a word of the argument is there, and as wide
there : (a s : StTree) (e j width : ℕ) → element_atom a ≡ element_atom s → e < st_atoms a → width_at s j ≡ Some width
    → HasOrigin (a ∷ []) width (from_input 0 e j)
there a s e j width same l wide = (a, refl, l, ap (λ x. option_map (λ (k : WordKind). k.width) (slice_get (atom_kinds x) j)) same ∙ wide)

shifted : (a s : StTree) (k e j width : ℕ) (b : Bool) → nat_lt e k ≡ b → element_atom a ≡ element_atom s → e < st_atoms a → width_at s j ≡ Some width
    → HasOrigin (a ∷ []) width (cond b (fixed 0) (from_input 0 (e - k) j))
shifted a s k e j width true t same l wide = no_power width
shifted a s k e j width false t same l wide = there a s (e - k) j width same (omega arith) wide

has_origin : (how : MoveOp) (a s : StTree) (e j width : ℕ) → IsInSize a → element_atom a ≡ element_atom s → IsMoveFrom how (st_atoms a) (st_atoms s)
    → e < st_atoms s → width_at s j ≡ Some width
    → HasOrigin (a ∷ []) width (origin_from how (st_atoms a) (st_atoms s) e j)
has_origin (Shift k) a s e j width size same from l wide = shifted a s k e j width (nat_lt e k) refl same (omega (arith, from.0)) wide
has_origin (Up c) a s e j width size same from l wide = there a s (e % st_atoms a) j width same (mod_below e (st_atoms a) (atoms_pos a size.lengths)) wide
has_origin (Select k) a s e j width size same from l wide = there a s (k * st_atoms s + e) j width same (omega (arith, from)) wide
has_origin Same a s e j width size same from l wide = there a s e j width same (omega (arith, from)) wide

-- entry o of a list of so many
pub numbered : {X : Type 0} (f : ℕ → X) (n o : ℕ) (x : X) → slice_get (map f (range_with_len 0 n)) o ≡ Some x → (o < n) × (f o ≡ x)
numbered f n o x found =
    let l : o < length (map f (range_with_len 0 n)) = slice_get_within (map f (range_with_len 0 n)) o x found in
    let small : o < n = omega (arith, length-map-range_with_len f 0 n) in
    let z : 0 + o ≡ o = omega arith in
    let at : slice_get (map f (range_with_len 0 n)) o ≡ Some (f o) = get_mapped f (range_with_len 0 n) o o (rw z at (range_get 0 n o small)) in
    (small, same_Some (f o) x (sym at ∙ found))

pub op_is_move : (how : MoveOp) (a s : StTree) → IsInSize a → IsInSize s → time a ≡ time s → element_atom a ≡ element_atom s
    → IsMoveFrom how (st_atoms a) (st_atoms s) → IsMove (op_move how a s)
op_is_move how a s size out clocks same from = record {
  out = out;
  types = λ i t f. one_type a t (time s) i size clocks f;
  count = length-map-range_with_len (origin_number how a s) 0 (st_atoms s * element_words s);
  origins = λ o width origin f wide.
      let x = numbered (origin_number how a s) (st_atoms s * element_words s) o origin f in
      let e : o / element_words s < st_atoms s = div_below o (element_words s) (st_atoms s) (words_pos s) x.0 in
      subst (HasOrigin (a ∷ []) width) x.1 (has_origin how a s (o / element_words s) (o % element_words s) width size same from e wide);
}

mapped_from : {X Y : Type 0} (f : X → Y) (xs : List X) (i : ℕ) (y : Y) → slice_get (map f xs) i ≡ Some y → (x : X) × (slice_get xs i ≡ Some x) × (f x ≡ y)
mapped_from f [] i y h = cc
mapped_from f (x ∷ xs) zero y h = (x, refl, same_Some (f x) y h)
mapped_from f (x ∷ xs) (suc i) y h = mapped_from f xs i y h

wide_kind : (k : Option WordKind) (width : ℕ) → option_map (λ (x : WordKind). x.width) k ≡ Some width → (x : WordKind) × (k ≡ Some x) × (x.width ≡ width)
wide_kind None width h = cc
wide_kind (Some x) width h = (x, refl, same_Some x.width width h)

pub constant_is_move : (ws : List ℕ) (s : StTree) → IsInSize s → FixedFits s ws → IsMove (constant_move ws s)
constant_is_move ws s size h = record {
  out = size;
  types = λ i t f. cc;
  count = length-map ws fixed ∙ h.long;
  origins = λ o width origin f wide.
      let x = mapped_from fixed ws o origin f in
      let k = wide_kind (slice_get (atom_kinds (element_atom s)) (o % element_words s)) width wide in
      subst (HasOrigin [] width) x.2 (rw (← k.2) (h.fits o x.0 k.0 x.1 k.1));
}

pub all_fixed : (ws : List ℕ) (origins : List Origin) → origins ≡ map (λ w. Fixed w) ws → map origin_tree origins ≡ map fixed ws
all_fixed ws origins e = ap (map origin_tree) e ∙ each ws
  where
    each : (ws : List ℕ) → map origin_tree (map (λ w. Fixed w) ws) ≡ map fixed ws
    each [] = refl
    each (w ∷ ws) = ap (λ xs. fixed w ∷ xs) (each ws)

-- one origin more
pub origins_more : (how : MoveOp) (a s : StTree) (o words n m : ℕ) (origins : List Origin) (origin : Origin) → words ≡ element_words s → n ≡ st_atoms a
    → m ≡ st_atoms s
    → map origin_tree origins ≡ map (origin_number how a s) (range_with_len 0 o) → origin_tree origin ≡ origin_from how n m (o / words) (o % words)
    → map origin_tree (origins ++ origin ∷ []) ≡ map (origin_number how a s) (range_with_len 0 (o + 1))
origins_more how a s o words n m origins origin ew en em h e =
    let own : origin_tree origin ≡ origin_number how a s o = rw (← ew, ← en, ← em) e in
    map-append origin_tree origins (origin ∷ []) ∙ (ap (λ xs. xs ++ origin_tree origin ∷ []) h ∙
    (ap (λ x. map (origin_number how a s) (range_with_len 0 o) ++ x ∷ []) own ∙ sym (map-range_with_len_more (origin_number how a s) 0 o o (omega arith))))
