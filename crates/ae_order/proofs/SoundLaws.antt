-- What the expressions that have a value are like.
use Rattle.std.proofs.Common.{ℕ, zero, suc, ◌≡◌, ◌+◌, ◌≤◌, Bool, true, false, List, [], ◌∷◌, length, Some, slice_get, sym, ap, ◌∙◌, subst, arith}
use Rattle.std.specs.Prelude.{sum_by, if◌then◌else◌}
use Rattle.std.proofs.lemmas.List.Sums.{sum_by-cons}
use Rattle.ae_vmodule.specs.declared.module.UnOp.{UnOp}
use Rattle.ae_vmodule.specs.declared.module.UnOp.TheVariants.{Not, Flip}
use Rattle.ae_vmodule.specs.declared.module.BinOp.{BinOp}
use Rattle.ae_vmodule.specs.declared.module.BinOp.TheVariants.{Mul, Add, Sub, Shl, Shr, And, Xor, Or}
use Rattle.ae_vmodule.specs.ModuleTree.{ExprTree, name, constant, place, part, index, unary, binary, choice, concat_one, concat_more, NetTree}
use Rattle.ae_vread.specs.Reading.{concat_of, concat_behind}
use Rattle.ae_judge.specs.Names.{is_memory_name}
use Rattle.ae_judge.specs.Widths.{declared_width_in, declared_width, unary_width, binary_width, own_width}
use Rattle.ae_runs.specs.Named.{IsNamed}
use Rattle.ae_order.specs.Sound.{IsSound}

pub named_width : {ns : List NetTree} {n : List ℕ} (h : IsNamed ns n) → declared_width ns n ≡ h.net.width
named_width h = ap declared_width_in h.found

pub named_low : {ns : List NetTree} {n : List ℕ} → IsNamed ns n → 1 ≤ declared_width ns n
named_low h = rw (named_width h) h.low

pub named_high : {ns : List NetTree} {n : List ℕ} → IsNamed ns n → declared_width ns n ≤ 64
named_high h = rw (named_width h) h.high

binary_low : (op : BinOp) (a b : ℕ) → 1 ≤ a → 1 ≤ b → 1 ≤ binary_width op a b
binary_low Mul a b p q = omega arith
binary_low Add a b p q = omega arith
binary_low Sub a b p q = omega arith
binary_low And a b p q = omega arith
binary_low Xor a b p q = omega arith
binary_low Or a b p q = omega arith
binary_low Shl a b p q = p
binary_low Shr a b p q = p
binary_low _ a b p q = omega arith

binary_high : (op : BinOp) (a b : ℕ) → a ≤ 64 → b ≤ 64 → binary_width op a b ≤ 64
binary_high Mul a b p q = omega arith
binary_high Add a b p q = omega arith
binary_high Sub a b p q = omega arith
binary_high And a b p q = omega arith
binary_high Xor a b p q = omega arith
binary_high Or a b p q = omega arith
binary_high Shl a b p q = p
binary_high Shr a b p q = p
binary_high _ a b p q = omega arith

unary_low : (op : UnOp) (a : ℕ) → 1 ≤ a → 1 ≤ unary_width op a
unary_low Not a p = omega arith
unary_low Flip a p = p

unary_high : (op : UnOp) (a : ℕ) → a ≤ 64 → unary_width op a ≤ 64
unary_high Not a p = omega arith
unary_high Flip a p = p

one_or : (b : Bool) (w : ℕ) → 1 ≤ w → w ≤ 64 → (1 ≤ (if b then w else 1)) × ((if b then w else 1) ≤ 64)
one_or true w p q = (p, q)
one_or false w p q = (omega arith, omega arith)

module _ (ns : List NetTree) where
  pub sound_low : (e : ExprTree) → IsSound ns e → 1 ≤ own_width ns e
  sound_low (name n) h = named_low h.named
  sound_low (constant size value fits) h = h.0
  sound_low (place k) h = absurd h
  sound_low (part n high low) h = omega arith
  sound_low (index n at) h = (one_or (is_memory_name ns n) (declared_width ns n) (named_low h.0) (named_high h.0)).0
  sound_low (unary op a) h = unary_low op (own_width ns a) (sound_low a h)
  sound_low (binary op a b) h = binary_low op (own_width ns a) (own_width ns b) (sound_low a h.0) (sound_low b h.1)
  sound_low (choice test a b) h = let p = sound_low a h.1 in omega arith
  sound_low (concat_one a) h = sound_low a h
  sound_low (concat_more a rest) h = let p = sound_low a h.0 in omega arith

  pub sound_high : (e : ExprTree) → IsSound ns e → own_width ns e ≤ 64
  sound_high (name n) h = named_high h.named
  sound_high (constant size value fits) h = h.1
  sound_high (place k) h = absurd h
  sound_high (part n high low) h = let p : declared_width ns n ≤ 64 = named_high h.0.named in let l = h.1 in let g = h.2 in omega arith
  sound_high (index n at) h = (one_or (is_memory_name ns n) (declared_width ns n) (named_low h.0) (named_high h.0)).1
  sound_high (unary op a) h = unary_high op (own_width ns a) (sound_high a h)
  sound_high (binary op a b) h = binary_high op (own_width ns a) (own_width ns b) (sound_high a h.0) (sound_high b h.1)
  sound_high (choice test a b) h = let p = sound_high a h.1 in let q = sound_high b h.2 in omega arith
  sound_high (concat_one a) h = sound_high a h
  sound_high (concat_more a rest) h = h.2

  -- a concatenation has a part, is as wide as its parts together, and each part is sound
  pub has_part : (ps : List ExprTree) → IsSound ns (concat_of ps) → 1 ≤ length ps
  has_part [] h = absurd (let l = h.letters in omega arith)
  has_part (p ∷ ps) h = omega arith

  behind_width : (p : ExprTree) (ps : List ExprTree) → own_width ns (concat_behind p ps) ≡ sum_by (own_width ns) (p ∷ ps)
  behind_width p [] = omega arith
  behind_width p (q ∷ ps) = ap (λ k. own_width ns p + k) (behind_width q ps) ∙ sym (sum_by-cons (own_width ns) p (q ∷ ps))

  pub parts_width : (ps : List ExprTree) → 1 ≤ length ps → own_width ns (concat_of ps) ≡ sum_by (own_width ns) ps
  parts_width [] l = absurd (omega arith)
  parts_width (p ∷ ps) l = behind_width p ps

  behind_sound : (p : ExprTree) (ps : List ExprTree) → IsSound ns (concat_behind p ps) → (k : ℕ) (x : ExprTree) → slice_get (p ∷ ps) k ≡ Some x → IsSound ns x
  behind_sound p [] h zero x e = subst (IsSound ns) (let s : p ≡ x = cc in s) h
  behind_sound p [] h (suc k) x e = cc
  behind_sound p (q ∷ ps) h zero x e = subst (IsSound ns) (let s : p ≡ x = cc in s) h.0
  behind_sound p (q ∷ ps) h (suc k) x e = behind_sound q ps h.1 k x e

  pub parts_sound : (ps : List ExprTree) → IsSound ns (concat_of ps) → (k : ℕ) (x : ExprTree) → slice_get ps k ≡ Some x → IsSound ns x
  parts_sound [] h k x e = cc
  parts_sound (p ∷ ps) h k x e = behind_sound p ps h k x e
