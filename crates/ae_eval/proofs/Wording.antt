-- Operators on words: their kinds, and what they push.
use Rattle.std.proofs.Common.{◌≡◌, ℕ, ◌+◌, ◌^◌, ◌<◌, ◌≤◌, ◌==◌, Bool, true, false, ◌&&◌, List, [], ◌∷◌, ◌++◌, take, drop, get_or, length, Option, Some, None, IsSome, IsTrue, refl, arith, sym, ap, ◌∙◌, subst}
use Rattle.std.specs.Option.{option_map}
use Rattle.std.proofs.lemmas.List.{drop_more}
use Rattle.std.proofs.lemmas.Bool.Decides.{nat_tests}
use Rattle.ae_word.specs.declared.op.WordOp.{WordOp}
use Rattle.ae_word.specs.declared.op.WordOp.TheVariants.{Add, Sub, Mul, And, Or, Xor, Not, Min, Max, Eq, Lt, Mux, Shl, Shr, Cast, SLt, SMin, SMax, Sar, SCast}
use Rattle.ae_word.specs.AtomTree.{AtomTree, WordKind, word, pair, atom_kinds, widths_in_range, same_kind, same_sign, unsigned_word, signed_word}
use Rattle.ae_word.specs.WordTable.{result_width_of, OperandsFit, HasRange, op_for, row_of}
use Rattle.ae_seqtype.specs.SeqTree.{SeqTree, atom, seq, same_type, in_size}
use Rattle.ae_seqtype.specs.ValueTree.{ValueTree, number, value_of, FitKinds, Fit, Stands}
use Rattle.ae_seq.specs.Typing.{word_type, one_word, two_words, as_word, kind_of}
use Rattle.ae_seq.specs.Meaning.{coded, word_value, kind_in, at}
use Rattle.ae_eval.specs.Stack.{FitAt, Pushed, window}
use Rattle.ae_eval.proofs.Windows.{pushed-on}
use Rattle.ae_eval.proofs.Moving.{where_ok-some}
use Rattle.ae_eval.proofs.WordFits.{word_fits, fit-Add, wide-Add, fit-Sub, wide-Sub, fit-Mul, wide-Mul, fit-And, wide-And, fit-Or, wide-Or, fit-Xor, wide-Xor, fit-Min, wide-Min, fit-Max, wide-Max, fit-Eq, wide-Eq, fit-Lt, wide-Lt, fit-Not, wide-Not, fit-Shl, wide-Shl, fit-Shr, wide-Shr, fit-Cast, wide-Cast, fit-Mux, wide-Mux}

and-both : (a b : Bool) → (a && b) ≡ true → (a ≡ true) × (b ≡ true)
and-both true b h = (refl, h)
and-both false b h = cc

same-sign : (a b : Bool) → same_sign a b ≡ true → a ≡ b
same-sign true true h = refl
same-sign true false h = cc
same-sign false true h = cc
same-sign false false h = refl

pub same-kind : (k l : WordKind) → same_kind k l ≡ true → k ≡ l
same-kind k l h =
    let r = and-both (same_sign k.signed l.signed) (k.width == l.width) h in
    let s = same-sign k.signed l.signed r.0 in
    let w : k.width ≡ l.width = grind (arith, nat_tests, r.1) in
    let a : k ≡ record { signed = l.signed; width = k.width } = ap (λ (b : Bool). let x : WordKind = record { signed = b; width = k.width } in x) s in
    a ∙ ap (λ (v : ℕ). let x : WordKind = record { signed = l.signed; width = v } in x) w

pub there : {A : Type 0} (o : Option A) → IsSome o → (u : A) × (o ≡ Some u)
there None h = cc
there (Some u) h = (u, refl)

abbrev AllRange : List WordKind → Type 0
AllRange [] = Unit {0}
AllRange (k ∷ ks) = ((1 ≤ k.width) × (k.width ≤ 64)) × AllRange ks

AllRange-append : (ks ls : List WordKind) → AllRange ks → AllRange ls → AllRange (ks ++ ls)
AllRange-append [] ls h g = g
AllRange-append (k ∷ ks) ls h g = (h.0, AllRange-append ks ls h.1 g)

ranges : (a : AtomTree) → IsTrue (widths_in_range a) → AllRange (atom_kinds a)
ranges (word k) h =
    let low : 1 ≤ k.width = grind (arith, nat_tests) in
    let high : k.width ≤ 64 = grind (arith, nat_tests) in
    ((low, high), tt)
ranges (pair a b) h =
    let r = and-both (widths_in_range a) (widths_in_range b) h in
    AllRange-append (atom_kinds a) (atom_kinds b) (ranges a r.0) (ranges b r.1)

mapped : (o : Option WordKind) (w : ℕ) → option_map (λ (q : WordKind). q.width) o ≡ Some w → (k : WordKind) × (o ≡ Some k) × (w ≡ k.width)
mapped None w h = cc
mapped (Some k) w h = (k, refl, cc)

one-of : (s u : SeqTree) → one_word (s ∷ []) ≡ Some u → (k : WordKind) × (s ≡ atom (word k)) × (u ≡ s)
one-of (atom (word k)) u h = (k, refl, cc)
one-of (atom (pair a b)) u h = cc
one-of (seq n t) u h = cc

two-of : (s z u : SeqTree) → two_words (s ∷ z ∷ []) ≡ Some u → (k : WordKind) × (s ≡ atom (word k)) × (z ≡ atom (word k)) × (u ≡ z)
two-of (atom (word k)) (atom (word l)) u h =
    let ok = where_ok-some (same_kind k l) (Some (atom (word l))) u h in
    let e = same-kind k l ok.0 in
    let same : u ≡ atom (word l) = (let q = ok.1 in cc) in
    (k, refl, ap (λ x. atom (word x)) (sym e), same)
two-of (atom (word k)) (atom (pair a b)) u h = cc
two-of (atom (word k)) (seq n t) u h = cc
two-of (atom (pair a b)) z u h = cc
two-of (seq n t) z u h = cc

pub as-of : (a : AtomTree) (o : Option SeqTree) (u : SeqTree) → as_word a o ≡ Some u → (t : SeqTree) × (o ≡ Some t) × (u ≡ atom a)
as-of a None u h = cc
as-of a (Some t) u h = (t, refl, cc)

bit-of : (c : SeqTree) → same_type c (atom (unsigned_word 1)) ≡ true → c ≡ atom (unsigned_word 1)
bit-of (atom (word k)) h = ap (λ x. atom (word x)) (same-kind k _ h)
bit-of (atom (pair a b)) h = cc
bit-of (seq n t) h = cc

-- what an operator needs of its operands' kind, and the kind of its result
pub record OneWord (op : WordOp) (s u : SeqTree) : Type 0 where
  pub kind : WordKind
  pub first : s ≡ atom (word kind)
  pub result : u ≡ atom (word ((row_of op).result kind))
  pub fit : (a b c : ℕ) → a < 2 ^ kind.width → OperandsFit (op_for kind.signed op) kind.width a b c
  pub wide : result_width_of (op_for kind.signed op) kind.width ≡ ((row_of op).result kind).width
  pub by : (v : ValueTree) → kind_in (at (v ∷ []) (row_of op).main) ≡ kind_in v

pub record TwoWords (op : WordOp) (s z u : SeqTree) : Type 0 where
  pub kind : WordKind
  pub first : s ≡ atom (word kind)
  pub second : z ≡ atom (word kind)
  pub result : u ≡ atom (word ((row_of op).result kind))
  pub fit : (a b c : ℕ) → a < 2 ^ kind.width → b < 2 ^ kind.width → OperandsFit (op_for kind.signed op) kind.width a b c
  pub wide : result_width_of (op_for kind.signed op) kind.width ≡ ((row_of op).result kind).width
  pub by : (v w : ValueTree) → kind_in (at (v ∷ w ∷ []) (row_of op).main) ≡ kind_in v

pub record Choice (op : WordOp) (t s z u : SeqTree) : Type 0 where
  pub is : op ≡ Mux
  pub kind : WordKind
  pub test : t ≡ atom (unsigned_word 1)
  pub first : s ≡ atom (word kind)
  pub second : z ≡ atom (word kind)
  pub result : u ≡ atom (word kind)

none-some : (u : SeqTree) → None ≡ Some u → ⊥
none-some u h = cc

pub one-line : (op : WordOp) (s u : SeqTree) → word_type op (s ∷ []) ≡ Some u → OneWord op s u
one-line Add s u h = cc
one-line Sub s u h = cc
one-line Mul s u h = cc
one-line And s u h = cc
one-line Or s u h = cc
one-line Xor s u h = cc
one-line Not s u h =
    let r = one-of s u h in
    record {
      kind = r.0;
      first = r.1;
      result = r.2 ∙ r.1;
      fit = λ a b c p. fit-Not r.0.signed r.0.width a b c p;
      wide = wide-Not r.0.signed r.0.width;
      by = λ v. refl;
    }
one-line Min s u h = cc
one-line Max s u h = cc
one-line Eq s u h = cc
one-line Lt s u h = cc
one-line Mux s u h = let ok = where_ok-some (same_type s (atom (unsigned_word 1))) (two_words []) u h in let q = ok.1 in absurd (none-some u q)
one-line (Shl n) s u h =
    let r = one-of s u h in
    record {
      kind = r.0;
      first = r.1;
      result = r.2 ∙ r.1;
      fit = λ a b c p. fit-Shl n r.0.signed r.0.width a b c p;
      wide = wide-Shl n r.0.signed r.0.width;
      by = λ v. refl;
    }
one-line (Shr n) s u h =
    let r = one-of s u h in
    record {
      kind = r.0;
      first = r.1;
      result = r.2 ∙ r.1;
      fit = λ a b c p. fit-Shr n r.0.signed r.0.width a b c p;
      wide = wide-Shr n r.0.signed r.0.width;
      by = λ v. refl;
    }
one-line (Cast n) s u h =
    let o = as-of (unsigned_word n) (one_word (s ∷ [])) u h in
    let r = one-of s o.0 o.1 in
    record {
      kind = r.0;
      first = r.1;
      result = o.2;
      fit = λ a b c p. fit-Cast n r.0.signed r.0.width a b c p;
      wide = wide-Cast n r.0.signed r.0.width;
      by = λ v. refl;
    }
one-line SLt s u h = cc
one-line SMin s u h = cc
one-line SMax s u h = cc
one-line (Sar n) s u h = cc
one-line (SCast n) s u h = cc

pub two-line : (op : WordOp) (s z u : SeqTree) → word_type op (s ∷ z ∷ []) ≡ Some u → TwoWords op s z u
two-line Add s z u h =
    let r = two-of s z u h in
    record {
      kind = r.0;
      first = r.1;
      second = r.2;
      result = r.3 ∙ r.2;
      fit = λ a b c p q. fit-Add r.0.signed r.0.width a b c p q;
      wide = wide-Add r.0.signed r.0.width;
      by = λ v w. refl;
    }
two-line Sub s z u h =
    let r = two-of s z u h in
    record {
      kind = r.0;
      first = r.1;
      second = r.2;
      result = r.3 ∙ r.2;
      fit = λ a b c p q. fit-Sub r.0.signed r.0.width a b c p q;
      wide = wide-Sub r.0.signed r.0.width;
      by = λ v w. refl;
    }
two-line Mul s z u h =
    let r = two-of s z u h in
    record {
      kind = r.0;
      first = r.1;
      second = r.2;
      result = r.3 ∙ r.2;
      fit = λ a b c p q. fit-Mul r.0.signed r.0.width a b c p q;
      wide = wide-Mul r.0.signed r.0.width;
      by = λ v w. refl;
    }
two-line And s z u h =
    let r = two-of s z u h in
    record {
      kind = r.0;
      first = r.1;
      second = r.2;
      result = r.3 ∙ r.2;
      fit = λ a b c p q. fit-And r.0.signed r.0.width a b c p q;
      wide = wide-And r.0.signed r.0.width;
      by = λ v w. refl;
    }
two-line Or s z u h =
    let r = two-of s z u h in
    record {
      kind = r.0;
      first = r.1;
      second = r.2;
      result = r.3 ∙ r.2;
      fit = λ a b c p q. fit-Or r.0.signed r.0.width a b c p q;
      wide = wide-Or r.0.signed r.0.width;
      by = λ v w. refl;
    }
two-line Xor s z u h =
    let r = two-of s z u h in
    record {
      kind = r.0;
      first = r.1;
      second = r.2;
      result = r.3 ∙ r.2;
      fit = λ a b c p q. fit-Xor r.0.signed r.0.width a b c p q;
      wide = wide-Xor r.0.signed r.0.width;
      by = λ v w. refl;
    }
two-line Not s z u h = cc
two-line Min s z u h =
    let r = two-of s z u h in
    record {
      kind = r.0;
      first = r.1;
      second = r.2;
      result = r.3 ∙ r.2;
      fit = λ a b c p q. fit-Min r.0.signed r.0.width a b c p q;
      wide = wide-Min r.0.signed r.0.width;
      by = λ v w. refl;
    }
two-line Max s z u h =
    let r = two-of s z u h in
    record {
      kind = r.0;
      first = r.1;
      second = r.2;
      result = r.3 ∙ r.2;
      fit = λ a b c p q. fit-Max r.0.signed r.0.width a b c p q;
      wide = wide-Max r.0.signed r.0.width;
      by = λ v w. refl;
    }
two-line Eq s z u h =
    let o = as-of (unsigned_word 1) (two_words (s ∷ z ∷ [])) u h in
    let r = two-of s z o.0 o.1 in
    record {
      kind = r.0;
      first = r.1;
      second = r.2;
      result = o.2;
      fit = λ a b c p q. fit-Eq r.0.signed r.0.width a b c p q;
      wide = wide-Eq r.0.signed r.0.width;
      by = λ v w. refl;
    }
two-line Lt s z u h =
    let o = as-of (unsigned_word 1) (two_words (s ∷ z ∷ [])) u h in
    let r = two-of s z o.0 o.1 in
    record {
      kind = r.0;
      first = r.1;
      second = r.2;
      result = o.2;
      fit = λ a b c p q. fit-Lt r.0.signed r.0.width a b c p q;
      wide = wide-Lt r.0.signed r.0.width;
      by = λ v w. refl;
    }
two-line Mux s z u h = let ok = where_ok-some (same_type s (atom (unsigned_word 1))) (two_words (z ∷ [])) u h in let q = ok.1 in cc
two-line (Shl n) s z u h = cc
two-line (Shr n) s z u h = cc
two-line (Cast n) s z u h = cc
two-line SLt s z u h = cc
two-line SMin s z u h = cc
two-line SMax s z u h = cc
two-line (Sar n) s z u h = cc
two-line (SCast n) s z u h = cc

pub choice-line : (op : WordOp) (t s z u : SeqTree) → word_type op (t ∷ s ∷ z ∷ []) ≡ Some u → Choice op t s z u
choice-line Add t s z u h = cc
choice-line Sub t s z u h = cc
choice-line Mul t s z u h = cc
choice-line And t s z u h = cc
choice-line Or t s z u h = cc
choice-line Xor t s z u h = cc
choice-line Not t s z u h = cc
choice-line Min t s z u h = cc
choice-line Max t s z u h = cc
choice-line Eq t s z u h = cc
choice-line Lt t s z u h = cc
choice-line Mux t s z u h =
    let ok = where_ok-some (same_type t (atom (unsigned_word 1))) (two_words (s ∷ z ∷ [])) u h in
    let r = two-of s z u ok.1 in
    record { is = refl; kind = r.0; test = bit-of t ok.0; first = r.1; second = r.2; result = r.3 ∙ r.2 }
choice-line (Shl n) t s z u h = cc
choice-line (Shr n) t s z u h = cc
choice-line (Cast n) t s z u h = cc
choice-line SLt t s z u h = cc
choice-line SMin t s z u h = cc
choice-line SMax t s z u h = cc
choice-line (Sar n) t s z u h = cc
choice-line (SCast n) t s z u h = cc

-- a word that stands at a place
pub word-window : (s : SeqTree) (k : WordKind) (start : ℕ) (old : List ℕ) (x : ℕ) → s ≡ atom (word k) → FitAt s start old → x ≡ get_or old start x
    → (window s start old ≡ x ∷ []) × (x < 2 ^ k.width)
word-window s k start old x es h e =
    let room : start + 1 ≤ length old = rw es at h.room in
    let one : take 1 (drop start old) ≡ x ∷ [] = ap (take 1) (drop_more old start x (omega arith)) ∙ ap (λ y. y ∷ []) (sym e) in
    let own : window s start old ≡ x ∷ [] = ap (λ z. window z start old) es ∙ one in
    let P : SeqTree → Type 0 = λ z. Fit z (window z start old) in
    let Q : List ℕ → Type 0 = λ ys. FitKinds ys (k ∷ []) in
    (own, (subst Q one (subst P es h.fits)).0)

pub word-room : (s : SeqTree) (k : WordKind) (start : ℕ) (old : List ℕ) → s ≡ atom (word k) → FitAt s start old → start < length old
word-room s k start old es h = let room : start + 1 ≤ length old = rw es at h.room in omega arith

stands-word : (u : SeqTree) (k : WordKind) (r : ℕ) → u ≡ atom (word k) → r < 2 ^ k.width → Stands u (r ∷ []) (number k r)
stands-word u k r e h = rw e (record { fits = (h, tt); value = refl })

kind-is : (s : SeqTree) (k : WordKind) → s ≡ atom (word k) → kind_of s ≡ Some k
kind-is s k e = rw e refl

value-is : (s : SeqTree) (k : WordKind) (ws : List ℕ) (x : ℕ) → s ≡ atom (word k) → ws ≡ x ∷ [] → value_of s ws ≡ number k x
value-is s k ws x e w = rw (e, w) refl

pub one-pushed : (op : WordOp) (s : SeqTree) (start : ℕ) (old new : List ℕ) (x r : ℕ) → FitAt s start old → x ≡ get_or old start x
    → ((k : WordKind) → kind_of s ≡ Some k → r ≡ coded op k x 0 0) → new ≡ old ++ r ∷ []
    → Pushed (word_type op (s ∷ [])) old new (word_value op (value_of s (window s start old) ∷ []))
one-pushed op s start old new x r h ex er en = pushed-on _ old new (r ∷ []) _ en (λ u p.
    let l = one-line op s u p in
    let k = l.kind in
    let w = word-window s k start old x l.first h ex in
    let v = value-is s k (window s start old) x l.first w.0 in
    let c = er k (kind-is s k l.first) in
    let small : coded op k x 0 0 < 2 ^ ((row_of op).result k).width = rw l.wide at (word_fits (op_for k.signed op) k.width x 0 0 (l.fit x 0 0 w.1)) in
    let st = stands-word u ((row_of op).result k) (coded op k x 0 0) l.result small in
    let value : number ((row_of op).result k) (coded op k x 0 0) ≡ word_value op (number k x ∷ []) = ap (λ q. number ((row_of op).result q) (coded op q x 0 0))
    (sym (l.by (number k x))) in
    let P : ValueTree → Type 0 = λ z. Stands u (coded op k x 0 0 ∷ []) z in
    let Q : ℕ → Type 0 = λ z. Stands u (z ∷ []) (word_value op (value_of s (window s start old) ∷ [])) in
    subst Q (sym c) (subst P (value ∙ ap (λ z. word_value op (z ∷ [])) (sym v)) st))

pub two-pushed : (op : WordOp) (s z : SeqTree) (start place : ℕ) (old new : List ℕ) (x y r : ℕ) → FitAt s start old → FitAt z place old
    → x ≡ get_or old start x → y ≡ get_or old place y → ((k : WordKind) → kind_of s ≡ Some k → r ≡ coded op k x y 0) → new ≡ old ++ r ∷ []
    → Pushed (word_type op (s ∷ z ∷ [])) old new (word_value op (value_of s (window s start old) ∷ value_of z (window z place old) ∷ []))
two-pushed op s z start place old new x y r h g ex ey er en = pushed-on _ old new (r ∷ []) _ en (λ u p.
    let l = two-line op s z u p in
    let k = l.kind in
    let wx = word-window s k start old x l.first h ex in
    let wy = word-window z k place old y l.second g ey in
    let vx = value-is s k (window s start old) x l.first wx.0 in
    let vy = value-is z k (window z place old) y l.second wy.0 in
    let c = er k (kind-is s k l.first) in
    let small : coded op k x y 0 < 2 ^ ((row_of op).result k).width = rw l.wide at (word_fits (op_for k.signed op) k.width x y 0 (l.fit x y 0 wx.1 wy.1)) in
    let st = stands-word u ((row_of op).result k) (coded op k x y 0) l.result small in
    let value : number ((row_of op).result k) (coded op k x y 0) ≡ word_value op (number k x ∷ number k y ∷ []) = ap
    (λ q. number ((row_of op).result q) (coded op q x y 0)) (sym (l.by (number k x) (number k y))) in
    let P : ValueTree → Type 0 = λ q. Stands u (coded op k x y 0 ∷ []) q in
    let Q : ℕ → Type 0 = λ q. Stands u (q ∷ []) (word_value op (value_of s (window s start old) ∷ value_of z (window z place old) ∷ [])) in
    subst Q (sym c) (subst P (value ∙ ap (λ q. word_value op (q ∷ number k y ∷ [])) (sym vx) ∙
    ap (λ q. word_value op (value_of s (window s start old) ∷ q ∷ [])) (sym vy)) st))

pub two-fit : (op : WordOp) (s z : SeqTree) (start place : ℕ) (old : List ℕ) (x y : ℕ) → FitAt s start old → FitAt z place old → x ≡ get_or old start x
    → y ≡ get_or old place y → IsSome (word_type op (s ∷ z ∷ [])) → (k : WordKind) → kind_of s ≡ Some k → OperandsFit (op_for k.signed op) k.width x y 0
two-fit op s z start place old x y h g ex ey t k e =
    let p = there (word_type op (s ∷ z ∷ [])) t in
    let l = two-line op s z p.0 p.1 in
    let same : l.kind ≡ k = (let q = kind-is s l.kind l.first in cc) in
    let P : WordKind → Type 0 = λ q. OperandsFit (op_for q.signed op) q.width x y 0 in
    subst P same (l.fit x y 0 (word-window s l.kind start old x l.first h ex).1 (word-window z l.kind place old y l.second g ey).1)

pub choice-pushed : (op : WordOp) (t s z : SeqTree) (i j m : ℕ) (old new : List ℕ) (x y w r : ℕ) → FitAt t i old → FitAt s j old → FitAt z m old
    → x ≡ get_or old i x → y ≡ get_or old j y → w ≡ get_or old m w → ((k : WordKind) → kind_of s ≡ Some k → r ≡ coded op k x y w) → new ≡ old ++ r ∷ []
    → Pushed (word_type op (t ∷ s ∷ z ∷ [])) old new (word_value op
    (value_of t (window t i old) ∷ value_of s (window s j old) ∷ value_of z (window z m old) ∷ []))
choice-pushed op t s z i j m old new x y w r ht hs hz ex ey ew er en = pushed-on _ old new (r ∷ []) _ en (λ u p.
    let l = choice-line op t s z u p in
    let k = l.kind in
    let bitk : WordKind = record { signed = false; width = 1 } in
    let wx = word-window t bitk i old x l.test ht ex in
    let wy = word-window s k j old y l.first hs ey in
    let ww = word-window z k m old w l.second hz ew in
    let vx = value-is t bitk (window t i old) x l.test wx.0 in
    let vy = value-is s k (window s j old) y l.first wy.0 in
    let vw = value-is z k (window z m old) w l.second ww.0 in
    let c : r ≡ coded Mux k x y w = er k (kind-is s k l.first) ∙ ap (λ o. coded o k x y w) l.is in
    let small : coded Mux k x y w < 2 ^ k.width = rw (wide-Mux k.signed k.width) at
    (word_fits (op_for k.signed Mux) k.width x y w (fit-Mux k.signed k.width x y w wx.1 wy.1 ww.1)) in
    let st = stands-word u k (coded Mux k x y w) l.result small in
    let P : ValueTree → Type 0 = λ q. Stands u (coded Mux k x y w ∷ []) q in
    let Q : ℕ → Type 0 = λ q. Stands u (q ∷ []) (word_value op
    (value_of t (window t i old) ∷ value_of s (window s j old) ∷ value_of z (window z m old) ∷ [])) in
    let value : number k (coded Mux k x y w) ≡ word_value Mux (number bitk x ∷ number k y ∷ number k w ∷ []) = refl in
    subst Q (sym c) (subst P (value ∙ ap (λ q. word_value Mux (q ∷ number k y ∷ number k w ∷ [])) (sym vx) ∙
    ap (λ q. word_value Mux (value_of t (window t i old) ∷ q ∷ number k w ∷ [])) (sym vy) ∙
    ap (λ q. word_value Mux (value_of t (window t i old) ∷ value_of s (window s j old) ∷ q ∷ [])) (sym vw) ∙
    ap (λ o. word_value o (value_of t (window t i old) ∷ value_of s (window s j old) ∷ value_of z (window z m old) ∷ [])) (sym l.is)) st))

pub choice-fit : (op : WordOp) (t s z : SeqTree) (i j m : ℕ) (old : List ℕ) (x y w : ℕ) → FitAt t i old → FitAt s j old → FitAt z m old → x ≡ get_or old i x
    → y ≡ get_or old j y → w ≡ get_or old m w → IsSome (word_type op (t ∷ s ∷ z ∷ [])) → (k : WordKind) → kind_of s ≡ Some k
    → OperandsFit (op_for k.signed op) k.width x y w
choice-fit op t s z i j m old x y w ht hs hz ex ey ew h k e =
    let p = there (word_type op (t ∷ s ∷ z ∷ [])) h in
    let l = choice-line op t s z p.0 p.1 in
    let bitk : WordKind = record { signed = false; width = 1 } in
    let same : l.kind ≡ k = (let q = kind-is s l.kind l.first in cc) in
    let P : WordKind → Type 0 = λ q. OperandsFit (op_for q.signed Mux) q.width x y w in
    let Q : WordOp → Type 0 = λ o. OperandsFit (op_for k.signed o) k.width x y w in
    subst Q (sym l.is) (subst P same (fit-Mux l.kind.signed l.kind.width x y w (word-window t bitk i old x l.test ht ex).1
    (word-window s l.kind j old y l.first hs ey).1 (word-window z l.kind m old w l.second hz ew).1))

pub choice-rooms : (op : WordOp) (t s z : SeqTree) (i j m : ℕ) (old : List ℕ) → FitAt t i old → FitAt s j old → FitAt z m old
    → IsSome (word_type op (t ∷ s ∷ z ∷ [])) → (i < length old) × (j < length old) × (m < length old)
choice-rooms op t s z i j m old ht hs hz h =
    let p = there (word_type op (t ∷ s ∷ z ∷ [])) h in
    let l = choice-line op t s z p.0 p.1 in
    (word-room t _ i old l.test ht, word-room s _ j old l.first hs, word-room z _ m old l.second hz)

-- a cast to a type in size names a width in range
pub sized-word : (k : WordKind) → IsTrue (in_size (atom (word k))) → (1 ≤ k.width) × (k.width ≤ 64)
sized-word k h =
    let low : 1 ≤ k.width = grind (arith, nat_tests) in
    let high : k.width ≤ 64 = grind (arith, nat_tests) in
    (low, high)

pub one-range : (op : WordOp) (s : SeqTree) → IsSome (word_type op (s ∷ [])) → ((u : SeqTree) → word_type op (s ∷ []) ≡ Some u → IsTrue (in_size u))
    → HasRange op
one-range (Cast n) s h g =
    let p = there (word_type (Cast n) (s ∷ [])) h in
    let l = one-line (Cast n) s p.0 p.1 in
    sized-word (record { signed = false; width = n }) (subst (λ z. IsTrue (in_size z)) l.result (g p.0 p.1))
one-range (SCast n) s h g = let p = there (word_type (SCast n) (s ∷ [])) h in absurd (none-some p.0 p.1)
one-range Add s h g = tt
one-range Sub s h g = tt
one-range Mul s h g = tt
one-range And s h g = tt
one-range Or s h g = tt
one-range Xor s h g = tt
one-range Not s h g = tt
one-range Min s h g = tt
one-range Max s h g = tt
one-range Eq s h g = tt
one-range Lt s h g = tt
one-range Mux s h g = tt
one-range (Shl n) s h g = tt
one-range (Shr n) s h g = tt
one-range SLt s h g = tt
one-range SMin s h g = tt
one-range SMax s h g = tt
one-range (Sar n) s h g = tt

pub cast-range : (v : ℕ) (s : SeqTree) → IsSome (as_word (signed_word v) (one_word (s ∷ [])))
    → ((u : SeqTree) → as_word (signed_word v) (one_word (s ∷ [])) ≡ Some u → IsTrue (in_size u)) → (1 ≤ v) × (v ≤ 64)
cast-range v s h g =
    let p = there (as_word (signed_word v) (one_word (s ∷ []))) h in
    let o = as-of (signed_word v) (one_word (s ∷ [])) p.0 p.1 in
    sized-word (record { signed = true; width = v }) (subst (λ z. IsTrue (in_size z)) o.2 (g p.0 p.1))
