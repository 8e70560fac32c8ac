-- The fields of a written program may stand in a line.
use Rattle.std.proofs.Common.{◌≡◌, ℕ, ◌^◌, ◌<◌, Bool, true, false, not, ◌&&◌, ◌||◌, ◌==◌, nat_le, nat_lt, nat_eq, List, [], ◌∷◌, ◌++◌, length, Some, if◌then◌else◌, refl, ap, ◌∙◌, arith}
use Rattle.std.proofs.lemmas.Bool.{leb-true, lt-ltb, eqb-true}
use Rattle.std.proofs.lemmas.Fmt.{decimal_nonempty}
use Rattle.std.specs.Fmt.{decimal}
use Rattle.std.specs.List.{list_all}
use Rattle.ae_word.specs.AtomText.{atom_text, kind_letter}
use Rattle.ae_word.specs.AtomTree.{AtomTree, word, pair, widths_in_range}
use Rattle.ae_seqtype.specs.SeqTree.{SeqTree, atom, seq, parts_in_size}
use Rattle.ae_seqtype.specs.TypeText.{type_text}
use Rattle.ae_seq.specs.Formed.{all_name_bytes, is_letter, is_name, is_name_byte, within}
use Rattle.ae_fields.specs.Cut.{free, pieces, put}
use Rattle.ae_fields.specs.Grammar.{two_of}
use Rattle.ae_fields.specs.TypeForm.{is_digit}
use Rattle.ae_fields.proofs.NameLemmas.{name-bytes, or-elim}
use Rattle.ae_print.proofs.TextForms.{inked, solid, all-weaker, all-append, not-mark}
use Rattle.ae_print.proofs.TypeRead.{decimal-digits}
use Rattle.ae_fields.proofs.NameForms.{not-so}
use Rattle.ae_seq.proofs.Judging.{left as and-first, right as and-second}
use Rattle.ae_fields.proofs.PartLemmas.{and-both}

-- a byte of a name or of a type
abbrev pub inner_byte : ℕ → Bool
inner_byte b = nat_lt 32 b && nat_lt b 127 && not (nat_eq b 35) && not (nat_eq b 58)

ne : (a b : ℕ) → (a ≡ b → ⊥) → not (nat_eq a b) ≡ true
ne a b f = by (nat_eq a b) refl
  where
    by : (t : Bool) → nat_eq a b ≡ t → not t ≡ true
    by true e = absurd (f (eqb-true a b e))
    by false e = refl

inner-so : (b : ℕ) → 35 < b → b < 127 → (b ≡ 58 → ⊥) → inner_byte b ≡ true
inner-so b low high other =
    and-both _ _ (and-both _ _ (and-both _ _ (lt-ltb 32 b (omega arith)) (lt-ltb b 127 high)) (ne b 35 (λ e. omega arith))) (ne b 58 other)

digit-inner : (b : ℕ) → is_digit b ≡ true → inner_byte b ≡ true
digit-inner b h =
    let low = leb-true 48 b (and-first _ _ h) in
    let high = leb-true b 57 (and-second (nat_le 48 b) _ h) in
    inner-so b (omega arith) (omega arith) (λ e. omega arith)

named-inner : (b : ℕ) → is_name_byte b ≡ true → inner_byte b ≡ true
named-inner b h =
    or-elim (is_letter b) (within 48 57 b) h
    (λ h1. or-elim (within 97 122 b || within 65 90 b) (b == 95) h1
    (λ h2. or-elim (within 97 122 b) (within 65 90 b) h2
    (λ e. let l = leb-true 97 b (and-first _ _ e) in let r = leb-true b 122 (and-second (nat_le 97 b) _ e) in
    inner-so b (omega arith) (omega arith) (λ x. omega arith))
    (λ e. let l = leb-true 65 b (and-first _ _ e) in let r = leb-true b 90 (and-second (nat_le 65 b) _ e) in
    inner-so b (omega arith) (omega arith) (λ x. omega arith)))
    (λ e. let l = eqb-true b 95 e in inner-so b (omega arith) (omega arith) (λ x. omega arith)))
    (digit-inner b)

names-inner : (bs : List ℕ) → all_name_bytes bs ≡ true → list_all inner_byte bs ≡ true
names-inner [] h = refl
names-inner (b ∷ bs) h = and-both _ _ (named-inner b (and-first _ _ h)) (names-inner bs (and-second (is_name_byte b) _ h))

inner-inked : (b : ℕ) → inner_byte b ≡ true → inked b ≡ true
inner-inked b h = and-first _ _ h

pub name-inner : (n : List ℕ) → is_name n ≡ true → list_all inner_byte n ≡ true
name-inner n h = names-inner n (name-bytes n h)

pub decimal-inner : (n : ℕ) → n < 2 ^ 64 → list_all inner_byte (decimal n) ≡ true
decimal-inner n h = all-weaker is_digit inner_byte digit-inner (decimal n) (decimal-digits n h)

atom-inner : (a : AtomTree) → widths_in_range a ≡ true → list_all inner_byte (atom_text a) ≡ true
atom-inner (word k) h = and-both _ _ (letter k.signed) (decimal-inner k.width (let w = leb-true k.width 64 (and-second (nat_le 1 k.width) _ h) in omega arith))
  where
    letter : (s : Bool) → inner_byte (kind_letter s) ≡ true
    letter true = refl
    letter false = refl
atom-inner (pair a b) h =
    all-append inner_byte ((40 ∷ atom_text a) ++ (44 ∷ atom_text b)) (41 ∷ [])
    (all-append inner_byte (40 ∷ atom_text a) (44 ∷ atom_text b) (atom-inner a (and-first (widths_in_range a) _ h))
    (atom-inner b (and-second (widths_in_range a) _ h))) refl

pub type-inner : (t : SeqTree) → parts_in_size t ≡ true → list_all inner_byte (type_text t) ≡ true
type-inner (atom a) h = atom-inner a (and-first (widths_in_range a) _ h)
type-inner (seq n t) h =
    let high = leb-true n 4096 (and-second (nat_le 1 n) _ (and-first (nat_le 1 n && nat_le n 4096) _ h)) in
    all-append inner_byte (91 ∷ decimal n) (93 ∷ type_text t) (decimal-inner n (omega arith)) (type-inner t (and-second (nat_le 1 n && nat_le n 4096) _ h))

-- ---- fields

solid-of : (f : List ℕ) → 0 < length f → list_all inked f ≡ true → solid f ≡ true
solid-of [] l h = absurd (omega arith)
solid-of (b ∷ bs) l h = h

name-some : (n : List ℕ) → is_name n ≡ true → 0 < length n
name-some [] h = absurd cc
name-some (b ∷ bs) h = omega arith

pub solid-name : (n : List ℕ) → is_name n ≡ true → solid n ≡ true
solid-name n h = solid-of n (name-some n h) (all-weaker inner_byte inked inner-inked n (name-inner n h))

pub solid-decimal : (n : ℕ) → n < 2 ^ 64 → solid (decimal n) ≡ true
solid-decimal n h = solid-of (decimal n) (decimal_nonempty n h) (all-weaker inner_byte inked inner-inked (decimal n) (decimal-inner n h))

pub solid-letter : (b n : ℕ) → inked b ≡ true → n < 2 ^ 64 → solid (b ∷ decimal n) ≡ true
solid-letter b n l h = and-both _ _ l (all-weaker inner_byte inked inner-inked (decimal n) (decimal-inner n h))

type-some : (t : SeqTree) → 0 < length (type_text t)
type-some (atom (word k)) = omega arith
type-some (atom (pair a b)) = omega arith
type-some (seq n t) = omega arith

pub solid-type : (t : SeqTree) → parts_in_size t ≡ true → solid (type_text t) ≡ true
solid-type t h = solid-of (type_text t) (type-some t) (all-weaker inner_byte inked inner-inked (type_text t) (type-inner t h))

pub solid-param : (n : List ℕ) (t : SeqTree) → is_name n ≡ true → parts_in_size t ≡ true → solid (n ++ 58 ∷ type_text t) ≡ true
solid-param n t h p =
    let all = all-append inked n (58 ∷ type_text t) (all-weaker inner_byte inked inner-inked n (name-inner n h))
    (all-weaker inner_byte inked inner-inked (type_text t) (type-inner t p)) in
    by n (name-some n h) all
  where
    by : (m : List ℕ) → 0 < length m → list_all inked (m ++ 58 ∷ type_text t) ≡ true → solid (m ++ 58 ∷ type_text t) ≡ true
    by [] l e = absurd (omega arith)
    by (b ∷ bs) l e = e

-- ---- a parameter is cut at its colon

inner-free : (bs : List ℕ) → list_all inner_byte bs ≡ true → free 58 bs ≡ true
inner-free [] h = refl
inner-free (b ∷ bs) h = and-both _ _ (ap not (not-mark inner_byte 58 refl b (and-first _ _ h))) (inner-free bs (and-second (inner_byte b) _ h))

pieces-free : (bs : List ℕ) → free 58 bs ≡ true → pieces 58 bs ≡ bs ∷ []
pieces-free [] h = refl
pieces-free (b ∷ bs) h =
    ap (λ t. if t then [] ∷ pieces 58 bs else put b (pieces 58 bs)) (not-so (nat_eq b 58) (and-first _ _ h)) ∙
    ap (put b) (pieces-free bs (and-second (not (nat_eq b 58)) _ h))

pieces-cut : (bs after : List ℕ) → free 58 bs ≡ true → pieces 58 (bs ++ 58 ∷ after) ≡ bs ∷ pieces 58 after
pieces-cut [] after h = refl
pieces-cut (b ∷ bs) after h =
    ap (λ t. if t then [] ∷ pieces 58 (bs ++ 58 ∷ after) else put b (pieces 58 (bs ++ 58 ∷ after))) (not-so (nat_eq b 58) (and-first _ _ h))
    ∙ ap (put b) (pieces-cut bs after (and-second (not (nat_eq b 58)) _ h))

pub param-cut : (n : List ℕ) (t : SeqTree) → is_name n ≡ true → parts_in_size t ≡ true → two_of (pieces 58 (n ++ 58 ∷ type_text t)) ≡ Some (n, type_text t)
param-cut n t h p =
    ap two_of (pieces-cut n (type_text t) (inner-free n (name-inner n h)) ∙
    ap (λ ps. n ∷ ps) (pieces-free (type_text t) (inner-free (type_text t) (type-inner t p))))
