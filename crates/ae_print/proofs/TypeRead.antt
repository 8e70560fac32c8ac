-- Written numbers and types are read back.
use Rattle.std.proofs.Common.{◌≡◌, ℕ, zero, suc, ◌^◌, ◌<◌, ◌≤◌, Bool, true, false, not, ◌&&◌, ◌||◌, ◌==◌, nat_le, nat_eq, List, [], ◌∷◌, ◌++◌, Some, if◌then◌else◌, refl, sym, ap, ◌∙◌, arith, append_assoc}
use Rattle.std.proofs.lemmas.Bool.{leb-true}
use Rattle.std.proofs.lemmas.Fmt.{digits_decimal}
use Rattle.std.specs.Char.{is_ascii_digit}
use Rattle.std.specs.Fmt.{decimal}
use Rattle.std.specs.List.{list_all}
use Rattle.std.specs.Str.{all_ascii_digits}
use Rattle.ae_word.specs.AtomText.{atom_text, kind_letter}
use Rattle.ae_word.specs.AtomTree.{AtomTree, WordKind, word, pair, pair_depth, widths_in_range}
use Rattle.ae_seqtype.specs.SeqTree.{SeqTree, atom, seq, depth, parts_in_size, atom_of}
use Rattle.ae_seqtype.specs.TypeText.{type_text}
use Rattle.ae_seq.specs.Formed.{is_unsigned, is_spelled, within}
use Rattle.ae_fields.specs.Number.{plain_of}
use Rattle.ae_seq.specs.Typing.{where_ok, ◌>>=◌}
use Rattle.ae_fields.specs.TypeForm.{is_digit, digits_of, after_digits, past, letter_kind, word_from, pair_from, atom_from, alone, atom_type_of, length_from, sequence_from, type_from, type_of}
use Rattle.ae_fields.proofs.PlainLemmas.{own}
use Rattle.ae_fields.proofs.PlainOf.{plain-some}
use Rattle.ae_seq.proofs.Judging.{left as and-first, right as and-second}
use Rattle.ae_fields.proofs.PartLemmas.{and-both}

digits-all : (ds : List ℕ) → all_ascii_digits ds ≡ true → list_all is_digit ds ≡ true
digits-all [] h = refl
digits-all (d ∷ ds) h = and-both _ _ (and-first _ _ h) (digits-all ds (and-second (is_ascii_digit d) _ h))

pub decimal-digits : (n : ℕ) → n < 2 ^ 64 → list_all is_digit (decimal n) ≡ true
decimal-digits n h = digits-all (decimal n) (digits_decimal own n h)

-- no digit comes next
abbrev pub no_digit : List ℕ → Bool
no_digit [] = true
no_digit (b ∷ bs) = not (is_digit b)

digits-none : (rest : List ℕ) → no_digit rest ≡ true → (digits_of rest ≡ []) × (after_digits rest ≡ rest)
digits-none [] h = (refl, refl)
digits-none (b ∷ bs) h = by (is_digit b) h
  where
    by : (t : Bool) → not t ≡ true → ((if t then b ∷ digits_of bs else []) ≡ []) × ((if t then after_digits bs else b ∷ bs) ≡ b ∷ bs)
    by true e = absurd cc
    by false e = (refl, refl)

append-none : {A : Type 0} (xs : List A) → xs ++ [] ≡ xs
append-none [] = refl
append-none (x ∷ xs) = ap (λ ys. x ∷ ys) (append-none xs)

digits-cut : (ds rest : List ℕ) → list_all is_digit ds ≡ true → no_digit rest ≡ true → (digits_of (ds ++ rest) ≡ ds) × (after_digits (ds ++ rest) ≡ rest)
digits-cut [] rest h e = digits-none rest e
digits-cut (d ∷ ds) rest h e =
    let r = digits-cut ds rest (and-second (is_digit d) _ h) e in (
      ap (λ t. if t then d ∷ digits_of (ds ++ rest) else []) (and-first _ _ h) ∙ ap (λ xs. d ∷ xs) r.0,
      ap (λ t. if t then after_digits (ds ++ rest) else d ∷ ds ++ rest) (and-first _ _ h) ∙ r.1,
    )

pub plain-read : (low high n : ℕ) → within low high n ≡ true → high < 2 ^ 64 → plain_of low high (decimal n) ≡ Some n
plain-read low high n w small =
    plain-some low high n (decimal n) (leb-true low n (and-first _ _ w)) (leb-true n high (and-second (nat_le low n) _ w)) small refl

kind-read : (version : ℕ) (s : Bool) → ((version == 2) || not s) ≡ true → letter_kind version (kind_letter s) ≡ Some s
kind-read version false h = refl
kind-read version true h = ap (λ v. where_ok v (Some true)) (or-not (version == 2) h)
  where
    or-not : (v : Bool) → (v || false) ≡ true → v ≡ true
    or-not true g = refl
    or-not false g = g

word-read : (version : ℕ) (k : WordKind) (rest : List ℕ) → within 1 64 k.width ≡ true → ((version == 2) || not k.signed) ≡ true → no_digit rest ≡ true
    → word_from version (kind_letter k.signed) (decimal k.width ++ rest) ≡ Some (word k, rest)
word-read version k rest w s e =
    let high = leb-true k.width 64 (and-second (nat_le 1 k.width) _ w) in
    let d = digits-cut (decimal k.width) rest (decimal-digits k.width (omega arith)) e in
    (λ i. plain_of 1 64 (d.0 i) >>= λ n. letter_kind version (kind_letter k.signed) >>= λ b. Some (word (record { signed = b; width = n }), d.1 i))
    ∙ ap (λ o. o >>= λ n. letter_kind version (kind_letter k.signed) >>= λ b. Some (word (record { signed = b; width = n }), rest))
    (plain-read 1 64 k.width w (omega arith))
    ∙ ap (λ o. o >>= λ b. Some (word (record { signed = b; width = k.width }), rest)) (kind-read version k.signed s)

atom-word : (version levels : ℕ) (s : Bool) (bs : List ℕ) → atom_from version levels (kind_letter s ∷ bs) ≡ word_from version (kind_letter s) bs
atom-word version zero s bs = refl
atom-word version (suc l) true bs = refl
atom-word version (suc l) false bs = refl

or-first : (v a b : Bool) → (v || a && b) ≡ true → (v || a) ≡ true
or-first true a b h = refl
or-first false a b h = and-first a b h

or-second : (v a b : Bool) → (v || a && b) ≡ true → (v || b) ≡ true
or-second true a b h = refl
or-second false a b h = and-second a b h

pair-text : (x y rest : List ℕ) → ((x ++ (44 ∷ y)) ++ (41 ∷ [])) ++ rest ≡ x ++ (44 ∷ (y ++ (41 ∷ rest)))
pair-text x y rest = append_assoc (x ++ (44 ∷ y)) (41 ∷ []) rest ∙ append_assoc x (44 ∷ y) (41 ∷ rest)

pub atom-read : (version levels : ℕ) (a : AtomTree) (rest : List ℕ) → widths_in_range a ≡ true → pair_depth a ≤ levels
    → ((version == 2) || is_unsigned a) ≡ true → no_digit rest ≡ true
    → atom_from version levels (atom_text a ++ rest) ≡ Some (a, rest)
atom-read version levels (word k) rest w d s e = atom-word version levels k.signed (decimal k.width ++ rest) ∙ word-read version k rest w s e
atom-read version zero (pair a b) rest w d s e = absurd (omega arith)
atom-read version (suc l) (pair a b) rest w d s e =
    let wa = and-first (widths_in_range a) (widths_in_range b) w in
    let wb = and-second (widths_in_range a) (widths_in_range b) w in
    let first = atom-read version l a (44 ∷ atom_text b ++ 41 ∷ rest) wa (omega arith) (or-first (version == 2) (is_unsigned a) (is_unsigned b) s) refl in
    let second = atom-read version l b (41 ∷ rest) wb (omega arith) (or-second (version == 2) (is_unsigned a) (is_unsigned b) s) refl in
    let spelled = pair-text (atom_text a) (atom_text b) rest in
    ap (pair_from (atom_from version l)) spelled
    ∙ ap (λ o. o >>= λ (x : AtomTree × List ℕ). past 44 x.1 >>= λ r. atom_from version l r >>= λ (y : AtomTree × List ℕ). past 41 y.1 >>= λ z. Some
    (pair x.0 y.0, z)) first
    ∙ ap (λ o. o >>= λ (y : AtomTree × List ℕ). past 41 y.1 >>= λ z. Some (pair a y.0, z)) second

atom-type-read : (version : ℕ) (a : AtomTree) → widths_in_range a ≡ true → pair_depth a ≤ 6 → ((version == 2) || is_unsigned a) ≡ true
    → atom_type_of version (atom_text a) ≡ Some (atom a)
atom-type-read version a w d s =
    ap (λ o. o >>= alone) (ap (atom_from version 6) (sym (append-none (atom_text a))) ∙ atom-read version 6 a [] w d s refl)

atom-first : (version levels : ℕ) (a : AtomTree) → type_from version levels (atom_text a) ≡ atom_type_of version (atom_text a)
atom-first version zero (word k) = refl
atom-first version (suc l) (word k) = by k.signed
  where
    by : (s : Bool) → (if nat_eq (kind_letter s) 91 then sequence_from (type_from version l) (decimal k.width) else atom_type_of version
        (kind_letter s ∷ decimal k.width)) ≡ atom_type_of version (kind_letter s ∷ decimal k.width)
    by true = refl
    by false = refl
atom-first version zero (pair a b) = refl
atom-first version (suc l) (pair a b) = refl

pub type-from-read : (version levels : ℕ) (t : SeqTree) → parts_in_size t ≡ true → depth t ≤ levels → ((version == 2) || is_unsigned (atom_of t)) ≡ true
    → type_from version levels (type_text t) ≡ Some t
type-from-read version levels (atom a) p d s =
    atom-first version levels a ∙ atom-type-read version a (and-first (widths_in_range a) _ p)
    (leb-true (pair_depth a) 6 (and-second (widths_in_range a) _ p)) s
type-from-read version zero (seq n t) p d s = absurd (omega arith)
type-from-read version (suc l) (seq n t) p d s =
    let w = and-first (nat_le 1 n && nat_le n 4096) _ p in
    let high = leb-true n 4096 (and-second (nat_le 1 n) _ w) in
    let cut = digits-cut (decimal n) (93 ∷ type_text t) (decimal-digits n (omega arith)) refl in
    let len : length_from (decimal n ++ 93 ∷ type_text t) ≡ Some (n, type_text t) =
    (λ i. plain_of 1 4096 (cut.0 i) >>= λ m. past 93 (cut.1 i) >>= λ r. Some (m, r)) ∙
    ap (λ o. o >>= λ m. Some (m, type_text t)) (plain-read 1 4096 n w (omega arith)) in
    ap (λ o. o >>= λ (m : ℕ × List ℕ). type_from version l m.1 >>= λ u. Some (seq m.0 u)) len
    ∙ ap (λ o. o >>= λ u. Some (seq n u)) (type-from-read version l t (and-second (nat_le 1 n && nat_le n 4096) _ p) (omega arith) s)

pub type-read : (version : ℕ) (t : SeqTree) → is_spelled version t ≡ true → type_of version (type_text t) ≡ Some t
type-read version t h =
    let a = and-first (parts_in_size t && nat_le (depth t) 6) _ h in
    type-from-read version 6 t (and-first (parts_in_size t) _ a) (leb-true (depth t) 6 (and-second (parts_in_size t) _ a))
    (and-second (parts_in_size t && nat_le (depth t) 6) _ h)
