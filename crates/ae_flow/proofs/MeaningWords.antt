-- Operators on words, pairs and constants make the words of their values.
use Rattle.std.proofs.Common.{◌≡◌, ℕ, zero, suc, ◌+◌, ◌-◌, ◌*◌, ◌<◌, ◌≤◌, ◌^◌, ◌==◌, Bool, true, false, List, [], ◌∷◌, ◌++◌, length, take, drop, map, Some, None, IsTrue, get_or, refl, arith, sym, ap, ◌∙◌, subst, append-nil, length-append, length-drop}
use Rattle.std.proofs.lemmas.Bool.Decides.{nat_tests}
use Rattle.std.proofs.lemmas.List.{take_all, take_at, drop_at, take-append-le, drop-append-le}
use Rattle.std.proofs.lemmas.Option.{none-some, same_Some, option_and_then_some}
use Rattle.ae_word.specs.declared.op.WordOp.{WordOp}
use Rattle.ae_word.specs.declared.op.WordOp.TheVariants.{Min, Max, Lt, Mux, Shr, Cast}
use Rattle.ae_word.specs.AtomTree.{WordKind, word, pair, atom_words, atom_kinds, signed_word, unsigned_word}
use Rattle.ae_word.specs.WordTable.{word_result, result_width_of, op_for, OperandsFit, row_of}
use Rattle.ae_word.proofs.Sizes.{length-atom_kinds}
use Rattle.ae_seqtype.specs.SeqTree.{SeqTree, atom, seq, atoms, atom_of, words, kinds}
use Rattle.ae_seqtype.specs.ValueTree.{ValueTree, number, both, atom_value, value_of, Fit, FitKinds, fit_kinds, Stands}
use Rattle.ae_seqtype.proofs.Stands.{length-Fit, FitKinds-split, stands}
use Rattle.ae_sttype.specs.StTree.{StTree}
use Rattle.ae_seq.specs.Typing.{word_type, one_word, as_word, pair_type, fst_type, snd_type, zip_type, zipped_type, where_ok, ◌>>=◌}
use Rattle.ae_seq.specs.Meaning.{coded, word_value, cast_value, first_part, second_part, zipped}
use Rattle.ae_eval.specs.Stack.{FitAt, paired, window}
use Rattle.ae_eval.proofs.Moving.{where_ok-some, join_fit}
use Rattle.ae_eval.proofs.WordFits.{word_fits}
use Rattle.ae_eval.proofs.Wording.{Choice, one-line, two-line, choice-line, as-of as as-there}
use Rattle.ae_eval.proofs.Zips.{words-atoms, zip-pushed}
use Rattle.ae_rewrite.specs.Sound.{item_layout}
use Rattle.ae_flow.specs.Flow.{main_argument, first_width, width_of, parts}
use Rattle.ae_flow.proofs.MeaningLayouts.{LaysOut}
use Rattle.ae_flow.proofs.MeaningMoves.{on-top}

-- ---- which argument gives the width

main-for : (b : Bool) (op : WordOp) → main_argument (op_for b op) ≡ main_argument op
main-for true Min = refl
main-for true Max = refl
main-for true Lt = refl
main-for true (Shr k) = refl
main-for true (Cast v) = refl
main-for true _ = refl
main-for false _ = refl

main-plain : (op : WordOp) → (op ≡ Mux → ⊥) → main_argument op ≡ 0
main-plain Mux h = absurd (h refl)
main-plain _ h = refl

no-type : (u : SeqTree) (b : Bool) → where_ok b None ≡ Some u → ⊥
no-type u true h = none-some u h
no-type u false h = none-some u h

-- a choice takes three words
pub one-no-choice : (op : WordOp) (s u : SeqTree) → word_type op (s ∷ []) ≡ Some u → op ≡ Mux → ⊥
one-no-choice op s u h e = no-type u _ (subst (λ o. word_type o (s ∷ []) ≡ Some u) e h)

pub two-no-choice : (op : WordOp) (s z u : SeqTree) → word_type op (s ∷ z ∷ []) ≡ Some u → op ≡ Mux → ⊥
two-no-choice op s z u h e = no-type u _ (subst (λ o. word_type o (s ∷ z ∷ []) ≡ Some u) e h)

main-first : (op : WordOp) (b : Bool) → (op ≡ Mux → ⊥) → main_argument (op_for b op) ≡ 0
main-first op b h = main-for b op ∙ main-plain op h

width-is : (s : SeqTree) (a : StTree) (k : WordKind) → LaysOut s a → s ≡ atom (word k) → first_width a ≡ k.width
width-is s a k h e = ap (λ z. get_or (map (λ (q : WordKind). q.width) (atom_kinds z)) 0 0) (h.atom ∙ ap atom_of e)

-- ---- words

word-in : (k : WordKind) (ws : List ℕ) → FitKinds ws (k ∷ []) → (x : ℕ) × (ws ≡ x ∷ []) × (x < 2 ^ k.width)
word-in k [] h = absurd h
word-in k (x ∷ []) h = (x, refl, h.0)
word-in k (x ∷ y ∷ ws) h = absurd h.1

record WordIn (s : SeqTree) (ws : List ℕ) (k : WordKind) : Type 0 where
  word : ℕ
  is : get_or ws 0 0 ≡ word
  small : word < 2 ^ k.width
  value : value_of s ws ≡ number k word

word-of : (s : SeqTree) (ws : List ℕ) (k : WordKind) → s ≡ atom (word k) → Fit s ws → WordIn s ws k
word-of s ws k e h =
    let one = word-in k ws (subst (λ z. Fit z ws) e h) in
    record { word = one.0; is = ap (λ us. get_or us 0 0) one.1; small = one.2; value = ap (λ z. value_of z ws) e ∙ ap (atom_value (word k)) one.1 }

word-stands : (op : WordOp) (k : WordKind) (u : SeqTree) (x y z r : ℕ) → u ≡ atom (word ((row_of op).result k)) → r ≡ coded op k x y z
    → OperandsFit (op_for k.signed op) k.width x y z
    → result_width_of (op_for k.signed op) k.width ≡ ((row_of op).result k).width → Stands u (r ∷ []) (number ((row_of op).result k) (coded op k x y z))
word-stands op k u x y z r e same fits wide =
    let small : coded op k x y z < 2 ^ ((row_of op).result k).width = subst (λ w. coded op k x y z < 2 ^ w) wide
    (word_fits (op_for k.signed op) k.width x y z fits) in
    rw (e, same) (record { fits = (small, tt); value = refl })

-- the words that a word operator makes are those that the operator for the kind makes
coded-is : (op : WordOp) (b : Bool) (k : WordKind) (w x y z x2 y2 z2 : ℕ) → b ≡ k.signed → w ≡ k.width → x ≡ x2 → y ≡ y2 → z ≡ z2
    → word_result (op_for b op) w x y z ≡ coded op k x2 y2 z2
coded-is op b k w x y z x2 y2 z2 eb ew ex ey ez =
    ap (λ c. word_result (op_for c op) w x y z) eb ∙ ap (λ c. word_result (op_for k.signed op) c x y z) ew ∙
    ap (λ c. word_result (op_for k.signed op) k.width c y z) ex
    ∙ ap (λ c. word_result (op_for k.signed op) k.width x2 c z) ey ∙ ap (λ c. word_result (op_for k.signed op) k.width x2 y2 c) ez

-- the operand by whose kind an operator goes is signed
abbrev pub IsSign : SeqTree → Bool → Type 0
IsSign s b = (k : WordKind) → s ≡ atom (word k) → b ≡ k.signed

pub one-words : (op : WordOp) (b : Bool) (s u : SeqTree) (a : StTree) (ws : List ℕ) → word_type op (s ∷ []) ≡ Some u → IsSign s b → LaysOut s a → Fit s ws
    → Stands u (word_result (op_for b op) (width_of (op_for b op) (a ∷ [])) (get_or ws 0 0) 0 0 ∷ []) (word_value op (value_of s ws ∷ []))
one-words op b s u a ws type sign l h =
    let r = one-line op s u type in
    let k = r.kind in
    let x = word-of s ws k r.first h in
    let width : width_of (op_for b op) (a ∷ []) ≡ k.width = ap (λ i. first_width (item_layout (a ∷ []) i)) (main-first op b (one-no-choice op s u type)) ∙
    width-is s a k l r.first in
    let same = coded-is op b k (width_of (op_for b op) (a ∷ [])) (get_or ws 0 0) 0 0 x.word 0 0 (sign k r.first) width x.is refl refl in
    let value : word_value op (value_of s ws ∷ []) ≡ number ((row_of op).result k) (coded op k x.word 0 0) =
    ap (λ v. word_value op (v ∷ [])) x.value ∙ ap (λ q. number ((row_of op).result q) (coded op q x.word 0 0)) (r.by (number k x.word)) in
    rw value (word-stands op k u x.word 0 0 _ r.result same (r.fit x.word 0 0 x.small) r.wide)

pub two-words : (op : WordOp) (b : Bool) (s z u : SeqTree) (a c : StTree) (ws us : List ℕ) → word_type op (s ∷ z ∷ []) ≡ Some u → IsSign s b → LaysOut s a
    → Fit s ws → Fit z us
    → Stands u (word_result (op_for b op) (width_of (op_for b op) (a ∷ c ∷ [])) (get_or ws 0 0) (get_or us 0 0) 0 ∷ [])
    (word_value op (value_of s ws ∷ value_of z us ∷ []))
two-words op b s z u a c ws us type sign l h g =
    let r = two-line op s z u type in
    let k = r.kind in
    let x = word-of s ws k r.first h in
    let y = word-of z us k r.second g in
    let width : width_of (op_for b op) (a ∷ c ∷ []) ≡ k.width = ap (λ i. first_width (item_layout (a ∷ c ∷ []) i))
    (main-first op b (two-no-choice op s z u type)) ∙ width-is s a k l r.first in
    let same = coded-is op b k (width_of (op_for b op) (a ∷ c ∷ [])) (get_or ws 0 0) (get_or us 0 0) 0 x.word y.word 0 (sign k r.first) width x.is y.is refl in
    let value : word_value op (value_of s ws ∷ value_of z us ∷ []) ≡ number ((row_of op).result k) (coded op k x.word y.word 0) =
    ap (λ v. word_value op (v ∷ value_of z us ∷ [])) x.value ∙ ap (λ v. word_value op (number k x.word ∷ v ∷ [])) y.value
    ∙ ap (λ q. number ((row_of op).result q) (coded op q x.word y.word 0)) (r.by (number k x.word) (number k y.word)) in
    rw value (word-stands op k u x.word y.word 0 _ r.result same (r.fit x.word y.word 0 x.small y.small) r.wide)

choice-fit : (b : Bool) (w x y z : ℕ) → x < 2 → y < 2 ^ w → z < 2 ^ w → OperandsFit (op_for b Mux) w x y z
choice-fit true w x y z p q r = (p, q, r)
choice-fit false w x y z p q r = (p, q, r)

choice-wide : (b : Bool) (w : ℕ) → result_width_of (op_for b Mux) w ≡ w
choice-wide true w = refl
choice-wide false w = refl

choice-words-core : (b : Bool) (t s z u : SeqTree) (a c d : StTree) (ts ws us : List ℕ) → Choice Mux t s z u → IsSign s b → LaysOut s c → Fit t ts → Fit s ws
    → Fit z us
    → Stands u (word_result (op_for b Mux) (width_of (op_for b Mux) (a ∷ c ∷ d ∷ [])) (get_or ts 0 0) (get_or ws 0 0) (get_or us 0 0) ∷ [])
    (word_value Mux (value_of t ts ∷ value_of s ws ∷ value_of z us ∷ []))
choice-words-core b t s z u a c d ts ws us r sign l f h g =
    let k = r.kind in
    let e = word-of t ts (record { signed = false; width = 1 }) r.test f in
    let x = word-of s ws k r.first h in
    let y = word-of z us k r.second g in
    let bit : e.word < 2 = e.small in
    let width : width_of (op_for b Mux) (a ∷ c ∷ d ∷ []) ≡ k.width = ap (λ i. first_width (item_layout (a ∷ c ∷ d ∷ []) i)) (main-for b Mux) ∙
    width-is s c k l r.first in
    let same = coded-is Mux b k (width_of (op_for b Mux) (a ∷ c ∷ d ∷ [])) (get_or ts 0 0) (get_or ws 0 0) (get_or us 0 0) e.word x.word y.word
    (sign k r.first) width e.is x.is y.is in
    let value : word_value Mux (value_of t ts ∷ value_of s ws ∷ value_of z us ∷ []) ≡ number k (coded Mux k e.word x.word y.word) =
    ap (λ v. word_value Mux (v ∷ value_of s ws ∷ value_of z us ∷ [])) e.value ∙
    ap (λ v. word_value Mux (number (record { signed = false; width = 1 }) e.word ∷ v ∷ value_of z us ∷ [])) x.value
    ∙ ap (λ v. word_value Mux (number (record { signed = false; width = 1 }) e.word ∷ number k x.word ∷ v ∷ [])) y.value in
    rw value (word-stands Mux k u e.word x.word y.word _ r.result same (choice-fit k.signed k.width e.word x.word y.word bit x.small y.small)
    (choice-wide k.signed k.width))

pub choice-words : (op : WordOp) (b : Bool) (t s z u : SeqTree) (a c d : StTree) (ts ws us : List ℕ) → word_type op (t ∷ s ∷ z ∷ []) ≡ Some u → IsSign s b
    → LaysOut s c → Fit t ts → Fit s ws → Fit z us
    → Stands u (word_result (op_for b op) (width_of (op_for b op) (a ∷ c ∷ d ∷ [])) (get_or ts 0 0) (get_or ws 0 0) (get_or us 0 0) ∷ [])
    (word_value op (value_of t ts ∷ value_of s ws ∷ value_of z us ∷ []))
choice-words op b t s z u a c d ts ws us type sign l f h g =
    let r = choice-line op t s z u type in
    let P : WordOp → Type 0 = λ o. Choice o t s z u
    → Stands u (word_result (op_for b o) (width_of (op_for b o) (a ∷ c ∷ d ∷ [])) (get_or ts 0 0) (get_or ws 0 0) (get_or us 0 0) ∷ [])
    (word_value o (value_of t ts ∷ value_of s ws ∷ value_of z us ∷ [])) in
    subst P (sym r.is) (λ m. choice-words-core b t s z u a c d ts ws us m sign l f h g) r

pub cast-words : (v : ℕ) (b : Bool) (s u : SeqTree) (a : StTree) (ws : List ℕ) → as_word (signed_word v) (one_word (s ∷ [])) ≡ Some u → IsSign s b
    → LaysOut s a → Fit s ws
    → Stands u (word_result (op_for b (Cast v)) (width_of (op_for b (Cast v)) (a ∷ [])) (get_or ws 0 0) 0 0 ∷ []) (cast_value v (value_of s ws))
cast-words v b s u a ws type sign l h =
    let o = as-there (signed_word v) (one_word (s ∷ [])) u type in
    let plain : word_type (Cast v) (s ∷ []) ≡ Some (atom (unsigned_word v)) = ap (as_word (unsigned_word v)) o.1 in
    let line = one-line (Cast v) s (atom (unsigned_word v)) plain in
    let k = line.kind in
    let x = word-of s ws k line.first h in
    let width : width_of (op_for b (Cast v)) (a ∷ []) ≡ k.width = ap (λ i. first_width (item_layout (a ∷ []) i))
    (main-first (Cast v) b (one-no-choice (Cast v) s _ plain)) ∙ width-is s a k l line.first in
    let same = coded-is (Cast v) b k (width_of (op_for b (Cast v)) (a ∷ [])) (get_or ws 0 0) 0 0 x.word 0 0 (sign k line.first) width x.is refl refl in
    let small : coded (Cast v) k x.word 0 0 < 2 ^ v = subst (λ w. coded (Cast v) k x.word 0 0 < 2 ^ w) line.wide
    (word_fits (op_for k.signed (Cast v)) k.width x.word 0 0 (line.fit x.word 0 0 x.small)) in
    let value : cast_value v (value_of s ws) ≡ number (record { signed = true; width = v }) (coded (Cast v) k x.word 0 0) = ap (cast_value v) x.value in
    let i : WordKind = record { signed = true; width = v } in
    let r = coded (Cast v) k x.word 0 0 in
    let made = word_result (op_for b (Cast v)) (width_of (op_for b (Cast v)) (a ∷ [])) (get_or ws 0 0) 0 0 in
    let P : ValueTree → Type 0 = λ z. Stands u (made ∷ []) z in
    let Q : SeqTree → Type 0 = λ z. Stands z (made ∷ []) (number i r) in
    let R : ℕ → Type 0 = λ z. Stands (atom (signed_word v)) (z ∷ []) (number i r) in
    subst P (sym value) (subst Q (sym o.2) (subst R (sym same) (record { fits = (small, tt); value = refl })))

-- ---- pairs

pair-form : (k l : ℕ) (us vs : List ℕ) → length us ≡ k → length vs ≡ l → us ++ vs ≡ paired 1 k l us vs
pair-form k l us vs eu ev =
    let a : take k us ≡ us = take_all k us (omega arith) in
    let b : take l vs ≡ vs = take_all l vs (omega arith) in
    sym (append-nil (take k us ++ take l vs) ∙ ap (λ ys. ys ++ take l vs) a ∙ ap (λ ys. us ++ ys) b)

pub pair-words : (s z u : SeqTree) (us vs : List ℕ) → pair_type s z ≡ Some u → Fit s us → Fit z vs
    → Stands u (paired (atoms u) (atom_words (atom_of s)) (atom_words (atom_of z)) us vs) (both (value_of s us) (value_of z vs))
pair-words (atom a) (atom b) u us vs type h g =
    let same : atom (pair a b) ≡ u = same_Some _ u type in
    let P : List ℕ → Type 0 = λ ws. Stands (atom (pair a b)) ws (both (atom_value a us) (atom_value b vs)) in
    let Q : SeqTree → Type 0 = λ z. Stands z (paired (atoms z) (atom_words a) (atom_words b) us vs) (both (atom_value a us) (atom_value b vs)) in
    subst Q same (subst P (pair-form (atom_words a) (atom_words b) us vs (length-Fit (atom a) us h) (length-Fit (atom b) vs g)) (join_fit a b us vs h g))
pair-words (atom a) (seq n t) u us vs type h g = absurd (none-some u type)
pair-words (seq n t) z u us vs type h g = absurd (none-some u type)

paired-front : (n k l : ℕ) (us more vs : List ℕ) → n * k ≤ length us → paired n k l (us ++ more) vs ≡ paired n k l us vs
paired-front zero k l us more vs h = refl
paired-front (suc n) k l us more vs h =
    let e : suc n * k ≡ k + n * k = omega arith in
    let room : k ≤ length us = omega arith in
    let rest : n * k ≤ length (drop k us) = omega (arith, length-drop k us) in
    rw (take-append-le k us more room, drop-append-le k us more room)
    (ap (λ ys. (take k us ++ take l vs) ++ ys) (paired-front n k l (drop k us) more (drop l vs) rest))

zipped-atoms : (s z v : SeqTree) → zipped_type s z ≡ Some v → atoms v ≡ atoms s
zipped-atoms (atom a) (atom b) v h = ap atoms (sym (same_Some _ v h))
zipped-atoms (atom a) (seq m u) v h = absurd (none-some v h)
zipped-atoms (seq n t) (atom b) v h = absurd (none-some v h)
zipped-atoms (seq n t) (seq m u) v h =
    let ok = where_ok-some (n == m) (zipped_type t u >>= λ w. Some (seq n w)) v h in
    option_and_then_some (λ w. Some (seq n w)) (zipped_type t u) v ok.1
    (λ w at is. ap atoms (sym (same_Some (seq n w) v is)) ∙ ap (λ j. n * j) (zipped-atoms t u w at))

zip-atoms : (s z v : SeqTree) → zip_type s z ≡ Some v → atoms v ≡ atoms s
zip-atoms (atom a) z v h = absurd (none-some v h)
zip-atoms (seq n t) (atom b) v h = absurd (none-some v h)
zip-atoms (seq n t) (seq m u) v h = zipped-atoms (seq n t) (seq m u) v h

-- two lists of words one after the other on a stack
record Beside (s z : SeqTree) (us vs : List ℕ) : Type 0 where
  first : FitAt s 0 (us ++ vs)
  second : FitAt z (length us) (us ++ vs)
  first_is : window s 0 (us ++ vs) ≡ us
  second_is : window z (length us) (us ++ vs) ≡ vs
  rest : drop (length us) (us ++ vs) ≡ vs

beside : (s z : SeqTree) (us vs : List ℕ) → Fit s us → Fit z vs → Beside s z us vs
beside s z us vs h g =
    let a = length-Fit s us h in
    let b = length-Fit z vs g in
    let both_long = length-append us vs in
    let one : window s 0 (us ++ vs) ≡ us = take_at us vs (words s) a in
    let rest : drop (length us) (us ++ vs) ≡ vs = drop_at us vs (length us) refl in
    let two : window z (length us) (us ++ vs) ≡ vs = ap (take (words z)) rest ∙ take_all (words z) vs (omega arith) in
    record {
      first = record { room = omega arith; fits = subst (Fit s) (sym one) h };
      second = record { room = omega arith; fits = subst (Fit z) (sym two) g };
      first_is = one;
      second_is = two;
      rest = rest;
    }

pub zip-words : (s z u : SeqTree) (us vs : List ℕ) → zip_type s z ≡ Some u → Fit s us → Fit z vs
    → Stands u (paired (atoms u) (atom_words (atom_of s)) (atom_words (atom_of z)) us vs) (zipped (value_of s us) (value_of z vs))
zip-words s z u us vs type h g =
    let q = atoms u in
    let k = atom_words (atom_of s) in
    let l = atom_words (atom_of z) in
    let old = us ++ vs in
    let b = beside s z us vs h g in
    let long = length-Fit s us h in
    let count = zip-atoms s z u type in
    let room : q * k ≤ length us = let e : q * k ≡ words s = ap (λ j. j * k) count ∙ sym (words-atoms s) in omega arith in
    let form : old ++ paired q k l us vs ≡ old ++ paired q k l (drop 0 old) (drop (length us) old) = ap (λ ys. old ++ ys)
    (sym (ap (paired q k l old) b.rest ∙ paired-front q k l us vs vs room)) in
    let st = on-top (zip_type s z) u old (old ++ paired q k l us vs) (paired q k l us vs) _ type refl
    (zip-pushed s z q k l 0 (length us) old (old ++ paired q k l us vs) count refl refl b.first b.second form) in
    let P : List ℕ → Type 0 = λ xs. Stands u (paired q k l us vs) (zipped (value_of s xs) (value_of z (window z (length us) old))) in
    let Q : List ℕ → Type 0 = λ ys. Stands u (paired q k l us vs) (zipped (value_of s us) (value_of z ys)) in
    subst Q b.second_is (subst P b.first_is st)

-- ---- parts of a pair

parts-one : (k o l : ℕ) (ws : List ℕ) → take l (drop o ws) ≡ parts 1 k o l ws
parts-one k o l ws =
    let e : o ≡ 0 * k + o = omega arith in
    ap (λ i. take l (drop i ws)) e ∙ sym (append-nil (take l (drop (0 * k + o) ws)))

pub first-words : (s u : SeqTree) (ws : List ℕ) → fst_type s ≡ Some u → Fit s ws
    → Stands u (parts (atoms u) (atom_words (atom_of s)) 0 (atom_words (atom_of u)) ws) (first_part (value_of s ws))
first-words (atom (word k)) u ws type h = absurd (none-some u type)
first-words (seq n t) u ws type h = absurd (none-some u type)
first-words (atom (pair a b)) u ws type h =
    let same : atom a ≡ u = same_Some _ u type in
    let split = FitKinds-split (atom_kinds a) (atom_kinds b) ws h in
    let one : Stands (atom a) (take (atom_words a) ws) (atom_value a (take (atom_words a) ws)) = record {
      fits = subst
          (λ n. FitKinds (take n ws) (atom_kinds a)) (length-atom_kinds a) split.0;
      value = refl;
    } in
    let P : List ℕ → Type 0 = λ us. Stands (atom a) us (atom_value a (take (atom_words a) ws)) in
    let Q : SeqTree → Type 0 = λ z. Stands z (parts (atoms z) (atom_words a + atom_words b) 0 (atom_words (atom_of z)) ws)
    (atom_value a (take (atom_words a) ws)) in
    subst Q same (subst P (parts-one (atom_words a + atom_words b) 0 (atom_words a) ws) one)

pub second-words : (s u : SeqTree) (ws : List ℕ) → snd_type s ≡ Some u → Fit s ws
    → Stands u (parts (atoms u) (atom_words (atom_of s)) (atom_words (atom_of s) - atom_words (atom_of u)) (atom_words (atom_of u)) ws)
    (second_part (value_of s ws))
second-words (atom (word k)) u ws type h = absurd (none-some u type)
second-words (seq n t) u ws type h = absurd (none-some u type)
second-words (atom (pair a b)) u ws type h =
    let i = atom_words a in
    let j = atom_words b in
    let same : atom b ≡ u = same_Some _ u type in
    let split = FitKinds-split (atom_kinds a) (atom_kinds b) ws h in
    let long : length ws ≡ i + j = length-Fit (atom (pair a b)) ws h in
    let left : i + j - j ≡ i = omega arith in
    let all : take j (drop i ws) ≡ drop i ws = take_all j (drop i ws) (omega (arith, length-drop i ws)) in
    let one : Stands (atom b) (drop i ws) (atom_value b (drop i ws)) = record {
      fits = subst (λ n. FitKinds (drop n ws) (atom_kinds b))
          (length-atom_kinds a) split.1;
      value = refl;
    } in
    let form : drop i ws ≡ parts 1 (i + j) (i + j - j) j ws = sym all ∙ ap (λ o. take j (drop o ws)) (sym left) ∙ parts-one (i + j) (i + j - j) j ws in
    let P : List ℕ → Type 0 = λ us. Stands (atom b) us (atom_value b (drop i ws)) in
    let Q : SeqTree → Type 0 = λ z. Stands z (parts (atoms z) (i + j) (i + j - atom_words (atom_of z)) (atom_words (atom_of z)) ws)
    (atom_value b (drop i ws)) in
    subst Q same (subst P form one)

-- ---- constants

fit-from-test : (ws : List ℕ) (ks : List WordKind) → IsTrue (fit_kinds ws ks) → FitKinds ws ks
fit-from-test [] [] h = tt
fit-from-test [] (k ∷ ks) h = cc
fit-from-test (x ∷ ws) [] h = cc
fit-from-test (x ∷ ws) (k ∷ ks) h =
    let small : x < 2 ^ k.width = grind (arith, nat_tests) in
    (small, fit-from-test ws ks (grind (arith, nat_tests)))

pub constant-words : (t u : SeqTree) (ws : List ℕ) → where_ok (fit_kinds ws (kinds t)) (Some t) ≡ Some u → Stands u ws (value_of t ws)
constant-words t u ws type =
    let ok = where_ok-some (fit_kinds ws (kinds t)) (Some t) u type in
    subst (λ z. Stands z ws (value_of t ws)) (same_Some t u ok.1) (stands t ws (fit-from-test ws (kinds t) ok.0))
