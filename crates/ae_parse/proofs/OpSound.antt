-- An operator that a line says is one that a program may have.
use Rattle.std.proofs.Common.{◌≡◌, ℕ, Bool, true, false, not, ◌&&◌, ◌||◌, ◌==◌, nat_lt, List, [], ◌∷◌, Option, Some, None, option_map, if◌then◌else◌, refl, sym, ap, ◌∙◌, codes}
use Rattle.std.proofs.lemmas.Bool.{le-leb}
use Rattle.std.specs.Str.{bytes_eq}
use Rattle.std.specs.List.{list_all}
use Rattle.ae_word.specs.declared.op.WordOp.TheVariants.{Shl, Shr, Cast}
use Rattle.ae_word.specs.AtomTree.{WordKind, word as atom_word, pair as atom_pair}
use Rattle.ae_word.specs.WordTable.{folds}
use Rattle.ae_seqtype.specs.SeqTree.{SeqTree, atom, seq}
use Rattle.ae_seq.specs.ProgramTree.{OpTree, word, cast_int, const, call, each, each_two, reduce, scan, shift, up, select}
use Rattle.ae_seq.specs.Formed.{is_line, is_spelled, is_word_line, within}
use Rattle.ae_fields.specs.Number.{plain_of}
use Rattle.ae_fields.specs.Scopes.{place}
use Rattle.ae_fields.specs.TypeForm.{type_of}
use Rattle.ae_fields.specs.Words.{first_of, found, folding_words, other_words, plain_words, bare_op, numbered_op, below, func_at, func_op, fold_op, cast_of, cast_op, headed_op, words_after, const_from, two_numbers, partition_of, partition_from, with_arguments, headed_from, headed_of, operator_from}
use Rattle.ae_fields.proofs.OptionLemmas.{bind-some, where-some, map-some, some-is}
use Rattle.ae_parse.proofs.TypeSound.{plain-within, within-true, spelled-so}
use Rattle.ae_seq.proofs.Judging.{left as and-first, right as and-second}
use Rattle.ae_fields.proofs.PartLemmas.{and-both}

-- each entry of a table passes a test
found-all : {A : Type 0} (test : A → Bool) (w : List ℕ) (es : List (List ℕ × A)) (x : A) → list_all (λ (e : List ℕ × A). test e.1) es ≡ true
    → found w es ≡ Some x → test x ≡ true
found-all test w [] x all h = absurd cc
found-all test w (e ∷ es) x all h = by (bytes_eq w e.0) h (found-all test w es x (and-second (test e.1) _ all))
  where
    by : (b : Bool) → (if b then Some e.1 else found w es) ≡ Some x → (found w es ≡ Some x → test x ≡ true) → test x ≡ true
    by true g rest = ap test (sym (some-is _ _ g)) ∙ and-first _ _ all
    by false g rest = rest g

if-elim : {A P : Type 0} (b : Bool) (o p : Option A) (y : A) → (if b then o else p) ≡ Some y → (o ≡ Some y → P) → (p ≡ Some y → P) → P
if-elim true o p y h f g = f h
if-elim false o p y h f g = g h

pub first-elim : {A P : Type 0} (o p : Option A) (y : A) → first_of o p ≡ Some y → (o ≡ Some y → P) → (p ≡ Some y → P) → P
first-elim None p y h f g = g h
first-elim (Some x) p y h f g = f h

mapped : {A : Type 0} (test : OpTree → Bool) (g : A → OpTree) (o : Option A) (op : OpTree) → ((x : A) → o ≡ Some x → test (g x) ≡ true)
    → option_map g o ≡ Some op → test op ≡ true
mapped test g o op each_is h = let m = map-some g o op h in ap test (sym m.2) ∙ each_is m.0 m.1

plain-sound : (version n : ℕ) (w : List ℕ) (op : OpTree) → bare_op w ≡ Some op → is_line version n op ≡ true
plain-sound version n w op h =
    first-elim (option_map word (found w folding_words)) _ op h
    (mapped (is_line version n) word (found w folding_words) op (λ x e. found-all is_word_line w folding_words x refl e))
    (λ h2. first-elim (option_map word (found w other_words)) _ op h2
    (mapped (is_line version n) word (found w other_words) op (λ x e. found-all is_word_line w other_words x refl e))
    (λ h3. found-all (is_line version n) w plain_words op refl h3))

numbered-sound : (version n : ℕ) (w f : List ℕ) (op : OpTree) → numbered_op w f ≡ Some op → is_line version n op ≡ true
numbered-sound version n w f op h =
    if-elim (bytes_eq w (codes "shl")) _ _ op h
    (mapped (is_line version n) (λ k. word (Shl k)) (plain_of 0 63 f) op (λ k e. le-leb k 63 ((plain-within 0 63 f k e).high_is)))
    (λ h2. if-elim (bytes_eq w (codes "shr")) _ _ op h2
    (mapped (is_line version n) (λ k. word (Shr k)) (plain_of 0 63 f) op (λ k e. le-leb k 63 ((plain-within 0 63 f k e).high_is)))
    (λ h3. if-elim (bytes_eq w (codes "shift")) _ _ op h3
    (mapped (is_line version n) shift (plain_of 0 4096 f) op (λ k e. le-leb k 4096 ((plain-within 0 4096 f k e).high_is)))
    (λ h4. if-elim (bytes_eq w (codes "select")) _ _ op h4
    (mapped (is_line version n) select (plain_of 0 4096 f) op (λ k e. le-leb k 4096 ((plain-within 0 4096 f k e).high_is)))
    (λ h5. if-elim (bytes_eq w (codes "up")) _ _ op h5
    (mapped (is_line version n) up (plain_of 1 4096 f) op (λ k e. within-true 1 4096 k (plain-within 1 4096 f k e)))
    (λ h6. absurd cc)))))

func-below : (n : ℕ) (names : List (List ℕ)) (f : List ℕ) (k : ℕ) → func_at n names f ≡ Some k → nat_lt k n ≡ true
func-below n names f k e = by (place f names) e
  where
    by : (o : Option ℕ) → below n o ≡ Some k → nat_lt k n ≡ true
    by None h = absurd cc
    by (Some j) h = let w = where-some _ _ _ h in ap (λ x. nat_lt x n) (sym (some-is _ _ w.1)) ∙ w.0

func-sound : (version n : ℕ) (names : List (List ℕ)) (w f : List ℕ) (op : OpTree) → func_op n names w f ≡ Some op → is_line version n op ≡ true
func-sound version n names w f op h =
    if-elim (bytes_eq w (codes "call")) _ _ op h
    (mapped (is_line version n) call (func_at n names f) op (func-below n names f))
    (λ h2. if-elim (bytes_eq w (codes "map")) _ _ op h2
    (mapped (is_line version n) each (func_at n names f) op (func-below n names f))
    (λ h3. if-elim (bytes_eq w (codes "map2")) _ _ op h3
    (mapped (is_line version n) each_two (func_at n names f) op (func-below n names f))
    (λ h4. absurd cc)))

fold-sound : (version n : ℕ) (w f : List ℕ) (op : OpTree) → fold_op version w f ≡ Some op → is_line version n op ≡ true
fold-sound version n w f op h =
    if-elim (bytes_eq w (codes "reduce")) _ _ op h
    (mapped (is_line version n) reduce (found f folding_words) op (λ x e. found-all folds f folding_words x refl e))
    (λ h2.
    let t = where-some _ _ _ h2 in
    mapped (is_line version n) scan (found f folding_words) op
    (λ x e. and-both _ _ (and-second (bytes_eq w (codes "scan")) _ t.0) (found-all folds f folding_words x refl e)) t.1)

word-cast : (version : ℕ) (k : WordKind) → is_spelled version (atom (atom_word k)) ≡ true → (n : ℕ)
    → is_line version n (if k.signed then cast_int k.width else word (Cast k.width)) ≡ true
word-cast version k h n = by k.signed refl
  where
    widths : within 1 64 k.width ≡ true
    widths = and-first _ _ (and-first _ _ (and-first _ _ h))

    or-not : (v : Bool) → (v || false) ≡ true → v ≡ true
    or-not true g = refl
    or-not false g = g

    by : (s : Bool) → k.signed ≡ s → is_line version n (if s then cast_int k.width else word (Cast k.width)) ≡ true
    by false e = widths
    by true e = and-both _ _ (or-not (version == 2) (ap (λ s. (version == 2) || not s) (sym e) ∙ and-second (within 1 64 k.width && true && true) _ h)) widths

cast-sound : (version n : ℕ) (w f : List ℕ) (op : OpTree) → cast_op version w f ≡ Some op → is_line version n op ≡ true
cast-sound version n w f op h =
    let t = where-some _ _ _ h in
    let a = bind-some (type_of version f) _ _ t.1 in
    of a.0 (spelled-so version f a.0 a.1) a.2
  where
    of : (t : SeqTree) → is_spelled version t ≡ true → cast_of t ≡ Some op → is_line version n op ≡ true
    of (atom (atom_word k)) s e = ap (is_line version n) (sym (some-is _ _ e)) ∙ word-cast version k s n
    of (atom (atom_pair a b)) s e = absurd cc
    of (seq m t) s e = absurd cc

headed-op-sound : (version n : ℕ) (names : List (List ℕ)) (w f : List ℕ) (op : OpTree) → headed_op version n names w f ≡ Some op → is_line version n op ≡ true
headed-op-sound version n names w f op h =
    first-elim (numbered_op w f) _ op h (numbered-sound version n w f op)
    (λ h2. first-elim (func_op n names w f) _ op h2 (func-sound version n names w f op)
    (λ h3. first-elim (fold_op version w f) _ op h3 (fold-sound version n w f op) (cast-sound version n w f op)))

const-sound : (version n : ℕ) (f : List ℕ) (fs : List (List ℕ)) (op : OpTree) → const_from version f fs ≡ Some op → is_line version n op ≡ true
const-sound version n f fs op h =
    let a = bind-some (type_of version f) _ _ h in
    mapped (is_line version n) (const a.0) (words_after [] fs) op (λ ws e. spelled-so version f a.0 a.1) a.2

partition-sound : (version n : ℕ) (f g : List ℕ) (op : OpTree) → partition_of f g ≡ Some op → is_line version n op ≡ true
partition-sound version n f g op h = by (plain_of 1 4096 f) (plain_of 1 4096 g) refl refl h
  where
    by : (a b : Option ℕ) → plain_of 1 4096 f ≡ a → plain_of 1 4096 g ≡ b → two_numbers a b ≡ Some op → is_line version n op ≡ true
    by None b p q e = absurd cc
    by (Some x) None p q e = absurd cc
    by (Some x) (Some y) p q e = ap (is_line version n) (sym (some-is _ _ e)) ∙
        and-both _ _ (within-true 1 4096 x (plain-within 1 4096 f x p)) (within-true 1 4096 y (plain-within 1 4096 g y q))

with-sound : (version n : ℕ) (fs : List (List ℕ)) (o : Option OpTree) (q : OpTree × List (List ℕ)) → ((op : OpTree) → o ≡ Some op → is_line version n op ≡ true)
    → with_arguments fs o ≡ Some q → is_line version n q.0 ≡ true
with-sound version n fs o q each_is h =
    let m = map-some (λ op. (op, fs)) o q h in ap (λ (x : OpTree × List (List ℕ)). is_line version n x.0) (sym m.2) ∙ each_is m.0 m.1

headed-from-sound : (version n : ℕ) (names : List (List ℕ)) (w f : List ℕ) (fs : List (List ℕ)) (q : OpTree × List (List ℕ))
    → headed_from version n names w f fs ≡ Some q → is_line version n q.0 ≡ true
headed-from-sound version n names w f fs q h =
    if-elim (bytes_eq w (codes "const")) _ _ q h (with-sound version n [] (const_from version f fs) q (const-sound version n f fs))
    (λ h2. if-elim (bytes_eq w (codes "partition")) _ _ q h2 (partition-from-sound fs)
    (with-sound version n fs (headed_op version n names w f) q (headed-op-sound version n names w f)))
  where
    partition-from-sound : (gs : List (List ℕ)) → partition_from f gs ≡ Some q → is_line version n q.0 ≡ true
    partition-from-sound [] e = absurd cc
    partition-from-sound (g ∷ gs) e = with-sound version n gs (partition_of f g) q (partition-sound version n f g) e

pub operator-sound : (version n : ℕ) (names : List (List ℕ)) (w : List ℕ) (fs : List (List ℕ)) (q : OpTree × List (List ℕ))
    → operator_from version n names w fs ≡ Some q → is_line version n q.0 ≡ true
operator-sound version n names w fs q h =
    first-elim (with_arguments fs (bare_op w)) _ q h (with-sound version n fs (bare_op w) q (plain-sound version n w)) (headed-of-sound fs)
  where
    headed-of-sound : (gs : List (List ℕ)) → headed_of version n names w gs ≡ Some q → is_line version n q.0 ≡ true
    headed-of-sound [] e = absurd cc
    headed-of-sound (g ∷ gs) e = headed-from-sound version n names w g gs q e
