-- A written operator line is read back.
use Rattle.std.proofs.Common.{◌≡◌, ℕ, ◌^◌, ◌<◌, Bool, true, false, ◌||◌, ◌==◌, nat_le, nat_lt, List, [], ◌∷◌, ◌++◌, length, map, Option, Some, None, option_map, if◌then◌else◌, refl, sym, ap, ◌∙◌, arith, codes, append_assoc}
use Rattle.std.proofs.lemmas.Bool.{le-leb, ltb-true, eqb-true}
use Rattle.std.specs.Fmt.{decimal}
use Rattle.std.specs.List.{list_all}
use Rattle.std.specs.Str.{bytes_eq}
use Rattle.ae_word.specs.declared.op.WordOp.{WordOp}
use Rattle.ae_word.specs.declared.op.WordOp.TheVariants.{Add, Sub, Mul, And, Or, Xor, Not, Min, Max, Eq, Lt, Mux, Shl, Shr, Cast, SLt, SMin, SMax, Sar, SCast}
use Rattle.ae_word.specs.AtomTree.{word as atom_word}
use Rattle.ae_word.specs.WordTable.{folds, row_of}
use Rattle.ae_seqtype.specs.SeqTree.{SeqTree, atom}
use Rattle.ae_seqtype.specs.TypeText.{type_text}
use Rattle.ae_seq.specs.ProgramTree.{OpTree, word, cast_int, pair, fst, snd, const, zip, call, each, each_two, reduce, scan, shift, up, select, partition, unpartition}
use Rattle.ae_seq.specs.Formed.{is_line, is_spelled, within, has_arguments}
use Rattle.ae_fields.specs.Number.{plain_of}
use Rattle.ae_seq.specs.Typing.{where_ok, ◌>>=◌}
use Rattle.ae_print.specs.Printed.{name_at, op_fields, words_fit}
use Rattle.ae_fields.specs.Words.{first_of, bare_op, numbered_op, func_at, func_op, fold_op, cast_of, cast_op, headed_op, words_after, const_of, const_from, two_numbers, partition_from, with_arguments, headed_from, operator_from}
use Rattle.ae_fields.proofs.PlainLemmas.{number-of-decimal}
use Rattle.ae_print.proofs.TypeRead.{plain-read, type-read}
use Rattle.ae_seq.proofs.Judging.{left as and-first, right as and-second}
use Rattle.ae_fields.proofs.PartLemmas.{and-both}

-- the operator on fields that begin with its word
abbrev pub operator_on : (version n : ℕ) → List (List ℕ) → List (List ℕ) → Option (OpTree × List (List ℕ))
operator_on version n names [] = None
operator_on version n names (w ∷ fs) = operator_from version n names w fs

headed-is : (version n : ℕ) (names : List (List ℕ)) (w f : List ℕ) (rest : List (List ℕ)) (op : OpTree) → bare_op w ≡ None → bytes_eq w (codes "const") ≡ false
    → bytes_eq w (codes "partition") ≡ false
    → headed_op version n names w f ≡ Some op → operator_from version n names w (f ∷ rest) ≡ Some (op, rest)
headed-is version n names w f rest op a b c d =
    ap (λ o. first_of (with_arguments (f ∷ rest) o) (headed_from version n names w f rest)) a
    ∙ ap (λ t. if t then with_arguments [] (const_from version f rest) else (if bytes_eq w
    (codes "partition") then partition_from f rest else with_arguments rest (headed_op version n names w f))) b
    ∙ ap (λ t. if t then partition_from f rest else with_arguments rest (headed_op version n names w f)) c
    ∙ ap (with_arguments rest) d

numbered-first : (version n : ℕ) (names : List (List ℕ)) (w f : List ℕ) (op : OpTree) → numbered_op w f ≡ Some op → headed_op version n names w f ≡ Some op
numbered-first version n names w f op e = ap (λ o. first_of o (first_of (func_op n names w f) (first_of (fold_op version w f) (cast_op version w f)))) e

func-first : (version n : ℕ) (names : List (List ℕ)) (w f : List ℕ) (op : OpTree) → numbered_op w f ≡ None → func_op n names w f ≡ Some op
    → headed_op version n names w f ≡ Some op
func-first version n names w f op a e =
    ap (λ o. first_of o (first_of (func_op n names w f) (first_of (fold_op version w f) (cast_op version w f)))) a ∙
    ap (λ o. first_of o (first_of (fold_op version w f) (cast_op version w f))) e

fold-first : (version n : ℕ) (names : List (List ℕ)) (w f : List ℕ) (op : OpTree) → numbered_op w f ≡ None → func_op n names w f ≡ None
    → fold_op version w f ≡ Some op → headed_op version n names w f ≡ Some op
fold-first version n names w f op a b e =
    ap (λ o. first_of o (first_of (func_op n names w f) (first_of (fold_op version w f) (cast_op version w f)))) a
    ∙ ap (λ o. first_of o (first_of (fold_op version w f) (cast_op version w f))) b
    ∙ ap (λ o. first_of o (cast_op version w f)) e

cast-read : (version n : ℕ) (names : List (List ℕ)) (t : SeqTree) (op : OpTree) (rest : List (List ℕ)) → is_spelled version t ≡ true → cast_of t ≡ Some op
    → operator_from version n names (codes "cast") (type_text t ∷ rest) ≡ Some (op, rest)
cast-read version n names t op rest s e =
    headed-is version n names (codes "cast") (type_text t) rest op refl refl refl (ap (λ o. o >>= cast_of) (type-read version t s) ∙ e)

-- a number of up to 4,096 and its operator
number-read : (version n : ℕ) (names : List (List ℕ)) (w : List ℕ) (g : ℕ → OpTree) (low high k : ℕ) (rest : List (List ℕ)) → bare_op w ≡ None
    → bytes_eq w (codes "const") ≡ false → bytes_eq w (codes "partition") ≡ false
    → numbered_op w (decimal k) ≡ option_map g (plain_of low high (decimal k)) → within low high k ≡ true → high < 2 ^ 64
    → operator_from version n names w (decimal k ∷ rest) ≡ Some (g k, rest)
number-read version n names w g low high k rest a b c is h small =
    headed-is version n names w (decimal k) rest (g k) a b c
    (numbered-first version n names w (decimal k) (g k) (is ∙ ap (option_map g) (plain-read low high k h small)))

from-zero : (high k : ℕ) → nat_le k high ≡ true → within 0 high k ≡ true
from-zero high k h = and-both _ _ (le-leb 0 k (omega arith)) h

reduce-read : (version n : ℕ) (names : List (List ℕ)) (op : WordOp) (rest : List (List ℕ)) → folds op ≡ true
    → operator_from version n names (codes "reduce") ((row_of op).fields ++ rest) ≡ Some (reduce op, rest)
reduce-read version n names Add rest h =
    headed-is version n names (codes "reduce") (codes "add") rest (reduce Add) refl refl refl
    (fold-first version n names (codes "reduce") (codes "add") (reduce Add) refl refl refl)
reduce-read version n names Sub rest h = absurd cc
reduce-read version n names Mul rest h =
    headed-is version n names (codes "reduce") (codes "mul") rest (reduce Mul) refl refl refl
    (fold-first version n names (codes "reduce") (codes "mul") (reduce Mul) refl refl refl)
reduce-read version n names And rest h =
    headed-is version n names (codes "reduce") (codes "and") rest (reduce And) refl refl refl
    (fold-first version n names (codes "reduce") (codes "and") (reduce And) refl refl refl)
reduce-read version n names Or rest h =
    headed-is version n names (codes "reduce") (codes "or") rest (reduce Or) refl refl refl
    (fold-first version n names (codes "reduce") (codes "or") (reduce Or) refl refl refl)
reduce-read version n names Xor rest h =
    headed-is version n names (codes "reduce") (codes "xor") rest (reduce Xor) refl refl refl
    (fold-first version n names (codes "reduce") (codes "xor") (reduce Xor) refl refl refl)
reduce-read version n names Not rest h = absurd cc
reduce-read version n names Min rest h =
    headed-is version n names (codes "reduce") (codes "min") rest (reduce Min) refl refl refl
    (fold-first version n names (codes "reduce") (codes "min") (reduce Min) refl refl refl)
reduce-read version n names Max rest h =
    headed-is version n names (codes "reduce") (codes "max") rest (reduce Max) refl refl refl
    (fold-first version n names (codes "reduce") (codes "max") (reduce Max) refl refl refl)
reduce-read version n names Eq rest h = absurd cc
reduce-read version n names Lt rest h = absurd cc
reduce-read version n names Mux rest h = absurd cc
reduce-read version n names (Shl k) rest h = absurd cc
reduce-read version n names (Shr k) rest h = absurd cc
reduce-read version n names (Cast k) rest h = absurd cc
reduce-read version n names SLt rest h = absurd cc
reduce-read version n names SMin rest h = absurd cc
reduce-read version n names SMax rest h = absurd cc
reduce-read version n names (Sar k) rest h = absurd cc
reduce-read version n names (SCast k) rest h = absurd cc

scan-read : (version n : ℕ) (names : List (List ℕ)) (op : WordOp) (rest : List (List ℕ)) → (version == 2) ≡ true → folds op ≡ true
    → operator_from version n names (codes "scan") ((row_of op).fields ++ rest) ≡ Some (scan op, rest)
scan-read version n names Add rest v h =
    headed-is version n names (codes "scan") (codes "add") rest (scan Add) refl refl refl
    (fold-first version n names (codes "scan") (codes "add") (scan Add) refl refl (ap (λ t. where_ok t (Some (scan Add))) v))
scan-read version n names Sub rest v h = absurd cc
scan-read version n names Mul rest v h =
    headed-is version n names (codes "scan") (codes "mul") rest (scan Mul) refl refl refl
    (fold-first version n names (codes "scan") (codes "mul") (scan Mul) refl refl (ap (λ t. where_ok t (Some (scan Mul))) v))
scan-read version n names And rest v h =
    headed-is version n names (codes "scan") (codes "and") rest (scan And) refl refl refl
    (fold-first version n names (codes "scan") (codes "and") (scan And) refl refl (ap (λ t. where_ok t (Some (scan And))) v))
scan-read version n names Or rest v h =
    headed-is version n names (codes "scan") (codes "or") rest (scan Or) refl refl refl
    (fold-first version n names (codes "scan") (codes "or") (scan Or) refl refl (ap (λ t. where_ok t (Some (scan Or))) v))
scan-read version n names Xor rest v h =
    headed-is version n names (codes "scan") (codes "xor") rest (scan Xor) refl refl refl
    (fold-first version n names (codes "scan") (codes "xor") (scan Xor) refl refl (ap (λ t. where_ok t (Some (scan Xor))) v))
scan-read version n names Not rest v h = absurd cc
scan-read version n names Min rest v h =
    headed-is version n names (codes "scan") (codes "min") rest (scan Min) refl refl refl
    (fold-first version n names (codes "scan") (codes "min") (scan Min) refl refl (ap (λ t. where_ok t (Some (scan Min))) v))
scan-read version n names Max rest v h =
    headed-is version n names (codes "scan") (codes "max") rest (scan Max) refl refl refl
    (fold-first version n names (codes "scan") (codes "max") (scan Max) refl refl (ap (λ t. where_ok t (Some (scan Max))) v))
scan-read version n names Eq rest v h = absurd cc
scan-read version n names Lt rest v h = absurd cc
scan-read version n names Mux rest v h = absurd cc
scan-read version n names (Shl k) rest v h = absurd cc
scan-read version n names (Shr k) rest v h = absurd cc
scan-read version n names (Cast k) rest v h = absurd cc
scan-read version n names SLt rest v h = absurd cc
scan-read version n names SMin rest v h = absurd cc
scan-read version n names SMax rest v h = absurd cc
scan-read version n names (Sar k) rest v h = absurd cc
scan-read version n names (SCast k) rest v h = absurd cc

unsigned-spelled : (version v : ℕ) → within 1 64 v ≡ true → is_spelled version (atom (atom_word (record { signed = false; width = v }))) ≡ true
unsigned-spelled version v h = and-both _ _ (and-both _ _ (and-both _ _ h refl) refl) (or-true (version == 2))
  where
    or-true : (b : Bool) → (b || true) ≡ true
    or-true true = refl
    or-true false = refl

signed-spelled : (version v : ℕ) → (version == 2) ≡ true → within 1 64 v ≡ true
    → is_spelled version (atom (atom_word (record { signed = true; width = v }))) ≡ true
signed-spelled version v e h = and-both _ _ (and-both _ _ (and-both _ _ h refl) refl) (ap (λ t. t || false) e)

word-op-read : (version n : ℕ) (names : List (List ℕ)) (op : WordOp) (rest : List (List ℕ)) → is_line version n (word op) ≡ true
    → operator_on version n names ((row_of op).fields ++ rest) ≡ Some (word op, rest)
word-op-read version n names Add rest h = refl
word-op-read version n names Sub rest h = refl
word-op-read version n names Mul rest h = refl
word-op-read version n names And rest h = refl
word-op-read version n names Or rest h = refl
word-op-read version n names Xor rest h = refl
word-op-read version n names Not rest h = refl
word-op-read version n names Min rest h = refl
word-op-read version n names Max rest h = refl
word-op-read version n names Eq rest h = refl
word-op-read version n names Lt rest h = refl
word-op-read version n names Mux rest h = refl
word-op-read version n names (Shl k) rest h =
    number-read version n names (codes "shl") (λ j. word (Shl j)) 0 63 k rest refl refl refl refl (from-zero 63 k h) (omega arith)
word-op-read version n names (Shr k) rest h =
    number-read version n names (codes "shr") (λ j. word (Shr j)) 0 63 k rest refl refl refl refl (from-zero 63 k h) (omega arith)
word-op-read version n names (Cast v) rest h =
    cast-read version n names (atom (atom_word (record { signed = false; width = v }))) (word (Cast v)) rest (unsigned-spelled version v h) refl
word-op-read version n names SLt rest h = absurd cc
word-op-read version n names SMin rest h = absurd cc
word-op-read version n names SMax rest h = absurd cc
word-op-read version n names (Sar k) rest h = absurd cc
word-op-read version n names (SCast k) rest h = absurd cc

words-read : (before ws : List ℕ) → list_all (λ w. nat_lt w (2 ^ 64)) ws ≡ true → words_after before (map decimal ws) ≡ Some (before ++ ws)
words-read before [] h = ap (λ x. Some x) (sym (append-none before))
  where
    append-none : (xs : List ℕ) → xs ++ [] ≡ xs
    append-none [] = refl
    append-none (x ∷ xs) = ap (λ ys. x ∷ ys) (append-none xs)
words-read before (w ∷ ws) h =
    ap (λ o. o >>= λ n. words_after (before ++ n ∷ []) (map decimal ws)) (number-of-decimal (decimal w) w (ltb-true w (2 ^ 64) (and-first _ _ h)) refl)
    ∙ words-read (before ++ w ∷ []) ws (and-second (nat_lt w (2 ^ 64)) _ h) ∙ ap (λ x. Some x) (append_assoc before (w ∷ []) ws)

const-read : (version n : ℕ) (names : List (List ℕ)) (t : SeqTree) (ws : List ℕ) (rest : List (List ℕ)) → is_spelled version t ≡ true
    → list_all (λ w. nat_lt w (2 ^ 64)) ws ≡ true → (length rest == 0) ≡ true
    → operator_from version n names (codes "const") (type_text t ∷ map decimal ws ++ rest) ≡ Some (const t ws, rest)
const-read version n names t ws (f ∷ rest) s h e = absurd (let z = eqb-true (length (f ∷ rest)) 0 e in omega arith)
const-read version n names t ws [] s h e =
    ap (λ fs. with_arguments [] (const_from version (type_text t) fs)) (append-none (map decimal ws))
    ∙ ap (λ o. with_arguments [] (o >>= λ u. const_of u (map decimal ws))) (type-read version t s)
    ∙ ap (λ o. with_arguments [] (option_map (λ vs. const t vs) o)) (words-read [] ws h)
  where
    append-none : (xs : List (List ℕ)) → xs ++ [] ≡ xs
    append-none [] = refl
    append-none (x ∷ xs) = ap (λ ys. x ∷ ys) (append-none xs)

partition-read : (version n : ℕ) (names : List (List ℕ)) (a b : ℕ) (rest : List (List ℕ)) → within 1 4096 a ≡ true → within 1 4096 b ≡ true
    → operator_from version n names (codes "partition") (decimal a ∷ decimal b ∷ rest) ≡ Some (partition a b, rest)
partition-read version n names a b rest h g =
    ap (λ o. with_arguments rest (two_numbers o (plain_of 1 4096 (decimal b)))) (plain-read 1 4096 a h (omega arith)) ∙
    ap (λ o. with_arguments rest (two_numbers (Some a) o)) (plain-read 1 4096 b g (omega arith))

-- a function named in a line
func-op-read : (version n : ℕ) (names : List (List ℕ)) (w f : List ℕ) (g : ℕ → OpTree) (k : ℕ) (rest : List (List ℕ)) → bare_op w ≡ None
    → bytes_eq w (codes "const") ≡ false → bytes_eq w (codes "partition") ≡ false
    → numbered_op w f ≡ None → func_op n names w f ≡ option_map g (func_at n names f) → func_at n names f ≡ Some k
    → operator_from version n names w (f ∷ rest) ≡ Some (g k, rest)
func-op-read version n names w f g k rest a b c none is e =
    headed-is version n names w f rest (g k) a b c (func-first version n names w f (g k) none (is ∙ ap (option_map g) e))

-- the functions at their ends are found by their names
abbrev pub FuncsFound : (n : ℕ) → (all names : List (List ℕ)) → Type 0
FuncsFound n all names = (k : ℕ) → k < n → func_at n names (name_at all k) ≡ Some k

pub op-read : (version n : ℕ) (all names : List (List ℕ)) (op : OpTree) (rest : List (List ℕ)) → FuncsFound n all names → is_line version n op ≡ true
    → words_fit op ≡ true → has_arguments op (length rest) ≡ true
    → operator_on version n names (op_fields all op ++ rest) ≡ Some (op, rest)
op-read version n all names (word op) rest found h fit many = word-op-read version n names op rest h
op-read version n all names (cast_int v) rest found h fit many =
    cast-read version n names (atom (atom_word (record { signed = true; width = v }))) (cast_int v) rest
    (signed-spelled version v (and-first _ _ h) (and-second (version == 2) _ h)) refl
op-read version n all names pair rest found h fit many = refl
op-read version n all names fst rest found h fit many = refl
op-read version n all names snd rest found h fit many = refl
op-read version n all names (const t ws) rest found h fit many = const-read version n names t ws rest h fit many
op-read version n all names zip rest found h fit many = refl
op-read version n all names (call k) rest found h fit many =
    func-op-read version n names (codes "call") (name_at all k) call k rest refl refl refl refl refl (found k (ltb-true k n h))
op-read version n all names (each k) rest found h fit many =
    func-op-read version n names (codes "map") (name_at all k) each k rest refl refl refl refl refl (found k (ltb-true k n h))
op-read version n all names (each_two k) rest found h fit many =
    func-op-read version n names (codes "map2") (name_at all k) each_two k rest refl refl refl refl refl (found k (ltb-true k n h))
op-read version n all names (reduce op) rest found h fit many = reduce-read version n names op rest h
op-read version n all names (scan op) rest found h fit many = scan-read version n names op rest (and-first _ _ h) (and-second (version == 2) _ h)
op-read version n all names (shift k) rest found h fit many =
    number-read version n names (codes "shift") shift 0 4096 k rest refl refl refl refl (from-zero 4096 k h) (omega arith)
op-read version n all names (up k) rest found h fit many = number-read version n names (codes "up") up 1 4096 k rest refl refl refl refl h (omega arith)
op-read version n all names (select k) rest found h fit many =
    number-read version n names (codes "select") select 0 4096 k rest refl refl refl refl (from-zero 4096 k h) (omega arith)
op-read version n all names (partition a b) rest found h fit many =
    partition-read version n names a b rest (and-first (within 1 4096 a) (within 1 4096 b) h) (and-second (within 1 4096 a) (within 1 4096 b) h)
op-read version n all names unpartition rest found h fit many = refl
