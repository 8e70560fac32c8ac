-- The words of operator lines, and the fields that follow them.
use Rattle.std.specs.Prelude.{ℕ, ◌&&◌, ◌==◌, nat_lt, if◌then◌else◌, List, [], ◌∷◌, ◌++◌, Option, Some, None, option_map, codes}
use Rattle.std.specs.Str.{bytes_eq}
use Rattle.ae_word.specs.declared.op.WordOp.{WordOp}
use Rattle.ae_word.specs.declared.op.WordOp.TheVariants.{Add, Sub, Mul, And, Or, Xor, Not, Min, Max, Eq, Lt, Mux, Shl, Shr, Cast}
use Rattle.ae_word.specs.AtomTree.{word as atom_word, pair as atom_pair}
use Rattle.ae_seqtype.specs.SeqTree.{SeqTree, atom, seq}
use Rattle.ae_seq.specs.ProgramTree.{OpTree, word, cast_int, pair, fst, snd, const, zip, call, each, each_two, reduce, scan, shift, up, select, partition, unpartition}
use Rattle.ae_fields.specs.Number.{numeral_value, plain_of}
use Rattle.ae_seq.specs.Typing.{where_ok, ◌>>=◌}
use Rattle.ae_fields.specs.Scopes.{place}
use Rattle.ae_fields.specs.TypeForm.{type_of}

-- the first answer that is one
abbrev pub first_of : {A : Type 0} → Option A → Option A → Option A
first_of (Some x) o = Some x
first_of None o = o

-- what stands beside a word in a table
abbrev pub found : {A : Type 0} → List ℕ → List (List ℕ × A) → Option A
found w [] = None
found w (e ∷ es) = if bytes_eq w e.0 then Some e.1 else found w es

-- the operators that fold, and the others on words, whose arguments follow at once
abbrev pub folding_words : List (List ℕ × WordOp)
folding_words =
    (codes "add", Add) ∷ (codes "mul", Mul) ∷ (codes "and", And) ∷ (codes "or", Or) ∷ (codes "xor", Xor)
    ∷ (codes "min", Min) ∷ (codes "max", Max) ∷ []

abbrev pub other_words : List (List ℕ × WordOp)
other_words = (codes "sub", Sub) ∷ (codes "eq", Eq) ∷ (codes "lt", Lt) ∷ (codes "not", Not) ∷ (codes "mux", Mux) ∷ []

-- the further words whose arguments follow at once
abbrev pub plain_words : List (List ℕ × OpTree)
plain_words =
    (codes "pair", pair) ∷ (codes "fst", fst) ∷ (codes "snd", snd) ∷ (codes "zip", zip)
    ∷ (codes "unpartition", unpartition) ∷ []

abbrev pub bare_op : List ℕ → Option OpTree
bare_op w =
    first_of (option_map word (found w folding_words))
    (first_of (option_map word (found w other_words)) (found w plain_words))

-- a word and a number before the arguments
abbrev pub numbered_op : List ℕ → List ℕ → Option OpTree
numbered_op w f =
    if bytes_eq w (codes "shl") then option_map (λ k. word (Shl k)) (plain_of 0 63 f)
    else if bytes_eq w (codes "shr") then option_map (λ k. word (Shr k)) (plain_of 0 63 f)
    else if bytes_eq w (codes "shift") then option_map shift (plain_of 0 4096 f)
    else if bytes_eq w (codes "select") then option_map select (plain_of 0 4096 f)
    else if bytes_eq w (codes "up") then option_map up (plain_of 1 4096 f)
    else None

-- the number of a function, of which n are at their ends
abbrev pub below : ℕ → Option ℕ → Option ℕ
below n None = None
below n (Some k) = where_ok (nat_lt k n) (Some k)

abbrev pub func_at : (n : ℕ) → List (List ℕ) → List ℕ → Option ℕ
func_at n names f = below n (place f names)

-- a word and an earlier function before the arguments
abbrev pub func_op : (n : ℕ) → List (List ℕ) → List ℕ → List ℕ → Option OpTree
func_op n names w f =
    if bytes_eq w (codes "call") then option_map call (func_at n names f)
    else if bytes_eq w (codes "map") then option_map each (func_at n names f)
    else if bytes_eq w (codes "map2") then option_map each_two (func_at n names f)
    else None

-- a word and a folding operator before the argument
abbrev pub fold_op : (version : ℕ) → List ℕ → List ℕ → Option OpTree
fold_op version w f =
    if bytes_eq w (codes "reduce") then option_map reduce (found f folding_words)
    else where_ok (bytes_eq w (codes "scan") && (version == 2)) (option_map scan (found f folding_words))

-- the cast to a type that is a word
abbrev pub cast_of : SeqTree → Option OpTree
cast_of (atom (atom_word k)) = Some (if k.signed then cast_int k.width else word (Cast k.width))
cast_of (atom (atom_pair a b)) = None
cast_of (seq n t) = None

abbrev pub cast_op : (version : ℕ) → List ℕ → List ℕ → Option OpTree
cast_op version w f = where_ok (bytes_eq w (codes "cast")) (type_of version f >>= cast_of)

abbrev pub headed_op : (version n : ℕ) → List (List ℕ) → List ℕ → List ℕ → Option OpTree
headed_op version n names w f =
    first_of (numbered_op w f) (first_of (func_op n names w f) (first_of (fold_op version w f) (cast_op version w f)))

-- an operator and the names of its arguments
abbrev pub with_arguments : List (List ℕ) → Option OpTree → Option (OpTree × List (List ℕ))
with_arguments fs o = option_map (λ op. (op, fs)) o

-- the words of a constant after some others
abbrev pub words_after : List ℕ → List (List ℕ) → Option (List ℕ)
words_after ws [] = Some ws
words_after ws (f ∷ fs) = numeral_value f >>= λ n. words_after (ws ++ n ∷ []) fs

abbrev pub const_of : SeqTree → List (List ℕ) → Option OpTree
const_of t fs = option_map (λ ws. const t ws) (words_after [] fs)

-- a constant: its type and its words
abbrev pub const_from : (version : ℕ) → List ℕ → List (List ℕ) → Option OpTree
const_from version f fs = type_of version f >>= λ t. const_of t fs

-- a partition: its two numbers, and its argument
abbrev pub two_numbers : Option ℕ → Option ℕ → Option OpTree
two_numbers (Some n) (Some m) = Some (partition n m)
two_numbers _ _ = None

abbrev pub partition_of : List ℕ → List ℕ → Option OpTree
partition_of f g = two_numbers (plain_of 1 4096 f) (plain_of 1 4096 g)

abbrev pub partition_from : List ℕ → List (List ℕ) → Option (OpTree × List (List ℕ))
partition_from f [] = None
partition_from f (g ∷ fs) = with_arguments fs (partition_of f g)

-- a word and a field behind it, and the fields behind that
abbrev pub headed_from : (version n : ℕ) → List (List ℕ) → List ℕ → List ℕ → List (List ℕ)
    → Option (OpTree × List (List ℕ))
headed_from version n names w f fs =
    if bytes_eq w (codes "const") then with_arguments [] (const_from version f fs)
    else if bytes_eq w (codes "partition") then partition_from f fs
    else with_arguments fs (headed_op version n names w f)

abbrev pub headed_of : (version n : ℕ) → List (List ℕ) → List ℕ → List (List ℕ) → Option (OpTree × List (List ℕ))
headed_of version n names w [] = None
headed_of version n names w (f ∷ fs) = headed_from version n names w f fs

-- what the operator of a line is, and the names of its arguments, where n functions are at their ends
abbrev pub operator_from : (version n : ℕ) → List (List ℕ) → List ℕ → List (List ℕ) → Option (OpTree × List (List ℕ))
operator_from version n names w fs = first_of (with_arguments fs (bare_op w)) (headed_of version n names w fs)
