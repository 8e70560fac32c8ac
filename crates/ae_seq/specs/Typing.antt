-- The types of a program's items, and the first line that is refused.
use Rattle.std.specs.Prelude.{ℕ, ◌*◌, Bool, true, false, ◌==◌, ◌&&◌, nat_le, nat_lt, List, [], ◌∷◌, ◌++◌, map, Option, Some, None, option_and_then, slice_get, take}
use Rattle.ae_word.specs.declared.op.WordOp.{WordOp}
use Rattle.ae_word.specs.declared.op.WordOp.TheVariants.{Add, Sub, Mul, And, Or, Xor, Not, Min, Max, Eq, Lt, Mux, Shl, Shr, Cast, SLt, SMin, SMax, Sar, SCast}
use Rattle.ae_word.specs.AtomTree.{AtomTree, WordKind, word as atom_word, pair as atom_pair, unsigned_word, signed_word, same_kind}
use Rattle.ae_seqtype.specs.SeqTree.{SeqTree, atom, seq, in_size, kinds, same_type}
use Rattle.ae_seqtype.specs.ValueTree.{fit_kinds}
use Rattle.ae_seq.specs.ProgramTree.{OpTree, word, cast_int, pair, fst, snd, const, zip, call, each, each_two, reduce, scan, shift, up, select, partition, unpartition, ParamTree, NodeTree, FuncTree, ProgramTree}

infixl 10 ◌>>=◌
abbrev pub ◌>>=◌ : {A B : Type 0} → Option A → (A → Option B) → Option B
o >>= f = option_and_then f o

-- a value where a test holds
abbrev pub where_ok : {A : Type 0} → Bool → Option A → Option A
where_ok true o = o
where_ok false o = None

-- each entry comes from what it stands for and from the entries before it
abbrev pub grown : {A B : Type 0} → (List B → A → B) → List B → List A → List B
grown step known [] = known
grown step known (x ∷ xs) = grown step (known ++ step known x ∷ []) xs

-- ---- lines on words

abbrev pub kind_of : SeqTree → Option WordKind
kind_of (atom (atom_word k)) = Some k
kind_of (atom (atom_pair a b)) = None
kind_of (seq n t) = None

-- one word; two words of one kind; a bit and two words of one kind: the type of the last
abbrev pub one_word : List SeqTree → Option SeqTree
one_word (t ∷ []) = kind_of t >>= λ k. Some t
one_word _ = None

abbrev pub two_words : List SeqTree → Option SeqTree
two_words (t ∷ u ∷ []) = kind_of t >>= λ k. kind_of u >>= λ l. where_ok (same_kind k l) (Some u)
two_words _ = None

abbrev pub bit_and_two_words : List SeqTree → Option SeqTree
bit_and_two_words (c ∷ ts) = where_ok (same_type c (atom (unsigned_word 1))) (two_words ts)
bit_and_two_words _ = None

-- a word of this type where the operands are as they should be
abbrev pub as_word : AtomTree → Option SeqTree → Option SeqTree
as_word a o = o >>= λ t. Some (atom a)

abbrev pub word_type : WordOp → List SeqTree → Option SeqTree
word_type Add ts = two_words ts
word_type Sub ts = two_words ts
word_type Mul ts = two_words ts
word_type And ts = two_words ts
word_type Or ts = two_words ts
word_type Xor ts = two_words ts
word_type Not ts = one_word ts
word_type Min ts = two_words ts
word_type Max ts = two_words ts
word_type Eq ts = as_word (unsigned_word 1) (two_words ts)
word_type Lt ts = as_word (unsigned_word 1) (two_words ts)
word_type Mux ts = bit_and_two_words ts
word_type (Shl k) ts = one_word ts
word_type (Shr k) ts = one_word ts
word_type (Cast v) ts = as_word (unsigned_word v) (one_word ts)
word_type SLt ts = None
word_type SMin ts = None
word_type SMax ts = None
word_type (Sar k) ts = None
word_type (SCast v) ts = None

-- ---- lines on atoms and sequences

abbrev pub pair_type : SeqTree → SeqTree → Option SeqTree
pair_type (atom a) (atom b) = Some (atom (atom_pair a b))
pair_type (atom a) (seq m u) = None
pair_type (seq n t) u = None

abbrev pub fst_type : SeqTree → Option SeqTree
fst_type (atom (atom_pair a b)) = Some (atom a)
fst_type (atom (atom_word k)) = None
fst_type (seq n t) = None

abbrev pub snd_type : SeqTree → Option SeqTree
snd_type (atom (atom_pair a b)) = Some (atom b)
snd_type (atom (atom_word k)) = None
snd_type (seq n t) = None

-- equal lengths at every level
abbrev pub zipped_type : SeqTree → SeqTree → Option SeqTree
zipped_type (atom a) (atom b) = Some (atom (atom_pair a b))
zipped_type (seq n t) (seq m u) = where_ok (n == m) (zipped_type t u >>= λ v. Some (seq n v))
zipped_type (atom a) (seq m u) = None
zipped_type (seq n t) (atom b) = None

abbrev pub zip_type : SeqTree → SeqTree → Option SeqTree
zip_type (seq n t) (seq m u) = zipped_type (seq n t) (seq m u)
zip_type (atom a) u = None
zip_type (seq n t) (atom b) = None

abbrev pub reduce_type : SeqTree → Option SeqTree
reduce_type (seq n t) = Some (seq 1 t)
reduce_type (atom a) = None

abbrev pub scan_type : SeqTree → Option SeqTree
scan_type (seq n t) = Some (seq n t)
scan_type (atom a) = None

abbrev pub shift_type : ℕ → SeqTree → Option SeqTree
shift_type k (seq n t) = where_ok (nat_le k n) (Some (seq n t))
shift_type k (atom a) = None

abbrev pub up_type : ℕ → SeqTree → Option SeqTree
up_type n (seq m t) = where_ok (m == 1) (Some (seq n t))
up_type n (atom a) = None

abbrev pub select_type : ℕ → SeqTree → Option SeqTree
select_type k (seq n t) = where_ok (nat_lt k n) (Some (seq 1 t))
select_type k (atom a) = None

abbrev pub partition_type : ℕ → ℕ → SeqTree → Option SeqTree
partition_type n m (seq k t) = where_ok (k == n * m) (Some (seq n (seq m t)))
partition_type n m (atom a) = None

abbrev pub unpartition_type : SeqTree → Option SeqTree
unpartition_type (seq n (seq m t)) = Some (seq (n * m) t)
unpartition_type (atom a) = None
unpartition_type (seq n (atom a)) = None

-- ---- calls

-- what a caller of a function needs: the types of its parameters, and of its result if it has one
pub record Signature : Type 0 where
  pub params : List SeqTree
  pub result : Option SeqTree

abbrev pub same_types : List SeqTree → List SeqTree → Bool
same_types [] [] = true
same_types (t ∷ ts) (u ∷ us) = same_type t u && same_types ts us
same_types _ _ = false

-- the result of a function on arguments of these types
abbrev pub called : List Signature → ℕ → List SeqTree → Option SeqTree
called known f ts = slice_get known f >>= λ s. where_ok (same_types s.params ts) s.result

-- the function on each element, on the elements of two sequences in pairs
abbrev pub each_type : List Signature → ℕ → SeqTree → Option SeqTree
each_type known f (seq n t) = called known f (t ∷ []) >>= λ u. Some (seq n u)
each_type known f (atom a) = None

abbrev pub each_two_type : List Signature → ℕ → SeqTree → SeqTree → Option SeqTree
each_two_type known f (seq n t) (seq m u) = where_ok (n == m) (called known f (t ∷ u ∷ []) >>= λ v. Some (seq n v))
each_two_type known f (atom a) u = None
each_two_type known f (seq n t) (atom b) = None

-- ---- the table: the type of a line's result on arguments of these types, if it has one

abbrev pub op_type : List Signature → OpTree → List SeqTree → Option SeqTree
op_type known (word op) ts = word_type op ts
op_type known (cast_int v) ts = as_word (signed_word v) (one_word ts)
op_type known pair (t ∷ u ∷ []) = pair_type t u
op_type known pair ts = None
op_type known fst (t ∷ []) = fst_type t
op_type known fst ts = None
op_type known snd (t ∷ []) = snd_type t
op_type known snd ts = None
op_type known (const t ws) [] = where_ok (fit_kinds ws (kinds t)) (Some t)
op_type known (const t ws) ts = None
op_type known zip (t ∷ u ∷ []) = zip_type t u
op_type known zip ts = None
op_type known (call f) ts = called known f ts
op_type known (each f) (t ∷ []) = each_type known f t
op_type known (each f) ts = None
op_type known (each_two f) (t ∷ u ∷ []) = each_two_type known f t u
op_type known (each_two f) ts = None
op_type known (reduce op) (t ∷ []) = reduce_type t
op_type known (reduce op) ts = None
op_type known (scan op) (t ∷ []) = scan_type t
op_type known (scan op) ts = None
op_type known (shift k) (t ∷ []) = shift_type k t
op_type known (shift k) ts = None
op_type known (up n) (t ∷ []) = up_type n t
op_type known (up n) ts = None
op_type known (select k) (t ∷ []) = select_type k t
op_type known (select k) ts = None
op_type known (partition n m) (t ∷ []) = partition_type n m t
op_type known (partition n m) ts = None
op_type known unpartition (t ∷ []) = unpartition_type t
op_type known unpartition ts = None

-- ---- items

-- the types of a line's arguments, if each has one
abbrev pub types_at : List (Option SeqTree) → List ℕ → Option (List SeqTree)
types_at items [] = Some []
types_at items (k ∷ ks) = slice_get items k >>= λ o. o >>= λ t. types_at items ks >>= λ ts. Some (t ∷ ts)

abbrev pub node_type : List Signature → List (Option SeqTree) → NodeTree → Option SeqTree
node_type known items n = types_at items n.args >>= op_type known n.op

abbrev pub types_of_params : List ParamTree → List SeqTree
types_of_params ps = map (λ (p : ParamTree). p.type) ps

abbrev pub param_types : FuncTree → List SeqTree
param_types f = types_of_params f.params

-- the types of a function's items, by the functions above it
abbrev pub item_types : List Signature → FuncTree → List (Option SeqTree)
item_types known f = grown (node_type known) (map Some (param_types f)) f.nodes

-- the type of the first result of a function whose items have these types
abbrev pub result_type : FuncTree → List (Option SeqTree) → Option SeqTree
result_type f items = slice_get f.results 0 >>= λ k. slice_get items k >>= λ o. o

abbrev pub signature : List Signature → FuncTree → Signature
signature known f = record { params = param_types f; result = result_type f (item_types known f) }

abbrev pub signatures : List FuncTree → List Signature
signatures fs = grown signature [] fs

-- the type of an item of a function, if there is such an item and it has one
abbrev pub type_at : ProgramTree → (func item : ℕ) → Option SeqTree
type_at p k i = slice_get p.funcs k >>= λ f. slice_get (item_types (signatures (take k p.funcs)) f) i >>= λ o. o

-- ---- lines in order

-- what is said of a line
pub data Verdict : Type 0 where
  fine untyped too_large : Verdict

abbrev pub size_verdict : Bool → Verdict
size_verdict true = fine
size_verdict false = too_large

abbrev pub verdict : Option SeqTree → Verdict
verdict None = untyped
verdict (Some t) = size_verdict (in_size t)

pub record Judged : Type 0 where
  pub line : ℕ
  pub verdict : Verdict

-- the node lines of a function after these items
abbrev pub judged_nodes : List Signature → List (Option SeqTree) → List NodeTree → List Judged
judged_nodes known items [] = []
judged_nodes known items (n ∷ ns) =
    let t = node_type known items n in
    record { line = n.line; verdict = verdict t } ∷ judged_nodes known (items ++ t ∷ []) ns

abbrev pub all_in_size : List SeqTree → Bool
all_in_size [] = true
all_in_size (t ∷ ts) = in_size t && all_in_size ts

abbrev pub judged_func : List Signature → FuncTree → List Judged
judged_func known f =
    record { line = f.line; verdict = size_verdict (all_in_size (param_types f)) } ∷ judged_nodes known (map Some (param_types f)) f.nodes

-- the lines of functions, after those that are known
abbrev pub judged : List Signature → List FuncTree → List Judged
judged known [] = []
judged known (f ∷ fs) = judged_func known f ++ judged (known ++ signature known f ∷ []) fs

-- the first line that is not fine
abbrev pub refused_or : Judged → Verdict → Option Judged → Option Judged
refused_or j fine later = later
refused_or j _ later = Some j

abbrev pub refused : List Judged → Option Judged
refused [] = None
refused (j ∷ js) = refused_or j j.verdict (refused js)

-- the refused line of a program, if there is one
abbrev pub refused_line : ProgramTree → Option Judged
refused_line p = refused (judged [] p.funcs)
