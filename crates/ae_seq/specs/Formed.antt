-- Which programs a text can say.
use Rattle.std.specs.Prelude.{ℕ, ◌+◌, Bool, true, false, not, ◌&&◌, ◌||◌, ◌==◌, nat_le, nat_lt, if◌then◌else◌, List, [], ◌∷◌, length, map}
use Rattle.ae_word.specs.declared.op.WordOp.{WordOp}
use Rattle.ae_word.specs.declared.op.WordOp.TheVariants.{Add, Sub, Mul, And, Or, Xor, Not, Min, Max, Eq, Lt, Mux, Shl, Shr, Cast, SLt, SMin, SMax, Sar, SCast}
use Rattle.ae_word.specs.AtomTree.{AtomTree, word as atom_word, pair as atom_pair}
use Rattle.ae_word.specs.WordTable.{arity_of, folds}
use Rattle.ae_seqtype.specs.SeqTree.{SeqTree, parts_in_size, depth, atom_of}
use Rattle.ae_seq.specs.ProgramTree.{OpTree, word, cast_int, pair, fst, snd, const, zip, call, each, each_two, reduce, scan, shift, up, select, partition, unpartition, ParamTree, NodeTree, FuncTree, ProgramTree}

-- a number is within a range
abbrev pub within : (low high n : ℕ) → Bool
within low high n = nat_le low n && nat_le n high

-- ---- names: 1 to 32 letters, digits and `_`, no digit first, and neither `fn` nor `end`

abbrev pub is_letter : ℕ → Bool
is_letter b = within 97 122 b || within 65 90 b || (b == 95)

abbrev pub is_name_byte : ℕ → Bool
is_name_byte b = is_letter b || within 48 57 b

abbrev pub all_name_bytes : List ℕ → Bool
all_name_bytes [] = true
all_name_bytes (b ∷ bs) = is_name_byte b && all_name_bytes bs

abbrev pub begins_with_letter : List ℕ → Bool
begins_with_letter [] = false
begins_with_letter (b ∷ bs) = is_letter b

abbrev pub same_bytes : List ℕ → List ℕ → Bool
same_bytes [] [] = true
same_bytes (a ∷ bs) (b ∷ cs) = (a == b) && same_bytes bs cs
same_bytes _ _ = false

abbrev pub is_name : List ℕ → Bool
is_name bs =
    nat_le (length bs) 32 && begins_with_letter bs && all_name_bytes bs
    && not (same_bytes bs (102 ∷ 110 ∷ [])) && not (same_bytes bs (101 ∷ 110 ∷ 100 ∷ []))

abbrev pub all_names : List (List ℕ) → Bool
all_names [] = true
all_names (n ∷ ns) = is_name n && all_names ns

-- no two are the same
abbrev pub is_among : List ℕ → List (List ℕ) → Bool
is_among n [] = false
is_among n (m ∷ ms) = same_bytes n m || is_among n ms

abbrev pub all_distinct : List (List ℕ) → Bool
all_distinct [] = true
all_distinct (n ∷ ns) = not (is_among n ns) && all_distinct ns

-- ---- types: signed words are there in version 2 alone

abbrev pub is_unsigned : AtomTree → Bool
is_unsigned (atom_word k) = not k.signed
is_unsigned (atom_pair a b) = is_unsigned a && is_unsigned b

abbrev pub is_spelled : (version : ℕ) → SeqTree → Bool
is_spelled version t = parts_in_size t && nat_le (depth t) 6 && ((version == 2) || is_unsigned (atom_of t))

-- ---- operators: their numbers, and what is there in version 2 alone

abbrev pub is_word_line : WordOp → Bool
is_word_line Add = true
is_word_line Sub = true
is_word_line Mul = true
is_word_line And = true
is_word_line Or = true
is_word_line Xor = true
is_word_line Not = true
is_word_line Min = true
is_word_line Max = true
is_word_line Eq = true
is_word_line Lt = true
is_word_line Mux = true
is_word_line (Shl k) = nat_le k 63
is_word_line (Shr k) = nat_le k 63
is_word_line (Cast v) = within 1 64 v
is_word_line SLt = false
is_word_line SMin = false
is_word_line SMax = false
is_word_line (Sar k) = false
is_word_line (SCast v) = false

-- funcs is the number of functions above
abbrev pub is_line : (version funcs : ℕ) → OpTree → Bool
is_line version funcs (word op) = is_word_line op
is_line version funcs (cast_int v) = (version == 2) && within 1 64 v
is_line version funcs pair = true
is_line version funcs fst = true
is_line version funcs snd = true
is_line version funcs (const t ws) = is_spelled version t
is_line version funcs zip = true
is_line version funcs (call f) = nat_lt f funcs
is_line version funcs (each f) = nat_lt f funcs
is_line version funcs (each_two f) = nat_lt f funcs
is_line version funcs (reduce op) = folds op
is_line version funcs (scan op) = (version == 2) && folds op
is_line version funcs (shift k) = nat_le k 4096
is_line version funcs (up n) = within 1 4096 n
is_line version funcs (select k) = nat_le k 4096
is_line version funcs (partition n m) = within 1 4096 n && within 1 4096 m
is_line version funcs unpartition = true

-- as many arguments as the line form has
abbrev pub has_arguments : OpTree → ℕ → Bool
has_arguments (word op) n = n == arity_of op
has_arguments (cast_int v) n = n == 1
has_arguments pair n = n == 2
has_arguments fst n = n == 1
has_arguments snd n = n == 1
has_arguments (const t ws) n = n == 0
has_arguments zip n = n == 2
has_arguments (call f) n = within 1 8 n
has_arguments (each f) n = n == 1
has_arguments (each_two f) n = n == 2
has_arguments (reduce op) n = n == 1
has_arguments (scan op) n = n == 1
has_arguments (shift k) n = n == 1
has_arguments (up k) n = n == 1
has_arguments (select k) n = n == 1
has_arguments (partition k m) n = n == 1
has_arguments unpartition n = n == 1

-- ---- functions

abbrev pub all_below : ℕ → List ℕ → Bool
all_below n [] = true
all_below n (k ∷ ks) = nat_lt k n && all_below n ks

-- nodes after so many items
abbrev pub formed_nodes : (version funcs items : ℕ) → List NodeTree → Bool
formed_nodes version funcs items [] = true
formed_nodes version funcs items (n ∷ ns) =
    is_line version funcs n.op && has_arguments n.op (length n.args) && all_below items n.args
    && formed_nodes version funcs (items + 1) ns

abbrev pub formed_params : (version : ℕ) → List ParamTree → Bool
formed_params version [] = true
formed_params version (p ∷ ps) = is_spelled version p.type && formed_params version ps

abbrev pub param_names : List ParamTree → List (List ℕ)
param_names ps = map (λ (p : ParamTree). p.name) ps

abbrev pub node_names : List NodeTree → List (List ℕ)
node_names ns = map (λ (n : NodeTree). n.name) ns

abbrev pub func_names : List FuncTree → List (List ℕ)
func_names fs = map (λ (f : FuncTree). f.name) fs

-- no name of the first is among the second
abbrev pub apart : List (List ℕ) → List (List ℕ) → Bool
apart [] ms = true
apart (n ∷ ns) ms = not (is_among n ms) && apart ns ms

-- the names of parameters and nodes are names, and no two are the same
abbrev pub named_items : FuncTree → Bool
named_items f =
    all_names (param_names f.params) && all_names (node_names f.nodes)
    && all_distinct (param_names f.params) && all_distinct (node_names f.nodes)
    && apart (param_names f.params) (node_names f.nodes)

abbrev pub item_count : FuncTree → ℕ
item_count f = length f.params + length f.nodes

-- a function with so many above it and at most so many results
abbrev pub formed_func : (version funcs results : ℕ) → FuncTree → Bool
formed_func version funcs results f =
    is_name f.name
    && within 1 8 (length f.params) && formed_params version f.params
    && formed_nodes version funcs (length f.params) f.nodes
    && within 1 results (length f.results) && all_below (item_count f) f.results
    && named_items f

-- the last function of version 2 may have several results
abbrev pub most_results : (version : ℕ) → List FuncTree → ℕ
most_results version [] = if version == 2 then 8 else 1
most_results version (f ∷ fs) = 1

abbrev pub formed_funcs : (version funcs : ℕ) → List FuncTree → Bool
formed_funcs version funcs [] = true
formed_funcs version funcs (f ∷ fs) = formed_func version funcs (most_results version fs) f && formed_funcs version (funcs + 1) fs

-- ---- programs

-- each function has two lines and its nodes, and version 2 has a line of its own
abbrev pub func_lines : List FuncTree → ℕ
func_lines [] = 0
func_lines (f ∷ fs) = 2 + length f.nodes + func_lines fs

abbrev pub line_count : ProgramTree → ℕ
line_count p = func_lines p.funcs + (if p.version == 2 then 1 else 0)

abbrev pub formed : ProgramTree → Bool
formed p =
    within 1 2 p.version && nat_le 1 (length p.funcs) && nat_le (line_count p) 4096
    && all_distinct (func_names p.funcs)
    && formed_funcs p.version 0 p.funcs
