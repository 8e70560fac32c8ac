-- How a program is written: one statement a line, one space between fields.
use Rattle.std.specs.Prelude.{ℕ, ◌+◌, ◌^◌, Bool, true, ◌==◌, nat_lt, if◌then◌else◌, List, [], ◌∷◌, ◌++◌, length, map, slice_get, unwrap_or, codes}
use Rattle.std.specs.Fmt.{decimal}
use Rattle.std.specs.List.{list_all}
use Rattle.ae_word.specs.WordTable.{row_of}
use Rattle.ae_seqtype.specs.TypeText.{type_text}
use Rattle.ae_seq.specs.ProgramTree.{OpTree, ParamTree, NodeTree, FuncTree, ProgramTree, word, cast_int, pair, fst, snd, const, zip, call, each, each_two, reduce, scan, shift, up, select, partition, unpartition}
use Rattle.ae_seq.specs.Formed.{param_names, node_names, func_names}

-- ---- fields

-- the name of a function above; the default is read of none
abbrev pub name_at : List (List ℕ) → ℕ → List ℕ
name_at names k = unwrap_or (slice_get names k) []

-- an operator and what belongs to it, by the names of the functions
abbrev pub op_fields : (funcs : List (List ℕ)) → OpTree → List (List ℕ)
op_fields funcs (word op) = (row_of op).fields
op_fields funcs (cast_int v) = codes "cast" ∷ (105 ∷ decimal v) ∷ []
op_fields funcs pair = codes "pair" ∷ []
op_fields funcs fst = codes "fst" ∷ []
op_fields funcs snd = codes "snd" ∷ []
op_fields funcs (const t ws) = codes "const" ∷ type_text t ∷ map decimal ws
op_fields funcs zip = codes "zip" ∷ []
op_fields funcs (call f) = codes "call" ∷ name_at funcs f ∷ []
op_fields funcs (each f) = codes "map" ∷ name_at funcs f ∷ []
op_fields funcs (each_two f) = codes "map2" ∷ name_at funcs f ∷ []
op_fields funcs (reduce op) = codes "reduce" ∷ (row_of op).fields
op_fields funcs (scan op) = codes "scan" ∷ (row_of op).fields
op_fields funcs (shift k) = codes "shift" ∷ decimal k ∷ []
op_fields funcs (up n) = codes "up" ∷ decimal n ∷ []
op_fields funcs (select k) = codes "select" ∷ decimal k ∷ []
op_fields funcs (partition n m) = codes "partition" ∷ decimal n ∷ decimal m ∷ []
op_fields funcs unpartition = codes "unpartition" ∷ []

-- the word that it begins with
abbrev pub op_word : OpTree → List ℕ
op_word op = unwrap_or (slice_get (op_fields [] op) 0) []

-- ---- statements, as lists of fields

abbrev pub node_fields : (funcs items : List (List ℕ)) → NodeTree → List (List ℕ)
node_fields funcs items n = n.name ∷ codes "=" ∷ (op_fields funcs n.op ++ map (name_at items) n.args)

abbrev pub param_field : ParamTree → List ℕ
param_field p = p.name ++ 58 ∷ type_text p.type

abbrev pub head_fields : FuncTree → List (List ℕ)
head_fields f = codes "fn" ∷ f.name ∷ map param_field f.params

abbrev pub end_fields : (items : List (List ℕ)) → List ℕ → List (List ℕ)
end_fields items rs = codes "end" ∷ map (name_at items) rs

-- the names of a function's items
abbrev pub item_names : FuncTree → List (List ℕ)
item_names f = param_names f.params ++ node_names f.nodes

abbrev pub func_statements : (funcs : List (List ℕ)) → FuncTree → List (List (List ℕ))
func_statements funcs f = head_fields f ∷ (map (node_fields funcs (item_names f)) f.nodes ++ end_fields (item_names f) f.results ∷ [])

abbrev pub funcs_statements : (funcs : List (List ℕ)) → List FuncTree → List (List (List ℕ))
funcs_statements funcs [] = []
funcs_statements funcs (f ∷ fs) = func_statements funcs f ++ funcs_statements funcs fs

abbrev pub version_statements : ℕ → List (List (List ℕ))
version_statements version = if version == 2 then (codes "aeth" ∷ codes "2" ∷ []) ∷ [] else []

abbrev pub statements : ProgramTree → List (List (List ℕ))
statements p = version_statements p.version ++ funcs_statements (func_names p.funcs) p.funcs

-- ---- texts

abbrev pub spaced : List (List ℕ) → List ℕ
spaced [] = []
spaced (f ∷ fs) = 32 ∷ f ++ spaced fs

-- fields with one space between them
abbrev pub joined : List (List ℕ) → List ℕ
joined [] = []
joined (f ∷ fs) = f ++ spaced fs

-- lines, each ended by LF
abbrev pub text_of : List (List (List ℕ)) → List ℕ
text_of [] = []
text_of (l ∷ ls) = joined l ++ 10 ∷ text_of ls

abbrev pub program_text : ProgramTree → List ℕ
program_text p = text_of (statements p)

-- ---- the same program with the numbers of these lines

abbrev pub nodes_from : (n : ℕ) → List NodeTree → List NodeTree
nodes_from n [] = []
nodes_from n (m ∷ ms) = record { name = m.name; op = m.op; args = m.args; line = n } ∷ nodes_from (n + 1) ms

abbrev pub func_from : (n : ℕ) → FuncTree → FuncTree
func_from n f = record { name = f.name; params = f.params; nodes = nodes_from (n + 1) f.nodes; results = f.results; line = n; end_line = n + 1 + length f.nodes }

abbrev pub funcs_from : (n : ℕ) → List FuncTree → List FuncTree
funcs_from n [] = []
funcs_from n (f ∷ fs) = func_from n f ∷ funcs_from (n + 1 + length f.nodes + 1) fs

abbrev pub numbered : ProgramTree → ProgramTree
numbered p = record { version = p.version; funcs = funcs_from (if p.version == 2 then 2 else 1) p.funcs }

-- ---- words of 64 bits

abbrev pub words_fit : OpTree → Bool
words_fit (word op) = true
words_fit (cast_int v) = true
words_fit pair = true
words_fit fst = true
words_fit snd = true
words_fit (const t ws) = list_all (λ w. nat_lt w (2 ^ 64)) ws
words_fit zip = true
words_fit (call f) = true
words_fit (each f) = true
words_fit (each_two f) = true
words_fit (reduce op) = true
words_fit (scan op) = true
words_fit (shift k) = true
words_fit (up n) = true
words_fit (select k) = true
words_fit (partition n m) = true
words_fit unpartition = true

abbrev pub nodes_fit : List NodeTree → Bool
nodes_fit ns = list_all (λ (n : NodeTree). words_fit n.op) ns

abbrev pub funcs_fit : List FuncTree → Bool
funcs_fit fs = list_all (λ (f : FuncTree). nodes_fit f.nodes) fs
