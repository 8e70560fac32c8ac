-- What a program in space and time makes of the words of a block, in row-major order, instance by instance.
use Rattle.std.specs.Prelude.{ℕ, ◌+◌, ◌-◌, ◌*◌, ◌/◌, ◌%◌, List, [], ◌∷◌, length, map, take, drop, flat_map, get_or, Option, Some, None, slice_get}
use Rattle.std.specs.List.{range_with_len}
use Rattle.ae_word.specs.declared.op.WordOp.{WordOp}
use Rattle.ae_word.specs.AtomTree.{WordKind, atom_kinds, unsigned_word}
use Rattle.ae_word.specs.WordTable.{row_of, word_result}
use Rattle.ae_sttype.specs.StTree.{StTree, atom, sseq, st_atoms, element_atom, element_words}
use Rattle.ae_seq.specs.Typing.{grown}
use Rattle.ae_eval.specs.Stack.{paired}
use Rattle.ae_rewrite.specs.StProgramTree.{StOpTree, word, join, first, second, fixed, move, fold, scan, body, StNodeTree, StFuncTree}
use Rattle.ae_rewrite.specs.Sound.{item_layout, item_layouts}
use Rattle.ae_delay.specs.Moving.{op_move}
use Rattle.ae_gather.specs.Gathers.{origin_word}
use Rattle.ae_fold.specs.Folding.{word_fold}
use Rattle.ae_fold.specs.Shapes.{element_folds}

-- the words of a block in a layout
abbrev pub layout_words : StTree → ℕ
layout_words s = st_atoms s * element_words s

-- the words of argument k, of item k
abbrev pub words_at : List (List ℕ) → ℕ → List ℕ
words_at vs k = get_or vs k []

-- ---- plain operators

-- the argument by whose width an operator works: of a choice its first arm
abbrev pub main_argument : WordOp → ℕ
main_argument op = (row_of op).main

-- the width of the first word of each element
abbrev pub first_width : StTree → ℕ
first_width s = get_or (map (λ (k : WordKind). k.width) (atom_kinds (element_atom s))) 0 0

abbrev pub width_of : WordOp → List StTree → ℕ
width_of op args = first_width (item_layout args (main_argument op))

-- of each of n pieces of k words, l words from word o on
abbrev pub parts : (n k o l : ℕ) → List ℕ → List ℕ
parts n k o l ws = flat_map (λ e. take l (drop (e * k + o) ws)) (range_with_len 0 n)

-- the left fold of n elements of so many words, word by word
abbrev pub fold_words : WordOp → (element : StTree) → (size n : ℕ) → List ℕ → List ℕ
fold_words op t size n ws = map (λ p. word_fold (element_folds op t) size ws p (n - 1)) (range_with_len 0 size)

-- the left folds of elements 0 to i of so many words, for each of n elements i, word by word
abbrev pub scan_words : WordOp → (element : StTree) → (size n : ℕ) → List ℕ → List ℕ
scan_words op t size n ws =
    map (λ q. word_fold (element_folds op t) size ws (q % size) (q / size)) (range_with_len 0 (n * size))

-- ---- calls

-- what a caller sees of an instance: the layouts of its parameters and of its first result, and the words that this gets
pub record Callee : Type 0 where
  pub ins : List StTree
  pub out : StTree
  pub flow : List (List ℕ) → List ℕ

unfoldable pub no_callee : Callee
no_callee = record { ins = []; out = sseq 0 (atom (unsigned_word 1)); flow = λ vs. [] }

abbrev pub callee_at : List Callee → ℕ → Callee
callee_at known k = get_or known k no_callee

-- element e of each argument, where an element is a block of the callee's parameter
abbrev pub pieces : List StTree → (e : ℕ) → List (List ℕ) → List (List ℕ)
pieces [] e vs = []
pieces (x ∷ xs) e [] = []
pieces (x ∷ xs) e (v ∷ vs) = take (layout_words x) (drop (e * layout_words x) v) ∷ pieces xs e vs

-- the callee on each element, where there are n
abbrev pub mapped : Callee → (n : ℕ) → List (List ℕ) → List ℕ
mapped c n vs = flat_map (λ e. c.flow (pieces c.ins e vs)) (range_with_len 0 n)

-- how many elements a layout has, where each is a block of the callee's result
abbrev pub element_count : Callee → StTree → ℕ
element_count c s = st_atoms s / st_atoms c.out

-- ---- nodes and instances

-- the words that an operator makes of the words of its arguments
abbrev pub op_words : (known : List Callee) (args : List StTree) (out : StTree) → StOpTree → List (List ℕ) → List ℕ
op_words known args s (word op) vs =
    word_result op (width_of op args) (get_or (words_at vs 0) 0 0) (get_or (words_at vs 1) 0 0)
    (get_or (words_at vs 2) 0 0) ∷ []
op_words known args s join vs =
    paired (st_atoms s) (element_words (item_layout args 0)) (element_words (item_layout args 1)) (words_at vs 0)
    (words_at vs 1)
op_words known args s first vs =
    parts (st_atoms s) (element_words (item_layout args 0)) 0 (element_words s) (words_at vs 0)
op_words known args s second vs =
    parts (st_atoms s) (element_words (item_layout args 0)) (element_words (item_layout args 0) - element_words s)
    (element_words s) (words_at vs 0)
op_words known args s (fixed ws) vs = ws
op_words known args s (move how) vs =
    map (origin_word (item_layout args 0 ∷ []) vs) (op_move how (item_layout args 0) s).origins
op_words known args s (fold op slots lanes raw) vs = fold_words op s (layout_words s) (slots * lanes) (words_at vs 0)
op_words known args s (scan op slots lanes) vs =
    scan_words op s (layout_words s / (slots * lanes)) (slots * lanes) (words_at vs 0)
op_words known args s (body k) vs = mapped (callee_at known k) (element_count (callee_at known k) s) vs

-- the words of a node, by those of the items above it
abbrev pub node_words : (known : List Callee) (layouts : List StTree) (items : List (List ℕ)) → StNodeTree → List ℕ
node_words known layouts items n =
    op_words known (map (item_layout layouts) n.args) n.type n.op (map (words_at items) n.args)

-- the words of all items of an instance
abbrev pub item_words : (known : List Callee) → StFuncTree → List (List ℕ) → List (List ℕ)
item_words known s vs = grown (node_words known (item_layouts s)) vs s.nodes

abbrev pub first_result : StFuncTree → ℕ
first_result s = get_or s.results 0 0

abbrev pub callee : List Callee → StFuncTree → Callee
callee known s = record {
  ins = s.ins;
  out = item_layout (item_layouts s) (first_result s);
  flow = λ vs. words_at (item_words known s vs) (first_result s);
}

-- the instances as their callers see them, each by those before it
abbrev pub callees : List StFuncTree → List Callee
callees instances = grown callee [] instances

-- the words of the results of instance number k
abbrev pub results_in : List Callee → Option StFuncTree → List (List ℕ) → List (List ℕ)
results_in known None vs = []
results_in known (Some s) vs = map (words_at (item_words known s vs)) s.results

-- the words of the results of the program function, which is the last instance
unfoldable pub flow : List StFuncTree → List (List ℕ) → List (List ℕ)
flow instances vs =
    results_in (callees (take (length instances - 1) instances)) (slice_get instances (length instances - 1)) vs
