-- What a program computes, on values as nested lists.
use Rattle.std.specs.Prelude.{ℕ, zero, suc, ◌+◌, ◌-◌, true, false, List, [], ◌∷◌, ◌++◌, length, take, drop, map, slice_get, unwrap_or}
use Rattle.ae_word.specs.declared.op.WordOp.{WordOp}
use Rattle.ae_word.specs.declared.op.WordOp.TheVariants.{Cast}
use Rattle.ae_word.specs.AtomTree.{WordKind}
use Rattle.ae_word.specs.WordTable.{op_for, row_of, word_result}
use Rattle.ae_seqtype.specs.SeqTree.{repeated}
use Rattle.ae_seqtype.specs.ValueTree.{ValueTree, number, both, end, more, listed, elements, zeroed, cut, value_of}
use Rattle.ae_seq.specs.ProgramTree.{OpTree, word, cast_int, pair, fst, snd, const, zip, call, each, each_two, reduce, scan, shift, up, select, partition, unpartition, NodeTree, FuncTree, ProgramTree}
use Rattle.ae_seq.specs.Typing.{grown}

-- a function: from the values of its arguments to those of its results
abbrev pub Meaning : Type 0
Meaning = List ValueTree → List ValueTree

abbrev pub no_function : Meaning
no_function vs = []

-- value k of a list; a program that has types names none that is not there, so the default is not read
abbrev pub at : List ValueTree → ℕ → ValueTree
at vs k = unwrap_or (slice_get vs k) end

-- the first result of function number k, which is one of those above
abbrev pub applied : List Meaning → ℕ → List ValueTree → ValueTree
applied known k vs = at (unwrap_or (slice_get known k) no_function vs) 0

-- ---- words

abbrev pub kind_in : ValueTree → WordKind
kind_in (number k n) = k
kind_in _ = record { signed = false; width = 0 }

abbrev pub code_in : ValueTree → ℕ
code_in (number k n) = n
code_in _ = 0

-- an operator on codes of a kind, by that kind
abbrev pub coded : WordOp → WordKind → (a b c : ℕ) → ℕ
coded op k a b c = word_result (op_for k.signed op) k.width a b c

-- an operator on words: of a choice the arms tell the kind
abbrev pub word_value : WordOp → List ValueTree → ValueTree
word_value op vs =
    let k = kind_in (at vs (row_of op).main) in
    number ((row_of op).result k) (coded op k (code_in (at vs 0)) (code_in (at vs 1)) (code_in (at vs 2)))

abbrev pub cast_value : ℕ → ValueTree → ValueTree
cast_value v x = number (record { signed = true; width = v }) (coded (Cast v) (kind_in x) (code_in x) 0 0)

-- an operator on the words of two values, word by word, each by its own kind
abbrev pub first_part : ValueTree → ValueTree
first_part (both a b) = a
first_part (more a b) = a
first_part v = v

abbrev pub second_part : ValueTree → ValueTree
second_part (both a b) = b
second_part (more a b) = b
second_part v = v

abbrev pub wordwise : WordOp → ValueTree → ValueTree → ValueTree
wordwise op (number k a) v = number k (coded op k a (code_in v) 0)
wordwise op (both a b) v = both (wordwise op a (first_part v)) (wordwise op b (second_part v))
wordwise op end v = end
wordwise op (more x xs) v = more (wordwise op x (first_part v)) (wordwise op xs (second_part v))

-- ---- sequences

-- pairs, element by element at every level
abbrev pub zipped : ValueTree → ValueTree → ValueTree
zipped end v = end
zipped (more x xs) v = more (zipped x (first_part v)) (zipped xs (second_part v))
zipped u v = both u v

-- the left fold of the elements, from the first on
abbrev pub folded : (ValueTree → ValueTree → ValueTree) → ValueTree → List ValueTree → ValueTree
folded f v [] = v
folded f v (x ∷ xs) = folded f (f v x) xs

abbrev pub fold_all : (ValueTree → ValueTree → ValueTree) → List ValueTree → ValueTree
fold_all f [] = end
fold_all f (x ∷ xs) = folded f x xs

-- the left folds of the first i + 1 elements, for each i below a number
abbrev pub folds_up_to : (ValueTree → ValueTree → ValueTree) → ℕ → List ValueTree → List ValueTree
folds_up_to f zero xs = []
folds_up_to f (suc i) xs = folds_up_to f i xs ++ fold_all f (take (i + 1) xs) ∷ []

-- K elements of zero words, and then the first elements
abbrev pub shifted : ℕ → List ValueTree → List ValueTree
shifted k xs = map zeroed (take k xs) ++ take (length xs - k) xs

-- the elements of the elements
abbrev pub joined : List ValueTree → List ValueTree
joined [] = []
joined (x ∷ xs) = elements x ++ joined xs

abbrev pub map_two : (ValueTree → ValueTree → ValueTree) → List ValueTree → List ValueTree → List ValueTree
map_two f (x ∷ xs) (y ∷ ys) = f x y ∷ map_two f xs ys
map_two f _ _ = []

-- ---- the value of each line form, by the meanings of the functions above

abbrev pub op_value : List Meaning → OpTree → List ValueTree → ValueTree
op_value known (word op) vs = word_value op vs
op_value known (cast_int v) vs = cast_value v (at vs 0)
op_value known pair vs = both (at vs 0) (at vs 1)
op_value known fst vs = first_part (at vs 0)
op_value known snd vs = second_part (at vs 0)
op_value known (const t ws) vs = value_of t ws
op_value known zip vs = zipped (at vs 0) (at vs 1)
op_value known (call f) vs = applied known f vs
op_value known (each f) vs = listed (map (λ x. applied known f (x ∷ [])) (elements (at vs 0)))
op_value known (each_two f) vs = listed (map_two (λ x y. applied known f (x ∷ y ∷ [])) (elements (at vs 0)) (elements (at vs 1)))
op_value known (reduce op) vs = listed (fold_all (wordwise op) (elements (at vs 0)) ∷ [])
op_value known (scan op) vs = listed (folds_up_to (wordwise op) (length (elements (at vs 0))) (elements (at vs 0)))
op_value known (shift k) vs = listed (shifted k (elements (at vs 0)))
op_value known (up n) vs = listed (repeated n (elements (at vs 0)))
op_value known (select k) vs = listed (take 1 (drop k (elements (at vs 0))))
op_value known (partition n m) vs = listed (map listed (cut n m (elements (at vs 0))))
op_value known unpartition vs = listed (joined (elements (at vs 0)))

-- ---- functions

-- the value of a node, by the values of the items above it
abbrev pub node_value : List Meaning → List ValueTree → NodeTree → ValueTree
node_value known items n = op_value known n.op (map (at items) n.args)

-- the values of a function's items
abbrev pub item_values : List Meaning → FuncTree → List ValueTree → List ValueTree
item_values known f vs = grown (node_value known) vs f.nodes

abbrev pub meaning : List Meaning → FuncTree → Meaning
meaning known f vs = map (at (item_values known f vs)) f.results

-- the meaning of each function, from those above it
abbrev pub meanings : List FuncTree → List Meaning
meanings fs = grown meaning [] fs

-- the results of the program function
abbrev pub mean : ProgramTree → List ValueTree → List ValueTree
mean p vs = unwrap_or (slice_get (meanings p.funcs) (length p.funcs - 1)) no_function vs
