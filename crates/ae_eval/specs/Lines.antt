-- The lines of a program's functions, their values, and the values of functions and of programs.
use Rattle.std.specs.Prelude.{◌≡◌, ℕ, ◌+◌, ◌-◌, ◌≤◌, Bool, true, false, List, [], ◌∷◌, length, take, drop, map, Option, Some, None, slice_get, IsTrue}
use Rattle.ae_seqtype.specs.SeqTree.{SeqTree, atom, seq}
use Rattle.ae_seqtype.specs.ValueTree.{ValueTree, end}
use Rattle.ae_seq.specs.ProgramTree.{FuncTree, NodeTree, ProgramTree, OpTree, word, cast_int, pair, fst, snd, const, zip, call, each, each_two, reduce, scan, shift, up, select, partition, unpartition}
use Rattle.ae_seq.specs.Typing.{type_at}
use Rattle.ae_seq.specs.Meaning.{Meaning, at, meanings, node_value}
use Rattle.ae_eval.specs.Stack.{FitIn, params_in, somes, types_in, values_in}

abbrev pub nodes_for : Option FuncTree → List NodeTree
nodes_for None = []
nodes_for (Some f) = f.nodes

abbrev pub results_for : Option FuncTree → List ℕ
results_for None = []
results_for (Some f) = f.results

-- the nodes of function number k, and the items that it answers
abbrev pub nodes_in : ProgramTree → ℕ → List NodeTree
nodes_in p k = nodes_for (slice_get p.funcs k)

abbrev pub results_in : ProgramTree → ℕ → List ℕ
results_in p k = results_for (slice_get p.funcs k)

-- the item that node number j of function number k is
abbrev pub item_of : ProgramTree → (k j : ℕ) → ℕ
item_of p k j = length (params_in p k) + j

-- the values of the first n items of function number k stand from base on
pub record Laid (p : ProgramTree) (k n base : ℕ) (stack : List ℕ) : Type 0 where
  pub above : base ≤ length stack
  pub fits : FitIn (take n (types_in p k)) (drop base stack)

-- those values
abbrev pub values_at : ProgramTree → (k n base : ℕ) → List ℕ → List ValueTree
values_at p k n base stack = values_in (take n (types_in p k)) (drop base stack)

abbrev pub value_for : List Meaning → List ValueTree → Option NodeTree → ValueTree
value_for known vs None = end
value_for known vs (Some n) = node_value known vs n

-- the value of node number j of function number k, by the values of the items above it
abbrev pub line_value : ProgramTree → (k j : ℕ) → List ValueTree → ValueTree
line_value p k j vs = value_for (take k (meanings p.funcs)) vs (slice_get (nodes_in p k) j)

-- an operator that calls no function
abbrev pub is_plain : OpTree → Bool
is_plain (word op) = true
is_plain (cast_int v) = true
is_plain pair = true
is_plain fst = true
is_plain snd = true
is_plain (const t ws) = true
is_plain zip = true
is_plain (call f) = false
is_plain (each f) = false
is_plain (each_two f) = false
is_plain (reduce op) = true
is_plain (scan op) = true
is_plain (shift k) = true
is_plain (up n) = true
is_plain (select k) = true
is_plain (partition n m) = true
is_plain unpartition = true

abbrev pub IsPlainFor : Option NodeTree → Type 0
IsPlainFor None = ⊥
IsPlainFor (Some n) = IsTrue (is_plain n.op)

-- node number j of function number k calls no function
abbrev pub IsPlain : ProgramTree → (k j : ℕ) → Type 0
IsPlain p k j = IsPlainFor (slice_get (nodes_in p k) j)

abbrev pub args_for : Option NodeTree → List ℕ
args_for None = []
args_for (Some n) = n.args

-- the items that node number j of function number k takes
abbrev pub args_of : ProgramTree → (k j : ℕ) → List ℕ
args_of p k j = args_for (slice_get (nodes_in p k) j)

-- the items have these types
abbrev pub ItemsHave : List SeqTree → List ℕ → List SeqTree → Type 0
ItemsHave ts [] [] = Unit {0}
ItemsHave ts (i ∷ is) (u ∷ us) = (slice_get ts i ≡ Some u) × ItemsHave ts is us
ItemsHave ts _ _ = ⊥

-- the values of items were put on top, in order
pub record Passed (ts : List SeqTree) (vs : List ValueTree) (items : List ℕ) (old new : List ℕ) : Type 0 where
  pub kept : take (length old) new ≡ old
  pub types : List SeqTree
  pub have : ItemsHave ts items types
  pub fits : FitIn types (drop (length old) new)
  pub values : values_in types (drop (length old) new) ≡ map (at vs) items

-- a function takes one element of a sequence, one element of each of two sequences as long as each other
abbrev pub TakesEach : SeqTree → List SeqTree → Type 0
TakesEach (seq n t) ps = ps ≡ t ∷ []
TakesEach (atom a) ps = ⊥

abbrev pub TakesEachTwo : SeqTree → SeqTree → List SeqTree → Type 0
TakesEachTwo (seq n t) (seq m u) ps = (n ≡ m) × (ps ≡ t ∷ u ∷ [])
TakesEachTwo (atom a) u ps = ⊥
TakesEachTwo (seq n t) (atom b) ps = ⊥

-- as many elements as the sequence has, of the type that there is
abbrev pub each_of : SeqTree → Option SeqTree → Option SeqTree
each_of (seq n t) (Some u) = Some (seq n u)
each_of (seq n t) None = None
each_of (atom a) u = None

-- the types of the results of function number k
abbrev pub types_of_items : ProgramTree → ℕ → List ℕ → List SeqTree
types_of_items p k items = somes (map (type_at p k) items)

abbrev pub results_types : ProgramTree → ℕ → List SeqTree
results_types p k = types_of_items p k (results_in p k)

-- the number of the program function, and the types of its parameters and of its results
abbrev pub last_func : ProgramTree → ℕ
last_func p = length p.funcs - 1

abbrev pub input_types : ProgramTree → List SeqTree
input_types p = params_in p (last_func p)

abbrev pub output_types : ProgramTree → List SeqTree
output_types p = results_types p (last_func p)
