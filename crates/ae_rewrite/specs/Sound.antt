-- What is sure of every program in space and time: arguments stand above, amounts are within limits, each operator fits its layouts, and each instance is used.
use Rattle.std.specs.Prelude.{◌≡◌, ℕ, ◌+◌, ◌-◌, ◌*◌, ◌%◌, ◌^◌, ◌<◌, ◌≤◌, List, [], ◌∷◌, ◌++◌, length, map, take, Some, slice_get, unwrap_or}
use Rattle.ae_word.specs.AtomTree.{WordKind, atom_kinds, unsigned_word}
use Rattle.ae_sttype.specs.StTree.{StTree, atom, sseq, st_atoms, element_atom, element_words}
use Rattle.ae_rewrite.specs.declared.st_program.MoveOp.{MoveOp}
use Rattle.ae_rewrite.specs.declared.st_program.MoveOp.TheVariants.{Shift, Up, Select, Same}
use Rattle.ae_rewrite.specs.StProgramTree.{StOpTree, word, join, first, second, fixed, move, fold, scan, body, StNodeTree, StFuncTree}
use Rattle.ae_rewrite.specs.Scheduled.{IsFilling, AreFilling, node_layouts}

-- the layouts of an instance's items: its parameters and then its nodes
abbrev pub item_layouts : StFuncTree → List StTree
item_layouts s = s.ins ++ node_layouts s.nodes

-- the layout of item a; the default is read of no item
abbrev pub item_layout : List StTree → (a : ℕ) → StTree
item_layout layouts a = unwrap_or (slice_get layouts a) (sseq 0 (atom (unsigned_word 1)))

-- each element of the result of a move has its place in the argument, by how many elements they have
abbrev pub IsMoveFrom : MoveOp → (in_atoms out_atoms : ℕ) → Type 0
IsMoveFrom (Shift k) n m = (n ≡ m) × (k ≤ m)
IsMoveFrom (Up c) n m = m ≡ c * n
IsMoveFrom (Select k) n m = k * m + m ≤ n
IsMoveFrom Same n m = n ≡ m

-- the amounts of a fold or a scan
pub record IsSpread (slots lanes : ℕ) : Type 0 where
  pub some_slots : 1 ≤ slots
  pub few_slots : slots ≤ 4096
  pub some_lanes : 1 ≤ lanes
  pub few_lanes : lanes ≤ 4096

-- as many fixed words as the layout has words, each below two to the power of its width
pub record FixedFits (s : StTree) (words : List ℕ) : Type 0 where
  pub long : length words ≡ st_atoms s * element_words s
  pub fits : (o w : ℕ) (k : WordKind) → slice_get words o ≡ Some w
      → slice_get (atom_kinds (element_atom s)) (o % element_words s) ≡ Some k → w < 2 ^ k.width

-- a fold's result first comes in the layout `raw`, which has the atom and the elements of its own
pub record IsRawFor (budget : ℕ) (raw s : StTree) : Type 0 where
  pub layout : IsFilling budget raw
  pub atom : element_atom raw ≡ element_atom s
  pub atoms : st_atoms raw ≡ st_atoms s

-- an operator fits the layouts of its arguments and its own; of instance number k only earlier ones are called
abbrev pub IsSoundOp : (k budget : ℕ) → (args : List StTree) → (out : StTree) → StOpTree → Type 0
IsSoundOp k budget as_all s (fixed ws) = FixedFits s ws
IsSoundOp k budget (a ∷ []) s (move how) = (element_atom a ≡ element_atom s) × IsMoveFrom how (st_atoms a) (st_atoms s)
IsSoundOp k budget as_all s (move how) = ⊥
IsSoundOp k budget (a ∷ []) s (fold op slots lanes raw) = IsRawFor budget raw s × IsSpread slots lanes
IsSoundOp k budget as_all s (fold op slots lanes raw) = ⊥
IsSoundOp k budget (a ∷ []) s (scan op slots lanes) = IsSpread slots lanes
IsSoundOp k budget as_all s (scan op slots lanes) = ⊥
IsSoundOp k budget as_all s (body m) = m < k
IsSoundOp k budget as_all s (word op) = Unit {0}
IsSoundOp k budget as_all s join = Unit {0}
IsSoundOp k budget as_all s first = Unit {0}
IsSoundOp k budget as_all s second = Unit {0}

-- a node below items of these layouts
pub record IsSoundNode (k budget : ℕ) (layouts : List StTree) (n : StNodeTree) : Type 0 where
  pub args : (i a : ℕ) → slice_get n.args i ≡ Some a → a < length layouts
  pub few : length n.args ≤ 8
  pub layout : IsFilling budget n.type
  pub some_copies : 1 ≤ n.copies
  pub few_copies : n.copies ≤ 4096
  pub op : IsSoundOp k budget (map (item_layout layouts) n.args) n.type n.op

-- instance number k: each node stands below the parameters and the nodes before it, and each result is one of the items
pub record IsSoundFunc (k : ℕ) (s : StFuncTree) : Type 0 where
  pub ins : AreFilling s.budget s.ins
  pub few_ins : length s.ins ≤ 8
  pub nodes : (i : ℕ) (n : StNodeTree) → slice_get s.nodes i ≡ Some n
      → IsSoundNode k s.budget (s.ins ++ node_layouts (take i s.nodes)) n
  pub results : (i r : ℕ) → slice_get s.results i ≡ Some r → r < length (item_layouts s)
  pub some_results : 1 ≤ length s.results
  pub few_results : length s.results ≤ 8

-- the instance is used: it is the program function's, which is the last, or a node of a used one calls it
pub data IsUsed (instances : List StFuncTree) : (k : ℕ) → Type 0 where
  as_last : (k : ℕ) → k ≡ length instances - 1 → IsUsed instances k
  as_called : (k caller j : ℕ) (s : StFuncTree) (n : StNodeTree) → IsUsed instances caller
      → slice_get instances caller ≡ Some s → slice_get s.nodes j ≡ Some n → n.op ≡ body k → IsUsed instances k

-- some instances, each of which only calls those before it, and is used
pub record IsSound (instances : List StFuncTree) : Type 0 where
  pub some : 1 ≤ length instances
  pub each : (k : ℕ) (s : StFuncTree) → slice_get instances k ≡ Some s → IsSoundFunc k s
  pub used : (k : ℕ) (s : StFuncTree) → slice_get instances k ≡ Some s → IsUsed instances k
