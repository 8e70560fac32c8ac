-- Each operator of a program in space and time fits the layouts of its arguments and its own.
use Rattle.std.specs.Prelude.{◌≡◌, ℕ, true, ◌*◌, ◌≤◌, ◌⊎◌, List, [], ◌∷◌, ◌++◌, map, take, Some, slice_get}
use Rattle.ae_word.specs.declared.op.WordOp.{WordOp}
use Rattle.ae_word.specs.AtomTree.{atom_kinds}
use Rattle.ae_word.specs.WordTable.{HasRange, folds, result_width_of}
use Rattle.ae_sttype.specs.StTree.{StTree, tseq, sseq, time, lanes, st_atoms, element_atom}
use Rattle.ae_sttype.specs.Slots.{slots}
use Rattle.ae_ops.specs.Blocks.{Stream, stream_of}
use Rattle.ae_ops.specs.Words.{operand_widths, word_stream}
use Rattle.ae_rewrite.specs.declared.st_program.MoveOp.{MoveOp}
use Rattle.ae_rewrite.specs.StProgramTree.{StOpTree, word, join, first, second, fixed, move, fold, scan, body, StNodeTree, StFuncTree}
use Rattle.ae_rewrite.specs.Sound.{item_layout, item_layouts, FixedFits, IsMoveFrom}
use Rattle.ae_ports.specs.Ports.{streams_of}
use Rattle.ae_flow.specs.Flow.{width_of, first_result}

-- where elements of a layout stand that come on so many lanes, in so many slots one after the other
abbrev pub elements_stream : (slots lanes : ℕ) → StTree → Stream
elements_stream slots lanes t = stream_of (tseq slots 0 (sseq lanes t))

-- an operator on words, one in the first clock of each block
pub record FitsWord (op : WordOp) (args : List StTree) (s : StTree) : Type 0 where
  pub range : HasRange op
  pub low : 1 ≤ width_of op args
  pub high : width_of op args ≤ 64
  pub ins : streams_of args ≡ map word_stream (operand_widths op (width_of op args))
  pub out : stream_of s ≡ word_stream (result_width_of op (width_of op args))

-- elements of both layouts stand in the same slots on as many lanes
pub record SameSlots (a s : StTree) : Type 0 where
  pub slots : slots a ≡ slots s
  pub lanes : lanes a ≡ lanes s

-- each element of the third is one of the first and then one of the second
pub record FitsPair (a b s : StTree) : Type 0 where
  pub first : SameSlots a s
  pub second : SameSlots b s
  pub kinds : atom_kinds (element_atom s) ≡ atom_kinds (element_atom a) ++ atom_kinds (element_atom b)

-- such a third layout
pub record FitsFirst (s pairs : StTree) : Type 0 where
  pub other : StTree
  pub pair : FitsPair s other pairs

pub record FitsSecond (s pairs : StTree) : Type 0 where
  pub other : StTree
  pub pair : FitsPair other s pairs

-- one element comes at the head of the clocks
abbrev pub IsOneOf : (element raw : StTree) → Type 0
IsOneOf t raw = (raw ≡ sseq 1 t) ⊎ ((rest : ℕ) × (raw ≡ tseq 1 rest t))

-- elements on lanes and in slots are folded into one
pub record FitsFold (budget : ℕ) (op : WordOp) (slots lanes : ℕ) (raw a s : StTree) : Type 0 where
  pub element : StTree
  pub one : IsOneOf element raw
  pub foldable : folds op ≡ true
  pub room : slots * time element ≤ budget
  pub ins : stream_of a ≡ elements_stream slots lanes element

-- elements of a layout as the layout rule arranges them: on lanes, in slots, or in slots of lanes
abbrev pub IsArranged : (slots lanes : ℕ) → (element s : StTree) → Type 0
IsArranged n m t s =
    ((n ≡ 1) × (s ≡ sseq m t)) ⊎ (((m ≡ 1) × ((rest : ℕ) × (s ≡ tseq n rest t)))
    ⊎ ((2 ≤ m) × ((rest : ℕ) × (s ≡ tseq n rest (sseq m t)))))

pub record FitsScan (budget : ℕ) (op : WordOp) (slots lanes : ℕ) (a s : StTree) : Type 0 where
  pub element : StTree
  pub arranged : IsArranged slots lanes element s
  pub foldable : folds op ≡ true
  pub room : slots * time element ≤ budget
  pub ins : stream_of a ≡ elements_stream slots lanes element

-- a body on each lane, whose blocks follow one another within a block of the node; only the first ones have elements
pub record FitsBody (budget copies : ℕ) (args : List StTree) (s : StTree) (f : StFuncTree) : Type 0 where
  pub slots : ℕ
  pub rounds : ℕ
  pub some : 1 ≤ slots
  pub few : slots ≤ rounds
  pub clocks : rounds * f.budget ≡ budget
  pub ins : streams_of args ≡ map (elements_stream slots copies) f.ins
  pub out : stream_of s ≡ elements_stream slots copies (item_layout (item_layouts f) (first_result f))

abbrev pub FitsMove : MoveOp → (a s : StTree) → Type 0
FitsMove how a s = (element_atom a ≡ element_atom s) × IsMoveFrom how (st_atoms a) (st_atoms s)

abbrev pub FitsOp : (before : List StFuncTree) (budget copies : ℕ) (args : List StTree) (out : StTree) → StOpTree
    → Type 0
FitsOp before budget copies args s (word op) = FitsWord op args s
FitsOp before budget copies (a ∷ b ∷ []) s join = FitsPair a b s
FitsOp before budget copies args s join = ⊥
FitsOp before budget copies (a ∷ []) s first = FitsFirst s a
FitsOp before budget copies args s first = ⊥
FitsOp before budget copies (a ∷ []) s second = FitsSecond s a
FitsOp before budget copies args s second = ⊥
FitsOp before budget copies args s (fixed ws) = (args ≡ []) × FixedFits s ws
FitsOp before budget copies (a ∷ []) s (move how) = FitsMove how a s
FitsOp before budget copies args s (move how) = ⊥
FitsOp before budget copies (a ∷ []) s (fold op slots lanes raw) = FitsFold budget op slots lanes raw a s
FitsOp before budget copies args s (fold op slots lanes raw) = ⊥
FitsOp before budget copies (a ∷ []) s (scan op slots lanes) = FitsScan budget op slots lanes a s
FitsOp before budget copies args s (scan op slots lanes) = ⊥
FitsOp before budget copies args s (body k) =
    (f : StFuncTree) × (slice_get before k ≡ Some f) × FitsBody budget copies args s f

abbrev pub FitsNode : (before : List StFuncTree) (s : StFuncTree) → StNodeTree → Type 0
FitsNode before s n = FitsOp before s.budget n.copies (map (item_layout (item_layouts s)) n.args) n.type n.op

-- in each instance each node fits
pub record AreFitted (instances : List StFuncTree) : Type 0 where
  pub each : (k j : ℕ) (s : StFuncTree) (n : StNodeTree) → slice_get instances k ≡ Some s
      → slice_get s.nodes j ≡ Some n → FitsNode (take k instances) s n
