-- Items of a function under a budget: their layouts, and what each node calls.
use Rattle.std.specs.Prelude.{ℕ, ◌-◌, ◌*◌, ◌/◌, Bool, false, nat_eq, if◌then◌else◌, List, Option, Some, None, option_map, slice_get, unwrap_or}
use Rattle.ae_word.specs.declared.op.WordOp.{WordOp}
use Rattle.ae_word.specs.declared.op.WordOp.TheVariants.{Cast}
use Rattle.ae_word.specs.AtomTree.{word as atom_word}
use Rattle.ae_word.specs.WordTable.{op_for, row_of}
use Rattle.ae_seqtype.specs.SeqTree.{SeqTree, atom, seq, atoms}
use Rattle.ae_seq.specs.ProgramTree.{ProgramTree, NodeTree, OpTree, word, cast_int, pair, fst, snd, const, zip, call, each, each_two, reduce, scan, shift, up, select, partition, unpartition}
use Rattle.ae_seq.specs.Typing.{type_at, ◌>>=◌}
use Rattle.ae_sttype.specs.StTree.{StTree, tseq, sseq}
use Rattle.ae_rewrite.specs.LayoutRule.{case_of, inner_of, lanes_of, slots_of, lay_of}
use Rattle.ae_rewrite.specs.declared.cases.Case.{Case}
use Rattle.ae_rewrite.specs.declared.calls.Call.{Call}
use Rattle.ae_rewrite.specs.declared.st_program.MoveOp.TheVariants.{Shift, Up, Select, Same}
use Rattle.ae_rewrite.specs.StProgramTree.{StOpTree, word as st_word, join, first, second, fixed, move, fold, scan as st_scan}

-- the layout of an item of a function under a budget, if it has one
abbrev pub layout_at : ProgramTree → (func budget item : ℕ) → Option StTree
layout_at p f clocks i = type_at p f i >>= λ t. lay_of t clocks

-- how a sequence is spread: so many elements of a type, by a case of the layout rule
pub record Spreading : Type 0 where
  pub count : ℕ
  pub of : SeqTree
  pub case : Case

abbrev pub spreading : (count clocks : ℕ) → SeqTree → Option Spreading
spreading n clocks t = option_map (λ c. record { count = n; of = t; case = c }) (case_of n clocks)

abbrev pub spread : SeqTree → (clocks : ℕ) → Option Spreading
spread (atom a) clocks = None
spread (seq n t) clocks = spreading n clocks t

abbrev pub spread_at : ProgramTree → (func budget item : ℕ) → Option Spreading
spread_at p f clocks i = type_at p f i >>= λ t. spread t clocks

-- the budget of each element
abbrev pub inner : (clocks : ℕ) → Spreading → ℕ
inner clocks s = inner_of s.count clocks s.case

-- the first item that a node takes
abbrev pub head : List ℕ → ℕ
head args = unwrap_or (slice_get args 0) 0

-- ---- calls

-- a body for each lane, which has an element's budget
abbrev pub each_call : (func clocks : ℕ) → Option Spreading → Option Call
each_call g clocks o =
    option_map (λ (s : Spreading). record {
      func = g;
      budget = inner clocks s;
      copies = lanes_of s.count clocks s.case;
    }) o

-- what a node calls, where its first argument is spread so
abbrev pub call_of : OpTree → (clocks : ℕ) → Option Spreading → Option Call
call_of (word op) clocks o = None
call_of (cast_int v) clocks o = None
call_of pair clocks o = None
call_of fst clocks o = None
call_of snd clocks o = None
call_of (const t ws) clocks o = None
call_of zip clocks o = None
call_of (call g) clocks o = Some (record { func = g; budget = clocks; copies = 1 })
call_of (each g) clocks o = each_call g clocks o
call_of (each_two g) clocks o = each_call g clocks o
call_of (reduce op) clocks o = None
call_of (scan op) clocks o = None
call_of (shift k) clocks o = None
call_of (up n) clocks o = None
call_of (select k) clocks o = None
call_of (partition n m) clocks o = None
call_of unpartition clocks o = None

abbrev pub called_by : ProgramTree → (func budget : ℕ) → NodeTree → Option Call
called_by p f clocks n = call_of n.op clocks (spread_at p f clocks (head n.args))

-- ---- nodes that call nothing

abbrev pub is_signed_type : Option SeqTree → Bool
is_signed_type (Some (atom (atom_word k))) = k.signed
is_signed_type _ = false

-- an operator goes by the kind of this argument: a choice by its arms
abbrev pub deciding_argument : WordOp → List ℕ → ℕ
deciding_argument op args = unwrap_or (slice_get args (row_of op).main) 0

-- the operator by the kind of its deciding_argument
abbrev pub op_by : ProgramTree → (func : ℕ) → WordOp → List ℕ → WordOp
op_by p f op args = op_for (is_signed_type (type_at p f (deciding_argument op args))) op

-- the one result of a fold, as it comes: at the head of the clocks, in an element's layout
abbrev pub raw_layout : (clocks inner : ℕ) → StTree → StTree
raw_layout clocks inner t = if nat_eq clocks 1 then sseq 1 t else tseq 1 (clocks / inner - 1) t

abbrev pub fold_of : WordOp → (clocks : ℕ) → Spreading → Option StOpTree
fold_of op clocks s =
    option_map (λ t. fold op (slots_of s.count clocks s.case) (lanes_of s.count clocks s.case)
    (raw_layout clocks (inner clocks s) t)) (lay_of s.of (inner clocks s))

abbrev pub scan_of : WordOp → (clocks : ℕ) → Spreading → StOpTree
scan_of op clocks s = st_scan op (slots_of s.count clocks s.case) (lanes_of s.count clocks s.case)

-- a shift by so many elements, in atoms
abbrev pub shift_of : (count : ℕ) → SeqTree → Option StOpTree
shift_of k (atom a) = None
shift_of k (seq n t) = Some (move (Shift (k * atoms t)))

-- what a node does that calls nothing
abbrev pub plain_op : ProgramTree → (func budget : ℕ) → OpTree → List ℕ → Option StOpTree
plain_op p f clocks (word op) args = Some (st_word (op_by p f op args))
plain_op p f clocks (cast_int v) args = Some (st_word (op_by p f (Cast v) args))
plain_op p f clocks pair args = Some join
plain_op p f clocks fst args = Some first
plain_op p f clocks snd args = Some second
plain_op p f clocks (const t ws) args = Some (fixed ws)
plain_op p f clocks zip args = Some join
plain_op p f clocks (call g) args = None
plain_op p f clocks (each g) args = None
plain_op p f clocks (each_two g) args = None
plain_op p f clocks (reduce op) args = spread_at p f clocks (head args) >>= fold_of op clocks
plain_op p f clocks (scan op) args = option_map (scan_of op clocks) (spread_at p f clocks (head args))
plain_op p f clocks (shift k) args = type_at p f (head args) >>= shift_of k
plain_op p f clocks (up n) args = Some (move (Up n))
plain_op p f clocks (select k) args = Some (move (Select k))
plain_op p f clocks (partition n m) args = Some (move Same)
plain_op p f clocks unpartition args = Some (move Same)
