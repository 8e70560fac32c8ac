-- Programs as numbers, lists and trees, apart from where their vectors and boxes lie.
use Rattle.std.specs.Prelude.{ℕ, List, map, string_bytes}
use Rattle.ae_word.specs.declared.op.WordOp.{WordOp}
use Rattle.ae_seqtype.specs.SeqTree.{SeqTree, seq_tree}
use Rattle.ae_seq.specs.declared.program.Program.{Program}
use Rattle.ae_seq.specs.declared.program.Func.{Func}
use Rattle.ae_seq.specs.declared.program.Param.{Param}
use Rattle.ae_seq.specs.declared.program.Node.{Node}
use Rattle.ae_seq.specs.declared.program.Op.{Op}
use Rattle.ae_seq.specs.declared.program.Op.TheVariants.{Word, CastInt, Pair, Fst, Snd, Const, Zip, Call, Map, Map2, Reduce, Scan, Shift, Up, Select, Partition, Unpartition}

-- what a node does with the values of its arguments
pub data OpTree : Type 0 where
  word : (op : WordOp) → OpTree
  cast_int : (width : ℕ) → OpTree
  pair : OpTree
  fst : OpTree
  snd : OpTree
  const : (type : SeqTree) (words : List ℕ) → OpTree
  zip : OpTree
  call : (func : ℕ) → OpTree
  each : (func : ℕ) → OpTree
  each_two : (func : ℕ) → OpTree
  reduce : (op : WordOp) → OpTree
  scan : (op : WordOp) → OpTree
  shift : (count : ℕ) → OpTree
  up : (count : ℕ) → OpTree
  select : (place : ℕ) → OpTree
  partition : (pieces size : ℕ) → OpTree
  unpartition : OpTree

pub record ParamTree : Type 0 where
  pub name : List ℕ
  pub type : SeqTree

-- a node line: its name, what it does, the items that it takes, and its number in the text
pub record NodeTree : Type 0 where
  pub name : List ℕ
  pub op : OpTree
  pub args : List ℕ
  pub line : ℕ

-- a function: its items are its parameters and then its nodes, and it answers some of them
pub record FuncTree : Type 0 where
  pub name : List ℕ
  pub params : List ParamTree
  pub nodes : List NodeTree
  pub results : List ℕ
  pub line : ℕ
  pub end_line : ℕ

-- a program; its last function is the program function
pub record ProgramTree : Type 0 where
  pub version : ℕ
  pub funcs : List FuncTree

abbrev pub op_tree : Op → OpTree
op_tree (Word op) = word op
op_tree (CastInt w) = cast_int w
op_tree Pair = pair
op_tree Fst = fst
op_tree Snd = snd
op_tree (Const t ws) = const (seq_tree t) ws.items
op_tree Zip = zip
op_tree (Call f) = call f
op_tree (Map f) = each f
op_tree (Map2 f) = each_two f
op_tree (Reduce op) = reduce op
op_tree (Scan op) = scan op
op_tree (Shift k) = shift k
op_tree (Up n) = up n
op_tree (Select k) = select k
op_tree (Partition n m) = partition n m
op_tree Unpartition = unpartition

abbrev pub param_tree : Param → ParamTree
param_tree p = record { name = string_bytes p.name; type = seq_tree p.ty }

abbrev pub node_tree : Node → NodeTree
node_tree n = record { name = string_bytes n.name; op = op_tree n.op; args = n.args.items; line = n.line }

abbrev pub func_tree : Func → FuncTree
func_tree f = record {
  name = string_bytes f.name;
  params = map param_tree f.params.items;
  nodes = map node_tree f.nodes.items;
  results = f.results.items;
  line = f.line;
  end_line = f.end_line;
}

abbrev pub program_tree : Program → ProgramTree
program_tree p = record { version = p.version; funcs = map func_tree p.funcs.items }
