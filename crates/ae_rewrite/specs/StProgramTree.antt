-- Space-time programs as numbers, lists and trees, apart from where their vectors and boxes lie.
use Rattle.std.specs.Prelude.{ℕ, List, map}
use Rattle.ae_word.specs.declared.op.WordOp.{WordOp}
use Rattle.ae_sttype.specs.declared.st_type.StType.{StType}
use Rattle.ae_sttype.specs.StTree.{StTree, st_tree}
use Rattle.ae_rewrite.specs.declared.st_program.MoveOp.{MoveOp}
use Rattle.ae_rewrite.specs.declared.st_program.StOp.{StOp}
use Rattle.ae_rewrite.specs.declared.st_program.StOp.TheVariants.{Word, Join, First, Second, Fixed, Move, Fold, Scan, Body}
use Rattle.ae_rewrite.specs.declared.st_program.StNode.{StNode}
use Rattle.ae_rewrite.specs.declared.st_program.StFunc.{StFunc}

-- what a node does with the blocks of its arguments
pub data StOpTree : Type 0 where
  word : (op : WordOp) → StOpTree
  join : StOpTree
  first : StOpTree
  second : StOpTree
  fixed : (words : List ℕ) → StOpTree
  move : (how : MoveOp) → StOpTree
  fold : (op : WordOp) (slots lanes : ℕ) (raw : StTree) → StOpTree
  scan : (op : WordOp) (slots lanes : ℕ) → StOpTree
  body : (instance : ℕ) → StOpTree

-- a node: the items that it takes, its layout, its copies and its line
pub record StNodeTree : Type 0 where
  pub op : StOpTree
  pub args : List ℕ
  pub type : StTree
  pub copies : ℕ
  pub line : ℕ

-- a function under a budget, with the layouts of its parameters
pub record StFuncTree : Type 0 where
  pub func : ℕ
  pub budget : ℕ
  pub ins : List StTree
  pub nodes : List StNodeTree
  pub results : List ℕ
  pub end_line : ℕ

abbrev pub st_op_tree : StOp → StOpTree
st_op_tree (Word op) = word op
st_op_tree Join = join
st_op_tree First = first
st_op_tree Second = second
st_op_tree (Fixed ws) = fixed ws.items
st_op_tree (Move how) = move how
st_op_tree (Fold op slots lanes raw) = fold op slots lanes (st_tree raw)
st_op_tree (Scan op slots lanes) = scan op slots lanes
st_op_tree (Body k) = body k

abbrev pub st_node_tree : StNode → StNodeTree
st_node_tree n =
    record { op = st_op_tree n.op; args = n.args.items; type = st_tree n.ty; copies = n.copies; line = n.line }

abbrev pub st_node_trees : List StNode → List StNodeTree
st_node_trees ns = map st_node_tree ns

abbrev pub st_trees : List StType → List StTree
st_trees ts = map st_tree ts

abbrev pub st_func_tree : StFunc → StFuncTree
st_func_tree f = record {
  func = f.func;
  budget = f.budget;
  ins = st_trees f.ins.items;
  nodes = st_node_trees f.nodes.items;
  results = f.results.items;
  end_line = f.end_line;
}

abbrev pub st_func_trees : List StFunc → List StFuncTree
st_func_trees fs = map st_func_tree fs
