-- What the checker holds, as trees.
use Rattle.std.specs.Prelude.{List, map, Option, Some, None, Vec}
use Rattle.std.specs.Borrow.{Bor}
use Rattle.std.specs.declared.alloc.Global.{Global}
use Rattle.ae_seqtype.specs.declared.seq_type.SeqType.{SeqType}
use Rattle.ae_seqtype.specs.SeqTree.{SeqTree, seq_tree}
use Rattle.ae_seq.specs.declared.program.Func.{Func}
use Rattle.ae_seq.specs.declared.program.Node.{Node}
use Rattle.ae_seq.specs.declared.program.Param.{Param}
use Rattle.ae_seq.specs.ProgramTree.{FuncTree, NodeTree, ParamTree, func_tree, node_tree, param_tree}

abbrev pub func_trees : List Func → List FuncTree
func_trees fs = map func_tree fs

abbrev pub param_trees : List Param → List ParamTree
param_trees ps = map param_tree ps

abbrev pub node_trees : List Node → List NodeTree
node_trees ns = map node_tree ns

-- types, types that are lent, and the types of functions' items
abbrev pub type_trees : List SeqType → List SeqTree
type_trees ts = map seq_tree ts

abbrev pub lent : Bor SeqType → SeqTree
lent t = seq_tree t.now

abbrev pub lent_types : List (Bor SeqType) → List SeqTree
lent_types ts = map lent ts

abbrev pub items_of : Vec SeqType Global → List SeqTree
items_of v = type_trees v.items

abbrev pub types_of : List (Vec SeqType Global) → List (List SeqTree)
types_of vs = map items_of vs

abbrev pub option_type : Option SeqType → Option SeqTree
option_type None = None
option_type (Some t) = Some (seq_tree t)

abbrev pub option_lent : Option (Bor SeqType) → Option SeqTree
option_lent None = None
option_lent (Some t) = Some (lent t)

abbrev pub option_lent_types : Option (Vec (Bor SeqType) Global) → Option (List SeqTree)
option_lent_types None = None
option_lent_types (Some v) = Some (lent_types v.items)
