-- The labels of all items, node by node.
use Rattle.std.proofs.Common.{◌≡◌, ℕ, zero, suc, ◌+◌, ◌<◌, true, List, [], ◌∷◌, length, Some, slice_get, refl, arith, sym, ap, ◌∙◌, subst, length-append}
use Rattle.std.proofs.lemmas.Bool.{and_parts}
use Rattle.std.proofs.lemmas.List.{get_or_append_left}
use Rattle.std.proofs.lemmas.Option.{get_or_from_slice_get, none-some, same_Some, slice_get_within, unwrap_or-slice_get}
use Rattle.ae_word.specs.AtomTree.{unsigned_word}
use Rattle.ae_sttype.specs.declared.st_type.StType.{StType}
use Rattle.ae_sttype.specs.StTree.{StTree, atom, sseq, st_tree}
use Rattle.ae_sttype.specs.Size.{IsInSize}
use Rattle.ae_moves.proofs.Lists.{get_mapped}
use Rattle.ae_rewrite.specs.declared.st_program.StFunc.{StFunc}
use Rattle.ae_rewrite.specs.StProgramTree.{StNodeTree, st_func_tree, st_trees}
use Rattle.ae_rewrite.specs.Scheduled.{node_layouts}
use Rattle.ae_rewrite.specs.Sound.{item_layout, item_layouts}
use Rattle.ae_flow.specs.Flow.{layout_words}
use Rattle.ae_fuse.specs.Labels.{MovesWords, are_moving, is_moving, layout_numbers}

abbrev none : StTree
none = sseq 0 (atom (unsigned_word 1))

-- ---- the parameters

pub numbers-many : (k : ℕ) (ss : List StTree) → length (layout_numbers k ss) ≡ length ss
numbers-many k [] = refl
numbers-many k (s ∷ ss) = ap suc (numbers-many (k + layout_words s) ss)

pub input-sized : (f : StFunc) (k : ℕ) (t : StType) → MovesWords (st_func_tree f) → slice_get f.ins.items k ≡ Some t → IsInSize (st_tree t)
input-sized f k t h found =
    let here : slice_get (st_trees f.ins.items) k ≡ Some (st_tree t) = get_mapped st_tree f.ins.items k t found in
    let low : k < length (st_trees f.ins.items) = slice_get_within (st_trees f.ins.items) k (st_tree t) here in
    let rest : List StTree = node_layouts (st_func_tree f).nodes in
    let is : item_layout (item_layouts (st_func_tree f)) k ≡ st_tree t = unwrap_or-slice_get (item_layouts (st_func_tree f)) k none ∙
    (get_or_append_left (st_trees f.ins.items) rest none k low ∙ get_or_from_slice_get (st_trees f.ins.items) k (st_tree t) none here) in
    subst IsInSize is (h.sizes k (omega (arith, low, length-append (st_trees f.ins.items) rest)))

-- ---- nodes

pub node-moving : (ns : List StNodeTree) (j : ℕ) (n : StNodeTree) → are_moving ns ≡ true → slice_get ns j ≡ Some n → is_moving n.op ≡ true
node-moving [] j n h f = absurd (none-some n f)
node-moving (x ∷ ns) zero n h f = (let p = and_parts _ _ h in let e : x ≡ n = same_Some x n f in ap (λ (y : StNodeTree). is_moving y.op) (sym e) ∙ p.0)
node-moving (x ∷ ns) (suc j) n h f = node-moving ns j n (and_parts _ _ h).1 f
