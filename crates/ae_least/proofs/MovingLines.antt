-- A movement program is one without a line that does more than move words.
use Rattle.std.proofs.Common.{◌≡◌, ℕ, zero, suc, ◌+◌, ◌<◌, Bool, true, false, List, [], ◌∷◌, length, map, drop, get_or, Option, None, Some, slice_get, refl, sym, ap, ◌∙◌, if◌then◌else◌, arith, add-one}
use Rattle.std.specs.Prelude.{◌&&◌}
use Rattle.std.proofs.lemmas.Option.{none-some}
use Rattle.ae_seq.specs.declared.program.Node.{Node}
use Rattle.ae_seq.specs.ProgramTree.{NodeTree, FuncTree, ProgramTree, node_tree}
use Rattle.ae_rewrite.specs.Interface.{main_of}
use Rattle.ae_trace.specs.Traces.{are_movements, is_movement, is_movement_func, is_movement_op}
use Rattle.ae_least.specs.Others.{first_other, other_in, other_line}

all-move : (ns : List NodeTree) → first_other ns ≡ None → are_movements ns ≡ true
all-move [] h = refl
all-move (n ∷ ns) h = by (is_movement_op n.op) (all-move ns) h
  where
    by : (b : Bool) → (first_other ns ≡ None → are_movements ns ≡ true) → (if b then first_other ns else Some n.line) ≡ None → (b && are_movements ns) ≡ true
    by true more g = more g
    by false more g = absurd (none-some n.line (sym g))

no-other : (ns : List NodeTree) → are_movements ns ≡ true → first_other ns ≡ None
no-other [] h = refl
no-other (n ∷ ns) h = by (is_movement_op n.op) (no-other ns) h
  where
    by : (b : Bool) → (are_movements ns ≡ true → first_other ns ≡ None) → (b && are_movements ns) ≡ true → (if b then first_other ns else Some n.line) ≡ None
    by true more g = more g
    by false more g = absurd (let never : false ≡ true = g in cc)

pub moves-all : (p : ProgramTree) (f : FuncTree) → slice_get p.funcs (main_of p) ≡ Some f → other_line p ≡ None → is_movement p ≡ true
moves-all p f there h = ap is_movement_func there ∙ all-move f.nodes (sym (ap other_in there) ∙ h)

-- a movement program has no such line
pub none-other : (p : ProgramTree) → is_movement p ≡ true → other_line p ≡ None
none-other p h = by (slice_get p.funcs (main_of p)) h
  where
    by : (o : Option FuncTree) → is_movement_func o ≡ true → other_in o ≡ None
    by None g = refl
    by (Some f) g = no-other f.nodes g

-- ---- line by line

-- what is so of the lines from one on, by the first of them
abbrev by-first : (moves : Bool) (n : Node) (behind : List Node) → Option ℕ
by-first moves n behind = if moves then first_other (map node_tree behind) else Some (node_tree n).line

others-from : (ns : List Node) (i : ℕ) (n : Node) → i < length ns → n ≡ get_or ns i n
    → first_other (map node_tree (drop i ns)) ≡ by-first (is_movement_op (node_tree n).op) n (drop (suc i) ns)
others-from [] i n l e = absurd (omega arith)
others-from (m ∷ ns) zero n l e = ap (λ (x : Node). by-first (is_movement_op (node_tree x).op) x ns) (sym e)
others-from (m ∷ ns) (suc i) n l e = others-from ns i n (omega arith) e

pub others-next : (ns : List Node) (i : ℕ) (n : Node) (o : Option ℕ) → i < length ns → n ≡ get_or ns i n → o ≡ first_other (map node_tree (drop i ns))
    → is_movement_op (node_tree n).op ≡ true
    → o ≡ first_other (map node_tree (drop (i + 1) ns))
others-next ns i n o l e was moves = rw add-one (was ∙ others-from ns i n l e ∙ ap (λ b. by-first b n (drop (suc i) ns)) moves)

pub others-here : (ns : List Node) (i : ℕ) (n : Node) (o : Option ℕ) → i < length ns → n ≡ get_or ns i n → o ≡ first_other (map node_tree (drop i ns))
    → is_movement_op (node_tree n).op ≡ false
    → Some (node_tree n).line ≡ o
others-here ns i n o l e was stays = sym (was ∙ others-from ns i n l e ∙ ap (λ b. by-first b n (drop (suc i) ns)) stays)
