-- Folds and scans of words on lanes.
use Rattle.std.proofs.Common.{ℕ, ◌≡◌, ◌*◌, ◌∷◌, [], arith, refl, subst}
use Rattle.ae_word.specs.AtomTree.{WordKind, word}
use Rattle.ae_sttype.specs.StTree.{StTree, atom, sseq, st_tree, tseq}
use Rattle.ae_ops.specs.Blocks.{Part, stream_of}
use Rattle.ae_fold.specs.Shapes.{FoldShape}
use Rattle.ae_reduce.specs.Reduces.{reduce_part}
use Rattle.ae_scan.specs.Scans.{scan_part}
use Rattle.table_stages.specs.Even.{TakesLanes}

rows_taken : (part : Part) (n m inner : ℕ) (k : WordKind) (t : StTree) → t ≡ tseq inner 0 (atom (word k)) → part.ins ≡ stream_of (tseq n 0 (sseq m t)) ∷ []
    → TakesLanes part m k.width
rows_taken part n m inner k t e is = record {
  stream = stream_of (tseq n 0 (sseq m (tseq inner 0 (atom (word k)))));
  one = subst (λ (x : StTree). part.ins ≡ stream_of (tseq n 0 (sseq m x)) ∷ []) e is;
  lanes_are = (let one : m * 1 ≡ m = omega arith in one);
  widths_are = refl;
}

pub reduce_takes : (f : FoldShape) (k : WordKind) (inner : ℕ) → st_tree f.element ≡ tseq inner 0 (atom (word k)) → TakesLanes (reduce_part f) f.lanes k.width
reduce_takes f k inner e = rows_taken (reduce_part f) f.slots f.lanes inner k (st_tree f.element) e refl

pub scan_takes : (f : FoldShape) (k : WordKind) (inner : ℕ) → st_tree f.element ≡ tseq inner 0 (atom (word k)) → TakesLanes (scan_part f) f.lanes k.width
scan_takes f k inner e = rows_taken (scan_part f) f.slots f.lanes inner k (st_tree f.element) e refl
