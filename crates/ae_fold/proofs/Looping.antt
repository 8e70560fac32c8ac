-- One loop more, and lists of nets as they grow.
use Rattle.std.proofs.Common.{ℕ, ◌≡◌, ◌+◌, ◌*◌, ◌%◌, ◌<◌, ◌≤◌, inl, inr, List, ◌++◌, ◌∷◌, [], length, Some, slice_get, arith, ◌∙◌, subst}
use Rattle.std.proofs.Math.Nat.{add-mul}
use Rattle.std.proofs.lemmas.Nat.{mod_below}
use Rattle.std.proofs.lemmas.Option.{slice_get_within, slice_get-get_or}
use Rattle.ae_netlist.specs.declared.cell.NetId.{NetId}
use Rattle.ae_netlist.specs.declared.cell.SizedCell.{SizedCell}
use Rattle.ae_netlist.specs.Circuit.{Circuit, Extends, IsNet}
use Rattle.ae_netlist.proofs.Gets.{get_push_cases}
use Rattle.ae_netlist.proofs.Growing.{extends_trans, net_later}
use Rattle.ae_gates.specs.Cells.{Adds}
use Rattle.ae_gates.proofs.Adding.{adds_trans}
use Rattle.ae_ops.specs.Folds.{IsFold}
use Rattle.ae_fold.specs.declared.words.WordFold.{WordFold}
use Rattle.ae_fold.specs.declared.feedback.Loop.{Loop}
use Rattle.ae_fold.specs.Folding.{AreFolds, fold_at, product_of, products_in}
use Rattle.ae_fold.specs.Rows.{AreFoldNets, AreLoops, IsLoop, IsOverLanes, AreOverLanes, net_at}
use Rattle.ae_fold.proofs.Feeding.{adds_is}

-- ---- the folds of words

pub fold_there : (folds : List WordFold) (q : ℕ) → 1 ≤ length folds → slice_get folds (q % length folds) ≡ Some (fold_at folds q)
fold_there folds q some = slice_get-get_or folds (q % length folds) _ (mod_below q (length folds) (omega arith))

pub fold_op : (folds : List WordFold) (q : ℕ) → AreFolds folds → IsFold (fold_at folds q).op
fold_op folds q h = h.ops _ _ (fold_there folds q h.some)

pub fold_low : (folds : List WordFold) (q : ℕ) → AreFolds folds → 1 ≤ (fold_at folds q).width
fold_low folds q h = h.low _ _ (fold_there folds q h.some)

pub fold_high : (folds : List WordFold) (q : ℕ) → AreFolds folds → (fold_at folds q).width ≤ 64
fold_high folds q h = h.high _ _ (fold_there folds q h.some)

pub fold_product : (folds : List WordFold) (q : ℕ) → AreFolds folds → product_of (fold_at folds q).op ≡ products_in folds
fold_product folds q h = h.same _ _ (fold_there folds q h.some)

-- ---- as a netlist grows

pub nets_grow : {a b : List SizedCell} {folds : List WordFold} {nets : List NetId} → Extends a b → AreFoldNets a folds nets → AreFoldNets b folds nets
nets_grow g h = record { each = λ q l. net_later g (h.each q l) }

pub loop_grows : {a b : List SizedCell} {rst : ℕ} {fold : WordFold} {x first inner : ℕ} {one : Loop} → Extends a b → IsLoop a rst fold x first inner one
    → IsLoop b rst fold x first inner one
loop_grows g h = record {
  net = net_later g h.net;
  old = net_later g h.old;
  words = λ all e run r. h.words all (extends_trans g e) run r;
  late = λ all e run r. h.late all (extends_trans g e) run r;
}

pub loops_grow : {a b : List SizedCell} {rst : ℕ} {folds : List WordFold} {nets : List NetId} {from first inner : ℕ} {loops : List Loop} → Extends a b
    → AreLoops a rst folds nets from first inner loops → AreLoops b rst folds nets from first inner loops
loops_grow g h = record { each = λ p one f. loop_grows g (h.each p one f) }

pub over_grows : {a b : List SizedCell} {fold : WordFold} {nets : List NetId} {stride place l levels y : ℕ} → Extends a b
    → IsOverLanes a fold nets stride place l levels y → IsOverLanes b fold nets stride place l levels y
over_grows g h = record { net = net_later g h.net; words = λ all e run r. h.words all (extends_trans g e) run r }

pub overs_grow : {a b : List SizedCell} {folds : List WordFold} {nets outs : List NetId} {stride levels from : ℕ} → Extends a b
    → AreOverLanes a folds nets stride levels from outs → AreOverLanes b folds nets stride levels from outs
overs_grow g h = record { each = λ q l. over_grows g (h.each q l) }

-- ---- one loop more

pub loops_none : (cells : List SizedCell) (rst : ℕ) (folds : List WordFold) (nets : List NetId) (from first inner : ℕ)
    → AreLoops cells rst folds nets from first inner []
loops_none cells rst folds nets from first inner = record { each = λ p one h. (let no : p < 0 = slice_get_within [] p one h in absurd (omega arith)) }

pub backs_none : (cells : List SizedCell) (folds : List WordFold) (from p : ℕ) (one : Loop) → slice_get [] p ≡ Some one
    → IsNet cells one.back.0 (fold_at folds (from + p)).width
backs_none cells folds from p one h = (let no : p < 0 = slice_get_within [] p one h in absurd (omega arith))

pub backs_more : (a b : List SizedCell) (folds : List WordFold) (from p : ℕ) (loops : List Loop) (one : Loop) → length loops ≡ p → Extends a b
    → ((q : ℕ) (x : Loop) → slice_get loops q ≡ Some x → IsNet a x.back.0 (fold_at folds (from + q)).width)
    → IsNet b one.back.0 (fold_at folds (from + p)).width → (k : ℕ) (x : Loop) → slice_get (loops ++ one ∷ []) k ≡ Some x
    → IsNet b x.back.0 (fold_at folds (from + k)).width
backs_more a b folds from p loops one long g h new k x found = elim (get_push_cases loops one k x found) [
  | inl v ↦ net_later g (h k x v.0)
  | inr v ↦ (let at : k ≡ p = v.0 ∙ long in rw at (subst (λ (i : Loop). IsNet b i.back.0 (fold_at folds (from + p)).width) v.1 new))
]

pub loops_more : (a b : List SizedCell) (rst : ℕ) (folds : List WordFold) (nets : List NetId) (from first inner p : ℕ) (loops : List Loop) (one : Loop)
    → length loops ≡ p → Extends a b → AreLoops a rst folds nets from first inner loops
    → IsLoop b rst (fold_at folds (from + p)) (net_at nets (from + p)) first inner one → AreLoops b rst folds nets from first inner (loops ++ one ∷ [])
loops_more a b rst folds nets from first inner p loops one long g h new = record {
  each = λ k z found. elim (get_push_cases loops one k z found) [
    | inl v ↦ loop_grows g (h.each k z v.0)
    | inr v ↦ (let at : k ≡ p = v.0 ∙ long in rw at (subst
        (λ (i : Loop). IsLoop b rst (fold_at folds (from + p)) (net_at nets (from + p)) first inner i) v.1 new))
  ];
}

-- the same number of cells and products once more
pub adds_once : {a b c : Circuit} (n most muls own : ℕ) → own ≡ muls → Adds a b (n * most) (n * muls) → Adds b c most own
    → Adds a c ((n + 1) * most) ((n + 1) * muls)
adds_once n most muls own e p q =
    let m : (n + 1) * most ≡ n * most + 1 * most = add-mul n 1 most in
    let k : (n + 1) * muls ≡ n * muls + 1 * muls = add-mul n 1 muls in
    adds_is (omega arith) (omega arith) (adds_trans p q)
