-- The operands of an operator that folds.
use Rattle.std.proofs.Common.{ℕ, ◌≡◌, ◌∷◌, [], refl}
use Rattle.ae_word.specs.declared.op.WordOp.{WordOp}
use Rattle.ae_word.specs.declared.op.WordOp.TheVariants.{Add, Mul, And, Or, Xor, Min, Max, SMin, SMax}
use Rattle.ae_word.specs.WordTable.{HasRange, result_width_of}
use Rattle.ae_netlist.specs.declared.cell.NetId.{NetId}
use Rattle.ae_netlist.specs.Circuit.{OperandsAre}
use Rattle.ae_ops.specs.Folds.{IsFold}

pub fold_range : (op : WordOp) → IsFold op → HasRange op
fold_range Add f = tt
fold_range Mul f = tt
fold_range And f = tt
fold_range Or f = tt
fold_range Xor f = tt
fold_range Min f = tt
fold_range Max f = tt
fold_range SMin f = tt
fold_range SMax f = tt
fold_range _ f = absurd f

pub fold_width : (op : WordOp) (w : ℕ) → IsFold op → result_width_of op w ≡ w
fold_width Add w f = refl
fold_width Mul w f = refl
fold_width And w f = refl
fold_width Or w f = refl
fold_width Xor w f = refl
fold_width Min w f = refl
fold_width Max w f = refl
fold_width SMin w f = refl
fold_width SMax w f = refl
fold_width _ w f = absurd f

pub fold_operands : (op : WordOp) (Net : ℕ → ℕ → Type 0) (a b : NetId) (w : ℕ) → IsFold op → Net a.0 w → Net b.0 w → OperandsAre op Net (a ∷ b ∷ a ∷ []) w
fold_operands Add Net a b w f p q = (p, q, p)
fold_operands Mul Net a b w f p q = (p, q, p)
fold_operands And Net a b w f p q = (p, q, p)
fold_operands Or Net a b w f p q = (p, q, p)
fold_operands Xor Net a b w f p q = (p, q, p)
fold_operands Min Net a b w f p q = (p, q, p)
fold_operands Max Net a b w f p q = (p, q, p)
fold_operands SMin Net a b w f p q = (p, q, p)
fold_operands SMax Net a b w f p q = (p, q, p)
fold_operands _ Net a b w f p q = absurd f
