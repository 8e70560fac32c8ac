-- Netlists without inputs, and the widths of their nets.
use Rattle.std.proofs.Common.{ℕ, ◌≡◌, List, [], Some, None, ap, sym, ◌∙◌, subst}
use Rattle.std.proofs.lemmas.Nat.{pow_pos}
use Rattle.ae_netlist.specs.declared.cell.SizedCell.{SizedCell}
use Rattle.ae_netlist.specs.Circuit.{IsNet, width_of}
use Rattle.ae_netlist.specs.Counts.{is_input, count_of}
use Rattle.ae_netlist.specs.Rows.{AreInputs}

pub no_inputs : (cells : List SizedCell) → count_of is_input cells ≡ 0 → AreInputs cells []
no_inputs cells none = record { long = sym none; fit = λ k sized found. pow_pos sized.width }

pub net-width : (cells : List SizedCell) (n w : ℕ) → IsNet cells n w → width_of cells n ≡ w
unfolding width_of
net-width cells n w h = ap (λ o. elim o [ None ↦ 0 | Some s ↦ s.width ]) h.found ∙ h.wide

pub own_width : (cells : List SizedCell) (n w : ℕ) → IsNet cells n w → IsNet cells n (width_of cells n)
own_width cells n w h = subst (IsNet cells n) (sym (net-width cells n w h)) h
