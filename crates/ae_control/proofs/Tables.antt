-- Lists of choices each of which reads cells that stand before it.
use Rattle.std.proofs.Common.{ℕ, zero, suc, ◌≡◌, ◌+◌, ◌<◌, ◌≤◌, inl, inr, List, [], ◌∷◌, length, Some, slice_get, arith, refl, sym, subst}
use Rattle.ae_netlist.specs.declared.cell.NetId.{NetId}
use Rattle.ae_netlist.specs.declared.cell.SizedCell.{SizedCell}
use Rattle.ae_netlist.specs.Circuit.{IsNet}
use Rattle.ae_control.specs.declared.driver.Places.{Places}
use Rattle.ae_control.specs.declared.driver.Wires.{Wires}
use Rattle.ae_control.specs.Cells.{AreChoices, IsChoice, StandsBefore}
use Rattle.ae_control.specs.Controls.{AreBits, flag_net, gate_rows, row}

-- each is a choice by cells before its own, where the first comes so many behind the cells that are there
pub data Fit (cells : List SizedCell) (width : ℕ) : ℕ → List (List NetId) → Type 0 where
  none : {k : ℕ} → Fit cells width k []
  before : {k : ℕ} {nets : List NetId} {rest : List (List NetId)} → IsChoice cells width k nets → Fit cells width (suc k) rest → Fit cells width k (nets ∷ rest)

fit_at : (cells : List SizedCell) (width k : ℕ) (gates : List (List NetId)) → Fit cells width k gates → (i j : ℕ) → j ≡ k + i → (nets : List NetId)
    → slice_get gates i ≡ Some nets → IsChoice cells width j nets
fit_at cells width k [] none i j e nets found = cc
fit_at cells width k (x ∷ rest) (before first more) zero j e nets found =
    let same : x ≡ nets = cc in
    let at : k ≡ j = omega (arith, e) in
    subst (λ n. IsChoice cells width n nets) at (subst (IsChoice cells width k) same first)
fit_at cells width k (x ∷ rest) (before first more) (suc i) j e nets found = fit_at cells width (suc k) rest more i j (omega (arith, e)) nets found

pub fit : (cells : List SizedCell) (width : ℕ) (gates : List (List NetId)) → Fit cells width 0 gates → AreChoices cells width gates
fit cells width gates h = record { each = λ k nets found. fit_at cells width 0 gates h k k (omega arith) nets found }

pub made : (cells : List SizedCell) (g k j : ℕ) → g ≡ length cells → j < k → StandsBefore cells 1 k (g + j) 1
made cells g k j e l = inr (omega (arith, e), omega (arith, e), refl)

pub first_made : (cells : List SizedCell) (g k : ℕ) → g ≡ length cells → 0 < k → StandsBefore cells 1 k g 1
first_made cells g k e l = inr (omega (arith, e), omega (arith, e), refl)

choose : {cells : List SizedCell} {k c a b : ℕ} → StandsBefore cells 1 k c 1 → StandsBefore cells 1 k a 1 → StandsBefore cells 1 k b 1
    → IsChoice cells 1 k (row c a b)
choose p q r = record { condition = p; left = q; right = r }

-- the gates of the control
module _ (cells : List SizedCell) (w : Wires) (at : Places) (busy : NetId) (here : at.gates ≡ length cells) (bits : AreBits cells w at busy.0) where
  own : (k n i : ℕ) → n ≡ at.base + i → i < at.blocks + 6 → StandsBefore cells 1 k n 1
  own k n i e l = inl (subst (λ m. IsNet cells m 1) (sym e) (bits.own i l))

  gate : (k j : ℕ) → j < k → StandsBefore cells 1 k (at.gates + j) 1
  gate k j l = made cells at.gates k j here l

  newest : (k : ℕ) → 0 < k → (j : ℕ) → j ≤ at.blocks → StandsBefore cells 1 k (flag_net at j) 1
  newest k l zero m = first_made cells at.gates k here l
  newest k l (suc j) m = own k (at.base + 5 + j) (5 + j) (omega arith) (omega arith)

  pub gates_fit : AreChoices cells 1 (gate_rows w at busy)
  gates_fit =
      let low : (k : ℕ) → StandsBefore cells 1 k at.base 1 = λ k. own k at.base 0 (omega arith) (omega arith) in
      let high : (k : ℕ) → StandsBefore cells 1 k (at.base + 1) 1 = λ k. own k (at.base + 1) 1 refl (omega arith) in
      let current : (k : ℕ) → StandsBefore cells 1 k (at.base + 2) 1 = λ k. own k (at.base + 2) 2 refl (omega arith) in
      let one : (k : ℕ) → StandsBefore cells 1 k (at.base + 3) 1 = λ k. own k (at.base + 3) 3 refl (omega arith) in
      let two : (k : ℕ) → StandsBefore cells 1 k (at.base + 4) 1 = λ k. own k (at.base + 4) 4 refl (omega arith) in
      let v = bits.wires in
      fit cells 1 (gate_rows w at busy)
      (before (choose (inl v.first) (inl v.valid) (current 0))
      (before (choose (inl v.first) (high 1) (inl v.wants))
      (before (choose (inl v.valid) (high 2) (inl bits.any))
      (before (choose (current 3) (inl v.valid) (high 3))
      (before (choose (gate 4 1 (omega arith)) (gate 4 3 (omega arith)) (high 4))
      (before (choose (inl v.first) (gate 5 2 (omega arith)) (gate 5 4 (omega arith)))
      (before (choose (two 6) (low 6) (gate 6 5 (omega arith)))
      (before (choose (inl v.reset) (high 7) (gate 7 6 (omega arith)))
      (before (choose (inl v.first) (high 8) (current 8))
      (before (choose (gate 9 1 (omega arith)) (gate 9 8 (omega arith)) (low 9))
      (before (choose (two 10) (low 10) (gate 10 9 (omega arith)))
      (before (choose (inl v.behind) (own 11 (at.base + 5 + at.blocks) (5 + at.blocks) (omega arith) (omega arith))
      (newest 11 (omega arith) at.blocks (omega arith)))
      (before (choose (inl v.late) (gate 12 11 (omega arith)) (low 12))
      (before (choose (gate 13 7 (omega arith)) (gate 13 12 (omega arith)) (low 13))
      (before (choose (one 14) (inl v.ready) (low 14))
      (before (choose (gate 15 14 (omega arith)) (low 15) (one 15))
      (before (choose (gate 16 13 (omega arith)) (high 16) (gate 16 15 (omega arith)))
      (before (choose (one 17) (gate 17 13 (omega arith)) (low 17))
      (before (choose (two 18) (high 18) (gate 18 17 (omega arith)))
      (before (choose (one 19) (gate 19 14 (omega arith)) (high 19))
      (before (choose (gate 20 7 (omega arith)) (inl v.last) (low 20))
      (before (choose (gate 21 7 (omega arith)) (first_made cells at.gates 21 here (omega arith)) (current 21))
      (before (choose (two 22) (high 22) (gate 22 16 (omega arith)))
      (before (choose (inl v.reset) (low 23) (gate 23 22 (omega arith)))
      (before (choose (gate 24 14 (omega arith)) (low 24) (gate 24 18 (omega arith)))
      (before (choose (inl v.reset) (low 25) (gate 25 24 (omega arith))) none))))))))))))))))))))))))))
