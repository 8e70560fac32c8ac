-- The cells of one queue, as they are added and connected.
use Rattle.std.proofs.Common.{ℕ, ◌≡◌, ◌≢◌, ◌+◌, inl, inr, List, [], ◌∷◌, ◌++◌, length, length-append, length-set, map, set, Some, slice_get, arith, refl, sym, ap, ◌∙◌}
use Rattle.ae_netlist.specs.declared.cell.NetId.{NetId}
use Rattle.ae_netlist.specs.declared.cell.Cell.TheVariants.{Reg}
use Rattle.ae_netlist.specs.declared.cell.SizedCell.{SizedCell}
use Rattle.ae_netlist.specs.Circuit.{Circuit, IsNet, IsRegister, new_register, width_of}
use Rattle.ae_netlist.proofs.Gets.{get_pushed, get_set_other, get_set_same}
use Rattle.ae_netlist.proofs.Growing.{net_later, width_is}
use Rattle.ae_control.specs.declared.driver.Controlled.{Controlled}
use Rattle.ae_control.specs.Cells.{AreChoices, IsLonger, choice, taking}
use Rattle.ae_control.specs.Controls.{net, row}
use Rattle.ae_control.specs.Columns.{HasColumn}
use Rattle.ae_control.proofs.Cells.{get_behind, longer_by, longer_set, longer_trans}
use Rattle.ae_control.proofs.Standing.{choice_net, register_net}
use Rattle.ae_control.proofs.Tables.{fit}
use Rattle.ae_control.proofs.Tables.Fit.{before, none}

-- a register more
pub longer_one : (a b : Circuit) (w : ℕ) → b ≡ record a { cells = a.cells ++ new_register (length a.cells) w ∷ [] } → (length b.cells ≡ length a.cells + 1)
    × (b.limit ≡ a.limit)
longer_one a b w e = (ap (λ (v : Circuit). length v.cells) e ∙ length-append a.cells (new_register (length a.cells) w ∷ []), ap (λ (v : Circuit). v.limit) e)

module _ (s0 s1 s2 : Circuit) (c : Controlled) (made : NetId) (w at : ℕ) (is : at ≡ length s0.cells)
    (e1 : s1 ≡ record s0 { cells = s0.cells ++ new_register (length s0.cells) w ∷ [] })
    (e2 : s2 ≡ record s1 { cells = s1.cells ++ new_register (length s1.cells) w ∷ [] }) where
  l1 : length s1.cells ≡ at + 1
  l1 = rw e1 (omega (arith, length-append s0.cells (new_register (length s0.cells) w ∷ []), is))

  l2 : length s2.cells ≡ at + 2
  l2 = rw e2 (omega (arith, length-append s1.cells (new_register (length s1.cells) w ∷ []), l1))

  longer1 : IsLonger s0 s1
  longer1 = longer_by s0 s1 _ e1 (tt, tt)

  longer2 : IsLonger s1 s2
  longer2 = longer_by s1 s2 _ e2 (tt, tt)

  first1 : slice_get s1.cells at ≡ Some (taking w (net at))
  first1 = rw (e1, is) (get_pushed s0.cells (new_register (length s0.cells) w))

  second2 : slice_get s2.cells (at + 1) ≡ Some (taking w (net (at + 1)))
  second2 = rw e2 (ap (slice_get (s1.cells ++ new_register (length s1.cells) w ∷ [])) (sym l1) ∙
      (get_pushed s1.cells (new_register (length s1.cells) w) ∙ ap (λ n. Some (taking w (net n))) l1))

  first2 : slice_get s2.cells at ≡ Some (taking w (net at))
  first2 = longer2.extends.keeps at _ first1

  later2 : {n v : ℕ} → IsNet s0.cells n v → IsNet s2.cells n v
  later2 h = net_later longer2.extends (net_later longer1.extends h)

  pub column_fits : IsNet s0.cells c.two.0 1 → IsNet s0.cells c.moves.0 1 → IsNet s0.cells made.0 w
      → AreChoices s2.cells w (row c.two.0 (at + 1) made.0 ∷ row c.moves.0 (at + 2) at ∷ [])
  column_fits two moves own = fit s2.cells w (row c.two.0 (at + 1) made.0 ∷ row c.moves.0 (at + 2) at ∷ [])
      (before (record { condition = inl (later2 two); left = inl (register_net second2); right = inl (later2 own) })
      (before (record { condition = inl (later2 moves); left = inr (omega (arith, l2), omega (arith, l2), refl); right = inl (register_net first2) }) none))

  module _ (s3 : Circuit) (e3 : s3 ≡ record s2 { cells = s2.cells ++ map (choice w) (row c.two.0 (at + 1) made.0 ∷ row c.moves.0 (at + 2) at ∷ []) }) where
    longer3 : IsLonger s2 s3
    longer3 = longer_by s2 s3 _ e3 (refl, (refl, tt))

    first3 : slice_get s3.cells at ≡ Some (taking w (net at))
    first3 = longer3.extends.keeps at _ first2

    second3 : slice_get s3.cells (at + 1) ≡ Some (taking w (net (at + 1)))
    second3 = longer3.extends.keeps (at + 1) _ second2

    next3 : slice_get s3.cells (at + 2) ≡ Some (choice w (row c.two.0 (at + 1) made.0))
    next3 = rw e3 (get_behind s2.cells (map (choice w) (row c.two.0 (at + 1) made.0 ∷ row c.moves.0 (at + 2) at ∷ [])) (at + 2) 0 _ (omega (arith, l2)) refl)

    moved3 : slice_get s3.cells (at + 3) ≡ Some (choice w (row c.moves.0 (at + 2) at))
    moved3 = rw e3 (get_behind s2.cells (map (choice w) (row c.two.0 (at + 1) made.0 ∷ row c.moves.0 (at + 2) at ∷ [])) (at + 3) 1 _ (omega (arith, l2)) refl)

    width3 : width_of s3.cells at ≡ w
    width3 = width_is s3.cells at _ first3

    pub register3 : IsRegister s3.cells at (width_of s3.cells at)
    register3 = rw width3 (record { next = net at; found = first3 })

    pub next_net3 : IsNet s3.cells (at + 3) (width_of s3.cells at)
    next_net3 = rw width3 (choice_net moved3)

    module _ (s4 : Circuit) (e4 : s4 ≡ record s3 { cells = set s3.cells at (record { width = width_of s3.cells at; cell = Reg (net (at + 3)) }) }) where
      cells4 : s4.cells ≡ set s3.cells at (taking w (net (at + 3)))
      cells4 = ap (λ (v : Circuit). v.cells) e4 ∙ ap (λ n. set s3.cells at (record { width = n; cell = Reg (net (at + 3)) })) width3

      first4 : slice_get s4.cells at ≡ Some (taking w (net (at + 3)))
      first4 = rw cells4 (get_set_same s3.cells at (taking w (net (at + 3))) _ first3)

      other4 : (n : ℕ) (sized : SizedCell) → n ≢ at → slice_get s3.cells n ≡ Some sized → slice_get s4.cells n ≡ Some sized
      other4 n sized ne found = rw cells4 (get_set_other s3.cells at n (taking w (net (at + 3))) ne ∙ found)

      second4 : slice_get s4.cells (at + 1) ≡ Some (taking w (net (at + 1)))
      second4 = other4 (at + 1) _ (λ z. omega arith) second3

      width4 : width_of s4.cells (at + 1) ≡ w
      width4 = width_is s4.cells (at + 1) _ second4

      pub register4 : IsRegister s4.cells (at + 1) (width_of s4.cells (at + 1))
      register4 = rw width4 (record { next = net (at + 1); found = second4 })

      next4 : slice_get s4.cells (at + 2) ≡ Some (choice w (row c.two.0 (at + 1) made.0))
      next4 = other4 (at + 2) _ (λ z. omega arith) next3

      pub next_net4 : IsNet s4.cells (at + 2) (width_of s4.cells (at + 1))
      next_net4 = rw width4 (choice_net next4)

      module _ (s5 : Circuit) (e5 : s5 ≡ record s4 {
        cells = set s4.cells (at + 1)
            (record { width = width_of s4.cells (at + 1); cell = Reg (net (at + 2)) });
      }) where
        cells5 : s5.cells ≡ set s4.cells (at + 1) (taking w (net (at + 2)))
        cells5 = ap (λ (v : Circuit). v.cells) e5 ∙ ap (λ n. set s4.cells (at + 1) (record { width = n; cell = Reg (net (at + 2)) })) width4

        other5 : (n : ℕ) (sized : SizedCell) → n ≢ at + 1 → slice_get s4.cells n ≡ Some sized → slice_get s5.cells n ≡ Some sized
        other5 n sized ne found = rw cells5 (get_set_other s4.cells (at + 1) n (taking w (net (at + 2))) ne ∙ found)

        pub column_is : HasColumn s5.cells c made at
        column_is = record {
          width = w;
          shown = other5 at _ (λ z. omega arith) first4;
          second = rw cells5 (get_set_same s4.cells (at + 1) (taking w (net (at + 2))) _ second4);
          next = other5 (at + 2) _ (λ z. omega arith) next4;
          moved = other5 (at + 3) _ (λ z. omega arith) (other4 (at + 3) _ (λ z. omega arith) moved3);
        }

        pub column_long : length s5.cells ≡ at + 4
        column_long =
            ap (λ (v : List SizedCell). length v) cells5 ∙ (length-set s4.cells (at + 1) (taking w (net (at + 2)))
            ∙ (ap (λ (v : List SizedCell). length v) cells4 ∙ (length-set s3.cells at (taking w (net (at + 3)))
            ∙ rw e3 (omega (arith, l2, length-append s2.cells (map (choice w) (row c.two.0 (at + 1) made.0 ∷ row c.moves.0 (at + 2) at ∷ [])))))))

        pub column_longer : IsLonger s0 s5
        column_longer =
            longer_set s0 s4 s5 (at + 1) (width_of s4.cells (at + 1)) (net (at + 2))
            (longer_set s0 s3 s4 at (width_of s3.cells at) (net (at + 3)) (longer_trans longer1 (longer_trans longer2 longer3)) register3
            (omega (arith, is)) e4)
            register4 (omega (arith, is)) e5
