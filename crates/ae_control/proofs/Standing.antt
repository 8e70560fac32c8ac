-- Where the cells of a control stand once all are there.
use Rattle.std.proofs.Common.{ℕ, zero, suc, ◌≡◌, ◌+◌, ◌-◌, ◌*◌, ◌<◌, ◌≤◌, inl, inr, List, [], ◌∷◌, ◌++◌, length, length-append, map, Some, slice_get, arith, refl, sym, ap, ◌∙◌, subst}
use Rattle.std.proofs.lemmas.Bool.{cases_eq, cases_lt}
use Rattle.ae_netlist.specs.declared.cell.NetId.{NetId}
use Rattle.ae_netlist.specs.declared.cell.Cell.TheVariants.{Const}
use Rattle.ae_netlist.specs.declared.cell.SizedCell.{SizedCell}
use Rattle.ae_netlist.specs.Circuit.{Circuit, Extends, IsNet}
use Rattle.ae_netlist.proofs.Gets.{get_pushed}
use Rattle.ae_netlist.proofs.Growing.{net_later}
use Rattle.ae_control.specs.declared.driver.Places.{Places}
use Rattle.ae_control.specs.declared.driver.Wires.{Wires}
use Rattle.ae_control.specs.Cells.{AreChoices, AreConnected, CanConnect, HasRegisters, IsLonger, choice, taking}
use Rattle.ae_control.specs.Controls.{AreWires, HasAny, HasBegun, HasCells, HasControlNets, HasFlagGates, IsControl, IsFlagGate, any_net, flag_net, gate_rows, net, row}
use Rattle.ae_control.proofs.Cells.{choices_plain, get_behind, get_mapped, longer_by, longer_connected, longer_refl, longer_trans, there}
use Rattle.ae_control.proofs.Tables.{fit}
use Rattle.ae_control.proofs.Tables.Fit.{before, none}
use Rattle.ae_control.proofs.Wiring.{is_control}

-- a cell with this word is a net of its width
pub choice_net : {cells : List SizedCell} {n width : ℕ} {nets : List NetId} → slice_get cells n ≡ Some (choice width nets) → IsNet cells n width
choice_net {width = width} {nets = nets} found = record { sized = choice width nets; found = found; plain = tt; wide = refl }

pub register_net : {cells : List SizedCell} {n width : ℕ} {next : NetId} → slice_get cells n ≡ Some (taking width next) → IsNet cells n width
register_net {width = width} {next = next} found = record { sized = taking width next; found = found; plain = tt; wide = refl }

constant_net : {cells : List SizedCell} {n k : ℕ} → slice_get cells n ≡ Some (record { width = 1; cell = Const k }) → IsNet cells n 1
constant_net {k = k} found = record { sized = record { width = 1; cell = Const k }; found = found; plain = tt; wide = refl }

-- ---- constants and registers

pub begun : (old one two new : Circuit) (blocks : ℕ) → one ≡ record old { cells = old.cells ++ (record { width = 1; cell = Const 0 }) ∷ [] }
    → two ≡ record one { cells = one.cells ++ (record { width = 1; cell = Const 1 }) ∷ [] }
    → HasRegisters two new (blocks + 4) → HasBegun old new blocks
begun old one two new blocks e f h =
    let zero_cell : SizedCell = record { width = 1; cell = Const 0 } in
    let one_cell : SizedCell = record { width = 1; cell = Const 1 } in
    let l1 : length one.cells ≡ length old.cells + 1 = rw e (omega (arith, length-append old.cells (zero_cell ∷ []))) in
    let l2 : length two.cells ≡ length old.cells + 2 = rw f (omega (arith, length-append one.cells (one_cell ∷ []), l1)) in
    let at0 : slice_get one.cells (length old.cells) ≡ Some zero_cell = rw e (get_pushed old.cells zero_cell) in
    let at1 : slice_get two.cells (length old.cells + 1) ≡ Some one_cell = rw f
    (ap (slice_get (one.cells ++ one_cell ∷ [])) (sym l1) ∙ get_pushed one.cells one_cell) in
    let longer : IsLonger one two = longer_by one two (one_cell ∷ []) f (tt, tt) in
    record {
      longer = longer_trans (longer_by old one (zero_cell ∷ []) e (tt, tt)) (longer_trans longer h.longer);
      long = omega (arith, h.long, l2);
      low = h.longer.extends.keeps _ zero_cell (longer.extends.keeps _ zero_cell at0);
      high = h.longer.extends.keeps _ one_cell at1;
      registers = λ k l. (let p : length two.cells + k ≡ length old.cells + 2 + k = omega (arith, l2) in rw p at (h.each k l));
    }

pub own_bits : (old new : Circuit) (blocks : ℕ) → HasBegun old new blocks → (k : ℕ) → k < blocks + 6 → IsNet new.cells (length old.cells + k) 1
own_bits old new blocks h zero l = (let e : length old.cells ≡ length old.cells + 0 = omega arith in subst (λ n. IsNet new.cells n 1) e (constant_net h.low))
own_bits old new blocks h (suc zero) l = constant_net h.high
own_bits old new blocks h (suc (suc k)) l =
    let e : length old.cells + 2 + k ≡ length old.cells + suc (suc k) = omega arith in
    subst (λ n. IsNet new.cells n 1) e (register_net (h.registers k (omega arith)))

pub own_at : (old new : Circuit) (blocks : ℕ) → HasBegun old new blocks → (n k : ℕ) → n ≡ length old.cells + k → k < blocks + 6 → IsNet new.cells n 1
own_at old new blocks h n k e l = subst (λ m. IsNet new.cells m 1) (sym e) (own_bits old new blocks h k l)

pub wires_later : (a b : List SizedCell) (w : Wires) → Extends a b → AreWires a w → AreWires b w
wires_later a b w e h = record {
  reset = net_later e h.reset;
  valid = net_later e h.valid;
  ready = net_later e h.ready;
  first = net_later e h.first;
  last = net_later e h.last;
  wants = net_later e h.wants;
  late = net_later e h.late;
  behind = net_later e h.behind;
}

-- ---- one of several bits

pub any_none : (cells : List SizedCell) (first low high at : ℕ) → HasAny cells first 0 low high at low
any_none cells first low high at = record { last = refl; each = λ k l. absurd (omega arith) }

pub any_more : (a b : Circuit) (first k low high at y : ℕ) → HasAny a.cells first k low high at y → length a.cells ≡ at + k
    → b ≡ record a { cells = a.cells ++ choice 1 (row (first + k) high y) ∷ [] } → HasAny b.cells first (k + 1) low high at (at + k)
any_more a b first k low high at y h long e =
    let x : SizedCell = choice 1 (row (first + k) high y) in
    let one : k + 1 ≡ suc k = omega arith in
    let longer : IsLonger a b = longer_by a b (x ∷ []) e (refl, tt) in
    let there : slice_get b.cells (at + k) ≡ Some x = rw e (get_behind a.cells (x ∷ []) (at + k) 0 x (omega (arith, long)) refl) in
    record {
      last = sym (ap (any_net low at) one);
      each = λ i l. elim (cases_eq i k) [
        | inl same ↦ rw same (there ∙ ap (λ n. Some (choice 1 (row (first + k) high n))) h.last)
        | inr apart ↦ longer.extends.keeps _ _ (h.each i (omega (arith, l, apart)))
      ];
    }

-- ---- the gates of flags

flag_bit : (cells : List SizedCell) (at : Places) → ((k : ℕ) → k < at.blocks + 6 → IsNet cells (at.base + k) 1)
    → ((k : ℕ) → k < 26 → IsNet cells (at.gates + k) 1)
    → (j : ℕ) → j ≤ at.blocks → IsNet cells (flag_net at j) 1
flag_bit cells at own gates zero l = (let e : at.gates + 0 ≡ at.gates = omega arith in subst (λ n. IsNet cells n 1) e (gates 0 (omega arith)))
flag_bit cells at own gates (suc j) l =
    (let e : at.base + (5 + j) ≡ at.base + 5 + j = omega arith in subst (λ n. IsNet cells n 1) e (own (5 + j) (omega arith)))

pub flag_fits : (a b : Circuit) (reset : NetId) (at : Places) (j : ℕ) → HasFlagGates a b reset at j → at.gates + 26 ≡ length a.cells → j ≤ at.blocks
    → IsNet a.cells reset.0 1
    → ((k : ℕ) → k < at.blocks + 6 → IsNet a.cells (at.base + k) 1) → ((k : ℕ) → k < 26 → IsNet a.cells (at.gates + k) 1)
    → AreChoices b.cells 1 (row (at.gates + 20) (flag_net at j) (at.base + 5 + j) ∷ row reset.0 at.base (at.gates + 26 + 2 * j) ∷ [])
flag_fits a b reset at j h is few low own gates =
    let later = h.longer.extends in
    let five : at.base + (5 + j) ≡ at.base + 5 + j = omega arith in
    let none_more : at.base + 0 ≡ at.base = omega arith in
    fit b.cells 1 (row (at.gates + 20) (flag_net at j) (at.base + 5 + j) ∷ row reset.0 at.base (at.gates + 26 + 2 * j) ∷ [])
    (before (record {
      condition = inl (net_later later (gates 20 (omega arith)));
      left = inl (net_later later (flag_bit a.cells at own gates j few));
      right = inl (net_later later (subst (λ n. IsNet a.cells n 1) five (own (5 + j) (omega arith))));
    })
    (before (record {
      condition = inl (net_later later low);
      left = inl (net_later later (subst (λ n. IsNet a.cells n 1) none_more (own 0 (omega arith))));
      right = inr (omega (arith, h.long, is), omega (arith, h.long, is), refl);
    }) none))

pub flags_none : (a : Circuit) (reset : NetId) (at : Places) → HasFlagGates a a reset at 0
flags_none a reset at = record { longer = longer_refl a; long = omega arith; each = λ j l. absurd (omega arith) }

pub flags_more : (a b new : Circuit) (reset : NetId) (at : Places) (j : ℕ) → HasFlagGates a b reset at j → at.gates + 26 ≡ length a.cells
    → new ≡ record b {
      cells = b.cells ++ choice 1 (row (at.gates + 20) (flag_net at j) (at.base + 5 + j))
          ∷ choice 1 (row reset.0 at.base (at.gates + 26 + 2 * j)) ∷ [];
    }
    → HasFlagGates a new reset at (j + 1)
flags_more a b new reset at j h is e =
    let first : SizedCell = choice 1 (row (at.gates + 20) (flag_net at j) (at.base + 5 + j)) in
    let second : SizedCell = choice 1 (row reset.0 at.base (at.gates + 26 + 2 * j)) in
    let longer : IsLonger b new = longer_by b new (first ∷ second ∷ []) e (refl, (refl, tt)) in
    let turns : slice_get new.cells (at.gates + 26 + 2 * j) ≡ Some first = rw e
    (get_behind b.cells (first ∷ second ∷ []) (at.gates + 26 + 2 * j) 0 first (omega (arith, h.long, is)) refl) in
    let clears : slice_get new.cells (at.gates + 27 + 2 * j) ≡ Some second = rw e
    (get_behind b.cells (first ∷ second ∷ []) (at.gates + 27 + 2 * j) 1 second (omega (arith, h.long, is)) refl) in
    record {
      longer = longer_trans h.longer longer;
      long = (let size : length new.cells ≡ length b.cells + 2 = rw e (omega (arith, length-append b.cells (first ∷ second ∷ []))) in
          omega (arith, size, h.long));
      each = λ i l. elim (cases_eq i j) [
        | inl same ↦ rw same (record { turns = turns; clears = clears })
        | inr apart ↦
            let was : IsFlagGate b.cells reset at i = h.each i (omega (arith, apart)) in
            record { turns = longer.extends.keeps _ _ was.turns; clears = longer.extends.keeps _ _ was.clears }
      ];
    }

-- ---- all of it

module _ (s0 s1 s2 s3 s4 : Circuit) (w : Wires) (at : Places) (busy : NetId) (begin : HasBegun s0 s1 at.blocks) (more : IsLonger s1 s2)
    (base : at.base ≡ length s0.cells) (here : at.gates ≡ length s2.cells)
    (behind : at.base + at.blocks + 6 ≤ at.gates) (gates : s3 ≡ record s2 { cells = s2.cells ++ map (choice 1) (gate_rows w at busy) }) where
  pub longer3 : IsLonger s2 s3
  longer3 = longer_by s2 s3 (map (choice 1) (gate_rows w at busy)) gates (choices_plain 1 (gate_rows w at busy))

  pub gate_cell : (k : ℕ) (nets : List NetId) → slice_get (gate_rows w at busy) k ≡ Some nets → slice_get s3.cells (at.gates + k) ≡ Some (choice 1 nets)
  gate_cell k nets found = rw gates (get_behind s2.cells (map (choice 1) (gate_rows w at busy)) (at.gates + k) k (choice 1 nets) (omega (arith, here))
      (get_mapped (choice 1) (gate_rows w at busy) k nets found))

  pub gate_net : (k : ℕ) → k < 26 → IsNet s3.cells (at.gates + k) 1
  gate_net k l = (let t = there (gate_rows w at busy) k l in choice_net (gate_cell k t.0 t.1))

  pub gates_long : length s3.cells ≡ at.gates + 26
  gates_long = rw gates (omega (arith, length-append s2.cells (map (choice 1) (gate_rows w at busy)), here))

  module _ (flags : HasFlagGates s3 s4 w.reset at (at.blocks + 1)) where
    kept : (n : ℕ) (sized : SizedCell) → slice_get s1.cells n ≡ Some sized → slice_get s4.cells n ≡ Some sized
    kept n sized found = flags.longer.extends.keeps n sized (longer3.extends.keeps n sized (more.extends.keeps n sized found))

    register_cell : (k : ℕ) → k < at.blocks + 4 → slice_get s4.cells (at.base + 2 + k) ≡ Some (taking 1 (net (at.base + 2 + k)))
    register_cell k l = rw base (kept _ _ (begin.registers k l))

    next_net : (k : ℕ) → k < at.blocks + 4 → IsNet s4.cells (at.gates + 21 + 2 * k) 1
    next_net k l = elim (cases_lt k 3) [
      | inl low ↦
          let e : at.gates + (21 + 2 * k) ≡ at.gates + 21 + 2 * k = omega arith in
          subst (λ n. IsNet s4.cells n 1) e (net_later flags.longer.extends (gate_net (21 + 2 * k) (omega arith)))
      | inr high ↦
          let e : at.gates + 27 + 2 * (k - 3) ≡ at.gates + 21 + 2 * k = omega (arith, high) in
          subst (λ n. IsNet s4.cells n 1) e (choice_net (flags.each (k - 3) (omega (arith, high))).clears)
    ]

    pub can_connect : CanConnect s4.cells (at.base + 2) (at.blocks + 4) (at.gates + 21)
    can_connect = record { registers = λ k l. (net (at.base + 2 + k), register_cell k l); nets = next_net }

    module _ (s5 : Circuit) (connected : AreConnected s4 s5 (at.base + 2) (at.gates + 21) (at.blocks + 4)) where
      pub has_cells : (wait : ℕ) → HasAny s2.cells (at.base + 5) wait at.base (at.base + 1) (at.base + at.blocks + 6) busy.0 → HasCells s5.cells w at wait busy
      has_cells wait any = record {
        low = connected.others at.base _ (inl (omega arith)) (rw base (kept _ _ begin.low));
        high = connected.others (at.base + 1) _ (inl (omega arith)) (rw base (kept _ _ begin.high));
        gates = λ k nets found. connected.others (at.gates + k) _ (inr (omega (arith, behind))) (flags.longer.extends.keeps _ _ (gate_cell k nets found));
        flags = λ j l. record {
          turns = connected.others (at.gates + 26 + 2 * j) _ (inr (omega (arith, behind))) (flags.each j l).turns;
          clears = connected.others (at.gates + 27 + 2 * j) _ (inr (omega (arith, behind))) (flags.each j l).clears;
        };
        registers = λ k l. connected.each k l;
        any = record {
          last = any.last;
          each = λ k l. connected.others (at.base + at.blocks + 6 + k) _ (inr (omega arith))
              (flags.longer.extends.keeps _ _ (longer3.extends.keeps _ _ (any.each k l)));
        };
      }

      pub all_longer : IsLonger s0 s5
      all_longer = longer_connected s0 s4 s5 (at.base + 2) (at.gates + 21) (at.blocks + 4)
          (longer_trans begin.longer (longer_trans more (longer_trans longer3 flags.longer))) connected (omega (arith, base))

      pub controls : (wait : ℕ) → HasAny s2.cells (at.base + 5) wait at.base (at.base + 1) (at.base + at.blocks + 6) busy.0
          → IsControl (length s0.cells) s5.cells w at.blocks wait
          (record { enable = net (at.gates + 7); asks = net (at.gates + 10); one = net (at.base + 3); two = net (at.base + 4); moves = net (at.gates + 19) })
      controls wait any = is_control s5.cells (length s0.cells) w at wait busy (omega (arith, base)) (omega (arith, base, behind)) (has_cells wait any)

      gate_bit : (k : ℕ) → k < 26 → IsNet s5.cells (at.gates + k) 1
      gate_bit k l = connected.nets _ _ (net_later flags.longer.extends (gate_net k l))

      register_bit : (k n : ℕ) → k < at.blocks + 4 → at.base + 2 + k ≡ n → IsNet s5.cells n 1
      register_bit k n l e = subst (λ m. IsNet s5.cells m 1) e (connected.nets _ _ (register_net (register_cell k l)))

      pub control_nets : HasControlNets (length s0.cells) s5.cells
          (record { enable = net (at.gates + 7); asks = net (at.gates + 10); one = net (at.base + 3); two = net (at.base + 4); moves = net (at.gates + 19) })
      control_nets = record {
        behind = omega (arith, base, behind);
        asks_behind = omega (arith, base, behind);
        one_behind = omega (arith, base, behind);
        enable = gate_bit 7 (omega arith);
        asks = gate_bit 10 (omega arith);
        one = register_bit 1 (at.base + 3) (omega arith) (omega arith);
        two = register_bit 2 (at.base + 4) (omega arith) (omega arith);
        moves = gate_bit 19 (omega arith);
      }
