-- Node after node, each with its own cells.
use Rattle.std.proofs.Common.{ℕ, ◌≡◌, ◌+◌, ◌<◌, ◌≤◌, inl, inr, List, [], ◌∷◌, ◌++◌, length, length-take, map, take, take-take, get_or, Some, slice_get, arith, refl, ap, sym, ◌∙◌, subst}
use Rattle.std.proofs.lemmas.List.{length-map, length_push}
use Rattle.std.proofs.lemmas.List.Sums.{count_by-le-length, length-filter}
use Rattle.std.proofs.lemmas.Option.{none-some, same_Some, slice_get-get_or, slice_get_within}
use Rattle.std.proofs.Math.Seq.{take-length}
use Rattle.ae_netlist.specs.declared.cell.NetId.{NetId}
use Rattle.ae_netlist.specs.declared.cell.SizedCell.{SizedCell}
use Rattle.ae_netlist.specs.Circuit.{Circuit, Extends}
use Rattle.ae_netlist.specs.Counts.{count_of, number_of, is_input, is_mul}
use Rattle.ae_netlist.proofs.Gets.{get_push_cases}
use Rattle.ae_sttype.specs.StTree.{StTree}
use Rattle.ae_rewrite.specs.StProgramTree.{StFuncTree}
use Rattle.ae_rewrite.specs.Sound.{IsSound}
use Rattle.ae_delay.specs.Costs.{NodeTiming}
use Rattle.ae_retime.specs.Slacks.{joint_slacks}
use Rattle.ae_flow.specs.Flow.{callees}
use Rattle.ae_ports.specs.Ports.{SizedPort, input_cell, input_ports, reset_port, streams_of}
use Rattle.ae_tidy.specs.Places.{AreMarks, AreMoved, IsMoved}
use Rattle.ae_tidy.specs.Tidied.{IsTidied}
use Rattle.ae_tidy.proofs.Counted.{like_input, like_mul, moved_apart, moved_end, moved_number}
use Rattle.ae_lower.specs.Growth.{GrowsBy}
use Rattle.ae_lower.specs.Delaying.{delay_load}
use Rattle.ae_lower.specs.Lowering.{arrivals_in}
use Rattle.ae_lower.specs.Stretches.{AreStretches, IsStretch, results_load}
use Rattle.ae_lower.proofs.Ending.{result_below}
use Rattle.ae_lower.proofs.Instances.{AreLowered, standing}
use Rattle.ae_lower.proofs.Placed.{standing_delays}
use Rattle.ae_lower.proofs.Tidied.{all_inputs}
use Rattle.ae_lower.specs.Ported.{HasBegun}
use Rattle.ae_lower.proofs.Whole.{first_cells}

-- ---- cells that stay as others are added

number_kept : (mid new : List SizedCell) (n : ℕ) → Extends mid new → n ≤ length mid → number_of is_mul new n ≡ number_of is_mul mid n
number_kept mid new n e l =
    ap (count_of is_mul) (sym (take-take n (length mid) new l) ∙ ap (take n) (first_cells mid new e))

number_all : (cells : List SizedCell) → number_of is_mul cells (length cells) ≡ count_of is_mul cells
number_all cells = ap (count_of is_mul) (take-length cells)

stretch_kept : (mid new : List SizedCell) (from to load products : ℕ) → Extends mid new → to ≤ length mid → IsStretch mid from to load products
    → IsStretch new from to load products
stretch_kept mid new from to load products e l s = record {
  rising = s.rising;
  few = s.few;
  muls =
      let a : number_of is_mul new to ≡ number_of is_mul mid to = number_kept mid new to e l in
      let b : number_of is_mul new from ≡ number_of is_mul mid from = number_kept mid new from e (omega (arith, l, s.rising)) in
      omega (arith, a, b, s.muls);
}

pub extends_long : (mid new : List SizedCell) → Extends mid new → length mid ≤ length new
extends_long mid new e =
    let same : length (take (length mid) new) ≡ length mid = ap length (first_cells mid new e) in
    omega (arith, length-take (length mid) new)

-- the cells from one place on, and those that are added
stretch_more : (mid new : Circuit) (from load more products added : ℕ) → GrowsBy mid new more → count_of is_mul new.cells ≡ count_of is_mul mid.cells + added
    → IsStretch mid.cells from (length mid.cells) load products
    → IsStretch new.cells from (length new.cells) (load + more) (products + added)
stretch_more mid new from load more products added g a s =
    let longer : length mid.cells ≤ length new.cells = extends_long mid.cells new.cells g.grows.extends in
    let front : number_of is_mul new.cells from ≡ number_of is_mul mid.cells from = number_kept mid.cells new.cells from g.grows.extends s.rising in
    record {
      rising = omega (arith, s.rising, longer);
      few = omega (arith, s.few, g.cells);
      muls = omega (arith, number_all new.cells, number_all mid.cells, front, a, s.muls);
    }

stretch_none : (c : Circuit) → IsStretch c.cells (length c.cells) (length c.cells) 0 0
stretch_none c = record { rising = omega arith; few = omega arith; muls = omega arith }

-- ---- node after node

-- the first nodes are lowered, and each has its mark
pub record HaveMarks (old new : Circuit) (ts : List NodeTiming) (j : ℕ) (marks : List ℕ) : Type 0 where
  pub long : length marks ≡ j
  pub none : j ≡ 0 → length new.cells ≡ length old.cells
  pub within : (i m : ℕ) → slice_get marks i ≡ Some m → m ≤ length new.cells
  pub are : AreStretches new.cells (length old.cells) ts 0 marks

pub marked_none : (c : Circuit) (ts : List NodeTiming) (marks : List ℕ) → marks ≡ [] → HaveMarks c c ts 0 marks
marked_none c ts marks is = subst (HaveMarks c c ts 0) (sym is) (record {
  long = refl;
  none = λ e. refl;
  within = λ i m h. absurd (none-some m h);
  are = record {
    first = λ m h. absurd (none-some m h);
    between = λ j m n t f h g. absurd (none-some m h);
    last = λ j m t f h e. absurd (none-some m h);
  };
})

pub marked_more : (old mid new : Circuit) (ts : List NodeTiming) (j : ℕ) (marks more : List ℕ) (t : NodeTiming) → slice_get ts j ≡ Some t → more ≡ marks
    ++ length mid.cells ∷ [] → GrowsBy mid new t.load → count_of is_mul new.cells ≡ count_of is_mul mid.cells + t.muls
    → HaveMarks old mid ts j marks → HaveMarks old new ts (j + 1) more
marked_more old mid new ts j marks more t timing is g a was = subst (HaveMarks old new ts (j + 1)) (sym is) (record {
  long = omega (arith, length_push marks (length mid.cells), was.long);
  none = λ e. absurd (omega arith);
  within = λ i m h. elim (get_push_cases marks (length mid.cells) i m h) [
    | inl w ↦ omega (arith, was.within i m w.0, own.rising)
    | inr w ↦ omega (arith, w.1, own.rising)
  ];
  are = record {
    first = λ m h. elim (get_push_cases marks (length mid.cells) 0 m h) [
      | inl w ↦ was.are.first m w.0
      | inr w ↦ sym w.1 ∙ was.none (sym was.long ∙ sym w.0)
    ];
    between = λ i m n u f h k. elim (get_push_cases marks (length mid.cells) i m h) [
      | inr w ↦ absurd (behind i n k w.0)
      | inl v ↦ elim (get_push_cases marks (length mid.cells) (i + 1) n k) [
        | inl w ↦ stretch_kept mid.cells new.cells m n u.load u.muls g.grows.extends (was.within (i + 1) n w.0) (was.are.between i m n u f v.0 w.0)
        | inr w ↦
            let end : IsStretch mid.cells m (length mid.cells) (u.load + 0) u.muls = was.are.last i m u f v.0 (sym w.0) in
            let plain : u.load + 0 ≡ u.load = omega arith in
            subst (λ (x : ℕ). IsStretch new.cells m x u.load u.muls) w.1
            (stretch_kept mid.cells new.cells m (length mid.cells) u.load u.muls g.grows.extends (omega arith)
            (subst (λ (x : ℕ). IsStretch mid.cells m (length mid.cells) x u.muls) plain end))
      ]
    ];
    last = λ i m u f h e. elim (get_push_cases marks (length mid.cells) i m h) [
      | inl v ↦ absurd (omega (arith, v.1, length_push marks (length mid.cells), e))
      | inr w ↦
          let at : i ≡ j = w.0 ∙ was.long in
          let same : u ≡ t = same_Some u t (sym f ∙ (ap (slice_get ts) at ∙ timing)) in
          let plain : t.load ≡ t.load + 0 = omega arith in
          subst (λ (x : ℕ). IsStretch new.cells x (length new.cells) (u.load + 0) u.muls) w.1
          (subst (λ (x : NodeTiming). IsStretch new.cells (length mid.cells) (length new.cells) (x.load + 0) x.muls) (sym same)
          (subst (λ (x : ℕ). IsStretch new.cells (length mid.cells) (length new.cells) x t.muls) plain own))
    ];
  };
})
  where
    own : IsStretch new.cells (length mid.cells) (length new.cells) t.load t.muls
    own = let s = stretch_more mid new (length mid.cells) 0 t.load 0 t.muls g a (stretch_none mid) in
        record { rising = s.rising; few = omega (arith, s.few); muls = omega (arith, s.muls) }

    behind : (i n : ℕ) → slice_get (marks ++ length mid.cells ∷ []) (i + 1) ≡ Some n → i ≡ length marks → ⊥
    behind i n k e = let l : i + 1 < length (marks ++ length mid.cells ∷ []) = slice_get_within (marks ++ length mid.cells ∷ []) (i + 1) n k in
        omega (arith, length_push marks (length mid.cells))

-- the delays of the results stand behind the last node's cells
pub marked_end : (old mid new : Circuit) (ts : List NodeTiming) (j delays : ℕ) (marks : List ℕ) → GrowsBy mid new delays
    → count_of is_mul new.cells ≡ count_of is_mul mid.cells + 0 → HaveMarks old mid ts j marks → AreStretches new.cells (length old.cells) ts delays marks
marked_end old mid new ts j delays marks g a was = record {
  first = was.are.first;
  between = λ i m n t f h k. stretch_kept mid.cells new.cells m n t.load t.muls g.grows.extends (was.within (i + 1) n k) (was.are.between i m n t f h k);
  last = λ i m t f h e.
      let s = stretch_more mid new m (t.load + 0) delays t.muls 0 g a (was.are.last i m t f h e) in
      record { rising = s.rising; few = omega (arith, s.few); muls = omega (arith, s.muls) };
}

-- ---- the copy of a netlist

stretch_moved : (old new : List SizedCell) (marks places : List ℕ) (m : AreMoved old new marks places) → count_of is_mul new ≡ count_of is_mul old
    → (from to a b load products : ℕ) → to ≤ length old
    → IsMoved (length new) m.made from a → IsMoved (length new) m.made to b → IsStretch old from to load products → IsStretch new a b load products
stretch_moved old new marks places m muls from to a b load products within p q s =
    let apart = moved_apart old new m.made m.are from to a b s.rising p q in
    let x : number_of is_mul new a ≡ number_of is_mul old from = moved_number is_mul old new m.made like_mul m.are muls from a
    (omega (arith, within, s.rising)) p in
    let y : number_of is_mul new b ≡ number_of is_mul old to = moved_number is_mul old new m.made like_mul m.are muls to b within q in
    record { rising = apart.0; few = omega (arith, apart.1, s.few, s.rising); muls = omega (arith, x, y, s.muls) }

pub stretches_moved : (old new : List SizedCell) (begin count : ℕ) (ts : List NodeTiming) (delays : ℕ) (marks places : List ℕ)
    → AreMarks (length old) count marks → AreMoved old new marks places → count_of is_mul new ≡ count_of is_mul old
    → count_of is_input new ≡ count_of is_input old → number_of is_input old begin ≡ begin → AreStretches old begin ts delays marks
    → AreStretches new begin ts delays places
stretches_moved old new begin count ts delays marks places at m muls inputs front s = record {
  first = λ p h.
      let v = old_mark 0 p h in
      let is : v.0 ≡ begin = s.first v.0 v.1 in
      let within : v.0 ≤ length old = at.within 0 v.0 v.1 in
      let number : number_of is_input new p ≡ number_of is_input old v.0 = moved_number is_input old new m.made like_input m.are inputs v.0 p within
      (m.each 0 v.0 p v.1 h) in
      let same : number_of is_input old v.0 ≡ begin = rw is front in
      let few : number_of is_input new p ≤ p = number_few new p in
      let near = moved_apart old new m.made m.are 0 v.0 0 p (omega arith)
      (record { within = omega arith; before = λ i l. absurd (none_below i l); behind = λ i l b. omega arith }) (m.each 0 v.0 p v.1 h) in
      omega (arith, number, same, few, near.1, is);
  between = λ j a b t f h k.
      let v = old_mark j a h in
      let w = old_mark (j + 1) b k in
      stretch_moved old new marks places m muls v.0 w.0 a b t.load t.muls (at.within (j + 1) w.0 w.1) (m.each j v.0 a v.1 h) (m.each (j + 1) w.0 b w.1 k)
      (s.between j v.0 w.0 t f v.1 w.1);
  last = λ j a t f h e.
      let v = old_mark j a h in
      let all : length marks ≡ j + 1 = omega (arith, long, e) in
      stretch_moved old new marks places m muls v.0 (length old) a (length new) (t.load + delays) t.muls (omega arith) (m.each j v.0 a v.1 h)
      (moved_end old new m.made m.are) (s.last j v.0 t f v.1 all);
}
  where
    none_below : (n : ℕ) → n < 0 → ⊥
    none_below n l = omega arith

    number_few : (cells : List SizedCell) (i : ℕ) → number_of is_input cells i ≤ i
    number_few cells i =
        let c : count_of is_input (take i cells) ≤ length (take i cells) = count_by-le-length (λ (x : SizedCell). is_input x.cell) (take i cells) in
        omega (arith, length-take i cells, c)

    long : length places ≡ length marks
    long = m.long

    old_mark : (j p : ℕ) → slice_get places j ≡ Some p → (v : ℕ) × (slice_get marks j ≡ Some v)
    old_mark j p h = (get_or marks j 0, slice_get-get_or marks j 0 (let l : j < length places = slice_get_within places j p h in omega (arith, long)))

-- ---- the circuit

pub results_late : (instances : List StFuncTree) (k at rst : ℕ) (s : StFuncTree) (ins items : List (List NetId)) (old mid : Circuit) (waits : List ℕ)
    → IsSound instances → slice_get instances k ≡ Some s → waits ≡ joint_slacks (arrivals_in instances k s) s.results
    → AreLowered instances k at rst s ins old mid (length s.nodes) items → delay_load items waits s.results ≡ results_load instances k s
results_late instances k at rst s ins items old mid waits sound func ew was =
    let stand = standing mid.cells rst at (callees (take k instances)) s (arrivals_in instances k s) ins (length s.ins + length s.nodes) items was.have in
    standing_delays mid.cells s (length s.ins + length s.nodes) items (arrivals_in instances k s) waits s.results stand
    (result_below instances k s s.results sound func refl) ew

-- the reset and the words of the parameters stand first
pub begun_inputs : (ins : List StTree) (a b : Circuit) → HasBegun ins a → Extends a.cells b.cells → number_of is_input b.cells (length a.cells) ≡ length a.cells
begun_inputs ins a b begun e =
    let ps : List SizedPort = reset_port ∷ input_ports (streams_of ins) in
    let front : take (length a.cells) b.cells ≡ map input_cell ps = first_cells a.cells b.cells e ∙ begun.cells in
    let long : length a.cells ≡ length ps = ap length begun.cells ∙ length-map ps input_cell in
    let whole : take (length ps) (map input_cell ps) ≡ map input_cell ps = ap (λ n. take n (map input_cell ps)) (sym (length-map ps input_cell)) ∙
    take-length (map input_cell ps) in
    ap (count_of is_input) (front ∙ sym whole) ∙ (all_inputs ps (length ps) (omega arith) ∙ sym long)

pub begun_long : (ins : List StTree) (a : Circuit) → HasBegun ins a → length a.cells ≡ 1 + length (input_ports (streams_of ins))
begun_long ins a begun = omega (arith, ap length begun.cells, length-map (reset_port ∷ input_ports (streams_of ins)) input_cell)

pub tidied_stretches : (old new : Circuit) (begin count : ℕ) (ts : List NodeTiming) (delays : ℕ) (marks places : List ℕ) → IsTidied old new
    → AreMarks (length old.cells) count marks → AreMoved old.cells new.cells marks places
    → number_of is_input old.cells begin ≡ begin → AreStretches old.cells begin ts delays marks → AreStretches new.cells begin ts delays places
tidied_stretches old new begin count ts delays marks places t at moved front s =
    let inputs : count_of is_input new.cells ≡ count_of is_input old.cells =
    sym (length-filter (λ (x : SizedCell). is_input x.cell) new.cells) ∙
    (ap (λ (l : List SizedCell). length l) t.inputs ∙ length-filter (λ (x : SizedCell). is_input x.cell) old.cells) in
    stretches_moved old.cells new.cells begin count ts delays marks places at moved t.muls inputs front s
