-- A control behind a copy, the outputs, and the copy held.
use Rattle.std.proofs.Common.{ℕ, zero, suc, ◌≡◌, ◌+◌, ◌*◌, ◌<◌, ◌≤◌, inl, inr, List, [], ◌∷◌, ◌++◌, length, length-append, map, take, Some, slice_get, arith, refl, sym, ap, ◌∙◌, subst}
use Rattle.std.proofs.Math.Seq.{take-length}
use Rattle.std.specs.Prelude.{◌⊎◌, ◌≢◌}
use Rattle.std.proofs.lemmas.Bool.{cases_eq, cases_lt}
use Rattle.std.proofs.lemmas.Option.{same_Some, slice_get_within}
use Rattle.ae_netlist.specs.declared.cell.NetId.{NetId}
use Rattle.ae_netlist.specs.declared.cell.Outlet.{Outlet}
use Rattle.ae_netlist.specs.declared.cell.Port.{Port}
use Rattle.ae_netlist.specs.declared.cell.Cell.{Cell}
use Rattle.ae_netlist.specs.declared.cell.Cell.TheVariants.{Input, Const, Op, Reg, Mem, Peek}
use Rattle.ae_netlist.specs.declared.cell.SizedCell.{SizedCell}
use Rattle.ae_netlist.specs.Circuit.{Circuit, Extends, HaveNets, IsNet, IsPlain, width_of}
use Rattle.ae_netlist.specs.Counts.{AreWhole, cells_of, is_input, is_mul}
use Rattle.ae_netlist.proofs.Growing.{extends_length, net_later}
use Rattle.ae_rewrite.specs.Blocks.{outlet_net}
use Rattle.ae_stall.specs.Copies.{HasKinds, HasLogicAround, IsCopied, IsLogic, MayBeHeld, reset_cell}
use Rattle.ae_stall.specs.Held.{IsHeld}
use Rattle.ae_stall.specs.Images.{bit_input, fresh, placed, placed_net}
use Rattle.ae_stall.proofs.Whole.{around_copied}
use Rattle.ae_control.specs.declared.driver.Controlled.{Controlled}
use Rattle.ae_control.specs.declared.driver.Wires.{Wires}
use Rattle.ae_streamed.specs.declared.marking.Marks.{Marks}
use Rattle.ae_streamed.specs.Between.{AreMarkNets, AreShownBy, HasDriver, IsWrapped, channel_inputs, copied_nets, ports_of, sink_ready, sink_valid, source_ready, source_valid, wires_of}
use Rattle.ae_control.specs.Cells.{AddsControl, IsLonger, KeepsFrom}
use Rattle.ae_control.specs.Columns.{AreColumns}
use Rattle.ae_control.specs.Count.{control_cells}
use Rattle.ae_control.specs.Controls.{AreWires, HasControlNets, IsControl, net}
use Rattle.ae_control.proofs.Cells.{is_logic, longer_trans, next_first, no_input, no_mul, same_count, same_kind, there}
use Rattle.ae_streamed.proofs.Within.{of_mapped}
use Rattle.ae_gates.proofs.Added.{net_within, own_net as own_width}

-- ---- a control and its queues go on to be what they are where their cells are kept

control_kept : {from blocks wait : ℕ} {a b : List SizedCell} {w : Wires} {c : Controlled} → KeepsFrom from a b → IsControl from a w blocks wait c
    → IsControl from b w blocks wait c
control_kept k h = record {
  gates = h.gates;
  row = h.row;
  takes = h.takes;
  here = h.here;
  shows = h.shows;
  reset = h.reset;
  first = h.first;
  last = h.last;
  late = h.late;
  behind = h.behind;
  wired = λ made second ins outs in_columns columns all keeps. h.wired made second ins outs in_columns columns all
      (λ n sized l f. keeps n sized l (k n sized l f));
  moves = λ all keeps. h.moves all (λ n sized l f. keeps n sized l (k n sized l f));
}

columns_kept : {from : ℕ} {a b : List SizedCell} {c : Controlled} {made : List NetId} → KeepsFrom from a b → AreColumns from a c made → AreColumns from b c made
columns_kept {from = from} k h = record {
  nets = λ q l. (let one = h.nets q l in (
    one.0,
    record {
      sized = one.1.sized;
      found = k (from + 4 * q) one.1.sized (omega arith) one.1.found;
      plain = one.1.plain;
      wide = one.1.wide;
    },
  ));
  queued = λ w takes here shows in_columns ins all keeps. h.queued w takes here shows in_columns ins all (λ n sized l f. keeps n sized l (k n sized l f));
}

nets_later : {from : ℕ} {a b : List SizedCell} {c : Controlled} → Extends a b → HasControlNets from a c → HasControlNets from b c
nets_later e h = record {
  behind = h.behind;
  asks_behind = h.asks_behind;
  one_behind = h.one_behind;
  enable = net_later e h.enable;
  asks = net_later e h.asks;
  one = net_later e h.one;
  two = net_later e h.two;
  moves = net_later e h.moves;
}

pub has_driver : (old one two new : Circuit) (m : Marks) (w : Wires) (blocks wait at : ℕ) (made : List NetId) (outlets : List Outlet) (c : Controlled)
    → w ≡ wires_of m → IsLonger old one → IsControl (length old.cells) one.cells w blocks wait c
    → HasControlNets (length old.cells) one.cells c → at ≡ length one.cells → IsLonger one two → AreColumns (length one.cells) two.cells c made
    → new.cells ≡ two.cells → new.limit ≡ two.limit → AreShownBy c at outlets new.outlets → HasDriver old new m blocks wait made outlets c
has_driver old one two new m w blocks wait at made outlets c is first control nets here then_two columns cells limit shown =
    let both : IsLonger old two = longer_trans first then_two in
    record {
      extends = subst (Extends old.cells) (sym cells) both.extends;
      added = subst (AddsControl old.cells) (sym cells) both.added;
      limit = limit ∙ both.limit;
      control = subst (λ v. IsControl (length old.cells) new.cells v blocks wait c) is
          (subst (λ v. IsControl (length old.cells) v w blocks wait c) (sym cells) (control_kept (λ n sized l f. then_two.extends.keeps n sized f) control));
      nets = subst (λ v. HasControlNets (length old.cells) v c) (sym cells) (nets_later then_two.extends nets);
      at = at;
      behind = omega (arith, here, extends_length old.cells one.cells first.extends);
      columns = subst (λ v. AreColumns v new.cells c made) (sym here) (subst (λ v. AreColumns (length one.cells) v c made) (sym cells) columns);
      shown = shown;
    }

-- ---- outputs

outlet_left : (outlets : List Outlet) (o : Outlet) (k : ℕ) → k < length outlets → outlet_net (outlets ++ o ∷ []) k ≡ outlet_net outlets k
outlet_left [] o k l = absurd (omega arith)
outlet_left (x ∷ outlets) o zero l = refl
outlet_left (x ∷ outlets) o (suc k) l = outlet_left outlets o k (omega arith)

outlet_last : (outlets : List Outlet) (o : Outlet) → outlet_net (outlets ++ o ∷ []) (length outlets) ≡ o.net.0
outlet_last [] o = refl
outlet_last (x ∷ outlets) o = outlet_last outlets o

abbrev output : Port → (n : ℕ) → Outlet
output port n = record { port = port; net = net n }

ports_append : (outlets : List Outlet) (o : Outlet) → ports_of (outlets ++ o ∷ []) ≡ ports_of outlets ++ o.port ∷ []
ports_append [] o = refl
ports_append (x ∷ outlets) o = ap (λ v. x.port ∷ v) (ports_append outlets o)

-- the first so many of some outputs are shown
pub record AreFirstShown (c : Controlled) (at count : ℕ) (old outlets : List Outlet) : Type 0 where
  pub ports : ports_of outlets ≡ source_ready ∷ sink_valid ∷ ports_of (take count old)
  pub long : length outlets ≡ 2 + count
  pub asks : outlet_net outlets 0 ≡ c.asks.0
  pub one : outlet_net outlets 1 ≡ c.one.0
  pub columns : (k : ℕ) → k < count → outlet_net outlets (2 + k) ≡ at + 4 * k

pub shown_none : (c : Controlled) (at : ℕ) (old none one two : List Outlet) → none ≡ [] → one ≡ none ++ output source_ready c.asks.0 ∷ [] → two ≡ one
    ++ output sink_valid c.one.0 ∷ []
    → AreFirstShown c at 0 old two
shown_none c at old none one two en e1 e2 =
    rw (e2, e1, en) (record { ports = refl; long = refl; asks = refl; one = refl; columns = λ k l. absurd (omega (arith, l)) })

pub shown_more : (c : Controlled) (at count : ℕ) (old before after : List Outlet) (o : Outlet) → slice_get old count ≡ Some o
    → AreFirstShown c at count old before
    → after ≡ before ++ output o.port (at + 4 * count) ∷ [] → AreFirstShown c at (count + 1) old after
shown_more c at count old before after x found h e =
    let o : Outlet = output x.port (at + 4 * count) in
    rw e (record {
      ports = ports_append before o ∙ (ap (λ v. v ++ x.port ∷ []) h.ports ∙
          ap (λ v. source_ready ∷ sink_valid ∷ v) (sym (next_first (λ (o : Outlet). o.port) old count x found)));
      long = omega (arith, length-append before (o ∷ []), h.long);
      asks = outlet_left before o 0 (omega (arith, h.long)) ∙ h.asks;
      one = outlet_left before o 1 (omega (arith, h.long)) ∙ h.one;
      columns = λ k l. column k l (cases_eq k count);
    })
  where
    column : (k : ℕ) → k < count + 1 → (k ≡ count) ⊎ (k ≢ count) → outlet_net (before ++ output x.port (at + 4 * count) ∷ []) (2 + k) ≡ at + 4 * k
    column k l (inl same) =
        let o : Outlet = output x.port (at + 4 * count) in
        let far : 2 + k ≡ length before = omega (arith, h.long, same) in
        ap (outlet_net (before ++ o ∷ [])) far ∙ (outlet_last before o ∙ ap (λ v. at + 4 * v) (sym same))
    column k l (inr apart) = outlet_left before (output x.port (at + 4 * count)) (2 + k) (omega (arith, h.long, apart)) ∙ h.columns k (omega (arith, l, apart))

pub all_shown : (c : Controlled) (at count : ℕ) (old outlets : List Outlet) → count ≡ length old → AreFirstShown c at count old outlets
    → AreShownBy c at old outlets
all_shown c at count old outlets end h = record {
  ports = h.ports ∙ ap (λ v. source_ready ∷ sink_valid ∷ ports_of v) (ap (λ k. take k old) end ∙ take-length old);
  long = h.long ∙ ap (λ k. 2 + k) end;
  asks = h.asks;
  one = h.one;
  columns = λ k l. h.columns k (omega (arith, l, end));
}

-- ---- the copy

fresh_plain : (more own : ℕ) (cell : Cell) → IsPlain cell → IsPlain (fresh more own cell)
fresh_plain more own (Input port) h = tt
fresh_plain more own (Const k) h = tt
fresh_plain more own (Op op args) h = tt
fresh_plain more own (Reg next) h = tt
fresh_plain more own (Mem depth at next enable) h = h
fresh_plain more own (Peek mem at) h = tt

pub copied_net : {old new : List SizedCell} {n w : ℕ} → IsCopied channel_inputs old new (length old) → IsNet old n w → IsNet new (placed 2 n) w
copied_net {n = n} c h = record {
  sized = record { width = h.sized.width; cell = fresh 2 n h.sized.cell };
  found = (c.each n h.sized (net_within h) h.found).there;
  plain = fresh_plain 2 n h.sized.cell h.plain;
  wide = h.wide;
}

pub copied_wires : (old new : List SizedCell) (m : Marks) → slice_get old 0 ≡ Some reset_cell → AreMarkNets old m
    → IsCopied channel_inputs old new (length old) → AreWires new (wires_of m)
copied_wires old new m reset marks c = record {
  reset = copied_net c (record { sized = reset_cell; found = reset; plain = tt; wide = refl });
  valid = record { sized = _; found = c.inputs 0 source_valid refl; plain = tt; wide = refl };
  ready = record { sized = _; found = c.inputs 1 sink_ready refl; plain = tt; wide = refl };
  first = copied_net c marks.first;
  last = copied_net c marks.last;
  wants = copied_net c marks.wants;
  late = copied_net c marks.late;
  behind = copied_net c marks.behind;
}

-- the nets of the outputs stand in the copy
pub made_nets : (old new : List SizedCell) (outlets : List Outlet) (made : List NetId) → made ≡ copied_nets outlets → HaveNets old outlets
    → IsCopied channel_inputs old new (length old)
    → (k : ℕ) (n : NetId) → slice_get made k ≡ Some n → IsNet new n.0 (width_of new n.0)
made_nets old new outlets made is have c k n found =
    let o = of_mapped (λ (o : Outlet). placed_net 2 o.net) outlets k n (ap (λ v. slice_get v k) (sym is) ∙ found) in
    subst (λ (v : NetId). IsNet new v.0 (width_of new v.0)) o.2 (own_width (copied_net c (have.each k o.0 o.1)))

pub may_be_held : (old copied driven : Circuit) (m : Marks) (blocks wait : ℕ) (made : List NetId) (outlets : List Outlet) (c : Controlled)
    → slice_get old.cells 0 ≡ Some reset_cell → IsCopied channel_inputs old.cells copied.cells (length old.cells)
    → HasDriver copied driven m blocks wait made outlets c → MayBeHeld 2 c.enable.0 old.cells driven.cells
may_be_held old copied driven m blocks wait made outlets c reset h d = record {
  some = h.some;
  many = omega (arith, h.long, extends_length copied.cells driven.cells d.extends);
  apart = inr (omega (arith, h.long, d.nets.behind));
  bit = d.nets.enable;
  each = λ n sized found. record { there = d.extends.keeps (placed 2 n) _ (h.each n sized (slice_get_within old.cells n sized found) found).there };
}

net_kept : {from : ℕ} {a b : List SizedCell} {n width : ℕ} → KeepsFrom from a b → from ≤ n → IsNet a n width → IsNet b n width
net_kept {n = n} keeps low h = record { sized = h.sized; found = keeps n h.sized low h.found; plain = h.plain; wide = h.wide }

-- beside the copy stand its inputs and the control
pub driver_around : (marked copied driven : List SizedCell) → IsCopied channel_inputs marked copied (length marked) → Extends copied driven
    → AddsControl copied driven → HasLogicAround 2 marked driven
driver_around marked copied driven h extends added = λ m sized apart found. elim (cases_lt m (length copied)) [
  | inl low ↦
      let x = there copied m low in
      let same : x.0 ≡ sized = same_Some x.0 sized (sym (extends.keeps m x.0 x.1) ∙ found) in
      subst (λ (y : SizedCell). IsLogic y.cell) same (around_copied channel_inputs marked copied (length marked) refl h m x.0 apart x.1)
  | inr high ↦ is_logic sized.cell (added m sized high found)
]

pub is_wrapped : (marked copied driven new : Circuit) (m : Marks) (blocks wait : ℕ) (made : List NetId) (c : Controlled) → made ≡ copied_nets marked.outlets
    → IsCopied channel_inputs marked.cells copied.cells (length marked.cells)
    → HasDriver copied driven m blocks wait made marked.outlets c → IsHeld 2 c.enable.0 marked driven new
    → length driven.cells ≤ length copied.cells + control_cells blocks + 4 * length marked.outlets
    → (HasLogicAround 2 marked.cells driven.cells → AreWhole marked.cells → AreWhole new.cells) → IsWrapped marked new m blocks wait
is_wrapped marked copied driven new m blocks wait made c is h d held few whole =
    let kinds : HasKinds (map bit_input channel_inputs) marked.cells copied.cells = subst
    (λ (some : List SizedCell). HasKinds (map bit_input channel_inputs) some copied.cells) (take-length marked.cells) h.kinds in
    let inputs : cells_of is_input driven.cells ≡ cells_of is_input copied.cells = same_kind is_input copied.cells driven.cells d.extends
    (λ n sized l f. no_input sized.cell (d.added n sized l f)) in
    let muls : cells_of is_mul driven.cells ≡ cells_of is_mul copied.cells = same_kind is_mul copied.cells driven.cells d.extends
    (λ n sized l f. no_mul sized.cell (d.added n sized l f)) in
    let size : length copied.cells ≡ length marked.cells + 2 = h.long in
    let keeps : KeepsFrom (length marked.cells + 2) driven.cells new.cells = λ n sized l f. held.keeps n sized (inr l) f in
    let later : KeepsFrom d.at driven.cells new.cells = λ n sized l f. held.keeps n sized (inr (omega (arith, size, d.behind, l))) f in
    record {
      by = c;
      copied = driven;
      held = held;
      longer = omega (arith, size, extends_length copied.cells driven.cells d.extends);
      valid = held.keeps 1 _ (inl (omega arith, omega arith)) (d.extends.keeps 1 _ (h.inputs 0 source_valid refl));
      ready = held.keeps 2 _ (inl (omega arith, omega arith)) (d.extends.keeps 2 _ (h.inputs 1 sink_ready refl));
      control = control_kept keeps (subst (λ v. IsControl v driven.cells (wires_of m) blocks wait c) size d.control);
      asks = net_kept keeps (omega (arith, size, d.nets.asks_behind)) d.nets.asks;
      stands = net_kept keeps (omega (arith, size, d.nets.one_behind)) d.nets.one;
      few = omega (arith, size, few, held.small);
      muls = held.kinds.muls ∙ (same_count is_mul copied.cells driven.cells muls ∙ kinds.muls);
      inputs = held.kinds.inputs ∙ (inputs ∙ kinds.inputs);
      whole = whole (driver_around marked.cells copied.cells driven.cells h d.extends d.added);
      at = d.at;
      columns = columns_kept later (subst (AreColumns d.at driven.cells c) is d.columns);
      shown = subst (AreShownBy c d.at marked.outlets) (sym held.outlets) d.shown;
    }
