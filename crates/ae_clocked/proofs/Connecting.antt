-- What a register that is added or connected does to the counts, the memories and the words of a netlist.
use Rattle.std.proofs.Common.{ℕ, ◌≡◌, ◌≢◌, ◌<◌, ◌≤◌, inl, inr, Bool, List, length, set, take, Some, slice_get, Result, Ok, Err, IfOk, arith, refl, sym, ap, ◌∙◌, length-set}
use Rattle.std.proofs.lemmas.Bool.{cases_eq}
use Rattle.std.proofs.lemmas.Option.{slice_get_within}
use Rattle.std.proofs.Math.Seq.{take-length}
use Rattle.ae_netlist.specs.declared.cell.NetId.{NetId}
use Rattle.ae_netlist.specs.declared.cell.Cell.{Cell}
use Rattle.ae_netlist.specs.declared.cell.Cell.TheVariants.{Reg, Mem, Peek}
use Rattle.ae_netlist.specs.declared.cell.SizedCell.{SizedCell}
use Rattle.ae_netlist.specs.Circuit.{Circuit, IsNet, IsRegister, width_of, width_in, new_register}
use Rattle.ae_netlist.specs.Counts.{AreWhole, count_of, is_input, is_memory, is_mul, is_register}
use Rattle.ae_netlist.specs.Runs.{Carries}
use Rattle.ae_netlist.proofs.Gets.{get_pushed, get_set_other, get_set_same}
use Rattle.ae_netlist.proofs.Growing.{keeps_connected, width_is}
use Rattle.ae_netlist.proofs.Counting.{count_replaced}
use Rattle.ae_netlist.proofs.Carried.{reg_word}
use Rattle.ae_gates.specs.Cells.{Grows, Adds, is_test}
use Rattle.ae_gates.proofs.Added.{IsAdded}
use Rattle.ae_clocked.specs.Signals.{Connects}

abbrev connected : List SizedCell → (r w : ℕ) → NetId → List SizedCell
connected cells r w next = set cells r (record { width = w; cell = Reg next })

width_connected : (cells : List SizedCell) (r w n : ℕ) (next : NetId) → IsRegister cells r w → width_of (connected cells r w next) n ≡ width_of cells n
unfolding width_of
width_connected cells r w n next reg = elim (cases_eq n r) [
  | inl e ↦
      ap width_in (ap (slice_get (connected cells r w next)) e ∙ get_set_same cells r _ _ reg.found)
      ∙ sym (ap width_in (ap (slice_get cells) e ∙ reg.found))
  | inr ne ↦ ap width_in (get_set_other cells r n _ ne)
]

-- no memory and no look changes
other_stays : (cells : List SizedCell) (r w n : ℕ) (next : NetId) (sized : SizedCell) → IsRegister cells r w → ((x : NetId) → sized.cell ≢ Reg x)
    → slice_get (connected cells r w next) n ≡ Some sized → slice_get cells n ≡ Some sized
other_stays cells r w n next sized reg other found = elim (cases_eq n r) [
  | inl e ↦
      let same : Some (record { width = w; cell = Reg next }) ≡ Some sized = sym (get_set_same cells r _ _ reg.found) ∙
      (ap (slice_get (connected cells r w next)) (sym e) ∙ found) in
      let is : record { width = w; cell = Reg next } ≡ sized = cc in
      absurd (other next (sym (ap (λ (x : SizedCell). x.cell) is)))
  | inr ne ↦ sym (get_set_other cells r n _ ne) ∙ found
]

pub whole_connected : (cells : List SizedCell) (r w : ℕ) (next : NetId) → IsRegister cells r w → AreWhole cells → AreWhole (connected cells r w next)
whole_connected cells r w next reg h = record {
  each = λ m v d at nx enable found.
      let was = h.each m v d at nx enable (other_stays cells r w m next (record { width = v; cell = Mem d at nx enable }) reg (λ x e. cc) found) in
      record {
        connected = was.connected;
        deep = rw (width_connected cells r w at.0 next reg) was.deep;
        peeks = λ n k mem from seen is.
            rw (width_connected cells r w from.0 next reg)
            (was.peeks n k mem from (other_stays cells r w n next (record { width = k; cell = Peek mem from }) reg (λ x e. cc) seen) is);
      };
}

pub count_connected : (kind : Cell → Bool) (cells : List SizedCell) (r w : ℕ) (next : NetId) (reg : IsRegister cells r w)
    → kind (Reg next) ≡ kind (Reg reg.next) → count_of kind (connected cells r w next) ≡ count_of kind cells
count_connected kind cells r w next reg same =
    let new : List SizedCell = connected cells r w next in
    let whole : take (length cells) cells ≡ cells = take-length cells in
    let whole_new : take (length cells) new ≡ new = ap (λ i. take i new) (sym (length-set cells r (record { width = w; cell = Reg next }))) ∙ take-length new in
    ap (count_of kind) (sym whole_new)
    ∙ (count_replaced (λ x. kind x.cell) cells r (length cells) (record { width = w; cell = Reg reg.next })
    (record { width = w; cell = Reg next }) reg.found same ∙ ap (count_of kind) whole)

-- a register that was added after a netlist may be connected
pub adds_connect : {base old new : Circuit} {r next most muls : ℕ} → Adds base old most muls → length base.cells ≤ r → Connects old new r next
    → Adds base new most muls
adds_connect {base} {old} {new} {r} p l c = record {
  grows = record {
    extends = record {
      keeps = λ n sized h.
          let b : n < length base.cells = within n sized h in
          c.others n sized (λ (x : n ≡ r). absurd (omega arith)) (p.grows.extends.keeps n sized h);
    };
    limit = c.limit ∙ p.grows.limit;
    outlets = c.outlets ∙ p.grows.outlets;
    inputs = c.inputs ∙ p.grows.inputs;
  };
  cells = omega (arith, p.cells, c.cells);
  muls = c.muls ∙ p.muls;
  memories = c.memories ∙ p.memories;
  whole = λ h. c.whole (p.whole h);
}
  where
    within : (n : ℕ) (sized : SizedCell) → slice_get base.cells n ≡ Some sized → n < length base.cells
    within n sized h = slice_get_within base.cells n sized h

-- ---- a register that is added

pub register_is : {E : Type 0} (old new : Circuit) (r : Result NetId E) (w : ℕ) → IsAdded old new r (new_register (length old.cells) w)
    → IfOk r (λ n. IsRegister new.cells n.0 w)
register_is old new (Ok y) w a = rw (a.1, a.0) (record { next = record { 0 = length old.cells }; found = get_pushed old.cells _ })
register_is old new (Err e) w a = a.0

pub register_net : {E : Type 0} (old new : Circuit) (r : Result NetId E) (w : ℕ) → IsAdded old new r (new_register (length old.cells) w)
    → IfOk r (λ n. IsNet new.cells n.0 w)
register_net old new (Ok y) w a = rw (a.1, a.0) (record { sized = new_register (length old.cells) w; found = get_pushed old.cells _; plain = tt; wide = refl })
register_net old new (Err e) w a = a.0

pub register_fresh : {E : Type 0} (old new : Circuit) (r : Result NetId E) (w : ℕ) → IsAdded old new r (new_register (length old.cells) w)
    → IfOk r (λ n. n.0 ≡ length old.cells)
register_fresh old new (Ok y) w a = ap (λ (n : NetId). n.0) a.0
register_fresh old new (Err e) w a = a.0

-- a register has its width
pub register_width : {cells : List SizedCell} {r w : ℕ} → IsRegister cells r w → width_of cells r ≡ w
register_width {cells} {r} h = width_is cells r _ h.found

pub own_register : {cells : List SizedCell} {r w : ℕ} → IsRegister cells r w → IsRegister cells r (width_of cells r)
own_register {cells} {r} h = rw (register_width h) h

pub net_own : {cells : List SizedCell} {r v w : ℕ} → IsRegister cells r w → IsNet cells v w → IsNet cells v (width_of cells r)
net_own {cells} {r} h n = rw (register_width h) n

pub connects : (old new : Circuit) (r next : NetId) (w : ℕ) → IsRegister old.cells r.0 w
    → new ≡ record old { cells = set old.cells r.0 (record { width = w; cell = Reg next }) } → Connects old new r.0 next.0
connects old new r next w reg e = rw e (record {
  others = λ n sized ne h. get_set_other old.cells r.0 n _ ne ∙ h;
  nets = (keeps_connected old.cells r.0 w next reg).nets;
  words = reg_word old.cells r.0 w next reg;
  cells = length-set old.cells r.0 (record { width = w; cell = Reg next });
  limit = refl;
  outlets = refl;
  inputs = count_connected is_input old.cells r.0 w next reg refl;
  muls = count_connected is_mul old.cells r.0 w next reg refl;
  memories = count_connected is_memory old.cells r.0 w next reg refl;
  whole = whole_connected old.cells r.0 w next reg;
  registers = count_connected is_register old.cells r.0 w next reg refl;
  tests = count_connected is_test old.cells r.0 w next reg refl;
})

pub connect_carries : {old new : Circuit} {r next : ℕ} (from : ℕ) → r < from → Connects old new r next → Carries from old.cells new.cells
connect_carries {r} from l c = record {
  keeps = λ n sized k h. c.others n sized (λ (x : n ≡ r). absurd (omega arith)) h;
  nets = c.nets;
}

-- a register stays one while the netlist grows
pub register_later : {a b : Circuit} {r w : ℕ} → Grows a b → IsRegister a.cells r w → IsRegister b.cells r w
register_later {r} g h = record { next = h.next; found = g.extends.keeps r _ h.found }
