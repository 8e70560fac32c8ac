-- A netlist in which a register or a memory has been connected.
use Rattle.std.proofs.Common.{ℕ, zero, suc, ◌≡◌, ◌+◌, ◌<◌, inl, inr, true, false, if◌then◌else◌, List, [], ◌∷◌, length, map, Option, Some, None, slice_get, set, arith, refl, sym, ap, ◌∙◌, subst, length-set}
use Rattle.std.specs.Prelude.{slice_set, ◌||◌}
use Rattle.std.specs.List.{filter, enumerate_from}
use Rattle.std.proofs.lemmas.Bool.{cases_Bool, cond-true, cond-false, or_left, both_ways}
use Rattle.ae_netlist.specs.declared.cell.NetId.{NetId}
use Rattle.ae_netlist.specs.declared.cell.Cell.TheVariants.{Reg, Mem}
use Rattle.ae_netlist.specs.declared.cell.SizedCell.{SizedCell}
use Rattle.ae_netlist.specs.Circuit.{Circuit, IsNet, IsMemory, IsRegister, IsWritten, new_register, new_memory, width_of, depth_of}
use Rattle.ae_netlist.proofs.Growing.{StandsFor, keeps_replaced, register_stands, memory_stands, width_is}
use Rattle.ae_netlist.proofs.Gets.{get_set_other, get_set_same}
use Rattle.ae_netlist.proofs.Carried.{carries_trans}
use Rattle.ae_vmodule.specs.declared.module.NetKind.{NetKind}
use Rattle.ae_vmodule.specs.declared.module.NetKind.TheVariants.{Input, Wire, OutWire, Reg as RegName, OutReg, Memory}
use Rattle.ae_vmodule.specs.ModuleTree.{NetTree}
use Rattle.ae_judge.specs.Names.{is_register_kind, is_memory_kind}
use Rattle.ae_runs.specs.SameRuns.{is_input_cell, is_state_cell, cell_depth}
use Rattle.ae_elab.specs.Declaring.{IsUnconnected, is_state}
use Rattle.ae_elab.specs.Connecting.{Connects}
use Rattle.ae_assign.specs.Edges.{FitsNext, IsConnected, KeepsConstants, OthersStay}
use Rattle.ae_assign.specs.declared.statements.Next.{Next}
use Rattle.ae_assign.specs.declared.statements.Next.TheVariants.{Word, Write}

inputs_set : (k : ℕ) (cells : List SizedCell) (r : ℕ) (x y : SizedCell) → slice_get cells r ≡ Some x → is_input_cell x.cell ≡ false
    → is_input_cell y.cell ≡ false
    → filter (λ (z : ℕ × SizedCell). is_input_cell z.1.cell) (enumerate_from k (set cells r y)) ≡ filter (λ (z : ℕ × SizedCell). is_input_cell z.1.cell)
    (enumerate_from k cells)
inputs_set k [] r x y h p q = absurd (let e : None ≡ Some x = h in cc)
inputs_set k (z ∷ cells) zero x y h p q =
    let s : x ≡ z = (let e : Some z ≡ Some x = h in cc) in
    let rest = filter (λ (u : ℕ × SizedCell). is_input_cell u.1.cell) (enumerate_from (k + 1) cells) in
    cond-false _ ((k, y) ∷ rest) rest q ∙ sym (cond-false _ ((k, z) ∷ rest) rest (ap (λ (u : SizedCell). is_input_cell u.cell) (sym s) ∙ p))
inputs_set k (z ∷ cells) (suc r) x y h p q = ap (λ l. if is_input_cell z.cell then (k, z) ∷ l else l) (inputs_set (k + 1) cells r x y h p q)

abbrev measured : ℕ × SizedCell → ℕ × ℕ × Option ℕ
measured x = (x.0, x.1.width, cell_depth x.1.cell)

states_set : (k : ℕ) (cells : List SizedCell) (r : ℕ) (x y : SizedCell) → slice_get cells r ≡ Some x → is_state_cell x.cell ≡ true
    → is_state_cell y.cell ≡ true → y.width ≡ x.width → cell_depth y.cell ≡ cell_depth x.cell
    → map measured (filter (λ (z : ℕ × SizedCell). is_state_cell z.1.cell) (enumerate_from k (set cells r y))) ≡ map measured
    (filter (λ (z : ℕ × SizedCell). is_state_cell z.1.cell) (enumerate_from k cells))
states_set k [] r x y h p q w d = absurd (let e : None ≡ Some x = h in cc)
states_set k (z ∷ cells) zero x y h p q w d =
    let s : x ≡ z = (let e : Some z ≡ Some x = h in cc) in
    let rest = filter (λ (u : ℕ × SizedCell). is_state_cell u.1.cell) (enumerate_from (k + 1) cells) in
    let same : measured (k, y) ≡ measured (k, z) = same_measure k y z (w ∙ ap (λ (u : SizedCell). u.width) s)
    (d ∙ ap (λ (u : SizedCell). cell_depth u.cell) s) in
    ap (map measured) (cond-true _ ((k, y) ∷ rest) rest q)
    ∙ (ap (λ e. e ∷ map measured rest) same ∙ sym (ap (map measured)
    (cond-true _ ((k, z) ∷ rest) rest (ap (λ (u : SizedCell). is_state_cell u.cell) (sym s) ∙ p))))
  where
    same_measure : (k : ℕ) (y z : SizedCell) → y.width ≡ z.width → cell_depth y.cell ≡ cell_depth z.cell → measured (k, y) ≡ measured (k, z)
    same_measure k y z w d = λ i. (k, w i, d i)
states_set k (z ∷ cells) (suc r) x y h p q w d =
    let all = states_set (k + 1) cells r x y h p q w d in
    let new = filter (λ (u : ℕ × SizedCell). is_state_cell u.1.cell) (enumerate_from (k + 1) (set cells r y)) in
    let old = filter (λ (u : ℕ × SizedCell). is_state_cell u.1.cell) (enumerate_from (k + 1) cells) in
    elim (cases_Bool (is_state_cell z.cell)) [
      | inl t ↦ ap (map measured) (cond-true _ ((k, z) ∷ new) new t) ∙
          (ap (λ l. measured (k, z) ∷ l) all ∙ sym (ap (map measured) (cond-true _ ((k, z) ∷ old) old t)))
      | inr f ↦ ap (map measured) (cond-false _ ((k, z) ∷ new) new f) ∙ (all ∙ sym (ap (map measured) (cond-false _ ((k, z) ∷ old) old f)))
    ]

-- one cell before a number is another of the same kind
connects_set : (from : ℕ) (old new : Circuit) (r : ℕ) (x y : SizedCell) → slice_get old.cells r ≡ Some x → StandsFor y x → is_input_cell x.cell ≡ false
    → is_input_cell y.cell ≡ false → is_state_cell x.cell ≡ true → is_state_cell y.cell ≡ true
    → y.width ≡ x.width → cell_depth y.cell ≡ cell_depth x.cell → r < from → new ≡ record old { cells = slice_set old.cells r y } → Connects from old new
connects_set from old new r x y h stands xi yi xs ys w d l e =
    let keeps = keeps_replaced old.cells r y x h stands in
    rw e (record {
      carries = record { keeps = λ n sized k g. get_set_other old.cells r n y (λ s. absurd (omega arith)) ∙ g; nets = keeps.nets };
      memories = keeps.memories;
      inputs = inputs_set 0 old.cells r x y h xi yi;
      states = states_set 0 old.cells r x y h xs ys w d;
      limit = refl;
      outlets = refl;
    })

pub connects_refl : (from : ℕ) (a : Circuit) → Connects from a a
connects_refl from a = record {
  carries = record { keeps = λ n sized k g. g; nets = λ n w g. g };
  memories = λ n w d g. g;
  inputs = refl;
  states = refl;
  limit = refl;
  outlets = refl;
}

pub connects_trans : (from : ℕ) (a b c : Circuit) → Connects from a b → Connects from b c → Connects from a c
connects_trans from a b c p q = record {
  carries = carries_trans p.carries q.carries;
  memories = λ n w d g. q.memories n w d (p.memories n w d g);
  inputs = q.inputs ∙ p.inputs;
  states = q.states ∙ p.states;
  limit = q.limit ∙ p.limit;
  outlets = q.outlets ∙ p.outlets;
}

-- a register that is not connected
pub register_there : (k : NetKind) (cells : List SizedCell) (net w : ℕ) → is_register_kind k ≡ true → IsUnconnected k cells net w
    → slice_get cells net ≡ Some (new_register net w)
register_there Input cells net w r h = absurd (cc)
register_there Wire cells net w r h = absurd (cc)
register_there OutWire cells net w r h = absurd (cc)
register_there RegName cells net w r h = h
register_there OutReg cells net w r h = h
register_there (Memory depth) cells net w r h = absurd (cc)

register_connected : (k : NetKind) (cells : List SizedCell) (net w : ℕ) (y : NetId) → is_register_kind k ≡ true
    → slice_get cells net ≡ Some (record { width = w; cell = Reg y }) → IsConnected k cells net w (Word y)
register_connected Input cells net w y r h = tt
register_connected Wire cells net w y r h = tt
register_connected OutWire cells net w y r h = tt
register_connected RegName cells net w y r h = h
register_connected OutReg cells net w y r h = h
register_connected (Memory depth) cells net w y r h = absurd (cc)

-- all that is so where a register takes the word of a net
pub record IsJoined (from : ℕ) (x : NetTree) (old new : Circuit) (net : ℕ) (k : Next) : Type 0 where
  pub connects : Connects from old new
  pub long : length new.cells ≡ length old.cells
  pub constants : KeepsConstants old.cells new.cells
  pub others : OthersStay old.cells new.cells net
  pub stays : is_state x ≡ false → new ≡ old
  pub connected : IsConnected x.kind new.cells net x.width k

pub word_joined : (from : ℕ) (x : NetTree) (old new : Circuit) (net : ℕ) (y : NetId) → IsUnconnected x.kind old.cells net x.width
    → (is_state x ≡ true → net < from) → FitsNext old.cells x (Word y)
    → new ≡ record old { cells = slice_set old.cells net (record { width = width_of old.cells net; cell = Reg y }) } → IsJoined from x old new net (Word y)
word_joined from x old new net y free early fits e =
    let there = register_there x.kind old.cells net x.width fits.0 free in
    let wide : width_of old.cells net ≡ x.width = width_is old.cells net (new_register net x.width) there in
    let made : new ≡ record old { cells = slice_set old.cells net (record { width = x.width; cell = Reg y }) } = rw wide at e in
    let stands = register_stands x.width (record { 0 = net }) y in
    let keeps = keeps_replaced old.cells net (record { width = x.width; cell = Reg y }) (new_register net x.width) there stands in
    record {
      connects = connects_set from old new net (new_register net x.width) (record { width = x.width; cell = Reg y }) there stands refl refl refl refl refl refl
          (early (or_left _ _ fits.0)) made;
      long = rw made (length-set old.cells net (record { width = x.width; cell = Reg y }));
      constants = rw made keeps.constants;
      others = rw made (λ n other. get_set_other old.cells net n (record { width = x.width; cell = Reg y }) other);
      stays = λ f. absurd (both_ways _ f (or_left _ _ fits.0));
      connected = register_connected x.kind new.cells net x.width y fits.0
          (rw made (get_set_same old.cells net (record { width = x.width; cell = Reg y }) (new_register net x.width) there));
    }

-- a memory that is not connected
pub memory_there : (x : NetTree) (cells : List SizedCell) (net depth : ℕ) → x.kind ≡ Memory depth → IsUnconnected x.kind cells net x.width
    → slice_get cells net ≡ Some (new_memory net x.width depth)
memory_there x cells net depth is h = subst (λ k. IsUnconnected k cells net x.width) is h

pub depth_is : (cells : List SizedCell) (net width depth : ℕ) → slice_get cells net ≡ Some (new_memory net width depth) → depth_of cells net ≡ depth
unfolding depth_of
depth_is cells net width depth h = rw h refl

pub write_joined : (from : ℕ) (x : NetTree) (old new : Circuit) (net : ℕ) (at word enable : NetId) → IsUnconnected x.kind old.cells net x.width
    → (is_state x ≡ true → net < from) → FitsNext old.cells x (Write at word enable)
    → new ≡ record old { cells = slice_set old.cells net (record { width = width_of old.cells net; cell = Mem (depth_of old.cells net) at word enable }) }
    → IsJoined from x old new net (Write at word enable)
write_joined from x old new net at word enable free early fits e =
    let depth = fits.0 in
    let there = memory_there x old.cells net depth fits.1 free in
    let wide : width_of old.cells net ≡ x.width = width_is old.cells net (new_memory net x.width depth) there in
    let deep : depth_of old.cells net ≡ fits.0 = depth_is old.cells net x.width depth there in
    let made : new ≡ record old { cells = slice_set old.cells net (record { width = x.width; cell = Mem fits.0 at word enable }) } = rw (wide, deep) at e in
    let y : SizedCell = record { width = x.width; cell = Mem depth at word enable } in
    let stands = memory_stands x.width depth (record { 0 = net }) (record { 0 = net }) (record { 0 = net }) at word enable in
    let keeps = keeps_replaced old.cells net y (new_memory net x.width depth) there stands in
    let state : is_state x ≡ true = subst (λ k. (is_register_kind k || is_memory_kind k) ≡ true) (sym fits.1) refl in
    record {
      connects = connects_set from old new net (new_memory net x.width depth) y there stands refl refl refl refl refl refl (early state) made;
      long = rw made (length-set old.cells net y);
      constants = rw made keeps.constants;
      others = rw made (λ n other. get_set_other old.cells net n y other);
      stays = λ f. absurd (both_ways _ f state);
      connected = subst (λ k. IsConnected k new.cells net x.width (Write at word enable)) (sym fits.1)
          (rw made (get_set_same old.cells net y (new_memory net x.width depth) there));
    }

-- what is asked where a register, and where a memory, is connected
pub register_asked : (x : NetTree) (cells : List SizedCell) (net : ℕ) (y : NetId) → IsUnconnected x.kind cells net x.width → FitsNext cells x (Word y)
    → IsRegister cells net (width_of cells net) × IsNet cells y.0 (width_of cells net)
register_asked x cells net y free fits =
    let there = register_there x.kind cells net x.width fits.0 free in
    let wide : width_of cells net ≡ x.width = width_is cells net (new_register net x.width) there in
    rw wide (record { next = record { 0 = net }; found = there }, fits.1)

pub memory_asked : (x : NetTree) (cells : List SizedCell) (net : ℕ) (at word enable : NetId) → IsUnconnected x.kind cells net x.width
    → FitsNext cells x (Write at word enable)
    → IsMemory cells net (width_of cells net) (depth_of cells net) × IsWritten cells (width_of cells net) (depth_of cells net) at.0 word.0 enable.0
memory_asked x cells net at word enable free fits =
    let there = memory_there x cells net fits.0 fits.1 free in
    let wide : width_of cells net ≡ x.width = width_is cells net (new_memory net x.width fits.0) there in
    let deep : depth_of cells net ≡ fits.0 = depth_is cells net x.width fits.0 there in
    rw (wide, deep) (record { at = record { 0 = net }; next = record { 0 = net }; enable = record { 0 = net }; found = there }, fits.2)
