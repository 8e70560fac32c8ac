-- Netlists that grow, and whose registers and memories are connected, stay formed.
use Rattle.std.proofs.Common.{ℕ, ◌≡◌, ◌<◌, ◌≤◌, inl, inr, List, [], ◌∷◌, ◌++◌, length, take, set, Some, slice_get, get_or, arith, refl, ap, sym, ◌∙◌, subst}
use Rattle.std.proofs.lemmas.Bool.{cases_eq, cases_lt}
use Rattle.std.proofs.lemmas.Option.{slice_get_within, slice_get-get_or}
use Rattle.std.proofs.lemmas.List.{take-append-le, take_at}
use Rattle.ae_word.specs.declared.op.WordOp.{WordOp}
use Rattle.ae_word.specs.declared.op.WordOp.TheVariants.{Mux}
use Rattle.ae_netlist.specs.declared.cell.NetId.{NetId}
use Rattle.ae_netlist.specs.declared.cell.Cell.{Cell}
use Rattle.ae_netlist.specs.declared.cell.Cell.TheVariants.{Input, Const, Op, Reg, Mem, Peek}
use Rattle.ae_netlist.specs.declared.cell.SizedCell.{SizedCell}
use Rattle.ae_netlist.specs.Circuit.{IsNet, IsMemory, IsConstantBelow, IsAddress, IsPlain, width_of, main_operand, OperandsAre, IsOperation, IsPeek, IsWritten, CellFits, SizedCellFits, IsFormed, IsRegister, HaveNets, Extends}
use Rattle.ae_netlist.specs.declared.cell.Outlet.{Outlet}
use Rattle.ae_netlist.proofs.Gets.{get_left, get_push_cases, get_from_take, get_take_within, get_in_take, get_set_other, get_set_same}

pub extends_refl : (a : List SizedCell) → Extends a a
extends_refl a = record { keeps = λ n sized h. h }

pub extends_trans : {a b c : List SizedCell} → Extends a b → Extends b c → Extends a c
extends_trans p q = record { keeps = λ n sized h. q.keeps n sized (p.keeps n sized h) }

pub extends_append : (a b : List SizedCell) → Extends a (a ++ b)
extends_append a b = record { keeps = λ n sized h. get_left a b n sized h }

pub extends_length : (a b : List SizedCell) → Extends a b → length a ≤ length b
extends_length a b e = elim (cases_lt (length b) (length a)) [
  | inr l ↦ l
  | inl g ↦
      let d : SizedCell = record { width = 0; cell = Const 0 } in
      let found : slice_get a (length b) ≡ Some (get_or a (length b) d) = slice_get-get_or a (length b) d g in
      let w : length b < length b = slice_get_within b (length b) _ (e.keeps (length b) _ found) in
      absurd (omega arith)
]

pub width_is : (cells : List SizedCell) (n : ℕ) (sized : SizedCell) → slice_get cells n ≡ Some sized → width_of cells n ≡ sized.width
unfolding width_of
width_is cells n sized h = rw h refl

pub net_width : {cells : List SizedCell} {n w : ℕ} → IsNet cells n w → width_of cells n ≡ w
net_width {cells} {n} h = width_is cells n h.sized h.found ∙ h.wide

pub net_later : {a b : List SizedCell} {n w : ℕ} → Extends a b → IsNet a n w → IsNet b n w
net_later {n} e h = record { sized = h.sized; found = e.keeps n h.sized h.found; plain = h.plain; wide = h.wide }

pub same_sized : (a b : SizedCell) → a.width ≡ b.width → a.cell ≡ b.cell → a ≡ b
same_sized a b p q = ap (λ w. record { width = w; cell = a.cell }) p ∙ ap (λ c. record { width = b.width; cell = c }) q

same_depth : (d e : ℕ) (a b c x y z at next enable : NetId) → Mem d a b c ≡ Mem e x y z → Mem d at next enable ≡ Mem e at next enable
same_depth d e a b c x y z at next enable is = let k : d ≡ e = cc in ap (λ i. Mem i at next enable) k

-- what holds of each operand alone passes over to all
pub operands_map : (op : WordOp) (P Q : ℕ → ℕ → Type 0) (args : List NetId) (w : ℕ) → ((n v : ℕ) → P n v → Q n v) → OperandsAre op P args w
    → OperandsAre op Q args w
operands_map Mux P Q args w f h = (f _ _ h.0, f _ _ h.1, f _ _ h.2)
operands_map _ P Q args w f h = (f _ _ h.0, f _ _ h.1, f _ _ h.2)

-- the main operand is one of them
pub main_is : (op : WordOp) (P : ℕ → ℕ → Type 0) (args : List NetId) (w : ℕ) → OperandsAre op P args w → P (main_operand op args) w
main_is Mux P args w h = h.1
main_is _ P args w h = h.0

-- an operation stays one where every net stays
pub operation_later : (a b : List SizedCell) (op : WordOp) (args : List NetId) (w : ℕ) → ((n v : ℕ) → IsNet a n v → IsNet b n v) → IsOperation a op args w
    → IsOperation b op args w
operation_later a b op args w keep h =
    let e : width_of b (main_operand op args) ≡ width_of a (main_operand op args) = net_width (keep _ _ (main_is op (IsNet a) args _ h.operands)) in
    record {
      unsigned = h.unsigned;
      range = h.range;
      operands = rw e (operands_map op (IsNet a) (IsNet b) args _ keep h.operands);
      result = rw e h.result;
    }

-- every net, every memory and every constant stays, with its width, its depth or its word
pub record Keeps (a b : List SizedCell) : Type 0 where
  pub nets : (n v : ℕ) → IsNet a n v → IsNet b n v
  pub memories : (n v d : ℕ) → IsMemory a n v d → IsMemory b n v d
  pub constants : (n d : ℕ) → IsConstantBelow a n d → IsConstantBelow b n d

pub keeps_extends : {a b : List SizedCell} → Extends a b → Keeps a b
keeps_extends e = record {
  nets = λ n v h. net_later e h;
  memories = λ n v d h. record { at = h.at; next = h.next; enable = h.enable; found = e.keeps n _ h.found };
  constants = λ n d h. record { width = h.width; constant = h.constant; found = e.keeps n _ h.found; below = h.below };
}

-- a net of its own width stays one
own_later : (a b : List SizedCell) (n : ℕ) → Keeps a b → IsNet a n (width_of a n) → IsNet b n (width_of b n)
own_later a b n k h =
    let e : width_of b n ≡ width_of a n = net_width (k.nets n _ h) in
    rw e (k.nets n _ h)

pub address_later : (a b : List SizedCell) (at depth : ℕ) → Keeps a b → IsAddress a at depth → IsAddress b at depth
address_later a b at depth k h =
    let e : width_of b at ≡ width_of a at = net_width (k.nets at _ h.net) in
    record {
      net = own_later a b at k h.net;
      inside = elim h.inside [ inl u ↦ inl (rw e u) | inr u ↦ inr (k.constants at depth u) ];
    }

peek_later : (a b : List SizedCell) (w m at : ℕ) → Keeps a b → IsPeek a w m at → IsPeek b w m at
peek_later a b w m at k h = record { depth = h.depth; memory = k.memories _ _ _ h.memory; address = address_later a b at h.depth k h.address }

pub written_later : (a b : List SizedCell) (w depth at next enable : ℕ) → Keeps a b → IsWritten a w depth at next enable → IsWritten b w depth at next enable
written_later a b w depth at next enable k h = record { address = address_later a b at depth k h.address; word = k.nets _ _ h.word; bit = k.nets _ _ h.bit }

cell_later : (a b all more : List SizedCell) (own w : ℕ) (cell : Cell) → Keeps a b → Keeps all more → CellFits a all own w cell → CellFits b more own w cell
cell_later a b all more own w (Input port) f g h = tt
cell_later a b all more own w (Const k) f g h = h
cell_later a b all more own w (Op op args) f g h = operation_later a b op args w f.nets h
cell_later a b all more own w (Reg next) f g h = g.nets _ _ h
cell_later a b all more own w (Mem depth at next enable) f g h =
    (h.0, h.1, elim h.2 [ inl u ↦ inl u | inr u ↦ inr (written_later all more w depth at.0 next.0 enable.0 g u) ])
cell_later a b all more own w (Peek mem at) f g h = peek_later a b w mem.0 at.0 f h

pub fits_later : (a b all more : List SizedCell) (own : ℕ) (sized : SizedCell) → Keeps a b → Keeps all more → SizedCellFits a all own sized
    → SizedCellFits b more own sized
fits_later a b all more own sized f g h = record { low = h.low; high = h.high; cell = cell_later a b all more own sized.width sized.cell f g h.cell }

-- one more cell
pub formed_push : (cells : List SizedCell) (sized : SizedCell) → IsFormed cells → SizedCellFits cells (cells ++ sized ∷ []) (length cells) sized
    → IsFormed (cells ++ sized ∷ [])
formed_push cells sized formed fits = record {
  each = λ n found h. elim (get_push_cases cells sized n found h) [
    | inl w ↦
        let le : n ≤ length cells = omega arith in
        let same : take n (cells ++ sized ∷ []) ≡ take n cells = take-append-le n cells (sized ∷ []) le in
        fits_later (take n cells) (take n (cells ++ sized ∷ [])) cells (cells ++ sized ∷ []) n found
        (record { nets = λ m v k. rw same k; memories = λ m v d k. rw same k; constants = λ m d k. rw same k })
        (keeps_extends (extends_append cells (sized ∷ [])))
        (formed.each n found w.0)
    | inr w ↦
        let e : take n (cells ++ sized ∷ []) ≡ cells = take_at cells (sized ∷ []) n (sym w.0) in
        rw e (rw w.0 (subst (λ (x : SizedCell). SizedCellFits cells (cells ++ sized ∷ []) (length cells) x) w.1 fits))
  ];
}

-- a new memory names itself
pub memory_fits : (cells more : List SizedCell) (w depth : ℕ) → 1 ≤ w → w ≤ 64 → 1 ≤ depth → depth ≤ 65536
    → let own : NetId = record { 0 = length cells } in SizedCellFits cells more (length cells) (record { width = w; cell = Mem depth own own own })
memory_fits cells more w depth lo hi some most =
    record { low = lo; high = hi; cell = (some, most, inl (record { at_own = refl; next_own = refl; enable_own = refl })) }

-- a cell that may take the place of another: as a net, as a memory and as a constant it is the same
pub record StandsFor (new old : SizedCell) : Type 0 where
  pub plain : IsPlain old.cell → IsPlain new.cell
  pub wide : new.width ≡ old.width
  pub memory : (depth : ℕ) (at next enable : NetId) → old.cell ≡ Mem depth at next enable → (a : NetId) × (b : NetId) × (c : NetId)
      × (new.cell ≡ Mem depth a b c)
  pub constant : (k : ℕ) → old.cell ≡ Const k → new.cell ≡ Const k

net_replaced : (cells : List SizedCell) (r : ℕ) (new old : SizedCell) → slice_get cells r ≡ Some old → StandsFor new old → (n v : ℕ) → IsNet cells n v
    → IsNet (set cells r new) n v
net_replaced cells r new old there s n v h =
    elim (cases_eq n r) [
      | inl e ↦
          let same : Some h.sized ≡ Some old = sym h.found ∙ (ap (slice_get cells) e ∙ there) in
          let is : h.sized ≡ old = cc in
          record {
            sized = new;
            found = ap (slice_get (set cells r new)) e ∙ get_set_same cells r new old there;
            plain = s.plain (subst (λ (x : SizedCell). IsPlain x.cell) is h.plain);
            wide = s.wide ∙ (ap (λ (x : SizedCell). x.width) (sym is) ∙ h.wide);
          }
      | inr ne ↦ record { sized = h.sized; found = get_set_other cells r n _ ne ∙ h.found; plain = h.plain; wide = h.wide }
    ]

is_memory : (cells : List SizedCell) (n v d : ℕ) (new : SizedCell) → slice_get cells n ≡ Some new → new.width ≡ v → (a : NetId) × (b : NetId) × (c : NetId)
    × (new.cell ≡ Mem d a b c) → IsMemory cells n v d
is_memory cells n v d new there w m =
    record {
      at = m.0;
      next = m.1;
      enable = m.2;
      found = there ∙
          ap (λ (x : SizedCell). Some x) (same_sized new (record { width = v; cell = Mem d m.0 m.1 m.2 }) w m.3);
    }

memory_replaced : (cells : List SizedCell) (r : ℕ) (new old : SizedCell) → slice_get cells r ≡ Some old → StandsFor new old → (n v d : ℕ)
    → IsMemory cells n v d → IsMemory (set cells r new) n v d
memory_replaced cells r new old there s n v d h =
    elim (cases_eq n r) [
      | inl e ↦
          let same : Some (record { width = v; cell = Mem d h.at h.next h.enable }) ≡ Some old = sym h.found ∙ (ap (slice_get cells) e ∙ there) in
          let is : record { width = v; cell = Mem d h.at h.next h.enable } ≡ old = cc in
          let w : new.width ≡ v = s.wide ∙ ap (λ (x : SizedCell). x.width) (sym is) in
          is_memory (set cells r new) n v d new (ap (slice_get (set cells r new)) e ∙ get_set_same cells r new old there) w
          (s.memory d h.at h.next h.enable (ap (λ (x : SizedCell). x.cell) (sym is)))
      | inr ne ↦ record { at = h.at; next = h.next; enable = h.enable; found = get_set_other cells r n _ ne ∙ h.found }
    ]

constant_replaced : (cells : List SizedCell) (r : ℕ) (new old : SizedCell) → slice_get cells r ≡ Some old → StandsFor new old → (n d : ℕ)
    → IsConstantBelow cells n d → IsConstantBelow (set cells r new) n d
constant_replaced cells r new old there s n d h =
    elim (cases_eq n r) [
      | inl e ↦
          let same : Some (record { width = h.width; cell = Const h.constant }) ≡ Some old = sym h.found ∙ (ap (slice_get cells) e ∙ there) in
          let is : record { width = h.width; cell = Const h.constant } ≡ old = cc in
          let k : new.cell ≡ Const h.constant = s.constant h.constant (ap (λ (x : SizedCell). x.cell) (sym is)) in
          let w : new.width ≡ h.width = s.wide ∙ ap (λ (x : SizedCell). x.width) (sym is) in
          record {
            width = h.width;
            constant = h.constant;
            found = ap (slice_get (set cells r new)) e ∙
                (get_set_same cells r new old there ∙ ap (λ (x : SizedCell). Some x)
                (same_sized new (record { width = h.width; cell = Const h.constant }) w k));
            below = h.below;
          }
      | inr ne ↦ record { width = h.width; constant = h.constant; found = get_set_other cells r n _ ne ∙ h.found; below = h.below }
    ]

pub keeps_replaced : (cells : List SizedCell) (r : ℕ) (new old : SizedCell) → slice_get cells r ≡ Some old → StandsFor new old → Keeps cells (set cells r new)
keeps_replaced cells r new old there s = record {
  nets = net_replaced cells r new old there s;
  memories = memory_replaced cells r new old there s;
  constants = constant_replaced cells r new old there s;
}

pub net_from_take : (cells : List SizedCell) (k n w : ℕ) → IsNet (take k cells) n w → IsNet cells n w
net_from_take cells k n w h = record { sized = h.sized; found = get_from_take cells k n h.sized h.found; plain = h.plain; wide = h.wide }

net_in_take : (cells : List SizedCell) (k n w : ℕ) → n < k → IsNet cells n w → IsNet (take k cells) n w
net_in_take cells k n w l h = record { sized = h.sized; found = get_in_take cells k n h.sized l h.found; plain = h.plain; wide = h.wide }

pub memory_from_take : (cells : List SizedCell) (k n w d : ℕ) → IsMemory (take k cells) n w d → IsMemory cells n w d
memory_from_take cells k n w d h = record { at = h.at; next = h.next; enable = h.enable; found = get_from_take cells k n _ h.found }

memory_in_take : (cells : List SizedCell) (k n w d : ℕ) → n < k → IsMemory cells n w d → IsMemory (take k cells) n w d
memory_in_take cells k n w d l h = record { at = h.at; next = h.next; enable = h.enable; found = get_in_take cells k n _ l h.found }

constant_from_take : (cells : List SizedCell) (k n d : ℕ) → IsConstantBelow (take k cells) n d → IsConstantBelow cells n d
constant_from_take cells k n d h = record { width = h.width; constant = h.constant; found = get_from_take cells k n _ h.found; below = h.below }

constant_in_take : (cells : List SizedCell) (k n d : ℕ) → n < k → IsConstantBelow cells n d → IsConstantBelow (take k cells) n d
constant_in_take cells k n d l h = record { width = h.width; constant = h.constant; found = get_in_take cells k n _ l h.found; below = h.below }

keeps_take : (a b : List SizedCell) (n : ℕ) → Keeps a b → Keeps (take n a) (take n b)
keeps_take a b n g = record {
  nets = λ m v k. net_in_take b n m v (get_take_within a n m k.sized k.found) (g.nets m v (net_from_take a n m v k));
  memories = λ m v d k. memory_in_take b n m v d (get_take_within a n m _ k.found) (g.memories m v d (memory_from_take a n m v d k));
  constants = λ m d k. constant_in_take b n m d (get_take_within a n m _ k.found) (g.constants m d (constant_from_take a n m d k));
}

pub formed_replaced : (cells : List SizedCell) (r : ℕ) (new old : SizedCell) → slice_get cells r ≡ Some old → StandsFor new old → IsFormed cells
    → SizedCellFits (take r (set cells r new)) (set cells r new) r new → IsFormed (set cells r new)
formed_replaced cells r new old there s formed fits =
    let more : List SizedCell = set cells r new in
    let keep : Keeps cells more = keeps_replaced cells r new old there s in
    record {
      each = λ n sized h. elim (cases_eq n r) [
        | inl e ↦
            let same : Some sized ≡ Some new = sym h ∙ (ap (slice_get more) e ∙ get_set_same cells r new old there) in
            let is : new ≡ sized = cc in
            rw e (subst (λ (x : SizedCell). SizedCellFits (take r more) more r x) is fits)
        | inr ne ↦
            fits_later (take n cells) (take n more) cells more n sized (keeps_take cells more n keep) keep
            (formed.each n sized (sym (get_set_other cells r n _ ne) ∙ h))
      ];
    }

-- a register that is connected stands for itself
pub register_stands : (w : ℕ) (before next : NetId) → StandsFor (record { width = w; cell = Reg next }) (record { width = w; cell = Reg before })
register_stands w before next = record { plain = λ p. tt; wide = refl; memory = λ d a b c e. cc; constant = λ k e. cc }

-- and so does a memory
pub memory_stands : (w d : ℕ) (a b c at next enable : NetId)
    → StandsFor (record { width = w; cell = Mem d at next enable }) (record { width = w; cell = Mem d a b c })
memory_stands w d a b c at next enable = record {
  plain = λ p. p;
  wide = refl;
  memory = λ e x y z is. (at, next, enable, same_depth d e a b c x y z at next enable is);
  constant = λ k e. cc;
}

pub keeps_connected : (cells : List SizedCell) (r w : ℕ) (next : NetId) → IsRegister cells r w
    → Keeps cells (set cells r (record { width = w; cell = Reg next }))
keeps_connected cells r w next reg = keeps_replaced cells r _ _ reg.found (register_stands w reg.next next)

pub keeps_written : (cells : List SizedCell) (m w d : ℕ) (at next enable : NetId) → IsMemory cells m w d
    → Keeps cells (set cells m (record { width = w; cell = Mem d at next enable }))
keeps_written cells m w d at next enable mem = keeps_replaced cells m _ _ mem.found (memory_stands w d mem.at mem.next mem.enable at next enable)

pub formed_connected : (cells : List SizedCell) (r w : ℕ) (next : NetId) → IsFormed cells → IsRegister cells r w → IsNet cells next.0 w
    → IsFormed (set cells r (record { width = w; cell = Reg next }))
formed_connected cells r w next formed reg there =
    let old = formed.each r _ reg.found in
    formed_replaced cells r _ _ reg.found (register_stands w reg.next next) formed
    (record { low = old.low; high = old.high; cell = (keeps_connected cells r w next reg).nets _ _ there })

pub formed_written : (cells : List SizedCell) (m w d : ℕ) (at next enable : NetId) → IsFormed cells → IsMemory cells m w d
    → IsWritten cells w d at.0 next.0 enable.0
    → IsFormed (set cells m (record { width = w; cell = Mem d at next enable }))
formed_written cells m w d at next enable formed mem written =
    let old = formed.each m _ mem.found in
    let keep = keeps_written cells m w d at next enable mem in
    formed_replaced cells m _ _ mem.found (memory_stands w d mem.at mem.next mem.enable at next enable) formed
    (record { low = old.low; high = old.high; cell = (old.cell.0, old.cell.1, inr (written_later _ _ w d at.0 next.0 enable.0 keep written)) })

-- outputs go on to show nets
pub nets_later : (a b : List SizedCell) (outlets : List Outlet) → Keeps a b → HaveNets a outlets → HaveNets b outlets
nets_later a b outlets k h = record { each = λ i outlet g. own_later a b outlet.net.0 k (h.each i outlet g) }
