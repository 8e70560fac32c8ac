-- A netlist that is made once more has the same cells.
use Rattle.std.proofs.Common.{ℕ, suc, ◌≡◌, ◌≢◌, ◌+◌, ◌≤◌, List, [], ◌∷◌, ◌++◌, length, length-append, length-set, take, set, Some, slice_get, inl, inr, arith, refl, ap, sym, ◌∙◌, subst}
use Rattle.std.specs.Prelude.{◌⊎◌}
use Rattle.std.proofs.lemmas.Bool.{cases_eq, cases_lt}
use Rattle.std.proofs.lemmas.Option.{slice_get_within, same_Some}
use Rattle.ae_netlist.specs.declared.cell.NetId.{NetId}
use Rattle.ae_netlist.specs.declared.cell.Cell.{Cell}
use Rattle.ae_netlist.specs.declared.cell.Cell.TheVariants.{Input, Const, Op, Reg, Mem, Peek}
use Rattle.ae_netlist.specs.declared.cell.SizedCell.{SizedCell}
use Rattle.ae_netlist.specs.Circuit.{CellFits, IsAllowed, IsConstantBelow, IsFormed, IsMemory, IsNet, IsPlain, IsRegister, IsWritten, NamesItself, SizedCellFits, depth_of, new_memory, new_register, width_of}
use Rattle.ae_netlist.proofs.Gets.{get_from_take, get_left, get_pushed, get_set_other, get_set_same, get_take_within}
use Rattle.ae_netlist.proofs.Growing.{Keeps, extends_refl, fits_later, keeps_extends, width_is}
use Rattle.ae_control.specs.Controls.{net}
use Rattle.ae_streamed.specs.Room.{IsBegun, IsMade, begun, begun_at}
use Rattle.ae_clocked.proofs.Connecting.{net_own}

-- ---- cells that stand there, as they are or named after themselves

begun_plain : (own : ℕ) (cell : Cell) → IsPlain cell → IsPlain (begun own cell)
begun_plain own (Input port) h = tt
begun_plain own (Const k) h = tt
begun_plain own (Op op args) h = tt
begun_plain own (Reg next) h = tt
begun_plain own (Mem depth at next enable) h = h
begun_plain own (Peek mem at) h = tt

pub begun_other : (own : ℕ) (cell : Cell) → ((next : NetId) → cell ≢ Reg next) → ((depth : ℕ) (at next enable : NetId) → cell ≢ Mem depth at next enable)
    → begun own cell ≡ cell
begun_other own (Input port) p q = refl
begun_other own (Const k) p q = refl
begun_other own (Op op args) p q = refl
begun_other own (Reg next) p q = absurd (p next refl)
begun_other own (Mem depth at next enable) p q = absurd (q depth at next enable refl)
begun_other own (Peek mem at) p q = refl

record AreThere (cells new : List SizedCell) : Type 0 where
  each : (n : ℕ) (sized : SizedCell) → slice_get cells n ≡ Some sized → (slice_get new n ≡ Some sized) ⊎ (slice_get new n ≡ Some (begun_at n sized))

keeps_there : (cells new : List SizedCell) → AreThere cells new → Keeps cells new
keeps_there cells new t = record {
  nets = λ n v h. net_there n v h (t.each n h.sized h.found);
  memories = λ n v d h. memory_there n v d h (t.each n _ h.found);
  constants = λ n d h. constant_there n d h (t.each n _ h.found);
}
  where
    net_there : (n v : ℕ) (h : IsNet cells n v) → (slice_get new n ≡ Some h.sized) ⊎ (slice_get new n ≡ Some (begun_at n h.sized)) → IsNet new n v
    net_there n v h (inl e) = record { sized = h.sized; found = e; plain = h.plain; wide = h.wide }
    net_there n v h (inr e) = record { sized = begun_at n h.sized; found = e; plain = begun_plain n h.sized.cell h.plain; wide = h.wide }

    memory_there : (n v d : ℕ) (h : IsMemory cells n v d) → (slice_get new n ≡ Some (record { width = v; cell = Mem d h.at h.next h.enable }))
        ⊎ (slice_get new n ≡ Some (record { width = v; cell = Mem d (net n) (net n) (net n) })) → IsMemory new n v d
    memory_there n v d h (inl e) = record { at = h.at; next = h.next; enable = h.enable; found = e }
    memory_there n v d h (inr e) = record { at = net n; next = net n; enable = net n; found = e }

    constant_there : (n d : ℕ) (h : IsConstantBelow cells n d) → (slice_get new n ≡ Some (record { width = h.width; cell = Const h.constant }))
        ⊎ (slice_get new n ≡ Some (record { width = h.width; cell = Const h.constant })) → IsConstantBelow new n d
    constant_there n d h (inl e) = record { width = h.width; constant = h.constant; found = e; below = h.below }
    constant_there n d h (inr e) = record { width = h.width; constant = h.constant; found = e; below = h.below }

-- ---- cells are added

begun_there : (old new : List SizedCell) (n : ℕ) → IsBegun old new n → AreThere (take n old) new
begun_there old new n b = record { each = λ m sized h. inr (b.each m sized (get_take_within old n m sized h) (get_from_take old n m sized h)) }

pub begun_fits : (old new : List SizedCell) (n : ℕ) (sized : SizedCell) → IsFormed old → slice_get old n ≡ Some sized → IsBegun old new n
    → SizedCellFits new old n sized
begun_fits old new n sized formed found b =
    fits_later (take n old) new old old n sized (keeps_there (take n old) new (begun_there old new n b)) (keeps_extends (extends_refl old))
    (formed.each n sized found)

-- what fits and is neither a register nor a memory may be added
pub may_add : (old new : List SizedCell) (n width : ℕ) (cell : Cell) → ((next : NetId) → cell ≢ Reg next)
    → ((depth : ℕ) (at next enable : NetId) → cell ≢ Mem depth at next enable)
    → CellFits new old n width cell → IsAllowed new width cell
may_add old new n width (Input port) p q h = tt
may_add old new n width (Const k) p q h = h
may_add old new n width (Op op args) p q h = h
may_add old new n width (Reg next) p q h = absurd (p next refl)
may_add old new n width (Mem depth at next enable) p q h = absurd (q depth at next enable refl)
may_add old new n width (Peek mem at) p q h = h

pub memory_deep : (old new : List SizedCell) (n : ℕ) (sized : SizedCell) (depth : ℕ) (at next enable : NetId) → sized.cell ≡ Mem depth at next enable
    → SizedCellFits new old n sized → (1 ≤ depth) × (depth ≤ 65536)
memory_deep old new n sized depth at next enable is f = (let g = subst (CellFits new old n sized.width) is f.cell in (g.0, g.1))

pub begun_none : (old : List SizedCell) → IsBegun old [] 0
begun_none old = record { within = omega arith; long = refl; each = λ n sized l h. absurd (omega (arith, l)) }

pub begun_more : (old new after : List SizedCell) (n : ℕ) (sized y : SizedCell) → slice_get old n ≡ Some sized → IsBegun old new n → y ≡ begun_at n sized
    → after ≡ new ++ y ∷ [] → IsBegun old after (n + 1)
begun_more old new after n sized y found b is grown = rw grown (record {
  within = (let l = slice_get_within old n sized found in omega (arith, l));
  long = omega (arith, length-append new (y ∷ []), b.long);
  each = λ m x l h. elim (cases_lt m n) [
    | inl low ↦ get_left new (y ∷ []) m (begun_at m x) (b.each m x low h)
    | inr high ↦
        let z : m ≡ n = omega (arith, l, high) in
        let same : sized ≡ x = same_Some sized x (sym found ∙ (ap (slice_get old) (sym z) ∙ h)) in
        let own : m ≡ length new = z ∙ sym b.long in
        ap (slice_get (new ++ y ∷ [])) own ∙ (get_pushed new y ∙
        ap (λ (v : SizedCell). Some v) (is ∙ (ap (λ k. begun_at k sized) (sym z) ∙ ap (begun_at m) same)))
  ];
})

-- ---- registers and memories are connected

pub made_none : (old new : List SizedCell) → IsBegun old new (length old) → IsMade old new 0
made_none old new b = record {
  long = b.long;
  within = omega arith;
  done = λ n sized l h. absurd (omega (arith, l));
  rest = λ n sized l h. b.each n sized (slice_get_within old n sized h) h;
}

made_there : (old new : List SizedCell) (n : ℕ) → IsMade old new n → AreThere old new
made_there old new n d = record {
  each = λ m sized h. elim (cases_lt m n) [
    | inl low ↦ inl (d.done m sized low h)
    | inr high ↦ inr (d.rest m sized high h)
  ];
}

made_before : (old new : List SizedCell) (n : ℕ) → IsMade old new n → AreThere (take n old) new
made_before old new n d = record { each = λ m sized h. inl (d.done m sized (get_take_within old n m sized h) (get_from_take old n m sized h)) }

made_fits : (old new : List SizedCell) (n : ℕ) (sized : SizedCell) → IsFormed old → slice_get old n ≡ Some sized → IsMade old new n
    → SizedCellFits new new n sized
made_fits old new n sized formed found d =
    fits_later (take n old) new old new n sized (keeps_there (take n old) new (made_before old new n d)) (keeps_there old new (made_there old new n d))
    (formed.each n sized found)

own_there : (old new : List SizedCell) (n : ℕ) (sized : SizedCell) (cell : Cell) → slice_get old n ≡ Some sized → sized.cell ≡ cell → IsMade old new n
    → slice_get new n ≡ Some (record { width = sized.width; cell = begun n cell })
own_there old new n sized cell found is d = d.rest n sized (omega arith) found ∙ ap (λ (c : Cell). Some (record { width = sized.width; cell = begun n c })) is

same_cell : (sized : SizedCell) (width : ℕ) (cell : Cell) → width ≡ sized.width → sized.cell ≡ cell → record { width = width; cell = cell } ≡ sized
same_cell sized width cell w is = ap (λ v. record { width = v; cell = cell }) w ∙ ap (λ (c : Cell). record { width = sized.width; cell = c }) (sym is)

made_set : (old new : List SizedCell) (n : ℕ) (sized y z : SizedCell) → slice_get old n ≡ Some sized → IsMade old new n → slice_get new n ≡ Some y → z ≡ sized
    → IsMade old (set new n z) (n + 1)
made_set old new n sized y z found d there is = record {
  long = length-set new n z ∙ d.long;
  within = (let l = slice_get_within old n sized found in omega (arith, l));
  done = λ m x l h. elim (cases_eq m n) [
    | inl e ↦
        let same : sized ≡ x = same_Some sized x (sym found ∙ (ap (slice_get old) (sym e) ∙ h)) in
        ap (slice_get (set new n z)) e ∙ (get_set_same new n z y there ∙ ap (λ (v : SizedCell). Some v) (is ∙ same))
    | inr ne ↦ get_set_other new n m z ne ∙ d.done m x (omega (arith, l, ne)) h
  ];
  rest = λ m x l h. get_set_other new n m z (λ e. omega (arith, l, e)) ∙ d.rest m x (omega (arith, l)) h;
}

-- a cell that needs no connection
pub made_idle : (old new : List SizedCell) (n : ℕ) (sized : SizedCell) → slice_get old n ≡ Some sized → IsMade old new n → begun n sized.cell ≡ sized.cell
    → IsMade old new (n + 1)
made_idle old new n sized found d is = record {
  long = d.long;
  within = (let l = slice_get_within old n sized found in omega (arith, l));
  done = λ m x l h. elim (cases_lt m n) [
    | inl low ↦ d.done m x low h
    | inr high ↦
        let z : m ≡ n = omega (arith, l, high) in
        let same : sized ≡ x = same_Some sized x (sym found ∙ (ap (slice_get old) (sym z) ∙ h)) in
        ap (slice_get new) z ∙ (d.rest n sized (omega arith) found ∙
        (ap (λ (c : Cell). Some (record { width = sized.width; cell = c })) is ∙ ap (λ (v : SizedCell). Some v) same))
  ];
  rest = λ m x l h. d.rest m x (omega (arith, l)) h;
}

pub register_there : (old new : List SizedCell) (n : ℕ) (sized : SizedCell) (next : NetId) → slice_get old n ≡ Some sized → sized.cell ≡ Reg next
    → IsMade old new n → IsRegister new n sized.width
register_there old new n sized next found is d = record { next = net n; found = own_there old new n sized (Reg next) found is d }

pub register_next : (old new : List SizedCell) (n : ℕ) (sized : SizedCell) (next : NetId) → IsFormed old → slice_get old n ≡ Some sized → sized.cell ≡ Reg next
    → IsMade old new n → IsNet new next.0 (width_of new n)
register_next old new n sized next formed found is d =
    net_own (register_there old new n sized next found is d) (subst (CellFits new new n sized.width) is (made_fits old new n sized formed found d).cell)

pub register_made : (old new after : List SizedCell) (n : ℕ) (sized : SizedCell) (next : NetId) → slice_get old n ≡ Some sized → sized.cell ≡ Reg next
    → IsMade old new n
    → after ≡ set new n (record { width = width_of new n; cell = Reg next }) → IsMade old after (n + 1)
register_made old new after n sized next found is d set_is =
    let there = own_there old new n sized (Reg next) found is d in
    rw set_is (made_set old new n sized _ _ found d there (same_cell sized (width_of new n) (Reg next) (width_is new n _ there) is))

depth_is : (cells : List SizedCell) (n w depth : ℕ) (at next enable : NetId) → slice_get cells n ≡ Some (record { width = w; cell = Mem depth at next enable })
    → depth_of cells n ≡ depth
unfolding depth_of
depth_is cells n w depth at next enable h = rw h refl

memory_own : (old new : List SizedCell) (n : ℕ) (sized : SizedCell) (depth : ℕ) (at next enable : NetId) → slice_get old n ≡ Some sized
    → sized.cell ≡ Mem depth at next enable → IsMade old new n
    → (width_of new n ≡ sized.width) × (depth_of new n ≡ depth)
memory_own old new n sized depth at next enable found is d =
    let there = own_there old new n sized (Mem depth at next enable) found is d in
    (width_is new n _ there, depth_is new n sized.width depth (net n) (net n) (net n) there)

pub memory_there : (old new : List SizedCell) (n : ℕ) (sized : SizedCell) (depth : ℕ) (at next enable : NetId) → slice_get old n ≡ Some sized
    → sized.cell ≡ Mem depth at next enable → IsMade old new n
    → IsMemory new n (width_of new n) (depth_of new n)
memory_there old new n sized depth at next enable found is d =
    let own = memory_own old new n sized depth at next enable found is d in
    rw (own.0, own.1) (record { at = net n; next = net n; enable = net n; found = own_there old new n sized (Mem depth at next enable) found is d })

pub memory_written : (old new : List SizedCell) (n : ℕ) (sized : SizedCell) (depth : ℕ) (at next enable : NetId) → IsFormed old → slice_get old n ≡ Some sized
    → sized.cell ≡ Mem depth at next enable → IsMade old new n
    → (NamesItself n at.0 next.0 enable.0 → ⊥) → IsWritten new (width_of new n) (depth_of new n) at.0 next.0 enable.0
memory_written old new n sized depth at next enable formed found is d other =
    let own = memory_own old new n sized depth at next enable found is d in
    let fits = subst (CellFits new new n sized.width) is (made_fits old new n sized formed found d).cell in
    rw (own.0, own.1) (elim fits.2 [ inl u ↦ absurd (other u) | inr u ↦ u ])

pub memory_made : (old new after : List SizedCell) (n : ℕ) (sized : SizedCell) (depth : ℕ) (at next enable : NetId) → slice_get old n ≡ Some sized
    → sized.cell ≡ Mem depth at next enable → IsMade old new n
    → after ≡ set new n (record { width = width_of new n; cell = Mem (depth_of new n) at next enable }) → IsMade old after (n + 1)
memory_made old new after n sized depth at next enable found is d set_is =
    let own = memory_own old new n sized depth at next enable found is d in
    let there = own_there old new n sized (Mem depth at next enable) found is d in
    rw set_is (made_set old new n sized _ _ found d there
    (same_cell sized (width_of new n) (Mem (depth_of new n) at next enable) own.0 (is ∙ ap (λ k. Mem k at next enable) (sym own.1))))

pub memory_idle : (n depth : ℕ) (at next enable : NetId) (cell : Cell) → cell ≡ Mem depth at next enable → NamesItself n at.0 next.0 enable.0
    → begun n cell ≡ cell
memory_idle n depth at next enable cell is h =
    let a : net n ≡ at = ap net (sym h.at_own) in
    let b : net n ≡ next = ap net (sym h.next_own) in
    let e : net n ≡ enable = ap net (sym h.enable_own) in
    ap (begun n) is ∙ ((λ i. Mem depth (a i) (b i) (e i)) ∙ sym is)

-- ---- all cells

same_lists : {X : Type 0} (xs ys : List X) → length xs ≡ length ys → ((n : ℕ) (x : X) → slice_get ys n ≡ Some x → slice_get xs n ≡ Some x) → xs ≡ ys
same_lists [] [] l h = refl
same_lists [] (y ∷ ys) l h = absurd (omega (arith, l))
same_lists (x ∷ xs) [] l h = absurd (omega (arith, l))
same_lists (x ∷ xs) (y ∷ ys) l h =
    let head : x ≡ y = same_Some x y (h 0 y refl) in
    let tail : xs ≡ ys = same_lists xs ys (omega (arith, l)) (λ n z e. h (suc n) z e) in
    λ i. head i ∷ tail i

pub made_same : (old new : List SizedCell) (n : ℕ) → length old ≤ n → IsMade old new n → new ≡ old
made_same old new n all d = same_lists new old d.long (λ m x h. d.done m x (let l = slice_get_within old m x h in omega (arith, l, all)) h)

-- ---- what is added

pub register_begun : (sized : SizedCell) (next : NetId) (n k : ℕ) → sized.cell ≡ Reg next → k ≡ n → new_register k sized.width ≡ begun_at n sized
register_begun sized next n k is e = ap (λ v. new_register v sized.width) e ∙ ap (λ (c : Cell). record { width = sized.width; cell = begun n c }) (sym is)

pub memory_begun : (sized : SizedCell) (depth : ℕ) (at next enable : NetId) (n k : ℕ) → sized.cell ≡ Mem depth at next enable → k ≡ n
    → new_memory k sized.width depth ≡ begun_at n sized
memory_begun sized depth at next enable n k is e =
    ap (λ v. new_memory v sized.width depth) e ∙ ap (λ (c : Cell). record { width = sized.width; cell = begun n c }) (sym is)
