-- The clock after another: what registers and memories hold is known, and the rest follows.
use Rattle.std.proofs.Common.{ℕ, ◌≡◌, ◌<◌, ◌^◌, ◌==◌, inl, inr, List, [], length, take, set, map, Option, Some, None, slice_get, get_or, Bool, true, false, if◌then◌else◌, All, arith, refl, ap, ◌∙◌, length-set, eq-eqb}
use Rattle.std.specs.List.{range_with_len}
use Rattle.std.proofs.lemmas.Nat.{pow_pos}
use Rattle.std.proofs.lemmas.List.{get_or_past}
use Rattle.std.proofs.lemmas.List.Elements.{All-set}
use Rattle.std.proofs.lemmas.List.FromFn.{length-map-range_with_len, get_or-map-range_with_len}
use Rattle.std.proofs.lemmas.Bool.{cases_lt}
use Rattle.std.proofs.lemmas.Option.{slice_get_within}
use Rattle.ae_netlist.specs.declared.cell.Cell.{Cell}
use Rattle.ae_netlist.specs.declared.cell.Cell.TheVariants.{Input, Const, Op, Reg, Mem, Peek}
use Rattle.ae_netlist.specs.declared.cell.SizedCell.{SizedCell}
use Rattle.ae_netlist.specs.Circuit.{IsNet, IsPlain, CellFits, IsFormed}
use Rattle.ae_netlist.specs.Runs.{Clock, CellHolds, IsShaped}
use Rattle.ae_netlist.proofs.Settled.{cell_word, settle, settle_length, settled}
use Rattle.ae_netlist.proofs.Fits.{words_fit}
use Rattle.ae_netlist.proofs.Shapes.{cell_holds, each_holds}

-- the word of a cell that is not made of others in its clock, after the clock before, if there is one
abbrev pub free_word : Option Clock → Clock → ℕ → Cell → ℕ
free_word None g n cell = get_or g.words n 0
free_word (Some p) g n (Input port) = get_or g.words n 0
free_word (Some p) g n (Const k) = get_or g.words n 0
free_word (Some p) g n (Op op args) = get_or g.words n 0
free_word (Some p) g n (Reg next) = get_or p.words next.0 0
free_word (Some p) g n (Mem depth at next enable) = get_or g.words n 0
free_word (Some p) g n (Peek mem at) = get_or g.words n 0

abbrev pub stepped_store : Option Clock → Clock → ℕ → Cell → List ℕ
stepped_store None g n cell = get_or g.stores n []
stepped_store (Some p) g n (Input port) = []
stepped_store (Some p) g n (Const k) = []
stepped_store (Some p) g n (Op op args) = []
stepped_store (Some p) g n (Reg next) = []
stepped_store (Some p) g n (Mem depth at next enable) =
    if enable.0 == n
    then get_or p.stores n []
    else (if get_or p.words enable.0 0 == 1
    then set (get_or p.stores n []) (get_or p.words at.0 0) (get_or p.words next.0 0)
    else get_or p.stores n [])
stepped_store (Some p) g n (Peek mem at) = []

abbrev pub in_cell : {X : Type 0} → Option SizedCell → X → (Cell → X) → X
in_cell None d f = d
in_cell (Some sized) d f = f sized.cell

abbrev pub free_in : List SizedCell → Option Clock → Clock → ℕ → ℕ
free_in cells prev g n = in_cell (slice_get cells n) 0 (free_word prev g n)

abbrev pub store_in : List SizedCell → Option Clock → Clock → ℕ → List ℕ
store_in cells prev g n = in_cell (slice_get cells n) [] (stepped_store prev g n)

unfoldable pub next_clock : List SizedCell → Option Clock → Clock → Clock
next_clock cells prev g = record {
  words = settle cells (free_in cells prev g) (store_in cells prev g) [] cells;
  stores = map (store_in cells prev g) (range_with_len 0 (length cells));
}

abbrev pub IsShapedIfAny : List SizedCell → Option Clock → Type 0
IsShapedIfAny cells None = Unit {0}
IsShapedIfAny cells (Some p) = IsShaped cells p

-- a net that is no memory holds a word that fits
pub plain_fits : (cell : Cell) (width w : ℕ) (store : List ℕ) → IsPlain cell → CellHolds cell width w store → w < 2 ^ width
plain_fits (Input port) width w store p h = h.0
plain_fits (Const k) width w store p h = h.0
plain_fits (Op op args) width w store p h = h.0
plain_fits (Reg next) width w store p h = h.0
plain_fits (Mem depth at next enable) width w store p h = absurd p
plain_fits (Peek mem at) width w store p h = h.0

pub any_fits : (cell : Cell) (width w : ℕ) (store : List ℕ) → CellHolds cell width w store → w < 2 ^ width
any_fits (Input port) width w store h = h.0
any_fits (Const k) width w store h = h.0
any_fits (Op op args) width w store h = h.0
any_fits (Reg next) width w store h = h.0
any_fits (Mem depth at next enable) width w store h = let e : w ≡ 0 = h.0 in rw e (pow_pos width)
any_fits (Peek mem at) width w store h = h.0

net_holds : (cells : List SizedCell) (p : Clock) (m w : ℕ) → IsShaped cells p → IsNet cells m w → get_or p.words m 0 < 2 ^ w
net_holds cells p m w s k =
    rw (← k.wide) (plain_fits k.sized.cell k.sized.width (get_or p.words m 0) (get_or p.stores m []) k.plain (cell_holds s m k.sized k.found))

-- what a memory holds, and that nothing else has a store
abbrev pub StoreHolds : Cell → ℕ → List ℕ → Type 0
StoreHolds (Input port) width store = store ≡ []
StoreHolds (Const k) width store = store ≡ []
StoreHolds (Op op args) width store = store ≡ []
StoreHolds (Reg next) width store = store ≡ []
StoreHolds (Mem depth at next enable) width store = (length store ≡ depth) × All (λ v. v < 2 ^ width) store
StoreHolds (Peek mem at) width store = store ≡ []

pub store_of_cell : (cell : Cell) (width w : ℕ) (store : List ℕ) → CellHolds cell width w store → StoreHolds cell width store
store_of_cell (Input port) width w store h = h.1
store_of_cell (Const k) width w store h = h.1
store_of_cell (Op op args) width w store h = h.1
store_of_cell (Reg next) width w store h = h.1
store_of_cell (Mem depth at next enable) width w store h = (h.1, h.2)
store_of_cell (Peek mem at) width w store h = h.1

pub store_fits : (cell : Cell) (width : ℕ) (store : List ℕ) (i : ℕ) → StoreHolds cell width store → get_or store i 0 < 2 ^ width
store_fits (Input port) width store i h = rw h (pow_pos width)
store_fits (Const k) width store i h = rw h (pow_pos width)
store_fits (Op op args) width store i h = rw h (pow_pos width)
store_fits (Reg next) width store i h = rw h (pow_pos width)
store_fits (Mem depth at next enable) width store i h =
    elim (cases_lt i (length store)) [ inl l ↦ h.1 i 0 l | inr g ↦ rw (get_or_past store i 0 g) (pow_pos width) ]
store_fits (Peek mem at) width store i h = rw h (pow_pos width)

-- a written memory holds what a memory may
choice : {X : Type 0} (P : X → Type 0) (v : Bool) (x y : X) → P x → P y → P (if v then x else y)
choice P true x y p q = p
choice P false x y p q = q

store_steps : (cells : List SizedCell) (prev : Option Clock) (g : Clock) (n width : ℕ) (cell : Cell) → IsShapedIfAny cells prev → IsShaped cells g
    → slice_get cells n ≡ Some (record { width = width; cell = cell }) → CellFits (take n cells) cells n width cell
    → StoreHolds cell width (stepped_store prev g n cell)
store_steps cells None g n width cell sp sg h fits =
    store_of_cell cell width (get_or g.words n 0) (get_or g.stores n []) (cell_holds sg n (record { width = width; cell = cell }) h)
store_steps cells (Some p) g n width (Input port) sp sg h fits = refl
store_steps cells (Some p) g n width (Const k) sp sg h fits = refl
store_steps cells (Some p) g n width (Op op args) sp sg h fits = refl
store_steps cells (Some p) g n width (Reg next) sp sg h fits = refl
store_steps cells (Some p) g n width (Mem depth at next enable) sp sg h fits =
    let cell : Cell = Mem depth at next enable in
    let P : List ℕ → Type 0 = StoreHolds cell width in
    let old : List ℕ = get_or p.stores n [] in
    let kept : P old = store_of_cell cell width (get_or p.words n 0) old (cell_holds sp n (record { width = width; cell = cell }) h) in
    elim fits.2 [
      | inl u ↦ let t : (n == n) ≡ true = eq-eqb n n refl in rw (u.enable_own, t) kept
      | inr u ↦
          let new : List ℕ = set old (get_or p.words at.0 0) (get_or p.words next.0 0) in
          let written : P new = (
            length-set old (get_or p.words at.0 0) (get_or p.words next.0 0) ∙ kept.0,
            All-set (λ v. v < 2 ^ width) old (get_or p.words at.0 0) (get_or p.words next.0 0) (net_holds cells p next.0 width sp u.word) kept.1,
          ) in
          choice P (enable.0 == n) old (if get_or p.words enable.0 0 == 1 then new else old) kept
          (choice P (get_or p.words enable.0 0 == 1) new old written kept)
    ]
store_steps cells (Some p) g n width (Peek mem at) sp sg h fits = refl

free_steps : (cells : List SizedCell) (prev : Option Clock) (g : Clock) (n width : ℕ) (cell : Cell) → IsShapedIfAny cells prev → IsShaped cells g
    → slice_get cells n ≡ Some (record { width = width; cell = cell }) → CellFits (take n cells) cells n width cell → free_word prev g n cell < 2 ^ width
free_steps cells None g n width cell sp sg h fits =
    any_fits cell width (get_or g.words n 0) (get_or g.stores n []) (cell_holds sg n (record { width = width; cell = cell }) h)
free_steps cells (Some p) g n width (Reg next) sp sg h fits = net_holds cells p next.0 width sp fits
free_steps cells (Some p) g n width (Input port) sp sg h fits = any_fits (Input port) width (get_or g.words n 0) (get_or g.stores n []) (cell_holds sg n _ h)
free_steps cells (Some p) g n width (Const k) sp sg h fits = any_fits (Const k) width (get_or g.words n 0) (get_or g.stores n []) (cell_holds sg n _ h)
free_steps cells (Some p) g n width (Op op args) sp sg h fits = any_fits (Op op args) width (get_or g.words n 0) (get_or g.stores n []) (cell_holds sg n _ h)
free_steps cells (Some p) g n width (Mem depth at next enable) sp sg h fits =
    any_fits (Mem depth at next enable) width (get_or g.words n 0) (get_or g.stores n []) (cell_holds sg n _ h)
free_steps cells (Some p) g n width (Peek mem at) sp sg h fits = any_fits (Peek mem at) width (get_or g.words n 0) (get_or g.stores n []) (cell_holds sg n _ h)

-- what stands at a sized in the next clock
pub record IsNext (cells : List SizedCell) (prev : Option Clock) (g k : Clock) (n : ℕ) (sized : SizedCell) : Type 0 where
  pub word : get_or k.words n 0 ≡ cell_word cells (free_in cells prev g) (store_in cells prev g) k.words n sized.cell
  pub store : get_or k.stores n [] ≡ stepped_store prev g n sized.cell

pub next_at : (cells : List SizedCell) (prev : Option Clock) (g : Clock) (n : ℕ) (sized : SizedCell) → IsFormed cells → slice_get cells n ≡ Some sized
    → IsNext cells prev g (next_clock cells prev g) n sized
unfolding next_clock
next_at cells prev g n sized formed h = record {
  word = (settled cells (free_in cells prev g) (store_in cells prev g) formed).each n sized h;
  store =
      get_or-map-range_with_len (store_in cells prev g) 0 (length cells) n n [] (slice_get_within cells n sized h) (omega arith)
      ∙ ap (λ o. in_cell o [] (stepped_store prev g n)) h;
}

holds_by_cell : (cells : List SizedCell) (free : ℕ → ℕ) (stores : ℕ → List ℕ) (u : List ℕ) (n : ℕ) (cell : Cell) (width w : ℕ) (store : List ℕ)
    → w ≡ cell_word cells free stores u n cell → w < 2 ^ width → StoreHolds cell width store → CellHolds cell width w store
holds_by_cell cells free stores u n (Input port) width w store e l h = (l, h)
holds_by_cell cells free stores u n (Const k) width w store e l h = (l, h)
holds_by_cell cells free stores u n (Op op args) width w store e l h = (l, h)
holds_by_cell cells free stores u n (Reg next) width w store e l h = (l, h)
holds_by_cell cells free stores u n (Mem depth at next enable) width w store e l h = (e, h.0, h.1)
holds_by_cell cells free stores u n (Peek mem at) width w store e l h = (l, h)

pub next_shaped : (cells : List SizedCell) (prev : Option Clock) (g : Clock) → IsFormed cells → IsShapedIfAny cells prev → IsShaped cells g
    → IsShaped cells (next_clock cells prev g)
unfolding next_clock
next_shaped cells prev g formed sp sg =
    let free : ℕ → ℕ = free_in cells prev g in
    let stores : ℕ → List ℕ = store_in cells prev g in
    let store_holds : (n : ℕ) (sized : SizedCell) → slice_get cells n ≡ Some sized → StoreHolds sized.cell sized.width (stepped_store prev g n sized.cell) =
    λ n sized h. store_steps cells prev g n sized.width sized.cell sp sg h (formed.each n sized h).cell in
    let fit = words_fit cells free stores (settle cells free stores [] cells) formed (settled cells free stores formed)
    (λ m x h. rw h (free_steps cells prev g m x.width x.cell sp sg h (formed.each m x h).cell))
    (λ m i x h. rw h (store_fits x.cell x.width (stepped_store prev g m x.cell) i (store_holds m x h))) in
    record {
      words = settle_length cells free stores [] cells ∙ omega arith;
      stores = length-map-range_with_len stores 0 (length cells);
      holds = each_holds cells (next_clock cells prev g) (λ n sized h.
          let at = next_at cells prev g n sized formed h in
          holds_by_cell cells free stores (settle cells free stores [] cells) n sized.cell sized.width (get_or (settle cells free stores [] cells) n 0)
          (get_or (map stores (range_with_len 0 (length cells))) n [])
          at.word (fit n sized h) (rw at.store (store_holds n sized h)));
    }
