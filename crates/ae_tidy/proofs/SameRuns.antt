-- A run of the tidied netlist is one of the old netlist, read through the table.
use Rattle.std.proofs.Common.{ℕ, zero, suc, ◌≡◌, ◌+◌, ◌<◌, ◌^◌, List, [], length, map, take, replicate, Option, Some, None, slice_get, get_or, inl, inr, ◌≢◌, arith, refl, ap, sym, ◌∙◌, subst}
use Rattle.std.specs.Prelude.{◌==◌, unwrap_or}
use Rattle.std.specs.List.{range_with_len}
use Rattle.std.proofs.lemmas.Bool.{cases_eq, eq-eqb, ne_eqb}
use Rattle.std.proofs.lemmas.Nat.{pow_pos}
use Rattle.std.proofs.lemmas.List.{length-replicate}
use Rattle.std.proofs.lemmas.List.Elements.{All-replicate}
use Rattle.std.proofs.lemmas.List.FromFn.{length-map-range_with_len, get_or-map-range_with_len}
use Rattle.std.proofs.lemmas.Option.{slice_get_within}
use Rattle.ae_word.specs.declared.op.WordOp.{WordOp}
use Rattle.ae_word.specs.declared.op.WordOp.TheVariants.{Mux}
use Rattle.ae_word.specs.WordTable.{word_result}
use Rattle.ae_netlist.specs.declared.cell.NetId.{NetId}
use Rattle.ae_netlist.specs.declared.cell.Cell.{Cell}
use Rattle.ae_netlist.specs.declared.cell.Cell.TheVariants.{Input, Const, Op, Reg, Mem, Peek}
use Rattle.ae_netlist.specs.declared.cell.SizedCell.{SizedCell}
use Rattle.ae_netlist.specs.Circuit.{IsNet, IsPlain, IsFormed, depth_in_cell, depth_of, main_operand, operand, width_of}
use Rattle.ae_netlist.specs.Runs.{Clock, no_clock, word_at, store_at, CellHolds, IsShaped, IsRun, IsRunOn, Settles, Steps, HasOneRun}
use Rattle.ae_netlist.proofs.Gets.{get_take_within}
use Rattle.ae_netlist.proofs.Growing.{width_is}
use Rattle.ae_netlist.proofs.Settled.{each_operand}
use Rattle.ae_netlist.proofs.ReadAt.{store_got, word_got}
use Rattle.ae_netlist.proofs.Shapes.{clock_shaped, each_shaped, cell_holds, each_holds}
use Rattle.ae_tidy.specs.Images.{Maps, IsImage}
use Rattle.ae_tidy.proofs.Copying.{image_plain}

-- the new cell in the place of an old one
pub record IsAt (old new : List SizedCell) (table : List (Option NetId)) (n m : ℕ) : Type 0 where
  pub sized : SizedCell
  pub image : SizedCell
  pub found : slice_get old n ≡ Some sized
  pub there : slice_get new m ≡ Some image
  pub wide : image.width ≡ sized.width
  pub alike : IsImage table sized.cell image.cell

pub record AreImages (old new : List SizedCell) (table : List (Option NetId)) : Type 0 where
  pub each : (n m : ℕ) → Maps table n m → IsAt old new table n m

-- ---- the words of the new run, by old nets

abbrev word_in : List Clock → ℕ → Option (Option NetId) → ℕ
word_in run t None = 0
word_in run t (Some None) = 0
word_in run t (Some (Some m)) = word_at run t m.0

abbrev read_word : List Clock → List (Option NetId) → ℕ → ℕ → ℕ
read_word run table t n = word_in run t (slice_get table n)

-- a memory that has no place is full of 0
abbrev store_in : List Clock → ℕ → ℕ → Option (Option NetId) → List ℕ
store_in run t depth None = replicate depth 0
store_in run t depth (Some None) = replicate depth 0
store_in run t depth (Some (Some m)) = store_at run t m.0

abbrev read_store : List SizedCell → List Clock → List (Option NetId) → ℕ → ℕ → List ℕ
read_store old run table t n = store_in run t (depth_of old n) (slice_get table n)

abbrev read_clock : List SizedCell → List (Option NetId) → List Clock → ℕ → Clock
read_clock old table run t =
    record { words = map (read_word run table t) (range_with_len 0 (length old)); stores = map (read_store old run table t) (range_with_len 0 (length old)) }

abbrev read_run : List SizedCell → List (Option NetId) → List Clock → List Clock
read_run old table run = map (read_clock old table run) (range_with_len 0 (length run))

read_is : (old : List SizedCell) (table : List (Option NetId)) (run : List Clock) (t : ℕ) → t < length run
    → get_or (read_run old table run) t no_clock ≡ read_clock old table run t
read_is old table run t l = get_or-map-range_with_len (read_clock old table run) 0 (length run) t t no_clock l (omega arith)

maps_word : (table : List (Option NetId)) (run : List Clock) (t n m : ℕ) → Maps table n m → read_word run table t n ≡ word_at run t m
maps_word table run t n m h = ap (word_in run t) h.found

read_at : (old : List SizedCell) (table : List (Option NetId)) (run : List Clock) (t n m : ℕ) → t < length run → n < length old → Maps table n m
    → word_at (read_run old table run) t n ≡ word_at run t m
read_at old table run t n m l b h =
    rw (word_got (read_run old table run) t n, read_is old table run t l)
    (get_or-map-range_with_len (read_word run table t) 0 (length old) n n 0 b (omega arith) ∙ maps_word table run t n m h)

store_is : (old : List SizedCell) (table : List (Option NetId)) (run : List Clock) (t n m : ℕ) → t < length run → n < length old → Maps table n m
    → store_at (read_run old table run) t n ≡ store_at run t m
store_is old table run t n m l b h =
    rw (store_got (read_run old table run) t n, read_is old table run t l)
    (get_or-map-range_with_len (read_store old run table t) 0 (length old) n n [] b (omega arith) ∙
    ap (store_in run t (depth_of old n)) h.found)

-- what stands in the place of a net fits it
holds_back : (table : List (Option NetId)) (cell image : Cell) (width w : ℕ) (store : List ℕ) → IsImage table cell image → CellHolds image width w store
    → CellHolds cell width w store
holds_back table (Input port) image width w store h k = subst (λ (c : Cell). CellHolds c width w store) h k
holds_back table (Const n) image width w store h k = subst (λ (c : Cell). CellHolds c width w store) h k
holds_back table (Op op args) image width w store h k = subst (λ (c : Cell). CellHolds c width w store) h.1 k
holds_back table (Reg next) image width w store h k = subst (λ (c : Cell). CellHolds c width w store) h.1 k
holds_back table (Mem depth at next enable) image width w store h k = subst (λ (c : Cell). CellHolds c width w store) h.3 k
holds_back table (Peek mem at) image width w store h k = subst (λ (c : Cell). CellHolds c width w store) h.2 k

-- and so does 0
holds_none : (cell : Cell) (width : ℕ) → CellHolds cell width 0 (replicate (depth_in_cell cell) 0)
holds_none (Input port) width = (pow_pos width, refl)
holds_none (Const k) width = (pow_pos width, refl)
holds_none (Op op args) width = (pow_pos width, refl)
holds_none (Reg next) width = (pow_pos width, refl)
holds_none (Mem depth at next enable) width = (refl, length-replicate depth 0, All-replicate (λ v. v < 2 ^ width) depth 0 (pow_pos width))
holds_none (Peek mem at) width = (pow_pos width, refl)

read_holds : (old new : List SizedCell) (table : List (Option NetId)) (run : List Clock) (t n : ℕ) (sized : SizedCell) (o : Option (Option NetId))
    → AreImages old new table → IsRun new run → t < length run
    → slice_get old n ≡ Some sized → slice_get table n ≡ o → CellHolds sized.cell sized.width (word_in run t o) (store_in run t (depth_of old n) o)
unfolding depth_of
read_holds old new table run t n sized None a r l h e = rw h (holds_none sized.cell sized.width)
read_holds old new table run t n sized (Some None) a r l h e = rw h (holds_none sized.cell sized.width)
read_holds old new table run t n sized (Some (Some m)) a r l h e =
    let at : IsAt old new table n m.0 = a.each n m.0 (record { found = e }) in
    let same : at.sized ≡ sized = (let q : Some at.sized ≡ Some sized = sym at.found ∙ h in cc) in
    let w : at.image.width ≡ sized.width = at.wide ∙ ap (λ (x : SizedCell). x.width) same in
    let like : IsImage table sized.cell at.image.cell = subst (λ (x : SizedCell). IsImage table x.cell at.image.cell) same at.alike in
    rw (← w, word_got run t m.0, store_got run t m.0) (holds_back table sized.cell at.image.cell at.image.width _ _ like
    (cell_holds (clock_shaped r t l) m.0 at.image at.there))

read_shaped : (old new : List SizedCell) (table : List (Option NetId)) (run : List Clock) (t : ℕ) → AreImages old new table → IsRun new run → t < length run
    → IsShaped old (read_clock old table run t)
read_shaped old new table run t a r l = record {
  words = length-map-range_with_len (read_word run table t) 0 (length old);
  stores = length-map-range_with_len (read_store old run table t) 0 (length old);
  holds = each_holds old (read_clock old table run t) (λ n sized h.
      let b : n < length old = slice_get_within old n sized h in
      rw (
        get_or-map-range_with_len (read_word run table t) 0 (length old) n n 0 b (omega arith),
        get_or-map-range_with_len (read_store old run table t) 0 (length old) n n [] b (omega arith),
      )
      (read_holds old new table run t n sized (slice_get table n) a r l h refl));
}

-- a net has one place
pub one_place : (table : List (Option NetId)) (n m k : ℕ) → Maps table n m → Maps table n k → m ≡ k
one_place table n m k p q =
    let a : NetId = record { 0 = m } in
    let b : NetId = record { 0 = k } in
    let both : Some (Some a) ≡ Some (Some b) = sym p.found ∙ q.found in
    let same : a ≡ b = cc in
    ap (λ (x : NetId). x.0) same

-- ---- the run of the old netlist on them has the words of the new run

-- in one clock nets and memories have the words of those in their places
record HaveSame (table : List (Option NetId)) (before after : List Clock) (t : ℕ) : Type 0 where
  words : (n m : ℕ) → Maps table n m → word_at before t n ≡ word_at after t m
  stores : (n m : ℕ) → Maps table n m → store_at before t n ≡ store_at after t m

-- the width at which an operator works is the same
main_width : (old new : List SizedCell) (table : List (Option NetId)) (op : WordOp) (args to : List NetId) → AreImages old new table
    → Maps table (operand args 0) (operand to 0) → Maps table (operand args 1) (operand to 1)
    → width_of old (main_operand op args) ≡ width_of new (main_operand op to)
main_width old new table Mux args to a f g = same_width (operand args 1) (operand to 1) g
  where
    same_width : (n m : ℕ) → Maps table n m → width_of old n ≡ width_of new m
    same_width n m h = let at = a.each n m h in width_is old n at.sized at.found ∙ (sym at.wide ∙ sym (width_is new m at.image at.there))
main_width old new table _ args to a f g = same_width (operand args 0) (operand to 0) f
  where
    same_width : (n m : ℕ) → Maps table n m → width_of old n ≡ width_of new m
    same_width n m h = let at = a.each n m h in width_is old n at.sized at.found ∙ (sym at.wide ∙ sym (width_is new m at.image at.there))

read_length : (old : List SizedCell) (table : List (Option NetId)) (run : List Clock) → length (read_run old table run) ≡ length run
read_length old table run = length-map-range_with_len (read_clock old table run) 0 (length run)

-- what a run says of a cell that is known
settles_of : (new : List SizedCell) (run : List Clock) (t m : ℕ) (image : SizedCell) (cell : Cell) → IsRun new run → t < length run
    → slice_get new m ≡ Some image → image.cell ≡ cell → Settles new run t m cell
settles_of new run t m image cell r l there is = subst (λ (c : Cell). Settles new run t m c) is (r.settles t m image l there)

steps_of : (new : List SizedCell) (run : List Clock) (t m : ℕ) (image : SizedCell) (cell : Cell) → IsRun new run → t + 1 < length run
    → slice_get new m ≡ Some image → image.cell ≡ cell → Steps run t m cell
steps_of new run t m image cell r l there is = subst (λ (c : Cell). Steps run t m c) is (r.steps t m image l there)

-- what nets hold in a clock of a run
holds_at : (cells : List SizedCell) (run : List Clock) (t n : ℕ) (sized : SizedCell) → IsRun cells run → t < length run → slice_get cells n ≡ Some sized
    → CellHolds sized.cell sized.width (word_at run t n) (store_at run t n)
holds_at cells run t n sized r l h = rw (word_got run t n, store_got run t n) (cell_holds (clock_shaped r t l) n sized h)

-- a memory names itself exactly where the one in its place does
pub same_own : (old new : List SizedCell) (table : List (Option NetId)) (n m width depth : ℕ) (at next enable to : NetId) (image : SizedCell)
    → AreImages old new table → IsFormed old → Maps table n m
    → slice_get old n ≡ Some (record { width = width; cell = Mem depth at next enable }) → slice_get new m ≡ Some image → Maps table enable.0 to.0
    → (IsPlain image.cell → ⊥) → (enable.0 == n) ≡ (to.0 == m)
same_own old new table n m width depth at next enable to image a formed maps found there place memory = elim (cases_eq enable.0 n) [
  | inl e ↦
      let own : to.0 ≡ m = one_place table n to.0 m (subst (λ (k : ℕ). Maps table k to.0) e place) maps in
      eq-eqb enable.0 n e ∙ sym (eq-eqb to.0 m own)
  | inr ne ↦ ne_eqb enable.0 n ne ∙ sym (ne_eqb to.0 m (λ own. other ne own))
]
  where
    other : enable.0 ≢ n → to.0 ≡ m → ⊥
    other ne own = elim (formed.each n _ found).cell.2 [
      | inl s ↦ ne s.enable_own
      | inr w ↦
          let e = a.each enable.0 to.0 place in
          let q : Some e.sized ≡ Some w.bit.sized = sym e.found ∙ w.bit.found in
          let same : e.sized ≡ w.bit.sized = cc in
          let plain : IsPlain e.image.cell = image_plain table e.sized.cell e.image.cell
          (subst (λ (x : SizedCell). IsPlain x.cell) (sym same) w.bit.plain) e.alike in
          let q2 : Some e.image ≡ Some image = sym e.there ∙ (ap (slice_get new) own ∙ there) in
          let same2 : e.image ≡ image = cc in
          memory (subst (λ (x : SizedCell). IsPlain x.cell) same2 plain)
    ]

-- one store, where all nets had the same words and stores in the clock before
same_store : (old new : List SizedCell) (table : List (Option NetId)) (before after : List Clock) (t n m width : ℕ) (cell : Cell) (image : SizedCell)
    → AreImages old new table → IsFormed old → IsRun new after → IsRunOn old (read_run old table after) before → length before ≡ length after
    → t < length after → Maps table n m
    → slice_get old n ≡ Some (record { width = width; cell = cell }) → slice_get new m ≡ Some image → IsImage table cell image.cell
    → CellHolds cell image.width (word_at after t m) (store_at after t m)
    → ((s : ℕ) → s + 1 ≡ t → HaveSame table before after s) → store_at before t n ≡ store_at after t m
same_store old new table before after t n m width (Input port) image a formed r u long l maps found there like its earlier =
    (holds_at old before t n _ u.runs (rw long l) found).1 ∙ sym its.1
same_store old new table before after t n m width (Const k) image a formed r u long l maps found there like its earlier =
    (holds_at old before t n _ u.runs (rw long l) found).1 ∙ sym its.1
same_store old new table before after t n m width (Op op args) image a formed r u long l maps found there like its earlier =
    (holds_at old before t n _ u.runs (rw long l) found).1 ∙ sym its.1
same_store old new table before after t n m width (Reg next) image a formed r u long l maps found there like its earlier =
    (holds_at old before t n _ u.runs (rw long l) found).1 ∙ sym its.1
same_store old new table before after t n m width (Peek mem at) image a formed r u long l maps found there like its earlier =
    (holds_at old before t n _ u.runs (rw long l) found).1 ∙ sym its.1
same_store old new table before after zero n m width (Mem depth at next enable) image a formed r u long l maps found there like its earlier =
    u.agrees.same zero n _ (rw (read_length old table after) l) found refl ∙ store_is old table after zero n m l (slice_get_within old n _ found) maps
same_store old new table before after (suc t) n m width (Mem depth at next enable) image a formed r u long l maps found there like its earlier =
    let one : suc t ≡ t + 1 = omega arith in
    let now : t + 1 < length after = omega arith in
    let past = earlier t (sym one) in
    let own : (enable.0 == n) ≡ (like.2.0 == m) = same_own old new table n m width depth at next enable like.2 image a formed maps found there like.6
    (λ p. subst IsPlain like.3 p) in
    let to = u.runs.steps t n _ (rw long now) found in
    let here = steps_of new after t m image (Mem depth like.0 like.1 like.2) r now there like.3 in
    rw one (to ∙ (rw (own, past.words _ _ like.4, past.words _ _ like.5, past.words _ _ like.6, past.stores n m maps) (sym here)))

-- one cell, where earlier nets have the same words, and all nets had them in the clock before
same_cell : (old new : List SizedCell) (table : List (Option NetId)) (before after : List Clock) (t n m width : ℕ) (cell : Cell) (image : SizedCell)
    → AreImages old new table → IsFormed old → IsRun new after → IsRunOn old (read_run old table after) before → length before ≡ length after
    → t < length after → Maps table n m
    → slice_get old n ≡ Some (record { width = width; cell = cell }) → slice_get new m ≡ Some image → IsImage table cell image.cell
    → ((s : ℕ) → s + 1 ≡ t → HaveSame table before after s) → ((i j : ℕ) → Maps table i j → store_at before t i ≡ store_at after t j)
    → ((i j : ℕ) → i < n → Maps table i j → word_at before t i ≡ word_at after t j)
    → word_at before t n ≡ word_at after t m
same_cell old new table before after t n m width (Input port) image a formed r u long l maps found there like earlier stores below =
    u.agrees.same t n _ (rw (read_length old table after) l) found ∙ read_at old table after t n m l (slice_get_within old n _ found) maps
same_cell old new table before after t n m width (Const k) image a formed r u long l maps found there like earlier stores below =
    u.runs.settles t n _ (rw long l) found ∙ sym (settles_of new after t m image (Const k) r l there like)
same_cell old new table before after t n m width (Op op args) image a formed r u long l maps found there like earlier stores below =
    let to : List NetId = like.0 in
    let fits = (formed.each n _ found).cell in
    let b = each_operand op (IsNet (take n old)) (λ i. i < n) args (width_of (take n old) (main_operand op args)) fits.operands
    (λ i v k. get_take_within old n i k.sized k.found) in
    let x : word_at before t (operand args 0) ≡ word_at after t (operand to 0) = below _ _ b.0 like.2 in
    let y : word_at before t (operand args 1) ≡ word_at after t (operand to 1) = below _ _ b.1 like.3 in
    let z : word_at before t (operand args 2) ≡ word_at after t (operand to 2) = below _ _ b.2 like.4 in
    let w : width_of old (main_operand op args) ≡ width_of new (main_operand op to) = main_width old new table op args to a like.2 like.3 in
    let here : word_at after t m ≡ word_result op (width_of new (main_operand op to)) (word_at after t (operand to 0)) (word_at after t (operand to 1))
    (word_at after t (operand to 2)) =
    settles_of new after t m image (Op op to) r l there like.1 in
    u.runs.settles t n _ (rw long l) found ∙ (rw (w, x, y, z) (sym here))
same_cell old new table before after zero n m width (Reg next) image a formed r u long l maps found there like earlier stores below =
    u.agrees.same zero n _ (rw (read_length old table after) l) found refl ∙ read_at old table after zero n m l (slice_get_within old n _ found) maps
same_cell old new table before after (suc t) n m width (Reg next) image a formed r u long l maps found there like earlier stores below =
    let one : suc t ≡ t + 1 = omega arith in
    let now : t + 1 < length after = omega arith in
    let to : word_at before (t + 1) n ≡ word_at before t next.0 = u.runs.steps t n _ (rw long now) found in
    let here : word_at after (t + 1) m ≡ word_at after t like.0.0 = steps_of new after t m image (Reg like.0) r now there like.1 in
    rw one (to ∙ ((earlier t (sym one)).words next.0 like.0.0 like.2 ∙ sym here))
same_cell old new table before after t n m width (Mem depth at next enable) image a formed r u long l maps found there like earlier stores below =
    (holds_at old before t n _ u.runs (rw long l) found).0 ∙
    sym (holds_back table (Mem depth at next enable) image.cell image.width _ _ like (holds_at new after t m image r l there)).0
same_cell old new table before after t n m width (Peek mem at) image a formed r u long l maps found there like earlier stores below =
    let fits = (formed.each n _ found).cell in
    let p : mem.0 < n = get_take_within old n mem.0 _ fits.memory.found in
    let q : at.0 < n = get_take_within old n at.0 fits.address.net.sized fits.address.net.found in
    let here : word_at after t m ≡ unwrap_or (slice_get (store_at after t like.0.0) (word_at after t like.1.0)) 0 = settles_of new after t m image
    (Peek like.0 like.1) r l there like.2 in
    u.runs.settles t n _ (rw long l) found ∙ (rw (stores _ _ like.3, below _ _ q like.4) (sym here))

same_below : (old new : List SizedCell) (table : List (Option NetId)) (before after : List Clock) (t : ℕ)
    → AreImages old new table → IsFormed old → IsRun new after → IsRunOn old (read_run old table after) before → length before ≡ length after → t < length after
    → ((s : ℕ) → s + 1 ≡ t → HaveSame table before after s) → ((i j : ℕ) → Maps table i j → store_at before t i ≡ store_at after t j) → (k n m : ℕ) → n < k
    → Maps table n m → word_at before t n ≡ word_at after t m
same_below old new table before after t a formed r u long l earlier stores zero n m b maps = absurd (omega arith)
same_below old new table before after t a formed r u long l earlier stores (suc k) n m b maps =
    let at : IsAt old new table n m = a.each n m maps in
    same_cell old new table before after t n m at.sized.width at.sized.cell at.image a formed r u long l maps at.found at.there at.alike earlier stores
    (λ i j below k2. same_below old new table before after t a formed r u long l earlier stores k i j (omega arith) k2)

-- one clock, where all was the same in the clock before
same_clock : (old new : List SizedCell) (table : List (Option NetId)) (before after : List Clock) (t : ℕ)
    → AreImages old new table → IsFormed old → IsRun new after → IsRunOn old (read_run old table after) before → length before ≡ length after → t < length after
    → ((s : ℕ) → s + 1 ≡ t → HaveSame table before after s) → HaveSame table before after t
same_clock old new table before after t a formed r u long l earlier =
    let stores : (n m : ℕ) → Maps table n m → store_at before t n ≡ store_at after t m = λ n m maps.
    (let at : IsAt old new table n m = a.each n m maps in
    let its = holds_back table at.sized.cell at.image.cell at.image.width _ _ at.alike (holds_at new after t m at.image r l at.there) in
    same_store old new table before after t n m at.sized.width at.sized.cell at.image a formed r u long l maps at.found at.there at.alike its earlier) in
    record { words = λ n m maps. same_below old new table before after t a formed r u long l earlier stores (suc n) n m (omega arith) maps; stores = stores }

same_words : (old new : List SizedCell) (table : List (Option NetId)) (before after : List Clock) (t : ℕ)
    → AreImages old new table → IsFormed old → IsRun new after → IsRunOn old (read_run old table after) before → length before ≡ length after
    → t < length after → HaveSame table before after t
same_words old new table before after zero a formed r u long l = same_clock old new table before after zero a formed r u long l (λ s e. absurd (omega arith))
same_words old new table before after (suc t) a formed r u long l =
    same_clock old new table before after (suc t) a formed r u long l
    (λ s e. let is : s ≡ t = omega arith in rw is (same_words old new table before after t a formed r u long (omega arith)))

-- a run of the old netlist with the words of the new one
pub record IsReadAs (old new : List SizedCell) (table : List (Option NetId)) (before after : List Clock) : Type 0 where
  pub long : length before ≡ length after
  pub runs : IsRun old before
  pub same : (t n m : ℕ) → t < length after → Maps table n m → word_at before t n ≡ word_at after t m

pub read_as : (old new : List SizedCell) (table : List (Option NetId)) (after : List Clock) → HasOneRun old → IsFormed old → AreImages old new table
    → IsRun new after
    → (before : List Clock) × IsReadAs old new table before after
read_as old new table after one formed a r =
    let long : length (read_run old table after) ≡ length after = read_length old table after in
    let found = one (read_run old table after)
    (each_shaped old (read_run old table after) (λ t l. let k : t < length after = (rw long at l) in
    rw (read_is old table after t k) (read_shaped old new table after t a r k))) in
    let same : length found.0 ≡ length after = found.1.long ∙ long in (
      found.0,
      record {
        long = same;
        runs = found.1.runs;
        same = λ t n m l maps. (same_words old new table found.0 after t a formed r found.1 same l).words n m maps;
      },
    )
