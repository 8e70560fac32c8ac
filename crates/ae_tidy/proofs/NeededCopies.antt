-- What stands in the place of a needed net is needed.
use Rattle.std.proofs.Common.{ℕ, zero, suc, ◌≡◌, ◌<◌, List, [], ◌∷◌, length, Option, Some, slice_get, get_or, Bool, true, inl, inr, arith, refl, ap, sym, ◌∙◌, subst}
use Rattle.std.proofs.lemmas.Option.{slice_get-get_or}
use Rattle.ae_netlist.specs.declared.cell.NetId.{NetId}
use Rattle.ae_netlist.specs.declared.cell.Port.{Port}
use Rattle.ae_netlist.specs.declared.cell.Cell.{Cell}
use Rattle.ae_netlist.specs.declared.cell.Cell.TheVariants.{Input, Const, Op, Reg, Mem, Peek}
use Rattle.ae_netlist.specs.declared.cell.SizedCell.{SizedCell}
use Rattle.ae_netlist.specs.declared.cell.Outlet.{Outlet}
use Rattle.ae_netlist.specs.Circuit.{Circuit, operand}
use Rattle.ae_tidy.specs.Copies.{IsCopied, IsMapped, wanted, present}
use Rattle.ae_tidy.specs.Images.{IsImage, Maps}
use Rattle.ae_tidy.specs.Marks.{IsKept, is_root}
use Rattle.ae_tidy.specs.Needed.{IsNeeded, Reads, as_output, as_root, as_read}
use Rattle.ae_tidy.proofs.SameRuns.{AreImages, one_place}

-- ---- outputs, cells and their images

pub heads : (y x : Outlet) (table : List (Option NetId)) (ys xs : List Outlet) → present (y ∷ ys) ≡ wanted table (x ∷ xs)
    → ◌≡◌ {A = Port × Option (Option NetId)} (y.port, Some (Some y.net)) (x.port, slice_get table x.net.0)
heads y x table ys xs e = cc

-- the output of the copy in the place of an old one
record IsShown (table : List (Option NetId)) (ys : List Outlet) (k : ℕ) (o : Outlet) : Type 0 where
  outlet : Outlet
  found : slice_get ys k ≡ Some outlet
  maps : Maps table o.net.0 outlet.net.0

shown_there : (table : List (Option NetId)) (xs ys : List Outlet) (k : ℕ) (o : Outlet) → present ys ≡ wanted table xs → slice_get xs k ≡ Some o
    → IsShown table ys k o
shown_there table [] ys k o e h = cc
shown_there table (x ∷ xs) [] k o e h = cc
shown_there table (x ∷ xs) (y ∷ ys) zero o e h =
    let net : Some (Some y.net) ≡ slice_get table x.net.0 = ap (λ (p : Port × Option (Option NetId)). p.1) (heads y x table ys xs e) in
    let a : x ≡ o = cc in
    rw (← a) (record { outlet = y; found = refl; maps = record { found = sym net } })
shown_there table (x ∷ xs) (y ∷ ys) (suc k) o e h =
    let rest : present ys ≡ wanted table xs = cc in
    let s = shown_there table xs ys k o rest h in
    record { outlet = s.outlet; found = s.found; maps = s.maps }

root_image : (table : List (Option NetId)) (cell image : Cell) → is_root cell ≡ true → IsImage table cell image → is_root image ≡ true
root_image table (Input port) image e h = rw h refl
root_image table (Const k) image e h = cc
root_image table (Op op args) image e h = rw h.1 e
root_image table (Reg next) image e h = cc
root_image table (Mem depth at next enable) image e h = cc
root_image table (Peek mem at) image e h = cc

-- what an image reads in the place of what the cell reads
record ReadsImage (table : List (Option NetId)) (image : Cell) (n : ℕ) : Type 0 where
  net : ℕ
  maps : Maps table n net
  reads : Reads image net

reads_image : (table : List (Option NetId)) (cell image : Cell) (n : ℕ) → IsImage table cell image → Reads cell n → ReadsImage table image n
reads_image table (Input port) image n h r = absurd r
reads_image table (Const k) image n h r = absurd r
reads_image table (Op op args) image n h r = elim r [
  | inl e ↦ record { net = operand h.0 0; maps = rw e h.2; reads = rw h.1 (inl refl) }
  | inr s ↦ elim s [
    | inl e ↦ record { net = operand h.0 1; maps = rw e h.3; reads = rw h.1 (inr (inl refl)) }
    | inr e ↦ record { net = operand h.0 2; maps = rw e h.4; reads = rw h.1 (inr (inr refl)) }
  ]
]
reads_image table (Reg next) image n h r = record { net = h.0.0; maps = rw r h.2; reads = rw h.1 refl }
reads_image table (Mem depth at next enable) image n h r = elim r [
  | inl e ↦ record { net = h.0.0; maps = rw e h.4; reads = rw h.3 (inl refl) }
  | inr s ↦ elim s [
    | inl e ↦ record { net = h.1.0; maps = rw e h.5; reads = rw h.3 (inr (inl refl)) }
    | inr e ↦ record { net = h.2.0; maps = rw e h.6; reads = rw h.3 (inr (inr refl)) }
  ]
]
reads_image table (Peek mem at) image n h r = elim r [
  | inl e ↦ record { net = h.0.0; maps = rw e h.3; reads = rw h.2 (inl refl) }
  | inr e ↦ record { net = h.1.0; maps = rw e h.4; reads = rw h.2 (inr refl) }
]

-- ---- by induction on why a net is needed

record HasNeeded (new : Circuit) (table : List (Option NetId)) (n : ℕ) : Type 0 where
  net : ℕ
  maps : Maps table n net
  needed : IsNeeded new net

output_copy : (old new : Circuit) (table : List (Option NetId)) (n k : ℕ) (o : Outlet) → present new.outlets ≡ wanted table old.outlets
    → slice_get old.outlets k ≡ Some o → n ≡ o.net.0 → HasNeeded new table n
output_copy old new table n k o outlets h e =
    let s = shown_there table old.outlets new.outlets k o outlets h in
    record { net = s.outlet.net.0; maps = rw e s.maps; needed = as_output s.outlet.net.0 k s.outlet s.found refl }

root_copy : (old new : Circuit) (table : List (Option NetId)) (n : ℕ) (sized : SizedCell) → AreImages old.cells new.cells table → IsMapped table n
    → slice_get old.cells n ≡ Some sized → is_root sized.cell ≡ true → HasNeeded new table n
root_copy old new table n sized a at h e =
    let i = a.each n at.net at.maps in
    let q : Some sized ≡ Some i.sized = sym h ∙ i.found in
    let same : sized ≡ i.sized = cc in
    let root : is_root i.sized.cell ≡ true = ap (λ (x : SizedCell). is_root x.cell) (sym same) ∙ e in
    record { net = at.net; maps = at.maps; needed = as_root at.net i.image i.there (root_image table i.sized.cell i.image.cell root i.alike) }

read_copy : (old new : Circuit) (table : List (Option NetId)) (n reader : ℕ) (sized : SizedCell) → AreImages old.cells new.cells table
    → HasNeeded new table reader → slice_get old.cells reader ≡ Some sized → Reads sized.cell n → HasNeeded new table n
read_copy old new table n reader sized a u h r =
    let i = a.each reader u.net u.maps in
    let q : Some sized ≡ Some i.sized = sym h ∙ i.found in
    let same : sized ≡ i.sized = cc in
    let v = reads_image table i.sized.cell i.image.cell n i.alike (subst (λ (x : SizedCell). Reads x.cell n) same r) in
    record { net = v.net; maps = v.maps; needed = as_read v.net u.net i.image u.needed i.there v.reads }

needed_copy : (old new : Circuit) (table : List (Option NetId)) → AreImages old.cells new.cells table
    → ((n : ℕ) (sized : SizedCell) → slice_get old.cells n ≡ Some sized → is_root sized.cell ≡ true → IsMapped table n)
    → present new.outlets ≡ wanted table old.outlets
    → (n : ℕ) → IsNeeded old n → HasNeeded new table n
needed_copy old new table a roots outlets n (as_output m k o h e) = output_copy old new table n k o outlets h e
needed_copy old new table a roots outlets n (as_root m sized h e) = root_copy old new table n sized a (roots n sized h e) h e
needed_copy old new table a roots outlets n (as_read m reader sized w h r) =
    read_copy old new table n reader sized a (needed_copy old new table a roots outlets reader w) h r

-- each cell of the copy stands in the place of a kept net
pub all_needed : (old new : Circuit) (keep : List Bool) (table : List (Option NetId)) (made : List NetId) (i d : ℕ) → AreImages old.cells new.cells table
    → ((n : ℕ) (sized : SizedCell) → slice_get old.cells n ≡ Some sized → is_root sized.cell ≡ true → IsMapped table n)
    → present new.outlets ≡ wanted table old.outlets
    → IsCopied old.cells keep new.cells table made i d → ((n : ℕ) → IsKept keep n → IsNeeded old n) → (m : ℕ) → m < length new.cells → IsNeeded new m
all_needed old new keep table made i d a roots outlets c needed m l =
    let own : NetId = get_or made m (record { 0 = 0 }) in
    let within : m < length made = omega (arith, c.all_made) in
    let maps : Maps table own.0 m = c.source m own (slice_get-get_or made m (record { 0 = 0 }) within) in
    let u = needed_copy old new table a roots outlets own.0 (needed own.0 (c.only own.0 m maps)) in
    subst (IsNeeded new) (one_place table own.0 u.net m u.maps maps) u.needed
