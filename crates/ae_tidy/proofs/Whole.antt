-- The copy, whole, does what the netlist does.
use Rattle.std.proofs.Common.{ℕ, zero, suc, ◌≡◌, ◌+◌, ◌<◌, ◌≤◌, ◌^◌, List, [], ◌∷◌, ◌++◌, length, take, take-take, length-take, map, Option, Some, None, slice_get, get_or, Bool, true, false, inl, inr, arith, refl, ap, sym, ◌∙◌, subst}
use Rattle.std.specs.Prelude.{◌==◌}
use Rattle.std.proofs.lemmas.Bool.{cases_lt, eq-eqb, ne_eqb}
use Rattle.std.proofs.lemmas.Option.{slice_get_within, slice_get-get_or}
use Rattle.std.proofs.lemmas.List.{length-map, map-append}
use Rattle.std.proofs.Math.Seq.{take-length}
use Rattle.ae_netlist.specs.declared.cell.NetId.{NetId}
use Rattle.ae_netlist.specs.declared.cell.Port.{Port}
use Rattle.ae_netlist.specs.declared.cell.Cell.{Cell}
use Rattle.ae_netlist.specs.declared.cell.Cell.TheVariants.{Input, Const, Op, Reg, Mem, Peek}
use Rattle.ae_netlist.specs.declared.cell.SizedCell.{SizedCell}
use Rattle.ae_netlist.specs.declared.cell.Outlet.{Outlet}
use Rattle.ae_netlist.specs.Circuit.{Circuit, IsNet, IsMemory, IsFormed, HaveNets, width_of}
use Rattle.ae_netlist.specs.Counts.{AreWhole, IsNumbered, cells_of, count_of, number_of, is_input, is_memory, is_mul}
use Rattle.ae_netlist.specs.Runs.{word_at, HasOneRun}
use Rattle.ae_netlist.proofs.Counting.{number_within}
use Rattle.ae_netlist.proofs.Gets.{get_in_take}
use Rattle.ae_netlist.proofs.Growing.{width_is, net_width, memory_from_take}
use Rattle.ae_tidy.specs.Images.{Maps, IsImage, Stands}
use Rattle.ae_tidy.specs.Marks.{IsKept, AreMarked, is_root}
use Rattle.ae_tidy.specs.Copies.{IsCopied, IsMapped, wanted, present}
use Rattle.ae_tidy.specs.Needed.{IsNeeded}
use Rattle.ae_tidy.specs.Tidied.{IsTidied}
use Rattle.ae_tidy.proofs.Shaping.{take_found, whole_count}
use Rattle.ae_tidy.specs.Places.{made_of}
use Rattle.ae_tidy.proofs.Counted.{like_memory, made_fewer}
use Rattle.ae_tidy.proofs.Cutting.{copied_made_of}
use Rattle.ae_tidy.proofs.SameRuns.{IsAt, AreImages, read_as, same_own}
use Rattle.ae_tidy.proofs.Copying.{image_input}
use Rattle.ae_tidy.proofs.Connecting.{all_images, net_there}
use Rattle.ae_tidy.proofs.Marking.{outlet_within}
use Rattle.ae_tidy.proofs.NeededCopies.{all_needed, heads}

-- ---- a net is known by its number among those of its kind

pub one_number : (kind : Cell → Bool) (cells : List SizedCell) (k n m : ℕ) → IsNumbered kind cells k n → IsNumbered kind cells k m → n ≡ m
one_number kind cells k n m p q = elim (cases_lt n m) [
  | inl l ↦ absurd (apart kind cells k n m p q l)
  | inr l ↦ elim (cases_lt m n) [ inl g ↦ absurd (apart kind cells k m n q p g) | inr g ↦ omega arith ]
]
  where
    apart : (kind : Cell → Bool) (cells : List SizedCell) (k n m : ℕ) → IsNumbered kind cells k n → IsNumbered kind cells k m → n < m → ⊥
    apart kind cells k n m p q l =
        let there : slice_get (take m cells) n ≡ Some p.sized = get_in_take cells m n p.sized l p.found in
        let b : number_of kind (take m cells) n < count_of kind (take m cells) = number_within kind (take m cells) n p.sized there p.is_kind in
        let e : number_of kind (take m cells) n ≡ number_of kind cells n = ap (count_of kind) (take-take n m cells (omega arith)) in
        omega (arith, p.place, q.place)

-- ---- memories

memory_of : (cell image : Cell) (depth : ℕ) (a b c : NetId) (table : List (Option NetId)) → IsImage table cell image → image ≡ Mem depth a b c
    → (at : NetId) × (next : NetId) × (enable : NetId) × (cell ≡ Mem depth at next enable) × Maps table at.0 a.0 × Maps table enable.0 c.0
memory_of (Input port) image depth a b c table h e = cc
memory_of (Const k) image depth a b c table h e = cc
memory_of (Op op args) image depth a b c table h e = (let q = h.1 in cc)
memory_of (Reg next) image depth a b c table h e = (let q = h.1 in cc)
memory_of (Mem words at next enable) image depth a b c table h e =
    let q : Mem words h.0 h.1 h.2 ≡ Mem depth a b c = sym h.3 ∙ e in
    let d : words ≡ depth = cc in
    let p : h.0 ≡ a = cc in
    let r : h.2 ≡ c = cc in (
      at,
      next,
      enable,
      ap (λ (k : ℕ). Mem k at next enable) d,
      subst (λ (x : NetId). Maps table at.0 x.0) p h.4,
      subst (λ (x : NetId). Maps table enable.0 x.0) r h.6,
    )
memory_of (Peek mem at) image depth a b c table h e = (let q = h.2 in cc)

peek_of : (cell image : Cell) (mem from : NetId) (table : List (Option NetId)) → IsImage table cell image → image ≡ Peek mem from → (m : NetId) × (at : NetId)
    × (cell ≡ Peek m at) × Maps table m.0 mem.0 × Maps table at.0 from.0
peek_of (Input port) image mem from table h e = cc
peek_of (Const k) image mem from table h e = cc
peek_of (Op op args) image mem from table h e = (let q = h.1 in cc)
peek_of (Reg next) image mem from table h e = (let q = h.1 in cc)
peek_of (Mem depth at next enable) image mem from table h e = (let q = h.3 in cc)
peek_of (Peek m at) image mem from table h e =
    let q : Peek h.0 h.1 ≡ Peek mem from = sym h.2 ∙ e in
    let p : h.0 ≡ mem = cc in
    let r : h.1 ≡ from = cc in
    (m, at, refl, subst (λ (x : NetId). Maps table m.0 x.0) p h.3, subst (λ (x : NetId). Maps table at.0 x.0) r h.4)

-- the old cell of which a new one is made
record IsOf (old : List SizedCell) (table : List (Option NetId)) (m : ℕ) (sized : SizedCell) : Type 0 where
  own : ℕ
  before : SizedCell
  maps : Maps table own m
  found : slice_get old own ≡ Some before
  wide : sized.width ≡ before.width
  alike : IsImage table before.cell sized.cell

made_from : (old new : List SizedCell) (keep : List Bool) (table : List (Option NetId)) (made : List NetId) (i d m : ℕ) (sized : SizedCell)
    → AreImages old new table → IsCopied old keep new table made i d → slice_get new m ≡ Some sized → IsOf old table m sized
made_from old new keep table made i d m sized a c h =
    let l : m < length made = (let b : m < length new = slice_get_within new m sized h in omega (arith, c.all_made)) in
    let own : NetId = get_or made m (record { 0 = 0 }) in
    let maps : Maps table own.0 m = c.source m own (slice_get-get_or made m (record { 0 = 0 }) l) in
    let s = a.each own.0 m maps in
    let q : Some s.image ≡ Some sized = sym s.there ∙ h in
    let same : s.image ≡ sized = cc in
    record {
      own = own.0;
      before = s.sized;
      maps = maps;
      found = s.found;
      wide = ap (λ (x : SizedCell). x.width) (sym same) ∙ s.wide;
      alike = subst (λ (x : SizedCell). IsImage table s.sized.cell x.cell) same s.alike;
    }

-- nets in the places of others are as wide
place_width : (old new : List SizedCell) (table : List (Option NetId)) (n m : ℕ) → AreImages old new table → Maps table n m → width_of new m ≡ width_of old n
place_width old new table n m a h = let s = a.each n m h in width_is new m s.image s.there ∙ (s.wide ∙ sym (width_is old n s.sized s.found))

as_sized : (sized : SizedCell) (cell : Cell) → sized.cell ≡ cell → sized ≡ record { width = sized.width; cell = cell }
as_sized sized cell e = ap (λ (c : Cell). record { width = sized.width; cell = c }) e

-- a memory that takes the place of another is as deep
same_depth : (old new : List SizedCell) (table : List (Option NetId)) (n m width wide depth words : ℕ) (x y z : NetId) → AreImages old new table
    → Maps table n m → IsMemory old n width depth → slice_get new m ≡ Some (record { width = wide; cell = Mem words x y z })
    → depth ≡ words
same_depth old new table n m width wide depth words x y z a maps k h =
    let s = a.each n m maps in
    let q : Some s.sized ≡ Some (record { width = width; cell = Mem depth k.at k.next k.enable }) = sym s.found ∙ k.found in
    let same : s.sized ≡ record { width = width; cell = Mem depth k.at k.next k.enable } = cc in
    let like : IsImage table (Mem depth k.at k.next k.enable) s.image.cell = subst (λ (v : SizedCell). IsImage table v.cell s.image.cell) same s.alike in
    let q2 : Some s.image ≡ Some (record { width = wide; cell = Mem words x y z }) = sym s.there ∙ h in
    let same2 : s.image ≡ record { width = wide; cell = Mem words x y z } = cc in
    let r : Mem depth like.0 like.1 like.2 ≡ Mem words x y z = sym like.3 ∙ ap (λ (v : SizedCell). v.cell) same2 in
    cc

-- the address of a look has room in the memory in the place of its own
whole_peek : (old new : List SizedCell) (table : List (Option NetId)) (own m width wide depth : ℕ) (mem at x y z : NetId) → IsFormed old
    → AreImages old new table → AreWhole old
    → slice_get old own ≡ Some (record { width = width; cell = Peek mem at }) → Maps table mem.0 m
    → slice_get new m ≡ Some (record { width = wide; cell = Mem depth x y z }) → 2 ^ width_of old at.0 ≤ depth
whole_peek old new table own m width wide depth mem at x y z formed a w here maps there =
    let p = (formed.each own _ here).cell in
    let memory : IsMemory old mem.0 width p.depth = memory_from_take old own mem.0 width p.depth p.memory in
    let deep : 2 ^ width_of old at.0 ≤ p.depth = (w.each mem.0 width p.depth memory.at memory.next memory.enable memory.found).peeks own width mem at here
    refl in
    let same : p.depth ≡ depth = same_depth old new table mem.0 m width wide p.depth depth x y z a maps memory there in
    subst (λ (k : ℕ). 2 ^ width_of old at.0 ≤ k) same deep

-- whole memories stay whole
new_whole : (old new : List SizedCell) (keep : List Bool) (table : List (Option NetId)) (made : List NetId) (i d : ℕ) → IsFormed old → AreImages old new table
    → IsCopied old keep new table made i d → AreWhole old → AreWhole new
new_whole old new keep table made i d formed a c w = record {
  each = λ m wide depth x y z h.
      let o = made_from old new keep table made i d m _ a c h in
      let k = memory_of o.before.cell (Mem depth x y z) depth x y z table o.alike refl in
      let there : slice_get old o.own ≡ Some (record { width = o.before.width; cell = Mem depth k.0 k.1 k.2 }) = o.found ∙
      ap (λ (v : SizedCell). Some v) (as_sized o.before _ k.3) in
      let whole = w.each o.own o.before.width depth k.0 k.1 k.2 there in
      let own : (k.2.0 == o.own) ≡ (z.0 == m) = same_own old new table o.own m o.before.width depth k.0 k.1 k.2 z _ a formed o.maps there h k.5 (λ p. p) in
      record {
        connected = λ e. (let q : false ≡ true = sym (ne_eqb k.2.0 o.own whole.connected) ∙ (own ∙ eq-eqb z.0 m e) in cc);
        deep = rw (place_width old new table k.0.0 x.0 a k.4) whole.deep;
        peeks = λ n width mem from g e.
            let p = made_from old new keep table made i d n _ a c g in
            let v = peek_of p.before.cell (Peek mem from) mem from table p.alike refl in
            let here : slice_get old p.own ≡ Some (record { width = p.before.width; cell = Peek v.0 v.1 }) = p.found ∙
            ap (λ (s : SizedCell). Some s) (as_sized p.before _ v.2) in
            rw (place_width old new table v.1.0 from.0 a v.4)
            (whole_peek old new table p.own m p.before.width wide depth v.0 v.1 x y z formed a w here (subst (λ (r : ℕ). Maps table v.0.0 r) e v.3) h);
      };
}

-- no memory is made
few_memories : (old new : List SizedCell) (keep : List Bool) (table : List (Option NetId)) (made : List NetId) (i d : ℕ) → AreImages old new table
    → IsCopied old keep new table made i d → count_of is_memory new ≤ count_of is_memory old
few_memories old new keep table made i d a c = made_fewer is_memory old new (made_of made) like_memory (copied_made_of old new keep table made i d a c)

-- ---- outputs

ports_same : (old new : List SizedCell) (table : List (Option NetId)) (xs ys : List Outlet) → AreImages old new table → present ys ≡ wanted table xs
    → map {B = Port × ℕ} (λ (o : Outlet). (o.port, width_of new o.net.0)) ys ≡ map {B = Port × ℕ} (λ (o : Outlet). (o.port, width_of old o.net.0)) xs
ports_same old new table [] [] a e = refl
ports_same old new table (x ∷ xs) [] a e = cc
ports_same old new table [] (y ∷ ys) a e = cc
ports_same old new table (x ∷ xs) (y ∷ ys) a e =
    let both = heads y x table ys xs e in
    let port : y.port ≡ x.port = ap (λ (p : Port × Option (Option NetId)). p.0) both in
    let net : Some (Some y.net) ≡ slice_get table x.net.0 = ap (λ (p : Port × Option (Option NetId)). p.1) both in
    let rest : present ys ≡ wanted table xs = cc in
    let s = a.each x.net.0 y.net.0 (record { found = sym net }) in
    let w : width_of new y.net.0 ≡ width_of old x.net.0 = width_is new y.net.0 s.image s.there ∙ (s.wide ∙ sym (width_is old x.net.0 s.sized s.found)) in
    rw (port, w, ports_same old new table xs ys a rest) refl

outlet_maps : (table : List (Option NetId)) (xs ys : List Outlet) (k : ℕ) (o p : Outlet) → present ys ≡ wanted table xs → slice_get xs k ≡ Some o
    → slice_get ys k ≡ Some p → Maps table o.net.0 p.net.0
outlet_maps table [] ys k o p e h g = cc
outlet_maps table (x ∷ xs) [] k o p e h g = cc
outlet_maps table (x ∷ xs) (y ∷ ys) zero o p e h g =
    let net : Some (Some y.net) ≡ slice_get table x.net.0 = ap (λ (p : Port × Option (Option NetId)). p.1) (heads y x table ys xs e) in
    let a : x ≡ o = cc in
    let b : y ≡ p = cc in
    rw (← a, ← b) (record { found = sym net })
outlet_maps table (x ∷ xs) (y ∷ ys) (suc k) o p e h g =
    let rest : present ys ≡ wanted table xs = cc in
    outlet_maps table xs ys k o p rest h g

-- an output of the copy shows a net
pub shown_net : (old : Circuit) (new : List SizedCell) (keep : List Bool) (table : List (Option NetId)) (made : List NetId) (i d k m : ℕ) (o : Outlet)
    → HaveNets old.cells old.outlets → slice_get old.outlets k ≡ Some o → Maps table o.net.0 m
    → IsCopied old.cells keep new table made i d → IsNet new m (width_of new m)
shown_net old new keep table made i d k m o have h maps c =
    let net : IsNet new m (width_of old.cells o.net.0) = net_there (width_of old.cells o.net.0) (c.each o.net.0 m maps) (have.each k o h) in
    rw (net_width net) net

-- and what it shows has a place
pub shown_mapped : (old : Circuit) (new : List SizedCell) (keep : List Bool) (table : List (Option NetId)) (made : List NetId) (d k : ℕ) (o : Outlet)
    → HaveNets old.cells old.outlets → AreMarked old keep → slice_get old.outlets k ≡ Some o
    → IsCopied old.cells keep new table made (length old.cells) d → IsMapped table o.net.0
shown_mapped old new keep table made d k o have marked h c =
    c.kept o.net.0 (outlet_within old k o have h) (marked.rooted.outputs.each k o (slice_get_within old.outlets k o h) h)

pub shown_more : (table : List (Option NetId)) (outlets shown : List Outlet) (k : ℕ) (o : Outlet) (net : NetId) → slice_get outlets k ≡ Some o
    → Maps table o.net.0 net.0 → present shown ≡ wanted table (take k outlets)
    → present (shown ++ (record { port = o.port; net = net }) ∷ []) ≡ wanted table (take (k + 1) outlets)
shown_more table outlets shown k o net h maps e =
    map-append (λ (x : Outlet). pair x.port (Some (Some x.net))) shown ((record { port = o.port; net = net }) ∷ [])
    ∙ (rw (e, take_found outlets k o h, ← maps.found) (sym (map-append (λ (x : Outlet). pair x.port (slice_get table x.net.0)) (take k outlets) (o ∷ []))))
  where
    pair : Port → Option (Option NetId) → Port × Option (Option NetId)
    pair p n = (p, n)

pub shown_count : (table : List (Option NetId)) (outlets shown : List Outlet) (k : ℕ) → present shown ≡ wanted table (take k outlets) → k < length outlets
    → length shown ≡ k
shown_count table outlets shown k e l =
    let a : length (present shown) ≡ length (wanted table (take k outlets)) = ap (λ (x : List (Port × Option (Option NetId))). length x) e in
    omega (arith, length-map shown (λ (x : Outlet). show_new x), length-map (take k outlets) (λ (x : Outlet). show_old table x), length-take k outlets)
  where
    show_new : Outlet → Port × Option (Option NetId)
    show_new o = (o.port, Some (Some o.net))

    show_old : List (Option NetId) → Outlet → Port × Option (Option NetId)
    show_old table o = (o.port, slice_get table o.net.0)

pub copied_none : (old : List SizedCell) (keep : List Bool) → IsCopied old keep [] [] [] 0 0
copied_none old keep = record {
  long = refl;
  all_made = refl;
  shape = record { few = omega arith; inputs = refl; first = λ k l e. (let z : k ≡ 0 = omega arith in rw z refl); muls = refl };
  each = λ n m k. (let q : None ≡ Some (Some (record { 0 = m })) = k.found in cc);
  source = λ m k e. cc;
  kept = λ n l k. absurd (none_below n l);
  only = λ n m k. (let q : None ≡ Some (Some (record { 0 = m })) = k.found in cc);
  rising = record { each = λ i j a b l h g. cc };
}
  where
    none_below : (n : ℕ) → n < 0 → ⊥
    none_below n l = omega arith

-- ---- all together

pub tidied : (old new : Circuit) (keep : List Bool) (table : List (Option NetId)) (made : List NetId) (d : ℕ) → IsFormed old.cells → HasOneRun old.cells
    → AreMarked old keep → ((n : ℕ) → IsKept keep n → IsNeeded old n)
    → IsCopied old.cells keep new.cells table made (length old.cells) d → length new.cells ≤ d → present new.outlets ≡ wanted table old.outlets
    → IsFormed new.cells → HaveNets new.cells new.outlets → new.limit ≤ old.limit → IsTidied old new
tidied old new keep table made d formed one marked only c all outlets new_formed shown limit =
    let a : AreImages old.cells new.cells table = all_images old.cells new.cells keep table made (length old.cells) d all c in
    let whole : take (length old.cells) old.cells ≡ old.cells = take-length old.cells in
    record {
      inputs = c.shape.inputs ∙ ap (cells_of is_input) whole;
      first = λ k e. c.shape.first k (whole_count old.cells k e) e;
      outputs = ports_same old.cells new.cells table old.outlets new.outlets a outlets;
      runs = λ after r.
          let u = read_as old.cells new.cells table after one formed a r in (
            u.0,
            u.1.runs,
            record {
              long = u.1.long;
              inputs = λ t k n m l p q.
                  let kept : IsKept keep n = marked.rooted.roots.each n p.sized (slice_get_within old.cells n p.sized p.found) p.found
                  (input_root p.sized.cell p.is_kind) in
                  let at : IsMapped table n = c.kept n (slice_get_within old.cells n p.sized p.found) kept in
                  let st = c.each n at.net at.maps in
                  let there : IsNumbered is_input new.cells k at.net = input_numbered old.cells new.cells table made d k n at.net st p
                  (a.each n at.net at.maps) in
                  u.1.same t n at.net l at.maps ∙ ap (word_at after t) (one_number is_input new.cells k at.net m there q);
              outputs = λ t k o p l h g. u.1.same t o.net.0 p.net.0 l (outlet_maps table old.outlets new.outlets k o p outlets h g);
            },
          );
      formed = new_formed;
      shown = shown;
      whole = λ w. new_whole old.cells new.cells keep table made (length old.cells) d formed a c w;
      small = c.shape.few;
      muls = c.shape.muls ∙ ap (count_of is_mul) whole;
      memories = few_memories old.cells new.cells keep table made (length old.cells) d a c;
      limit = limit;
      lean = record {
        needed = all_needed old new keep table made (length old.cells) d a
            (λ n sized h e. (let l : n < length old.cells = slice_get_within old.cells n sized h in c.kept n l (marked.rooted.roots.each n sized l h e)))
            outlets c only;
      };
    }
  where
    input_root : (cell : Cell) → is_input cell ≡ true → is_root cell ≡ true
    input_root (Input port) e = refl
    input_root (Const k) e = cc
    input_root (Op op args) e = cc
    input_root (Reg next) e = cc
    input_root (Mem depth at next enable) e = cc
    input_root (Peek mem at) e = cc

    input_numbered : (old new : List SizedCell) (table : List (Option NetId)) (made : List NetId) (d k n m : ℕ) → Stands old new table made d n m
        → IsNumbered is_input old k n → IsAt old new table n m → IsNumbered is_input new k m
    input_numbered old new table made d k n m s p at =
        let q : Some s.sized ≡ Some p.sized = sym s.found ∙ p.found in
        let same : s.sized ≡ p.sized = cc in
        let kind : is_input s.sized.cell ≡ true = ap (λ (x : SizedCell). is_input x.cell) same ∙ p.is_kind in
        let q2 : Some at.sized ≡ Some p.sized = sym at.found ∙ p.found in
        let same2 : at.sized ≡ p.sized = cc in
        let kind2 : is_input at.sized.cell ≡ true = ap (λ (x : SizedCell). is_input x.cell) same2 ∙ p.is_kind in
        record { sized = at.image; found = at.there; is_kind = image_input table at.sized.cell at.image.cell at.alike ∙ kind2; place = s.number kind ∙ p.place }
