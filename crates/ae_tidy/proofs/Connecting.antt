-- The late cells of a copy are connected, and then it is one in all.
use Rattle.std.proofs.Common.{ℕ, ◌≡◌, ◌+◌, ◌<◌, ◌≤◌, List, length, length-set, take, set, Option, Some, slice_get, Bool, true, false, ◌||◌, ◌⊎◌, ◌≢◌, inl, inr, arith, refl, ap, sym, subst, ◌∙◌}
use Rattle.std.specs.Prelude.{nat_le}
use Rattle.std.proofs.lemmas.Bool.{cases_Bool, cases_eq, cases_lt, le-leb}
use Rattle.std.proofs.lemmas.Option.{slice_get_within}
use Rattle.ae_word.specs.declared.op.WordOp.{WordOp}
use Rattle.ae_word.specs.declared.op.WordOp.TheVariants.{Mux}
use Rattle.ae_netlist.specs.declared.cell.NetId.{NetId}
use Rattle.ae_netlist.specs.declared.cell.Cell.{Cell}
use Rattle.ae_netlist.specs.declared.cell.Cell.TheVariants.{Input, Const, Op, Reg, Mem, Peek}
use Rattle.ae_netlist.specs.declared.cell.SizedCell.{SizedCell}
use Rattle.ae_netlist.specs.Circuit.{Circuit, IsNet, IsPlain, IsRegister, IsMemory, IsAddress, IsConstantBelow, IsWritten, NamesItself, IsOperation, OperandsAre, CellFits, IsFormed, depth_in, depth_in_cell, depth_of, main_operand, operand, width_of}
use Rattle.ae_netlist.specs.Counts.{is_input, is_mul}
use Rattle.ae_netlist.proofs.Counting.{count_replaced}
use Rattle.ae_netlist.proofs.Gets.{get_from_take, get_set_other, get_set_same, get_take_within}
use Rattle.ae_netlist.proofs.Growing.{width_is, net_width, net_from_take, memory_from_take, main_is, same_sized}
use Rattle.ae_netlist.proofs.Settled.{each_operand}
use Rattle.ae_tidy.specs.Images.{Maps, IsImage, Stands, fresh_cell, is_late, late_cell}
use Rattle.ae_tidy.specs.Marks.{EachRead, IsKept, AreMarked}
use Rattle.ae_tidy.specs.Copies.{HasDepth, IsCopied, IsMapped, MayFollow}
use Rattle.ae_tidy.proofs.Shaping.{shape_set}
use Rattle.ae_tidy.proofs.Lists.{set_itself}
use Rattle.ae_tidy.proofs.Marking.{reads_within}
use Rattle.ae_tidy.proofs.Copying.{fresh_input, fresh_mul, fresh_plain, image_input, image_mul, image_plain, late_input, late_is, late_mul}
use Rattle.ae_tidy.proofs.SameRuns.{AreImages}

-- ---- what stands in the place of a net, a constant, an address and a memory

-- a net that is not connected is late
as_image : {old new : List SizedCell} {table : List (Option NetId)} {made : List NetId} {d n m : ℕ} (P : Cell → Type 0) (s : Stands old new table made d n m)
    → (IsImage table s.sized.cell s.image.cell → P s.image.cell) → P (fresh_cell m s.sized.cell) → P s.image.cell
as_image {old} {new} {table} {made} {d} {n} {m} P s alike fresh = elim (cases_Bool (is_late old n)) [
  | inr f ↦ alike (s.alike (λ e. (let q : true ≡ false = sym e ∙ f in cc)))
  | inl t ↦ elim (cases_lt m d) [
    | inl l ↦ alike (s.alike (λ e. l))
    | inr l ↦ (let q : s.image.cell ≡ fresh_cell m s.sized.cell = s.fresh t l in subst P (sym q) fresh)
  ]
]

pub net_there : {old new : List SizedCell} {table : List (Option NetId)} {made : List NetId} {d n m : ℕ} (w : ℕ) → Stands old new table made d n m
    → IsNet old n w → IsNet new m w
net_there {table = table} {m = m} w s k =
    let q : Some s.sized ≡ Some k.sized = sym s.found ∙ k.found in
    let same : s.sized ≡ k.sized = cc in
    let plain : IsPlain s.sized.cell = subst (λ (x : SizedCell). IsPlain x.cell) (sym same) k.plain in
    record {
      sized = s.image;
      found = s.there;
      plain = as_image IsPlain s (image_plain table s.sized.cell s.image.cell plain) (fresh_plain m s.sized.cell plain);
      wide = s.wide ∙ (ap (λ (x : SizedCell). x.width) same ∙ k.wide);
    }

-- a constant stays one
constant_there : {old new : List SizedCell} {table : List (Option NetId)} {made : List NetId} {d n m : ℕ} (bound : ℕ) → Stands old new table made d n m
    → IsConstantBelow old n bound → IsConstantBelow new m bound
constant_there {old} {new} {table} {made} {d} {n} {m} bound s k =
    let q : Some s.sized ≡ Some (record { width = k.width; cell = Const k.constant }) = sym s.found ∙ k.found in
    let same : s.sized ≡ record { width = k.width; cell = Const k.constant } = cc in
    let early : is_late old n ≡ false = late_is old n s.sized s.found ∙ ap (λ (x : SizedCell). late_cell n x.cell) same in
    let like : IsImage table s.sized.cell s.image.cell = s.alike (λ e. (let q : true ≡ false = sym e ∙ early in cc)) in
    let is : s.image.cell ≡ Const k.constant = subst (λ (x : SizedCell). IsImage table x.cell s.image.cell) same like in
    record {
      width = s.image.width;
      constant = k.constant;
      found = s.there ∙ ap (λ (c : Cell). Some (record { width = s.image.width; cell = c })) is;
      below = k.below;
    }

address_there : {old new : List SizedCell} {table : List (Option NetId)} {made : List NetId} {d n m : ℕ} (depth : ℕ) → Stands old new table made d n m
    → IsAddress old n depth → IsAddress new m depth
address_there {old} {new} {n = n} {m = m} depth s a =
    let net : IsNet new m (width_of old n) = net_there (width_of old n) s a.net in
    let w : width_of new m ≡ width_of old n = net_width net in
    record { net = rw w net; inside = elim a.inside [ inl e ↦ inl (rw w e) | inr k ↦ inr (constant_there depth s k) ] }

-- a memory stays as deep
memory_image : (table : List (Option NetId)) (depth : ℕ) (at next enable : NetId) (image : Cell) → IsImage table (Mem depth at next enable) image → (a : NetId)
    × (b : NetId) × (c : NetId) × (image ≡ Mem depth a b c)
memory_image table depth at next enable image h = (h.0, h.1, h.2, h.3)

pub memory_there : {old new : List SizedCell} {table : List (Option NetId)} {made : List NetId} {d n m : ℕ} (width depth : ℕ) → Stands old new table made d n m
    → IsMemory old n width depth → IsMemory new m width depth
memory_there {old} {new} {table} {made} {d} {n} {m} width depth s k =
    let q : Some s.sized ≡ Some (record { width = width; cell = Mem depth k.at k.next k.enable }) = sym s.found ∙ k.found in
    let same : s.sized ≡ record { width = width; cell = Mem depth k.at k.next k.enable } = cc in
    let is : s.sized.cell ≡ Mem depth k.at k.next k.enable = ap (λ (x : SizedCell). x.cell) same in
    let wide : s.image.width ≡ width = s.wide ∙ ap (λ (x : SizedCell). x.width) same in
    let own : NetId = record { 0 = m } in
    let names : fresh_cell m s.sized.cell ≡ Mem depth own own own = ap (fresh_cell m) is in
    let cell = as_image (λ (x : Cell). (a : NetId) × (b : NetId) × (c : NetId) × (x ≡ Mem depth a b c)) s
    (λ h. memory_image table depth k.at k.next k.enable s.image.cell (subst (λ (x : Cell). IsImage table x s.image.cell) is h)) (own, own, own, names) in
    record {
      at = cell.0;
      next = cell.1;
      enable = cell.2;
      found = s.there ∙ ap (λ (x : SizedCell). Some x) (same_sized s.image (record { width = width; cell = Mem depth cell.0 cell.1 cell.2 }) wide cell.3);
    }

-- ---- what a cell reads has a place

or_false : (a b : Bool) → (a || b) ≡ false → (a ≡ false) × (b ≡ false)
or_false true b e = cc
or_false false b e = (refl, e)

-- an early cell reads nets before it
early_reads : (old : List SizedCell) (n width : ℕ) (cell : Cell) → CellFits (take n old) old n width cell → late_cell n cell ≡ false
    → EachRead (λ r. r < n) cell
early_reads old n width (Input port) f e = tt
early_reads old n width (Const k) f e = tt
early_reads old n width (Op op args) f e =
    each_operand op (IsNet (take n old)) (λ r. r < n) args (width_of (take n old) (main_operand op args)) f.operands
    (λ m v k. get_take_within old n m k.sized k.found)
early_reads old n width (Reg next) f e = elim (cases_lt next.0 n) [ inl l ↦ l | inr l ↦ (let q : true ≡ false = sym (le-leb n next.0 l) ∙ e in cc) ]
early_reads old n width (Mem depth at next enable) f e =
    let rest = or_false (nat_le n at.0) (nat_le n next.0 || nat_le n enable.0) e in
    let last = or_false (nat_le n next.0) (nat_le n enable.0) rest.1 in
    (before n at.0 rest.0, before n next.0 last.0, before n enable.0 last.1)
  where
    before : (n r : ℕ) → nat_le n r ≡ false → r < n
    before n r e = elim (cases_lt r n) [ inl l ↦ l | inr l ↦ (let q : true ≡ false = sym (le-leb n r l) ∙ e in cc) ]
early_reads old n width (Peek mem at) f e = (get_take_within old n mem.0 _ f.memory.found, get_take_within old n at.0 f.address.net.sized f.address.net.found)

each_both : (P Q R : ℕ → Type 0) (cell : Cell) → ((n : ℕ) → P n → Q n → R n) → EachRead P cell → EachRead Q cell → EachRead R cell
each_both P Q R (Input port) f p q = tt
each_both P Q R (Const k) f p q = tt
each_both P Q R (Op op args) f p q = (f _ p.0 q.0, f _ p.1 q.1, f _ p.2 q.2)
each_both P Q R (Reg next) f p q = f _ p q
each_both P Q R (Mem depth at next enable) f p q = (f _ p.0 q.0, f _ p.1 q.1, f _ p.2 q.2)
each_both P Q R (Peek mem at) f p q = (f _ p.0 q.0, f _ p.1 q.1)

pub reads_mapped : (old new : List SizedCell) (keep : List Bool) (table : List (Option NetId)) (made : List NetId) (i d : ℕ) (sized : SizedCell) → IsFormed old
    → slice_get old i ≡ Some sized → late_cell i sized.cell ≡ false
    → EachRead (IsKept keep) sized.cell → IsCopied old keep new table made i d → EachRead (IsMapped table) sized.cell
reads_mapped old new keep table made i d sized formed h early reads c =
    each_both (λ r. r < i) (IsKept keep) (IsMapped table) sized.cell (λ n l k. c.kept n l k)
    (early_reads old i sized.width sized.cell (formed.each i sized h).cell early) reads

-- what a late cell reads has one in the end
pub late_mapped : (old : Circuit) (new : List SizedCell) (keep : List Bool) (table : List (Option NetId)) (made : List NetId) (d : ℕ) (own : NetId)
    (sized : SizedCell) → IsFormed old.cells → AreMarked old keep → slice_get made d ≡ Some own
    → slice_get old.cells own.0 ≡ Some sized → IsCopied old.cells keep new table made (length old.cells) d → EachRead (IsMapped table) sized.cell
late_mapped old new keep table made d own sized formed marked h there c =
    each_both (λ r. r < length old.cells) (IsKept keep) (IsMapped table) sized.cell (λ n l k. c.kept n l k) (reads_within old.cells own.0 sized formed there)
    (marked.reads own.0 sized (c.only own.0 d (c.source d own h)) there)

-- ---- the image may be added

same_operands : (new : List SizedCell) (table : List (Option NetId)) (P : ℕ → ℕ → Type 0) (op : WordOp) (args to : List NetId) (w : ℕ)
    → ((n m v : ℕ) → Maps table n m → P n v → IsNet new m v)
    → Maps table (operand args 0) (operand to 0) → Maps table (operand args 1) (operand to 1) → Maps table (operand args 2) (operand to 2)
    → OperandsAre op P args w → OperandsAre op (IsNet new) to w
same_operands new table P Mux args to w f a b c h = (f _ _ _ a h.0, f _ _ _ b h.1, f _ _ _ c h.2)
same_operands new table P _ args to w f a b c h = (f _ _ _ a h.0, f _ _ _ b h.1, f _ _ _ c h.2)

operation_image : (old new : List SizedCell) (table : List (Option NetId)) (op : WordOp) (args to : List NetId) (w : ℕ)
    → ((n m v : ℕ) → Maps table n m → IsNet old n v → IsNet new m v)
    → Maps table (operand args 0) (operand to 0) → Maps table (operand args 1) (operand to 1) → Maps table (operand args 2) (operand to 2)
    → IsOperation old op args w → IsOperation new op to w
operation_image old new table op args to w f a b c h =
    let all = same_operands new table (IsNet old) op args to (width_of old (main_operand op args)) f a b c h.operands in
    let e : width_of new (main_operand op to) ≡ width_of old (main_operand op args) = net_width
    (main_is op (IsNet new) to (width_of old (main_operand op args)) all) in
    record { unsigned = h.unsigned; range = h.range; operands = rw e all; result = rw e h.result }

written_image : (old new : List SizedCell) (table : List (Option NetId)) (made : List NetId) (d width depth : ℕ) (at next enable a b c : NetId)
    → ((n m : ℕ) → Maps table n m → Stands old new table made d n m)
    → Maps table at.0 a.0 → Maps table next.0 b.0 → Maps table enable.0 c.0 → IsWritten old width depth at.0 next.0 enable.0
    → IsWritten new width depth a.0 b.0 c.0
written_image old new table made d width depth at next enable a b c f p q r h =
    record { address = address_there depth (f _ _ p) h.address; word = net_there width (f _ _ q) h.word; bit = net_there 1 (f _ _ r) h.bit }

-- a memory that is early is connected
early_written : (old : List SizedCell) (n width depth : ℕ) (at next enable : NetId) → late_cell n (Mem depth at next enable) ≡ false
    → NamesItself n at.0 next.0 enable.0 ⊎ IsWritten old width depth at.0 next.0 enable.0 → IsWritten old width depth at.0 next.0 enable.0
early_written old n width depth at next enable e h = elim h [
  | inr w ↦ w
  | inl own ↦ (let rest = or_false (nat_le n at.0) _ e in let l : n ≤ at.0 = omega (arith, own.at_own) in let q : true ≡ false = sym (le-leb n at.0 l) ∙
      rest.0 in cc)
]

address_from_take : (old : List SizedCell) (n at depth : ℕ) → IsAddress (take n old) at depth → IsAddress old at depth
address_from_take old n at depth h =
    let net : IsNet old at (width_of (take n old) at) = net_from_take old n at (width_of (take n old) at) h.net in
    let w : width_of old at ≡ width_of (take n old) at = net_width net in
    record {
      net = rw w net;
      inside = elim h.inside [
        | inl e ↦ inl (rw w e)
        | inr k ↦ inr (record { width = k.width; constant = k.constant; found = get_from_take old n at _ k.found; below = k.below })
      ];
    }

image_follows : (old new : List SizedCell) (table : List (Option NetId)) (made : List NetId) (d n width : ℕ) (cell image : Cell)
    → ((i m : ℕ) → Maps table i m → Stands old new table made d i m) → CellFits (take n old) old n width cell → late_cell n cell ≡ false
    → IsImage table cell image → MayFollow new width image
image_follows old new table made d n width (Input port) image f fits e h = rw h tt
image_follows old new table made d n width (Const k) image f fits e h = rw h fits
image_follows old new table made d n width (Op op args) image f fits e h =
    rw h.1 (operation_image (take n old) new table op args h.0 width (λ a b v k net. net_there v (f a b k) (net_from_take old n a v net)) h.2 h.3 h.4 fits)
image_follows old new table made d n width (Reg next) image f fits e h = rw h.1 (net_there width (f _ _ h.2) fits)
image_follows old new table made d n width (Mem depth at next enable) image f fits e h =
    rw h.3 (
      fits.0,
      fits.1,
      written_image old new table made d width depth at next enable h.0 h.1 h.2 f h.4 h.5 h.6
          (early_written old n width depth at next enable e fits.2),
    )
image_follows old new table made d n width (Peek mem at) image f fits e h =
    rw h.2 (record {
      depth = fits.depth;
      memory = memory_there width fits.depth (f _ _ h.3) (memory_from_take old n mem.0 width fits.depth fits.memory);
      address = address_there fits.depth (f _ _ h.4) (address_from_take old n at.0 fits.depth fits.address);
    })

pub follows : (old new : List SizedCell) (keep : List Bool) (table : List (Option NetId)) (made : List NetId) (i d : ℕ) (sized : SizedCell) (image : Cell)
    → IsFormed old → slice_get old i ≡ Some sized → late_cell i sized.cell ≡ false
    → IsImage table sized.cell image → IsCopied old keep new table made i d → MayFollow new sized.width image
follows old new keep table made i d sized image formed h early alike c =
    image_follows old new table made d i sized.width sized.cell image c.each (formed.each i sized h).cell early alike

-- a memory has a depth
pub has_depth : (old : List SizedCell) (n : ℕ) (sized : SizedCell) → IsFormed old → slice_get old n ≡ Some sized → HasDepth sized.cell
has_depth old n sized formed h = depth_of_fits sized.cell (formed.each n sized h).cell
  where
    depth_of_fits : (cell : Cell) → CellFits (take n old) old n sized.width cell → HasDepth cell
    depth_of_fits (Input port) f = tt
    depth_of_fits (Const k) f = tt
    depth_of_fits (Op op args) f = tt
    depth_of_fits (Reg next) f = tt
    depth_of_fits (Mem depth at next enable) f = (f.0, f.1)
    depth_of_fits (Peek mem at) f = tt

-- ---- late cells are connected

-- the next cell is not late
pub copied_pass : (old new : List SizedCell) (keep : List Bool) (table : List (Option NetId)) (made : List NetId) (i d : ℕ) (own : NetId)
    → slice_get made d ≡ Some own → is_late old own.0 ≡ false
    → IsCopied old keep new table made i d → IsCopied old keep new table made i (d + 1)
copied_pass old new keep table made i d own h early c = record {
  long = c.long;
  all_made = c.all_made;
  shape = c.shape;
  each = λ n m k. let s = c.each n m k in record {
    sized = s.sized;
    image = s.image;
    found = s.found;
    there = s.there;
    wide = s.wide;
    alike = λ l. elim (cases_eq m d) [
      | inl e ↦
          let never : is_late old n ≡ false = sym (s.kind own (ap (slice_get made) e ∙ h)) ∙ early in
          s.alike (λ t. (let q : true ≡ false = sym t ∙ never in cc))
      | inr ne ↦ s.alike (λ t. (let below : m < d + 1 = l t in omega arith))
    ];
    fresh = λ t l. s.fresh t (omega arith);
    own = s.own;
    kind = s.kind;
    number = s.number;
  };
  source = c.source;
  kept = c.kept;
  only = c.only;
  rising = c.rising;
}

fresh_depth : (own : ℕ) (cell : Cell) → depth_in_cell (fresh_cell own cell) ≡ depth_in_cell cell
fresh_depth own (Mem depth at next enable) = refl
fresh_depth own _ = refl

-- what is at a late cell that is not connected
record IsFresh (old new : List SizedCell) (table : List (Option NetId)) (made : List NetId) (d : ℕ) (own : NetId) (sized : SizedCell) : Type 0 where
  maps : Maps table own.0 d
  stands : Stands old new table made d own.0 d
  found : slice_get new d ≡ Some (record { width = sized.width; cell = fresh_cell d sized.cell })
  late : is_late old own.0 ≡ true

fresh_at : (old new : List SizedCell) (keep : List Bool) (table : List (Option NetId)) (made : List NetId) (i d : ℕ) (own : NetId) (sized : SizedCell)
    → slice_get made d ≡ Some own → slice_get old own.0 ≡ Some sized → late_cell own.0 sized.cell ≡ true
    → IsCopied old keep new table made i d → IsFresh old new table made d own sized
fresh_at old new keep table made i d own sized h there late c =
    let s = c.each own.0 d (c.source d own h) in
    let t : is_late old own.0 ≡ true = late_is old own.0 sized there ∙ late in
    let q : Some s.sized ≡ Some sized = sym s.found ∙ there in
    let same : s.sized ≡ sized = cc in
    let is : s.image.cell ≡ fresh_cell d sized.cell = s.fresh t (omega arith) ∙ ap (λ (x : SizedCell). fresh_cell d x.cell) same in
    let w : s.image.width ≡ sized.width = s.wide ∙ ap (λ (x : SizedCell). x.width) same in
    record {
      maps = c.source d own h;
      stands = s;
      found = s.there ∙ ap (λ (x : SizedCell). Some x) (same_sized s.image (record { width = sized.width; cell = fresh_cell d sized.cell }) w is);
      late = t;
    }

pub late_width : (old new : List SizedCell) (keep : List Bool) (table : List (Option NetId)) (made : List NetId) (i d : ℕ) (own : NetId) (sized : SizedCell)
    → slice_get made d ≡ Some own → slice_get old own.0 ≡ Some sized → late_cell own.0 sized.cell ≡ true
    → IsCopied old keep new table made i d → width_of new d ≡ sized.width
late_width old new keep table made i d own sized h there late c = width_is new d _ (fresh_at old new keep table made i d own sized h there late c).found

pub late_depth : (old new : List SizedCell) (keep : List Bool) (table : List (Option NetId)) (made : List NetId) (i d : ℕ) (own : NetId) (sized : SizedCell)
    → slice_get made d ≡ Some own → slice_get old own.0 ≡ Some sized → late_cell own.0 sized.cell ≡ true
    → IsCopied old keep new table made i d → depth_of new d ≡ depth_in_cell sized.cell
unfolding depth_of
late_depth old new keep table made i d own sized h there late c =
    ap depth_in (fresh_at old new keep table made i d own sized h there late c).found ∙ fresh_depth d sized.cell

-- a register that is not connected
pub may_connect : (old new : List SizedCell) (keep : List Bool) (table : List (Option NetId)) (made : List NetId) (i d width : ℕ) (own next to : NetId)
    → IsFormed old → slice_get made d ≡ Some own
    → slice_get old own.0 ≡ Some (record { width = width; cell = Reg next }) → late_cell own.0 (Reg next) ≡ true → Maps table next.0 to.0
    → IsCopied old keep new table made i d
    → IsRegister new d (width_of new d) × IsNet new to.0 (width_of new d)
may_connect old new keep table made i d width own next to formed h there late maps c =
    let f = fresh_at old new keep table made i d own _ h there late c in
    let w : width_of new d ≡ width = width_is new d _ f.found in
    (rw w (record { next = record { 0 = d }; found = f.found }), rw w (net_there width (c.each next.0 to.0 maps) (formed.each own.0 _ there).cell))

-- a memory that is not connected, of one that is
pub may_write : (old new : List SizedCell) (keep : List Bool) (table : List (Option NetId)) (made : List NetId) (i d width depth : ℕ)
    (own at next enable a b e : NetId) → IsFormed old → slice_get made d ≡ Some own
    → slice_get old own.0 ≡ Some (record { width = width; cell = Mem depth at next enable }) → late_cell own.0 (Mem depth at next enable) ≡ true
    → enable.0 ≢ own.0
    → Maps table at.0 a.0 → Maps table next.0 b.0 → Maps table enable.0 e.0 → IsCopied old keep new table made i d
    → IsMemory new d (width_of new d) (depth_of new d) × IsWritten new (width_of new d) (depth_of new d) a.0 b.0 e.0
unfolding depth_of
may_write old new keep table made i d width depth own at next enable a b e formed h there late other p q r c =
    let f = fresh_at old new keep table made i d own _ h there late c in
    let w : width_of new d ≡ width = width_is new d _ f.found in
    let k : depth_of new d ≡ depth = ap depth_in f.found in
    let written : IsWritten old width depth at.0 next.0 enable.0 = elim ((formed.each own.0 _ there).cell.2) [
      | inl s ↦ absurd
          (other s.enable_own)
      | inr x ↦ x
    ] in (
      rw (w, k) (record { at = record { 0 = d }; next = record { 0 = d }; enable = record { 0 = d }; found = f.found }),
      rw (w, k) (written_image old new table made d width depth at next enable a b e c.each p q r written),
    )

-- a late cell takes its nets
pub copied_connect : (old new : List SizedCell) (keep : List Bool) (table : List (Option NetId)) (made : List NetId) (i d : ℕ) (own : NetId)
    (sized : SizedCell) (cell : Cell) → slice_get made d ≡ Some own
    → slice_get old own.0 ≡ Some sized → late_cell own.0 sized.cell ≡ true → IsImage table sized.cell cell → IsCopied old keep new table made i d
    → IsCopied old keep (set new d (record { width = sized.width; cell = cell })) table made i (d + 1)
copied_connect old new keep table made i d own sized cell h there late alike c =
    let f = fresh_at old new keep table made i d own sized h there late c in
    let after : SizedCell = record { width = sized.width; cell = cell } in
    let before : SizedCell = record { width = sized.width; cell = fresh_cell d sized.cell } in
    let no_input : is_input sized.cell ≡ false = late_input own.0 sized.cell late in
    let input_after : is_input cell ≡ false = image_input table sized.cell cell alike ∙ no_input in
    let mul_after : is_mul cell ≡ false = image_mul table sized.cell cell alike ∙ late_mul own.0 sized.cell late in
    let input_before : is_input before.cell ≡ false = fresh_input d sized.cell in
    record {
      long = c.long;
      all_made = c.all_made ∙ sym (length-set new d after);
      shape = shape_set old new i d before after f.found input_before input_after (fresh_mul d sized.cell) mul_after c.shape;
      each = λ n m k. elim (cases_eq m d) [
        | inr ne ↦ let s = c.each n m k in record {
          sized = s.sized;
          image = s.image;
          found = s.found;
          there = get_set_other new d m after ne ∙ s.there;
          wide = s.wide;
          alike = λ l. s.alike (λ t. (let below : m < d + 1 = l t in omega arith));
          fresh = λ t l. s.fresh t (omega arith);
          own = s.own;
          kind = s.kind;
          number = λ e. count_replaced (λ (x : SizedCell). is_input x.cell) new d m before after f.found (input_after ∙ sym input_before) ∙ s.number e;
        }
        | inl e ↦
            let s = c.each n m k in
            let at : slice_get made m ≡ Some own = ap (slice_get made) e ∙ h in
            let t : is_late old n ≡ true = sym (s.kind own at) ∙ f.late in
            let q : Some own ≡ Some (record { 0 = n }) = sym at ∙ s.own t in
            let r : own ≡ record { 0 = n } = cc in
            let mine : own.0 ≡ n = ap (λ (x : NetId). x.0) r in
            rw (← mine, e) (record {
              sized = sized;
              image = after;
              found = there;
              there = get_set_same new d after before f.found;
              wide = refl;
              alike = λ l. alike;
              fresh = λ u l. absurd (omega arith);
              own = λ u. h;
              kind = f.stands.kind;
              number = λ u. (let q : true ≡ false = sym u ∙ no_input in cc);
            })
      ];
      source = c.source;
      kept = c.kept;
      only = c.only;
      rising = c.rising;
    }

-- and a memory that names itself is as it was
pub copied_idle : (old new : List SizedCell) (keep : List Bool) (table : List (Option NetId)) (made : List NetId) (i d width depth : ℕ)
    (own at next enable : NetId) → IsFormed old → slice_get made d ≡ Some own
    → slice_get old own.0 ≡ Some (record { width = width; cell = Mem depth at next enable }) → enable.0 ≡ own.0
    → late_cell own.0 (Mem depth at next enable) ≡ true → IsCopied old keep new table made i d → IsCopied old keep new table made i (d + 1)
copied_idle old new keep table made i d width depth own at next enable formed h there mine late c =
    let f = fresh_at old new keep table made i d own _ h there late c in
    let names : NamesItself own.0 at.0 next.0 enable.0 = elim ((formed.each own.0 _ there).cell.2) [
      | inl s ↦ s
      | inr w ↦
          let q : Some w.bit.sized ≡ Some (record { width = width; cell = Mem depth at next enable }) = sym w.bit.found ∙ (ap (slice_get old) mine ∙ there) in
          let same : w.bit.sized ≡ record { width = width; cell = Mem depth at next enable } = cc in
          absurd (subst (λ (x : SizedCell). IsPlain x.cell) same w.bit.plain)
    ] in
    let me : NetId = record { 0 = d } in
    let alike : IsImage table (Mem depth at next enable) (Mem depth me me me) = (
      me,
      me,
      me,
      refl,
      rw names.at_own f.maps,
      rw names.next_own f.maps,
      rw names.enable_own f.maps,
    ) in
    subst (λ (l : List SizedCell). IsCopied old keep l table made i (d + 1)) (set_itself new d (record { width = width; cell = Mem depth me me me }) f.found)
    (copied_connect old new keep table made i d own (record { width = width; cell = Mem depth at next enable }) (Mem depth me me me) h there late alike c)

-- once all are connected, each net has its image
pub all_images : (old new : List SizedCell) (keep : List Bool) (table : List (Option NetId)) (made : List NetId) (i d : ℕ) → length new ≤ d
    → IsCopied old keep new table made i d → AreImages old new table
all_images old new keep table made i d l c = record {
  each = λ n m k. let s = c.each n m k in record {
    sized = s.sized;
    image = s.image;
    found = s.found;
    there = s.there;
    wide = s.wide;
    alike = s.alike (λ t. (let b : m < length new = slice_get_within new m s.image s.there in omega arith));
  };
}
