-- A copy that goes on by one cell.
use Rattle.std.proofs.Common.{ℕ, ◌≡◌, ◌+◌, ◌<◌, ◌≤◌, List, [], ◌∷◌, ◌++◌, length, length-append, take, Option, Some, None, slice_get, Bool, true, false, not, ◌||◌, inl, inr, arith, refl, ap, sym, ◌∙◌, subst}
use Rattle.std.proofs.lemmas.Bool.{cases_Bool, cases_lt, le-leb}
use Rattle.std.proofs.lemmas.List.{take-append-le, take_at}
use Rattle.std.proofs.lemmas.List.Sums.{length-filter}
use Rattle.std.proofs.lemmas.Option.{slice_get_within}
use Rattle.ae_netlist.specs.declared.cell.NetId.{NetId}
use Rattle.ae_netlist.specs.declared.cell.Cell.{Cell}
use Rattle.ae_netlist.specs.declared.cell.Cell.TheVariants.{Input, Const, Op, Reg, Mem, Peek}
use Rattle.ae_netlist.specs.declared.cell.SizedCell.{SizedCell}
use Rattle.ae_netlist.specs.Circuit.{IsPlain}
use Rattle.ae_netlist.specs.Counts.{count_of, is_input, is_mul, is_product}
use Rattle.ae_netlist.proofs.Gets.{get_left, get_pushed, get_push_cases}
use Rattle.ae_tidy.specs.Images.{Maps, IsImage, IsThere, Stands, fresh_cell, is_late, late_in, late_cell, may_merge}
use Rattle.ae_tidy.specs.Marks.{IsKept, is_root}
use Rattle.ae_tidy.specs.Copies.{IsCopied, IsMapped}
use Rattle.ae_tidy.specs.Places.{AreRising}
use Rattle.ae_tidy.proofs.Shaping.{shape_skip, shape_add}

-- ---- what a cell and its image have in common

pub image_map : (table more : List (Option NetId)) (cell image : Cell) → ((n m : ℕ) → Maps table n m → Maps more n m) → IsImage table cell image
    → IsImage more cell image
image_map table more (Input port) image f h = h
image_map table more (Const k) image f h = h
image_map table more (Op op args) image f h = (h.0, h.1, f _ _ h.2, f _ _ h.3, f _ _ h.4)
image_map table more (Reg next) image f h = (h.0, h.1, f _ _ h.2)
image_map table more (Mem depth at next enable) image f h = (h.0, h.1, h.2, h.3, f _ _ h.4, f _ _ h.5, f _ _ h.6)
image_map table more (Peek mem at) image f h = (h.0, h.1, h.2, f _ _ h.3, f _ _ h.4)

pub image_plain : (table : List (Option NetId)) (cell image : Cell) → IsPlain cell → IsImage table cell image → IsPlain image
image_plain table (Input port) image p h = rw h tt
image_plain table (Const k) image p h = rw h tt
image_plain table (Op op args) image p h = rw h.1 tt
image_plain table (Reg next) image p h = rw h.1 tt
image_plain table (Mem depth at next enable) image p h = absurd p
image_plain table (Peek mem at) image p h = rw h.2 tt

pub image_input : (table : List (Option NetId)) (cell image : Cell) → IsImage table cell image → is_input image ≡ is_input cell
image_input table (Input port) image h = rw h refl
image_input table (Const k) image h = rw h refl
image_input table (Op op args) image h = rw h.1 refl
image_input table (Reg next) image h = rw h.1 refl
image_input table (Mem depth at next enable) image h = rw h.3 refl
image_input table (Peek mem at) image h = rw h.2 refl

pub image_mul : (table : List (Option NetId)) (cell image : Cell) → IsImage table cell image → is_mul image ≡ is_mul cell
image_mul table (Input port) image h = rw h refl
image_mul table (Const k) image h = rw h refl
image_mul table (Op op args) image h = rw h.1 refl
image_mul table (Reg next) image h = rw h.1 refl
image_mul table (Mem depth at next enable) image h = rw h.3 refl
image_mul table (Peek mem at) image h = rw h.2 refl

pub image_same : (table : List (Option NetId)) (cell image : Cell) → is_input cell ≡ true → IsImage table cell image → image ≡ cell
image_same table (Input port) image e h = h
image_same table (Const k) image e h = cc
image_same table (Op op args) image e h = cc
image_same table (Reg next) image e h = cc
image_same table (Mem depth at next enable) image e h = cc
image_same table (Peek mem at) image e h = cc

merge_input : (cell : Cell) → may_merge cell ≡ true → is_input cell ≡ false
merge_input (Input port) e = cc
merge_input (Const k) e = refl
merge_input (Op op args) e = refl
merge_input (Reg next) e = refl
merge_input (Mem depth at next enable) e = refl
merge_input (Peek mem at) e = refl

merge_mul : (cell : Cell) → may_merge cell ≡ true → is_mul cell ≡ false
merge_mul (Input port) e = refl
merge_mul (Const k) e = refl
merge_mul (Op op args) e = not_true (is_product op) e
  where
    not_true : (b : Bool) → not b ≡ true → b ≡ false
    not_true true q = cc
    not_true false q = refl
merge_mul (Reg next) e = refl
merge_mul (Mem depth at next enable) e = refl
merge_mul (Peek mem at) e = refl

not_root : (cell : Cell) → is_root cell ≡ false → (is_input cell ≡ false) × (is_mul cell ≡ false)
not_root (Input port) e = cc
not_root (Const k) e = (refl, e)
not_root (Op op args) e = (refl, e)
not_root (Reg next) e = (refl, e)
not_root (Mem depth at next enable) e = (refl, e)
not_root (Peek mem at) e = (refl, e)

-- ---- late cells

-- they are registers and memories
pub late_input : (n : ℕ) (cell : Cell) → late_cell n cell ≡ true → is_input cell ≡ false
late_input n (Input port) e = cc
late_input n (Const k) e = cc
late_input n (Op op args) e = cc
late_input n (Reg next) e = refl
late_input n (Mem depth at next enable) e = refl
late_input n (Peek mem at) e = cc

pub late_mul : (n : ℕ) (cell : Cell) → late_cell n cell ≡ true → is_mul cell ≡ false
late_mul n (Input port) e = cc
late_mul n (Const k) e = cc
late_mul n (Op op args) e = cc
late_mul n (Reg next) e = refl
late_mul n (Mem depth at next enable) e = refl
late_mul n (Peek mem at) e = cc

pub fresh_input : (own : ℕ) (cell : Cell) → is_input (fresh_cell own cell) ≡ false
fresh_input own (Mem depth at next enable) = refl
fresh_input own _ = refl

pub fresh_mul : (own : ℕ) (cell : Cell) → is_mul (fresh_cell own cell) ≡ false
fresh_mul own (Mem depth at next enable) = refl
fresh_mul own _ = refl

pub fresh_plain : (own : ℕ) (cell : Cell) → IsPlain cell → IsPlain (fresh_cell own cell)
fresh_plain own (Mem depth at next enable) p = absurd p
fresh_plain own (Input port) p = tt
fresh_plain own (Const k) p = tt
fresh_plain own (Op op args) p = tt
fresh_plain own (Reg next) p = tt
fresh_plain own (Peek mem at) p = tt

-- one that names itself is late
pub fresh_late : (own : ℕ) (cell : Cell) → late_cell own (fresh_cell own cell) ≡ true
fresh_late own (Mem depth at next enable) = ap (λ (b : Bool). b || (b || b)) (le-leb own own (omega arith))
fresh_late own (Input port) = le-leb own own (omega arith)
fresh_late own (Const k) = le-leb own own (omega arith)
fresh_late own (Op op args) = le-leb own own (omega arith)
fresh_late own (Reg next) = le-leb own own (omega arith)
fresh_late own (Peek mem at) = le-leb own own (omega arith)

pub late_is : (old : List SizedCell) (n : ℕ) (sized : SizedCell) → slice_get old n ≡ Some sized → is_late old n ≡ late_cell n sized.cell
unfolding is_late
late_is old n sized h = ap (late_in n) h

-- ---- the table grows

pub maps_left : {table : List (Option NetId)} {n m : ℕ} (v : Option NetId) → Maps table n m → Maps (table ++ v ∷ []) n m
maps_left {table} {n} v h = record { found = get_left table (v ∷ []) n _ h.found }

maps_last : (table : List (Option NetId)) (n m : ℕ) → n ≡ length table → Maps (table ++ (Some (record { 0 = m })) ∷ []) n m
maps_last table n m e = record { found = ap (slice_get (table ++ (Some (record { 0 = m })) ∷ [])) e ∙ get_pushed table (Some (record { 0 = m })) }

mapped_left : {table : List (Option NetId)} {n : ℕ} (v : Option NetId) → IsMapped table n → IsMapped (table ++ v ∷ []) n
mapped_left v h = record { net = h.net; maps = maps_left v h.maps }

stands_table : {old new : List SizedCell} {table : List (Option NetId)} {made : List NetId} {d n m : ℕ} (v : Option NetId) → Stands old new table made d n m
    → Stands old new (table ++ v ∷ []) made d n m
stands_table {old} {new} {table} {made} {d} {n} {m} v s = record {
  sized = s.sized;
  image = s.image;
  found = s.found;
  there = s.there;
  wide = s.wide;
  alike = λ l. image_map table (table ++ v ∷ []) s.sized.cell s.image.cell (λ a b h. maps_left v h) (s.alike l);
  fresh = s.fresh;
  own = s.own;
  kind = s.kind;
  number = s.number;
}

-- what stands in a list that grew, where it reached before
still : {X : Type 0} (xs : List X) (y x : X) (k : ℕ) → k < length xs → slice_get (xs ++ y ∷ []) k ≡ Some x → slice_get xs k ≡ Some x
still xs y x k l h = elim (get_push_cases xs y k x h) [ inl w ↦ w.0 | inr w ↦ (let e = w.0 in absurd (omega arith)) ]

stands_push : {old new : List SizedCell} {table : List (Option NetId)} {made : List NetId} {d n m : ℕ} (x : SizedCell) (k : NetId) → length made ≡ length new
    → Stands old new table made d n m → Stands old (new ++ x ∷ []) table (made ++ k ∷ []) d n m
stands_push {old} {new} {table} {made} {d} {n} {m} x k long s =
    let l : m < length new = slice_get_within new m s.image s.there in
    record {
      sized = s.sized;
      image = s.image;
      found = s.found;
      there = get_left new (x ∷ []) m s.image s.there;
      wide = s.wide;
      alike = s.alike;
      fresh = s.fresh;
      own = λ e. get_left made (k ∷ []) m _ (s.own e);
      kind = λ j h. s.kind j (still made k j m (omega arith) h);
      number = λ e. ap (count_of is_input) (take-append-le m new (x ∷ []) (omega arith)) ∙ s.number e;
    }

-- ---- the next old cell

-- it has no place
pub copied_skip : (old new : List SizedCell) (keep : List Bool) (table : List (Option NetId)) (made : List NetId) (i d : ℕ) (sized : SizedCell)
    → slice_get old i ≡ Some sized → is_root sized.cell ≡ false → (IsKept keep i → ⊥)
    → IsCopied old keep new table made i d → IsCopied old keep new (table ++ None ∷ []) made (i + 1) d
copied_skip old new keep table made i d sized h plain gone c =
    let other = not_root sized.cell plain in
    record {
      long = omega (arith, c.long, length-append table (None ∷ []));
      all_made = c.all_made;
      shape = shape_skip old new i sized h other.0 other.1 c.shape;
      each = λ n m k. elim (get_push_cases table None n _ k.found) [
        | inl w ↦ stands_table None (c.each n m (record { found = w.0 }))
        | inr w ↦ (let q : None ≡ Some (record { 0 = m }) = w.1 in cc)
      ];
      source = λ m k e. maps_left None (c.source m k e);
      kept = λ n l k. elim (cases_lt n i) [
        | inl b ↦ mapped_left None (c.kept n b k)
        | inr b ↦ (let e : n ≡ i = omega arith in absurd (gone (subst (IsKept keep) e k)))
      ];
      only = λ n m k. elim (get_push_cases table None n _ k.found) [
        | inl w ↦ c.only n m (record { found = w.0 })
        | inr w ↦ (let q : None ≡ Some (record { 0 = m }) = w.1 in cc)
      ];
      rising = c.rising;
    }

-- it has one that is there
pub copied_merge : (old new : List SizedCell) (keep : List Bool) (table : List (Option NetId)) (made : List NetId) (i : ℕ) (sized image : SizedCell)
    (net : NetId)
    → slice_get old i ≡ Some sized → image.width ≡ sized.width → IsImage table sized.cell image.cell → late_cell i sized.cell ≡ false → IsThere new net.0 image
    → IsKept keep i
    → IsCopied old keep new table made i 0 → IsCopied old keep new (table ++ (Some net) ∷ []) made (i + 1) 0
copied_merge old new keep table made i sized image net h wide alike early is kept c =
    let no_input : is_input sized.cell ≡ false = sym (image_input table sized.cell image.cell alike) ∙ merge_input image.cell is.merges in
    let no_mul : is_mul sized.cell ≡ false = sym (image_mul table sized.cell image.cell alike) ∙ merge_mul image.cell is.merges in
    let never : is_late old i ≡ false = late_is old i sized h ∙ early in
    let here : Stands old new (table ++ (Some net) ∷ []) made 0 i net.0 = record {
      sized = sized;
      image = image;
      found = h;
      there = is.found;
      wide = wide;
      alike = λ l. image_map table (table ++ (Some net) ∷ []) sized.cell image.cell (λ a b k. maps_left (Some net) k) alike;
      fresh = λ e l. (let q : true ≡ false = sym e ∙ never in cc);
      own = λ e. (let q : true ≡ false = sym e ∙ never in cc);
      kind = λ k e. elim (cases_Bool (is_late old k.0)) [
        | inr f ↦ f ∙ sym never
        | inl f ↦
            let s = c.each k.0 net.0 (c.source net.0 k e) in
            let q : Some image ≡ Some s.image = sym is.found ∙ s.there in
            let same : image ≡ s.image = cc in
            let names : image.cell ≡ fresh_cell net.0 s.sized.cell = ap (λ (x : SizedCell). x.cell) same ∙ s.fresh f (omega arith) in
            let both : false ≡ true = sym is.connected ∙ (ap (late_cell net.0) names ∙ fresh_late net.0 s.sized.cell) in
            cc
      ];
      number = λ e. (let q : true ≡ false = sym e ∙ no_input in cc);
    } in
    record {
      long = omega (arith, c.long, length-append table ((Some net) ∷ []));
      all_made = c.all_made;
      shape = shape_skip old new i sized h no_input no_mul c.shape;
      each = λ n m k. elim (get_push_cases table (Some net) n _ k.found) [
        | inl w ↦ stands_table (Some net) (c.each n m (record { found = w.0 }))
        | inr w ↦
            let q : Some net ≡ Some (record { 0 = m }) = w.1 in
            let whole : net ≡ record { 0 = m } = cc in
            let at : net.0 ≡ m = ap (λ (x : NetId). x.0) whole in
            let from : n ≡ i = w.0 ∙ c.long in
            rw (from, ← at) here
      ];
      source = λ m k e. maps_left (Some net) (c.source m k e);
      kept = λ n l k. elim (cases_lt n i) [
        | inl b ↦ mapped_left (Some net) (c.kept n b k)
        | inr b ↦ record { net = net.0; maps = maps_last table n net.0 (omega (arith, c.long)) }
      ];
      only = λ n m k. elim (get_push_cases table (Some net) n _ k.found) [
        | inl w ↦ c.only n m (record { found = w.0 })
        | inr w ↦ (let from : n ≡ i = w.0 ∙ c.long in subst (IsKept keep) (sym from) kept)
      ];
      rising = c.rising;
    }

-- the cells that were copied so far stand before the next one
made_within : {old new : List SizedCell} {keep : List Bool} {table : List (Option NetId)} {made : List NetId} {i d : ℕ} → IsCopied old keep new table made i d
    → (k : ℕ) (a : NetId) → slice_get made k ≡ Some a → a.0 < i
made_within {table = table} c k a e = let l : a.0 < length table = slice_get_within table a.0 _ (c.source k a e).found in omega (arith, c.long)

rising_more : (made : List NetId) (own : NetId) → ((k : ℕ) (a : NetId) → slice_get made k ≡ Some a → a.0 < own.0) → AreRising made
    → AreRising (made ++ own ∷ [])
rising_more made own below r = record {
  each = λ i j a b l h g. elim (get_push_cases made own j b g) [
    | inl w ↦ (let le : i < length made = omega (arith, l, w.1) in r.each i j a b l (still made own a i le h) w.0)
    | inr w ↦
        let le : i < length made = omega (arith, l, w.0) in
        let same : own.0 ≡ b.0 = ap (λ (x : NetId). x.0) w.1 in
        let lt : a.0 < own.0 = below i a (still made own a i le h) in
        omega arith
  ];
}

-- it has one that is made of it
record IsMade (old new : List SizedCell) (table : List (Option NetId)) (made : List NetId) (i : ℕ) (sized image : SizedCell) : Type 0 where
  input : is_input image.cell ≡ is_input sized.cell
  same : is_input sized.cell ≡ true → image ≡ sized
  mul : is_mul image.cell ≡ is_mul sized.cell
  alike : (is_late old i ≡ true → length new < 0) → IsImage table sized.cell image.cell
  fresh : is_late old i ≡ true → 0 ≤ length new → image.cell ≡ fresh_cell (length new) sized.cell

copied_made : (old new : List SizedCell) (keep : List Bool) (table : List (Option NetId)) (made : List NetId) (i : ℕ) (sized image : SizedCell)
    (net own : NetId)
    → slice_get old i ≡ Some sized → image.width ≡ sized.width → net ≡ record { 0 = length new } → own ≡ record { 0 = i }
    → IsMade old new table made i sized image → IsKept keep i
    → IsCopied old keep new table made i 0 → IsCopied old keep (new ++ image ∷ []) (table ++ (Some net) ∷ []) (made ++ own ∷ []) (i + 1) 0
copied_made old new keep table made i sized image net own h wide last mine is kept c =
    let more : List (Option NetId) = table ++ (Some net) ∷ [] in
    let last2 : net.0 ≡ length new = ap (λ (x : NetId). x.0) last in
    let end : slice_get (made ++ own ∷ []) (length new) ≡ Some own = ap (slice_get (made ++ own ∷ [])) (sym c.all_made) ∙ get_pushed made own in
    let here : Stands old (new ++ image ∷ []) more (made ++ own ∷ []) 0 i (length new) = record {
      sized = sized;
      image = image;
      found = h;
      there = get_pushed new image;
      wide = wide;
      alike = λ l. image_map table more sized.cell image.cell (λ a b k. maps_left (Some net) k) (is.alike l);
      fresh = is.fresh;
      own = λ e. end ∙ ap (λ (x : NetId). Some x) mine;
      kind = λ k e. (let q : Some own ≡ Some k = sym end ∙ e in let r : own ≡ k = cc in ap (λ (x : NetId). is_late old x.0) (sym r ∙ mine));
      number = λ e.
          ap (count_of is_input) (take_at new (image ∷ []) (length new) refl)
          ∙ (sym (length-filter (λ (x : SizedCell). is_input x.cell) new) ∙
          (ap (λ (l : List SizedCell). length l) c.shape.inputs ∙ length-filter (λ (x : SizedCell). is_input x.cell) (take i old)));
    } in
    record {
      long = omega (arith, c.long, length-append table ((Some net) ∷ []));
      all_made = omega (arith, c.all_made, length-append made (own ∷ []), length-append new (image ∷ []));
      shape = shape_add old new i sized image h is.input is.same is.mul c.shape;
      each = λ n m k. elim (get_push_cases table (Some net) n _ k.found) [
        | inl w ↦ stands_table (Some net) (stands_push image own c.all_made (c.each n m (record { found = w.0 })))
        | inr w ↦
            let q : Some net ≡ Some (record { 0 = m }) = w.1 in
            let whole : net ≡ record { 0 = m } = cc in
            let at : net.0 ≡ m = ap (λ (x : NetId). x.0) whole in
            let from : n ≡ i = w.0 ∙ c.long in
            let to : m ≡ length new = sym at ∙ last2 in
            rw (from, to) here
      ];
      source = λ m k e. elim (get_push_cases made own m k e) [
        | inl w ↦ maps_left (Some net) (c.source m k w.0)
        | inr w ↦
            let from : k.0 ≡ i = ap (λ (x : NetId). x.0) (sym w.1 ∙ mine) in
            let to : m ≡ length new = w.0 ∙ c.all_made in
            record {
              found = ap (slice_get more) (from ∙ sym c.long) ∙
                  (get_pushed table (Some net) ∙ ap (λ (x : NetId). Some (Some x)) (last ∙ ap (λ (j : ℕ). record { 0 = j }) (sym to)));
            }
      ];
      kept = λ n l k. elim (cases_lt n i) [
        | inl b ↦ mapped_left (Some net) (c.kept n b k)
        | inr b ↦ record { net = net.0; maps = maps_last table n net.0 (omega (arith, c.long)) }
      ];
      only = λ n m k. elim (get_push_cases table (Some net) n _ k.found) [
        | inl w ↦ c.only n m (record { found = w.0 })
        | inr w ↦ (let from : n ≡ i = w.0 ∙ c.long in subst (IsKept keep) (sym from) kept)
      ];
      rising = rising_more made own (λ k a e. (let l : a.0 < i = made_within c k a e in let same : own.0 ≡ i = ap (λ (x : NetId). x.0) mine in omega arith))
          c.rising;
    }

pub copied_add : (old new : List SizedCell) (keep : List Bool) (table : List (Option NetId)) (made : List NetId) (i : ℕ) (sized image : SizedCell)
    (net own : NetId)
    → slice_get old i ≡ Some sized → image.width ≡ sized.width → net ≡ record { 0 = length new } → own ≡ record { 0 = i } → IsImage table sized.cell image.cell
    → late_cell i sized.cell ≡ false → IsKept keep i
    → IsCopied old keep new table made i 0 → IsCopied old keep (new ++ image ∷ []) (table ++ (Some net) ∷ []) (made ++ own ∷ []) (i + 1) 0
copied_add old new keep table made i sized image net own h wide last mine alike early kept c =
    copied_made old new keep table made i sized image net own h wide last mine
    (record {
      input = image_input table sized.cell image.cell alike;
      same = λ e. same_sized image sized wide (image_same table sized.cell image.cell e alike);
      mul = image_mul table sized.cell image.cell alike;
      alike = λ l. alike;
      fresh = λ e l. (let q : true ≡ false = sym e ∙ (late_is old i sized h ∙ early) in cc);
    }) kept c
  where
    same_sized : (a b : SizedCell) → a.width ≡ b.width → a.cell ≡ b.cell → a ≡ b
    same_sized a b p q = ap (λ w. record { width = w; cell = a.cell }) p ∙ ap (λ c. record { width = b.width; cell = c }) q

pub copied_late : (old new : List SizedCell) (keep : List Bool) (table : List (Option NetId)) (made : List NetId) (i : ℕ) (sized : SizedCell) (net own : NetId)
    → slice_get old i ≡ Some sized → net ≡ record { 0 = length new } → own ≡ record { 0 = i } → late_cell i sized.cell ≡ true → IsKept keep i
    → IsCopied old keep new table made i 0
    → IsCopied old keep (new ++ (record { width = sized.width; cell = fresh_cell (length new) sized.cell }) ∷ []) (table ++ (Some net) ∷ []) (made ++ own ∷ [])
    (i + 1) 0
copied_late old new keep table made i sized net own h last mine late kept c =
    let no_input : is_input sized.cell ≡ false = late_input i sized.cell late in
    copied_made old new keep table made i sized (record { width = sized.width; cell = fresh_cell (length new) sized.cell }) net own h refl last mine
    (record {
      input = fresh_input (length new) sized.cell ∙ sym no_input;
      same = λ e. (let q : true ≡ false = sym e ∙ no_input in cc);
      mul = fresh_mul (length new) sized.cell ∙ sym (late_mul i sized.cell late);
      alike = λ l. absurd (none_below (length new) (l (late_is old i sized h ∙ late)));
      fresh = λ e l. refl;
    }) kept c
  where
    none_below : (n : ℕ) → n < 0 → ⊥
    none_below n l = omega arith
