-- What a module without faults declares, drives and reads.
use Rattle.std.proofs.Common.{ℕ, zero, suc, ◌≡◌, ◌+◌, ◌<◌, ◌⊎◌, inl, inr, Bool, true, false, List, [], ◌∷◌, take, Option, Some, None, slice_get, arith, refl, sym, ap, ◌∙◌, subst}
use Rattle.std.specs.Prelude.{map, flat_map, bytes_eq, not, nat_lt}
use Rattle.std.proofs.lemmas.Bool.{cases_Bool, both_ways, or_parts}
use Rattle.std.proofs.lemmas.Bool.Decides.{Decides-ltb}
use Rattle.ae_vmodule.specs.declared.module.NetKind.{NetKind}
use Rattle.ae_vmodule.specs.declared.module.NetKind.TheVariants.{Input, Wire, OutWire, Reg, OutReg, Memory}
use Rattle.ae_vmodule.specs.ModuleTree.{ExprTree, StmtTree, set, put, when, either, block_end, block_more, NetTree, DriveTree, ItemTree, nets, assigns, always, ModuleTree}
use Rattle.ae_judge.specs.Names.{Among, is_input_kind, is_wire_kind, is_register_kind, is_memory_kind, net_named, passes, is_wire_name, is_register_name, is_memory_name, is_clock, names_in, stmt_reads, stmt_targets, target_of, drive_reads, drives_of, item_reads, item_targets, equations}
use Rattle.ae_judge.specs.Faults.{ItemAt, NetAt, IsDeclaredBefore, may_repeat, is_misused, is_misused_in_stmt, is_misused_in_drive, is_misused_in_item, IsWellFormed}
use Rattle.ae_judge.specs.Regular.{IsRegular}
use Rattle.ae_runs.specs.PlainRun.{drive_named}
use Rattle.ae_judge.proofs.Members.{same_bytes, bytes_same, among_split, among_at, among_from, among_map, among_unmap, among_flat, among_unflat, among_or_not, some_or_not, find_some, find_none, find_only, none_passes}

-- the name is declared and is not the clock
pub record IsData (m : ModuleTree) (n : List ℕ) : Type 0 where
  pub net : NetTree
  pub there : Among net m.nets
  pub named : net.name ≡ n
  pub data_name : is_clock m n ≡ false

-- an expression reads declared names that are not the clock, each as its kind allows
pub record IsReadable (m : ModuleTree) (e : ExprTree) : Type 0 where
  pub known : (n : List ℕ) → Among n (names_in e) → IsData m n
  pub right : is_misused m.nets e ≡ false

pub record IsReadableStmt (m : ModuleTree) (s : StmtTree) : Type 0 where
  pub known : (n : List ℕ) → Among n (stmt_reads s) → IsData m n
  pub right : is_misused_in_stmt m.nets s ≡ false

pub not_true : (b : Bool) → (b ≡ true → ⊥) → b ≡ false
not_true b h = elim (cases_Bool b) [ inl e ↦ absurd (h e) | inr e ↦ e ]

pub not_false : (b : Bool) → not b ≡ false → b ≡ true
not_false b h = elim b as (λ b. not b ≡ false → b ≡ true) [ true ↦ λ e. refl | false ↦ λ e. cc ] h

pub ordered : (p q : ℕ) → (p < q) ⊎ ((p ≡ q) ⊎ (q < p))
ordered zero zero = inr (inl refl)
ordered zero (suc q) = inl (omega arith)
ordered (suc p) zero = inr (inr (omega arith))
ordered (suc p) (suc q) = elim (ordered p q) [
  | inl l ↦ inl (omega arith)
  | inr r ↦ elim r [ inl e ↦ inr (inl (ap suc e)) | inr g ↦ inr (inr (omega arith)) ]
]

-- the declaration that is found has the name, and is one of the module's
pub named_net : (ns : List NetTree) (n : List ℕ) (x : NetTree) → net_named ns n ≡ Some x → Among x ns × (x.name ≡ n)
unfolding net_named
named_net ns n x h = let r = find_some (λ (y : NetTree). bytes_eq y.name n) ns x h in (r.0, same_bytes x.name n r.1)

passes_some : (test : NetTree → Bool) (o : Option NetTree) → passes test o ≡ true → (x : NetTree) × (o ≡ Some x) × (test x ≡ true)
passes_some test None h = absurd (cc)
passes_some test (Some x) h = (x, refl, h)

pub taken_at : {X : Type 0} (xs : List X) (j k : ℕ) (x : X) → slice_get (take j xs) k ≡ Some x → slice_get xs k ≡ Some x
taken_at [] zero k x h = h
taken_at [] (suc j) k x h = h
taken_at (y ∷ xs) zero k x h = absurd (let e : None ≡ Some x = h in cc)
taken_at (y ∷ xs) (suc j) zero x h = h
taken_at (y ∷ xs) (suc j) (suc k) x h = taken_at xs j k x h

map_at : {X Y : Type 0} (f : X → Y) (x : X) (xs : List X) (k : ℕ) → slice_get xs k ≡ Some x → slice_get (map f xs) k ≡ Some (f x)
map_at f x [] k h = absurd (let e : None ≡ Some x = h in cc)
map_at f x (y ∷ xs) zero h = ap Some (ap f (let e : Some y ≡ Some x = h in cc))
map_at f x (y ∷ xs) (suc k) h = map_at f x xs k h

wire_no_register : (k : NetKind) → is_wire_kind k ≡ true → is_register_kind k ≡ true → ⊥
wire_no_register Input w r = cc
wire_no_register Wire w r = cc
wire_no_register OutWire w r = cc
wire_no_register Reg w r = cc
wire_no_register OutReg w r = cc
wire_no_register (Memory depth) w r = cc

wire_no_memory : (k : NetKind) → is_wire_kind k ≡ true → is_memory_kind k ≡ true → ⊥
wire_no_memory Input w r = cc
wire_no_memory Wire w r = cc
wire_no_memory OutWire w r = cc
wire_no_memory Reg w r = cc
wire_no_memory OutReg w r = cc
wire_no_memory (Memory depth) w r = cc

pub wire_no_input : (k : NetKind) → is_wire_kind k ≡ true → is_input_kind k ≡ false
wire_no_input Input w = cc
wire_no_input Wire w = refl
wire_no_input OutWire w = refl
wire_no_input Reg w = refl
wire_no_input OutReg w = refl
wire_no_input (Memory depth) w = refl

pub named_or_not : {X : Type 0} (o : Option X) → ((x : X) × (o ≡ Some x)) ⊎ (o ≡ None)
named_or_not None = inr refl
named_or_not (Some x) = inl (x, refl)

-- a well-formed module is regular
pub regular : {m : ModuleTree} → IsWellFormed m → IsRegular m
regular ok = record { known = ok.known; once = ok.once; kinds = ok.kinds; driven = ok.driven; widths = ok.widths }

module _ (m : ModuleTree) (ok : IsRegular m) where
  -- a name is declared once
  net_once : (p q : ℕ) (x y : NetTree) → NetAt m p x → NetAt m q y → x.name ≡ y.name → x ≡ y
  net_once p q x y hx hy e = elim (ordered p q) [
    | inl l ↦ absurd (ok.once y.item (inl (p, q, x, y, l, hx, hy, e, refl)))
    | inr r ↦ elim r [
      | inl same ↦ let o : Some x ≡ Some y = sym hx ∙ ap (slice_get m.nets) same ∙ hy in cc
      | inr g ↦ absurd (ok.once x.item (inl (q, p, y, x, g, hy, hx, sym e, refl)))
    ]
  ]

  -- so it is found
  pub net_found : (x : NetTree) → Among x m.nets → net_named m.nets x.name ≡ Some x
  unfolding net_named
  net_found x a =
      let p = among_at x m.nets a in
      find_only (λ (y : NetTree). bytes_eq y.name x.name) m.nets x a (bytes_same x.name x.name refl)
      (λ y b t. let q = among_at y m.nets b in net_once q.0 p.0 y x q.1 p.1 (same_bytes y.name x.name t))

  pub found_net : (n : List ℕ) (x : NetTree) → Among x m.nets → x.name ≡ n → net_named m.nets n ≡ Some x
  found_net n x a e = subst (λ k. net_named m.nets k ≡ Some x) e (net_found x a)

  pub declared_or_not : (k : ℕ) (n : List ℕ) → IsDeclaredBefore m k n ⊎ (IsDeclaredBefore m k n → ⊥)
  declared_or_not k n =
      let test : (x : NetTree) → ((x.name ≡ n) × (x.item < k)) ⊎ ((x.name ≡ n) × (x.item < k) → ⊥) = λ x. elim (cases_Bool (bytes_eq x.name n)) [
        | inl e ↦ elim (cases_Bool (nat_lt x.item k)) [
          | inl l ↦ inl (same_bytes x.name n e, (Decides-ltb x.item k).0 l)
          | inr g ↦ inr (λ h. both_ways _ g ((Decides-ltb x.item k).1 h.1))
        ]
        | inr e ↦ inr (λ h. both_ways _ e (bytes_same x.name n h.0))
      ] in
      elim (some_or_not (λ (x : NetTree). (x.name ≡ n) × (x.item < k)) test m.nets) [
        | inl r ↦ inl (r.0, r.1, r.2.0, r.2.1)
        | inr never ↦ inr (λ h. never (h.0, h.1, (h.2, h.3)))
      ]

  pub item_at : (j : ℕ) (i : ItemTree) → slice_get m.items j ≡ Some i → ItemAt m (j + 1) i
  item_at j i h = (j, refl, h)

  -- an item that misuses nothing
  pub right_item : (j : ℕ) (i : ItemTree) → slice_get m.items j ≡ Some i → is_misused_in_item m i ≡ false
  right_item j i h = not_true _ (λ e. ok.kinds (j + 1) (i, item_at j i h, inl e))

  -- reads no clock
  no_clock_read : (j : ℕ) (i : ItemTree) (n : List ℕ) → slice_get m.items j ≡ Some i → Among n (item_reads i) → is_clock m n ≡ false
  no_clock_read j i n h a = not_true _ (λ e. ok.kinds (j + 1) (i, item_at j i h, inr (n, a, e)))

  pub right_drive : (i : ItemTree) (d : DriveTree) → is_misused_in_item m i ≡ false → Among d (drives_of i) → is_misused_in_drive m.nets d ≡ false
  right_drive (nets drives) d h a = none_passes (is_misused_in_drive m.nets) drives d h a
  right_drive (assigns drives) d h a = none_passes (is_misused_in_drive m.nets) drives d h a
  right_drive (always clock body) d h a = absurd a

  -- an equation's target is a wire
  pub drive_at : (d : DriveTree) → Among d (equations m) → (j : ℕ) × (i : ItemTree) × (slice_get m.items j ≡ Some i) × Among d (drives_of i)
  unfolding equations
  drive_at d a = among_unflat drives_of d m.items a

  pub equation_from : (j : ℕ) (i : ItemTree) (d : DriveTree) → slice_get m.items j ≡ Some i → Among d (drives_of i) → Among d (equations m)
  unfolding equations
  equation_from j i d h a = among_flat drives_of d m.items j i h a

  equation_right : (d : DriveTree) → Among d (equations m) → (is_wire_name m.nets d.name ≡ true) × (is_misused m.nets d.value ≡ false)
  equation_right d a =
      let r = drive_at d a in
      let p = or_parts (not (is_wire_name m.nets d.name)) (is_misused m.nets d.value) (right_drive r.1 d (right_item r.0 r.1 r.2) r.3) in
      (not_false _ p.0, p.1)

  -- the net that an equation drives
  pub driven_net : (d : DriveTree) → Among d (equations m) → (x : NetTree) × Among x m.nets × (x.name ≡ d.name) × (is_wire_kind x.kind ≡ true)
  driven_net d a =
      let s = passes_some (λ (x : NetTree). is_wire_kind x.kind) (net_named m.nets d.name) (equation_right d a).0 in
      let r = named_net m.nets d.name s.0 s.1 in
      (s.0, r.0, r.1, s.2)

  drive_read : (i : ItemTree) (d : DriveTree) (n : List ℕ) → Among d (drives_of i) → Among n (names_in d.value) → Among n (item_reads i)
  drive_read (nets drives) d n a b = let p = among_at d drives a in among_flat drive_reads n drives p.0 d p.1 b
  drive_read (assigns drives) d n a b = let p = among_at d drives a in among_flat drive_reads n drives p.0 d p.1 b
  drive_read (always clock body) d n a b = absurd a

  -- what an equation reads is declared
  read_declared : (j : ℕ) (i : ItemTree) (d : DriveTree) (n : List ℕ) → slice_get m.items j ≡ Some i → Among d (drives_of i) → Among n (names_in d.value)
      → (x : NetTree) × Among x m.nets × (x.name ≡ n)
  read_declared j (nets drives) d n h a b =
      let p = among_at d drives a in
      elim (declared_or_not (j + 1) n) [
        | inl r ↦ (r.0, r.1, r.2)
        | inr never ↦ elim (among_or_not n (map target_of (take p.0 drives))) [
          | inl earlier ↦
              let u = among_unmap target_of n (take p.0 drives) earlier in
              let q = among_at u.0 (take p.0 drives) u.1 in
              let v = driven_net u.0 (equation_from j (nets drives) u.0 h (among_from u.0 drives q.0 (taken_at drives p.0 q.0 u.0 q.1))) in
              (v.0, v.1, v.2 ∙ u.2)
          | inr none ↦ absurd (ok.known (j + 1) (nets drives, n, item_at j (nets drives) h, (p.0, d, p.1, b, none, never)))
        ]
      ]
  read_declared j (assigns drives) d n h a b = elim (declared_or_not (j + 1) n) [
    | inl r ↦ (r.0, r.1, r.2)
    | inr never ↦ absurd (ok.known (j + 1) (assigns drives, n, item_at j (assigns drives) h, (inr (drive_read (assigns drives) d n a b), never)))
  ]
  read_declared j (always clock body) d n h a b = absurd a

  pub equation_readable : (d : DriveTree) → Among d (equations m) → IsReadable m d.value
  equation_readable d a =
      let r = drive_at d a in
      record {
        known = λ n b.
            let x = read_declared r.0 r.1 d n r.2 r.3 b in
            record { net = x.0; there = x.1; named = x.2; data_name = no_clock_read r.0 r.1 n r.2 (drive_read r.1 d n r.3 b) };
        right = (equation_right d a).1;
      }

  -- and what an `always` item reads
  pub body_readable : (j : ℕ) (clock : List ℕ) (body : StmtTree) → slice_get m.items j ≡ Some (always clock body) → IsReadableStmt m body
  body_readable j clock body h = record {
    known = λ n b. elim (declared_or_not (j + 1) n) [
      | inl r ↦ record { net = r.0; there = r.1; named = r.2; data_name = no_clock_read j (always clock body) n h b }
      | inr never ↦ absurd (ok.known (j + 1) (always clock body, n, item_at j (always clock body) h, (inr (inr b), never)))
    ];
    right = (or_parts _ _ (or_parts _ _ (right_item j (always clock body) h)).1).1;
  }

  drive_target : (i : ItemTree) (d : DriveTree) → Among d (drives_of i) → Among d.name (item_targets i)
  drive_target (nets drives) d a = among_map target_of d drives a
  drive_target (assigns drives) d a = among_map target_of d drives a
  drive_target (always clock body) d a = absurd a

  no_repeat : (i : ItemTree) (j : ℕ) (n : List ℕ) (p q : ℕ) (ns : List (List ℕ)) → slice_get m.items j ≡ Some i → item_targets i ≡ ns
      → may_repeat m.nets i n ≡ false → p < q → slice_get ns p ≡ Some n → slice_get ns q ≡ Some n → ⊥
  no_repeat i j n p q ns h e once l hp hq =
      ok.once (j + 1) (inr (
        i,
        n,
        item_at j i h,
        subst (Among n) (sym e) (among_from n ns p hp),
        inr (inr ((p, q, l, subst (λ us. slice_get us p ≡ Some n) (sym e) hp, subst (λ us. slice_get us q ≡ Some n) (sym e) hq), once)),
      ))

  drive_once : (i : ItemTree) (j : ℕ) (drives : List DriveTree) (d e : DriveTree) → slice_get m.items j ≡ Some i → item_targets i ≡ map target_of drives
      → ((n : List ℕ) → may_repeat m.nets i n ≡ false) → Among d drives → Among e drives → d.name ≡ e.name → d ≡ e
  drive_once i j drives d e h targets once a b same =
      let p = among_at d drives a in
      let q = among_at e drives b in
      let hp = map_at target_of d drives p.0 p.1 in
      let hq = map_at target_of e drives q.0 q.1 in
      elim (ordered p.0 q.0) [
        | inl l ↦ absurd (no_repeat i j e.name p.0 q.0 (map target_of drives) h targets (once e.name) l
            (subst (λ n. slice_get (map target_of drives) p.0 ≡ Some n) same hp) hq)
        | inr r ↦ elim r [
          | inl eq ↦ let o : Some d ≡ Some e = sym p.1 ∙ ap (slice_get drives) eq ∙ q.1 in cc
          | inr g ↦ absurd (no_repeat i j d.name q.0 p.0 (map target_of drives) h targets (once d.name) g
              (subst (λ n. slice_get (map target_of drives) q.0 ≡ Some n) (sym same) hq) hp)
        ]
      ]

  repeated_drive : (i : ItemTree) (j : ℕ) (d e : DriveTree) → slice_get m.items j ≡ Some i → Among d (drives_of i) → Among e (drives_of i) → d.name ≡ e.name
      → d ≡ e
  repeated_drive (nets drives) j d e h a b same = drive_once (nets drives) j drives d e h refl (λ n. refl) a b same
  repeated_drive (assigns drives) j d e h a b same = drive_once (assigns drives) j drives d e h refl (λ n. refl) a b same
  repeated_drive (always clock body) j d e h a b same = absurd a

  -- a wire is driven once
  pub equation_once : (d e : DriveTree) → Among d (equations m) → Among e (equations m) → d.name ≡ e.name → d ≡ e
  equation_once d e a b same =
      let r = drive_at d a in
      let s = drive_at e b in
      elim (ordered r.0 s.0) [
        | inl l ↦ absurd (ok.once (s.0 + 1) (inr (
          s.1,
          e.name,
          item_at s.0 s.1 s.2,
          drive_target s.1 e s.3,
          inr (inl (r.0 + 1, r.1, omega arith, item_at r.0 r.1 r.2, subst (λ n. Among n (item_targets r.1)) same (drive_target r.1 d r.3))),
        )))
        | inr q ↦ elim q [
          | inl eq ↦ let o : Some r.1 ≡ Some s.1 = sym r.2 ∙ ap (slice_get m.items) eq ∙ s.2 in
              repeated_drive r.1 r.0 d e r.2 r.3 (subst (λ i. Among e (drives_of i)) (let z : s.1 ≡ r.1 = cc in z) s.3) same
          | inr g ↦ absurd (ok.once (r.0 + 1) (inr (
            r.1,
            d.name,
            item_at r.0 r.1 r.2,
            drive_target r.1 d r.3,
            inr (inl (s.0 + 1, s.1, omega arith, item_at s.0 s.1 s.2, subst (λ n. Among n (item_targets s.1)) (sym same) (drive_target s.1 e s.3))),
          )))
        ]
      ]

  pub found_drive : (d : DriveTree) → Among d (equations m) → drive_named (equations m) d.name ≡ Some d
  unfolding drive_named
  found_drive d a = find_only (λ (e : DriveTree). bytes_eq e.name d.name) (equations m) d a (bytes_same d.name d.name refl)
      (λ e b t. equation_once e d b a (same_bytes e.name d.name t))

  pub drive_of_name : (n : List ℕ) (d : DriveTree) → drive_named (equations m) n ≡ Some d → Among d (equations m) × (d.name ≡ n)
  unfolding drive_named
  drive_of_name n d h = let r = find_some (λ (e : DriveTree). bytes_eq e.name n) (equations m) d h in (r.0, same_bytes d.name n r.1)

  not_driven : (n : List ℕ) (d : DriveTree) → drive_named (equations m) n ≡ None → Among d (equations m) → d.name ≡ n → ⊥
  unfolding drive_named
  not_driven n d h a e = both_ways _ (find_none (λ (e : DriveTree). bytes_eq e.name n) (equations m) d h a) (bytes_same d.name n e)

  -- what an `always` item assigns is no wire
  target_kind : (s : StmtTree) (x : NetTree) → Among x m.nets → is_misused_in_stmt m.nets s ≡ false → Among x.name (stmt_targets s)
      → is_wire_kind x.kind ≡ true → ⊥
  target_kind (set n value) x a h t w = elim t [
    | inl e ↦
        let p : is_register_name m.nets n ≡ true = not_false _ (or_parts _ _ h).0 in
        let q : is_register_kind x.kind ≡ true = subst (λ o. passes (λ (y : NetTree). is_register_kind y.kind) o ≡ true) (found_net n x a (sym e)) p in
        wire_no_register x.kind w q
    | inr none ↦ none
  ]
  target_kind (put n at value) x a h t w = elim t [
    | inl e ↦
        let p : is_memory_name m.nets n ≡ true = not_false _ (or_parts _ _ h).0 in
        let q : is_memory_kind x.kind ≡ true = subst (λ o. passes (λ (y : NetTree). is_memory_kind y.kind) o ≡ true) (found_net n x a (sym e)) p in
        wire_no_memory x.kind w q
    | inr none ↦ none
  ]
  target_kind (when test taken) x a h t w = target_kind taken x a (or_parts _ _ h).1 t w
  target_kind (either test taken otherwise) x a h t w =
      let p = or_parts _ _ (or_parts _ _ h).1 in
      elim (among_split x.name (stmt_targets taken) (stmt_targets otherwise) t) [
        | inl b ↦ target_kind taken x a p.0 b w
        | inr b ↦ target_kind otherwise x a p.1 b w
      ]
  target_kind block_end x a h t w = t
  target_kind (block_more first rest) x a h t w =
      let p = or_parts _ _ h in
      elim (among_split x.name (stmt_targets first) (stmt_targets rest) t) [
        | inl b ↦ target_kind first x a p.0 b w
        | inr b ↦ target_kind rest x a p.1 b w
      ]

  target_drive : (j : ℕ) (i : ItemTree) (x : NetTree) → slice_get m.items j ≡ Some i → Among x m.nets → Among x.name (item_targets i)
      → is_wire_kind x.kind ≡ true → (d : DriveTree) × Among d (drives_of i) × (d.name ≡ x.name)
  target_drive j (nets drives) x h a t w = among_unmap target_of x.name drives t
  target_drive j (assigns drives) x h a t w = among_unmap target_of x.name drives t
  target_drive j (always clock body) x h a t w = absurd (target_kind body x a (body_readable j clock body h).right t w)

  -- each wire is driven
  pub wire_driven : (x : NetTree) → Among x m.nets → is_wire_kind x.kind ≡ true → (d : DriveTree) × Among d (equations m) × (d.name ≡ x.name)
  wire_driven x a w = elim (among_or_not x.name (flat_map item_targets m.items)) [
    | inl t ↦
        let r = among_unflat item_targets x.name m.items t in
        let d = target_drive r.0 r.1 x r.2 a r.3 w in
        (d.0, equation_from r.0 r.1 d.0 r.2 d.1, d.2)
    | inr none ↦ let p = among_at x m.nets a in absurd (ok.driven p.0 (x, p.1, wire_no_input x.kind w, none))
  ]

  -- a name without an equation is no wire, and one with an equation is
  pub free_kind : (x : NetTree) → Among x m.nets → drive_named (equations m) x.name ≡ None → is_wire_kind x.kind ≡ false
  free_kind x a h = not_true _ (λ w. let d = wire_driven x a w in not_driven x.name d.0 h d.1 d.2)

  pub driven_kind : (x : NetTree) (d : DriveTree) → Among x m.nets → Among d (equations m) → x.name ≡ d.name → is_wire_kind x.kind ≡ true
  driven_kind x d a b e =
      let r = driven_net d b in
      let o : Some r.0 ≡ Some x = sym (found_net d.name r.0 r.1 r.2) ∙ found_net d.name x a e in
      let s : r.0 ≡ x = cc in
      subst (λ (y : NetTree). is_wire_kind y.kind ≡ true) s r.3

  pub other_free : (x : NetTree) → Among x m.nets → is_wire_kind x.kind ≡ false → drive_named (equations m) x.name ≡ None
  other_free x a h = elim (named_or_not (drive_named (equations m) x.name)) [
    | inl r ↦ let p = drive_of_name x.name r.0 r.1 in absurd (both_ways _ h (driven_kind x r.0 a p.0 (sym p.1)))
    | inr none ↦ none
  ]
