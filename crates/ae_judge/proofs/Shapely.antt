-- A spelled module is shapely.
use Rattle.std.proofs.Common.{ℕ, zero, suc, ◌≡◌, ◌+◌, ◌<◌, ◌≤◌, ◌^◌, Bool, true, false, List, [], ◌∷◌, ◌++◌, length, Option, Some, None, refl, sym, ap, subst, inl, inr, arith, length-append, slice_get}
use Rattle.std.specs.Prelude.{map}
use Rattle.std.specs.List.{flat_map, AllByRecursion}
use Rattle.ae_vmodule.specs.declared.module.NetKind.{NetKind}
use Rattle.ae_vmodule.specs.declared.module.NetKind.TheVariants.{Input, Wire, OutWire, Reg, OutReg, Memory}
use Rattle.ae_vtoken.specs.declared.token.Sign.TheVariants.{Close, Semicolon}
use Rattle.ae_vtoken.specs.declared.token.Key.TheVariants.{EndModule}
use Rattle.ae_vmodule.specs.ModuleTree.{ExprTree, name, constant, place, part, index, unary, binary, choice, concat_one, concat_more, StmtTree, NetTree, DriveTree, ModuleTree}
use Rattle.ae_vtoken.specs.Tokens.{TokenTree, Name, Word, Mark}
use Rattle.ae_vread.specs.ExprForms.{NumberForm, ExprForm, NameForm, ConstForm, PartForm, PlaceForm, IndexForm, ParensForm, PrefixForm, InfixForm, ChoiceForm, BracesForm, LastPart, MoreParts, expr_tokens, expr_of}
use Rattle.ae_vread.specs.StmtForms.{StmtForm, SetForm, PutPlaceForm, PutForm, IfForm, IfElseForm, BlockForm, NoMore, More, test_tokens, stmt_tokens, stmt_of}
use Rattle.ae_vread.specs.Forms.{PortHead, InputHead, OutputHead, OutputRegHead, PortForm, DriveForm, ItemForm, WireItem, WireDrives, RegItem, AssignItem, AlwaysItem, ModuleForm, range_tokens, head_tokens, comma_tokens, name_tokens, port_tokens, drive_tokens, reg_tokens, item_tokens, module_tokens, size_of, net_of, head_kind, port_nets, reg_kind, reg_net, drive_of, item_nets, nets_from, item_of, module_of}
use Rattle.ae_vread.specs.Spells.{Spells}
use Rattle.ae_judge.specs.Names.{Among}
use Rattle.ae_judge.specs.Shape.{IsLettered, IsPlaced, EachInStmt, EachInDrive, IsLetteredItem, IsPlacedItem, IsShapely}
use Rattle.ae_judge.proofs.TokenShape.{AreSound, sound_split, tokens_sound, tokens_few}
use Rattle.ae_vread.proofs.ModuleLaws.{some_tokens as item_long}

-- expressions

abbrev IsGood : Bool → ExprTree → Type 0
IsGood is_index e = IsLettered e × IsPlaced is_index e

placed_index : (e : ExprTree) → IsPlaced false e → IsPlaced true e
placed_index (name n) h = h
placed_index (constant size value fits) h = h
placed_index (place k) h = refl
placed_index (part n high low) h = h
placed_index (index n at) h = h
placed_index (unary op a) h = h
placed_index (binary op a b) h = h
placed_index (choice test a b) h = h
placed_index (concat_one a) h = h
placed_index (concat_more a rest) h = h

good : (f : ExprForm) → AreSound (expr_tokens f) → IsGood false (expr_of f)
good (NameForm n) h = (h.0, tt)
good (ConstForm size value fits) h = (tt, h.0)
good (PartForm n high low) h = (h.0, tt)
good (PlaceForm n k) h = ((h.0, tt), refl)
good (IndexForm n at) h = let r = good at (sound_split (expr_tokens at) _ h.1.1).0 in ((h.0, r.0), placed_index (expr_of at) r.1)
good (ParensForm a) h = good a (sound_split (expr_tokens a) _ h.1).0
good (PrefixForm op a) h = good a h.1
good (InfixForm op a b) h =
    let s = sound_split (expr_tokens a) _ h in
    let x = good a s.0 in
    let y = good b s.1.1 in
    ((x.0, y.0), (x.1, y.1))
good (ChoiceForm test a b) h =
    let s = sound_split (expr_tokens test) _ h in
    let r = sound_split (expr_tokens a) _ s.1.1 in
    let t = good test s.0 in
    let x = good a r.0 in
    let y = good b r.1.1 in
    ((t.0, x.0, y.0), (t.1, x.1, y.1))
good (BracesForm parts) h = good parts (sound_split (expr_tokens parts) _ h.1).0
good (LastPart a) h = good a h
good (MoreParts a parts) h =
    let s = sound_split (expr_tokens a) _ h in
    let x = good a s.0 in
    let y = good parts s.1.1 in
    ((x.0, y.0), (x.1, y.1))

-- statements

abbrev IsGoodStmt : StmtTree → Type 0
IsGoodStmt s = EachInStmt IsLettered IsLettered s × EachInStmt (IsPlaced false) (IsPlaced true) s

good_test : (test : ExprForm) (ts : List TokenTree) → AreSound (test_tokens test ++ ts) → IsGood false (expr_of test) × AreSound ts
good_test test ts h =
    let s = sound_split (test_tokens test) ts h in
    (good test (sound_split (expr_tokens test) _ s.0.1.1).0, s.1)

good_stmt : (f : StmtForm) → AreSound (stmt_tokens f) → IsGoodStmt (stmt_of f)
good_stmt (SetForm n value) h = good value (sound_split (expr_tokens value) _ h.1.1).0
good_stmt (PutPlaceForm n k value) h =
    let v = good value (sound_split (expr_tokens value) _ h.1.1.1.1.1).0 in
    ((tt, v.0), (refl, v.1))
good_stmt (PutForm n at value) h =
    let s = sound_split (expr_tokens at) _ h.1.1 in
    let a = good at s.0 in
    let v = good value (sound_split (expr_tokens value) _ s.1.1.1).0 in
    ((a.0, v.0), (placed_index (expr_of at) a.1, v.1))
good_stmt (IfForm test taken) h =
    let t = good_test test (stmt_tokens taken) h in
    let a = good_stmt taken t.1 in
    ((t.0.0, a.0), (t.0.1, a.1))
good_stmt (IfElseForm test taken otherwise) h =
    let t = good_test test _ h in
    let s = sound_split (stmt_tokens taken) _ t.1 in
    let a = good_stmt taken s.0 in
    let b = good_stmt otherwise s.1.1 in
    ((t.0.0, a.0, b.0), (t.0.1, a.1, b.1))
good_stmt (BlockForm body) h = good_stmt body (sound_split (stmt_tokens body) _ h.1).0
good_stmt NoMore h = (tt, tt)
good_stmt (More first body) h =
    let s = sound_split (stmt_tokens first) _ h in
    let a = good_stmt first s.0 in
    let b = good_stmt body s.1 in
    ((a.0, b.0), (a.1, b.1))

-- items

abbrev AreGoodDrives : List DriveTree → Type 0
AreGoodDrives ds = AllByRecursion (EachInDrive IsLettered) ds × AllByRecursion (EachInDrive (IsPlaced false)) ds

more_drives : (ds : List DriveForm) → AreSound (comma_tokens drive_tokens ds) → AreGoodDrives (map drive_of ds)
more_drives [] h = (tt, tt)
more_drives (d ∷ ds) h =
    let s = sound_split (drive_tokens d) (comma_tokens drive_tokens ds) h.1 in
    let x = good d.value s.0.1.1 in
    let r = more_drives ds s.1 in
    ((x.0, r.0), (x.1, r.1))

good_drives : (d : DriveForm) (ds : List DriveForm) (rest : List TokenTree) → AreSound (drive_tokens d ++ (comma_tokens drive_tokens ds ++ rest))
    → AreGoodDrives (map drive_of (d ∷ ds))
good_drives d ds rest h =
    let s = sound_split (drive_tokens d) _ h in
    let x = good d.value s.0.1.1 in
    let r = more_drives ds (sound_split (comma_tokens drive_tokens ds) rest s.1).0 in
    ((x.0, r.0), (x.1, r.1))

good_item : (f : ItemForm) → AreSound (item_tokens f) → IsLetteredItem (item_of f) × IsPlacedItem (item_of f)
good_item (WireItem range first more) h = (tt, tt)
good_item (WireDrives range first more) h = good_drives first more _ (sound_split (range_tokens range) _ h.1).1
good_item (RegItem range first more) h = (tt, tt)
good_item (AssignItem first more) h = good_drives first more _ h.1
good_item (AlwaysItem clock body) h = good_stmt body h.1.1.1.1.1.1

good_items : (fs : List ItemForm) → AreSound (flat_map item_tokens fs) → AllByRecursion IsLetteredItem (map item_of fs)
    × AllByRecursion IsPlacedItem (map item_of fs)
good_items [] h = (tt, tt)
good_items (f ∷ fs) h =
    let s = sound_split (item_tokens f) (flat_map item_tokens fs) h in
    let x = good_item f s.0 in
    let r = good_items fs s.1 in
    ((x.0, r.0), (x.1, r.1))

-- nets, in their order

abbrev IsGoodNet : NetTree → Type 0
IsGoodNet x = (1 ≤ x.width) × ((depth : ℕ) → x.kind ≡ Memory depth → 1 ≤ depth)

-- the items of the nets ascend from the first number to the second
abbrev Ascends : ℕ → ℕ → List NetTree → Type 0
Ascends low high [] = low ≤ high
Ascends low high (x ∷ xs) = (low ≤ x.item) × IsGoodNet x × Ascends x.item high xs

from_lower : (low low' high : ℕ) (xs : List NetTree) → low' ≤ low → Ascends low high xs → Ascends low' high xs
from_lower low low' high [] l h = omega arith
from_lower low low' high (x ∷ xs) l h = (omega (arith, h.0), h.1, h.2)

append_ascends : (low mid high : ℕ) (xs ys : List NetTree) → Ascends low mid xs → Ascends mid high ys → Ascends low high (xs ++ ys)
append_ascends low mid high [] ys h g = from_lower mid low high ys h g
append_ascends low mid high (x ∷ xs) ys h g = (h.0, h.1, append_ascends x.item mid high xs ys h.2 g)

all_below : (low high : ℕ) (xs : List NetTree) → Ascends low high xs → low ≤ high
all_below low high [] h = h
all_below low high (x ∷ xs) h = omega (arith, h.0, all_below x.item high xs h.2)

at_place : (low high : ℕ) (xs : List NetTree) (p : ℕ) (x : NetTree) → Ascends low high xs → slice_get xs p ≡ Some x → (low ≤ x.item) × (x.item ≤ high)
    × IsGoodNet x
at_place low high [] p x h e = absurd (let n : None ≡ Some x = e in cc)
at_place low high (y ∷ ys) zero x h e =
    let s : y ≡ x = (let t : Some y ≡ Some x = e in cc) in
    subst (λ (z : NetTree). (low ≤ z.item) × (z.item ≤ high) × IsGoodNet z) s (h.0, all_below y.item high ys h.2, h.1)
at_place low high (y ∷ ys) (suc p) x h e = let r = at_place y.item high ys p x h.2 e in (omega (arith, h.0, r.0), r.1, r.2)

in_order : (low high : ℕ) (xs : List NetTree) (p q : ℕ) (x y : NetTree) → Ascends low high xs → p < q → slice_get xs p ≡ Some x → slice_get xs q ≡ Some y
    → x.item ≤ y.item
in_order low high [] p q x y h l e f = absurd (let n : None ≡ Some x = e in cc)
in_order low high (z ∷ zs) p zero x y h l e f = absurd (omega arith)
in_order low high (z ∷ zs) zero (suc q) x y h l e f =
    let s : z ≡ x = (let t : Some z ≡ Some x = e in cc) in
    subst (λ (u : NetTree). u.item ≤ y.item) s (at_place z.item high zs q y h.2 f).0
in_order low high (z ∷ zs) (suc p) (suc q) x y h l e f = in_order z.item high zs p q x y h.2 (omega arith) e f

among_ascends : (low high : ℕ) (xs : List NetTree) (x : NetTree) → Ascends low high xs → Among x xs → (x.item ≤ high) × IsGoodNet x
among_ascends low high [] x h a = absurd a
among_ascends low high (y ∷ ys) x h a = elim a [
  | inl s ↦ subst (λ (z : NetTree). (z.item ≤ high) × IsGoodNet z) s (all_below y.item high ys h.2, h.1)
  | inr later ↦ among_ascends y.item high ys x h.2 later
]

-- nets that each stand in one item
one_item : {F : Type 0} (net : F → NetTree) (k : ℕ) → ((f : F) → (net f).item ≡ k) → ((f : F) → IsGoodNet (net f)) → (low : ℕ) → low ≤ k → (fs : List F)
    → Ascends low k (map net fs)
one_item net k same sound low l [] = l
one_item net k same sound low l (f ∷ fs) =
    (omega (arith, same f), sound f, subst (λ n. Ascends n k (map net fs)) (sym (same f)) (one_item net k same sound k (omega arith) fs))

size_above : (most : ℕ) → 1 ≤ most → (v : NumberForm) → 1 ≤ size_of most v
size_above most some v = omega (arith, some)

net_item : (range : Option NumberForm) (kind : NetKind) (k : ℕ) (n : List ℕ) → (net_of range kind k n).item ≡ k
net_item None kind k n = refl
net_item (Some high) kind k n = refl

net_good : (range : Option NumberForm) (kind : NetKind) (k : ℕ) (n : List ℕ) → ((depth : ℕ) → kind ≡ Memory depth → 1 ≤ depth)
    → IsGoodNet (net_of range kind k n)
net_good None kind k n h = (omega arith, h)
net_good (Some high) kind k n h = (size_above 255 (omega arith) high, h)

wire_deep : (depth : ℕ) → Wire ≡ Memory depth → 1 ≤ depth
wire_deep depth h = absurd (cc)

head_deep : (head : PortHead) (depth : ℕ) → head_kind head ≡ Memory depth → 1 ≤ depth
head_deep (InputHead spelled) depth h = absurd (let e : Input ≡ Memory depth = h in cc)
head_deep (OutputHead spelled) depth h = absurd (let e : OutWire ≡ Memory depth = h in cc)
head_deep OutputRegHead depth h = absurd (let e : OutReg ≡ Memory depth = h in cc)

reg_deep : (last : Option NumberForm) (depth : ℕ) → reg_kind last ≡ Memory depth → 1 ≤ depth
reg_deep None depth h = absurd (let e : Reg ≡ Memory depth = h in cc)
reg_deep (Some v) depth h =
    let e : Memory (size_of 65537 v) ≡ Memory depth = h in
    let s : size_of 65537 v ≡ depth = cc in
    let a = size_above 65537 (omega arith) v in
    subst (λ n. 1 ≤ n) s a

ports_ascend : (ps : List PortForm) → Ascends 0 0 (flat_map port_nets ps)
ports_ascend [] = omega arith
ports_ascend (p ∷ ps) =
    append_ascends 0 0 0 (port_nets p) (flat_map port_nets ps)
    (one_item (net_of p.range (head_kind p.head) 0) 0 (net_item p.range (head_kind p.head) 0)
    (λ n. net_good p.range (head_kind p.head) 0 n (head_deep p.head)) 0 (omega arith) (p.first ∷ p.more))
    (ports_ascend ps)

item_ascends : (k : ℕ) (f : ItemForm) → Ascends k (k + 1) (item_nets (k + 1) f)
item_ascends k (WireItem range first more) =
    one_item (net_of range Wire (k + 1)) (k + 1) (net_item range Wire (k + 1)) (λ n. net_good range Wire (k + 1) n wire_deep) k (omega arith) (first ∷ more)
item_ascends k (WireDrives range first more) =
    one_item (λ (d : DriveForm). net_of range Wire (k + 1) d.name) (k + 1) (λ d. net_item range Wire (k + 1) d.name)
    (λ d. net_good range Wire (k + 1) d.name wire_deep) k (omega arith) (first ∷ more)
item_ascends k (RegItem range first more) =
    one_item (reg_net range (k + 1)) (k + 1) (λ r. net_item range (reg_kind r.last) (k + 1) r.name)
    (λ r. net_good range (reg_kind r.last) (k + 1) r.name (reg_deep r.last)) k (omega arith) (first ∷ more)
item_ascends k (AssignItem first more) = omega arith
item_ascends k (AlwaysItem clock body) = omega arith

items_ascend : (k : ℕ) (fs : List ItemForm) → Ascends k (k + length fs) (nets_from (k + 1) fs)
items_ascend k [] = omega arith
items_ascend k (f ∷ fs) =
    let e : k + 1 + length fs ≡ k + length (f ∷ fs) = omega arith in
    append_ascends k (k + 1) (k + length (f ∷ fs)) (item_nets (k + 1) f) (nets_from (k + 1 + 1) fs) (item_ascends k f)
    (subst (λ n. Ascends (k + 1) n (nets_from (k + 1 + 1) fs)) e (items_ascend (k + 1) fs))

-- how many there are

names_few : {F : Type 0} (tokens : F → List TokenTree) (fs : List F) → length fs ≤ length (comma_tokens tokens fs)
names_few tokens [] = omega arith
names_few tokens (f ∷ fs) = omega (arith, names_few tokens fs, length-append (tokens f) (comma_tokens tokens fs))

length_map : {X Y : Type 0} (f : X → Y) (xs : List X) → length (map f xs) ≡ length xs
length_map f [] = refl
length_map f (x ∷ xs) = ap suc (length_map f xs)

port_few : (p : PortForm) → length (port_nets p) ≤ length (port_tokens p)
port_few p =
    omega (
      arith,
      length_map (net_of p.range (head_kind p.head) 0) (p.first ∷ p.more),
      names_few name_tokens p.more,
      length-append (head_tokens p.head) (range_tokens p.range ++ Name p.first ∷ comma_tokens name_tokens p.more),
      length-append (range_tokens p.range) (Name p.first ∷ comma_tokens name_tokens p.more),
    )

more_ports_few : (ps : List PortForm) → length (flat_map port_nets ps) ≤ length (comma_tokens port_tokens ps)
more_ports_few [] = omega arith
more_ports_few (p ∷ ps) =
    omega (
      arith,
      more_ports_few ps,
      port_few p,
      length-append (port_nets p) (flat_map port_nets ps),
      length-append (port_tokens p) (comma_tokens port_tokens ps),
    )

-- a list of names behind a word and a range, with a semicolon at its end
list_few : {F : Type 0} (net : F → NetTree) (tokens : F → List TokenTree) (range head tail : List TokenTree) (fs : List F) → 1 ≤ length head
    → 1 + length (map net fs) ≤ 1 + length (range ++ (head ++ (comma_tokens tokens fs ++ tail)))
list_few net tokens range head tail fs h =
    omega (
      arith,
      length_map net fs,
      names_few tokens fs,
      length-append range (head ++ (comma_tokens tokens fs ++ tail)),
      length-append head (comma_tokens tokens fs ++ tail),
      length-append (comma_tokens tokens fs) tail,
    )

item_few : (k : ℕ) (f : ItemForm) → 1 + length (item_nets k f) ≤ 1 + length (item_tokens f)
item_few k (WireItem range first more) =
    omega (arith, list_few (net_of range Wire k) name_tokens (range_tokens range) (Name first ∷ []) (Mark Semicolon ∷ []) more (omega arith))
item_few k (WireDrives range first more) =
    omega (
      arith,
      list_few (λ (d : DriveForm). net_of range Wire k d.name) drive_tokens (range_tokens range) (drive_tokens first) (Mark Semicolon ∷ []) more
          (omega arith),
    )
item_few k (RegItem range first more) =
    omega (arith, list_few (reg_net range k) reg_tokens (range_tokens range) (reg_tokens first) (Mark Semicolon ∷ []) more (omega arith))
item_few k (AssignItem first more) = omega arith
item_few k (AlwaysItem clock body) = omega arith

items_nets_few : (k : ℕ) (fs : List ItemForm) → length (nets_from k fs) ≤ length (flat_map item_tokens fs)
items_nets_few k [] = omega arith
items_nets_few k (f ∷ fs) =
    omega (
      arith,
      item_few k f,
      items_nets_few (k + 1) fs,
      length-append (item_nets k f) (nets_from (k + 1) fs),
      length-append (item_tokens f) (flat_map item_tokens fs),
    )

items_few : (fs : List ItemForm) → length (map item_of fs) ≤ length (flat_map item_tokens fs)
items_few [] = omega arith
items_few (f ∷ fs) = omega (arith, items_few fs, item_long f, length-append (item_tokens f) (flat_map item_tokens fs))

-- the module

abbrev behind_ports : ModuleForm → List TokenTree
behind_ports f = Mark Close ∷ Mark Semicolon ∷ (flat_map item_tokens f.items ++ Word EndModule ∷ [])

module_nets_few : (f : ModuleForm) → length (module_of f).nets ≤ length (module_tokens f)
module_nets_few f =
    omega (
      arith,
      port_few f.first,
      more_ports_few f.more,
      items_nets_few 1 f.items,
      length-append (flat_map port_nets (f.first ∷ f.more)) (nets_from 1 f.items),
      length-append (port_nets f.first) (flat_map port_nets f.more),
      length-append (port_tokens f.first) (comma_tokens port_tokens f.more ++ behind_ports f),
      length-append (comma_tokens port_tokens f.more) (behind_ports f),
      length-append (flat_map item_tokens f.items) (Word EndModule ∷ []),
    )

module_items_few : (f : ModuleForm) → length (module_of f).items ≤ length (module_tokens f)
module_items_few f =
    omega (
      arith,
      items_few f.items,
      length-append (port_tokens f.first) (comma_tokens port_tokens f.more ++ behind_ports f),
      length-append (comma_tokens port_tokens f.more) (behind_ports f),
      length-append (flat_map item_tokens f.items) (Word EndModule ∷ []),
    )

module_ascends : (f : ModuleForm) → Ascends 0 (length (module_of f).items) (module_of f).nets
module_ascends f =
    append_ascends 0 0 (length (map item_of f.items)) (flat_map port_nets (f.first ∷ f.more)) (nets_from 1 f.items) (ports_ascend (f.first ∷ f.more))
    (let e : 0 + length f.items ≡ length (map item_of f.items) = omega (arith, length_map item_of f.items) in
    subst (λ n. Ascends 0 n (nets_from 1 f.items)) e (items_ascend 0 f.items))

form_shapely : (f : ModuleForm) → length (module_tokens f) < 2 ^ 32 → AreSound (module_tokens f) → IsShapely (module_of f)
form_shapely f few sound =
    let ports = sound_split (port_tokens f.first) _ sound.1.1.1 in
    let more = sound_split (comma_tokens port_tokens f.more) (behind_ports f) ports.1 in
    let made = good_items f.items (sound_split (flat_map item_tokens f.items) _ more.1.1.1).0 in
    let up = module_ascends f in
    let high = length (module_of f).items in
    record {
      few_nets = omega (arith, module_nets_few f);
      few_items = omega (arith, module_items_few f);
      in_order = λ p q x y l e g. in_order 0 high (module_of f).nets p q x y up l e g;
      within = λ x a. (among_ascends 0 high (module_of f).nets x up a).0;
      wide = λ x a. (among_ascends 0 high (module_of f).nets x up a).1.0;
      deep = λ x depth a e. (among_ascends 0 high (module_of f).nets x up a).1.1 depth e;
      lettered = made.0;
      placed = made.1;
    }

pub shapely : (text : List ℕ) (m : ModuleTree) → length text < 2 ^ 32 → Spells text m → IsShapely m
shapely text m short s =
    subst IsShapely s.tree (form_shapely s.form (omega (arith, tokens_few text (module_tokens s.form) s.written))
    (tokens_sound text (module_tokens s.form) s.written))
