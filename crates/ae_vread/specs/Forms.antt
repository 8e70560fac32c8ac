-- How a module is written, and the tree that its tokens stand for (IEEE 1364-2001, narrowed to the profile).
-- A form keeps every free choice of the text: parentheses, an optional `wire`, the grouping of ports, lists of names.
use Rattle.std.specs.Prelude.{◌≡◌, ℕ, ◌+◌, ◌≤◌, List, [], ◌∷◌, ◌++◌, Bool, true, false, Option, Some, None, map, min}
use Rattle.std.specs.List.{flat_map, AllByRecursion}
use Rattle.ae_vtoken.specs.Tokens.{TokenTree, Name, Word, Zero, Mark}
use Rattle.ae_vmodule.specs.ModuleTree.{NetTree, DriveTree, ItemTree, nets, assigns, always, ModuleTree}
use Rattle.ae_vread.specs.ExprForms.{NumberForm, number_token, number_value, ExprForm, level, IsFormedExpr, expr_tokens, expr_of, expr_depth}
use Rattle.ae_vread.specs.StmtForms.{StmtForm, is_statement, IsStatement, stmt_tokens, stmt_of, stmt_depth}
use Rattle.ae_vmodule.specs.declared.module.NetKind.{NetKind}
use Rattle.ae_vmodule.specs.declared.module.NetKind.TheVariants.{Input, Wire, OutWire, Reg, OutReg, Memory}
use Rattle.ae_vtoken.specs.declared.token.Key.TheVariants.{Module as KeyModule, EndModule, Input as KeyInput, Output as KeyOutput, Wire as KeyWire, Reg as KeyReg, Assign as KeyAssign, Always as KeyAlways, Posedge}
use Rattle.ae_vtoken.specs.declared.token.Sign.TheVariants.{Open, Close, OpenBracket, CloseBracket, Comma, Semicolon, Colon, At, Equals}

-- what a group of ports begins with; spelled tells whether the optional `wire` stands there
pub data PortHead : Type 0 where
  InputHead : (spelled : Bool) → PortHead
  OutputHead : (spelled : Bool) → PortHead
  OutputRegHead : PortHead

-- the number in front of the colon of a range, if there is a range
pub record PortForm : Type 0 where
  pub head : PortHead
  pub range : Option NumberForm
  pub first : List ℕ
  pub more : List (List ℕ)

-- `name = value`
pub record DriveForm : Type 0 where
  pub name : List ℕ
  pub value : ExprForm

-- a name, or a memory `name[0:last]`
pub record RegForm : Type 0 where
  pub name : List ℕ
  pub last : Option NumberForm

pub data ItemForm : Type 0 where
  WireItem : (range : Option NumberForm) (first : List ℕ) (more : List (List ℕ)) → ItemForm
  WireDrives : (range : Option NumberForm) (first : DriveForm) (more : List DriveForm) → ItemForm
  RegItem : (range : Option NumberForm) (first : RegForm) (more : List RegForm) → ItemForm
  AssignItem : (first : DriveForm) (more : List DriveForm) → ItemForm
  AlwaysItem : (clock : List ℕ) (body : StmtForm) → ItemForm

pub record ModuleForm : Type 0 where
  pub name : List ℕ
  pub first : PortForm
  pub more : List PortForm
  pub items : List ItemForm

-- tokens

abbrev pub range_tokens : Option NumberForm → List TokenTree
range_tokens None = []
range_tokens (Some high) = Mark OpenBracket ∷ number_token high ∷ Mark Colon ∷ Zero ∷ Mark CloseBracket ∷ []

abbrev pub wire_tokens : Bool → List TokenTree
wire_tokens true = Word KeyWire ∷ []
wire_tokens false = []

abbrev pub head_tokens : PortHead → List TokenTree
head_tokens (InputHead spelled) = Word KeyInput ∷ wire_tokens spelled
head_tokens (OutputHead spelled) = Word KeyOutput ∷ wire_tokens spelled
head_tokens OutputRegHead = Word KeyOutput ∷ Word KeyReg ∷ []

-- further entries of a list, each behind a comma
abbrev pub comma_tokens : {X : Type 0} → (X → List TokenTree) → List X → List TokenTree
comma_tokens f xs = flat_map (λ x. Mark Comma ∷ f x) xs

abbrev pub name_tokens : List ℕ → List TokenTree
name_tokens n = Name n ∷ []

abbrev pub port_tokens : PortForm → List TokenTree
port_tokens p = head_tokens p.head ++ (range_tokens p.range ++ Name p.first ∷ comma_tokens name_tokens p.more)

abbrev pub drive_tokens : DriveForm → List TokenTree
drive_tokens d = Name d.name ∷ Mark Equals ∷ expr_tokens d.value

abbrev pub depth_tokens : Option NumberForm → List TokenTree
depth_tokens None = []
depth_tokens (Some last) = Mark OpenBracket ∷ Zero ∷ Mark Colon ∷ number_token last ∷ Mark CloseBracket ∷ []

abbrev pub reg_tokens : RegForm → List TokenTree
reg_tokens r = Name r.name ∷ depth_tokens r.last

abbrev pub item_tokens : ItemForm → List TokenTree
item_tokens (WireItem range first more) =
    Word KeyWire ∷ (range_tokens range ++ Name first ∷ (comma_tokens name_tokens more ++ Mark Semicolon ∷ []))
item_tokens (WireDrives range first more) =
    Word KeyWire ∷ (range_tokens range ++ (drive_tokens first
    ++ (comma_tokens drive_tokens more ++ Mark Semicolon ∷ [])))
item_tokens (RegItem range first more) =
    Word KeyReg ∷ (range_tokens range ++ (reg_tokens first ++ (comma_tokens reg_tokens more ++ Mark Semicolon ∷ [])))
item_tokens (AssignItem first more) =
    Word KeyAssign ∷ (drive_tokens first ++ (comma_tokens drive_tokens more ++ Mark Semicolon ∷ []))
item_tokens (AlwaysItem clock body) =
    Word KeyAlways ∷ Mark At ∷ Mark Open ∷ Word Posedge ∷ Name clock ∷ Mark Close ∷ stmt_tokens body

abbrev pub module_tokens : ModuleForm → List TokenTree
module_tokens m =
    Word KeyModule ∷ Name m.name ∷ Mark Open ∷ (port_tokens m.first ++ (comma_tokens port_tokens m.more
    ++ Mark Close ∷ Mark Semicolon ∷ (flat_map item_tokens m.items ++ Word EndModule ∷ [])))

-- trees

-- the number plus 1, up to the most that is kept
abbrev pub size_of : ℕ → NumberForm → ℕ
size_of most k = min (number_value k + 1) most

-- a width above 255 is kept as 255: no module may have a width above 64
abbrev pub net_of : Option NumberForm → NetKind → ℕ → List ℕ → NetTree
net_of None kind item n = record { name = n; width = 1; ranged = false; kind = kind; item = item }
net_of (Some high) kind item n = record { name = n; width = size_of 255 high; ranged = true; kind = kind; item = item }

abbrev pub head_kind : PortHead → NetKind
head_kind (InputHead spelled) = Input
head_kind (OutputHead spelled) = OutWire
head_kind OutputRegHead = OutReg

abbrev pub port_nets : PortForm → List NetTree
port_nets p = map (net_of p.range (head_kind p.head) 0) (p.first ∷ p.more)

-- a depth above 65,537 is kept as 65,537: no module may have a depth above 65,536
abbrev pub reg_kind : Option NumberForm → NetKind
reg_kind None = Reg
reg_kind (Some last) = Memory (size_of 65537 last)

abbrev pub reg_net : Option NumberForm → ℕ → RegForm → NetTree
reg_net range item r = net_of range (reg_kind r.last) item r.name

abbrev pub drive_of : DriveForm → DriveTree
drive_of d = record { name = d.name; value = expr_of d.value }

-- the nets that the item with this number declares
abbrev pub item_nets : ℕ → ItemForm → List NetTree
item_nets k (WireItem range first more) = map (net_of range Wire k) (first ∷ more)
item_nets k (WireDrives range first more) = map (λ (d : DriveForm). net_of range Wire k d.name) (first ∷ more)
item_nets k (RegItem range first more) = map (reg_net range k) (first ∷ more)
item_nets k (AssignItem first more) = []
item_nets k (AlwaysItem clock body) = []

-- the nets that items declare, where the first of them has number k
abbrev pub nets_from : ℕ → List ItemForm → List NetTree
nets_from k [] = []
nets_from k (i ∷ is) = item_nets k i ++ nets_from (k + 1) is

abbrev pub item_of : ItemForm → ItemTree
item_of (WireItem range first more) = nets []
item_of (WireDrives range first more) = nets (map drive_of (first ∷ more))
item_of (RegItem range first more) = nets []
item_of (AssignItem first more) = assigns (map drive_of (first ∷ more))
item_of (AlwaysItem clock body) = always clock (stmt_of body)

-- the header is item 0, and items are numbered from 1
abbrev pub module_of : ModuleForm → ModuleTree
module_of m = record {
  name = m.name;
  nets = flat_map port_nets (m.first ∷ m.more) ++ nets_from 1 m.items;
  items = map item_of m.items;
}

-- formed, and at most 256 deep

pub record IsDrive (d : DriveForm) : Type 0 where
  pub level : 1 ≤ level d.value
  pub formed : IsFormedExpr d.value
  pub depth : expr_depth d.value ≤ 256

pub record IsModuleBody (body : StmtForm) : Type 0 where
  pub statement : is_statement body ≡ true
  pub formed : IsStatement body
  pub depth : stmt_depth body ≤ 256

abbrev pub IsItem : ItemForm → Type 0
IsItem (WireItem range first more) = Unit {0}
IsItem (WireDrives range first more) = AllByRecursion IsDrive (first ∷ more)
IsItem (RegItem range first more) = Unit {0}
IsItem (AssignItem first more) = AllByRecursion IsDrive (first ∷ more)
IsItem (AlwaysItem clock body) = IsModuleBody body
