-- Reading a module's header and items from a list of tokens, from the left.
use Rattle.std.specs.Prelude.{ℕ, zero, suc, ◌+◌, List, [], ◌∷◌, ◌++◌, Bool, true, false, length, map, min, drop, is_some, Option, Some, None, Result, Ok, Err, if◌then◌else◌}
use Rattle.ae_vtoken.specs.Tokens.{TokenTree, Word, Zero}
use Rattle.ae_vmodule.specs.ModuleTree.{NetTree, DriveTree, ItemTree, nets, assigns, always, ModuleTree}
use Rattle.ae_vread.specs.TokenTests.{◌>>=◌, after_mark, after_word, first_name, first_number}
use Rattle.ae_vread.specs.Reading.{whole_expression}
use Rattle.ae_vread.specs.StmtReading.{whole_statement}
use Rattle.ae_vmodule.specs.declared.module.NetKind.{NetKind}
use Rattle.ae_vmodule.specs.declared.module.NetKind.TheVariants.{Input, Wire, OutWire, Reg, OutReg, Memory}
use Rattle.ae_vtoken.specs.declared.token.Key.TheVariants.{Module as KeyModule, EndModule, Input as KeyInput, Output as KeyOutput, Wire as KeyWire, Reg as KeyReg, Assign as KeyAssign, Always as KeyAlways, Posedge}
use Rattle.ae_vtoken.specs.declared.token.Sign.TheVariants.{Open, Close, OpenBracket, CloseBracket, Comma, Semicolon, Colon, At, Equals}

-- entries that were read, and the tokens behind them
abbrev pub Entries : Type 0 → Type 0
Entries X = List X × List TokenTree

-- what goes on with a list: an entry, or nothing
abbrev pub Step : Type 0 → Type 0
Step X = List TokenTree → Option (Option (Entries X))

abbrev pub by_entry : {X : Type 0} → (List X → List TokenTree → Option (Entries X)) → List X → List TokenTree
    → Option (Entries X) → Option (Entries X)
by_entry go_on before ts None = Some (before, ts)
by_entry go_on before ts (Some x) = go_on (before ++ x.0) x.1

-- at most so many entries more
abbrev pub entries : {X : Type 0} → Step X → ℕ → List X → List TokenTree → Option (Entries X)
entries step zero before ts = None
entries step (suc k) before ts = step ts >>= by_entry (entries step k) before ts

-- an entry, and further ones
abbrev pub listed : {X : Type 0} → (List TokenTree → Option (Entries X)) → Step X → List TokenTree → Option (Entries X)
listed read step ts = read ts >>= λ x. entries step (length ts) x.0 x.1

abbrev pub comma_of : {X : Type 0} → (List TokenTree → Option (Entries X)) → Option (List TokenTree)
    → Option (Option (Entries X))
comma_of read None = Some None
comma_of read (Some ts) = read ts >>= λ x. Some (Some x)

-- behind a comma an entry has to stand
abbrev pub with_comma : {X : Type 0} → (List TokenTree → Option (Entries X)) → Step X
with_comma read ts = comma_of read (after_mark Comma ts)

-- the text `0` alone
abbrev pub is_zero : TokenTree → Bool
is_zero Zero = true
is_zero _ = false

abbrev pub is_zero_first : Option TokenTree → Bool
is_zero_first None = false
is_zero_first (Some t) = is_zero t

abbrev pub after_zero : List TokenTree → Option (List TokenTree)
after_zero [] = None
after_zero (t ∷ ts) = if is_zero t then Some ts else None

-- the number in front of the colon of a range, if there is a range
abbrev pub range_from : List TokenTree → Option (List TokenTree) → Option (Option ℕ × List TokenTree)
range_from ts None = Some (None, ts)
range_from ts (Some us) =
    first_number us >>= λ h. after_mark Colon h.1 >>= λ vs. after_zero vs >>= λ ws. after_mark CloseBracket
    ws >>= λ rest. Some (Some h.0, rest)

abbrev pub range : List TokenTree → Option (Option ℕ × List TokenTree)
range ts = range_from ts (after_mark OpenBracket ts)

-- one more, up to the most that is kept
abbrev pub one_more : ℕ → ℕ → ℕ
one_more most n = min (n + 1) most

-- a width above 255 is kept as 255
abbrev pub net_by : Option ℕ → NetKind → ℕ → List ℕ → NetTree
net_by None kind item n = record { name = n; width = 1; ranged = false; kind = kind; item = item }
net_by (Some high) kind item n = record { name = n; width = one_more 255 high; ranged = true; kind = kind; item = item }

-- a declared name
abbrev pub one_net : (List ℕ → NetTree) → List TokenTree → Option (Entries NetTree)
one_net net ts = first_name ts >>= λ n. Some (net n.0 ∷ [], n.1)

abbrev pub net_behind : (List ℕ → NetTree) → Option (List TokenTree) → Option (Entries NetTree)
net_behind net None = None
net_behind net (Some ts) = one_net net ts

-- a comma and a name; behind another comma the list stops
abbrev pub comma_net : (List ℕ → NetTree) → Step NetTree
comma_net net ts = Some (net_behind net (after_mark Comma ts))

abbrev pub net_list : (List ℕ → NetTree) → List TokenTree → Option (Entries NetTree)
net_list net ts = listed (one_net net) (comma_net net) ts

-- a register, or a memory; a depth above 65,537 is kept as 65,537
abbrev pub reg_kind_of : Option ℕ → NetKind
reg_kind_of None = Reg
reg_kind_of (Some last) = Memory (one_more 65537 last)

abbrev pub reg_from : Option ℕ → ℕ → List ℕ → List TokenTree → Option (List TokenTree) → Option (Entries NetTree)
reg_from high item n ts None = Some (net_by high (reg_kind_of None) item n ∷ [], ts)
reg_from high item n ts (Some us) =
    after_zero us >>= λ vs. after_mark Colon vs >>= λ ws. first_number ws >>= λ l. after_mark CloseBracket
    l.1 >>= λ rest. Some (net_by high (reg_kind_of (Some l.0)) item n ∷ [], rest)

abbrev pub one_reg : Option ℕ → ℕ → List TokenTree → Option (Entries NetTree)
one_reg high item ts = first_name ts >>= λ n. reg_from high item n.0 n.1 (after_mark OpenBracket n.1)

abbrev pub reg_list : Option ℕ → ℕ → List TokenTree → Option (Entries NetTree)
reg_list high item ts = listed (one_reg high item) (with_comma (one_reg high item)) ts

abbrev pub drive_tree_of : List ℕ → List TokenTree → Option (Entries DriveTree)
drive_tree_of n ts = whole_expression ts >>= λ x. Some (record { name = n; value = x.tree } ∷ [], x.rest)

-- `name = value`
abbrev pub one_drive : List TokenTree → Option (Entries DriveTree)
one_drive ts = first_name ts >>= λ n. after_mark Equals n.1 >>= drive_tree_of n.0

abbrev pub drive_list : List TokenTree → Option (Entries DriveTree)
drive_list ts = listed one_drive (with_comma one_drive) ts

abbrev pub without_wire : List TokenTree → Option (List TokenTree) → List TokenTree
without_wire ts None = ts
without_wire ts (Some us) = us

abbrev pub output_from : List TokenTree → Option (List TokenTree) → NetKind × List TokenTree
output_from ts None = (OutWire, without_wire ts (after_word KeyWire ts))
output_from ts (Some us) = (OutReg, us)

abbrev pub head_from : List TokenTree → Option (List TokenTree) → Option (NetKind × List TokenTree)
head_from ts None = after_word KeyOutput ts >>= λ us. Some (output_from us (after_word KeyReg us))
head_from ts (Some us) = Some (Input, without_wire us (after_word KeyWire us))

-- what a group of ports begins with
abbrev pub port_head : List TokenTree → Option (NetKind × List TokenTree)
port_head ts = head_from ts (after_word KeyInput ts)

abbrev pub port : List TokenTree → Option (Entries NetTree)
port ts = port_head ts >>= λ h. range h.1 >>= λ r. net_list (net_by r.0 h.0 0) r.1

abbrev pub port_list : List TokenTree → Option (Entries NetTree)
port_list ts = listed port (with_comma port) ts

-- an item: what it declares, and the tokens behind it
pub record ItemFound : Type 0 where
  pub nets : List NetTree
  pub item : ItemTree
  pub rest : List TokenTree

abbrev pub item_found : List NetTree → ItemTree → List TokenTree → ItemFound
item_found declared item rest = record { nets = declared; item = item; rest = rest }

abbrev pub has_equals : List TokenTree → Bool
has_equals ts = is_some (after_mark Equals (drop 1 ts))

abbrev pub drive_nets : Option ℕ → ℕ → List DriveTree → List NetTree
drive_nets high item ds = map (λ (d : DriveTree). net_by high Wire item d.name) ds

abbrev pub wires : ℕ → Option ℕ → List TokenTree → Bool → Option ItemFound
wires item high ts true =
    drive_list ts >>= λ e. after_mark Semicolon e.1 >>= λ us. Some (item_found (drive_nets high item e.0) (nets e.0) us)
wires item high ts false =
    net_list (net_by high Wire item) ts >>= λ e. after_mark Semicolon e.1 >>= λ us. Some (item_found e.0 (nets []) us)

abbrev pub regs : ℕ → Option ℕ → List TokenTree → Option ItemFound
regs item high ts = reg_list high item ts >>= λ e. after_mark Semicolon e.1 >>= λ us. Some (item_found e.0 (nets []) us)

abbrev pub wire_item : ℕ → List TokenTree → Option ItemFound
wire_item item ts = range ts >>= λ r. wires item r.0 r.1 (has_equals r.1)

abbrev pub reg_item : ℕ → List TokenTree → Option ItemFound
reg_item item ts = range ts >>= λ r. regs item r.0 r.1

abbrev pub assign_from : List TokenTree → Option ItemFound
assign_from ts = drive_list ts >>= λ e. after_mark Semicolon e.1 >>= λ us. Some (item_found [] (assigns e.0) us)

abbrev pub clock_from : List TokenTree → Option (List ℕ × List TokenTree)
clock_from ts =
    after_mark At ts >>= λ us. after_mark Open us >>= λ vs. after_word Posedge vs >>= λ ws. first_name ws >>= λ n.
    after_mark Close n.1 >>= λ rest. Some (n.0, rest)

abbrev pub always_from : List TokenTree → Option ItemFound
always_from ts = clock_from ts >>= λ c. whole_statement c.1 >>= λ s. Some (item_found [] (always c.0 s.tree) s.rest)

-- what a token begins where an item is wanted
pub data ItemStart : Type 0 where
  StartWire : ItemStart
  StartReg : ItemStart
  StartAssign : ItemStart
  StartAlways : ItemStart
  NoItemStart : ItemStart

abbrev pub item_start : TokenTree → ItemStart
item_start (Word KeyWire) = StartWire
item_start (Word KeyReg) = StartReg
item_start (Word KeyAssign) = StartAssign
item_start (Word KeyAlways) = StartAlways
item_start _ = NoItemStart

abbrev pub item_from : ℕ → ItemStart → List TokenTree → Option ItemFound
item_from item StartWire ts = wire_item item ts
item_from item StartReg ts = reg_item item ts
item_from item StartAssign ts = assign_from ts
item_from item StartAlways ts = always_from ts
item_from item NoItemStart ts = None

-- the item with this number
abbrev pub item_at : ℕ → List TokenTree → Option ItemFound
item_at item [] = None
item_at item (t ∷ ts) = item_from item (item_start t) ts

-- a module's name and ports, and the tokens behind its header
pub record HeaderFound : Type 0 where
  pub name : List ℕ
  pub nets : List NetTree
  pub rest : List TokenTree

abbrev pub header_found : List ℕ → List NetTree → List TokenTree → HeaderFound
header_found name declared rest = record { name = name; nets = declared; rest = rest }

abbrev pub header_behind : List ℕ → Entries NetTree → Option HeaderFound
header_behind n e = after_mark Close e.1 >>= λ us. after_mark Semicolon us >>= λ rest. Some (header_found n e.0 rest)

abbrev pub header : List TokenTree → Option HeaderFound
header ts =
    after_word KeyModule ts >>= λ us. first_name us >>= λ n. after_mark Open n.1 >>= λ vs. port_list
    vs >>= header_behind n.0

-- an `endmodule` that is the last token
abbrev pub is_last : List TokenTree → Option (List TokenTree) → Bool
is_last ts None = false
is_last ts (Some []) = true
is_last ts (Some (u ∷ us)) = false

-- a module so far, and the tokens behind it
pub record Held : Type 0 where
  pub nets : List NetTree
  pub items : List ItemTree
  pub rest : List TokenTree

abbrev pub held_of : List NetTree → List ItemTree → List TokenTree → Held
held_of declared items rest = record { nets = declared; items = items; rest = rest }

abbrev pub with_item : Held → ItemFound → Held
with_item h x = held_of (h.nets ++ x.nets) (h.items ++ x.item ∷ []) x.rest

abbrev pub finished : ℕ → Held → Bool → Result Held ℕ
finished k h true = Ok h
finished k h false = Err k

abbrev pub by_item : (ℕ → Held → Result Held ℕ) → ℕ → Held → Option ItemFound → Result Held ℕ
by_item go_on k h None = finished k h (is_last h.rest (after_word EndModule h.rest))
by_item go_on k h (Some x) = go_on (k + 1) (with_item h x)

-- the items behind the first k, at most so many; an error has the number of those that are there
abbrev pub items : ℕ → ℕ → Held → Result Held ℕ
items zero k h = Err k
items (suc n) k h = by_item (items n) k h (item_at (k + 1) h.rest)

-- why the tokens are no module
pub data TreeFault : Type 0 where
  HeaderFault : TreeFault
  ItemFault : (k : ℕ) → TreeFault

abbrev pub from_items : List ℕ → Result Held ℕ → Result ModuleTree TreeFault
from_items name (Ok h) = Ok (record { name = name; nets = h.nets; items = h.items })
from_items name (Err k) = Err (ItemFault k)

abbrev pub from_header : ℕ → Option HeaderFound → Result ModuleTree TreeFault
from_header n None = Err HeaderFault
from_header n (Some h) = from_items h.name (items n 0 (held_of h.nets [] h.rest))

-- the module that the tokens are
abbrev pub read_module : List TokenTree → Result ModuleTree TreeFault
read_module ts = from_header (length ts) (header ts)
