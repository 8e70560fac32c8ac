-- What is written as a header or an item is read again.
use Rattle.std.proofs.Common.{◌≡◌, ℕ, ◌+◌, ◌≤◌, List, [], ◌∷◌, ◌++◌, length, length-append, true, false, Option, Some, None, refl, sym, ap, ◌∙◌, subst, arith, append_assoc, map}
use Rattle.std.specs.Prelude.{option_map}
use Rattle.std.specs.List.{flat_map, AllByRecursion}
use Rattle.ae_vtoken.specs.Tokens.{TokenTree, Name, Mark}
use Rattle.ae_vmodule.specs.ModuleTree.{NetTree, DriveTree, nets, assigns, always}
use Rattle.ae_vread.specs.ExprForms.{NumberForm, ZeroForm, DecimalForm, number_value}
use Rattle.ae_vread.specs.Forms.{PortHead, InputHead, OutputHead, OutputRegHead, PortForm, DriveForm, RegForm, ItemForm, WireItem, WireDrives, RegItem, AssignItem, AlwaysItem, range_tokens, head_tokens, comma_tokens, name_tokens, port_tokens, drive_tokens, depth_tokens, reg_tokens, item_tokens, net_of, head_kind, port_nets, reg_net, drive_of, item_nets, item_of, IsDrive, IsItem}
use Rattle.ae_vread.specs.TokenTests.{◌>>=◌, after_mark, after_word}
use Rattle.ae_vread.specs.ItemReading.{range_from, range, net_by, one_net, comma_net, net_list, reg_from, one_reg, reg_list, with_comma, one_drive, drive_list, port_head, without_wire, output_from, port, port_list, item_found, has_equals, drive_nets, wires, regs, assign_from, item_at, header_found, header_behind, header}
use Rattle.ae_vread.specs.Places.{header_tokens, IsApart}
use Rattle.ae_vmodule.specs.declared.module.NetKind.{NetKind}
use Rattle.ae_vmodule.specs.declared.module.NetKind.TheVariants.{Input, Wire, OutWire}
use Rattle.ae_vtoken.specs.declared.token.Key.TheVariants.{Wire as KeyWire, Reg as KeyReg}
use Rattle.ae_vtoken.specs.declared.token.Sign.TheVariants.{Close, OpenBracket, Comma, Semicolon}
use Rattle.ae_vread.proofs.ExprAgain.{Ends, whole_again}
use Rattle.ae_vread.proofs.StmtAgain.{whole_stmt_again, free_from, semicolon_ends}
use Rattle.ae_vread.proofs.ListLaws.{singles, listed_again, comma_again}

abbrev pub high_of : Option NumberForm → Option ℕ
high_of r = option_map number_value r

pub net_same : (r : Option NumberForm) (kind : NetKind) (item : ℕ) (n : List ℕ) → net_by (high_of r) kind item n ≡ net_of r kind item n
net_same None kind item n = refl
net_same (Some k) kind item n = refl

range_again : (r : Option NumberForm) (rest : List TokenTree) → after_mark OpenBracket rest ≡ None → range (range_tokens r ++ rest) ≡ Some (high_of r, rest)
range_again None rest none = ap (range_from rest) none
range_again (Some ZeroForm) rest none = refl
range_again (Some (DecimalForm n)) rest none = refl

abbrev pub Any : {X : Type 0} → X → Type 0
Any x = Unit {0}

pub all_any : {X : Type 0} (xs : List X) → AllByRecursion (Any {X = X}) xs
all_any [] = tt
all_any (x ∷ xs) = (tt, all_any xs)

-- names

abbrev pub net_out : (List ℕ → NetTree) → List ℕ → List NetTree
net_out net n = net n ∷ []

nets_again : (net : List ℕ → NetTree) (n : List ℕ) (ns : List (List ℕ)) (rest : List TokenTree) → comma_net net rest ≡ Some None
    → net_list net (Name n ∷ (comma_tokens name_tokens ns ++ rest)) ≡ Some (map net (n ∷ ns), rest)
nets_again net n ns rest stop =
    listed_again name_tokens (net_out net) Any Any (one_net net) (comma_net net) (λ f rest _ _. refl) (λ f rest _ _. refl) (λ f ts. tt)
    (λ f. omega arith) n ns rest (all_any (n ∷ ns)) tt stop
    ∙ ap (λ l. Some (l, rest)) (singles net (n ∷ ns))

-- drives

abbrev pub drive_out : DriveForm → List DriveTree
drive_out d = drive_of d ∷ []

drive_again : (d : DriveForm) (rest : List TokenTree) → IsDrive d → Ends 1 rest → one_drive (drive_tokens d ++ rest) ≡ Some (drive_out d, rest)
drive_again d rest is ends =
    ap (λ o. o >>= λ x. Some (record { name = d.name; value = x.tree } ∷ [], x.rest)) (whole_again d.value rest is.formed is.level is.depth ends)

comma_ends : (ts : List TokenTree) → Ends 1 (Mark Comma ∷ ts)
comma_ends ts = record { operator = refl; bracket = refl; question = λ _. refl }

drives_again : (d : DriveForm) (ds : List DriveForm) (rest : List TokenTree) → AllByRecursion IsDrive (d ∷ ds)
    → drive_list (drive_tokens d ++ (comma_tokens drive_tokens ds ++ Mark Semicolon ∷ rest)) ≡ Some (map drive_of (d ∷ ds), Mark Semicolon ∷ rest)
drives_again d ds rest fits =
    listed_again drive_tokens drive_out IsDrive (Ends 1) one_drive (with_comma one_drive) drive_again
    (λ f rest is ends. comma_again drive_tokens drive_out IsDrive one_drive f rest (drive_again f rest is ends)) (λ f ts. comma_ends _)
    (λ f. omega arith) d ds (Mark Semicolon ∷ rest) fits (semicolon_ends rest) refl
    ∙ ap (λ l. Some (l, Mark Semicolon ∷ rest)) (singles drive_of (d ∷ ds))

-- registers and memories

abbrev pub reg_out : Option NumberForm → ℕ → RegForm → List NetTree
reg_out range item r = reg_net range item r ∷ []

abbrev pub NoBracket : List TokenTree → Type 0
NoBracket ts = after_mark OpenBracket ts ≡ None

reg_again_at : (high : Option NumberForm) (item : ℕ) (n : List ℕ) (last : Option NumberForm) (rest : List TokenTree) → NoBracket rest
    → one_reg (high_of high) item (Name n ∷ (depth_tokens last ++ rest)) ≡ Some (reg_net high item (record { name = n; last = last }) ∷ [], rest)
reg_again_at high item n None rest none = ap (reg_from (high_of high) item n rest) none ∙ ap (λ t. Some (t ∷ [], rest)) (net_same high _ item n)
reg_again_at high item n (Some ZeroForm) rest none = ap (λ t. Some (t ∷ [], rest)) (net_same high _ item n)
reg_again_at high item n (Some (DecimalForm k)) rest none = ap (λ t. Some (t ∷ [], rest)) (net_same high _ item n)

regs_again : (high : Option NumberForm) (item : ℕ) (r : RegForm) (rs : List RegForm) (rest : List TokenTree)
    → reg_list (high_of high) item (reg_tokens r ++ (comma_tokens reg_tokens rs ++ Mark Semicolon ∷ rest)) ≡ Some
    (map (reg_net high item) (r ∷ rs), Mark Semicolon ∷ rest)
regs_again high item r rs rest =
    listed_again reg_tokens (reg_out high item) Any NoBracket (one_reg (high_of high) item) (with_comma (one_reg (high_of high) item))
    (λ f rest _ none. reg_again_at high item f.name f.last rest none)
    (λ f rest _ none. comma_again reg_tokens (reg_out high item) Any (one_reg (high_of high) item) f rest (reg_again_at high item f.name f.last rest none))
    (λ f ts. refl) (λ f. omega arith) r rs (Mark Semicolon ∷ rest) (all_any (r ∷ rs)) refl refl
    ∙ ap (λ l. Some (l, Mark Semicolon ∷ rest)) (singles (reg_net high item) (r ∷ rs))

-- ports

head_again : (h : PortHead) (rest : List TokenTree) → after_word KeyWire rest ≡ None → after_word KeyReg rest ≡ None
    → port_head (head_tokens h ++ rest) ≡ Some (head_kind h, rest)
head_again (InputHead true) rest wire reg = refl
head_again (InputHead false) rest wire reg = ap (λ o. Some (Input, without_wire rest o)) wire
head_again (OutputHead true) rest wire reg = refl
head_again (OutputHead false) rest wire reg = ap (λ o. Some (output_from rest o)) reg ∙ ap (λ o. Some (OutWire, without_wire rest o)) wire
head_again OutputRegHead rest wire reg = refl

-- no comma with a name behind it
abbrev pub NoMoreNames : List TokenTree → Type 0
NoMoreNames ts = (net : List ℕ → NetTree) → comma_net net ts ≡ Some None

no_word : (r : Option NumberForm) (n : List ℕ) (ts : List TokenTree) → (after_word KeyWire (range_tokens r ++ Name n ∷ ts) ≡ None)
    × (after_word KeyReg (range_tokens r ++ Name n ∷ ts) ≡ None)
no_word None n ts = (refl, refl)
no_word (Some k) n ts = (refl, refl)

port_again : (p : PortForm) (rest : List TokenTree) → NoMoreNames rest → port (port_tokens p ++ rest) ≡ Some (port_nets p, rest)
port_again p rest stop =
    let names : List TokenTree = Name p.first ∷ (comma_tokens name_tokens p.more ++ rest) in
    let none = no_word p.range p.first (comma_tokens name_tokens p.more ++ rest) in
    ap port (append_assoc (head_tokens p.head) (range_tokens p.range ++ Name p.first ∷ comma_tokens name_tokens p.more) rest ∙
    ap (λ l. head_tokens p.head ++ l) (append_assoc (range_tokens p.range) (Name p.first ∷ comma_tokens name_tokens p.more) rest))
    ∙ ap (λ o. o >>= λ h. range h.1 >>= λ r. net_list (net_by r.0 h.0 0) r.1) (head_again p.head (range_tokens p.range ++ names) none.0 none.1)
    ∙ ap (λ o. o >>= λ r. net_list (net_by r.0 (head_kind p.head) 0) r.1) (range_again p.range names refl)
    ∙ nets_again (net_by (high_of p.range) (head_kind p.head) 0) p.first p.more rest (stop _)
    ∙ (λ i. Some (map (λ n. net_same p.range (head_kind p.head) 0 n i) (p.first ∷ p.more), rest))

port_front : (h : PortHead) (ts : List TokenTree) → NoMoreNames (Mark Comma ∷ (head_tokens h ++ ts))
port_front (InputHead spelled) ts net = refl
port_front (OutputHead spelled) ts net = refl
port_front OutputRegHead ts net = refl

some_port : (p : PortForm) → 1 ≤ length (port_tokens p)
some_port p = omega (arith, some_head p.head, length-append (head_tokens p.head) (range_tokens p.range ++ Name p.first ∷ comma_tokens name_tokens p.more))
  where
    some_head : (h : PortHead) → 1 ≤ length (head_tokens h)
    some_head (InputHead spelled) = omega arith
    some_head (OutputHead spelled) = omega arith
    some_head OutputRegHead = omega arith

ports_again : (p : PortForm) (ps : List PortForm) (rest : List TokenTree)
    → port_list (port_tokens p ++ (comma_tokens port_tokens ps ++ Mark Close ∷ rest)) ≡ Some (flat_map port_nets (p ∷ ps), Mark Close ∷ rest)
ports_again p ps rest =
    listed_again port_tokens port_nets Any NoMoreNames port (with_comma port) (λ f rest _ stop. port_again f rest stop)
    (λ f rest _ stop. comma_again port_tokens port_nets Any port f rest (port_again f rest stop))
    (λ f ts. subst (λ l. NoMoreNames (Mark Comma ∷ l)) (sym
    (append_assoc (head_tokens f.head) (range_tokens f.range ++ Name f.first ∷ comma_tokens name_tokens f.more) ts)) (port_front f.head _))
    some_port p ps (Mark Close ∷ rest) (all_any (p ∷ ps)) (λ net. refl) refl

-- the header

pub header_again : (n : List ℕ) (p : PortForm) (ps : List PortForm) (rest : List TokenTree)
    → header (header_tokens n p ps ++ rest) ≡ Some (header_found n (flat_map port_nets (p ∷ ps)) rest)
header_again n p ps rest =
    ap (λ l. port_list l >>= header_behind n) (append_assoc (port_tokens p) (comma_tokens port_tokens ps ++ Mark Close ∷ Mark Semicolon ∷ []) rest ∙
    ap (λ l. port_tokens p ++ l) (append_assoc (comma_tokens port_tokens ps) (Mark Close ∷ Mark Semicolon ∷ []) rest))
    ∙ ap (λ o. o >>= header_behind n) (ports_again p ps (Mark Semicolon ∷ rest))

-- items

no_equals : (ns : List (List ℕ)) (rest : List TokenTree) (n : List ℕ) → has_equals (Name n ∷ (comma_tokens name_tokens ns ++ Mark Semicolon ∷ rest)) ≡ false
no_equals [] rest n = refl
no_equals (m ∷ ns) rest n = refl

pub drive_nets_of : (r : Option NumberForm) (k : ℕ) (ds : List DriveForm)
    → drive_nets (high_of r) k (map drive_of ds) ≡ map (λ (d : DriveForm). net_of r Wire k d.name) ds
drive_nets_of r k [] = refl
drive_nets_of r k (d ∷ ds) = λ i. net_same r Wire k d.name i ∷ drive_nets_of r k ds i

pub item_again : (f : ItemForm) (k : ℕ) (rest : List TokenTree) → IsItem f → IsApart f rest
    → item_at k (item_tokens f ++ rest) ≡ Some (item_found (item_nets k f) (item_of f) rest)
item_again (WireItem r n ns) k rest is apart =
    let names : List TokenTree = Name n ∷ (comma_tokens name_tokens ns ++ Mark Semicolon ∷ rest) in
    ap (λ l. range l >>= λ r. wires k r.0 r.1 (has_equals r.1))
    (append_assoc (range_tokens r) (Name n ∷ (comma_tokens name_tokens ns ++ Mark Semicolon ∷ [])) rest ∙
    ap (λ l. range_tokens r ++ Name n ∷ l) (append_assoc (comma_tokens name_tokens ns) (Mark Semicolon ∷ []) rest))
    ∙ ap (λ o. o >>= λ r. wires k r.0 r.1 (has_equals r.1)) (range_again r names refl)
    ∙ ap (wires k (high_of r) names) (no_equals ns rest n)
    ∙ ap (λ o. o >>= λ e. after_mark Semicolon e.1 >>= λ us. Some (item_found e.0 (nets []) us))
    (nets_again (net_by (high_of r) Wire k) n ns (Mark Semicolon ∷ rest) refl)
    ∙ (λ i. Some (item_found (map (λ n. net_same r Wire k n i) (n ∷ ns)) (nets []) rest))
item_again (WireDrives r d ds) k rest is apart =
    let drives : List TokenTree = drive_tokens d ++ (comma_tokens drive_tokens ds ++ Mark Semicolon ∷ rest) in
    ap (λ l. range l >>= λ r. wires k r.0 r.1 (has_equals r.1))
    (append_assoc (range_tokens r) (drive_tokens d ++ (comma_tokens drive_tokens ds ++ Mark Semicolon ∷ [])) rest ∙
    ap (λ l. range_tokens r ++ l) (append_assoc (drive_tokens d) (comma_tokens drive_tokens ds ++ Mark Semicolon ∷ []) rest ∙
    ap (λ l. drive_tokens d ++ l) (append_assoc (comma_tokens drive_tokens ds) (Mark Semicolon ∷ []) rest)))
    ∙ ap (λ o. o >>= λ r. wires k r.0 r.1 (has_equals r.1)) (range_again r drives refl)
    ∙ ap (λ o. o >>= λ e. after_mark Semicolon e.1 >>= λ us. Some (item_found (drive_nets (high_of r) k e.0) (nets e.0) us)) (drives_again d ds rest is)
    ∙ ap (λ l. Some (item_found l (nets (map drive_of (d ∷ ds))) rest)) (drive_nets_of r k (d ∷ ds))
item_again (RegItem r first more) k rest is apart =
    let all : List TokenTree = reg_tokens first ++ (comma_tokens reg_tokens more ++ Mark Semicolon ∷ rest) in
    ap (λ l. range l >>= λ r. regs k r.0 r.1) (append_assoc (range_tokens r) (reg_tokens first ++ (comma_tokens reg_tokens more ++ Mark Semicolon ∷ [])) rest ∙
    ap (λ l. range_tokens r ++ l) (append_assoc (reg_tokens first) (comma_tokens reg_tokens more ++ Mark Semicolon ∷ []) rest ∙
    ap (λ l. reg_tokens first ++ l) (append_assoc (comma_tokens reg_tokens more) (Mark Semicolon ∷ []) rest)))
    ∙ ap (λ o. o >>= λ r. regs k r.0 r.1) (range_again r all refl)
    ∙ ap (λ o. o >>= λ e. after_mark Semicolon e.1 >>= λ us. Some (item_found e.0 (nets []) us)) (regs_again r k first more rest)
item_again (AssignItem d ds) k rest is apart =
    ap assign_from (append_assoc (drive_tokens d) (comma_tokens drive_tokens ds ++ Mark Semicolon ∷ []) rest ∙
    ap (λ l. drive_tokens d ++ l) (append_assoc (comma_tokens drive_tokens ds) (Mark Semicolon ∷ []) rest))
    ∙ ap (λ o. o >>= λ e. after_mark Semicolon e.1 >>= λ us. Some (item_found [] (assigns e.0) us)) (drives_again d ds rest is)
item_again (AlwaysItem clock body) k rest is apart =
    ap (λ o. o >>= λ s. Some (item_found [] (always clock s.tree) s.rest))
    (whole_stmt_again body rest is.formed is.statement is.depth (free_from body rest apart))
