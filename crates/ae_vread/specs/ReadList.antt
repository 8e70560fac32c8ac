-- What the readers of lists give, apart from where it lies in memory.
use Rattle.std.specs.Prelude.{◌≡◌, ℕ, List, ◌++◌, map, slice_get, Bool, true, false, Option, Some, None, Result, Ok, Err}
use Rattle.ae_vtoken.specs.Tokens.{TokenTree}
use Rattle.ae_vtoken.specs.Ahead.{ahead}
use Rattle.ae_vmodule.specs.Words.{Extends}
use Rattle.ae_vread.specs.Read.{Fails, net_of}
use Rattle.ae_vread.specs.ItemReading.{Entries, HeaderFound, ItemFound}
use Rattle.ae_vmodule.specs.View.{net_tree, item_tree}
use Rattle.ae_vmodule.specs.declared.module.VNet.{VNet}
use Rattle.ae_vmodule.specs.declared.items.VItem.{VItem}
use Rattle.ae_vmodule.specs.declared.module.Drive.{Drive}
use Rattle.ae_vmodule.specs.declared.module.NetKind.TheVariants.{Wire}
use Rattle.ae_vread.specs.declared.reading.Reader.{Reader}
use Rattle.ae_vread.specs.declared.reading.ReadFault.{ReadFault}
use Rattle.ae_vread.specs.declared.reading.ReadFault.TheVariants.{Memory}

-- behind the old entries new ones stand that were read, whatever names are still to come, and the tokens behind them are ahead
pub record Added {X Y : Type 0} (view : List (List ℕ) → X → Y) (old new : List X) (words : List (List ℕ)) (r : Reader)
    (e : Entries Y) : Type 0 where
  pub more : List X
  pub items : new ≡ old ++ more
  pub means : (ws : List (List ℕ)) → Extends r.words ws → map (view ws) more ≡ e.0
  pub rest : ahead r.tokens ≡ e.1
  pub extends : Extends words r.words

-- what the code returned is what reading gives, unless memory ran out
abbrev pub ReadsList : {X Y A : Type 0} → (List (List ℕ) → X → Y) → List X → List X → List (List ℕ) → Reader
    → Result A ReadFault
    → Option (Entries Y) → Type 0
ReadsList {X} {Y} view old new words r (Ok x) read = (e : Entries Y) × (read ≡ Some e) × Added view old new words r e
ReadsList view old new words r (Err e) read = Fails e read

-- whether a step of a list went on with an entry
abbrev pub Went : {X Y : Type 0} → (List (List ℕ) → X → Y) → List X → List X → List (List ℕ) → Reader → Bool
    → Option (Option (Entries Y)) → List TokenTree → Type 0
Went {X} {Y} view old new words r true read ts = (e : Entries Y) × (read ≡ Some (Some e)) × Added view old new words r e
Went view old new words r false read ts =
    (read ≡ Some None) × (new ≡ old) × (ahead r.tokens ≡ ts) × Extends words r.words

abbrev pub StepsList : {X Y : Type 0} → (List (List ℕ) → X → Y) → List X → List X → List (List ℕ) → Reader
    → Result Bool ReadFault
    → Option (Option (Entries Y)) → List TokenTree → Type 0
StepsList view old new words r (Ok b) read ts = Went view old new words r b read ts
StepsList view old new words r (Err e) read ts = Fails e read

-- a header: the number of its name, and its nets behind others
abbrev pub ReadsHeader : List VNet → List VNet → List (List ℕ) → Reader → Result ℕ ReadFault → Option HeaderFound
    → Type 0
ReadsHeader old new words r (Ok k) read =
    (h : HeaderFound) × (read ≡ Some h) × Added net_tree old new words r (h.nets, h.rest)
    × (slice_get r.words k ≡ Some h.name)
ReadsHeader old new words r (Err e) read = Fails e read

-- the names that drives declare, behind other nets
abbrev pub Declares : {A : Type 0} → List VNet → List VNet → Result A ReadFault → List Drive → Option ℕ → ℕ → Type 0
Declares old new (Ok x) drives high item = new ≡ old ++ map (λ (d : Drive). net_of d.name high Wire item) drives
Declares old new (Err e) drives high item = e ≡ Memory

-- an item, and what it declares behind other nets
abbrev pub ReadsItem : List VNet → List VNet → List (List ℕ) → Reader → Result VItem ReadFault → Option ItemFound
    → Type 0
ReadsItem old new words r (Ok item) read =
    (x : ItemFound) × (read ≡ Some x) × Added net_tree old new words r (x.nets, x.rest)
    × ((ws : List (List ℕ)) → Extends r.words ws → item_tree ws item ≡ x.item)
ReadsItem old new words r (Err e) read = Fails e read
