-- What the readers of items and modules give, apart from where it lies in memory.
use Rattle.std.specs.Prelude.{◌≡◌, ℕ, List, map, Result, Ok, Err}
use Rattle.std.specs.Global.{Vec}
use Rattle.ae_vtoken.specs.Ahead.{ahead}
use Rattle.ae_vmodule.specs.ModuleTree.{ModuleTree}
use Rattle.ae_vread.specs.ItemReading.{Held, TreeFault, HeaderFault, ItemFault}
use Rattle.ae_vmodule.specs.View.{net_tree, item_tree, module_tree}
use Rattle.ae_vmodule.specs.Words.{Extends}
use Rattle.ae_vmodule.specs.declared.module.VNet.{VNet}
use Rattle.ae_vmodule.specs.declared.items.VItem.{VItem}
use Rattle.ae_vmodule.specs.declared.module.VModule.{VModule}
use Rattle.ae_vread.specs.declared.reading.Reader.{Reader}
use Rattle.ae_vread.specs.declared.reader.VFault.{VFault}
use Rattle.ae_vread.specs.declared.reader.VFault.TheVariants.{BadToken, BadHeader, BadItem, Memory}

-- a module so far, whatever names are still to come, and the tokens behind it are ahead
pub record IsHeld (nets : List VNet) (items : List VItem) (r : Reader) (h : Held) : Type 0 where
  pub nets_mean : (ws : List (List ℕ)) → Extends r.words ws → map (net_tree ws) nets ≡ h.nets
  pub items_mean : (ws : List (List ℕ)) → Extends r.words ws → map (item_tree ws) items ≡ h.items
  pub rest : ahead r.tokens ≡ h.rest

-- what the loop over items gives
abbrev pub GivesItems : List VNet → List (List ℕ) → Reader → Result (Vec VItem) VFault → Result Held ℕ → Type 0
GivesItems nets words r (Ok items) read =
    (h : Held) × (read ≡ Ok h) × IsHeld nets items.items r h × Extends words r.words
GivesItems nets words r (Err Memory) read = Unit {0}
GivesItems nets words r (Err (BadItem k)) read = read ≡ Err k
GivesItems nets words r (Err (BadToken at)) read = ⊥
GivesItems nets words r (Err BadHeader) read = ⊥

-- what reading all tokens gives
abbrev pub GivesRead : Result VModule VFault → Result ModuleTree TreeFault → Type 0
GivesRead (Ok m) read = read ≡ Ok (module_tree m)
GivesRead (Err Memory) read = Unit {0}
GivesRead (Err (BadItem k)) read = read ≡ Err (ItemFault k)
GivesRead (Err BadHeader) read = read ≡ Err HeaderFault
GivesRead (Err (BadToken at)) read = ⊥
