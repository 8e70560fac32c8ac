-- What an item of the code is, wherever its drives stand.
use Rattle.std.specs.Prelude.{ℕ, List, [], ◌∷◌}
use Rattle.ae_vmodule.specs.Listed.{listed}
use Rattle.ae_vmodule.specs.declared.module.Drive.{Drive}
use Rattle.ae_vmodule.specs.declared.symbols.Symbol.{Symbol}
use Rattle.ae_vmodule.specs.declared.items.Kept.{Kept}
use Rattle.ae_vmodule.specs.declared.items.Kept.TheVariants as k
use Rattle.ae_vmodule.specs.declared.items.ItemParts.{ItemParts}
use Rattle.ae_vmodule.specs.declared.items.ItemParts.TheVariants as p

-- an item
pub data Item : Type 0 where
  -- a declaration: the names that it gives a value
  nets : (drives : List Drive) → Item
  assigns : (drives : List Drive) → Item
  always : (clock : ℕ) (body : List Symbol) → Item

abbrev pub item_of : Kept → Item
item_of (k.Net d) = nets (d ∷ [])
item_of (k.Nets ds) = nets ds.items
item_of (k.Assign d) = assigns (d ∷ [])
item_of (k.Assigns ds) = assigns ds.items
item_of (k.Always clock body) = always clock (listed body.symbols)

-- the item that holds these
abbrev pub parts_item : ItemParts → Item
parts_item (p.Nets ds) = nets ds.now
parts_item (p.Assign ds) = assigns ds.now
parts_item (p.Always clock body) = always clock body.symbols.now
