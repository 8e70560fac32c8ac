-- The nets of names, as a netlist grows.
use Rattle.std.proofs.Common.{ℕ, ◌≡◌, ◌/◌, ◌%◌, ◌^◌, ◌<◌, ◌≤◌, inl, inr, List, [], ◌∷◌, ◌++◌, length, get_or, Option, Some, true, false, slice_get, refl, sym, ap, ◌∙◌, subst}
use Rattle.std.proofs.lemmas.Bool.{cond-true, cond-false}
use Rattle.std.proofs.lemmas.Option.{unwrap_or-slice_get}
use Rattle.ae_netlist.specs.declared.cell.NetId.{NetId}
use Rattle.ae_netlist.specs.declared.cell.SizedCell.{SizedCell}
use Rattle.ae_netlist.specs.Circuit.{Circuit, IsAddress, IsMemory, IsNet, IsPeek, width_of as net_width_of}
use Rattle.ae_netlist.specs.Runs.{Clock, Carries, store_at, word_at}
use Rattle.ae_netlist.specs.declared.cell.Cell.TheVariants.{Const, Peek}
use Rattle.ae_netlist.proofs.Gets.{get_pushed}
use Rattle.ae_netlist.proofs.Carried.{carries_trans, carries_extends}
use Rattle.ae_netlist.proofs.Growing.{Keeps, keeps_extends, net_width, extends_append}
use Rattle.ae_vmodule.specs.declared.module.NetKind.{NetKind}
use Rattle.ae_vmodule.specs.declared.module.NetKind.TheVariants.{Input, Wire, OutWire, Reg, OutReg, Memory}
use Rattle.ae_vmodule.specs.ModuleTree.{NetTree, index, place}
use Rattle.ae_judge.specs.Names.{is_memory_name, is_memory_kind, passes, depth_of, depth_in, depth_of_kind}
use Rattle.ae_judge.specs.Widths.{declared_width}
use Rattle.ae_runs.specs.Values.{ModuleClock, value_at}
use Rattle.ae_gates.specs.Cells.{GrowsByGates, IsWord}
use Rattle.ae_order.proofs.SoundLaws.{named_width}
use Rattle.ae_runs.specs.Named.{AreNamed, AreNets, IsNamed, StandsFor, place_of}

pub stands_later : (k : NetKind) (a b : List SizedCell) (n w : ℕ) → Keeps a b → StandsFor k a n w → StandsFor k b n w
stands_later (Memory depth) a b n w g h = g.memories n w depth h
stands_later _ a b n w g h = g.nets n w h

pub nets_keep : {ns : List NetTree} {nets : List (Option NetId)} {a b : List SizedCell} → Keeps a b → AreNets ns nets a → AreNets ns nets b
nets_keep {ns} {nets} {a} {b} g h = record { long = h.long; each = λ p x y i j. stands_later x.kind a b y.0 x.width g (h.each p x y i j) }

pub nets_grow : {ns : List NetTree} {nets : List (Option NetId)} {a b : Circuit} → GrowsByGates a b → AreNets ns nets a.cells → AreNets ns nets b.cells
nets_grow g h = nets_keep (keeps_extends g.grows.extends) h

stands_word : (k : NetKind) (cells : List SizedCell) (n w : ℕ) → is_memory_kind k ≡ false → StandsFor k cells n w → IsNet cells n w
stands_word (Memory depth) cells n w f h = absurd (cc)
stands_word _ cells n w f h = h

stands_store : (k : NetKind) (cells : List SizedCell) (n w : ℕ) → is_memory_kind k ≡ true → StandsFor k cells n w → IsMemory cells n w (depth_of_kind k)
stands_store (Memory depth) cells n w f h = h
stands_store Input cells n w f h = absurd (cc)
stands_store Wire cells n w f h = absurd (cc)
stands_store OutWire cells n w f h = absurd (cc)
stands_store Reg cells n w f h = absurd (cc)
stands_store OutReg cells n w f h = absurd (cc)

-- the net of a name that is no memory
pub name_net : (ns : List NetTree) (nets : List (Option NetId)) (cells : List SizedCell) (n : List ℕ) (y : NetId) → IsNamed ns n → is_memory_name ns n ≡ false
    → AreNets ns nets cells → slice_get nets (place_of ns n) ≡ Some (Some y) → IsNet cells y.0 (declared_width ns n)
name_net ns nets cells n y h f a g =
    rw (named_width h)
    (stands_word h.net.kind cells y.0 h.net.width (subst (λ o. passes (λ (x : NetTree). is_memory_kind x.kind) o ≡ false) h.found f)
    (a.each (place_of ns n) h.net y h.at g))

-- and of one that is
pub name_memory : (ns : List NetTree) (nets : List (Option NetId)) (cells : List SizedCell) (n : List ℕ) (y : NetId) → IsNamed ns n
    → is_memory_name ns n ≡ true → AreNets ns nets cells → slice_get nets (place_of ns n) ≡ Some (Some y)
    → IsMemory cells y.0 (declared_width ns n) (depth_of ns n)
name_memory ns nets cells n y h f a g =
    let e : depth_of ns n ≡ depth_of_kind h.net.kind = ap depth_in h.found in
    rw (named_width h, e)
    (stands_store h.net.kind cells y.0 h.net.width (subst (λ o. passes (λ (x : NetTree). is_memory_kind x.kind) o ≡ true) h.found f)
    (a.each (place_of ns n) h.net y h.at g))

-- its word
pub name_word : (from : ℕ) (ns : List NetTree) (nets : List (Option NetId)) (cells : List SizedCell) (n : List ℕ) (y : NetId) (w : ℕ) (at : List ℕ → ℕ)
    → IsNet cells y.0 w → AreNamed ns nets at → slice_get nets (place_of ns n) ≡ Some (Some y)
    → IsWord from cells y.0 w (λ run t. word_at run t (at n))
name_word from ns nets cells n y w at net a g = record { found = net; words = λ all k run is t l. ap (word_at run t) (sym (a.each n y g)) }

-- the word of a memory that a peek shows
pub peek_word : (from : ℕ) (old new : Circuit) (y m at : NetId) (w u depth : ℕ) → from ≤ length old.cells → y ≡ record { 0 = length old.cells }
    → new ≡ record old { cells = old.cells ++ (record { width = w; cell = Peek m at }) ∷ [] }
    → (f : List Clock → ℕ → ℕ) → IsWord from old.cells at.0 u f → IsWord from new.cells y.0 w (λ run t. get_or (store_at run t m.0) (f run t) 0)
peek_word from old new y m at w u depth low i e f p =
    rw (e, i) (record {
      found = record { sized = record { width = w; cell = Peek m at }; found = get_pushed old.cells _; plain = tt; wide = refl };
      words = λ all k run is t l.
          let before : Carries from old.cells all = carries_trans (carries_extends from (extends_append old.cells _)) k in
          let z = is.settles t (length old.cells) (record { width = w; cell = Peek m at }) l (k.keeps (length old.cells) _ low (get_pushed old.cells _)) in
          z ∙ (unwrap_or-slice_get (store_at run t m.0) (word_at run t at.0) 0
          ∙ ap (λ x. get_or (store_at run t m.0) x 0) (p.words all before run is t l));
    })

pub own_net : {cells : List SizedCell} {n w : ℕ} → IsNet cells n w → IsNet cells n (net_width_of cells n)
own_net h = rw (net_width h) h

-- a constant that is an address
pub constant_address : (cells : List SizedCell) (y w k depth : ℕ) → slice_get cells y ≡ Some (record { width = w; cell = Const k }) → k < depth
    → IsAddress cells y depth
constant_address cells y w k depth h l = record {
  net = (let n : IsNet cells y w = record { sized = record { width = w; cell = Const k }; found = h; plain = tt; wide = refl } in own_net n);
  inside = inr (record { width = w; constant = k; found = h; below = l });
}

-- a net whose words all have a place
pub varying_address : (cells : List SizedCell) (n w depth : ℕ) → IsNet cells n w → 2 ^ w ≤ depth → IsAddress cells n depth
varying_address cells n w depth net l = let e : net_width_of cells n ≡ w = net_width net in record { net = rw e net; inside = inl (rw e l) }

-- an address of a memory may read it
pub peek_allowed : (cells : List SizedCell) (w m at depth : ℕ) → IsMemory cells m w depth → IsAddress cells at depth → IsPeek cells w m at
peek_allowed cells w m at depth p q = record { depth = depth; memory = p; address = q }

pub index_value : (ns : List NetTree) (c : ModuleClock) (n : List ℕ) (k w : ℕ) → is_memory_name ns n ≡ true
    → get_or (c.store n) k 0 ≡ value_at ns c w (index n (place k))
index_value ns c n k w t = sym (unwrap_or-slice_get (c.store n) k 0) ∙ sym (cond-true _ _ _ t)

pub bit_value : (ns : List NetTree) (c : ModuleClock) (n : List ℕ) (k w : ℕ) → is_memory_name ns n ≡ false
    → c.word n / 2 ^ k % 2 ≡ value_at ns c w (index n (place k))
bit_value ns c n k w f = sym (cond-false _ _ _ f)
