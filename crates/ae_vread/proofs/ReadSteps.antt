-- One turn of the loop over items, and a module whose items are read.
use Rattle.std.proofs.Common.{◌≡◌, ℕ, suc, ◌+◌, ◌-◌, ◌<◌, ◌≤◌, List, [], ◌∷◌, ◌++◌, true, false, length, map, Option, Some, None, Result, Ok, Err, refl, sym, ap, ◌∙◌, subst, arith}
use Rattle.std.proofs.lemmas.List.{map-append}
use Rattle.ae_vtoken.specs.Tokens.{TokenTree}
use Rattle.ae_vtoken.specs.declared.token.Key.TheVariants.{EndModule}
use Rattle.ae_vread.specs.TokenTests.{after_word}
use Rattle.ae_vread.specs.ItemReading.{ItemFound, item_at, is_last, Held, held_of, with_item, finished, by_item, items, HeaderFound, header, from_items, from_header, read_module, ItemFault}
use Rattle.ae_vmodule.specs.View.{word_at, net_tree, item_tree, module_tree}
use Rattle.ae_vmodule.specs.Words.{Extends}
use Rattle.ae_vread.specs.ReadList.{Added}
use Rattle.ae_vread.specs.ReadModule.{IsHeld}
use Rattle.ae_vread.specs.Read.{Fails}
use Rattle.ae_vread.specs.declared.reading.ReadFault.{ReadFault}
use Rattle.ae_vread.specs.declared.reading.ReadFault.TheVariants.{Syntax}
use Rattle.ae_vmodule.specs.declared.module.VNet.{VNet}
use Rattle.ae_vmodule.specs.declared.items.VItem.{VItem}
use Rattle.ae_vmodule.specs.declared.module.VModule.{VModule}
use Rattle.ae_vread.specs.declared.reading.Reader.{Reader}
use Rattle.ae_vread.proofs.Meanings.{no_more, extends_by, extends_same}
use Rattle.ae_vread.proofs.ItemSteps.{all_mean}
use Rattle.ae_vread.proofs.ModuleLaws.{last_from, no_item_last}

a_turn : (m n : ℕ) (h : Held) → n < m → items (m - n) n h ≡ by_item (items (m - (n + 1))) n h (item_at (n + 1) h.rest)
a_turn m n h below = ap (λ k. items k n h) (let e : m - n ≡ suc (m - (n + 1)) = omega arith in e)

pub items_end : (r : Result Held ℕ) (ts : List TokenTree) (m n : ℕ) (h : Held) → n < m → r ≡ items (m - n) n h → ts ≡ h.rest
    → is_last ts (after_word EndModule ts) ≡ true → r ≡ Ok h
items_end r ts m n h below so_far rest last =
    let here = ap (λ us. is_last us (after_word EndModule us)) (sym rest) ∙ last in
    so_far ∙ a_turn m n h below ∙ ap (by_item (items (m - (n + 1))) n h)
    (no_item_last (n + 1) h.rest (last_from h.rest (after_word EndModule h.rest) refl here)) ∙ ap (finished n h) here

pub items_next : (r : Result Held ℕ) (ts : List TokenTree) (m n : ℕ) (h : Held) (x : ItemFound) → n < m → r ≡ items (m - n) n h → ts ≡ h.rest
    → item_at (n + 1) ts ≡ Some x → r ≡ items (m - (n + 1)) (n + 1) (with_item h x)
items_next r ts m n h x below so_far rest here =
    so_far ∙ a_turn m n h below ∙ ap (by_item (items (m - (n + 1))) n h) (ap (item_at (n + 1)) (sym rest) ∙ here)

pub items_fail : (r : Result Held ℕ) (ts : List TokenTree) (m n : ℕ) (h : Held) → n < m → r ≡ items (m - n) n h → ts ≡ h.rest → item_at (n + 1) ts ≡ None
    → is_last ts (after_word EndModule ts) ≡ false → r ≡ Err n
items_fail r ts m n h below so_far rest none last =
    so_far ∙ a_turn m n h below ∙ ap (by_item (items (m - (n + 1))) n h) (ap (item_at (n + 1)) (sym rest) ∙ none)
    ∙ ap (finished n h) (ap (λ us. is_last us (after_word EndModule us)) (sym rest) ∙ last)

pub items_run_out : (r : Result Held ℕ) (m n : ℕ) (h : Held) → m ≤ n → n ≤ m → r ≡ items (m - n) n h → r ≡ Err m
items_run_out r m n h past within so_far = so_far ∙ ap (λ k. items k n h) (let e : m - n ≡ 0 = omega arith in e) ∙ ap Err (let e : n ≡ m = omega arith in e)

-- an item more
pub held_more : (nets nets' : List VNet) (before after : List VItem) (item : VItem) (w : List (List ℕ)) (r s : Reader) (h : Held) (x : ItemFound)
    → IsHeld nets before r h
    → w ≡ r.words → Added net_tree nets nets' w s (x.nets, x.rest) → ((ws : List (List ℕ)) → Extends s.words ws → item_tree ws item ≡ x.item)
    → after ≡ before ++ item ∷ [] → IsHeld nets' after s (with_item h x)
held_more nets nets' before after item w r s h x held same added means pushed =
    let later = extends_same _ _ _ added.extends (sym same) in
    record {
      nets_mean = λ ws g. ap (map (net_tree ws)) added.items ∙ map-append (net_tree ws) nets added.more
          ∙ (λ i. held.nets_mean ws (extends_by _ _ _ later g) i ++ added.means ws g i);
      items_mean = λ ws g. ap (map (item_tree ws)) pushed ∙ map-append (item_tree ws) before (item ∷ [])
          ∙ (λ i. held.items_mean ws (extends_by _ _ _ later g) i ++ means ws g i ∷ []);
      rest = added.rest;
    }

-- a header, with no items yet
pub held_first : (before nets : List VNet) (w : List (List ℕ)) (r : Reader) (h : HeaderFound) (none : List VItem) → before ≡ [] → none ≡ []
    → Added net_tree before nets w r (h.nets, h.rest) → IsHeld nets none r (held_of h.nets [] h.rest)
held_first before nets w r h none empty no_items added = record {
  nets_mean = all_mean net_tree before nets w r (h.nets, h.rest) added empty;
  items_mean = λ ws g. ap (map (item_tree ws)) no_items;
  rest = added.rest;
}

-- the module of a header and its items
pub module_is : (ts : List TokenTree) (h : HeaderFound) (x : Held) (v : VModule) (r : Reader) (n : ℕ) → header ts ≡ Some h
    → n ≡ length ts → items n 0 (held_of h.nets [] h.rest) ≡ Ok x → word_at v.words v.name ≡ h.name → v.words ≡ r.words → IsHeld v.nets.items v.items.items r x
    → read_module ts ≡ Ok (module_tree v)
module_is ts h x v r n head many here name words held =
    ap (from_header (length ts)) head ∙ ap (λ m. from_items h.name (items m 0 (held_of h.nets [] h.rest))) (sym many) ∙ ap (from_items h.name) here
    ∙ ap Ok (λ i. record {
      name = sym name i;
      nets = sym (held.nets_mean v.words (extends_same _ _ _ (no_more v.words) (sym words))) i;
      items = sym (held.items_mean v.words (extends_same _ _ _ (no_more v.words) (sym words))) i;
    })

pub fault_is : (ts : List TokenTree) (h : HeaderFound) (n k : ℕ) → header ts ≡ Some h → n ≡ length ts → items n 0 (held_of h.nets [] h.rest) ≡ Err k
    → read_module ts ≡ Err (ItemFault k)
fault_is ts h n k head many here =
    ap (from_header (length ts)) head ∙ ap (λ m. from_items h.name (items m 0 (held_of h.nets [] h.rest))) (sym many) ∙ ap (from_items h.name) here

pub syntax_is : {Y : Type 0} (e : ReadFault) (read : Option Y) → e ≡ Syntax → Fails e read → read ≡ None
syntax_is e read is h = subst (λ f. Fails f read) is h
