-- A list of tokens is one module, or leaves the grammar at one place.
use Rattle.std.proofs.Common.{◌≡◌, ℕ, zero, suc, ◌+◌, ◌<◌, ◌≤◌, List, [], ◌∷◌, ◌++◌, length, length-append, true, false, Option, Some, None, Result, Ok, Err, refl, sym, ap, ◌∙◌, arith, append_assoc, append-nil, map}
use Rattle.std.specs.List.{flat_map, AllByRecursion}
use Rattle.ae_vtoken.specs.Tokens.{TokenTree, Name, Word, Mark}
use Rattle.ae_vmodule.specs.ModuleTree.{ModuleTree}
use Rattle.ae_vread.specs.Forms.{PortForm, port_tokens, port_nets, comma_tokens, ItemForm, WireItem, WireDrives, RegItem, AssignItem, AlwaysItem, item_tokens, item_nets, nets_from, item_of, IsItem, ModuleForm, module_tokens, module_of}
use Rattle.ae_vread.specs.TokenTests.{after_word}
use Rattle.ae_vread.specs.ItemReading.{ItemFound, item_found, item_at, HeaderFound, header_found, header, is_last, Held, held_of, with_item, finished, by_item, items, TreeFault, HeaderFault, ItemFault, from_items, from_header, read_module}
use Rattle.ae_vread.specs.Places.{IsApart, IsItemOf, AreItems, No_item, Item, header_tokens, IsBadHeader, IsBadItem}
use Rattle.ae_vtoken.specs.declared.token.Key.TheVariants.{Module, EndModule, Else}
use Rattle.ae_vtoken.specs.declared.token.Sign.TheVariants.{Open, Close, Semicolon}
use Rattle.ae_vread.proofs.TokenFronts.{word_was}
use Rattle.ae_vread.proofs.ItemAgain.{header_again, item_again}
use Rattle.ae_vread.proofs.ItemSound.{IsHeader, header_was, IsItemRead, item_was}

abbrev Last : List TokenTree → Type 0
Last ts = ts ≡ Word EndModule ∷ []

abbrev NoItem : List TokenTree → Type 0
NoItem ts = (f : ItemForm) (more : List TokenTree) → IsItemOf f ts more → ⊥

-- where the last token is looked for

last_there : (ts : List TokenTree) → Last ts → is_last ts (after_word EndModule ts) ≡ true
last_there ts e = ap (λ ts. is_last ts (after_word EndModule ts)) e

pub last_from : (ts : List TokenTree) (o : Option (List TokenTree)) → after_word EndModule ts ≡ o → is_last ts o ≡ true → Last ts
last_from ts None is h = absurd (let e : false ≡ true = h in cc)
last_from ts (Some []) is h = word_was EndModule ts [] is
last_from ts (Some (u ∷ us)) is h = absurd (let e : false ≡ true = h in cc)

pub no_item_last : (k : ℕ) (ts : List TokenTree) → Last ts → item_at k ts ≡ None
no_item_last k ts e = ap (item_at k) e

item_again_at : (f : ItemForm) (k : ℕ) (ts more : List TokenTree) → IsItemOf f ts more → item_at k ts ≡ Some (item_found (item_nets k f) (item_of f) more)
item_again_at f k ts more is = ap (item_at k) is.whole ∙ item_again f k more is.is is.apart

no_item_read : (k : ℕ) (ts : List TokenTree) → NoItem ts → item_at k ts ≡ None
no_item_read k ts none = elim (item_at k ts) as (λ o. item_at k ts ≡ o → o ≡ None) [
  | None ↦ λ e. refl
  | Some x ↦ λ e. let item : IsItemRead k ts x = item_was k ts x e in absurd (none item.form x.rest item.is)
] refl

pub some_tokens : (f : ItemForm) → 1 ≤ length (item_tokens f)
some_tokens (WireItem r n ns) = omega arith
some_tokens (WireDrives r d ds) = omega arith
some_tokens (RegItem r first more) = omega arith
some_tokens (AssignItem d ds) = omega arith
some_tokens (AlwaysItem clock body) = omega arith

-- what the items in front make of what was read before
abbrev grown : ℕ → Held → List ItemForm → List TokenTree → Held
grown k h fs rest = held_of (h.nets ++ nets_from (k + 1) fs) (h.items ++ map item_of fs) rest

item_next : (k : ℕ) (h : Held) (f : ItemForm) (fs : List ItemForm) (more rest : List TokenTree)
    → grown (k + 1) (with_item h (item_found (item_nets (k + 1) f) (item_of f) more)) fs rest ≡ grown k h (f ∷ fs) rest
item_next k h f fs more rest =
    λ i. held_of (append_assoc h.nets (item_nets (k + 1) f) (nets_from (k + 1 + 1) fs) i) (append_assoc h.items (item_of f ∷ []) (map item_of fs) i) rest

items_again : (fs : List ItemForm) (n k : ℕ) (h : Held) (ts rest : List TokenTree) → h.rest ≡ ts → length fs < n → AreItems fs ts rest → Last rest
    → items n k h ≡ Ok (grown k h fs rest)
items_again _ zero k h ts rest here few are last = absurd (omega arith)
items_again _ (suc n) k h ts _ here few (No_item rest) last =
    ap (by_item (items n) k h) (ap (item_at (k + 1)) here ∙ no_item_last (k + 1) rest last)
    ∙ ap (finished k h) (ap (λ ts. is_last ts (after_word EndModule ts)) here ∙ last_there rest last)
    ∙ ap Ok (sym (λ i. held_of (append-nil h.nets i) (append-nil h.items i) (sym here i)))
items_again _ (suc n) k h _ rest here few (Item f fs ts more rest' is are) last =
    ap (by_item (items n) k h) (ap (item_at (k + 1)) here ∙ item_again_at f (k + 1) ts more is)
    ∙ items_again fs n (k + 1) (with_item h (item_found (item_nets (k + 1) f) (item_of f) more)) more rest refl (omega arith) are last
    ∙ ap Ok (item_next k h f fs more rest)

items_stop : (fs : List ItemForm) (n k : ℕ) (h : Held) (ts rest : List TokenTree) → h.rest ≡ ts → length fs < n → AreItems fs ts rest → NoItem rest
    → (Last rest → ⊥) → items n k h ≡ Err (k + length fs)
items_stop _ zero k h ts rest here few are none not_last = absurd (omega arith)
items_stop _ (suc n) k h ts _ here few (No_item rest) none not_last =
    ap (by_item (items n) k h) (ap (item_at (k + 1)) here ∙ no_item_read (k + 1) rest none)
    ∙ ap (finished k h) (ap (λ ts. is_last ts (after_word EndModule ts)) here ∙ no_last)
    ∙ ap Err (let e : k ≡ k + 0 = omega arith in e)
  where
    no_last : is_last rest (after_word EndModule rest) ≡ false
    no_last = elim (is_last rest (after_word EndModule rest)) as (λ b. is_last rest (after_word EndModule rest) ≡ b → b ≡ false) [
      | true ↦ λ e. absurd (not_last (last_from rest (after_word EndModule rest) refl e))
      | false ↦ λ e. refl
    ] refl
items_stop _ (suc n) k h _ rest here few (Item f fs ts more rest' is are) none not_last =
    ap (by_item (items n) k h) (ap (item_at (k + 1)) here ∙ item_again_at f (k + 1) ts more is)
    ∙ items_stop fs n (k + 1) (with_item h (item_found (item_nets (k + 1) f) (item_of f) more)) more rest refl (omega arith) are none not_last
    ∙ ap Err (let e : k + 1 + length fs ≡ k + length (f ∷ fs) = omega arith in e)

-- what an answer of the loop means
record IsAll (k : ℕ) (h q : Held) : Type 0 where
  forms : List ItemForm
  are : AreItems forms h.rest q.rest
  last : Last q.rest
  nets : q.nets ≡ h.nets ++ nets_from (k + 1) forms
  items : q.items ≡ h.items ++ map item_of forms

record Stops (k j : ℕ) (h : Held) : Type 0 where
  forms : List ItemForm
  rest : List TokenTree
  are : AreItems forms h.rest rest
  number : k + length forms ≡ j
  no_item : NoItem rest
  not_last : Last rest → ⊥

abbrev Means : ℕ → Held → Result Held ℕ → Type 0
Means k h (Ok q) = IsAll k h q
Means k h (Err j) = Stops k j h

items_step : (k : ℕ) (h : Held) (x : ItemFound) (r : Result Held ℕ) → IsItemRead (k + 1) h.rest x → Means (k + 1) (with_item h x) r → Means k h r
items_step k h x (Ok q) item all = record {
  forms = item.form ∷ all.forms;
  are = Item item.form all.forms h.rest x.rest q.rest item.is all.are;
  last = all.last;
  nets = all.nets ∙ append_assoc h.nets x.nets (nets_from (k + 1 + 1) all.forms) ∙ ap (λ l. h.nets ++ (l ++ nets_from (k + 1 + 1) all.forms)) (sym item.nets);
  items = all.items ∙ append_assoc h.items (x.item ∷ []) (map item_of all.forms) ∙ ap (λ t. h.items ++ t ∷ map item_of all.forms) (sym item.item);
}
items_step k h x (Err j) item stops = record {
  forms = item.form ∷ stops.forms;
  rest = stops.rest;
  are = Item item.form stops.forms h.rest x.rest stops.rest item.is stops.are;
  number = (let e = stops.number in omega arith);
  no_item = stops.no_item;
  not_last = stops.not_last;
}

items_mean : (n k : ℕ) (h : Held) → length h.rest < n → Means k h (items n k h)
items_mean zero k h few = absurd (omega arith)
items_mean (suc n) k h few = elim (item_at (k + 1) h.rest) as (λ o. item_at (k + 1) h.rest ≡ o → Means k h (by_item (items n) k h o)) [
  | None ↦ λ none. elim (is_last h.rest (after_word EndModule h.rest)) as (λ b. is_last h.rest (after_word EndModule h.rest) ≡ b → Means k h (finished k h b)) [
    | true ↦ λ last. record {
      forms = [];
      are = No_item h.rest;
      last = last_from h.rest (after_word EndModule h.rest) refl last;
      nets = sym (append-nil h.nets);
      items = sym (append-nil h.items);
    }
    | false ↦ λ not_last. record {
      forms = [];
      rest = h.rest;
      are = No_item h.rest;
      number = omega arith;
      no_item = λ f more is. let e : None ≡ Some (item_found (item_nets (k + 1) f) (item_of f) more) = sym none ∙ item_again_at f (k + 1) h.rest more is in cc;
      not_last = λ last. let e : false ≡ true = sym not_last ∙ last_there h.rest last in cc;
    }
  ] refl
  | Some x ↦ λ found.
      let item : IsItemRead (k + 1) h.rest x = item_was (k + 1) h.rest x found in
      let shorter : length x.rest < n = omega (arith, some_tokens item.form, ap length item.is.whole, length-append (item_tokens item.form) x.rest) in
      items_step k h x (items n (k + 1) (with_item h x)) item (items_mean n (k + 1) (with_item h x) shorter)
] refl

-- the items up to the end of a text

no_else : (fs : List ItemForm) (more : List TokenTree) → flat_map item_tokens fs ++ Word EndModule ∷ [] ≡ Word Else ∷ more → ⊥
no_else fs more e = let h : None ≡ Some more = sym (front fs) ∙ ap (after_word Else) e in cc
  where
    front : (fs : List ItemForm) → after_word Else (flat_map item_tokens fs ++ Word EndModule ∷ []) ≡ None
    front [] = refl
    front (WireItem r n ns ∷ fs) = refl
    front (WireDrives r d ds ∷ fs) = refl
    front (RegItem r first more ∷ fs) = refl
    front (AssignItem d ds ∷ fs) = refl
    front (AlwaysItem clock body ∷ fs) = refl

apart_end : (f : ItemForm) (fs : List ItemForm) → IsApart f (flat_map item_tokens fs ++ Word EndModule ∷ [])
apart_end (WireItem r n ns) fs = tt
apart_end (WireDrives r d ds) fs = tt
apart_end (RegItem r first more) fs = tt
apart_end (AssignItem d ds) fs = tt
apart_end (AlwaysItem clock body) fs = λ is more e. no_else fs more e

written_items : (fs : List ItemForm) → AllByRecursion IsItem fs → AreItems fs (flat_map item_tokens fs ++ Word EndModule ∷ []) (Word EndModule ∷ [])
written_items [] fits = No_item _
written_items (f ∷ fs) fits =
    Item f fs _ (flat_map item_tokens fs ++ Word EndModule ∷ []) _
    (record { is = fits.0; apart = apart_end f fs; whole = append_assoc (item_tokens f) (flat_map item_tokens fs) (Word EndModule ∷ []) })
    (written_items fs fits.1)

items_written : (fs : List ItemForm) (ts rest : List TokenTree) → AreItems fs ts rest → Last rest → AllByRecursion IsItem fs
    × (ts ≡ flat_map item_tokens fs ++ Word EndModule ∷ [])
items_written _ ts _ (No_item rest) last = (tt, last)
items_written _ _ rest (Item f fs ts more rest' is are) last =
    let more_written = items_written fs more rest are last in (
      (is.is, more_written.0),
      is.whole ∙ ap (λ l. item_tokens f ++ l) more_written.1 ∙
          sym (append_assoc (item_tokens f) (flat_map item_tokens fs) (Word EndModule ∷ [])),
    )

item_count : (fs : List ItemForm) (ts rest : List TokenTree) → AreItems fs ts rest → length fs ≤ length ts
item_count _ ts _ (No_item rest) = omega arith
item_count _ _ rest (Item f fs ts more rest' is are) =
    omega (arith, item_count fs more rest are, some_tokens f, ap length is.whole, length-append (item_tokens f) more)

-- the whole

whole_tokens : (m : ModuleForm) → module_tokens m ≡ header_tokens m.name m.first m.more ++ (flat_map item_tokens m.items ++ Word EndModule ∷ [])
whole_tokens m =
    let rest : List TokenTree = flat_map item_tokens m.items ++ Word EndModule ∷ [] in
    sym (ap (λ l. Word Module ∷ Name m.name ∷ Mark Open ∷ l)
    (append_assoc (port_tokens m.first) (comma_tokens port_tokens m.more ++ Mark Close ∷ Mark Semicolon ∷ []) rest ∙
    ap (λ l. port_tokens m.first ++ l) (append_assoc (comma_tokens port_tokens m.more) (Mark Close ∷ Mark Semicolon ∷ []) rest)))

header_short : (n : List ℕ) (p : PortForm) (ps : List PortForm) (rest ts : List TokenTree) → ts ≡ header_tokens n p ps ++ rest → length rest < length ts
header_short n p ps rest ts e = omega (arith, ap length e, length-append (header_tokens n p ps) rest)

pub module_again : (m : ModuleForm) → AllByRecursion IsItem m.items → read_module (module_tokens m) ≡ Ok (module_of m)
module_again m fits =
    let ts : List TokenTree = module_tokens m in
    let rest : List TokenTree = flat_map item_tokens m.items ++ Word EndModule ∷ [] in
    let h : Held = held_of (flat_map port_nets (m.first ∷ m.more)) [] rest in
    let are = written_items m.items fits in
    let short : length rest < length ts = header_short m.name m.first m.more rest ts (whole_tokens m) in
    ap (from_header (length ts)) (ap header (whole_tokens m) ∙ header_again m.name m.first m.more rest)
    ∙ ap (from_items m.name) (items_again m.items (length ts) 0 h rest (Word EndModule ∷ []) refl
    (omega (arith, short, item_count m.items rest (Word EndModule ∷ []) are)) are refl)

pub bad_header_again : (ts : List TokenTree) → IsBadHeader ts → read_module ts ≡ Err HeaderFault
bad_header_again ts bad = elim (header ts) as (λ o. header ts ≡ o → from_header (length ts) o ≡ Err HeaderFault) [
  | None ↦ λ e. refl
  | Some x ↦ λ e. let here : IsHeader ts x = header_was ts x e in absurd (bad x.name here.first here.more x.rest here.whole)
] refl

pub bad_item_again : (ts : List TokenTree) (k : ℕ) → IsBadItem ts k → read_module ts ≡ Err (ItemFault k)
bad_item_again ts k bad =
    let h : Held = held_of (flat_map port_nets (bad.first ∷ bad.more)) [] bad.behind in
    let short : length bad.behind < length ts = header_short bad.name bad.first bad.more bad.behind ts bad.header in
    ap (from_header (length ts)) (ap header bad.header ∙ header_again bad.name bad.first bad.more bad.behind)
    ∙ ap (from_items bad.name) (items_stop bad.forms (length ts) 0 h bad.behind bad.rest refl
    (omega (arith, short, item_count bad.forms bad.behind bad.rest bad.items)) bad.items bad.no_item bad.not_last)
    ∙ ap (λ n. Err (ItemFault n)) (let e : 0 + length bad.forms ≡ length bad.forms = omega arith in e ∙ bad.number)

-- what an answer means
pub record IsModule (ts : List TokenTree) (m : ModuleTree) : Type 0 where
  pub form : ModuleForm
  pub formed : AllByRecursion IsItem form.items
  pub whole : ts ≡ module_tokens form
  pub tree : module_of form ≡ m

abbrev pub ModuleMeans : List TokenTree → Result ModuleTree TreeFault → Type 0
ModuleMeans ts (Ok m) = IsModule ts m
ModuleMeans ts (Err HeaderFault) = IsBadHeader ts
ModuleMeans ts (Err (ItemFault k)) = IsBadItem ts k

from_items_mean : (ts : List TokenTree) (x : HeaderFound) (r : Result Held ℕ) → IsHeader ts x → Means 0 (held_of x.nets [] x.rest) r
    → ModuleMeans ts (from_items x.name r)
from_items_mean ts x (Ok q) here all =
    let form : ModuleForm = record { name = x.name; first = here.first; more = here.more; items = all.forms } in
    let written = items_written all.forms x.rest q.rest all.are all.last in
    record {
      form = form;
      formed = written.0;
      whole = here.whole ∙ ap (λ l. header_tokens x.name here.first here.more ++ l) written.1 ∙ sym (whole_tokens form);
      tree = λ i. record { name = x.name; nets = (ap (λ l. l ++ nets_from 1 all.forms) here.ports ∙ sym all.nets) i; items = sym all.items i };
    }
from_items_mean ts x (Err j) here stops = record {
  name = x.name;
  first = here.first;
  more = here.more;
  behind = x.rest;
  header = here.whole;
  forms = stops.forms;
  rest = stops.rest;
  items = stops.are;
  number = (let e = stops.number in omega arith);
  no_item = stops.no_item;
  not_last = stops.not_last;
}

pub module_means : (ts : List TokenTree) → ModuleMeans ts (read_module ts)
module_means ts = elim (header ts) as (λ o. header ts ≡ o → ModuleMeans ts (from_header (length ts) o)) [
  | None ↦ λ e. λ n first more rest whole. let e' : None ≡ Some (header_found n (flat_map port_nets (first ∷ more)) rest) = sym e ∙ ap header whole ∙
      header_again n first more rest in cc
  | Some x ↦ λ e.
      let here : IsHeader ts x = header_was ts x e in
      from_items_mean ts x (items (length ts) 0 (held_of x.nets [] x.rest)) here
      (items_mean (length ts) 0 (held_of x.nets [] x.rest) (header_short x.name here.first here.more x.rest ts here.whole))
] refl
