-- From what reading the tokens gives to what a text spells.
use Rattle.std.proofs.Common.{◌≡◌, ℕ, List, Result, Ok, Err, refl, sym, ap, ◌∙◌, subst}
use Rattle.std.specs.Prelude.{IfOk}
use Rattle.ae_vtoken.specs.Tokens.{TokenTree, AreTokens}
use Rattle.ae_vmodule.specs.ModuleTree.{ModuleTree}
use Rattle.ae_vread.specs.Forms.{module_tokens}
use Rattle.ae_vread.specs.Spells.{Spells}
use Rattle.ae_vmodule.specs.View.{module_tree}
use Rattle.ae_vread.specs.ItemReading.{TreeFault, HeaderFault, ItemFault, read_module}
use Rattle.ae_vread.specs.ReadModule.{GivesRead}
use Rattle.ae_vread.specs.Refusals.{HasFault, FaultHolds, GivesModule, GivesFault}
use Rattle.ae_vmodule.specs.declared.module.VModule.{VModule}
use Rattle.ae_vread.specs.declared.reader.VFault.{VFault}
use Rattle.ae_vread.specs.declared.reader.VFault.TheVariants.{BadToken, BadHeader, BadItem, Memory}
use Rattle.ae_vtoken.proofs.OneList.{one_list, not_both}
use Rattle.ae_vread.proofs.ModuleLaws.{IsModule, ModuleMeans, module_means, module_again, bad_header_again, bad_item_again}

abbrev Answer : Type 0
Answer = Result VModule VFault

means_at : (ts : List TokenTree) (r : Result ModuleTree TreeFault) → read_module ts ≡ r → ModuleMeans ts r
means_at ts r e = subst (ModuleMeans ts) e (module_means ts)

pub spelled_of : (text : List ℕ) (ts : List TokenTree) (r : Answer) → AreTokens text ts → GivesRead r (read_module ts)
    → IfOk r (λ m. Spells text (module_tree m))
spelled_of text ts (Ok m) are gives =
    let is : IsModule ts (module_tree m) = means_at ts (Ok (module_tree m)) gives in
    record { form = is.form; formed = is.formed; written = subst (AreTokens text) is.whole are; tree = is.tree }
spelled_of text ts (Err e) are gives = tt

pub fault_of : (text : List ℕ) (ts : List TokenTree) (r : Answer) → AreTokens text ts → GivesRead r (read_module ts) → FaultHolds text r
fault_of text ts (Ok m) are gives = tt
fault_of text ts (Err Memory) are gives = tt
fault_of text ts (Err BadHeader) are gives = (ts, are, means_at ts (Err HeaderFault) gives)
fault_of text ts (Err (BadItem k)) are gives = (ts, are, means_at ts (Err (ItemFault k)) gives)
fault_of text ts (Err (BadToken at)) are gives = absurd gives

pub spelled_read : (text : List ℕ) (ts : List TokenTree) (m : ModuleTree) → AreTokens text ts → Spells text m → read_module ts ≡ Ok m
spelled_read text ts m are s = ap read_module (one_list ts (module_tokens s.form) text text refl are s.written) ∙ module_again s.form s.formed ∙ ap Ok s.tree

pub every_module_of : (text : List ℕ) (ts : List TokenTree) (r : Answer) → AreTokens text ts → GivesRead r (read_module ts) → (m : ModuleTree) → Spells text m
    → GivesModule m r
every_module_of text ts (Ok x) are gives m s = let e : Ok (module_tree x) ≡ Ok m = sym gives ∙ spelled_read text ts m are s in cc
every_module_of text ts (Err Memory) are gives m s = tt
every_module_of text ts (Err BadHeader) are gives m s = let e : Err HeaderFault ≡ Ok m = sym gives ∙ spelled_read text ts m are s in cc
every_module_of text ts (Err (BadItem k)) are gives m s = let e : Err (ItemFault k) ≡ Ok m = sym gives ∙ spelled_read text ts m are s in cc
every_module_of text ts (Err (BadToken at)) are gives m s = absurd gives

-- an answer, where the tokens leave the grammar at one place
header_fault : (r : Answer) (read : Result ModuleTree TreeFault) → GivesRead r read → read ≡ Err HeaderFault → GivesFault BadHeader r
header_fault (Ok m) read gives e = let e' : Ok (module_tree m) ≡ Err HeaderFault = sym gives ∙ e in cc
header_fault (Err Memory) read gives e = tt
header_fault (Err BadHeader) read gives e = refl
header_fault (Err (BadItem k)) read gives e =
    absurd (let e' : Err (ItemFault k) ≡ Err HeaderFault = sym gives ∙ e in let e'' : ItemFault k ≡ HeaderFault = cc in no_header k e'')
  where
    no_header : (k : ℕ) → ItemFault k ≡ HeaderFault → ⊥
    no_header k e = cc
header_fault (Err (BadToken at)) read gives e = absurd gives

item_fault : (r : Answer) (read : Result ModuleTree TreeFault) (k : ℕ) → GivesRead r read → read ≡ Err (ItemFault k) → GivesFault (BadItem k) r
item_fault (Ok m) read k gives e = let e' : Ok (module_tree m) ≡ Err (ItemFault k) = sym gives ∙ e in cc
item_fault (Err Memory) read k gives e = tt
item_fault (Err BadHeader) read k gives e =
    absurd (let e' : Err HeaderFault ≡ Err (ItemFault k) = sym gives ∙ e in let e'' : HeaderFault ≡ ItemFault k = cc in no_item k e'')
  where
    no_item : (k : ℕ) → HeaderFault ≡ ItemFault k → ⊥
    no_item k e = cc
item_fault (Err (BadItem j)) read k gives e =
    let e' : Err (ItemFault j) ≡ Err (ItemFault k) = sym gives ∙ e in
    let same : j ≡ k = let e'' : ItemFault j ≡ ItemFault k = cc in cc in
    ap BadItem (sym same)
item_fault (Err (BadToken at)) read k gives e = absurd gives

pub every_fault_of : (text : List ℕ) (ts : List TokenTree) (r : Answer) → AreTokens text ts → GivesRead r (read_module ts) → (e : VFault) → HasFault text e
    → GivesFault e r
every_fault_of text ts r are gives (BadToken at) has = absurd (not_both text ts at are has)
every_fault_of text ts r are gives BadHeader has =
    header_fault r (read_module ts) gives (ap read_module (one_list ts has.0 text text refl are has.1) ∙ bad_header_again has.0 has.2)
every_fault_of text ts r are gives (BadItem k) has =
    item_fault r (read_module ts) k gives (ap read_module (one_list ts has.0 text text refl are has.1) ∙ bad_item_again has.0 k has.2)
every_fault_of text ts r are gives Memory has = absurd has
