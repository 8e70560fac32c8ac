-- Where the tokens of a text leave the grammar.
use Rattle.std.specs.Prelude.{◌≡◌, ℕ, List, [], ◌∷◌, ◌++◌, true, length}
use Rattle.ae_vtoken.specs.Tokens.{TokenTree, Name, Word, Mark}
use Rattle.ae_vread.specs.StmtForms.{is_open}
use Rattle.ae_vread.specs.Forms.{PortForm, port_tokens, comma_tokens, ItemForm, WireItem, WireDrives, RegItem, AssignItem, AlwaysItem, item_tokens, IsItem}
use Rattle.ae_vtoken.specs.declared.token.Key.TheVariants.{Module, EndModule, Else}
use Rattle.ae_vtoken.specs.declared.token.Sign.TheVariants.{Open, Close, Semicolon}

-- what stands behind an item is no `else` that would be a part of it
abbrev pub IsApart : ItemForm → List TokenTree → Type 0
IsApart (WireItem range first more) rest = Unit {0}
IsApart (WireDrives range first more) rest = Unit {0}
IsApart (RegItem range first more) rest = Unit {0}
IsApart (AssignItem first more) rest = Unit {0}
IsApart (AlwaysItem clock body) rest = is_open body ≡ true → (more : List TokenTree) → rest ≡ Word Else ∷ more → ⊥

-- the tokens are this item and the rest
pub record IsItemOf (f : ItemForm) (ts rest : List TokenTree) : Type 0 where
  pub is : IsItem f
  pub apart : IsApart f rest
  pub whole : ts ≡ item_tokens f ++ rest

-- the tokens are these items and the rest
pub data AreItems : List ItemForm → List TokenTree → List TokenTree → Type 0 where
  No_item : (ts : List TokenTree) → AreItems [] ts ts
  Item : (f : ItemForm) (fs : List ItemForm) (ts more rest : List TokenTree) → IsItemOf f ts more
      → AreItems fs more rest → AreItems (f ∷ fs) ts rest

abbrev pub header_tokens : List ℕ → PortForm → List PortForm → List TokenTree
header_tokens n first more =
    Word Module ∷ Name n ∷ Mark Open ∷ (port_tokens first
    ++ (comma_tokens port_tokens more ++ Mark Close ∷ Mark Semicolon ∷ []))

-- the tokens do not begin with a header
abbrev pub IsBadHeader : List TokenTree → Type 0
IsBadHeader ts =
    (n : List ℕ) (first : PortForm) (more : List PortForm) (rest : List TokenTree) → ts ≡ header_tokens n first more
    ++ rest → ⊥

-- a header and k items are there, and then neither an item nor an `endmodule` that is the last token
pub record IsBadItem (ts : List TokenTree) (k : ℕ) : Type 0 where
  pub name : List ℕ
  pub first : PortForm
  pub more : List PortForm
  pub behind : List TokenTree
  pub header : ts ≡ header_tokens name first more ++ behind
  pub forms : List ItemForm
  pub rest : List TokenTree
  pub items : AreItems forms behind rest
  pub number : length forms ≡ k
  pub no_item : (f : ItemForm) (more : List TokenTree) → IsItemOf f rest more → ⊥
  pub not_last : rest ≡ Word EndModule ∷ [] → ⊥
