-- A text is cut into given pieces by computation.
use Rattle.std.proofs.Common.{◌≡◌, ℕ, List, [], ◌∷◌, ◌++◌, length, drop, Bool, true, false, Option, Some, None, refl, sym, ap, ◌∙◌, subst, append_assoc, inl, inr, nat_eq}
use Rattle.std.specs.Prelude.{is_none, ◌&&◌, ◌||◌, IsSome, if◌then◌else◌}
use Rattle.std.specs.List.{starts_with}
use Rattle.std.proofs.lemmas.Bool.{and_parts, or_cases}
use Rattle.std.proofs.lemmas.Bool.Decides.{Decides-eqb}
use Rattle.std.proofs.lemmas.Slice.Eq.{starts_is}
use Rattle.ae_vtoken.specs.Tokens.{TokenTree, after_gap, Between, token_of, IsLongest, AreTokens, No_more, Then}
use Rattle.ae_vtoken.proofs.TokenLemmas.{is_lone, ends_before_lone}

-- no longer piece is a token, looked for up to a byte with which no token goes on
abbrev pub is_longest : List ℕ → List ℕ → Bool
is_longest piece [] = true
is_longest piece (c ∷ rest) = is_lone c || (is_none (token_of (piece ++ c ∷ [])) && is_longest (piece ++ c ∷ []) rest)

none_some : {X : Type 0} (o : Option X) → is_none o ≡ true → IsSome o → ⊥
none_some None h k = cc
none_some (Some x) h k = cc

pub longest_from : (rest : List ℕ) (b : ℕ) (piece : List ℕ) → is_longest (b ∷ piece) rest ≡ true → IsLongest (b ∷ piece) rest
longest_from rest b piece h [] after e some = refl
longest_from [] b piece h (d ∷ more) after e some = cc
longest_from (c ∷ rest) b piece h (d ∷ more) after e some =
    let same : c ≡ d = cc in
    let later : rest ≡ more ++ after = cc in
    elim (or_cases (is_lone c) _ h) [
      | inl lone ↦ ends_before_lone b piece c rest lone (d ∷ more) after e some
      | inr go ↦
          let parts = and_parts _ _ go in
          let there = subst (λ l. IsSome (token_of l)) (ap (λ x. (b ∷ piece) ++ x ∷ more) (sym same) ∙ sym (append_assoc (b ∷ piece) (c ∷ []) more)) some in
          let none : more ≡ [] = longest_from rest b (piece ++ c ∷ []) parts.1 more after later there in
          absurd (none_some _ parts.0 (subst (λ l. IsSome (token_of ((b ∷ piece) ++ l))) (ap (λ l. d ∷ l) none ∙ ap (λ x. x ∷ []) (sym same)) some))
    ]

abbrev pub ended : List ℕ → Option (List TokenTree)
ended [] = Some []
ended (b ∷ bs) = None

abbrev pub joined : Option TokenTree → Option (List TokenTree) → Option (List TokenTree)
joined (Some t) (Some ts) = Some (t ∷ ts)
joined _ _ = None

-- the tokens of a text that is these pieces with gaps between
abbrev pub scan : List (List ℕ) → List ℕ → Option (List TokenTree)
scan [] text = ended (after_gap Between text)
scan (p ∷ ps) text =
    if starts_with nat_eq (after_gap Between text) p && is_longest p (drop (length p) (after_gap Between text))
    then joined (token_of p) (scan ps (drop (length p) (after_gap Between text)))
    else None

ended_none : (text : List ℕ) (ts : List TokenTree) → ended text ≡ Some ts → (text ≡ []) × (ts ≡ [])
ended_none [] ts e = (refl, (let e' : [] ≡ ts = cc in sym e'))
ended_none (b ∷ bs) ts e = cc

pub record AreJoined (t : Option TokenTree) (us : Option (List TokenTree)) (ts : List TokenTree) : Type 0 where
  pub first : TokenTree
  pub more : List TokenTree
  pub found : t ≡ Some first
  pub later : us ≡ Some more
  pub whole : first ∷ more ≡ ts

joined_parts : (t : Option TokenTree) (us : Option (List TokenTree)) (ts : List TokenTree) → joined t us ≡ Some ts → AreJoined t us ts
joined_parts (Some t) (Some us) ts e = record { first = t; more = us; found = refl; later = refl; whole = (let e' : t ∷ us ≡ ts = cc in e') }
joined_parts (Some t) None ts e = cc
joined_parts None us ts e = cc

cond_then : {X : Type 0} (b : Bool) (o : Option X) (x : X) → (if b then o else None) ≡ Some x → (b ≡ true) × (o ≡ Some x)
cond_then true o x e = (refl, e)
cond_then false o x e = cc

no_piece : (t : TokenTree) → token_of [] ≡ Some t → ⊥
unfolding token_of
no_piece t e = cc

longest_piece : (p rest : List ℕ) (t : TokenTree) → token_of p ≡ Some t → is_longest p rest ≡ true → IsLongest p rest
longest_piece [] rest t e h = absurd (no_piece t e)
longest_piece (b ∷ bs) rest t e h = longest_from rest b bs h

pub scanned : (ps : List (List ℕ)) (text : List ℕ) (ts : List TokenTree) → scan ps text ≡ Some ts → AreTokens text ts
scanned [] text ts e =
    let none = ended_none _ ts e in
    subst (AreTokens text) (sym none.1) (No_more text none.0)
scanned (p ∷ ps) text ts e =
    let test = cond_then _ _ _ e in
    let parts = and_parts _ _ test.0 in
    let both = joined_parts _ _ ts test.1 in
    let front = (starts_is Decides-eqb (after_gap Between text) p _ refl).0 parts.0 in
    subst (AreTokens text) both.whole
    (Then text p (drop (length p) (after_gap Between text)) both.first both.more
    (record { parts = front; token = both.found; longest = longest_piece p _ both.first both.found parts.1 })
    (scanned ps _ both.more both.later))
