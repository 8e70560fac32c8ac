-- A text has one list of tokens or one first bad byte, and not both.
use Rattle.std.proofs.Common.{◌≡◌, ℕ, ◌+◌, ◌-◌, List, [], ◌∷◌, ◌++◌, length, Option, Some, None, refl, sym, ap, ◌∙◌, subst, arith, append-nil, ◌⊎◌, inl, inr, drop, length-drop}
use Rattle.std.specs.Prelude.{IsSome}
use Rattle.ae_vtoken.specs.Tokens.{TokenTree, after_gap, Between, token_of, IsLongest, NoToken, BeginsWith, AreTokens, No_more, Then, Stuck, Here, Later, IsBadToken}

-- of two fronts of one list, one is a front of the other
abbrev Longer : List ℕ → List ℕ → List ℕ → List ℕ → Type 0
Longer p r q s = (more : List ℕ) × (p ++ more ≡ q) × (r ≡ more ++ s)

fronts : (p r q s : List ℕ) → p ++ r ≡ q ++ s → Longer p r q s ⊎ Longer q s p r
fronts [] r q s e = inl (q, refl, e)
fronts (x ∷ p) r [] s e = inr (x ∷ p, refl, sym e)
fronts (x ∷ p) r (y ∷ q) s e =
    let heads : x ≡ y = cc in
    let tails : p ++ r ≡ q ++ s = cc in
    elim (fronts p r q s tails) [
      | inl l ↦ inl (l.0, (λ i. heads i ∷ l.1 i), l.2)
      | inr l ↦ inr (l.0, (λ i. sym heads i ∷ l.1 i), l.2)
    ]

some_from : {X : Type 0} (o : Option X) (x : X) → o ≡ Some x → IsSome o
some_from o x e = subst IsSome (sym e) refl

-- the longest token at a place is one
longer_is_same : (p r q s : List ℕ) (t : TokenTree) → IsLongest p r → token_of q ≡ Some t → Longer p r q s → p ≡ q
longer_is_same p r q s t longest h l =
    let none = longest l.0 s l.2 (some_from (token_of (p ++ l.0)) t (ap token_of l.1 ∙ h)) in
    sym (append-nil p) ∙ ap (λ m. p ++ m) (sym none) ∙ l.1

pub one_longest : (p r q s : List ℕ) (t u : TokenTree) → token_of p ≡ Some t → token_of q ≡ Some u → IsLongest p r → IsLongest q s → p ++ r ≡ q ++ s → p ≡ q
one_longest p r q s t u hp hq lp lq e = elim (fronts p r q s e) [
  | inl l ↦ longer_is_same p r q s u lp hq l
  | inr l ↦ sym (longer_is_same q s p r t lq hp l)
]

cancel : (p r s : List ℕ) → p ++ r ≡ p ++ s → r ≡ s
cancel [] r s e = e
cancel (x ∷ p) r s e = cancel p r s (let e' : p ++ r ≡ p ++ s = cc in e')

-- two ways to begin a text are one
one_beginning : (text p r q s : List ℕ) (t u : TokenTree) → BeginsWith text p r t → BeginsWith text q s u → (t ≡ u) × (r ≡ s)
one_beginning text p r q s t u one two =
    let whole = sym one.parts ∙ two.parts in
    let piece = one_longest p r q s t u one.token two.token one.longest two.longest whole in
    let tokens : Some t ≡ Some u = sym one.token ∙ ap token_of piece ∙ two.token in
    let token : t ≡ u = cc in
    (token, cancel p r s (whole ∙ ap (λ l. l ++ s) (sym piece)))

-- what begins with a token isn't empty
token_piece : (p : List ℕ) (t : TokenTree) → token_of p ≡ Some t → p ≡ [] → ⊥
unfolding token_of
token_piece [] t h e = cc
token_piece (b ∷ bs) t h e = cc

no_empty_beginning : (text p r : List ℕ) (t : TokenTree) → BeginsWith text p r t → after_gap Between text ≡ [] → ⊥
no_empty_beginning text [] r t begins e = token_piece [] t begins.token refl
no_empty_beginning text (b ∷ p) r t begins e = let h : (b ∷ p) ++ r ≡ [] = sym begins.parts ∙ e in cc

-- a text has one list of tokens
pub one_list : (ts us : List TokenTree) (text other : List ℕ) → text ≡ other → AreTokens text ts → AreTokens other us → ts ≡ us
one_list _ _ text other same (No_more a h) (No_more b k) = refl
one_list _ _ text other same (No_more a h) (Then b p r t us begins k) = absurd (no_empty_beginning b p r t begins (ap (after_gap Between) (sym same) ∙ h))
one_list _ _ text other same (Then a p r t ts begins h) (No_more b k) = absurd (no_empty_beginning a p r t begins (ap (after_gap Between) same ∙ k))
one_list _ _ text other same (Then a p r t ts begins h) (Then b q s u us begins' k) =
    let both = one_beginning b p r q s t u (subst (λ text. BeginsWith text p r t) same begins) begins' in
    λ i. both.0 i ∷ one_list ts us r s both.1 h k i

-- a text with tokens has no bad byte
no_token_there : (b : ℕ) (bs piece rest text : List ℕ) (t : TokenTree) → after_gap Between text ≡ b ∷ bs → NoToken (b ∷ bs) → BeginsWith text piece rest t → ⊥
no_token_there b bs piece rest text t gap none begins =
    let e : None ≡ Some t = sym (none piece rest (sym gap ∙ begins.parts)) ∙ begins.token in
    cc

not_both_at : (ts : List TokenTree) (bad text other : List ℕ) → text ≡ other → AreTokens text ts → Stuck other bad → ⊥
not_both_at _ _ text other same (No_more a h) (Here o b bs gap none) = let e : [] ≡ b ∷ bs = sym h ∙ ap (after_gap Between) same ∙ gap in cc
not_both_at _ _ text other same (No_more a h) (Later o piece rest bad t begins k) =
    no_empty_beginning o piece rest t begins (ap (after_gap Between) (sym same) ∙ h)
not_both_at _ _ text other same (Then a p r t ts begins h) (Here o b bs gap none) = no_token_there b bs p r a t (ap (after_gap Between) same ∙ gap) none begins
not_both_at _ _ text other same (Then a p r t ts begins h) (Later o q s bad u begins' k) =
    let both = one_beginning o p r q s t u (subst (λ text. BeginsWith text p r t) same begins) begins' in
    not_both_at ts bad r s both.1 h k

pub not_both : (text : List ℕ) (ts : List TokenTree) (at : ℕ) → AreTokens text ts → IsBadToken text at → ⊥
not_both text ts at h bad = not_both_at ts (drop at text) text text refl h bad.stuck

-- and one bad byte
one_stuck : (bad worse text other : List ℕ) → text ≡ other → Stuck text bad → Stuck other worse → bad ≡ worse
one_stuck _ _ text other same (Here a b bs gap none) (Here o c cs gap' none') = sym gap ∙ ap (after_gap Between) same ∙ gap'
one_stuck _ _ text other same (Here a b bs gap none) (Later o p r worse t begins k) =
    absurd (no_token_there b bs p r o t (ap (after_gap Between) (sym same) ∙ gap) none begins)
one_stuck _ _ text other same (Later a p r bad t begins h) (Here o b bs gap none) =
    absurd (no_token_there b bs p r a t (ap (after_gap Between) same ∙ gap) none begins)
one_stuck _ _ text other same (Later a p r bad t begins h) (Later o q s worse u begins' k) =
    let both = one_beginning o p r q s t u (subst (λ text. BeginsWith text p r t) same begins) begins' in
    one_stuck bad worse r s both.1 h k

pub one_place : (text : List ℕ) (at other : ℕ) → IsBadToken text at → IsBadToken text other → at ≡ other
one_place text at other h k =
    let same = ap length (one_stuck (drop at text) (drop other text) text text refl h.stuck k.stuck) in
    let size : length text - at ≡ length text - other = sym (length-drop at text) ∙ same ∙ length-drop other text in
    omega (arith, size, h.within, k.within)
