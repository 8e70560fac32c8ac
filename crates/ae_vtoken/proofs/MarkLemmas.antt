-- The longest sign at a place.
use Rattle.std.proofs.Common.{◌≡◌, ℕ, ◌+◌, ◌-◌, ◌<◌, ◌≤◌, List, [], ◌∷◌, length, Bool, true, false, Some, None, refl, sym, ap, ◌∙◌, subst, arith, drop, take, get_or, length-drop, inl, inr}
use Rattle.std.specs.Prelude.{nat_le, option_map, bytes_eq}
use Rattle.std.specs.List.{list_all}
use Rattle.std.specs.Char.{is_ascii_digit}
use Rattle.std.proofs.lemmas.List.{drop_more}
use Rattle.std.proofs.lemmas.Bool.{and_parts, cases_Bool, cond-true, cond-false, leb-true, le-leb}
use Rattle.std.proofs.lemmas.Slice.Eq.{bytes_eq-Decides}
use Rattle.ae_vtoken.specs.declared.token.Sign.{Sign}
use Rattle.ae_vtoken.specs.Tokens.{Mark, is_word_start, token_of, look_up, IsLongest, NoToken}
use Rattle.ae_vtoken.specs.Tables.{signs}
use Rattle.ae_vtoken.specs.Scan.{TokenAt, sign_in_front}
use Rattle.ae_vtoken.proofs.DecimalLemmas.{none_some}

pub of_key : {X : Type 0} (q : List ℕ → Bool) (bs : List ℕ) (table : List (List ℕ × X)) (x : X) → look_up bs table ≡ Some x → list_all (λ e. q e.0) table ≡ true
    → q bs ≡ true
of_key q bs [] x h all = cc
of_key q bs (e ∷ es) x h all =
    let parts = and_parts (q e.0) (list_all (λ e. q e.0) es) all in
    elim (cases_Bool (bytes_eq bs e.0)) [
      | inl same ↦ ap q ((bytes_eq-Decides bs e.0).0 same) ∙ parts.0
      | inr other ↦ of_key q bs es x (sym (cond-false _ _ _ other) ∙ h) parts.1
    ]

long_sign : (bs : List ℕ) → 2 < length bs → look_up bs signs ≡ None
unfolding signs
long_sign bs long = elim (look_up bs signs) as (λ o. look_up bs signs ≡ o → o ≡ None) [
  | None ↦ λ e. refl
  | Some s ↦ λ e. absurd (let short = leb-true (length bs) 2 (of_key (λ bs. nat_le (length bs) 2) bs signs s e refl) in omega arith)
] refl

sign_here : (n : ℕ) (text : List ℕ) (s : Sign) → sign_in_front n text ≡ Some s → (n ≤ length text) × (look_up (take n text) signs ≡ Some s)
unfolding sign_in_front
sign_here n text s h = elim (cases_Bool (nat_le n (length text))) [
  | inl within ↦ (leb-true n (length text) within, sym (cond-true _ _ _ within) ∙ h)
  | inr past ↦ absurd (let e : None ≡ Some s = sym (cond-false _ _ _ past) ∙ h in cc)
]

no_sign_here : (n : ℕ) (text : List ℕ) → sign_in_front n text ≡ None → n ≤ length text → look_up (take n text) signs ≡ None
unfolding sign_in_front
no_sign_here n text h within = sym (cond-true _ _ _ (le-leb n (length text) within)) ∙ h

-- neither a letter nor a digit
abbrev pub IsOther : ℕ → Type 0
IsOther b = (is_word_start b ≡ false) × (is_ascii_digit b ≡ false)

sign_token : (b : ℕ) (bs : List ℕ) → IsOther b → token_of (b ∷ bs) ≡ option_map Mark (look_up (b ∷ bs) signs)
unfolding token_of
sign_token b bs other = cond-false _ _ _ other.0 ∙ cond-false _ _ _ other.1

no_token : (b : ℕ) (bs : List ℕ) → IsOther b → look_up (b ∷ bs) signs ≡ None → token_of (b ∷ bs) ≡ None
no_token b bs other h = sign_token b bs other ∙ ap (option_map Mark) h

two_longest : (b c : ℕ) (rest : List ℕ) → IsOther b → IsLongest (b ∷ c ∷ []) rest
two_longest b c rest other [] after e some = refl
two_longest b c rest other (d ∷ more) after e some = absurd (none_some _ (no_token b (c ∷ d ∷ more) other (long_sign (b ∷ c ∷ d ∷ more) (omega arith))) some)

one_longest : (b : ℕ) (rest : List ℕ) → IsOther b → sign_in_front 2 (b ∷ rest) ≡ None → IsLongest (b ∷ []) rest
one_longest b rest other none [] after e some = refl
one_longest b rest other none (c ∷ d ∷ more) after e some =
    absurd (none_some _ (no_token b (c ∷ d ∷ more) other (long_sign (b ∷ c ∷ d ∷ more) (omega arith))) some)
one_longest b rest other none (c ∷ []) after e some =
    let none' : sign_in_front 2 (b ∷ c ∷ after) ≡ None = subst (λ l. sign_in_front 2 (b ∷ l) ≡ None) e none in
    absurd (none_some _ (no_token b (c ∷ []) other (no_sign_here 2 (b ∷ c ∷ after) none' (omega arith))) some)

none_front : (b : ℕ) (rest : List ℕ) → IsOther b → sign_in_front 2 (b ∷ rest) ≡ None → sign_in_front 1 (b ∷ rest) ≡ None → NoToken (b ∷ rest)
unfolding token_of
none_front b rest other two one [] after e = refl
none_front b rest other two one (x ∷ []) after e =
    let same : b ≡ x = cc in
    subst (λ x. token_of (x ∷ []) ≡ None) same (no_token b [] other (no_sign_here 1 (b ∷ rest) one (omega arith)))
none_front b rest other two one (x ∷ c ∷ []) after e =
    let same : b ∷ rest ≡ x ∷ c ∷ after = e in
    let head : b ≡ x = cc in
    let none = no_sign_here 2 (x ∷ c ∷ after) (subst (λ l. sign_in_front 2 l ≡ None) same two) (omega arith) in
    no_token x (c ∷ []) (subst IsOther head other) none
none_front b rest other two one (x ∷ c ∷ d ∷ more) after e =
    let head : b ≡ x = cc in
    no_token x (c ∷ d ∷ more) (subst IsOther head other) (long_sign (x ∷ c ∷ d ∷ more) (omega arith))

-- the same at a place
pub no_sign : (text : List ℕ) (from : ℕ) → from < length text → IsOther (get_or text from 0) → sign_in_front 2 (drop from text) ≡ None
    → sign_in_front 1 (drop from text) ≡ None → NoToken (drop from text)
no_sign text from within other two one =
    let front = drop_more text from 0 within in
    subst NoToken (sym front) (none_front (get_or text from 0) (drop (from + 1) text) other (subst (λ l. sign_in_front 2 l ≡ None) front two)
    (subst (λ l. sign_in_front 1 l ≡ None) front one))

pub one_sign : (text : List ℕ) (from : ℕ) (s : Sign) → from < length text → IsOther (get_or text from 0) → sign_in_front 2 (drop from text) ≡ None
    → sign_in_front 1 (drop from text) ≡ Some s → TokenAt text from (from + 1) (Mark s)
one_sign text from s within other two one =
    let front = drop_more text from 0 within in
    let b : ℕ = get_or text from 0 in
    let size : from + 1 - from ≡ 1 = omega arith in
    let piece : take (from + 1 - from) (drop from text) ≡ b ∷ [] = ap (λ k. take k (drop from text)) size ∙ ap (take 1) front in
    let sign : look_up (b ∷ []) signs ≡ Some s = ap (λ l. look_up (take 1 l) signs) (sym front) ∙ (sign_here 1 (drop from text) s one).1 in
    record {
      past = omega arith;
      within = omega (arith, within);
      token = ap token_of piece ∙ sign_token b [] other ∙ ap (option_map Mark) sign;
      longest = subst (λ p. IsLongest p (drop (from + 1) text)) (sym piece)
          (one_longest b (drop (from + 1) text) other (subst (λ l. sign_in_front 2 l ≡ None) front two));
    }

pub two_sign : (text : List ℕ) (from : ℕ) (s : Sign) → from < length text → IsOther (get_or text from 0) → sign_in_front 2 (drop from text) ≡ Some s
    → TokenAt text from (from + 2) (Mark s)
two_sign text from s within other two =
    let here = sign_here 2 (drop from text) s two in
    let room : from + 1 < length text = omega (arith, here.0, length-drop from text) in
    let b : ℕ = get_or text from 0 in
    let c : ℕ = get_or text (from + 1) 0 in
    let front = drop_more text from 0 within ∙ ap (λ l. b ∷ l) (drop_more text (from + 1) 0 room) in
    let size : from + 2 - from ≡ 2 = omega arith in
    let piece : take (from + 2 - from) (drop from text) ≡ b ∷ c ∷ [] = ap (λ k. take k (drop from text)) size ∙ ap (take 2) front in
    let sign : look_up (b ∷ c ∷ []) signs ≡ Some s = ap (λ l. look_up (take 2 l) signs) (sym front) ∙ here.1 in
    record {
      past = omega arith;
      within = omega (arith, room);
      token = ap token_of piece ∙ sign_token b (c ∷ []) other ∙ ap (option_map Mark) sign;
      longest = subst (λ p. IsLongest p (drop (from + 2) text)) (sym piece) (two_longest b c (drop (from + 2) text) other);
    }
