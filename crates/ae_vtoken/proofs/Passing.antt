-- One pass over the text, and the place where it stops.
use Rattle.std.proofs.Common.{◌≡◌, ℕ, ◌+◌, ◌-◌, ◌<◌, ◌≤◌, List, [], ◌∷◌, ◌++◌, length, refl, sym, ap, ◌∙◌, subst, arith, drop, take, get_or, append_assoc, append-nil, zero, suc}
use Rattle.std.proofs.lemmas.List.{drop_more, drop-drop, take-append-drop}
use Rattle.ae_vtoken.specs.Tokens as tok
use Rattle.ae_vtoken.specs.Tokens.{after_gap, Between, NoToken, BeginsWith, AreTokens, No_more, Then, Stuck, Here, Later, IsBadToken}
use Rattle.ae_vtoken.specs.Scan.{TokenAt, ReadTo}

pub drop_past : (l : List ℕ) (n : ℕ) → length l ≤ n → drop n l ≡ []
drop_past [] zero h = refl
drop_past [] (suc n) h = refl
drop_past (x ∷ l) zero h = absurd (omega (arith, h))
drop_past (x ∷ l) (suc n) h = drop_past l n (omega (arith, h))

pub begins : (text : List ℕ) (i at to : ℕ) (t : tok.TokenTree) → after_gap Between (drop i text) ≡ drop at text → TokenAt text at to t
    → BeginsWith (drop i text) (take (to - at) (drop at text)) (drop to text) t
begins text i at to t gap here = record {
  parts =
      let past = here.past in
      let sum : at + (to - at) ≡ to = omega arith in
      gap ∙ sym (take-append-drop (to - at) (drop at text)) ∙
      ap (λ l. take (to - at) (drop at text) ++ l) (drop-drop (to - at) at text ∙ ap (λ n. drop n text) sum);
  token = here.token;
  longest = here.longest;
}

pub read_more : (text : List ℕ) (i at to : ℕ) (t : tok.TokenTree) (ts : List tok.TokenTree) → ReadTo text i ts → after_gap Between (drop i text) ≡ drop at text
    → TokenAt text at to t → ReadTo text to (ts ++ t ∷ [])
read_more text i at to t ts read gap here =
    let first = begins text i at to t gap here in
    record {
      within = here.within;
      more = λ us h. subst (AreTokens text) (sym (append_assoc ts (t ∷ []) us)) (read.more (t ∷ us) (Then (drop i text) _ _ t us first h));
      stuck = λ bad h. read.stuck bad (Later (drop i text) _ _ bad t first h);
    }

pub read_all : (text : List ℕ) (i at : ℕ) (ts : List tok.TokenTree) → ReadTo text i ts → after_gap Between (drop i text) ≡ drop at text → length text ≤ at
    → AreTokens text ts
read_all text i at ts read gap end = subst (AreTokens text) (append-nil ts) (read.more [] (No_more (drop i text) (gap ∙ drop_past text at end)))

pub read_stuck : (text : List ℕ) (i at : ℕ) (ts : List tok.TokenTree) → ReadTo text i ts → after_gap Between (drop i text) ≡ drop at text → at < length text
    → NoToken (drop at text) → IsBadToken text at
read_stuck text i at ts read gap within none =
    let front = drop_more text at 0 within in
    record {
      within = within;
      stuck = read.stuck (drop at text) (subst (Stuck (drop i text)) (sym front)
          (Here (drop i text) (get_or text at 0) (drop (at + 1) text) (gap ∙ front) (subst NoToken front none)));
    }
