-- The first token of a text is the longest one there.
use Rattle.std.proofs.Common.{◌≡◌, ℕ, ◌+◌, ◌-◌, ◌<◌, ◌≤◌, List, [], ◌∷◌, ◌++◌, length, Some, None, refl, sym, ap, ◌∙◌, subst, arith, drop, take, zero, suc, length-append}
use Rattle.std.specs.Prelude.{IsSome}
use Rattle.std.proofs.lemmas.List.{take-append-drop, length-take-le}
use Rattle.std.proofs.Math.Seq.{take-append_seam, take-append-add, drop-append_seam}
use Rattle.ae_vtoken.specs.Tokens.{TokenTree, Unused, token_of, after_gap, Between, IsLongest, NoToken, BeginsWith, AreTokens, No_more, Then}
use Rattle.ae_vtoken.specs.Scan.{TokenAt, token_view}
use Rattle.ae_vtoken.specs.Front.{by_piece, longest, front, tokens_of, HasTokens}
use Rattle.ae_vtoken.specs.Ahead.{from_first, ahead}
use Rattle.ae_vtoken.specs.declared.cursor.Tokens.{Tokens}
use Rattle.ae_vtoken.proofs.Passing.{begins, drop_past}

-- no piece that goes on behind the longest is a token
none_longer : (piece rest : List ℕ) (n : ℕ) → IsLongest piece rest → n < length rest → token_of (piece ++ take (suc n) rest) ≡ None
none_longer piece rest n most within =
    elim (token_of (piece ++ take (suc n) rest)) as (λ o. token_of (piece ++ take (suc n) rest) ≡ o → o ≡ None) [
      | None ↦ λ h. refl
      | Some t ↦ λ h.
          let none : take (suc n) rest ≡ [] = most (take (suc n) rest) (drop (suc n) rest) (sym (take-append-drop (suc n) rest)) (subst IsSome (sym h) refl) in
          let size : suc n ≡ 0 = sym (length-take-le (suc n) rest (omega (arith, within))) ∙ ap length none in
          absurd (omega (arith, size))
    ] refl

longest_is : (b : ℕ) (bs rest : List ℕ) (t : TokenTree) (n : ℕ) → token_of (b ∷ bs) ≡ Some t → IsLongest (b ∷ bs) rest → n ≤ length rest
    → longest (length (b ∷ bs) + n) ((b ∷ bs) ++ rest) ≡ (t, rest)
longest_is b bs rest t zero token most within =
    ap (λ k. longest k ((b ∷ bs) ++ rest)) (let e : length (b ∷ bs) + 0 ≡ suc (length bs) = omega arith in e)
    ∙ ap (λ l. by_piece (drop (suc (length bs)) ((b ∷ bs) ++ rest)) (longest (length bs) ((b ∷ bs) ++ rest)) (token_of l)) (take-append_seam (b ∷ bs) rest)
    ∙ ap (by_piece (drop (suc (length bs)) ((b ∷ bs) ++ rest)) (longest (length bs) ((b ∷ bs) ++ rest))) token
    ∙ ap (λ l. (t, l)) (drop-append_seam (b ∷ bs) rest)
longest_is b bs rest t (suc n) token most within =
    let size : length (b ∷ bs) + suc n ≡ suc (length (b ∷ bs) + n) = omega arith in
    let none : token_of (take (suc (length (b ∷ bs) + n)) ((b ∷ bs) ++ rest)) ≡ None =
    ap (λ k. token_of (take k ((b ∷ bs) ++ rest))) (sym size) ∙ ap token_of (take-append-add (b ∷ bs) rest (suc n))
    ∙ none_longer (b ∷ bs) rest n most (omega (arith, within)) in
    ap (λ k. longest k ((b ∷ bs) ++ rest)) size
    ∙ ap (by_piece (drop (suc (length (b ∷ bs) + n)) ((b ∷ bs) ++ rest)) (longest (length (b ∷ bs) + n) ((b ∷ bs) ++ rest))) none
    ∙ longest_is b bs rest t n token most (omega (arith, within))

no_piece : (t : TokenTree) → token_of [] ≡ Some t → ⊥
unfolding token_of
no_piece t e = cc

all_longest : (piece rest : List ℕ) (t : TokenTree) → token_of piece ≡ Some t → IsLongest piece rest
    → longest (length (piece ++ rest)) (piece ++ rest) ≡ (t, rest)
all_longest [] rest t token most = absurd (no_piece t token)
all_longest (b ∷ bs) rest t token most =
    ap (λ k. longest k ((b ∷ bs) ++ rest)) (length-append (b ∷ bs) rest) ∙ longest_is b bs rest t (length rest) token most (omega arith)

pub front_is : (text piece rest : List ℕ) (t : TokenTree) → BeginsWith text piece rest t → front text ≡ (t, rest)
unfolding front
front_is text piece rest t begins =
    ap (λ l. longest (length l) l) begins.parts ∙ all_longest piece rest t begins.token begins.longest

pub tokens_are : (ts : List TokenTree) (text : List ℕ) → AreTokens text ts → tokens_of (length ts) text ≡ ts
tokens_are _ text (No_more a h) = refl
tokens_are _ text (Then a p r t ts begins h) =
    let first = front_is a p r t begins in
    λ i. (first i).0 ∷ (ap (tokens_of (length ts)) (ap (λ x. x.1) first) ∙ tokens_are ts r h) i

none_any : (n : ℕ) (text : List ℕ) → NoToken text → longest n text ≡ (Unused, [])
none_any zero text none = refl
none_any (suc n) text none =
    ap (by_piece (drop (suc n) text) (longest n text)) (none (take (suc n) text) (drop (suc n) text) (sym (take-append-drop (suc n) text)))
    ∙ none_any n text none

-- where no token stands, an unused word stands for it
pub front_none : (text rest : List ℕ) → after_gap Between text ≡ rest → NoToken rest → front text ≡ (Unused, [])
unfolding front
front_none text rest gap none = ap (λ l. longest (length l) l) gap ∙ none_any (length rest) rest none

pub many_tokens : (n : ℕ) (text : List ℕ) → length (tokens_of n text) ≡ n
many_tokens zero text = refl
many_tokens (suc n) text = ap suc (many_tokens n (front text).1)

many_from_first : (n : ℕ) (t : TokenTree) (text : List ℕ) → length (from_first n t text) ≡ n
many_from_first zero t text = refl
many_from_first (suc n) t text = ap suc (many_tokens n text)

pub many_ahead : (ts : Tokens) → length (ahead ts) ≡ ts.left
many_ahead ts = many_from_first ts.left (token_view ts.first) (drop ts.past ts.text.now)

-- behind the first token of a text the others stand
pub first_is : (n : ℕ) (text rest : List ℕ) (t : TokenTree) → front text ≡ (t, rest) → from_first n t rest ≡ tokens_of n text
first_is zero text rest t e = refl
first_is (suc n) text rest t e = ap (λ x. x.0 ∷ tokens_of n x.1) (sym e)

pub token_first : (n : ℕ) (text : List ℕ) (i at to : ℕ) (t : TokenTree) → after_gap Between (drop i text) ≡ drop at text → TokenAt text at to t
    → from_first n t (drop to text) ≡ tokens_of n (drop i text)
token_first n text i at to t gap here = first_is n (drop i text) (drop to text) t (front_is (drop i text) _ (drop to text) t (begins text i at to t gap here))

no_token_at_all : NoToken []
unfolding token_of
no_token_at_all [] rest e = refl
no_token_at_all (b ∷ bs) rest e = cc

pub none_first : (n : ℕ) (text : List ℕ) (i at : ℕ) → after_gap Between (drop i text) ≡ drop at text → NoToken (drop at text)
    → from_first n Unused (drop (length text) text) ≡ tokens_of n (drop i text)
none_first n text i at gap none =
    first_is n (drop i text) (drop (length text) text) Unused
    (front_none (drop i text) (drop at text) gap none ∙ ap (λ l. (Unused, l)) (sym (drop_past text (length text) (omega arith))))

pub end_first : (n : ℕ) (text : List ℕ) (i : ℕ) → after_gap Between (drop i text) ≡ drop (length text) text
    → from_first n Unused (drop (length text) text) ≡ tokens_of n (drop i text)
end_first n text i gap =
    none_first n text i (length text) gap (subst NoToken (sym (drop_past text (length text) (omega arith))) no_token_at_all)

-- the tokens of a text are as many as were counted
pub counted : (n : ℕ) (text : List ℕ) → HasTokens text n → AreTokens text (tokens_of n text)
counted n text has =
    let same : tokens_of n text ≡ has.0 = ap (λ k. tokens_of k text) (sym has.2) ∙ tokens_are has.0 text has.1 in
    subst (AreTokens text) (sym same) has.1
