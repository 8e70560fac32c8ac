-- The ports of a module, and their tokens: the text of a port ends in its name, so a lone byte stands behind it.
use Rattle.std.proofs.Common.{◌≡◌, ℕ, ◌≤◌, List, [], ◌∷◌, ◌++◌, true, Some, refl, sym, subst, append_assoc}
use Rattle.std.specs.Prelude.{codes}
use Rattle.ae_vtoken.specs.declared.token.Key.TheVariants.{Module}
use Rattle.ae_vtoken.specs.declared.token.Sign.TheVariants.{Open, Close, Comma, Semicolon}
use Rattle.ae_vtoken.specs.Tokens.{TokenTree, Name, Word, Mark, token_of, AreTokens}
use Rattle.ae_vread.specs.Forms.{PortHead, InputHead, OutputHead, PortForm, port_tokens}
use Rattle.ae_vtoken.proofs.TokenLemmas.{is_lone, spaced, mark, blank_then}
use Rattle.ae_verilog.specs.NetlistModule.{clock_name}
use Rattle.ae_verilog.specs.Text.{range_text}
use Rattle.ae_spelled.specs.Streams.{IsModuleName}
use Rattle.ae_spelled.proofs.Pieces.{IsNameText, IsClean, clean_both, clean_then}
use Rattle.ae_spelled.proofs.Lines.{IsTextOf, range_form, range_piece, range_clean, module_token, input_token, output_token, wire_token, clk_token, open_token, close_token, comma_token, semicolon_token}

-- a byte with which no token goes on stands in front
pub record StartsLone (text : List ℕ) : Type 0 where
  pub first : ℕ
  pub more : List ℕ
  pub whole : text ≡ first ∷ more
  pub lone : is_lone first ≡ true

-- text of these tokens before a lone byte, which is empty or has one in front
pub record IsPieceOf (text : List ℕ) (ts : List TokenTree) : Type 0 where
  pub tokens : (rest : List ℕ) (us : List TokenTree) → StartsLone rest → AreTokens rest us → AreTokens (text ++ rest) (ts ++ us)
  pub opens : (rest : List ℕ) → StartsLone rest → StartsLone (text ++ rest)
  pub clean : IsClean text

pub no_piece : IsPieceOf [] []
no_piece = record { tokens = λ rest us lone h. h; opens = λ rest lone. lone; clean = record { all = refl } }

pub both_pieces : (a b : List ℕ) (ts us : List TokenTree) → IsPieceOf a ts → IsPieceOf b us → IsPieceOf (a ++ b) (ts ++ us)
both_pieces a b ts us one two = record {
  tokens = λ rest vs lone h.
      subst (λ text. AreTokens text ((ts ++ us) ++ vs)) (sym (append_assoc a b rest))
      (subst (AreTokens (a ++ (b ++ rest))) (sym (append_assoc ts us vs))
      (one.tokens _ _ (two.opens rest lone) (two.tokens rest vs lone h)));
  opens = λ rest lone. subst StartsLone (sym (append_assoc a b rest)) (one.opens _ (two.opens rest lone));
  clean = clean_both a b one.clean two.clean;
}

before_lone : (piece rest : List ℕ) (t : TokenTree) (ts : List TokenTree) → token_of piece ≡ Some t → StartsLone rest → AreTokens rest ts
    → AreTokens (piece ++ rest) (t ∷ ts)
before_lone piece rest t ts token lone h =
    subst (λ r. AreTokens (piece ++ r) (t ∷ ts)) (sym lone.whole)
    (spaced piece lone.first lone.more t ts token lone.lone (subst (λ r. AreTokens r ts) lone.whole h))

abbrev pub port_form : PortHead → (width : ℕ) → List ℕ → PortForm
port_form head width n = record { head = head; range = range_form width; first = n; more = [] }

pub input_port : (width : ℕ) (n : List ℕ) → width ≤ 64 → IsNameText n
    → IsPieceOf (codes ",\n  input wire " ++ (range_text width ++ n)) (Mark Comma ∷ port_tokens (port_form (InputHead true) width n))
input_port width n small named = record {
  tokens = λ rest us lone h. simp append_assoc (
      mark 44 _ _ _ comma_token refl (blank_then 10 _ _ refl (blank_then 32 _ _ refl (blank_then 32 _ _ refl (
      spaced (codes "input") 32 _ _ _ input_token refl (blank_then 32 _ _ refl (spaced (codes "wire") 32 _ _ _ wire_token refl (
      blank_then 32 _ _ refl (range_piece width small _ _ (before_lone n _ _ _ named.token lone h))))))))));
  opens = λ rest lone. record { first = 44; more = _; whole = refl; lone = refl };
  clean = clean_then (codes ",\n  input wire ") _ refl (clean_both (range_text width) n (range_clean width small) named.clean);
}

pub output_port : (width : ℕ) (n : List ℕ) → width ≤ 64 → IsNameText n
    → IsPieceOf (codes ",\n  output wire " ++ (range_text width ++ n)) (Mark Comma ∷ port_tokens (port_form (OutputHead true) width n))
output_port width n small named = record {
  tokens = λ rest us lone h. simp append_assoc (
      mark 44 _ _ _ comma_token refl (blank_then 10 _ _ refl (blank_then 32 _ _ refl (blank_then 32 _ _ refl (
      spaced (codes "output") 32 _ _ _ output_token refl (blank_then 32 _ _ refl (spaced (codes "wire") 32 _ _ _ wire_token refl (
      blank_then 32 _ _ refl (range_piece width small _ _ (before_lone n _ _ _ named.token lone h))))))))));
  opens = λ rest lone. record { first = 44; more = _; whole = refl; lone = refl };
  clean = clean_then (codes ",\n  output wire ") _ refl (clean_both (range_text width) n (range_clean width small) named.clean);
}

abbrev pub clock_port : PortForm
clock_port = port_form (InputHead true) 1 clock_name

abbrev pub start_tokens : (title : List ℕ) → List TokenTree
start_tokens title = Word Module ∷ Name title ∷ Mark Open ∷ port_tokens clock_port

-- the head of a module around its further ports
pub head_lines : (title ports : List ℕ) (ts : List TokenTree) → IsModuleName title → IsPieceOf ports ts
    → IsTextOf (codes "module " ++ (title ++ (codes " (\n  input wire clk" ++ (ports ++ codes "\n);\n"))))
    (start_tokens title ++ (ts ++ Mark Close ∷ Mark Semicolon ∷ []))
head_lines title ports ts named piece = record {
  tokens = λ rest us h.
      let ended : AreTokens (codes "\n);\n" ++ rest) (Mark Close ∷ Mark Semicolon ∷ us) =
      blank_then 10 _ _ refl (mark 41 _ _ _ close_token refl (mark 59 _ _ _ semicolon_token refl (blank_then 10 _ _ refl h))) in
      let ending : StartsLone (codes "\n);\n" ++ rest) = record { first = 10; more = _; whole = refl; lone = refl } in
      simp append_assoc (
      spaced (codes "module") 32 _ _ _ module_token refl (blank_then 32 _ _ refl (spaced title 32 _ _ _ named.token refl (
      blank_then 32 _ _ refl (mark 40 _ _ _ open_token refl (blank_then 10 _ _ refl (blank_then 32 _ _ refl (blank_then 32 _ _ refl (
      spaced (codes "input") 32 _ _ _ input_token refl (blank_then 32 _ _ refl (spaced (codes "wire") 32 _ _ _ wire_token refl (
      blank_then 32 _ _ refl (before_lone (codes "clk") _ _ _ clk_token (piece.opens _ ending) (piece.tokens _ _ ending ended))))))))))))));
  clean = clean_then (codes "module ") _ refl (clean_then title _ named.clean
      (clean_then (codes " (\n  input wire clk") _ refl (clean_both ports (codes "\n);\n") piece.clean (record { all = refl }))));
}
