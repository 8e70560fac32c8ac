-- The lines of a module, and their tokens.
use Rattle.std.proofs.Common.{lit≤, ◌≡◌, ℕ, ◌-◌, ◌≤◌, List, [], ◌∷◌, ◌++◌, true, false, Option, Some, None, refl, sym, ◌∙◌, subst, arith, append_assoc, append-nil}
use Rattle.std.specs.Prelude.{codes, decimal, nat_lt, ◌==◌, if◌then◌else◌}
use Rattle.ae_vtoken.specs.declared.token.Key.TheVariants.{Module, EndModule, Input, Output, Wire, Reg, Assign, Always, Posedge, If}
use Rattle.ae_vtoken.specs.declared.token.Sign.TheVariants.{Open, Close, Comma, Semicolon, At, Equals}
use Rattle.ae_vtoken.specs.Tables.{signs, keys, unused_0, unused_1, unused_2, unused_3, unused_4, unused_5, unused_6, unused_7, unused_8, unused_9}
use Rattle.ae_vtoken.specs.Tokens.{TokenTree, Name, Word, Mark, after_gap, Between, token_of, AreTokens, No_more, Then}
use Rattle.ae_vmodule.specs.ModuleTree.{ExprTree, name}
use Rattle.ae_vread.specs.ExprForms.{NumberForm, NameForm}
use Rattle.ae_vread.specs.StmtForms.{SetForm, PutForm, IfForm}
use Rattle.ae_vread.specs.Forms.{DriveForm, RegForm, ItemForm, WireDrives, RegItem, AssignItem, AlwaysItem, range_tokens, item_tokens}
use Rattle.ae_vtoken.proofs.TokenLemmas.{spaced, mark, blank_then}
use Rattle.ae_verilog.specs.NetlistModule.{clock_name, number_name}
use Rattle.ae_verilog.specs.Text.{expr_text, range_text, wire_text, value_text, widened_text, register_text, memory_text, register_edge, memory_edge}
use Rattle.ae_spelled.specs.Streams.{IsModuleName}
use Rattle.ae_spelled.proofs.Pieces.{IsNameText, IsClean, clean_both, clean_then, number_form, decimal_token, decimal_clean, number_named, marked_name, decimal_starts, decimal_named, named_both}
use Rattle.ae_spelled.proofs.Writable.{expr_form, IsWritable, expr_piece, expr_clean, open_bracket_token, close_bracket_token, colon_token}
use Rattle.ae_vtoken.proofs.Examples.{key as endmodule_token, at_most as at_most_token, zero_alone as zero_token}

-- text of these tokens, whatever tokens stand behind it, without % and $
pub record IsTextOf (text : List ℕ) (ts : List TokenTree) : Type 0 where
  pub tokens : (rest : List ℕ) (us : List TokenTree) → AreTokens rest us → AreTokens (text ++ rest) (ts ++ us)
  pub clean : IsClean text

pub no_text : IsTextOf [] []
no_text = record { tokens = λ rest us h. h; clean = record { all = refl } }

pub both_texts : (a b : List ℕ) (ts us : List TokenTree) → IsTextOf a ts → IsTextOf b us → IsTextOf (a ++ b) (ts ++ us)
both_texts a b ts us one two = record {
  tokens = λ rest vs h.
      subst (λ text. AreTokens text ((ts ++ us) ++ vs)) (sym (append_assoc a b rest))
      (subst (AreTokens (a ++ (b ++ rest))) (sym (append_assoc ts us vs))
      (one.tokens _ _ (two.tokens rest vs h)));
  clean = clean_both a b one.clean two.clean;
}

pub module_token : token_of (codes "module") ≡ Some (Word Module)
unfolding token_of keys
module_token = refl

pub input_token : token_of (codes "input") ≡ Some (Word Input)
unfolding token_of keys
input_token = refl

pub output_token : token_of (codes "output") ≡ Some (Word Output)
unfolding token_of keys
output_token = refl

pub wire_token : token_of (codes "wire") ≡ Some (Word Wire)
unfolding token_of keys
wire_token = refl

reg_token : token_of (codes "reg") ≡ Some (Word Reg)
unfolding token_of keys
reg_token = refl

assign_token : token_of (codes "assign") ≡ Some (Word Assign)
unfolding token_of keys
assign_token = refl

always_token : token_of (codes "always") ≡ Some (Word Always)
unfolding token_of keys
always_token = refl

posedge_token : token_of (codes "posedge") ≡ Some (Word Posedge)
unfolding token_of keys
posedge_token = refl

if_token : token_of (codes "if") ≡ Some (Word If)
unfolding token_of keys
if_token = refl

pub clk_token : token_of (codes "clk") ≡ Some (Name (codes "clk"))
unfolding token_of keys unused_0 unused_1 unused_2 unused_3 unused_4 unused_5 unused_6 unused_7 unused_8 unused_9
clk_token = refl

pub aeth_named : IsModuleName (codes "aeth")
unfolding token_of keys unused_0 unused_1 unused_2 unused_3 unused_4 unused_5 unused_6 unused_7 unused_8 unused_9
aeth_named = record { token = refl; clean = refl; short = lit≤ tt }

pub rst_named : IsNameText (codes "rst")
unfolding token_of keys unused_0 unused_1 unused_2 unused_3 unused_4 unused_5 unused_6 unused_7 unused_8 unused_9
rst_named = record { first = 114; more = codes "st"; whole = refl; letter = refl; token = refl; clean = record { all = refl } }

pub en_named : IsNameText (codes "en")
unfolding token_of keys unused_0 unused_1 unused_2 unused_3 unused_4 unused_5 unused_6 unused_7 unused_8 unused_9
en_named = record { first = 101; more = codes "n"; whole = refl; letter = refl; token = refl; clean = record { all = refl } }

pub open_token : token_of (codes "(") ≡ Some (Mark Open)
unfolding token_of signs
open_token = refl

pub close_token : token_of (codes ")") ≡ Some (Mark Close)
unfolding token_of signs
close_token = refl

pub comma_token : token_of (codes ",") ≡ Some (Mark Comma)
unfolding token_of signs
comma_token = refl

pub semicolon_token : token_of (codes ";") ≡ Some (Mark Semicolon)
unfolding token_of signs
semicolon_token = refl

at_token : token_of (codes "@") ≡ Some (Mark At)
unfolding token_of signs
at_token = refl

equals_token : token_of (codes "=") ≡ Some (Mark Equals)
unfolding token_of signs
equals_token = refl

pub net_named : (lines : ℕ → ℕ) → (net : ℕ) → IsNameText (number_name lines net)
unfolding number_name
net_named lines net =
    elim (lines net == 0) as (λ t. IsNameText (if t then codes "n" ++ decimal net else codes "l" ++ (decimal (lines net) ++ (codes "_n" ++ decimal net)))) [
      | true ↦ number_named 110 net refl
      | false ↦ marked_name 108 (decimal (lines net) ++ (codes "_n" ++ decimal net)) refl (decimal_starts (lines net) (codes "_n" ++ decimal net))
          (named_both (decimal (lines net)) (codes "_n" ++ decimal net) (decimal_named (lines net))
          (named_both (codes "_n") (decimal net) refl (decimal_named net)))
    ]

-- the range of a word of at most 64 bits
abbrev pub range_form : ℕ → Option NumberForm
range_form width = if nat_lt 1 width then Some (number_form (width - 1)) else None

pub range_piece : (width : ℕ) → width ≤ 64 → (rest : List ℕ) (us : List TokenTree) → AreTokens rest us
    → AreTokens (range_text width ++ rest) (range_tokens (range_form width) ++ us)
range_piece width small rest us h =
    elim (nat_lt 1 width) as (λ t. AreTokens ((if t then codes "[" ++ (decimal (width - 1) ++ codes ":0] ") else []) ++ rest)
    (range_tokens (if t then Some (number_form (width - 1)) else None) ++ us)) [
      | true ↦ simp append_assoc (mark 91 _ _ _ open_bracket_token refl (
          spaced (decimal (width - 1)) 58 _ _ _ (decimal_token (width - 1) (omega arith)) refl (
          mark 58 _ _ _ colon_token refl (spaced (codes "0") 93 _ _ _ zero_token refl (
          mark 93 _ _ _ close_bracket_token refl (blank_then 32 _ _ refl h))))))
      | false ↦ h
    ]

pub range_clean : (width : ℕ) → width ≤ 64 → IsClean (range_text width)
range_clean width small = elim (nat_lt 1 width) as (λ t. IsClean (if t then codes "[" ++ (decimal (width - 1) ++ codes ":0] ") else [])) [
  | true ↦ clean_then (codes "[") _ refl (clean_both (decimal (width - 1)) (codes ":0] ") (decimal_clean (width - 1)) (record { all = refl }))
  | false ↦ record { all = refl }
]

abbrev pub driven : List ℕ → ExprTree → DriveForm
driven n value = record { name = n; value = expr_form value }

abbrev pub value_item : (lines : ℕ → ℕ) → (width net : ℕ) → ExprTree → ItemForm
value_item lines width net value = WireDrives (range_form width) (driven (number_name lines net) value) []

pub value_line : (lines : ℕ → ℕ) → (width net : ℕ) (value : ExprTree) → width ≤ 64 → IsWritable value
    → IsTextOf (value_text lines width net value) (item_tokens (value_item lines width net value))
value_line lines width net value small w = record {
  tokens = λ rest us h. simp append_assoc (
      blank_then 32 _ _ refl (blank_then 32 _ _ refl (spaced (codes "wire") 32 _ _ _ wire_token refl (blank_then 32 _ _ refl (
      range_piece width small _ _ (spaced (number_name lines net) 32 _ _ _ (net_named lines net).token refl (
      blank_then 32 _ _ refl (spaced (codes "=") 32 _ _ _ equals_token refl (blank_then 32 _ _ refl (
      expr_piece value 59 _ _ w refl (mark 59 _ _ _ semicolon_token refl (blank_then 10 _ _ refl h))))))))))));
  clean = clean_both (wire_text lines width net) (expr_text value ++ codes ";\n")
      (clean_then (codes "  wire ") _ refl (clean_both (range_text width) _ (range_clean width small)
      (clean_both (number_name lines net) (codes " = ") (net_named lines net).clean (record { all = refl }))))
      (clean_both (expr_text value) (codes ";\n") (expr_clean value w) (record { all = refl }));
}

-- comments and blanks before the tokens
pub skip : (text rest : List ℕ) (us : List TokenTree) → after_gap Between text ≡ after_gap Between rest → AreTokens rest us → AreTokens text us
skip text rest _ e (No_more r h) = No_more _ (e ∙ h)
skip text rest _ e (Then r piece later t ts begins h) =
    Then _ piece later t ts (record { parts = e ∙ begins.parts; token = begins.token; longest = begins.longest }) h

widen_on : IsTextOf (codes "  // verilator lint_off WIDTH\n") []
widen_on = record { tokens = λ rest us h. skip _ rest us refl h; clean = record { all = refl } }

widen_off : IsTextOf (codes "  // verilator lint_on WIDTH\n") []
widen_off = record { tokens = λ rest us h. skip _ rest us refl h; clean = record { all = refl } }

pub quiet_line : IsTextOf
    (codes "// verilator lint_off CMPCONST\n// verilator lint_off DECLFILENAME\n// verilator lint_off UNSIGNED\n// verilator lint_off UNUSEDSIGNAL\n") []
quiet_line = record { tokens = λ rest us h. skip _ rest us refl h; clean = record { all = refl } }

pub widened_line : (lines : ℕ → ℕ) → (width net : ℕ) (value : ExprTree) → width ≤ 64 → IsWritable value
    → IsTextOf (widened_text lines width net value) (item_tokens (value_item lines width net value))
widened_line lines width net value small w =
    let whole = both_texts _ _ _ _ widen_on (both_texts _ _ _ _ (value_line lines width net value small w) widen_off) in
    subst (IsTextOf (widened_text lines width net value)) (append-nil (item_tokens (value_item lines width net value))) whole

abbrev pub plain_register : (lines : ℕ → ℕ) → ℕ → RegForm
plain_register lines net = record { name = number_name lines net; last = None }

abbrev pub register_item : (lines : ℕ → ℕ) → (width net : ℕ) → ItemForm
register_item lines width net = RegItem (range_form width) (plain_register lines net) []

pub register_line : (lines : ℕ → ℕ) → (width net : ℕ) → width ≤ 64 → IsTextOf (register_text lines width net) (item_tokens (register_item lines width net))
register_line lines width net small = record {
  tokens = λ rest us h. simp append_assoc (
      blank_then 32 _ _ refl (blank_then 32 _ _ refl (spaced (codes "reg") 32 _ _ _ reg_token refl (blank_then 32 _ _ refl (
      range_piece width small _ _ (spaced (number_name lines net) 59 _ _ _ (net_named lines net).token refl (
      mark 59 _ _ _ semicolon_token refl (blank_then 10 _ _ refl h))))))));
  clean = clean_then (codes "  reg ") _ refl (clean_both (range_text width) _ (range_clean width small)
      (clean_both (number_name lines net) (codes ";\n") (net_named lines net).clean (record { all = refl })));
}

abbrev pub memory_register : (lines : ℕ → ℕ) → (net depth : ℕ) → RegForm
memory_register lines net depth = record { name = number_name lines net; last = Some (number_form (depth - 1)) }

abbrev pub memory_item : (lines : ℕ → ℕ) → (width net depth : ℕ) → ItemForm
memory_item lines width net depth = RegItem (range_form width) (memory_register lines net depth) []

pub memory_line : (lines : ℕ → ℕ) → (width net depth : ℕ) → width ≤ 64 → depth ≤ 65536
    → IsTextOf (memory_text lines width net depth) (item_tokens (memory_item lines width net depth))
memory_line lines width net depth small shallow = record {
  tokens = λ rest us h. simp append_assoc (
      blank_then 32 _ _ refl (blank_then 32 _ _ refl (spaced (codes "reg") 32 _ _ _ reg_token refl (blank_then 32 _ _ refl (
      range_piece width small _ _ (spaced (number_name lines net) 32 _ _ _ (net_named lines net).token refl (
      blank_then 32 _ _ refl (mark 91 _ _ _ open_bracket_token refl (spaced (codes "0") 58 _ _ _ zero_token refl (
      mark 58 _ _ _ colon_token refl (spaced (decimal (depth - 1)) 93 _ _ _ (decimal_token (depth - 1) (omega arith)) refl (
      mark 93 _ _ _ close_bracket_token refl (mark 59 _ _ _ semicolon_token refl (blank_then 10 _ _ refl h))))))))))))));
  clean = clean_then (codes "  reg ") _ refl (clean_both (range_text width) _ (range_clean width small)
      (clean_both (number_name lines net) _ (net_named lines net).clean
      (clean_then (codes " [0:") _ refl (clean_both (decimal (depth - 1)) (codes "];\n") (decimal_clean (depth - 1)) (record { all = refl })))));
}

abbrev pub assign_item : (n v : List ℕ) → ItemForm
assign_item n v = AssignItem (driven n (name v)) []

pub assign_line : (n v : List ℕ) → IsNameText n → IsNameText v
    → IsTextOf (codes "  assign " ++ (n ++ (codes " = " ++ (v ++ codes ";\n")))) (item_tokens (assign_item n v))
assign_line n v hn hv = record {
  tokens = λ rest us h. simp append_assoc (
      blank_then 32 _ _ refl (blank_then 32 _ _ refl (spaced (codes "assign") 32 _ _ _ assign_token refl (blank_then 32 _ _ refl (
      spaced n 32 _ _ _ hn.token refl (blank_then 32 _ _ refl (spaced (codes "=") 32 _ _ _ equals_token refl (blank_then 32 _ _ refl (
      spaced v 59 _ _ _ hv.token refl (mark 59 _ _ _ semicolon_token refl (blank_then 10 _ _ refl h)))))))))));
  clean = clean_then (codes "  assign ") _ refl (clean_both n _ hn.clean
      (clean_then (codes " = ") _ refl (clean_both v (codes ";\n") hv.clean (record { all = refl }))));
}

abbrev pub register_edge_item : (n next : List ℕ) → ItemForm
register_edge_item n next = AlwaysItem clock_name (SetForm n (NameForm next))

pub register_edge_line : (n next : List ℕ) → IsNameText n → IsNameText next → IsTextOf (register_edge n next) (item_tokens (register_edge_item n next))
register_edge_line n next own hn = record {
  tokens = λ rest us h. simp append_assoc (
      blank_then 32 _ _ refl (blank_then 32 _ _ refl (spaced (codes "always") 32 _ _ _ always_token refl (blank_then 32 _ _ refl (
      mark 64 _ _ _ at_token refl (mark 40 _ _ _ open_token refl (spaced (codes "posedge") 32 _ _ _ posedge_token refl (
      blank_then 32 _ _ refl (spaced (codes "clk") 41 _ _ _ clk_token refl (mark 41 _ _ _ close_token refl (blank_then 32 _ _ refl (
      spaced n 32 _ _ _ own.token refl (blank_then 32 _ _ refl (
      spaced (codes "<=") 32 _ _ _ at_most_token refl (blank_then 32 _ _ refl (
      spaced next 59 _ _ _ hn.token refl (mark 59 _ _ _ semicolon_token refl (blank_then 10 _ _ refl h))))))))))))))))));
  clean = clean_then (codes "  always @(posedge clk) ") _ refl (clean_both n _ own.clean
      (clean_then (codes " <= ") _ refl (clean_both next (codes ";\n") hn.clean (record { all = refl }))));
}

abbrev pub memory_edge_item : (n at next enable : List ℕ) → ItemForm
memory_edge_item n at next enable = AlwaysItem clock_name (IfForm (NameForm enable) (PutForm n (NameForm at) (NameForm next)))

pub memory_edge_line : (n at next enable : List ℕ) → IsNameText n → IsNameText at → IsNameText next → IsNameText enable
    → IsTextOf (memory_edge n at next enable) (item_tokens (memory_edge_item n at next enable))
memory_edge_line n at next enable own ha hn he = record {
  tokens = λ rest us h. simp append_assoc (
      blank_then 32 _ _ refl (blank_then 32 _ _ refl (spaced (codes "always") 32 _ _ _ always_token refl (blank_then 32 _ _ refl (
      mark 64 _ _ _ at_token refl (mark 40 _ _ _ open_token refl (spaced (codes "posedge") 32 _ _ _ posedge_token refl (
      blank_then 32 _ _ refl (spaced (codes "clk") 41 _ _ _ clk_token refl (mark 41 _ _ _ close_token refl (blank_then 32 _ _ refl (
      spaced (codes "if") 32 _ _ _ if_token refl (blank_then 32 _ _ refl (mark 40 _ _ _ open_token refl (
      spaced enable 41 _ _ _ he.token refl (mark 41 _ _ _ close_token refl (blank_then 32 _ _ refl (
      spaced n 91 _ _ _ own.token refl (mark 91 _ _ _ open_bracket_token refl (
      spaced at 93 _ _ _ ha.token refl (mark 93 _ _ _ close_bracket_token refl (blank_then 32 _ _ refl (
      spaced (codes "<=") 32 _ _ _ at_most_token refl (blank_then 32 _ _ refl (
      spaced next 59 _ _ _ hn.token refl (mark 59 _ _ _ semicolon_token refl (blank_then 10 _ _ refl h)))))))))))))))))))))))))));
  clean = clean_then (codes "  always @(posedge clk) if (") _ refl (clean_both enable _ he.clean (clean_then (codes ") ") _ refl (
      clean_both n _ own.clean (clean_then (codes "[") _ refl (clean_both at _ ha.clean (
      clean_then (codes "] <= ") _ refl (clean_both next (codes ";\n") hn.clean (record { all = refl }))))))));
}

pub end_line : IsTextOf (codes "endmodule\n") (Word EndModule ∷ [])
end_line = record {
  tokens = λ rest us h. spaced (codes "endmodule") 10 _ _ _ endmodule_token refl (blank_then 10 _ _ refl h);
  clean = record { all = refl };
}
