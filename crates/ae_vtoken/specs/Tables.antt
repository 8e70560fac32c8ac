-- The signs and the reserved words of IEEE 1364-2001, as far as the profile takes them.
use Rattle.std.specs.Prelude.{ℕ, List, [], ◌∷◌, codes}
use Rattle.ae_vtoken.specs.declared.token.Key.{Key}
use Rattle.ae_vtoken.specs.declared.token.Key.TheVariants.{Module, EndModule, Input, Output, Wire, Reg, Assign, Always, Posedge, If, Else, Begin, End}
use Rattle.ae_vtoken.specs.declared.token.Sign.{Sign}
use Rattle.ae_vtoken.specs.declared.token.Sign.TheVariants.{Open, Close, OpenBracket, CloseBracket, OpenBrace, CloseBrace, Comma, Semicolon, Colon, Question, At, Equals, Plus, Minus, Star, Amp, Bar, Caret, Tilde, Bang, Less, Greater, AtMost, AtLeast, Same, Differs, BothAmp, BothBar, ShiftLeft, ShiftRight, XnorLeft, XnorRight}

-- the signs of the profile
unfoldable pub signs : List (List ℕ × Sign)
signs =
    (codes "(", Open) ∷ (codes ")", Close) ∷ (codes "[", OpenBracket) ∷ (codes "]", CloseBracket)
    ∷ (codes "{", OpenBrace) ∷ (codes "}", CloseBrace) ∷ (codes ",", Comma) ∷ (codes ";", Semicolon)
    ∷ (codes ":", Colon) ∷ (codes "?", Question) ∷ (codes "@", At) ∷ (codes "=", Equals)
    ∷ (codes "+", Plus) ∷ (codes "-", Minus) ∷ (codes "*", Star) ∷ (codes "&", Amp) ∷ (codes "|", Bar)
    ∷ (codes "^", Caret) ∷ (codes "~", Tilde) ∷ (codes "!", Bang) ∷ (codes "<", Less) ∷ (codes ">", Greater)
    ∷ (codes "<=", AtMost) ∷ (codes ">=", AtLeast) ∷ (codes "==", Same) ∷ (codes "!=", Differs)
    ∷ (codes "&&", BothAmp) ∷ (codes "||", BothBar) ∷ (codes "<<", ShiftLeft) ∷ (codes ">>", ShiftRight)
    ∷ (codes "^~", XnorLeft) ∷ (codes "~^", XnorRight) ∷ []

-- the reserved words that a rule uses
unfoldable pub keys : List (List ℕ × Key)
keys =
    (codes "module", Module) ∷ (codes "endmodule", EndModule) ∷ (codes "input", Input) ∷ (codes "output", Output)
    ∷ (codes "wire", Wire) ∷ (codes "reg", Reg) ∷ (codes "assign", Assign) ∷ (codes "always", Always)
    ∷ (codes "posedge", Posedge) ∷ (codes "if", If) ∷ (codes "else", Else) ∷ (codes "begin", Begin)
    ∷ (codes "end", End) ∷ []

-- the reserved words that no rule uses
unfoldable pub unused_0 : List (List ℕ)
unused_0 =
    codes "and" ∷ codes "automatic" ∷ codes "buf" ∷ codes "bufif0" ∷ codes "bufif1" ∷ codes "case" ∷ codes "casex"
    ∷ codes "casez" ∷ codes "cell" ∷ codes "cmos" ∷ codes "config" ∷ []

unfoldable pub unused_1 : List (List ℕ)
unused_1 =
    codes "deassign" ∷ codes "default" ∷ codes "defparam" ∷ codes "design" ∷ codes "disable" ∷ codes "edge"
    ∷ codes "endcase" ∷ codes "endconfig" ∷ codes "endfunction" ∷ codes "endgenerate" ∷ codes "endprimitive" ∷ []

unfoldable pub unused_2 : List (List ℕ)
unused_2 =
    codes "endspecify" ∷ codes "endtable" ∷ codes "endtask" ∷ codes "event" ∷ codes "for" ∷ codes "force"
    ∷ codes "forever" ∷ codes "fork" ∷ codes "function" ∷ codes "generate" ∷ codes "genvar" ∷ []

unfoldable pub unused_3 : List (List ℕ)
unused_3 =
    codes "highz0" ∷ codes "highz1" ∷ codes "ifnone" ∷ codes "incdir" ∷ codes "include" ∷ codes "initial"
    ∷ codes "inout" ∷ codes "instance" ∷ codes "integer" ∷ codes "join" ∷ codes "large" ∷ []

unfoldable pub unused_4 : List (List ℕ)
unused_4 =
    codes "liblist" ∷ codes "library" ∷ codes "localparam" ∷ codes "macromodule" ∷ codes "medium" ∷ codes "nand"
    ∷ codes "negedge" ∷ codes "nmos" ∷ codes "nor" ∷ codes "noshowcancelled" ∷ codes "not" ∷ []

unfoldable pub unused_5 : List (List ℕ)
unused_5 =
    codes "notif0" ∷ codes "notif1" ∷ codes "or" ∷ codes "parameter" ∷ codes "pmos" ∷ codes "primitive" ∷ codes "pull0"
    ∷ codes "pull1" ∷ codes "pulldown" ∷ codes "pullup" ∷ codes "pulsestyle_ondetect" ∷ []

unfoldable pub unused_6 : List (List ℕ)
unused_6 =
    codes "pulsestyle_onevent" ∷ codes "rcmos" ∷ codes "real" ∷ codes "realtime" ∷ codes "release" ∷ codes "repeat"
    ∷ codes "rnmos" ∷ codes "rpmos" ∷ codes "rtran" ∷ codes "rtranif0" ∷ codes "rtranif1" ∷ []

unfoldable pub unused_7 : List (List ℕ)
unused_7 =
    codes "scalared" ∷ codes "showcancelled" ∷ codes "signed" ∷ codes "small" ∷ codes "specify" ∷ codes "specparam"
    ∷ codes "strong0" ∷ codes "strong1" ∷ codes "supply0" ∷ codes "supply1" ∷ codes "table" ∷ []

unfoldable pub unused_8 : List (List ℕ)
unused_8 =
    codes "task" ∷ codes "time" ∷ codes "tran" ∷ codes "tranif0" ∷ codes "tranif1" ∷ codes "tri" ∷ codes "tri0"
    ∷ codes "tri1" ∷ codes "triand" ∷ codes "trior" ∷ codes "trireg" ∷ []

unfoldable pub unused_9 : List (List ℕ)
unused_9 =
    codes "unsigned" ∷ codes "use" ∷ codes "vectored" ∷ codes "wait" ∷ codes "wand" ∷ codes "weak0" ∷ codes "weak1"
    ∷ codes "while" ∷ codes "wor" ∷ codes "xnor" ∷ codes "xor" ∷ []
