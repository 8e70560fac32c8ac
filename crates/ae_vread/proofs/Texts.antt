-- Module texts and the trees that they spell.
use Rattle.std.proofs.Common.{◌≡◌, ℕ, List, [], ◌∷◌, Bool, true, false, Option, Some, None, refl, lit≤, lit<}
use Rattle.std.specs.Prelude.{codes}
use Rattle.ae_vtoken.specs.Tables.{signs, keys, unused_0, unused_1, unused_2, unused_3, unused_4, unused_5, unused_6, unused_7, unused_8, unused_9}
use Rattle.ae_vtoken.specs.Tokens.{token_of}
use Rattle.ae_vmodule.specs.ModuleTree.{ExprTree, name, constant, place, part, index, unary, binary, choice, concat_one, concat_more, set, put, when, either, block_end, block_more, NetTree, DriveTree, nets, assigns, always, ModuleTree}
use Rattle.ae_vread.specs.ExprForms.{NumberForm, ZeroForm, DecimalForm, ExprForm, NameForm, ConstForm, PartForm, IndexForm, ParensForm, PrefixForm, InfixForm, ChoiceForm, BracesForm, LastPart, MoreParts}
use Rattle.ae_vread.specs.StmtForms.{SetForm, PutPlaceForm, PutForm, IfForm, IfElseForm, BlockForm, NoMore, More}
use Rattle.ae_vread.specs.Forms.{PortHead, InputHead, OutputHead, OutputRegHead, PortForm, DriveForm, RegForm, WireDrives, RegItem, AssignItem, AlwaysItem, ModuleForm, module_tokens, IsDrive}
use Rattle.ae_vread.specs.Spells.{Spells, stars}
use Rattle.ae_vmodule.specs.declared.module.NetKind.{NetKind}
use Rattle.ae_vmodule.specs.declared.module.NetKind.TheVariants.{Input, Wire, OutWire, Reg, OutReg, Memory}
use Rattle.ae_vmodule.specs.declared.module.UnOp.TheVariants.{Not, Flip}
use Rattle.ae_vmodule.specs.declared.module.BinOp.TheVariants.{Add, Gt, Eq}
use Rattle.ae_vtoken.proofs.Scans.{scan, scanned}

abbrev a : List ℕ
a = codes "a"

abbrev b : List ℕ
b = codes "b"

abbrev net : List ℕ → ℕ → Bool → NetKind → ℕ → NetTree
net n width ranged kind item = record { name = n; width = width; ranged = ranged; kind = kind; item = item }

abbrev drive : List ℕ → ExprTree → DriveTree
drive n value = record { name = n; value = value }

abbrev port : PortHead → Option NumberForm → List ℕ → List (List ℕ) → PortForm
port head range first more = record { head = head; range = range; first = first; more = more }

abbrev driven : List ℕ → ExprForm → DriveForm
driven n value = record { name = n; value = value }

abbrev plain : List ℕ → RegForm
plain n = record { name = n; last = None }

abbrev stored : List ℕ → NumberForm → RegForm
stored n last = record { name = n; last = Some last }

-- two wires that drive each other

abbrev loop_text : List ℕ
loop_text = codes "module m (output wire a, output wire b); assign a = b; assign b = a; endmodule"

abbrev loop_form : ModuleForm
loop_form = record {
  name = codes "m";
  first = port (OutputHead true) None a [];
  more = port (OutputHead true) None b [] ∷ [];
  items = AssignItem (driven a (NameForm b)) [] ∷ AssignItem (driven b (NameForm a)) [] ∷ [];
}

abbrev loop_tree : ModuleTree
loop_tree = record {
  name = codes "m";
  nets = net a 1 false OutWire 0 ∷ net b 1 false OutWire 0 ∷ [];
  items = assigns (drive a (name b) ∷ []) ∷ assigns (drive b (name a) ∷ []) ∷ [];
}

abbrev loop_pieces : List (List ℕ)
loop_pieces =
    codes "module" ∷ codes "m" ∷ codes "(" ∷ codes "output" ∷ codes "wire" ∷ codes "a" ∷ codes "," ∷ codes "output" ∷ codes "wire" ∷ codes "b" ∷ codes ")"
    ∷ codes ";" ∷ codes "assign" ∷ codes "a" ∷ codes "=" ∷ codes "b" ∷ codes ";" ∷ codes "assign" ∷ codes "b" ∷ codes "=" ∷ codes "a" ∷ codes ";"
    ∷ codes "endmodule" ∷ []

loop_tokens : scan loop_pieces loop_text ≡ Some (module_tokens loop_form)
unfolding token_of signs keys unused_0 unused_1 unused_2 unused_3 unused_4 unused_5 unused_6 unused_7 unused_8 unused_9
loop_tokens = refl

plain_name : (n m : List ℕ) → IsDrive (driven n (NameForm m))
plain_name n m = record { level = lit≤ tt; formed = tt; depth = lit≤ tt }

loop_spelled : Spells loop_text loop_tree
loop_spelled = record {
  form = loop_form;
  formed = ((plain_name a b, tt), ((plain_name b a, tt), tt));
  written = scanned loop_pieces loop_text _ loop_tokens;
  tree = refl;
}

-- an accumulator

abbrev t : List ℕ
t = codes "t"

abbrev clk : List ℕ
clk = codes "clk"

abbrev sum_text : List ℕ
sum_text = codes "module acc (input wire clk, input wire [3:0] a, output reg [3:0] t);\n  always @(posedge clk) t <= t + a;\nendmodule\n"

abbrev sum_form : ModuleForm
sum_form = record {
  name = codes "acc";
  first = port (InputHead true) None clk [];
  more = port (InputHead true) (Some (DecimalForm 3)) a [] ∷ port OutputRegHead (Some (DecimalForm 3)) t [] ∷ [];
  items = AlwaysItem clk (SetForm t (InfixForm Add (NameForm t) (NameForm a))) ∷ [];
}

abbrev sum_tree : ModuleTree
sum_tree = record {
  name = codes "acc";
  nets = net clk 1 false Input 0 ∷ net a 4 true Input 0 ∷ net t 4 true OutReg 0 ∷ [];
  items = always clk (set t (binary Add (name t) (name a))) ∷ [];
}

abbrev sum_pieces : List (List ℕ)
sum_pieces =
    codes "module" ∷ codes "acc" ∷ codes "(" ∷ codes "input" ∷ codes "wire" ∷ codes "clk" ∷ codes "," ∷ codes "input" ∷ codes "wire" ∷ codes "[" ∷ codes "3"
    ∷ codes ":" ∷ codes "0" ∷ codes "]" ∷ codes "a" ∷ codes "," ∷ codes "output" ∷ codes "reg" ∷ codes "[" ∷ codes "3" ∷ codes ":" ∷ codes "0" ∷ codes "]"
    ∷ codes "t" ∷ codes ")" ∷ codes ";" ∷ codes "always" ∷ codes "@" ∷ codes "(" ∷ codes "posedge" ∷ codes "clk" ∷ codes ")" ∷ codes "t" ∷ codes "<="
    ∷ codes "t" ∷ codes "+" ∷ codes "a" ∷ codes ";" ∷ codes "endmodule" ∷ []

sum_tokens : scan sum_pieces sum_text ≡ Some (module_tokens sum_form)
unfolding token_of signs keys unused_0 unused_1 unused_2 unused_3 unused_4 unused_5 unused_6 unused_7 unused_8 unused_9
sum_tokens = refl

sum_spelled : Spells sum_text sum_tree
sum_spelled = record {
  form = sum_form;
  formed = (record { statement = refl; formed = (lit≤ tt, (lit≤ tt, lit< tt, tt, tt)); depth = lit≤ tt }, tt);
  written = scanned sum_pieces sum_text _ sum_tokens;
  tree = refl;
}

-- sums at the width of their target, of their operands and of themselves

abbrev widths_text : List ℕ
widths_text =
    codes
    "module m (input [3:0] a, b, output [4:0] s, n, k, output g); assign s = a + b; assign n = ~a; assign k = {a + b}; assign g = (a + b) > 4'd15; endmodule"

abbrev s : List ℕ
s = codes "s"

abbrev n : List ℕ
n = codes "n"

abbrev k : List ℕ
k = codes "k"

abbrev g : List ℕ
g = codes "g"

abbrev added : ExprForm
added = InfixForm Add (NameForm a) (NameForm b)

abbrev widths_form : ModuleForm
widths_form = record {
  name = codes "m";
  first = port (InputHead false) (Some (DecimalForm 3)) a (b ∷ []);
  more = port (OutputHead false) (Some (DecimalForm 4)) s (n ∷ k ∷ []) ∷ port (OutputHead false) None g [] ∷ [];
  items =
      AssignItem (driven s added) [] ∷ AssignItem (driven n (PrefixForm Flip (NameForm a))) []
      ∷ AssignItem (driven k (BracesForm (LastPart added))) []
      ∷ AssignItem (driven g (InfixForm Gt (ParensForm added) (ConstForm 4 15 true))) [] ∷ [];
}

abbrev added_tree : ExprTree
added_tree = binary Add (name a) (name b)

abbrev widths_tree : ModuleTree
widths_tree = record {
  name = codes "m";
  nets =
      net a 4 true Input 0 ∷ net b 4 true Input 0 ∷ net s 5 true OutWire 0 ∷ net n 5 true OutWire 0 ∷ net k 5 true OutWire 0
      ∷ net g 1 false OutWire 0 ∷ [];
  items =
      assigns (drive s added_tree ∷ []) ∷ assigns (drive n (unary Flip (name a)) ∷ [])
      ∷ assigns (drive k (concat_one added_tree) ∷ [])
      ∷ assigns (drive g (binary Gt added_tree (constant 4 15 true)) ∷ []) ∷ [];
}

abbrev widths_pieces : List (List ℕ)
widths_pieces =
    codes "module" ∷ codes "m" ∷ codes "(" ∷ codes "input" ∷ codes "[" ∷ codes "3" ∷ codes ":" ∷ codes "0" ∷ codes "]" ∷ codes "a" ∷ codes "," ∷ codes "b"
    ∷ codes "," ∷ codes "output" ∷ codes "[" ∷ codes "4" ∷ codes ":" ∷ codes "0" ∷ codes "]" ∷ codes "s" ∷ codes "," ∷ codes "n" ∷ codes "," ∷ codes "k"
    ∷ codes "," ∷ codes "output" ∷ codes "g" ∷ codes ")" ∷ codes ";" ∷ codes "assign" ∷ codes "s" ∷ codes "=" ∷ codes "a" ∷ codes "+" ∷ codes "b" ∷ codes ";"
    ∷ codes "assign" ∷ codes "n" ∷ codes "=" ∷ codes "~" ∷ codes "a" ∷ codes ";" ∷ codes "assign" ∷ codes "k" ∷ codes "=" ∷ codes "{" ∷ codes "a" ∷ codes "+"
    ∷ codes "b" ∷ codes "}" ∷ codes ";" ∷ codes "assign" ∷ codes "g" ∷ codes "=" ∷ codes "(" ∷ codes "a" ∷ codes "+" ∷ codes "b" ∷ codes ")" ∷ codes ">"
    ∷ codes "4'd15" ∷ codes ";" ∷ codes "endmodule" ∷ []

widths_tokens : scan widths_pieces widths_text ≡ Some (module_tokens widths_form)
unfolding token_of signs keys unused_0 unused_1 unused_2 unused_3 unused_4 unused_5 unused_6 unused_7 unused_8 unused_9
widths_tokens = refl

widths_spelled : Spells widths_text widths_tree
widths_spelled = record {
  form = widths_form;
  formed = (
    (record { level = lit≤ tt; formed = (lit≤ tt, lit< tt, tt, tt); depth = lit≤ tt }, tt),
    (
      (record { level = lit≤ tt; formed = (refl, tt); depth = lit≤ tt }, tt),
      (
        (record { level = lit≤ tt; formed = (refl, (lit≤ tt, (lit≤ tt, lit< tt, tt, tt))); depth = lit≤ tt }, tt),
        (
          (record { level = lit≤ tt; formed = (lit≤ tt, lit< tt, (lit≤ tt, (lit≤ tt, lit< tt, tt, tt)), tt); depth = lit≤ tt }, tt),
          tt,
        ),
      ),
    ),
  );
  written = scanned widths_pieces widths_text _ widths_tokens;
  tree = refl;
}

no_stars : stars widths_tree ≡ 0
no_stars = refl

-- lists of names, memories, and an `else` of the nearest `if`

abbrev nested_text : List ℕ
nested_text =
    codes
    "module m (input c, input [1:0] i, a, output reg r);\n  reg [3:0] q [0:3], p;\n  wire w = q[i] > 4'hA, /* an open `if` */ v = c ? w : p[3:1] == 3'b1_0_1 ? ~w : !c;\n  always @(posedge c) if (w) if (v) r <= 1'd1; else begin q[i] <= p; q[0] <= {c, p[2:0]}; end\nendmodule"

abbrev c : List ℕ
c = codes "c"

abbrev i : List ℕ
i = codes "i"

abbrev r : List ℕ
r = codes "r"

abbrev q : List ℕ
q = codes "q"

abbrev p : List ℕ
p = codes "p"

abbrev w : List ℕ
w = codes "w"

abbrev v : List ℕ
v = codes "v"

abbrev nested_form : ModuleForm
nested_form = record {
  name = codes "m";
  first = port (InputHead false) None c [];
  more = port (InputHead false) (Some (DecimalForm 1)) i (a ∷ []) ∷ port OutputRegHead None r [] ∷ [];
  items =
      RegItem (Some (DecimalForm 3)) (stored q (DecimalForm 3)) (plain p ∷ [])
      ∷ WireDrives None (driven w (InfixForm Gt (IndexForm q (NameForm i)) (ConstForm 4 10 true)))
      (driven v (ChoiceForm (NameForm c) (NameForm w) (ChoiceForm (InfixForm Eq (PartForm p (DecimalForm 3) (DecimalForm 1)) (ConstForm 3 5 true))
      (PrefixForm Flip (NameForm w)) (PrefixForm Not (NameForm c)))) ∷ [])
      ∷ AlwaysItem c (IfForm (NameForm w) (IfElseForm (NameForm v) (SetForm r (ConstForm 1 1 true))
      (BlockForm (More (PutForm q (NameForm i) (NameForm p))
      (More (PutPlaceForm q ZeroForm (BracesForm (MoreParts (NameForm c) (LastPart (PartForm p (DecimalForm 2) ZeroForm))))) NoMore))))) ∷ [];
}

abbrev nested_tree : ModuleTree
nested_tree = record {
  name = codes "m";
  nets =
      net c 1 false Input 0 ∷ net i 2 true Input 0 ∷ net a 2 true Input 0 ∷ net r 1 false OutReg 0 ∷ net q 4 true (Memory 4) 1
      ∷ net p 4 true Reg 1 ∷ net w 1 false Wire 2 ∷ net v 1 false Wire 2 ∷ [];
  items =
      nets []
      ∷ nets (drive w (binary Gt (index q (name i)) (constant 4 10 true))
      ∷ drive v (choice (name c) (name w) (choice (binary Eq (part p 3 1) (constant 3 5 true)) (unary Flip (name w)) (unary Not (name c)))) ∷ [])
      ∷ always c (when (name w) (either (name v) (set r (constant 1 1 true))
      (block_more (put q (name i) (name p)) (block_more (put q (place 0) (concat_more (name c) (concat_one (part p 2 0)))) block_end)))) ∷ [];
}

abbrev nested_pieces : List (List ℕ)
nested_pieces =
    codes "module" ∷ codes "m" ∷ codes "(" ∷ codes "input" ∷ codes "c" ∷ codes "," ∷ codes "input" ∷ codes "[" ∷ codes "1" ∷ codes ":" ∷ codes "0" ∷ codes "]"
    ∷ codes "i" ∷ codes "," ∷ codes "a" ∷ codes "," ∷ codes "output" ∷ codes "reg" ∷ codes "r" ∷ codes ")" ∷ codes ";" ∷ codes "reg" ∷ codes "[" ∷ codes "3"
    ∷ codes ":" ∷ codes "0" ∷ codes "]" ∷ codes "q" ∷ codes "[" ∷ codes "0" ∷ codes ":" ∷ codes "3" ∷ codes "]" ∷ codes "," ∷ codes "p" ∷ codes ";"
    ∷ codes "wire" ∷ codes "w" ∷ codes "=" ∷ codes "q" ∷ codes "[" ∷ codes "i" ∷ codes "]" ∷ codes ">" ∷ codes "4'hA" ∷ codes "," ∷ codes "v" ∷ codes "="
    ∷ codes "c" ∷ codes "?" ∷ codes "w" ∷ codes ":" ∷ codes "p" ∷ codes "[" ∷ codes "3" ∷ codes ":" ∷ codes "1" ∷ codes "]" ∷ codes "==" ∷ codes "3'b1_0_1"
    ∷ codes "?" ∷ codes "~" ∷ codes "w" ∷ codes ":" ∷ codes "!" ∷ codes "c" ∷ codes ";" ∷ codes "always" ∷ codes "@" ∷ codes "(" ∷ codes "posedge" ∷ codes "c"
    ∷ codes ")" ∷ codes "if" ∷ codes "(" ∷ codes "w" ∷ codes ")" ∷ codes "if" ∷ codes "(" ∷ codes "v" ∷ codes ")" ∷ codes "r" ∷ codes "<=" ∷ codes "1'd1"
    ∷ codes ";" ∷ codes "else" ∷ codes "begin" ∷ codes "q" ∷ codes "[" ∷ codes "i" ∷ codes "]" ∷ codes "<=" ∷ codes "p" ∷ codes ";" ∷ codes "q" ∷ codes "["
    ∷ codes "0" ∷ codes "]" ∷ codes "<=" ∷ codes "{" ∷ codes "c" ∷ codes "," ∷ codes "p" ∷ codes "[" ∷ codes "2" ∷ codes ":" ∷ codes "0" ∷ codes "]"
    ∷ codes "}" ∷ codes ";" ∷ codes "end" ∷ codes "endmodule" ∷ []

nested_tokens : scan nested_pieces nested_text ≡ Some (module_tokens nested_form)
unfolding token_of signs keys unused_0 unused_1 unused_2 unused_3 unused_4 unused_5 unused_6 unused_7 unused_8 unused_9
nested_tokens = refl

nested_spelled : Spells nested_text nested_tree
nested_spelled = record {
  form = nested_form;
  formed = (
    tt,
    (
      (
        record { level = lit≤ tt; formed = (lit≤ tt, lit< tt, (lit≤ tt, tt), tt); depth = lit≤ tt },
        (
          record {
            level = lit≤ tt;
            formed = (
              lit≤ tt,
              lit≤ tt,
              lit≤ tt,
              tt,
              tt,
              (lit≤ tt, lit≤ tt, lit≤ tt, (lit≤ tt, lit< tt, tt, tt), (refl, tt), (refl, tt)),
            );
            depth = lit≤ tt;
          },
          tt,
        ),
      ),
      (
        record {
          statement = refl;
          formed = (
            lit≤ tt,
            refl,
            tt,
            (
              lit≤ tt,
              refl,
              refl,
              refl,
              tt,
              (lit≤ tt, tt),
              (refl, (refl, refl, (lit≤ tt, lit≤ tt, tt, tt), (refl, refl, (lit≤ tt, (refl, (lit≤ tt, refl, tt, (lit≤ tt, tt)))), tt))),
            ),
          );
          depth = lit≤ tt;
        },
        tt,
      ),
    ),
  );
  written = scanned nested_pieces nested_text _ nested_tokens;
  tree = refl;
}
