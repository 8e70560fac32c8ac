-- The steps of the code's reader, one by one.
use Rattle.std.proofs.Common.{◌≡◌, ℕ, ◌<◌, ◌≤◌, Bool, true, false, ◌&&◌, nat_lt, nat_le, List, [], ◌∷◌, ◌++◌, length, replicate, Option, Some, None, if◌then◌else◌, refl, sym, ap, ◌∙◌, subst, arith, Vec}
use Rattle.std.specs.Prelude.{codes}
use Rattle.std.specs.Str.{bytes_eq}
use Rattle.std.specs.Str.Parse.{digits_value}
use Rattle.std.specs.declared.alloc.Global.{Global}
use Rattle.std.proofs.lemmas.Bool.{leb-true, ltb-true}
use Rattle.ae_vcd.specs.declared.expected.Expected.{Expected}
use Rattle.ae_vcd.specs.declared.expected.Expected.TheVariants.{CodeWord, CommandHead, CommandRest, CommentRest, HeaderEnd, KindWord, NameWord, PieceHead, ValueCode}
use Rattle.ae_vcd.specs.declared.header.Declared.{Declared}
use Rattle.ae_vcd.specs.declared.body.Recorded.{Recorded}
use Rattle.ae_vcd.specs.declared.reader.Reader.{Reader}
use Rattle.ae_vcd.specs.Waves.{is_code, is_variable_name, most_variables}
use Rattle.ae_vcd.specs.Forms.{HeaderCommand, Comment, Declare, Other, Piece, Variable, agrees, declared, end_word, is_number, is_other, is_width, variables}
use Rattle.ae_vcd.specs.Machine.{Between, Body, Code, Inside, Kind, Last, Mode, Name, Remark, State, Value, Width, at, only_if, step, step_between, step_in, with_more}
use Rattle.ae_vcd.specs.Held.{Answers, Declares, Follows, HasCode, Holds, Records, begun_in, behind, behind_head, expected_in, is_body, is_last, is_passed}
use Rattle.ae_vcd.proofs.Reading.{append_none, both, variables_more}
use Rattle.ae_vcd.proofs.Bodies.{records_begin, records_silent}

-- ---- places

pub code_place : (P : Mode → Type 0) (mode : Mode) (width : ℕ) → expected_in mode ≡ CodeWord width
    → ((kind digits : List ℕ) → digits_value 10 digits ≡ width → P (Code kind digits)) → P mode
code_place P Between width e h = absurd (let f : ⊥ = cc in f)
code_place P Kind width e h = absurd (let f : ⊥ = cc in f)
code_place P (Width kind) width e h = absurd (let f : ⊥ = cc in f)
code_place P (Code kind digits) width e h = h kind digits cc
code_place P (Name kind digits code) width e h = absurd (let f : ⊥ = cc in f)
code_place P (Inside begun) width e h = absurd (let f : ⊥ = cc in f)
code_place P Last width e h = absurd (let f : ⊥ = cc in f)
code_place P Body width e h = absurd (let f : ⊥ = cc in f)
code_place P (Value letter digits) width e h = absurd (let f : ⊥ = cc in f)
code_place P (Remark begun) width e h = absurd (let f : ⊥ = cc in f)

pub name_place : (P : Mode → Type 0) (mode : Mode) (width : ℕ) → expected_in mode ≡ NameWord width
    → ((kind digits code : List ℕ) → digits_value 10 digits ≡ width → P (Name kind digits code)) → P mode
name_place P Between width e h = absurd (let f : ⊥ = cc in f)
name_place P Kind width e h = absurd (let f : ⊥ = cc in f)
name_place P (Width kind) width e h = absurd (let f : ⊥ = cc in f)
name_place P (Code kind digits) width e h = absurd (let f : ⊥ = cc in f)
name_place P (Name kind digits code) width e h = h kind digits code cc
name_place P (Inside begun) width e h = absurd (let f : ⊥ = cc in f)
name_place P Last width e h = absurd (let f : ⊥ = cc in f)
name_place P Body width e h = absurd (let f : ⊥ = cc in f)
name_place P (Value letter digits) width e h = absurd (let f : ⊥ = cc in f)
name_place P (Remark begun) width e h = absurd (let f : ⊥ = cc in f)

pub last_place : (P : Mode → Type 0) (mode : Mode) → expected_in mode ≡ HeaderEnd → (P Last) → P mode
last_place P Between e h = absurd (let f : ⊥ = cc in f)
last_place P Kind e h = absurd (let f : ⊥ = cc in f)
last_place P (Width kind) e h = absurd (let f : ⊥ = cc in f)
last_place P (Code kind digits) e h = absurd (let f : ⊥ = cc in f)
last_place P (Name kind digits code) e h = absurd (let f : ⊥ = cc in f)
last_place P (Inside begun) e h = absurd (let f : ⊥ = cc in f)
last_place P Last e h = h
last_place P Body e h = absurd (let f : ⊥ = cc in f)
last_place P (Value letter digits) e h = absurd (let f : ⊥ = cc in f)
last_place P (Remark begun) e h = absurd (let f : ⊥ = cc in f)

pub body_place : (P : Mode → Type 0) (mode : Mode) → expected_in mode ≡ PieceHead → (P Body) → P mode
body_place P Between e h = absurd (let f : ⊥ = cc in f)
body_place P Kind e h = absurd (let f : ⊥ = cc in f)
body_place P (Width kind) e h = absurd (let f : ⊥ = cc in f)
body_place P (Code kind digits) e h = absurd (let f : ⊥ = cc in f)
body_place P (Name kind digits code) e h = absurd (let f : ⊥ = cc in f)
body_place P (Inside begun) e h = absurd (let f : ⊥ = cc in f)
body_place P Last e h = absurd (let f : ⊥ = cc in f)
body_place P Body e h = h
body_place P (Value letter digits) e h = absurd (let f : ⊥ = cc in f)
body_place P (Remark begun) e h = absurd (let f : ⊥ = cc in f)

pub value_place : (P : Mode → Type 0) (mode : Mode) (value : ℕ) → expected_in mode ≡ ValueCode value
    → ((letter : ℕ) (digits : List ℕ) → digits_value 2 digits ≡ value → P (Value letter digits)) → P mode
value_place P Between value e h = absurd (let f : ⊥ = cc in f)
value_place P Kind value e h = absurd (let f : ⊥ = cc in f)
value_place P (Width kind) value e h = absurd (let f : ⊥ = cc in f)
value_place P (Code kind digits) value e h = absurd (let f : ⊥ = cc in f)
value_place P (Name kind digits code) value e h = absurd (let f : ⊥ = cc in f)
value_place P (Inside begun) value e h = absurd (let f : ⊥ = cc in f)
value_place P Last value e h = absurd (let f : ⊥ = cc in f)
value_place P Body value e h = absurd (let f : ⊥ = cc in f)
value_place P (Value letter digits) value e h = h letter digits cc
value_place P (Remark begun) value e h = absurd (let f : ⊥ = cc in f)

pub refused : (b : Bool) (r : Reader) (t : State) → b ≡ false → Answers false r (only_if b t)
refused true r t e = (let f : ⊥ = cc in absurd f)
refused false r t e = tt

pub granted : (b : Bool) (r : Reader) (t : State) → b ≡ true → Follows r t → Answers true r (only_if b t)
granted true r t e f = f
granted false r t e f = (let g : ⊥ = cc in absurd g)

-- ---- words of which nothing is kept

-- the place changes, and nothing else
pub moved : (r : Reader) (cs : List HeaderCommand) (ps : List Piece) (mode next : Mode) → Follows r (at cs ps mode) → is_body next ≡ is_body mode
    → begun_in next ≡ begun_in mode → HasCode next (variables cs) r.code.items → (is_last next ≡ true → 1 ≤ length (variables cs))
    → Follows (record r { expected = expected_in next }) (at cs ps next)
moved r cs ps mode next f body begun code some = record {
  expected = refl;
  code = code;
  declares = subst (λ (l : List Variable). Declares r.declared (variables cs ++ l)) (sym begun) f.declares;
  some = some;
  holds = subst (λ b. Holds b r.recorded r.declared.codes (variables cs) ps) (sym body) f.holds;
}

abbrev Passed : Option Expected → Reader → Option State → Type 0
Passed None r o = Answers false r o
Passed (Some next) r o = Answers true (record r { expected = next }) o

not_last : (b : Bool) (n : ℕ) → b ≡ false → b ≡ true → 1 ≤ n
not_last true n e h = (let f : ⊥ = cc in absurd f)
not_last false n e h = (let f : ⊥ = cc in absurd f)

pass_head : (r : Reader) (cs : List HeaderCommand) (w : List ℕ) → Follows r (at cs [] Between)
    → Passed (behind_head (length (variables cs)) w) r (step_between cs w)
pass_head r cs w f =
    all (bytes_eq w (codes "$var")) (nat_lt (length (variables cs)) most_variables) (bytes_eq w (codes "$enddefinitions")) (nat_lt 0 (length (variables cs)))
    (is_other w) (λ e. (let l : 0 < length (variables cs) = ltb-true 0 (length (variables cs)) e in omega arith))
  where
    all : (a b c d e : Bool) → (d ≡ true → 1 ≤ length (variables cs))
        → Passed (if a then (if b then Some KindWord else None) else (if
        c then (if d then Some HeaderEnd else None) else (if e then Some CommandRest else None))) r
        (if a then only_if b (at cs [] Kind) else (if c then only_if d (at cs [] Last) else only_if e (at cs [] (Inside (Other w [])))))
    all true true c d e g = moved r cs [] Between Kind f refl refl tt (λ h. not_last false _ refl h)
    all true false c d e g = tt
    all false b true true e g = moved r cs [] Between Last f refl refl tt (λ h. g refl)
    all false b true false e g = tt
    all false b false d true g = moved r cs [] Between (Inside (Other w [])) f refl refl tt (λ h. not_last false _ refl h)
    all false b false d false g = tt

more_declared : (c : HeaderCommand) (w : List ℕ) → declared (with_more c w) ≡ declared c
more_declared (Declare kind digits code name rest) w = refl
more_declared (Other word rest) w = refl

pass_inside : (r : Reader) (cs : List HeaderCommand) (ps : List Piece) (begun : HeaderCommand) (w : List ℕ) → Follows r (at cs ps (Inside begun))
    → Passed (if bytes_eq w end_word then Some CommandHead else Some CommandRest) r (step_in (Inside begun) cs ps w)
pass_inside r cs ps begun w f = all (bytes_eq w end_word)
  where
    all : (b : Bool) → Passed (if b then Some CommandHead else Some CommandRest) r
        (if b then Some (at (cs ++ begun ∷ []) ps Between) else Some (at cs ps (Inside (with_more begun w))))
    all true = record {
      expected = refl;
      code = tt;
      declares = subst (λ (l : List Variable). Declares r.declared l)
          (sym (variables_more cs begun) ∙ sym (append_none (variables (cs ++ begun ∷ [])))) f.declares;
      some = λ h. not_last false _ refl h;
      holds = f.holds;
    }
    all false = moved r cs ps (Inside begun) (Inside (with_more begun w)) f refl (more_declared begun w) tt (λ h. not_last false _ refl h)

pass_remark : (r : Reader) (cs : List HeaderCommand) (ps : List Piece) (begun : List (List ℕ)) (w : List ℕ) → Follows r (at cs ps (Remark begun))
    → Passed (if bytes_eq w end_word then Some PieceHead else Some CommentRest) r (step_in (Remark begun) cs ps w)
pass_remark r cs ps begun w f = all (bytes_eq w end_word)
  where
    all : (b : Bool) → Passed (if b then Some PieceHead else Some CommentRest) r
        (if b then Some (at cs (ps ++ Comment begun ∷ []) Body) else Some (at cs ps (Remark (begun ++ w ∷ []))))
    all true = record {
      expected = refl;
      code = tt;
      declares = f.declares;
      some = λ h. not_last false _ refl h;
      holds = (f.holds.0, records_silent r.recorded r.declared.codes (variables cs) ps (Comment begun) tt (λ code was. refl) f.holds.1);
    }
    all false = moved r cs ps (Remark begun) (Remark (begun ++ w ∷ [])) f refl refl tt (λ h. not_last false _ refl h)

pass_width : (r : Reader) (cs : List HeaderCommand) (ps : List Piece) (kind w : List ℕ) → Follows r (at cs ps (Width kind))
    → Passed (if is_width w then Some (CodeWord (digits_value 10 w)) else None) r (step_in (Width kind) cs ps w)
pass_width r cs ps kind w f = all (is_width w) refl
  where
    small : is_width w ≡ true → digits_value 10 w ≤ 64
    small e = (let p = both (is_number w) (nat_le 1 (digits_value 10 w) && nat_le (digits_value 10 w) 64) e in
        let q = both (nat_le 1 (digits_value 10 w)) (nat_le (digits_value 10 w) 64) p.1 in leb-true (digits_value 10 w) 64 q.1)

    all : (b : Bool) → is_width w ≡ b → Passed (if b then Some (CodeWord (digits_value 10 w)) else None) r (only_if b (at cs ps (Code kind w)))
    all true e = moved r cs ps (Width kind) (Code kind w) f refl refl (small e) (λ h. not_last false _ refl h)
    all false e = tt

passes : (r : Reader) (cs : List HeaderCommand) (ps : List Piece) (mode : Mode) (w : List ℕ) (k : ℕ) → k ≡ length (variables cs ++ begun_in mode)
    → Follows r (at cs ps mode) → is_passed (expected_in mode) ≡ true → Passed (behind (expected_in mode) k w) r (step_in mode cs ps w)
passes r cs ps Between w k n f e =
    let clean : Follows r (at cs [] Between) = subst (λ (l : List Piece). Follows r (at cs l Between)) f.holds.0 f in
    let m : k ≡ length (variables cs) = n ∙ ap (λ (l : List Variable). length l) (append_none (variables cs)) in
    subst (λ j. Passed (behind_head j w) r (step_between cs w)) (sym m) (pass_head r cs w clean)
passes r cs ps Kind w k n f e = moved r cs ps Kind (Width w) f refl refl tt (λ h. not_last false _ refl h)
passes r cs ps (Width kind) w k n f e = pass_width r cs ps kind w f
passes r cs ps (Code kind digits) w k n f e = (let g : ⊥ = cc in absurd g)
passes r cs ps (Name kind digits code) w k n f e = (let g : ⊥ = cc in absurd g)
passes r cs ps (Inside begun) w k n f e = pass_inside r cs ps begun w f
passes r cs ps Last w k n f e = (let g : ⊥ = cc in absurd g)
passes r cs ps Body w k n f e = (let g : ⊥ = cc in absurd g)
passes r cs ps (Value letter digits) w k n f e = (let g : ⊥ = cc in absurd g)
passes r cs ps (Remark begun) w k n f e = pass_remark r cs ps begun w f

-- a word of which nothing is kept
pub pass_answer : (r : Reader) (s : State) (w : List ℕ) (o : Option Expected) → Follows r s → is_passed r.expected ≡ true
    → o ≡ behind r.expected (length r.declared.numbers.items) w → Passed o r (step s w)
pass_answer r s w o f e is =
    subst (λ o. Passed o r (step s w)) (sym (is ∙ ap (λ x. behind x (length r.declared.numbers.items) w) f.expected))
    (passes r s.commands s.pieces s.mode w (length r.declared.numbers.items) f.declares.table.many f (sym (ap is_passed f.expected) ∙ e))

-- ---- declarations

pub code_refused : (r : Reader) (s : State) (w : List ℕ) (width : ℕ) → Follows r s → r.expected ≡ CodeWord width → is_code w ≡ false
    → Answers false r (step s w)
code_refused r s w width f here off = code_place (λ mode. Answers false r (step_in mode s.commands s.pieces w)) s.mode width (sym f.expected ∙ here)
    (λ kind digits e. refused (is_code w && agrees (variables s.commands) w (digits_value 10 digits)) r (at s.commands s.pieces (Name kind digits w))
    (ap (λ b. b && agrees (variables s.commands) w (digits_value 10 digits)) off))

code_declares : (r : Reader) (s : State) (width : ℕ) → Follows r s → r.expected ≡ CodeWord width → Declares r.declared (variables s.commands)
code_declares r s width f here =
    code_place (λ mode. Declares r.declared (variables s.commands ++ begun_in mode) → Declares r.declared (variables s.commands)) s.mode width
    (sym f.expected ∙ here) (λ kind digits e d. subst (λ (l : List Variable). Declares r.declared l) (append_none (variables s.commands)) d) f.declares

pub code_contradicted : (r : Reader) (s : State) (w : List ℕ) (width : ℕ) → Follows r s → r.expected ≡ CodeWord width → is_code w ≡ true
    → ((vs : List Variable) → Declares r.declared vs → false ≡ agrees vs w width) → Answers false r (step s w)
code_contradicted r s w width f here on off = code_place (λ mode. Answers false r (step_in mode s.commands s.pieces w)) s.mode width (sym f.expected ∙ here)
    (λ kind digits e. refused (is_code w && agrees (variables s.commands) w (digits_value 10 digits)) r (at s.commands s.pieces (Name kind digits w))
    (λ i. on i && (ap (agrees (variables s.commands) w) e ∙ sym (off (variables s.commands) (code_declares r s width f here))) i))

pub code_taken : (r : Reader) (s : State) (w : List ℕ) (width : ℕ) (code : Vec ℕ Global) → Follows r s → r.expected ≡ CodeWord width → is_code w ≡ true
    → ((vs : List Variable) → Declares r.declared vs → true ≡ agrees vs w width) → code.items ≡ w
    → Answers true (record r { expected = NameWord width; code = code }) (step s w)
code_taken r s w width code f here on fits kept =
    code_place (λ mode. Follows r (at s.commands s.pieces mode)
    → Answers true (record r { expected = NameWord width; code = code }) (step_in mode s.commands s.pieces w)) s.mode width (sym f.expected ∙ here)
    (λ kind digits e g.
    let own : agrees (variables s.commands) w (digits_value 10 digits) ≡ true = ap (agrees (variables s.commands) w) e ∙
    sym (fits (variables s.commands) (code_declares r s width f here)) in
    granted (is_code w && agrees (variables s.commands) w (digits_value 10 digits)) (record r { expected = NameWord width; code = code })
    (at s.commands s.pieces (Name kind digits w)) (λ i. on i && own i)
    (record {
      expected = ap (λ n. NameWord n) (sym e);
      code = (kept, own, g.code);
      declares = g.declares;
      some = λ h. not_last false _ refl h;
      holds = g.holds;
    }))
    f

pub name_refused : (r : Reader) (s : State) (w : List ℕ) (width : ℕ) → Follows r s → r.expected ≡ NameWord width → is_variable_name w ≡ false
    → Answers false r (step s w)
name_refused r s w width f here off = name_place (λ mode. Answers false r (step_in mode s.commands s.pieces w)) s.mode width (sym f.expected ∙ here)
    (λ kind digits code e. refused (is_variable_name w) r (at s.commands s.pieces (Inside (Declare kind digits code w []))) off)

pub name_taken : (r : Reader) (s : State) (w : List ℕ) (width : ℕ) (more : Declared) (own_code : List ℕ) → own_code ≡ r.code.items → Follows r s
    → r.expected ≡ NameWord width → is_variable_name w ≡ true
    → ((vs : List Variable) → Declares r.declared vs → agrees vs own_code width ≡ true → width ≤ 64
    → Declares more (vs ++ record { width = width; code = own_code; name = w } ∷ []))
    → Answers true (record r { expected = CommandRest; declared = more }) (step s w)
name_taken r s w width more own_code same f here on add =
    name_place (λ mode. Follows r (at s.commands s.pieces mode)
    → Answers true (record r { expected = CommandRest; declared = more }) (step_in mode s.commands s.pieces w)) s.mode width (sym f.expected ∙ here)
    (λ kind digits code e g.
    let vs : List Variable = variables s.commands in
    let known : Declares r.declared (variables s.commands) = subst (λ (l : List Variable). Declares r.declared l)
    (append_none (variables s.commands)) g.declares in
    let own : agrees (variables s.commands) own_code width ≡ true = (λ i. agrees (variables s.commands) ((same ∙ g.code.0) i) (sym e i)) ∙ g.code.1 in
    granted (is_variable_name w) (record r { expected = CommandRest; declared = more }) (at s.commands s.pieces (Inside (Declare kind digits code w []))) on
    (record {
      expected = refl;
      code = tt;
      declares = subst (λ (v : Variable). Declares more (variables s.commands ++ v ∷ []))
          (λ i. record { width = sym e i; code = (same ∙ g.code.0) i; name = w }) (add (variables s.commands) known own (let q = g.code.2 in omega arith));
      some = λ h. not_last false _ refl h;
      holds = g.holds;
    }))
    f

-- ---- the end of the header

pub begin_refused : (r : Reader) (s : State) (w : List ℕ) → Follows r s → r.expected ≡ HeaderEnd → bytes_eq w end_word ≡ false → Answers false r (step s w)
begin_refused r s w f here off =
    last_place (λ mode. Answers false r (step_in mode s.commands s.pieces w)) s.mode (sym f.expected ∙ here)
    (refused (bytes_eq w end_word) r (at s.commands s.pieces Body) off)

pub begin_taken : (r : Reader) (s : State) (w : List ℕ) (begun : Recorded) → Follows r s → r.expected ≡ HeaderEnd → bytes_eq w end_word ≡ true
    → begun.latest.items ≡ r.recorded.latest.items ++ replicate (length r.declared.codes) 0 → begun.count ≡ r.recorded.count → begun.last ≡ r.recorded.last
    → begun.times.items ≡ r.recorded.times.items → begun.words.items ≡ r.recorded.words.items
    → Answers true (record r { expected = PieceHead; recorded = begun }) (step s w)
begin_taken r s w begun f here on now count last times words =
    last_place (λ mode. Follows r (at s.commands s.pieces mode)
    → Answers true (record r { expected = PieceHead; recorded = begun }) (step_in mode s.commands s.pieces w)) s.mode (sym f.expected ∙ here)
    (λ g. granted (bytes_eq w end_word) (record r { expected = PieceHead; recorded = begun }) (at s.commands s.pieces Body) on
    (record {
      expected = refl;
      code = tt;
      declares = g.declares;
      some = λ h. not_last false _ refl h;
      holds = (
        g.some refl,
        subst (λ (ps : List Piece). Records begun r.declared.codes (variables s.commands) ps) (sym g.holds.0)
            (records_begin begun r.declared.codes (variables s.commands) (now ∙ ap (λ (l : List ℕ). l ++ replicate (length r.declared.codes) 0) g.holds.1.0)
            (count ∙ g.holds.1.1) (last ∙ g.holds.1.2) (times ∙ g.holds.1.3) (words ∙ g.holds.1.4)),
      );
    }))
    f
