-- The steps of the code's reader behind the header.
use Rattle.std.proofs.Common.{◌≡◌, ℕ, ◌<◌, ◌≤◌, ◌^◌, Bool, true, false, ◌&&◌, ◌||◌, nat_eq, nat_lt, List, [], ◌∷◌, ◌++◌, length, set, Option, Some, None, is_some, if◌then◌else◌, refl, sym, ap, ◌∙◌, subst, arith, inl, inr, ◌⊎◌, Vec}
use Rattle.std.specs.Prelude.{codes, IsTrue}
use Rattle.std.specs.List.{All}
use Rattle.std.specs.Str.{bytes_eq}
use Rattle.std.specs.Str.Parse.{digits_value}
use Rattle.std.specs.declared.alloc.Global.{Global}
use Rattle.std.proofs.lemmas.Bool.{cases_lt, lt-ltb}
use Rattle.std.proofs.Math.Nat.{pow-le-pow_right}
use Rattle.std.proofs.lemmas.Slice.Eq.{bytes_eq-Decides}
use Rattle.ae_vcd.specs.declared.expected.Expected.TheVariants.{CommentRest, PieceHead, ValueCode}
use Rattle.ae_vcd.specs.declared.body.Recorded.{Recorded}
use Rattle.ae_vcd.specs.declared.reader.Reader.{Reader}
use Rattle.ae_vcd.specs.Codes.{place}
use Rattle.ae_vcd.specs.Forms.{Binary, Bit, HeaderCommand, Piece, Silent, Time, Variable, has_time, is_after, is_binary, is_binary_digit, is_bit, is_silent, is_time, takes, variables}
use Rattle.ae_vcd.specs.Machine.{Body, Remark, State, Value, at, has_room, only_if, step, step_body, step_in, time_of}
use Rattle.ae_vcd.specs.Rows.{words_now}
use Rattle.ae_vcd.specs.Held.{Answers, Declares, Follows, HasAdvanced, HasTimes, IsReader, Records, begun_in, is_marked, row}
use Rattle.ae_vcd.proofs.Reading.{append_none, either, same_byte}
use Rattle.ae_vcd.proofs.Bodies.{in_reach, present, records_given, records_silent, records_time}
use Rattle.ae_vcd.proofs.Steps.{body_place, granted, refused, value_place}
use Rattle.ae_vcd.proofs.Written.{not_less}
use Rattle.ae_vcd.proofs.Tables.{room_widest}

-- what is so where a piece begins
pub record InBody (r : Reader) (s : State) : Type 0 where
  pub declares : Declares r.declared (variables s.commands)
  pub some : 1 ≤ length (variables s.commands)
  pub records : Records r.recorded r.declared.codes (variables s.commands) s.pieces
  pub steps : (w : List ℕ) → step s w ≡ step_body s.commands s.pieces w

pub in_body : (r : Reader) (s : State) → Follows r s → r.expected ≡ PieceHead → InBody r s
in_body r s f here = body_place (λ mode. Follows r (at s.commands s.pieces mode) → InBody r (at s.commands s.pieces mode)) s.mode (sym f.expected ∙ here)
    (λ g. record {
      declares = subst (λ (l : List Variable). Declares r.declared l) (append_none (variables s.commands)) g.declares;
      some = g.holds.0;
      records = g.holds.1;
      steps = λ w. refl;
    })
    f

-- what the codes, the times and the place have to be for a state between pieces
follows_body : (r : Reader) (cs : List HeaderCommand) (ps : List Piece) → r.expected ≡ PieceHead → Declares r.declared (variables cs)
    → 1 ≤ length (variables cs) → Records r.recorded r.declared.codes (variables cs) ps → Follows r (at cs ps Body)
follows_body r cs ps here d some h = record {
  expected = here;
  code = tt;
  declares = subst (λ (l : List Variable). Declares r.declared l) (sym (append_none (variables cs))) d;
  some = λ e. some;
  holds = (some, h);
}

-- ---- times

pub time_refused : (r : Reader) (s : State) (digits : List ℕ) → Follows r s → r.expected ≡ PieceHead → is_time digits ≡ false
    → Answers false r (step s (35 ∷ digits))
time_refused r s digits f here off =
    let b = in_body r s f here in
    subst (λ o. Answers false r o) (sym (b.steps (35 ∷ digits)))
    (refused (is_time digits && is_after (time_of None s.pieces) (digits_value 10 digits)) r (at s.commands (s.pieces ++ Time digits ∷ []) Body)
    (ap (λ t. t && is_after (time_of None s.pieces) (digits_value 10 digits)) off))

pub time_numbers : (r : Reader) (numbers : List ℕ) → numbers ≡ r.declared.numbers.items → IsReader r → r.expected ≡ PieceHead
    → All (λ n. n < length r.recorded.latest.items) numbers
time_numbers r numbers same h here =
    subst (λ (l : List ℕ). All (λ n. n < length r.recorded.latest.items) l) (sym same)
    (let b = in_body r h.0 h.1 here in in_reach r.declared.codes r.declared.code_widths.items r.declared.numbers.items r.recorded.latest.items
    (variables h.0.commands) b.declares.table b.records.each)

pub time_answer : (r : Reader) (s : State) (digits : List ℕ) (time : ℕ) (more : Recorded) (numbers : List ℕ) (b : Bool) → numbers ≡ r.declared.numbers.items
    → Follows r s → r.expected ≡ PieceHead → is_time digits ≡ true → time ≡ digits_value 10 digits
    → ((vs : List Variable) (ps : List Piece) (digits : List ℕ) → HasTimes r.recorded vs ps → length numbers ≡ length vs
    → row r.recorded.latest.items numbers ≡ words_now vs ps → time ≡ digits_value 10 digits → HasAdvanced b r.recorded more vs ps digits)
    → Answers b (record r { recorded = more }) (step s (35 ∷ digits))
time_answer r s digits time more numbers b same f here is e adv =
    let i = in_body r s f here in
    let vs : List Variable = variables s.commands in
    let shown : row r.recorded.latest.items numbers ≡ words_now (variables s.commands) s.pieces = ap (row r.recorded.latest.items) same ∙
    present r.declared.codes r.declared.code_widths.items r.declared.numbers.items r.recorded.latest.items
    (variables s.commands) s.pieces i.declares.table i.records.now in
    subst (λ o. Answers b (record r { recorded = more }) o) (sym (i.steps (35 ∷ digits)))
    (by b (adv (variables s.commands) s.pieces digits i.records.times (ap (λ (l : List ℕ). length l) same ∙ i.declares.table.many) shown e) i)
  where
    by : (b : Bool) → HasAdvanced b r.recorded more (variables s.commands) s.pieces digits → InBody r s
        → Answers b (record r { recorded = more }) (only_if (is_time digits && is_after (time_of None s.pieces) (digits_value 10 digits))
        (at s.commands (s.pieces ++ Time digits ∷ []) Body))
    by true h i = granted (is_time digits && is_after (time_of None s.pieces) (digits_value 10 digits)) (record r { recorded = more })
        (at s.commands (s.pieces ++ Time digits ∷ []) Body) (λ j. is j && h.0 j)
        (follows_body (record r { recorded = more }) s.commands (s.pieces ++ Time digits ∷ []) here i.declares i.some
        (records_time r.recorded more r.declared.codes (variables s.commands) s.pieces (Time digits) (λ code was. refl) h.2 h.1 i.records))
    by false h i = refused (is_time digits && is_after (time_of None s.pieces) (digits_value 10 digits)) (record r { recorded = more })
        (at s.commands (s.pieces ++ Time digits ∷ []) Body) (λ j. is j && h j)

-- ---- bits

bit_step : (cs : List HeaderCommand) (ps : List Piece) (bit : ℕ) (code : List ℕ) → IsTrue (is_binary_digit bit)
    → step_body cs ps (bit ∷ code) ≡ only_if (has_time (time_of None ps) && is_bit (variables cs) code) (at cs (ps ++ Bit bit code ∷ []) Body)
bit_step cs ps bit code h = elim (either (nat_eq bit 48) (nat_eq bit 49) h) [
  | inl e ↦ subst (λ b. step_body cs ps (b ∷ code) ≡ only_if (has_time (time_of None ps) && is_bit (variables cs) code) (at cs (ps ++ Bit b code ∷ []) Body))
      (sym (same_byte bit 48 e)) refl
  | inr e ↦ subst (λ b. step_body cs ps (b ∷ code) ≡ only_if (has_time (time_of None ps) && is_bit (variables cs) code) (at cs (ps ++ Bit b code ∷ []) Body))
      (sym (same_byte bit 49 e)) refl
]

and_none : (b : Bool) → (b && false) ≡ false
and_none true = refl
and_none false = refl

untimed : (r : Reader) (s : State) → InBody r s → is_some r.recorded.last ≡ false → has_time (time_of None s.pieces) ≡ false
untimed r s i none = not_timed (time_of None s.pieces) (ap is_some (sym i.records.times.last) ∙ none)
  where
    not_timed : (o : Option ℕ) → is_some o ≡ false → has_time o ≡ false
    not_timed None e = refl
    not_timed (Some t) e = (let f : ⊥ = cc in absurd f)

is_timed : (o : Option ℕ) → is_some o ≡ true → has_time o ≡ true
is_timed None e = (let f : ⊥ = cc in absurd f)
is_timed (Some t) e = refl

timed : (r : Reader) (s : State) → InBody r s → is_some r.recorded.last ≡ true → has_time (time_of None s.pieces) ≡ true
timed r s i e = is_timed (time_of None s.pieces) (ap is_some (sym i.records.times.last) ∙ e)

pub bit_untimed : (r : Reader) (s : State) (bit : ℕ) (code : List ℕ) → Follows r s → r.expected ≡ PieceHead → IsTrue (is_binary_digit bit)
    → is_some r.recorded.last ≡ false → Answers false r (step s (bit ∷ code))
bit_untimed r s bit code f here h none =
    let i = in_body r s f here in
    subst (λ o. Answers false r o) (sym (i.steps (bit ∷ code) ∙ bit_step s.commands s.pieces bit code h))
    (refused (has_time (time_of None s.pieces) && is_bit (variables s.commands) code) r (at s.commands (s.pieces ++ Bit bit code ∷ []) Body)
    (ap (λ t. t && is_bit (variables s.commands) code) (untimed r s i none)))

pub bit_refused : (r : Reader) (s : State) (bit : ℕ) (code : List ℕ) → Follows r s → r.expected ≡ PieceHead → IsTrue (is_binary_digit bit)
    → ((vs : List Variable) → Declares r.declared vs → is_bit vs code ≡ false) → Answers false r (step s (bit ∷ code))
bit_refused r s bit code f here h off =
    let i = in_body r s f here in
    subst (λ o. Answers false r o) (sym (i.steps (bit ∷ code) ∙ bit_step s.commands s.pieces bit code h))
    (refused (has_time (time_of None s.pieces) && is_bit (variables s.commands) code) r (at s.commands (s.pieces ++ Bit bit code ∷ []) Body)
    (ap (λ t. has_time (time_of None s.pieces) && t) (off (variables s.commands) i.declares) ∙ and_none (has_time (time_of None s.pieces))))

pub bit_taken : (r : Reader) (s : State) (bit : ℕ) (code : List ℕ) (n : ℕ) (now : Vec ℕ Global) → Follows r s → r.expected ≡ PieceHead
    → IsTrue (is_binary_digit bit) → is_some r.recorded.last ≡ true
    → ((vs : List Variable) → Declares r.declared vs → is_bit vs code ≡ true) → place code r.declared.codes ≡ Some n
    → now.items ≡ set r.recorded.latest.items n (if nat_eq bit 49 then 1 else 0)
    → Answers true (record r { recorded = record r.recorded { latest = now } }) (step s (bit ∷ code))
bit_taken r s bit code n now f here h last on e is =
    let i = in_body r s f here in
    let more : Reader = record r { recorded = record r.recorded { latest = now } } in
    subst (λ o. Answers true (record r { recorded = record r.recorded { latest = now } }) o)
    (sym (i.steps (bit ∷ code) ∙ bit_step s.commands s.pieces bit code h))
    (granted (has_time (time_of None s.pieces) && is_bit (variables s.commands) code) (record r { recorded = record r.recorded { latest = now } })
    (at s.commands (s.pieces ++ Bit bit code ∷ []) Body) (λ j. timed r s i last j && on (variables s.commands) i.declares j)
    (follows_body (record r { recorded = record r.recorded { latest = now } }) s.commands (s.pieces ++ Bit bit code ∷ []) here i.declares i.some
    (records_given r.recorded now r.declared.codes r.declared.code_widths.items r.declared.numbers.items (variables s.commands) (variables s.commands) s.pieces
    (Bit bit code) code n (if nat_eq bit 49 then 1 else 0) tt (λ c was. refl) i.declares.table e is i.records)))

-- ---- binary words

binary_step : (cs : List HeaderCommand) (ps : List Piece) (letter : ℕ) (digits : List ℕ) → IsTrue (nat_eq letter 98 || nat_eq letter 66)
    → step_body cs ps (letter ∷ digits) ≡ only_if (has_time (time_of None ps) && (is_binary digits && has_room (variables cs) (digits_value 2 digits)))
    (at cs ps (Value letter digits))
binary_step cs ps letter digits h = elim (either (nat_eq letter 98) (nat_eq letter 66) h) [
  | inl e ↦ subst (λ b. step_body cs ps (b ∷ digits) ≡ only_if
      (has_time (time_of None ps) && (is_binary digits && has_room (variables cs) (digits_value 2 digits))) (at cs ps (Value b digits)))
      (sym (same_byte letter 98 e)) refl
  | inr e ↦ subst (λ b. step_body cs ps (b ∷ digits) ≡ only_if
      (has_time (time_of None ps) && (is_binary digits && has_room (variables cs) (digits_value 2 digits))) (at cs ps (Value b digits)))
      (sym (same_byte letter 66 e)) refl
]

binary_no : (r : Reader) (s : State) (letter : ℕ) (digits : List ℕ) → InBody r s → IsTrue (nat_eq letter 98 || nat_eq letter 66)
    → (has_time (time_of None s.pieces) && (is_binary digits && has_room (variables s.commands) (digits_value 2 digits))) ≡ false
    → Answers false r (step s (letter ∷ digits))
binary_no r s letter digits i h off =
    subst (λ o. Answers false r o) (sym (i.steps (letter ∷ digits) ∙ binary_step s.commands s.pieces letter digits h))
    (refused (has_time (time_of None s.pieces) && (is_binary digits && has_room (variables s.commands) (digits_value 2 digits))) r
    (at s.commands s.pieces (Value letter digits)) off)

pub binary_untimed : (r : Reader) (s : State) (letter : ℕ) (digits : List ℕ) → Follows r s → r.expected ≡ PieceHead
    → IsTrue (nat_eq letter 98 || nat_eq letter 66) → is_some r.recorded.last ≡ false → Answers false r (step s (letter ∷ digits))
binary_untimed r s letter digits f here h none =
    let i = in_body r s f here in
    binary_no r s letter digits i h (ap (λ t. t && (is_binary digits && has_room (variables s.commands) (digits_value 2 digits))) (untimed r s i none))

room : (r : Reader) (s : State) (value : ℕ) → InBody r s → has_room (variables s.commands) value ≡ nat_lt value (2 ^ r.declared.widest)
room r s value i = room_widest (variables s.commands) value i.some ∙ ap (λ w. nat_lt value (2 ^ w)) (sym i.declares.most)

pub binary_refused : (r : Reader) (s : State) (letter : ℕ) (digits : List ℕ) → Follows r s → r.expected ≡ PieceHead
    → IsTrue (nat_eq letter 98 || nat_eq letter 66) → (is_binary digits && nat_lt (digits_value 2 digits) (2 ^ r.declared.widest)) ≡ false
    → Answers false r (step s (letter ∷ digits))
binary_refused r s letter digits f here h off =
    let i = in_body r s f here in
    binary_no r s letter digits i h (ap (λ t. has_time (time_of None s.pieces) && t)
    (ap (λ t. is_binary digits && t) (room r s (digits_value 2 digits) i) ∙ off) ∙ and_none (has_time (time_of None s.pieces)))

pub binary_narrow : (r : Reader) (s : State) (letter : ℕ) (digits : List ℕ) (value : ℕ) → Follows r s → r.expected ≡ PieceHead
    → IsTrue (nat_eq letter 98 || nat_eq letter 66) → value ≡ digits_value 2 digits → nat_lt value (2 ^ r.declared.widest) ≡ false
    → Answers false r (step s (letter ∷ digits))
binary_narrow r s letter digits value f here h e wide =
    binary_refused r s letter digits f here h (ap (λ t. is_binary digits && t) (ap (λ n. nat_lt n (2 ^ r.declared.widest)) (sym e) ∙ wide) ∙
    and_none (is_binary digits))

pub binary_large : (r : Reader) (s : State) (letter : ℕ) (digits : List ℕ) → Follows r s → r.expected ≡ PieceHead
    → IsTrue (nat_eq letter 98 || nat_eq letter 66) → (is_binary digits && nat_lt (digits_value 2 digits) (2 ^ 64)) ≡ false
    → Answers false r (step s (letter ∷ digits))
binary_large r s letter digits f here h off =
    let i = in_body r s f here in
    binary_refused r s letter digits f here h (by (is_binary digits) (cases_lt (digits_value 2 digits) (2 ^ 64)) off i.declares.narrow)
  where
    by : (b : Bool) → (digits_value 2 digits < 2 ^ 64) ⊎ (2 ^ 64 ≤ digits_value 2 digits) → (b && nat_lt (digits_value 2 digits) (2 ^ 64)) ≡ false
        → r.declared.widest ≤ 64 → (b && nat_lt (digits_value 2 digits) (2 ^ r.declared.widest)) ≡ false
    by false l e n = refl
    by true (inl l) e n = (let q : true ≡ false = sym (lt-ltb (digits_value 2 digits) (2 ^ 64) l) ∙ e in let f : ⊥ = cc in absurd f)
    by true (inr l) e n = not_less (digits_value 2 digits) (2 ^ r.declared.widest)
        (let one : 0 < 2 = omega arith in let up : 2 ^ r.declared.widest ≤ 2 ^ 64 = pow-le-pow_right one n in omega arith)

pub binary_taken : (r : Reader) (s : State) (letter : ℕ) (digits : List ℕ) (value : ℕ) → Follows r s → r.expected ≡ PieceHead
    → IsTrue (nat_eq letter 98 || nat_eq letter 66) → is_some r.recorded.last ≡ true → is_binary digits ≡ true → value ≡ digits_value 2 digits
    → nat_lt value (2 ^ r.declared.widest) ≡ true
    → Answers true (record r { expected = ValueCode value }) (step s (letter ∷ digits))
binary_taken r s letter digits value f here h last on e fits =
    let i = in_body r s f here in
    subst (λ o. Answers true (record r { expected = ValueCode value }) o) (sym (i.steps (letter ∷ digits) ∙ binary_step s.commands s.pieces letter digits h))
    (granted (has_time (time_of None s.pieces) && (is_binary digits && has_room (variables s.commands) (digits_value 2 digits)))
    (record r { expected = ValueCode value }) (at s.commands s.pieces (Value letter digits))
    (λ j. timed r s i last j && (on j && (room r s (digits_value 2 digits) i ∙ (ap (λ n. nat_lt n (2 ^ r.declared.widest)) (sym e) ∙ fits)) j))
    (record {
      expected = ap (λ n. ValueCode n) e;
      code = tt;
      declares = subst (λ (l : List Variable). Declares r.declared l) (sym (append_none (variables s.commands))) i.declares;
      some = λ b. i.some;
      holds = (i.some, i.records);
    }))

-- ---- codes of words

pub value_declares : (r : Reader) (s : State) (value : ℕ) → Follows r s → r.expected ≡ ValueCode value → Declares r.declared (variables s.commands)
value_declares r s value f here =
    value_place (λ mode. Declares r.declared (variables s.commands ++ begun_in mode) → Declares r.declared (variables s.commands)) s.mode value
    (sym f.expected ∙ here) (λ letter digits e d. subst (λ (l : List Variable). Declares r.declared l) (append_none (variables s.commands)) d) f.declares

pub value_refused : (r : Reader) (s : State) (code : List ℕ) (value : ℕ) → Follows r s → r.expected ≡ ValueCode value
    → ((vs : List Variable) → Declares r.declared vs → takes vs code value ≡ false) → Answers false r (step s code)
value_refused r s code value f here off = value_place (λ mode. Answers false r (step_in mode s.commands s.pieces code)) s.mode value (sym f.expected ∙ here)
    (λ letter digits e. refused (takes (variables s.commands) code (digits_value 2 digits)) r (at s.commands (s.pieces ++ Binary letter digits code ∷ []) Body)
    (ap (takes (variables s.commands) code) e ∙ off (variables s.commands) (value_declares r s value f here)))

pub value_taken : (r : Reader) (s : State) (code : List ℕ) (value n : ℕ) (now : Vec ℕ Global) → Follows r s → r.expected ≡ ValueCode value
    → ((vs : List Variable) → Declares r.declared vs → takes vs code value ≡ true) → place code r.declared.codes ≡ Some n
    → now.items ≡ set r.recorded.latest.items n value
    → Answers true (record r { expected = PieceHead; recorded = record r.recorded { latest = now } }) (step s code)
value_taken r s code value n now f here on p is =
    value_place (λ mode. Follows r (at s.commands s.pieces mode)
    → Answers true (record r { expected = PieceHead; recorded = record r.recorded { latest = now } }) (step_in mode s.commands s.pieces code)) s.mode value
    (sym f.expected ∙ here)
    (λ letter digits e g.
    let d = value_declares r s value f here in
    granted (takes (variables s.commands) code (digits_value 2 digits)) (record r { expected = PieceHead; recorded = record r.recorded { latest = now } })
    (at s.commands (s.pieces ++ Binary letter digits code ∷ []) Body) (ap (takes (variables s.commands) code) e ∙ on (variables s.commands) d)
    (follows_body (record r { expected = PieceHead; recorded = record r.recorded { latest = now } }) s.commands
    (s.pieces ++ Binary letter digits code ∷ []) refl d g.holds.0
    (records_given r.recorded now r.declared.codes r.declared.code_widths.items r.declared.numbers.items (variables s.commands) (variables s.commands) s.pieces
    (Binary letter digits code) code n (digits_value 2 digits) tt (λ c was. refl) d.table p (is ∙ ap (set r.recorded.latest.items n) (sym e)) g.holds.1)))
    f

pub comment_taken : (r : Reader) (s : State) (w : List ℕ) → Follows r s → r.expected ≡ PieceHead → bytes_eq w (codes "$comment") ≡ true
    → Answers true (record r { expected = CommentRest }) (step s w)
comment_taken r s w f here e =
    let i = in_body r s f here in
    let is : w ≡ codes "$comment" = (bytes_eq-Decides w (codes "$comment")).0 e in
    subst (λ o. Answers true (record r { expected = CommentRest }) o) (sym (i.steps w ∙ ap (step_body s.commands s.pieces) is))
    (record {
      expected = refl;
      code = tt;
      declares = subst (λ (l : List Variable). Declares r.declared l) (sym (append_none (variables s.commands))) i.declares;
      some = λ b. i.some;
      holds = (i.some, i.records);
    })

other_step : (cs : List HeaderCommand) (ps : List Piece) (w : List ℕ) → is_marked w ≡ false → bytes_eq w (codes "$comment") ≡ false
    → step_body cs ps w ≡ only_if (is_silent w) (at cs (ps ++ Silent w ∷ []) Body)
other_step cs ps [] m e = refl
other_step cs ps (b ∷ bs) m e =
    let p : nat_eq b 35 ≡ false = first (nat_eq b 35) (is_binary_digit b || (nat_eq b 98 || nat_eq b 66)) m in
    let q : (is_binary_digit b || (nat_eq b 98 || nat_eq b 66)) ≡ false = second (nat_eq b 35) (is_binary_digit b || (nat_eq b 98 || nat_eq b 66)) m in
    let x : is_binary_digit b ≡ false = first (is_binary_digit b) (nat_eq b 98 || nat_eq b 66) q in
    let y : (nat_eq b 98 || nat_eq b 66) ≡ false = second (is_binary_digit b) (nat_eq b 98 || nat_eq b 66) q in
    ap (λ t. if t then only_if (is_time bs && is_after (time_of None ps) (digits_value 10 bs)) (at cs (ps ++ Time bs ∷ []) Body) else
    (if is_binary_digit b then only_if (has_time (time_of None ps) && is_bit (variables cs) bs) (at cs (ps ++ Bit b bs ∷ []) Body)
    else (if nat_eq b 98 || nat_eq b 66 then only_if (has_time (time_of None ps) && (is_binary bs && has_room (variables cs) (digits_value 2 bs)))
    (at cs ps (Value b bs))
    else (if bytes_eq (b ∷ bs) (codes "$comment") then Some (at cs ps (Remark [])) else only_if (is_silent (b ∷ bs))
    (at cs (ps ++ Silent (b ∷ bs) ∷ []) Body))))) p
    ∙ (ap (λ t. if t then only_if (has_time (time_of None ps) && is_bit (variables cs) bs) (at cs (ps ++ Bit b bs ∷ []) Body)
    else (if nat_eq b 98 || nat_eq b 66 then only_if (has_time (time_of None ps) && (is_binary bs && has_room (variables cs) (digits_value 2 bs)))
    (at cs ps (Value b bs))
    else (if bytes_eq (b ∷ bs) (codes "$comment") then Some (at cs ps (Remark [])) else only_if (is_silent (b ∷ bs))
    (at cs (ps ++ Silent (b ∷ bs) ∷ []) Body)))) x
    ∙ (ap (λ t. if t then only_if (has_time (time_of None ps) && (is_binary bs && has_room (variables cs) (digits_value 2 bs))) (at cs ps (Value b bs))
    else (if bytes_eq (b ∷ bs) (codes "$comment") then Some (at cs ps (Remark [])) else only_if (is_silent (b ∷ bs))
    (at cs (ps ++ Silent (b ∷ bs) ∷ []) Body))) y
    ∙ ap (λ t. if t then Some (at cs ps (Remark [])) else only_if (is_silent (b ∷ bs)) (at cs (ps ++ Silent (b ∷ bs) ∷ []) Body)) e))
  where
    first : (a b : Bool) → (a || b) ≡ false → a ≡ false
    first true b e = e
    first false b e = refl

    second : (a b : Bool) → (a || b) ≡ false → b ≡ false
    second true b e = (let f : ⊥ = cc in absurd f)
    second false b e = e

pub other_answer : (r : Reader) (s : State) (w : List ℕ) (b : Bool) → Follows r s → r.expected ≡ PieceHead → is_marked w ≡ false
    → bytes_eq w (codes "$comment") ≡ false → b ≡ is_silent w → Answers b r (step s w)
other_answer r s w b f here m e is =
    let i = in_body r s f here in
    subst (λ o. Answers b r o) (sym (i.steps w ∙ other_step s.commands s.pieces w m e))
    (subst (λ c. Answers c r (only_if (is_silent w) (at s.commands (s.pieces ++ Silent w ∷ []) Body))) (sym is) (by (is_silent w) i))
  where
    by : (c : Bool) → InBody r s → Answers c r (only_if c (at s.commands (s.pieces ++ Silent w ∷ []) Body))
    by true i = follows_body r s.commands (s.pieces ++ Silent w ∷ []) here i.declares i.some
        (records_silent r.recorded r.declared.codes (variables s.commands) s.pieces (Silent w) tt (λ code was. refl) i.records)
    by false i = tt
