-- What the code of the reader holds, by what it has read.
use Rattle.std.specs.Prelude.{◌≡◌, ℕ, ◌+◌, ◌<◌, ◌≤◌, Bool, true, false, nat_le, nat_lt, ◌&&◌, ◌||◌, nat_eq, max, if◌then◌else◌, List, [], ◌∷◌, ◌++◌, length, map, get_or, Option, Some, None, is_some, bytes_eq, codes, ◌⊎◌}
use Rattle.std.specs.Str.Parse.{digits_value}
use Rattle.ae_vcd.specs.declared.header.Declared.{Declared}
use Rattle.ae_vcd.specs.declared.body.Recorded.{Recorded}
use Rattle.ae_vcd.specs.declared.expected.Expected.{Expected}
use Rattle.ae_vcd.specs.declared.expected.Expected.TheVariants.{CodeWord, CommandHead, CommandRest, CommentRest, HeaderEnd, KindWord, NameWord, PieceHead, ValueCode, WidthWord}
use Rattle.ae_vcd.specs.declared.reader.Reader.{Reader}
use Rattle.ae_vcd.specs.Waves.{bytes_of, most_variables, size_limit, wave_size}
use Rattle.ae_vcd.specs.Codes.{place}
use Rattle.ae_vcd.specs.Forms.{Piece, Time, Variable, agrees, declared, end_word, is_after, is_binary_digit, is_other, is_width, variables}
use Rattle.ae_vcd.specs.Machine.{Between, Body, Code, Inside, Kind, Last, Mode, Name, Remark, State, Value, Width, time_of}
use Rattle.ae_vcd.specs.Readings.{last_given, times_from}
use Rattle.ae_vcd.specs.Rows.{HasRows, is_quiet}

-- ---- variables

abbrev pub code_at : List Variable → ℕ → List ℕ
code_at vs k = get_or (map (λ (v : Variable). v.code) vs) k []

abbrev pub width_at : List Variable → ℕ → ℕ
width_at vs k = get_or (map (λ (v : Variable). v.width) vs) k 0

abbrev pub widest : List Variable → ℕ
widest [] = 0
widest (v ∷ vs) = max v.width (widest vs)

-- codes, each once, with their widths; and for each variable the number of its code
pub record IsTable (known : List (List ℕ)) (widths numbers : List ℕ) (vs : List Variable) : Type 0 where
  pub once : (i : ℕ) → i < length known → place (get_or known i []) known ≡ Some i
  pub each : length widths ≡ length known
  pub many : length numbers ≡ length vs
  pub found : (k : ℕ) → k < length vs → place (code_at vs k) known ≡ Some (get_or numbers k 0)
  pub wide : (k : ℕ) → k < length vs → get_or widths (get_or numbers k 0) 0 ≡ width_at vs k
  pub used : (i : ℕ) → i < length known → (k : ℕ) × (k < length vs) × (get_or numbers k 0 ≡ i)

-- what is kept of the variables of a header
pub record Declares (d : Declared) (vs : List Variable) : Type 0 where
  pub table : IsTable d.codes d.code_widths.items d.numbers.items vs
  pub names : bytes_of d.names.items ≡ map (λ (v : Variable). v.name) vs
  pub widths : d.widths.items ≡ map (λ (v : Variable). v.width) vs
  pub most : d.widest ≡ widest vs
  pub narrow : d.widest ≤ 64

-- no variable has the code
abbrev pub IsNew : List Variable → (code : List ℕ) → Type 0
IsNew vs code = (k : ℕ) → k < length vs → bytes_eq (code_at vs k) code ≡ false

-- some variables have the code, and all of them this width
abbrev pub HasWidth : List Variable → (code : List ℕ) → (width : ℕ) → Type 0
HasWidth vs code width =
    ((k : ℕ) → k < length vs → bytes_eq (code_at vs k) code ≡ true → width_at vs k ≡ width)
    × ((k : ℕ) × (k < length vs) × (bytes_eq (code_at vs k) code ≡ true))

-- a code that is known, or one more behind the others
abbrev pub IsPut : (known more : List (List ℕ)) → (widths wider : List ℕ) → (code : List ℕ) → (width number : ℕ)
    → Type 0
IsPut known more widths wider code width number =
    ((place code known ≡ Some number) × (more ≡ known) × (wider ≡ widths))
    ⊎ ((place code known ≡ None) × (number ≡ length known) × (more ≡ known ++ code ∷ [])
    × (wider ≡ widths ++ width ∷ []))

pub record HasNumber (old new : Declared) (code : List ℕ) (width number : ℕ) : Type 0 where
  pub put : IsPut old.codes new.codes old.code_widths.items new.code_widths.items code width number
  pub numbers : new.numbers.items ≡ old.numbers.items
  pub names : new.names.items ≡ old.names.items
  pub widths : new.widths.items ≡ old.widths.items
  pub most : new.widest ≡ old.widest

-- ---- times and rows

-- the wave of all times but the last is kept, while the size is within its limit
abbrev pub Keeps : Option ℕ → Recorded → List Variable → List Piece → Type 0
Keeps None r vs ps = is_quiet ps × (r.times.items ≡ []) × (r.words.items ≡ [])
Keeps (Some last) r vs ps =
    (earlier : List ℕ) × (rows : List ℕ) × HasRows vs ps earlier last rows
    × (wave_size (length earlier + 1) (length vs) ≤ size_limit → (r.times.items ≡ earlier ++ last ∷ [])
    × (r.words.items ≡ rows))

pub record HasTimes (r : Recorded) (vs : List Variable) (ps : List Piece) : Type 0 where
  pub count : r.count ≡ length (times_from None ps)
  pub last : r.last ≡ time_of None ps
  pub kept : Keeps (time_of None ps) r vs ps

-- the word that each code has now, and the times
pub record Records (r : Recorded) (known : List (List ℕ)) (vs : List Variable) (ps : List Piece) : Type 0 where
  pub now : (i : ℕ) → i < length known → get_or r.latest.items i 0 ≡ last_given (get_or known i []) 0 ps
  pub each : length r.latest.items ≡ length known
  pub times : HasTimes r vs ps

abbrev pub IsFresh : Recorded → Type 0
IsFresh r = (r.latest.items ≡ []) × (r.count ≡ 0) × (r.last ≡ None) × (r.times.items ≡ []) × (r.words.items ≡ [])

-- the present words of some variables, by the numbers of their codes
abbrev pub row : (now numbers : List ℕ) → List ℕ
row now numbers = map (λ n. get_or now n 0) numbers

-- whether so many times of so many variables are within the limit
abbrev pub is_small : (times variables : ℕ) → Bool
is_small times variables = nat_le (wave_size times variables) size_limit

-- the row of the last time is kept, if there is one and the size is within its limit
pub record IsClosed (old new : Recorded) (numbers : List ℕ) : Type 0 where
  pub words : new.words.items ≡ (if is_some old.last && is_small old.count (length numbers) then old.words.items
      ++ row old.latest.items numbers else old.words.items)
  pub now : new.latest.items ≡ old.latest.items
  pub count : new.count ≡ old.count
  pub last : new.last ≡ old.last
  pub times : new.times.items ≡ old.times.items

abbrev pub IsLater : Option ℕ → ℕ → Type 0
IsLater None time = Unit {0}
IsLater (Some last) time = last < time

-- a time is taken, or it is before the last
abbrev pub HasAdvanced : Bool → (old new : Recorded) → List Variable → List Piece → (digits : List ℕ) → Type 0
HasAdvanced true old new vs ps digits =
    (is_after (time_of None ps) (digits_value 10 digits) ≡ true) × HasTimes new vs (ps ++ Time digits ∷ [])
    × (new.latest.items ≡ old.latest.items)
HasAdvanced false old new vs ps digits = is_after (time_of None ps) (digits_value 10 digits) ≡ false

-- ---- where the reader stands

abbrev pub expected_in : Mode → Expected
expected_in Between = CommandHead
expected_in Kind = KindWord
expected_in (Width kind) = WidthWord
expected_in (Code kind digits) = CodeWord (digits_value 10 digits)
expected_in (Name kind digits code) = NameWord (digits_value 10 digits)
expected_in (Inside begun) = CommandRest
expected_in Last = HeaderEnd
expected_in Body = PieceHead
expected_in (Value letter digits) = ValueCode (digits_value 2 digits)
expected_in (Remark begun) = CommentRest

-- the variable of a command whose name is read
abbrev pub begun_in : Mode → List Variable
begun_in (Inside begun) = declared begun
begun_in _ = []

-- the width of a variable, and the code that is kept for its name
abbrev pub HasCode : Mode → List Variable → (code : List ℕ) → Type 0
HasCode (Code kind digits) vs code = digits_value 10 digits ≤ 64
HasCode (Name kind digits own) vs code =
    (code ≡ own) × (agrees vs own (digits_value 10 digits) ≡ true) × (digits_value 10 digits ≤ 64)
HasCode _ vs code = Unit {0}

abbrev pub is_last : Mode → Bool
is_last Last = true
is_last _ = false

abbrev pub is_body : Mode → Bool
is_body Body = true
is_body (Value letter digits) = true
is_body (Remark begun) = true
is_body _ = false

abbrev pub Holds : (is_body : Bool) → Recorded → (known : List (List ℕ)) → List Variable → List Piece → Type 0
Holds false r known vs ps = (ps ≡ []) × IsFresh r
Holds true r known vs ps = (1 ≤ length vs) × Records r known vs ps

-- the reader has read what leads to the state
pub record Follows (r : Reader) (s : State) : Type 0 where
  pub expected : r.expected ≡ expected_in s.mode
  pub code : HasCode s.mode (variables s.commands) r.code.items
  pub declares : Declares r.declared (variables s.commands ++ begun_in s.mode)
  pub some : is_last s.mode ≡ true → 1 ≤ length (variables s.commands)
  pub holds : Holds (is_body s.mode) r.recorded r.declared.codes (variables s.commands) s.pieces

-- the reader has read what leads to some state
abbrev pub IsReader : Reader → Type 0
IsReader r = (s : State) × Follows r s

-- a word is taken and the reader follows, or it is not taken
abbrev pub Answers : Bool → Reader → Option State → Type 0
Answers true r (Some t) = Follows r t
Answers true r None = ⊥
Answers false r (Some t) = ⊥
Answers false r None = Unit {0}

-- ---- words of which nothing is kept

-- what is expected behind the first word of a command
abbrev pub behind_head : (variables : ℕ) → (word : List ℕ) → Option Expected
behind_head variables word =
    if bytes_eq word (codes "$var") then (if nat_lt variables most_variables then Some KindWord else None)
    else (if bytes_eq word (codes "$enddefinitions") then (if nat_lt 0 variables then Some HeaderEnd else None)
    else (if is_other word then Some CommandRest else None))

-- what is expected behind a word of which nothing is kept; none where no dump goes on so
abbrev pub behind : Expected → (variables : ℕ) → (word : List ℕ) → Option Expected
behind CommandHead variables word = behind_head variables word
behind KindWord variables word = Some WidthWord
behind WidthWord variables word = if is_width word then Some (CodeWord (digits_value 10 word)) else None
behind CommandRest variables word = if bytes_eq word end_word then Some CommandHead else Some CommandRest
behind CommentRest variables word = if bytes_eq word end_word then Some PieceHead else Some CommentRest
behind _ variables word = None

abbrev pub is_passed : Expected → Bool
is_passed CommandHead = true
is_passed KindWord = true
is_passed WidthWord = true
is_passed CommandRest = true
is_passed CommentRest = true
is_passed _ = false

-- whether a word begins as a time or a value does
abbrev pub is_marked : List ℕ → Bool
is_marked [] = false
is_marked (b ∷ bs) = nat_eq b 35 || (is_binary_digit b || (nat_eq b 98 || nat_eq b 66))
