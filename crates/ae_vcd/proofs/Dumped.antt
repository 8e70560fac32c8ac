-- The text of a wave is a dump of it.
use Rattle.std.proofs.Common.{ℕ, zero, suc, ◌≡◌, ◌≢◌, ◌+◌, ◌<◌, ◌≤◌, ◌^◌, List, [], ◌∷◌, ◌++◌, length, length-append, take, map, slice_get, Some, None, Bool, true, false, inl, inr, arith, refl, ap, sym, ◌∙◌, subst}
use Rattle.std.specs.Prelude.{unwrap_or, ◌&&◌, ◌||◌, ◌==◌, not, nat_eq, nat_lt, nat_le, codes, if◌then◌else◌, IsTrue}
use Rattle.std.specs.List.{flat_map, list_all}
use Rattle.std.specs.Str.{bytes_eq}
use Rattle.std.specs.Str.Parse.{digits_value}
use Rattle.std.specs.Fmt.{decimal, digits}
use Rattle.std.proofs.lemmas.Bool.{cases_lt, eqb-true, lt-ltb, le-leb}
use Rattle.std.proofs.lemmas.Fmt.{decimal_digit}
use Rattle.std.proofs.lemmas.List.{append_assoc, map-append, take_more}
use Rattle.std.proofs.lemmas.Option.{unwrap_or-slice_get}
use Rattle.std.proofs.lemmas.List.Elements.{All-get_or}
use Rattle.std.proofs.Math.Pow.{pow_mono}
use Rattle.std.proofs.Math.Seq.{take-length}
use Rattle.ae_vcd.specs.Waves.{IsFormedWave, WaveTree, is_code, is_graphic, is_variable_name, wave_word}
use Rattle.ae_vcd.specs.WaveText.{body_lines, change_line, change_lines, changed_line, code_of, is_changed, time_lines, var_line, var_lines, wave_text}
use Rattle.ae_vcd.specs.TextWords.{text_words}
use Rattle.ae_vcd.specs.Forms.{AreCommands, AreDump, ArePieces, Binary, Bit, HeaderCommand, Declare, IsHeaderCommand, IsPiece, Other, Piece, Time, Variable, agrees, command_words, end_word, is_after, is_bit, piece_words, takes, variables, words_of_commands, words_of_pieces}
use Rattle.ae_vcd.specs.Machine.{time_of}
use Rattle.ae_vcd.specs.Readings.{IsVcd, given, wave_of, words_at_time}
use Rattle.ae_vcd.proofs.Reading.{append_none, both, snoc, variables_more}
use Rattle.ae_vcd.proofs.Sound.{commands_more, commands_words, pieces_more}
use Rattle.ae_vcd.proofs.Written.{IsBinaryOf, IsDecimal, binary_read, code_is_code, code_itself, codes_differ, decimal_read, word_then}
use Rattle.ae_vcd.proofs.Meant.{HasCodes, body_pieces, body_time, change_piece, change_pieces, changed_pieces, changes_no_time, quiet_time, time_append, time_pieces, times_meant, wave_variable, wave_variables, words_meant}

name_code : (n : List ℕ) → is_variable_name n ≡ true → is_code n ≡ true
name_code [] e = cc
name_code (b ∷ bs) e = (both (not (nat_eq b 36)) (is_graphic b && list_all is_graphic bs) e).1

code_cons : (b : ℕ) (x : List ℕ) → is_graphic b ≡ true → list_all is_graphic x ≡ true → is_code (b ∷ x) ≡ true
code_cons b x e f = rw (e, f) refl

code_all : (x : List ℕ) → is_code x ≡ true → list_all is_graphic x ≡ true
code_all [] e = refl
code_all (b ∷ bs) e = e

bit_graphic : (d : ℕ) → d < 2 → is_graphic (48 + d) ≡ true
bit_graphic d b = elim (cases_lt d 1) [ inl z ↦ (let is : d ≡ 0 = omega arith in rw is refl) | inr o ↦ (let is : d ≡ 1 = omega arith in rw is refl) ]

bit_ok : (d : ℕ) → d < 2 → (nat_eq (48 + d) 48 || nat_eq (48 + d) 49) ≡ true
bit_ok d b = elim (cases_lt d 1) [ inl z ↦ (let is : d ≡ 0 = omega arith in rw is refl) | inr o ↦ (let is : d ≡ 1 = omega arith in rw is refl) ]

-- ---- commands

abbrev scale_command : HeaderCommand
scale_command = Other (codes "$timescale") (codes "1" ∷ codes "ns" ∷ [])

abbrev scope_command : HeaderCommand
scope_command = Other (codes "$scope") (codes "module" ∷ codes "aeth" ∷ [])

abbrev end_command : HeaderCommand
end_command = Other (codes "$upscope") []

abbrev var_command : WaveTree → (k : ℕ) → HeaderCommand
var_command w k = Declare (codes "wire") (decimal (unwrap_or (slice_get w.widths k) 0)) (code_of k) (unwrap_or (slice_get w.names k) []) []

abbrev first_commands : WaveTree → (count : ℕ) → List HeaderCommand
first_commands w zero = scale_command ∷ scope_command ∷ []
first_commands w (suc k) = first_commands w k ++ var_command w k ∷ []

abbrev wave_commands : WaveTree → List HeaderCommand
wave_commands w = first_commands w (length w.names) ++ end_command ∷ []

agrees_more : (vs : List Variable) (v : Variable) (code : List ℕ) (width : ℕ) → agrees vs code width ≡ true → bytes_eq v.code code ≡ false
    → agrees (vs ++ v ∷ []) code width ≡ true
agrees_more [] v code width h e = rw e refl
agrees_more (u ∷ vs) v code width h e =
    let p = both (not (bytes_eq u.code code) || u.width == width) (agrees vs code width) h in
    rw p.0 (agrees_more vs v code width p.1 e)

bit_more : (vs us : List Variable) (code : List ℕ) → is_bit vs code ≡ true → is_bit (vs ++ us) code ≡ true
bit_more [] us code h = cc
bit_more (v ∷ vs) us code h = one (bytes_eq v.code code && v.width == 1) h (λ k. bit_more vs us code k)
  where
    one : (b : Bool) → (b || is_bit vs code) ≡ true → (is_bit vs code ≡ true → is_bit (vs ++ us) code ≡ true) → (b || is_bit (vs ++ us) code) ≡ true
    one true h f = refl
    one false h f = f h

bit_last : (vs : List Variable) (v : Variable) (code : List ℕ) → bytes_eq v.code code ≡ true → (v.width == 1) ≡ true → is_bit (vs ++ v ∷ []) code ≡ true
bit_last [] v code e f = rw (e, f) refl
bit_last (u ∷ vs) v code e f = one (bytes_eq u.code code && u.width == 1) (bit_last vs v code e f)
  where
    one : (b : Bool) → is_bit (vs ++ v ∷ []) code ≡ true → (b || is_bit (vs ++ v ∷ []) code) ≡ true
    one true h = refl
    one false h = h

takes_more : (vs us : List Variable) (code : List ℕ) (value : ℕ) → takes vs code value ≡ true → takes (vs ++ us) code value ≡ true
takes_more [] us code value h = cc
takes_more (v ∷ vs) us code value h = one (bytes_eq v.code code && nat_lt value (2 ^ v.width)) h (λ k. takes_more vs us code value k)
  where
    one : (b : Bool) → (b || takes vs code value) ≡ true → (takes vs code value ≡ true → takes (vs ++ us) code value ≡ true)
        → (b || takes (vs ++ us) code value) ≡ true
    one true h f = refl
    one false h f = f h

takes_last : (vs : List Variable) (v : Variable) (code : List ℕ) (value : ℕ) → bytes_eq v.code code ≡ true → nat_lt value (2 ^ v.width) ≡ true
    → takes (vs ++ v ∷ []) code value ≡ true
takes_last [] v code value e f = rw (e, f) refl
takes_last (u ∷ vs) v code value e f = one (bytes_eq u.code code && nat_lt value (2 ^ u.width)) (takes_last vs v code value e f)
  where
    one : (b : Bool) → takes (vs ++ v ∷ []) code value ≡ true → (b || takes (vs ++ v ∷ []) code value) ≡ true
    one true h = refl
    one false h = h

module _ (w : WaveTree) (h : IsFormedWave w) where
  width_in : (k : ℕ) → k < length w.names → (1 ≤ unwrap_or (slice_get w.widths k) 0) × (unwrap_or (slice_get w.widths k) 0 ≤ 64)
  width_in k l = rw (unwrap_or-slice_get w.widths k 0) (All-get_or (λ v. (1 ≤ v) × (v ≤ 64)) w.widths k 0 (omega (arith, h.sized)) h.wide)

  named : (k : ℕ) → k < length w.names → is_variable_name (unwrap_or (slice_get w.names k) []) ≡ true
  named k l = rw (unwrap_or-slice_get w.names k []) (All-get_or (λ n. IsTrue (is_variable_name n)) w.names k [] l h.named)

  few : (k : ℕ) → k < length w.names → k < 830584
  few k l = omega (arith, h.most)

  small : (n : ℕ) → n ≤ 64 → n < 2 ^ 64
  small n l = omega arith

  width_read : (k : ℕ) → k < length w.names → IsDecimal (unwrap_or (slice_get w.widths k) 0)
  width_read k l = decimal_read (unwrap_or (slice_get w.widths k) 0) (small (unwrap_or (slice_get w.widths k) 0) (width_in k l).1)

  time_read : (i : ℕ) → i < length w.times → IsDecimal (unwrap_or (slice_get w.times i) 0)
  time_read i l = decimal_read (unwrap_or (slice_get w.times i) 0) (rw (unwrap_or-slice_get w.times i 0) (All-get_or (λ t. t < 2 ^ 64) w.times i 0 l h.late))

  many : (count : ℕ) → length (wave_variables w count) ≡ count
  many zero = refl
  many (suc k) = length-append (wave_variables w k) (wave_variable w k ∷ []) ∙ (let e = many k in omega arith)

  first_variables : (count : ℕ) → variables (first_commands w count) ≡ wave_variables w count
  first_variables zero = refl
  first_variables (suc k) = variables_more (first_commands w k) (var_command w k) ∙ ap (λ (l : List Variable). l ++ wave_variable w k ∷ []) (first_variables k)

  all_variables : variables (wave_commands w) ≡ wave_variables w (length w.names)
  all_variables = variables_more (first_commands w (length w.names)) end_command ∙
      (append_none (variables (first_commands w (length w.names))) ∙ first_variables (length w.names))

  codes_agree : (k count width : ℕ) → k < length w.names → count ≤ k → agrees (wave_variables w count) (code_of k) width ≡ true
  codes_agree k zero width l b = refl
  codes_agree k (suc c) width l b = agrees_more (wave_variables w c) (wave_variable w c) (code_of k) width (codes_agree k c width l (omega arith))
      (codes_differ c k (few c (omega arith)) (few k l) (λ e. absurd (omega arith)))

  var_is : (k : ℕ) → k < length w.names → IsHeaderCommand (wave_variables w k) (var_command w k)
  var_is k l =
      let n = width_read k l in
      let r = width_in k l in
      let low : nat_le 1 (digits_value 10 (decimal (unwrap_or (slice_get w.widths k) 0))) ≡ true = rw n.value
      (le-leb 1 (unwrap_or (slice_get w.widths k) 0) r.0) in
      let high : nat_le (digits_value 10 (decimal (unwrap_or (slice_get w.widths k) 0))) 64 ≡ true = rw n.value
      (le-leb (unwrap_or (slice_get w.widths k) 0) 64 r.1) in (
        omega (arith, many k, h.most),
        rw (n.number, low, high) refl,
        rw (code_is_code k (few k l), codes_agree k k (digits_value 10 (decimal (unwrap_or (slice_get w.widths k) 0))) l (omega arith)) refl,
        named k l,
        refl,
      )

  first_are : (count : ℕ) → count ≤ length w.names → AreCommands [] (first_commands w count)
  first_are zero l = ((refl, refl), ((refl, refl), tt))
  first_are (suc k) l = commands_more [] (first_commands w k) (var_command w k) (first_are k (omega arith))
      (subst (λ (vs : List Variable). IsHeaderCommand vs (var_command w k)) (sym (first_variables k)) (var_is k l))

  commands_are : AreCommands [] (wave_commands w)
  commands_are = commands_more [] (first_commands w (length w.names)) end_command (first_are (length w.names) (omega arith)) (refl, refl)

  var_words : (k : ℕ) (rest : List ℕ) → k < length w.names → text_words (var_line w k ++ rest) ≡ command_words (var_command w k) ++ text_words rest
  var_words k rest l =
      let d : List ℕ = decimal (unwrap_or (slice_get w.widths k) 0) in
      let n : List ℕ = unwrap_or (slice_get w.names k) [] in
      let end : List ℕ = codes " $end\n" in
      ap (λ (x : List ℕ). codes "$var" ∷ codes "wire" ∷ text_words x) (append_assoc d (codes " " ++ (code_of k ++ (codes " " ++ (n ++ end)))) rest)
      ∙ (ap (λ (x : List (List ℕ)). codes "$var" ∷ codes "wire" ∷ x)
      (word_then d 32 ((code_of k ++ (codes " " ++ (n ++ end))) ++ rest) (width_read k l).code refl)
      ∙ (ap (λ (x : List ℕ). codes "$var" ∷ codes "wire" ∷ d ∷ text_words x) (append_assoc (code_of k) (codes " " ++ (n ++ end)) rest)
      ∙ (ap (λ (x : List (List ℕ)). codes "$var" ∷ codes "wire" ∷ d ∷ x) (word_then (code_of k) 32 ((n ++ end) ++ rest) (code_is_code k (few k l)) refl)
      ∙ (ap (λ (x : List ℕ). codes "$var" ∷ codes "wire" ∷ d ∷ code_of k ∷ text_words x) (append_assoc n end rest)
      ∙ ap (λ (x : List (List ℕ)). codes "$var" ∷ codes "wire" ∷ d ∷ code_of k ∷ x) (word_then n 32 (codes "$end\n" ++ rest) (name_code n (named k l)) refl)))))

  vars_words : (count : ℕ) (rest : List ℕ) → count ≤ length w.names
      → text_words (codes "$timescale 1 ns $end\n$scope module aeth $end\n" ++ (var_lines w count ++ rest)) ≡ words_of_commands (first_commands w count)
      ++ text_words rest
  vars_words zero rest l = refl
  vars_words (suc k) rest l =
      let begin : List ℕ = codes "$timescale 1 ns $end\n$scope module aeth $end\n" in
      ap (λ (x : List ℕ). text_words (begin ++ x)) (append_assoc (var_lines w k) (var_line w k) rest)
      ∙ (vars_words k (var_line w k ++ rest) (omega arith)
      ∙ (ap (λ (x : List (List ℕ)). words_of_commands (first_commands w k) ++ x) (var_words k rest l)
      ∙ (sym (append_assoc (words_of_commands (first_commands w k)) (command_words (var_command w k)) (text_words rest))
      ∙ ap (λ (x : List (List ℕ)). x ++ text_words rest) (sym (commands_words (first_commands w k) (var_command w k))))))

  -- ---- pieces

  below_64 : (word width : ℕ) → width ≤ 64 → word < 2 ^ width → word < 2 ^ 64
  below_64 word width l b = (let p : 2 ^ width ≤ 2 ^ 64 = pow_mono l in omega arith)

  word_small : (i k : ℕ) → i < length w.times → k < length w.names → wave_word w i k < 2 ^ 64
  word_small i k t l = below_64 (wave_word w i k) (unwrap_or (slice_get w.widths k) 0) (width_in k l).1 (h.fit i k t l)

  own_given : (k width word was : ℕ) → width ≤ 64 → word < 2 ^ width → given (code_of k) (change_piece width word k) was ≡ word
  own_given k width word was l b = cases (width == 1) refl
    where
      cases : (c : Bool) → (width == 1) ≡ c → given (code_of k)
          (if c then Bit (48 + word) (code_of k) else Binary 98 (digits 2 false word) (code_of k)) was ≡ word
      cases true e =
          let one : width ≡ 1 = eqb-true width 1 e in
          let low : word < 2 ^ 1 = subst (λ v. word < 2 ^ v) one b in
          elim (cases_lt word 1) [
            | inl z ↦ (let is : word ≡ 0 = omega arith in rw is (rw (code_itself k) refl))
            | inr o ↦ (let is : word ≡ 1 = omega arith in rw is (rw (code_itself k) refl))
          ]
      cases false e = rw (code_itself k) (binary_read word (below_64 word width l b)).value

  other_given : (j k width word was : ℕ) → j < length w.names → k < length w.names → j ≢ k → given (code_of k) (change_piece width word j) was ≡ was
  other_given j k width word was a b ne = cases (width == 1)
    where
      cases : (c : Bool) → given (code_of k) (if c then Bit (48 + word) (code_of j) else Binary 98 (digits 2 false word) (code_of j)) was ≡ was
      cases true = rw (codes_differ j k (few j a) (few k b) ne) refl
      cases false = rw (codes_differ j k (few j a) (few k b) ne) refl

  rises : (i j : ℕ) → i < j → j < length w.times → unwrap_or (slice_get w.times i) 0 < unwrap_or (slice_get w.times j) 0
  rises i zero l b = absurd (omega arith)
  rises i (suc j) l b =
      let one : j + 1 ≡ suc j = omega arith in
      let next : unwrap_or (slice_get w.times j) 0 < unwrap_or (slice_get w.times (suc j)) 0 = subst
      (λ n. unwrap_or (slice_get w.times j) 0 < unwrap_or (slice_get w.times n) 0) one (h.rise j (omega arith)) in
      elim (cases_lt i j) [
        | inl lt ↦ (let r = rises i j lt (omega arith) in omega arith)
        | inr
            le ↦ (let e : j ≡ i = omega arith in subst (λ n. unwrap_or (slice_get w.times n) 0 < unwrap_or (slice_get w.times (suc j)) 0) e next)
      ]

  pub has_codes : HasCodes w
  has_codes = record {
    wide = λ k l. (width_in k l).1;
    own = λ k width word was l. own_given k width word was;
    other = other_given;
    read = λ i l. (time_read i l).value;
    fit = h.fit;
    rise = rises;
  }

  -- ---- the words of changes and times

  change_words : (i k : ℕ) (rest : List ℕ) → i < length w.times → k < length w.names
      → text_words (change_line (unwrap_or (slice_get w.widths k) 0) (wave_word w i k) k ++ rest) ≡ piece_words
      (change_piece (unwrap_or (slice_get w.widths k) 0) (wave_word w i k) k)
      ++ text_words rest
  change_words i k rest t l = cases (unwrap_or (slice_get w.widths k) 0 == 1) refl
    where
      word : ℕ
      word = wave_word w i k

      cases : (c : Bool) → (unwrap_or (slice_get w.widths k) 0 == 1) ≡ c
          → text_words ((if c then decimal (wave_word w i k) ++ (code_of k ++ codes "\n") else codes "b"
          ++ (digits 2 false (wave_word w i k) ++ (codes " " ++ (code_of k ++ codes "\n")))) ++ rest)
          ≡ piece_words (if c then Bit (48 + wave_word w i k) (code_of k) else Binary 98 (digits 2 false (wave_word w i k)) (code_of k)) ++ text_words rest
      cases true e =
          let one : unwrap_or (slice_get w.widths k) 0 ≡ 1 = eqb-true (unwrap_or (slice_get w.widths k) 0) 1 e in
          let low : wave_word w i k < 2 ^ 1 = subst (λ v. wave_word w i k < 2 ^ v) one (h.fit i k t l) in
          let digit : decimal (wave_word w i k) ≡ (48 + wave_word w i k) ∷ [] = decimal_digit (wave_word w i k) (omega arith) in
          let g : is_graphic (48 + wave_word w i k) ≡ true = bit_graphic (wave_word w i k) (omega arith) in
          ap (λ (x : List ℕ). text_words ((x ++ (code_of k ++ codes "\n")) ++ rest)) digit
          ∙ (ap (λ (x : List ℕ). text_words ((48 + wave_word w i k) ∷ x)) (append_assoc (code_of k) (codes "\n") rest)
          ∙ word_then ((48 + wave_word w i k) ∷ code_of k) 10 rest
          (code_cons (48 + wave_word w i k) (code_of k) g (code_all (code_of k) (code_is_code k (few k l)))) refl)
      cases false e =
          let ds : List ℕ = digits 2 false (wave_word w i k) in
          let r : IsBinaryOf (wave_word w i k) = binary_read (wave_word w i k) (word_small i k t l) in
          ap (λ (x : List ℕ). text_words (98 ∷ x)) (append_assoc ds (codes " " ++ (code_of k ++ codes "\n")) rest)
          ∙ (word_then (98 ∷ ds) 32 ((code_of k ++ codes "\n") ++ rest) (code_cons 98 ds refl r.graphic) refl
          ∙ (ap (λ (x : List ℕ). (98 ∷ ds) ∷ text_words x) (append_assoc (code_of k) (codes "\n") rest)
          ∙ ap (λ (x : List (List ℕ)). (98 ∷ ds) ∷ x) (word_then (code_of k) 10 rest (code_is_code k (few k l)) refl)))

  changed_words : (i k : ℕ) (rest : List ℕ) → i < length w.times → k < length w.names
      → text_words (changed_line w i k ++ rest) ≡ words_of_pieces (changed_pieces w i k) ++ text_words rest
  changed_words i k rest t l = cases (is_changed w i k)
    where
      cases : (c : Bool) → text_words ((if c then change_line (unwrap_or (slice_get w.widths k) 0) (wave_word w i k) k else []) ++ rest) ≡ words_of_pieces
          (if c then change_piece (unwrap_or (slice_get w.widths k) 0) (wave_word w i k) k ∷ [] else []) ++ text_words rest
      cases true = change_words i k rest t l ∙ ap (λ (x : List (List ℕ)). x ++ text_words rest)
          (sym (append_none (piece_words (change_piece (unwrap_or (slice_get w.widths k) 0) (wave_word w i k) k))))
      cases false = refl

  pieces_append : (ps qs : List Piece) → words_of_pieces (ps ++ qs) ≡ words_of_pieces ps ++ words_of_pieces qs
  pieces_append [] qs = refl
  pieces_append (p ∷ ps) qs = ap (λ (x : List (List ℕ)). piece_words p ++ x) (pieces_append ps qs) ∙
      sym (append_assoc (piece_words p) (words_of_pieces ps) (words_of_pieces qs))

  changes_words : (i count : ℕ) (rest : List ℕ) → i < length w.times → count ≤ length w.names
      → text_words (change_lines w i count ++ rest) ≡ words_of_pieces (change_pieces w i count) ++ text_words rest
  changes_words i zero rest t l = refl
  changes_words i (suc k) rest t l =
      ap text_words (append_assoc (change_lines w i k) (changed_line w i k) rest)
      ∙ (changes_words i k (changed_line w i k ++ rest) t (omega arith)
      ∙ (ap (λ (x : List (List ℕ)). words_of_pieces (change_pieces w i k) ++ x) (changed_words i k rest t l)
      ∙ (sym (append_assoc (words_of_pieces (change_pieces w i k)) (words_of_pieces (changed_pieces w i k)) (text_words rest))
      ∙ ap (λ (x : List (List ℕ)). x ++ text_words rest) (sym (pieces_append (change_pieces w i k) (changed_pieces w i k))))))

  time_words : (i : ℕ) (rest : List ℕ) → i < length w.times → text_words (time_lines w i ++ rest) ≡ words_of_pieces (time_pieces w i) ++ text_words rest
  time_words i rest t =
      let d : List ℕ = decimal (unwrap_or (slice_get w.times i) 0) in
      ap (λ (x : List ℕ). text_words (35 ∷ x)) (append_assoc d (codes "\n" ++ change_lines w i (length w.names)) rest)
      ∙ (word_then (35 ∷ d) 10 (change_lines w i (length w.names) ++ rest) (code_cons 35 d refl (time_read i t).graphic) refl
      ∙ ap (λ (x : List (List ℕ)). (35 ∷ d) ∷ x) (changes_words i (length w.names) rest t (omega arith)))

  body_words : (count : ℕ) (rest : List ℕ) → count ≤ length w.times → text_words (body_lines w count ++ rest) ≡ words_of_pieces (body_pieces w count)
      ++ text_words rest
  body_words zero rest l = refl
  body_words (suc i) rest l =
      ap text_words (append_assoc (body_lines w i) (time_lines w i) rest)
      ∙ (body_words i (time_lines w i ++ rest) (omega arith)
      ∙ (ap (λ (x : List (List ℕ)). words_of_pieces (body_pieces w i) ++ x) (time_words i rest l)
      ∙ (sym (append_assoc (words_of_pieces (body_pieces w i)) (words_of_pieces (time_pieces w i)) (text_words rest))
      ∙ ap (λ (x : List (List ℕ)). x ++ text_words rest) (sym (pieces_append (body_pieces w i) (time_pieces w i))))))

  -- ---- the pieces are pieces

  bit_there : (k count : ℕ) → k < count → (digits_value 10 (decimal (unwrap_or (slice_get w.widths k) 0)) == 1) ≡ true
      → is_bit (wave_variables w count) (code_of k) ≡ true
  bit_there k zero l e = absurd (omega arith)
  bit_there k (suc c) l e = elim (cases_lt k c) [
    | inl lt ↦ bit_more (wave_variables w c) (wave_variable w c ∷ []) (code_of k) (bit_there k c lt e)
    | inr le ↦ (let is : c ≡ k = omega arith in rw is (bit_last (wave_variables w k) (wave_variable w k) (code_of k) (code_itself k) e))
  ]

  takes_there : (k count value : ℕ) → k < count → nat_lt value (2 ^ digits_value 10 (decimal (unwrap_or (slice_get w.widths k) 0))) ≡ true
      → takes (wave_variables w count) (code_of k) value ≡ true
  takes_there k zero value l e = absurd (omega arith)
  takes_there k (suc c) value l e = elim (cases_lt k c) [
    | inl lt ↦ takes_more (wave_variables w c) (wave_variable w c ∷ []) (code_of k) value (takes_there k c value lt e)
    | inr le ↦ (let is : c ≡ k = omega arith in rw is (takes_last (wave_variables w k) (wave_variable w k) (code_of k) value (code_itself k) e))
  ]

  change_is : (i k t : ℕ) → i < length w.times → k < length w.names
      → IsPiece (wave_variables w (length w.names)) (Some t) (change_piece (unwrap_or (slice_get w.widths k) 0) (wave_word w i k) k)
  change_is i k t a l = cases (unwrap_or (slice_get w.widths k) 0 == 1) refl
    where
      cases : (c : Bool) → (unwrap_or (slice_get w.widths k) 0 == 1) ≡ c → IsPiece (wave_variables w (length w.names)) (Some t)
          (if c then Bit (48 + wave_word w i k) (code_of k) else Binary 98 (digits 2 false (wave_word w i k)) (code_of k))
      cases true e =
          let one : unwrap_or (slice_get w.widths k) 0 ≡ 1 = eqb-true (unwrap_or (slice_get w.widths k) 0) 1 e in
          let low : wave_word w i k < 2 ^ 1 = subst (λ v. wave_word w i k < 2 ^ v) one (h.fit i k a l) in
          (bit_ok (wave_word w i k) (omega arith), bit_there k (length w.names) l (rw (width_read k l).value e))
      cases false e =
          let r : IsBinaryOf (wave_word w i k) = binary_read (wave_word w i k) (word_small i k a l) in (
            refl,
            refl,
            r.binary,
            takes_there k (length w.names) (digits_value 2 (digits 2 false (wave_word w i k))) l
                (rw (r.value, (width_read k l).value) (lt-ltb (wave_word w i k) (2 ^ unwrap_or (slice_get w.widths k) 0) (h.fit i k a l))),
          )

  changed_are : (ps : List Piece) (i k : ℕ) → i < length w.times → k < length w.names → time_of None ps ≡ Some (unwrap_or (slice_get w.times i) 0)
      → ArePieces (wave_variables w (length w.names)) None ps → ArePieces (wave_variables w (length w.names)) None (ps ++ changed_pieces w i k)
  changed_are ps i k t l e a = cases (is_changed w i k)
    where
      cases : (c : Bool) → ArePieces (wave_variables w (length w.names)) None
          (ps ++ (if c then change_piece (unwrap_or (slice_get w.widths k) 0) (wave_word w i k) k ∷ [] else []))
      cases true = pieces_more (wave_variables w (length w.names)) None ps (change_piece (unwrap_or (slice_get w.widths k) 0) (wave_word w i k) k) a
          (subst (λ o. IsPiece (wave_variables w (length w.names)) o (change_piece (unwrap_or (slice_get w.widths k) 0) (wave_word w i k) k)) (sym e)
          (change_is i k (unwrap_or (slice_get w.times i) 0) t l))
      cases false = subst (λ (l : List Piece). ArePieces (wave_variables w (length w.names)) None l) (sym (append_none ps)) a

  changes_are : (ps : List Piece) (i count : ℕ) → i < length w.times → count ≤ length w.names → time_of None ps ≡ Some (unwrap_or (slice_get w.times i) 0)
      → ArePieces (wave_variables w (length w.names)) None ps → ArePieces (wave_variables w (length w.names)) None (ps ++ change_pieces w i count)
  changes_are ps i zero t l e a = subst (λ (l : List Piece). ArePieces (wave_variables w (length w.names)) None l) (sym (append_none ps)) a
  changes_are ps i (suc k) t l e a =
      let now : time_of None (ps ++ change_pieces w i k) ≡ Some (unwrap_or (slice_get w.times i) 0) = time_append None ps (change_pieces w i k) ∙
      (ap (λ o. time_of o (change_pieces w i k)) e ∙ quiet_time (Some (unwrap_or (slice_get w.times i) 0)) (change_pieces w i k) (changes_no_time w i k)) in
      subst (λ (l : List Piece). ArePieces (wave_variables w (length w.names)) None l) (append_assoc ps (change_pieces w i k) (changed_pieces w i k))
      (changed_are (ps ++ change_pieces w i k) i k t l now (changes_are ps i k t (omega arith) e a))

  time_is : (i : ℕ) → i < length w.times → IsPiece (wave_variables w (length w.names)) (time_of None (body_pieces w i))
      (Time (decimal (unwrap_or (slice_get w.times i) 0)))
  time_is i t =
      let r = time_read i t in
      let late : nat_lt (digits_value 10 (decimal (unwrap_or (slice_get w.times i) 0))) (2 ^ 64) ≡ true = rw r.value
      (lt-ltb (unwrap_or (slice_get w.times i) 0) (2 ^ 64) (rw (unwrap_or-slice_get w.times i 0) (All-get_or (λ t. t < 2 ^ 64) w.times i 0 t h.late))) in
      rw (r.number, r.short, late, after i t) refl
    where
      after : (i : ℕ) → i < length w.times → is_after (time_of None (body_pieces w i)) (digits_value 10 (decimal (unwrap_or (slice_get w.times i) 0))) ≡ true
      after zero t = refl
      after (suc i) t =
          let before : time_of None (body_pieces w (suc i)) ≡ Some (unwrap_or (slice_get w.times i) 0) = body_time w has_codes i (omega arith) in
          let le : nat_le (unwrap_or (slice_get w.times i) 0)
          (digits_value 10 (decimal (unwrap_or (slice_get w.times (suc i)) 0))) ≡ true = rw (time_read (suc i) t).value
          (le-leb (unwrap_or (slice_get w.times i) 0) (unwrap_or (slice_get w.times (suc i)) 0) (let r = rises i (suc i) (omega arith) t in omega arith)) in
          ap (λ o. is_after o (digits_value 10 (decimal (unwrap_or (slice_get w.times (suc i)) 0)))) before ∙ le

  body_are : (count : ℕ) → count ≤ length w.times → ArePieces (wave_variables w (length w.names)) None (body_pieces w count)
  body_are zero l = tt
  body_are (suc i) l =
      let first : List Piece = body_pieces w i ++ Time (decimal (unwrap_or (slice_get w.times i) 0)) ∷ [] in
      let now : time_of None first ≡ Some (unwrap_or (slice_get w.times i) 0) = time_append None (body_pieces w i)
      (Time (decimal (unwrap_or (slice_get w.times i) 0)) ∷ []) ∙
      ap (λ n. Some n) (time_read i l).value in
      subst (λ (l : List Piece). ArePieces (wave_variables w (length w.names)) None l)
      (snoc (body_pieces w i) (Time (decimal (unwrap_or (slice_get w.times i) 0))) (change_pieces w i (length w.names)))
      (changes_are first i (length w.names) l (omega arith) now
      (pieces_more (wave_variables w (length w.names)) None (body_pieces w i) (Time (decimal (unwrap_or (slice_get w.times i) 0))) (body_are i (omega arith))
      (time_is i l)))

  -- ---- all together

  whole_words : text_words (wave_text w) ≡ words_of_commands (wave_commands w)
      ++ (codes "$enddefinitions" ∷ end_word ∷ words_of_pieces (body_pieces w (length w.times)))
  whole_words =
      let begin : List ℕ = codes "$timescale 1 ns $end\n$scope module aeth $end\n" in
      let end : List ℕ = codes "$upscope $end\n$enddefinitions $end\n" in
      let body : List ℕ = body_lines w (length w.times) in
      let first : List (List ℕ) = words_of_commands (first_commands w (length w.names)) in
      ap (λ (x : List ℕ). text_words (begin ++ x)) (append_assoc (var_lines w (length w.names)) end body)
      ∙ (vars_words (length w.names) (end ++ body) (omega arith)
      ∙ (ap (λ (x : List (List ℕ)). first ++ (codes "$upscope" ∷ end_word ∷ codes "$enddefinitions" ∷ end_word ∷ x))
      (ap text_words (sym (append_none body)) ∙ (body_words (length w.times) [] (omega arith) ∙
      append_none (words_of_pieces (body_pieces w (length w.times)))))
      ∙ (sym (append_assoc first (codes "$upscope" ∷ end_word ∷ []) (codes "$enddefinitions" ∷ end_word ∷ words_of_pieces (body_pieces w (length w.times))))
      ∙ ap (λ (x : List (List ℕ)). x ++ (codes "$enddefinitions" ∷ end_word ∷ words_of_pieces (body_pieces w (length w.times))))
      (sym (commands_words (first_commands w (length w.names)) end_command)))))

  dump : AreDump (text_words (wave_text w))
  dump = record {
    commands = wave_commands w;
    pieces = body_pieces w (length w.times);
    header = commands_are;
    some = (let e : length (variables (wave_commands w)) ≡ length w.names = ap (λ (l : List Variable). length l) all_variables ∙ many (length w.names) in
        omega (arith, h.some));
    body = subst (λ (vs : List Variable). ArePieces vs None (body_pieces w (length w.times))) (sym all_variables) (body_are (length w.times) (omega arith));
    is = whole_words;
  }

  names_meant : (count : ℕ) → count ≤ length w.names → map (λ (v : Variable). v.name) (wave_variables w count) ≡ take count w.names
  names_meant zero l = refl
  names_meant (suc k) l =
      let one : k + 1 ≡ suc k = omega arith in
      map-append (λ (v : Variable). v.name) (wave_variables w k) (wave_variable w k ∷ [])
      ∙ (ap (λ (x : List (List ℕ)). x ++ unwrap_or (slice_get w.names k) [] ∷ []) (names_meant k (omega arith)) ∙
      (ap (λ (x : List ℕ). take k w.names ++ x ∷ []) (unwrap_or-slice_get w.names k []) ∙
      (sym (take_more w.names k [] l) ∙ ap (λ n. take n w.names) one)))

  widths_meant : (count : ℕ) → count ≤ length w.names → map (λ (v : Variable). v.width) (wave_variables w count) ≡ take count w.widths
  widths_meant zero l = refl
  widths_meant (suc k) l =
      let one : k + 1 ≡ suc k = omega arith in
      map-append (λ (v : Variable). v.width) (wave_variables w k) (wave_variable w k ∷ [])
      ∙ ((λ i. widths_meant k (omega arith) i ++ (width_read k l).value i ∷ []) ∙
      (ap (λ x. take k w.widths ++ x ∷ []) (unwrap_or-slice_get w.widths k 0) ∙
      (sym (take_more w.widths k 0 (omega (arith, h.sized))) ∙ ap (λ n. take n w.widths) one)))

  wave_meant : w ≡ wave_of (wave_variables w (length w.names)) (body_pieces w (length w.times))
  wave_meant =
      let vs : List Variable = wave_variables w (length w.names) in
      let names : map (λ (v : Variable). v.name) vs ≡ w.names = names_meant (length w.names) (omega arith) ∙ take-length w.names in
      let widths : map (λ (v : Variable). v.width) vs ≡ w.widths = widths_meant (length w.names) (omega arith) ∙
      (ap (λ n. take n w.widths) (sym h.sized) ∙ take-length w.widths) in
      let times = times_meant w has_codes in
      let all = ap (flat_map (words_at_time vs (body_pieces w (length w.times)))) times ∙ words_meant w has_codes h.whole in
      sym (λ i. record { names = names i; widths = widths i; times = times i; words = all i })

  pub wave_dump : IsVcd (wave_text w) w
  unfolding dump
  wave_dump = record { dump = dump; wave = wave_meant ∙ ap (λ (vs : List Variable). wave_of vs (body_pieces w (length w.times))) (sym all_variables) }
