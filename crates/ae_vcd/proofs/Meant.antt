-- The pieces of a wave's text give its words.
use Rattle.std.proofs.Common.{ℕ, zero, suc, ◌≡◌, ◌≢◌, ◌+◌, ◌*◌, ◌<◌, ◌≤◌, ◌^◌, List, [], ◌∷◌, ◌++◌, length, length-drop, take, drop, map, slice_get, Option, Some, None, Bool, true, false, inl, inr, arith, refl, ap, sym, ◌∙◌}
use Rattle.std.specs.Prelude.{unwrap_or, ◌==◌, not, nat_lt, if◌then◌else◌}
use Rattle.std.specs.List.{flat_map}
use Rattle.std.specs.Str.Parse.{digits_value}
use Rattle.std.specs.Fmt.{decimal, digits}
use Rattle.std.proofs.lemmas.Bool.{cases_lt, cases_Bool, eqb-true, ltb-true, lt-ltb, ne_eqb}
use Rattle.std.proofs.lemmas.List.{get_or-drop, map-append, take_more}
use Rattle.std.proofs.lemmas.Grind.{flat_map-append}
use Rattle.std.proofs.Math.Nat.{mul-le-mul_right}
use Rattle.std.proofs.Math.Seq.{take-length}
use Rattle.std.proofs.lemmas.Option.{unwrap_or-slice_get}
use Rattle.ae_vcd.specs.Waves.{WaveTree, wave_word}
use Rattle.ae_vcd.specs.WaveText.{code_of, is_changed}
use Rattle.ae_vcd.specs.Forms.{Binary, Bit, Comment, Piece, Silent, Time, Variable, time_after}
use Rattle.ae_vcd.specs.Machine.{time_of}
use Rattle.ae_vcd.specs.Rows.{is_quiet}
use Rattle.ae_vcd.specs.Readings.{given, last_given, next_time, times_from, up_to, words_at_time}
use Rattle.ae_vcd.proofs.Reading.{append_none}

-- ---- pieces of lists

pub last_append : (code : List ℕ) (was : ℕ) (ps qs : List Piece) → last_given code was (ps ++ qs) ≡ last_given code (last_given code was ps) qs
last_append code was [] qs = refl
last_append code was (p ∷ ps) qs = last_append code (given code p was) ps qs

take_add : (a b : ℕ) (l : List ℕ) → take (a + b) l ≡ take a l ++ take b (drop a l)
take_add zero b l = (let e : 0 + b ≡ b = omega arith in ap (λ n. take n l) e)
take_add (suc a) zero [] = (let e : suc a + 0 ≡ suc a = omega arith in ap (λ n. take {A = ℕ} n []) e)
take_add (suc a) (suc b) [] = (let e : suc a + suc b ≡ suc (a + suc b) = omega arith in ap (λ n. take {A = ℕ} n []) e)
take_add (suc a) b (x ∷ l) = (let e : suc a + b ≡ suc (a + b) = omega arith in ap (λ n. take n (x ∷ l)) e ∙ ap (λ t. x ∷ t) (take_add a b l))

-- a later time cuts what stands behind it
pub cut_later : (t : ℕ) (digits : List ℕ) (ps qs : List Piece) → t < digits_value 10 digits → up_to t (ps ++ Time digits ∷ qs) ≡ up_to t ps
cut_later t digits [] qs l = (let e : nat_lt t (digits_value 10 digits) ≡ true = lt-ltb t (digits_value 10 digits) l in rw e refl)
cut_later t digits (Time own ∷ ps) qs l = ap (λ (r : List Piece). if nat_lt t (digits_value 10 own) then [] else Time own ∷ r) (cut_later t digits ps qs l)
cut_later t digits (Bit b code ∷ ps) qs l = ap (λ r. Bit b code ∷ r) (cut_later t digits ps qs l)
cut_later t digits (Binary b own code ∷ ps) qs l = ap (λ r. Binary b own code ∷ r) (cut_later t digits ps qs l)
cut_later t digits (Silent w ∷ ps) qs l = ap (λ r. Silent w ∷ r) (cut_later t digits ps qs l)
cut_later t digits (Comment rest ∷ ps) qs l = ap (λ r. Comment rest ∷ r) (cut_later t digits ps qs l)

-- no time is later
abbrev none_later : ℕ → List Piece → Type 0
none_later t [] = Unit {0}
none_later t (Time digits ∷ ps) = (nat_lt t (digits_value 10 digits) ≡ false) × none_later t ps
none_later t (p ∷ ps) = none_later t ps

uncut : (t : ℕ) (ps : List Piece) → none_later t ps → up_to t ps ≡ ps
uncut t [] h = refl
uncut t (Time own ∷ ps) h = rw h.0 (ap (λ r. Time own ∷ r) (uncut t ps h.1))
uncut t (Bit b code ∷ ps) h = ap (λ r. Bit b code ∷ r) (uncut t ps h)
uncut t (Binary b own code ∷ ps) h = ap (λ r. Binary b own code ∷ r) (uncut t ps h)
uncut t (Silent w ∷ ps) h = ap (λ r. Silent w ∷ r) (uncut t ps h)
uncut t (Comment rest ∷ ps) h = ap (λ r. Comment rest ∷ r) (uncut t ps h)

later_append : (t : ℕ) (ps qs : List Piece) → none_later t ps → none_later t qs → none_later t (ps ++ qs)
later_append t [] qs h k = k
later_append t (Time own ∷ ps) qs h k = (h.0, later_append t ps qs h.1 k)
later_append t (Bit b code ∷ ps) qs h k = later_append t ps qs h k
later_append t (Binary b own code ∷ ps) qs h k = later_append t ps qs h k
later_append t (Silent w ∷ ps) qs h k = later_append t ps qs h k
later_append t (Comment rest ∷ ps) qs h k = later_append t ps qs h k

-- ---- the pieces of a wave

abbrev pub change_piece : (width word k : ℕ) → Piece
change_piece width word k = if width == 1 then Bit (48 + word) (code_of k) else Binary 98 (digits 2 false word) (code_of k)

abbrev pub changed_pieces : WaveTree → (i k : ℕ) → List Piece
changed_pieces w i k = if is_changed w i k then change_piece (unwrap_or (slice_get w.widths k) 0) (wave_word w i k) k ∷ [] else []

abbrev pub change_pieces : WaveTree → (i count : ℕ) → List Piece
change_pieces w i zero = []
change_pieces w i (suc k) = change_pieces w i k ++ changed_pieces w i k

abbrev pub time_pieces : WaveTree → (i : ℕ) → List Piece
time_pieces w i = Time (decimal (unwrap_or (slice_get w.times i) 0)) ∷ change_pieces w i (length w.names)

abbrev pub body_pieces : WaveTree → (count : ℕ) → List Piece
body_pieces w zero = []
body_pieces w (suc i) = body_pieces w i ++ time_pieces w i

-- the variables of a wave as they are declared
abbrev pub wave_variable : WaveTree → (k : ℕ) → Variable
wave_variable w k =
    record { width = digits_value 10 (decimal (unwrap_or (slice_get w.widths k) 0)); code = code_of k; name = unwrap_or (slice_get w.names k) [] }

abbrev pub wave_variables : WaveTree → (count : ℕ) → List Variable
wave_variables w zero = []
wave_variables w (suc k) = wave_variables w k ++ wave_variable w k ∷ []

-- ---- no times among changes

change_quiet : (t : ℕ) (b : Bool) (width word k : ℕ) (rest : List Piece) → none_later t (if b then change_piece width word k ∷ [] else [])
change_quiet t true width word k rest = one (width == 1)
  where
    one : (c : Bool) → none_later t ((if c then Bit (48 + word) (code_of k) else Binary 98 (digits 2 false word) (code_of k)) ∷ [])
    one true = tt
    one false = tt
change_quiet t false width word k rest = tt

changes_quiet : (w : WaveTree) (t i count : ℕ) → none_later t (change_pieces w i count)
changes_quiet w t i zero = tt
changes_quiet w t i (suc k) =
    later_append t (change_pieces w i k) (changed_pieces w i k) (changes_quiet w t i k)
    (change_quiet t (is_changed w i k) (unwrap_or (slice_get w.widths k) 0) (wave_word w i k) k [])

-- ---- times

pub quiet_append : (ps qs : List Piece) → is_quiet ps → is_quiet qs → is_quiet (ps ++ qs)
quiet_append [] qs h k = k
quiet_append (Time own ∷ ps) qs h k = absurd h
quiet_append (Bit b code ∷ ps) qs h k = quiet_append ps qs h k
quiet_append (Binary b own code ∷ ps) qs h k = quiet_append ps qs h k
quiet_append (Silent w ∷ ps) qs h k = quiet_append ps qs h k
quiet_append (Comment rest ∷ ps) qs h k = quiet_append ps qs h k

pub quiet_times : (before : Option ℕ) (ps : List Piece) → is_quiet ps → times_from before ps ≡ []
quiet_times before [] h = refl
quiet_times before (Time own ∷ ps) h = absurd h
quiet_times before (Bit b code ∷ ps) h = quiet_times before ps h
quiet_times before (Binary b own code ∷ ps) h = quiet_times before ps h
quiet_times before (Silent w ∷ ps) h = quiet_times before ps h
quiet_times before (Comment rest ∷ ps) h = quiet_times before ps h

pub quiet_time : (before : Option ℕ) (ps : List Piece) → is_quiet ps → time_of before ps ≡ before
quiet_time before [] h = refl
quiet_time before (Time own ∷ ps) h = absurd h
quiet_time before (Bit b code ∷ ps) h = quiet_time before ps h
quiet_time before (Binary b own code ∷ ps) h = quiet_time before ps h
quiet_time before (Silent w ∷ ps) h = quiet_time before ps h
quiet_time before (Comment rest ∷ ps) h = quiet_time before ps h

pub time_append : (before : Option ℕ) (ps qs : List Piece) → time_of before (ps ++ qs) ≡ time_of (time_of before ps) qs
time_append before [] qs = refl
time_append before (p ∷ ps) qs = time_append (time_after before p) ps qs

next_append : (before : Option ℕ) (t : ℕ) (xs ys : List ℕ) → next_time before t (xs ++ ys) ≡ next_time before t xs ++ ys
next_append None t xs ys = refl
next_append (Some s) t xs ys = one (s == t)
  where
    one : (b : Bool) → (if b then xs ++ ys else t ∷ (xs ++ ys)) ≡ (if b then xs else t ∷ xs) ++ ys
    one true = refl
    one false = refl

pub times_append : (before : Option ℕ) (ps qs : List Piece) → times_from before (ps ++ qs) ≡ times_from before ps ++ times_from (time_of before ps) qs
times_append before [] qs = refl
times_append before (Time own ∷ ps) qs =
    ap (next_time before (digits_value 10 own)) (times_append (Some (digits_value 10 own)) ps qs) ∙
    next_append before (digits_value 10 own) (times_from (Some (digits_value 10 own)) ps) (times_from (time_of (Some (digits_value 10 own)) ps) qs)
times_append before (Bit b code ∷ ps) qs = times_append before ps qs
times_append before (Binary b own code ∷ ps) qs = times_append before ps qs
times_append before (Silent w ∷ ps) qs = times_append before ps qs
times_append before (Comment rest ∷ ps) qs = times_append before ps qs

pub changes_no_time : (w : WaveTree) (i count : ℕ) → is_quiet (change_pieces w i count)
changes_no_time w i zero = tt
changes_no_time w i (suc k) =
    quiet_append (change_pieces w i k) (changed_pieces w i k) (changes_no_time w i k) (one (is_changed w i k) (unwrap_or (slice_get w.widths k) 0 == 1))
  where
    one : (b c : Bool) → is_quiet (if b then (if c then Bit (48 + wave_word w i k) (code_of k) else Binary 98 (digits 2 false (wave_word w i k)) (code_of k))
        ∷ [] else [])
    one true true = tt
    one true false = tt
    one false c = tt

-- what the code of a variable is given by the changes of others, and by its own
pub record HasCodes (w : WaveTree) : Type 0 where
  pub wide : (k : ℕ) → k < length w.names → unwrap_or (slice_get w.widths k) 0 ≤ 64
  pub own : (k width word was : ℕ) → k < length w.names → width ≤ 64 → word < 2 ^ width → given (code_of k) (change_piece width word k) was ≡ word
  pub other : (j k width word was : ℕ) → j < length w.names → k < length w.names → j ≢ k → given (code_of k) (change_piece width word j) was ≡ was
  pub read : (i : ℕ) → i < length w.times → digits_value 10 (decimal (unwrap_or (slice_get w.times i) 0)) ≡ unwrap_or (slice_get w.times i) 0
  pub fit : (i k : ℕ) → i < length w.times → k < length w.names → wave_word w i k < 2 ^ unwrap_or (slice_get w.widths k) 0
  pub rise : (i j : ℕ) → i < j → j < length w.times → unwrap_or (slice_get w.times i) 0 < unwrap_or (slice_get w.times j) 0

module _ (w : WaveTree) (h : HasCodes w) where
  -- the word of a variable, where it had that of the time before
  abbrev IsBefore : (i k was : ℕ) → Type 0
  IsBefore zero k was = Unit {0}
  IsBefore (suc i) k was = was ≡ wave_word w i k

  same_word : (i k was : ℕ) → is_changed w i k ≡ false → IsBefore i k was → was ≡ wave_word w i k
  same_word zero k was e b = (let f : ⊥ = cc in absurd f)
  same_word (suc i) k was e b = b ∙ sym (eqb-true (wave_word w (suc i) k) (wave_word w i k) (not_false (wave_word w (suc i) k == wave_word w i k) e))
    where
      not_false : (b : Bool) → not b ≡ false → b ≡ true
      not_false true e = refl
      not_false false e = cc

  others_given : (i k count was : ℕ) → k < length w.names → count ≤ k → last_given (code_of k) was (change_pieces w i count) ≡ was
  others_given i k zero was l b = refl
  others_given i k (suc c) was l b =
      last_append (code_of k) was (change_pieces w i c) (changed_pieces w i c)
      ∙ (one (is_changed w i c) (last_given (code_of k) was (change_pieces w i c)) ∙ others_given i k c was l (omega arith))
    where
      one : (b : Bool) (was : ℕ) → last_given (code_of k) was
          (if b then change_piece (unwrap_or (slice_get w.widths c) 0) (wave_word w i c) c ∷ [] else []) ≡ was
      one true was = h.other c k (unwrap_or (slice_get w.widths c) 0) (wave_word w i c) was (omega arith) l (λ e. absurd (omega arith))
      one false was = refl

  group_given : (i k count was : ℕ) → i < length w.times → k < length w.names → k < count → count ≤ length w.names → IsBefore i k was
      → last_given (code_of k) was (change_pieces w i count) ≡ wave_word w i k
  group_given i k zero was t l b m before = absurd (omega arith)
  group_given i k (suc c) was t l b m before =
      last_append (code_of k) was (change_pieces w i c) (changed_pieces w i c)
      ∙ elim (cases_lt k c) [
        | inl lt ↦ ap (λ (v : ℕ). last_given (code_of k) v (changed_pieces w i c)) (group_given i k c was t l lt (omega arith) before) ∙
            later (is_changed w i c) (wave_word w i k) lt
        | inr le ↦
            let is : c ≡ k = omega arith in
            ap (λ (v : ℕ). last_given (code_of k) v (changed_pieces w i c)) (others_given i k c was l (omega arith)) ∙
            (ap (λ (j : ℕ). last_given (code_of k) was (changed_pieces w i j)) is ∙ mine (is_changed w i k) refl)
      ]
    where
      later : (b : Bool) (was : ℕ) → k < c → last_given (code_of k) was
          (if b then change_piece (unwrap_or (slice_get w.widths c) 0) (wave_word w i c) c ∷ [] else []) ≡ was
      later true was lt = h.other c k (unwrap_or (slice_get w.widths c) 0) (wave_word w i c) was (omega arith) l (λ e. absurd (omega arith))
      later false was lt = refl

      mine : (b : Bool) → is_changed w i k ≡ b → last_given (code_of k) was
          (if b then change_piece (unwrap_or (slice_get w.widths k) 0) (wave_word w i k) k ∷ [] else []) ≡ wave_word w i k
      mine true e = h.own k (unwrap_or (slice_get w.widths k) 0) (wave_word w i k) was l (h.wide k l) (h.fit i k t l)
      mine false e = same_word i k was e before

  -- after the first times, each variable has its word of the last of them
  body_given : (i k : ℕ) → i < length w.times → k < length w.names → last_given (code_of k) 0 (body_pieces w (suc i)) ≡ wave_word w i k
  body_given zero k t l = group_given 0 k (length w.names) 0 t l l (omega arith) tt
  body_given (suc i) k t l =
      last_append (code_of k) 0 (body_pieces w (suc i)) (time_pieces w (suc i))
      ∙ group_given (suc i) k (length w.names) (last_given (code_of k) 0 (body_pieces w (suc i))) t l l (omega arith) (body_given i k (omega arith) l)

  -- ---- what stands up to a time

  body_quiet : (i count : ℕ) → i < length w.times → count ≤ suc i → none_later (unwrap_or (slice_get w.times i) 0) (body_pieces w count)
  body_quiet i zero t l = tt
  body_quiet i (suc c) t l = later_append (unwrap_or (slice_get w.times i) 0) (body_pieces w c) (time_pieces w c) (body_quiet i c t (omega arith))
      (not_later, changes_quiet w (unwrap_or (slice_get w.times i) 0) c (length w.names))
    where
      le : unwrap_or (slice_get w.times c) 0 ≤ unwrap_or (slice_get w.times i) 0
      le = elim (cases_lt c i) [
        | inl b ↦ (let r = h.rise c i b t in omega arith)
        | inr
            b ↦ (let e : c ≡ i = omega arith in let q : unwrap_or (slice_get w.times c) 0 ≡ unwrap_or (slice_get w.times i) 0 = ap
            (λ j. unwrap_or (slice_get w.times j) 0) e in omega arith)
      ]

      not_later : nat_lt (unwrap_or (slice_get w.times i) 0) (digits_value 10 (decimal (unwrap_or (slice_get w.times c) 0))) ≡ false
      not_later = elim (cases_Bool (nat_lt (unwrap_or (slice_get w.times i) 0) (digits_value 10 (decimal (unwrap_or (slice_get w.times c) 0))))) [
        | inr f ↦ f
        | inl f ↦ absurd (let q : ⊥ = omega (arith, ltb-true _ _ f, le, h.read c (omega arith)) in q)
      ]

  up_to_body : (i count : ℕ) → i < count → count ≤ length w.times → up_to (unwrap_or (slice_get w.times i) 0) (body_pieces w count) ≡ body_pieces w (suc i)
  up_to_body i zero l b = absurd (omega arith)
  up_to_body i (suc c) l b = elim (cases_lt i c) [
    | inl lt ↦ cut_later (unwrap_or (slice_get w.times i) 0) (decimal (unwrap_or (slice_get w.times c) 0)) (body_pieces w c)
        (change_pieces w c (length w.names))
        (let r = h.rise i c lt (omega arith) in omega (arith, h.read c (omega arith))) ∙ up_to_body i c lt (omega arith)
    | inr le ↦ (let e : c ≡ i = omega arith in rw e (uncut (unwrap_or (slice_get w.times i) 0) (body_pieces w (suc i))
        (body_quiet i (suc i) (omega arith) (omega arith))))
  ]

  -- the word of a variable at a time
  pub word_meant : (i k : ℕ) → i < length w.times → k < length w.names
      → last_given (code_of k) 0 (up_to (unwrap_or (slice_get w.times i) 0) (body_pieces w (length w.times))) ≡ wave_word w i k
  word_meant i k t l = ap (last_given (code_of k) 0) (up_to_body i (length w.times) t (omega arith)) ∙ body_given i k t l

  -- ---- all times

  pub body_time : (i : ℕ) → i < length w.times → time_of None (body_pieces w (suc i)) ≡ Some (unwrap_or (slice_get w.times i) 0)
  body_time i t =
      time_append None (body_pieces w i) (time_pieces w i)
      ∙ (quiet_time (Some (digits_value 10 (decimal (unwrap_or (slice_get w.times i) 0)))) (change_pieces w i (length w.names))
      (changes_no_time w i (length w.names)) ∙
      ap (λ n. Some n) (h.read i t))

  one_time : (i : ℕ) → i < length w.times → times_from (time_of None (body_pieces w i)) (time_pieces w i) ≡ unwrap_or (slice_get w.times i) 0 ∷ []
  one_time i t =
      ap (next_time (time_of None (body_pieces w i)) (digits_value 10 (decimal (unwrap_or (slice_get w.times i) 0))))
      (quiet_times (Some (digits_value 10 (decimal (unwrap_or (slice_get w.times i) 0)))) (change_pieces w i (length w.names))
      (changes_no_time w i (length w.names)))
      ∙ (ap (λ n. next_time (time_of None (body_pieces w i)) n []) (h.read i t) ∙ next i t)
    where
      next : (i : ℕ) → i < length w.times → next_time (time_of None (body_pieces w i)) (unwrap_or (slice_get w.times i) 0) [] ≡ unwrap_or
          (slice_get w.times i) 0 ∷ []
      next zero t = refl
      next (suc i) t =
          let apart : (unwrap_or (slice_get w.times i) 0 == unwrap_or (slice_get w.times (suc i)) 0) ≡ false = ne_eqb (unwrap_or (slice_get w.times i) 0)
          (unwrap_or (slice_get w.times (suc i)) 0)
          (λ e. (let r = h.rise i (suc i) (omega arith) t in let f : ⊥ = omega arith in f)) in
          ap (λ o. next_time o (unwrap_or (slice_get w.times (suc i)) 0) []) (body_time i (omega arith)) ∙
          ap (λ b. if b then [] else unwrap_or (slice_get w.times (suc i)) 0 ∷ []) apart

  first_times : (count : ℕ) → count ≤ length w.times → times_from None (body_pieces w count) ≡ take count w.times
  first_times zero l = refl
  first_times (suc i) l =
      let one : i + 1 ≡ suc i = omega arith in
      times_append None (body_pieces w i) (time_pieces w i)
      ∙ ((λ k. first_times i (omega arith) k ++ one_time i l k)
      ∙ (ap (λ x. take i w.times ++ x ∷ []) (unwrap_or-slice_get w.times i 0) ∙ (sym (take_more w.times i 0 l) ∙ ap (λ n. take n w.times) one)))

  pub times_meant : times_from None (body_pieces w (length w.times)) ≡ w.times
  times_meant = first_times (length w.times) (omega arith) ∙ take-length w.times

  -- ---- all words

  row : (vs : List Variable) (i count : ℕ) → i < length w.times → count ≤ length w.names → length w.words ≡ length w.times * length w.names
      → map (λ (v : Variable). last_given v.code 0 (up_to (unwrap_or (slice_get w.times i) 0) (body_pieces w (length w.times))))
      (wave_variables w count) ≡ take count
      (drop (i * length w.names) w.words)
  row vs i zero t l whole = refl
  row vs i (suc k) t l whole =
      let f : Variable → ℕ = λ v. last_given v.code 0 (up_to (unwrap_or (slice_get w.times i) 0) (body_pieces w (length w.times))) in
      let one : k + 1 ≡ suc k = omega arith in
      let inside : i * length w.names + length w.names ≤ length w.times * length w.names = row_room i (length w.times) (length w.names) t in
      let long : k < length (drop (i * length w.names) w.words) = omega (arith, length-drop (i * length w.names) w.words) in
      map-append f (wave_variables w k) (wave_variable w k ∷ [])
      ∙ ((λ j. row vs i k t (omega arith) whole j ++ (word_meant i k t l ∙
      (unwrap_or-slice_get w.words (i * length w.names + k) 0 ∙ sym (get_or-drop (i * length w.names) w.words k 0))) j ∷ [])
      ∙ (sym (take_more (drop (i * length w.names) w.words) k 0 long) ∙ ap (λ n. take n (drop (i * length w.names) w.words)) one))
    where
      row_room : (i n v : ℕ) → i < n → i * v + v ≤ n * v
      row_room i n v l = (let m : suc i * v ≤ n * v = mul-le-mul_right v l in omega arith)

  first_rows : (count : ℕ) → count ≤ length w.times → length w.words ≡ length w.times * length w.names
      → flat_map (words_at_time (wave_variables w (length w.names)) (body_pieces w (length w.times))) (take count w.times) ≡ take
      (count * length w.names) w.words
  first_rows zero l whole = (let z : 0 ≡ 0 * length w.names = omega arith in ap (λ n. take n w.words) z)
  first_rows (suc i) l whole =
      let f : ℕ → List ℕ = words_at_time (wave_variables w (length w.names)) (body_pieces w (length w.times)) in
      let one : i + 1 ≡ suc i = omega arith in
      let more : take (suc i) w.times ≡ take i w.times ++ unwrap_or (slice_get w.times i) 0 ∷ [] =
      ap (λ n. take n w.times) (sym one) ∙ (take_more w.times i 0 l ∙ ap (λ x. take i w.times ++ x ∷ []) (sym (unwrap_or-slice_get w.times i 0))) in
      let next : suc i * length w.names ≡ i * length w.names + length w.names = omega arith in
      ap (flat_map f) more
      ∙ (flat_map-append f (take i w.times) (unwrap_or (slice_get w.times i) 0 ∷ [])
      ∙ ((λ j. first_rows i (omega arith) whole j ++ append_none (f (unwrap_or (slice_get w.times i) 0)) j)
      ∙ (ap (λ (l : List ℕ). take (i * length w.names) w.words ++ l) (row [] i (length w.names) l (omega arith) whole)
      ∙ (sym (take-add (i * length w.names) (length w.names) w.words) ∙ ap (λ n. take n w.words) (sym next)))))
    where
      take-add : (a b : ℕ) (l : List ℕ) → take (a + b) l ≡ take a l ++ take b (drop a l)
      take-add = take_add

  pub words_meant : length w.words ≡ length w.times * length w.names
      → flat_map (words_at_time (wave_variables w (length w.names)) (body_pieces w (length w.times))) w.times ≡ w.words
  words_meant whole =
      ap (flat_map (words_at_time (wave_variables w (length w.names)) (body_pieces w (length w.times)))) (sym (take-length w.times))
      ∙ (first_rows (length w.times) (omega arith) whole ∙ (ap (λ n. take n w.words) (sym whole) ∙ take-length w.words))
