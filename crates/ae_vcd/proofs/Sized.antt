-- The wave of a dump is formed, where it is within the limit.
use Rattle.std.proofs.Common.{ℕ, zero, suc, ◌≡◌, ◌≢◌, ◌+◌, ◌*◌, ◌<◌, ◌≤◌, ◌^◌, List, [], ◌∷◌, ◌++◌, length, length-append, map, get_or, Option, Some, None, All, Bool, true, false, inl, inr, ◌⊎◌, arith, refl, ap, sym, ◌∙◌, subst}
use Rattle.std.specs.Prelude.{◌&&◌, ◌||◌, ◌==◌, not, nat_eq, nat_lt, IsTrue, if◌then◌else◌}
use Rattle.std.specs.List.{flat_map}
use Rattle.std.specs.Str.{bytes_eq}
use Rattle.std.specs.Str.Parse.{digits_value}
use Rattle.std.proofs.lemmas.Bool.{eq-eqb, eqb-true, leb-true, ltb-true}
use Rattle.std.proofs.lemmas.List.{append_assoc, get_or-append-add, get_or-map, get_or_append_left, length-map}
use Rattle.std.proofs.lemmas.Slice.Eq.{bytes_eq-Decides}
use Rattle.std.proofs.lemmas.Nat.{pow_pos}
use Rattle.std.proofs.lemmas.Option.{unwrap_or-slice_get}
use Rattle.ae_vcd.specs.Waves.{IsFormedWave, WaveTree, is_variable_name, most_variables, size_limit, wave_size}
use Rattle.ae_vcd.specs.Forms.{AreCommands, ArePieces, Binary, Bit, HeaderCommand, Comment, Declare, IsHeaderCommand, IsPiece, Other, Piece, Silent, Time, Variable, agrees, declared, is_after, is_bit, is_time, takes, time_after, variables}
use Rattle.ae_vcd.specs.Readings.{IsVcd, given, last_given, next_time, times_from, up_to, wave_of, words_at_time}
use Rattle.ae_vcd.proofs.Reading.{append_none, both, either}

-- ---- variables

-- what each declared variable is
pub record IsSized (v : Variable) : Type 0 where
  pub named : is_variable_name v.name ≡ true
  pub low : 1 ≤ v.width
  pub high : v.width ≤ 64

abbrev EachSized : List Variable → Type 0
EachSized [] = Unit {0}
EachSized (v ∷ vs) = IsSized v × EachSized vs

sized_append : (vs us : List Variable) → EachSized vs → EachSized us → EachSized (vs ++ us)
sized_append [] us h k = k
sized_append (v ∷ vs) us h k = (h.0, sized_append vs us h.1 k)

declared_sized : (vs : List Variable) (c : HeaderCommand) → IsHeaderCommand vs c → EachSized (declared c)
declared_sized vs (Declare kind digits code name rest) h =
    let p = both _ _ h.1 in
    let q = both _ _ p.1 in
    (record { named = h.3; low = leb-true 1 (digits_value 10 digits) q.0; high = leb-true (digits_value 10 digits) 64 q.1 }, tt)
declared_sized vs (Other word rest) h = tt

pub all_sized : (vs : List Variable) (cs : List HeaderCommand) → AreCommands vs cs → EachSized (variables cs)
all_sized vs [] h = tt
all_sized vs (c ∷ cs) h = sized_append (declared c) (variables cs) (declared_sized vs c h.0) (all_sized (vs ++ declared c) cs h.1)

pub more_few : (vs : List Variable) (c : HeaderCommand) → IsHeaderCommand vs c → length vs ≤ most_variables → length (vs ++ declared c) ≤ most_variables
more_few vs (Declare kind digits code name rest) h l = omega (arith, h.0, length-append vs (declared (Declare kind digits code name rest)))
more_few vs (Other word rest) h l = omega (arith, ap (λ (x : List Variable). length x) (append_none vs))

pub few_variables : (vs : List Variable) (cs : List HeaderCommand) → AreCommands vs cs → length vs ≤ most_variables
    → length (vs ++ variables cs) ≤ most_variables
few_variables vs [] h l = omega (arith, ap (λ (x : List Variable). length x) (append_none vs))
few_variables vs (c ∷ cs) h l =
    (let r = few_variables (vs ++ declared c) cs h.1 (more_few vs c h.0 l) in
    omega (arith, ap (λ (x : List Variable). length x) (append_assoc vs (declared c) (variables cs))))

-- ---- one code has one width

-- each earlier variable agrees with each later one
abbrev AllAgree : List Variable → List Variable → Type 0
AllAgree vs [] = Unit {0}
AllAgree vs (u ∷ us) = (agrees vs u.code u.width ≡ true) × AllAgree (vs ++ u ∷ []) us

pub all_agree : (vs : List Variable) (cs : List HeaderCommand) → AreCommands vs cs → AllAgree vs (variables cs)
all_agree vs [] h = tt
all_agree vs (Declare kind digits code name rest ∷ cs) h = ((both _ _ h.0.2).1, all_agree (vs ++ declared (Declare kind digits code name rest)) cs h.1)
all_agree vs (Other word rest ∷ cs) h = all_agree vs cs (subst (λ (l : List Variable). AreCommands l cs) (append_none vs) h.1)

abbrev Among : Variable → List Variable → Type 0
Among v [] = ⊥
Among v (u ∷ us) = (v ≡ u) ⊎ Among v us

among_left : (v : Variable) (us ws : List Variable) → Among v us → Among v (us ++ ws)
among_left v [] ws h = absurd h
among_left v (u ∷ us) ws h = elim h [ inl e ↦ inl e | inr k ↦ inr (among_left v us ws k) ]

among_last : (v : Variable) (us : List Variable) → Among v (us ++ v ∷ [])
among_last v [] = inl refl
among_last v (u ∷ us) = inr (among_last v us)

agreed : (v : Variable) (us : List Variable) (code : List ℕ) (width : ℕ) → Among v us → agrees us code width ≡ true → v.code ≡ code → v.width ≡ width
agreed v [] code width h e is = absurd h
agreed v (u ∷ us) code width h e is =
    let p = both (not (bytes_eq u.code code) || u.width == width) (agrees us code width) e in
    elim h [
      | inl same ↦ elim (either (not (bytes_eq u.code code)) (u.width == width) p.0) [
        | inl other ↦
            let equal : bytes_eq u.code code ≡ true = (bytes_eq-Decides u.code code).1 (ap (λ (x : Variable). x.code) (sym same) ∙ is) in
            let q : not true ≡ true = ap not (sym equal) ∙ other in
            let f : ⊥ = cc in
            absurd f
        | inr wide ↦ ap (λ (x : Variable). x.width) same ∙ eqb-true u.width width wide
      ]
      | inr later ↦ agreed v us code width later p.1 is
    ]

-- two variables with one code
pub one_width : (vs us : List Variable) (v u : Variable) → AllAgree vs us → Among v vs → Among u us → v.code ≡ u.code → v.width ≡ u.width
one_width vs [] v u h a b e = absurd b
one_width vs (x ∷ us) v u h a b e = elim b [
  | inl same ↦ agreed v vs x.code x.width a h.0 (e ∙ ap (λ (y : Variable). y.code) same) ∙ ap (λ (y : Variable). y.width) (sym same)
  | inr later ↦ one_width (vs ++ x ∷ []) us v u h.1 (among_left v vs (x ∷ []) a) later e
]

pub same_width : (vs us : List Variable) (v u : Variable) → AllAgree vs us → Among v us → Among u us → v.code ≡ u.code → v.width ≡ u.width
same_width vs [] v u h a b e = absurd a
same_width vs (x ∷ us) v u h a b e = elim a [
  | inl first ↦ elim b [
    | inl second ↦ ap (λ (y : Variable). y.width) (first ∙ sym second)
    | inr later ↦ ap (λ (y : Variable). y.width) first ∙ one_width (vs ++ x ∷ []) us x u h.1 (among_last x vs) later
        (ap (λ (y : Variable). y.code) (sym first) ∙ e)
  ]
  | inr early ↦ elim b [
    | inl second ↦ sym (ap (λ (y : Variable). y.width) second ∙
        one_width (vs ++ x ∷ []) us x v h.1 (among_last x vs) early (ap (λ (y : Variable). y.code) (sym second) ∙ sym e))
    | inr later ↦ same_width (vs ++ x ∷ []) us v u h.1 early later e
  ]
]

-- ---- words fit

-- the variable that takes a value, or is a bit
record HasTaker (vs : List Variable) (code : List ℕ) (value : ℕ) : Type 0 where
  variable : Variable
  among : Among variable vs
  own : variable.code ≡ code
  fits : value < 2 ^ variable.width

taker_more : {vs : List Variable} {code : List ℕ} {value : ℕ} (v : Variable) → HasTaker vs code value → HasTaker (v ∷ vs) code value
taker_more v h = record { variable = h.variable; among = inr h.among; own = h.own; fits = h.fits }

takes_of : (vs : List Variable) (code : List ℕ) (value : ℕ) → takes vs code value ≡ true → HasTaker vs code value
takes_of [] code value e = (let f : ⊥ = cc in absurd f)
takes_of (v ∷ vs) code value e = elim (either (bytes_eq v.code code && nat_lt value (2 ^ v.width)) (takes vs code value) e) [
  | inl here ↦ (let p = both (bytes_eq v.code code) (nat_lt value (2 ^ v.width)) here in
      record { variable = v; among = inl refl; own = (bytes_eq-Decides v.code code).0 p.0; fits = ltb-true value (2 ^ v.width) p.1 })
  | inr later ↦ taker_more v (takes_of vs code value later)
]

bit_of : (vs : List Variable) (code : List ℕ) (value : ℕ) → value < 2 → is_bit vs code ≡ true → HasTaker vs code value
bit_of [] code value l e = (let f : ⊥ = cc in absurd f)
bit_of (v ∷ vs) code value l e = elim (either (bytes_eq v.code code && v.width == 1) (is_bit vs code) e) [
  | inl here ↦
      let p = both (bytes_eq v.code code) (v.width == 1) here in
      let one : v.width ≡ 1 = eqb-true v.width 1 p.1 in
      record { variable = v; among = inl refl; own = (bytes_eq-Decides v.code code).0 p.0; fits = subst (λ n. value < 2 ^ n) (sym one) l }
  | inr later ↦ taker_more v (bit_of vs code value l later)
]

taken_fits : (vs : List Variable) (v : Variable) (code : List ℕ) (value : ℕ) → AllAgree [] vs → Among v vs → v.code ≡ code → HasTaker vs code value
    → value < 2 ^ v.width
taken_fits vs v code value a m e t = subst (λ n. value < 2 ^ n) (sym (same_width [] vs v t.variable a m t.among (e ∙ sym t.own))) t.fits

given_fits : (vs : List Variable) (v : Variable) (before : Option ℕ) (p : Piece) (was : ℕ) → AllAgree [] vs → Among v vs → IsPiece vs before p
    → was < 2 ^ v.width → given v.code p was < 2 ^ v.width
given_fits vs v before (Time digits) was a m h l = l
given_fits vs v before (Bit b code) was a m h l = cases (bytes_eq code v.code) refl
  where
    bit : (t : Bool) → (if t then 1 else 0) < 2
    bit true = omega arith
    bit false = omega arith

    cases : (t : Bool) → bytes_eq code v.code ≡ t → (if t then (if nat_eq b 49 then 1 else 0) else was) < 2 ^ v.width
    cases true e = taken_fits vs v code (if nat_eq b 49 then 1 else 0) a m (sym ((bytes_eq-Decides code v.code).0 e))
        (bit_of vs code (if nat_eq b 49 then 1 else 0) (bit (nat_eq b 49)) (both _ _ h.1).1)
    cases false e = l
given_fits vs v before (Binary b digits code) was a m h l = cases (bytes_eq code v.code) refl
  where
    cases : (t : Bool) → bytes_eq code v.code ≡ t → (if t then digits_value 2 digits else was) < 2 ^ v.width
    cases true e = taken_fits vs v code (digits_value 2 digits) a m (sym ((bytes_eq-Decides code v.code).0 e)) (takes_of vs code (digits_value 2 digits) h.3)
    cases false e = l
given_fits vs v before (Silent w) was a m h l = l
given_fits vs v before (Comment rest) was a m h l = l

pub last_fits : (vs : List Variable) (v : Variable) (before : Option ℕ) (ps : List Piece) (was : ℕ) → AllAgree [] vs → Among v vs → ArePieces vs before ps
    → was < 2 ^ v.width → last_given v.code was ps < 2 ^ v.width
last_fits vs v before [] was a m h l = l
last_fits vs v before (p ∷ ps) was a m h l = last_fits vs v (time_after before p) ps (given v.code p was) a m h.1 (given_fits vs v before p was a m h.0 l)

up_to_are : (vs : List Variable) (before : Option ℕ) (t : ℕ) (ps : List Piece) → ArePieces vs before ps → ArePieces vs before (up_to t ps)
up_to_are vs before t [] h = tt
up_to_are vs before t (Time digits ∷ ps) h = cases (nat_lt t (digits_value 10 digits)) (up_to_are vs (Some (digits_value 10 digits)) t ps h.1)
  where
    cases : (b : Bool) → ArePieces vs (Some (digits_value 10 digits)) (up_to t ps) → ArePieces vs before (if b then [] else Time digits ∷ up_to t ps)
    cases true r = tt
    cases false r = (h.0, r)
up_to_are vs before t (Bit b code ∷ ps) h = (h.0, up_to_are vs before t ps h.1)
up_to_are vs before t (Binary b digits code ∷ ps) h = (h.0, up_to_are vs before t ps h.1)
up_to_are vs before t (Silent w ∷ ps) h = (h.0, up_to_are vs before t ps h.1)
up_to_are vs before t (Comment rest ∷ ps) h = (h.0, up_to_are vs before t ps h.1)

-- ---- times

abbrev Rises : Option ℕ → List ℕ → Type 0
Rises b [] = Unit {0}
Rises None (t ∷ ts) = Rises (Some t) ts
Rises (Some s) (t ∷ ts) = (s < t) × Rises (Some t) ts

abbrev AllLate : List ℕ → Type 0
AllLate [] = Unit {0}
AllLate (t ∷ ts) = (t < 2 ^ 64) × AllLate ts

next_rises : (before : Option ℕ) (t : ℕ) (ts : List ℕ) → is_after before t ≡ true → Rises (Some t) ts → Rises before (next_time before t ts)
next_rises None t ts e h = h
next_rises (Some s) t ts e h = cases (s == t) refl
  where
    cases : (b : Bool) → (s == t) ≡ b → Rises (Some s) (if b then ts else t ∷ ts)
    cases true q = subst (λ n. Rises (Some n) ts) (sym (eqb-true s t q)) h
    cases false q = (
      (let le : s ≤ t = leb-true s t e in let ne : s ≢ t = λ r. (let z : true ≡ false = sym (eq-eqb s t r) ∙ q in let f : ⊥ = cc in f) in
          omega arith),
      h,
    )

next_late : (before : Option ℕ) (t : ℕ) (ts : List ℕ) → t < 2 ^ 64 → AllLate ts → AllLate (next_time before t ts)
next_late None t ts l h = (l, h)
next_late (Some s) t ts l h = cases (s == t)
  where
    cases : (b : Bool) → AllLate (if b then ts else t ∷ ts)
    cases true = h
    cases false = (l, h)

times_rise : (vs : List Variable) (before : Option ℕ) (ps : List Piece) → ArePieces vs before ps → Rises before (times_from before ps)
    × AllLate (times_from before ps)
times_rise vs before [] h = (none before, tt)
  where
    none : (before : Option ℕ) → Rises before []
    none b = tt
times_rise vs before (Time digits ∷ ps) h =
    let p = both (is_time digits) (is_after before (digits_value 10 digits)) h.0 in
    let q = both _ _ p.0 in
    let r = both _ _ q.1 in
    let rest = times_rise vs (Some (digits_value 10 digits)) ps h.1 in (
      next_rises before (digits_value 10 digits) (times_from (Some (digits_value 10 digits)) ps) p.1 rest.0,
      next_late before (digits_value 10 digits) (times_from (Some (digits_value 10 digits)) ps) (ltb-true (digits_value 10 digits) (2 ^ 64) r.1) rest.1,
    )
times_rise vs before (Bit b code ∷ ps) h = times_rise vs before ps h.1
times_rise vs before (Binary b digits code ∷ ps) h = times_rise vs before ps h.1
times_rise vs before (Silent w ∷ ps) h = times_rise vs before ps h.1
times_rise vs before (Comment rest ∷ ps) h = times_rise vs before ps h.1

rises_at : (s : ℕ) (ts : List ℕ) (i : ℕ) → Rises (Some s) ts → i + 1 < length ts → get_or ts i 0 < get_or ts (i + 1) 0
rises_at s [] i h l = absurd (omega arith)
rises_at s (t ∷ []) i h l = absurd (omega arith)
rises_at s (t ∷ u ∷ ts) zero h l = h.1.0
rises_at s (t ∷ u ∷ ts) (suc i) h l = (let e : suc i + 1 ≡ suc (i + 1) = omega arith in rw e (rises_at t (u ∷ ts) i h.1 (omega arith)))

first_rises : (ts : List ℕ) (i : ℕ) → Rises None ts → i + 1 < length ts → get_or ts i 0 < get_or ts (i + 1) 0
first_rises [] i h l = absurd (omega arith)
first_rises (t ∷ []) i h l = absurd (omega arith)
first_rises (t ∷ u ∷ ts) zero h l = h.0
first_rises (t ∷ u ∷ ts) (suc i) h l = (let e : suc i + 1 ≡ suc (i + 1) = omega arith in rw e (rises_at t (u ∷ ts) i h (omega arith)))

all_cons : {X : Type 0} (P : X → Type 0) (x : X) (xs : List X) → P x → All P xs → All P (x ∷ xs)
all_cons P x xs h k zero d l = h
all_cons P x xs h k (suc i) d l = k i d (omega arith)

late_all : (ts : List ℕ) → AllLate ts → All (λ t. t < 2 ^ 64) ts
late_all [] h = λ i d l. absurd (omega arith)
late_all (t ∷ ts) h = all_cons (λ t. t < 2 ^ 64) t ts h.0 (late_all ts h.1)

-- ---- all together

sized_all : (vs : List Variable) → EachSized vs → All (λ n. IsTrue (is_variable_name n)) (map (λ (v : Variable). v.name) vs)
    × All (λ n. (1 ≤ n) × (n ≤ 64)) (map (λ (v : Variable). v.width) vs)
sized_all [] h = (λ i d l. absurd (omega arith), λ i d l. absurd (omega arith))
sized_all (v ∷ vs) h =
    let r = sized_all vs h.1 in (
      all_cons (λ n. IsTrue (is_variable_name n)) v.name (map (λ (v : Variable). v.name) vs) h.0.named r.0,
      all_cons (λ n. (1 ≤ n) × (n ≤ 64)) v.width (map (λ (v : Variable). v.width) vs) (h.0.low, h.0.high) r.1,
    )

flat_long : (f : ℕ → List ℕ) (n : ℕ) (ts : List ℕ) → ((t : ℕ) → length (f t) ≡ n) → length (flat_map f ts) ≡ length ts * n
flat_long f n [] h = (let z : 0 ≡ 0 * n = omega arith in z)
flat_long f n (t ∷ ts) h =
    length-append (f t) (flat_map f ts) ∙ (let a = h t in let b = flat_long f n ts h in let e : suc (length ts) * n ≡ n + length ts * n = omega arith in
    omega arith)

flat_at : (f : ℕ → List ℕ) (n : ℕ) (ts : List ℕ) (i k : ℕ) → ((t : ℕ) → length (f t) ≡ n) → i < length ts → k < n
    → get_or (flat_map f ts) (i * n + k) 0 ≡ get_or (f (get_or ts i 0)) k 0
flat_at f n [] i k h l b = absurd (omega arith)
flat_at f n (t ∷ ts) zero k h l b =
    (let e : 0 * n + k ≡ k = omega arith in ap (λ j. get_or (f t ++ flat_map f ts) j 0) e ∙
    get_or_append_left (f t) (flat_map f ts) 0 k (let q = h t in omega arith))
flat_at f n (t ∷ ts) (suc i) k h l b =
    let e : suc i * n + k ≡ length (f t) + (i * n + k) = (let q = h t in let r : suc i * n ≡ n + i * n = omega arith in omega arith) in
    ap (λ j. get_or (f t ++ flat_map f ts) j 0) e ∙ (get_or-append-add (f t) (flat_map f ts) (i * n + k) 0 ∙ flat_at f n ts i k h (omega arith) b)

among_at : (vs : List Variable) (k : ℕ) (d : Variable) → k < length vs → Among (get_or vs k d) vs
among_at [] k d l = absurd (omega arith)
among_at (v ∷ vs) zero d l = inl refl
among_at (v ∷ vs) (suc k) d l = inr (among_at vs k d (omega arith))

pub wave_formed : (text : List ℕ) (w : WaveTree) → IsVcd text w → wave_size (length w.times) (length w.names) ≤ size_limit → IsFormedWave w
wave_formed text w h small =
    let cs : List HeaderCommand = h.dump.commands in
    let ps : List Piece = h.dump.pieces in
    let vs : List Variable = variables cs in
    let own : IsFormedWave (wave_of (variables cs) ps) =
    formed (variables cs) ps (all_sized [] cs h.dump.header) h.dump.some (few_variables [] cs h.dump.header (omega arith))
    (all_agree [] cs h.dump.header) h.dump.body (subst (λ (x : WaveTree). wave_size (length x.times) (length x.names) ≤ size_limit) h.wave small) in
    subst (λ (x : WaveTree). IsFormedWave x) (sym h.wave) own
  where
    formed : (vs : List Variable) (ps : List Piece) → EachSized vs → 1 ≤ length vs → length vs ≤ most_variables → AllAgree [] vs → ArePieces vs None ps
        → wave_size (length (times_from None ps)) (length (map (λ (v : Variable). v.name) vs)) ≤ size_limit → IsFormedWave (wave_of vs ps)
    formed vs ps sized some most agree pieces small =
        let names : length (map (λ (v : Variable). v.name) vs) ≡ length vs = length-map vs (λ (v : Variable). v.name) in
        let widths : length (map (λ (v : Variable). v.width) vs) ≡ length vs = length-map vs (λ (v : Variable). v.width) in
        let all = sized_all vs sized in
        let times = times_rise vs None ps pieces in
        let rows : (t : ℕ) → length (words_at_time vs ps t) ≡ length vs = λ t. length-map vs (λ (v : Variable). last_given v.code 0 (up_to t ps)) in
        record {
          some = omega arith;
          most = omega arith;
          named = all.0;
          sized = widths ∙ sym names;
          wide = all.1;
          whole = flat_long (words_at_time vs ps) (length vs) (times_from None ps) rows ∙ ap (λ n. length (times_from None ps) * n) (sym names);
          fit = λ i k a b.
              (let d : Variable = record { width = 0; code = []; name = [] } in
              let low : k < length vs = omega arith in
              let v : Variable = get_or vs k d in
              let at : get_or (flat_map (words_at_time vs ps) (times_from None ps))
              (i * length (map (λ (v : Variable). v.name) vs) + k) 0 ≡ last_given v.code 0 (up_to (get_or (times_from None ps) i 0) ps) =
              ap (λ n. get_or (flat_map (words_at_time vs ps) (times_from None ps)) (i * n + k) 0) names
              ∙ (flat_at (words_at_time vs ps) (length vs) (times_from None ps) i k rows a low ∙
              get_or-map (λ (v : Variable). last_given v.code 0 (up_to (get_or (times_from None ps) i 0) ps)) vs k d 0 low) in
              let wide : get_or (map (λ (v : Variable). v.width) vs) k 0 ≡ v.width = get_or-map (λ (v : Variable). v.width) vs k d 0 low in
              rw (
                unwrap_or-slice_get (flat_map (words_at_time vs ps) (times_from None ps)) (i * length (map (λ (v : Variable). v.name) vs) + k) 0,
                unwrap_or-slice_get (map (λ (v : Variable). v.width) vs) k 0,
                at,
                wide,
              ) (last_fits vs v None (up_to (get_or (times_from None ps) i 0) ps) 0 agree (among_at vs k d low)
              (up_to_are vs None (get_or (times_from None ps) i 0) ps pieces) (pow_pos v.width)));
          rise = λ i l. rw (unwrap_or-slice_get (times_from None ps) i 0, unwrap_or-slice_get (times_from None ps) (i + 1) 0)
              (first_rises (times_from None ps) i times.0 l);
          late = late_all (times_from None ps) times.1;
          small = small;
        }
