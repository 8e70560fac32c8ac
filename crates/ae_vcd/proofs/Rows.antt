-- The rows of a wave, as its pieces are read one by one.
use Rattle.std.proofs.Common.{ℕ, ◌≡◌, ◌<◌, ◌≤◌, List, [], ◌∷◌, ◌++◌, map, Option, Some, None, Bool, true, false, inl, inr, ◌⊎◌, arith, refl, ap, sym, ◌∙◌}
use Rattle.std.specs.Prelude.{◌==◌, nat_lt, if◌then◌else◌}
use Rattle.std.specs.List.{flat_map}
use Rattle.std.specs.Str.Parse.{digits_value}
use Rattle.std.proofs.lemmas.Bool.{cases_lt, eq-eqb, lt-ltb, ne_eqb, cases_Bool, ltb-true}
use Rattle.std.proofs.lemmas.Grind.{flat_map-append}
use Rattle.ae_vcd.specs.Forms.{Binary, Bit, Comment, Piece, Silent, Time, Variable}
use Rattle.ae_vcd.specs.Machine.{time_of}
use Rattle.ae_vcd.specs.Readings.{last_given, next_time, times_from, up_to, words_at_time}
use Rattle.ae_vcd.proofs.Reading.{append_none}
use Rattle.ae_vcd.specs.Rows.{AllBelow, HasRows, is_quiet, words_now}
use Rattle.ae_vcd.proofs.Meant.{cut_later, quiet_times, times_append, quiet_time as quiet_same, time_append as time_snoc}

-- ---- a later time stands among the pieces

abbrev HasLater : ℕ → List Piece → Type 0
HasLater t [] = ⊥
HasLater t (Time digits ∷ ps) = (nat_lt t (digits_value 10 digits) ≡ true) ⊎ HasLater t ps
HasLater t (p ∷ ps) = HasLater t ps

abbrev IsEarly : ℕ → Option ℕ → Type 0
IsEarly t None = Unit {0}
IsEarly t (Some s) = s ≤ t

has_later : (t last : ℕ) (before : Option ℕ) (ps : List Piece) → time_of before ps ≡ Some last → t < last → IsEarly t before → HasLater t ps
has_later t last None [] e l h = cc
has_later t last (Some s) [] e l h = (let is : s ≡ last = cc in absurd (omega arith))
has_later t last before (Time digits ∷ ps) e l h = elim (cases_lt t (digits_value 10 digits)) [
  | inl later ↦ inl (lt-ltb t (digits_value 10 digits) later)
  | inr early ↦ inr (has_later t last (Some (digits_value 10 digits)) ps e l early)
]
has_later t last before (Bit b code ∷ ps) e l h = has_later t last before ps e l h
has_later t last before (Binary b digits code ∷ ps) e l h = has_later t last before ps e l h
has_later t last before (Silent w ∷ ps) e l h = has_later t last before ps e l h
has_later t last before (Comment rest ∷ ps) e l h = has_later t last before ps e l h

-- what stands behind it is cut
cut_behind : (t : ℕ) (ps qs : List Piece) → HasLater t ps → up_to t (ps ++ qs) ≡ up_to t ps
cut_behind t [] qs h = absurd h
cut_behind t (Time digits ∷ ps) qs h = elim h [
  | inl now ↦ rw now refl
  | inr later ↦ ap (λ (r : List Piece). if nat_lt t (digits_value 10 digits) then [] else Time digits ∷ r) (cut_behind t ps qs later)
]
cut_behind t (Bit b code ∷ ps) qs h = ap (λ r. Bit b code ∷ r) (cut_behind t ps qs h)
cut_behind t (Binary b digits code ∷ ps) qs h = ap (λ r. Binary b digits code ∷ r) (cut_behind t ps qs h)
cut_behind t (Silent w ∷ ps) qs h = ap (λ r. Silent w ∷ r) (cut_behind t ps qs h)
cut_behind t (Comment rest ∷ ps) qs h = ap (λ r. Comment rest ∷ r) (cut_behind t ps qs h)

-- ---- rows

below_append : (last : ℕ) (xs : List ℕ) (y : ℕ) → AllBelow last xs → y < last → AllBelow last (xs ++ y ∷ [])
below_append last [] y h l = (l, tt)
below_append last (x ∷ xs) y h l = (h.0, below_append last xs y h.1 l)

below_more : (a b : ℕ) (xs : List ℕ) → a ≤ b → AllBelow a xs → AllBelow b xs
below_more a b [] l h = tt
below_more a b (x ∷ xs) l h = ((let k = h.0 in omega arith), below_more a b xs l h.1)

same_rows : (last : ℕ) (f g : ℕ → List ℕ) (ts : List ℕ) → AllBelow last ts → ((t : ℕ) → t < last → f t ≡ g t) → flat_map f ts ≡ flat_map g ts
same_rows last f g [] h e = refl
same_rows last f g (t ∷ ts) h e = λ i. e t h.0 i ++ same_rows last f g ts h.1 e i

same_words : (vs : List Variable) (ps qs : List Piece) (t : ℕ) → up_to t ps ≡ up_to t qs → words_at_time vs ps t ≡ words_at_time vs qs t
same_words vs ps qs t e = ap (λ (l : List Piece). map (λ (v : Variable). last_given v.code 0 l) vs) e

-- at the end the present words are one row more
pub rows_end : (vs : List Variable) (ps : List Piece) (earlier : List ℕ) (last : ℕ) (rows : List ℕ) → HasRows vs ps earlier last rows
    → flat_map (words_at_time vs ps) (times_from None ps) ≡ rows ++ words_now vs ps
rows_end vs ps earlier last rows h =
    ap (flat_map (words_at_time vs ps)) h.times
    ∙ (flat_map-append (words_at_time vs ps) earlier (last ∷ [])
    ∙ (λ i. h.closed i ++ (append_none (words_at_time vs ps last) ∙ ap (λ (l : List Piece). map (λ (v : Variable). last_given v.code 0 l) vs) h.whole) i))

whole_append : (t : ℕ) (ps qs : List Piece) → up_to t ps ≡ ps → up_to t qs ≡ qs → up_to t (ps ++ qs) ≡ ps ++ qs
whole_append t [] qs h k = k
whole_append t (Time digits ∷ ps) qs h k = cases (nat_lt t (digits_value 10 digits)) h (λ r. whole_append t ps qs r k)
  where
    cases : (b : Bool) → (if b then [] else Time digits ∷ up_to t ps) ≡ Time digits ∷ ps → (up_to t ps ≡ ps → up_to t (ps ++ qs) ≡ ps ++ qs)
        → (if b then [] else Time digits ∷ up_to t (ps ++ qs)) ≡ Time digits ∷ (ps ++ qs)
    cases true h f = cc
    cases false h f = (let r : up_to t ps ≡ ps = cc in ap (λ l. Time digits ∷ l) (f r))
whole_append t (Bit b code ∷ ps) qs h k = (let r : up_to t ps ≡ ps = cc in ap (λ l. Bit b code ∷ l) (whole_append t ps qs r k))
whole_append t (Binary b digits code ∷ ps) qs h k = (let r : up_to t ps ≡ ps = cc in ap (λ l. Binary b digits code ∷ l) (whole_append t ps qs r k))
whole_append t (Silent w ∷ ps) qs h k = (let r : up_to t ps ≡ ps = cc in ap (λ l. Silent w ∷ l) (whole_append t ps qs r k))
whole_append t (Comment rest ∷ ps) qs h k = (let r : up_to t ps ≡ ps = cc in ap (λ l. Comment rest ∷ l) (whole_append t ps qs r k))

quiet_whole : (t : ℕ) (ps : List Piece) → is_quiet ps → up_to t ps ≡ ps
quiet_whole t [] h = refl
quiet_whole t (Time digits ∷ ps) h = absurd h
quiet_whole t (Bit b code ∷ ps) h = ap (λ l. Bit b code ∷ l) (quiet_whole t ps h)
quiet_whole t (Binary b digits code ∷ ps) h = ap (λ l. Binary b digits code ∷ l) (quiet_whole t ps h)
quiet_whole t (Silent w ∷ ps) h = ap (λ l. Silent w ∷ l) (quiet_whole t ps h)
quiet_whole t (Comment rest ∷ ps) h = ap (λ l. Comment rest ∷ l) (quiet_whole t ps h)

-- where a time is not later than one that is within, nothing is cut
later_whole : (t s : ℕ) (ps : List Piece) → s ≤ t → up_to s ps ≡ ps → up_to t ps ≡ ps
later_whole t s [] l h = refl
later_whole t s (Time digits ∷ ps) l h = cases (nat_lt s (digits_value 10 digits)) refl h (λ r. later_whole t s ps l r)
  where
    cases : (b : Bool) → nat_lt s (digits_value 10 digits) ≡ b → (if b then [] else Time digits ∷ up_to s ps) ≡ Time digits ∷ ps
        → (up_to s ps ≡ ps → up_to t ps ≡ ps) → (if nat_lt t (digits_value 10 digits) then [] else Time digits ∷ up_to t ps) ≡ Time digits ∷ ps
    cases true e h f = cc
    cases false e h f =
        let r : up_to s ps ≡ ps = cc in
        let le : digits_value 10 digits ≤ s = elim (cases_lt s (digits_value 10 digits)) [
          | inr g ↦ g
          | inl g ↦ absurd
              (let q : true ≡ false = sym (lt-ltb s (digits_value 10 digits) g) ∙ e in let f : ⊥ = cc in f)
        ] in
        let no : nat_lt t (digits_value 10 digits) ≡ false = elim (cases_Bool (nat_lt t (digits_value 10 digits))) [
          | inr g ↦ g
          | inl g ↦ absurd
              (let q : ⊥ = omega (arith, ltb-true t (digits_value 10 digits) g) in q)
        ] in
        rw no (ap (λ l. Time digits ∷ l) (f r))
later_whole t s (Bit b code ∷ ps) l h = (let r : up_to s ps ≡ ps = cc in ap (λ l. Bit b code ∷ l) (later_whole t s ps l r))
later_whole t s (Binary b digits code ∷ ps) l h = (let r : up_to s ps ≡ ps = cc in ap (λ l. Binary b digits code ∷ l) (later_whole t s ps l r))
later_whole t s (Silent w ∷ ps) l h = (let r : up_to s ps ≡ ps = cc in ap (λ l. Silent w ∷ l) (later_whole t s ps l r))
later_whole t s (Comment rest ∷ ps) l h = (let r : up_to s ps ≡ ps = cc in ap (λ l. Comment rest ∷ l) (later_whole t s ps l r))

-- pieces that are no times change no row of an earlier time
pub rows_quiet : (vs : List Variable) (ps qs : List Piece) (earlier : List ℕ) (last : ℕ) (rows : List ℕ) → is_quiet qs → HasRows vs ps earlier last rows
    → HasRows vs (ps ++ qs) earlier last rows
rows_quiet vs ps qs earlier last rows q h = record {
  times = times_append None ps qs ∙ (ap (λ l. times_from None ps ++ l) (quiet_times (time_of None ps) qs q) ∙ (append_none (times_from None ps) ∙ h.times));
  time = time_snoc None ps qs ∙ (quiet_same (time_of None ps) qs q ∙ h.time);
  below = h.below;
  closed = same_rows last (words_at_time vs (ps ++ qs)) (words_at_time vs ps) earlier h.below
      (λ t l. same_words vs (ps ++ qs) ps t (cut_behind t ps qs (has_later t last None ps h.time l tt))) ∙ h.closed;
  whole = whole_append last ps qs h.whole (quiet_whole last qs q);
}

-- the same time again changes nothing
pub rows_again : (vs : List Variable) (ps : List Piece) (digits : List ℕ) (earlier : List ℕ) (last : ℕ) (rows : List ℕ) → digits_value 10 digits ≡ last
    → HasRows vs ps earlier last rows → HasRows vs (ps ++ Time digits ∷ []) earlier last rows
rows_again vs ps digits earlier last rows e h =
    let eq : (last == digits_value 10 digits) ≡ true = eq-eqb last (digits_value 10 digits) (sym e) in
    let none : times_from (time_of None ps) (Time digits ∷ []) ≡ [] = ap (λ o. next_time o (digits_value 10 digits) []) h.time ∙
    ap (λ b. if b then [] else digits_value 10 digits ∷ []) eq in
    let not_later : nat_lt last (digits_value 10 digits) ≡ false = elim (cases_Bool (nat_lt last (digits_value 10 digits))) [
      | inr f ↦ f
      | inl f ↦ absurd
          (let q : ⊥ = omega (arith, ltb-true last (digits_value 10 digits) f) in q)
    ] in
    record {
      times = times_append None ps (Time digits ∷ []) ∙ (ap (λ l. times_from None ps ++ l) none ∙ (append_none (times_from None ps) ∙ h.times));
      time = time_snoc None ps (Time digits ∷ []) ∙ ap (λ n. Some n) e;
      below = h.below;
      closed = same_rows last (words_at_time vs (ps ++ Time digits ∷ [])) (words_at_time vs ps) earlier h.below
          (λ t l. same_words vs (ps ++ Time digits ∷ []) ps t (cut_later t digits ps [] (omega arith))) ∙ h.closed;
      whole = whole_append last ps (Time digits ∷ []) h.whole (rw not_later refl);
    }

-- a later time closes the row of the last
pub rows_later : (vs : List Variable) (ps : List Piece) (digits : List ℕ) (earlier : List ℕ) (last : ℕ) (rows : List ℕ) → last < digits_value 10 digits
    → HasRows vs ps earlier last rows
    → HasRows vs (ps ++ Time digits ∷ []) (earlier ++ last ∷ []) (digits_value 10 digits) (rows ++ words_now vs ps)
rows_later vs ps digits earlier last rows l h =
    let now : ℕ = digits_value 10 digits in
    let ne : (last == digits_value 10 digits) ≡ false = ne_eqb last (digits_value 10 digits) (λ e. absurd (omega arith)) in
    let one : times_from (time_of None ps) (Time digits ∷ []) ≡ digits_value 10 digits ∷ [] = ap (λ o. next_time o (digits_value 10 digits) []) h.time ∙
    ap (λ b. if b then [] else digits_value 10 digits ∷ []) ne in
    let all : AllBelow (digits_value 10 digits) (earlier ++ last ∷ []) = below_append (digits_value 10 digits) earlier last
    (below_more last (digits_value 10 digits) earlier (omega arith) h.below) l in
    let not_later : nat_lt (digits_value 10 digits) (digits_value 10 digits) ≡ false = elim (cases_Bool
    (nat_lt (digits_value 10 digits) (digits_value 10 digits))) [
      | inr f ↦ f
      | inl f ↦ absurd
          (let q : ⊥ = omega (arith, ltb-true (digits_value 10 digits) (digits_value 10 digits) f) in q)
    ] in
    record {
      times = times_append None ps (Time digits ∷ []) ∙ (λ i. h.times i ++ one i);
      time = time_snoc None ps (Time digits ∷ []);
      below = all;
      closed = same_rows (digits_value 10 digits) (words_at_time vs (ps ++ Time digits ∷ [])) (words_at_time vs ps) (earlier ++ last ∷ []) all
          (λ t b. same_words vs (ps ++ Time digits ∷ []) ps t (cut_later t digits ps [] b)) ∙
          (ap (flat_map (words_at_time vs ps)) (sym h.times) ∙ rows_end vs ps earlier last rows h);
      whole = whole_append (digits_value 10 digits) ps (Time digits ∷ []) (later_whole (digits_value 10 digits) last ps (omega arith) h.whole)
          (rw not_later refl);
    }

-- the first time
pub rows_first : (vs : List Variable) (ps : List Piece) (digits : List ℕ) → is_quiet ps → HasRows vs (ps ++ Time digits ∷ []) [] (digits_value 10 digits) []
rows_first vs ps digits q =
    let not_later : nat_lt (digits_value 10 digits) (digits_value 10 digits) ≡ false = elim (cases_Bool
    (nat_lt (digits_value 10 digits) (digits_value 10 digits))) [
      | inr f ↦ f
      | inl f ↦ absurd
          (let q : ⊥ = omega (arith, ltb-true (digits_value 10 digits) (digits_value 10 digits) f) in q)
    ] in
    record {
      times = times_append None ps (Time digits ∷ []) ∙ (λ i. quiet_times None ps q i ++ next_time (quiet_same None ps q i) (digits_value 10 digits) []);
      time = time_snoc None ps (Time digits ∷ []);
      below = tt;
      closed = refl;
      whole = whole_append (digits_value 10 digits) ps (Time digits ∷ []) (quiet_whole (digits_value 10 digits) ps q) (rw not_later refl);
    }
