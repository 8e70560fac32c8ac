-- Written lines are read back as the fields that they were written of.
use Rattle.std.proofs.Common.{◌≡◌, ℕ, ◌+◌, ◌<◌, Bool, true, false, not, ◌&&◌, ◌||◌, nat_le, nat_lt, nat_eq, List, [], ◌∷◌, ◌++◌, Option, Some, None, if◌then◌else◌, refl, ap, ◌∙◌, arith}
use Rattle.std.proofs.lemmas.Bool.{leb-true, le-leb, lt-ltb, ltb-true, eqb-true, eq-eqb}
use Rattle.std.specs.List.{list_all}
use Rattle.ae_fields.specs.Cut.{lines, put, fields, said, goes_on, no_blank}
use Rattle.ae_fields.specs.Cleaned.{may_stand, all_printed}
use Rattle.ae_fields.specs.Grammar.{State, Reading, step, after_line, by_state, at_end, reading_from}
use Rattle.ae_seq.specs.Typing.{where_ok}
use Rattle.ae_fields.specs.Parts.{is_mark}
use Rattle.ae_print.specs.Printed.{spaced, joined, text_of}
use Rattle.ae_fields.proofs.FieldLemmas.{fields-run}
use Rattle.ae_seq.proofs.Judging.{left as and-first, right as and-second}
use Rattle.ae_fields.proofs.PartLemmas.{and-both}

-- bytes of a field, and bytes of a line
abbrev pub inked : ℕ → Bool
inked b = nat_lt 32 b && nat_lt b 127 && not (nat_eq b 35)

abbrev pub calm : ℕ → Bool
calm b = nat_le 32 b && nat_lt b 127 && not (nat_eq b 35)

-- a field that may stand in a line
abbrev pub solid : List ℕ → Bool
solid [] = false
solid (b ∷ bs) = list_all inked (b ∷ bs)

-- a statement: two such fields or more
abbrev pub stated : List (List ℕ) → Bool
stated [] = false
stated (f ∷ []) = false
stated (f ∷ g ∷ fs) = list_all solid (f ∷ g ∷ fs)

inked-calm : (b : ℕ) → inked b ≡ true → calm b ≡ true
inked-calm b h =
    let a = and-first _ _ h in
    let low = ltb-true 32 b (and-first _ _ a) in
    and-both _ _ (and-both _ _ (le-leb 32 b (omega arith)) (and-second (nat_lt 32 b) _ a)) (and-second (nat_lt 32 b && nat_lt b 127) _ h)

-- a byte that passes a test which the mark does not pass
pub not-mark : (p : ℕ → Bool) (mark : ℕ) → p mark ≡ false → (b : ℕ) → p b ≡ true → nat_eq b mark ≡ false
not-mark p mark fails b holds = by (nat_eq b mark) refl
  where
    by : (t : Bool) → nat_eq b mark ≡ t → t ≡ false
    by false e = refl
    by true e = let same : b ≡ mark = eqb-true b mark e in let q : p b ≡ p mark = ap p same in absurd cc

calm-printed : (b : ℕ) → calm b ≡ true → may_stand b ≡ true
calm-printed b h = by (nat_eq b 32) refl
  where
    a : (nat_le 32 b && nat_lt b 127) ≡ true
    a = and-first _ _ h

    or-later : (x y : Bool) → y ≡ true → (x || y) ≡ true
    or-later true y e = refl
    or-later false y e = e

    above : (b ≡ 32 → ⊥) → 32 < b
    above no_blank_here = let low = leb-true 32 b (and-first _ _ a) in omega arith

    by : (t : Bool) → nat_eq b 32 ≡ t → (t || nat_eq b 9 || (nat_lt 32 b && nat_lt b 127)) ≡ true
    by true e = refl
    by false e = or-later (nat_eq b 9) _ (and-both _ _ (lt-ltb 32 b (above (λ s. absurd (let x = eq-eqb b 32 s in cc)))) (and-second (nat_le 32 b) _ a))

pub all-weaker : (p q : ℕ → Bool) → ((b : ℕ) → p b ≡ true → q b ≡ true) → (bs : List ℕ) → list_all p bs ≡ true → list_all q bs ≡ true
all-weaker p q w [] h = refl
all-weaker p q w (b ∷ bs) h = and-both _ _ (w b (and-first _ _ h)) (all-weaker p q w bs (and-second (p b) _ h))

pub all-append : {A : Type 0} (p : A → Bool) (xs ys : List A) → list_all p xs ≡ true → list_all p ys ≡ true → list_all p (xs ++ ys) ≡ true
all-append p [] ys h g = g
all-append p (x ∷ xs) ys h g = and-both _ _ (and-first _ _ h) (all-append p xs ys (and-second (p x) _ h) g)

-- ---- lines

said-calm : (bs : List ℕ) → list_all calm bs ≡ true → said bs ≡ bs
said-calm [] h = refl
said-calm (b ∷ []) h =
    ap (λ t. if t || nat_eq b 35 then [] else b ∷ []) (not-mark calm 13 refl b (and-first _ _ h)) ∙
    ap (λ t. if t then [] else b ∷ []) (not-mark calm 35 refl b (and-first _ _ h))
said-calm (b ∷ c ∷ bs) h =
    ap (λ t. if t then [] else b ∷ said (c ∷ bs)) (not-mark calm 35 refl b (and-first _ _ h)) ∙ ap (λ xs. b ∷ xs) (said-calm (c ∷ bs) (and-second (calm b) _ h))

line-ended : (bs after : List ℕ) → list_all calm bs ≡ true → lines (bs ++ 10 ∷ after) ≡ bs ∷ lines after
line-ended [] after h = refl
line-ended (b ∷ bs) after h =
    ap (λ t. if t then [] ∷ lines (bs ++ 10 ∷ after) else put b (lines (bs ++ 10 ∷ after))) (not-mark calm 10 refl b (and-first _ _ h))
    ∙ ap (put b) (line-ended bs after (and-second (calm b) _ h))

-- ---- fields

inked-no_blank : (bs : List ℕ) → list_all inked bs ≡ true → no_blank bs ≡ true
inked-no_blank [] h = refl
inked-no_blank (b ∷ bs) h =
    and-both _ _ (λ i. not (not-mark inked 32 refl b (and-first _ _ h) i || not-mark inked 9 refl b (and-first _ _ h) i))
    (inked-no_blank bs (and-second (inked b) _ h))

spaced-ends : (fs : List (List ℕ)) → goes_on (spaced fs) ≡ false
spaced-ends [] = refl
spaced-ends (f ∷ fs) = refl

field-first : (f : List ℕ) (fs : List (List ℕ)) → solid f ≡ true → fields (f ++ spaced fs) ≡ f ∷ fields (spaced fs)
field-first [] fs h = absurd cc
field-first (b ∷ bs) fs h = fields-run b bs (spaced fs) (inked-no_blank (b ∷ bs) h) (spaced-ends fs)

fields-spaced : (fs : List (List ℕ)) → list_all solid fs ≡ true → fields (spaced fs) ≡ fs
fields-spaced [] h = refl
fields-spaced (f ∷ fs) h = field-first f fs (and-first _ _ h) ∙ ap (λ gs. f ∷ gs) (fields-spaced fs (and-second (solid f) _ h))

fields-joined : (fs : List (List ℕ)) → list_all solid fs ≡ true → fields (joined fs) ≡ fs
fields-joined [] h = refl
fields-joined (f ∷ fs) h = fields-spaced (f ∷ fs) h

solid-calm : (f : List ℕ) → solid f ≡ true → list_all calm f ≡ true
solid-calm [] h = refl
solid-calm (b ∷ bs) h = all-weaker inked calm inked-calm (b ∷ bs) h

spaced-calm : (fs : List (List ℕ)) → list_all solid fs ≡ true → list_all calm (spaced fs) ≡ true
spaced-calm [] h = refl
spaced-calm (f ∷ fs) h = all-append calm f (spaced fs) (solid-calm f (and-first _ _ h)) (spaced-calm fs (and-second (solid f) _ h))

joined-calm : (fs : List (List ℕ)) → list_all solid fs ≡ true → list_all calm (joined fs) ≡ true
joined-calm [] h = refl
joined-calm (f ∷ fs) h = all-append calm f (spaced fs) (solid-calm f (and-first _ _ h)) (spaced-calm fs (and-second (solid f) _ h))

-- ---- texts

-- the reading of statements
abbrev pub reading_of : List (List (List ℕ)) → (n : ℕ) → State → Reading
reading_of [] n s = at_end n s
reading_of (st ∷ sts) n s = by_state n (step n s st) (reading_of sts (n + 1))

pub by-same : (n : ℕ) (o : Option State) (f g : State → Reading) → ((t : State) → f t ≡ g t) → by_state n o f ≡ by_state n o g
by-same n None f g h = refl
by-same n (Some t) f g h = h t

line-read : (n : ℕ) (s : State) (st : List (List ℕ)) (after : List ℕ) → stated st ≡ true
    → reading_from (lines (joined st ++ 10 ∷ after)) n s ≡ by_state n (step n s st) (reading_from (lines after) (n + 1))
line-read n s [] after h = absurd cc
line-read n s (f ∷ []) after h = absurd cc
line-read n s (f ∷ g ∷ fs) after h =
    let st : List (List ℕ) = f ∷ g ∷ fs in
    let quiet = joined-calm st h in
    let said_is = said-calm (joined st) quiet in
    let fields_are = fields-joined st h in
    let printed : all_printed (joined st) ≡ true = all-weaker calm may_stand calm-printed (joined st) quiet in
    ap (λ ls. reading_from ls n s) (line-ended (joined st) after quiet)
    ∙ ap (λ l. if is_mark (fields l) then at_end n s else by_state n (after_line n s l) (reading_from (lines after) (n + 1))) said_is
    ∙ ap (λ l. if is_mark l then at_end n s else by_state n (where_ok (all_printed (joined st)) (step n s l)) (reading_from (lines after) (n + 1))) fields_are
    ∙ ap (λ t. by_state n (where_ok t (step n s st)) (reading_from (lines after) (n + 1))) printed

pub text-read : (sts : List (List (List ℕ))) (n : ℕ) (s : State) → list_all stated sts ≡ true → reading_from (lines (text_of sts)) n s ≡ reading_of sts n s
text-read [] n s h = refl
text-read (st ∷ sts) n s h =
    line-read n s st (text_of sts) (and-first _ _ h) ∙ by-same n (step n s st) _ _ (λ t. text-read sts (n + 1) t (and-second (stated st) _ h))
