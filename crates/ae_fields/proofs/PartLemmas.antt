-- The lines of a text passed one after the other.
use Rattle.std.proofs.Common.{◌≡◌, ℕ, ◌+◌, ◌-◌, ◌<◌, ◌≤◌, Bool, true, false, not, ◌&&◌, ◌||◌, nat_eq, List, [], ◌∷◌, ◌++◌, length, take, drop, get_or, if◌then◌else◌, refl, sym, ap, ◌∙◌, arith, append_assoc, length-append}
use Rattle.std.proofs.lemmas.Grind.{common_steps}
use Rattle.std.proofs.lemmas.List.{take_more, drop_more, take-append-drop, append-nil}
use Rattle.std.proofs.lemmas.Bool.{eqb-true, eq-eqb}
use Rattle.std.specs.List.{list_all}
use Rattle.ae_fields.specs.Cut.{free, lines, put, fields, said, IsFirstLine}
use Rattle.ae_fields.specs.Parts.{is_mark, no_mark, whole_lines, IsSplit}
use Rattle.ae_seq.proofs.Judging.{left as and-first, right as and-second}

pub and-both : (x y : Bool) → x ≡ true → y ≡ true → (x && y) ≡ true
and-both true y hx hy = hy
and-both false y hx hy = absurd cc

free-push : (mark : ℕ) (xs : List ℕ) (b : ℕ) → free mark xs ≡ true → nat_eq b mark ≡ false → free mark (xs ++ b ∷ []) ≡ true
free-push mark [] b f e = ap (λ t. not t && true) e
free-push mark (x ∷ xs) b f e = and-both _ _ (and-first _ _ f) (free-push mark xs b (and-second (not (nat_eq x mark)) _ f) e)

pub free-more : (mark : ℕ) (xs : List ℕ) (k : ℕ) → k < length xs → free mark (take k xs) ≡ true → nat_eq (get_or xs k 0) mark ≡ false
    → free mark (take (k + 1) xs) ≡ true
free-more mark xs k h f e = ap (free mark) (take_more xs k 0 h) ∙ free-push mark (take k xs) (get_or xs k 0) f e

-- a text at its LF number k
pub at-lf : (text : List ℕ) (k : ℕ) → k < length text → get_or text k 0 ≡ 10 → text ≡ take k text ++ 10 ∷ drop (k + 1) text
at-lf text k h lf = sym (take-append-drop k text) ∙ ap (λ d. take k text ++ d) (drop_more text k 0 h ∙ ap (λ b. b ∷ drop (k + 1) text) lf)

pub some-line : (b : ℕ) (bs : List ℕ) → 1 ≤ length (lines (b ∷ bs))
some-line b bs = by (nat_eq b 10)
  where
    put-some : (ps : List (List ℕ)) → 1 ≤ length (put b ps)
    put-some [] = omega arith
    put-some (p ∷ ps) = omega arith

    by : (t : Bool) → 1 ≤ length (if t then [] ∷ lines bs else put b (lines bs))
    by true = omega arith
    by false = put-some (lines bs)

put-append : (b : ℕ) (ps qs : List (List ℕ)) → 1 ≤ length ps → put b (ps ++ qs) ≡ put b ps ++ qs
put-append b [] qs h = absurd (omega arith)
put-append b (p ∷ ps) qs h = refl

pub lines-append : (before xs : List ℕ) → whole_lines before ≡ true → lines (before ++ xs) ≡ lines before ++ lines xs
lines-append [] xs w = refl
lines-append (b ∷ []) xs w = ap (λ t. if t then [] ∷ lines xs else put b (lines xs)) w ∙ sym (ap (λ t. (if t then [] ∷ [] else put b []) ++ lines xs) w)
lines-append (b ∷ c ∷ bs) xs w = by (nat_eq b 10) (lines-append (c ∷ bs) xs w)
  where
    by : (t : Bool) → lines ((c ∷ bs) ++ xs) ≡ lines (c ∷ bs) ++ lines xs
        → (if t then [] ∷ lines ((c ∷ bs) ++ xs) else put b (lines ((c ∷ bs) ++ xs))) ≡ (if t then [] ∷ lines (c ∷ bs) else put b (lines (c ∷ bs))) ++ lines xs
    by true e = ap (λ ls. [] ∷ ls) e
    by false e = ap (put b) e ∙ put-append b (lines (c ∷ bs)) (lines xs) (some-line c bs)

lines-ended : (line : List ℕ) → free 10 line ≡ true → lines (line ++ 10 ∷ []) ≡ line ∷ []
lines-ended [] f = refl
lines-ended (b ∷ line) f = by (nat_eq b 10) refl (lines-ended line (and-second (not (nat_eq b 10)) _ f))
  where
    by : (t : Bool) → nat_eq b 10 ≡ t → lines (line ++ 10 ∷ []) ≡ line ∷ []
        → (if t then [] ∷ lines (line ++ 10 ∷ []) else put b (lines (line ++ 10 ∷ []))) ≡ (b ∷ line) ∷ []
    by true e r = let n : not (nat_eq b 10) ≡ true = and-first _ _ f in absurd cc
    by false e r = ap (put b) r

whole-ended : (xs : List ℕ) → whole_lines (xs ++ 10 ∷ []) ≡ true
whole-ended [] = refl
whole-ended (x ∷ []) = refl
whole-ended (x ∷ y ∷ xs) = whole-ended (y ∷ xs)

-- the bytes before some rest of a text
pub record Passed (text before rest : List ℕ) : Type 0 where
  pub joined : text ≡ before ++ rest
  pub cut : lines text ≡ lines before ++ lines rest
  pub none : no_mark (lines before) ≡ true
  pub whole : (whole_lines before || nat_eq (length rest) 0) ≡ true

pub record IsPassed (text rest : List ℕ) : Type 0 where
  pub before : List ℕ
  pub passed : Passed text before rest

-- one line later
record Later (text before line after : List ℕ) : Type 0 where
  further : List ℕ
  joined : text ≡ further ++ after
  longer : length before ≤ length further
  lines_are : lines further ≡ lines before ++ line ∷ []
  whole : (whole_lines further || nat_eq (length after) 0) ≡ true

or-true : (a b : Bool) → b ≡ true → (a || b) ≡ true
or-true true b h = refl
or-true false b h = h

or-first : (a b : Bool) → a ≡ true → (a || b) ≡ true
or-first true b h = refl
or-first false b h = absurd cc

was-whole : (before rest : List ℕ) → 0 < length rest → (whole_lines before || nat_eq (length rest) 0) ≡ true → whole_lines before ≡ true
was-whole before rest some w = by (whole_lines before) w
  where
    by : (t : Bool) → (t || nat_eq (length rest) 0) ≡ true → t ≡ true
    by true h = refl
    by false h = let z = eqb-true (length rest) 0 h in absurd (omega arith)

line-later : (text before rest line after : List ℕ) → Passed text before rest → IsFirstLine rest line after → lines rest ≡ line ∷ lines after → 0 < length rest
    → Later text before line after
line-later text before rest line after p (IsFirstLine.ended e f) ls some =
    let w = was-whole before rest some p.whole in
    record {
      further = before ++ (line ++ 10 ∷ []);
      joined = p.joined ∙ ap (λ r. before ++ r) (e ∙ sym (append_assoc line (10 ∷ []) after)) ∙ sym (append_assoc before (line ++ 10 ∷ []) after);
      longer = omega (arith, length-append before (line ++ 10 ∷ []));
      lines_are = lines-append before (line ++ 10 ∷ []) w ∙ ap (λ l. lines before ++ l) (lines-ended line f);
      whole = or-first _ _ (ap whole_lines (sym (append_assoc before line (10 ∷ []))) ∙ whole-ended (before ++ line));
    }
line-later text before rest line after p (IsFirstLine.alone e none) ls some =
    let w = was-whole before rest some p.whole in
    record {
      further = before ++ line;
      joined = p.joined ∙ ap (λ r. before ++ r) e ∙ sym (append-nil (before ++ line)) ∙ ap (λ r. (before ++ line) ++ r) (sym none);
      longer = omega (arith, length-append before line);
      lines_are = lines-append before line w ∙ ap (λ l. lines before ++ l) (ap lines (sym e) ∙ ls ∙ ap (λ a. line ∷ lines a) none);
      whole = or-true (whole_lines (before ++ line)) _ (ap (λ a. nat_eq (length a) 0) none);
    }

all-append : (p : List ℕ → Bool) (xs ys : List (List ℕ)) → list_all p xs ≡ true → list_all p ys ≡ true → list_all p (xs ++ ys) ≡ true
all-append p [] ys hx hy = hy
all-append p (x ∷ xs) ys hx hy = and-both _ _ (and-first _ _ hx) (all-append p xs ys (and-second (p x) _ hx) hy)

pub passed-line : (text rest line after : List ℕ) → IsPassed text rest → IsFirstLine rest line after → lines rest ≡ line ∷ lines after → 0 < length rest
    → is_mark (fields (said line)) ≡ false → IsPassed text after
passed-line text rest line after i f ls some no_mark_here =
    let p = i.passed in
    let l = line-later text i.before rest line after p f ls some in
    record {
      before = l.further;
      passed = record {
        joined = l.joined;
        cut = p.cut ∙ ap (λ x. lines i.before ++ x) ls ∙ sym (append_assoc (lines i.before) (line ∷ []) (lines after)) ∙
            ap (λ x. x ++ lines after) (sym l.lines_are);
        none = ap no_mark l.lines_are ∙ all-append _ (lines i.before) (line ∷ []) p.none (ap (λ t. not t && true) no_mark_here);
        whole = l.whole;
      };
    }

front-taken : (text front back : List ℕ) → text ≡ front ++ back → take (length text - length back) text ≡ front
front-taken text front back e =
    let n : length text - length back ≡ length front = let l = ap length e in omega (arith, l, length-append front back) in
    (λ i. take (n i) (e i)) ∙ taken
  where
    taken : take (length front) (front ++ back) ≡ front
    taken = grind (arith, common_steps)

back-left : (text front back : List ℕ) → text ≡ front ++ back → drop (length text - length back) text ≡ back
back-left text front back e =
    let n : length text - length back ≡ length front = let l = ap length e in omega (arith, l, length-append front back) in
    (λ i. drop (n i) (e i)) ∙ left
  where
    left : drop (length front) (front ++ back) ≡ back
    left = grind (arith, common_steps)

pub passed-mark : (text rest line after : List ℕ) → IsPassed text rest → IsFirstLine rest line after → lines rest ≡ line ∷ lines after → 0 < length rest
    → is_mark (fields (said line)) ≡ true → IsSplit text (length text - length rest) (length text - length after)
passed-mark text rest line after i f ls some here =
    let p = i.passed in
    let l = line-later text i.before rest line after p f ls some in
    let taken = front-taken text i.before rest p.joined in
    let total = ap length p.joined in
    let total2 = ap length l.joined in
    let longer = l.longer in
    record {
      line = line;
      end_in = omega (arith, total, total2, longer, length-append i.before rest, length-append l.further after);
      start_in = omega arith;
      cut = p.cut ∙ (λ r. lines (sym taken r) ++ ls r) ∙ ap (λ a. lines (take (length text - length rest) text) ++ line ∷ lines a)
          (sym (back-left text l.further after l.joined));
      mark = here;
      first = ap (λ x. no_mark (lines x)) taken ∙ p.none;
      whole = ap whole_lines taken ∙ was-whole i.before rest some p.whole;
      line_ends = by (nat_eq (length after) 0) refl (whole_lines l.further) l.whole (sym (ap whole_lines (front-taken text l.further after l.joined)));
    }
  where
    by : (t : Bool) → nat_eq (length after) 0 ≡ t → (u : Bool) → (u || t) ≡ true → u ≡ whole_lines (take (length text - length after) text)
        → (whole_lines (take (length text - length after) text) || nat_eq (length text - length after) (length text)) ≡ true
    by t e true h same = or-first _ _ (sym same)
    by true e false h same = or-true (whole_lines (take (length text - length after) text)) _
        (let z = eqb-true (length after) 0 e in eq-eqb (length text - length after) (length text) (omega arith))
    by false e false h same = absurd cc

pub none-left : (text rest : List ℕ) → IsPassed text rest → rest ≡ [] → no_mark (lines text) ≡ true
none-left text rest i e = ap no_mark (i.passed.cut ∙ ap (λ r. lines i.before ++ lines r) e ∙ append-nil (lines i.before)) ∙ i.passed.none
