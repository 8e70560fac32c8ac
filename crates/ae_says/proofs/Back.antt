-- A program that a text says is the one that is read, where the lines are within the limits of what is read.
use Rattle.std.proofs.Common.{◌≡◌, ℕ, suc, ◌+◌, ◌^◌, ◌<◌, ◌≤◌, Bool, true, false, ◌&&◌, ◌==◌, nat_le, nat_lt, List, [], ◌∷◌, ◌++◌, length, map, Option, Some, None, IsTrue, slice_get, if◌then◌else◌, refl, sym, ap, ◌∙◌, subst, codes}
use Rattle.std.proofs.lemmas.Bool.{leb-true, lt-ltb}
use Rattle.std.specs.Fmt.{decimal}
use Rattle.std.specs.Str.{all_ascii_digits, bytes_eq}
use Rattle.std.specs.Str.Parse.{digits_value}
use Rattle.ae_seq.specs.ProgramTree.{ProgramTree}
use Rattle.ae_seq.specs.Formed.{all_distinct, formed_funcs, func_names, line_count, within}
use Rattle.ae_seq.specs.Typing.{where_ok, ◌>>=◌}
use Rattle.ae_fields.specs.Cut.{fields, lines, said}
use Rattle.ae_fields.specs.Grammar.{Known, Part, State, program, start, reading_from, step, first_line, after_line, by_part, by_state, ended_with, finish, node, at_end, of_version, places_after}
use Rattle.ae_fields.specs.Number.{is_numeral, numeral_value}
use Rattle.ae_fields.specs.Parts.{is_mark}
use Rattle.ae_fields.specs.Scopes.{place}
use Rattle.ae_fields.specs.Words.{words_after}
use Rattle.ae_fields.proofs.OptionLemmas.{bind-some, some-is}
use Rattle.ae_fields.proofs.PlainLemmas.{number-of-decimal}
use Rattle.ae_print.proofs.ProgramRead.{opened, open-first}
use Rattle.ae_parse.proofs.Soundness.{Sound, start-sound, line-sound}
use Rattle.ae_says.specs.Laws.{SaidTextsRead}
use Rattle.ae_says.specs.Readable.{AreReadable, IsReadable}
use Rattle.ae_says.specs.Says.{AreLines, IsLine, Line, line_at, plain, said_from, same, zeros}
use Rattle.ae_says.proofs.Once.{AllLow, ItemsNamed, by_words, const_rest, funcs-run, items-named, low-parts, no-equals, opened-runs, runs, version-some, whole-is}
use Rattle.ae_says.proofs.Funcs.{funcs_said}
use Rattle.ae_seq.proofs.Judging.{left as and-first, right as and-second}

-- ---- a line that is written otherwise is read the same

abbrev AreSmall : List (List ℕ) → Type 0
AreSmall fs = (k : ℕ) (f : List ℕ) → slice_get fs k ≡ Some f → all_ascii_digits f ≡ true → IsTrue (is_numeral f) × (digits_value 10 f < 2 ^ 64)

number-back : (f : List ℕ) → (all_ascii_digits f ≡ true → IsTrue (is_numeral f) × (digits_value 10 f < 2 ^ 64)) → numeral_value (plain f) ≡ numeral_value f
number-back f small = by (all_ascii_digits f) refl
  where
    by : (b : Bool) → all_ascii_digits f ≡ b → numeral_value (if b then decimal (digits_value 10 f) else f) ≡ numeral_value f
    by false h = refl
    by true h =
        let s = small h in
        let v : ℕ = digits_value 10 f in
        let own : numeral_value f ≡ Some v = ap (λ b. if b then (if nat_lt v (2 ^ 64) then Some v else None) else None) s.0 ∙
        ap (λ b. if b then Some v else None) (lt-ltb v (2 ^ 64) s.1) in
        number-of-decimal (decimal v) v s.1 refl ∙ sym own

words-back : (before : List ℕ) (ws : List (List ℕ)) → AreSmall ws → words_after before (map plain ws) ≡ words_after before ws
words-back before [] small = refl
words-back before (f ∷ fs) small =
    ap (λ o. o >>= λ n. words_after (before ++ n ∷ []) (map plain fs)) (number-back f (small 0 f refl)) ∙
    by (numeral_value f) (λ n. words-back (before ++ n ∷ []) fs (λ k g e. small (suc k) g e))
  where
    by : (o : Option ℕ) → ((n : ℕ) → words_after (before ++ n ∷ []) (map plain fs) ≡ words_after (before ++ n ∷ []) fs)
        → (o >>= λ n. words_after (before ++ n ∷ []) (map plain fs)) ≡ (o >>= λ n. words_after (before ++ n ∷ []) fs)
    by None rest = refl
    by (Some n) rest = rest n

not-placed : (items : List (List ℕ)) (o : Option ℕ) → ((k : ℕ) → o ≡ Some k → ⊥) → o ≡ None
not-placed items None h = refl
not-placed items (Some k) h = absurd (h k refl)

part-back : (n : ℕ) (k : Known) (part : Option Part) (name type : List ℕ) (ws : List (List ℕ)) → ItemsNamed part → AreSmall ws
    → by_part n k part name (const_rest type (map plain ws)) ≡ by_part n k part name (const_rest type ws)
part-back n k None name type ws h small = refl
part-back n k (Some p) name type ws h small = by (bytes_eq name (codes "end"))
  where
    by : (b : Bool) → (if b then finish n k p (const_rest type (map plain ws)) else node n k p name (const_rest type (map plain ws))) ≡ (if b then finish n k p
        (const_rest type ws) else node n k p name (const_rest type ws))
    by true =
        let none : place (codes "=") p.items ≡ None = not-placed p.items (place (codes "=") p.items) (λ j e. no-equals p.items j h e) in
        let nothing : (fs : List (List ℕ)) → finish n k p (codes "=" ∷ fs) ≡ None = λ fs. ap
        (λ o. (o >>= λ j. places_after p.items (j ∷ []) fs) >>= λ rs. ended_with n k p rs) none in
        nothing (codes "const" ∷ type ∷ map plain ws) ∙ sym (nothing (codes "const" ∷ type ∷ ws))
    by false = ap (by_words n k p name type) (words-back [] ws small)

step-back : (n : ℕ) (s : State) (fs gs : List (List ℕ)) → ItemsNamed s.part → AreSmall fs → IsLine fs gs → step n s gs ≡ step n s fs
step-back n s fs gs h small (same e) = ap (step n s) (sym e)
step-back n s fs gs h small (zeros name type ws a b) = ap (step n s) b ∙ ap (where_ok (nat_le n 4096)) (by (s.known.version == 0)) ∙ ap (step n s) (sym a)
  where
    words : AreSmall ws
    words k f e = small (suc (suc (suc (suc k)))) f (ap (λ xs. slice_get xs (suc (suc (suc (suc k))))) a ∙ e)

    by : (b : Bool) → (if b then first_line n s name (const_rest type (map plain ws)) else by_part n s.known s.part name (const_rest type (map plain ws)))
        ≡ (if b then first_line n s name (const_rest type ws) else by_part n s.known s.part name (const_rest type ws))
    by true = part-back n (of_version 1 s.known) s.part name type ws h words
    by false = part-back n s.known s.part name type ws h words

-- ---- lines

low-lines : (ls : List (List ℕ)) (ws : List Line) (n : ℕ) → AreLines (said_from n ls) ws → AreReadable n ls → AllLow ws
low-lines [] [] n are h = tt
low-lines [] (w ∷ ws) n are h = absurd are
low-lines (l ∷ ls) ws n are h = by (is_mark (fields (said l))) refl are (λ vs m. low-lines ls vs m)
  where
    none : (ws : List Line) → AreLines [] ws → AllLow ws
    none [] a = tt
    none (w ∷ ws) a = absurd a

    own : (fs : List (List ℕ)) (ws : List Line) → fields (said l) ≡ fs → IsReadable n (said l) → AreLines (line_at n fs ++ said_from (n + 1) ls) ws
        → ((vs : List Line) → AreLines (said_from (n + 1) ls) vs → AllLow vs) → AllLow ws
    own [] ws e r a rest = rest ws a
    own (f ∷ fs) [] e r a rest = absurd a
    own (f ∷ fs) (w ∷ vs) e r a rest = (subst (λ k. k ≤ 4096) a.0 (r.early f fs e), rest vs a.2)

    by : (b : Bool) → is_mark (fields (said l)) ≡ b → AreLines (if b then [] else line_at n (fields (said l)) ++ said_from (n + 1) ls) ws
        → ((vs : List Line) (m : ℕ) → AreLines (said_from m ls) vs → AreReadable m ls → AllLow vs) → AllLow ws
    by true e a rest = none ws a
    by false e a rest = let r = h e in own (fields (said l)) ws refl r.0 a (λ vs b. rest vs (n + 1) b r.1)

-- what is read of lines in turn is what is read of the text
record Ends (t : State) (q : ProgramTree) : Type 0 where
  ends : (m : ℕ) → at_end m t ≡ program q

reading-back : (ls : List (List ℕ)) (ws : List Line) (n : ℕ) (s t : State) (q : ProgramTree) → Sound n s → AreLines (said_from n ls) ws → AreReadable n ls
    → runs ws s ≡ Some t → Ends t q → reading_from ls n s ≡ program q
reading-back [] [] n s t q sound are h e last = ap (at_end n) (some-is s t e) ∙ last.ends n
reading-back [] (w ∷ ws) n s t q sound are h e last = absurd are
reading-back (l ∷ ls) ws n s t q sound are h e last = by (is_mark (fields (said l))) refl are (reading-back ls)
  where
    none : (ws : List Line) → AreLines [] ws → runs ws s ≡ Some t → at_end n s ≡ program q
    none [] a g = ap (at_end n) (some-is s t g) ∙ last.ends n
    none (w ∷ ws) a g = absurd a

    later : (u : State) → step n s (fields (said l)) ≡ Some u → IsReadable n (said l) → (Sound (n + 1) u → reading_from ls (n + 1) u ≡ program q)
        → by_state n (after_line n s (said l)) (reading_from ls (n + 1)) ≡ program q
    later u g r rest =
        let after : after_line n s (said l) ≡ Some u = ap (λ b. where_ok b (step n s (fields (said l)))) r.printed ∙ g in
        ap (λ o. by_state n o (reading_from ls (n + 1))) after ∙ rest (line-sound n s u (said l) sound after)

    own : (fs : List (List ℕ)) (ws : List Line) → fields (said l) ≡ fs → IsReadable n (said l) → AreLines (line_at n fs ++ said_from (n + 1) ls) ws
        → runs ws s ≡ Some t
        → ((vs : List Line) (u : State) → Sound (n + 1) u → AreLines (said_from (n + 1) ls) vs → runs vs u ≡ Some t → reading_from ls (n + 1) u ≡ program q)
        → by_state n (after_line n s (said l)) (reading_from ls (n + 1)) ≡ program q
    own [] ws is r a g rest = later s (ap (step n s) is) r (λ z. rest ws s z a g)
    own (f ∷ fs) [] is r a g rest = absurd a
    own (f ∷ fs) (w ∷ vs) is r a g rest =
        let c = bind-some (step w.number s w.fields) _ _ g in
        let small : AreSmall (f ∷ fs) = λ k d at. r.small k d (ap (λ xs. slice_get xs k) is ∙ at) in
        let here : step n s (f ∷ fs) ≡ Some c.0 = sym (step-back n s (f ∷ fs) w.fields (items-named n s sound) small a.1) ∙ ap (λ k. step k s w.fields) a.0 ∙
        c.1 in
        later c.0 (ap (step n s) is ∙ here) r (λ z. rest vs c.0 z a.2 c.2)

    by : (b : Bool) → is_mark (fields (said l)) ≡ b → AreLines (if b then [] else line_at n (fields (said l)) ++ said_from (n + 1) ls) ws
        → ((vs : List Line) (m : ℕ) (u v : State) (r : ProgramTree) → Sound m u → AreLines (said_from m ls) vs → AreReadable m ls → runs vs u ≡ Some v
        → Ends v r → reading_from ls m u ≡ program r)
        → (if b then at_end n s else by_state n (after_line n s (said l)) (reading_from ls (n + 1))) ≡ program q
    by true m a rest = none ws a e
    by false m a rest = let r = h m in own (fields (said l)) ws refl r.0 a e (λ vs u z b g. rest vs (n + 1) u t q z b r.1 g last)

pub back : SaidTextsRead
back text p says fine fit readable =
    let all = func_names p.funcs in
    let a = and-first (within 1 2 p.version && nat_le 1 (length p.funcs) && nat_le (line_count p) 4096 && all_distinct all) _ fine in
    let b = and-first (within 1 2 p.version && nat_le 1 (length p.funcs) && nat_le (line_count p) 4096) _ a in
    let some : 1 ≤ length p.funcs = leb-true 1 (length p.funcs)
    (and-second (within 1 2 p.version) _ (and-first (within 1 2 p.version && nat_le 1 (length p.funcs)) _ b)) in
    let distinct : all_distinct all ≡ true = and-second (within 1 2 p.version && nat_le 1 (length p.funcs) && nat_le (line_count p) 4096) _ a in
    let funcs : formed_funcs p.version 0 p.funcs ≡ true = and-second
    (within 1 2 p.version && nat_le 1 (length p.funcs) && nat_le (line_count p) 4096 && all_distinct all) _ fine in
    let low = low-lines (lines text) (says.first ++ funcs_said all p.funcs) 1 says.lines readable in
    let lows = low-parts says.first (funcs_said all p.funcs) low in
    let r = funcs-run p.funcs (opened p.version) all (version-some p.version says.first says.version)
    (open-first p.version p.funcs) refl refl distinct funcs fit lows.1 in
    let are : runs (says.first ++ funcs_said all p.funcs) start ≡ Some r.last = opened-runs p.version says.first all p.funcs says.version some low ∙ r.are in
    reading-back (lines text) (says.first ++ funcs_said all p.funcs) 1 start r.last p start-sound says.lines readable are
    (record { ends = λ m. whole-is m r.last p some r.part r.version r.funcs })
