-- The report lines and the notes are comments: no token stands in them.
use Rattle.std.proofs.Common.{◌≡◌, ℕ, zero, suc, ◌+◌, ◌/◌, ◌%◌, ◌<◌, List, [], ◌∷◌, ◌++◌, length, Bool, true, false, refl, sym, ap, ◌∙◌, subst, arith, append_assoc}
use Rattle.std.specs.Prelude.{not, ◌&&◌, ◌==◌, codes, decimal, if◌then◌else◌}
use Rattle.std.specs.Fmt.{digits, digits_onto, digit_glyph}
use Rattle.std.specs.List.{list_all}
use Rattle.std.proofs.lemmas.Bool.{and_parts, and_from, cond-true, cond-false, lt-ltb}
use Rattle.std.proofs.lemmas.Bool.Decides.{nat_tests}
use Rattle.std.proofs.lemmas.List.Folds.{list_all-append}
use Rattle.ae_word.specs.AtomTree.{AtomTree, word, pair}
use Rattle.ae_word.specs.AtomText.{kind_letter, atom_text}
use Rattle.ae_sttype.specs.StTree.{StTree, atom, tseq, sseq}
use Rattle.ae_sttype.specs.TypeText.{st_text}
use Rattle.ae_vtoken.specs.Tokens.{after_gap, Between, InLine}
use Rattle.ae_verilog.specs.NetlistModule.{each_numbered}
use Rattle.ae_verilog.specs.Notes.{NoteTree, note_line, is_printed}
use Rattle.ae_verilog.specs.ReportLines.{ReportTree, number_line, enable_line, in_line, out_line, report_lines, is_clean}
use Rattle.ae_spelled.proofs.Pieces.{clean_both, clean_from}
use Rattle.ae_spelled.proofs.Lines.{IsTextOf, no_text, both_texts, skip}

-- a byte that may stand within such a line
abbrev is_inner : ℕ → Bool
is_inner b = not (b == 10) && is_clean b

-- a text of such bytes
record IsInner (text : List ℕ) : Type 0 where
  all : list_all is_inner text ≡ true

inner_both : (xs ys : List ℕ) → IsInner xs → IsInner ys → IsInner (xs ++ ys)
inner_both xs ys hx hy = record { all = list_all-append is_inner xs ys ∙ and_from _ _ hx.all hy.all }

inner_more : (x : ℕ) (xs : List ℕ) → is_inner x ≡ true → IsInner xs → IsInner (x ∷ xs)
inner_more x xs h hs = record { all = and_from _ _ h hs.all }

-- digits

glyph_inner : (d : ℕ) → d < 10 → is_inner (digit_glyph false d) ≡ true
glyph_inner d h = subst (λ b. is_inner b ≡ true) (sym (cond-true _ _ _ (lt-ltb d 10 h))) (shown d h)
  where
    shown : (d : ℕ) → d < 10 → is_inner (48 + d) ≡ true
    shown d h = grind (arith, nat_tests)

onto_inner : (k n : ℕ) (acc : List ℕ) → IsInner acc → IsInner (digits_onto k 10 false n acc)
onto_inner zero n acc h = h
onto_inner (suc k) n acc h =
    let more : IsInner (digit_glyph false (n % 10) ∷ acc) = inner_more _ acc (glyph_inner (n % 10) (omega arith)) h in
    choose (n / 10 == 0) _ _ more (onto_inner k (n / 10) (digit_glyph false (n % 10) ∷ acc) more)
  where
    choose : (t : Bool) (xs ys : List ℕ) → IsInner xs → IsInner ys → IsInner (if t then xs else ys)
    choose true xs ys hx hy = hx
    choose false xs ys hx hy = hy

decimal_inner : (n : ℕ) → IsInner (decimal n)
unfolding digits
decimal_inner n = onto_inner 64 n [] (record { all = refl })

-- types

blank : IsInner (codes " ")
blank = record { all = refl }

letter_inner : (signed : Bool) → is_inner (kind_letter signed) ≡ true
letter_inner true = refl
letter_inner false = refl

atom_inner : (a : AtomTree) → IsInner (atom_text a)
atom_inner (word k) = inner_more _ (decimal k.width) (letter_inner k.signed) (decimal_inner k.width)
atom_inner (pair a b) =
    inner_both _ (codes ")") (inner_both (40 ∷ atom_text a) (44 ∷ atom_text b) (inner_more 40 _ refl (atom_inner a)) (inner_more 44 _ refl (atom_inner b)))
    (record { all = refl })

type_inner : (t : StTree) → IsInner (st_text t)
type_inner (atom a) = atom_inner a
type_inner (tseq n i t) =
    let first : IsInner (codes "TSeq " ++ decimal n) = inner_both (codes "TSeq ") (decimal n) (record { all = refl }) (decimal_inner n) in
    let second : IsInner (codes "TSeq " ++ decimal n ++ codes " " ++ decimal i) = inner_both _ (decimal i) (inner_both _ (codes " ") first blank)
    (decimal_inner i) in
    inner_both _ (st_text t) (inner_both _ (codes " ") second blank) (type_inner t)
type_inner (sseq n t) =
    let first : IsInner (codes "SSeq " ++ decimal n) = inner_both (codes "SSeq ") (decimal n) (record { all = refl }) (decimal_inner n) in
    inner_both _ (st_text t) (inner_both _ (codes " ") first blank) (type_inner t)

-- lines

line_over : (text rest : List ℕ) → list_all is_inner text ≡ true → after_gap InLine (text ++ 10 ∷ rest) ≡ after_gap Between rest
line_over [] rest h = refl
line_over (b ∷ bs) rest h =
    let parts = and_parts _ (list_all is_inner bs) h in
    cond-false _ _ _ (other b (and_parts (not (b == 10)) (is_clean b) parts.0).0) ∙ line_over bs rest parts.1
  where
    other : (b : ℕ) → not (b == 10) ≡ true → (b == 10) ≡ false
    other b h = grind (arith, nat_tests)

-- a comment to the end of a line
comment_line : (text : List ℕ) → IsInner text → IsTextOf (codes "//" ++ (text ++ codes "\n")) []
comment_line text h = record {
  tokens = λ rest us later. skip _ rest us (ap (after_gap InLine) (ap (λ l. 47 ∷ l) (append_assoc text (codes "\n") rest)) ∙
      line_over (47 ∷ text) rest (and_from true _ refl h.all)) later;
  clean = clean_both (codes "//") _ (record { all = refl })
      (clean_both text (codes "\n") (record { all = clean_from is_inner text inner_clean h.all }) (record { all = refl }));
}
  where
    inner_clean : (b : ℕ) → is_inner b ≡ true → is_clean b ≡ true
    inner_clean b h = (and_parts (not (b == 10)) (is_clean b) h).1

-- two texts in a comment, with a blank between
spaced_line : (front a b : List ℕ) → IsInner front → IsInner a → IsInner b → IsTextOf (codes "//" ++ (front ++ (a ++ (codes " " ++ (b ++ codes "\n"))))) []
spaced_line front a b hf ha hb =
    subst (λ l. IsTextOf (codes "//" ++ l) []) (append_assoc front (a ++ (codes " " ++ b)) (codes "\n") ∙
    ap (λ l. front ++ l) (append_assoc a (codes " " ++ b) (codes "\n")))
    (comment_line (front ++ (a ++ (codes " " ++ b))) (inner_both front _ hf (inner_both a _ ha (inner_both (codes " ") b blank hb))))

number_comment : (name : List ℕ) (n : ℕ) → IsInner name → IsTextOf (number_line name n) []
number_comment name n h = spaced_line (codes " ") name (decimal n) blank h (decimal_inner n)

enable_comment : (b : Bool) → IsTextOf (enable_line b) []
enable_comment true = comment_line (codes " enable") (record { all = refl })
enable_comment false = no_text

in_comment : (k : ℕ) (t : StTree) → IsTextOf (in_line k t) []
in_comment k t = spaced_line (codes " in ") (decimal k) (st_text t) (record { all = refl }) (decimal_inner k) (type_inner t)

out_comment : (outs k : ℕ) (t : StTree) → IsTextOf (out_line outs k t) []
out_comment outs k t = choose (outs == 1)
  where
    choose : (one : Bool) → IsTextOf (if one then codes "// out " ++ (st_text t ++ codes "\n") else codes "// out "
        ++ (decimal k ++ (codes " " ++ (st_text t ++ codes "\n")))) []
    choose true = comment_line (codes " out " ++ st_text t) (inner_both (codes " out ") (st_text t) (record { all = refl }) (type_inner t))
    choose false = spaced_line (codes " out ") (decimal k) (st_text t) (record { all = refl }) (decimal_inner k) (type_inner t)

listed_comments : (f : ℕ → StTree → List ℕ) (k : ℕ) (ts : List StTree) → ((j : ℕ) (t : StTree) → IsTextOf (f j t) []) → IsTextOf (each_numbered f k ts) []
listed_comments f k [] each = no_text
listed_comments f k (t ∷ ts) each = both_texts (f k t) (each_numbered f (k + 1) ts) [] [] (each k t) (listed_comments f (k + 1) ts each)

-- lines within the module

-- a comment behind two blanks
indented_line : (text : List ℕ) → IsInner text → IsTextOf (codes "  //" ++ (text ++ codes "\n")) []
indented_line text h = both_texts (codes "  ") (codes "//" ++ (text ++ codes "\n")) [] [] blanks (comment_line text h)
  where
    blanks : IsTextOf (codes "  ") []
    blanks = record { tokens = λ rest us later. skip _ rest us refl later; clean = record { all = refl } }

printed_inner : (b : ℕ) → is_printed b ≡ true → is_inner b ≡ true
printed_inner b h = grind (arith, nat_tests)

name_inner : (name : List ℕ) → list_all is_printed name ≡ true → list_all is_inner name ≡ true
name_inner [] h = refl
name_inner (b ∷ bs) h = let parts = and_parts _ (list_all is_printed bs) h in and_from _ _ (printed_inner b parts.0) (name_inner bs parts.1)

pub note_comment : (n : NoteTree) → list_all is_printed n.name ≡ true → IsTextOf (note_line n) []
note_comment n h =
    let behind : IsInner (codes ", " ++ st_text n.layout) = inner_both (codes ", ") (st_text n.layout) (record { all = refl }) (type_inner n.layout) in
    let named : IsInner (codes ": " ++ (n.name ++ (codes ", " ++ st_text n.layout))) = inner_both (codes ": ") _ (record { all = refl })
    (inner_both n.name _ (record { all = name_inner n.name h }) behind) in
    let whole : IsInner (codes " line " ++ (decimal n.line ++ (codes ": " ++ (n.name ++ (codes ", " ++ st_text n.layout))))) = inner_both (codes " line ") _
    (record { all = refl }) (inner_both (decimal n.line) _ (decimal_inner n.line) named) in
    subst (λ l. IsTextOf (codes "  //" ++ l) []) (shape (codes " line ") (decimal n.line) (codes ": ") n.name (codes ", ") (st_text n.layout) (codes "\n"))
    (indented_line _ whole)
  where
    shape : (a b c d e f g : List ℕ) → (a ++ (b ++ (c ++ (d ++ (e ++ f))))) ++ g ≡ a ++ (b ++ (c ++ (d ++ (e ++ (f ++ g)))))
    shape a b c d e f g = simp append_assoc

pub stream_comment : IsTextOf (codes "// stream\n") []
stream_comment = comment_line (codes " stream") (record { all = refl })

pub report_comments : (r : ReportTree) → IsTextOf (report_lines r) []
unfolding report_lines
report_comments r =
    both_texts _ _ [] [] (comment_line (codes " aeth 1") (record { all = refl }))
    (both_texts _ _ [] [] (number_comment (codes "slowdown") r.slowdown (record { all = refl }))
    (both_texts _ _ [] [] (number_comment (codes "latency") r.latency (record { all = refl }))
    (both_texts _ _ [] [] (number_comment (codes "muls") r.muls (record { all = refl }))
    (both_texts _ _ [] [] (number_comment (codes "load") r.load (record { all = refl }))
    (both_texts _ _ [] [] (enable_comment r.enable)
    (both_texts _ _ [] [] (listed_comments in_line 0 r.ins in_comment) (listed_comments (out_line (length r.outs)) 0 r.outs (out_comment (length r.outs)))))))))
