-- The input of a demo: its words, and that their rows are right.
use Rattle.std.proofs.Common.{◌≡◌, ℕ, zero, suc, ◌+◌, ◌*◌, ◌-◌, ◌^◌, ◌<◌, ◌≤◌, true, nat_lt, if◌then◌else◌, List, [], ◌∷◌, ◌++◌, length, length-append, map, take, drop, replicate, Some, None, arith, refl, ap, sym, ◌∙◌}
use Rattle.std.specs.Prelude.{codes}
use Rattle.std.specs.Fmt.{decimal}
use Rattle.std.specs.List.{range_with_len}
use Rattle.std.proofs.Math.Nat.{mod-lt}
use Rattle.std.proofs.lemmas.Bool.{le-leb, lt-ltb}
use Rattle.std.proofs.lemmas.Fmt.{decimal_nonempty, digits_decimal, digits_value-decimal, length-decimal-le}
use Rattle.std.proofs.lemmas.List.{length-drop, length-map, length-take-le, nil_from_length, take-append-drop}
use Rattle.std.proofs.lemmas.List.FromFn.{length-map-range_with_len, map-range_with_len_more}
use Rattle.ae_fields.specs.Number.{is_numeral}
use Rattle.ae_fields.specs.Rows.{bad_row, is_right, row_words, words_in, wrong_column, wrong_row}
use Rattle.ae_fields.proofs.PlainLemmas.{own}
use Rattle.ae_seqtype.specs.ValueTree.{cut}
use Rattle.ae_seqtype.proofs.Cuts.{length-cut}
use Rattle.ae_seq.specs.ProgramTree.{ProgramTree}
use Rattle.ae_jobs.specs.EvalRows.{AreBlocks}
use Rattle.ae_jobs.specs.RunTexts.{input_widths}
use Rattle.ae_jobs.specs.DemoTexts.{demo_blocks, demo_program, demo_table, demo_word, demo_words}
use Rattle.ae_jobs.proofs.RowCounts.{mul-le}
use Rattle.ae_fields.proofs.PartLemmas.{and-both}

-- ---- sizes

-- no demo has more than 131,072 words
pub few_words : (n : ℕ) → n ≤ 64 → 2 * n * (16 * n) ≤ 131072
few_words n h =
    let wide : 2 * n * (16 * n) ≤ 2 * n * 1024 = mul-le (2 * n) (16 * n) 1024 (omega (arith, h)) in
    omega (arith, wide, h)

pub short_program : (n : ℕ) → n ≤ 64 → length (demo_program n) < 4294967295
short_program n h =
    let front : List ℕ = codes "fn sum x:u16 y:u16\nz = add x y\nend z\nfn main a:[" in
    let back : List ℕ = codes "]u16\nb = shift 1 a\nc = map2 sum a b\nd = reduce add c\nend d\n" in
    let small : 16 * n < 2 ^ 64 = omega (arith, h) in
    let digits : length (decimal (16 * n)) ≤ 20 = length-decimal-le 20 (16 * n) (omega arith) (omega arith) small in
    let fronts : length front ≤ 1000 = omega arith in
    let backs : length back ≤ 1000 = omega arith in
    omega (arith, length-append (front ++ decimal (16 * n)) back, length-append front (decimal (16 * n)), digits, fronts, backs)

-- ---- words

-- each is below 2 ^ 16
abbrev AreSmall : List ℕ → Type 0
AreSmall [] = Unit {0}
AreSmall (w ∷ ws) = (w < 65536) × AreSmall ws

small_take : (k : ℕ) (ws : List ℕ) → AreSmall ws → AreSmall (take k ws)
small_take zero ws h = tt
small_take (suc k) [] h = tt
small_take (suc k) (w ∷ ws) h = (h.0, small_take k ws h.1)

small_drop : (k : ℕ) (ws : List ℕ) → AreSmall ws → AreSmall (drop k ws)
small_drop zero ws h = h
small_drop (suc k) [] h = tt
small_drop (suc k) (w ∷ ws) h = small_drop k ws h.1

small_words : (n a count : ℕ) → AreSmall (map (demo_word n) (range_with_len a count))
small_words n a zero = tt
small_words n a (suc count) = (mod-lt (n + 37 * a) (omega arith), small_words n (a + 1) count)

pub words_more : (n k : ℕ) → map (demo_word n) (range_with_len 0 (k + 1)) ≡ map (demo_word n) (range_with_len 0 k) ++ demo_word n k ∷ []
words_more n k = map-range_with_len_more (demo_word n) 0 k k (omega arith)

-- ---- rows

row_back : (ws : List ℕ) → AreSmall ws → row_words (map decimal ws) ≡ ws
row_back [] h = refl
row_back (w ∷ ws) h = λ i. digits_value-decimal own w (omega (arith, h.0)) i ∷ row_back ws h.1 i

words_back : (m k : ℕ) (ws : List ℕ) → AreSmall ws → length ws ≡ m * k → words_in (map (map decimal) (cut m k ws)) ≡ ws
words_back zero k ws h long = sym (nil_from_length ws (omega (arith, long)))
words_back (suc m) k ws h long =
    let sum : suc m * k ≡ k + m * k = omega arith in
    let rest : length (drop k ws) ≡ m * k = omega (arith, length-drop k ws, long, sum) in
    (λ i. row_back (take k ws) (small_take k ws h) i ++ words_back m k (drop k ws) (small_drop k ws h) rest i) ∙ take-append-drop k ws

numeral : (w : ℕ) → w < 65536 → is_numeral (decimal w) ≡ true
numeral w h =
    let small : w < 2 ^ 64 = omega (arith, h) in
    let short = length-decimal-le 20 w (omega arith) (omega arith) small in
    let some = decimal_nonempty w small in
    and-both _ _ (and-both _ _ (le-leb 1 _ (omega arith)) (le-leb _ 20 short)) (digits_decimal own w small)

field_right : (w : ℕ) → w < 65536 → is_right 16 (decimal w) ≡ true
field_right w h =
    let wide : w < 2 ^ 16 = omega (arith, h) in
    and-both _ _ (numeral w h) (ap (λ x. nat_lt x (2 ^ 16)) (digits_value-decimal own w (omega (arith, h))) ∙ lt-ltb w (2 ^ 16) wide)

row_right : (k n : ℕ) (ws : List ℕ) → AreSmall ws → length ws ≡ n → wrong_column k (replicate n 16) (map decimal ws) ≡ None
row_right k zero [] h long = refl
row_right k zero (w ∷ ws) h long = absurd (omega (arith, long))
row_right k (suc n) [] h long = absurd (omega (arith, long))
row_right k (suc n) (w ∷ ws) h long =
    ap (λ t. if t then wrong_column (k + 1) (replicate n 16) (map decimal ws) else Some k) (field_right w h.0) ∙
    row_right (k + 1) n ws h.1 (omega (arith, long))

rows_right : (r m k : ℕ) (ws : List ℕ) → AreSmall ws → length ws ≡ m * k → bad_row r (replicate k 16) (map (map decimal) (cut m k ws)) ≡ None
rows_right r zero k ws h long = refl
rows_right r (suc m) k ws h long =
    let sum : suc m * k ≡ k + m * k = omega arith in
    let first : length (take k ws) ≡ k = length-take-le k ws (omega (arith, long, sum)) in
    let rest : length (drop k ws) ≡ m * k = omega (arith, length-drop k ws, long, sum) in
    ap (λ o. wrong_row r o (bad_row (r + 1) (replicate k 16) (map (map decimal) (cut m k (drop k ws))))) (row_right 1 k (take k ws) (small_take k ws h) first)
    ∙ rows_right (r + 1) m k (drop k ws) (small_drop k ws h) rest

-- the input is right for a program whose words have 16 bits, as many as a block has
pub demo_rows : (p : ProgramTree) (n : ℕ) → n ≤ 64 → input_widths p ≡ replicate (16 * n) 16 → AreBlocks p (demo_blocks n) (demo_table n) (demo_words n)
demo_rows p n h wide =
    let long : length (demo_words n) ≡ demo_blocks n * (16 * n) = length-map-range_with_len (demo_word n) 0 (demo_blocks n * (16 * n)) in
    let small : AreSmall (demo_words n) = small_words n 0 (demo_blocks n * (16 * n)) in
    let many : length (demo_table n) ≡ demo_blocks n = length-map (cut (demo_blocks n) (16 * n) (demo_words n)) (map decimal) ∙
    length-cut (demo_blocks n) (16 * n) (demo_words n) in
    record {
      many = sym many;
      rows = record {
        columns_are = refl;
        few = omega (arith, many, h);
        right = ap (λ us. bad_row 1 us (demo_table n)) wide ∙ rows_right 1 (demo_blocks n) (16 * n) (demo_words n) small long;
        words_are = sym (words_back (demo_blocks n) (16 * n) (demo_words n) small long);
      };
    }
