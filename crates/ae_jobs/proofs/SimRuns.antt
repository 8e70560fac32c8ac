-- The rows that the inputs take, clock by clock, and the lines of a run on them.
use Rattle.std.proofs.Common.{ℕ, zero, suc, ◌≡◌, ◌+◌, ◌-◌, ◌*◌, ◌/◌, ◌<◌, ◌≤◌, List, [], ◌∷◌, ◌++◌, length, take, drop, map, get_or, arith, refl, ap, sym, ◌∙◌, subst, append_assoc}
use Rattle.std.specs.List.{range_with_len}
use Rattle.std.specs.Fmt.{decimal}
use Rattle.std.proofs.lemmas.List.{append-nil, ext_get_or, get_or-map, length-drop, length-map}
use Rattle.std.proofs.lemmas.List.FromFn.{get_or-map-range_with_len, length-map-range_with_len}
use Rattle.ae_fields.specs.Rows.{words_in}
use Rattle.ae_netlist.specs.declared.cell.SizedCell.{SizedCell}
use Rattle.ae_netlist.specs.Circuit.{Circuit}
use Rattle.ae_netlist.specs.Counts.{is_input, count_of}
use Rattle.ae_netlist.specs.Runs.{Clock}
use Rattle.ae_netlist.specs.Rows.{AreFirsts, AreInputs, HasOneRunWith, filled}
use Rattle.ae_sim.specs.Playing.{HasPlayed, Plays, Simulated}
use Rattle.ae_play.specs.Keeps.{Keeps}
use Rattle.ae_play.specs.Lines.{shown_words, spaced}
use Rattle.ae_jobs.specs.SimTexts.{taken_words, words_of_clock, words_of_clocks}
use Rattle.ae_jobs.specs.SimPlaying.{AreSimRows, IsNetText, cell_widths, input_rows}
use Rattle.ae_jobs.proofs.SimRows.{NextRow, column_some, inputs_within, next_row, rows_count, rows_fit}

-- ---- the rows

-- the words of later rows
rest_is : (cells : List SizedCell) (columns : ℕ) (table : List (List (List ℕ))) (ws : List ℕ) (k : ℕ) → AreSimRows cells columns table ws → k ≤ length table
    → drop (k * columns) ws ≡ words_in (drop k table)
rest_is cells columns table ws zero a h =
    let none : 0 * columns ≡ 0 = omega arith in
    ap (λ m. drop m ws) none ∙ a.words_are
rest_is cells columns table ws (suc k) a h =
    let before = rest_is cells columns table ws k a (omega arith) in
    let n = next_row cells columns table k ws (drop (k * columns) ws) a (omega arith) before in
    let next : k + 1 ≡ suc k = omega arith in
    let at : suc k * columns ≡ k * columns + columns = omega arith in
    ap (λ m. drop m ws) at ∙ sym (drop_twice (k * columns) columns ws) ∙ n.back ∙ ap (λ m. words_in (drop m table)) next
  where
    drop_none : (n : ℕ) → drop {A = ℕ} n [] ≡ []
    drop_none zero = refl
    drop_none (suc n) = refl

    drop_twice : (m n : ℕ) (xs : List ℕ) → drop n (drop m xs) ≡ drop (m + n) xs
    drop_twice zero n xs =
        let e : n ≡ 0 + n = omega arith in
        ap (λ k. drop k xs) e
    drop_twice (suc m) n [] = drop_none n ∙ sym (drop_none (suc m + n))
    drop_twice (suc m) n (x ∷ xs) =
        let e : suc (m + n) ≡ suc m + n = omega arith in
        drop_twice m n xs ∙ ap (λ k. drop k (x ∷ xs)) e

row_there : (cells : List SizedCell) (columns : ℕ) (table : List (List (List ℕ))) (ws : List ℕ) (k : ℕ) → AreSimRows cells columns table ws → k < length table
    → NextRow cells columns table k (drop (k * columns) ws)
row_there cells columns table ws k a h = next_row cells columns table k ws (drop (k * columns) ws) a h (rest_is cells columns table ws k a (omega arith))

-- there are words for each input
pub row_has : (cells : List SizedCell) (columns : ℕ) (table : List (List (List ℕ))) (ws : List ℕ) (inputs k : ℕ) → AreSimRows cells columns table ws
    → inputs ≡ count_of is_input cells → k < length ws / columns → k * columns + inputs ≤ length ws
row_has cells columns table ws inputs k a e h =
    let count : length ws / columns ≡ length table = rows_count cells columns table ws a in
    let room : columns ≤ length (drop (k * columns) ws) = (row_there cells columns table ws k a (omega (arith, h, count))).room in
    let long : length (drop (k * columns) ws) ≡ length ws - k * columns = length-drop (k * columns) ws in
    let some : 0 < columns = column_some cells columns table ws a in
    let within : count_of is_input cells ≤ length (cell_widths cells) = inputs_within cells in
    omega (arith, room, long, some, within, a.columns_are, e)

-- and these are what the inputs take of the row
row_is : (cells : List SizedCell) (columns : ℕ) (table : List (List (List ℕ))) (ws : List ℕ) (inputs k : ℕ) → AreSimRows cells columns table ws
    → inputs ≡ count_of is_input cells → k < length table
    → take inputs (drop (k * columns) ws) ≡ taken_words (count_of is_input cells) (get_or table k [])
row_is cells columns table ws inputs k a e h =
    let rest = drop (k * columns) ws in
    let n = row_there cells columns table ws k a h in
    let within : count_of is_input cells ≤ length (cell_widths cells) = inputs_within cells in
    ap (λ m. take m rest) e ∙ sym (take_less (count_of is_input cells) columns rest (omega (arith, within, a.columns_are))) ∙
    ap (take (count_of is_input cells)) n.front
  where
    take_less : (m n : ℕ) (xs : List ℕ) → m ≤ n → take m (take n xs) ≡ take m xs
    take_less zero n xs h = refl
    take_less (suc m) zero xs h = absurd (omega arith)
    take_less (suc m) (suc n) [] h = refl
    take_less (suc m) (suc n) (x ∷ xs) h = ap (λ ys. x ∷ ys) (take_less m n xs (omega arith))

-- they fit a simulator of the netlist
pub row_fits : (cells : List SizedCell) (columns : ℕ) (table : List (List (List ℕ))) (ws : List ℕ) (inputs k : ℕ) (sim : Simulated) → sim.cells ≡ cells
    → AreSimRows cells columns table ws → inputs ≡ count_of is_input cells
    → k < length ws / columns → AreInputs sim.cells (take inputs (drop (k * columns) ws))
row_fits cells columns table ws inputs k sim same a e h =
    let count : length ws / columns ≡ length table = rows_count cells columns table ws a in
    let below : k < length table = omega (arith, h, count) in
    subst (λ (cs : List SizedCell). AreInputs cs (take inputs (drop (k * columns) ws))) (sym same)
    (subst (AreInputs cells) (sym (row_is cells columns table ws inputs k a e below)) (row_there cells columns table ws k a below).fits)

-- all rows are what the inputs take of the table
rows_are : (cells : List SizedCell) (columns : ℕ) (table : List (List (List ℕ))) (ws : List ℕ) (inputs count : ℕ) → AreSimRows cells columns table ws
    → inputs ≡ count_of is_input cells → count ≡ length table
    → map (λ c. take inputs (drop (c * columns) ws)) (range_with_len 0 count) ≡ input_rows cells table
rows_are cells columns table ws inputs count a e n =
    let given : ℕ → List ℕ = λ c. take inputs (drop (c * columns) ws) in
    let g : List (List ℕ) → List ℕ = λ r. taken_words (count_of is_input cells) r in
    let long : length (map given (range_with_len 0 count)) ≡ count = length-map-range_with_len given 0 count in
    let all : length (map g table) ≡ length table = length-map table g in
    ext_get_or [] (map given (range_with_len 0 count)) (map g table) (omega (arith, long, all, n)) (λ k h.
    get_or-map-range_with_len given 0 count k k [] (omega (arith, h, long)) (omega arith)
    ∙ row_is cells columns table ws inputs k a e (omega (arith, h, long, n))
    ∙ sym (get_or-map g table k [] [] (omega (arith, h, long, n))))

-- ---- the lines

-- the lines of all clocks
lines_kept : {K : Type 0} (content : K → List ℕ) (row shown : ℕ → List ℕ) (first : K) (n : ℕ) (last : K)
    → Keeps (λ c r ws old new. content new ≡ content old ++ words_of_clock c ws) row shown first n last
    → content last ≡ content first ++ words_of_clocks shown n
lines_kept content row shown first zero last k = ap content k ∙ sym (append-nil (content first))
lines_kept content row shown first (suc c) last k =
    k.2
    ∙ ap (λ x. x ++ words_of_clock c (shown c)) (lines_kept content row shown first c k.0 k.1)
    ∙ append_assoc (content first) (words_of_clocks shown c) (words_of_clock c (shown c))

pub text_is : {K : Type 0} (content : K → List ℕ) (n : Circuit) (fill columns : ℕ) (table : List (List (List ℕ))) (ws : List ℕ) (inputs count : ℕ)
    (sim : Simulated) (first last : K)
    → AreSimRows n.cells columns table ws → inputs ≡ count_of is_input n.cells → count ≡ length ws / columns → sim.cells ≡ n.cells → sim.outlets ≡ n.outlets
    → HasPlayed sim fill [] → content first ≡ []
    → ((first_fill : ℕ) (before : List (List ℕ)) (run : List Clock) → HasPlayed sim first_fill before
    → Plays sim.cells first_fill (before ++ map (λ c. take inputs (drop (c * columns) ws)) (range_with_len 0 count)) run
    → Keeps (λ c r words old new. content new ≡ content old ++ words_of_clock c words) (λ c. take inputs (drop (c * columns) ws))
    (λ c. shown_words sim.outlets run (length before + c)) first count last)
    → HasOneRunWith n.cells → AreFirsts n.cells (filled n.cells fill) → IsNetText n fill table (content last)
text_is content n fill columns table ws inputs count sim first last a ei ec ce oe h none keeps one firsts =
    let rows : List (List ℕ) = input_rows n.cells table in
    let given : ℕ → List ℕ = λ c. take inputs (drop (c * columns) ws) in
    let whole : count ≡ length table = ec ∙ rows_count n.cells columns table ws a in
    let same : map given (range_with_len 0 count) ≡ rows = rows_are n.cells columns table ws inputs count a ei whole in
    let w = one rows (filled n.cells fill) (rows_fit n.cells table a.right) firsts in
    let plays : Plays n.cells fill rows w.0 = record { runs = w.1.runs; long = omega (arith, w.1.long); takes = w.1.takes; begins = w.1.begins } in
    let here : Plays sim.cells fill (map given (range_with_len 0 count)) w.0 =
    subst (λ (cs : List SizedCell). Plays cs fill (map given (range_with_len 0 count)) w.0) (sym ce)
    (subst (λ (rs : List (List ℕ)). Plays n.cells fill rs w.0) (sym same) plays) in
    let k = keeps fill [] w.0 h here in
    let at : (c : ℕ) → length {A = List ℕ} [] + c ≡ c = λ c. omega arith in
    let shown : ℕ → List ℕ = λ c. shown_words sim.outlets w.0 (length {A = List ℕ} [] + c) in
    record {
      run = w.0;
      runs = w.1;
      lines =
          lines_kept content given shown first count last k
          ∙ ap (λ x. x ++ words_of_clocks shown count) none
          ∙ (λ i. words_of_clocks (λ c. shown_words (oe i) w.0 (at c i)) (whole i));
    }

-- a line from its parts
pub line_is : (c : ℕ) (ws old numbered worded new : List ℕ) → numbered ≡ old ++ decimal c → worded ≡ numbered ++ spaced ws → new ≡ worded ++ 10 ∷ []
    → new ≡ old ++ words_of_clock c ws
line_is c ws old numbered worded new a b d =
    d ∙ ap (λ x. x ++ 10 ∷ []) (b ∙ ap (λ x. x ++ spaced ws) a ∙ append_assoc old (decimal c) (spaced ws)) ∙ append_assoc old (decimal c ++ spaced ws) (10 ∷ [])
