-- Rows of words that are right in each column, and what a netlist's inputs take of them.
use Rattle.std.proofs.Common.{ℕ, zero, suc, ◌≡◌, ◌+◌, ◌*◌, ◌/◌, ◌^◌, ◌<◌, ◌≤◌, Bool, true, false, if◌then◌else◌, List, [], ◌∷◌, ◌++◌, length, take, drop, map, get_or, Some, None, All, slice_get, length-append, arith, refl, ap, sym, ◌∙◌, subst}
use Rattle.std.specs.Str.Parse.{digits_value}
use Rattle.std.proofs.lemmas.Bool.{ltb-true}
use Rattle.std.proofs.lemmas.Nat.{div-mul-add}
use Rattle.std.proofs.lemmas.List.{length-map, length-take-le, get_or-take, get_or-map, drop_more}
use Rattle.std.proofs.lemmas.List.Elements.{All-nil, All-cons, All-from_get_or, All-filter, All-map}
use Rattle.std.proofs.lemmas.List.Sums.{length-filter}
use Rattle.std.proofs.lemmas.Option.{same_Some, slice_get-map, slice_get_within, slice_get-get_or}
use Rattle.std.proofs.Math.Nat.{mul-le-mul_left}
use Rattle.std.proofs.Math.Seq.{drop-append_seam, take-append_seam}
use Rattle.std.specs.Prelude.{option_map}
use Rattle.ae_fields.specs.Rows.{rows, is_right, wrong_column, bad_row, row_words, words_in}
use Rattle.ae_netlist.specs.declared.cell.SizedCell.{SizedCell}
use Rattle.ae_netlist.specs.declared.cell.Cell.TheVariants.{Const}
use Rattle.ae_netlist.specs.Circuit.{Circuit, IsFormed}
use Rattle.ae_netlist.specs.Counts.{is_input, count_of, cells_of}
use Rattle.ae_netlist.specs.Rows.{AreInputs}
use Rattle.ae_jobs.specs.SimTexts.{or_bit, taken_words}
use Rattle.ae_jobs.specs.declared.status.Status.{Status}
use Rattle.ae_jobs.specs.declared.status.Status.TheVariants.{Ok, LongRun}
use Rattle.ae_jobs.specs.Refusals.{refusal_line}
use Rattle.ae_jobs.specs.RunTexts.{run_limit}
use Rattle.ae_jobs.specs.SimPlaying.{cell_widths, input_rows, AreSimRows, IsNetText, net_size, IsNetSim}
use Rattle.ae_jobs.proofs.EvalSteps.{rights}
use Rattle.ae_jobs.proofs.RowCounts.{few_rows}
use Rattle.ae_seq.proofs.Judging.{right as and-second}

-- ---- rows that are right

-- a word for each width, and each fits
pub record IsRightRow (widths row : List ℕ) : Type 0 where
  pub long : length row ≡ length widths
  pub fit : (k w : ℕ) → slice_get widths k ≡ Some w → get_or row k 0 < 2 ^ w

fit_more : (w x : ℕ) (ws xs : List ℕ) → x < 2 ^ w → ((k v : ℕ) → slice_get ws k ≡ Some v → get_or xs k 0 < 2 ^ v) → (k v : ℕ) → slice_get (w ∷ ws) k ≡ Some v
    → get_or (x ∷ xs) k 0 < 2 ^ v
fit_more w x ws xs small rest zero v h = subst (λ u. x < 2 ^ u) (same_Some w v h) small
fit_more w x ws xs small rest (suc k) v h = rest k v h

right_row : (widths : List ℕ) (j : ℕ) (fs : List (List ℕ)) → wrong_column j widths fs ≡ None → IsRightRow widths (row_words fs)
right_row [] j [] e = record { long = refl; fit = λ k w h. cc }
right_row [] j (f ∷ fs) e = cc
right_row (w ∷ ws) j [] e = cc
right_row (w ∷ ws) j (f ∷ fs) e = by (is_right w f) refl (right_row ws (j + 1) fs) e
  where
    by : (t : Bool) → is_right w f ≡ t → (wrong_column (j + 1) ws fs ≡ None → IsRightRow ws (row_words fs))
        → (if t then wrong_column (j + 1) ws fs else Some j) ≡ None → IsRightRow (w ∷ ws) (row_words (f ∷ fs))
    by true t rest h =
        let small : digits_value 10 f < 2 ^ w = ltb-true (digits_value 10 f) (2 ^ w) (and-second _ _ t) in
        let r = rest h in
        record { long = ap (λ n. suc n) r.long; fit = fit_more w (digits_value 10 f) ws (row_words fs) small r.fit }
    by false t rest h = cc

right_at : (m : ℕ) (widths : List ℕ) (table : List (List (List ℕ))) (k : ℕ) → bad_row m widths table ≡ None → k < length table
    → IsRightRow widths (row_words (get_or table k []))
right_at m widths [] k e h = absurd (omega arith)
right_at m widths (r ∷ rs) zero e h = right_row widths 1 r (rights m widths r rs e).first
right_at m widths (r ∷ rs) (suc k) e h = right_at (m + 1) widths rs k (rights m widths r rs e).later (omega arith)

words_long : (m : ℕ) (widths : List ℕ) (table : List (List (List ℕ))) → bad_row m widths table ≡ None → length (words_in table) ≡ length table * length widths
words_long m widths [] e = omega arith
words_long m widths (r ∷ rs) e =
    let g = rights m widths r rs e in
    let own : length (row_words r) ≡ length widths = (right_row widths 1 r g.first).long in
    let rest : length (words_in rs) ≡ length rs * length widths = words_long (m + 1) widths rs g.later in
    let all : length (row_words r ++ words_in rs) ≡ length (row_words r) + length (words_in rs) = length-append (row_words r) (words_in rs) in
    let more : suc (length rs) * length widths ≡ length widths + length rs * length widths = omega arith in
    omega (arith, own, rest, all, more)

-- ---- the columns

some_widths : (ws : List ℕ) → 0 < length (or_bit ws)
some_widths [] = omega arith
some_widths (w ∷ ws) = omega arith

more_widths : (ws : List ℕ) → length ws ≤ length (or_bit ws)
more_widths [] = omega arith
more_widths (w ∷ ws) = omega arith

pub few_widths : (ws : List ℕ) (n : ℕ) → 1 ≤ n → length ws ≤ n → length (or_bit ws) ≤ n
few_widths [] n some h = omega arith
few_widths (w ∷ ws) n some h = h

width_at : (ws : List ℕ) (k w : ℕ) → slice_get ws k ≡ Some w → slice_get (or_bit ws) k ≡ Some w
width_at [] k w h = cc
width_at (x ∷ ws) k w h = h

pub inputs_long : (cells : List SizedCell) → length (map (λ (s : SizedCell). s.width) (cells_of is_input cells)) ≡ count_of is_input cells
inputs_long cells = length-map (cells_of is_input cells) (λ (s : SizedCell). s.width) ∙ length-filter (λ (s : SizedCell). is_input s.cell) cells

pub inputs_within : (cells : List SizedCell) → count_of is_input cells ≤ length (cell_widths cells)
inputs_within cells =
    let ws : List ℕ = map (λ (s : SizedCell). s.width) (cells_of is_input cells) in
    let long : length ws ≡ count_of is_input cells = inputs_long cells in
    let more : length ws ≤ length (or_bit ws) = more_widths ws in
    subst (λ n. n ≤ length (or_bit ws)) long more

no_cell : SizedCell
no_cell = record { width = 0; cell = Const 0 }

small_or_bit : (ws : List ℕ) → All (λ w. w ≤ 64) ws → All (λ w. w ≤ 64) (or_bit ws)
small_or_bit [] h = All-cons (λ w. w ≤ 64) 1 [] (omega arith) (All-nil (λ w. w ≤ 64))
small_or_bit (w ∷ ws) h = h

pub small_widths : (cells : List SizedCell) → IsFormed cells → All (λ w. w ≤ 64) (cell_widths cells)
small_widths cells formed =
    let width : SizedCell → ℕ = λ s. s.width in
    let all : All (λ (s : SizedCell). s.width ≤ 64) cells =
    All-from_get_or (λ (s : SizedCell). s.width ≤ 64) cells no_cell
    (λ i h. (formed.each i (get_or cells i no_cell) (slice_get-get_or cells i no_cell h)).high) in
    small_or_bit (map width (cells_of is_input cells))
    (All-map (λ w. w ≤ 64) width (cells_of is_input cells) (All-filter (λ (s : SizedCell). is_input s.cell) (λ (s : SizedCell). s.width ≤ 64) cells all))

-- ---- what the inputs take

taken_fits : (cells : List SizedCell) (row : List ℕ) → IsRightRow (cell_widths cells) row → AreInputs cells (take (count_of is_input cells) row)
taken_fits cells row r =
    let n : ℕ = count_of is_input cells in
    let cs : List SizedCell = cells_of is_input cells in
    let within : n ≤ length (cell_widths cells) = inputs_within cells in
    let same : length cs ≡ n = length-filter (λ (s : SizedCell). is_input s.cell) cells in
    let long : length row ≡ length (cell_widths cells) = r.long in
    record {
      long = length-take-le n row (omega (arith, within, long));
      fit = λ k sized found.
          (let below : k < length cs = slice_get_within cs k sized found in
          let at : slice_get (cell_widths cells) k ≡ Some sized.width =
          width_at (map (λ (s : SizedCell). s.width) cs) k sized.width
          (slice_get-map (λ (s : SizedCell). s.width) cs k ∙ ap (option_map (λ (s : SizedCell). s.width)) found) in
          subst (λ w. w < 2 ^ sized.width) (sym (get_or-take n row k 0 (omega (arith, below, same)))) (r.fit k sized.width at));
    }

pub rows_fit : (cells : List SizedCell) (table : List (List (List ℕ))) → bad_row 1 (cell_widths cells) table ≡ None
    → All (AreInputs cells) (input_rows cells table)
rows_fit cells table right =
    let g : List (List ℕ) → List ℕ = λ r. taken_words (count_of is_input cells) r in
    let long : length (map g table) ≡ length table = length-map table g in
    All-from_get_or (AreInputs cells) (map g table) []
    (λ i h.
    let below : i < length table = omega (arith, h, long) in
    subst (AreInputs cells) (sym (get_or-map g table i [] [] below))
    (taken_fits cells (row_words (get_or table i [])) (right_at 1 (cell_widths cells) table i right below)))

pub column_some : (cells : List SizedCell) (columns : ℕ) (table : List (List (List ℕ))) (ws : List ℕ) → AreSimRows cells columns table ws → 0 < columns
column_some cells columns table ws a =
    subst (λ n. 0 < n) (sym a.columns_are) (some_widths (map (λ (s : SizedCell). s.width) (cells_of is_input cells)))

pub rows_count : (cells : List SizedCell) (columns : ℕ) (table : List (List (List ℕ))) (ws : List ℕ) → AreSimRows cells columns table ws
    → length ws / columns ≡ length table
rows_count cells columns table ws a =
    let some : 0 < columns = column_some cells columns table ws a in
    let long : length ws ≡ length table * columns = ap length a.words_are ∙ words_long 1 (cell_widths cells) table a.right ∙
    ap (λ n. length table * n) (sym a.columns_are) in
    let whole : length table * columns ≡ length table * columns + 0 = omega arith in
    ap (λ n. n / columns) (long ∙ whole) ∙ div-mul-add (length table) columns 0 some

-- ---- the next row

pub record NextRow (cells : List SizedCell) (columns : ℕ) (table : List (List (List ℕ))) (k : ℕ) (rest : List ℕ) : Type 0 where
  pub room : columns ≤ length rest
  pub front : take columns rest ≡ row_words (get_or table k [])
  pub enough : count_of is_input cells ≤ length (row_words (get_or table k []))
  pub fits : AreInputs cells (taken_words (count_of is_input cells) (get_or table k []))
  pub back : drop columns rest ≡ words_in (drop (k + 1) table)

pub next_row : (cells : List SizedCell) (columns : ℕ) (table : List (List (List ℕ))) (k : ℕ) (ws rest : List ℕ) → AreSimRows cells columns table ws
    → k < length table → rest ≡ words_in (drop k table) → NextRow cells columns table k rest
next_row cells columns table k ws rest a lt e =
    let row : List ℕ = row_words (get_or table k []) in
    let after : List ℕ = words_in (drop (k + 1) table) in
    let right : IsRightRow (cell_widths cells) row = right_at 1 (cell_widths cells) table k a.right lt in
    let own : length row ≡ columns = right.long ∙ sym a.columns_are in
    let form : rest ≡ row ++ after = e ∙ ap words_in (drop_more table k [] lt) in
    let all : length (row ++ after) ≡ length row + length after = length-append row after in
    let whole : length rest ≡ length (row ++ after) = ap length form in
    let within : count_of is_input cells ≤ length (cell_widths cells) = inputs_within cells in
    record {
      room = omega (arith, own, all, whole);
      front = ap (take columns) form ∙ ap (λ n. take n (row ++ after)) (sym own) ∙ take-append_seam row after;
      enough = omega (arith, within, right.long);
      fits = taken_fits cells row right;
      back = ap (drop columns) form ∙ ap (λ n. drop n (row ++ after)) (sym own) ∙ drop-append_seam row after;
    }

-- ---- the size, and what is answered

pub size_fits : (cells : List SizedCell) (columns : ℕ) (table : List (List (List ℕ))) (ws : List ℕ) (outputs : ℕ) → AreSimRows cells columns table ws
    → outputs < 4294967296 → length ws / columns * (1 + outputs) < 18446744073709551616
size_fits cells columns table ws outputs a few =
    let n : ℕ = length ws / columns in
    let count : n ≡ length table = rows_count cells columns table ws a in
    let rows_few : length table < 4294967296 = omega (arith, a.few) in
    let most : n * (1 + outputs) ≤ n * 4294967296 = mul-le-mul_left n (omega (arith, few)) in
    omega (arith, most, count, rows_few)

size_is : (n : Circuit) (columns : ℕ) (table : List (List (List ℕ))) (ws : List ℕ) (outputs : ℕ) → AreSimRows n.cells columns table ws
    → outputs ≡ length n.outlets → length ws / columns * (1 + outputs) ≡ net_size n table
size_is n columns table ws outputs a e =
    ap (λ k. k * (1 + outputs)) (rows_count n.cells columns table ws a) ∙ ap (λ r. length table * (1 + r)) e

pub long_run : (fill : ℕ) (n : Circuit) (columns : ℕ) (table : List (List (List ℕ))) (ws : List ℕ) (outputs size : ℕ) (status : Status) (text : List ℕ)
    → AreSimRows n.cells columns table ws → outputs ≡ length n.outlets
    → size ≡ length ws / columns * (1 + outputs) → run_limit < size → status ≡ LongRun size → text ≡ refusal_line (LongRun size)
    → IsNetSim fill n table status text
long_run fill n columns table ws outputs size status text a e es lt st te =
    let here : IsNetSim fill n table (LongRun size) text = (a.right, lt, es ∙ size_is n columns table ws outputs a e, te) in
    subst (λ s. IsNetSim fill n table s text) (sym st) here

pub short_run : (fill : ℕ) (n : Circuit) (columns : ℕ) (table : List (List (List ℕ))) (ws : List ℕ) (outputs size : ℕ) (text : List ℕ)
    → AreSimRows n.cells columns table ws → outputs ≡ length n.outlets
    → size ≡ length ws / columns * (1 + outputs) → size ≤ run_limit → IsNetText n fill table text → IsNetSim fill n table Ok text
short_run fill n columns table ws outputs size text a e es le w =
    let same : size ≡ net_size n table = es ∙ size_is n columns table ws outputs a e in
    (a.right, subst (λ k. k ≤ run_limit) same le, w)

-- ---- how many rows there are

-- what is known of the rows that were read
pub read_rows_are : (cells : List SizedCell) (text widths ws : List ℕ) (columns : ℕ) → length text < 2 ^ 32 → widths ≡ cell_widths cells
    → columns ≡ length widths → bad_row 1 widths (rows text) ≡ None → ws ≡ words_in (rows text)
    → AreSimRows cells columns (rows text) ws
read_rows_are cells text widths ws columns lt w n right is =
    let few : length (rows text) ≤ length text = few_rows text in
    record {
      columns_are = n ∙ ap length w;
      few = omega (arith, few, lt);
      right = ap (λ us. bad_row 1 us (rows text)) (sym w) ∙ right;
      words_are = is;
    }
