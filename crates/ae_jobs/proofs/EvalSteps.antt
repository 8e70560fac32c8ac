-- Going over the rows of a table, and over the values of a row.
use Rattle.std.proofs.Common.{◌≡◌, ℕ, zero, suc, ◌+◌, ◌*◌, ◌/◌, ◌<◌, ◌≤◌, ◌^◌, Bool, true, false, if◌then◌else◌, List, [], ◌∷◌, ◌++◌, length, take, drop, map, get_or, Option, Some, None, slice_get, refl, arith, sym, ap, ◌∙◌, subst, append_assoc, append-nil, length-append}
use Rattle.std.specs.Prelude.{flat_map, sum_by}
use Rattle.std.specs.List.{concat}
use Rattle.std.specs.Str.Parse.{digits_value}
use Rattle.std.proofs.lemmas.Bool.{ltb-true}
use Rattle.std.proofs.lemmas.List.{length-map, drop_more, drop_all}
use Rattle.std.proofs.lemmas.List.Concat.{concat_is}
use Rattle.std.proofs.lemmas.List.Folds.{flat_map-map}
use Rattle.std.proofs.lemmas.List.Sums.{sum_by-cons}
use Rattle.std.proofs.Math.Seq.{drop-append_seam, take-append_seam}
use Rattle.ae_word.specs.AtomTree.{WordKind}
use Rattle.ae_seqtype.specs.SeqTree.{SeqTree, kinds, words}
use Rattle.ae_seqtype.specs.ValueTree.{ValueTree, Fit, FitKinds, flat, value_of}
use Rattle.ae_seqtype.proofs.Sizes.{length-kinds}
use Rattle.ae_seqtype.proofs.Stands.{length-FitKinds, FitKinds-split}
use Rattle.ae_seq.specs.ProgramTree.{ProgramTree}
use Rattle.ae_seq.specs.Typing.{type_at}
use Rattle.ae_seq.specs.Meaning.{mean}
use Rattle.ae_fields.specs.Rows.{is_right, wrong_column, wrong_row, bad_row, row_words, words_in}
use Rattle.ae_eval.specs.Stack.{AllFit, FitIn, IsTyped, kinds_of, values_in, values_of, words_of}
use Rattle.ae_eval.specs.Lines.{input_types}
use Rattle.ae_eval.proofs.Framing.{length-FitIn}
use Rattle.ae_eval.proofs.Items.{drop-at}
use Rattle.ae_rewrite.specs.Interface.{result_types}
use Rattle.ae_jobs.specs.Inputs.{values_of as row_values_of}
use Rattle.ae_jobs.specs.RunTexts.{input_widths, run_limit}
use Rattle.ae_jobs.specs.Refusals.{refusal_line}
use Rattle.ae_jobs.specs.declared.status.Status.{Status}
use Rattle.ae_jobs.specs.declared.status.Status.TheVariants.{Ok, LongRun}
use Rattle.ae_jobs.proofs.RowCounts.{divided, mul-le}
use Rattle.ae_jobs.specs.EvalTexts.{IsEvalOf, eval_size, eval_text, row_results, type_words, words_line}
use Rattle.ae_jobs.specs.EvalRows.{AreRows, values_in_row}
use Rattle.ae_jobs.proofs.EvalTypes.{has_columns, same_parameters}
use Rattle.ae_seq.proofs.Judging.{right as and-second}

-- ---- rows that are right

abbrev widths_for : List WordKind → List ℕ
widths_for ks = map (λ (k : WordKind). k.width) ks

right_fits : (ks : List WordKind) (j : ℕ) (fs : List (List ℕ)) → wrong_column j (widths_for ks) fs ≡ None → FitKinds (row_words fs) ks
right_fits [] j [] e = tt
right_fits [] j (f ∷ fs) e = cc
right_fits (k ∷ ks) j [] e = cc
right_fits (k ∷ ks) j (f ∷ fs) e = by (is_right k.width f) refl (right_fits ks (j + 1) fs) e
  where
    by : (t : Bool) → is_right k.width f ≡ t → (wrong_column (j + 1) (widths_for ks) fs ≡ None → FitKinds (row_words fs) ks)
        → (if t then wrong_column (j + 1) (widths_for ks) fs else Some j) ≡ None → FitKinds (row_words (f ∷ fs)) (k ∷ ks)
    by true t rest h =
        let small : digits_value 10 f < 2 ^ k.width = ltb-true (digits_value 10 f) (2 ^ k.width) (and-second _ _ t) in
        (small, rest h)
    by false t rest h = cc

-- the first row, and those after it
pub record Rights (m : ℕ) (widths : List ℕ) (r : List (List ℕ)) (rs : List (List (List ℕ))) : Type 0 where
  pub first : wrong_column 1 widths r ≡ None
  pub later : bad_row (m + 1) widths rs ≡ None

pub rights : (m : ℕ) (widths : List ℕ) (r : List (List ℕ)) (rs : List (List (List ℕ))) → bad_row m widths (r ∷ rs) ≡ None → Rights m widths r rs
rights m widths r rs e = by (wrong_column 1 widths r) refl e
  where
    by : (o : Option ℕ) → wrong_column 1 widths r ≡ o → wrong_row m o (bad_row (m + 1) widths rs) ≡ None → Rights m widths r rs
    by (Some c) w h = cc
    by None w h = record { first = w; later = h }

right_at : (m : ℕ) (widths : List ℕ) (table : List (List (List ℕ))) (k : ℕ) → bad_row m widths table ≡ None → k < length table
    → wrong_column 1 widths (get_or table k []) ≡ None
right_at m widths [] k e h = absurd (omega arith)
right_at m widths (r ∷ rs) zero e h = (rights m widths r rs e).first
right_at m widths (r ∷ rs) (suc k) e h = right_at (m + 1) widths rs k (rights m widths r rs e).later (omega arith)

words_long : (m : ℕ) (ks : List WordKind) (table : List (List (List ℕ))) → bad_row m (widths_for ks) table ≡ None
    → length (words_in table) ≡ length table * length ks
words_long m ks [] e = omega arith
words_long m ks (r ∷ rs) e =
    let g = rights m (widths_for ks) r rs e in
    let own : length (row_words r) ≡ length ks = length-FitKinds (row_words r) ks (right_fits ks 1 r g.first) in
    let rest : length (words_in rs) ≡ length rs * length ks = words_long (m + 1) ks rs g.later in
    let all : length (row_words r ++ words_in rs) ≡ length (row_words r) + length (words_in rs) = length-append (row_words r) (words_in rs) in
    let more : suc (length rs) * length ks ≡ length ks + length rs * length ks = omega arith in
    omega (arith, own, rest, all, more)

-- ---- the rows of a program

abbrev input_kinds : ProgramTree → List WordKind
input_kinds p = kinds_of (input_types p)

pub rows_long : (p : ProgramTree) (columns : ℕ) (table : List (List (List ℕ))) (ws : List ℕ) → IsTyped p → AreRows p columns table ws
    → length ws ≡ length table * columns
rows_long p columns table ws h a =
    let c = has_columns p h in
    let right : bad_row 1 (widths_for (input_kinds p)) table ≡ None = ap (λ us. bad_row 1 us table) (sym c.kinds_are) ∙ a.right in
    let wide : columns ≡ length (input_kinds p) = a.columns_are ∙ ap length c.kinds_are ∙ length-map (input_kinds p) (λ (k : WordKind). k.width) in
    ap length a.words_are ∙ words_long 1 (input_kinds p) table right ∙ ap (λ n. length table * n) (sym wide)

pub column_some : (p : ProgramTree) (columns : ℕ) (table : List (List (List ℕ))) (ws : List ℕ) → IsTyped p → AreRows p columns table ws → 0 < columns
column_some p columns table ws h a = let c = has_columns p h in omega (arith, c.some, a.columns_are)

pub record NextRow (p : ProgramTree) (columns : ℕ) (table : List (List (List ℕ))) (k : ℕ) (rest : List ℕ) : Type 0 where
  pub row : List (List ℕ)
  pub table_is : drop k table ≡ row ∷ drop (k + 1) table
  pub fits : FitIn (input_types p) (row_words row)
  pub room : columns ≤ length rest
  pub front : take columns rest ≡ row_words row
  pub back : drop columns rest ≡ words_in (drop (k + 1) table)

pub next_row : (p : ProgramTree) (columns : ℕ) (table : List (List (List ℕ))) (k : ℕ) (ws rest : List ℕ) → IsTyped p → AreRows p columns table ws
    → k < length table → rest ≡ words_in (drop k table) → NextRow p columns table k rest
next_row p columns table k ws rest h a lt e =
    let c = has_columns p h in
    let ks = input_kinds p in
    let r : List (List ℕ) = get_or table k [] in
    let after : List ℕ = words_in (drop (k + 1) table) in
    let right : wrong_column 1 (widths_for ks) r ≡ None = ap (λ us. wrong_column 1 us r) (sym c.kinds_are) ∙ right_at 1 (input_widths p) table k a.right lt in
    let fits : FitKinds (row_words r) ks = right_fits ks 1 r right in
    let wide : columns ≡ length ks = a.columns_are ∙ ap length c.kinds_are ∙ length-map ks (λ (w : WordKind). w.width) in
    let own : length (row_words r) ≡ columns = length-FitKinds (row_words r) ks fits ∙ sym wide in
    let split : drop k table ≡ r ∷ drop (k + 1) table = drop_more table k [] lt in
    let form : rest ≡ row_words r ++ after = e ∙ ap words_in split in
    let all : length (row_words r ++ after) ≡ length (row_words r) + length after = length-append (row_words r) after in
    let whole : length rest ≡ length (row_words r ++ after) = ap length form in
    record {
      row = r;
      table_is = split;
      fits = fits;
      room = omega (arith, own, all, whole);
      front = ap (take columns) form ∙ ap (λ n. take n (row_words r ++ after)) (sym own) ∙ take-append_seam (row_words r) after;
      back = ap (drop columns) form ∙ ap (λ n. drop n (row_words r ++ after)) (sym own) ∙ drop-append_seam (row_words r) after;
    }

-- the lines of the rows so far
pub record LinesDone (p : ProgramTree) (table : List (List (List ℕ))) (k : ℕ) (rest out : List ℕ) : Type 0 where
  pub rest_is : rest ≡ words_in (drop k table)
  pub lines : out ++ eval_text p (drop k table) ≡ eval_text p table

pub lines_none : (p : ProgramTree) (columns : ℕ) (table : List (List (List ℕ))) (ws out : List ℕ) → AreRows p columns table ws → out ≡ []
    → LinesDone p table 0 ws out
lines_none p columns table ws out a e = record { rest_is = a.words_are; lines = ap (λ x. x ++ eval_text p table) e }

pub lines_next : (p : ProgramTree) (columns : ℕ) (table : List (List (List ℕ))) (k : ℕ) (ws rest front back out new results : List ℕ) → IsTyped p
    → AreRows p columns table ws → k < length table → LinesDone p table k rest out
    → front ≡ take columns rest → back ≡ drop columns rest → results ≡ flat_map flat (mean p (values_in_row p front)) → new ≡ out ++ words_line results
    → LinesDone p table (k + 1) back new
lines_next p columns table k ws rest front back out new results h a lt d ef eb er en =
    let n = next_row p columns table k ws rest h a lt d.rest_is in
    let line : words_line results ≡ words_line (row_results p n.row) = ap words_line
    (er ∙ ap (λ us. flat_map flat (mean p (values_in_row p us))) (ef ∙ n.front)) in
    record {
      rest_is = eb ∙ n.back;
      lines =
          ap (λ x. x ++ eval_text p (drop (k + 1) table)) (en ∙ ap (λ x. out ++ x) line)
          ∙ append_assoc out (words_line (row_results p n.row)) (eval_text p (drop (k + 1) table))
          ∙ ap (λ rs. out ++ eval_text p rs) (sym n.table_is)
          ∙ d.lines;
    }

pub lines_all : (p : ProgramTree) (table : List (List (List ℕ))) (k : ℕ) (rest out : List ℕ) → length table ≤ k → LinesDone p table k rest out
    → out ≡ eval_text p table
lines_all p table k rest out h d =
    let none : drop k table ≡ [] = drop_all k table h in
    sym (append-nil out) ∙ ap (λ rs. out ++ eval_text p rs) (sym none) ∙ d.lines

-- ---- the values of a row

same_values : (ts : List SeqTree) (ws : List ℕ) → values_in ts ws ≡ row_values_of ts ws
same_values [] ws = refl
same_values (t ∷ ts) ws = ap (λ vs. value_of t (take (words t) ws) ∷ vs) (same_values ts (drop (words t) ws))

pub values_here : (p : ProgramTree) (ws : List ℕ) → values_in (input_types p) ws ≡ values_in_row p ws
values_here p ws = same_values (input_types p) ws ∙ ap (λ ts. row_values_of ts ws) (sym (same_parameters p))

-- the values of the first types were cut off
pub record CutOff (ts : List SeqTree) (row : List ℕ) (k : ℕ) (values : List (List ℕ)) (rest : List ℕ) : Type 0 where
  pub fits : FitIn (drop k ts) rest
  pub all : (later : List (List ℕ)) → AllFit (drop k ts) later → AllFit ts (values ++ later)
  pub are : (later : List (List ℕ)) → values_of (drop k ts) later ≡ values_in (drop k ts) rest → values_of ts (values ++ later) ≡ values_in ts row

pub record FirstFits (t : SeqTree) (ts : List SeqTree) (rest : List ℕ) : Type 0 where
  pub room : words t ≤ length rest
  pub first : Fit t (take (words t) rest)
  pub later : FitIn ts (drop (words t) rest)

pub first_fits : (t : SeqTree) (ts : List SeqTree) (ws : List ℕ) → FitIn (t ∷ ts) ws → FirstFits t ts ws
first_fits t ts ws h =
    let s = FitKinds-split (kinds t) (kinds_of ts) ws h in
    let size : length (kinds t) ≡ words t = length-kinds t in
    let long : length ws ≡ words_of (t ∷ ts) = length-FitIn (t ∷ ts) ws h in
    let P : ℕ → Type 0 = λ n. FitKinds (take n ws) (kinds t) in
    let Q : ℕ → Type 0 = λ n. FitKinds (drop n ws) (kinds_of ts) in
    record { room = omega (arith, long); first = subst P size s.0; later = subst Q size s.1 }

pub cut_fits : (ts : List SeqTree) (row : List ℕ) (k : ℕ) (values : List (List ℕ)) (rest : List ℕ) (t : SeqTree) → slice_get ts k ≡ Some t
    → CutOff ts row k values rest → FirstFits t (drop (k + 1) ts) rest
cut_fits ts row k values rest t e c = first_fits t (drop (k + 1) ts) rest (subst (λ us. FitIn us rest) (drop-at ts k t e) c.fits)

pub cut_next : (ts : List SeqTree) (row : List ℕ) (k size : ℕ) (values new : List (List ℕ)) (rest own after : List ℕ) (t : SeqTree) → slice_get ts k ≡ Some t
    → CutOff ts row k values rest → size ≡ words t
    → own ≡ take size rest → after ≡ drop size rest → new ≡ values ++ own ∷ [] → CutOff ts row (k + 1) new after
cut_next ts row k size values new rest own after t e c es eo ea en =
    let f = cut_fits ts row k values rest t e c in
    let split : drop k ts ≡ t ∷ drop (k + 1) ts = drop-at ts k t e in
    let own_is : own ≡ take (words t) rest = eo ∙ ap (λ n. take n rest) es in
    let after_is : after ≡ drop (words t) rest = ea ∙ ap (λ n. drop n rest) es in
    let form : (later : List (List ℕ)) → values ++ own ∷ later ≡ new
    ++ later = λ later. sym (ap (λ vs. vs ++ later) en ∙ append_assoc values (own ∷ []) later) in
    record {
      fits = subst (λ us. FitIn (drop (k + 1) ts) us) (sym after_is) f.later;
      all = λ later g.
          (let here : AllFit (t ∷ drop (k + 1) ts) (own ∷ later) = (subst (Fit t) (sym own_is) f.first, g) in
          let P : List SeqTree → Type 0 = λ us. AllFit us (own ∷ later) in
          subst (AllFit ts) (form later) (c.all (own ∷ later) (subst P (sym split) here)));
      are = λ later g.
          (let tail : values_of (drop (k + 1) ts) later ≡ values_in (drop (k + 1) ts) (drop (words t) rest) = g ∙ ap (values_in (drop (k + 1) ts)) after_is in
          let here : values_of (t ∷ drop (k + 1) ts) (own ∷ later) ≡ values_in (t ∷ drop (k + 1) ts) rest = λ i. value_of t (own_is i) ∷ tail i in
          let P : List SeqTree → Type 0 = λ us. values_of us (own ∷ later) ≡ values_in us rest in
          ap (values_of ts) (sym (form later)) ∙ c.are (own ∷ later) (subst P (sym split) here));
    }

pub record CutAll (ts : List SeqTree) (row : List ℕ) (values : List (List ℕ)) : Type 0 where
  pub fits : AllFit ts values
  pub are : values_of ts values ≡ values_in ts row

pub cut_all : (ts : List SeqTree) (row : List ℕ) (k : ℕ) (values : List (List ℕ)) (rest : List ℕ) → length ts ≤ k → CutOff ts row k values rest
    → CutAll ts row values
cut_all ts row k values rest h c =
    let none : drop k ts ≡ [] = drop_all k ts h in
    let same : values ++ [] ≡ values = append-nil values in
    let P : List SeqTree → Type 0 = λ us. AllFit us [] in
    let Q : List SeqTree → Type 0 = λ us. values_of us [] ≡ values_in us rest in
    record {
      fits = subst (AllFit ts) same (c.all [] (subst P (sym none) tt));
      are = ap (values_of ts) (sym same) ∙ c.are [] (subst Q (sym none) refl);
    }

-- ---- the words of results

pub joined_flat : (vs : List ValueTree) → concat (map flat vs) ≡ flat_map flat vs
joined_flat vs = concat_is (map flat vs) ∙ flat_map-map (λ x. x) flat vs

-- the words of the first items
pub record Counted (p : ProgramTree) (func : ℕ) (items : List ℕ) (k count : ℕ) : Type 0 where
  pub total : count + sum_by type_words (map (type_at p func) (drop k items)) ≡ sum_by type_words (map (type_at p func) items)
  pub few : count ≤ k * 16384

pub counted_none : (p : ProgramTree) (func : ℕ) (items : List ℕ) → Counted p func items 0 0
counted_none p func items = record { total = omega arith; few = omega arith }

pub counted_next : (p : ProgramTree) (func : ℕ) (items : List ℕ) (k count item more new : ℕ) → k < length items → item ≡ get_or items k item
    → more ≡ type_words (type_at p func item) → more ≤ 16384 → new ≡ count + more → Counted p func items k count → Counted p func items (k + 1) new
counted_next p func items k count item more new h ei em few en c =
    let split : drop k items ≡ item ∷ drop (k + 1) items = drop_more items k item h ∙ ap (λ x. x ∷ drop (k + 1) items) (sym ei) in
    let step : sum_by type_words (map (type_at p func) (drop k items)) ≡ type_words (type_at p func item) + sum_by type_words
    (map (type_at p func) (drop (k + 1) items)) = ap (λ xs. sum_by type_words (map (type_at p func) xs)) split ∙
    sum_by-cons type_words (type_at p func item) (map (type_at p func) (drop (k + 1) items)) in
    record { total = omega (arith, c.total, step, em, en); few = omega (arith, c.few, few, en) }

pub counted_all : (p : ProgramTree) (func : ℕ) (items : List ℕ) (k count : ℕ) → length items ≤ k → Counted p func items k count
    → count ≡ sum_by type_words (map (type_at p func) items)
counted_all p func items k count h c =
    let none : sum_by type_words (map (type_at p func) (drop k items)) ≡ 0 = ap (λ xs. sum_by type_words (map (type_at p func) xs)) (drop_all k items h) in
    omega (arith, none, c.total)

-- ---- the size, and what is answered

pub rows_count : (p : ProgramTree) (columns : ℕ) (table : List (List (List ℕ))) (ws : List ℕ) → IsTyped p → AreRows p columns table ws
    → length ws / columns ≡ length table
rows_count p columns table ws h a =
    let some = column_some p columns table ws h a in
    ap (λ n. n / columns) (rows_long p columns table ws h a) ∙ divided (length table) columns some

pub size_is : (p : ProgramTree) (columns : ℕ) (table : List (List (List ℕ))) (ws : List ℕ) (results : ℕ) → IsTyped p → AreRows p columns table ws
    → results ≡ sum_by type_words (result_types p) → length ws / columns * (1 + results) ≡ eval_size p table
size_is p columns table ws results h a e =
    ap (λ n. n * (1 + results)) (rows_count p columns table ws h a) ∙ ap (λ r. length table * (1 + r)) e

pub long_run : (p : ProgramTree) (columns : ℕ) (table : List (List (List ℕ))) (ws : List ℕ) (results size : ℕ) (status : Status) (text : List ℕ) → IsTyped p
    → AreRows p columns table ws → results ≡ sum_by type_words (result_types p)
    → size ≡ length ws / columns * (1 + results) → run_limit < size → status ≡ LongRun size → text ≡ refusal_line (LongRun size) → IsEvalOf p table status text
long_run p columns table ws results size status text h a e es lt st te =
    let here : IsEvalOf p table (LongRun size) text = (a.right, lt, es ∙ size_is p columns table ws results h a e, te) in
    subst (λ s. IsEvalOf p table s text) (sym st) here

pub short_run : (p : ProgramTree) (columns : ℕ) (table : List (List (List ℕ))) (ws : List ℕ) (results size : ℕ) (text : List ℕ) → IsTyped p
    → AreRows p columns table ws → results ≡ sum_by type_words (result_types p)
    → size ≡ length ws / columns * (1 + results) → size ≤ run_limit → text ≡ eval_text p table → IsEvalOf p table Ok text
short_run p columns table ws results size text h a e es le te =
    let same : size ≡ eval_size p table = es ∙ size_is p columns table ws results h a e in
    (a.right, subst (λ k. k ≤ run_limit) same le, te)

-- the size fits a word of 64 bits
pub size_fits : (p : ProgramTree) (columns : ℕ) (table : List (List (List ℕ))) (ws : List ℕ) (results : ℕ) → IsTyped p → AreRows p columns table ws
    → results ≤ 131072 → length ws / columns * (1 + results) < 18446744073709551616
size_fits p columns table ws results h a few =
    let n = length ws / columns in
    let rows : n ≡ length table = rows_count p columns table ws h a in
    let most : n * (1 + results) ≤ n * 131073 = mul-le n (1 + results) 131073 (omega (arith, few)) in
    omega (arith, most, rows, a.few)
