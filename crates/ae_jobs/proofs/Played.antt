-- The blocks of rows, and the words that a circuit takes for them.
use Rattle.std.proofs.Common.{◌≡◌, ℕ, suc, ◌+◌, ◌*◌, List, [], ◌∷◌, ◌++◌, length, length-append, map, take, drop, Some, slice_get, refl, arith, ap, sym, ◌∙◌}
use Rattle.std.proofs.lemmas.List.{length-map, length-drop, length-take-le}
use Rattle.std.proofs.lemmas.List.Sums.{sum_by-cons}
use Rattle.std.proofs.Math.Seq.{drop-append_seam, take-append_seam}
use Rattle.ae_word.specs.AtomTree.{WordKind}
use Rattle.ae_seqtype.specs.SeqTree.{SeqTree, kinds, words}
use Rattle.ae_seqtype.specs.ValueTree.{cut, flat}
use Rattle.ae_seqtype.proofs.Sizes.{length-kinds}
use Rattle.ae_seqtype.proofs.Values.{flat-value_of}
use Rattle.ae_sttype.specs.StTree.{StTree, st_atoms, element_words}
use Rattle.ae_fields.specs.Rows.{row_words, words_in}
use Rattle.ae_flow.proofs.MeaningLayouts.{AllLaidOut, layout-size}
use Rattle.ae_play.specs.Fed.{size_of}
use Rattle.ae_play.specs.Fed as fed
use Rattle.ae_jobs.specs.Inputs.{type_widths, widths_of, values_of}

abbrev own_size : StTree → ℕ
own_size s = st_atoms s * element_words s

-- the words of a block are those of a row
pub size_laid : (ts : List SeqTree) (ss : List StTree) → AllLaidOut ts ss → size_of ss ≡ length (widths_of ts)
size_laid [] [] h = refl
size_laid [] (s ∷ ss) h = absurd h
size_laid (t ∷ ts) [] h = absurd h
size_laid (t ∷ ts) (s ∷ ss) h =
    let own : own_size s ≡ words t = layout-size t s h.0 in
    let wide : length (type_widths t) ≡ words t = length-map (kinds t) (λ (k : WordKind). k.width) ∙ length-kinds t in
    omega (arith, sum_by-cons own_size s ss, own, wide, size_laid ts ss h.1, length-append (type_widths t) (widths_of ts))

-- the values of a block have the words of its layouts
pub values_laid : (ts : List SeqTree) (ss : List StTree) (ws : List ℕ) → AllLaidOut ts ss → length ws ≡ length (widths_of ts)
    → fed.values_of ss ws ≡ map flat (values_of ts ws)
values_laid [] [] ws h long = refl
values_laid [] (s ∷ ss) ws h long = absurd h
values_laid (t ∷ ts) [] ws h long = absurd h
values_laid (t ∷ ts) (s ∷ ss) ws h long =
    let own : own_size s ≡ words t = layout-size t s h.0 in
    let wide : length (type_widths t) ≡ words t = length-map (kinds t) (λ (k : WordKind). k.width) ∙ length-kinds t in
    let whole : length ws ≡ words t + length (widths_of ts) = omega (arith, long, wide, length-append (type_widths t) (widths_of ts)) in
    let first : length (take (words t) ws) ≡ words t = length-take-le (words t) ws (omega (arith, whole)) in
    let rest : length (drop (words t) ws) ≡ length (widths_of ts) = omega (arith, length-drop (words t) ws, whole) in
    ap (λ n. take n ws ∷ fed.values_of ss (drop n ws)) own
    ∙ (λ i. sym (flat-value_of t (take (words t) ws) first) i ∷ values_laid ts ss (drop (words t) ws) h.1 rest i)

-- rows of so many words each, one behind the other, are cut where they were joined
pub cut_rows : (n : ℕ) (table : List (List (List ℕ))) → ((k : ℕ) (r : List (List ℕ)) → slice_get table k ≡ Some r → length (row_words r) ≡ n)
    → cut (length table) n (words_in table) ≡ map row_words table
cut_rows n [] each = refl
cut_rows n (r ∷ rs) each =
    let own : length (row_words r) ≡ n = each 0 r refl in
    let front : take n (row_words r ++ words_in rs) ≡ row_words r = ap (λ k. take k (row_words r ++ words_in rs)) (sym own) ∙
    take-append_seam (row_words r) (words_in rs) in
    let back : drop n (row_words r ++ words_in rs) ≡ words_in rs = ap (λ k. drop k (row_words r ++ words_in rs)) (sym own) ∙
    drop-append_seam (row_words r) (words_in rs) in
    (λ i. front i ∷ (ap (cut (length rs) n) back ∙ cut_rows n rs (λ k x e. each (suc k) x e)) i)
