-- Folds and scans as parts, and what they cost.
use Rattle.std.proofs.Common.{ℕ, ◌≡◌, ◌+◌, ◌-◌, ◌*◌, ◌/◌, ◌%◌, ◌^◌, ◌<◌, ◌≤◌, List, [], ◌∷◌, length, map, get_or, if◌then◌else◌, arith, refl, sym, ap, ◌∙◌}
use Rattle.std.specs.List.{range_with_len}
use Rattle.std.proofs.Math.Nat.{mul-le-mul}
use Rattle.std.proofs.lemmas.Grind.{same_number_lists}
use Rattle.std.proofs.lemmas.List.{get_or-map, length-map}
use Rattle.std.proofs.lemmas.List.FromFn.{get_or-map-range_with_len, length-map-range_with_len}
use Rattle.std.proofs.lemmas.Nat.{div-add-mod'}
use Rattle.ae_word.specs.declared.op.WordOp.{WordOp}
use Rattle.ae_word.specs.AtomTree.{AtomTree, atom_kinds, atom_words}
use Rattle.ae_netlist.specs.Counts.{is_product}
use Rattle.ae_sttype.specs.declared.st_type.StType.{StType}
use Rattle.ae_sttype.specs.StTree.{StTree, st_tree, time, lanes, st_atoms, element_atom, element_words}
use Rattle.ae_sttype.specs.Moves.{columns_of}
use Rattle.ae_moves.specs.Origins.{move_latency}
use Rattle.ae_moves.specs.Rings.{rings}
use Rattle.ae_fold.specs.Folding.{fold_by, word_fold}
use Rattle.ae_fold.specs.Shapes.{FoldShape, element_columns, element_size, folded, scanned}
use Rattle.ae_ops.specs.Blocks.{stream_of}
use Rattle.ae_ops.specs.Folds.{log_up as levels_up}
use Rattle.ae_gather.specs.Gathers.{gather_part, origin_word}
use Rattle.ae_reduce.specs.Reduces.{reduce_latency, reduce_part}
use Rattle.ae_scan.specs.Scans.{scan_part}
use Rattle.ae_rewrite.specs.declared.st_program.MoveOp.TheVariants.{Same}
use Rattle.ae_rewrite.specs.StProgramTree.{fold, scan}
use Rattle.ae_rewrite.specs.Sound.{IsRawFor, IsSpread}
use Rattle.ae_delay.specs.Moving.{op_move, origin_number}
use Rattle.ae_delay.specs.OwnCosts.{inner_time, log_up, scan_columns, where_many, where_mul}
use Rattle.ae_flow.specs.Flow.{Callee, fold_words, layout_words, scan_words}
use Rattle.ae_flow.specs.Fitted.{FitsFold, FitsScan, IsArranged, IsOneOf, elements_stream}
use Rattle.ae_lower.specs.Parts.{part_behind}
use Rattle.ae_lower.specs.Nodes.{IsOpPart}
use Rattle.ae_lower.proofs.Levels.{log_same, many_same}
use Rattle.ae_lower.proofs.OpParts.{where_product}
use Rattle.ae_lower.proofs.Streams.{arranged_atom, arranged_atoms, arranged_inner, arranged_lanes, arranged_stream, cut_product, one_atom, one_atoms, one_inner, one_lanes, one_only}

-- ---- words that a move leaves as they are

whole_again : (k w : ℕ) → k / w * w + k % w ≡ k
whole_again k w = div-add-mod' k w

pub same_words : (raw s : StTree) (ws : List ℕ) → length ws ≡ layout_words s → element_atom raw ≡ element_atom s
    → map (origin_word (raw ∷ []) (ws ∷ [])) (op_move Same raw s).origins ≡ ws
same_words raw s ws long same =
    let f = origin_number Same raw s in
    let numbers : List ℕ = range_with_len 0 (layout_words s) in
    let count : length (map f numbers) ≡ layout_words s = length-map-range_with_len f 0 (layout_words s) in
    let all : length (map (origin_word (raw ∷ []) (ws ∷ [])) (map f numbers)) ≡ layout_words s = length-map (map f numbers)
    (origin_word (raw ∷ []) (ws ∷ [])) ∙ count in
    same_number_lists (map (origin_word (raw ∷ []) (ws ∷ [])) (map f numbers)) ws (all ∙ sym long)
    (λ k below.
    let low : k < layout_words s = omega (arith, below, all) in
    let place : k / element_words s * element_words raw + k % element_words s ≡ k = ap (λ a. k / element_words s * atom_words a + k % element_words s) same ∙
    whole_again k (element_words s) in
    get_or-map (origin_word (raw ∷ []) (ws ∷ [])) (map f numbers) k (f k) 0 (omega (arith, low, count))
    ∙ (ap (origin_word (raw ∷ []) (ws ∷ [])) (get_or-map-range_with_len f 0 (layout_words s) k k (f k) low (let z : 0 + k ≡ k = omega arith in z)) ∙
    ap (λ i. get_or ws i 0) place))

-- ---- folds

folded_as : (op : WordOp) (t s : StTree) (n : ℕ) (v : List ℕ) → element_atom t ≡ element_atom s → st_atoms t ≡ st_atoms s
    → folded op t n v ≡ fold_words op s (layout_words s) n v
folded_as op t s n v same atoms =
    let g : AtomTree → ℕ → List ℕ = λ a size. map (λ p. word_fold (map (fold_by op) (atom_kinds a)) size v p (n - 1)) (range_with_len 0 size) in
    ap (λ a. g a (st_atoms t * atom_words (element_atom t))) same ∙
    (ap (λ k. g (element_atom s) (k * atom_words (element_atom t))) atoms ∙ ap (λ a. g (element_atom s) (st_atoms s * atom_words a)) same)

columns_as : (t s : StTree) → element_atom s ≡ element_atom t → lanes s ≡ lanes t → element_columns t ≡ columns_of s
columns_as t s atom lanes_same = ap (λ a. lanes t * atom_words a) (sym atom) ∙ ap (λ k. k * element_words s) (sym lanes_same)

sum_of_cells : (r x d delay runs log columns : ℕ) → r ≡ log → x ≡ columns
    → 16 * (1 + r + x) + 16 * (d + delay + runs) ≤ 16 * (1 + (log + d) + columns + delay + runs)
sum_of_cells r x d delay runs log columns er ex = omega (arith, er, ex)

pub fold_is : (known : List Callee) (budget copies slots lanes : ℕ) (op : WordOp) (x : StType) (raw a s : StTree) → IsOneOf (st_tree x) raw
    → FitsFold budget op slots lanes raw a s → IsRawFor budget raw s → IsSpread slots lanes → time s ≡ budget → 1 ≤ budget
    → IsOpPart known budget copies (a ∷ []) a s (fold op slots lanes raw)
    (part_behind (reduce_part (record { op = op; slots = slots; lanes = lanes; element = x; period = budget })) (gather_part (op_move Same raw s)))
fold_is known budget copies n m op x raw a s one fits is_raw spread fills some =
    let t : StTree = st_tree x in
    let f : FoldShape = record { op = op; slots = n; lanes = m; element = x; period = budget } in
    let same : fits.element ≡ t = one_only fits.element t raw fits.one one in
    let room : n * time t ≤ budget = rw (← same) fits.room in
    let inner : 2 ≤ n → inner_time raw ≡ time t = λ two. one_inner budget n t raw some is_raw.layout.time room two one in
    let log : levels_up m ≡ log_up m = log_same m spread.some_lanes spread.few_lanes in
    let many : where_many n ((n - 1) * time t + 1) ≡ where_many n ((n - 1) * inner_time raw + 1) = many_same n _ _
    (λ two. ap (λ i. (n - 1) * i + 1) (sym (inner two))) in
    let waits : where_many n (time t + 2) ≡ where_many n (inner_time raw + 2) = many_same n _ _ (λ two. ap (λ i. i + 2) (sym (inner two))) in
    let late : reduce_latency f ≡ log_up m + where_many n ((n - 1) * inner_time raw + 1) = ap (λ l. l + where_many n ((n - 1) * time t + 1)) log ∙
    ap (λ k. log_up m + k) many in
    let columns : element_columns t ≡ columns_of raw = columns_as t raw (one_atom t raw one) (one_lanes t raw one) in
    let registers : element_columns t * (2 * m + where_many n (time t + 2)) ≡ columns_of raw * (2 * m + where_many n (inner_time raw + 2)) =
    ap (λ c. c * (2 * m + where_many n (time t + 2))) columns ∙ ap (λ k. columns_of raw * (2 * m + k)) waits in
    let stores : where_many n (element_columns t * rings (time t)) ≡ where_many n (columns_of raw * rings (inner_time raw)) = many_same n _ _
    (λ two. ap (λ c. c * rings (time t)) columns ∙ ap (λ i. columns_of raw * rings i) (sym (inner two))) in
    let atom : element_atom t ≡ element_atom s = sym (one_atom t raw one) ∙ is_raw.atom in
    let atoms : st_atoms t ≡ st_atoms s = sym (one_atoms t raw one) ∙ is_raw.atoms in record {
      period = fills;
      latency = ap (λ l. l + move_latency (op_move Same raw s)) late;
      ins = ap (λ z. z ∷ []) (sym (fits.ins ∙ ap (elements_stream n m) same));
      out = refl;
      means = λ vs words.
          let v : List ℕ = get_or vs 0 [] in
          let said : folded op t (n * m) v ≡ fold_words op s (layout_words s) (n * m) v = folded_as op t s (n * m) v atom atoms in
          let long : length (folded op t (n * m) v) ≡ layout_words s =
          ap length said ∙ length-map-range_with_len (λ p. word_fold (map (fold_by op) (atom_kinds (element_atom s))) (layout_words s) v p (n * m - 1)) 0
          (layout_words s) in
          same_words raw s (folded op t (n * m) v) long is_raw.atom ∙ said;
      cells = sum_of_cells (reduce_latency f) _ _ _ _ _ _ late registers;
      products =
          let p : ℕ = columns_of raw * (m - 1 + where_many n 1) in
          let e : element_columns t * (m - 1 + where_many n 1) ≡ p = ap (λ c. c * (m - 1 + where_many n 1)) columns in
          let none : (if is_product op then element_columns t * (m - 1 + where_many n 1) else 0) + 0 ≡ (if is_product op then element_columns
          t * (m - 1 + where_many n 1) else 0) = omega arith in
          none ∙ (where_product op (element_columns t * (m - 1 + where_many n 1)) ∙ ap (where_mul op) e);
      memories = omega (arith, stores);
    }

-- ---- scans

scanned_as : (op : WordOp) (t s : StTree) (n size : ℕ) (v : List ℕ) → element_atom t ≡ element_atom s → element_size t ≡ size
    → scanned op t n v ≡ scan_words op s size n v
scanned_as op t s n size v same sizes =
    let g : AtomTree → ℕ → List ℕ = λ a k. map (λ q. word_fold (map (fold_by op) (atom_kinds a)) k v (q % k) (q / k)) (range_with_len 0 (n * k)) in
    ap (λ a. g a (element_size t)) same ∙ ap (g (element_atom s)) sizes

pub scan_is : (known : List Callee) (budget copies slots lanes : ℕ) (op : WordOp) (x : StType) (a s : StTree) → IsArranged slots lanes (st_tree x) s
    → FitsScan budget op slots lanes a s → IsSpread slots lanes
    → IsOpPart known budget copies (a ∷ []) a s (scan op slots lanes)
    (scan_part (record { op = op; slots = slots; lanes = lanes; element = x; period = budget }))
scan_is known budget copies n m op x a s arranged fits spread =
    let t : StTree = st_tree x in
    let stands : stream_of s ≡ elements_stream n m t = arranged_stream n m t s arranged in
    let given : stream_of a ≡ elements_stream n m t = fits.ins ∙ (sym (arranged_stream n m fits.element s fits.arranged) ∙ stands) in
    let log : levels_up m ≡ log_up m = log_same m spread.some_lanes spread.few_lanes in
    let atom : element_atom s ≡ element_atom t = arranged_atom n m t s arranged in
    let words : element_words s ≡ element_words t = ap atom_words atom in
    let columns : scan_columns m s ≡ element_columns t = cut_product (lanes s) (lanes t) m (element_words s) spread.some_lanes
    (arranged_lanes n m t s arranged) ∙ ap (λ w. lanes t * w) words in
    let some : 1 * 1 ≤ n * m = mul-le-mul spread.some_slots spread.some_lanes in
    let size : layout_words s / (n * m) ≡ element_size t = cut_product (st_atoms s) (st_atoms t) (n * m) (element_words s) some
    (arranged_atoms n m t s arranged) ∙ ap (λ w. st_atoms t * w) words in
    let waits : where_many n (3 * m + time t) ≡ where_many n (3 * m + inner_time s) = many_same n _ _
    (λ two. ap (λ i. 3 * m + i) (sym (arranged_inner n m t s two arranged))) in
    let stores : where_many n (element_columns t * rings (time t)) ≡ where_many n (scan_columns m s * rings (inner_time s)) = many_same n _ _
    (λ two. ap (λ c. c * rings (time t)) (sym columns) ∙ ap (λ i. scan_columns m s * rings i) (sym (arranged_inner n m t s two arranged))) in
    let load : ℕ → ℕ → ℕ → ℕ = λ l c k. 1 + (l + where_many n 1) + c * (m * (1 + 2 * l) + k) in
    let loads : load (levels_up m) (element_columns t) (where_many n (3 * m + time t)) ≡ load (log_up m) (scan_columns m s)
    (where_many n (3 * m + inner_time s)) =
    ap (λ l. load l (element_columns t) (where_many n (3 * m + time t))) log
    ∙ (ap (λ c. load (log_up m) c (where_many n (3 * m + time t))) (sym columns) ∙ ap (load (log_up m) (scan_columns m s)) waits) in
    let joins : ℕ → ℕ → ℕ = λ l c. c * (l * m - (2 ^ l - 1) + where_many n m) in record {
      period = refl;
      latency = ap (λ l. l + where_many n 1) log;
      ins = ap (λ z. z ∷ []) (sym given);
      out = sym stands;
      means = λ vs words. scanned_as op t s (n * m) (layout_words s / (n * m)) (get_or vs 0 []) (sym atom) (sym size);
      cells = omega (arith, loads);
      products = where_product op (joins (levels_up m) (element_columns t)) ∙
          ap (where_mul op) (ap (λ l. joins l (element_columns t)) log ∙ ap (joins (log_up m)) (sym columns));
      memories = omega (arith, stores);
    }
