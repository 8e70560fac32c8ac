-- What is known of a node that is ready, by its operator.
use Rattle.std.proofs.Common.{ℕ, ◌≡◌, true, ◌+◌, ◌-◌, ◌*◌, ◌<◌, ◌≤◌, List, [], ◌∷◌, length, map, Some, slice_get, get_or, arith, refl, sym, ap, ◌∙◌, subst}
use Rattle.std.proofs.Math.Nat.{mul-le-mul_right}
use Rattle.std.proofs.lemmas.List.{length-map}
use Rattle.std.proofs.lemmas.Option.{slice_get-get_or, unwrap_or-slice_get}
use Rattle.ae_word.specs.declared.op.WordOp.{WordOp}
use Rattle.ae_word.specs.declared.op.WordOp.TheVariants.{Add, Sub, Mul, And, Or, Xor, Not, Min, Max, Eq, Lt, Mux, Shl, Shr, Cast, SLt, SMin, SMax, Sar, SCast}
use Rattle.ae_word.specs.WordTable.{folds, row_of}
use Rattle.ae_netlist.specs.declared.cell.NetId.{NetId}
use Rattle.ae_netlist.specs.declared.cell.SizedCell.{SizedCell}
use Rattle.ae_sttype.specs.StTree.{StTree, atom, sseq, st_tree, time}
use Rattle.ae_word.specs.AtomTree.{unsigned_word}
use Rattle.ae_sttype.specs.Size.{IsInSize}
use Rattle.ae_sttype.proofs.Bounds.{time_pos}
use Rattle.ae_moves.specs.Origins.{Move}
use Rattle.ae_fold.specs.Shapes.{FoldShape}
use Rattle.ae_ops.specs.Blocks.{stream_of}
use Rattle.ae_ops.specs.Words.{operand_widths, word_stream}
use Rattle.ae_gather.specs.Gathers.{gather_part}
use Rattle.ae_reduce.specs.Reduces.{reduce_latency, reduce_part}
use Rattle.ae_scan.specs.Scans.{scan_part}
use Rattle.ae_rewrite.specs.declared.st_program.MoveOp.{MoveOp}
use Rattle.ae_rewrite.specs.declared.st_program.MoveOp.TheVariants.{Same}
use Rattle.ae_rewrite.specs.StProgramTree.{word, fixed, move, fold, scan, StNodeTree, StFuncTree}
use Rattle.ae_rewrite.specs.Scheduled.{IsFilling}
use Rattle.ae_rewrite.specs.Sound.{FixedFits, IsRawFor, IsSoundOp, IsSpread, item_layout, item_layouts}
use Rattle.ae_delay.specs.Moving.{constant_move, op_move}
use Rattle.ae_flow.specs.Flow.{Callee, width_of}
use Rattle.ae_flow.specs.Fitted.{FitsFold, FitsMove, FitsOp, FitsScan, FitsWord, IsArranged, IsOneOf}
use Rattle.ae_ports.specs.Ports.{streams_of}
use Rattle.ae_lower.specs.Parts.{part_behind}
use Rattle.ae_lower.specs.Nodes.{IsNodePart, IsReady, arguments_of}
use Rattle.ae_lower.proofs.Arranged.{one_size}
use Rattle.ae_lower.proofs.Levels.{log_few, log_same, many_few}
use Rattle.ae_lower.proofs.OpParts.{constant_is, move_is}
use Rattle.ae_lower.proofs.FoldParts.{fold_is, scan_is}
use Rattle.ae_lower.proofs.Placing.{of_node}
use Rattle.ae_lower.proofs.Streams.{one_only, one_stream}

-- the layout of argument k
abbrev pub argument_at : StFuncTree → StNodeTree → ℕ → StTree
argument_at s n k = item_layout (item_layouts s) (get_or n.args k 0)

pub ready_some : (cells : List SizedCell) (s : StFuncTree) (n : StNodeTree) (args : List (List NetId)) → IsReady cells s n args → 1 ≤ s.budget
ready_some cells s n args h = omega (arith, time_pos n.type h.layout.size.lengths, h.layout.time)

pub ready_below : (cells : List SizedCell) (s : StFuncTree) (n : StNodeTree) (args : List (List NetId)) (k : ℕ) → IsReady cells s n args → k < length n.args
    → get_or n.args k 0 < length (item_layouts s)
ready_below cells s n args k h low = h.below k (get_or n.args k 0) (slice_get-get_or n.args k 0 low)

pub ready_item : (cells : List SizedCell) (s : StFuncTree) (n : StNodeTree) (args : List (List NetId)) (k : ℕ) → IsReady cells s n args → k < length n.args
    → IsFilling s.budget (argument_at s n k)
ready_item cells s n args k h low =
    h.items (get_or n.args k 0) (argument_at s n k) (rw (unwrap_or-slice_get (item_layouts s) (get_or n.args k 0) (sseq 0 (atom (unsigned_word 1))))
    (slice_get-get_or (item_layouts s) (get_or n.args k 0) (sseq 0 (atom (unsigned_word 1))) (ready_below cells s n args k h low)))

-- a list of one
pub record IsOnly (xs : List ℕ) : Type 0 where
  pub is : xs ≡ get_or xs 0 0 ∷ []

pub only_low : (xs : List ℕ) → IsOnly xs → 0 < length xs
only_low xs h = (let one : length xs ≡ 1 = ap length h.is in omega (arith, one))

-- ---- moves

move_fits : (before : List StFuncTree) (budget copies : ℕ) (f : ℕ → StTree) (xs : List ℕ) (s : StTree) (how : MoveOp)
    → FitsOp before budget copies (map f xs) s (move how) → IsOnly xs × FitsMove how (f (get_or xs 0 0)) s
move_fits before budget copies f [] s how h = absurd h
move_fits before budget copies f (x ∷ []) s how h = (record { is = refl }, h)
move_fits before budget copies f (x ∷ y ∷ xs) s how h = absurd h

pub ready_move : (cells : List SizedCell) (s : StFuncTree) (n : StNodeTree) (args : List (List NetId)) (how : MoveOp) → IsReady cells s n args
    → n.op ≡ move how → IsOnly n.args × FitsMove how (argument_at s n 0) n.type
ready_move cells s n args how h e =
    move_fits h.fits.0 s.budget n.copies (item_layout (item_layouts s)) n.args n.type how
    (subst (λ op. FitsOp h.fits.0 s.budget n.copies (arguments_of s n) n.type op) e h.fits.1)

pub move_node : (cells : List SizedCell) (s : StFuncTree) (n : StNodeTree) (args : List (List NetId)) (how : MoveOp) (m : Move) → IsReady cells s n args
    → n.op ≡ move how → m ≡ op_move how (argument_at s n 0) n.type
    → (known : List Callee) → IsNodePart known s n (gather_part m)
move_node cells s n args how m h e is known =
    let one = ready_move cells s n args how h e in
    of_node known s n (get_or n.args 0 0 ∷ []) (move how) (gather_part m) e one.0.is
    (rw is (move_is known s.budget n.copies (argument_at s n 0) n.type how h.layout.time))

-- ---- constants

none_from : (f : ℕ → StTree) (xs : List ℕ) → map f xs ≡ [] → xs ≡ []
none_from f [] h = refl
none_from f (x ∷ xs) h = cc

pub ready_fixed : (cells : List SizedCell) (s : StFuncTree) (n : StNodeTree) (args : List (List NetId)) (ws : List ℕ) → IsReady cells s n args
    → n.op ≡ fixed ws → (n.args ≡ []) × FixedFits n.type ws
ready_fixed cells s n args ws h e =
    let fits : FitsOp h.fits.0 s.budget n.copies (arguments_of s n) n.type (fixed ws) = subst
    (λ op. FitsOp h.fits.0 s.budget n.copies (arguments_of s n) n.type op) e h.fits.1 in
    (none_from (item_layout (item_layouts s)) n.args fits.0, fits.1)

pub fixed_node : (cells : List SizedCell) (s : StFuncTree) (n : StNodeTree) (args : List (List NetId)) (ws : List ℕ) (m : Move) → IsReady cells s n args
    → n.op ≡ fixed ws → m ≡ constant_move ws n.type
    → (known : List Callee) → IsNodePart known s n (gather_part m)
fixed_node cells s n args ws m h e is known =
    of_node known s n [] (fixed ws) (gather_part m) e (ready_fixed cells s n args ws h e).0
    (rw is (constant_is known s.budget n.copies (item_layout (item_layouts s) 0) n.type ws h.layout.time))

-- ---- folds and scans

-- a fold as it was made: its element is the one that comes in the layout
abbrev pub IsFoldOf : WordOp → (slots lanes budget : ℕ) → (StTree → Type 0) → FoldShape → Type 0
IsFoldOf op n m budget Fits f = (f.op ≡ op) × (f.slots ≡ n) × (f.lanes ≡ m) × (f.period ≡ budget) × Fits (st_tree f.element)

shape_as : (f : FoldShape) (op : WordOp) (n m budget : ℕ) → f.op ≡ op → f.slots ≡ n → f.lanes ≡ m → f.period ≡ budget
    → f ≡ record { op = op; slots = n; lanes = m; element = f.element; period = budget }
shape_as f op n m budget eo es el ep = rw (← eo, ← es, ← el, ← ep) refl

fold_fits : (before : List StFuncTree) (budget copies : ℕ) (f : ℕ → StTree) (xs : List ℕ) (s raw : StTree) (op : WordOp) (n m : ℕ)
    → FitsOp before budget copies (map f xs) s (fold op n m raw) → IsOnly xs × FitsFold budget op n m raw (f (get_or xs 0 0)) s
fold_fits before budget copies f [] s raw op n m h = absurd h
fold_fits before budget copies f (x ∷ []) s raw op n m h = (record { is = refl }, h)
fold_fits before budget copies f (x ∷ y ∷ xs) s raw op n m h = absurd h

fold_sound : (k budget : ℕ) (f : ℕ → StTree) (xs : List ℕ) (s raw : StTree) (op : WordOp) (n m : ℕ) → IsSoundOp k budget (map f xs) s (fold op n m raw)
    → IsRawFor budget raw s × IsSpread n m
fold_sound k budget f [] s raw op n m h = absurd h
fold_sound k budget f (x ∷ []) s raw op n m h = h
fold_sound k budget f (x ∷ y ∷ xs) s raw op n m h = absurd h

pub ready_fold : (cells : List SizedCell) (s : StFuncTree) (n : StNodeTree) (args : List (List NetId)) (op : WordOp) (k m : ℕ) (raw : StTree)
    → IsReady cells s n args → n.op ≡ fold op k m raw
    → IsOnly n.args × FitsFold s.budget op k m raw (argument_at s n 0) n.type
ready_fold cells s n args op k m raw h e =
    fold_fits h.fits.0 s.budget n.copies (item_layout (item_layouts s)) n.args n.type raw op k m
    (subst (λ o. FitsOp h.fits.0 s.budget n.copies (arguments_of s n) n.type o) e h.fits.1)

pub raw_fold : (cells : List SizedCell) (s : StFuncTree) (n : StNodeTree) (args : List (List NetId)) (op : WordOp) (k m : ℕ) (raw : StTree)
    → IsReady cells s n args → n.op ≡ fold op k m raw → IsRawFor s.budget raw n.type × IsSpread k m
raw_fold cells s n args op k m raw h e =
    fold_sound h.sound.0 s.budget (item_layout (item_layouts s)) n.args n.type raw op k m
    (subst (λ o. IsSoundOp h.sound.0 s.budget (arguments_of s n) n.type o) e h.sound.1)

pub fold_shape : (cells : List SizedCell) (s : StFuncTree) (n : StNodeTree) (args : List (List NetId)) (op : WordOp) (k m : ℕ) (raw : StTree) (f : FoldShape)
    → IsReady cells s n args → n.op ≡ fold op k m raw
    → IsFoldOf op k m s.budget (λ t. IsOneOf t raw) f → folds f.op ≡ true × IsInSize (st_tree f.element) × (1 ≤ f.slots) × (1 ≤ f.lanes)
fold_shape cells s n args op k m raw f h e is =
    let fits = (ready_fold cells s n args op k m raw h e).1 in
    let sound = raw_fold cells s n args op k m raw h e in (
      ap folds is.0 ∙ fits.foldable,
      one_size (st_tree f.element) raw is.4 sound.0.layout.size,
      omega (arith, is.1, sound.1.some_slots),
      omega (arith, is.2, sound.1.some_lanes),
    )

pub fold_node : (cells : List SizedCell) (s : StFuncTree) (n : StNodeTree) (args : List (List NetId)) (op : WordOp) (k m : ℕ) (raw : StTree) (f : FoldShape)
    (mv : Move) → IsReady cells s n args → n.op ≡ fold op k m raw
    → IsFoldOf op k m s.budget (λ t. IsOneOf t raw) f → mv ≡ op_move Same raw n.type → (known : List Callee)
    → IsNodePart known s n (part_behind (reduce_part f) (gather_part mv))
fold_node cells s n args op k m raw f mv h e is moved known =
    let fits = ready_fold cells s n args op k m raw h e in
    let sound = raw_fold cells s n args op k m raw h e in
    let P : FoldShape → Type 0 = λ g. IsNodePart known s n (part_behind (reduce_part g) (gather_part mv)) in
    subst P (sym (shape_as f op k m s.budget is.0 is.1 is.2 is.3))
    (of_node known s n (get_or n.args 0 0 ∷ []) (fold op k m raw) _ e fits.0.is
    (rw moved (fold_is known s.budget n.copies k m op f.element raw (argument_at s n 0) n.type is.4 fits.1 sound.0 sound.1 h.layout.time
    (ready_some cells s n args h))))

-- the move takes what the fold gives
pub fold_follows : (raw s : StTree) (f : FoldShape) (mv : Move) → IsOneOf (st_tree f.element) raw → mv ≡ op_move Same raw s
    → (gather_part mv).ins ≡ (reduce_part f).out ∷ []
fold_follows raw s f mv one is = ap (λ (v : Move). (gather_part v).ins) is ∙ ap (λ x. x ∷ []) (one_stream (st_tree f.element) raw one)

pub fold_short : (cells : List SizedCell) (s : StFuncTree) (n : StNodeTree) (args : List (List NetId)) (op : WordOp) (k m : ℕ) (raw : StTree) (f : FoldShape)
    → IsReady cells s n args → n.op ≡ fold op k m raw
    → IsFoldOf op k m s.budget (λ t. IsOneOf t raw) f → reduce_latency f ≤ 100000
fold_short cells s n args op k m raw f h e is =
    let sound = raw_fold cells s n args op k m raw h e in
    let fits = (ready_fold cells s n args op k m raw h e).1 in
    let same = one_only fits.element (st_tree f.element) raw fits.one is.4 in
    let room : k * time (st_tree f.element) ≤ s.budget = rw (← same) fits.room in
    let less : (f.slots - 1) * time (st_tree f.element) ≤ k * time (st_tree f.element) = mul-le-mul_right (time (st_tree f.element)) (omega (arith, is.1)) in
    let wait = many_few f.slots ((f.slots - 1) * time (st_tree f.element) + 1) 4097 (omega (arith, less, room, h.layout.time, h.layout.size.in_time)) in
    let levels = log_same f.lanes (omega (arith, is.2, sound.1.some_lanes)) (omega (arith, is.2, sound.1.few_lanes)) in
    omega (arith, wait, levels, log_few f.lanes)

scan_fits : (before : List StFuncTree) (budget copies : ℕ) (f : ℕ → StTree) (xs : List ℕ) (s : StTree) (op : WordOp) (n m : ℕ)
    → FitsOp before budget copies (map f xs) s (scan op n m) → IsOnly xs × FitsScan budget op n m (f (get_or xs 0 0)) s
scan_fits before budget copies f [] s op n m h = absurd h
scan_fits before budget copies f (x ∷ []) s op n m h = (record { is = refl }, h)
scan_fits before budget copies f (x ∷ y ∷ xs) s op n m h = absurd h

scan_sound : (k budget : ℕ) (f : ℕ → StTree) (xs : List ℕ) (s : StTree) (op : WordOp) (n m : ℕ) → IsSoundOp k budget (map f xs) s (scan op n m) → IsSpread n m
scan_sound k budget f [] s op n m h = absurd h
scan_sound k budget f (x ∷ []) s op n m h = h
scan_sound k budget f (x ∷ y ∷ xs) s op n m h = absurd h

pub ready_scan : (cells : List SizedCell) (s : StFuncTree) (n : StNodeTree) (args : List (List NetId)) (op : WordOp) (k m : ℕ) → IsReady cells s n args
    → n.op ≡ scan op k m
    → IsOnly n.args × FitsScan s.budget op k m (argument_at s n 0) n.type × IsSpread k m
ready_scan cells s n args op k m h e =
    let fits = scan_fits h.fits.0 s.budget n.copies (item_layout (item_layouts s)) n.args n.type op k m
    (subst (λ o. FitsOp h.fits.0 s.budget n.copies (arguments_of s n) n.type o) e h.fits.1) in (
      fits.0,
      fits.1,
      scan_sound h.sound.0 s.budget (item_layout (item_layouts s)) n.args n.type op k m
          (subst (λ o. IsSoundOp h.sound.0 s.budget (arguments_of s n) n.type o) e h.sound.1),
    )

pub scan_node : (cells : List SizedCell) (s : StFuncTree) (n : StNodeTree) (args : List (List NetId)) (op : WordOp) (k m : ℕ) (f : FoldShape)
    → IsReady cells s n args → n.op ≡ scan op k m
    → IsFoldOf op k m s.budget (λ t. IsArranged k m t n.type) f → (known : List Callee) → IsNodePart known s n (scan_part f)
scan_node cells s n args op k m f h e is known =
    let fits = ready_scan cells s n args op k m h e in
    subst (λ g. IsNodePart known s n (scan_part g)) (sym (shape_as f op k m s.budget is.0 is.1 is.2 is.3))
    (of_node known s n (get_or n.args 0 0 ∷ []) (scan op k m) _ e fits.0.is
    (scan_is known s.budget n.copies k m op f.element (argument_at s n 0) n.type is.4 fits.1 fits.2))

-- the layout of an item that is found among the arguments
pub found_item : (cells : List SizedCell) (s : StFuncTree) (n : StNodeTree) (args : List (List NetId)) (k a : ℕ) → IsReady cells s n args
    → slice_get n.args k ≡ Some a → IsFilling s.budget (item_layout (item_layouts s) a)
found_item cells s n args k a h found =
    h.items a (item_layout (item_layouts s) a) (rw (unwrap_or-slice_get (item_layouts s) a (sseq 0 (atom (unsigned_word 1))))
    (slice_get-get_or (item_layouts s) a (sseq 0 (atom (unsigned_word 1))) (h.below k a found)))

-- ---- operators on words

main_within : (op : WordOp) (w : ℕ) → (row_of op).main < length (operand_widths op w)
main_within Add w = omega arith
main_within Sub w = omega arith
main_within Mul w = omega arith
main_within And w = omega arith
main_within Or w = omega arith
main_within Xor w = omega arith
main_within Not w = omega arith
main_within Min w = omega arith
main_within Max w = omega arith
main_within Eq w = omega arith
main_within Lt w = omega arith
main_within Mux w = omega arith
main_within (Shl k) w = omega arith
main_within (Shr k) w = omega arith
main_within (Cast k) w = omega arith
main_within SLt w = omega arith
main_within SMin w = omega arith
main_within SMax w = omega arith
main_within (Sar k) w = omega arith
main_within (SCast k) w = omega arith

pub ready_word : (cells : List SizedCell) (s : StFuncTree) (n : StNodeTree) (args : List (List NetId)) (op : WordOp) → IsReady cells s n args → n.op ≡ word op
    → length n.args ≡ length (operand_widths op (width_of op (arguments_of s n)))
ready_word cells s n args op h e =
    let fits : FitsWord op (arguments_of s n) n.type = subst (λ o. FitsOp h.fits.0 s.budget n.copies (arguments_of s n) n.type o) e h.fits.1 in
    let all : length (streams_of (arguments_of s n)) ≡ length n.args = length-map (arguments_of s n) stream_of ∙
    length-map n.args (item_layout (item_layouts s)) in
    sym all ∙ (ap length fits.ins ∙ length-map (operand_widths op (width_of op (arguments_of s n))) word_stream)

pub main_some : (cells : List SizedCell) (s : StFuncTree) (n : StNodeTree) (args : List (List NetId)) (op : WordOp) → IsReady cells s n args
    → n.op ≡ word op → (row_of op).main < length n.args
main_some cells s n args op h e = rw (ready_word cells s n args op h e) (main_within op (width_of op (arguments_of s n)))
