-- Words that fit an instance's parameters give each of its items words that fit its layout.
use Rattle.std.proofs.Common.{◌≡◌, ℕ, zero, suc, ◌+◌, ◌<◌, ◌≤◌, List, [], ◌∷◌, ◌++◌, length, length-append, map, take, Some, refl, ap, sym, ◌∙◌, arith, inl, inr, slice_get, subst}
use Rattle.std.proofs.lemmas.Bool.{cases_lt}
use Rattle.std.proofs.lemmas.List.{get_or_append_left, get_or_at, length-map, length-take, take-take}
use Rattle.std.proofs.lemmas.Option.{slice_get_within, slice_get-get_or, get_or_from_slice_get, slice_get-map}
use Rattle.std.specs.Option.{option_map}
use Rattle.std.specs.Prelude.{unwrap_or}
use Rattle.ae_word.specs.AtomTree.{unsigned_word}
use Rattle.ae_seq.specs.Typing.{grown}
use Rattle.ae_eval.proofs.Items.{entry-grown, slice_get-take}
use Rattle.ae_sttype.specs.StTree.{StTree, atom as st_atom, sseq}
use Rattle.ae_sttype.specs.Size.{IsInSize}
use Rattle.ae_sttype.proofs.Bounds.{atoms_pos}
use Rattle.ae_ops.specs.Blocks.{AreWords, AllAreWords, stream_of}
use Rattle.ae_rewrite.specs.StProgramTree.{StOpTree, word, join, first, second, fixed, move, fold, scan, body, StNodeTree, StFuncTree}
use Rattle.ae_rewrite.specs.Scheduled.{node_layouts}
use Rattle.ae_rewrite.specs.Sound.{IsRawFor, IsSpread, IsSoundOp, IsSoundFunc, IsSound, item_layout, item_layouts}
use Rattle.ae_delay.proofs.Instances.{all_items, node_sound}
use Rattle.ae_fold.proofs.Kinding.{get_right}
use Rattle.ae_flow.specs.Flow.{Callee, callee, callee_at, callees, first_result, item_words, no_callee, node_words, op_words, words_at}
use Rattle.ae_flow.specs.Fitted.{FitsOp, AreFitted}
use Rattle.ae_ports.specs.Ports.{streams_of}
use Rattle.ae_flow.proofs.Operands.{word_words, join_words, first_part, second_part, fixed_words, move_words}
use Rattle.ae_flow.proofs.Folding.{fold_words_fit, scan_words_fit}
use Rattle.ae_flow.proofs.Bodies.{GivesWords, body_words}

-- ---- one node

-- the amounts of a fold or a scan are within limits
abbrev IsSpreadOp : (budget : ℕ) → (s : StTree) → StOpTree → Type 0
IsSpreadOp budget s (fold op n m raw) = IsRawFor budget raw s × IsSpread n m
IsSpreadOp budget s (scan op n m) = IsSpread n m
IsSpreadOp budget s _ = Unit {0}

spread_op : (k budget : ℕ) (ins : List StTree) (s : StTree) (op : StOpTree) → IsSoundOp k budget ins s op → IsSpreadOp budget s op
spread_op k budget [] s (fold op n m raw) h = absurd h
spread_op k budget (a ∷ []) s (fold op n m raw) h = h
spread_op k budget (a ∷ b ∷ ins) s (fold op n m raw) h = absurd h
spread_op k budget [] s (scan op n m) h = absurd h
spread_op k budget (a ∷ []) s (scan op n m) h = h
spread_op k budget (a ∷ b ∷ ins) s (scan op n m) h = absurd h
spread_op k budget ins s _ h = tt

op_gives : (before : List StFuncTree) (known : List Callee) (budget copies : ℕ) (ins : List StTree) (s : StTree) (op : StOpTree) (vs : List (List ℕ))
    → IsInSize s → IsSpreadOp budget s op → ((k : ℕ) (f : StFuncTree) → slice_get before k ≡ Some f → GivesWords f (callee_at known k))
    → FitsOp before budget copies ins s op → AllAreWords (streams_of ins) vs → AreWords (stream_of s) (op_words known ins s op vs)
op_gives before known budget copies ins s (word op) vs size spread below h fit = word_words known op ins s vs h fit
op_gives before known budget copies (a ∷ b ∷ []) s join vs size spread below h fit = join_words known a b s vs h fit
op_gives before known budget copies (a ∷ []) s first vs size spread below h fit = first_part known a s vs h fit
op_gives before known budget copies (a ∷ []) s second vs size spread below h fit = second_part known a s vs h fit
op_gives before known budget copies ins s (fixed ws) vs size spread below h fit = fixed_words s ws h.1
op_gives before known budget copies (a ∷ []) s (move how) vs size spread below h fit = move_words known how a s vs h fit
op_gives before known budget copies (a ∷ []) s (fold op n m raw) vs size spread below h fit =
    fold_words_fit known budget op n m raw a s vs spread.0 spread.1 h fit
op_gives before known budget copies (a ∷ []) s (scan op n m) vs size spread below h fit = scan_words_fit known budget op n m a s vs size spread h fit
op_gives before known budget copies ins s (body k) vs size spread below h fit = body_words known k budget copies ins s vs h.0 (below k h.0 h.1) h.2 fit
op_gives before known budget copies _ s _ vs size spread below h fit = absurd h

-- ---- the items of an instance, one after the other

-- the words of the first items fit their layouts
abbrev pub ItemsFit : List StTree → (items : List (List ℕ)) → Type 0
ItemsFit layouts items = (i : ℕ) → i < length items → AreWords (stream_of (item_layout layouts i)) (words_at items i)

args_fit : (layouts : List StTree) (items : List (List ℕ)) (args : List ℕ) → ItemsFit layouts items
    → ((i a : ℕ) → slice_get args i ≡ Some a → a < length items) → AllAreWords (streams_of (map (item_layout layouts) args)) (map (words_at items) args)
args_fit layouts items [] fit below = tt
args_fit layouts items (a ∷ args) fit below = (fit a (below 0 a refl), args_fit layouts items args fit (λ i b at. below (suc i) b at))

more_fit : (layouts : List StTree) (items : List (List ℕ)) (own : List ℕ) → ItemsFit layouts items
    → AreWords (stream_of (item_layout layouts (length items))) own → ItemsFit layouts (items ++ own ∷ [])
more_fit layouts items own fit last i below = elim (cases_lt i (length items)) [
  | inl lt ↦ rw (get_or_append_left items (own ∷ []) [] i lt) (fit i lt)
  | inr ge ↦
      let e : length items ≡ i = omega (arith, below, ge, length-append items (own ∷ [])) in
      rw (← e, get_or_at items own [] [] (length items) refl) last
]

grown_fit : (step : List (List ℕ) → StNodeTree → List ℕ) (layouts : List StTree) (ns : List StNodeTree) (items : List (List ℕ)) → ItemsFit layouts items
    → ((j : ℕ) (n : StNodeTree) → slice_get ns j ≡ Some n → (front : List (List ℕ)) → length front ≡ length items + j → ItemsFit layouts front
    → AreWords (stream_of (item_layout layouts (length front))) (step front n)) → ItemsFit layouts (grown step items ns)
grown_fit step layouts [] items fit each = fit
grown_fit step layouts (n ∷ ns) items fit each =
    grown_fit step layouts ns (items ++ step items n ∷ []) (more_fit layouts items (step items n) fit (each 0 n refl items (omega arith) fit))
    (λ j m at front long own. each (suc j) m at front (omega (arith, long, length-append items (step items n ∷ []))) own)

length_items : (step : List (List ℕ) → StNodeTree → List ℕ) (ns : List StNodeTree) (items : List (List ℕ))
    → length (grown step items ns) ≡ length items + length ns
length_items step [] items = omega arith
length_items step (n ∷ ns) items = omega (arith, length_items step ns (items ++ step items n ∷ []), length-append items (step items n ∷ []))

-- ---- the parameters

pub many_words : (ss : List StTree) (vs : List (List ℕ)) → AllAreWords (streams_of ss) vs → length vs ≡ length ss
many_words [] [] h = refl
many_words [] (v ∷ vs) h = absurd h
many_words (s ∷ ss) [] h = absurd h
many_words (s ∷ ss) (v ∷ vs) h = omega (arith, many_words ss vs h.1)

params_fit : (ss more : List StTree) (vs : List (List ℕ)) → AllAreWords (streams_of ss) vs → ItemsFit (ss ++ more) vs
params_fit [] more [] h i below = absurd (omega arith)
params_fit [] more (v ∷ vs) h i below = absurd h
params_fit (s ∷ ss) more [] h i below = absurd (omega arith)
params_fit (s ∷ ss) more (v ∷ vs) h zero below = h.0
params_fit (s ∷ ss) more (v ∷ vs) h (suc i) below = params_fit ss more vs h.1 i (omega arith)

-- ---- the items of an instance

items_many : (s : StFuncTree) (known : List Callee) (vs : List (List ℕ)) → AllAreWords (streams_of s.ins) vs
    → length (item_words known s vs) ≡ length (item_layouts s)
items_many s known vs fit =
    length_items (node_words known (item_layouts s)) s.nodes vs
    ∙ omega (arith, many_words s.ins vs fit, length-append s.ins (node_layouts s.nodes), length-map s.nodes (λ (x : StNodeTree). x.type))

pub node_layout : (s : StFuncTree) (j : ℕ) (n : StNodeTree) → slice_get s.nodes j ≡ Some n → item_layout (item_layouts s) (length s.ins + j) ≡ n.type
node_layout s j n at = ap (λ o. unwrap_or o (sseq 0 (st_atom (unsigned_word 1))))
    (get_right s.ins (node_layouts s.nodes) j ∙ (slice_get-map (λ (x : StNodeTree). x.type) s.nodes j ∙ ap (option_map (λ (x : StNodeTree). x.type)) at))

early : (s : StFuncTree) (j : ℕ) → length (s.ins ++ node_layouts (take j s.nodes)) ≤ length s.ins + j
early s j = omega (arith, length-append s.ins (node_layouts (take j s.nodes)), length-map (take j s.nodes) (λ (x : StNodeTree). x.type), length-take j s.nodes)

-- where each earlier instance gives words that fit
items_by : (instances : List StFuncTree) (k : ℕ) (s : StFuncTree) (vs : List (List ℕ)) → IsSound instances → AreFitted instances
    → slice_get instances k ≡ Some s
    → ((m : ℕ) (f : StFuncTree) → slice_get (take k instances) m ≡ Some f → GivesWords f (callee_at (callees (take k instances)) m))
    → AllAreWords (streams_of s.ins) vs → ItemsFit (item_layouts s) (item_words (callees (take k instances)) s vs)
items_by instances k s vs sound fitted at earlier fit =
    let known : List Callee = callees (take k instances) in
    let layouts : List StTree = item_layouts s in
    grown_fit (node_words known layouts) layouts s.nodes vs (params_fit s.ins (node_layouts s.nodes) vs fit) (λ j n here front long own.
    let one = node_sound k s j n (sound.each k s at) here in
    let place : length front ≡ length s.ins + j = omega (arith, long, many_words s.ins vs fit) in
    let taken = (sound.each k s at).nodes j n here in
    let below : (i a : ℕ) → slice_get n.args i ≡ Some a → a < length front = λ i a f.
    (let inside = taken.args i a f in omega (arith, inside, place, early s j)) in
    let words = args_fit layouts front n.args own below in
    let gives = op_gives (take k instances) known s.budget n.copies (map (item_layout layouts) n.args) n.type n.op
    (map (words_at front) n.args) one.layout.size (spread_op k s.budget (map (item_layout layouts) n.args) n.type n.op one.op) earlier
    (fitted.each k j s n at here) words in
    rw (place, node_layout s j n here) gives)

-- ---- what callers know

callee_is : (instances : List StFuncTree) (k m : ℕ) (f : StFuncTree) → m < k → slice_get (take k instances) m ≡ Some f
    → callee_at (callees (take k instances)) m ≡ callee (callees (take m instances)) f
callee_is instances k m f below at =
    let same : take m (take k instances) ≡ take m instances = take-take m k instances (omega arith) in
    let entry : slice_get (callees (take k instances)) m ≡ Some (callee (callees (take m instances)) f) = entry-grown callee (take k instances) m f at ∙
    ap (λ fs. Some (callee (callees fs) f)) same in
    get_or_from_slice_get (callees (take k instances)) m (callee (callees (take m instances)) f) no_callee entry

first_below : (k : ℕ) (f : StFuncTree) → IsSoundFunc k f → first_result f < length (item_layouts f)
first_below k f h =
    let some : 0 < length f.results = omega (arith, h.some_results) in
    h.results 0 (first_result f) (slice_get-get_or f.results 0 0 some)

gives_words : (k : ℕ) (f : StFuncTree) (known : List Callee) → IsSoundFunc k f
    → ((vs : List (List ℕ)) → AllAreWords (streams_of f.ins) vs → ItemsFit (item_layouts f) (item_words known f vs)) → GivesWords f (callee known f)
gives_words k f known sound items = record {
  ins = refl;
  out = refl;
  some = atoms_pos (item_layout (item_layouts f) (first_result f)) (all_items k f sound (first_result f) (first_below k f sound)).size.lengths;
  flow = λ vs fit. items vs fit (first_result f) (omega (arith, first_below k f sound, items_many f known vs fit));
}

-- instance by instance
items_below : (bound k : ℕ) (instances : List StFuncTree) (s : StFuncTree) (vs : List (List ℕ)) → k < bound → IsSound instances → AreFitted instances
    → slice_get instances k ≡ Some s → AllAreWords (streams_of s.ins) vs
    → ItemsFit (item_layouts s) (item_words (callees (take k instances)) s vs)
items_below zero k instances s vs low sound fitted at fit = absurd (omega arith)
items_below (suc bound) k instances s vs low sound fitted at fit = items_by instances k s vs sound fitted at (λ m f there.
    let inside : m < length (take k instances) = slice_get_within (take k instances) m f there in
    let below : m < k = omega (arith, inside, length-take k instances) in
    let here : slice_get instances m ≡ Some f = sym (slice_get-take k m instances below) ∙ there in
    let known : List Callee = callees (take m instances) in
    let gives : GivesWords f (callee known f) = gives_words m f known (sound.each m f here)
    (λ ws own. items_below bound m instances f ws (omega (arith, below, low)) sound fitted here own) in
    subst (λ (c : Callee). GivesWords f c) (sym (callee_is instances k m f below there)) gives) fit

pub flows_fit_by : (instances : List StFuncTree) (k : ℕ) (s : StFuncTree) (vs : List (List ℕ)) → IsSound instances → AreFitted instances
    → slice_get instances k ≡ Some s → AllAreWords (streams_of s.ins) vs
    → (i : ℕ) → i < length (item_layouts s) → AreWords (stream_of (item_layout (item_layouts s) i)) (words_at (item_words (callees (take k instances)) s vs) i)
flows_fit_by instances k s vs sound fitted at fit i below =
    items_below (suc k) k instances s vs (omega arith) sound fitted at fit i (omega (arith, below, items_many s (callees (take k instances)) vs fit))
