-- Nodes that pair elements, or take parts of them.
use Rattle.std.proofs.Common.{ℕ, suc, ◌≡◌, ◌-◌, ◌*◌, ◌<◌, Bool, true, false, cond, List, [], ◌∷◌, length, map, get_or, arith, refl, sym, ap, ◌∙◌, subst, slice_get}
use Rattle.std.proofs.lemmas.List.{length-map}
use Rattle.std.proofs.lemmas.Option.{slice_get-get_or}
use Rattle.std.specs.Prelude.{unwrap_or}
use Rattle.ae_netlist.specs.declared.cell.NetId.{NetId}
use Rattle.ae_netlist.specs.declared.cell.SizedCell.{SizedCell}
use Rattle.ae_netlist.specs.Circuit.{Circuit}
use Rattle.ae_sttype.specs.StTree.{StTree, lanes, element_words}
use Rattle.ae_moves.proofs.Lists.{get_mapped}
use Rattle.ae_ops.specs.Waves.{AreNets}
use Rattle.ae_ops.specs.Blocks.{KeepsLaw, stream_of, stream_widths}
use Rattle.ae_gather.proofs.GatherLaw.{length_stream}
use Rattle.ae_rewrite.specs.StProgramTree.{StOpTree, join, first, second, StNodeTree, StFuncTree}
use Rattle.ae_rewrite.specs.Sound.{item_layout, item_layouts}
use Rattle.ae_delay.specs.OwnCosts.{op_costs}
use Rattle.ae_flow.specs.Flow.{Callee, op_words}
use Rattle.ae_flow.specs.Fitted.{FitsOp, FitsPair}
use Rattle.ae_ports.specs.Ports.{streams_of}
use Rattle.ae_lower.specs.Parts.{plain_part}
use Rattle.ae_lower.specs.Wiring.{ArePairs, AreParts}
use Rattle.ae_lower.specs.Growth.{IsBuilt}
use Rattle.ae_lower.specs.Nodes.{IsReady, arguments_of, node_part, plain_costs}
use Rattle.ae_lower.proofs.Ready.{IsOnly, argument_at, only_low}
use Rattle.ae_lower.proofs.Wired.{IsPartIn, first_in, pair_keeps, pair_nets, part_keeps, part_nets, second_in}

-- the nets of argument k
abbrev bundle_at : List (List NetId) → ℕ → List NetId
bundle_at args k = get_or args k []

pub arguments_long : (cells : List SizedCell) (s : StFuncTree) (n : StNodeTree) (args : List (List NetId)) → IsReady cells s n args
    → length args ≡ length n.args
arguments_long cells s n args h = h.bundles.long ∙ (length-map (arguments_of s n) stream_of ∙ length-map n.args (item_layout (item_layouts s)))

pub argument_nets : (cells : List SizedCell) (s : StFuncTree) (n : StNodeTree) (args : List (List NetId)) (k : ℕ) → IsReady cells s n args → k < length n.args
    → AreNets cells (stream_widths (stream_of (argument_at s n k))) (bundle_at args k)
argument_nets cells s n args k h low =
    h.bundles.each k (stream_of (argument_at s n k)) (bundle_at args k)
    (get_mapped stream_of (arguments_of s n) k (argument_at s n k)
    (get_mapped (item_layout (item_layouts s)) n.args k (get_or n.args k 0) (slice_get-get_or n.args k 0 low)))
    (slice_get-get_or args k [] (omega (arith, low, arguments_long cells s n args h)))

pub argument_columns : (cells : List SizedCell) (s : StFuncTree) (n : StNodeTree) (args : List (List NetId)) (k : ℕ) → IsReady cells s n args
    → k < length n.args
    → length (bundle_at args k) ≡ lanes (argument_at s n k) * element_words (argument_at s n k)
argument_columns cells s n args k h low = (argument_nets cells s n args k h low).long ∙ length_stream (argument_at s n k)

one_bundle : (args : List (List NetId)) → length args ≡ 1 → args ≡ bundle_at args 0 ∷ []
one_bundle [] h = absurd (omega (arith, h))
one_bundle (x ∷ []) h = refl
one_bundle (x ∷ y ∷ xs) h = absurd (let more : length (x ∷ y ∷ xs) ≡ suc (suc (length xs)) = omega arith in omega (arith, h, more))

two_bundles : (args : List (List NetId)) → length args ≡ 2 → args ≡ bundle_at args 0 ∷ bundle_at args 1 ∷ []
two_bundles [] h = absurd (omega (arith, h))
two_bundles (x ∷ []) h = absurd (omega (arith, h))
two_bundles (x ∷ y ∷ []) h = refl
two_bundles (x ∷ y ∷ z ∷ xs) h = absurd (let more : length (x ∷ y ∷ z ∷ xs) ≡ suc (suc (suc (length xs))) = omega arith in omega (arith, h, more))

-- a node with this operator on these items
wire_built : (known : List Callee) (s : StFuncTree) (n : StNodeTree) (items : List ℕ) (op : StOpTree) (new : Circuit) (rst at : ℕ)
    (args given : List (List NetId)) (y : List NetId) → n.op ≡ op → n.args ≡ items → args ≡ given
    → AreNets new.cells (stream_widths (stream_of n.type)) y
    → KeepsLaw new.cells rst at
    (plain_part s.budget (op_costs [] (item_layout (item_layouts s) (unwrap_or (slice_get items 0) 0)) n.type n.copies op).latency
    (streams_of (map (item_layout (item_layouts s)) items)) (stream_of n.type)
    (op_words known (map (item_layout (item_layouts s)) items) n.type op)) given y
    → IsBuilt new rst at (node_part known (plain_costs s n).latency s n) args y
wire_built known s n items op new rst at args given y eo ea eg nets law =
    let P : StOpTree → List ℕ → List (List NetId) → Type 0 = λ o xs bundles.
    KeepsLaw new.cells rst at
    (plain_part s.budget (op_costs [] (item_layout (item_layouts s) (unwrap_or (slice_get xs 0) 0)) n.type n.copies o).latency
    (streams_of (map (item_layout (item_layouts s)) xs)) (stream_of n.type)
    (op_words known (map (item_layout (item_layouts s)) xs) n.type o)) bundles y in
    record {
      nets = nets;
      law = subst (λ o. P o n.args args) (sym eo)
          (subst (λ xs. P op xs args) (sym ea) (subst (λ bundles. P op items bundles) (sym eg) law));
    }

-- ---- pairs

-- a list of two
pub record IsTwo (xs : List ℕ) : Type 0 where
  pub is : xs ≡ get_or xs 0 0 ∷ get_or xs 1 0 ∷ []

pub two_long : (xs : List ℕ) → IsTwo xs → length xs ≡ 2
two_long xs h = ap length h.is

join_fits : (before : List StFuncTree) (budget copies : ℕ) (f : ℕ → StTree) (xs : List ℕ) (s : StTree) → FitsOp before budget copies (map f xs) s join
    → IsTwo xs × FitsPair (f (get_or xs 0 0)) (f (get_or xs 1 0)) s
join_fits before budget copies f [] s h = absurd h
join_fits before budget copies f (x ∷ []) s h = absurd h
join_fits before budget copies f (x ∷ y ∷ []) s h = (record { is = refl }, h)
join_fits before budget copies f (x ∷ y ∷ z ∷ xs) s h = absurd h

pub ready_join : (cells : List SizedCell) (s : StFuncTree) (n : StNodeTree) (args : List (List NetId)) → IsReady cells s n args → n.op ≡ join → IsTwo n.args
    × FitsPair (argument_at s n 0) (argument_at s n 1) n.type
ready_join cells s n args h e =
    join_fits h.fits.0 s.budget n.copies (item_layout (item_layouts s)) n.args n.type
    (subst (λ o. FitsOp h.fits.0 s.budget n.copies (arguments_of s n) n.type o) e h.fits.1)

pub join_built : (known : List Callee) (s : StFuncTree) (n : StNodeTree) (new : Circuit) (rst at : ℕ) (args : List (List NetId)) (y : List NetId)
    → IsReady new.cells s n args → n.op ≡ join
    → ArePairs (bundle_at args 0) (bundle_at args 1) (lanes n.type) (element_words (item_layout (arguments_of s n) 0))
    (element_words (item_layout (arguments_of s n) 1)) y
    → IsBuilt new rst at (node_part known (plain_costs s n).latency s n) args y
join_built known s n new rst at args y h e are =
    let two = ready_join new.cells s n args h e in
    let long : length n.args ≡ 2 = two_long n.args two.0 in
    let a : StTree = argument_at s n 0 in
    let b : StTree = argument_at s n 1 in
    let ea : element_words (item_layout (arguments_of s n) 0) ≡ element_words a = ap
    (λ xs. element_words (item_layout (map (item_layout (item_layouts s)) xs) 0)) two.0.is in
    let eb : element_words (item_layout (arguments_of s n) 1) ≡ element_words b = ap
    (λ xs. element_words (item_layout (map (item_layout (item_layouts s)) xs) 1)) two.0.is in
    let own : ArePairs (bundle_at args 0) (bundle_at args 1) (lanes n.type) (element_words a) (element_words b) y =
    subst (λ k. ArePairs (bundle_at args 0) (bundle_at args 1) (lanes n.type) k (element_words b) y) ea
    (subst (λ l. ArePairs (bundle_at args 0) (bundle_at args 1) (lanes n.type) (element_words (item_layout (arguments_of s n) 0)) l y) eb are) in
    wire_built known s n (get_or n.args 0 0 ∷ get_or n.args 1 0 ∷ []) join new rst at args (bundle_at args 0 ∷ bundle_at args 1 ∷ []) y e two.0.is
    (two_bundles args (arguments_long new.cells s n args h ∙ long))
    (pair_nets new.cells a b n.type (bundle_at args 0) (bundle_at args 1) y two.1 (argument_nets new.cells s n args 0 h (omega (arith, long)))
    (argument_nets new.cells s n args 1 h (omega (arith, long))) own)
    (pair_keeps new.cells rst at s.budget a b n.type (bundle_at args 0) (bundle_at args 1) y h.layout.size two.1 own)

-- ---- parts

-- where the words of a part begin among those of a pair of layout a
abbrev pub part_from : Bool → (a s : StTree) → ℕ
part_from b a s = cond b 0 (element_words a - element_words s)

part_fits : (before : List StFuncTree) (budget copies : ℕ) (f : ℕ → StTree) (xs : List ℕ) (s : StTree) (b : Bool)
    → FitsOp before budget copies (map f xs) s (cond b first second) → IsOnly xs × IsPartIn s (f (get_or xs 0 0)) (part_from b (f (get_or xs 0 0)) s)
part_fits before budget copies f [] s true h = absurd h
part_fits before budget copies f [] s false h = absurd h
part_fits before budget copies f (x ∷ []) s true h = (record { is = refl }, first_in s (f x) h)
part_fits before budget copies f (x ∷ []) s false h = (record { is = refl }, second_in s (f x) h)
part_fits before budget copies f (x ∷ y ∷ xs) s true h = absurd h
part_fits before budget copies f (x ∷ y ∷ xs) s false h = absurd h

pub ready_part : (cells : List SizedCell) (s : StFuncTree) (n : StNodeTree) (args : List (List NetId)) (b : Bool) → IsReady cells s n args
    → n.op ≡ cond b first second
    → IsOnly n.args × IsPartIn n.type (argument_at s n 0) (part_from b (argument_at s n 0) n.type)
ready_part cells s n args b h e =
    part_fits h.fits.0 s.budget n.copies (item_layout (item_layouts s)) n.args n.type b
    (subst (λ o. FitsOp h.fits.0 s.budget n.copies (arguments_of s n) n.type o) e h.fits.1)

part_law : (known : List Callee) (s : StFuncTree) (n : StNodeTree) (x : ℕ) (new : Circuit) (rst at : ℕ) (b : Bool) (nets y : List NetId)
    → IsReady new.cells s n (nets ∷ [])
    → IsPartIn n.type (item_layout (item_layouts s) x) (part_from b (item_layout (item_layouts s) x) n.type)
    → AreParts nets (lanes n.type) (element_words (item_layout (item_layouts s) x)) (part_from b (item_layout (item_layouts s) x) n.type)
    (element_words n.type) y
    → KeepsLaw new.cells rst at
    (plain_part s.budget (op_costs [] (item_layout (item_layouts s) x) n.type n.copies (cond b first second)).latency
    (stream_of (item_layout (item_layouts s) x) ∷ []) (stream_of n.type)
    (op_words known (item_layout (item_layouts s) x ∷ []) n.type (cond b first second))) (nets ∷ []) y
part_law known s n x new rst at true nets y h inside are =
    part_keeps new.cells rst at s.budget n.type (item_layout (item_layouts s) x) 0 nets y h.layout.size inside are
part_law known s n x new rst at false nets y h inside are =
    part_keeps new.cells rst at s.budget n.type (item_layout (item_layouts s) x)
    (element_words (item_layout (item_layouts s) x) - element_words n.type) nets y h.layout.size inside are

pub part_built : (known : List Callee) (s : StFuncTree) (n : StNodeTree) (new : Circuit) (rst at : ℕ) (args : List (List NetId)) (b : Bool) (y : List NetId)
    → IsReady new.cells s n args → n.op ≡ cond b first second
    → AreParts (bundle_at args 0) (lanes n.type) (element_words (item_layout (arguments_of s n) 0)) (part_from b (item_layout (arguments_of s n) 0) n.type)
    (element_words n.type) y
    → IsBuilt new rst at (node_part known (plain_costs s n).latency s n) args y
part_built known s n new rst at args b y h e are =
    let one = ready_part new.cells s n args b h e in
    let low : 0 < length n.args = only_low n.args one.0 in
    let long : length n.args ≡ 1 = ap length one.0.is in
    let a : StTree = argument_at s n 0 in
    let ea : item_layout (arguments_of s n) 0 ≡ a = ap (λ xs. item_layout (map (item_layout (item_layouts s)) xs) 0) one.0.is in
    let eg : args ≡ bundle_at args 0 ∷ [] = one_bundle args (arguments_long new.cells s n args h ∙ long) in
    let own : AreParts (bundle_at args 0) (lanes n.type) (element_words a) (part_from b a n.type) (element_words n.type) y =
    subst (λ x. AreParts (bundle_at args 0) (lanes n.type) (element_words x) (part_from b x n.type) (element_words n.type) y) ea are in
    wire_built known s n (get_or n.args 0 0 ∷ []) (cond b first second) new rst at args (bundle_at args 0 ∷ []) y e one.0.is eg
    (part_nets new.cells n.type a (part_from b a n.type) (bundle_at args 0) y one.1 (argument_nets new.cells s n args 0 h low) own)
    (part_law known s n (get_or n.args 0 0) new rst at b (bundle_at args 0) y (subst (λ bundles. IsReady new.cells s n bundles) eg h) one.1 own)
