-- Node after node, and body after body.
use Rattle.std.proofs.Common.{ℕ, zero, suc, ◌≡◌, ◌+◌, ◌*◌, ◌<◌, ◌≤◌, inl, inr, List, [], ◌∷◌, ◌++◌, length, length-append, map, take, sum_by, get_or, Some, slice_get, arith, refl, ap, sym, ◌∙◌, subst}
use Rattle.std.specs.Option.{option_map}
use Rattle.std.proofs.lemmas.List.{get_or_append_left, length-map, length_push}
use Rattle.std.proofs.lemmas.Option.{get_or_from_slice_get, none-some, same_Some, slice_get-get_or, slice_get-map, slice_get_within, unwrap_or-slice_get}
use Rattle.ae_word.specs.AtomTree.{unsigned_word}
use Rattle.ae_sttype.specs.StTree.{StTree, atom, sseq}
use Rattle.ae_netlist.specs.declared.cell.NetId.{NetId}
use Rattle.ae_netlist.specs.declared.cell.SizedCell.{SizedCell}
use Rattle.ae_netlist.specs.Circuit.{Circuit, Extends}
use Rattle.ae_netlist.proofs.Gets.{get_push_cases}
use Rattle.ae_gates.proofs.Adding.{grows_refl}
use Rattle.ae_seq.specs.Typing.{grown}
use Rattle.ae_ops.specs.Waves.{AreNets, Wave, wave_of}
use Rattle.ae_ops.specs.Blocks.{AreBundles, AllHold, HoldsWords, Stream, stream_of, stream_widths}
use Rattle.ae_rewrite.specs.StProgramTree.{StFuncTree}
use Rattle.ae_rewrite.specs.Scheduled.{node_layouts}
use Rattle.ae_rewrite.specs.Sound.{item_layout, item_layouts}
use Rattle.ae_delay.specs.Costs.{NodeTiming}
use Rattle.ae_flow.specs.Flow.{Callee, callees, first_result, item_words, node_words, words_at}
use Rattle.ae_ports.specs.Ports.{streams_of}
use Rattle.ae_lower.specs.Growth.{AddsMulsAndMemories, GrowsBy, Spends}
use Rattle.ae_lower.specs.Lowering.{AreChosen, AreItems, AreStanding, IsItem, arrivals_in, instance_costs, lane_nets, timings_in}
use Rattle.ae_lower.proofs.Growing.{adds_trans, adds_up, by_trans, spends_trans, spends_up}
use Rattle.ae_lower.proofs.Delaying.{nets_grow}
use Rattle.ae_lower.proofs.NodeLaw.{item_grows}
use Rattle.ae_lower.proofs.BodyLaw.{AreLanes, more_lanes, no_lanes}
use Rattle.ae_lower.proofs.Costing.{input_arrival, sums_more}
use Rattle.ae_flow.proofs.Flowing.{many_words}

-- the first nodes of an instance are lowered
pub record AreLowered (instances : List StFuncTree) (k at rst : ℕ) (s : StFuncTree) (ins : List (List NetId)) (old new : Circuit) (j : ℕ)
    (items : List (List NetId)) : Type 0 where
  pub grows : GrowsBy old new (sum_by (λ (t : NodeTiming). t.load) (take j (timings_in instances k s)))
  pub have : AreItems new.cells rst at (callees (take k instances)) s (arrivals_in instances k s) ins (length s.ins + j) items

-- the first bodies are lowered
pub record AreSpread (instances : List StFuncTree) (m at rst copies : ℕ) (args : List (List NetId)) (old new : Circuit) (count : ℕ)
    (out : List NetId) : Type 0 where
  pub grows : GrowsBy old new (count * (instance_costs instances m).load)
  pub adds : AddsMulsAndMemories old new (count * (instance_costs instances m).muls) (count * (instance_costs instances m).mems)
  pub lanes : (f : StFuncTree) → slice_get instances m ≡ Some f
      → AreLanes new.cells rst at (callees (take m instances)) f (instance_costs instances m).latency copies args count out

pub bundles_grow : {a b : List SizedCell} (streams : List Stream) (bundles : List (List NetId)) → Extends a b → AreBundles a streams bundles
    → AreBundles b streams bundles
bundles_grow streams bundles g h = record { long = h.long; each = λ k s nets fs fn. nets_grow g (h.each k s nets fs fn) }

-- ---- parameters

none_layout : StTree
none_layout = sseq 0 (atom (unsigned_word 1))

hold_at : (k : ℕ) (xs : List StTree) (waves : List Wave) (vs : List (List ℕ)) (i : ℕ) (x : StTree) (w : Wave) → slice_get xs i ≡ Some x
    → slice_get waves i ≡ Some w → AllHold k (streams_of xs) waves vs → HoldsWords k (stream_of x) w (words_at vs i)
hold_at k [] waves vs i x w fx fw holds = absurd (none-some x fx)
hold_at k (y ∷ xs) [] vs i x w fx fw holds = absurd (none-some w fw)
hold_at k (y ∷ xs) (u ∷ waves) [] i x w fx fw holds = absurd holds
hold_at k (y ∷ xs) (u ∷ waves) (v ∷ vs) zero x w fx fw holds =
    subst (λ (z : Wave). HoldsWords k (stream_of x) z v) (same_Some u w fw) (subst (λ (z : StTree). HoldsWords k (stream_of z) u v) (same_Some y x fx) holds.0)
hold_at k (y ∷ xs) (u ∷ waves) (v ∷ vs) (suc i) x w fx fw holds = hold_at k xs waves vs i x w fx fw holds.1

grown_keeps : {A B : Type 0} (step : List B → A → B) (front : List B) (xs : List A) (i : ℕ) (d : B) → i < length front
    → get_or (grown step front xs) i d ≡ get_or front i d
grown_keeps step front [] i d h = refl
grown_keeps step front (x ∷ xs) i d h =
    grown_keeps step (front ++ step front x ∷ []) xs i d (omega (arith, length-append front (step front x ∷ []))) ∙
    get_or_append_left front (step front x ∷ []) d i h

param_item : (cells : List SizedCell) (rst at : ℕ) (known : List Callee) (s : StFuncTree) (ins : List (List NetId)) (i : ℕ) (nets : List NetId)
    → AreBundles cells (streams_of s.ins) ins → slice_get ins i ≡ Some nets → IsItem cells rst at known s ins 0 i nets
param_item cells rst at known s ins i nets h found =
    let inside : i < length s.ins = omega (arith, slice_get_within ins i nets found, h.long, length-map s.ins stream_of) in
    let x : StTree = get_or s.ins i none_layout in
    let fx : slice_get s.ins i ≡ Some x = slice_get-get_or s.ins i none_layout inside in
    let layout : item_layout (item_layouts s) i ≡ x = unwrap_or-slice_get (item_layouts s) i (sseq 0 (atom (unsigned_word 1))) ∙
    (get_or_append_left s.ins (node_layouts s.nodes) (sseq 0 (atom (unsigned_word 1))) i inside ∙
    get_or_from_slice_get s.ins i x (sseq 0 (atom (unsigned_word 1))) fx) in
    let fs : slice_get (streams_of s.ins) i ≡ Some (stream_of x) = slice_get-map stream_of s.ins i ∙ ap (option_map stream_of) fx in
    record {
      there = subst (λ (z : StTree). AreNets cells (stream_widths (stream_of z)) nets) (sym layout) (h.each i (stream_of x) nets fs found);
      law = λ all e run r start reset. record {
        makes = λ b vs ends words holds.
            let W : List NetId → Wave = wave_of run start in
            let fw : slice_get (map W ins) i ≡ Some (W nets) = slice_get-map W ins i ∙ ap (option_map W) found in
            let held = hold_at (at + b * s.budget) s.ins (map W ins) vs i x (W nets) fx fw holds in
            let own : words_at (item_words known s vs) i ≡ words_at vs i = grown_keeps (node_words known (item_layouts s)) vs s.nodes i []
            (omega (arith, inside, many_words s.ins vs words)) in
            let place : at + b * s.budget ≡ at + 0 + b * s.budget = omega arith in
            subst (λ (c : ℕ). HoldsWords c (stream_of (item_layout (item_layouts s) i)) (W nets) (words_at (item_words known s vs) i)) place
            (subst (λ (z : StTree). HoldsWords (at + b * s.budget) (stream_of z) (W nets) (words_at (item_words known s vs) i)) (sym layout)
            (subst (λ (ws : List ℕ). HoldsWords (at + b * s.budget) (stream_of x) (W nets) ws) (sym own) held));
      };
    }

-- ---- nodes

pub grows_none : (a : Circuit) (n : ℕ) → GrowsBy a a n
grows_none a n = record { grows = grows_refl a; cells = omega arith }

adds_none : (a : Circuit) → AddsMulsAndMemories a a 0 0
adds_none a = record { muls = omega arith; memories = omega arith; whole = λ h. h }

pub no_nodes : (instances : List StFuncTree) (k at rst : ℕ) (s : StFuncTree) (ins items : List (List NetId)) (old : Circuit)
    → AreBundles old.cells (streams_of s.ins) ins → items ≡ ins → AreLowered instances k at rst s ins old old 0 items
no_nodes instances k at rst s ins items old h same = subst (λ (xs : List (List NetId)). AreLowered instances k at rst s ins old old 0 xs) (sym same) (record {
  grows = grows_none old _;
  have = record {
    long = omega (arith, h.long, length-map s.ins stream_of);
    each = λ i nets found.
        let inside : i < length s.ins = omega (arith, slice_get_within ins i nets found, h.long, length-map s.ins stream_of) in
        subst (λ (d : ℕ). IsItem old.cells rst at (callees (take k instances)) s ins d i nets) (sym (input_arrival instances k s i inside))
        (param_item old.cells rst at (callees (take k instances)) s ins i nets h found);
  };
})

pub more_nodes : (instances : List StFuncTree) (k at rst : ℕ) (s : StFuncTree) (ins : List (List NetId)) (old mid new : Circuit) (j : ℕ)
    (items all : List (List NetId)) (made : List NetId) (t : NodeTiming)
    → slice_get (timings_in instances k s) j ≡ Some t → all ≡ items ++ made ∷ [] → GrowsBy mid new t.load
    → IsItem new.cells rst at (callees (take k instances)) s ins (get_or (arrivals_in instances k s) (length s.ins + j) 0) (length s.ins + j) made
    → AreLowered instances k at rst s ins old mid j items → AreLowered instances k at rst s ins old new (j + 1) all
more_nodes instances k at rst s ins old mid new j items all made t timing same grows own was =
    subst (λ (xs : List (List NetId)). AreLowered instances k at rst s ins old new (j + 1) xs) (sym same) (record {
      grows = by_trans _ (let e = sums_more (λ (x : NodeTiming). x.load) instances k j s t timing in omega (arith, e)) was.grows grows;
      have = record {
        long = omega (arith, length_push items made, was.have.long);
        each = λ i nets found. elim (get_push_cases items made i nets found) [
          | inl h ↦ item_grows rst at (callees (take k instances)) s ins (get_or (arrivals_in instances k s) i 0) i nets grows.grows.extends
              (was.have.each i nets h.0)
          | inr h ↦
              let place : length s.ins + j ≡ i = omega (arith, h.0, was.have.long) in
              subst (λ (ns : List NetId). IsItem new.cells rst at (callees (take k instances)) s ins (get_or (arrivals_in instances k s) i 0) i ns) h.1
              (subst (λ (q : ℕ). IsItem new.cells rst at (callees (take k instances)) s ins (get_or (arrivals_in instances k s) q 0) q made) place own)
        ];
      };
    })

-- the products and memories of the first nodes, where so many memories were left at first and are left now
abbrev pub HaveSpent : (instances : List StFuncTree) (k : ℕ) (s : StFuncTree) (old new : Circuit) (j most left : ℕ) → Type 0
HaveSpent instances k s old new j most left =
    Spends old new (sum_by (λ (t : NodeTiming). t.muls) (take j (timings_in instances k s)))
    (sum_by (λ (t : NodeTiming). t.mems) (take j (timings_in instances k s))) most left

pub more_spent : (instances : List StFuncTree) (k : ℕ) (s : StFuncTree) (old mid new : Circuit) (j most left less : ℕ) (t : NodeTiming)
    → slice_get (timings_in instances k s) j ≡ Some t → Spends mid new t.muls t.mems left less
    → HaveSpent instances k s old mid j most left → HaveSpent instances k s old new (j + 1) most less
more_spent instances k s old mid new j most left less t timing adds was =
    spends_up (sym (sums_more (λ (x : NodeTiming). x.muls) instances k j s t timing))
    (let e = sums_more (λ (x : NodeTiming). x.mems) instances k j s t timing in omega (arith, e)) (spends_trans was adds)

pub standing : (cells : List SizedCell) (rst at : ℕ) (known : List Callee) (s : StFuncTree) (arrivals : List ℕ) (ins : List (List NetId)) (count : ℕ)
    (items : List (List NetId)) → AreItems cells rst at known s arrivals ins count items → AreStanding cells s count items
standing cells rst at known s arrivals ins count items h = record { long = h.long; each = λ i nets found. (h.each i nets found).there }

-- ---- bodies

pub no_bodies : (instances : List StFuncTree) (m at rst copies : ℕ) (args : List (List NetId)) (old : Circuit) (out : List NetId) → out ≡ []
    → AreSpread instances m at rst copies args old old 0 out
no_bodies instances m at rst copies args old out same = subst (λ (ns : List NetId). AreSpread instances m at rst copies args old old 0 ns) (sym same) (record {
  grows = grows_none old _;
  adds = adds_up (let e : 0 ≡ 0 * (instance_costs instances m).muls = omega arith in e) (omega arith) (adds_none old);
  lanes = λ f found. no_lanes old.cells rst at (callees (take m instances)) f (instance_costs instances m).latency copies args;
})

more_of : (n k : ℕ) → n * k + k ≡ (n + 1) * k
more_of n k = omega arith

pub more_bodies : (instances : List StFuncTree) (m at rst copies : ℕ) (args results : List (List NetId)) (old mid new : Circuit) (count : ℕ)
    (out all first : List NetId) → ((f : StFuncTree) → slice_get instances m ≡ Some f → 1 ≤ length f.results)
    → all ≡ out ++ first → slice_get results 0 ≡ Some first → GrowsBy mid new (instance_costs instances m).load
    → AddsMulsAndMemories mid new (instance_costs instances m).muls (instance_costs instances m).mems
    → ((f : StFuncTree) → slice_get instances m ≡ Some f → AreChosen new.cells rst at (callees (take m instances)) f (map (lane_nets copies count) args)
    (instance_costs instances m).latency f.results results)
    → AreSpread instances m at rst copies args old mid count out → AreSpread instances m at rst copies args old new (count + 1) all
more_bodies instances m at rst copies args results old mid new count out all first some same head grows adds own was =
    subst (λ (ns : List NetId). AreSpread instances m at rst copies args old new (count + 1) ns) (sym same) (record {
      grows = by_trans _ (let e = more_of count (instance_costs instances m).load in omega (arith, e)) was.grows grows;
      adds = adds_up (more_of count (instance_costs instances m).muls) (let e = more_of count (instance_costs instances m).mems in omega (arith, e))
          (adds_trans was.adds adds);
      lanes = λ f found.
          let one : slice_get f.results 0 ≡ Some (first_result f) = slice_get-get_or f.results 0 0 (let l = some f found in omega arith) in
          more_lanes mid.cells new.cells rst at (callees (take m instances)) f
          (instance_costs instances m).latency copies args count out first grows.grows.extends
          ((own f found).each 0 (first_result f) first one head) (was.lanes f found);
    })

-- ---- as the code has it

pub head_of : (results : List (List NetId)) (head first : List NetId) → 1 ≤ length results → head ≡ get_or results 0 head → first ≡ head
    → slice_get results 0 ≡ Some first
head_of results head first some is same = slice_get-get_or results 0 head (omega arith) ∙ ap Some (sym is ∙ sym same)

pub lane_results : (instances : List StFuncTree) (m at given rst copies lane : ℕ) (args now own results : List (List NetId)) (cells : List SizedCell)
    → given ≡ rst → now ≡ own → own ≡ map (lane_nets copies lane) args
    → ((f : StFuncTree) → slice_get instances m ≡ Some f → AreChosen cells given at (callees (take m instances)) f now
    (instance_costs instances m).latency f.results results)
    → (f : StFuncTree) → slice_get instances m ≡ Some f → AreChosen cells rst at (callees (take m instances)) f (map (lane_nets copies lane) args)
    (instance_costs instances m).latency f.results results
lane_results instances m at given rst copies lane args now own results cells er en eo h f found =
    subst (λ (z : ℕ). AreChosen cells z at (callees (take m instances)) f (map (lane_nets copies lane) args)
    (instance_costs instances m).latency f.results results) er
    (subst (λ (xs : List (List NetId)). AreChosen cells given at (callees (take m instances)) f xs (instance_costs instances m).latency f.results results)
    (en ∙ eo) (h f found))
