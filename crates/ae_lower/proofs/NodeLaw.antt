-- Items that wait keep their laws, and a node's law follows from those of its arguments.
use Rattle.std.proofs.Common.{ℕ, suc, ◌≡◌, ◌+◌, ◌-◌, ◌*◌, ◌<◌, List, [], ◌∷◌, length, length-append, map, get_or, Some, slice_get, arith, refl, ap, sym, ◌∙◌, subst}
use Rattle.std.proofs.lemmas.List.{length-map}
use Rattle.std.proofs.lemmas.Option.{get_or_from_slice_get, slice_get-get_or, slice_get_within}
use Rattle.ae_sttype.specs.StTree.{StTree, time}
use Rattle.ae_netlist.specs.declared.cell.NetId.{NetId}
use Rattle.ae_netlist.specs.declared.cell.SizedCell.{SizedCell}
use Rattle.ae_netlist.specs.Circuit.{Circuit, Extends}
use Rattle.ae_netlist.proofs.Growing.{extends_trans}
use Rattle.ae_ops.specs.Waves.{Wave, wave_of}
use Rattle.ae_ops.specs.Blocks.{Stream, Part, BlockLaw, AllAreWords, AreWords, HoldsWords, KeepsLaw, stream_of}
use Rattle.ae_rewrite.specs.StProgramTree.{StNodeTree, StFuncTree}
use Rattle.ae_rewrite.specs.Scheduled.{IsFilling, node_layouts}
use Rattle.ae_rewrite.specs.Sound.{item_layout, item_layouts}
use Rattle.ae_rewrite.proofs.Grown.{entry}
use Rattle.ae_flow.specs.Flow.{Callee, item_words, node_words, op_words, words_at}
use Rattle.ae_ports.specs.Ports.{streams_of}
use Rattle.ae_lower.specs.Parts.{plain_part, IsWithin, AllKeep, all_of}
use Rattle.ae_lower.specs.Growth.{IsBuilt}
use Rattle.ae_lower.specs.Nodes.{arguments_of, node_part}
use Rattle.ae_lower.specs.Delaying.{AreDelayed}
use Rattle.ae_lower.specs.Lowering.{AreChosen, AreItems, IsItem, item_part}
use Rattle.ae_lower.proofs.Delaying.{nets_grow}
use Rattle.ae_lower.proofs.Following.{delayed, followed}
use Rattle.ae_flow.proofs.Flowing.{many_words, node_layout}
use Rattle.ae_fold.proofs.Blocks.{slot_in}

-- ---- slots

pub within_budget : (budget : ℕ) (t : StTree) → IsFilling budget t → IsWithin budget (stream_of t)
within_budget budget t h = record { clocks = λ e w at. rw h.time at ((slot_in t e w h.size at).0) }

-- ---- laws in longer netlists, and of the same meaning

pub law_grows : {a b : List SizedCell} (rst at : ℕ) (p : Part) (ins : List (List NetId)) (out : List NetId) → Extends a b → KeepsLaw a rst at p ins out
    → KeepsLaw b rst at p ins out
law_grows rst at p ins out g h = λ all e run r. h all (extends_trans g e) run r

pub same_means : (clocks a t d : ℕ) (ins : List Stream) (out : Stream) (f g : List (List ℕ) → List ℕ) (waves : List Wave) (wave : Wave)
    → ((vs : List (List ℕ)) → AllAreWords ins vs → f vs ≡ g vs)
    → BlockLaw clocks a (plain_part t d ins out f) waves wave → BlockLaw clocks a (plain_part t d ins out g) waves wave
same_means clocks a t d ins out f g waves wave same law = record {
  makes = λ b vs ends words holds. subst (λ (ws : List ℕ). HoldsWords (a + d + b * t) out wave ws) (same vs words) (law.makes b vs ends words holds);
}

-- ---- items

pub item_grows : {a b : List SizedCell} (rst at : ℕ) (known : List Callee) (s : StFuncTree) (ins : List (List NetId)) (d i : ℕ) (nets : List NetId)
    → Extends a b → IsItem a rst at known s ins d i nets → IsItem b rst at known s ins d i nets
item_grows rst at known s ins d i nets g h = record { there = nets_grow g h.there; law = law_grows rst at (item_part known s d i) ins nets g h.law }

-- some items, all as late as the start
pub items_wait : (old new : List SizedCell) (rst at : ℕ) (known : List Callee) (s : StFuncTree) (arrivals : List ℕ) (ins : List (List NetId)) (count : ℕ)
    (items : List (List NetId)) (start : ℕ) (waits chosen : List ℕ) (bundles : List (List NetId))
    → Extends old new → ((i : ℕ) → i < count → IsFilling s.budget (item_layout (item_layouts s) i))
    → ((r i : ℕ) → slice_get chosen r ≡ Some i → i < count) → ((r i : ℕ) → slice_get chosen r ≡ Some i → get_or arrivals i 0 + get_or waits r 0 ≡ start)
    → AreItems old rst at known s arrivals ins count items → AreDelayed old new rst items waits chosen bundles
    → AreChosen new rst at known s ins start chosen bundles
items_wait old new rst at known s arrivals ins count items start waits chosen bundles g fill below in_time have late = record {
  long = late.long;
  each = λ r i nets fc fb.
      let low : i < count = below r i fc in
      let here : slice_get items i ≡ Some (get_or items i nets) = slice_get-get_or items i nets (let l : length items ≡ count = have.long in omega arith) in
      let one = have.each i (get_or items i nets) here in
      let moved = late.each r i (get_or items i nets) nets fc here fb in
      let out : Stream = stream_of (item_layout (item_layouts s) i) in
      let means : List (List ℕ) → List ℕ = λ vs. words_at (item_words known s vs) i in
      let a : ℕ = get_or arrivals i 0 in
      let w : ℕ = get_or waits r 0 in
      let sum : a + w ≡ start = in_time r i fc in
      record {
        there = moved.kept _ one.there;
        law = λ all e run r start_clock reset.
            let waves = map (wave_of run start_clock) ins in
            let made = delayed (length run - start_clock) at s.budget a w (streams_of s.ins) out means waves (wave_of run start_clock (get_or items i nets))
            (wave_of run start_clock nets)
            (within_budget s.budget (item_layout (item_layouts s) i) (fill i low)) (moved.is_late all e run r start_clock reset)
            (one.law all (extends_trans g e) run r start_clock reset) in
            subst (λ (d : ℕ). BlockLaw (length run - start_clock) at (plain_part s.budget d (streams_of s.ins) out means) waves (wave_of run start_clock nets))
            sum made;
      };
}

-- ---- the arguments of a node

-- what the items mean
abbrev pub meanings_at : List Callee → StFuncTree → List ℕ → List (List (List ℕ) → List ℕ)
meanings_at known s chosen = map (λ (i : ℕ) (vs : List (List ℕ)). words_at (item_words known s vs) i) chosen

all_meant : (known : List Callee) (s : StFuncTree) (vs : List (List ℕ)) (chosen : List ℕ)
    → all_of (meanings_at known s chosen) vs ≡ map (words_at (item_words known s vs)) chosen
all_meant known s vs [] = refl
all_meant known s vs (i ∷ is) = ap (λ xs. words_at (item_words known s vs) i ∷ xs) (all_meant known s vs is)

all_keep : (clocks at start : ℕ) (known : List Callee) (s : StFuncTree) (waves : List Wave) (wave : List NetId → Wave) (chosen : List ℕ)
    (bundles : List (List NetId)) → length bundles ≡ length chosen
    → ((r i : ℕ) (nets : List NetId) → slice_get chosen r ≡ Some i → slice_get bundles r ≡ Some nets
    → BlockLaw clocks at (item_part known s start i) waves (wave nets))
    → AllKeep clocks at s.budget start (streams_of s.ins) waves (streams_of (map (item_layout (item_layouts s)) chosen)) (meanings_at known s chosen)
    (map wave bundles)
all_keep clocks at start known s waves wave [] [] long each = tt
all_keep clocks at start known s waves wave [] (b ∷ bs) long each = absurd (omega arith)
all_keep clocks at start known s waves wave (i ∷ is) [] long each = absurd (omega arith)
all_keep clocks at start known s waves wave (i ∷ is) (b ∷ bs) long each =
    (each 0 i b refl refl, all_keep clocks at start known s waves wave is bs (omega arith) (λ r k nets fc fb. each (suc r) k nets fc fb))

all_words : (known : List Callee) (s : StFuncTree) (vs : List (List ℕ))
    → ((i : ℕ) → i < length (item_layouts s) → AreWords (stream_of (item_layout (item_layouts s) i)) (words_at (item_words known s vs) i))
    → (chosen : List ℕ) → ((r i : ℕ) → slice_get chosen r ≡ Some i → i < length (item_layouts s))
    → AllAreWords (streams_of (map (item_layout (item_layouts s)) chosen)) (all_of (meanings_at known s chosen) vs)
all_words known s vs fit [] below = tt
all_words known s vs fit (i ∷ is) below = (fit i (below 0 i refl), all_words known s vs fit is (λ r k f. below (suc r) k f))

-- ---- words of items

same_reads : (xs ys : List (List ℕ)) (chosen : List ℕ) → ((i : ℕ) (y : List ℕ) → slice_get xs i ≡ Some y → slice_get ys i ≡ Some y)
    → ((r i : ℕ) → slice_get chosen r ≡ Some i → i < length xs) → map (words_at xs) chosen ≡ map (words_at ys) chosen
same_reads xs ys [] same below = refl
same_reads xs ys (i ∷ is) same below =
    let there : slice_get xs i ≡ Some (get_or xs i []) = slice_get-get_or xs i [] (below 0 i refl) in
    let one : words_at ys i ≡ words_at xs i = get_or_from_slice_get ys i (get_or xs i []) [] (same i (get_or xs i []) there) in
    ap (λ w. w ∷ map (words_at xs) is) (sym one) ∙ ap (λ ws. words_at ys i ∷ ws) (same_reads xs ys is same (λ r k f. below (suc r) k f))

-- the words of a node's item are those that its operator makes of its arguments'
pub node_item_words : (known : List Callee) (s : StFuncTree) (j : ℕ) (n : StNodeTree) (vs : List (List ℕ)) → slice_get s.nodes j ≡ Some n
    → AllAreWords (streams_of s.ins) vs → ((r i : ℕ) → slice_get n.args r ≡ Some i → i < length s.ins + j)
    → op_words known (arguments_of s n) n.type n.op (all_of (meanings_at known s n.args) vs) ≡ words_at (item_words known s vs) (length s.ins + j)
node_item_words known s j n vs at fit below =
    let step = node_words known (item_layouts s) in
    let many : length vs ≡ length s.ins = many_words s.ins vs fit in
    let e = entry step vs s.nodes j n at in
    let place : length vs + j ≡ length s.ins + j = omega arith in
    let long : length e.before ≡ length vs + j = e.long in
    let is : words_at (item_words known s vs) (length s.ins + j) ≡ step e.before n = get_or_from_slice_get (item_words known s vs) (length s.ins + j)
    (step e.before n) [] (rw place at e.is) in
    let args : all_of (meanings_at known s n.args) vs ≡ map (words_at e.before) n.args =
    all_meant known s vs n.args ∙ sym (same_reads e.before (item_words known s vs) n.args e.same
    (λ r i f. (let l : i < length s.ins + j = below r i f in omega arith))) in
    ap (op_words known (arguments_of s n) n.type n.op) args ∙ sym is

-- a node behind its arguments
pub node_item : (old new : Circuit) (rst at start L : ℕ) (known : List Callee) (s : StFuncTree) (j : ℕ) (n : StNodeTree) (ins args : List (List NetId))
    (y : List NetId)
    → ((vs : List (List ℕ)) → AllAreWords (streams_of s.ins) vs → (i : ℕ) → i < length (item_layouts s)
    → AreWords (stream_of (item_layout (item_layouts s) i)) (words_at (item_words known s vs) i))
    → Extends old.cells new.cells → slice_get s.nodes j ≡ Some n → ((r i : ℕ) → slice_get n.args r ≡ Some i → i < length s.ins + j)
    → AreChosen old.cells rst at known s ins start n.args args → IsBuilt new rst (at + start) (node_part known L s n) args y
    → IsItem new.cells rst at known s ins (start + L) (length s.ins + j) y
node_item old new rst at start L known s j n ins args y fits g found below chosen built =
    let there : j < length s.nodes = slice_get_within s.nodes j n found in
    let all : length (item_layouts s) ≡ length s.ins + length
    s.nodes = omega (arith, length-append s.ins (node_layouts s.nodes), length-map s.nodes (λ (x : StNodeTree). x.type)) in
    let layout : item_layout (item_layouts s) (length s.ins + j) ≡ n.type = node_layout s j n found in
    record {
      there = rw layout built.nets;
      law = λ cells e run r start_clock reset.
          let clocks : ℕ = length run - start_clock in
          let waves = map (wave_of run start_clock) ins in
          let ms = meanings_at known s n.args in
          let keep = all_keep clocks at start known s waves (wave_of run start_clock) n.args args chosen.long
          (λ k i nets fc fb. (chosen.each k i nets fc fb).law cells (extends_trans g e) run r start_clock reset) in
          let typed : (vs : List (List ℕ)) → AllAreWords (streams_of s.ins) vs
          → AllAreWords (streams_of (arguments_of s n)) (all_of ms vs) = λ vs own. all_words known s vs (fits vs own) n.args
          (λ k i f. (let l : i < length s.ins + j = below k i f in omega arith)) in
          let made = followed clocks at start (node_part known L s n) (streams_of s.ins) waves ms (map (wave_of run start_clock) args)
          (wave_of run start_clock y) typed keep (built.law cells e run r start_clock reset) in
          rw layout (same_means clocks at s.budget (start + L) (streams_of s.ins) (stream_of n.type) _
          (λ vs. words_at (item_words known s vs) (length s.ins + j)) waves (wave_of run start_clock y)
          (λ vs own. node_item_words known s j n vs found own below) made);
    }
