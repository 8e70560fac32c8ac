-- Each result has the nets of its move, as late as the latest.
use Rattle.std.proofs.Common.{ℕ, ◌≡◌, ◌+◌, ◌-◌, ◌*◌, ◌≤◌, inl, inr, List, [], ◌∷◌, ◌++◌, length, length-append, map, take, sum_by, Some, slice_get, refl, arith, sym, ap, ◌∙◌, subst}
use Rattle.std.proofs.lemmas.Option.{same_Some}
use Rattle.ae_sttype.specs.StTree.{time}
use Rattle.ae_sttype.specs.Moves.{columns_of}
use Rattle.ae_netlist.specs.declared.cell.NetId.{NetId}
use Rattle.ae_netlist.specs.declared.cell.SizedCell.{SizedCell}
use Rattle.ae_netlist.specs.Circuit.{Circuit, Extends}
use Rattle.ae_netlist.specs.Counts.{AreWhole, count_of, is_memory, is_mul}
use Rattle.ae_netlist.proofs.Gets.{get_push_cases}
use Rattle.ae_netlist.proofs.Growing.{extends_trans}
use Rattle.ae_gates.specs.Cells.{Grows}
use Rattle.ae_gates.proofs.Adding.{grows_trans}
use Rattle.ae_ops.specs.Waves.{AreLate, AreNets, wave_of}
use Rattle.ae_ops.specs.Blocks.{BlockLaw, KeepsLaw, stream_of, stream_widths}
use Rattle.ae_moves.specs.Rings.{rings}
use Rattle.ae_moves.specs.Origins.{IsMove, Move, move_latency}
use Rattle.ae_moves.proofs.Lists.{sum_next}
use Rattle.ae_gather.specs.Gathers.{gather_part, origin_word}
use Rattle.ae_ports.specs.Ports.{streams_of}
use Rattle.ae_lower.specs.Growth.{AddsMulsAndMemories, GrowsBy}
use Rattle.ae_lower.specs.Parts.{IsWithin, plain_part}
use Rattle.ae_lower.proofs.Delaying.{nets_grow}
use Rattle.ae_lower.proofs.Following.{delayed}
use Rattle.ae_lower.proofs.NodeLaw.{law_grows}
use Rattle.ae_lower.proofs.Outputs.{columns_long}
use Rattle.ae_lower.proofs.Placing.{law_as}
use Rattle.ae_fuse.specs.Costing.{result_load, result_mems}
use Rattle.ae_fuse.specs.Lowered.{AreLateResults, IsLateResult, late_part}
use Rattle.ae_fold.proofs.Blocks.{slot_in}

-- ---- one result

pub within_time : (m : Move) → IsMove m → IsWithin (time m.out) (stream_of m.out)
within_time m h = record { clocks = λ e w at. (slot_in m.out e w h.out at).0 }

-- the cells of a move and of its delay
pub delay_small : (cells : List SizedCell) (m : Move) (whole : ℕ) (nets : List NetId) → AreNets cells (stream_widths (stream_of m.out)) nets
    → (gather_part m).most_cells + 16 * ((whole - move_latency m) * length nets) ≤ 16 * result_load whole m
delay_small cells m whole nets there =
    let long : length nets ≡ columns_of m.out = columns_long cells m.out nets there in
    let delay : (whole - move_latency m) * length nets ≡ (whole - move_latency m) * columns_of m.out = ap (λ n. (whole - move_latency m) * n) long in
    omega (arith, delay)

pub result_grows : (old mid new : Circuit) (m : Move) (whole : ℕ) (nets : List NetId) → move_latency m ≤ whole
    → AreNets mid.cells (stream_widths (stream_of m.out)) nets → Grows old mid → length mid.cells ≤ length old.cells + (gather_part m).most_cells
    → GrowsBy mid new ((whole - move_latency m) * length nets) → GrowsBy old new (result_load whole m)
result_grows old mid new m whole nets late there grows few more =
    let fits = delay_small mid.cells m whole nets there in
    record { grows = grows_trans grows more.grows; cells = (let c = more.cells in omega (arith, few, c, fits)) }

pub part_small : (m : Move) (whole : ℕ) → (gather_part m).most_cells ≤ 16 * result_load whole m
part_small m whole = omega arith

pub result_adds : (old mid new : Circuit) (m : Move) (whole : ℕ) (nets : List NetId) → AreNets mid.cells (stream_widths (stream_of m.out)) nets
    → count_of is_mul mid.cells ≡ count_of is_mul old.cells + 0 → count_of is_memory mid.cells ≤ count_of is_memory old.cells + (gather_part m).most_memories
    → (AreWhole old.cells → AreWhole mid.cells)
    → AddsMulsAndMemories mid new 0 (length nets * rings (whole - move_latency m)) → AddsMulsAndMemories old new 0 (result_mems whole m)
result_adds old mid new m whole nets there muls memories sound more =
    let delay : length nets * rings (whole - move_latency m) ≡ columns_of m.out * rings (whole - move_latency m) = ap (λ n. n * rings (whole - move_latency m))
    (columns_long mid.cells m.out nets there) in
    record { muls = omega (arith, muls, more.muls); memories = omega (arith, memories, more.memories, delay); whole = λ h. more.whole (sound h) }

-- the law of the move, so much later
pub result_late : (mid new : Circuit) (rst then_rst : ℕ) (m : Move) (whole : ℕ) (args : List (List NetId)) (nets late : List NetId) → IsMove m
    → move_latency m ≤ whole → then_rst ≡ rst → Extends mid.cells new.cells
    → AreNets mid.cells (stream_widths (stream_of m.out)) nets → KeepsLaw mid.cells rst 0 (gather_part m) args nets
    → AreNets new.cells (stream_widths (stream_of m.out)) late → AreLate new.cells then_rst (whole - move_latency m) nets late
    → IsLateResult new.cells rst whole m args late
result_late mid new rst then_rst m whole args nets late is le same up there law now lateness =
    let sum : move_latency m + (whole - move_latency m) ≡ whole = omega (arith, le) in
    let means : List (List ℕ) → List ℕ = λ vs. map (origin_word m.ins vs) m.origins in
    let shift : AreLate new.cells rst (whole - move_latency m) nets late = subst (λ r. AreLate new.cells r (whole - move_latency m) nets late) same lateness in
    record {
      there = now;
      law = λ all e run r start reset.
          (let waves = map (wave_of run start) args in
          let own = law all (extends_trans up e) run r start reset in
          let plain = law_as (length run - start) 0 (time m.out) (move_latency m) (streams_of m.ins) (stream_of m.out) means (gather_part m) waves
          (wave_of run start nets) refl refl refl refl (λ vs h. refl) own in
          let made = delayed (length run - start) 0 (time m.out) (move_latency m) (whole - move_latency m) (streams_of m.ins) (stream_of m.out) means waves
          (wave_of run start nets) (wave_of run start late) (within_time m is) (shift all e run r start reset) plain in
          subst (λ (d : ℕ). BlockLaw (length run - start) 0 (plain_part (time m.out) d (streams_of m.ins) (stream_of m.out) means) waves
          (wave_of run start late)) sum made);
    }

-- ---- one result more

result_later : {a b : List SizedCell} {rst whole : ℕ} {m : Move} {args : List (List NetId)} {nets : List NetId} → Extends a b
    → IsLateResult a rst whole m args nets → IsLateResult b rst whole m args nets
result_later {a} {b} {rst} {whole} {m} {args} {nets} up h =
    record { there = nets_grow up h.there; law = law_grows rst 0 (late_part whole m) args nets up h.law }

pub results_next : (mid new : Circuit) (rst then_rst whole : ℕ) (ms : List Move) (k : ℕ) (m : Move) (args bundles more : List (List NetId)) (nets : List NetId)
    → slice_get ms k ≡ Some m → then_rst ≡ rst → more ≡ bundles ++ nets ∷ [] → Extends mid.cells new.cells
    → AreLateResults mid.cells rst whole ms k args bundles → IsLateResult new.cells then_rst whole m args nets
    → AreLateResults new.cells rst whole ms (k + 1) args more
results_next mid new rst then_rst whole ms k m args bundles more nets found same is up was own =
    subst (AreLateResults new.cells rst whole ms (k + 1) args) (sym is) (record {
      long = length-append bundles (nets ∷ []) ∙ (let e : length bundles + 1 ≡ k + 1 = omega (arith, was.long) in e);
      each = λ r o ns f g. elim (get_push_cases bundles nets r ns g) [
        | inl old ↦ result_later up (was.each r o ns f old.0)
        | inr last ↦
            (let here : r ≡ k = last.0 ∙ was.long in
            let move : m ≡ o = same_Some m o (sym found ∙ ap (slice_get ms) (sym here) ∙ f) in
            let now : IsLateResult new.cells rst whole m args nets = subst (λ x. IsLateResult new.cells x whole m args nets) same own in
            subst (λ (x : Move). IsLateResult new.cells rst whole x args ns) move (subst (IsLateResult new.cells rst whole m args) last.1 now))
      ];
    })

pub load_next : (ms : List Move) (k whole : ℕ) (m : Move) → slice_get ms k ≡ Some m
    → sum_by (result_load whole) (take k ms) + result_load whole m ≤ sum_by (result_load whole) (take (k + 1) ms)
load_next ms k whole m found = omega (arith, sum_next (result_load whole) ms k m found)

pub mems_next : (ms : List Move) (k whole : ℕ) (m : Move) → slice_get ms k ≡ Some m
    → sum_by (result_mems whole) (take k ms) + result_mems whole m ≤ sum_by (result_mems whole) (take (k + 1) ms)
mems_next ms k whole m found = omega (arith, sum_next (result_mems whole) ms k m found)
