-- Two circuits with the runs of one module are fed alike, and show the same words.
use Rattle.std.proofs.Common.{ℕ, ◌≡◌, ◌+◌, ◌<◌, ◌^◌, List, [], length, map, get_or, Option, None, Some, slice_get, arith, refl, ap, sym, ◌∙◌, subst}
use Rattle.std.specs.Prelude.{option_map}
use Rattle.std.proofs.lemmas.List.{length-map}
use Rattle.std.proofs.lemmas.List.Elements.{All-get_or}
use Rattle.std.proofs.lemmas.List.Sums.{length-filter}
use Rattle.std.proofs.lemmas.Option.{none-some, same_Some, slice_get-map}
use Rattle.ae_netlist.specs.declared.cell.SizedCell.{SizedCell}
use Rattle.ae_netlist.specs.Circuit.{Circuit}
use Rattle.ae_netlist.specs.Counts.{is_input, count_of, cells_of}
use Rattle.ae_netlist.specs.Rows.{AreInputs, filled}
use Rattle.ae_vmodule.specs.ModuleTree.{ModuleTree}
use Rattle.ae_runs.specs.SameRuns.{BeginAlike, HasSameRuns, HaveEqualOutputs}
use Rattle.ae_play.specs.Fed.{fed_rows}
use Rattle.ae_play.specs.Lines.{clock_count}
use Rattle.ae_correct.specs.Laws.{FeedsAreAlike, RunsAreAlike}
use Rattle.ae_correct.proofs.FedRows.{length_rows}
use Rattle.ae_correct.proofs.FirstWords.{begins, net_begins}
use Rattle.ae_correct.proofs.TakenRows.{input_widths, net_inputs}

-- ---- the inputs

abbrev widths_of : List SizedCell → List ℕ
widths_of cells = map (λ (x : SizedCell). x.width) (cells_of is_input cells)

same_widths : (m : ModuleTree) (a b : Circuit) → HasSameRuns m a → HasSameRuns m b → widths_of a.cells ≡ widths_of b.cells
same_widths m a b first second = sym (input_widths 0 a.cells) ∙ sym first.inputs ∙ second.inputs ∙ input_widths 0 b.cells

count_is : (cells : List SizedCell) → length (widths_of cells) ≡ count_of is_input cells
count_is cells = length-map (cells_of is_input cells) (λ (x : SizedCell). x.width) ∙ length-filter (λ (x : SizedCell). is_input x.cell) cells

-- a cell of this width
with_width : (o : Option SizedCell) (width : ℕ) → option_map (λ (x : SizedCell). x.width) o ≡ Some width → (sized : SizedCell) × (o ≡ Some sized)
    × (sized.width ≡ width)
with_width None width e = absurd (none-some width e)
with_width (Some sized) width e = (sized, refl, same_Some sized.width width e)

pub fed_alike : FeedsAreAlike
fed_alike m a b row of_a of_b fits =
    let wide : SizedCell → ℕ = λ x. x.width in
    let same : widths_of a.cells ≡ widths_of b.cells = same_widths m a b of_a of_b in
    record {
      long = fits.long ∙ sym (count_is a.cells) ∙ ap length same ∙ count_is b.cells;
      fit = λ k sized found.
          (let there : option_map wide (slice_get (cells_of is_input a.cells) k) ≡ Some sized.width =
          sym (slice_get-map wide (cells_of is_input a.cells) k) ∙ ap (λ ws. slice_get ws k) same ∙ slice_get-map wide (cells_of is_input b.cells) k ∙
          ap (option_map wide) found in
          let w = with_width (slice_get (cells_of is_input a.cells) k) sized.width there in
          subst (λ n. get_or row k 0 < 2 ^ n) w.2 (fits.fit k w.0 w.1));
    }

-- ---- the runs

-- each run of the one on blocks has a run of the other that shows the same words in each clock after reset
pub runs_alike : RunsAreAlike
runs_alike m a b slowdown latency fill ins blocks run of_a of_b once firsts fits runs =
    let count : ℕ = clock_count slowdown latency (length blocks) in
    let rows : List (List ℕ) = fed_rows slowdown fill ins blocks (clock_count slowdown latency (length blocks)) in
    let r = of_a.of_netlist run runs.runs in
    let o = once rows (filled b.cells fill) fits firsts in
    let long : length r.0 ≡ length rows = r.2.long ∙ runs.long in
    let counted : length rows ≡ 1 + count = length_rows slowdown fill ins blocks count in
    let alike : BeginAlike m b r.0 o.0 = record {
      long = long ∙ sym o.1.long;
      inputs = λ t below.
          (let within : t < length rows = omega (arith, below, long) in
          let here : AreInputs b.cells (get_or rows t []) = All-get_or (AreInputs b.cells) rows t [] within fits in
          r.2.inputs t below
          ∙ net_inputs a rows (filled a.cells fill) run t runs within (fed_alike m b a (get_or rows t []) of_b of_a here)
          ∙ sym (net_inputs b rows (filled b.cells fill) o.0 t o.1 within here));
      first = λ some.
          begins m a r.0 run fill of_a r.2 runs.begins some
          ∙ sym (net_begins m b o.0 fill of_b o.1.begins (omega (arith, some, long, o.1.long)));
    } in
    let equal : HaveEqualOutputs m b r.0 o.0 = of_b.equal r.0 o.0 r.1 o.1.runs alike in (
      o.0,
      o.1,
      λ c below. (let within : 1 + c < length r.0 = omega (arith, below, long, counted) in sym (r.3.outputs (1 + c) within) ∙
          equal.outputs (1 + c) within),
    )
