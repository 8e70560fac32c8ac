-- The words of each block of a program can be put on the inputs of its circuit.
use Rattle.std.proofs.Common.{ℕ, zero, suc, ◌≡◌, ◌+◌, ◌*◌, ◌<◌, false, List, [], ◌∷◌, ◌++◌, length, length-append, map, take, drop, flat_map, get_or, Some, slice_get, arith, refl, ap, sym, ◌∙◌, subst}
use Rattle.std.specs.List.{All}
use Rattle.std.proofs.lemmas.List.{take_all, take_at}
use Rattle.std.proofs.lemmas.List.Concat.{flat_map-cons}
use Rattle.std.proofs.lemmas.List.Sums.{sum_by-cons}
use Rattle.std.proofs.lemmas.Option.{slice_get_within, unwrap_or-slice_get}
use Rattle.std.specs.Prelude.{unwrap_or}
use Rattle.ae_word.specs.AtomTree.{atom_kinds}
use Rattle.ae_word.proofs.Sizes.{length-atom_kinds}
use Rattle.ae_seqtype.specs.SeqTree.{SeqTree, atom, atoms, kinds, repeated}
use Rattle.ae_seqtype.specs.ValueTree.{FitKinds, Stands, ValueTree, flat}
use Rattle.ae_seqtype.proofs.Sizes.{length-repeated}
use Rattle.ae_seqtype.proofs.Stands.{FitKinds-append, length-FitKinds, repeated-one}
use Rattle.ae_sttype.specs.declared.st_type.Slot.{Slot}
use Rattle.ae_sttype.specs.StTree.{StTree, element_atom, element_words, st_atoms}
use Rattle.ae_sttype.specs.Slots.{slots}
use Rattle.ae_sttype.specs.Moves.{first_column}
use Rattle.ae_netlist.specs.declared.cell.Port.{Port}
use Rattle.ae_netlist.specs.declared.cell.Port.TheVariants.{In, Reset}
use Rattle.ae_netlist.specs.Circuit.{Circuit}
use Rattle.ae_netlist.specs.Rows.{AreFirsts, AreInputs, HasOneRunWith, IsRunWith, filled}
use Rattle.ae_netlist.specs.Runs.{Clock, no_clock, word_at}
use Rattle.ae_netlist.proofs.Shapes.{clock_shaped}
use Rattle.ae_seq.specs.ProgramTree.{ProgramTree}
use Rattle.ae_eval.proofs.Items.{slice_get-take}
use Rattle.ae_rewrite.specs.Interface.{AreValues, parameter_types}
use Rattle.ae_ops.specs.Blocks.{stream_of, stream_widths}
use Rattle.ae_delay.specs.declared.own.OwnCosts.{OwnCosts}
use Rattle.ae_ports.specs.CircuitFor.{IsCircuitFor}
use Rattle.ae_ports.specs.Ports.{SizedPort, columns_in, input_cell, input_ports, reset_port, stream_ports, streams_of}
use Rattle.ae_ports.proofs.Columns.{first_columns}
use Rattle.ae_flow.proofs.MeaningLayouts.{AllLaidOut, LaysOut}
use Rattle.ae_play.specs.Fed.{blocks_of, clock_row, fed_rows, size_of, values_of}
use Rattle.ae_play.specs.Fits.{FitBlocks, value_kinds}
use Rattle.ae_play.specs.Fits as play
use Rattle.ae_correct.specs.Laws.{IsLaidOut}
use Rattle.ae_correct.proofs.FedRows.{length_rows, row_later, small_column, stands_in_row}
use Rattle.ae_correct.proofs.Laid.{ins_filling}
use Rattle.ae_correct.proofs.ModulePorts.{column_at, mapped_at}
use Rattle.ae_correct.proofs.Places.{port_there}
use Rattle.ae_compile.proofs.Inputs.{circuit_columns}
use Rattle.ae_stream.specs.Fed.{CanBeFed, ShowsClock}
use Rattle.ae_streamed.proofs.Within.{slot_in}
use Rattle.ae_channel.proofs.Asked.{has_first, has_reset}
use Rattle.ae_eval.proofs.Combining.{kinds-repeated as kinds_again}
use Rattle.ae_flow.proofs.MeaningProgram.{flat-stands as flat_stands}
use Rattle.ae_lower.proofs.Layouts.{as_many_values as as_long}
use Rattle.ae_correct.proofs.FedInputs.{count_first}

-- ---- the words of a value fit its type and its layout

kinds_laid : (t : SeqTree) (s : StTree) → LaysOut t s → kinds t ≡ value_kinds s
kinds_laid t s h = kinds_again t ∙ ap (λ a. repeated (atoms t) (atom_kinds a)) (sym h.atom) ∙ ap (λ k. repeated k (atom_kinds (element_atom s))) (sym h.atoms)

flat_fits : (t : SeqTree) (s : StTree) (ws : List ℕ) (v : ValueTree) → LaysOut t s → Stands t ws v → FitKinds (flat v) (value_kinds s)
flat_fits t s ws v l h = subst (λ xs. FitKinds xs (value_kinds s)) (sym (flat_stands t ws v h)) (subst (FitKinds ws) (kinds_laid t s l) h.fits)

flat_long : (t : SeqTree) (s : StTree) (ws : List ℕ) (v : ValueTree) → LaysOut t s → Stands t ws v → length (flat v) ≡ st_atoms s * element_words s
flat_long t s ws v l h =
    length-FitKinds (flat v) (value_kinds s) (flat_fits t s ws v l h)
    ∙ (length-repeated (st_atoms s) (atom_kinds (element_atom s)) ∙ ap (λ k. st_atoms s * k) (length-atom_kinds (element_atom s)))

-- ---- the words of a block

all_fit : (ts : List SeqTree) (ss : List StTree) (vs : List ValueTree) → AllLaidOut ts ss → AreValues ts vs
    → FitKinds (flat_map flat vs) (flat_map value_kinds ss)
all_fit [] [] [] l h = tt
all_fit [] [] (v ∷ vs) l h = absurd h
all_fit [] (s ∷ ss) vs l h = absurd l
all_fit (t ∷ ts) [] vs l h = absurd l
all_fit (t ∷ ts) (s ∷ ss) [] l h = absurd h
all_fit (t ∷ ts) (s ∷ ss) (v ∷ vs) l h =
    rw (flat_map-cons flat v vs, flat_map-cons value_kinds s ss)
    (FitKinds-append (flat v) (flat_map flat vs) (value_kinds s) (flat_map value_kinds ss) (flat_fits t s h.0.0 v l.0 h.0.1) (all_fit ts ss vs l.1 h.1))

all_long : (ts : List SeqTree) (ss : List StTree) (vs : List ValueTree) → AllLaidOut ts ss → AreValues ts vs → length (flat_map flat vs) ≡ size_of ss
all_long [] [] [] l h = refl
all_long [] [] (v ∷ vs) l h = absurd h
all_long [] (s ∷ ss) vs l h = absurd l
all_long (t ∷ ts) [] vs l h = absurd l
all_long (t ∷ ts) (s ∷ ss) [] l h = absurd h
all_long (t ∷ ts) (s ∷ ss) (v ∷ vs) l h =
    omega (
      arith,
      ap length (flat_map-cons flat v vs),
      length-append (flat v) (flat_map flat vs),
      flat_long t s h.0.0 v l.0 h.0.1,
      all_long ts ss vs l.1 h.1,
      sum_by-cons (λ (s : StTree). st_atoms s * element_words s) s ss,
    )

drop_at : {X : Type 0} (p q : List X) (n : ℕ) → length p ≡ n → drop n (p ++ q) ≡ q
drop_at [] q zero h = refl
drop_at [] q (suc n) h = absurd (omega (arith, h))
drop_at (x ∷ p) q zero h = absurd (omega (arith, h))
drop_at (x ∷ p) q (suc n) h = drop_at p q n (omega (arith, h))

values_are : (ts : List SeqTree) (ss : List StTree) (vs : List ValueTree) → AllLaidOut ts ss → AreValues ts vs → values_of ss (flat_map flat vs) ≡ map flat vs
values_are [] [] [] l h = refl
values_are [] [] (v ∷ vs) l h = absurd h
values_are [] (s ∷ ss) vs l h = absurd l
values_are (t ∷ ts) [] vs l h = absurd l
values_are (t ∷ ts) (s ∷ ss) [] l h = absurd h
values_are (t ∷ ts) (s ∷ ss) (v ∷ vs) l h =
    let long = flat_long t s h.0.0 v l.0 h.0.1 in
    ap (values_of (s ∷ ss)) (flat_map-cons flat v vs)
    ∙ ((λ i. take_at (flat v) (flat_map flat vs) (st_atoms s * element_words s) long i
    ∷ values_of ss (drop_at (flat v) (flat_map flat vs) (st_atoms s * element_words s) long i))
    ∙ ap (λ xs. flat v ∷ xs) (values_are ts ss vs l.1 h.1))

blocks_are : (ts : List SeqTree) (ss : List StTree) (vs : List ValueTree) → AllLaidOut ts ss → AreValues ts vs
    → blocks_of ss 1 (flat_map flat vs) ≡ map (map flat) (vs ∷ [])
blocks_are ts ss vs l h =
    let whole : take (size_of ss) (flat_map flat vs) ≡ flat_map flat vs = take_all (size_of ss) (flat_map flat vs) (omega (arith, all_long ts ss vs l h)) in
    (λ i. values_of ss (whole i) ∷ []) ∙ ap (λ xs. xs ∷ []) (values_are ts ss vs l h)

-- ---- the number of an input

module _ (p : ProgramTree) (slowdown : ℕ) (costs : OwnCosts) (ins outs : List StTree) (n : Circuit) (laid : IsLaidOut p slowdown ins outs)
    (c : IsCircuitFor p slowdown costs ins outs n)
    (all : AllLaidOut (parameter_types p) ins) (feeds : play.CanBeFed) (one : HasOneRunWith n.cells) (begins : AreFirsts n.cells (filled n.cells 0)) where
  abbrev given : List SizedPort
  given = reset_port ∷ input_ports (streams_of ins)

  first : take (length given) n.cells ≡ map input_cell given
  first = has_first p slowdown costs ins outs n c

  there : (k : ℕ) (port : SizedPort) → slice_get given k ≡ Some port → slice_get n.cells k ≡ Some (input_cell port)
  there k port found =
      let within : k < length given = slice_get_within given k port found in
      sym (slice_get-take (length given) k n.cells within) ∙ (ap (λ cs. slice_get cs k) first ∙ mapped_at input_cell given k port found)

  -- the port of a column
  at_column : (q column : ℕ) (s : StTree) → slice_get ins q ≡ Some s → column < length (stream_widths (stream_of s)) → (port : SizedPort)
      × (slice_get given (1 + (first_column ins q + column)) ≡ Some port)
  at_column q column s found small =
      let at : ℕ → ℕ → ℕ → Port = λ param lane word. In param lane word in
      let own = column_at 1 false (at q) s column small in
      let z : q ≡ 0 + q = omega arith in
      let here : slice_get (input_ports (streams_of ins)) (columns_in (take q (streams_of ins)) + column) ≡ Some own.port =
      port_there at 0 (streams_of ins) q column (stream_of s) own.port (mapped_at stream_of ins q s found)
      (ap (λ i. slice_get (stream_ports (at i) (stream_of s)) column) (sym z) ∙ own.here) in
      let place : 1 + (first_column ins q + column) ≡ suc (columns_in (take q (streams_of ins)) + column) = omega (arith, first_columns ins q) in
      (own.port, ap (slice_get given) place ∙ here)

  column_of : (q e j : ℕ) (s : StTree) (w : Slot) → slice_get ins q ≡ Some s → slice_get (slots s) e ≡ Some w → j < element_words s
      → w.lane * element_words s + j < length (stream_widths (stream_of s))
  column_of q e j s w found slot word =
      let f = ins_filling p slowdown ins outs laid q s found in
      small_column s w.lane j (slot_in s f.size.lengths e w slot).1 word

  module _ (block : List ValueTree) (values : AreValues (parameter_types p) block) (clock : ℕ) where
    abbrev blocks : List (List ValueTree)
    blocks = block ∷ []

    abbrev rows : List (List ℕ)
    rows = fed_rows slowdown 0 ins (map (map flat) blocks) (clock + 1)

    fit : All (AreInputs n.cells) rows
    fit =
        let ws : List ℕ = flat_map flat block in
        let blocks_fit : FitBlocks ins 1 ws = subst (FitKinds ws) (sym (repeated-one (flat_map value_kinds ins)))
        (all_fit (parameter_types p) ins block all values) in
        subst (λ bs. All (AreInputs n.cells) (fed_rows slowdown 0 ins bs (clock + 1))) (blocks_are (parameter_types p) ins block all values)
        (feeds n.cells slowdown 0 ins 1 ws (circuit_columns p slowdown costs ins outs n c) blocks_fit (clock + 1))

    run : List Clock
    run = (one rows (filled n.cells 0) fit begins).0

    is_run : IsRunWith n.cells rows (filled n.cells 0) run
    unfolding run
    is_run = (one rows (filled n.cells 0) fit begins).1

    long : length rows ≡ clock + 2
    long = (let m = length_rows slowdown 0 ins (map (map flat) blocks) (clock + 1) in omega (arith, m))

    -- what an input has in this clock
    word : (k : ℕ) (port : SizedPort) → slice_get given k ≡ Some port
        → word_at run (suc clock) k ≡ get_or (clock_row slowdown 0 ins (map (map flat) blocks) clock) k 0
    word k port found =
        let within : k < length given = slice_get_within given k port found in
        is_run.takes.each (suc clock) k (input_cell port) (omega (arith, long)) (there k port found) refl
        ∙ (ap (λ i. get_or (get_or rows (suc clock) []) i 0) (count_first n.cells given k first (omega (arith, within)))
        ∙ ap (λ (r : List ℕ). get_or r k 0) (row_later slowdown 0 ins (map (map flat) blocks) (clock + 1) clock (omega arith)))

    shown : ShowsClock n.cells ins block clock (unwrap_or (slice_get run (suc clock)) no_clock)
    unfolding word_at
    shown = record {
      shaped = rw (unwrap_or-slice_get run (suc clock) no_clock) (clock_shaped is_run.runs (suc clock) (omega (arith, is_run.long, long)));
      low = word 0 reset_port refl;
      words = λ q s e j w found slot small now.
          let f = ins_filling p slowdown ins outs laid q s found in
          let bounds = slot_in s f.size.lengths e w slot in
          let port = at_column q (w.lane * element_words s + j) s found (column_of q e j s w found slot small) in
          let place : 1 + (first_column ins q + (w.lane * element_words s + j)) ≡ suc
          (columns_in (take q (streams_of ins)) + (w.lane * element_words s + j)) = omega (arith, first_columns ins q) in
          let z : clock ≡ 0 * slowdown + w.clock = omega (arith, now) in
          word (1 + (first_column ins q + (w.lane * element_words s + j))) port.0 port.1
          ∙ ((λ i. get_or (clock_row slowdown 0 ins (map (map flat) blocks) (z i)) (place i) 0)
          ∙ stands_in_row slowdown 0 ins blocks (clock + 1) (ins_filling p slowdown ins outs laid) whole 0 q e j s w block refl found slot small bounds.0
          bounds.1);
    }
      where
        whole : (b : ℕ) (other : List ValueTree) → slice_get blocks b ≡ Some other → length other ≡ length ins
        whole zero other e = (let same : block ≡ other = cc in ap length (sym same) ∙ as_long (parameter_types p) ins block all values)
        whole (suc b) other e = cc

  pub can_be_fed : CanBeFed n.cells p ins
  can_be_fed = record {
    reset = record { width = 1; port = Reset; found = has_reset p slowdown costs ins outs n c };
    ins = λ q s e j w found slot small.
        let port = at_column q (w.lane * element_words s + j) s found (column_of q e j s w found slot small) in
        record { width = port.0.width; port = port.0.port; found = there (1 + (first_column ins q + (w.lane * element_words s + j))) port.0 port.1 };
    clocks = λ block values clock. (unwrap_or (slice_get (run block values clock) (suc clock)) no_clock, shown block values clock);
  }
