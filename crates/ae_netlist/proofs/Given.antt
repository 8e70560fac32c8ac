-- Rows of inputs and first words, laid out as clocks by net.
use Rattle.std.proofs.Common.{ℕ, ◌≡◌, ◌<◌, ◌%◌, ◌^◌, List, [], length, map, replicate, Some, slice_get, get_or, true, All, arith, refl, ap, sym, ◌∙◌}
use Rattle.std.specs.List.{range_with_len}
use Rattle.std.proofs.lemmas.Nat.{pow_pos}
use Rattle.std.proofs.lemmas.List.{get_or-map, length-map, length-replicate}
use Rattle.std.proofs.lemmas.List.Elements.{All-get_or, All-replicate}
use Rattle.std.proofs.lemmas.List.Sums.{length-filter}
use Rattle.std.proofs.lemmas.List.FromFn.{length-map-range_with_len, get_or-map-range_with_len}
use Rattle.std.proofs.lemmas.Option.{slice_get_within, get_or_from_slice_get}
use Rattle.ae_netlist.specs.declared.cell.Cell.{Cell}
use Rattle.ae_netlist.specs.declared.cell.Cell.TheVariants.{Input, Const, Op, Reg, Mem, Peek}
use Rattle.ae_netlist.specs.declared.cell.SizedCell.{SizedCell}
use Rattle.ae_netlist.specs.Circuit.{depth_in_cell, IsFormed}
use Rattle.ae_netlist.specs.Counts.{is_input, is_register, is_memory, number_of, cells_of}
use Rattle.ae_netlist.specs.Runs.{Clock, no_clock, word_at, store_at, CellHolds, IsShaped, AgreesAt, IsRunOn}
use Rattle.ae_netlist.specs.Rows.{AreInputs, Firsts, AreFirsts, filled, IsRunWith, HasOneRunWith}
use Rattle.ae_netlist.proofs.Counting.{filter_at}
use Rattle.ae_netlist.proofs.NextClock.{in_cell}
use Rattle.ae_netlist.proofs.ReadAt.{store_got, word_got}
use Rattle.ae_netlist.proofs.OneRun.{one_run}
use Rattle.ae_netlist.proofs.Shapes.{each_shaped, each_holds}

-- the word of a cell that may choose it
abbrev pub given_word : List SizedCell → Firsts → List ℕ → ℕ → Cell → ℕ
given_word cells firsts row n (Input port) = get_or row (number_of is_input cells n) 0
given_word cells firsts row n (Reg next) = get_or firsts.registers (number_of is_register cells n) 0
given_word cells firsts row n _ = 0

abbrev pub given_store : List SizedCell → Firsts → ℕ → Cell → List ℕ
given_store cells firsts n (Mem depth at next enable) = get_or firsts.memories (number_of is_memory cells n) []
given_store cells firsts n _ = []

abbrev pub word_in : List SizedCell → Firsts → List ℕ → ℕ → ℕ
word_in cells firsts row n = in_cell (slice_get cells n) 0 (given_word cells firsts row n)

abbrev pub store_in : List SizedCell → Firsts → ℕ → List ℕ
store_in cells firsts n = in_cell (slice_get cells n) [] (given_store cells firsts n)

abbrev given_clock : List SizedCell → Firsts → List ℕ → Clock
given_clock cells firsts row = record {
  words = map (word_in cells firsts row) (range_with_len 0 (length cells));
  stores = map (store_in cells firsts) (range_with_len 0 (length cells));
}

abbrev given : List SizedCell → Firsts → List (List ℕ) → List Clock
given cells firsts rows = map (given_clock cells firsts) rows

pub word_is : (cells : List SizedCell) (firsts : Firsts) (row : List ℕ) (n : ℕ) (sized : SizedCell) → slice_get cells n ≡ Some sized
    → get_or (given_clock cells firsts row).words n 0 ≡ given_word cells firsts row n sized.cell
word_is cells firsts row n sized h =
    get_or-map-range_with_len (word_in cells firsts row) 0 (length cells) n n 0 (slice_get_within cells n sized h) (omega arith)
    ∙ ap (λ o. in_cell o 0 (given_word cells firsts row n)) h

pub store_is : (cells : List SizedCell) (firsts : Firsts) (row : List ℕ) (n : ℕ) (sized : SizedCell) → slice_get cells n ≡ Some sized
    → get_or (given_clock cells firsts row).stores n [] ≡ given_store cells firsts n sized.cell
store_is cells firsts row n sized h =
    get_or-map-range_with_len (store_in cells firsts) 0 (length cells) n n [] (slice_get_within cells n sized h) (omega arith)
    ∙ ap (λ o. in_cell o [] (given_store cells firsts n)) h

clock_is : (cells : List SizedCell) (firsts : Firsts) (rows : List (List ℕ)) (t : ℕ) → t < length rows
    → get_or (given cells firsts rows) t no_clock ≡ given_clock cells firsts (get_or rows t [])
clock_is cells firsts rows t b = get_or-map (given_clock cells firsts) rows t [] no_clock b

word_given : (cells : List SizedCell) (firsts : Firsts) (rows : List (List ℕ)) (t n : ℕ) (sized : SizedCell) → t < length rows → slice_get cells n ≡ Some sized
    → word_at (given cells firsts rows) t n ≡ given_word cells firsts (get_or rows t []) n sized.cell
word_given cells firsts rows t n sized b h =
    rw (word_got (given cells firsts rows) t n, clock_is cells firsts rows t b) (word_is cells firsts (get_or rows t []) n sized h)

store_given : (cells : List SizedCell) (firsts : Firsts) (rows : List (List ℕ)) (t n : ℕ) (sized : SizedCell) → t < length rows → slice_get cells n ≡ Some sized
    → store_at (given cells firsts rows) t n ≡ given_store cells firsts n sized.cell
store_given cells firsts rows t n sized b h =
    rw (store_got (given cells firsts rows) t n, clock_is cells firsts rows t b) (store_is cells firsts (get_or rows t []) n sized h)

-- such clocks hold what their nets may hold
pub holds : (cells : List SizedCell) (firsts : Firsts) (row : List ℕ) (n width : ℕ) (cell : Cell) → AreInputs cells row → AreFirsts cells firsts
    → slice_get cells n ≡ Some (record { width = width; cell = cell })
    → CellHolds cell width (given_word cells firsts row n cell) (given_store cells firsts n cell)
holds cells firsts row n width (Input port) r f h =
    (r.fit (number_of is_input cells n) _ (filter_at (λ sized. is_input sized.cell) cells n _ h refl), refl)
holds cells firsts row n width (Const k) r f h = (pow_pos width, refl)
holds cells firsts row n width (Op op args) r f h = (pow_pos width, refl)
holds cells firsts row n width (Reg next) r f h =
    (f.words (number_of is_register cells n) _ (filter_at (λ sized. is_register sized.cell) cells n _ h refl), refl)
holds cells firsts row n width (Mem depth at next enable) r f h =
    let k : ℕ = number_of is_memory cells n in
    let found = filter_at (λ sized. is_memory sized.cell) cells n (record { width = width; cell = Mem depth at next enable }) h refl in
    (refl, f.depths k _ found, f.stores k _ found)
holds cells firsts row n width (Peek mem at) r f h = (pow_pos width, refl)

shaped : (cells : List SizedCell) (firsts : Firsts) (row : List ℕ) → AreInputs cells row → AreFirsts cells firsts
    → IsShaped cells (given_clock cells firsts row)
shaped cells firsts row r f = record {
  words = length-map-range_with_len (word_in cells firsts row) 0 (length cells);
  stores = length-map-range_with_len (store_in cells firsts) 0 (length cells);
  holds = each_holds cells (given_clock cells firsts row)
      (λ n sized h. rw (word_is cells firsts row n sized h, store_is cells firsts row n sized h) (holds cells firsts row n sized.width sized.cell r f h));
}

all_shaped : (cells : List SizedCell) (firsts : Firsts) (rows : List (List ℕ)) → All (AreInputs cells) rows → AreFirsts cells firsts
    → (t : ℕ) → t < length (given cells firsts rows) → IsShaped cells (get_or (given cells firsts rows) t no_clock)
all_shaped cells firsts rows r f t b =
    let l : t < length rows = omega (arith, length-map rows (given_clock cells firsts), b) in
    rw (clock_is cells firsts rows t l) (shaped cells firsts (get_or rows t []) (All-get_or (AreInputs cells) rows t [] l r) f)

-- a run on such clocks takes the rows and begins so
input_agrees : (cells : List SizedCell) (firsts : Firsts) (rows : List (List ℕ)) (run : List Clock) (t n width : ℕ) (cell : Cell) → is_input cell ≡ true
    → t < length rows
    → slice_get cells n ≡ Some (record { width = width; cell = cell }) → AgreesAt (given cells firsts rows) run t n cell
    → word_at run t n ≡ get_or (get_or rows t []) (number_of is_input cells n) 0
input_agrees cells firsts rows run t n width (Input port) is b h a = a ∙ word_given cells firsts rows t n _ b h
input_agrees cells firsts rows run t n width _ is b h a = cc

register_agrees : (cells : List SizedCell) (firsts : Firsts) (rows : List (List ℕ)) (run : List Clock) (n width : ℕ) (cell : Cell) → is_register cell ≡ true
    → 0 < length rows
    → slice_get cells n ≡ Some (record { width = width; cell = cell }) → AgreesAt (given cells firsts rows) run 0 n cell
    → word_at run 0 n ≡ get_or firsts.registers (number_of is_register cells n) 0
register_agrees cells firsts rows run n width (Reg next) is b h a = a refl ∙ word_given cells firsts rows 0 n _ b h
register_agrees cells firsts rows run n width _ is b h a = cc

memory_agrees : (cells : List SizedCell) (firsts : Firsts) (rows : List (List ℕ)) (run : List Clock) (n width : ℕ) (cell : Cell) → is_memory cell ≡ true
    → 0 < length rows
    → slice_get cells n ≡ Some (record { width = width; cell = cell }) → AgreesAt (given cells firsts rows) run 0 n cell
    → store_at run 0 n ≡ get_or firsts.memories (number_of is_memory cells n) []
memory_agrees cells firsts rows run n width (Mem depth at next enable) is b h a = a refl ∙ store_given cells firsts rows 0 n _ b h
memory_agrees cells firsts rows run n width _ is b h a = cc

run_with : (cells : List SizedCell) (firsts : Firsts) (rows : List (List ℕ)) (run : List Clock) → IsRunOn cells (given cells firsts rows) run
    → IsRunWith cells rows firsts run
run_with cells firsts rows run r =
    let long : length (given cells firsts rows) ≡ length rows = length-map rows (given_clock cells firsts) in
    let same : length run ≡ length (given cells firsts rows) = r.long in
    record {
      long = same ∙ long;
      runs = r.runs;
      takes = record {
        each = λ t n sized b h is. input_agrees cells firsts rows run t n sized.width sized.cell is b h
            (r.agrees.same t n sized (omega arith) h);
      };
      begins = record {
        registers = λ n sized b h is. register_agrees cells firsts rows run n sized.width sized.cell is (omega arith) h
            (r.agrees.same 0 n sized (omega arith) h);
        memories = λ n sized b h is. memory_agrees cells firsts rows run n sized.width sized.cell is (omega arith) h (r.agrees.same 0 n sized (omega arith) h);
      };
    }

-- and the other way round
agrees_with : (cells : List SizedCell) (firsts : Firsts) (rows : List (List ℕ)) (run : List Clock) (t n width : ℕ) (cell : Cell)
    → IsRunWith cells rows firsts run → t < length rows
    → slice_get cells n ≡ Some (record { width = width; cell = cell }) → AgreesAt (given cells firsts rows) run t n cell
agrees_with cells firsts rows run t n width (Input port) r b h = r.takes.each t n _ b h refl ∙ sym (word_given cells firsts rows t n _ b h)
agrees_with cells firsts rows run t n width (Const k) r b h = tt
agrees_with cells firsts rows run t n width (Op op args) r b h = tt
agrees_with cells firsts rows run t n width (Reg next) r b h = λ e.
    let l : 0 < length run = (let same : length run ≡ length rows = r.long in omega arith) in
    rw e (r.begins.registers n _ l h refl ∙ sym (word_given cells firsts rows 0 n _ (omega arith) h))
agrees_with cells firsts rows run t n width (Mem depth at next enable) r b h = λ e.
    let l : 0 < length run = (let same : length run ≡ length rows = r.long in omega arith) in
    rw e (r.begins.memories n _ l h refl ∙ sym (store_given cells firsts rows 0 n _ (omega arith) h))
agrees_with cells firsts rows run t n width (Peek mem at) r b h = tt

run_on : (cells : List SizedCell) (firsts : Firsts) (rows : List (List ℕ)) (run : List Clock) → IsRunWith cells rows firsts run
    → IsRunOn cells (given cells firsts rows) run
run_on cells firsts rows run r =
    let long : length (given cells firsts rows) ≡ length rows = length-map rows (given_clock cells firsts) in
    record {
      long = r.long ∙ sym long;
      runs = r.runs;
      agrees = record { same = λ t n sized b h. agrees_with cells firsts rows run t n sized.width sized.cell r (omega arith) h };
    }

pub one_run_with : (cells : List SizedCell) → IsFormed cells → HasOneRunWith cells
one_run_with cells formed = λ rows firsts r f.
    let one = one_run cells formed (given cells firsts rows) (each_shaped cells (given cells firsts rows) (all_shaped cells firsts rows r f)) in
    (one.0, run_with cells firsts rows one.0 one.1, λ other o. one.2 other (run_on cells firsts rows other o))

-- the words of a fill, by number
filled_at : {X : Type 0} (f : SizedCell → X) (cells : List SizedCell) (k : ℕ) (sized : SizedCell) (d : X) → slice_get cells k ≡ Some sized
    → get_or (map f cells) k d ≡ f sized
filled_at f cells k sized d h =
    get_or-map f cells k sized d (slice_get_within cells k sized h) ∙ ap f (get_or_from_slice_get cells k sized sized h)

pub fill_begins_so : (cells : List SizedCell) (fill : ℕ) → AreFirsts cells (filled cells fill)
fill_begins_so cells fill = record {
  registers = length-map (cells_of is_register cells) (λ sized. fill % 2 ^ sized.width) ∙ length-filter (λ sized. is_register sized.cell) cells;
  memories = length-map (cells_of is_memory cells) (λ sized. replicate (depth_in_cell sized.cell) (fill % 2 ^ sized.width)) ∙
      length-filter (λ sized. is_memory sized.cell) cells;
  words = λ k sized h. rw (filled_at (λ sized. fill % 2 ^ sized.width) (cells_of is_register cells) k sized 0 h) (fits sized.width);
  depths = λ k sized h. rw (filled_at (λ sized. replicate (depth_in_cell sized.cell) (fill % 2 ^ sized.width)) (cells_of is_memory cells) k sized [] h)
      (length-replicate (depth_in_cell sized.cell) (fill % 2 ^ sized.width));
  stores = λ k sized h. rw (filled_at (λ sized. replicate (depth_in_cell sized.cell) (fill % 2 ^ sized.width)) (cells_of is_memory cells) k sized [] h)
      (All-replicate (λ w. w < 2 ^ sized.width) (depth_in_cell sized.cell) (fill % 2 ^ sized.width) (fits sized.width));
}
  where
    fits : (w : ℕ) → fill % 2 ^ w < 2 ^ w
    fits w = let p = pow_pos w in omega arith
