-- For any inputs and first words there is exactly one run.
use Rattle.std.proofs.Common.{ℕ, zero, suc, ◌≡◌, ◌+◌, ◌<◌, List, [], ◌∷◌, length, Option, Some, None, slice_get, get_or, arith, refl, ap, sym, ◌∙◌, add-one}
use Rattle.std.proofs.lemmas.List.{ext_get_or}
use Rattle.std.proofs.lemmas.Option.{slice_get-get_or, unwrap_or-slice_get}
use Rattle.ae_netlist.specs.declared.cell.Cell.{Cell}
use Rattle.ae_netlist.specs.declared.cell.Cell.TheVariants.{Input, Const, Op, Reg, Mem, Peek}
use Rattle.ae_netlist.specs.declared.cell.SizedCell.{SizedCell}
use Rattle.ae_netlist.specs.Circuit.{IsFormed, operand}
use Rattle.ae_netlist.specs.Runs.{Clock, no_clock, word_at, CellHolds, Settles, Steps, IsShaped, AgreesAt, IsRunOn, HasOneRun}
use Rattle.ae_netlist.proofs.Gets.{get_from_take}
use Rattle.ae_netlist.proofs.ReadAt.{store_got, word_got}
use Rattle.ae_netlist.proofs.Settled.{cell_word, IsSettled, settled_once}
use Rattle.ae_netlist.proofs.NextClock.{free_word, stepped_store, in_cell, free_in, store_in, next_clock, IsShapedIfAny, IsNext, next_at, next_shaped}
use Rattle.ae_netlist.proofs.Shapes.{clock_shaped, each_shaped, cell_holds}

abbrev IsFree : Cell → Type 0
IsFree (Input port) = Unit {0}
IsFree (Const k) = ⊥
IsFree (Op op args) = ⊥
IsFree (Reg next) = Unit {0}
IsFree (Mem depth at next enable) = ⊥
IsFree (Peek mem at) = ⊥

-- the run, clock by clock
abbrev pub run_on : List SizedCell → Option Clock → List Clock → List Clock
run_on cells prev [] = []
run_on cells prev (g ∷ gs) = next_clock cells prev g ∷ run_on cells (Some (next_clock cells prev g)) gs

-- the clock before a clock of a run
abbrev pub before : Option Clock → List Clock → ℕ → Option Clock
before prev run zero = prev
before prev run (suc t) = Some (get_or run t no_clock)

-- each clock of a list is the next one
abbrev GoesOn : List SizedCell → Option Clock → List Clock → List Clock → Type 0
GoesOn cells prev gs run = (t : ℕ) → t < length gs → get_or run t no_clock ≡ next_clock cells (before prev run t) (get_or gs t no_clock)

run_length : (cells : List SizedCell) (prev : Option Clock) (gs : List Clock) → length (run_on cells prev gs) ≡ length gs
run_length cells prev [] = refl
run_length cells prev (g ∷ gs) = ap suc (run_length cells (Some (next_clock cells prev g)) gs)

before_cons : (prev : Option Clock) (k : Clock) (run : List Clock) (t : ℕ) → before (Some k) run t ≡ before prev (k ∷ run) (suc t)
before_cons prev k run zero = refl
before_cons prev k run (suc t) = refl

run_goes_on : (cells : List SizedCell) (prev : Option Clock) (gs : List Clock) → GoesOn cells prev gs (run_on cells prev gs)
run_goes_on cells prev [] t h = absurd (omega arith)
run_goes_on cells prev (g ∷ gs) zero h = refl
run_goes_on cells prev (g ∷ gs) (suc t) h =
    let k : Clock = next_clock cells prev g in
    rw (← before_cons prev k (run_on cells (Some k) gs) t) (run_goes_on cells (Some k) gs t (omega arith))

-- nothing else goes on so
only_one : (cells : List SizedCell) (prev : Option Clock) (gs run : List Clock) → length run ≡ length gs → GoesOn cells prev gs run → run ≡ run_on cells prev gs
only_one cells prev [] [] l h = refl
only_one cells prev [] (k ∷ run) l h = absurd (omega arith)
only_one cells prev (g ∷ gs) [] l h = absurd (omega arith)
only_one cells prev (g ∷ gs) (k ∷ run) l h =
    let first : k ≡ next_clock cells prev g = h zero (omega arith) in
    let rest : run ≡ run_on cells (Some k) gs =
    only_one cells (Some k) gs run (omega arith) (λ t b. rw (before_cons prev k run t) (h (suc t) (omega arith))) in
    rw rest (rw first refl)

abbrev IsGiven : List SizedCell → List Clock → Type 0
IsGiven cells given = (t : ℕ) → t < length given → IsShaped cells (get_or given t no_clock)

-- every clock of such a list is shaped
all_shaped : (cells : List SizedCell) (given run : List Clock) → IsFormed cells → ((t : ℕ) → t < length given → IsShaped cells (get_or given t no_clock))
    → GoesOn cells None given run → (t : ℕ) → t < length given → IsShaped cells (get_or run t no_clock)
all_shaped cells given run formed shaped h zero b =
    rw (h zero b) (next_shaped cells None (get_or given zero no_clock) formed tt (shaped zero b))
all_shaped cells given run formed shaped h (suc t) b =
    rw (h (suc t) b) (next_shaped cells (Some (get_or run t no_clock)) (get_or given (suc t) no_clock) formed
    (all_shaped cells given run formed shaped h t (omega arith)) (shaped (suc t) b))

-- what stands at a sized of a list that goes on
goes_at : (cells : List SizedCell) (given run : List Clock) (t n : ℕ) (sized : SizedCell) → IsFormed cells → GoesOn cells None given run → t < length given
    → slice_get cells n ≡ Some sized → IsNext cells (before None run t) (get_or given t no_clock) (get_or run t no_clock) n sized
goes_at cells given run t n sized formed h b found =
    rw (h t b) (next_at cells (before None run t) (get_or given t no_clock) n sized formed found)

-- so it settles
settles_at : (cells : List SizedCell) (given run : List Clock) (t n width : ℕ) (cell : Cell) → IsFormed cells → GoesOn cells None given run → t < length given
    → slice_get cells n ≡ Some (record { width = width; cell = cell }) → Settles cells run t n cell
settles_at cells given run t n width (Input port) formed h b found = tt
settles_at cells given run t n width (Reg next) formed h b found = tt
settles_at cells given run t n width (Mem depth at next enable) formed h b found = tt
settles_at cells given run t n width (Const k) formed h b found =
    word_got run t n ∙ (goes_at cells given run t n (record { width = width; cell = Const k }) formed h b found).word
settles_at cells given run t n width (Op op args) formed h b found =
    rw (word_got run t n, word_got run t (operand args 0), word_got run t (operand args 1), word_got run t (operand args 2))
    (goes_at cells given run t n (record { width = width; cell = Op op args }) formed h b found).word
settles_at cells given run t n width (Peek mem at) formed h b found =
    let fits = (formed.each n (record { width = width; cell = Peek mem at }) found).cell in
    let kept : SizedCell = record { width = width; cell = Mem fits.depth fits.memory.at fits.memory.next fits.memory.enable } in
    let m : slice_get cells mem.0 ≡ Some kept = get_from_take cells n mem.0 kept fits.memory.found in
    let prev : Option Clock = before None run t in
    let g : Clock = get_or given t no_clock in
    let here = goes_at cells given run t n (record { width = width; cell = Peek mem at }) formed h b found in
    let there = goes_at cells given run t mem.0 kept formed h b m in
    rw (
      word_got run t n,
      word_got run t at.0,
      store_got run t mem.0,
      unwrap_or-slice_get (get_or (get_or run t no_clock).stores mem.0 []) (get_or (get_or run t no_clock).words at.0 0) 0,
    ) (here.word
    ∙ ap (λ (s : List ℕ). get_or s (get_or (get_or run t no_clock).words at.0 0) 0)
    (ap (λ (o : Option SizedCell). in_cell o [] (stepped_store prev g mem.0)) m ∙ sym there.store))

-- and it steps
steps_at : (cells : List SizedCell) (given run : List Clock) (t n width : ℕ) (cell : Cell) → IsFormed cells → GoesOn cells None given run
    → t + 1 < length given → slice_get cells n ≡ Some (record { width = width; cell = cell }) → Steps run t n cell
steps_at cells given run t n width (Input port) formed h b found = tt
steps_at cells given run t n width (Const k) formed h b found = tt
steps_at cells given run t n width (Op op args) formed h b found = tt
steps_at cells given run t n width (Peek mem at) formed h b found = tt
steps_at cells given run t n width (Reg next) formed h b found =
    let here = goes_at cells given run (suc t) n (record { width = width; cell = Reg next }) formed h (omega arith) found in
    let g : Clock = get_or given (suc t) no_clock in
    rw (add-one, word_got run (suc t) n, word_got run t next.0)
    (here.word ∙ ap (λ (o : Option SizedCell). in_cell o 0 (free_word (Some (get_or run t no_clock)) g n)) found)
steps_at cells given run t n width (Mem depth at next enable) formed h b found =
    let here = goes_at cells given run (suc t) n (record { width = width; cell = Mem depth at next enable }) formed h (omega arith) found in
    rw (add-one, store_got run (suc t) n, store_got run t n, word_got run t enable.0, word_got run t at.0, word_got run t next.0) here.store

agrees_at : (cells : List SizedCell) (given run : List Clock) (t n width : ℕ) (cell : Cell) → IsFormed cells → GoesOn cells None given run → t < length given
    → slice_get cells n ≡ Some (record { width = width; cell = cell }) → AgreesAt given run t n cell
agrees_at cells given run t n width (Const k) formed h b found = tt
agrees_at cells given run t n width (Op op args) formed h b found = tt
agrees_at cells given run t n width (Peek mem at) formed h b found = tt
agrees_at cells given run zero n width (Input port) formed h b found =
    let here = goes_at cells given run zero n (record { width = width; cell = Input port }) formed h b found in
    rw (word_got run zero n, word_got given zero n) (here.word ∙
    ap (λ (o : Option SizedCell). in_cell o 0 (free_word None (get_or given zero no_clock) n)) found)
agrees_at cells given run (suc t) n width (Input port) formed h b found =
    let here = goes_at cells given run (suc t) n (record { width = width; cell = Input port }) formed h b found in
    rw (word_got run (suc t) n, word_got given (suc t) n)
    (here.word ∙ ap (λ (o : Option SizedCell). in_cell o 0 (free_word (Some (get_or run t no_clock)) (get_or given (suc t) no_clock) n)) found)
agrees_at cells given run zero n width (Reg next) formed h b found = λ e.
    let here = goes_at cells given run zero n (record { width = width; cell = Reg next }) formed h b found in
    rw (word_got run zero n, word_got given zero n) (here.word ∙
    ap (λ (o : Option SizedCell). in_cell o 0 (free_word None (get_or given zero no_clock) n)) found)
agrees_at cells given run (suc t) n width (Reg next) formed h b found = λ e. absurd (omega arith)
agrees_at cells given run zero n width (Mem depth at next enable) formed h b found = λ e.
    let here = goes_at cells given run zero n (record { width = width; cell = Mem depth at next enable }) formed h b found in
    rw (store_got run zero n, store_got given zero n) here.store
agrees_at cells given run (suc t) n width (Mem depth at next enable) formed h b found = λ e. absurd (omega arith)

made_run : (cells : List SizedCell) (given : List Clock) → IsFormed cells → IsGiven cells given → IsRunOn cells given (run_on cells None given)
made_run cells given formed shaped =
    let run : List Clock = run_on cells None given in
    let long : length run ≡ length given = run_length cells None given in
    let h : GoesOn cells None given run = run_goes_on cells None given in
    record {
      long = long;
      runs = record {
        shaped = each_shaped cells run (λ t b. all_shaped cells given run formed shaped h t (omega arith));
        settles = λ t n sized b found. settles_at cells given run t n sized.width sized.cell formed h (omega arith) found;
        steps = λ t n sized b found. steps_at cells given run t n sized.width sized.cell formed h (omega arith) found;
      };
      agrees = record { same = λ t n sized b found. agrees_at cells given run t n sized.width sized.cell formed h b found };
    }

-- the words that a run may choose are those given, or follow from the clock before
free_is : (cells : List SizedCell) (given run : List Clock) (t n width : ℕ) (cell : Cell) → IsRunOn cells given run → t < length given
    → slice_get cells n ≡ Some (record { width = width; cell = cell }) → IsFree cell
    → word_at run t n ≡ free_word (before None run t) (get_or given t no_clock) n cell
free_is cells given run zero n width (Input port) r b found f = r.agrees.same zero n _ b found ∙ word_got given zero n
free_is cells given run (suc t) n width (Input port) r b found f = r.agrees.same (suc t) n _ b found ∙ word_got given (suc t) n
free_is cells given run zero n width (Reg next) r b found f = r.agrees.same zero n _ b found refl ∙ word_got given zero n
free_is cells given run (suc t) n width (Reg next) r b found f =
    let l : t + 1 < length run = (let e : length run ≡ length given = r.long in omega arith) in
    (rw add-one at (r.runs.steps t n (record { width = width; cell = Reg next }) l found)) ∙ word_got run t next.0
free_is cells given run t n width (Const k) r b found f = absurd f
free_is cells given run t n width (Op op args) r b found f = absurd f
free_is cells given run t n width (Mem depth at next enable) r b found f = absurd f
free_is cells given run t n width (Peek mem at) r b found f = absurd f

-- so does what stands in each store
shape_at : (cells : List SizedCell) (given run : List Clock) (t n : ℕ) (sized : SizedCell) → IsRunOn cells given run → t < length given
    → slice_get cells n ≡ Some sized → CellHolds sized.cell sized.width (get_or (get_or run t no_clock).words n 0) (get_or (get_or run t no_clock).stores n [])
shape_at cells given run t n sized r b found =
    cell_holds (clock_shaped r.runs t (let e : length run ≡ length given = r.long in omega arith)) n sized found

store_is : (cells : List SizedCell) (given run : List Clock) (t n width : ℕ) (cell : Cell) → IsGiven cells given → IsRunOn cells given run → t < length given
    → slice_get cells n ≡ Some (record { width = width; cell = cell })
    → get_or (get_or run t no_clock).stores n [] ≡ stepped_store (before None run t) (get_or given t no_clock) n cell
store_is cells given run zero n width (Input port) s r b found = (shape_at cells given run zero n _ r b found).1 ∙ sym (cell_holds (s zero b) n _ found).1
store_is cells given run zero n width (Const k) s r b found = (shape_at cells given run zero n _ r b found).1 ∙ sym (cell_holds (s zero b) n _ found).1
store_is cells given run zero n width (Op op args) s r b found = (shape_at cells given run zero n _ r b found).1 ∙ sym (cell_holds (s zero b) n _ found).1
store_is cells given run zero n width (Reg next) s r b found = (shape_at cells given run zero n _ r b found).1 ∙ sym (cell_holds (s zero b) n _ found).1
store_is cells given run zero n width (Peek mem at) s r b found = (shape_at cells given run zero n _ r b found).1 ∙ sym (cell_holds (s zero b) n _ found).1
store_is cells given run zero n width (Mem depth at next enable) s r b found =
    sym (store_got run zero n) ∙ (r.agrees.same zero n _ b found refl ∙ store_got given zero n)
store_is cells given run (suc t) n width (Input port) s r b found = (shape_at cells given run (suc t) n _ r b found).1
store_is cells given run (suc t) n width (Const k) s r b found = (shape_at cells given run (suc t) n _ r b found).1
store_is cells given run (suc t) n width (Op op args) s r b found = (shape_at cells given run (suc t) n _ r b found).1
store_is cells given run (suc t) n width (Reg next) s r b found = (shape_at cells given run (suc t) n _ r b found).1
store_is cells given run (suc t) n width (Peek mem at) s r b found = (shape_at cells given run (suc t) n _ r b found).1
store_is cells given run (suc t) n width (Mem depth at next enable) s r b found =
    let l : t + 1 < length run = (let e : length run ≡ length given = r.long in omega arith) in
    rw (add-one, store_got run (suc t) n, store_got run t n, word_got run t enable.0, word_got run t at.0, word_got run t next.0) at
    (r.runs.steps t n (record { width = width; cell = Mem depth at next enable }) l found)

-- a run meets, in each clock, the equations by which the next clock is made
word_is : (cells : List SizedCell) (given run : List Clock) (t n width : ℕ) (cell : Cell) → IsFormed cells → IsGiven cells given → IsRunOn cells given run
    → t < length given → slice_get cells n ≡ Some (record { width = width; cell = cell })
    → get_or (get_or run t no_clock).words n 0 ≡ cell_word cells (free_in cells (before None run t) (get_or given t no_clock))
    (store_in cells (before None run t) (get_or given t no_clock)) (get_or run t no_clock).words n cell
word_is cells given run t n width (Input port) formed s r b found =
    sym (word_got run t n) ∙ free_is cells given run t n width (Input port) r b found tt ∙
    ap (λ (o : Option SizedCell). in_cell o 0 (free_word (before None run t) (get_or given t no_clock) n)) (sym found)
word_is cells given run t n width (Reg next) formed s r b found =
    sym (word_got run t n) ∙ free_is cells given run t n width (Reg next) r b found tt ∙
    ap (λ (o : Option SizedCell). in_cell o 0 (free_word (before None run t) (get_or given t no_clock) n)) (sym found)
word_is cells given run t n width (Const k) formed s r b found =
    sym (word_got run t n) ∙ r.runs.settles t n (record { width = width; cell = Const k }) (let e : length run ≡ length given = r.long in omega arith) found
word_is cells given run t n width (Op op args) formed s r b found =
    rw (word_got run t n, word_got run t (operand args 0), word_got run t (operand args 1), word_got run t (operand args 2)) at
    (r.runs.settles t n (record { width = width; cell = Op op args }) (let e : length run ≡ length given = r.long in omega arith) found)
word_is cells given run t n width (Mem depth at next enable) formed s r b found = (shape_at cells given run t n _ r b found).0
word_is cells given run t n width (Peek mem at) formed s r b found =
    let fits = (formed.each n (record { width = width; cell = Peek mem at }) found).cell in
    let kept : SizedCell = record { width = width; cell = Mem fits.depth fits.memory.at fits.memory.next fits.memory.enable } in
    let m : slice_get cells mem.0 ≡ Some kept = get_from_take cells n mem.0 kept fits.memory.found in
    let prev : Option Clock = before None run t in
    let g : Clock = get_or given t no_clock in
    let l : t < length run = (let e : length run ≡ length given = r.long in omega arith) in
    (rw (
      word_got run t n,
      word_got run t at.0,
      store_got run t mem.0,
      unwrap_or-slice_get (get_or (get_or run t no_clock).stores mem.0 []) (get_or (get_or run t no_clock).words at.0 0) 0,
    ) at
    (r.runs.settles t n (record { width = width; cell = Peek mem at }) l found))
    ∙ ap (λ (x : List ℕ). get_or x (get_or (get_or run t no_clock).words at.0 0) 0)
    (store_is cells given run t mem.0 kept.width kept.cell s r b m ∙ sym (ap (λ (o : Option SizedCell). in_cell o [] (stepped_store prev g mem.0)) m))

cell_there : (cells : List SizedCell) (n : ℕ) → n < length cells → (sized : SizedCell) × (slice_get cells n ≡ Some sized)
cell_there cells n h =
    let d : SizedCell = record { width = 0; cell = Const 0 } in
    (get_or cells n d, slice_get-get_or cells n d h)

run_is_next : (cells : List SizedCell) (given run : List Clock) (t : ℕ) → IsFormed cells → IsGiven cells given → IsRunOn cells given run → t < length given
    → get_or run t no_clock ≡ next_clock cells (before None run t) (get_or given t no_clock)
run_is_next cells given run t formed s r b =
    let prev : Option Clock = before None run t in
    let g : Clock = get_or given t no_clock in
    let k : Clock = get_or run t no_clock in
    let made : Clock = next_clock cells prev g in
    let e : length run ≡ length given = r.long in
    let l : t < length run = omega arith in
    let shape : IsShaped cells k = clock_shaped r.runs t l in
    let made_shape : IsShaped cells made = next_shaped cells prev g formed (before_shaped cells given run t r b) (s t b) in
    let mine : IsSettled cells (free_in cells prev g) (store_in cells prev g) k.words =
    record { each = λ n sized found. word_is cells given run t n sized.width sized.cell formed s r b found } in
    let its : IsSettled cells (free_in cells prev g) (store_in cells prev g) made.words =
    record { each = λ n sized found. (next_at cells prev g n sized formed found).word } in
    let words : k.words ≡ made.words =
    ext_get_or 0 k.words made.words (shape.words ∙ sym made_shape.words)
    (λ n h. settled_once cells (free_in cells prev g) (store_in cells prev g) k.words made.words formed mine its n (rw shape.words at h)) in
    let stores : k.stores ≡ made.stores =
    ext_get_or [] k.stores made.stores (shape.stores ∙ sym made_shape.stores)
    (λ n h.
    let there = cell_there cells n (rw shape.stores at h) in
    store_is cells given run t n there.0.width there.0.cell s r b there.1 ∙ sym (next_at cells prev g n there.0 formed there.1).store) in
    same_clock k made words stores
  where
    same_clock : (a b : Clock) → a.words ≡ b.words → a.stores ≡ b.stores → a ≡ b
    same_clock a b p q = let c : Clock = record { words = b.words; stores = a.stores } in ap (λ w. record { words = w; stores = a.stores }) p ∙
        ap (λ x. record { words = b.words; stores = x }) q

    before_shaped : (cells : List SizedCell) (given run : List Clock) (t : ℕ) → IsRunOn cells given run → t < length given
        → IsShapedIfAny cells (before None run t)
    before_shaped cells given run zero r b = tt
    before_shaped cells given run (suc t) r b = clock_shaped r.runs t (let e : length run ≡ length given = r.long in omega arith)

pub one_run : (cells : List SizedCell) → IsFormed cells → HasOneRun cells
one_run cells formed = λ given each. (
    let shaped : IsGiven cells given = λ t b. each t (get_or given t no_clock) (slice_get-get_or given t no_clock b) in (
      run_on cells None given,
      made_run cells given formed shaped,
      λ other r. only_one cells None given other r.long (λ t b. run_is_next cells given other t formed shaped r b),
    ))
