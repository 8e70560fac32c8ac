-- After a clock a simulator has the words of the run's clock, and what the next one begins with.
use Rattle.std.proofs.Common.{ℕ, ◌≡◌, ◌+◌, ◌-◌, ◌<◌, ◌≤◌, ◌==◌, inl, inr, List, [], ◌∷◌, ◌++◌, length, set, Some, slice_get, get_or, true, false, if◌then◌else◌, arith, refl, ap, sym, ◌∙◌, subst, eq-eqb}
use Rattle.std.proofs.lemmas.Bool.{ne_eqb}
use Rattle.std.proofs.lemmas.List.{length_push, get_or_push, get_or_append_left}
use Rattle.std.proofs.lemmas.Option.{unwrap_or-slice_get, slice_get_within}
use Rattle.ae_netlist.specs.declared.cell.NetId.{NetId}
use Rattle.ae_netlist.specs.declared.cell.Cell.{Cell}
use Rattle.ae_netlist.specs.declared.cell.Cell.TheVariants.{Input, Const, Op, Reg, Mem, Peek}
use Rattle.ae_netlist.specs.declared.cell.SizedCell.{SizedCell}
use Rattle.ae_netlist.specs.declared.cell.Outlet.{Outlet}
use Rattle.ae_netlist.specs.Circuit.{operand, IsNet, IsPlain, IsFormed}
use Rattle.ae_netlist.specs.Counts.{is_input, is_register, is_memory, number_of}
use Rattle.ae_netlist.specs.Runs.{Clock, no_clock, word_at, store_at, IsRun}
use Rattle.ae_netlist.specs.Rows.{Firsts}
use Rattle.ae_netlist.proofs.Gets.{get_from_take}
use Rattle.ae_netlist.proofs.Settled.{cell_word, IsSettled, settled_once}
use Rattle.ae_netlist.proofs.Given.{word_in, store_in}
use Rattle.ae_netlist.proofs.ReadAt.{store_got, word_got}
use Rattle.ae_netlist.proofs.Shapes.{clock_shaped, cell_holds}
use Rattle.ae_sim.specs.Playing.{Plays, HasPlayed}

-- a run that plays a row more plays these
plays_less : (cells : List SizedCell) (fill : ℕ) (rows : List (List ℕ)) (row : List ℕ) (run : List Clock) → Plays cells fill (rows ++ row ∷ []) run
    → Plays cells fill rows run
plays_less cells fill rows row run p = record {
  runs = p.runs;
  long = (let l : length (rows ++ row ∷ []) ≤ length run = p.long in omega (arith, length_push rows row));
  takes = record {
    each = λ t n sized b found is.
        p.takes.each t n sized (omega (arith, length_push rows row)) found is ∙
        ap (λ r. get_or r (number_of is_input cells n) 0) (get_or_append_left rows (row ∷ []) [] t b);
  };
  begins = p.begins;
}

-- what stands in a clock before its words are settled
record Agrees (cells : List SizedCell) (held : Firsts) (row : List ℕ) (run : List Clock) (t : ℕ) : Type 0 where
  inputs : (n : ℕ) (sized : SizedCell) → slice_get cells n ≡ Some sized → is_input sized.cell ≡ true
      → word_at run t n ≡ get_or row (number_of is_input cells n) 0
  registers : (n : ℕ) (sized : SizedCell) → slice_get cells n ≡ Some sized → is_register sized.cell ≡ true
      → get_or held.registers (number_of is_register cells n) 0 ≡ word_at run t n
  memories : (n : ℕ) (sized : SizedCell) → slice_get cells n ≡ Some sized → is_memory sized.cell ≡ true
      → get_or held.memories (number_of is_memory cells n) [] ≡ store_at run t n

clock_word : (cells : List SizedCell) (held : Firsts) (row : List ℕ) (run : List Clock) (t n width : ℕ) (cell : Cell) → IsFormed cells → IsRun cells run
    → t < length run → slice_get cells n ≡ Some (record { width = width; cell = cell }) → Agrees cells held row run t
    → get_or (get_or run t no_clock).words n 0 ≡ cell_word cells (word_in cells held row) (store_in cells held) (get_or run t no_clock).words n cell
clock_word cells held row run t n width (Input port) formed r b found a = sym (word_got run t n) ∙ rw found (a.inputs n _ found refl)
clock_word cells held row run t n width (Const k) formed r b found a = sym (word_got run t n) ∙ r.settles t n _ b found
clock_word cells held row run t n width (Op op args) formed r b found a =
    rw (word_got run t n, word_got run t (operand args 0), word_got run t (operand args 1), word_got run t (operand args 2)) at (r.settles t n _ b found)
clock_word cells held row run t n width (Reg next) formed r b found a = sym (word_got run t n) ∙ rw found (sym (a.registers n _ found refl))
clock_word cells held row run t n width (Mem depth at next enable) formed r b found a = (cell_holds (clock_shaped r t b) n _ found).0
clock_word cells held row run t n width (Peek mem at) formed r b found a =
    let fits = (formed.each n (record { width = width; cell = Peek mem at }) found).cell in
    let kept : SizedCell = record { width = width; cell = Mem fits.depth fits.memory.at fits.memory.next fits.memory.enable } in
    let there : slice_get cells mem.0 ≡ Some kept = get_from_take cells n mem.0 kept fits.memory.found in
    let store : get_or held.memories (number_of is_memory cells mem.0) [] ≡ get_or (get_or run t no_clock).stores mem.0 [] = a.memories mem.0 kept there refl ∙
    store_got run t mem.0 in
    rw there ((rw (
      word_got run t n,
      word_got run t at.0,
      store_got run t mem.0,
      unwrap_or-slice_get (get_or (get_or run t no_clock).stores mem.0 [])
          (get_or (get_or run t no_clock).words at.0 0) 0,
    ) at (r.settles t n _ b found)) ∙ ap (λ s. get_or s (get_or (get_or run t no_clock).words at.0 0) 0) (sym store))

words_played : (cells : List SizedCell) (held : Firsts) (row new : List ℕ) (run : List Clock) (t n : ℕ) → IsFormed cells → IsRun cells run → t < length run
    → Agrees cells held row run t
    → IsSettled cells (word_in cells held row) (store_in cells held) new → n < length cells → get_or new n 0 ≡ word_at run t n
words_played cells held row new run t n formed r b a settled l =
    let its : IsSettled cells (word_in cells held row) (store_in cells held) (get_or run t no_clock).words = record {
      each = λ i sized found. clock_word cells held row run t i sized.width sized.cell formed r b found a;
    } in
    settled_once cells (word_in cells held row) (store_in cells held) new (get_or run t no_clock).words formed settled its n l ∙ sym (word_got run t n)

-- what registers and memories hold after the clock
pub record HasTurned (cells : List SizedCell) (held next : Firsts) (words : List ℕ) : Type 0 where
  pub registers : (n width : ℕ) (to : NetId) → slice_get cells n ≡ Some (record { width = width; cell = Reg to })
      → get_or next.registers (number_of is_register cells n) 0 ≡ get_or words to.0 0
  pub memories : (n width depth : ℕ) (at to enable : NetId) → slice_get cells n ≡ Some (record { width = width; cell = Mem depth at to enable })
      → get_or next.memories (number_of is_memory cells n) []
      ≡ (if get_or words enable.0 0 == 1 then set (get_or held.memories (number_of is_memory cells n) []) (get_or words at.0 0)
      (get_or words to.0 0) else get_or held.memories (number_of is_memory cells n) [])

register_played : (cells : List SizedCell) (held next : Firsts) (new : List ℕ) (run : List Clock) (t n width : ℕ) (cell : Cell) → is_register cell ≡ true
    → IsFormed cells → IsRun cells run → t + 1 < length run
    → slice_get cells n ≡ Some (record { width = width; cell = cell }) → ((i : ℕ) → i < length cells → get_or new i 0 ≡ word_at run t i)
    → HasTurned cells held next new → get_or next.registers (number_of is_register cells n) 0 ≡ word_at run (t + 1) n
register_played cells held next new run t n width (Reg to) is formed r l found words h =
    let net : IsNet cells to.0 width = (formed.each n (record { width = width; cell = Reg to }) found).cell in
    h.registers n width to found ∙ (words to.0 (slice_get_within cells to.0 net.sized net.found) ∙ sym (r.steps t n _ l found))
register_played cells held next new run t n width _ is formed r l found words h = cc

-- a net is no memory
other_net : (cells : List SizedCell) (n m width v depth : ℕ) (at to enable : NetId)
    → slice_get cells n ≡ Some (record { width = v; cell = Mem depth at to enable }) → IsNet cells m width → m ≡ n → ⊥
other_net cells n m width v depth at to enable found net e =
    let same : Some net.sized ≡ Some (record { width = v; cell = Mem depth at to enable }) = sym net.found ∙ (ap (slice_get cells) e ∙ found) in
    let is : net.sized ≡ record { width = v; cell = Mem depth at to enable } = cc in
    subst (λ (x : SizedCell). IsPlain x.cell) is net.plain

memory_word : (cells : List SizedCell) (run : List Clock) (t n width depth : ℕ) (at to enable : NetId) → IsRun cells run → t < length run
    → slice_get cells n ≡ Some (record { width = width; cell = Mem depth at to enable }) → word_at run t n ≡ 0
memory_word cells run t n width depth at to enable r b found = word_got run t n ∙ (cell_holds (clock_shaped r t b) n _ found).0

memory_played : (cells : List SizedCell) (held next : Firsts) (row new : List ℕ) (run : List Clock) (t n width : ℕ) (cell : Cell) → is_memory cell ≡ true
    → IsFormed cells → IsRun cells run → t + 1 < length run
    → slice_get cells n ≡ Some (record { width = width; cell = cell }) → ((i : ℕ) → i < length cells → get_or new i 0 ≡ word_at run t i)
    → Agrees cells held row run t → HasTurned cells held next new
    → get_or next.memories (number_of is_memory cells n) [] ≡ store_at run (t + 1) n
memory_played cells held next row new run t n width (Mem depth at to enable) is formed r l found words a h =
    let k : ℕ = number_of is_memory cells n in
    let old : List ℕ = get_or held.memories k [] in
    let store : old ≡ store_at run t n = a.memories n _ found refl in
    let turned = h.memories n width depth at to enable found in
    let step = r.steps t n _ l found in
    let here : n < length cells = slice_get_within cells n _ found in
    elim (formed.each n (record { width = width; cell = Mem depth at to enable }) found).cell.2 [
      | inl u ↦
          let zero_there : word_at run t n ≡ 0 = memory_word cells run t n width depth at to enable r (omega arith) found in
          let off : get_or new enable.0 0 ≡ 0 = ap (λ i. get_or new i 0) u.enable_own ∙ (words n here ∙ zero_there) in
          let own : (enable.0 == n) ≡ true = eq-eqb enable.0 n u.enable_own in
          let stays : store_at run (t + 1) n ≡ store_at run t n = rw own at step in
          (rw off at turned) ∙ (store ∙ sym stays)
      | inr w ↦
          let other : (enable.0 == n) ≡ false = ne_eqb enable.0 n (other_net cells n enable.0 1 width depth at to enable found w.bit) in
          let net = w.address.net in
          let e : get_or new enable.0 0 ≡ word_at run t enable.0 = words enable.0 (slice_get_within cells enable.0 w.bit.sized w.bit.found) in
          let x : get_or new at.0 0 ≡ word_at run t at.0 = words at.0 (slice_get_within cells at.0 net.sized net.found) in
          let y : get_or new to.0 0 ≡ word_at run t to.0 = words to.0 (slice_get_within cells to.0 w.word.sized w.word.found) in
          let goes : store_at run (t + 1) n ≡ (if word_at run t enable.0 == 1 then set (store_at run t n) (word_at run t at.0)
          (word_at run t to.0) else store_at run t n) = rw other at step in
          (rw (e, x, y, store) at turned) ∙ sym goes
    ]
memory_played cells held next row new run t n width _ is formed r l found words a h = cc

-- a clock more
pub step_played : (cells : List SizedCell) (outlets : List Outlet) (fill : ℕ) (rows : List (List ℕ)) (row words new : List ℕ) (held next : Firsts)
    → IsFormed cells
    → IsSettled cells (word_in cells held row) (store_in cells held) new → HasTurned cells held next new
    → HasPlayed (record { cells = cells; outlets = outlets; words = words; held = held }) fill rows
    → HasPlayed (record { cells = cells; outlets = outlets; words = new; held = next }) fill (rows ++ row ∷ [])
step_played cells outlets fill rows row words new held next formed settled turned old = record {
  words = λ run n p l b.
      let e : length (rows ++ row ∷ []) - 1 ≡ length rows = omega (arith, length_push rows row) in
      rw e (words_played cells held row new run (length rows) n formed p.runs (here run p) (agrees run p) settled b);
  registers = λ run n sized p l found is.
      let e : length (rows ++ row ∷ []) ≡ length rows + 1 = length_push rows row in
      rw e (register_played cells held next new run (length rows) n sized.width sized.cell is formed p.runs (omega (arith, l, e)) found
      (λ i b. words_played cells held row new run (length rows) i formed p.runs (here run p) (agrees run p) settled b) turned);
  memories = λ run n sized p l found is.
      let e : length (rows ++ row ∷ []) ≡ length rows + 1 = length_push rows row in
      rw e (memory_played cells held next row new run (length rows) n sized.width sized.cell is formed p.runs (omega (arith, l, e)) found
      (λ i b. words_played cells held row new run (length rows) i formed p.runs (here run p) (agrees run p) settled b) (agrees run p) turned);
}
  where
    here : (run : List Clock) → Plays cells fill (rows ++ row ∷ []) run → length rows < length run
    here run p = let long : length (rows ++ row ∷ []) ≤ length run = p.long in omega (arith, length_push rows row)

    agrees : (run : List Clock) → Plays cells fill (rows ++ row ∷ []) run → Agrees cells held row run (length rows)
    agrees run p = record {
      inputs = λ n sized found is. p.takes.each (length rows) n sized (omega (arith, length_push rows row)) found is ∙
          ap (λ r. get_or r (number_of is_input cells n) 0) (get_or_push rows row [] (length rows) refl);
      registers = λ n sized found is. old.registers run n sized (plays_less cells fill rows row run p) (here run p) found is;
      memories = λ n sized found is. old.memories run n sized (plays_less cells fill rows row run p) (here run p) found is;
    }
