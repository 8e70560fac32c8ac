-- A run of the written module, read by number, is one of the netlist.
use Rattle.std.proofs.Common.{ℕ, zero, suc, ◌≡◌, ◌+◌, ◌^◌, ◌<◌, List, [], ◌∷◌, length, get_or, All, Some, None, slice_get, arith, refl, sym, ap, ◌∙◌, subst}
use Rattle.std.specs.Prelude.{map}
use Rattle.std.proofs.lemmas.Bool.{cond-false}
use Rattle.std.proofs.lemmas.List.{length-map}
use Rattle.std.proofs.lemmas.Option.{unwrap_or-slice_get}
use Rattle.ae_netlist.proofs.ReadAt.{store_got, word_got}
use Rattle.ae_netlist.specs.declared.cell.Cell.{Cell}
use Rattle.ae_netlist.specs.declared.cell.Cell.TheVariants.{Input, Const, Op, Reg, Mem, Peek}
use Rattle.ae_netlist.specs.declared.cell.SizedCell.{SizedCell}
use Rattle.ae_netlist.specs.declared.cell.Outlet.{Outlet}
use Rattle.ae_netlist.specs.Circuit as c
use Rattle.ae_netlist.specs.Runs as r
use Rattle.ae_netlist.proofs.Shapes.{each_shaped, each_holds}
use Rattle.ae_runs.specs.Values.{ModuleClock}
use Rattle.ae_runs.specs.Runs.{idle_clock, clock_at, FitsKind, IsModuleRun}
use Rattle.ae_verilog.specs.NetlistModule.{port_name, number_name, cell_name}
use Rattle.ae_verilog.specs.Written.{IsWritableNetlist}
use Rattle.ae_spelled.proofs.LawNets.{written, cell_net, cell_among, name_of}
use Rattle.ae_spelled.proofs.LawValues.{Reads}
use Rattle.ae_spelled.proofs.LawEdges.{register_next, memory_next}
use Rattle.ae_spelled.proofs.LawClocks.{cell_no_clock, makes_from, shown_from}
use Rattle.ae_spelled.proofs.LawOf.{other_number, written_memory}

abbrev own_word : (lines : ℕ → ℕ) → ModuleClock → ℕ → Cell → ℕ
own_word lines m k (Mem depth at next enable) = 0
own_word lines m k (Input port) = m.word (cell_name lines k (Input port))
own_word lines m k _ = m.word (number_name lines k)

abbrev own_store : (lines : ℕ → ℕ) → ModuleClock → ℕ → Cell → List ℕ
own_store lines m k (Mem depth at next enable) = m.store (number_name lines k)
own_store lines m k _ = []

words_from : (lines : ℕ → ℕ) → ModuleClock → ℕ → List SizedCell → List ℕ
words_from lines m s [] = []
words_from lines m s (x ∷ xs) = own_word lines m s x.cell ∷ words_from lines m (s + 1) xs

stores_from : (lines : ℕ → ℕ) → ModuleClock → ℕ → List SizedCell → List (List ℕ)
stores_from lines m s [] = []
stores_from lines m s (x ∷ xs) = own_store lines m s x.cell ∷ stores_from lines m (s + 1) xs

words_long : (lines : ℕ → ℕ) → (m : ModuleClock) (s : ℕ) (xs : List SizedCell) → length (words_from lines m s xs) ≡ length xs
unfolding words_from
words_long lines m s [] = refl
words_long lines m s (x ∷ xs) = ap suc (words_long lines m (s + 1) xs)

stores_long : (lines : ℕ → ℕ) → (m : ModuleClock) (s : ℕ) (xs : List SizedCell) → length (stores_from lines m s xs) ≡ length xs
unfolding stores_from
stores_long lines m s [] = refl
stores_long lines m s (x ∷ xs) = ap suc (stores_long lines m (s + 1) xs)

word_from : (lines : ℕ → ℕ) → (m : ModuleClock) (s : ℕ) (xs : List SizedCell) (j : ℕ) (x : SizedCell) → slice_get xs j ≡ Some x
    → get_or (words_from lines m s xs) j 0 ≡ own_word lines m (s + j) x.cell
unfolding words_from
word_from lines m s [] j x h = absurd (let e : None ≡ Some x = h in cc)
word_from lines m s (y ∷ xs) zero x h =
    let e : y ≡ x = (let o : Some y ≡ Some x = h in cc) in let n : s ≡ s + 0 = omega arith in (λ i. own_word lines m (n i) (e i).cell)
word_from lines m s (y ∷ xs) (suc j) x h =
    word_from lines m (s + 1) xs j x h ∙ (let n : s + 1 + j ≡ s + suc j = omega arith in (λ i. own_word lines m (n i) x.cell))

store_from : (lines : ℕ → ℕ) → (m : ModuleClock) (s : ℕ) (xs : List SizedCell) (j : ℕ) (x : SizedCell) → slice_get xs j ≡ Some x
    → get_or (stores_from lines m s xs) j [] ≡ own_store lines m (s + j) x.cell
unfolding stores_from
store_from lines m s [] j x h = absurd (let e : None ≡ Some x = h in cc)
store_from lines m s (y ∷ xs) zero x h =
    let e : y ≡ x = (let o : Some y ≡ Some x = h in cc) in let n : s ≡ s + 0 = omega arith in (λ i. own_store lines m (n i) (e i).cell)
store_from lines m s (y ∷ xs) (suc j) x h =
    store_from lines m (s + 1) xs j x h ∙ (let n : s + 1 + j ≡ s + suc j = omega arith in (λ i. own_store lines m (n i) x.cell))

get_or-map : {X Y : Type 0} (f : X → Y) (xs : List X) (t : ℕ) (d : X) (e : Y) → t < length xs → get_or (map f xs) t e ≡ f (get_or xs t d)
get_or-map f [] t d e l = absurd (omega arith)
get_or-map f (x ∷ xs) zero d e l = refl
get_or-map f (x ∷ xs) (suc t) d e l = get_or-map f xs t d e (omega arith)

module _ (lines : ℕ → ℕ) (cells : List SizedCell) where
  numbered : ModuleClock → r.Clock
  numbered m = record { words = words_from lines m 0 cells; stores = stores_from lines m 0 cells }

  pub run_by_number : List ModuleClock → List r.Clock
  run_by_number run = map numbered run

  pub by_number_length : (run : List ModuleClock) → length (run_by_number run) ≡ length run
  unfolding run_by_number
  by_number_length run = length-map run numbered

  clock_is : (run : List ModuleClock) (t : ℕ) → t < length run → get_or (run_by_number run) t r.no_clock ≡ numbered (clock_at run t)
  unfolding run_by_number
  clock_is run t l = get_or-map numbered run t idle_clock r.no_clock l ∙ ap numbered (sym (unwrap_or-slice_get run t idle_clock))

  pub word_is : (run : List ModuleClock) (t k : ℕ) (x : SizedCell) → t < length run → slice_get cells k ≡ Some x
      → r.word_at (run_by_number run) t k ≡ own_word lines (clock_at run t) k x.cell
  unfolding numbered
  word_is run t k x l h = word_got (run_by_number run) t k ∙ ap (λ (z : r.Clock). get_or z.words k 0) (clock_is run t l) ∙
      word_from lines (clock_at run t) 0 cells k x h ∙
      (let n : 0 + k ≡ k = omega arith in (λ i. own_word lines (clock_at run t) (n i) x.cell))

  pub store_is : (run : List ModuleClock) (t k : ℕ) (x : SizedCell) → t < length run → slice_get cells k ≡ Some x
      → r.store_at (run_by_number run) t k ≡ own_store lines (clock_at run t) k x.cell
  unfolding numbered
  store_is run t k x l h = store_got (run_by_number run) t k ∙ ap (λ (z : r.Clock). get_or z.stores k []) (clock_is run t l) ∙
      store_from lines (clock_at run t) 0 cells k x h ∙
      (let n : 0 + k ≡ k = omega arith in (λ i. own_store lines (clock_at run t) (n i) x.cell))

plain_word : (lines : ℕ → ℕ) → (m : ModuleClock) (k : ℕ) (cell : Cell) → c.IsPlain cell → own_word lines m k cell ≡ m.word (cell_name lines k cell)
plain_word lines m k (Input port) p = refl
plain_word lines m k (Const v) p = refl
plain_word lines m k (Op op args) p = refl
plain_word lines m k (Reg next) p = refl
plain_word lines m k (Mem depth at next enable) p = absurd p
plain_word lines m k (Peek mem at) p = refl

module _ (lines : ℕ → ℕ) (cells : List SizedCell) (outlets : List Outlet) (outs : ℕ) (ok : IsWritableNetlist cells outlets outs) (run : List ModuleClock)
    (is : IsModuleRun (written lines cells outlets outs) run) where
  abbrev other : List r.Clock
  other = run_by_number lines cells run

  pub plain_is : (t k : ℕ) (x : SizedCell) → t < length run → slice_get cells k ≡ Some x → c.IsPlain x.cell
      → r.word_at other t k ≡ (clock_at run t).word (cell_name lines k x.cell)
  plain_is t k x l h p = word_is lines cells run t k x l h ∙ plain_word lines (clock_at run t) k x.cell p

  held : (t k : ℕ) (x : SizedCell) → t < length run → slice_get cells k ≡ Some x
      → FitsKind (cell_net lines cells outlets outs k x).kind x.width ((clock_at run t).word (cell_name lines k x.cell))
      ((clock_at run t).store (cell_name lines k x.cell))
  held t k x l h = (is.shaped t l).holds (cell_net lines cells outlets outs k x) (cell_among lines cells outlets outs k x h)
      (cell_no_clock lines cells outlets outs ok k x h)

  plain_held : (t k width : ℕ) (cell : Cell) → t < length run → slice_get cells k ≡ Some (record { width = width; cell = cell }) → c.IsPlain cell
      → (clock_at run t).word (cell_name lines k cell) < 2 ^ width
  plain_held t k width (Input port) l h p = held t k _ l h
  plain_held t k width (Const v) l h p = held t k _ l h
  plain_held t k width (Op op args) l h p = held t k _ l h
  plain_held t k width (Reg next) l h p = held t k _ l h
  plain_held t k width (Mem depth at next enable) l h p = absurd p
  plain_held t k width (Peek mem at) l h p = held t k _ l h

  reads : (t : ℕ) → t < length run → Reads lines cells outlets outs ok (clock_at run t) (r.word_at other t) (r.store_at other t)
  reads t l = record {
    word = λ a w h. ap (clock_at run t).word (name_of lines cells outlets outs a h.sized h.found) ∙ sym (plain_is t a h.sized l h.found h.plain);
    store = λ k w d h. ap (clock_at run t).store (name_of lines cells outlets outs k _ h.found) ∙ sym (store_is lines cells run t k _ l h.found);
    fits = λ a w h. subst (λ x. x < 2 ^ w) (sym (plain_is t a h.sized l h.found h.plain))
        (subst (λ v. (clock_at run t).word (cell_name lines a h.sized.cell) < 2 ^ v) h.wide (plain_held t a h.sized.width h.sized.cell l h.found h.plain));
    stores = λ k w d h. subst (All (λ x. x < 2 ^ w)) (sym (store_is lines cells run t k _ l h.found)) (held t k _ l h.found).1;
  }

  -- what a cell holds
  cell_holds : (t k width : ℕ) (cell : Cell) → t < length run → slice_get cells k ≡ Some (record { width = width; cell = cell })
      → r.CellHolds cell width (own_word lines (clock_at run t) k cell) (own_store lines (clock_at run t) k cell)
  cell_holds t k width (Input port) l h = (held t k _ l h, refl)
  cell_holds t k width (Const v) l h = (held t k _ l h, refl)
  cell_holds t k width (Op op args) l h = (held t k _ l h, refl)
  cell_holds t k width (Reg next) l h = (held t k _ l h, refl)
  cell_holds t k width (Mem depth at next enable) l h = let p = held t k _ l h in (refl, p.0, p.1)
  cell_holds t k width (Peek mem at) l h = (held t k _ l h, refl)

  shaped : (t : ℕ) → t < length run → r.IsShaped cells (get_or other t r.no_clock)
  unfolding numbered
  shaped t l = subst (r.IsShaped cells) (sym (clock_is lines cells run t l)) (record {
    words = words_long lines (clock_at run t) 0 cells;
    stores = stores_long lines (clock_at run t) 0 cells;
    holds = each_holds cells (numbered lines cells (clock_at run t)) (λ k x h.
        let n : 0 + k ≡ k = omega arith in
        let w : get_or (words_from lines (clock_at run t) 0 cells) k 0 ≡ own_word lines (clock_at run t) k x.cell = word_from lines
        (clock_at run t) 0 cells k x h ∙ (λ i. own_word lines (clock_at run t) (n i) x.cell) in
        let s : get_or (stores_from lines (clock_at run t) 0 cells) k [] ≡ own_store lines (clock_at run t) k x.cell = store_from lines
        (clock_at run t) 0 cells k x h ∙ (λ i. own_store lines (clock_at run t) (n i) x.cell) in
        subst (λ v. r.CellHolds x.cell x.width v (get_or (stores_from lines (clock_at run t) 0 cells) k [])) (sym w)
        (subst (r.CellHolds x.cell x.width (own_word lines (clock_at run t) k x.cell)) (sym s) (cell_holds t k x.width x.cell l h)));
  })

  settles : (t k width : ℕ) (cell : Cell) → t < length run → slice_get cells k ≡ Some (record { width = width; cell = cell }) → r.Settles cells other t k cell
  settles t k width (Input port) l h = tt
  settles t k width (Reg next) l h = tt
  settles t k width (Mem depth at next enable) l h = tt
  settles t k width (Const v) l h = makes_from lines cells outlets outs ok (clock_at run t) (r.word_at other t) (r.store_at other t) (reads t l)
      (is.settles t l) k width (Const v) h
  settles t k width (Op op args) l h = makes_from lines cells outlets outs ok (clock_at run t) (r.word_at other t) (r.store_at other t) (reads t l)
      (is.settles t l) k width (Op op args) h
  settles t k width (Peek mem at) l h = makes_from lines cells outlets outs ok (clock_at run t) (r.word_at other t) (r.store_at other t) (reads t l)
      (is.settles t l) k width (Peek mem at) h ∙ sym (unwrap_or-slice_get (r.store_at other t mem.0) (r.word_at other t at.0) 0)

  steps : (t k width : ℕ) (cell : Cell) → t + 1 < length run → slice_get cells k ≡ Some (record { width = width; cell = cell }) → r.Steps other t k cell
  steps t k width (Input port) l h = tt
  steps t k width (Const v) l h = tt
  steps t k width (Op op args) l h = tt
  steps t k width (Peek mem at) l h = tt
  steps t k width (Reg next) l h =
      let here : t < length run = omega arith in
      word_is lines cells run (t + 1) k _ l h
      ∙ (is.steps t l).steps (cell_net lines cells outlets outs k (record { width = width; cell = Reg next })) (cell_among lines cells outlets outs k _ h)
      ∙ register_next lines cells outlets outs ok (clock_at run t) (r.word_at other t) (r.store_at other t) (reads t here) k width next h
  steps t k width (Mem depth at next enable) l h =
      let here : t < length run = omega arith in
      let w = ok.whole.each k width depth at next enable h in
      store_is lines cells run (t + 1) k _ l h
      ∙ (is.steps t l).steps (cell_net lines cells outlets outs k (record { width = width; cell = Mem depth at next enable }))
      (cell_among lines cells outlets outs k _ h)
      ∙ memory_next lines cells outlets outs ok (clock_at run t) (r.word_at other t) (r.store_at other t) (reads t here) k width depth at next enable h
      (written_memory k width depth at next enable cells ok.whole ok.formed h)
      ∙ sym (cond-false _ (r.store_at other t k) _ (other_number enable.0 k w.connected))

  within : (t : ℕ) → t < length other → t < length run
  within t l = let e = by_number_length lines cells run in omega arith

  pub by_number_is_run : r.IsRun cells other
  by_number_is_run = record {
    shaped = each_shaped cells other (λ t l. shaped t (within t l));
    settles = λ t k x l h. settles t k x.width x.cell (within t l) h;
    steps = λ t k x l h. steps t k x.width x.cell (within (t + 1) l) h;
  }

  pub by_number_output : (t j : ℕ) (o : Outlet) → t < length run → slice_get outlets j ≡ Some o
      → (clock_at run t).word (port_name outs o.port) ≡ r.word_at other t o.net.0
  by_number_output t j o l h = shown_from lines cells outlets outs ok (clock_at run t) (r.word_at other t) (r.store_at other t) (reads t l)
      (is.settles t l) j o h
