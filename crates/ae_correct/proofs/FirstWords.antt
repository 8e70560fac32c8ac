-- What the registers and memories of a module begin with, where those of its netlist begin with the fill.
use Rattle.std.proofs.Common.{ℕ, suc, ◌≡◌, ◌+◌, ◌<◌, ◌%◌, ◌^◌, Bool, true, false, cond, List, [], ◌∷◌, length, map, replicate, Option, Some, slice_get, arith, refl, ap, sym, ◌∙◌}
use Rattle.std.specs.List.{filter, enumerate_from}
use Rattle.std.proofs.lemmas.Option.{get_or_from_slice_get}
use Rattle.ae_netlist.specs.declared.cell.Cell.{Cell}
use Rattle.ae_netlist.specs.declared.cell.Cell.TheVariants.{Input, Const, Op, Reg, Mem, Peek}
use Rattle.ae_netlist.specs.declared.cell.SizedCell.{SizedCell}
use Rattle.ae_netlist.specs.Circuit.{Circuit, depth_in_cell}
use Rattle.ae_netlist.specs.Counts.{cells_of, number_of, is_register, is_memory}
use Rattle.ae_netlist.specs.Runs.{Clock, word_at, store_at}
use Rattle.ae_netlist.specs.Rows.{BeginsWith, filled}
use Rattle.ae_netlist.proofs.Counting.{filter_at}
use Rattle.ae_vmodule.specs.ModuleTree.{NetTree, ModuleTree}
use Rattle.ae_runs.specs.Values.{ModuleClock}
use Rattle.ae_runs.specs.Runs.{clock_at}
use Rattle.ae_runs.specs.SameRuns.{BeginAlike, HasSameRuns, cell_depth, cell_words, held_words, is_state_cell, kind_depth, net_held_words, state_cells, states_of}
use Rattle.ae_correct.specs.ClockTexts.{first_words}
use Rattle.ae_correct.proofs.ModulePorts.{mapped_at}

-- ---- lists

map_step : {X A : Type 0} (f g : X → A) (x : X) (rest : List X) (b : Bool) → (b ≡ true → f x ≡ g x) → map f rest ≡ map g rest
    → map f (cond b (x ∷ rest) rest) ≡ map g (cond b (x ∷ rest) rest)
map_step f g x rest true h same = λ i. h refl i ∷ same i
map_step f g x rest false h same = same

-- what is so of each cell that passes is so of all that do
map_cells : {A : Type 0} (f g : ℕ × SizedCell → A) (k : ℕ) (cells : List SizedCell)
    → ((m : ℕ) (c : SizedCell) → slice_get cells m ≡ Some c → is_state_cell c.cell ≡ true → f (k + m, c) ≡ g (k + m, c))
    → map f (filter (λ (x : ℕ × SizedCell). is_state_cell x.1.cell) (enumerate_from k cells)) ≡ map g
    (filter (λ (x : ℕ × SizedCell). is_state_cell x.1.cell) (enumerate_from k cells))
map_cells f g k [] h = refl
map_cells f g k (c ∷ cells) h =
    let z : k + 0 ≡ k = omega arith in
    let own : is_state_cell c.cell ≡ true → f (k, c) ≡ g (k, c) = λ is. ap (λ i. f (i, c)) (sym z) ∙ h 0 c refl is ∙ ap (λ i. g (i, c)) z in
    map_step f g (k, c) (filter (λ (x : ℕ × SizedCell). is_state_cell x.1.cell) (enumerate_from (k + 1) cells)) (is_state_cell c.cell) own
    (map_cells f g (k + 1) cells (λ m d at is. (let e : k + suc m ≡ k + 1 + m = omega arith in ap (λ i. f (i, d)) (sym e) ∙ h (suc m) d at is ∙
    ap (λ i. g (i, d)) e)))

map_both : {X Y A B C : Type 0} (h : A → B → C) (f : X → A) (g : X → B) (u : Y → A) (v : Y → B) (xs : List X) (ys : List Y) → map f xs ≡ map u ys
    → map g xs ≡ map v ys → map (λ x. h (f x) (g x)) xs ≡ map (λ y. h (u y) (v y)) ys
map_both h f g u v [] [] p q = refl
map_both h f g u v [] (y ∷ ys) p q = cc
map_both h f g u v (x ∷ xs) [] p q = cc
map_both h f g u v (x ∷ xs) (y ∷ ys) p q =
    let a : f x ≡ u y = cc in
    let b : g x ≡ v y = cc in
    let c : map f xs ≡ map u ys = cc in
    let d : map g xs ≡ map v ys = cc in
    λ i. h (a i) (b i) ∷ map_both h f g u v xs ys c d i

-- ---- the netlist's

abbrev register_word : (fill : ℕ) → SizedCell → ℕ
register_word fill x = fill % 2 ^ x.width

abbrev memory_words : (fill : ℕ) → SizedCell → List ℕ
memory_words fill x = replicate (depth_in_cell x.cell) (fill % 2 ^ x.width)

begun : (cells : List SizedCell) (other : List Clock) (fill m width : ℕ) (cell : Cell) → BeginsWith cells (filled cells fill) other → 0 < length other
    → slice_get cells m ≡ Some (record { width = width; cell = cell }) → is_state_cell cell ≡ true
    → cell_words cell (word_at other 0 m) (store_at other 0 m) ≡ first_words fill width (cell_depth cell)
begun cells other fill m width (Input port) h some at is = cc
begun cells other fill m width (Const k) h some at is = cc
begun cells other fill m width (Op op args) h some at is = cc
begun cells other fill m width (Reg next) h some at is =
    let x : SizedCell = record { width = width; cell = Reg next } in
    let among : slice_get (cells_of is_register cells) (number_of is_register cells m) ≡ Some x = filter_at
    (λ (y : SizedCell). is_register y.cell) cells m x at refl in
    let word : word_at other 0 m ≡ fill % 2 ^ width =
    h.registers m x some at refl
    ∙ get_or_from_slice_get (map (register_word fill) (cells_of is_register cells)) (number_of is_register cells m) (register_word fill x) 0
    (mapped_at (register_word fill) (cells_of is_register cells) (number_of is_register cells m) x among) in
    ap (λ w. w ∷ []) word
begun cells other fill m width (Mem depth at next enable) h some there is =
    let x : SizedCell = record { width = width; cell = Mem depth at next enable } in
    let among : slice_get (cells_of is_memory cells) (number_of is_memory cells m) ≡ Some x = filter_at
    (λ (y : SizedCell). is_memory y.cell) cells m x there refl in
    h.memories m x some there refl
    ∙ get_or_from_slice_get (map (memory_words fill) (cells_of is_memory cells)) (number_of is_memory cells m) (memory_words fill x) []
    (mapped_at (memory_words fill) (cells_of is_memory cells) (number_of is_memory cells m) x among)
begun cells other fill m width (Peek mem at) h some there is = cc

-- ---- the module's

-- where the netlist begins with the fill, its registers and memories hold the first words of the module's
pub net_begins : (m : ModuleTree) (n : Circuit) (other : List Clock) (fill : ℕ) → HasSameRuns m n → BeginsWith n.cells (filled n.cells fill) other
    → 0 < length other
    → net_held_words n other 0 ≡ map (λ (x : NetTree). first_words fill x.width (kind_depth x.kind)) (states_of m)
net_begins m n other fill same h there =
    let held : ℕ × SizedCell → List ℕ = λ x. cell_words x.1.cell (word_at other 0 x.0) (store_at other 0 x.0) in
    let first : ℕ × SizedCell → List ℕ = λ x. first_words fill x.1.width (cell_depth x.1.cell) in
    let wide : ℕ × SizedCell → ℕ = λ x. x.1.width in
    let deep : ℕ × SizedCell → Option ℕ = λ x. cell_depth x.1.cell in
    let width : NetTree → ℕ = λ x. x.width in
    let depth : NetTree → Option ℕ = λ x. kind_depth x.kind in
    let each : (k : ℕ) (c : SizedCell) → slice_get n.cells k ≡ Some c → is_state_cell c.cell ≡ true → held (0 + k, c) ≡ first (0 + k, c) =
    λ k c at is. (let z : k ≡ 0 + k = omega arith in ap (λ i. held (i, c)) (sym z) ∙ begun n.cells other fill k c.width c.cell h there at is) in
    map_cells held first 0 n.cells each
    ∙ sym (map_both (first_words fill) width depth wide deep (states_of m) (state_cells n.cells) same.widths same.depths)

pub begins : (m : ModuleTree) (n : Circuit) (run : List ModuleClock) (other : List Clock) (fill : ℕ) → HasSameRuns m n → BeginAlike m n run other
    → BeginsWith n.cells (filled n.cells fill) other → 0 < length run
    → held_words m (clock_at run 0) ≡ map (λ (x : NetTree). first_words fill x.width (kind_depth x.kind)) (states_of m)
begins m n run other fill same alike h some = alike.first some ∙ net_begins m n other fill same h (omega (arith, some, alike.long))
