-- A netlist that realizes a module has its runs.
use Rattle.std.proofs.Common.{ℕ, suc, slice_get, ◌≡◌, ◌+◌, ◌<◌, ◌^◌, inl, inr, Bool, true, false, List, [], ◌∷◌, length, map, All, Option, Some, None, get_or, arith, refl, sym, ap, ◌∙◌, subst}
use Rattle.std.specs.Prelude.{◌&&◌, ◌||◌, not}
use Rattle.std.specs.List.{enumerate_from}
use Rattle.std.proofs.lemmas.Bool.{and_parts, and_from, not_from_true, not_from_false, false_from_ne_true, both_ways}
use Rattle.std.proofs.lemmas.List.{get_or-map, length-map}
use Rattle.std.proofs.lemmas.Option.{unwrap_or-slice_get}
use Rattle.ae_netlist.proofs.ReadAt.{store_got, word_got}
use Rattle.std.proofs.lemmas.Simd.{map-map}
use Rattle.ae_netlist.specs.declared.cell.Cell.{Cell}
use Rattle.ae_netlist.specs.declared.cell.Cell.TheVariants.{Input, Const, Op, Reg, Mem, Peek}
use Rattle.ae_netlist.specs.declared.cell.SizedCell.{SizedCell}
use Rattle.ae_netlist.specs.declared.cell.Outlet.{Outlet}
use Rattle.ae_netlist.specs.Circuit as circuit
use Rattle.ae_netlist.specs.Runs as netlist
use Rattle.ae_netlist.proofs.Shapes.{each_shaped}
use Rattle.ae_vmodule.specs.declared.module.NetKind.{NetKind}
use Rattle.ae_vmodule.specs.declared.module.NetKind.TheVariants.{Input as InputName, Wire, OutWire, Reg as RegName, OutReg, Memory}
use Rattle.ae_vmodule.specs.ModuleTree.{NetTree, ModuleTree}
use Rattle.ae_judge.specs.Names.{Among, is_input_kind, is_register_kind, is_memory_kind, is_output_kind, is_clock}
use Rattle.ae_runs.specs.Values.{ModuleClock}
use Rattle.ae_runs.specs.Runs.{idle_clock, clock_at, FitsKind, IsModuleShaped, IsModuleRun, ModuleAgreesAt, IsModuleRunOn, SameAt}
use Rattle.ae_judge.specs.Faults.{IsWellFormed}
use Rattle.ae_runs.specs.Named.{StandsFor}
use Rattle.ae_runs.specs.SameRuns.{inputs_of, outputs_of, states_of, is_input_cell, is_state_cell, input_cells, state_cells, kind_depth, cell_depth, kind_words, cell_words, input_words, output_words, held_words, net_input_words, net_held_words, BeginAlike, HaveEqualOutputs, HasSameRuns}
use Rattle.ae_runs.specs.Realizes.{Realizes}
use Rattle.ae_runs.proofs.Once.{only_one}
use Rattle.ae_runs.proofs.Laid.{FitInputs, FitsCell, FitStates, laid_clock, laid_shaped, laid_words}
use Rattle.ae_runs.proofs.Pairwise.{among_filter, filter_among, map_each, each_map}
use Rattle.ae_runs.proofs.Declared.{regular}
use Rattle.ae_runs.proofs.Clocks.{no_input_no_clock, output_no_input}
use Rattle.ae_runs.proofs.ReadRuns.{by_name, by_name_length, by_name_at, by_name_run}

-- what a state holds, by its depth
abbrev words_by : Option ℕ → ℕ → List ℕ → List ℕ
words_by None word store = word ∷ []
words_by (Some depth) word store = store

kind_by_depth : (k : NetKind) (w : ℕ) (s : List ℕ) → kind_words k w s ≡ words_by (kind_depth k) w s
kind_by_depth InputName w s = refl
kind_by_depth Wire w s = refl
kind_by_depth OutWire w s = refl
kind_by_depth RegName w s = refl
kind_by_depth OutReg w s = refl
kind_by_depth (Memory depth) w s = refl

cell_by_depth : (c : Cell) (w : ℕ) (s : List ℕ) → words_by (cell_depth c) w s ≡ cell_words c w s
cell_by_depth (Input port) w s = refl
cell_by_depth (Const k) w s = refl
cell_by_depth (Op op args) w s = refl
cell_by_depth (Reg next) w s = refl
cell_by_depth (Mem depth at next enable) w s = refl
cell_by_depth (Peek mem at) w s = refl

module _ (m : ModuleTree) (n : circuit.Circuit) (at : List ℕ → ℕ) (ok : IsWellFormed m) (r : Realizes m n at) where
  -- the words of the inputs, of the outputs and of the states, read by name
  inputs_read : (f : ℕ → ℕ → ℕ) → map (λ (x : NetTree). f (at x.name) x.width) (inputs_of m) ≡ map (λ (x : ℕ × SizedCell). f x.0 x.1.width)
      (input_cells n.cells)
  inputs_read f =
      sym (map-map (λ (p : ℕ × ℕ). f p.0 p.1) (λ (x : NetTree). let p : ℕ × ℕ = (at x.name, x.width) in p) (inputs_of m))
      ∙ (ap (map (λ (p : ℕ × ℕ). f p.0 p.1)) r.inputs ∙ map-map (λ (p : ℕ × ℕ). f p.0 p.1) (λ (x : ℕ × SizedCell). let p : ℕ × ℕ = (x.0, x.1.width) in p)
      (input_cells n.cells))

  outputs_read : {X : Type 0} (f : ℕ → X) → map (λ (x : NetTree). f (at x.name)) (outputs_of m) ≡ map (λ (o : Outlet). f o.net.0) n.outlets
  outputs_read f = sym (map-map f (λ (x : NetTree). at x.name) (outputs_of m)) ∙ (ap (map f) r.outputs ∙ map-map f (λ (o : Outlet). o.net.0) n.outlets)

  states_read : {X : Type 0} (f : ℕ → ℕ → Option ℕ → X)
      → map (λ (x : NetTree). f (at x.name) x.width (kind_depth x.kind)) (states_of m) ≡ map (λ (x : ℕ × SizedCell). f x.0 x.1.width (cell_depth x.1.cell))
      (state_cells n.cells)
  states_read f =
      sym (map-map (λ (p : ℕ × ℕ × Option ℕ). f p.0 p.1 p.2) (λ (x : NetTree). let p : ℕ × ℕ × Option ℕ = (at x.name, x.width, kind_depth x.kind) in p)
      (states_of m))
      ∙ (ap (map (λ (p : ℕ × ℕ × Option ℕ). f p.0 p.1 p.2)) r.states ∙
      map-map (λ (p : ℕ × ℕ × Option ℕ). f p.0 p.1 p.2) (λ (x : ℕ × SizedCell). let p : ℕ × ℕ × Option ℕ = (x.0, x.1.width, cell_depth x.1.cell) in p)
      (state_cells n.cells))

  held_read : (w : ℕ → ℕ) (s : ℕ → List ℕ) → map (λ (x : NetTree). kind_words x.kind (w (at x.name)) (s (at x.name))) (states_of m) ≡ map
      (λ (x : ℕ × SizedCell). cell_words x.1.cell (w x.0) (s x.0)) (state_cells n.cells)
  held_read w s =
      each_map (λ (x : NetTree). kind_words x.kind (w (at x.name)) (s (at x.name)))
      (λ (x : NetTree). words_by (kind_depth x.kind) (w (at x.name)) (s (at x.name))) (states_of m)
      (λ x a. kind_by_depth x.kind (w (at x.name)) (s (at x.name)))
      ∙ (states_read (λ net width depth. words_by depth (w net) (s net))
      ∙ each_map (λ (x : ℕ × SizedCell). words_by (cell_depth x.1.cell) (w x.0) (s x.0)) (λ (x : ℕ × SizedCell). cell_words x.1.cell (w x.0) (s x.0))
      (state_cells n.cells) (λ x a. cell_by_depth x.1.cell (w x.0) (s x.0)))

  -- the run by name begins alike and has the same outputs
  name_alike : (other : List netlist.Clock) → BeginAlike m n (by_name m n at r other) other
  name_alike other =
      let long = by_name_length m n at r other in
      record {
        long = long;
        inputs = λ t l. ap (input_words m) (by_name_at m n at r other t (omega arith)) ∙ inputs_read (λ net width. netlist.word_at other t net);
        first = λ l. ap (held_words m) (by_name_at m n at r other 0 (omega arith)) ∙ held_read (netlist.word_at other 0) (netlist.store_at other 0);
      }

  name_outputs : (other : List netlist.Clock) → HaveEqualOutputs m n (by_name m n at r other) other
  name_outputs other =
      let long = by_name_length m n at r other in
      record { outputs = λ t l. ap (output_words m) (by_name_at m n at r other t (omega arith)) ∙ outputs_read (netlist.word_at other t) }

  -- an output has one word
  output_same : (k : NetKind) (w v : ℕ) (s u : List ℕ) → is_output_kind k ≡ true → SameAt k w v s u → w ≡ v
  output_same InputName w v s u h e = absurd (cc)
  output_same Wire w v s u h e = absurd (cc)
  output_same OutWire w v s u h e = e
  output_same RegName w v s u h e = absurd (cc)
  output_same OutReg w v s u h e = e
  output_same (Memory depth) w v s u h e = absurd (cc)

  -- clocks with equal words at the inputs, and first clocks with equal words in the states, agree
  module _ (c d : ModuleClock) where
    word_of_held : (x : NetTree) → kind_depth x.kind ≡ None
        → kind_words x.kind (c.word x.name) (c.store x.name) ≡ kind_words x.kind (d.word x.name) (d.store x.name) → c.word x.name ≡ d.word x.name
    word_of_held x none h =
        let e : words_by (kind_depth x.kind) (c.word x.name) (c.store x.name) ≡ words_by (kind_depth x.kind) (d.word x.name) (d.store x.name) = sym
        (kind_by_depth x.kind _ _) ∙ (h ∙ kind_by_depth x.kind _ _) in
        let f : (c.word x.name ∷ []) ≡ (d.word x.name ∷ []) = subst
        (λ o. words_by o (c.word x.name) (c.store x.name) ≡ words_by o (d.word x.name) (d.store x.name)) none e in
        ap (λ l. get_or l 0 0) f

    store_of_held : (x : NetTree) (depth : ℕ) → kind_depth x.kind ≡ Some depth
        → kind_words x.kind (c.word x.name) (c.store x.name) ≡ kind_words x.kind (d.word x.name) (d.store x.name) → c.store x.name ≡ d.store x.name
    store_of_held x depth some h =
        let e : words_by (kind_depth x.kind) (c.word x.name) (c.store x.name) ≡ words_by (kind_depth x.kind) (d.word x.name) (d.store x.name) = sym
        (kind_by_depth x.kind _ _) ∙ (h ∙ kind_by_depth x.kind _ _) in
        subst (λ o. words_by o (c.word x.name) (c.store x.name) ≡ words_by o (d.word x.name) (d.store x.name)) some e

    input_agree : (x : NetTree) → input_words m c ≡ input_words m d → Among x m.nets → is_input_kind x.kind ≡ true → is_clock m x.name ≡ false
        → c.word x.name ≡ d.word x.name
    input_agree x h a is held =
        map_each (λ (x : NetTree). c.word x.name) (λ (x : NetTree). d.word x.name) (inputs_of m) h x
        (filter_among (λ (x : NetTree). is_input_kind x.kind && not (is_clock m x.name)) x m.nets a (and_from _ _ is (not_from_false _ held)))

    state_agree : (x : NetTree) → held_words m c ≡ held_words m d → Among x m.nets → is_register_kind x.kind || is_memory_kind x.kind ≡ true
        → kind_words x.kind (c.word x.name) (c.store x.name) ≡ kind_words x.kind (d.word x.name) (d.store x.name)
    state_agree x h a is =
        map_each (λ (x : NetTree). kind_words x.kind (c.word x.name) (c.store x.name)) (λ (x : NetTree). kind_words x.kind (d.word x.name) (d.store x.name))
        (states_of m) h x
        (filter_among (λ (x : NetTree). is_register_kind x.kind || is_memory_kind x.kind) x m.nets a is)

    agree_by : (t : ℕ) (x : NetTree) (k : NetKind) → x.kind ≡ k → input_words m c ≡ input_words m d → (t ≡ 0 → held_words m c ≡ held_words m d)
        → Among x m.nets → is_clock m x.name ≡ false
        → ModuleAgreesAt k t (c.word x.name) (d.word x.name) (c.store x.name) (d.store x.name)
    agree_by t x InputName is h g a held = input_agree x h a (ap is_input_kind is) held
    agree_by t x Wire is h g a held = tt
    agree_by t x OutWire is h g a held = tt
    agree_by t x RegName is h g a held = λ z. word_of_held x (ap kind_depth is) (state_agree x (g z) a (ap (λ k. is_register_kind k || is_memory_kind k) is))
    agree_by t x OutReg is h g a held = λ z. word_of_held x (ap kind_depth is) (state_agree x (g z) a (ap (λ k. is_register_kind k || is_memory_kind k) is))
    agree_by t x (Memory depth) is h g a held = λ z. store_of_held x depth (ap kind_depth is)
        (state_agree x (g z) a (ap (λ k. is_register_kind k || is_memory_kind k) is))

  -- a run of the module and one of the netlist that begin alike have equal outputs
  equal : (run : List ModuleClock) (other : List netlist.Clock) → IsModuleRun m run → netlist.IsRun n.cells other → BeginAlike m n run other
      → HaveEqualOutputs m n run other
  equal run other p q b =
      let named = by_name m n at r other in
      let long : length named ≡ length other = by_name_length m n at r other in
      let alike = name_alike other in
      let here : length run ≡ length other = b.long in
      let itself : IsModuleRunOn m run run = record {
        long = refl;
        runs = p;
        agrees = λ t l. record { same = λ x a held. agree_by (clock_at run t) (clock_at run t) t x x.kind refl refl (λ z. refl) a held };
      } in
      let read_back : IsModuleRunOn m run named = record {
        long = long ∙ sym here;
        runs = by_name_run m n at r other q;
        agrees = λ t l. record {
          same = λ x a held. agree_by (clock_at named t) (clock_at run t) t x x.kind refl
              (alike.inputs t (omega arith) ∙ sym (b.inputs t l))
              (λ z. subst (λ i. held_words m (clock_at named i) ≡ held_words m (clock_at run i)) (sym z)
              (alike.first (omega arith) ∙ sym (b.first (omega arith)))) a held;
        };
      } in
      record {
        outputs = λ t l.
            let same = only_one m ok run named run read_back itself t l in
            each_map (λ (x : NetTree). (clock_at run t).word x.name) (λ (x : NetTree). (clock_at named t).word x.name) (outputs_of m)
            (λ x a.
            let k = among_filter (λ (x : NetTree). is_output_kind x.kind) x m.nets a in
            output_same x.kind _ _ _ _ k.1 (same.same x k.0 (no_input_no_clock m (regular ok) x k.0 (output_no_input x.kind k.1))))
            ∙ (name_outputs other).outputs t (omega arith);
      }

input_holds : (k : NetKind) (width w : ℕ) (s : List ℕ) → is_input_kind k ≡ true → FitsKind k width w s → w < 2 ^ width
input_holds InputName width w s is h = h
input_holds Wire width w s is h = absurd (cc)
input_holds OutWire width w s is h = absurd (cc)
input_holds RegName width w s is h = absurd (cc)
input_holds OutReg width w s is h = absurd (cc)
input_holds (Memory depth) width w s is h = absurd (cc)

state_no_input : (k : NetKind) → is_register_kind k || is_memory_kind k ≡ true → is_input_kind k ≡ false
state_no_input InputName h = absurd (cc)
state_no_input Wire h = refl
state_no_input OutWire h = refl
state_no_input RegName h = refl
state_no_input OutReg h = refl
state_no_input (Memory depth) h = refl

true_not : (b : Bool) → not b ≡ true → b ≡ false
true_not b h = false_from_ne_true b (λ t. both_ways _ (not_from_true b t) h)

net_wide : (cells : List SizedCell) (net width : ℕ) → circuit.IsNet cells net width → width ≡ circuit.width_of cells net
unfolding circuit.width_of
net_wide cells net width h = sym h.wide ∙ sym (ap circuit.width_in h.found)

output_wide : (k : NetKind) (cells : List SizedCell) (net width : ℕ) → is_output_kind k ≡ true → StandsFor k cells net width
    → width ≡ circuit.width_of cells net
output_wide InputName cells net width is s = absurd (cc)
output_wide Wire cells net width is s = absurd (cc)
output_wide OutWire cells net width is s = net_wide cells net width s
output_wide RegName cells net width is s = absurd (cc)
output_wide OutReg cells net width is s = net_wide cells net width s
output_wide (Memory depth) cells net width is s = absurd (cc)

-- what fits a state of this depth
abbrev FitsBy : Option ℕ → ℕ → List ℕ → Type 0
FitsBy None width s = (w : ℕ) × (s ≡ w ∷ []) × (w < 2 ^ width)
FitsBy (Some depth) width s = (length s ≡ depth) × All (λ v. v < 2 ^ width) s

fits_kind : (k : NetKind) (width w : ℕ) (s : List ℕ) → FitsKind k width w s → FitsBy (kind_depth k) width (kind_words k w s)
fits_kind InputName width w s h = (w, refl, h)
fits_kind Wire width w s h = (w, refl, h)
fits_kind OutWire width w s h = (w, refl, h)
fits_kind RegName width w s h = (w, refl, h)
fits_kind OutReg width w s h = (w, refl, h)
fits_kind (Memory depth) width w s h = h

fits_cell : (c : Cell) (width : ℕ) (s : List ℕ) → FitsBy (cell_depth c) width s → FitsCell c width s
fits_cell (Input port) width s h = h
fits_cell (Const k) width s h = h
fits_cell (Op op args) width s h = h
fits_cell (Reg next) width s h = h
fits_cell (Mem depth at next enable) width s h = h
fits_cell (Peek mem at) width s h = h

fit_inputs : (f : NetTree → ℕ) (xs : List NetTree) (ps : List (ℕ × SizedCell)) → map (λ (x : NetTree). x.width) xs ≡ map (λ (x : ℕ × SizedCell). x.1.width) ps
    → ((x : NetTree) → Among x xs → f x < 2 ^ x.width) → FitInputs ps (map f xs)
fit_inputs f [] [] e h = tt
fit_inputs f [] (p ∷ ps) e h = absurd (cc)
fit_inputs f (x ∷ xs) [] e h = absurd (cc)
fit_inputs f (x ∷ xs) (p ∷ ps) e h = (
  subst (λ w. f x < 2 ^ w) (let s : x.width ≡ p.1.width = cc in s) (h x (inl refl)),
  fit_inputs f xs ps (let t : map (λ (x : NetTree). x.width) xs ≡ map (λ (x : ℕ × SizedCell). x.1.width) ps = cc in t) (λ y a. h y (inr a)),
)

fit_states : (f : NetTree → List ℕ) (xs : List NetTree) (ps : List (ℕ × SizedCell))
    → map (λ (x : NetTree). x.width) xs ≡ map (λ (x : ℕ × SizedCell). x.1.width) ps
    → map (λ (x : NetTree). kind_depth x.kind) xs ≡ map (λ (x : ℕ × SizedCell). cell_depth x.1.cell) ps
    → ((x : NetTree) → Among x xs → FitsBy (kind_depth x.kind) x.width (f x)) → FitStates ps (map f xs)
fit_states f [] [] e d h = tt
fit_states f [] (p ∷ ps) e d h = absurd (cc)
fit_states f (x ∷ xs) [] e d h = absurd (cc)
fit_states f (x ∷ xs) (p ∷ ps) e d h = (
  fits_cell p.1.cell p.1.width (f x)
      (subst (λ w. FitsBy (cell_depth p.1.cell) w (f x)) (let s : x.width ≡ p.1.width = cc in s)
      (subst (λ o. FitsBy o x.width (f x)) (let s : kind_depth x.kind ≡ cell_depth p.1.cell = cc in s) (h x (inl refl)))),
  fit_states f xs ps (let t : map (λ (x : NetTree). x.width) xs ≡ map (λ (x : ℕ × SizedCell). x.1.width) ps = cc in t)
      (let t : map (λ (x : NetTree). kind_depth x.kind) xs ≡ map (λ (x : ℕ × SizedCell). cell_depth x.1.cell) ps = cc in t) (λ y a. h y (inr a)),
)

-- a numbered cell stands at its number
numbered_at : (k : ℕ) (cells : List SizedCell) (x : ℕ × SizedCell) → Among x (enumerate_from k cells) → (j : ℕ) × (x.0 ≡ k + j) × (slice_get cells j ≡ Some x.1)
numbered_at k [] x a = absurd a
numbered_at k (c ∷ cells) x a = elim a [
  | inl e ↦ (0, sym (ap (λ (p : ℕ × SizedCell). p.0) e) ∙ (let z : k ≡ k + 0 = omega arith in z), ap (λ (p : ℕ × SizedCell). Some p.1) e)
  | inr later ↦ let r = numbered_at (k + 1) cells x later in (suc r.0, r.1 ∙ (let z : k + 1 + r.0 ≡ k + suc r.0 = omega arith in z), r.2)
]

cell_at : (cells : List SizedCell) (x : ℕ × SizedCell) → Among x (enumerate_from 0 cells) → slice_get cells x.0 ≡ Some x.1
cell_at cells x a =
    let r = numbered_at 0 cells x a in
    subst (λ j. slice_get cells j ≡ Some x.1) (let z : r.0 ≡ x.0 = omega arith in z) r.2

input_agrees : (c : Cell) (given run : List netlist.Clock) (t net : ℕ) → is_input_cell c ≡ true → netlist.AgreesAt given run t net c
    → netlist.word_at run t net ≡ netlist.word_at given t net
input_agrees (Input port) given run t net is a = a
input_agrees (Const k) given run t net is a = absurd (cc)
input_agrees (Op op args) given run t net is a = absurd (cc)
input_agrees (Reg next) given run t net is a = absurd (cc)
input_agrees (Mem depth at next enable) given run t net is a = absurd (cc)
input_agrees (Peek mem at) given run t net is a = absurd (cc)

state_agrees : (c : Cell) (given run : List netlist.Clock) (net : ℕ) → is_state_cell c ≡ true → netlist.AgreesAt given run 0 net c
    → cell_words c (netlist.word_at run 0 net) (netlist.store_at run 0 net) ≡ cell_words c (netlist.word_at given 0 net) (netlist.store_at given 0 net)
state_agrees (Input port) given run net is a = absurd (cc)
state_agrees (Const k) given run net is a = absurd (cc)
state_agrees (Op op args) given run net is a = absurd (cc)
state_agrees (Reg next) given run net is a = ap (λ w. w ∷ []) (a refl)
state_agrees (Mem depth at next enable) given run net is a = a refl
state_agrees (Peek mem at) given run net is a = absurd (cc)

module _ (m : ModuleTree) (n : circuit.Circuit) (at : List ℕ → ℕ) (ok : IsWellFormed m) (r : Realizes m n at) where
  -- a clock of the module, laid out for the netlist
  abbrev laid_by : ModuleClock → netlist.Clock
  laid_by c = laid_clock n.cells (input_words m c) (held_words m c)

  fit_words : (c : ModuleClock) → IsModuleShaped m c → FitInputs (input_cells n.cells) (input_words m c)
  fit_words c s =
      fit_inputs (λ (x : NetTree). c.word x.name) (inputs_of m) (input_cells n.cells) (inputs_read m n at ok r (λ net width. width))
      (λ x a.
      let k = among_filter (λ (x : NetTree). is_input_kind x.kind && not (is_clock m x.name)) x m.nets a in
      let p = and_parts _ _ k.1 in
      input_holds x.kind x.width (c.word x.name) (c.store x.name) p.0 (s.holds x k.0 (true_not _ p.1)))

  fit_held : (c : ModuleClock) → IsModuleShaped m c → FitStates (state_cells n.cells) (held_words m c)
  fit_held c s =
      fit_states (λ (x : NetTree). kind_words x.kind (c.word x.name) (c.store x.name)) (states_of m) (state_cells n.cells)
      (states_read m n at ok r (λ net width depth. width)) (states_read m n at ok r (λ net width depth. depth))
      (λ x a.
      let k = among_filter (λ (x : NetTree). is_register_kind x.kind || is_memory_kind x.kind) x m.nets a in
      fits_kind x.kind x.width (c.word x.name) (c.store x.name) (s.holds x k.0 (no_input_no_clock m (regular ok) x k.0 (state_no_input x.kind k.1))))

  module _ (run : List ModuleClock) (p : IsModuleRun m run) where
    abbrev laid_run : List netlist.Clock
    laid_run = map laid_by run

    laid_run_at : (t : ℕ) → t < length run → get_or laid_run t netlist.no_clock ≡ laid_by (clock_at run t)
    laid_run_at t l = get_or-map laid_by run t idle_clock netlist.no_clock l ∙ ap laid_by (sym (unwrap_or-slice_get run t idle_clock))

    laid_long : length laid_run ≡ length run
    laid_long = length-map run laid_by

    laid_run_shaped : (t : ℕ) → t < length laid_run → netlist.IsShaped n.cells (get_or laid_run t netlist.no_clock)
    laid_run_shaped t l =
        let e = laid_long in
        let here : t < length run = omega arith in
        let s = p.shaped t here in
        subst (netlist.IsShaped n.cells) (sym (laid_run_at t here))
        (laid_shaped n.cells (input_words m (clock_at run t)) (held_words m (clock_at run t)) (fit_words (clock_at run t) s) (fit_held (clock_at run t) s))

    laid_run_words : (t : ℕ) → t < length run → (net_input_words n laid_run t ≡ input_words m (clock_at run t))
        × (net_held_words n laid_run t ≡ held_words m (clock_at run t))
    laid_run_words t l =
        let s = p.shaped t l in
        let here : netlist.Clock = laid_by (clock_at run t) in
        let word : (k : ℕ) → netlist.word_at laid_run t k ≡ get_or here.words k 0 =
        λ k. word_got laid_run t k ∙ ap (λ (c : netlist.Clock). get_or c.words k 0) (laid_run_at t l) in
        let store : (k : ℕ) → netlist.store_at laid_run t k ≡ get_or here.stores k [] =
        λ k. store_got laid_run t k ∙ ap (λ (c : netlist.Clock). get_or c.stores k []) (laid_run_at t l) in
        let laid = laid_words n.cells (input_words m (clock_at run t)) (held_words m (clock_at run t)) (fit_words (clock_at run t) s)
        (fit_held (clock_at run t) s) in (
          each_map (λ (x : ℕ × SizedCell). netlist.word_at laid_run t x.0) (λ (x : ℕ × SizedCell). get_or here.words x.0 0) (input_cells n.cells)
              (λ x a. word x.0) ∙ laid.0,
          each_map (λ (x : ℕ × SizedCell). cell_words x.1.cell (netlist.word_at laid_run t x.0) (netlist.store_at laid_run t x.0))
              (λ (x : ℕ × SizedCell). cell_words x.1.cell (get_or here.words x.0 0) (get_or here.stores x.0 [])) (state_cells n.cells)
              (λ x a. rw (word x.0, store x.0) refl) ∙ laid.1,
        )

    begins : (other : List netlist.Clock) → netlist.IsRunOn n.cells laid_run other → BeginAlike m n run other
    begins other o =
        let e = laid_long in
        let long : length other ≡ length laid_run = o.long in
        record {
          long = omega arith;
          inputs = λ t l.
              sym (laid_run_words t l).0 ∙ sym (each_map (λ (x : ℕ × SizedCell). netlist.word_at other t x.0)
              (λ (x : ℕ × SizedCell). netlist.word_at laid_run t x.0) (input_cells n.cells)
              (λ x a.
              let k = among_filter (λ (x : ℕ × SizedCell). is_input_cell x.1.cell) x (enumerate_from 0 n.cells) a in
              input_agrees x.1.cell laid_run other t x.0 k.1 (o.agrees.same t x.0 x.1 (omega arith) (cell_at n.cells x k.0))));
          first = λ l.
              sym (laid_run_words 0 l).1 ∙ sym (each_map (λ (x : ℕ × SizedCell). cell_words x.1.cell (netlist.word_at other 0 x.0)
              (netlist.store_at other 0 x.0)) (λ (x : ℕ × SizedCell). cell_words x.1.cell (netlist.word_at laid_run 0 x.0)
              (netlist.store_at laid_run 0 x.0)) (state_cells n.cells)
              (λ x a.
              let k = among_filter (λ (x : ℕ × SizedCell). is_state_cell x.1.cell) x (enumerate_from 0 n.cells) a in
              state_agrees x.1.cell laid_run other x.0 k.1 (o.agrees.same 0 x.0 x.1 (omega arith) (cell_at n.cells x k.0))));
        }

    of_module : netlist.HasOneRun n.cells → (other : List netlist.Clock) × netlist.IsRun n.cells other × BeginAlike m n run other
        × HaveEqualOutputs m n run other
    of_module one =
        let made = one laid_run (each_shaped n.cells laid_run laid_run_shaped) in
        let alike = begins made.0 made.1 in
        (made.0, made.1.runs, alike, equal m n at ok r run made.0 p made.1.runs alike)

  output_widths : map (λ (x : NetTree). x.width) (outputs_of m) ≡ map (λ (o : Outlet). circuit.width_of n.cells o.net.0) n.outlets
  output_widths =
      each_map (λ (x : NetTree). x.width) (λ (x : NetTree). circuit.width_of n.cells (at x.name)) (outputs_of m)
      (λ x a.
      let k = among_filter (λ (x : NetTree). is_output_kind x.kind) x m.nets a in
      output_wide x.kind n.cells (at x.name) x.width k.1 (r.stands x k.0 (no_input_no_clock m (regular ok) x k.0 (output_no_input x.kind k.1))))
      ∙ outputs_read m n at ok r (circuit.width_of n.cells)

  pub realized : netlist.HasOneRun n.cells → HasSameRuns m n
  realized one = record {
    inputs = inputs_read m n at ok r (λ net width. width);
    outputs = output_widths;
    widths = states_read m n at ok r (λ net width depth. width);
    depths = states_read m n at ok r (λ net width depth. depth);
    equal = equal m n at ok r;
    of_module = λ run p. of_module run p one;
    of_netlist = λ other p. (by_name m n at r other, by_name_run m n at r other p, name_alike m n at ok r other, name_outputs m n at ok r other);
  }
