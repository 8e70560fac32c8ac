-- The wave of a module's run is one that can be written.
use Rattle.std.proofs.Common.{ℕ, zero, suc, ◌≡◌, ◌+◌, ◌*◌, ◌^◌, ◌<◌, ◌≤◌, ◌==◌, ◌&&◌, inl, inr, Bool, true, false, if◌then◌else◌, List, [], ◌∷◌, ◌++◌, length, length-append, map, flat_map, get_or, Some, slice_get, bytes_eq, codes, arith, refl, ap, sym, ◌∙◌, subst}
use Rattle.std.specs.Prelude.{All, IsTrue, not, unwrap_or}
use Rattle.std.specs.List.{list_all, range_with_len}
use Rattle.std.specs.Fmt.{decimal}
use Rattle.std.proofs.lemmas.List.{length-map, map-append}
use Rattle.std.proofs.lemmas.List.Concat.{flat_map-cons}
use Rattle.std.proofs.lemmas.List.Folds.{list_all-append}
use Rattle.std.proofs.lemmas.Option.{get_or_from_slice_get, unwrap_or-slice_get}
use Rattle.ae_eval.proofs.Items.{entry-at}
use Rattle.ae_netlist.specs.declared.cell.Handshake.{Handshake}
use Rattle.ae_netlist.specs.declared.cell.Handshake.TheVariants.{SourceValid, SourceReady, SinkValid, SinkReady}
use Rattle.ae_netlist.specs.declared.cell.Port.{Port}
use Rattle.ae_netlist.specs.declared.cell.Port.TheVariants.{Reset, Enable, Stream, In, Out, Plain}
use Rattle.ae_netlist.specs.declared.cell.Cell.{Cell}
use Rattle.ae_netlist.specs.declared.cell.Cell.TheVariants.{Input, Const, Op, Reg, Mem, Peek}
use Rattle.ae_netlist.specs.declared.cell.SizedCell.{SizedCell}
use Rattle.ae_netlist.specs.declared.cell.Outlet.{Outlet}
use Rattle.ae_netlist.specs.Circuit.{Circuit, width_of}
use Rattle.ae_vmodule.specs.declared.module.NetKind.{NetKind}
use Rattle.ae_vmodule.specs.declared.module.NetKind.TheVariants as kind
use Rattle.ae_vmodule.specs.ModuleTree.{ModuleTree, NetTree}
use Rattle.ae_judge.specs.Names.{Among, is_clock, is_input_kind, is_output_kind}
use Rattle.ae_judge.proofs.Members.{among_at, among_from, among_split, among_unflat, among_unmap}
use Rattle.ae_runs.specs.Values.{ModuleClock}
use Rattle.ae_runs.specs.Runs.{FitsKind, IsModuleRun, clock_at}
use Rattle.ae_runs.specs.SameRuns.{input_words, inputs_of, output_words, outputs_of}
use Rattle.ae_runs.proofs.Pairwise.{among_filter}
use Rattle.ae_verilog.specs.NetlistModule.{input_nets, netlist_module, output_net, port_name}
use Rattle.ae_verilog.specs.PortNets.{input_ports, port_nets}
use Rattle.ae_spelled.specs.ModulePorts.{ArePorts}
use Rattle.ae_verilog.specs.Text.{CellPortFits, PortFits}
use Rattle.ae_verilog.specs.Written.{IsWritableNetlist}
use Rattle.ae_play.specs.Words.{port_words}
use Rattle.ae_ports.proofs.Columns.{joined_word}
use Rattle.ae_correct.proofs.ModuleClock.{clocked, is_clk}
use Rattle.ae_correct.proofs.ModulePorts.{mapped_at}
use Rattle.ae_vcd.specs.Waves.{IsFormedWave, is_graphic, is_variable_name, most_variables, size_limit, wave_size, wave_word}
use Rattle.ae_vcd.proofs.Written.{decimal_read}
use Rattle.ae_jobs.specs.WaveTexts.{run_wave, variables_of}
use Rattle.ae_seq.proofs.Judging.{left as both_true}

-- ---- names of ports

abbrev graphic : List ℕ → Type 0
graphic bs = list_all is_graphic bs ≡ true

number : (n : ℕ) → n < 2 ^ 32 → graphic (decimal n)
number n h = (decimal_read n (omega (arith, h))).graphic

behind : (xs ys : List ℕ) → graphic xs → graphic ys → graphic (xs ++ ys)
behind xs ys a b = list_all-append is_graphic xs ys ∙ (λ i. a i && b i)

three : (a b c : ℕ) → a < 2 ^ 32 → b < 2 ^ 32 → c < 2 ^ 32 → graphic (decimal a ++ (codes "_" ++ (decimal b ++ (codes "_" ++ decimal c))))
three a b c x y z =
    behind (decimal a) (codes "_" ++ (decimal b ++ (codes "_" ++ decimal c))) (number a x)
    (behind (codes "_") (decimal b ++ (codes "_" ++ decimal c)) refl
    (behind (decimal b) (codes "_" ++ decimal c) (number b y) (behind (codes "_") (decimal c) refl (number c z))))

two : (b c : ℕ) → b < 2 ^ 32 → c < 2 ^ 32 → graphic (decimal b ++ (codes "_" ++ decimal c))
two b c y z = behind (decimal b) (codes "_" ++ decimal c) (number b y) (behind (codes "_") (decimal c) refl (number c z))

-- a name of a variable that is not the clock's
pub record IsPortName (n : List ℕ) : Type 0 where
  pub named : is_variable_name n ≡ true
  pub other : bytes_eq (codes "clk") n ≡ false

handshake_named : (outs : ℕ) (wire : Handshake) → IsPortName (port_name outs (Stream wire))
handshake_named outs SourceValid = record { named = refl; other = refl }
handshake_named outs SourceReady = record { named = refl; other = refl }
handshake_named outs SinkValid = record { named = refl; other = refl }
handshake_named outs SinkReady = record { named = refl; other = refl }

port_named : (outs : ℕ) (p : Port) → PortFits p → IsPortName (port_name outs p)
port_named outs Reset h = record { named = refl; other = refl }
port_named outs Enable h = record { named = refl; other = refl }
port_named outs (Stream wire) h = handshake_named outs wire
port_named outs (In param lane word) h = record { named = three param lane word h.0 h.1 h.2; other = refl }
port_named outs (Out result lane word) h = by (outs == 1)
  where
    by : (b : Bool) → IsPortName (if b then codes "o_" ++ (decimal lane ++ (codes "_" ++ decimal word)) else codes "o"
        ++ (decimal result ++ (codes "_" ++ (decimal lane ++ (codes "_" ++ decimal word)))))
    by true = record { named = two lane word h.1 h.2; other = refl }
    by false = record { named = three result lane word h.0 h.1 h.2; other = refl }
port_named outs (Plain k) h = record { named = number k h; other = refl }

-- ---- variables

pub record IsVariable (x : NetTree) : Type 0 where
  pub name : IsPortName x.name
  pub low : 1 ≤ x.width
  pub high : x.width ≤ 64

module _ (cells : List SizedCell) (outlets : List Outlet) (outs : ℕ) (ok : IsWritableNetlist cells outlets outs) where
  cell_fits : (k : ℕ) (sized : SizedCell) → slice_get cells k ≡ Some sized → CellPortFits sized.cell
  cell_fits k sized at = All-at (λ (s : SizedCell). CellPortFits s.cell) cells k sized at ok.inputs
    where
      All-at : {X : Type 0} (P : X → Type 0) (xs : List X) (k : ℕ) (x : X) → slice_get xs k ≡ Some x → All P xs → P x
      All-at P xs k x at all = subst P (get_or_from_slice_get xs k x x at) (all k x (within xs k x at))
        where
          within : {X : Type 0} (xs : List X) (k : ℕ) (x : X) → slice_get xs k ≡ Some x → k < length xs
          within [] k x h = cc
          within (y ∷ ys) zero x h = omega arith
          within (y ∷ ys) (suc k) x h = let r = within ys k x h in omega (arith, r)

  input_is : (width : ℕ) (cell : Cell) (x : NetTree) → CellPortFits cell → 1 ≤ width → width ≤ 64 → Among x (input_nets width cell) → IsVariable x
  input_is width (Input port) x fits low high a = elim a [
    | inl e ↦ subst IsVariable e (record { name = port_named 1 port fits; low = low; high = high })
    | inr none ↦ absurd none
  ]
  input_is width (Const v) x fits low high a = absurd a
  input_is width (Op op args) x fits low high a = absurd a
  input_is width (Reg next) x fits low high a = absurd a
  input_is width (Mem depth at next enable) x fits low high a = absurd a
  input_is width (Peek mem at) x fits low high a = absurd a

  output_is : (o : Outlet) → Among o outlets → IsVariable (output_net cells outs o)
  output_is o a =
      let found = among_at o outlets a in
      let net = ok.shown.each found.0 o found.1 in
      let fits = ok.formed.each o.net.0 net.sized net.found in
      let wide : net.sized.width ≡ width_of cells o.net.0 = net.wide in
      record { name = port_named outs o.port (port_fits found.0 found.1); low = omega (arith, fits.low, wide); high = omega (arith, fits.high, wide) }
    where
      port_fits : (k : ℕ) → slice_get outlets k ≡ Some o → PortFits o.port
      port_fits k at = subst (λ (y : Outlet). PortFits y.port) (get_or_from_slice_get outlets k o o at) (ok.outputs k o (within outlets k at))
        where
          within : (xs : List Outlet) (k : ℕ) → slice_get xs k ≡ Some o → k < length xs
          within [] k h = cc
          within (y ∷ ys) zero h = omega arith
          within (y ∷ ys) (suc k) h = let r = within ys k h in omega (arith, r)

  pub all_variables : (x : NetTree) → Among x (port_nets cells outlets outs) → IsVariable x
  all_variables x a = elim (among_split x (input_ports cells) (map (output_net cells outs) outlets) a) [
    | inl i ↦ (let r = among_unflat (λ (sized : SizedCell). input_nets sized.width sized.cell) x cells i in
        let fits = ok.formed.each r.0 r.1 r.2 in
        input_is r.1.width r.1.cell x (cell_fits r.0 r.1 r.2) fits.low fits.high r.3)
    | inr o ↦ (let r = among_unmap (output_net cells outs) x outlets o in subst IsVariable r.2 (output_is r.0 r.1))
  ]

-- ---- words

-- a number of a range
range_at : (a count k d : ℕ) → k < count → get_or (range_with_len a count) k d ≡ a + k
range_at a zero k d h = absurd (omega (arith, h))
range_at a (suc count) zero d h = omega arith
range_at a (suc count) (suc k) d h = let r = range_at (a + 1) count k d (omega (arith, h)) in omega (arith, r)

-- what is so of each element is so of what it is mapped to
all_mapped : {X Y : Type 0} (f : X → Y) (P : Y → Type 0) (xs : List X) → ((x : X) → Among x xs → P (f x)) → All P (map f xs)
all_mapped f P xs h k d within =
    let e = entry-at xs k (omega (arith, within, length-map xs f)) in
    subst P (sym (get_or_from_slice_get (map f xs) k (f e.0) d (mapped_at f xs k e.0 e.1))) (h e.0 (among_from e.0 xs k e.1))

plain_input : (k : NetKind) (width word : ℕ) (store : List ℕ) → is_input_kind k ≡ true → FitsKind k width word store → word < 2 ^ width
plain_input kind.Input width word store e h = h
plain_input kind.Wire width word store e h = h
plain_input kind.OutWire width word store e h = h
plain_input kind.Reg width word store e h = h
plain_input kind.OutReg width word store e h = h
plain_input (kind.Memory depth) width word store e h = cc

plain_output : (k : NetKind) (width word : ℕ) (store : List ℕ) → is_output_kind k ≡ true → FitsKind k width word store → word < 2 ^ width
plain_output kind.Input width word store e h = h
plain_output kind.Wire width word store e h = h
plain_output kind.OutWire width word store e h = h
plain_output kind.Reg width word store e h = h
plain_output kind.OutReg width word store e h = h
plain_output (kind.Memory depth) width word store e h = cc

module _ (lines : ℕ → ℕ) (n : Circuit) (outs : ℕ) (ok : IsWritableNetlist n.cells n.outlets outs) (are : ArePorts lines n outs) (run : List ModuleClock)
    (runs : IsModuleRun (netlist_module lines n.cells n.outlets outs) run) where
  abbrev own : ModuleTree
  own = netlist_module lines n.cells n.outlets outs

  abbrev vs : List NetTree
  vs = variables_of own

  variable : (x : NetTree) → Among x vs → IsVariable x
  variable x a = all_variables n.cells n.outlets outs ok x (subst (Among x) are a)

  no_clock : (x : NetTree) → Among x vs → is_clock own x.name ≡ false
  no_clock x a = is_clk own x.name (clocked lines n.cells n.outlets outs) ∙ (variable x a).name.other

  word_fits : (t : ℕ) (x : NetTree) → t < length run → Among x vs → (clock_at run t).word x.name < 2 ^ x.width
  word_fits t x below a = elim (among_split x (inputs_of own) (outputs_of own) a) [
    | inl i ↦ (let k = among_filter (λ (y : NetTree). is_input_kind y.kind && not (is_clock own y.name)) x own.nets i in
        plain_input x.kind x.width ((clock_at run t).word x.name) ((clock_at run t).store x.name)
        (both_true (is_input_kind x.kind) (not (is_clock own x.name)) k.1) ((runs.shaped t below).holds x k.0 (no_clock x a)))
    | inr o ↦ (let k = among_filter (λ (y : NetTree). is_output_kind y.kind) x own.nets o in
        plain_output x.kind x.width ((clock_at run t).word x.name) ((clock_at run t).store x.name) k.1 ((runs.shaped t below).holds x k.0 (no_clock x a)))
  ]

  -- the words of a clock
  abbrev row : ℕ → List ℕ
  row c = input_words own (clock_at run (1 + c)) ++ output_words own (clock_at run (1 + c))

  row_is : (c : ℕ) → row c ≡ map (λ (x : NetTree). (clock_at run (1 + c)).word x.name) vs
  row_is c = sym (map-append (λ (x : NetTree). (clock_at run (1 + c)).word x.name) (inputs_of own) (outputs_of own))

  row_long : (c : ℕ) → length (row c) ≡ length vs
  row_long c = ap length (row_is c) ∙ length-map vs (λ (x : NetTree). (clock_at run (1 + c)).word x.name)

  rows_long : (k count : ℕ) → length (flat_map row (range_with_len k count)) ≡ count * length vs
  rows_long k zero = omega arith
  rows_long k (suc count) = ap length (flat_map-cons row k (range_with_len (k + 1) count)) ∙
      omega (arith, length-append (row k) (flat_map row (range_with_len (k + 1) count)), row_long k, rows_long (k + 1) count)

  times_long : (a count : ℕ) → length (range_with_len a count) ≡ count
  times_long a zero = refl
  times_long a (suc count) = ap suc (times_long (a + 1) count)

  pub wave_formed : (count : ℕ) (words : List ℕ) → length run ≡ 1 + count
      → words ≡ port_words (λ c. input_words own (clock_at run (1 + c))) (λ c. output_words own (clock_at run (1 + c))) count
      → 1 ≤ length vs → length vs ≤ most_variables → wave_size count (length vs) ≤ size_limit → IsFormedWave (run_wave own count words)
  wave_formed count words long is some most small =
      let many : length (map (λ (x : NetTree). x.name) vs) ≡ length vs = length-map vs (λ (x : NetTree). x.name) in
      let wide : length (map (λ (x : NetTree). x.width) vs) ≡ length vs = length-map vs (λ (x : NetTree). x.width) in
      let times : length (range_with_len 0 count) ≡ count = times_long 0 count in
      record {
        some = omega (arith, some, many);
        most = omega (arith, most, many);
        named = all_mapped (λ (x : NetTree). x.name) (λ m. IsTrue (is_variable_name m)) vs (λ x a. (variable x a).name.named);
        sized = wide ∙ sym many;
        wide = all_mapped (λ (x : NetTree). x.width) (λ v. (1 ≤ v) × (v ≤ 64)) vs (λ x a. ((variable x a).low, (variable x a).high));
        whole = ap length is ∙ rows_long 0 count ∙ (λ i. sym times i * sym many i);
        fit = λ i k time variable'.
            (let inside : i < count = omega (arith, time, times) in
            let there : k < length vs = omega (arith, variable', many) in
            let x = entry-at vs k there in
            let z : 0 + i ≡ i = omega arith in
            let word : wave_word (run_wave own count words) i k ≡ (clock_at run (1 + i)).word x.0.name =
            unwrap_or-slice_get words (i * length (map (λ (x : NetTree). x.name) vs) + k) 0 ∙
            (λ j. get_or (is j) (i * many j + k) 0) ∙ joined_word row (length vs) 0 count i k (λ c h. row_long c) inside there ∙
            ap (λ c. get_or (row c) k 0) z ∙ ap (λ ws. get_or ws k 0) (row_is i)
            ∙ get_or_from_slice_get (map (λ (y : NetTree). (clock_at run (1 + i)).word y.name) vs) k ((clock_at run (1 + i)).word x.0.name) 0
            (mapped_at (λ (y : NetTree). (clock_at run (1 + i)).word y.name) vs k x.0 x.1) in
            let width : unwrap_or (slice_get (map (λ (y : NetTree). y.width) vs) k) 0 ≡ x.0.width = ap (λ o. unwrap_or o 0)
            (mapped_at (λ (y : NetTree). y.width) vs k x.0 x.1) in
            let fits = word_fits (1 + i) x.0 (omega (arith, inside, long)) (among_from x.0 vs k x.1) in
            subst (λ b. wave_word (run_wave own count words) i k < 2 ^ b) (sym width) (subst (λ a. a < 2 ^ x.0.width) (sym word) fits));
        rise = λ i h.
            (let inside : i + 1 < count = omega (arith, h, times) in
            let a = range_at 0 count i 0 (omega (arith, inside)) in
            let b = range_at 0 count (i + 1) 0 inside in
            rw (unwrap_or-slice_get (range_with_len 0 count) i 0, unwrap_or-slice_get (range_with_len 0 count) (i + 1) 0) (omega (arith, a, b)));
        late = late_at;
        small = omega (
          arith,
          small,
          times,
          many,
          times_size count (length vs) (length (range_with_len 0 count))
              (length (map (λ (x : NetTree). x.name) vs)) times many,
        );
      }
    where
      times_size : (a b a' b' : ℕ) → a' ≡ a → b' ≡ b → wave_size a' b' ≡ wave_size a b
      times_size a b a' b' p q i = wave_size (p i) (q i)

      late_at : (k d : ℕ) → k < length (range_with_len 0 count) → get_or (range_with_len 0 count) k d < 2 ^ 64
      late_at k d within =
          let inside : k < count = omega (arith, within, times_long 0 count) in
          let size : count * (1 + length vs) ≤ 4194304 = small in
          let e : count * (1 + length vs) ≡ count + count * length vs = omega arith in
          let is = range_at 0 count k d inside in
          omega (arith, is, inside, e, size)
