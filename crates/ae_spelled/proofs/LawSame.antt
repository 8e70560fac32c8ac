-- The written module and the netlist have the same runs.
use Rattle.std.proofs.Common.{ℕ, zero, suc, ◌≡◌, ◌+◌, ◌<◌, ◌⊎◌, inl, inr, Bool, true, false, List, [], ◌∷◌, ◌++◌, length, Some, None, slice_get, arith, refl, sym, ap, ◌∙◌, subst}
use Rattle.std.specs.Prelude.{map, filter, not, ◌&&◌, ◌||◌}
use Rattle.std.specs.List.{enumerate_from}
use Rattle.std.proofs.lemmas.Bool.{cases_Bool, cond-true, cond-false}
use Rattle.std.proofs.lemmas.List.{append-nil}
use Rattle.ae_netlist.specs.declared.cell.NetId.{NetId}
use Rattle.ae_netlist.specs.declared.cell.Cell.{Cell}
use Rattle.ae_netlist.specs.declared.cell.Cell.TheVariants.{Input, Const, Op, Reg, Mem, Peek}
use Rattle.ae_netlist.specs.declared.cell.SizedCell.{SizedCell}
use Rattle.ae_netlist.specs.declared.cell.Outlet.{Outlet}
use Rattle.ae_netlist.specs.Circuit as c
use Rattle.ae_netlist.specs.Runs as r
use Rattle.ae_netlist.proofs.OneRun.{one_run}
use Rattle.ae_vmodule.specs.declared.module.NetKind.{NetKind}
use Rattle.ae_vmodule.specs.declared.module.NetKind.TheVariants.{Input as InputNet, Reg as RegNet, Memory as MemoryNet}
use Rattle.ae_vmodule.specs.ModuleTree.{NetTree, ModuleTree}
use Rattle.ae_judge.specs.Names.{Among, is_input_kind, is_register_kind, is_memory_kind, is_output_kind, is_clock}
use Rattle.ae_runs.specs.Values.{ModuleClock}
use Rattle.ae_runs.specs.Runs.{clock_at, IsModuleRun}
use Rattle.ae_runs.specs.SameRuns as s
use Rattle.ae_judge.proofs.Members.{among_unmap}
use Rattle.ae_verilog.specs.NetlistModule.{port_name, number_name, cell_name, net_of, clock_net, input_nets, output_net, declared_nets, each_numbered, inputs_of, declared_from}
use Rattle.ae_verilog.specs.Written.{IsWritableNetlist}
use Rattle.ae_spelled.proofs.LawNets.{listed_among, written}
use Rattle.ae_spelled.proofs.LawClocks.{clock_is_clock, cell_no_clock}
use Rattle.ae_spelled.proofs.LawOf.{run_by_name, by_name_length, by_name_is_run, by_name_word, by_name_store, by_name_output}
use Rattle.ae_spelled.proofs.LawFrom.{run_by_number, by_number_length, store_is, plain_is, by_number_is_run, by_number_output}

filter_both : {X : Type 0} (p : X → Bool) (xs ys : List X) → filter p (xs ++ ys) ≡ filter p xs ++ filter p ys
filter_both p [] ys = refl
filter_both p (x ∷ xs) ys = elim (cases_Bool (p x)) [
  | inl t ↦ cond-true _ _ _ t ∙ ap (λ l. x ∷ l) (filter_both p xs ys) ∙ ap (λ l. l ++ filter p ys) (sym (cond-true _ (x ∷ filter p xs) (filter p xs) t))
  | inr f ↦ cond-false _ _ _ f ∙ filter_both p xs ys ∙ ap (λ l. l ++ filter p ys) (sym (cond-false _ (x ∷ filter p xs) (filter p xs) f))
]

filter_all : {X : Type 0} (p : X → Bool) (xs : List X) → ((x : X) → Among x xs → p x ≡ true) → filter p xs ≡ xs
filter_all p [] h = refl
filter_all p (x ∷ xs) h = cond-true _ _ _ (h x (inl refl)) ∙ ap (λ l. x ∷ l) (filter_all p xs (λ y a. h y (inr a)))

filter_none : {X : Type 0} (p : X → Bool) (xs : List X) → ((x : X) → Among x xs → p x ≡ false) → filter p xs ≡ []
filter_none p [] h = refl
filter_none p (x ∷ xs) h = cond-false _ _ _ (h x (inl refl)) ∙ filter_none p xs (λ y a. h y (inr a))

map_same : {X A : Type 0} (f g : X → A) (xs : List X) → ((k : ℕ) (x : X) → slice_get xs k ≡ Some x → f x ≡ g x) → map f xs ≡ map g xs
map_same f g [] h = refl
map_same f g (x ∷ xs) h = (λ i. h 0 x refl i ∷ map_same f g xs (λ k y e. h (suc k) y e) i)

map_map : {X Y A : Type 0} (f : Y → A) (g : X → Y) (xs : List X) → map f (map g xs) ≡ map (λ x. f (g x)) xs
map_map f g [] = refl
map_map f g (x ∷ xs) = ap (λ l. f (g x) ∷ l) (map_map f g xs)

pub map_parts : {X A : Type 0} (f : X → A) (xs ys : List X) → map f (xs ++ ys) ≡ map f xs ++ map f ys
map_parts f [] ys = refl
map_parts f (x ∷ xs) ys = ap (λ l. f x ∷ l) (map_parts f xs ys)

abbrev of_kind : (Cell → Bool) → ℕ × SizedCell → Bool
of_kind q p = q p.1.cell

numbered_some : {A : Type 0} (g : ℕ × SizedCell → A) (q : Cell → Bool) (k : ℕ) (x : SizedCell) (xs : List SizedCell) → q x.cell ≡ true
    → map g (filter (of_kind q) (enumerate_from k (x ∷ xs))) ≡ g (k, x) ∷ map g (filter (of_kind q) (enumerate_from (k + 1) xs))
numbered_some g q k x xs t =
    ap (map g) (cond-true _ ((k, x) ∷ filter (of_kind q) (enumerate_from (k + 1) xs)) (filter (of_kind q) (enumerate_from (k + 1) xs)) t)

numbered_none : {A : Type 0} (g : ℕ × SizedCell → A) (q : Cell → Bool) (k : ℕ) (x : SizedCell) (xs : List SizedCell) → q x.cell ≡ false
    → map g (filter (of_kind q) (enumerate_from k (x ∷ xs))) ≡ map g (filter (of_kind q) (enumerate_from (k + 1) xs))
numbered_none g q k x xs e =
    ap (map g) (cond-false _ ((k, x) ∷ filter (of_kind q) (enumerate_from (k + 1) xs)) (filter (of_kind q) (enumerate_from (k + 1) xs)) e)

-- the numbered cells of a kind, one part each
module _ (lines : ℕ → ℕ) {A : Type 0} (f : NetTree → A) (g : ℕ × SizedCell → A) (q : Cell → Bool) where
  -- one net for each cell of the kind, and none for another
  abbrev Matches : List NetTree → ℕ × SizedCell → Type 0
  Matches part p = ((q p.1.cell ≡ true) × (map f part ≡ g p ∷ [])) ⊎ ((q p.1.cell ≡ false) × (map f part ≡ []))

  listed_numbered : (part : ℕ → SizedCell → List NetTree) (k : ℕ) (xs : List SizedCell)
      → ((j : ℕ) (x : SizedCell) → slice_get xs j ≡ Some x → Matches (part (k + j) x) (k + j, x))
      → map f (each_numbered part k xs) ≡ map g (filter (of_kind q) (enumerate_from k xs))
  listed_numbered part k [] h = refl
  listed_numbered part k (x ∷ xs) h =
      let first : Matches (part k x) (k, x) = subst (λ n. Matches (part n x) (n, x)) (let e : k + 0 ≡ k = omega arith in e) (h 0 x refl) in
      let rest = listed_numbered part (k + 1) xs (λ j y e. subst (λ n. Matches (part n y) (n, y)) (let z : k + suc j ≡ k + 1 + j = omega arith in z)
      (h (suc j) y e)) in
      map_parts f (part k x) (each_numbered part (k + 1) xs) ∙ elim first [
        | inl t ↦ (λ i. t.1 i ++ rest i) ∙ sym (numbered_some g q k x xs t.0)
        | inr e ↦ (λ i. e.1 i ++ rest i) ∙ sym (numbered_none g q k x xs e.0)
      ]

  declared_numbered : (p : NetTree → Bool) (item k : ℕ) (xs : List SizedCell)
      → ((i j : ℕ) (x : SizedCell) → slice_get xs j ≡ Some x → Matches (filter p (declared_nets lines i (k + j) x.width x.cell)) (k + j, x))
      → map f (filter p (declared_from lines item k xs)) ≡ map g (filter (of_kind q) (enumerate_from k xs))
  declared_numbered p item k [] h = refl
  declared_numbered p item k (x ∷ xs) h =
      let first : Matches (filter p (declared_nets lines item k x.width x.cell)) (k, x) = subst
      (λ n. Matches (filter p (declared_nets lines item n x.width x.cell)) (n, x)) (let e : k + 0 ≡ k = omega arith in e) (h item 0 x refl) in
      let rest = declared_numbered p (item + length (declared_nets lines item k x.width x.cell)) (k + 1) xs
      (λ i j y e. subst (λ n. Matches (filter p (declared_nets lines i n y.width y.cell)) (n, y)) (let z : k + suc j ≡ k + 1 + j = omega arith in z)
      (h i (suc j) y e)) in
      ap (map f) (filter_both p (declared_nets lines item k x.width x.cell)
      (declared_from lines (item + length (declared_nets lines item k x.width x.cell)) (k + 1) xs))
      ∙ map_parts f (filter p (declared_nets lines item k x.width x.cell))
      (filter p (declared_from lines (item + length (declared_nets lines item k x.width x.cell)) (k + 1) xs)) ∙ elim first [
        | inl t ↦ (λ i. t.1 i ++ rest i) ∙ sym (numbered_some g q k x xs t.0)
        | inr e ↦ (λ i. e.1 i ++ rest i) ∙ sym (numbered_none g q k x xs e.0)
      ]

-- two lists over the same numbered cells that are equal are so at each cell
equal_at : {A : Type 0} (f g : ℕ × SizedCell → A) (q : Cell → Bool) (k : ℕ) (xs : List SizedCell)
    → map f (filter (of_kind q) (enumerate_from k xs)) ≡ map g (filter (of_kind q) (enumerate_from k xs))
    → (j : ℕ) (x : SizedCell) → slice_get xs j ≡ Some x → q x.cell ≡ true → f (k + j, x) ≡ g (k + j, x)
equal_at f g q k [] h j x at is = absurd (let e : None ≡ Some x = at in cc)
equal_at f g q k (y ∷ xs) h zero x at is =
    let e : y ≡ x = (let o : Some y ≡ Some x = at in cc) in
    let t : q y.cell ≡ true = ap (λ (z : SizedCell). q z.cell) e ∙ is in
    let both = sym (numbered_some f q k y xs t) ∙ h ∙ numbered_some g q k y xs t in
    let first : f (k, y) ≡ g (k, y) = cc in
    let n : k + 0 ≡ k = omega arith in
    (λ i. f (n i, sym e i)) ∙ first ∙ (λ i. g (sym n i, e i))
equal_at f g q k (y ∷ xs) h (suc j) x at is =
    let n : k + suc j ≡ k + 1 + j = omega arith in
    let rest : map f (filter (of_kind q) (enumerate_from (k + 1) xs)) ≡ map g (filter (of_kind q) (enumerate_from (k + 1) xs)) = elim (cases_Bool (q y.cell)) [
      | inl t ↦ (let both = sym (numbered_some f q k y xs t) ∙ h ∙ numbered_some g q k y xs t in cc)
      | inr e ↦ sym (numbered_none f q k y xs e) ∙ h ∙ numbered_none g q k y xs e
    ] in
    (λ i. f (n i, x)) ∙ equal_at f g q (k + 1) xs rest j x at is ∙ (λ i. g (sym n i, x))

equal_here : {A : Type 0} (f g : ℕ × SizedCell → A) (q : Cell → Bool) (xs : List SizedCell)
    → map f (filter (of_kind q) (enumerate_from 0 xs)) ≡ map g (filter (of_kind q) (enumerate_from 0 xs))
    → (j : ℕ) (x : SizedCell) → slice_get xs j ≡ Some x → q x.cell ≡ true → f (j, x) ≡ g (j, x)
equal_here f g q xs h j x at is = let e : 0 + j ≡ j = omega arith in subst (λ k. f (k, x) ≡ g (k, x)) e (equal_at f g q 0 xs h j x at is)

module _ (lines : ℕ → ℕ) (cells : List SizedCell) (outlets : List Outlet) (outs : ℕ) (ok : IsWritableNetlist cells outlets outs) where
  abbrev m : ModuleTree
  m = written lines cells outlets outs

  abbrev n : c.Circuit
  n = record { limit = length cells; cells = cells; outlets = outlets }

  abbrev ins : List NetTree
  ins = inputs_of cells

  abbrev shown : List NetTree
  shown = map (output_net cells outs) outlets

  abbrev own : List NetTree
  own = declared_from lines 1 0 cells

  split : (p : NetTree → Bool) → p clock_net ≡ false → filter p m.nets ≡ filter p ins ++ (filter p shown ++ filter p own)
  split p h = cond-false _ _ _ h ∙ filter_both p ins (shown ++ own) ∙ ap (λ l. filter p ins ++ l) (filter_both p shown own)

  ins_are : (y : NetTree) → Among y ins → (k : ℕ) × (x : SizedCell) × (slice_get cells k ≡ Some x) × (y ≡ net_of InputNet 0 x.width (cell_name lines k x.cell))
  ins_are y a =
      let r = listed_among (λ net (sized : SizedCell). input_nets sized.width sized.cell) y 0 cells a in
      (r.0, r.1, r.2, an_input r.0 r.1.width r.1.cell y r.3)
    where
      an_input : (k width : ℕ) (cell : Cell) (y : NetTree) → Among y (input_nets width cell) → y ≡ net_of InputNet 0 width (cell_name lines k cell)
      an_input k width (Input port) y a = elim a [ inl e ↦ sym e | inr none ↦ absurd none ]
      an_input k width (Const v) y a = absurd a
      an_input k width (Op op args) y a = absurd a
      an_input k width (Reg next) y a = absurd a
      an_input k width (Mem depth at next enable) y a = absurd a
      an_input k width (Peek mem at) y a = absurd a

  shown_are : (y : NetTree) → Among y shown → (o : Outlet) × (y ≡ output_net cells outs o)
  shown_are y a = let r = among_unmap (output_net cells outs) y outlets a in (r.0, sym r.2)

  own_are : (p : NetTree → Bool) → ((k : NetKind) (item width : ℕ) (name : List ℕ) → is_input_kind k ≡ false → is_output_kind k ≡ false
      → p (net_of k item width name) ≡ false) → (item k : ℕ) (xs : List SizedCell) → filter p (declared_from lines item k xs) ≡ []
  own_are p h item k [] = refl
  own_are p h item k (x ∷ xs) =
      filter_both p (declared_nets lines item k x.width x.cell) (declared_from lines (item + length (declared_nets lines item k x.width x.cell)) (k + 1) xs)
      ∙ (λ i. by_cell item k x.width x.cell i ++ own_are p h (item + length (declared_nets lines item k x.width x.cell)) (k + 1) xs i)
    where
      by_cell : (item k width : ℕ) (cell : Cell) → filter p (declared_nets lines item k width cell) ≡ []
      by_cell item k width (Input port) = refl
      by_cell item k width (Const v) = cond-false _ _ _ (h _ item width (number_name lines k) refl refl)
      by_cell item k width (Op op args) = cond-false _ _ _ (h _ item width (number_name lines k) refl refl)
      by_cell item k width (Reg next) = cond-false _ _ _ (h _ item width (number_name lines k) refl refl)
      by_cell item k width (Mem depth at next enable) = cond-false _ _ _ (h _ item width (number_name lines k) refl refl)
      by_cell item k width (Peek mem at) = cond-false _ _ _ (h _ item width (number_name lines k) refl refl)

  append_none : {X : Type 0} (xs ys : List X) → ys ≡ [] → xs ++ ys ≡ xs
  append_none xs ys e = ap (λ l. xs ++ l) e ∙ append-nil xs

  -- the inputs of the module are those of the cells
  pub inputs_are : s.inputs_of m ≡ ins
  inputs_are =
      let p : NetTree → Bool = λ (x : NetTree). is_input_kind x.kind && not (is_clock m x.name) in
      split p (ap not (clock_is_clock lines cells outlets outs ok))
      ∙ (λ i. filter_all p ins (λ y a. let r = ins_are y a in ap p r.3 ∙ ap not (cell_no_clock lines cells outlets outs ok r.0 r.1 r.2)) i
      ++ (filter_none p shown (λ y a. let r = shown_are y a in ap p r.1) i
      ++ own_are p (λ k item width name a b. ap (λ t. t && not (is_clock m name)) a) 1 0 cells i))
      ∙ append-nil ins

  pub outputs_are : s.outputs_of m ≡ shown
  outputs_are =
      let p : NetTree → Bool = λ (x : NetTree). is_output_kind x.kind in
      split p refl
      ∙ (λ i. filter_none p ins (λ y a. let r = ins_are y a in ap p r.3) i
      ++ (filter_all p shown (λ y a. let r = shown_are y a in ap p r.1) i ++ own_are p (λ k item width name a b. b) 1 0 cells i))
      ∙ append-nil shown

  abbrev is_state_net : NetTree → Bool
  is_state_net x = is_register_kind x.kind || is_memory_kind x.kind

  states_are : s.states_of m ≡ filter is_state_net own
  states_are =
      split is_state_net refl
      ∙ (λ i. filter_none is_state_net ins (λ y a. let r = ins_are y a in ap is_state_net r.3) i
      ++ (filter_none is_state_net shown (λ y a. let r = shown_are y a in ap is_state_net r.1) i ++ filter is_state_net own))

  -- what is so of each input is so of all, and likewise for registers and memories, and for outputs
  all_inputs : {A : Type 0} (f : NetTree → A) (g : ℕ × SizedCell → A)
      → ((k width : ℕ) (port : _) → slice_get cells k ≡ Some (record { width = width; cell = Input port })
      → f (net_of InputNet 0 width (port_name 1 port)) ≡ g (k, record { width = width; cell = Input port }))
      → map f (s.inputs_of m) ≡ map g (s.input_cells cells)
  all_inputs f g h =
      ap (map f) inputs_are ∙ listed_numbered lines f g s.is_input_cell (λ net (sized : SizedCell). input_nets sized.width sized.cell) 0 cells
      (λ j x at. let e : j ≡ 0 + j = omega arith in subst (λ k. Matches lines f g s.is_input_cell (input_nets x.width x.cell) (k, x)) e
      (by_cell j x.width x.cell at))
    where
      by_cell : (j width : ℕ) (cell : Cell) → slice_get cells j ≡ Some (record { width = width; cell = cell })
          → Matches lines f g s.is_input_cell (input_nets width cell) (j, record { width = width; cell = cell })
      by_cell j width (Input port) at = inl (refl, ap (λ a. a ∷ []) (h j width port at))
      by_cell j width (Const v) at = inr (refl, refl)
      by_cell j width (Op op args) at = inr (refl, refl)
      by_cell j width (Reg next) at = inr (refl, refl)
      by_cell j width (Mem depth place next enable) at = inr (refl, refl)
      by_cell j width (Peek mem place) at = inr (refl, refl)

  all_states : {A : Type 0} (f : NetTree → A) (g : ℕ × SizedCell → A)
      → ((item k width : ℕ) (next : NetId) → slice_get cells k ≡ Some (record { width = width; cell = Reg next })
      → f (net_of RegNet item width (number_name lines k)) ≡ g (k, record { width = width; cell = Reg next }))
      → ((item k width depth : ℕ) (at next enable : NetId) → slice_get cells k ≡ Some (record { width = width; cell = Mem depth at next enable })
      → f (net_of (MemoryNet depth) item width (number_name lines k)) ≡ g (k, record { width = width; cell = Mem depth at next enable }))
      → map f (s.states_of m) ≡ map g (s.state_cells cells)
  all_states f g registers memories =
      ap (map f) states_are ∙ declared_numbered lines f g s.is_state_cell is_state_net 1 0 cells
      (λ item j x at. let e : j ≡ 0 + j = omega arith in subst
      (λ k. Matches lines f g s.is_state_cell (filter is_state_net (declared_nets lines item k x.width x.cell)) (k, x)) e
      (by_cell item j x.width x.cell at))
    where
      by_cell : (item j width : ℕ) (cell : Cell) → slice_get cells j ≡ Some (record { width = width; cell = cell })
          → Matches lines f g s.is_state_cell (filter is_state_net (declared_nets lines item j width cell)) (j, record { width = width; cell = cell })
      by_cell item j width (Input port) at = inr (refl, refl)
      by_cell item j width (Const v) at = inr (refl, refl)
      by_cell item j width (Op op args) at = inr (refl, refl)
      by_cell item j width (Reg next) at = inl (refl, ap (λ a. a ∷ []) (registers item j width next at))
      by_cell item j width (Mem depth place next enable) at = inl (refl, ap (λ a. a ∷ []) (memories item j width depth place next enable at))
      by_cell item j width (Peek mem place) at = inr (refl, refl)

  all_outputs : {A : Type 0} (f : NetTree → A) (g : Outlet → A) → ((k : ℕ) (o : Outlet) → slice_get outlets k ≡ Some o → f (output_net cells outs o) ≡ g o)
      → map f (s.outputs_of m) ≡ map g outlets
  all_outputs f g h = ap (map f) outputs_are ∙ map_map f (output_net cells outs) outlets ∙ map_same (λ o. f (output_net cells outs o)) g outlets h

  -- a clock of the module goes with a clock of the netlist
  record GoesWith (d : ModuleClock) (run : List r.Clock) (t : ℕ) : Type 0 where
    word : (k : ℕ) (x : SizedCell) → slice_get cells k ≡ Some x → c.IsPlain x.cell → d.word (cell_name lines k x.cell) ≡ r.word_at run t k
    store : (k width depth : ℕ) (at next enable : NetId) → slice_get cells k ≡ Some (record { width = width; cell = Mem depth at next enable })
        → d.store (number_name lines k) ≡ r.store_at run t k
    output : (j : ℕ) (o : Outlet) → slice_get outlets j ≡ Some o → d.word (port_name outs o.port) ≡ r.word_at run t o.net.0

  inputs_go : (d : ModuleClock) (run : List r.Clock) (t : ℕ) → GoesWith d run t → s.input_words m d ≡ s.net_input_words n run t
  inputs_go d run t h = all_inputs (λ (x : NetTree). d.word x.name) (λ (x : ℕ × SizedCell). r.word_at run t x.0)
      (λ k width port at. h.word k (record { width = width; cell = Input port }) at tt)

  outputs_go : (d : ModuleClock) (run : List r.Clock) (t : ℕ) → GoesWith d run t → s.output_words m d ≡ s.net_output_words n run t
  outputs_go d run t h = all_outputs (λ (x : NetTree). d.word x.name) (λ (o : Outlet). r.word_at run t o.net.0) (λ j o at. h.output j o at)

  states_go : (d : ModuleClock) (run : List r.Clock) (t : ℕ) → GoesWith d run t → s.held_words m d ≡ s.net_held_words n run t
  states_go d run t h = all_states (λ (x : NetTree). s.kind_words x.kind (d.word x.name) (d.store x.name))
      (λ (x : ℕ × SizedCell). s.cell_words x.1.cell (r.word_at run t x.0) (r.store_at run t x.0))
      (λ item k width next at. ap (λ w. w ∷ []) (h.word k (record { width = width; cell = Reg next }) at tt))
      (λ item k width depth at next enable found. h.store k width depth at next enable found)

  begin : (run : List ModuleClock) (other : List r.Clock) → length run ≡ length other → ((t : ℕ) → t < length run → GoesWith (clock_at run t) other t)
      → s.BeginAlike m n run other
  begin run other long h = record {
    long = long;
    inputs = λ t l. inputs_go (clock_at run t) other t (h t l);
    first = λ l. states_go (clock_at run 0) other 0 (h 0 l);
  }

  show_equal : (run : List ModuleClock) (other : List r.Clock) → ((t : ℕ) → t < length run → GoesWith (clock_at run t) other t)
      → s.HaveEqualOutputs m n run other
  show_equal run other h = record { outputs = λ t l. outputs_go (clock_at run t) other t (h t l) }

  goes_of : (other : List r.Clock) (is : r.IsRun cells other) (t : ℕ) → t < length other
      → GoesWith (clock_at (run_by_name lines cells outlets outs ok other is) t) other t
  goes_of other is t l = record {
    word = λ k x at p. by_name_word lines cells outlets outs ok other is t k x l at;
    store = λ k width depth place next enable at. by_name_store lines cells outlets outs ok other is t k _ l at;
    output = λ j o at. by_name_output lines cells outlets outs ok other is t j o l at;
  }

  goes_from : (run : List ModuleClock) (is : IsModuleRun m run) (t : ℕ) → t < length run → GoesWith (clock_at run t) (run_by_number lines cells run) t
  goes_from run is t l = record {
    word = λ k x at p. sym (plain_is lines cells outlets outs ok run is t k x l at p);
    store = λ k width depth place next enable at. sym (store_is lines cells run t k _ l at);
    output = λ j o at. by_number_output lines cells outlets outs ok run is t j o l at;
  }

  -- runs of the netlist with equal inputs and equal first words agree
  agrees_at : (run other : List r.Clock) (t : ℕ) → s.net_input_words n other t ≡ s.net_input_words n run t
      → (t ≡ 0 → s.net_held_words n other 0 ≡ s.net_held_words n run 0) → (k width : ℕ) (cell : Cell)
      → slice_get cells k ≡ Some (record { width = width; cell = cell }) → r.AgreesAt run other t k cell
  agrees_at run other t inputs first k width (Input port) at =
      equal_here (λ (x : ℕ × SizedCell). r.word_at other t x.0) (λ (x : ℕ × SizedCell). r.word_at run t x.0) s.is_input_cell cells inputs k _ at refl
  agrees_at run other t inputs first k width (Const v) at = tt
  agrees_at run other t inputs first k width (Op op args) at = tt
  agrees_at run other t inputs first k width (Peek mem place) at = tt
  agrees_at run other t inputs first k width (Reg next) at = λ z.
      let h : r.word_at other 0 k ∷ [] ≡ r.word_at run 0 k ∷ [] =
      equal_here (λ (x : ℕ × SizedCell). s.cell_words x.1.cell (r.word_at other 0 x.0) (r.store_at other 0 x.0))
      (λ (x : ℕ × SizedCell). s.cell_words x.1.cell (r.word_at run 0 x.0) (r.store_at run 0 x.0)) s.is_state_cell cells (first z) k _ at refl in
      let w : r.word_at other 0 k ≡ r.word_at run 0 k = cc in
      subst (λ u. r.word_at other u k ≡ r.word_at run u k) (sym z) w
  agrees_at run other t inputs first k width (Mem depth place next enable) at = λ z.
      let h : r.store_at other 0 k ≡ r.store_at run 0 k =
      equal_here (λ (x : ℕ × SizedCell). s.cell_words x.1.cell (r.word_at other 0 x.0) (r.store_at other 0 x.0))
      (λ (x : ℕ × SizedCell). s.cell_words x.1.cell (r.word_at run 0 x.0) (r.store_at run 0 x.0)) s.is_state_cell cells (first z) k _ at refl in
      subst (λ u. r.store_at other u k ≡ r.store_at run u k) (sym z) h

  same_run : (run : List ModuleClock) (other : List r.Clock) → IsModuleRun m run → r.IsRun cells other → s.BeginAlike m n run other
      → other ≡ run_by_number lines cells run
  same_run run other is is_other begins =
      let made : List r.Clock = run_by_number lines cells run in
      let made_is = by_number_is_run lines cells outlets outs ok run is in
      let long : length made ≡ length run = by_number_length lines cells run in
      let made_begins = begin run made (sym long) (goes_from run is) in
      let one = one_run cells ok.formed made made_is.shaped in
      let of_other : r.IsRunOn cells made other = record {
        long = sym begins.long ∙ made_begins.long;
        runs = is_other;
        agrees = record {
          same = λ t k x l at. agrees_at made other t (sym (begins.inputs t (omega arith)) ∙ made_begins.inputs t (omega arith))
              (λ z. let some : 0 < length run = omega arith in sym (begins.first some) ∙ made_begins.first some) k x.width x.cell at;
        };
      } in
      let of_made : r.IsRunOn cells made made = record {
        long = refl;
        runs = made_is;
        agrees = record { same = λ t k x l at. agrees_at made made t refl (λ z. refl) k x.width x.cell at };
      } in
      one.2 other of_other ∙ sym (one.2 made of_made)

  pub same_runs : (limit : ℕ) → s.HasSameRuns m (record { limit = limit; cells = cells; outlets = outlets })
  same_runs limit = record {
    inputs = all_inputs (λ (x : NetTree). x.width) (λ (x : ℕ × SizedCell). x.1.width) (λ k width port at. refl);
    outputs = all_outputs (λ (x : NetTree). x.width) (λ (o : Outlet). c.width_of cells o.net.0) (λ k o at. refl);
    widths = all_states (λ (x : NetTree). x.width) (λ (x : ℕ × SizedCell). x.1.width) (λ item k width next at. refl)
        (λ item k width depth at next enable found. refl);
    depths = all_states (λ (x : NetTree). s.kind_depth x.kind) (λ (x : ℕ × SizedCell). s.cell_depth x.1.cell) (λ item k width next at. refl)
        (λ item k width depth at next enable found. refl);
    equal = λ run other is is_other begins.
        let e = same_run run other is is_other (record { long = begins.long; inputs = begins.inputs; first = begins.first }) in
        record {
          outputs = λ t l. outputs_go (clock_at run t) (run_by_number lines cells run) t (goes_from run is t l) ∙
              ap (λ u. s.net_output_words n u t) (sym e);
        };
    of_module = λ run is.
        let begins = begin run (run_by_number lines cells run) (sym (by_number_length lines cells run)) (goes_from run is) in
        let shows = show_equal run (run_by_number lines cells run) (goes_from run is) in (
          run_by_number lines cells run,
          by_number_is_run lines cells outlets outs ok run is,
          record { long = begins.long; inputs = begins.inputs; first = begins.first },
          record { outputs = shows.outputs },
        );
    of_netlist = λ other is.
        let run = run_by_name lines cells outlets outs ok other is in
        let long = by_name_length lines cells outlets outs ok other is in
        let begins = begin run other long (λ t l. goes_of other is t (omega arith)) in
        let shows = show_equal run other (λ t l. goes_of other is t (omega arith)) in (
          run,
          by_name_is_run lines cells outlets outs ok other is,
          record { long = begins.long; inputs = begins.inputs; first = begins.first },
          record { outputs = shows.outputs },
        );
  }
