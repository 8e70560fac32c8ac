-- The declared names of a written module: the clock, one for each cell, and one for each output.
use Rattle.std.proofs.Common.{ℕ, zero, suc, ◌≡◌, ◌+◌, ◌<◌, ◌≤◌, ◌⊎◌, inl, inr, List, [], ◌∷◌, length, Some, None, slice_get, arith, refl, sym, ap, ◌∙◌, subst}
use Rattle.std.specs.Prelude.{map, bytes_eq}
use Rattle.ae_netlist.specs.declared.cell.Cell.{Cell}
use Rattle.ae_netlist.specs.declared.cell.Cell.TheVariants.{Input, Const, Op, Reg, Mem, Peek}
use Rattle.ae_netlist.specs.declared.cell.SizedCell.{SizedCell}
use Rattle.ae_netlist.specs.declared.cell.Outlet.{Outlet}
use Rattle.ae_vmodule.specs.declared.module.NetKind.{NetKind}
use Rattle.ae_vmodule.specs.declared.module.NetKind.TheVariants.{Input as InputNet, Wire as WireNet, Reg as RegNet, Memory as MemoryNet}
use Rattle.ae_vmodule.specs.ModuleTree.{NetTree, ModuleTree}
use Rattle.ae_judge.specs.Names.{Among, net_named}
use Rattle.ae_judge.proofs.Members.{same_bytes, bytes_same, among_left, among_right, among_split, among_at, among_from, among_map, among_unmap, find_only}
use Rattle.ae_verilog.specs.NetlistModule.{clock_name, port_name, cell_name, name_in, net_name, net_of, clock_net, input_nets, output_net, declared_nets, each_numbered, inputs_of, declared_from, netlist_module}
use Rattle.ae_verilog.specs.Written.{IsWritableNetlist}
use Rattle.ae_spelled.proofs.LawNames.{cell_not_clock, cell_not_output, clock_not_output, output_once, cell_once}

-- what is in a list of parts that are made one after the other
pub among_listed : {X A : Type 0} (f : ℕ → X → List A) (a : A) (s : ℕ) (xs : List X) (j : ℕ) (x : X) → slice_get xs j ≡ Some x → Among a (f (s + j) x)
    → Among a (each_numbered f s xs)
among_listed f a s [] j x h p = absurd (let e : None ≡ Some x = h in cc)
among_listed f a s (y ∷ xs) zero x h p =
    among_left a (f s y) (each_numbered f (s + 1) xs) (subst (λ z. Among a (f s z)) (let e : x ≡ y = (let o : Some y ≡ Some x = h in cc) in e)
    (subst (λ n. Among a (f n x)) (let e : s + 0 ≡ s = omega arith in e) p))
among_listed f a s (y ∷ xs) (suc j) x h p =
    among_right a (f s y) (each_numbered f (s + 1) xs) (among_listed f a (s + 1) xs j x h
    (subst (λ n. Among a (f n x)) (let e : s + suc j ≡ s + 1 + j = omega arith in e) p))

pub listed_among : {X A : Type 0} (f : ℕ → X → List A) (a : A) (s : ℕ) (xs : List X) → Among a (each_numbered f s xs) → (j : ℕ) × (x : X)
    × (slice_get xs j ≡ Some x) × Among a (f (s + j) x)
listed_among f a s [] h = absurd h
listed_among f a s (y ∷ xs) h = elim (among_split a (f s y) (each_numbered f (s + 1) xs) h) [
  | inl here ↦ (0, y, refl, subst (λ n. Among a (f n y)) (let e : s ≡ s + 0 = omega arith in e) here)
  | inr later ↦ let r = listed_among f a (s + 1) xs later in
      (suc r.0, r.1, r.2, subst (λ n. Among a (f n r.1)) (let e : s + 1 + r.0 ≡ s + suc r.0 = omega arith in e) r.3)
]

-- how many of the first n cells are no inputs
abbrev pub is_other : Cell → ℕ
is_other (Input port) = 0
is_other _ = 1

abbrev pub others : ℕ → List SizedCell → ℕ
others zero xs = 0
others (suc n) [] = 0
others (suc n) (x ∷ xs) = is_other x.cell + others n xs

pub others_grow : (xs : List SizedCell) (a n : ℕ) (x : SizedCell) → slice_get xs a ≡ Some x → a < n → others a xs + is_other x.cell ≤ others n xs
others_grow [] a n x h l = absurd (let e : None ≡ Some x = h in cc)
others_grow (y ∷ xs) a zero x h l = absurd (omega arith)
others_grow (y ∷ xs) zero (suc n) x h l =
    let e : y ≡ x = (let o : Some y ≡ Some x = h in cc) in subst (λ z. 0 + is_other z.cell ≤ is_other y.cell + others n xs) e (omega arith)
others_grow (y ∷ xs) (suc a) (suc n) x h l = let r = others_grow xs a n x h (omega arith) in omega arith

-- the net of a cell, where so many items stand before its own
abbrev pub cell_kind : Cell → NetKind
cell_kind (Input port) = InputNet
cell_kind (Reg next) = RegNet
cell_kind (Mem depth at next enable) = MemoryNet depth
cell_kind _ = WireNet

abbrev pub cell_item : ℕ → Cell → ℕ
cell_item item (Input port) = 0
cell_item item _ = item

abbrev pub net_from : (lines : ℕ → ℕ) → ℕ → ℕ → ℕ → Cell → NetTree
net_from lines item k width c = net_of (cell_kind c) (cell_item item c) width (cell_name lines k c)

declared_length : (lines : ℕ → ℕ) → (item k width : ℕ) (c : Cell) → length (declared_nets lines item k width c) ≡ is_other c
declared_length lines item k width (Input port) = refl
declared_length lines item k width (Const v) = refl
declared_length lines item k width (Op op args) = refl
declared_length lines item k width (Reg next) = refl
declared_length lines item k width (Mem depth at next enable) = refl
declared_length lines item k width (Peek mem at) = refl

of_declared : (lines : ℕ → ℕ) → (item k width : ℕ) (c : Cell) (y : NetTree) → Among y (declared_nets lines item k width c) → y ≡ net_from lines item k width c
of_declared lines item k width (Input port) y h = absurd h
of_declared lines item k width (Const v) y h = elim h [ inl e ↦ sym e | inr none ↦ absurd none ]
of_declared lines item k width (Op op args) y h = elim h [ inl e ↦ sym e | inr none ↦ absurd none ]
of_declared lines item k width (Reg next) y h = elim h [ inl e ↦ sym e | inr none ↦ absurd none ]
of_declared lines item k width (Mem depth at next enable) y h = elim h [ inl e ↦ sym e | inr none ↦ absurd none ]
of_declared lines item k width (Peek mem at) y h = elim h [ inl e ↦ sym e | inr none ↦ absurd none ]

of_input : (lines : ℕ → ℕ) → (item k width : ℕ) (c : Cell) (y : NetTree) → Among y (input_nets width c) → y ≡ net_from lines item k width c
of_input lines item k width (Input port) y h = elim h [ inl e ↦ sym e | inr none ↦ absurd none ]
of_input lines item k width (Const v) y h = absurd h
of_input lines item k width (Op op args) y h = absurd h
of_input lines item k width (Reg next) y h = absurd h
of_input lines item k width (Mem depth at next enable) y h = absurd h
of_input lines item k width (Peek mem at) y h = absurd h

in_either : (lines : ℕ → ℕ) → (item k width : ℕ) (c : Cell) → Among (net_from lines item k width c) (input_nets width c)
    ⊎ Among (net_from lines item k width c) (declared_nets lines item k width c)
in_either lines item k width (Input port) = inl (inl refl)
in_either lines item k width (Const v) = inr (inl refl)
in_either lines item k width (Op op args) = inr (inl refl)
in_either lines item k width (Reg next) = inr (inl refl)
in_either lines item k width (Mem depth at next enable) = inr (inl refl)
in_either lines item k width (Peek mem at) = inr (inl refl)

among_declared : (lines : ℕ → ℕ) → (y : NetTree) (item k : ℕ) (xs : List SizedCell) (j : ℕ) (x : SizedCell) → slice_get xs j ≡ Some x
    → Among y (declared_nets lines (item + others j xs) (k + j) x.width x.cell) → Among y (declared_from lines item k xs)
among_declared lines y item k [] j x h p = absurd (let e : None ≡ Some x = h in cc)
among_declared lines y item k (z ∷ xs) zero x h p =
    let e : x ≡ z = (let o : Some z ≡ Some x = h in cc) in
    among_left y (declared_nets lines item k z.width z.cell) _ (subst (λ (u : SizedCell). Among y (declared_nets lines item k u.width u.cell)) e
    (subst (λ n. Among y (declared_nets lines item n x.width x.cell)) (let q : k + 0 ≡ k = omega arith in q)
    (subst (λ n. Among y (declared_nets lines n (k + 0) x.width x.cell)) (let q : item + 0 ≡ item = omega arith in q) p)))
among_declared lines y item k (z ∷ xs) (suc j) x h p =
    let long = declared_length lines item k z.width z.cell in
    among_right y (declared_nets lines item k z.width z.cell) _
    (among_declared lines y (item + length (declared_nets lines item k z.width z.cell)) (k + 1) xs j x h
    (subst (λ n. Among y (declared_nets lines (item + length (declared_nets lines item k z.width z.cell) + others j xs) n x.width x.cell))
    (let q : k + suc j ≡ k + 1 + j = omega arith in q)
    (subst (λ n. Among y (declared_nets lines n (k + suc j) x.width x.cell))
    (let q : item + (is_other z.cell + others j xs) ≡ item + length (declared_nets lines item k z.width z.cell) + others j xs = omega arith in q) p)))

declared_among : (lines : ℕ → ℕ) → (y : NetTree) (item k : ℕ) (xs : List SizedCell) → Among y (declared_from lines item k xs) → (j : ℕ) × (x : SizedCell)
    × (slice_get xs j ≡ Some x) × (y ≡ net_from lines (item + others j xs) (k + j) x.width x.cell)
declared_among lines y item k [] h = absurd h
declared_among lines y item k (z ∷ xs) h = elim (among_split y (declared_nets lines item k z.width z.cell) _ h) [
  | inl here ↦
      let a : item ≡ item + 0 = omega arith in let b : k ≡ k + 0 = omega arith in
      (0, z, refl, of_declared lines item k z.width z.cell y here ∙ (λ i. net_from lines (a i) (b i) z.width z.cell))
  | inr later ↦
      let long = declared_length lines item k z.width z.cell in
      let r = declared_among lines y (item + length (declared_nets lines item k z.width z.cell)) (k + 1) xs later in
      let a : item + length (declared_nets lines item k z.width z.cell) + others r.0 xs ≡ item + (is_other z.cell + others r.0 xs) = omega arith in
      let b : k + 1 + r.0 ≡ k + suc r.0 = omega arith in
      (suc r.0, r.1, r.2, r.3 ∙ (λ i. net_from lines (a i) (b i) r.1.width r.1.cell))
]

module _ (lines : ℕ → ℕ) (cells : List SizedCell) (outlets : List Outlet) (outs : ℕ) where
  abbrev pub written : ModuleTree
  written = netlist_module lines cells outlets outs

  -- the net of cell k
  abbrev pub cell_net : ℕ → SizedCell → NetTree
  cell_net k x = net_from lines (1 + others k cells) k x.width x.cell

  pub data Origin (y : NetTree) : Type 0 where
    the_clock : y ≡ clock_net → Origin y
    a_cell : (k : ℕ) (x : SizedCell) → slice_get cells k ≡ Some x → y ≡ cell_net k x → Origin y
    an_output : (j : ℕ) (o : Outlet) → slice_get outlets j ≡ Some o → y ≡ output_net cells outs o → Origin y

  pub origin : (y : NetTree) → Among y written.nets → Origin y
  origin y h = elim h [
    | inl e ↦ the_clock (sym e)
    | inr more ↦ elim (among_split y (inputs_of cells) _ more) [
      | inl i ↦
          let r = listed_among (λ net (sized : SizedCell). input_nets sized.width sized.cell) y 0 cells i in
          a_cell r.0 r.1 r.2 (of_input lines (1 + others r.0 cells) r.0 r.1.width r.1.cell y r.3)
      | inr rest ↦ elim (among_split y (map (output_net cells outs) outlets) (declared_from lines 1 0 cells) rest) [
        | inl o ↦
            let r = among_unmap (output_net cells outs) y outlets o in
            let p = among_at r.0 outlets r.1 in
            an_output p.0 r.0 p.1 (sym r.2)
        | inr d ↦
            let r = declared_among lines y 1 0 cells d in
            let b : 0 + r.0 ≡ r.0 = omega arith in
            a_cell r.0 r.1 r.2 (r.3 ∙ (λ i. net_from lines (1 + others r.0 cells) (b i) r.1.width r.1.cell))
      ]
    ]
  ]

  pub clock_among : Among clock_net written.nets
  clock_among = inl refl

  pub output_among : (j : ℕ) (o : Outlet) → slice_get outlets j ≡ Some o → Among (output_net cells outs o) written.nets
  output_among j o h = inr (among_right _ (inputs_of cells) _
      (among_left _ (map (output_net cells outs) outlets) (declared_from lines 1 0 cells)
      (among_map (output_net cells outs) o outlets (among_from o outlets j h))))

  pub cell_among : (k : ℕ) (x : SizedCell) → slice_get cells k ≡ Some x → Among (cell_net k x) written.nets
  cell_among k x h =
      let b : k ≡ 0 + k = omega arith in
      elim (in_either lines (1 + others k cells) k x.width x.cell) [
        | inl i ↦ inr (among_left (cell_net k x) (inputs_of cells) _
            (among_listed (λ net (sized : SizedCell). input_nets sized.width sized.cell) (cell_net k x) 0 cells k x h i))
        | inr d ↦ inr (among_right (cell_net k x) (inputs_of cells) _
            (among_right (cell_net k x) (map (output_net cells outs) outlets) (declared_from lines 1 0 cells)
            (among_declared lines (cell_net k x) 1 0 cells k x h
            (subst (λ n. Among (cell_net k x) (declared_nets lines (1 + others k cells) n x.width x.cell)) b d))))
      ]

  pub name_of : (k : ℕ) (x : SizedCell) → slice_get cells k ≡ Some x → net_name lines cells k ≡ cell_name lines k x.cell
  unfolding net_name
  name_of k x h = ap (name_in lines k) h

  module _ (ok : IsWritableNetlist cells outlets outs) where
    -- each name is declared once
    pub cell_named : (k : ℕ) (x : SizedCell) → slice_get cells k ≡ Some x → net_named written.nets (cell_name lines k x.cell) ≡ Some (cell_net k x)
    unfolding net_named
    cell_named k x h = find_only (λ (y : NetTree). bytes_eq y.name (cell_name lines k x.cell)) written.nets (cell_net k x) (cell_among k x h)
        (bytes_same (cell_name lines k x.cell) (cell_name lines k x.cell) refl) (λ y a t.
        let same : y.name ≡ cell_name lines k x.cell = same_bytes y.name (cell_name lines k x.cell) t in
        elim (origin y a) [
          | the_clock e ↦ absurd (cell_not_clock lines cells outlets outs ok k x h (sym same ∙ ap (λ (z : NetTree). z.name) e))
          | an_output j o g e ↦ absurd (cell_not_output lines cells outlets outs ok k x j o h g (sym same ∙ ap (λ (z : NetTree). z.name) e))
          | a_cell j z g e ↦
              let eq : j ≡ k = cell_once lines cells outlets outs ok j k z x g h (sym (ap (λ (u : NetTree). u.name) e) ∙ same) in
              let o : Some z ≡ Some x = sym g ∙ ap (slice_get cells) eq ∙ h in
              let zx : z ≡ x = cc in
              e ∙ (λ i. cell_net (eq i) (zx i))
        ])

    pub output_named : (j : ℕ) (o : Outlet) → slice_get outlets j ≡ Some o → net_named written.nets (port_name outs o.port) ≡ Some (output_net cells outs o)
    unfolding net_named
    output_named j o h = find_only (λ (y : NetTree). bytes_eq y.name (port_name outs o.port)) written.nets (output_net cells outs o) (output_among j o h)
        (bytes_same (port_name outs o.port) (port_name outs o.port) refl) (λ y a t.
        let same : y.name ≡ port_name outs o.port = same_bytes y.name (port_name outs o.port) t in
        elim (origin y a) [
          | the_clock e ↦ absurd (clock_not_output lines cells outlets outs ok j o h (sym (ap (λ (z : NetTree). z.name) e) ∙ same))
          | an_output i p g e ↦
              let eq : i ≡ j = output_once lines cells outlets outs ok i j p o g h (sym (ap (λ (u : NetTree). u.name) e) ∙ same) in
              let q : Some p ≡ Some o = sym g ∙ ap (slice_get outlets) eq ∙ h in
              let po : p ≡ o = cc in
              e ∙ ap (output_net cells outs) po
          | a_cell k z g e ↦ absurd (cell_not_output lines cells outlets outs ok k z j o g h (sym (ap (λ (u : NetTree). u.name) e) ∙ same))
        ])

    pub clock_named : net_named written.nets clock_name ≡ Some clock_net
    unfolding net_named
    clock_named = find_only (λ (y : NetTree). bytes_eq y.name clock_name) written.nets clock_net clock_among (bytes_same clock_name clock_name refl) (λ y a t.
        let same : y.name ≡ clock_name = same_bytes y.name clock_name t in
        elim (origin y a) [
          | the_clock e ↦ e
          | an_output i p g e ↦ absurd (clock_not_output lines cells outlets outs ok i p g (sym same ∙ ap (λ (u : NetTree). u.name) e))
          | a_cell k z g e ↦ absurd (cell_not_clock lines cells outlets outs ok k z g (sym (ap (λ (u : NetTree). u.name) e) ∙ same))
        ])
