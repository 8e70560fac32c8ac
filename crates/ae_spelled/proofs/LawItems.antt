-- The items of a written module: one for each cell that is no input, one for each output, and one for each register and
-- each memory.
use Rattle.std.proofs.Common.{ℕ, zero, suc, ◌≡◌, ◌+◌, ◌⊎◌, inl, inr, true, List, [], ◌∷◌, ◌++◌, length, Some, None, slice_get, arith, refl, sym, ap, ◌∙◌, subst}
use Rattle.std.specs.Prelude.{map}
use Rattle.std.proofs.lemmas.List.{length-append, length-map}
use Rattle.ae_netlist.specs.declared.cell.Cell.{Cell}
use Rattle.ae_netlist.specs.declared.cell.Cell.TheVariants.{Input, Const, Op, Reg, Mem, Peek}
use Rattle.ae_netlist.specs.declared.cell.SizedCell.{SizedCell}
use Rattle.ae_netlist.specs.declared.cell.Outlet.{Outlet}
use Rattle.ae_netlist.specs.Circuit.{operand}
use Rattle.ae_vmodule.specs.ModuleTree.{constant, index, StmtTree, set, put, when, block_end, DriveTree, ItemTree, nets, always}
use Rattle.ae_judge.specs.Names.{Among, drives_of, equations}
use Rattle.ae_judge.proofs.Members.{among_left, among_right, among_at, among_from, among_map, among_flat, among_unflat}
use Rattle.ae_verilog.specs.NetlistModule.{clock_name, port_name, number_name, net_name, each_numbered, net_value, op_expression, drive, declaration, assignment, edge}
use Rattle.ae_spelled.proofs.LawNets.{among_listed, is_other, others, written}

pub get_append : {X : Type 0} (xs ys : List X) (j : ℕ) (x : X) → slice_get (xs ++ ys) j ≡ Some x → (slice_get xs j ≡ Some x)
    ⊎ ((i : ℕ) × (j ≡ length xs + i) × (slice_get ys i ≡ Some x))
get_append [] ys j x h = inr (j, (let e : j ≡ 0 + j = omega arith in e), h)
get_append (y ∷ xs) ys zero x h = inl h
get_append (y ∷ xs) ys (suc j) x h = elim (get_append xs ys j x h) [
  | inl a ↦ inl a
  | inr b ↦ inr (b.0, (let p = b.1 in let e : suc j ≡ suc (length xs) + b.0 = omega arith in e), b.2)
]

get_map : {X Y : Type 0} (f : X → Y) (xs : List X) (j : ℕ) (y : Y) → slice_get (map f xs) j ≡ Some y → (x : X) × (slice_get xs j ≡ Some x) × (f x ≡ y)
get_map f [] j y h = absurd (let e : None ≡ Some y = h in cc)
get_map f (x ∷ xs) zero y h = (x, refl, let e : Some (f x) ≡ Some y = h in let z : f x ≡ y = cc in z)
get_map f (x ∷ xs) (suc j) y h = get_map f xs j y h

-- the sum over the first n cells
abbrev pub total : (Cell → ℕ) → ℕ → List SizedCell → ℕ
total size zero xs = 0
total size (suc n) [] = 0
total size (suc n) (x ∷ xs) = size x.cell + total size n xs

pub total_others : (n : ℕ) (xs : List SizedCell) → total is_other n xs ≡ others n xs
total_others zero xs = refl
total_others (suc n) [] = refl
total_others (suc n) (x ∷ xs) = ap (λ k. is_other x.cell + k) (total_others n xs)

-- where in a list of parts an element stands
listed_place : {A : Type 0} (size : Cell → ℕ) (f : ℕ → SizedCell → List A) → ((k : ℕ) (x : SizedCell) → length (f k x) ≡ size x.cell)
    → (s : ℕ) (xs : List SizedCell) (j : ℕ) (a : A) → slice_get (each_numbered f s xs) j ≡ Some a
    → (n : ℕ) × (x : SizedCell) × (i : ℕ) × (slice_get xs n ≡ Some x) × (slice_get (f (s + n) x) i ≡ Some a) × (j ≡ total size n xs + i)
listed_place size f long s [] j a h = absurd (let e : None ≡ Some a = h in cc)
listed_place size f long s (y ∷ xs) j a h = elim (get_append (f s y) (each_numbered f (s + 1) xs) j a h) [
  | inl here ↦ (0, y, j, refl, subst (λ n. slice_get (f n y) j ≡ Some a) (let e : s ≡ s + 0 = omega arith in e) here, (let e : j ≡ 0 + j = omega arith in e))
  | inr later ↦
      let r = listed_place size f long (s + 1) xs later.0 a later.2 in
      let l = long s y in
      let p = later.1 in
      let q = r.5 in
      let e : s + 1 + r.0 ≡ s + suc r.0 = omega arith in
      (suc r.0, r.1, r.2, r.3, subst (λ n. slice_get (f n r.1) r.2 ≡ Some a) e r.4, (let z : j ≡ size y.cell + total size r.0 xs + r.2 = omega arith in z))
]

listed_length : {A : Type 0} (size : Cell → ℕ) (f : ℕ → SizedCell → List A) → ((k : ℕ) (x : SizedCell) → length (f k x) ≡ size x.cell)
    → (s : ℕ) (xs : List SizedCell) → length (each_numbered f s xs) ≡ total size (length xs) xs
listed_length size f long s [] = refl
listed_length size f long s (y ∷ xs) = length-append (f s y) (each_numbered f (s + 1) xs) ∙ (λ i. long s y i + listed_length size f long (s + 1) xs i)

abbrev pub is_state : Cell → ℕ
is_state (Reg next) = 1
is_state (Mem depth at next enable) = 1
is_state _ = 0

module _ (lines : ℕ → ℕ) (cells : List SizedCell) (outlets : List Outlet) (outs : ℕ) where
  -- the equation of a cell, if it has one
  abbrev pub cell_drives : ℕ → ℕ → Cell → List DriveTree
  cell_drives k width (Const v) = drive (number_name lines k) (constant width v true) ∷ []
  cell_drives k width (Op op args) = drive (number_name lines k) (op_expression lines cells width op (operand args 0) (operand args 1) (operand args 2)) ∷ []
  cell_drives k width (Peek mem at) = drive (number_name lines k) (index (net_name lines cells mem.0) (net_value lines cells at.0)) ∷ []
  cell_drives k width _ = []

  -- what happens to a cell at a clock edge
  abbrev pub cell_edge : ℕ → Cell → StmtTree
  cell_edge k (Reg next) = set (number_name lines k) (net_value lines cells next.0)
  cell_edge k (Mem depth at next enable) = when (net_value lines cells enable.0)
      (put (number_name lines k) (net_value lines cells at.0) (net_value lines cells next.0))
  cell_edge k _ = block_end

  declaration_length : (k : ℕ) (x : SizedCell) → length (declaration lines cells k x.width x.cell) ≡ is_other x.cell
  declaration_length k x = by_cell k x.width x.cell where
    by_cell : (k width : ℕ) (c : Cell) → length (declaration lines cells k width c) ≡ is_other c
    by_cell k width (Input port) = refl
    by_cell k width (Const v) = refl
    by_cell k width (Op op args) = refl
    by_cell k width (Reg next) = refl
    by_cell k width (Mem depth at next enable) = refl
    by_cell k width (Peek mem at) = refl

  edge_length : (k : ℕ) (x : SizedCell) → length (edge lines cells k x.cell) ≡ is_state x.cell
  edge_length k x = by_cell k x.cell where
    by_cell : (k : ℕ) (c : Cell) → length (edge lines cells k c) ≡ is_state c
    by_cell k (Input port) = refl
    by_cell k (Const v) = refl
    by_cell k (Op op args) = refl
    by_cell k (Reg next) = refl
    by_cell k (Mem depth at next enable) = refl
    by_cell k (Peek mem at) = refl

  the_declaration : (k width : ℕ) (c : Cell) (i : ℕ) (item : ItemTree) → slice_get (declaration lines cells k width c) i ≡ Some item → (i ≡ 0)
      × (is_other c ≡ 1) × (item ≡ nets (cell_drives k width c))
  the_declaration k width (Input port) i item h = absurd (let e : None ≡ Some item = h in cc)
  the_declaration k width (Const v) zero item h = (
    refl,
    refl,
    let e : Some (nets (cell_drives k width (Const v))) ≡ Some item = h in
        let z : item ≡ nets (cell_drives k width (Const v)) = cc in z,
  )
  the_declaration k width (Const v) (suc i) item h = absurd (let e : None ≡ Some item = h in cc)
  the_declaration k width (Op op args) zero item h = (
    refl,
    refl,
    let e : Some (nets (cell_drives k width (Op op args))) ≡ Some item = h in
        let z : item ≡ nets (cell_drives k width (Op op args)) = cc in z,
  )
  the_declaration k width (Op op args) (suc i) item h = absurd (let e : None ≡ Some item = h in cc)
  the_declaration k width (Reg next) zero item h = (refl, refl, let e : Some (nets []) ≡ Some item = h in let z : item ≡ nets [] = cc in z)
  the_declaration k width (Reg next) (suc i) item h = absurd (let e : None ≡ Some item = h in cc)
  the_declaration k width (Mem depth at next enable) zero item h = (refl, refl, let e : Some (nets []) ≡ Some item = h in let z : item ≡ nets [] = cc in z)
  the_declaration k width (Mem depth at next enable) (suc i) item h = absurd (let e : None ≡ Some item = h in cc)
  the_declaration k width (Peek mem at) zero item h = (
    refl,
    refl,
    let e : Some (nets (cell_drives k width (Peek mem at))) ≡ Some item = h in
        let z : item ≡ nets (cell_drives k width (Peek mem at)) = cc in z,
  )
  the_declaration k width (Peek mem at) (suc i) item h = absurd (let e : None ≡ Some item = h in cc)

  the_edge : (k : ℕ) (c : Cell) (i : ℕ) (item : ItemTree) → slice_get (edge lines cells k c) i ≡ Some item → (i ≡ 0) × (is_state c ≡ 1)
      × (item ≡ always clock_name (cell_edge k c))
  the_edge k (Input port) i item h = absurd (let e : None ≡ Some item = h in cc)
  the_edge k (Const v) i item h = absurd (let e : None ≡ Some item = h in cc)
  the_edge k (Op op args) i item h = absurd (let e : None ≡ Some item = h in cc)
  the_edge k (Peek mem at) i item h = absurd (let e : None ≡ Some item = h in cc)
  the_edge k (Reg next) zero item h = (
    refl,
    refl,
    let e : Some (always clock_name (cell_edge k (Reg next))) ≡ Some item = h in
        let z : item ≡ always clock_name (cell_edge k (Reg next)) = cc in z,
  )
  the_edge k (Reg next) (suc i) item h = absurd (let e : None ≡ Some item = h in cc)
  the_edge k (Mem depth at next enable) zero item h = (
    refl,
    refl,
    let e : Some (always clock_name (cell_edge k (Mem depth at next enable))) ≡ Some item = h in
        let z : item ≡ always clock_name (cell_edge k (Mem depth at next enable)) = cc in z,
  )
  the_edge k (Mem depth at next enable) (suc i) item h = absurd (let e : None ≡ Some item = h in cc)

  abbrev pub declarations : List ItemTree
  declarations = each_numbered (λ net (sized : SizedCell). declaration lines cells net sized.width sized.cell) 0 cells

  abbrev pub edges : List ItemTree
  edges = each_numbered (λ net (sized : SizedCell). edge lines cells net sized.cell) 0 cells

  -- an item by its place, where the first is 0
  pub data ItemOrigin (j : ℕ) (item : ItemTree) : Type 0 where
    declares : (k : ℕ) (x : SizedCell) → slice_get cells k ≡ Some x → is_other x.cell ≡ 1 → j ≡ others k cells → item ≡ nets (cell_drives k x.width x.cell)
        → ItemOrigin j item
    shows : (k : ℕ) (o : Outlet) → slice_get outlets k ≡ Some o → j ≡ others (length cells) cells + k → item ≡ assignment lines cells outs o → ItemOrigin j item
    changes : (k : ℕ) (x : SizedCell) → slice_get cells k ≡ Some x → is_state x.cell ≡ 1
        → j ≡ others (length cells) cells + (length outlets + total is_state k cells) → item ≡ always clock_name (cell_edge k x.cell) → ItemOrigin j item

  decl_length : length declarations ≡ others (length cells) cells
  decl_length = listed_length is_other (λ net (sized : SizedCell). declaration lines cells net sized.width sized.cell) declaration_length 0 cells ∙
      total_others (length cells) cells

  pub item_origin : (j : ℕ) (item : ItemTree) → slice_get (written lines cells outlets outs).items j ≡ Some item → ItemOrigin j item
  item_origin j item h = elim (get_append declarations (map (assignment lines cells outs) outlets ++ edges) j item h) [
    | inl a ↦
        let r = listed_place is_other (λ net (sized : SizedCell). declaration lines cells net sized.width sized.cell) declaration_length 0 cells j item a in
        let n : 0 + r.0 ≡ r.0 = omega arith in
        let d = the_declaration r.0 r.1.width r.1.cell r.2 item (subst (λ k. slice_get (declaration lines cells k r.1.width r.1.cell) r.2 ≡ Some item) n r.4) in
        let t = total_others r.0 cells in
        let p = r.5 in
        let z = d.0 in
        declares r.0 r.1 r.3 d.1 (omega arith) d.2
    | inr b ↦ elim (get_append (map (assignment lines cells outs) outlets) edges b.0 item b.2) [
      | inl a ↦
          let r = get_map (assignment lines cells outs) outlets b.0 item a in
          let l = decl_length in let p = b.1 in
          shows b.0 r.0 r.1 (omega arith) (sym r.2)
      | inr e ↦
          let r = listed_place is_state (λ net (sized : SizedCell). edge lines cells net sized.cell) edge_length 0 cells e.0 item e.2 in
          let n : 0 + r.0 ≡ r.0 = omega arith in
          let d = the_edge r.0 r.1.cell r.2 item (subst (λ k. slice_get (edge lines cells k r.1.cell) r.2 ≡ Some item) n r.4) in
          let l = decl_length in let p = b.1 in let q = e.1 in let s = r.5 in let z = d.0 in
          let m : length (map (assignment lines cells outs) outlets) ≡ length outlets = length-map outlets (assignment lines cells outs) in
          changes r.0 r.1 r.3 d.1 (omega arith) d.2
    ]
  ]

  -- the equations: those of cells, and those of outputs
  pub data EquationOrigin (d : DriveTree) : Type 0 where
    of_cell : (k : ℕ) (x : SizedCell) → slice_get cells k ≡ Some x → Among d (cell_drives k x.width x.cell) → EquationOrigin d
    of_output : (k : ℕ) (o : Outlet) → slice_get outlets k ≡ Some o → d ≡ drive (port_name outs o.port) (net_value lines cells o.net.0) → EquationOrigin d

  pub equation_origin : (d : DriveTree) → Among d (equations (written lines cells outlets outs)) → EquationOrigin d
  unfolding equations
  equation_origin d h =
      let r = among_unflat drives_of d (written lines cells outlets outs).items h in
      elim (item_origin r.0 r.1 r.2) [
        | declares k x at other place is ↦ of_cell k x at (subst (λ i. Among d (drives_of i)) is r.3)
        | shows k o at place is ↦ of_output k o at (let a : Among d (drive (port_name outs o.port) (net_value lines cells o.net.0) ∷ []) = subst
            (λ i. Among d (drives_of i)) is r.3 in elim a [ inl e ↦ sym e | inr none ↦ absurd none ])
        | changes k x at state place is ↦ absurd (subst (λ i. Among d (drives_of i)) is r.3)
      ]

  decl_drives : (k width : ℕ) (c : Cell) (d : DriveTree) → Among d (cell_drives k width c)
      → Among (nets (cell_drives k width c)) (declaration lines cells k width c)
  decl_drives k width (Input port) d h = absurd h
  decl_drives k width (Const v) d h = inl refl
  decl_drives k width (Op op args) d h = inl refl
  decl_drives k width (Reg next) d h = absurd h
  decl_drives k width (Mem depth at next enable) d h = absurd h
  decl_drives k width (Peek mem at) d h = inl refl

  pub cell_equation : (k : ℕ) (x : SizedCell) (d : DriveTree) → slice_get cells k ≡ Some x → Among d (cell_drives k x.width x.cell)
      → Among d (equations (written lines cells outlets outs))
  unfolding equations
  cell_equation k x d h a =
      let b : k ≡ 0 + k = omega arith in
      let item : ItemTree = nets (cell_drives k x.width x.cell) in
      let there : Among item declarations = among_listed (λ net (sized : SizedCell). declaration lines cells net sized.width sized.cell) item 0 cells k x h
      (subst (λ n. Among item (declaration lines cells n x.width x.cell)) b (decl_drives k x.width x.cell d a)) in
      let p = among_at item (written lines cells outlets outs).items (among_left item declarations _ there) in
      among_flat drives_of d (written lines cells outlets outs).items p.0 item p.1 a

  pub output_equation : (k : ℕ) (o : Outlet) → slice_get outlets k ≡ Some o
      → Among (drive (port_name outs o.port) (net_value lines cells o.net.0)) (equations (written lines cells outlets outs))
  unfolding equations
  output_equation k o h =
      let item : ItemTree = assignment lines cells outs o in
      let p = among_at item (written lines cells outlets outs).items
      (among_right item declarations _ (among_left item (map (assignment lines cells outs) outlets) edges
      (among_map (assignment lines cells outs) o outlets (among_from o outlets k h)))) in
      among_flat drives_of (drive (port_name outs o.port) (net_value lines cells o.net.0)) (written lines cells outlets outs).items p.0 item p.1 (inl refl)
