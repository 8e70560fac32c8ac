-- The nets of declared names, one name after the other.
use Rattle.std.proofs.Common.{ℕ, suc, ◌≡◌, ◌+◌, inl, inr, Bool, true, false, if◌then◌else◌, List, [], ◌∷◌, ◌++◌, length, map, Option, Some, None, slice_get, arith, refl, sym, ap, ◌∙◌, subst, length-append}
use Rattle.std.specs.List.{filter, enumerate_from}
use Rattle.std.proofs.lemmas.List.{map-append}
use Rattle.std.proofs.lemmas.List.Sums.{length-filter}
use Rattle.std.proofs.lemmas.Bool.{cases_Bool}
use Rattle.ae_netlist.specs.declared.cell.NetId.{NetId}
use Rattle.ae_netlist.specs.declared.cell.Port.TheVariants.{Plain}
use Rattle.ae_netlist.specs.declared.cell.Cell.{Cell}
use Rattle.ae_netlist.specs.declared.cell.Cell.TheVariants.{Input as InputCell}
use Rattle.ae_netlist.specs.declared.cell.SizedCell.{SizedCell}
use Rattle.ae_netlist.specs.Circuit.{Circuit, IsNet, new_memory, new_register}
use Rattle.ae_netlist.specs.Counts.{count_of, is_input}
use Rattle.ae_netlist.proofs.Gets.{get_left, get_pushed, get_push_cases}
use Rattle.ae_netlist.proofs.Growing.{extends_append, keeps_extends}
use Rattle.ae_vmodule.specs.declared.module.NetKind.{NetKind}
use Rattle.ae_vmodule.specs.declared.module.NetKind.TheVariants.{Input, Wire, OutWire, Reg, OutReg, Memory}
use Rattle.ae_vmodule.specs.ModuleTree.{NetTree, ModuleTree}
use Rattle.ae_judge.specs.Names.{is_clock, is_input_kind, is_register_kind}
use Rattle.ae_runs.specs.SameRuns.{is_input_cell, is_state_cell, cell_depth, input_cells, kind_depth}
use Rattle.ae_runs.specs.Named.{StandsFor}
use Rattle.ae_elab.specs.Declaring.{AddsCell, AreDeclared, ArePlainInputs, IsUnconnected, given_cell, is_data_input, is_given, is_state, number_of, with_nets}
use Rattle.ae_elab.proofs.Unchanged.{left_out, same_input}
use Rattle.ae_express.proofs.NetLaws.{stands_later}

-- a cell that passes comes last
pub taken_in : (check : Cell → Bool) (k : ℕ) (cells : List SizedCell) (c : SizedCell) → check c.cell ≡ true
    → filter (λ (x : ℕ × SizedCell). check x.1.cell) (enumerate_from k (cells ++ c ∷ [])) ≡ filter (λ (x : ℕ × SizedCell). check x.1.cell)
    (enumerate_from k cells) ++ (k + length cells, c) ∷ []
taken_in check k [] c h = rw h (ap (λ (n : ℕ). (n, c) ∷ []) (let e : k ≡ k + 0 = omega arith in e))
taken_in check k (x ∷ cells) c h =
    let F : List (ℕ × SizedCell) = filter (λ (y : ℕ × SizedCell). check y.1.cell) (enumerate_from (k + 1) cells) in
    let G : List (ℕ × SizedCell) = filter (λ (y : ℕ × SizedCell). check y.1.cell) (enumerate_from (k + 1) (cells ++ c ∷ [])) in
    let e : G ≡ F ++ (k + suc (length cells), c) ∷ [] = taken_in check (k + 1) cells c h ∙
    ap (λ (n : ℕ). F ++ (n, c) ∷ []) (let s : (k + 1) + length cells ≡ k + suc (length cells) = omega arith in s) in
    either F G (k, x) (k + suc (length cells), c) e (check x.cell)
  where
    either : (F G : List (ℕ × SizedCell)) (a z : ℕ × SizedCell) → G ≡ F ++ z ∷ [] → (b : Bool) → (if b then a ∷ G else G) ≡ (if b then a ∷ F else F) ++ z ∷ []
    either F G a z e true = ap (λ (ys : List (ℕ × SizedCell)). a ∷ ys) e
    either F G a z e false = e

module _ {Z : Type 0} (test : NetTree → Bool) (f : ℕ → NetTree → Z) where
  -- one name more, with its net
  pub with_nets_push : (ns : List NetTree) (nets : List (Option NetId)) (x : NetTree) (net : Option NetId) → length nets ≡ length ns
      → with_nets test f (ns ++ x ∷ []) (nets ++ net ∷ []) ≡ (if test x then with_nets test f ns nets ++ f (number_of net) x ∷ [] else with_nets test f ns nets)
  with_nets_push [] [] x net l = refl
  with_nets_push [] (o ∷ nets) x net l = absurd (omega arith)
  with_nets_push (y ∷ ns) [] x net l = absurd (omega arith)
  with_nets_push (y ∷ ns) (o ∷ nets) x net l =
      step (f (number_of o) y) (f (number_of net) x) (with_nets test f ns nets) (with_nets test f (ns ++ x ∷ []) (nets ++ net ∷ [])) (test y) (test x)
      (with_nets_push ns nets x net (omega arith))
    where
      step : (a z : Z) (V W : List Z) (p q : Bool) → W ≡ (if q then V ++ z ∷ [] else V)
          → (if p then a ∷ W else W) ≡ (if q then (if p then a ∷ V else V) ++ z ∷ [] else (if p then a ∷ V else V))
      step a z V W true true e = ap (λ (ys : List Z). a ∷ ys) e
      step a z V W true false e = ap (λ (ys : List Z). a ∷ ys) e
      step a z V W false true e = e
      step a z V W false false e = e

  module _ (check : Cell → Bool) (h : ℕ × SizedCell → Z) where
    -- a name and a cell more, of which both or neither pass
    pub pairs_push : (ns : List NetTree) (nets : List (Option NetId)) (cells : List SizedCell) (x : NetTree) (c : SizedCell) (net : Option NetId)
        → length nets ≡ length ns → number_of net ≡ length cells → test x ≡ check c.cell
        → (test x ≡ true → h (length cells, c) ≡ f (length cells) x)
        → map h (filter (λ (y : ℕ × SizedCell). check y.1.cell) (enumerate_from 0 cells)) ≡ with_nets test f ns nets
        → map h (filter (λ (y : ℕ × SizedCell). check y.1.cell) (enumerate_from 0 (cells ++ c ∷ []))) ≡ with_nets test f (ns ++ x ∷ []) (nets ++ net ∷ [])
    pairs_push ns nets cells x c net l number same fits e = elim (cases_Bool (test x)) [
      | inl t ↦
          let F : List (ℕ × SizedCell) = filter (λ (y : ℕ × SizedCell). check y.1.cell) (enumerate_from 0 cells) in
          let last : h (0 + length cells, c) ≡ f (number_of net) x = ap (λ (n : ℕ). h (n, c)) (let z : 0 + length cells ≡ length cells = omega arith in z) ∙
          fits t ∙ ap (λ (n : ℕ). f n x) (sym number) in
          ap (map h) (taken_in check 0 cells c (sym same ∙ t)) ∙ map-append h F ((0 + length cells, c) ∷ []) ∙
          ap (λ (ys : List Z). ys ++ h (0 + length cells, c) ∷ []) e
          ∙ ap (λ (z : Z). with_nets test f ns nets ++ z ∷ []) last ∙ sym (with_nets_push ns nets x net l ∙ rw t refl)
      | inr n ↦ ap (map h) (left_out check 0 cells c (sym same ∙ n)) ∙ e ∙ sym (with_nets_push ns nets x net l ∙ rw n refl)
    ]

  -- a name more that does not pass
  pub pairs_same : (ns : List NetTree) (nets : List (Option NetId)) (x : NetTree) (net : Option NetId) (all : List Z) → length nets ≡ length ns
      → test x ≡ false → all ≡ with_nets test f ns nets
      → all ≡ with_nets test f (ns ++ x ∷ []) (nets ++ net ∷ [])
  pairs_same ns nets x net all l n e = e ∙ sym (with_nets_push ns nets x net l ∙ rw n refl)

-- as many inputs as there are cells that are one
pub inputs_counted : (k : ℕ) (cells : List SizedCell) → length
    (filter (λ (y : ℕ × SizedCell). is_input_cell y.1.cell) (enumerate_from k cells)) ≡ count_of is_input cells
inputs_counted k cells = counted k cells ∙ length-filter (λ (c : SizedCell). is_input c.cell) cells
  where
    either : (b : Bool) (y : ℕ × SizedCell) (c : SizedCell) (F : List (ℕ × SizedCell)) (G : List SizedCell) → length F ≡ length G
        → length (if b then y ∷ F else F) ≡ length (if b then c ∷ G else G)
    either true y c F G e = ap suc e
    either false y c F G e = e

    counted : (k : ℕ) (cells : List SizedCell) → length (filter (λ (y : ℕ × SizedCell). is_input_cell y.1.cell) (enumerate_from k cells)) ≡ length
        (filter (λ (c : SizedCell). is_input c.cell) cells)
    counted k [] = refl
    counted k (c ∷ cells) =
        rw (same_input c.cell) (either (is_input c.cell) (k, c) c _ _ (counted (k + 1) cells))

free_later : (k : NetKind) (a b : List SizedCell) (n w : ℕ) → IsUnconnected k a n w → IsUnconnected k (a ++ b) n w
free_later Input a b n w h = tt
free_later Wire a b n w h = tt
free_later OutWire a b n w h = tt
free_later Reg a b n w h = get_left a b n (new_register n w) h
free_later OutReg a b n w h = get_left a b n (new_register n w) h
free_later (Memory depth) a b n w h = get_left a b n (new_memory n w depth) h

module _ (m : ModuleTree) (ns : List NetTree) (nets : List (Option NetId)) (cells : List SizedCell) (all : AreDeclared m ns nets cells) (x : NetTree) where
  -- a name without a net
  pub declared_none : is_data_input m x ≡ false → is_state x ≡ false → AreDeclared m (ns ++ x ∷ []) (nets ++ None ∷ []) cells
  declared_none i s = record {
    long = length-append nets (None ∷ []) ∙ (let l = all.long in let e : length nets + 1 ≡ length ns + 1 = omega arith in e) ∙ sym (length-append ns (x ∷ []));
    stand = λ p u y hx hy. elim (get_push_cases nets None p (Some y) hy) [
      | inl o ↦ elim (get_push_cases ns x p u hx) [
        | inl w ↦ all.stand p u y w.0 o.0
        | inr w ↦ absurd (let l = all.long in let a = w.0 in let b = o.1 in omega arith)
      ]
      | inr o ↦ absurd (let e : None ≡ Some y = o.1 in cc)
    ];
    unconnected = λ p u y hx hy. elim (get_push_cases nets None p (Some y) hy) [
      | inl o ↦ elim (get_push_cases ns x p u hx) [
        | inl w ↦ all.unconnected p u y w.0 o.0
        | inr w ↦ absurd (let l = all.long in let a = w.0 in let b = o.1 in omega arith)
      ]
      | inr o ↦ absurd (let e : None ≡ Some y = o.1 in cc)
    ];
    within = λ p y hy. elim (get_push_cases nets None p (Some y) hy) [ inl o ↦ all.within p y o.0 | inr o ↦ absurd (let e : None ≡ Some y = o.1 in cc) ];
    apart = λ p q y hp hq. elim (get_push_cases nets None p (Some y) hp) [
      | inl o ↦ elim (get_push_cases nets None q (Some y) hq) [ inl w ↦ all.apart p q y o.0 w.0 | inr w ↦ absurd (let e : None ≡ Some y = w.1 in cc) ]
      | inr o ↦ absurd (let e : None ≡ Some y = o.1 in cc)
    ];
    given = λ p u hx g. elim (get_push_cases ns x p u hx) [
      | inl w ↦ let r = all.given p u w.0 g in (r.0, get_left nets (None ∷ []) p (Some r.0) r.1)
      | inr w ↦ absurd (let e : is_given m u ≡ false = ap (is_given m) (sym w.1) ∙ rw (i, s) refl in cc)
    ];
    others = λ p u hx g. elim (get_push_cases ns x p u hx) [
      | inl w ↦ get_left nets (None ∷ []) p None (all.others p u w.0 g)
      | inr w ↦ ap (slice_get (nets ++ None ∷ [])) (w.0 ∙ sym all.long) ∙ get_pushed nets None
    ];
    inputs = pairs_same {Z = ℕ × ℕ} (is_data_input m) (λ n y. (n, y.width)) ns nets x None _ all.long i all.inputs;
    states = pairs_same {Z = ℕ × ℕ × Option ℕ} is_state (λ n y. (n, y.width, kind_depth y.kind)) ns nets x None _ all.long s all.states;
    plain = all.plain;
    few = let f = all.few in let e = length-append ns (x ∷ []) in omega arith;
  }

  -- a name with the net of a new cell
  pub declared_some : (c : SizedCell) (port : ℕ) → is_data_input m x ≡ is_input_cell c.cell → is_state x ≡ is_state_cell c.cell → is_given m x ≡ true
      → c.width ≡ x.width → cell_depth c.cell ≡ kind_depth x.kind
      → StandsFor x.kind (cells ++ c ∷ []) (length cells) x.width → IsUnconnected x.kind (cells ++ c ∷ []) (length cells) x.width
      → port ≡ count_of is_input cells → (is_input_cell c.cell ≡ true → c.cell ≡ InputCell (Plain port))
      → AreDeclared m (ns ++ x ∷ []) (nets ++ Some (record { 0 = length cells }) ∷ []) (cells ++ c ∷ [])
  declared_some c port i s g w d stands free count is =
      let net : NetId = record { 0 = length cells } in
      record {
        long = length-append nets (Some net ∷ []) ∙ (let l = all.long in let e : length nets + 1 ≡ length ns + 1 = omega arith in e) ∙
            sym (length-append ns (x ∷ []));
        stand = λ p u y hx hy. elim (get_push_cases nets (Some net) p (Some y) hy) [
          | inl o ↦ elim (get_push_cases ns x p u hx) [
            | inl v ↦ stands_later u.kind cells (cells ++ c ∷ []) y.0 u.width (keeps_extends (extends_append cells (c ∷ []))) (all.stand p u y v.0 o.0)
            | inr v ↦ absurd (let l = all.long in let a = v.0 in let b = o.1 in omega arith)
          ]
          | inr o ↦ elim (get_push_cases ns x p u hx) [
            | inl v ↦ absurd (let l = all.long in let a = v.1 in let b = o.0 in omega arith)
            | inr v ↦
                let e : Some net ≡ Some y = o.1 in
                let same : net ≡ y = cc in
                subst (λ (k : NetTree). StandsFor k.kind (cells ++ c ∷ []) y.0 k.width) v.1
                (subst (λ (k : NetId). StandsFor x.kind (cells ++ c ∷ []) k.0 x.width) same stands)
          ]
        ];
        unconnected = λ p u y hx hy. elim (get_push_cases nets (Some net) p (Some y) hy) [
          | inl o ↦ elim (get_push_cases ns x p u hx) [
            | inl v ↦ free_later u.kind cells (c ∷ []) y.0 u.width (all.unconnected p u y v.0 o.0)
            | inr v ↦ absurd (let l = all.long in let a = v.0 in let b = o.1 in omega arith)
          ]
          | inr o ↦ elim (get_push_cases ns x p u hx) [
            | inl v ↦ absurd (let l = all.long in let a = v.1 in let b = o.0 in omega arith)
            | inr v ↦
                let e : Some net ≡ Some y = o.1 in
                let same : net ≡ y = cc in
                subst (λ (k : NetTree). IsUnconnected k.kind (cells ++ c ∷ []) y.0 k.width) v.1
                (subst (λ (k : NetId). IsUnconnected x.kind (cells ++ c ∷ []) k.0 x.width) same free)
          ]
        ];
        within = λ p y hy. let b = length-append cells (c ∷ []) in elim (get_push_cases nets (Some net) p (Some y) hy) [
          | inl o ↦ let a = all.within p y o.0 in omega arith
          | inr o ↦ let e : Some net ≡ Some y = o.1 in let same : length cells ≡ y.0 = cc in omega arith
        ];
        apart = λ p q y hp hq. elim (get_push_cases nets (Some net) p (Some y) hp) [
          | inl o ↦ elim (get_push_cases nets (Some net) q (Some y) hq) [
            | inl v ↦ all.apart p q y o.0 v.0
            | inr v ↦ absurd (let a = all.within p y o.0 in let e : Some net ≡ Some y = v.1 in let same : length cells ≡ y.0 = cc in omega arith)
          ]
          | inr o ↦ elim (get_push_cases nets (Some net) q (Some y) hq) [
            | inl v ↦ absurd (let a = all.within q y v.0 in let e : Some net ≡ Some y = o.1 in let same : length cells ≡ y.0 = cc in omega arith)
            | inr v ↦ o.0 ∙ sym v.0
          ]
        ];
        given = λ p u hx t. elim (get_push_cases ns x p u hx) [
          | inl v ↦ let r = all.given p u v.0 t in (r.0, get_left nets (Some net ∷ []) p (Some r.0) r.1)
          | inr v ↦ (net, ap (slice_get (nets ++ Some net ∷ [])) (v.0 ∙ sym all.long) ∙ get_pushed nets (Some net))
        ];
        others = λ p u hx t. elim (get_push_cases ns x p u hx) [
          | inl v ↦ get_left nets (Some net ∷ []) p None (all.others p u v.0 t)
          | inr v ↦ absurd (let e : is_given m u ≡ true = ap (is_given m) (sym v.1) ∙ g in cc)
        ];
        inputs = pairs_push {Z = ℕ × ℕ} (is_data_input m) (λ n y. (n, y.width)) is_input_cell (λ y. (y.0, y.1.width)) ns nets cells x c
            (Some net) all.long refl i (λ t. ap (λ (k : ℕ). (length cells, k)) w) all.inputs;
        states = pairs_push {Z = ℕ × ℕ × Option ℕ} is_state (λ n y. (n, y.width, kind_depth y.kind)) is_state_cell
            (λ y. (y.0, y.1.width, cell_depth y.1.cell)) ns nets cells x c (Some net) all.long refl s (λ t. rw (w, d) refl) all.states;
        plain = plain_push;
        few = let f = all.few in let a = length-append ns (x ∷ []) in let b = length-append cells (c ∷ []) in omega arith;
      }
    where
      plain_push : ArePlainInputs (cells ++ c ∷ [])
      plain_push k y h = elim (cases_Bool (is_input_cell c.cell)) [
        | inl t ↦ elim (get_push_cases (input_cells cells) (0 + length cells, c) k y
            (ap (λ (ys : List (ℕ × SizedCell)). slice_get ys k) (sym (taken_in is_input_cell 0 cells c t)) ∙ h)) [
              | inl v ↦ all.plain k y v.0
              | inr v ↦ ap (λ (z : ℕ × SizedCell). z.1.cell) (sym v.1) ∙ is t ∙
                  ap (λ (n : ℕ). InputCell (Plain n)) (count ∙ sym (inputs_counted 0 cells) ∙ sym v.0)
            ]
        | inr n ↦ all.plain k y (ap (λ (ys : List (ℕ × SizedCell)). slice_get ys k) (sym (left_out is_input_cell 0 cells c n)) ∙ h)
      ]

-- what a declaration adds
pub declared_more : (m : ModuleTree) (ns : List NetTree) (nets : List (Option NetId)) (old new : Circuit) (x : NetTree) (net : Option NetId) (port : ℕ)
    → AreDeclared m ns nets old.cells → port ≡ count_of is_input old.cells
    → AddsCell (given_cell x.kind (is_clock m x.name) (length old.cells) port x.width) old new net → AreDeclared m (ns ++ x ∷ []) (nets ++ net ∷ []) new.cells
declared_more m ns nets old new x net port all count adds = by_kind x.kind (is_clock m x.name) refl refl adds
  where
    none : is_data_input m x ≡ false → is_state x ≡ false → AddsCell None old new net → AreDeclared m (ns ++ x ∷ []) (nets ++ net ∷ []) new.cells
    none i s a = rw (a.0, a.1) (declared_none m ns nets old.cells all x i s)

    some : (c : SizedCell) → is_data_input m x ≡ is_input_cell c.cell → is_state x ≡ is_state_cell c.cell → is_given m x ≡ true → c.width ≡ x.width
        → cell_depth c.cell ≡ kind_depth x.kind
        → StandsFor x.kind (old.cells ++ c ∷ []) (length old.cells) x.width → IsUnconnected x.kind (old.cells ++ c ∷ []) (length old.cells) x.width
        → (is_input_cell c.cell ≡ true → c.cell ≡ InputCell (Plain port)) → AddsCell (Some c) old new net
        → AreDeclared m (ns ++ x ∷ []) (nets ++ net ∷ []) new.cells
    some c i s g w d stands free is a = rw (a.0, a.1) (declared_some m ns nets old.cells all x c port i s g w d stands free count is)

    register : (k : NetKind) → x.kind ≡ k → is_input_kind k ≡ false → is_register_kind k ≡ true → kind_depth k ≡ None
        → ((cells : List SizedCell) (n w : ℕ) → IsNet cells n w → StandsFor k cells n w)
        → ((cells : List SizedCell) (n w : ℕ) → slice_get cells n ≡ Some (new_register n w) → IsUnconnected k cells n w)
        → AddsCell (Some (new_register (length old.cells) x.width)) old new net → AreDeclared m (ns ++ x ∷ []) (nets ++ net ∷ []) new.cells
    register k e i r d stands free a =
        let c : SizedCell = new_register (length old.cells) x.width in
        some c (rw (e, i) refl) (rw (e, r) refl) (rw (e, i, r) refl) refl (rw (e, d) refl)
        (rw e (stands (old.cells ++ c ∷ []) (length old.cells) x.width (record { sized = c; found = get_pushed old.cells c; plain = tt; wide = refl })))
        (rw e (free (old.cells ++ c ∷ []) (length old.cells) x.width (get_pushed old.cells c)))
        (λ t. absurd (cc)) a

    by_kind : (k : NetKind) (b : Bool) → x.kind ≡ k → is_clock m x.name ≡ b → AddsCell (given_cell k b (length old.cells) port x.width) old new net
        → AreDeclared m (ns ++ x ∷ []) (nets ++ net ∷ []) new.cells
    by_kind Input true e f a = none (rw (e, f) refl) (rw e refl) a
    by_kind Input false e f a =
        let c : SizedCell = record { width = x.width; cell = InputCell (Plain port) } in
        some c (rw (e, f) refl) (rw e refl) (rw (e, f) refl) refl (rw e refl)
        (rw e (record { sized = c; found = get_pushed old.cells c; plain = tt; wide = refl })) (rw e tt) (λ t. refl) a
    by_kind Wire b e f a = none (rw e refl) (rw e refl) a
    by_kind OutWire b e f a = none (rw e refl) (rw e refl) a
    by_kind Reg b e f a = register Reg e refl refl refl (λ cells n w h. h) (λ cells n w h. h) a
    by_kind OutReg b e f a = register OutReg e refl refl refl (λ cells n w h. h) (λ cells n w h. h) a
    by_kind (Memory depth) b e f a =
        let c : SizedCell = new_memory (length old.cells) x.width depth in
        some c (rw e refl) (rw e refl) (rw e refl) refl (rw e refl)
        (rw e (record { at = _; next = _; enable = _; found = get_pushed old.cells c })) (rw e (get_pushed old.cells c)) (λ t. absurd (cc)) a

pub adds_limit : (o : Option SizedCell) (old new : Circuit) (net : Option NetId) → AddsCell o old new net → new.limit ≡ old.limit
adds_limit None old new net a = ap (λ (c : Circuit). c.limit) a.1
adds_limit (Some cell) old new net a = ap (λ (c : Circuit). c.limit) a.1

pub adds_outlets : (o : Option SizedCell) (old new : Circuit) (net : Option NetId) → AddsCell o old new net → new.outlets ≡ old.outlets
adds_outlets None old new net a = ap (λ (c : Circuit). c.outlets) a.1
adds_outlets (Some cell) old new net a = ap (λ (c : Circuit). c.outlets) a.1
