-- The nets of wires, one equation after the other.
use Rattle.std.proofs.Common.{ℕ, zero, suc, ◌≡◌, ◌+◌, ◌≤◌, inl, inr, true, false, List, [], ◌∷◌, length, set, replicate, Option, Some, None, slice_get, arith, refl, sym, ap, ◌∙◌, subst, length-set}
use Rattle.std.specs.List.{sum_by}
use Rattle.std.proofs.lemmas.List.Sums.{sum_by-cons}
use Rattle.std.proofs.lemmas.Bool.{cases_Bool, cases_eq, both_ways}
use Rattle.std.proofs.lemmas.Option.{slice_get_within}
use Rattle.ae_netlist.specs.declared.cell.NetId.{NetId}
use Rattle.ae_netlist.specs.declared.cell.SizedCell.{SizedCell}
use Rattle.ae_netlist.specs.Circuit.{Circuit, IsNet}
use Rattle.ae_netlist.proofs.Gets.{get_set_other, get_set_same}
use Rattle.ae_vmodule.specs.declared.module.NetKind.{NetKind}
use Rattle.ae_vmodule.specs.declared.module.NetKind.TheVariants.{Input, Wire, OutWire, Reg, OutReg, Memory}
use Rattle.ae_vmodule.specs.ModuleTree.{ExprTree, name, constant, place, part, index, unary, binary, choice, concat_one, concat_more, NetTree, DriveTree, ModuleTree}
use Rattle.ae_judge.specs.Names.{Among, is_clock, is_wire_kind, names_in, equations}
use Rattle.ae_judge.specs.Faults.{NetAt}
use Rattle.ae_judge.specs.Weight.{drive_weight, expr_weight}
use Rattle.ae_judge.specs.Shape.{IsShapely}
use Rattle.ae_judge.specs.Regular.{IsRegular}
use Rattle.ae_gates.specs.Cells.{GrowsByGates, IsWord}
use Rattle.ae_runs.specs.Named.{AreNamed, IsReady, StandsFor, place_of, read}
use Rattle.ae_order.specs.Sound.{IsReadyFor}
use Rattle.ae_order.specs.Drives.{FeedsAt, IsWireOrder, noted, values_of, with_drive}
use Rattle.ae_elab.specs.Declaring.{AreDeclared, HasNet, is_given}
use Rattle.ae_elab.specs.Wiring.{AreWired, IsWiring, KeepsNets, open_weight}
use Rattle.ae_express.specs.Lowered.{fitted}
use Rattle.ae_judge.proofs.Members.{among_from, among_left, among_right}
use Rattle.ae_runs.proofs.Declared.{driven_kind, driven_net, equation_readable, named_net, wire_driven}
use Rattle.ae_order.proofs.DriveLaws.{value_driven, value_equation}
use Rattle.ae_order.proofs.SoundOf.{named_of, place_is}
use Rattle.ae_gates.proofs.Words.{word_grows}
use Rattle.ae_express.proofs.NetLaws.{nets_grow}

-- an expression is ready where each of its names is
pub ready_for : (ns : List NetTree) (nets : List (Option NetId)) (e : ExprTree) → ((n : List ℕ) → Among n (names_in e) → IsReady ns nets n)
    → IsReadyFor ns nets e
ready_for ns nets (name n) h = h n (inl refl)
ready_for ns nets (constant size value fits) h = tt
ready_for ns nets (place k) h = tt
ready_for ns nets (part n high low) h = h n (inl refl)
ready_for ns nets (index n at) h = (h n (inl refl), ready_for ns nets at (λ k a. h k (inr a)))
ready_for ns nets (unary op a) h = ready_for ns nets a h
ready_for ns nets (binary op a b) h =
    (ready_for ns nets a (λ k x. h k (among_left k (names_in a) (names_in b) x)), ready_for ns nets b (λ k x. h k (among_right k (names_in a) (names_in b) x)))
ready_for ns nets (choice test a b) h = (
  ready_for ns nets test (λ k x. h k (among_left k (names_in test) _ x)),
  ready_for ns nets a (λ k x. h k (among_right k (names_in test) _ (among_left k (names_in a) (names_in b) x))),
  ready_for ns nets b (λ k x. h k (among_right k (names_in test) _ (among_right k (names_in a) (names_in b) x))),
)
ready_for ns nets (concat_one a) h = ready_for ns nets a h
ready_for ns nets (concat_more a rest) h = (
  ready_for ns nets a (λ k x. h k (among_left k (names_in a) (names_in rest) x)),
  ready_for ns nets rest (λ k x. h k (among_right k (names_in a) (names_in rest) x)),
)

-- a net more
pub keeps_set : (nets : List (Option NetId)) (p : ℕ) (y : NetId) → slice_get nets p ≡ Some None → KeepsNets nets (set nets p (Some y))
keeps_set nets p y free q z h = elim (cases_eq q p) [
  | inl e ↦ absurd (let s : Some None ≡ Some (Some z) = sym free ∙ ap (slice_get nets) (sym e) ∙ h in cc)
  | inr other ↦ get_set_other nets p q (Some y) other ∙ h
]

pub has_set : (nets : List (Option NetId)) (p q : ℕ) (y : NetId) → HasNet nets q → HasNet (set nets p (Some y)) q
has_set nets p q y h = elim (cases_eq q p) [
  | inl e ↦ (y, ap (slice_get (set nets p (Some y))) e ∙ get_set_same nets p (Some y) (Some h.0) (ap (slice_get nets) (sym e) ∙ h.1))
  | inr other ↦ (h.0, get_set_other nets p q (Some y) other ∙ h.1)
]

pub named_keeps : {ns : List NetTree} {old new : List (Option NetId)} {at : List ℕ → ℕ} → KeepsNets old new → AreNamed ns new at → AreNamed ns old at
named_keeps {ns} k a = record { each = λ n y h. a.each n y (k (place_of ns n) y h) }

-- an equation more has its net
open_set : (vs : List (Option ExprTree)) (nets : List (Option NetId)) (p : ℕ) (e : ExprTree) (y : NetId) → slice_get vs p ≡ Some (Some e)
    → slice_get nets p ≡ Some None
    → open_weight vs (set nets p (Some y)) + (1 + expr_weight e) ≡ open_weight vs nets
open_set [] nets p e y h g = absurd (let s : None ≡ Some (Some e) = h in cc)
open_set (v ∷ vs) [] p e y h g = absurd (let s : None ≡ Some None = g in cc)
open_set (v ∷ vs) (net ∷ nets) zero e y h g =
    let s : Some v ≡ Some (Some e) = h in
    let t : Some net ≡ Some None = g in
    let a : v ≡ Some e = cc in
    let b : net ≡ None = cc in
    rw (a, b) (omega arith)
open_set (v ∷ vs) (net ∷ nets) (suc p) e y h g = let r = open_set vs nets p e y h g in omega arith

wire_stands : (k : NetKind) (cells : List SizedCell) (n w : ℕ) → is_wire_kind k ≡ true → IsNet cells n w → StandsFor k cells n w
wire_stands Wire cells n w h net = net
wire_stands OutWire cells n w h net = net
wire_stands Input cells n w h net = absurd (cc)
wire_stands Reg cells n w h net = absurd (cc)
wire_stands OutReg cells n w h net = absurd (cc)
wire_stands (Memory depth) cells n w h net = absurd (cc)

not_given : (m : ModuleTree) (x : NetTree) → is_wire_kind x.kind ≡ true → is_given m x ≡ false
not_given m x h = by_kind x.kind refl
  where
    by_kind : (k : NetKind) → x.kind ≡ k → is_given m x ≡ false
    by_kind Wire e = rw e refl
    by_kind OutWire e = rw e refl
    by_kind Input e = absurd (let s : is_wire_kind x.kind ≡ false = rw e refl in both_ways _ s h)
    by_kind Reg e = absurd (let s : is_wire_kind x.kind ≡ false = rw e refl in both_ways _ s h)
    by_kind OutReg e = absurd (let s : is_wire_kind x.kind ≡ false = rw e refl in both_ways _ s h)
    by_kind (Memory depth) e = absurd (let s : is_wire_kind x.kind ≡ false = rw e refl in both_ways _ s h)

-- what is no wire and not the clock has a net at once
must_be_given : (m : ModuleTree) (x : NetTree) → is_wire_kind x.kind ≡ false → is_clock m x.name ≡ false → is_given m x ≡ true
must_be_given m x h c = by_kind x.kind refl
  where
    by_kind : (k : NetKind) → x.kind ≡ k → is_given m x ≡ true
    by_kind Wire e = absurd (let s : is_wire_kind x.kind ≡ true = rw e refl in both_ways _ h s)
    by_kind OutWire e = absurd (let s : is_wire_kind x.kind ≡ true = rw e refl in both_ways _ h s)
    by_kind Input e = rw (e, c) refl
    by_kind Reg e = rw e refl
    by_kind OutReg e = rw e refl
    by_kind (Memory depth) e = rw e refl

module _ (m : ModuleTree) (ok : IsRegular m) (shape : IsShapely m) where
  -- a value is that of a wire
  pub value_wire : (p : ℕ) (x : NetTree) (e : ExprTree) → NetAt m p x → slice_get (values_of m) p ≡ Some (Some e) → is_wire_kind x.kind ≡ true
  value_wire p x e hx h =
      let d = value_equation m ok shape p e h in
      let r = driven_net m ok d.0 d.1 in
      let named = named_of m ok shape r.0 r.1 in
      let at : place_of m.nets r.0.name ≡ p = ap (place_of m.nets) r.2 ∙ d.2 in
      let found : Some named.net ≡ Some x = sym named.at ∙ ap (slice_get m.nets) at ∙ hx in
      let one : named.net ≡ x = cc in
      let its : named.net.name ≡ r.0.name = (named_net m.nets r.0.name named.net named.found).1 in
      driven_kind m ok x d.0 (among_from x m.nets p hx) d.1 (ap (λ (u : NetTree). u.name) (sym one) ∙ its ∙ r.2)

  -- a place without a value is that of no wire
  free_place : (p : ℕ) (x : NetTree) → NetAt m p x → slice_get (values_of m) p ≡ Some None → is_wire_kind x.kind ≡ false
  free_place p x hx h = elim (cases_Bool (is_wire_kind x.kind)) [
    | inl w ↦
        let d = wire_driven m ok x (among_from x m.nets p hx) w in
        let at : place_of m.nets d.0.name ≡ p = ap (place_of m.nets) d.2 ∙ place_is m ok shape p x hx in
        absurd (let s : Some (Some d.0.value) ≡ Some None = sym (value_driven m ok shape d.0 d.1) ∙ ap (slice_get (values_of m)) at ∙ h in cc)
    | inr n ↦ n
  ]

  module _ (order : List ℕ) (sorted : IsWireOrder m order) (from k p : ℕ) (turn : slice_get order k ≡ Some p) where
    -- the value is ready
    pub value_ready : (nets : List (Option NetId)) (cells : List SizedCell) (e : ExprTree) → IsWiring m from order k nets cells
        → slice_get (values_of m) p ≡ Some (Some e) → IsReadyFor m.nets nets e
    value_ready nets cells e is h = ready_for m.nets nets e one
      where
        one : (n : List ℕ) → Among n (names_in e) → IsReady m.nets nets n
        one n a =
            let d = value_equation m ok shape p e h in
            let reads : Among n (names_in d.0.value) = subst (λ v. Among n (names_in v)) (sym d.3) a in
            let known_as = (equation_readable m ok d.0 d.1).known n reads in
            let x = named_of m ok shape known_as.net known_as.there in
            let its : x.net.name ≡ known_as.net.name = (named_net m.nets known_as.net.name x.net x.found).1 in
            let r = driven_net m ok d.0 d.1 in
            let y = named_of m ok shape r.0 r.1 in
            let it : y.net.name ≡ r.0.name = (named_net m.nets r.0.name y.net y.found).1 in
            let here : place_of m.nets r.0.name ≡ p = ap (place_of m.nets) r.2 ∙ d.2 in
            let q : ℕ = place_of m.nets n in
            let there : NetAt m q x.net = ap (λ (u : List ℕ). slice_get m.nets (place_of m.nets u)) (sym known_as.named) ∙ x.at in
            let feeds : FeedsAt m p q = record {
              net = y.net;
              other = x.net;
              at = ap (slice_get m.nets) (sym here) ∙ y.at;
              other_at = there;
              feeds = (d.0, d.1, sym (it ∙ r.2), subst (λ (u : List ℕ). Among u (names_in d.0.value)) (sym (its ∙ known_as.named)) reads);
            } in
            let before = sorted.after k p q turn feeds in
            let free : is_clock m x.net.name ≡ false = ap (is_clock m) (its ∙ known_as.named) ∙ known_as.data_name in
            let has = is.looked before.0 q x.net before.1 before.2 there free in
            record { net = has.0; found = has.1 }

    -- a place without a value has its net, or is the clock's
    pub wiring_same : (nets : List (Option NetId)) (cells : List SizedCell) → IsWiring m from order k nets cells → slice_get (values_of m) p ≡ Some None
        → IsWiring m from order (k + 1) nets cells
    wiring_same nets cells is h = record {
      from_there = is.from_there;
      nets_are = is.nets_are;
      given = is.given;
      looked = λ j q x l o hx c. elim (cases_eq j k) [
        | inl e ↦
            let s : Some q ≡ Some p = sym o ∙ ap (slice_get order) e ∙ turn in
            let same : q ≡ p = cc in
            is.given q x hx (must_be_given m x (free_place q x hx (ap (slice_get (values_of m)) same ∙ h)) c)
        | inr other ↦ is.looked j q x (omega arith) o hx c
      ];
      behind = λ j q e l o v. is.behind j q e (omega arith) o v;
      wires = is.wires;
    }

    -- a wire has its net
    pub wiring_more : (nets : List (Option NetId)) (old new : Circuit) (x : NetTree) (e : ExprTree) (y : NetId) → IsWiring m from order k nets old.cells
        → slice_get (values_of m) p ≡ Some (Some e) → NetAt m p x
        → GrowsByGates old new → length old.cells ≤ length new.cells → IsNet new.cells y.0 x.width
        → ((at : List ℕ → ℕ) → AreNamed m.nets nets at → IsWord from new.cells y.0 x.width (λ run t. fitted m.nets (read at run t) x.width e))
        → IsWiring m from order (k + 1) (set nets p (Some y)) new.cells
    wiring_more nets old new x e y is h hx g more net word =
        let free : slice_get nets p ≡ Some None = is.behind k p e (omega arith) turn h in
        let keep : KeepsNets nets (set nets p (Some y)) = keeps_set nets p y free in
        let grown = nets_grow g is.nets_are in
        record {
          from_there = let f = is.from_there in omega arith;
          nets_are = record {
            long = length-set nets p (Some y) ∙ is.nets_are.long;
            each = λ q u z hu hz. elim (cases_eq q p) [
              | inl s ↦
                  let a : Some (Some y) ≡ Some (Some z) = sym (get_set_same nets p (Some y) None free) ∙ ap (slice_get (set nets p (Some y))) (sym s) ∙ hz in
                  let b : Some x ≡ Some u = sym hx ∙ ap (slice_get m.nets) (sym s) ∙ hu in
                  let c : y ≡ z = cc in
                  let d : x ≡ u = cc in
                  subst (λ (v : NetTree). StandsFor v.kind new.cells z.0 v.width) d
                  (subst (λ (v : NetId). StandsFor x.kind new.cells v.0 x.width) c (wire_stands x.kind new.cells y.0 x.width (value_wire p x e hx h) net))
              | inr other ↦ grown.each q u z hu (sym (get_set_other nets p q (Some y) other) ∙ hz)
            ];
          };
          given = λ q u hu t. has_set nets p q y (is.given q u hu t);
          looked = λ j q u l o hu c. elim (cases_eq j k) [
            | inl s ↦
                let a : Some q ≡ Some p = sym o ∙ ap (slice_get order) s ∙ turn in
                let same : q ≡ p = cc in
                (y, ap (slice_get (set nets p (Some y))) same ∙ get_set_same nets p (Some y) None free)
            | inr other ↦ has_set nets p q y (is.looked j q u (omega arith) o hu c)
          ];
          behind = λ j q f l o v. elim (cases_eq q p) [
            | inl s ↦ absurd (let a : j ≡ k = sorted.once j k p (o ∙ ap Some s) turn in omega arith)
            | inr other ↦ get_set_other nets p q (Some y) other ∙ is.behind j q f (omega arith) o v
          ];
          wires = λ q u f z hu v hz at named. elim (cases_eq q p) [
            | inl s ↦
                let a : Some (Some y) ≡ Some (Some z) = sym (get_set_same nets p (Some y) None free) ∙ ap (slice_get (set nets p (Some y))) (sym s) ∙ hz in
                let b : Some x ≡ Some u = sym hx ∙ ap (slice_get m.nets) (sym s) ∙ hu in
                let i : Some (Some e) ≡ Some (Some f) = sym h ∙ ap (slice_get (values_of m)) (sym s) ∙ v in
                let c : y ≡ z = cc in
                let d : x ≡ u = cc in
                let w : e ≡ f = cc in
                subst (λ (r : ExprTree). IsWord from new.cells z.0 u.width (λ run t. fitted m.nets (read at run t) u.width r)) w
                (subst (λ (r : NetTree). IsWord from new.cells z.0 r.width (λ run t. fitted m.nets (read at run t) r.width e)) d
                (subst (λ (r : NetId). IsWord from new.cells r.0 x.width (λ run t. fitted m.nets (read at run t) x.width e)) c
                (word at (named_keeps keep named))))
            | inr other ↦ word_grows g (is.wires q u f z hu v (sym (get_set_other nets p q (Some y) other) ∙ hz) at (named_keeps keep named))
          ];
        }

    pub open_less : (nets : List (Option NetId)) (cells : List SizedCell) (e : ExprTree) (y : NetId) → IsWiring m from order k nets cells
        → slice_get (values_of m) p ≡ Some (Some e)
        → open_weight (values_of m) (set nets p (Some y)) + (1 + expr_weight e) ≡ open_weight (values_of m) nets
    open_less nets cells e y is h = open_set (values_of m) nets p e y h (is.behind k p e (omega arith) turn h)

  -- to begin with
  pub wiring_first : (order : List ℕ) (nets : List (Option NetId)) (cells : List SizedCell) → AreDeclared m m.nets nets cells
      → IsWiring m (length cells) order 0 nets cells
  wiring_first order nets cells all = record {
    from_there = omega arith;
    nets_are = record { long = all.long; each = all.stand };
    given = all.given;
    looked = λ j p x l o hx c. absurd (omega arith);
    behind = λ j p e l o v. let x = net_at p e v in all.others p x.0 x.1 (not_given m x.0 (value_wire p x.0 e x.1 v));
    wires = λ p x e y hx v hy at named. absurd (let s : Some None ≡ Some (Some y) = sym (all.others p x hx (not_given m x (value_wire p x e hx v))) ∙ hy in cc);
  }
    where
      net_at : (p : ℕ) (e : ExprTree) → slice_get (values_of m) p ≡ Some (Some e) → (x : NetTree) × NetAt m p x
      net_at p e v =
          let d = value_equation m ok shape p e v in
          let r = driven_net m ok d.0 d.1 in
          let named = named_of m ok shape r.0 r.1 in
          let at : place_of m.nets r.0.name ≡ p = ap (place_of m.nets) r.2 ∙ d.2 in
          (named.net, ap (slice_get m.nets) (sym at) ∙ named.at)

  -- at the end each name but the clock has a net
  pub wiring_whole : (order : List ℕ) (from k : ℕ) (nets : List (Option NetId)) (cells : List SizedCell) → IsWireOrder m order → length order ≤ k
      → IsWiring m from order k nets cells → AreWired m from nets cells
  wiring_whole order from k nets cells sorted l is = record {
    nets_are = is.nets_are;
    each = λ p x hx c.
        let r = sorted.every p (slice_get_within m.nets p x hx) in
        let w = slice_get_within order r.0 p r.1 in
        is.looked r.0 p x (omega arith) r.1 hx c;
    wires = is.wires;
  }

-- the equations without a net weigh no more than all
abbrev value_weight : Option ExprTree → ℕ
value_weight None = 0
value_weight (Some e) = 1 + expr_weight e

value_more : (v : Option ExprTree) (vs : List (Option ExprTree)) → sum_by value_weight (v ∷ vs) ≡ value_weight v + sum_by value_weight vs
value_more v vs = sum_by-cons value_weight v vs

open_most : (vs : List (Option ExprTree)) (nets : List (Option NetId)) → open_weight vs nets ≤ sum_by value_weight vs
open_most [] nets = omega arith
open_most (v ∷ vs) [] = omega arith
open_most (None ∷ vs) (net ∷ nets) = let r = open_most vs nets in let s = value_more None vs in omega arith
open_most (Some e ∷ vs) (None ∷ nets) = let r = open_most vs nets in let s = value_more (Some e) vs in omega arith
open_most (Some e ∷ vs) (Some y ∷ nets) = let r = open_most vs nets in let s = value_more (Some e) vs in omega arith

set_weight : (vs : List (Option ExprTree)) (p : ℕ) (e : ExprTree) → sum_by value_weight (set vs p (Some e)) ≤ sum_by value_weight vs + (1 + expr_weight e)
set_weight [] p e = omega arith
set_weight (v ∷ vs) zero e = let s = value_more (Some e) vs in let t = value_more v vs in omega arith
set_weight (v ∷ vs) (suc p) e = let r = set_weight vs p e in let s = value_more v (set vs p (Some e)) in let t = value_more v vs in omega arith

noted_weight : (ns : List NetTree) (vs : List (Option ExprTree)) (ds : List DriveTree)
    → sum_by value_weight (noted ns vs ds) ≤ sum_by value_weight vs + sum_by drive_weight ds
noted_weight ns vs [] = omega arith
noted_weight ns vs (d ∷ ds) =
    let r = noted_weight ns (with_drive ns vs d) ds in
    let s : sum_by value_weight (with_drive ns vs d) ≤ sum_by value_weight vs + (1 + expr_weight d.value) = set_weight vs (place_of ns d.name) d.value in
    let t = sum_by-cons drive_weight d ds in
    let u : sum_by value_weight (noted ns vs (d ∷ ds)) ≡ sum_by value_weight (noted ns (with_drive ns vs d) ds) = refl in
    omega arith

none_weight : (n : ℕ) → sum_by value_weight (replicate {A = Option ExprTree} n None) ≡ 0
none_weight zero = refl
none_weight (suc n) = let r = none_weight n in let s = value_more None (replicate {A = Option ExprTree} n None) in omega arith

pub open_equations : (m : ModuleTree) (nets : List (Option NetId)) → open_weight (values_of m) nets ≤ sum_by drive_weight (equations m)
open_equations m nets =
    let a = open_most (values_of m) nets in
    let b : sum_by value_weight (values_of m) ≤ sum_by value_weight (replicate {A = Option ExprTree} (length m.nets) None) + sum_by drive_weight
    (equations m) = noted_weight m.nets (replicate (length m.nets) None) (equations m) in
    let c = none_weight (length m.nets) in
    omega arith
