-- The nets of a module's names realize it.
use Rattle.std.proofs.Common.{ℕ, zero, suc, ◌≡◌, ◌+◌, ◌<◌, inl, inr, Bool, true, false, List, [], ◌∷◌, length, map, get_or, Option, Some, None, slice_get, arith, refl, sym, ap, ◌∙◌, subst}
use Rattle.std.specs.Prelude.{◌||◌}
use Rattle.std.specs.List.{filter}
use Rattle.std.proofs.lemmas.Bool.{cases_Bool}
use Rattle.std.proofs.lemmas.Option.{slice_get_within, slice_get-get_or}
use Rattle.ae_netlist.specs.declared.cell.NetId.{NetId}
use Rattle.ae_netlist.specs.declared.cell.SizedCell.{SizedCell}
use Rattle.ae_netlist.specs.declared.cell.Outlet.{Outlet}
use Rattle.ae_netlist.specs.Circuit.{Circuit, Extends}
use Rattle.ae_netlist.specs.Runs.{Clock, IsRun, Carries, word_at}
use Rattle.ae_vmodule.specs.declared.module.NetKind.{NetKind}
use Rattle.ae_vmodule.specs.declared.module.NetKind.TheVariants.{Input, Wire, OutWire, Reg, OutReg, Memory}
use Rattle.ae_vmodule.specs.ModuleTree.{NetTree, DriveTree, ModuleTree}
use Rattle.ae_judge.specs.Names.{Among, equations, is_memory_kind, is_register_kind, net_named}
use Rattle.ae_judge.specs.Widths.{declared_width}
use Rattle.ae_runs.specs.Values.{assigned}
use Rattle.ae_runs.specs.Runs.{IsSettled, IsStep}
use Rattle.ae_runs.specs.SameRuns.{cell_depth, input_cells, kind_depth, state_cells}
use Rattle.ae_judge.specs.Faults.{NetAt}
use Rattle.ae_judge.specs.Shape.{IsShapely}
use Rattle.ae_judge.specs.Regular.{IsRegular}
use Rattle.ae_runs.specs.Named.{AreNamed, AreNets, IsNamed, StandsFor, place_of, read}
use Rattle.ae_runs.specs.Realizes.{Realizes}
use Rattle.ae_elab.specs.Declaring.{AreDeclared, ArePlainInputs, ArePlainOutlets, AreUnconnected, HasNet, HasPlainPorts, IsUnconnected, is_data_input, is_given, is_output, is_state, number_of, with_nets}
use Rattle.ae_elab.specs.Wiring.{AreWired, KeepsNets}
use Rattle.ae_express.specs.Lowered.{fitted}
use Rattle.ae_elab.specs.Connecting.{Connects}
use Rattle.ae_judge.proofs.Members.{among_at}
use Rattle.ae_runs.proofs.Declared.{driven_net, net_found}
use Rattle.ae_runs.proofs.Clocks.{wire_no_clock}
use Rattle.ae_order.proofs.DriveLaws.{value_driven}
use Rattle.ae_order.proofs.SoundLaws.{named_width}
use Rattle.ae_order.proofs.SoundOf.{named_of, place_is}

-- the number of a name's net
abbrev pub at_of : List NetTree → List (Option NetId) → List ℕ → ℕ
at_of ns nets n = number_of (get_or nets (place_of ns n) None)

at_place : (nets : List (Option NetId)) (p : ℕ) (net : Option NetId) → slice_get nets p ≡ Some net → get_or nets p None ≡ net
at_place nets p net h =
    let l = slice_get_within nets p net h in
    let e : Some (get_or nets p None) ≡ Some net = sym (slice_get-get_or nets p None l) ∙ h in
    cc

pub nets_named : (ns : List NetTree) (nets : List (Option NetId)) → AreNamed ns nets (at_of ns nets)
nets_named ns nets = record { each = λ n y h. ap number_of (at_place nets (place_of ns n) (Some y) h) }

-- the nets of names that pass are those at their names
pub with_nets_named : {Z : Type 0} (test : NetTree → Bool) (f : ℕ → NetTree → Z) (at : List ℕ → ℕ) (ns : List NetTree) (nets : List (Option NetId))
    → length nets ≡ length ns
    → ((p : ℕ) (x : NetTree) (net : Option NetId) → slice_get ns p ≡ Some x → slice_get nets p ≡ Some net → test x ≡ true → at x.name ≡ number_of net)
    → map (λ (x : NetTree). f (at x.name) x) (filter test ns) ≡ with_nets test f ns nets
with_nets_named test f at [] nets l h = refl
with_nets_named test f at (x ∷ ns) [] l h = absurd (omega arith)
with_nets_named test f at (x ∷ ns) (net ∷ nets) l h =
    let rest = with_nets_named test f at ns nets (omega arith) (λ p. h (suc p)) in
    elim (cases_Bool (test x)) [
      | inl t ↦ rw t (rw (h zero x net refl refl t, rest) refl)
      | inr n ↦ rw n rest
    ]

data_given : (m : ModuleTree) (x : NetTree) → is_data_input m x ≡ true → is_given m x ≡ true
data_given m x t = rw t refl

state_given : (m : ModuleTree) (x : NetTree) → is_state x ≡ true → is_given m x ≡ true
state_given m x t = rw t (or_true (is_data_input m x))
  where
    or_true : (b : Bool) → (b || true) ≡ true
    or_true true = refl
    or_true false = refl

stands_connected : (k : NetKind) (from : ℕ) (a b : Circuit) (n w : ℕ) → Connects from a b → StandsFor k a.cells n w → StandsFor k b.cells n w
stands_connected (Memory depth) from a b n w c h = c.memories n w depth h
stands_connected _ from a b n w c h = c.carries.nets n w h

module _ (m : ModuleTree) (ok : IsRegular m) (shape : IsShapely m) (nets : List (Option NetId)) where
  at_net : (p : ℕ) (x : NetTree) (net : Option NetId) → NetAt m p x → slice_get nets p ≡ Some net → at_of m.nets nets x.name ≡ number_of net
  at_net p x net hx h = ap (λ (q : ℕ). number_of (get_or nets q None)) (place_is m ok shape p x hx) ∙ ap number_of (at_place nets p net h)

  -- what was declared keeps its net
  kept : (old : List (Option NetId)) → KeepsNets old nets → ((p : ℕ) (x : NetTree) → NetAt m p x → is_given m x ≡ true → HasNet old p)
      → (p : ℕ) (x : NetTree) (net : Option NetId) → NetAt m p x → slice_get old p ≡ Some net → is_given m x ≡ true → at_of m.nets nets x.name ≡ number_of net
  kept old keeps has p x net hx h g =
      let y = has p x hx g in
      let e : Some (Some y.0) ≡ Some net = sym y.1 ∙ h in
      let s : Some y.0 ≡ net = cc in
      at_net p x (Some y.0) hx (keeps p y.0 y.1) ∙ ap number_of s

  named_at : (n : List ℕ) (x : NetTree) → Among x m.nets → x.name ≡ n → (NetAt m (place_of m.nets n) x) × (declared_width m.nets n ≡ x.width)
  named_at n x a e =
      let named = subst (IsNamed m.nets) e (named_of m ok shape x a) in
      let its : net_named m.nets n ≡ Some x = ap (net_named m.nets) (sym e) ∙ net_found m ok x a in
      let s : Some named.net ≡ Some x = sym named.found ∙ its in
      let one : named.net ≡ x = cc in
      (named.at ∙ ap Some one, named_width named ∙ ap (λ (u : NetTree). u.width) one)

  module _ (from : ℕ) (cells : List SizedCell) (wired : AreWired m from nets cells) (all : List SizedCell) (carries : Carries from cells all) where
    -- what an equation gives its wire
    pub settled_at : (run : List Clock) → IsRun all run → (t : ℕ) → t < length run → IsSettled m (read (at_of m.nets nets) run t)
    settled_at run is t l = record { wires = one }
      where
        one : (d : DriveTree) → Among d (equations m) → word_at run t (at_of m.nets nets d.name) ≡ assigned m.nets
            (read (at_of m.nets nets) run t) d.name d.value
        one d a =
            let r = driven_net m ok d a in
            let p : ℕ = place_of m.nets d.name in
            let at = named_at d.name r.0 r.1 r.2 in
            let y = wired.each p r.0 at.0 (wire_no_clock m ok r.0 r.1 r.3) in
            let word = wired.wires p r.0 d.value y.0 at.0 (value_driven m ok shape d a) y.1 (at_of m.nets nets) (nets_named m.nets nets) in
            let is_at : at_of m.nets nets d.name ≡ y.0.0 = ap number_of (at_place nets p (Some y.0) y.1) in
            ap (word_at run t) is_at ∙ word.words all carries run is t l ∙ ap (λ (w : ℕ). fitted m.nets (read (at_of m.nets nets) run t) w d.value) (sym at.1)

  -- what was added before the equations, as they were, and at the end
  pub realizes : (from : ℕ) (old : List (Option NetId)) (first : List SizedCell) (middle last : Circuit) (n : Circuit)
      → AreDeclared m m.nets old first → KeepsNets old nets → input_cells middle.cells ≡ input_cells first → state_cells middle.cells ≡ state_cells first
      → AreWired m from nets middle.cells → Connects from middle last → n.cells ≡ last.cells
      → ((at : List ℕ → ℕ) → AreNamed m.nets nets at → (run : List Clock) → IsRun last.cells run → (t : ℕ) → t + 1 < length run
      → IsStep m (read at run t) (read at run (t + 1)))
      → map (λ (o : Outlet). o.net.0) n.outlets ≡ with_nets is_output (λ n x. n) m.nets nets
      → Realizes m n (at_of m.nets nets)
  realizes from old first middle last n declared keeps inputs states wired connects cells steps outlets =
      let at : List ℕ → ℕ = at_of m.nets nets in
      record {
        inputs =
            with_nets_named {Z = ℕ × ℕ} (is_data_input m) (λ k x. (k, x.width)) at m.nets old declared.long
            (λ p x net hx h t. kept old keeps declared.given p x net hx h (data_given m x t))
            ∙ sym declared.inputs ∙ ap (map {B = ℕ × ℕ} (λ (x : ℕ × SizedCell). (x.0, x.1.width))) (sym (ap input_cells cells ∙ connects.inputs ∙ inputs));
        states =
            with_nets_named {Z = ℕ × ℕ × Option ℕ} is_state (λ k x. (k, x.width, kind_depth x.kind)) at m.nets old declared.long
            (λ p x net hx h t. kept old keeps declared.given p x net hx h (state_given m x t))
            ∙ sym declared.states ∙ ap (map {B = ℕ × ℕ × Option ℕ} (λ (x : ℕ × SizedCell). (x.0, x.1.width, cell_depth x.1.cell))) (sym states) ∙
            sym connects.states
            ∙ ap (λ cs. map {B = ℕ × ℕ × Option ℕ} (λ (x : ℕ × SizedCell). (x.0, x.1.width, cell_depth x.1.cell)) (state_cells cs)) (sym cells);
        outputs = with_nets_named is_output (λ k x. k) at m.nets nets wired.nets_are.long (λ p x net hx h t. at_net p x net hx h) ∙ sym outlets;
        stands = λ x a c.
            let p = among_at x m.nets a in
            let y = wired.each p.0 x p.1 c in
            let before = wired.nets_are.each p.0 x y.0 p.1 y.1 in
            let is_at : at x.name ≡ y.0.0 = at_net p.0 x (Some y.0) p.1 y.1 in
            rw (cells, is_at) (stands_connected x.kind from middle last y.0.0 x.width connects before);
        settles = λ run is t l. settled_at from middle.cells wired last.cells connects.carries run (subst (λ (cs : List SizedCell). IsRun cs run) cells is) t l;
        steps = λ run is t l. steps at (nets_named m.nets nets) run (subst (λ (cs : List SizedCell). IsRun cs run) cells is) t l;
      }

no_state : (k : NetKind) (cells : List SizedCell) (n w : ℕ) → (is_register_kind k || is_memory_kind k) ≡ false → IsUnconnected k cells n w
no_state Input cells n w h = tt
no_state Wire cells n w h = tt
no_state OutWire cells n w h = tt
no_state Reg cells n w h = absurd (cc)
no_state OutReg cells n w h = absurd (cc)
no_state (Memory depth) cells n w h = absurd (cc)

unconnected_extends : (k : NetKind) (a b : List SizedCell) (n w : ℕ) → Extends a b → IsUnconnected k a n w → IsUnconnected k b n w
unconnected_extends Input a b n w g h = tt
unconnected_extends Wire a b n w g h = tt
unconnected_extends OutWire a b n w g h = tt
unconnected_extends Reg a b n w g h = g.keeps n _ h
unconnected_extends OutReg a b n w g h = g.keeps n _ h
unconnected_extends (Memory depth) a b n w g h = g.keeps n _ h

module _ (m : ModuleTree) (old nets : List (Option NetId)) (first cells : List SizedCell) (declared : AreDeclared m m.nets old first)
    (keeps : KeepsNets old nets) (grown : Extends first cells) where
  state_was : (p : ℕ) (x : NetTree) (y : NetId) → NetAt m p x → is_state x ≡ true → slice_get nets p ≡ Some (Some y) → slice_get old p ≡ Some (Some y)
  state_was p x y hx t hy =
      let z = declared.given p x hx (state_given m x t) in
      let e : Some (Some z.0) ≡ Some (Some y) = sym (keeps p z.0 z.1) ∙ hy in
      z.1 ∙ e

  -- the registers and memories that were declared are not connected yet
  pub still_unconnected : (from : ℕ) → from ≡ length first → AreUnconnected m from nets cells
  still_unconnected from e = record {
    each = λ p x y hx hy. elim (cases_Bool (is_state x)) [
      | inl t ↦ unconnected_extends x.kind first cells y.0 x.width grown (declared.unconnected p x y hx (state_was p x y hx t hy))
      | inr f ↦ no_state x.kind cells y.0 x.width f
    ];
    early = λ p x y hx t hy. let l = declared.within p y (state_was p x y hx t hy) in omega arith;
    apart = λ p q x z y hx hz t u hp hq. declared.apart p q y (state_was p x y hx t hp) (state_was q z y hz u hq);
  }

pub nets_connected : (m : ModuleTree) (from : ℕ) (nets : List (Option NetId)) (a b : Circuit) → Connects from a b → AreNets m.nets nets a.cells
    → AreNets m.nets nets b.cells
nets_connected m from nets a b c h = record { long = h.long; each = λ p x y hx hy. stands_connected x.kind from a b y.0 x.width c (h.each p x y hx hy) }

pub plain_ports : (first : List SizedCell) (n : Circuit) → input_cells n.cells ≡ input_cells first → ArePlainInputs first → ArePlainOutlets n.outlets
    → HasPlainPorts n
plain_ports first n e i o = record { inputs = λ k x h. i k x (ap (λ ys. slice_get ys k) (sym e) ∙ h); outlets = o }
