-- Where registers and memories are connected to what they take, a run of the netlist steps as the module does.
use Rattle.std.proofs.Common.{ℕ, zero, suc, ◌≡◌, ◌≢◌, ◌+◌, ◌<◌, false, List, [], ◌∷◌, length, get_or, Option, Some, slice_get, arith, refl, sym, ap, ◌∙◌, subst}
use Rattle.std.proofs.lemmas.Bool.{cond-true, cond-false, eq-eqb, ne_eqb, both_ways, false_from_ne_true}
use Rattle.std.proofs.lemmas.Option.{slice_get_within}
use Rattle.ae_netlist.specs.declared.cell.NetId.{NetId}
use Rattle.ae_netlist.specs.declared.cell.Cell.TheVariants.{Reg, Mem}
use Rattle.ae_netlist.specs.declared.cell.SizedCell.{SizedCell}
use Rattle.ae_netlist.specs.Circuit.{Circuit, IsNet, IsPlain}
use Rattle.ae_netlist.specs.Runs.{Clock, IsRun, Carries, word_at, store_at}
use Rattle.ae_vmodule.specs.declared.module.NetKind.{NetKind}
use Rattle.ae_vmodule.specs.declared.module.NetKind.TheVariants.{Input, Wire, OutWire, Reg as RegName, OutReg, Memory}
use Rattle.ae_vmodule.specs.ModuleTree.{NetTree, ModuleTree}
use Rattle.ae_judge.specs.Names.{Among, is_clock, is_input_kind}
use Rattle.ae_runs.specs.Values.{ModuleClock}
use Rattle.ae_runs.specs.Runs.{StepsTo, IsStep, next_clock}
use Rattle.ae_judge.specs.Faults.{NetAt}
use Rattle.ae_judge.specs.Regular.{IsRegular}
use Rattle.ae_judge.specs.Shape.{IsShapely}
use Rattle.ae_runs.specs.Named.{AreNamed, place_of, read}
use Rattle.ae_elab.specs.Declaring.{HasNet}
use Rattle.ae_elab.specs.Connecting.{Connects}
use Rattle.ae_assign.specs.Edges.{FitsNext, FitNexts, IsConnected, next_at, next_word, next_store, next_read, next_net}
use Rattle.ae_assign.specs.declared.statements.Next.{Next}
use Rattle.ae_assign.specs.declared.statements.Next.TheVariants.{Keep, Word, Write}
use Rattle.ae_judge.proofs.Members.{among_at}
use Rattle.ae_runs.proofs.Clocks.{clock_input}
use Rattle.ae_order.proofs.SoundOf.{place_is}

-- the net that a register takes has what is next
net_word : (k : Next) (run : List Clock) (t own : ℕ) → word_at run t (next_net k own).0 ≡ next_word k run t own
net_word Keep run t own = refl
net_word (Word y) run t own = refl
net_word (Write at word enable) run t own = refl

-- no net is a memory
not_the_memory : (cells : List SizedCell) (n own width depth : ℕ) (at word enable : NetId) → IsNet cells n 1
    → slice_get cells own ≡ Some (record { width = width; cell = Mem depth at word enable }) → n ≢ own
not_the_memory cells n own width depth at word enable net h e =
    let found : Some net.sized ≡ Some (record { width = width; cell = Mem depth at word enable }) = sym net.found ∙ (ap (slice_get cells) e ∙ h) in
    let same : net.sized ≡ record { width = width; cell = Mem depth at word enable } = cc in
    subst (λ (s : SizedCell). IsPlain s.cell) same net.plain

module _ (cells : List SizedCell) (run : List Clock) (is : IsRun cells run) (t : ℕ) (l : t + 1 < length run) where
  register_step : (own width : ℕ) (k : Next) → slice_get cells own ≡ Some (record { width = width; cell = Reg (next_net k own) })
      → word_at run (t + 1) own ≡ next_word k run t own
  register_step own width k h = is.steps t own _ l h ∙ net_word k run t own

  memory_step : (x : NetTree) (own depth : ℕ) (k : Next) → x.kind ≡ Memory depth → FitsNext cells x k → IsConnected (Memory depth) cells own x.width k
      → store_at run (t + 1) own ≡ next_store k run t own
  memory_step x own depth Keep e fits h = is.steps t own _ l h ∙ cond-true _ (store_at run t own) _ (eq-eqb own own refl)
  memory_step x own depth (Word y) e fits h = is.steps t own _ l h ∙ cond-true _ (store_at run t own) _ (eq-eqb own own refl)
  memory_step x own depth (Write at word enable) e fits h =
      let bit : IsNet cells enable.0 1 = fits.2.bit in
      let other = not_the_memory cells enable.0 own x.width depth at word enable bit h in
      is.steps t own _ l h ∙ cond-false _ (store_at run t own) _ (ne_eqb enable.0 own other)

module _ (m : ModuleTree) (ok : IsRegular m) (shape : IsShapely m) (from : ℕ) (nets : List (Option NetId)) (nexts : List Next) (mid new : Circuit)
    (each : (p : ℕ) (x : NetTree) → NetAt m p x → is_clock m x.name ≡ false → HasNet nets p) (joined : Connects from mid new)
    (fits : FitNexts m.nets nexts new.cells)
    (connected : (p : ℕ) (x : NetTree) (y : NetId) (k : Next) → NetAt m p x → slice_get nets p ≡ Some (Some y) → slice_get nexts p ≡ Some k
    → IsConnected x.kind new.cells y.0 x.width k) where
  no_clock : (x : NetTree) → Among x m.nets → is_input_kind x.kind ≡ false → is_clock m x.name ≡ false
  no_clock x a f = false_from_ne_true _ (λ c. both_ways _ f (clock_input m ok x a c))

  -- a name, its net and what it takes
  pub record IsTaken (x : NetTree) (at : List ℕ → ℕ) : Type 0 where
    pub net : NetId
    pub is : at x.name ≡ net.0
    pub fit : FitsNext new.cells x (next_at m.nets nexts x.name)
    pub cell : IsConnected x.kind new.cells net.0 x.width (next_at m.nets nexts x.name)

  taken : (at : List ℕ → ℕ) → AreNamed m.nets nets at → (x : NetTree) → Among x m.nets → is_input_kind x.kind ≡ false → IsTaken x at
  taken at named x a f =
      let p = among_at x m.nets a in
      let place : place_of m.nets x.name ≡ p.0 = place_is m ok shape p.0 x p.1 in
      let y = each p.0 x p.1 (no_clock x a f) in
      let inside : p.0 < length m.nets = slice_get_within m.nets p.0 x p.1 in
      let long = fits.long in
      let l : p.0 < length nexts = omega arith in
      let found : slice_get nexts p.0 ≡ Some (get_or nexts p.0 Keep) = at_place nexts p.0 l in
      let same : get_or nexts p.0 Keep ≡ next_at m.nets nexts x.name = ap (λ i. get_or nexts i Keep) (sym place) in
      record {
        net = y.0;
        is = named.each x.name y.0 (ap (slice_get nets) place ∙ y.1);
        fit = subst (FitsNext new.cells x) same (fits.each p.0 x _ p.1 found);
        cell = subst (IsConnected x.kind new.cells y.0.0 x.width) same (connected p.0 x y.0 _ p.1 y.1 found);
      }
    where
      at_place : (xs : List Next) (p : ℕ) → p < length xs → slice_get xs p ≡ Some (get_or xs p Keep)
      at_place [] p l = absurd (omega arith)
      at_place (z ∷ xs) zero l = refl
      at_place (z ∷ xs) (suc p) l = at_place xs p (omega arith)

  module _ (acts : (at : List ℕ → ℕ) → AreNamed m.nets nets at → (all : List SizedCell) → Carries from mid.cells all → (run : List Clock) → IsRun all run
      → (t : ℕ) → t < length run → next_read m.nets nexts at run t ≡ next_clock m (read at run t))
      (at : List ℕ → ℕ) (named : AreNamed m.nets nets at) (run : List Clock) (is : IsRun new.cells run) (t : ℕ) (l : t + 1 < length run) where
    next_is : next_read m.nets nexts at run t ≡ next_clock m (read at run t)
    next_is = acts at named new.cells joined.carries run is t (omega arith)

    word_steps : (x : NetTree) → Among x m.nets → is_input_kind x.kind ≡ false
        → ((own : ℕ) → IsConnected x.kind new.cells own x.width (next_at m.nets nexts x.name)
        → slice_get new.cells own ≡ Some (record { width = x.width; cell = Reg (next_net (next_at m.nets nexts x.name) own) }))
        → word_at run (t + 1) (at x.name) ≡ (next_clock m (read at run t)).word x.name
    unfolding next_read
    word_steps x a f cell =
        let k = taken at named x a f in
        let step = register_step new.cells run is t l k.net.0 x.width (next_at m.nets nexts x.name) (cell k.net.0 k.cell) in
        ap (word_at run (t + 1)) k.is ∙ (step ∙ (ap (next_word (next_at m.nets nexts x.name) run t) (sym k.is) ∙
        ap (λ (c : ModuleClock). c.word x.name) next_is))

    store_steps : (x : NetTree) (depth : ℕ) → Among x m.nets → x.kind ≡ Memory depth
        → store_at run (t + 1) (at x.name) ≡ (next_clock m (read at run t)).store x.name
    unfolding next_read
    store_steps x depth a e =
        let k = taken at named x a (ap is_input_kind e) in
        let cell : IsConnected (Memory depth) new.cells k.net.0 x.width (next_at m.nets nexts x.name) = subst
        (λ i. IsConnected i new.cells k.net.0 x.width (next_at m.nets nexts x.name)) e k.cell in
        let step = memory_step new.cells run is t l x k.net.0 depth (next_at m.nets nexts x.name) e k.fit cell in
        ap (store_at run (t + 1)) k.is ∙ (step ∙ (ap (next_store (next_at m.nets nexts x.name) run t) (sym k.is) ∙
        ap (λ (c : ModuleClock). c.store x.name) next_is))

    by_kind : (x : NetTree) (k : NetKind) → x.kind ≡ k → Among x m.nets
        → StepsTo k ((next_clock m (read at run t)).word x.name) ((read at run (t + 1)).word x.name) ((next_clock m (read at run t)).store x.name)
        ((read at run (t + 1)).store x.name)
    by_kind x Input e a = tt
    by_kind x Wire e a = tt
    by_kind x OutWire e a = tt
    by_kind x RegName e a = word_steps x a (ap is_input_kind e) (λ own h. subst (λ k. IsConnected k new.cells own x.width (next_at m.nets nexts x.name)) e h)
    by_kind x OutReg e a = word_steps x a (ap is_input_kind e) (λ own h. subst (λ k. IsConnected k new.cells own x.width (next_at m.nets nexts x.name)) e h)
    by_kind x (Memory depth) e a = store_steps x depth a e

    pub edge_steps : IsStep m (read at run t) (read at run (t + 1))
    edge_steps = record { steps = λ x a. by_kind x x.kind refl a }
