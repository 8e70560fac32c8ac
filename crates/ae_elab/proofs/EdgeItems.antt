-- Items one after the other.
use Rattle.std.proofs.Common.{ℕ, zero, suc, ◌≡◌, ◌+◌, ◌*◌, ◌<◌, ◌≤◌, true, List, [], ◌∷◌, length, map, drop, get_or, Option, None, arith, refl, sym, ap, ◌∙◌}
use Rattle.std.specs.List.{AllByRecursion, flat_map, sum_by}
use Rattle.ae_netlist.specs.declared.cell.NetId.{NetId}
use Rattle.ae_netlist.specs.declared.cell.SizedCell.{SizedCell}
use Rattle.ae_netlist.specs.Circuit.{Circuit}
use Rattle.ae_netlist.specs.Runs.{Clock, IsRun, Carries}
use Rattle.ae_vmodule.specs.ModuleTree.{StmtTree, NetTree, ItemTree, always}
use Rattle.ae_judge.specs.Names.{item_targets}
use Rattle.ae_runs.specs.Runs.{after_items}
use Rattle.ae_gates.specs.Cells.{GrowsByGates}
use Rattle.ae_runs.specs.Named.{AreNamed, read}
use Rattle.ae_assign.specs.Edges.{IsActiveItem, FitNexts, AreFresh, OthersKeep, Acts, ActsItems, edge_weight, next_read}
use Rattle.ae_assign.specs.declared.statements.Next.{Next}
use Rattle.std.proofs.lemmas.List.Sums.{sum_by-cons}
use Rattle.ae_runs.proofs.Guarded.{guards_do}
use Rattle.ae_gates.proofs.Words.{back, grows_refl, grows_trans}
use Rattle.ae_assign.proofs.EdgeFits.{fresh_left, fresh_right}

module _ (from : ℕ) (ns : List NetTree) (ys : List (Option NetId)) where
  -- an `always` item, which nothing guards
  pub always_acts : (before after : List SizedCell) (old new : List Next) (clock : List ℕ) (body : StmtTree) → Acts from ns ys None before after old new body
      → ActsItems from ns ys after old new (always clock body ∷ [])
  always_acts before after old new clock body acts = λ at named all k run is t l.
      acts at (λ run t. true) named (λ run t. refl) all k run is t l ∙ guards_do ns (read at run t) body (next_read ns old at run t)

-- so many items are done, and the rest is not
pub record AreActing (from : ℕ) (ns : List NetTree) (ys : List (Option NetId)) (old new : Circuit) (before after : List Next)
    (whole rest : List ItemTree) : Type 0 where
  pub grows : GrowsByGates old new
  pub more : length old.cells ≤ length new.cells
  pub few : length new.cells + 8 * sum_by edge_weight rest ≤ length old.cells + 8 * sum_by edge_weight whole
  pub nexts : FitNexts ns after new.cells
  pub active : AllByRecursion (IsActiveItem ns ys) rest
  pub fresh : AreFresh ns after (flat_map item_targets rest)
  pub acts : (at : List ℕ → ℕ) → AreNamed ns ys at
      → (all : List SizedCell) → Carries from new.cells all → (run : List Clock) → IsRun all run → (t : ℕ) → t < length run
      → after_items ns (read at run t) rest (next_read ns after at run t) ≡ after_items ns (read at run t) whole (next_read ns before at run t)

module _ (from : ℕ) (ns : List NetTree) (ys : List (Option NetId)) (old : Circuit) (before : List Next) (whole : List ItemTree) where
  pub items_first : AllByRecursion (IsActiveItem ns ys) whole → FitNexts ns before old.cells → AreFresh ns before (flat_map item_targets whole)
      → AreActing from ns ys old old before before whole whole
  items_first active nexts fresh = record {
    grows = grows_refl old;
    more = omega arith;
    few = omega arith;
    nexts = nexts;
    active = active;
    fresh = fresh;
    acts = λ at named all k run is t l. refl;
  }

  pub items_step : (mid new : Circuit) (after later : List Next) (i : ItemTree) (rest : List ItemTree)
      → AreActing from ns ys old mid before after whole (i ∷ rest)
      → GrowsByGates mid new → length mid.cells ≤ length new.cells → length new.cells ≤ length mid.cells + 8 * edge_weight i → FitNexts ns later new.cells
      → OthersKeep ns after later (item_targets i) → ActsItems from ns ys new.cells after later (i ∷ [])
      → AreActing from ns ys old new before later whole rest
  items_step mid new after later i rest h grows more few nexts others acts =
      let less = h.few in
      let longer = h.more in
      let sum : sum_by edge_weight (i ∷ rest) ≡ edge_weight i + sum_by edge_weight rest = sum_by-cons edge_weight i rest in
      record {
        grows = grows_trans h.grows grows;
        more = omega arith;
        few = omega arith;
        nexts = nexts;
        active = h.active.1;
        fresh = fresh_right ns after later (item_targets i) (flat_map item_targets rest) h.fresh others;
        acts = λ at named all k run is t l.
            ap (after_items ns (read at run t) rest) (acts at named all k run is t l) ∙ h.acts at named all (back grows k) run is t l;
      }

  pub items_fresh : (mid : Circuit) (after : List Next) (i : ItemTree) (rest : List ItemTree) → AreActing from ns ys old mid before after whole (i ∷ rest)
      → AreFresh ns after (item_targets i)
  items_fresh mid after i rest h = fresh_left ns after (item_targets i) (flat_map item_targets rest) h.fresh

  pub items_done : (new : Circuit) (after : List Next) → AreActing from ns ys old new before after whole [] → ActsItems from ns ys new.cells before after whole
  items_done new after h = λ at named all k run is t l. h.acts at named all k run is t l

-- the element whose turn it is, and those behind it
module _ {X Y : Type 0} (f : X → Y) where
  pub drop_turn : (xs : List X) (i : ℕ) (x : X) → i < length xs → x ≡ get_or xs i x → drop i (map f xs) ≡ f x ∷ drop (i + 1) (map f xs)
  drop_turn [] i x l e = absurd (omega arith)
  drop_turn (y ∷ xs) zero x l e = let s : x ≡ y = e in ap (λ z. f z ∷ map f xs) (sym s)
  drop_turn (y ∷ xs) (suc i) x l e = drop_turn xs i x (omega arith) e ∙ ap (λ k. f x ∷ k) (drops i)
    where
      drops : (i : ℕ) → drop (i + 1) (map f xs) ≡ drop (suc i + 1) (map f (y ∷ xs))
      drops i = let z : suc i + 1 ≡ suc (i + 1) = omega arith in rw z refl

  pub drop_done : (xs : List X) (i : ℕ) → length xs ≤ i → drop i (map f xs) ≡ []
  drop_done [] zero l = refl
  drop_done [] (suc i) l = refl
  drop_done (x ∷ xs) zero l = absurd (omega arith)
  drop_done (x ∷ xs) (suc i) l = drop_done xs i (omega arith)
