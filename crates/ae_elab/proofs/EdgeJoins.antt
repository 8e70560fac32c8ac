-- All registers and memories connected, one after the other.
use Rattle.std.proofs.Common.{ℕ, ◌≡◌, ◌≢◌, ◌+◌, ◌<◌, ◌≤◌, ◌⊎◌, inl, inr, true, false, ◌||◌, List, length, Option, Some, None, slice_get, arith, refl, sym, ap, ◌∙◌, subst}
use Rattle.std.proofs.lemmas.Bool.{cases_Bool}
use Rattle.ae_netlist.specs.declared.cell.NetId.{NetId}
use Rattle.ae_netlist.specs.declared.cell.SizedCell.{SizedCell}
use Rattle.ae_netlist.specs.Circuit.{Circuit}
use Rattle.ae_vmodule.specs.declared.module.NetKind.{NetKind}
use Rattle.ae_vmodule.specs.declared.module.NetKind.TheVariants.{Input, Wire, OutWire, Reg as RegName, OutReg, Memory}
use Rattle.ae_vmodule.specs.ModuleTree.{NetTree, ModuleTree}
use Rattle.ae_judge.specs.Names.{is_register_kind, is_memory_kind}
use Rattle.ae_judge.specs.Faults.{NetAt}
use Rattle.ae_elab.specs.Declaring.{AreUnconnected, IsUnconnected, is_state}
use Rattle.ae_elab.specs.Connecting.{Connects}
use Rattle.ae_assign.specs.Edges.{FitNexts, IsConnected}
use Rattle.ae_assign.specs.declared.statements.Next.{Next}
use Rattle.ae_elab.proofs.EdgeConnects.{IsJoined, connects_refl, connects_trans}
use Rattle.ae_assign.proofs.EdgeFits.{nexts_keep, same_or_not}

-- the cell of a net stays, so what it was connected to does
connected_stays : (k : NetKind) (a b : List SizedCell) (net w : ℕ) (n : Next) → slice_get b net ≡ slice_get a net → IsConnected k a net w n
    → IsConnected k b net w n
connected_stays Input a b net w n e h = tt
connected_stays Wire a b net w n e h = tt
connected_stays OutWire a b net w n e h = tt
connected_stays RegName a b net w n e h = e ∙ h
connected_stays OutReg a b net w n e h = e ∙ h
connected_stays (Memory depth) a b net w n e h = e ∙ h

free_stays : (k : NetKind) (a b : List SizedCell) (net w : ℕ) → slice_get b net ≡ slice_get a net → IsUnconnected k a net w → IsUnconnected k b net w
free_stays Input a b net w e h = tt
free_stays Wire a b net w e h = tt
free_stays OutWire a b net w e h = tt
free_stays RegName a b net w e h = e ∙ h
free_stays OutReg a b net w e h = e ∙ h
free_stays (Memory depth) a b net w e h = e ∙ h

-- what is no state has nothing to connect
other_connected : (x : NetTree) (k : NetKind) (b : List SizedCell) (net w : ℕ) (n : Next) → x.kind ≡ k → is_state x ≡ false → IsConnected k b net w n
other_connected x Input b net w n e f = tt
other_connected x Wire b net w n e f = tt
other_connected x OutWire b net w n e f = tt
other_connected x RegName b net w n e f = let t : is_state x ≡ true = ap (λ k. is_register_kind k || is_memory_kind k) e in cc
other_connected x OutReg b net w n e f = let t : is_state x ≡ true = ap (λ k. is_register_kind k || is_memory_kind k) e in cc
other_connected x (Memory depth) b net w n e f = let t : is_state x ≡ true = ap (λ k. is_register_kind k || is_memory_kind k) e in cc

other_free : (x : NetTree) (k : NetKind) (b : List SizedCell) (net w : ℕ) → x.kind ≡ k → is_state x ≡ false → IsUnconnected k b net w
other_free x Input b net w e f = tt
other_free x Wire b net w e f = tt
other_free x OutWire b net w e f = tt
other_free x RegName b net w e f = let t : is_state x ≡ true = ap (λ k. is_register_kind k || is_memory_kind k) e in cc
other_free x OutReg b net w e f = let t : is_state x ≡ true = ap (λ k. is_register_kind k || is_memory_kind k) e in cc
other_free x (Memory depth) b net w e f = let t : is_state x ≡ true = ap (λ k. is_register_kind k || is_memory_kind k) e in cc

-- the names before a place are connected, and those from it on not yet
pub record AreJoined (from : ℕ) (m : ModuleTree) (nets : List (Option NetId)) (nexts : List Next) (old new : Circuit) (k : ℕ) : Type 0 where
  pub connects : Connects from old new
  pub long : length new.cells ≡ length old.cells
  pub fits : FitNexts m.nets nexts new.cells
  pub done : (p : ℕ) (x : NetTree) (y : NetId) (n : Next) → p < k → NetAt m p x → slice_get nets p ≡ Some (Some y) → slice_get nexts p ≡ Some n
      → IsConnected x.kind new.cells y.0 x.width n
  pub free : (p : ℕ) (x : NetTree) (y : NetId) → k ≤ p → NetAt m p x → slice_get nets p ≡ Some (Some y) → IsUnconnected x.kind new.cells y.0 x.width

module _ (from : ℕ) (m : ModuleTree) (nets : List (Option NetId)) (nexts : List Next) (old : Circuit) (apart : AreUnconnected m from nets old.cells) where
  pub joins_first : FitNexts m.nets nexts old.cells → AreJoined from m nets nexts old old 0
  joins_first fits = record {
    connects = connects_refl from old;
    long = refl;
    fits = fits;
    done = λ p x y n l. absurd (omega arith);
    free = λ p x y l there net. apart.each p x y there net;
  }

  -- two states have two nets
  other_net : (p k : ℕ) (x z : NetTree) (y u : NetId) → p ≢ k → NetAt m p x → NetAt m k z → is_state x ≡ true → is_state z ≡ true
      → slice_get nets p ≡ Some (Some y) → slice_get nets k ≡ Some (Some u) → y.0 ≢ u.0
  other_net p k x z y u other hx hz sx sz hy hu e =
      let same : y ≡ u = ap (λ (i : ℕ). let n : NetId = record { 0 = i } in n) e in
      other (apart.apart p k x z u hx hz sx sz (hy ∙ ap (λ (v : NetId). Some (Some v)) same) hu)

  module _ (mid new : Circuit) (k : ℕ) (z : NetTree) (u : NetId) (next : Next) (h : AreJoined from m nets nexts old mid k) (here : NetAt m k z)
      (net : slice_get nets k ≡ Some (Some u)) (at : slice_get nexts k ≡ Some next) (j : IsJoined from z mid new u.0 next) where
    -- the cell of another state stays
    stays : (p : ℕ) (x : NetTree) (y : NetId) → p ≢ k → NetAt m p x → is_state x ≡ true → slice_get nets p ≡ Some (Some y)
        → slice_get new.cells y.0 ≡ slice_get mid.cells y.0
    stays p x y other hx sx hy = elim (cases_Bool (is_state z)) [
      | inl t ↦ j.others y.0 (other_net p k x z y u other hx here sx t hy net)
      | inr f ↦ ap (λ (c : Circuit). slice_get c.cells y.0) (j.stays f)
    ]

    still_done : (p : ℕ) (x : NetTree) (y : NetId) (n : Next) → p < k → NetAt m p x → slice_get nets p ≡ Some (Some y) → slice_get nexts p ≡ Some n
        → IsConnected x.kind new.cells y.0 x.width n
    still_done p x y n l hx hy hn = elim (cases_Bool (is_state x)) [
      | inl t ↦ connected_stays x.kind mid.cells new.cells y.0 x.width n (stays p x y (λ e. absurd (omega arith)) hx t hy) (h.done p x y n l hx hy hn)
      | inr f ↦ other_connected x x.kind new.cells y.0 x.width n refl f
    ]

    still_free : (p : ℕ) (x : NetTree) (y : NetId) → k + 1 ≤ p → NetAt m p x → slice_get nets p ≡ Some (Some y) → IsUnconnected x.kind new.cells y.0 x.width
    still_free p x y l hx hy = elim (cases_Bool (is_state x)) [
      | inl t ↦ free_stays x.kind mid.cells new.cells y.0 x.width (stays p x y (λ e. absurd (omega arith)) hx t hy) (h.free p x y (omega arith) hx hy)
      | inr f ↦ other_free x x.kind new.cells y.0 x.width refl f
    ]

    now_done : (x : NetTree) (y : NetId) (n : Next) → NetAt m k x → slice_get nets k ≡ Some (Some y) → slice_get nexts k ≡ Some n
        → IsConnected x.kind new.cells y.0 x.width n
    now_done x y n hx hy hn =
        let e : Some z ≡ Some x = sym here ∙ hx in
        let is_x : z ≡ x = cc in
        let f : Some (Some u) ≡ Some (Some y) = sym net ∙ hy in
        let is_y : u ≡ y = cc in
        let g : Some next ≡ Some n = sym at ∙ hn in
        let is_n : next ≡ n = cc in
        subst (λ (v : NetTree). IsConnected v.kind new.cells y.0 v.width n) is_x
        (subst (λ (v : NetId). IsConnected z.kind new.cells v.0 z.width n) is_y (subst (IsConnected z.kind new.cells u.0 z.width) is_n j.connected))

    pub joins_step : AreJoined from m nets nexts old new (k + 1)
    joins_step = record {
      connects = connects_trans from old mid new h.connects j.connects;
      long = j.long ∙ h.long;
      fits = nexts_keep mid.cells new.cells m.nets nexts (record { nets = j.connects.carries.nets; memories = j.connects.memories; constants = j.constants })
          h.fits;
      done = λ p x y n l hx hy hn. elim (same_or_not p k) [
        | inl e ↦ now_done_at p x y n e hx hy hn
        | inr other ↦ still_done p x y n (let z : p < k = strictly p k l other in z) hx hy hn
      ];
      free = still_free;
    }
      where
        now_done_at : (p : ℕ) (x : NetTree) (y : NetId) (n : Next) → p ≡ k → NetAt m p x → slice_get nets p ≡ Some (Some y) → slice_get nexts p ≡ Some n
            → IsConnected x.kind new.cells y.0 x.width n
        now_done_at p x y n e hx hy hn = now_done x y n (ap (slice_get m.nets) (sym e) ∙ hx) (ap (slice_get nets) (sym e) ∙ hy)
            (ap (slice_get nexts) (sym e) ∙ hn)

        strictly : (p k : ℕ) → p < k + 1 → p ≢ k → p < k
        strictly p k l other = elim (at_most p k l) [ inl s ↦ s | inr e ↦ absurd (other e) ]
          where
            at_most : (p k : ℕ) → p < k + 1 → (p < k) ⊎ (p ≡ k)
            at_most p k l = grind arith

  -- a name without a net
  pub joins_none : (mid : Circuit) (k : ℕ) → AreJoined from m nets nexts old mid k → slice_get nets k ≡ Some None → AreJoined from m nets nexts old mid (k + 1)
  joins_none mid k h none = record {
    connects = h.connects;
    long = h.long;
    fits = h.fits;
    done = λ p x y n l hx hy hn. elim (same_or_not p k) [
      | inl e ↦ absurd (let z : Some None ≡ Some (Some y) = sym none ∙ ap (slice_get nets) (sym e) ∙ hy in cc)
      | inr other ↦ h.done p x y n (below p k l other) hx hy hn
    ];
    free = λ p x y l. h.free p x y (omega arith);
  }
    where
      below : (p k : ℕ) → p < k + 1 → p ≢ k → p < k
      below p k l other = elim (at_most p k l) [ inl s ↦ s | inr e ↦ absurd (other e) ]
        where
          at_most : (p k : ℕ) → p < k + 1 → (p < k) ⊎ (p ≡ k)
          at_most p k l = grind arith
