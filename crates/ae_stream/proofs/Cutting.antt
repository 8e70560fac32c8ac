-- The first cells of a run of a netlist that extends another are a run of that one.
use Rattle.std.proofs.Common.{ℕ, ◌≡◌, ◌+◌, ◌<◌, ◌≤◌, inl, inr, List, [], length, length-take, map, take, Some, slice_get, Bool, true, false, arith, refl, ap, sym, ◌∙◌, subst}
use Rattle.std.specs.Prelude.{unwrap_or, ◌==◌, if◌then◌else◌, slice_set}
use Rattle.std.proofs.lemmas.Bool.{eq-eqb}
use Rattle.std.proofs.lemmas.List.{get_or-take, length-map}
use Rattle.std.proofs.lemmas.Option.{slice_get_within, unwrap_or-slice_get}
use Rattle.ae_netlist.proofs.OrElse.{or_map, or_take, shaped_at}
use Rattle.ae_word.specs.declared.op.WordOp.{WordOp}
use Rattle.ae_word.specs.declared.op.WordOp.TheVariants.{Mux}
use Rattle.ae_netlist.specs.declared.cell.NetId.{NetId}
use Rattle.ae_netlist.specs.declared.cell.Cell.{Cell}
use Rattle.ae_netlist.specs.declared.cell.Cell.TheVariants.{Input, Const, Op, Reg, Mem, Peek}
use Rattle.ae_netlist.specs.declared.cell.SizedCell.{SizedCell}
use Rattle.ae_netlist.specs.Circuit.{CellFits, Extends, IsFormed, IsNet, IsWritten, main_operand, operand, width_of}
use Rattle.ae_netlist.specs.Runs.{Clock, no_clock, word_at, store_at, IsShaped, IsRun, Settles, Steps}
use Rattle.ae_netlist.proofs.Gets.{get_from_take, get_take_within}
use Rattle.ae_netlist.proofs.Growing.{extends_length, width_is}
use Rattle.ae_netlist.proofs.Settled.{each_operand}
use Rattle.ae_netlist.proofs.Shapes.{each_shaped, cell_holds, each_holds}
use Rattle.ae_stream.specs.Inside.{first_nets}

-- what holds of both first operands holds of the main one
of_main : (op : WordOp) (P : ℕ → Type 0) (args : List NetId) → P (operand args 0) → P (operand args 1) → P (main_operand op args)
of_main Mux P args p q = q
of_main _ P args p q = p

module _ (old all : List SizedCell) (formed : IsFormed old) (e : Extends old all) (run : List Clock) (r : IsRun all run) where
  abbrev pub part : List Clock
  part = map (first_nets (length old)) run

  size : length part ≡ length run
  size = length-map run (first_nets (length old))

  place : (t : ℕ) → t < length run → unwrap_or (slice_get part t) no_clock ≡ first_nets (length old) (unwrap_or (slice_get run t) no_clock)
  place t l = or_map (first_nets (length old)) run t no_clock no_clock l

  word : (t n : ℕ) → t < length run → n < length old → word_at part t n ≡ word_at run t n
  unfolding word_at
  word t n l b = rw (place t l) (or_take (length old) (unwrap_or (slice_get run t) no_clock).words n 0 b)

  store : (t n : ℕ) → t < length run → n < length old → store_at part t n ≡ store_at run t n
  unfolding store_at
  store t n l b = rw (place t l) (or_take (length old) (unwrap_or (slice_get run t) no_clock).stores n [] b)

  within : (n w : ℕ) → IsNet old n w → n < length old
  within n w h = slice_get_within old n h.sized h.found

  same_width : (n : ℕ) (sized : SizedCell) → slice_get old n ≡ Some sized → width_of old n ≡ width_of all n
  same_width n sized h = width_is old n sized h ∙ sym (width_is all n sized (e.keeps n sized h))

  shaped : (t : ℕ) → t < length run → IsShaped old (unwrap_or (slice_get part t) no_clock)
  shaped t l =
      let c : Clock = unwrap_or (slice_get run t) no_clock in
      let s : IsShaped all c = shaped_at r t l in
      let many : length old ≤ length all = extends_length old all e in
      let cut : IsShaped old (first_nets (length old) c) = record {
        words = omega (arith, s.words, many, length-take (length old) c.words);
        stores = omega (arith, s.stores, many, length-take (length old) c.stores);
        holds = each_holds old (first_nets (length old) c) (λ n sized h.
            let b : n < length old = slice_get_within old n sized h in
            rw (get_or-take (length old) c.words n 0 b, get_or-take (length old) c.stores n [] b) (cell_holds s n sized (e.keeps n sized h)));
      } in
      subst (λ (k : Clock). IsShaped old k) (sym (place t l)) cut

  settles : (t n width : ℕ) (cell : Cell) → t < length run → slice_get old n ≡ Some (record { width = width; cell = cell })
      → CellFits (take n old) old n width cell → Settles all run t n cell → Settles old part t n cell
  settles t n width (Input port) l found fits h = tt
  settles t n width (Const k) l found fits h = word t n l (slice_get_within old n _ found) ∙ h
  settles t n width (Op op args) l found fits h =
      let b : n < length old = slice_get_within old n _ found in
      let o = each_operand op (IsNet (take n old)) (λ i. (i < length old) × (width_of old i ≡ width_of all i)) args
      (width_of (take n old) (main_operand op args)) fits.operands
      (λ i v k. (let g : i < n = get_take_within old n i k.sized k.found in let there = get_from_take old n i k.sized k.found in
      (omega arith, same_width i k.sized there))) in
      let w : width_of old (main_operand op args) ≡ width_of all (main_operand op args) = of_main op (λ i. width_of old i ≡ width_of all i) args o.0.1 o.1.1 in
      word t n l b ∙ (h ∙ rw (w, word t (operand args 0) l o.0.0, word t (operand args 1) l o.1.0, word t (operand args 2) l o.2.0) refl)
  settles t n width (Reg next) l found fits h = tt
  settles t n width (Mem depth at next enable) l found fits h = tt
  settles t n width (Peek mem at) l found fits h =
      let b : n < length old = slice_get_within old n _ found in
      let p : mem.0 < n = get_take_within old n mem.0 _ fits.memory.found in
      let q : at.0 < n = get_take_within old n at.0 fits.address.net.sized fits.address.net.found in
      word t n l b ∙ (h ∙ rw (store t mem.0 l (omega arith), word t at.0 l (omega arith)) refl)

  written : (t n width depth : ℕ) (at next enable : NetId) → t + 1 < length run → n < length old → (enable.0 == n) ≡ false
      → IsWritten old width depth at.0 next.0 enable.0 → Steps run t n (Mem depth at next enable) → Steps part t n (Mem depth at next enable)
  written t n width depth at next enable l b off w h =
      let k : t < length run = omega arith in
      store (t + 1) n l b ∙ (h ∙ rw (
        store t n k b,
        word t enable.0 k (within enable.0 1 w.bit),
        word t at.0 k (within at.0 _ w.address.net),
        word t next.0 k (within next.0 _ w.word),
      ) refl)

  idle : (t n depth : ℕ) (at next enable : NetId) → t + 1 < length run → n < length old → (enable.0 == n) ≡ true → Steps run t n (Mem depth at next enable)
      → Steps part t n (Mem depth at next enable)
  idle t n depth at next enable l b on h =
      let own : store_at run (t + 1) n ≡ store_at run t n = h ∙
      ap (λ (c : Bool). if c then store_at run t n else (if word_at run t enable.0 == 1 then slice_set (store_at run t n) (word_at run t at.0)
      (word_at run t next.0) else store_at run t n)) on in
      let other : store_at part t n ≡ (if enable.0 == n then store_at part t
      n else (if word_at part t enable.0 == 1 then slice_set (store_at part t n) (word_at part t at.0) (word_at part t next.0) else store_at part t n)) =
      sym (ap (λ (c : Bool). if c then store_at part t n else (if word_at part t enable.0 == 1 then slice_set (store_at part t n) (word_at part t at.0)
      (word_at part t next.0) else store_at part t n)) on) in
      store (t + 1) n l b ∙ (own ∙ (sym (store t n (omega arith) b) ∙ other))

  steps : (t n width : ℕ) (cell : Cell) → t + 1 < length run → n < length old → CellFits (take n old) old n width cell → Steps run t n cell
      → Steps part t n cell
  steps t n width (Input port) l b fits h = tt
  steps t n width (Const k) l b fits h = tt
  steps t n width (Op op args) l b fits h = tt
  steps t n width (Reg next) l b fits h = word (t + 1) n l b ∙ (h ∙ sym (word t next.0 (omega arith) (within next.0 width fits)))
  steps t n width (Mem depth at next enable) l b fits h = cases (enable.0 == n) refl
    where
      cases : (c : Bool) → (enable.0 == n) ≡ c → Steps part t n (Mem depth at next enable)
      cases true on = idle t n depth at next enable l b on h
      cases false off = elim fits.2 [
        | inl own ↦ (let q : (enable.0 == n) ≡ true = eq-eqb enable.0 n own.enable_own in let f : true ≡ false = sym q ∙ off in absurd (grind (arith, f)))
        | inr w ↦ written t n width depth at next enable l b off w h
      ]
  steps t n width (Peek mem at) l b fits h = tt

  pub first_run : IsRun old part
  first_run = record {
    shaped = each_shaped old part (λ t l. subst (IsShaped old) (unwrap_or-slice_get part t no_clock) (shaped t (omega (arith, size))));
    settles = λ t n sized l h. settles t n sized.width sized.cell (omega (arith, size)) h (formed.each n sized h).cell
        (r.settles t n sized (omega (arith, size)) (e.keeps n sized h));
    steps = λ t n sized l h. steps t n sized.width sized.cell (omega (arith, size)) (slice_get_within old n sized h) (formed.each n sized h).cell
        (r.steps t n sized (omega (arith, size)) (e.keeps n sized h));
  }
