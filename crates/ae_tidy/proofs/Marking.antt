-- The line of nets that are kept, and what is followed.
use Rattle.std.proofs.Common.{ℕ, zero, suc, ◌≡◌, ◌+◌, ◌<◌, ◌≤◌, List, [], ◌∷◌, ◌++◌, length, length-append, length-set, set, take, replicate, Some, None, slice_get, get_or, Bool, true, false, not, cond, inl, inr, arith, refl, ap, sym, ◌∙◌, subst}
use Rattle.std.proofs.lemmas.Bool.{cases_eq}
use Rattle.std.proofs.lemmas.List.Sums.{sum_by-set}
use Rattle.std.proofs.lemmas.Option.{slice_get_within, get_or_from_slice_get, slice_get-get_or}
use Rattle.ae_netlist.specs.declared.cell.NetId.{NetId}
use Rattle.ae_netlist.specs.declared.cell.Cell.{Cell}
use Rattle.ae_netlist.specs.declared.cell.Cell.TheVariants.{Input, Const, Op, Reg, Mem, Peek}
use Rattle.ae_netlist.specs.declared.cell.SizedCell.{SizedCell}
use Rattle.ae_netlist.specs.declared.cell.Outlet.{Outlet}
use Rattle.ae_netlist.specs.Circuit.{Circuit, IsNet, HaveNets, CellFits, IsFormed, main_operand, width_of}
use Rattle.ae_netlist.proofs.Settled.{each_operand}
use Rattle.ae_netlist.proofs.Gets.{get_from_take, get_left, get_pushed, get_set_other}
use Rattle.ae_tidy.specs.Marks.{EachRead, IsKept, Waits, left_out, Grows, AreFollowed, AreRooted, AreRoots, AreOutputs, is_root}

pub grows_refl : (keep : List Bool) (line : List NetId) → Grows keep line keep line
grows_refl keep line = record { long = refl; stay = λ n k. k; new = λ n k. inl k; queue = λ k n h. h; more_wait = omega arith; once = refl }

waits_later : (line longer : List NetId) (from to n : ℕ) → ((k : ℕ) (x : NetId) → slice_get line k ≡ Some x → slice_get longer k ≡ Some x) → to ≤ from
    → Waits line from n → Waits longer to n
waits_later line longer from to n f l w = record { place = w.place; later = omega (arith, w.later); found = f w.place _ w.found }

pub grows_trans : {a b c : List Bool} {x y z : List NetId} → Grows a x b y → Grows b y c z → Grows a x c z
grows_trans {a} {b} {c} {x} {y} {z} p q = record {
  long = q.long ∙ p.long;
  stay = λ n k. q.stay n (p.stay n k);
  new = λ n k. elim (q.new n k) [
    | inl here ↦ elim (p.new n here) [ inl there ↦ inl there | inr w ↦ inr (waits_later y z (length x) (length x) n q.queue (omega arith) w) ]
    | inr w ↦ inr (waits_later z z (length y) (length x) n (λ k m h. h) p.more_wait w)
  ];
  queue = λ k n h. q.queue k n (p.queue k n h);
  more_wait = omega (arith, p.more_wait, q.more_wait);
  once = omega (arith, p.once, q.once);
}

-- one more net is kept, and waits
pub grows_one : (keep : List Bool) (line : List NetId) (net : NetId) → slice_get keep net.0 ≡ Some false
    → Grows keep line (set keep net.0 true) (line ++ net ∷ [])
grows_one keep line net h = record {
  long = length-set keep net.0 true;
  stay = λ n k. elim (cases_eq n net.0) [
    | inl e ↦ (let q : Some true ≡ Some false = sym k.kept ∙ (ap (slice_get keep) e ∙ h) in cc)
    | inr ne ↦ record { kept = get_set_other keep net.0 n true ne ∙ k.kept }
  ];
  new = λ n k. elim (cases_eq n net.0) [
    | inl e ↦ inr (record { place = length line; later = omega arith; found = get_pushed line net ∙ ap (λ (i : ℕ). Some (record { 0 = i })) (sym e) })
    | inr ne ↦ inl (record { kept = sym (get_set_other keep net.0 n true ne) ∙ k.kept })
  ];
  queue = λ k n g. get_left line (net ∷ []) k n g;
  more_wait = omega (arith, length-append line (net ∷ []));
  once = one_less;
}
  where
    one_less : left_out (set keep net.0 true) + length (line ++ net ∷ []) ≡ left_out keep + length line
    one_less =
        let s = sum_by-set (λ (b : Bool). cond {A = ℕ} (not b) 1 0) keep net.0 true false (slice_get_within keep net.0 false h) in
        let g : get_or keep net.0 false ≡ false = get_or_from_slice_get keep net.0 false false h in
        let s2 : left_out (set keep net.0 true) + 1 ≡ left_out keep + 0 = rw g at s in
        omega (arith, length-append line (net ∷ []))

-- what is read stays so as nets are kept
pub each_map : (P Q : ℕ → Type 0) (cell : Cell) → ((n : ℕ) → P n → Q n) → EachRead P cell → EachRead Q cell
each_map P Q (Input port) f h = tt
each_map P Q (Const k) f h = tt
each_map P Q (Op op args) f h = (f _ h.0, f _ h.1, f _ h.2)
each_map P Q (Reg next) f h = f _ h
each_map P Q (Mem depth at next enable) f h = (f _ h.0, f _ h.1, f _ h.2)
each_map P Q (Peek mem at) f h = (f _ h.0, f _ h.1)

-- the next net of the line is followed
pub followed_more : (cells : List SizedCell) (keep more : List Bool) (line longer : List NetId) (from : ℕ) (net : NetId) → Grows keep line more longer
    → AreFollowed cells keep line from → from < length line
    → slice_get line from ≡ Some net → ((sized : SizedCell) → slice_get cells net.0 ≡ Some sized → EachRead (IsKept more) sized.cell)
    → AreFollowed cells more longer (from + 1)
followed_more cells keep more line longer from net g f l here reads = record {
  each = λ n sized k h. elim (g.new n k) [
    | inr w ↦ inr (waits_later longer longer (length line) (from + 1) n (λ i x e. e) (omega arith) w)
    | inl old ↦ elim (f.each n sized old h) [
      | inl e ↦ inl (each_map (IsKept keep) (IsKept more) sized.cell g.stay e)
      | inr w ↦ elim (cases_eq w.place from) [
        | inl e ↦
            let q : Some net ≡ Some (record { 0 = n }) = sym here ∙ (ap (slice_get line) (sym e) ∙ w.found) in
            let is : net.0 ≡ n = cc in
            inl (reads sized (ap (slice_get cells) is ∙ h))
        | inr ne ↦ inr (record { place = w.place; later = (let a = w.later in omega arith); found = g.queue w.place _ w.found })
      ]
    ]
  ];
}

-- and at its end all are
pub followed_all : (cells : List SizedCell) (keep : List Bool) (line : List NetId) (from : ℕ) → AreFollowed cells keep line from → length line ≤ from
    → (n : ℕ) (sized : SizedCell) → IsKept keep n → slice_get cells n ≡ Some sized → EachRead (IsKept keep) sized.cell
followed_all cells keep line from f l n sized k h = elim (f.each n sized k h) [
  | inl e ↦ e
  | inr w ↦ (let a = w.later in let b : w.place < length line = slice_get_within line w.place _ w.found in absurd (omega arith))
]

-- at first only what waits is kept
pub followed_first : (cells : List SizedCell) (none keep : List Bool) (first line : List NetId) → Grows none first keep line → ((n : ℕ) → IsKept none n → ⊥)
    → AreFollowed cells keep line 0
followed_first cells none keep first line g empty = record {
  each = λ n sized k h. elim (g.new n k) [
    | inl z ↦ absurd (empty n z)
    | inr w ↦ inr (waits_later line line (length first) 0 n (λ i x e. e) (omega arith) w)
  ];
}

pub read_is : (keep : List Bool) (i : ℕ) (v b : Bool) → i < length keep → v ≡ get_or keep i v → v ≡ b → slice_get keep i ≡ Some b
read_is keep i v b l e f = slice_get-get_or keep i v l ∙ ap Some (sym e ∙ f)

-- a cell reads nets that are there
pub reads_within : (cells : List SizedCell) (n : ℕ) (sized : SizedCell) → IsFormed cells → slice_get cells n ≡ Some sized
    → EachRead (λ r. r < length cells) sized.cell
reads_within cells n sized formed h = cell_within cells n sized.width sized.cell (slice_get_within cells n sized h) (formed.each n sized h).cell
  where
    cell_within : (cells : List SizedCell) (n width : ℕ) (cell : Cell) → n < length cells → CellFits (take n cells) cells n width cell
        → EachRead (λ r. r < length cells) cell
    cell_within cells n width (Input port) l f = tt
    cell_within cells n width (Const k) l f = tt
    cell_within cells n width (Op op args) l f =
        each_operand op (IsNet (take n cells)) (λ r. r < length cells) args (width_of (take n cells) (main_operand op args)) f.operands
        (λ m v k. slice_get_within cells m k.sized (get_from_take cells n m k.sized k.found))
    cell_within cells n width (Reg next) l f = slice_get_within cells next.0 f.sized f.found
    cell_within cells n width (Mem depth at next enable) l f = elim f.2 [
      | inl own ↦ (omega (arith, own.at_own), omega (arith, own.next_own), omega (arith, own.enable_own))
      | inr w ↦ (
        slice_get_within cells at.0 w.address.net.sized w.address.net.found,
        slice_get_within cells next.0 w.word.sized w.word.found,
        slice_get_within cells enable.0 w.bit.sized w.bit.found,
      )
    ]
    cell_within cells n width (Peek mem at) l f = (
      slice_get_within cells mem.0 _ (get_from_take cells n mem.0 _ f.memory.found),
      slice_get_within cells at.0 f.address.net.sized (get_from_take cells n at.0 f.address.net.sized f.address.net.found),
    )

-- ---- roots and outputs

pub roots_none : (cells : List SizedCell) (keep : List Bool) → AreRoots cells keep 0
roots_none cells keep = record { each = λ n sized l h e. absurd (none_below n l) }
  where
    none_below : (n : ℕ) → n < 0 → ⊥
    none_below n l = omega arith

pub roots_stay : (cells : List SizedCell) (keep more : List Bool) (line longer : List NetId) (to : ℕ) → Grows keep line more longer → AreRoots cells keep to
    → AreRoots cells more to
roots_stay cells keep more line longer to g r = record { each = λ n sized l h e. g.stay n (r.each n sized l h e) }

pub roots_more : (cells : List SizedCell) (keep more : List Bool) (line longer : List NetId) (to : ℕ) (sized : SizedCell) → Grows keep line more longer
    → slice_get cells to ≡ Some sized → (is_root sized.cell ≡ true → IsKept more to)
    → AreRoots cells keep to → AreRoots cells more (to + 1)
roots_more cells keep more line longer to sized g here kept r = record {
  each = λ n x l h e. elim (cases_eq n to) [
    | inr ne ↦ g.stay n (r.each n x (omega arith) h e)
    | inl at ↦
        let q : Some x ≡ Some sized = sym h ∙ (ap (slice_get cells) at ∙ here) in
        let same : x ≡ sized = cc in
        rw at (kept (ap (λ (y : SizedCell). is_root y.cell) (sym same) ∙ e))
  ];
}

pub outputs_none : (outlets : List Outlet) (keep : List Bool) → AreOutputs outlets keep 0
outputs_none outlets keep = record { each = λ n o l h. absurd (none_below n l) }
  where
    none_below : (n : ℕ) → n < 0 → ⊥
    none_below n l = omega arith

pub outputs_stay : (outlets : List Outlet) (keep more : List Bool) (line longer : List NetId) (to : ℕ) → Grows keep line more longer
    → AreOutputs outlets keep to → AreOutputs outlets more to
outputs_stay outlets keep more line longer to g r = record { each = λ n o l h. g.stay o.net.0 (r.each n o l h) }

pub outputs_more : (outlets : List Outlet) (keep more : List Bool) (line longer : List NetId) (to : ℕ) (o : Outlet) → Grows keep line more longer
    → slice_get outlets to ≡ Some o → IsKept more o.net.0
    → AreOutputs outlets keep to → AreOutputs outlets more (to + 1)
outputs_more outlets keep more line longer to o g here kept r = record {
  each = λ n x l h. elim (cases_eq n to) [
    | inr ne ↦ g.stay x.net.0 (r.each n x (omega arith) h)
    | inl at ↦
        let q : Some x ≡ Some o = sym h ∙ (ap (slice_get outlets) at ∙ here) in
        let same : x ≡ o = cc in
        subst (λ (y : Outlet). IsKept more y.net.0) (sym same) kept
  ];
}

pub rooted_stay : (c : Circuit) (keep more : List Bool) (line longer : List NetId) → Grows keep line more longer → AreRooted c keep → AreRooted c more
rooted_stay c keep more line longer g r = record {
  long = g.long ∙ r.long;
  roots = roots_stay c.cells keep more line longer (length c.cells) g r.roots;
  outputs = outputs_stay c.outlets keep more line longer (length c.outlets) g r.outputs;
}

pub outlet_within : (c : Circuit) (k : ℕ) (o : Outlet) → HaveNets c.cells c.outlets → slice_get c.outlets k ≡ Some o → o.net.0 < length c.cells
outlet_within c k o have h = let net = have.each k o h in slice_get_within c.cells o.net.0 net.sized net.found

-- a net of the line that is none is followed already
pub followed_past : (cells : List SizedCell) (keep : List Bool) (line : List NetId) (from : ℕ) (net : NetId) → AreFollowed cells keep line from
    → from < length line → slice_get line from ≡ Some net → slice_get cells net.0 ≡ None → AreFollowed cells keep line (from + 1)
followed_past cells keep line from net f l here none =
    followed_more cells keep keep line line from net (grows_refl keep line) f l here (λ sized h. (let q : None ≡ Some sized = sym none ∙ h in cc))

-- no net is kept yet
pub none_kept : (k n : ℕ) → IsKept (replicate k false) n → ⊥
none_kept k n h = none_at k n h.kept
  where
    none_at : (k n : ℕ) → slice_get (replicate k false) n ≡ Some true → ⊥
    none_at zero n e = cc
    none_at (suc k) zero e = cc
    none_at (suc k) (suc n) e = none_at k n e
