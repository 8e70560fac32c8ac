-- What one more cell does to the counts and the memories of a netlist.
use Rattle.std.proofs.Common.{ℕ, suc, ◌≡◌, ◌≢◌, ◌+◌, ◌≤◌, inl, inr, Bool, false, cond, List, ◌++◌, ◌∷◌, [], take, Some, None, slice_get, Result, Ok, Err, OnOk, arith, refl, sym, ap, ◌∙◌, subst, length-append}
use Rattle.std.proofs.lemmas.List.Sums.{sum_by-cons}
use Rattle.std.proofs.lemmas.Option.{none-some, same_Some}
use Rattle.ae_netlist.specs.declared.cell.NetId.{NetId}
use Rattle.ae_netlist.specs.declared.cell.Cell.{Cell}
use Rattle.ae_netlist.specs.declared.cell.Cell.TheVariants.{Mem, Peek}
use Rattle.ae_netlist.specs.declared.cell.SizedCell.{SizedCell}
use Rattle.ae_netlist.specs.Circuit.{Circuit, Extends, IsNet, IsFormed, width_of}
use Rattle.ae_netlist.specs.Counts.{AreWhole, count_of, is_input, is_memory, is_mul}
use Rattle.ae_netlist.proofs.Gets.{get_push_cases}
use Rattle.ae_netlist.proofs.Growing.{net_later, net_width, net_from_take, extends_append, extends_refl, extends_trans}
use Rattle.ae_netlist.proofs.Counting.{count_push}
use Rattle.ae_gates.specs.Cells.{Grows, Adds}

-- a cell that is neither a memory nor a look into one
abbrev pub IsLogic : Cell → Type 0
IsLogic (Mem depth at next enable) = ⊥
IsLogic (Peek mem at) = ⊥
IsLogic _ = Unit {0}

logic_only : (cell : Cell) → IsLogic cell → is_memory cell ≡ false
logic_only (Mem depth at next enable) h = absurd h
logic_only _ h = refl

-- ---- one more cell

-- a net keeps its width
pub stays : (cells : List SizedCell) (sized : SizedCell) (n w : ℕ) → IsNet cells n w → width_of (cells ++ sized ∷ []) n ≡ width_of cells n
stays cells sized n w h = net_width (net_later (extends_append cells (sized ∷ [])) h) ∙ sym (net_width h)

written_in : (cells : List SizedCell) (m w d : ℕ) (at next enable : NetId) → IsFormed cells
    → slice_get cells m ≡ Some (record { width = w; cell = Mem d at next enable }) → enable.0 ≢ m → IsNet cells at.0 (width_of cells at.0)
written_in cells m w d at next enable formed found ne =
    elim (formed.each m (record { width = w; cell = Mem d at next enable }) found).cell.2 [ inl u ↦ absurd (ne u.enable_own) | inr u ↦ u.address.net ]

peeked_in : (cells : List SizedCell) (n w : ℕ) (mem from : NetId) → IsFormed cells → slice_get cells n ≡ Some (record { width = w; cell = Peek mem from })
    → (v : ℕ) × IsNet cells from.0 v
peeked_in cells n w mem from formed found =
    let fits = formed.each n (record { width = w; cell = Peek mem from }) found in
    (width_of (take n cells) from.0, net_from_take cells n from.0 (width_of (take n cells) from.0) fits.cell.address.net)

whole_push : (cells : List SizedCell) (sized : SizedCell) → IsFormed cells → IsLogic sized.cell → AreWhole cells → AreWhole (cells ++ sized ∷ [])
whole_push cells sized formed logic h = record {
  each = λ m w d at next enable found. elim (get_push_cases cells sized m (record { width = w; cell = Mem d at next enable }) found) [
    | inr v ↦ absurd (subst (λ (x : SizedCell). IsLogic x.cell) v.1 logic)
    | inl v ↦
        let was = h.each m w d at next enable v.0 in
        record {
          connected = was.connected;
          deep = rw (stays cells sized at.0 (width_of cells at.0) (written_in cells m w d at next enable formed v.0 was.connected)) was.deep;
          peeks = λ n k mem from seen is. elim (get_push_cases cells sized n (record { width = k; cell = Peek mem from }) seen) [
            | inr u ↦ absurd (subst (λ (x : SizedCell). IsLogic x.cell) u.1 logic)
            | inl u ↦
                let there = peeked_in cells n k mem from formed u.0 in
                rw (stays cells sized from.0 there.0 there.1) (was.peeks n k mem from u.0 is)
          ];
        }
  ];
}

pub adds_push : (old new : Circuit) (sized : SizedCell) → IsFormed old.cells → IsLogic sized.cell → is_input sized.cell ≡ false
    → new ≡ record old { cells = old.cells ++ sized ∷ [] }
    → Adds old new 1 (cond (is_mul sized.cell) 1 0)
adds_push old new sized formed logic other e = rw e (record {
  grows = record {
    extends = extends_append old.cells (sized ∷ []);
    limit = refl;
    outlets = refl;
    inputs = count_push (λ x. is_input x.cell) old.cells sized ∙ (ap (λ b. count_of is_input old.cells + cond b 1 0) other ∙ omega arith);
  };
  cells = omega (arith, length-append old.cells (sized ∷ []));
  muls = count_push (λ x. is_mul x.cell) old.cells sized;
  memories = count_push (λ x. is_memory x.cell) old.cells sized ∙
      (ap (λ b. count_of is_memory old.cells + cond b 1 0) (logic_only sized.cell logic) ∙ omega arith);
  whole = whole_push old.cells sized formed logic;
})

pub grows_refl : (a : Circuit) → Grows a a
grows_refl a = record { extends = extends_refl a.cells; limit = refl; outlets = refl; inputs = refl }

pub adds_none : (a : Circuit) → Adds a a 0 0
adds_none a = record { grows = grows_refl a; cells = omega arith; muls = omega arith; memories = refl; whole = λ h. h }

pub adds_same : (a b : Circuit) (most : ℕ) → b ≡ a → Adds a b most 0
adds_same a b most e = rw e (record { grows = grows_refl a; cells = omega arith; muls = omega arith; memories = refl; whole = λ h. h })

-- what was added where nothing is added after a refusal
pub added : {X E : Type 0} (old new : Circuit) (r : Result X E) (sized : SizedCell) → IsFormed old.cells → IsLogic sized.cell → is_input sized.cell ≡ false
    → OnOk r (new ≡ record old { cells = old.cells ++ sized ∷ [] }) → OnOk r (Adds old new 1 (cond (is_mul sized.cell) 1 0))
added old new (Ok x) sized formed logic other ok = adds_push old new sized formed logic other ok
added old new (Err e) sized formed logic other ok = tt

-- ---- one netlist after another

pub grows_trans : {a b c : Circuit} → Grows a b → Grows b c → Grows a c
grows_trans p q =
    record { extends = extends_trans p.extends q.extends; limit = q.limit ∙ p.limit; outlets = q.outlets ∙ p.outlets; inputs = q.inputs ∙ p.inputs }

pub adds_trans : {a b c : Circuit} {m n k j : ℕ} → Adds a b m k → Adds b c n j → Adds a c (m + n) (k + j)
adds_trans p q = record {
  grows = grows_trans p.grows q.grows;
  cells = omega (arith, p.cells, q.cells);
  muls = omega (arith, p.muls, q.muls);
  memories = q.memories ∙ p.memories;
  whole = λ h. q.whole (p.whole h);
}

-- with a greater bound
pub adds_most : {a b : Circuit} {m k : ℕ} (n : ℕ) → m ≤ n → Adds a b m k → Adds a b n k
adds_most n l p = record { grows = p.grows; cells = omega (arith, p.cells); muls = p.muls; memories = p.memories; whole = p.whole }

pub net_added : {a b : Circuit} {m k n w : ℕ} → Adds a b m k → IsNet a.cells n w → IsNet b.cells n w
net_added p h = net_later p.grows.extends h

-- one more cell counts once where it is of a kind
pub counted : {X E : Type 0} (kind : Cell → Bool) (old new : Circuit) (r : Result X E) (sized : SizedCell)
    → OnOk r (new ≡ record old { cells = old.cells ++ sized ∷ [] }) → OnOk r (count_of kind new.cells ≤ count_of kind old.cells + cond (kind sized.cell) 1 0)
counted kind old new (Ok x) sized ok = rw ok (omega (arith, count_push (λ y. kind y.cell) old.cells sized))
counted kind old new (Err e) sized ok = tt

-- and not where it is of none
pub uncounted : {X E : Type 0} (r : Result X E) (a b : ℕ) → OnOk r (a ≤ b + 0) → OnOk r (a ≤ b)
uncounted (Ok x) a b h = omega arith
uncounted (Err e) a b h = tt

-- one of a kind, or none
abbrev pub weight : (Cell → Bool) → SizedCell → ℕ
weight kind sized = cond (kind sized.cell) 1 0

-- a netlist that extends another has no fewer cells of a kind
pub count_grows : (kind : Cell → Bool) (old new : List SizedCell) → Extends old new → count_of kind old ≤ count_of kind new
count_grows kind [] new e = (let none : count_of kind [] ≡ 0 = refl in omega (arith, none))
count_grows kind (x ∷ old) [] e = (let f : None ≡ Some x = e.keeps 0 x refl in absurd (none-some x f))
count_grows kind (x ∷ old) (y ∷ new) e =
    let same : y ≡ x = same_Some y x (e.keeps 0 x refl) in
    let a : count_of kind (y ∷ new) ≡ weight kind y + count_of kind new = sum_by-cons (weight kind) y new in
    let b : count_of kind (x ∷ old) ≡ weight kind x + count_of kind old = sum_by-cons (weight kind) x old in
    let rest : count_of kind old ≤ count_of kind new = count_grows kind old new (record { keeps = λ n sized found. e.keeps (suc n) sized found }) in
    omega (arith, a, b, rest, ap (weight kind) same)
