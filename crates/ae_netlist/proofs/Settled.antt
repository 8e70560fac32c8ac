-- The words of one clock: each is made of earlier ones, so they are there and are determined.
use Rattle.std.proofs.Common.{ℕ, zero, suc, ◌≡◌, ◌+◌, ◌<◌, List, [], ◌∷◌, ◌++◌, length, take, Some, slice_get, get_or, arith, refl, ap, sym, ◌∙◌}
use Rattle.std.proofs.lemmas.List.{get_or_append_left, get_or_push, length_push}
use Rattle.std.proofs.lemmas.Option.{slice_get-get_or}
use Rattle.ae_word.specs.declared.op.WordOp.{WordOp}
use Rattle.ae_word.specs.declared.op.WordOp.TheVariants.{Mux}
use Rattle.ae_word.specs.WordTable.{word_result}
use Rattle.ae_netlist.specs.declared.cell.NetId.{NetId}
use Rattle.ae_netlist.specs.declared.cell.Cell.{Cell}
use Rattle.ae_netlist.specs.declared.cell.Cell.TheVariants.{Input, Const, Op, Reg, Mem, Peek}
use Rattle.ae_netlist.specs.declared.cell.SizedCell.{SizedCell}
use Rattle.ae_netlist.specs.Circuit.{IsNet, width_of, main_operand, operand, OperandsAre, CellFits, IsFormed}
use Rattle.ae_netlist.proofs.Gets.{get_take_within}

-- the word that a cell makes of the words before it, where the free words and the memories are given
abbrev pub cell_word : List SizedCell → (ℕ → ℕ) → (ℕ → List ℕ) → List ℕ → ℕ → Cell → ℕ
cell_word cells free stores done n (Input port) = free n
cell_word cells free stores done n (Const k) = k
cell_word cells free stores done n (Op op args) =
    word_result op (width_of cells (main_operand op args)) (get_or done (operand args 0) 0) (get_or done (operand args 1) 0) (get_or done (operand args 2) 0)
cell_word cells free stores done n (Reg next) = free n
cell_word cells free stores done n (Mem depth at next enable) = 0
cell_word cells free stores done n (Peek mem at) = get_or (stores mem.0) (get_or done at.0 0) 0

-- the words of the rest, behind those that are done
abbrev pub settle : List SizedCell → (ℕ → ℕ) → (ℕ → List ℕ) → List ℕ → List SizedCell → List ℕ
settle cells free stores done [] = done
settle cells free stores done (sized ∷ rest) =
    settle cells free stores (done ++ cell_word cells free stores done (length done) sized.cell ∷ []) rest

pub settle_length : (cells : List SizedCell) (free : ℕ → ℕ) (stores : ℕ → List ℕ) (done : List ℕ) (rest : List SizedCell)
    → length (settle cells free stores done rest) ≡ length done + length rest
settle_length cells free stores done [] = omega arith
settle_length cells free stores done (sized ∷ rest) =
    let w : ℕ = cell_word cells free stores done (length done) sized.cell in
    omega (arith, settle_length cells free stores (done ++ w ∷ []) rest, length_push done w)

settle_keeps : (cells : List SizedCell) (free : ℕ → ℕ) (stores : ℕ → List ℕ) (done : List ℕ) (rest : List SizedCell) (i : ℕ) → i < length done
    → get_or (settle cells free stores done rest) i 0 ≡ get_or done i 0
settle_keeps cells free stores done [] i h = refl
settle_keeps cells free stores done (sized ∷ rest) i h =
    let w : ℕ = cell_word cells free stores done (length done) sized.cell in
    settle_keeps cells free stores (done ++ w ∷ []) rest i (omega (arith, length_push done w))
    ∙ get_or_append_left done (w ∷ []) 0 i h

-- the word at n was made of words that have stayed
record MadeAt (cells : List SizedCell) (free : ℕ → ℕ) (stores : ℕ → List ℕ) (all : List ℕ) (n : ℕ) (cell : Cell) : Type 0 where
  done : List ℕ
  stayed : (i : ℕ) → i < n → get_or done i 0 ≡ get_or all i 0
  made : get_or all n 0 ≡ cell_word cells free stores done n cell

settle_at : (cells : List SizedCell) (free : ℕ → ℕ) (stores : ℕ → List ℕ) (done : List ℕ) (rest : List SizedCell) (k n : ℕ) (sized : SizedCell)
    → length done + k ≡ n → slice_get rest k ≡ Some sized → MadeAt cells free stores (settle cells free stores done rest) n sized.cell
settle_at cells free stores done [] k n sized e h = cc
settle_at cells free stores done (x ∷ rest) zero n sized e h =
    let is : x ≡ sized = cc in
    let l : length done ≡ n = omega arith in
    let w : ℕ = cell_word cells free stores done (length done) x.cell in
    let lt : n < length (done ++ w ∷ []) = omega (arith, length_push done w) in
    let all : List ℕ = settle cells free stores (done ++ w ∷ []) rest in
    record {
      done = done;
      stayed = λ i b. sym (settle_keeps cells free stores (done ++ w ∷ []) rest i (omega (arith, length_push done w)) ∙
          get_or_append_left done (w ∷ []) 0 i (omega arith));
      made =
          settle_keeps cells free stores (done ++ w ∷ []) rest n lt
          ∙ (get_or_push done w 0 n l ∙ (ap (λ m. cell_word cells free stores done m x.cell) l ∙
          ap (λ (y : SizedCell). cell_word cells free stores done n y.cell) is));
    }
settle_at cells free stores done (x ∷ rest) (suc k) n sized e h =
    let w : ℕ = cell_word cells free stores done (length done) x.cell in
    settle_at cells free stores (done ++ w ∷ []) rest k n sized (omega (arith, length_push done w)) h

-- what holds of each operand
pub each_operand : (op : WordOp) (P : ℕ → ℕ → Type 0) (Q : ℕ → Type 0) (args : List NetId) (w : ℕ) → OperandsAre op P args w → ((m v : ℕ) → P m v → Q m)
    → Q (operand args 0) × Q (operand args 1) × Q (operand args 2)
each_operand Mux P Q args w h f = (f _ _ h.0, f _ _ h.1, f _ _ h.2)
each_operand _ P Q args w h f = (f _ _ h.0, f _ _ h.1, f _ _ h.2)

-- a cell's word depends on the words before it alone
pub same_word : (cells : List SizedCell) (free : ℕ → ℕ) (stores : ℕ → List ℕ) (d e : List ℕ) (n w : ℕ) (cell : Cell) → CellFits (take n cells) cells n w cell
    → ((i : ℕ) → i < n → get_or d i 0 ≡ get_or e i 0) → cell_word cells free stores d n cell ≡ cell_word cells free stores e n cell
same_word cells free stores d e n w (Input port) fits same = refl
same_word cells free stores d e n w (Const k) fits same = refl
same_word cells free stores d e n w (Op op args) fits same =
    let s = each_operand op (IsNet (take n cells)) (λ m. get_or d m 0 ≡ get_or e m 0) args (width_of (take n cells) (main_operand op args)) fits.operands
    (λ m v k. same m (get_take_within cells n m k.sized k.found)) in
    rw (s.0, s.1, s.2)
same_word cells free stores d e n w (Reg next) fits same = refl
same_word cells free stores d e n w (Mem depth at next enable) fits same = refl
same_word cells free stores d e n w (Peek mem at) fits same =
    ap (λ i. get_or (stores mem.0) i 0) (same at.0 (get_take_within cells n at.0 fits.address.net.sized fits.address.net.found))

-- the words meet the equations of all cells
pub record IsSettled (cells : List SizedCell) (free : ℕ → ℕ) (stores : ℕ → List ℕ) (words : List ℕ) : Type 0 where
  pub each : (n : ℕ) (sized : SizedCell) → slice_get cells n ≡ Some sized → get_or words n 0 ≡ cell_word cells free stores words n sized.cell

pub settled : (cells : List SizedCell) (free : ℕ → ℕ) (stores : ℕ → List ℕ) → IsFormed cells → IsSettled cells free stores (settle cells free stores [] cells)
settled cells free stores formed = record {
  each = λ n sized h.
      let m = settle_at cells free stores [] cells n n sized (omega arith) h in
      m.made ∙ same_word cells free stores m.done (settle cells free stores [] cells) n sized.width sized.cell (formed.each n sized h).cell m.stayed;
}

-- words that meet the equations are determined
settled_below : (cells : List SizedCell) (free : ℕ → ℕ) (stores : ℕ → List ℕ) (u v : List ℕ) → IsFormed cells → IsSettled cells free stores u
    → IsSettled cells free stores v → (k n : ℕ) → n < k → n < length cells → get_or u n 0 ≡ get_or v n 0
settled_below cells free stores u v formed p q zero n b h = absurd (omega arith)
settled_below cells free stores u v formed p q (suc k) n b h =
    let sized = get_or cells n (record { width = 0; cell = Const 0 }) in
    let found : slice_get cells n ≡ Some sized = slice_get-get_or cells n (record { width = 0; cell = Const 0 }) h in
    p.each n sized found
    ∙ (same_word cells free stores u v n sized.width sized.cell (formed.each n sized found).cell
    (λ i l. settled_below cells free stores u v formed p q k i (omega arith) (omega arith))
    ∙ sym (q.each n sized found))

pub settled_once : (cells : List SizedCell) (free : ℕ → ℕ) (stores : ℕ → List ℕ) (u v : List ℕ) → IsFormed cells → IsSettled cells free stores u
    → IsSettled cells free stores v → (n : ℕ) → n < length cells → get_or u n 0 ≡ get_or v n 0
settled_once cells free stores u v formed p q n h = settled_below cells free stores u v formed p q (suc n) n (omega arith) h
