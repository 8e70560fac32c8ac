-- What the net of a gate that was added holds in every run.
use Rattle.std.proofs.Common.{ℕ, ◌≡◌, ◌<◌, ◌≤◌, List, ◌++◌, ◌∷◌, [], length, Some, slice_get, Result, Ok, Err, IfOk, OnOk, refl, sym}
use Rattle.std.proofs.lemmas.Option.{slice_get_within}
use Rattle.ae_word.specs.declared.op.WordOp.{WordOp}
use Rattle.ae_word.specs.declared.op.WordOp.TheVariants.{Add, Cast, Eq, Lt, Mux, Or, Shl, Xor}
use Rattle.ae_netlist.specs.declared.cell.NetId.{NetId}
use Rattle.ae_netlist.specs.declared.cell.Cell.TheVariants.{Const, Op}
use Rattle.ae_netlist.specs.declared.cell.SizedCell.{SizedCell}
use Rattle.ae_netlist.specs.Circuit.{Circuit, IsNet, IsOperation, width_of, main_operand}
use Rattle.ae_netlist.specs.Runs.{Carries, InEveryRunFrom}
use Rattle.ae_netlist.proofs.Gets.{get_pushed}
use Rattle.ae_netlist.proofs.Growing.{net_width, extends_length, main_is}
use Rattle.ae_netlist.proofs.Carried.{const_word, op_word, carries_trans, carries_extends}
use Rattle.ae_gates.specs.Cells.{Grows, IsConstant, IsResult}

-- an answer that is the number of the cell that was added
abbrev pub IsAdded : {E : Type 0} → Circuit → Circuit → Result NetId E → SizedCell → Type 0
IsAdded old new r sized = IfOk r (λ n. n ≡ record { 0 = length old.cells }) × OnOk r (new ≡ record old { cells = old.cells ++ sized ∷ [] })

pub constant_words : {E : Type 0} (old new : Circuit) (r : Result NetId E) (w k : ℕ) → IsAdded old new r (record { width = w; cell = Const k })
    → IfOk r (λ y. InEveryRunFrom (length old.cells) new.cells (λ run. IsConstant run y.0 k))
constant_words old new (Ok y) w k a = rw (a.1, a.0) (const_word old.cells w k)
constant_words old new (Err e) w k a = a.0

pub constant_net : {E : Type 0} (old new : Circuit) (r : Result NetId E) (w k : ℕ) → IsAdded old new r (record { width = w; cell = Const k })
    → IfOk r (λ y. IsNet new.cells y.0 w)
constant_net old new (Ok y) w k a =
    rw (a.1, a.0) (record { sized = record { width = w; cell = Const k }; found = get_pushed old.cells _; plain = tt; wide = refl })
constant_net old new (Err e) w k a = a.0

pub constant_cell : {E : Type 0} (old new : Circuit) (r : Result NetId E) (w k : ℕ) → IsAdded old new r (record { width = w; cell = Const k })
    → IfOk r (λ y. slice_get new.cells y.0 ≡ Some (record { width = w; cell = Const k }))
constant_cell old new (Ok y) w k a = rw (a.1, a.0) (get_pushed old.cells _)
constant_cell old new (Err e) w k a = a.0

pub operate_words : {E : Type 0} (old new : Circuit) (r : Result NetId E) (op : WordOp) (args : List NetId) (w : ℕ) → IsOperation old.cells op args w
    → IsAdded old new r (record { width = w; cell = Op op args })
    → IfOk r (λ y. InEveryRunFrom (length old.cells) new.cells (λ run. IsResult run y.0 op (width_of old.cells (main_operand op args)) args))
operate_words old new (Ok y) op args w o a = rw (a.1, a.0) (op_word old.cells op args w _ (main_is op (IsNet old.cells) args _ o.operands))
operate_words old new (Err e) op args w o a = a.0

pub operate_net : {E : Type 0} (old new : Circuit) (r : Result NetId E) (op : WordOp) (args : List NetId) (w : ℕ)
    → IsAdded old new r (record { width = w; cell = Op op args }) → IfOk r (λ y. IsNet new.cells y.0 w)
operate_net old new (Ok y) op args w a =
    rw (a.1, a.0) (record { sized = record { width = w; cell = Op op args }; found = get_pushed old.cells _; plain = tt; wide = refl })
operate_net old new (Err e) op args w a = a.0

-- operations on nets of one width
pub equal_operation : (cells : List SizedCell) (a b : NetId) (w : ℕ) → IsNet cells a.0 w → IsNet cells b.0 w → IsOperation cells Eq (a ∷ b ∷ a ∷ []) 1
equal_operation cells a b w p q =
    let e : width_of cells a.0 ≡ w = net_width p in record { unsigned = refl; range = tt; operands = rw e (p, q, p); result = refl }

pub less_operation : (cells : List SizedCell) (a b : NetId) (w : ℕ) → IsNet cells a.0 w → IsNet cells b.0 w → IsOperation cells Lt (a ∷ b ∷ a ∷ []) 1
less_operation cells a b w p q =
    let e : width_of cells a.0 ≡ w = net_width p in record { unsigned = refl; range = tt; operands = rw e (p, q, p); result = refl }

pub sum_operation : (cells : List SizedCell) (a b : NetId) (w : ℕ) → IsNet cells a.0 w → IsNet cells b.0 w → IsOperation cells Add (a ∷ b ∷ a ∷ []) w
sum_operation cells a b w p q =
    let e : width_of cells a.0 ≡ w = net_width p in record { unsigned = refl; range = tt; operands = rw e (p, q, p); result = sym e }

pub or_operation : (cells : List SizedCell) (a b : NetId) (w : ℕ) → IsNet cells a.0 w → IsNet cells b.0 w → IsOperation cells Or (a ∷ b ∷ a ∷ []) w
or_operation cells a b w p q = let e : width_of cells a.0 ≡ w = net_width p in record { unsigned = refl; range = tt; operands = rw e (p, q, p); result = sym e }

pub xor_operation : (cells : List SizedCell) (a b : NetId) (w : ℕ) → IsNet cells a.0 w → IsNet cells b.0 w → IsOperation cells Xor (a ∷ b ∷ a ∷ []) w
xor_operation cells a b w p q =
    let e : width_of cells a.0 ≡ w = net_width p in record { unsigned = refl; range = tt; operands = rw e (p, q, p); result = sym e }

pub shift_operation : (cells : List SizedCell) (a : NetId) (k w : ℕ) → IsNet cells a.0 w → IsOperation cells (Shl k) (a ∷ a ∷ a ∷ []) w
shift_operation cells a k w p =
    let e : width_of cells a.0 ≡ w = net_width p in record { unsigned = refl; range = tt; operands = rw e (p, p, p); result = sym e }

pub cast_operation : (cells : List SizedCell) (a : NetId) (v w : ℕ) → 1 ≤ v → v ≤ 64 → IsNet cells a.0 w → IsOperation cells (Cast v) (a ∷ a ∷ a ∷ []) v
cast_operation cells a v w low high p =
    let e : width_of cells a.0 ≡ w = net_width p in record { unsigned = refl; range = (low, high); operands = rw e (p, p, p); result = refl }

pub choose_operation : (cells : List SizedCell) (c a b : NetId) (w : ℕ) → IsNet cells c.0 1 → IsNet cells a.0 w → IsNet cells b.0 w
    → IsOperation cells Mux (c ∷ a ∷ b ∷ []) w
choose_operation cells c a b w s p q =
    let e : width_of cells a.0 ≡ w = net_width p in record { unsigned = refl; range = tt; operands = rw e (s, p, q); result = sym e }

pub result_at : {E : Type 0} (cells : List SizedCell) (n : Result NetId E) (old : List SizedCell) (op : WordOp) (args : List NetId) (w : ℕ)
    → IsNet old (main_operand op args) w
    → IfOk n (λ y. InEveryRunFrom (length old) cells (λ run. IsResult run y.0 op (width_of old (main_operand op args)) args))
    → IfOk n (λ y. InEveryRunFrom (length old) cells (λ run. IsResult run y.0 op w args))
result_at cells n old op args w net h = let e : width_of old (main_operand op args) ≡ w = net_width net in rw e at h

pub grows_length : {a b : Circuit} → Grows a b → length a.cells ≤ length b.cells
grows_length {a} {b} g = extends_length a.cells b.cells g.extends

-- what carries the cells of the later netlist carries those of the earlier
pub back : {a b : Circuit} {all : List SizedCell} {from : ℕ} → Grows a b → Carries from b.cells all → Carries from a.cells all
back {from} g k = carries_trans (carries_extends from g.extends) k

pub net_within : {cells : List SizedCell} {n w : ℕ} → IsNet cells n w → n < length cells
net_within {cells} {n} h = slice_get_within cells n h.sized h.found

pub own_net : {cells : List SizedCell} {n w : ℕ} → IsNet cells n w → IsNet cells n (width_of cells n)
own_net h = rw (net_width h) h
