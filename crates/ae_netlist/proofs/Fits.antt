-- The words of a clock fit their widths.
use Rattle.std.proofs.Common.{ℤ, pos, negsuc, ◌-ℤ◌, int_lt, ℕ, zero, suc, ◌≡◌, ◌/◌, bit_and, ◌<◌, ◌≤◌, ◌^◌, ◌%◌, ◌*◌, ◌==◌, List, take, Some, slice_get, get_or, Bool, true, false, if◌then◌else◌, nat_lt, arith, lit<}
use Rattle.std.specs.Int.{int_min, int_max, int_div_euclid}
use Rattle.std.proofs.Math.Nat.{div-le_self}
use Rattle.std.proofs.lemmas.Nat.{pow_pos, and_le_l, or_lt, xor_lt}
use Rattle.ae_word.specs.declared.op.WordOp.{WordOp}
use Rattle.ae_word.specs.declared.op.WordOp.TheVariants.{Add, Sub, Mul, And, Or, Xor, Not, Min, Max, Eq, Lt, Mux, Shl, Shr, Cast, SLt, SMin, SMax, Sar, SCast}
use Rattle.ae_word.specs.WordTable.{bit, code, signed_value, word_result, result_width_of, OperandsFit}
use Rattle.ae_netlist.specs.declared.cell.NetId.{NetId}
use Rattle.ae_netlist.specs.declared.cell.Cell.{Cell}
use Rattle.ae_netlist.specs.declared.cell.Cell.TheVariants.{Input, Const, Op, Reg, Mem, Peek}
use Rattle.ae_netlist.specs.declared.cell.SizedCell.{SizedCell}
use Rattle.ae_netlist.specs.Circuit.{IsNet, width_of, main_operand, operand, OperandsAre, CellFits, IsFormed}
use Rattle.ae_netlist.proofs.Gets.{get_take_within, get_from_take}
use Rattle.ae_netlist.proofs.Growing.{net_width, main_is, net_from_take, operands_map}
use Rattle.ae_netlist.proofs.Settled.{cell_word, IsSettled}

bit_fits : (v : Bool) → bit v < 2 ^ 1
bit_fits true = lit< tt
bit_fits false = lit< tt

one_of_two : (v : Bool) (b c n : ℕ) → b < n → c < n → (if v then b else c) < n
one_of_two true b c n p q = p
one_of_two false b c n p q = q

code_fits : (w : ℕ) (z : ℤ) → code w z < 2 ^ w
code_fits w (pos a) = let p = pow_pos w in omega arith
code_fits w (negsuc a) = let p = pow_pos w in omega arith

-- an operator's result fits its width, where its operands fit
pub word_fits : (op : WordOp) (w a b c : ℕ) → OperandsFit op w a b c → word_result op w a b c < 2 ^ result_width_of op w
word_fits Add w a b c h = let p = pow_pos w in omega arith
word_fits Sub w a b c h = code_fits w (pos a -ℤ pos b)
word_fits Mul w a b c h = let p = pow_pos w in let x : ℕ = a * b in let q : x % 2 ^ w < 2 ^ w = omega arith in q
word_fits And w a b c h = let p : bit_and a b ≤ a = and_le_l a b in let q : a < 2 ^ w = h.0 in omega arith
word_fits Or w a b c h = or_lt w a b h.0 h.1
word_fits Xor w a b c h = xor_lt w a b h.0 h.1
word_fits Not w a b c h = let p = pow_pos w in omega arith
word_fits Min w a b c h = let q : a < 2 ^ w = h.0 in omega arith
word_fits Max w a b c h = let q : a < 2 ^ w = h.0 in let r : b < 2 ^ w = h.1 in omega arith
word_fits Eq w a b c h = bit_fits (a == b)
word_fits Lt w a b c h = bit_fits (nat_lt a b)
word_fits Mux w a b c h = one_of_two (a == 1) b c (2 ^ w) h.1 h.2
word_fits (Shl k) w a b c h = let p = pow_pos w in let x : ℕ = a * 2 ^ k in let q : x % 2 ^ w < 2 ^ w = omega arith in q
word_fits (Shr k) w a b c h = let x : ℕ = a / 2 ^ k in let p : x ≤ a = div-le_self a (2 ^ k) in let q : a < 2 ^ w = h in let r : x < 2 ^ w = omega arith in r
word_fits (Cast v) w a b c h = let p = pow_pos v in omega arith
word_fits SLt w a b c h = bit_fits (int_lt (signed_value w a) (signed_value w b))
word_fits SMin w a b c h = code_fits w (int_min (signed_value w a) (signed_value w b))
word_fits SMax w a b c h = code_fits w (int_max (signed_value w a) (signed_value w b))
word_fits (Sar k) w a b c h = code_fits w (int_div_euclid (signed_value w a) (pos (2 ^ k)))
word_fits (SCast v) w a b c h = code_fits v (signed_value w a)

-- operands that have the widths of their nets fit
pub operands_fit : (op : WordOp) (f : ℕ → ℕ) (args : List NetId) (w : ℕ) → OperandsAre op (λ m v. f m < 2 ^ v) args w
    → OperandsFit op w (f (operand args 0)) (f (operand args 1)) (f (operand args 2))
operands_fit Mux f args w h = (h.0, h.1, h.2)
operands_fit Not f args w h = h.0
operands_fit (Shl k) f args w h = h.0
operands_fit (Shr k) f args w h = h.0
operands_fit (Cast v) f args w h = h.0
operands_fit (Sar k) f args w h = h.0
operands_fit (SCast v) f args w h = h.0
operands_fit _ f args w h = (h.0, h.1)

-- a net before n has a word that fits
net_fits : (cells : List SizedCell) (u : List ℕ) (n m w : ℕ) → ((i : ℕ) (x : SizedCell) → i < n → slice_get cells i ≡ Some x → get_or u i 0 < 2 ^ x.width)
    → IsNet (take n cells) m w → get_or u m 0 < 2 ^ w
net_fits cells u n m w below k = rw (← k.wide) (below m k.sized (get_take_within cells n m k.sized k.found) (get_from_take cells n m k.sized k.found))

pub cell_fits : (cells : List SizedCell) (free : ℕ → ℕ) (stores : ℕ → List ℕ) (u : List ℕ) (n w : ℕ) (cell : Cell) → CellFits (take n cells) cells n w cell
    → free n < 2 ^ w → ((m i : ℕ) (x : SizedCell) → slice_get cells m ≡ Some x → get_or (stores m) i 0 < 2 ^ x.width)
    → ((i : ℕ) (x : SizedCell) → i < n → slice_get cells i ≡ Some x → get_or u i 0 < 2 ^ x.width)
    → cell_word cells free stores u n cell < 2 ^ w
cell_fits cells free stores u n w (Input port) fits f s below = f
cell_fits cells free stores u n w (Const k) fits f s below = fits
cell_fits cells free stores u n w (Op op args) fits f s below =
    let before : List SizedCell = take n cells in
    let v : ℕ = width_of before (main_operand op args) in
    let main : IsNet before (main_operand op args) v = main_is op (IsNet before) args v fits.operands in
    let e : width_of cells (main_operand op args) ≡ v = net_width (net_from_take cells n (main_operand op args) v main) in
    rw (e, fits.result)
    (word_fits op v (get_or u (operand args 0) 0) (get_or u (operand args 1) 0) (get_or u (operand args 2) 0)
    (operands_fit op (λ m. get_or u m 0) args v
    (operands_map op (IsNet before) (λ m x. get_or u m 0 < 2 ^ x) args v (λ m x k. net_fits cells u n m x below k) fits.operands)))
cell_fits cells free stores u n w (Reg next) fits f s below = f
cell_fits cells free stores u n w (Mem depth at next enable) fits f s below = pow_pos w
cell_fits cells free stores u n w (Peek mem at) fits f s below =
    let kept : SizedCell = record { width = w; cell = Mem fits.depth fits.memory.at fits.memory.next fits.memory.enable } in
    s mem.0 (get_or u at.0 0) kept (get_from_take cells n mem.0 kept fits.memory.found)

fits_below : (cells : List SizedCell) (free : ℕ → ℕ) (stores : ℕ → List ℕ) (u : List ℕ) → IsFormed cells → IsSettled cells free stores u
    → ((m : ℕ) (x : SizedCell) → slice_get cells m ≡ Some x → free m < 2 ^ x.width)
    → ((m i : ℕ) (x : SizedCell) → slice_get cells m ≡ Some x → get_or (stores m) i 0 < 2 ^ x.width)
    → (k n : ℕ) (x : SizedCell) → n < k → slice_get cells n ≡ Some x → get_or u n 0 < 2 ^ x.width
fits_below cells free stores u formed p f s zero n x b h = absurd (omega arith)
fits_below cells free stores u formed p f s (suc k) n x b h =
    rw (p.each n x h)
    (cell_fits cells free stores u n x.width x.cell (formed.each n x h).cell (f n x h) s
    (λ i y l g. fits_below cells free stores u formed p f s k i y (omega arith) g))

pub words_fit : (cells : List SizedCell) (free : ℕ → ℕ) (stores : ℕ → List ℕ) (u : List ℕ) → IsFormed cells → IsSettled cells free stores u
    → ((m : ℕ) (x : SizedCell) → slice_get cells m ≡ Some x → free m < 2 ^ x.width)
    → ((m i : ℕ) (x : SizedCell) → slice_get cells m ≡ Some x → get_or (stores m) i 0 < 2 ^ x.width)
    → (n : ℕ) (x : SizedCell) → slice_get cells n ≡ Some x → get_or u n 0 < 2 ^ x.width
words_fit cells free stores u formed p f s n x h = fits_below cells free stores u formed p f s (suc n) n x (omega arith) h
