-- The words of gates that were added, by those of their operands.
use Rattle.std.proofs.Common.{ℕ, ◌≡◌, ◌≢◌, ◌+◌, ◌*◌, ◌%◌, ◌^◌, ◌==◌, ◌<◌, ◌≤◌, if◌then◌else◌, Bool, true, false, cond, List, [], ◌∷◌, ◌++◌, length, arith, refl, ap, ◌∙◌, sym, length-append}
use Rattle.std.proofs.Math.Nat.{pow-le-pow_right, mod-eq_of_lt, mul-le-mul_right, add-mul, one-mul}
use Rattle.std.proofs.lemmas.Nat.{pow-add}
use Rattle.ae_word.specs.WordTable.{bit, word_result, HasRange, is_signed, result_width_of}
use Rattle.ae_word.specs.declared.op.WordOp.{WordOp}
use Rattle.ae_word.specs.declared.op.WordOp.TheVariants.{Mux}
use Rattle.ae_netlist.specs.declared.cell.NetId.{NetId}
use Rattle.ae_netlist.specs.declared.cell.Cell.{Cell}
use Rattle.ae_netlist.specs.declared.cell.SizedCell.{SizedCell}
use Rattle.ae_netlist.specs.Circuit.{Circuit, IsNet, IsPlain, IsOperation, OperandsAre, width_of, main_operand}
use Rattle.ae_netlist.specs.Counts.{count_of, is_input, is_memory, is_register}
use Rattle.ae_netlist.specs.Runs.{Clock, IsRun, Carries, InEveryRunFrom}
use Rattle.ae_netlist.proofs.Gets.{get_pushed}
use Rattle.ae_netlist.proofs.Growing.{net_later, net_width, extends_append}
use Rattle.ae_netlist.proofs.Counting.{count_push}
use Rattle.ae_netlist.proofs.Carried.{carries_later}
use Rattle.ae_gates.specs.Cells.{Adds, AddsGates, GrowsByGates, IsConstant, IsResult, IsWord}
use Rattle.ae_gates.proofs.Adding.{count_grows, grows_refl as same_grows, grows_trans as grows_on}
use Rattle.ae_gates.proofs.Added.{back as carried_back, grows_length}
use Rattle.ae_gates.proofs.Fits.{held_fits}

-- a cell that is of no kind is not counted
uncounted_push : (kind : Cell → Bool) (cells : List SizedCell) (c : SizedCell) → kind c.cell ≡ false → count_of kind (cells ++ c ∷ []) ≡ count_of kind cells
uncounted_push kind cells c h =
    count_push (λ (x : SizedCell). kind x.cell) cells c ∙ (ap (λ b. count_of kind cells + cond b 1 0) h ∙ omega arith)

pub grows_refl : (a : Circuit) → GrowsByGates a a
grows_refl a = record { grows = same_grows a; registers = refl; memories = refl }

pub grows_trans : {a b c : Circuit} → GrowsByGates a b → GrowsByGates b c → GrowsByGates a c
grows_trans p q = record { grows = grows_on p.grows q.grows; registers = q.registers ∙ p.registers; memories = q.memories ∙ p.memories }

pub net_grows : {a b : Circuit} {n w : ℕ} → GrowsByGates a b → IsNet a.cells n w → IsNet b.cells n w
net_grows g h = net_later g.grows.extends h

-- what was added has no register and no memory
pub gates_added : {a b : Circuit} {most products : ℕ} → Adds a b most products → count_of is_register b.cells ≤ count_of is_register a.cells
    → AddsGates a b most
gates_added {a} {b} p few =
    let more = count_grows is_register a.cells b.cells p.grows.extends in
    record {
      grows = record { grows = p.grows; registers = omega (arith, few, more); memories = p.memories };
      more = grows_length p.grows;
      few = p.cells;
    }

-- one cell more
pub adds_push : (old new : Circuit) (c : SizedCell) → is_input c.cell ≡ false → is_register c.cell ≡ false → is_memory c.cell ≡ false
    → new ≡ record old { cells = old.cells ++ c ∷ [] } → AddsGates old new 1
adds_push old new c i r m e = rw e (record {
  grows = record {
    grows = record { extends = extends_append old.cells (c ∷ []); limit = refl; outlets = refl; inputs = uncounted_push is_input old.cells c i };
    registers = uncounted_push is_register old.cells c r;
    memories = uncounted_push is_memory old.cells c m;
  };
  more = omega (arith, length-append old.cells (c ∷ []));
  few = omega (arith, length-append old.cells (c ∷ []));
})

pub adds_sum : {a b c : Circuit} {m n : ℕ} → AddsGates a b m → AddsGates b c n → AddsGates a c (m + n)
adds_sum p q = record {
  grows = grows_trans p.grows q.grows;
  more = omega (arith, p.more, q.more);
  few = omega (arith, p.few, q.few);
}

pub adds_within : {a b : Circuit} {m n : ℕ} → m ≤ n → AddsGates a b m → AddsGates a b n
adds_within l p = record { grows = p.grows; more = p.more; few = omega (arith, l, p.few) }

pub pushed_net : (old new : Circuit) (y : NetId) (w : ℕ) (cell : Cell) → IsPlain cell → y ≡ record { 0 = length old.cells }
    → new ≡ record old { cells = old.cells ++ (record { width = w; cell = cell }) ∷ [] } → IsNet new.cells y.0 w
pushed_net old new y w cell p i e = rw (e, i) (record { sized = record { width = w; cell = cell }; found = get_pushed old.cells _; plain = p; wide = refl })

-- what carries the later cells carries the earlier
pub back : {a b : Circuit} {all : List SizedCell} {from : ℕ} → GrowsByGates a b → Carries from b.cells all → Carries from a.cells all
back g k = carried_back g.grows k

-- a word stays what it is as the netlist grows
pub word_grows : {from n w : ℕ} {a b : Circuit} {f : List Clock → ℕ → ℕ} → GrowsByGates a b → IsWord from a.cells n w f → IsWord from b.cells n w f
word_grows g h = record { found = net_grows g h.found; words = λ all k run is t l. h.words all (back g k) run is t l }

operands_two : (op : WordOp) (P : ℕ → ℕ → Type 0) (a b : NetId) (w : ℕ) → op ≢ Mux → P a.0 w → P b.0 w → OperandsAre op P (a ∷ b ∷ a ∷ []) w
operands_two Mux P a b w ne h g = absurd (ne refl)
operands_two _ P a b w ne h g = (h, g, h)

main_two : (op : WordOp) (a b : NetId) → op ≢ Mux → main_operand op (a ∷ b ∷ a ∷ []) ≡ a.0
main_two Mux a b ne = absurd (ne refl)
main_two _ a b ne = refl

pub two_operation : (cells : List SizedCell) (op : WordOp) (a b : NetId) (w r : ℕ) → is_signed op ≡ false → op ≢ Mux → HasRange op → IsNet cells a.0 w
    → IsNet cells b.0 w → r ≡ result_width_of op w → IsOperation cells op (a ∷ b ∷ a ∷ []) r
two_operation cells op a b w r plain ne range p q e =
    let wide : width_of cells (main_operand op (a ∷ b ∷ a ∷ [])) ≡ w = ap (width_of cells) (main_two op a b ne) ∙ net_width p in
    record { unsigned = plain; range = range; operands = rw wide (operands_two op (IsNet cells) a b w ne p q); result = rw wide e }

-- the word of an operator
pub gate_word : (from : ℕ) (old new : Circuit) (y op_width r : ℕ) (op : WordOp) (a b : NetId) → op ≢ Mux → from ≤ length old.cells
    → GrowsByGates old new → IsNet new.cells y r
    → InEveryRunFrom (length old.cells) new.cells (λ run. IsResult run y op (width_of old.cells (main_operand op (a ∷ b ∷ a ∷ []))) (a ∷ b ∷ a ∷ []))
    → (f g : List Clock → ℕ → ℕ) → IsWord from old.cells a.0 op_width f → IsWord from old.cells b.0 op_width g
    → IsWord from new.cells y r (λ run t. word_result op op_width (f run t) (g run t) (f run t))
gate_word from old new y w r op a b ne low grows net words f g fa gb = record {
  found = net;
  words = λ all k run is t l.
      let wide : width_of old.cells (main_operand op (a ∷ b ∷ a ∷ [])) ≡ w = ap (width_of old.cells) (main_two op a b ne) ∙ net_width fa.found in
      let z = words all (carries_later from (length old.cells) low k) run is t l in
      let p = fa.words all (back grows k) run is t l in
      let q = gb.words all (back grows k) run is t l in
      rw (wide, p, q) at z;
}

pub select_word : (from : ℕ) (old new : Circuit) (y w : ℕ) (c a b : NetId) → from ≤ length old.cells → GrowsByGates old new → IsNet new.cells y w
    → InEveryRunFrom (length old.cells) new.cells (λ run. IsResult run y Mux w (c ∷ a ∷ b ∷ []))
    → (h f g : List Clock → ℕ → ℕ) → IsWord from old.cells c.0 1 h → IsWord from old.cells a.0 w f → IsWord from old.cells b.0 w g
    → IsWord from new.cells y w (λ run t. if h run t == 1 then f run t else g run t)
select_word from old new y w c a b low grows net words h f g hc fa gb = record {
  found = net;
  words = λ all k run is t l.
      let z = words all (carries_later from (length old.cells) low k) run is t l in
      let o = hc.words all (back grows k) run is t l in
      let p = fa.words all (back grows k) run is t l in
      let q = gb.words all (back grows k) run is t l in
      rw (o, p, q) at z;
}

pub fixed_word : (from : ℕ) (old new : List SizedCell) (y w k : ℕ) → from ≤ length old → IsNet new y w
    → InEveryRunFrom (length old) new (λ run. IsConstant run y k) → IsWord from new y w (λ run t. k)
fixed_word from old new y w k low net words = record {
  found = net;
  words = λ all c run is t l. words all (carries_later from (length old) low c) run is t l;
}

-- a value that a net has fits
pub value_fits : (from : ℕ) (cells all : List SizedCell) (run : List Clock) (t n w : ℕ) (f : List Clock → ℕ → ℕ) → IsWord from cells n w f
    → Carries from cells all → IsRun all run → t < length run → f run t < 2 ^ w
value_fits from cells all run t n w f h k is l =
    let e = h.words all k run is t l in
    rw (← e) (held_fits all run t n w is l (k.nets n w h.found))

-- a value by another way to it
pub word_by : {from n w : ℕ} {cells : List SizedCell} (f g : List Clock → ℕ → ℕ)
    → ((all : List SizedCell) → Carries from cells all → (run : List Clock) → IsRun all run → (t : ℕ) → t < length run → f run t ≡ g run t)
    → IsWord from cells n w f → IsWord from cells n w g
word_by f g e h = record { found = h.found; words = λ all k run is t l. h.words all k run is t l ∙ e all k run is t l }

pub same_word : {from n w : ℕ} {cells : List SizedCell} (f g : List Clock → ℕ → ℕ) → ((run : List Clock) (t : ℕ) → f run t ≡ g run t) → IsWord from cells n w f
    → IsWord from cells n w g
same_word f g e h = word_by f g (λ all k run is t l. e run t) h

pub widen_word : (from : ℕ) (old new : Circuit) (x y own w : ℕ) → own ≤ w → GrowsByGates old new → (f : List Clock → ℕ → ℕ) → IsWord from old.cells x own f
    → IsWord from new.cells y w (λ run t. f run t % 2 ^ w) → IsWord from new.cells y w f
widen_word from old new x y own w le grows f p q =
    word_by (λ run t. f run t % 2 ^ w) f
    (λ all k run is t l.
    let small : f run t < 2 ^ own = value_fits from old.cells all run t x own f p (back grows k) is l in
    let more : 2 ^ own ≤ 2 ^ w = pow-le-pow_right (omega arith) le in
    mod-eq_of_lt (omega arith)) q

-- a word of its own width is its own remainder
pub fit_word : (from : ℕ) (cells : List SizedCell) (x w : ℕ) (f : List Clock → ℕ → ℕ) → IsWord from cells x w f
    → IsWord from cells x w (λ run t. f run t % 2 ^ w)
fit_word from cells x w f p = word_by f (λ run t. f run t % 2 ^ w) (λ all k run is t l. sym (mod-eq_of_lt (value_fits from cells all run t x w f p k is l))) p

-- a choice by a bit
pub if_bit : (z : Bool) (f g : ℕ) → (if bit z == 1 then f else g) ≡ (if z then f else g)
if_bit true f g = refl
if_bit false f g = refl

link_small : (a b wa wb w : ℕ) → a < 2 ^ wa → b < 2 ^ wb → wa + wb ≤ w → a * 2 ^ wb + b < 2 ^ w
link_small a b wa wb w ha hb le =
    let p : 2 ^ (wa + wb) ≤ 2 ^ w = pow-le-pow_right (omega arith) le in
    let q : 2 ^ (wa + wb) ≡ 2 ^ wa * 2 ^ wb = pow-add 2 wa wb in
    let r : (a + 1) * 2 ^ wb ≤ 2 ^ wa * 2 ^ wb = mul-le-mul_right (2 ^ wb) (omega arith) in
    let s : (a + 1) * 2 ^ wb ≡ a * 2 ^ wb + 2 ^ wb = add-mul a 1 (2 ^ wb) ∙ ap (λ k. a * 2 ^ wb + k) (one-mul (2 ^ wb)) in
    omega arith

-- two words side by side
pub linked_word : (from : ℕ) (old cells : List SizedCell) (n na nb wa wb w : ℕ) (f g : List Clock → ℕ → ℕ) → wa + wb ≤ w → IsWord from old na wa f
    → IsWord from old nb wb g → ((all : List SizedCell) → Carries from cells all → Carries from old all)
    → IsWord from cells n w (λ run t. ((f run t * 2 ^ wb) % 2 ^ w + g run t) % 2 ^ w) → IsWord from cells n w (λ run t. f run t * 2 ^ wb + g run t)
linked_word from old cells n na nb wa wb w f g le p r carry q =
    word_by (λ run t. ((f run t * 2 ^ wb) % 2 ^ w + g run t) % 2 ^ w) (λ run t. f run t * 2 ^ wb + g run t)
    (λ all k run is t l.
    let x : f run t < 2 ^ wa = value_fits from old all run t na wa f p (carry all k) is l in
    let y : g run t < 2 ^ wb = value_fits from old all run t nb wb g r (carry all k) is l in
    let z = link_small _ _ wa wb w x y le in
    let m : (f run t * 2 ^ wb) % 2 ^ w ≡ f run t * 2 ^ wb = mod-eq_of_lt (omega arith) in
    rw m (mod-eq_of_lt z)) q
