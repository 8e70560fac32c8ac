-- The names of a written module differ.
use Rattle.std.proofs.Common.{ℕ, ◌≡◌, ◌<◌, ◌^◌, ◌==◌, ◌⊎◌, inl, inr, true, false, List, [], ◌∷◌, ◌++◌, Some, slice_get, arith, refl, sym, ap, ◌∙◌, subst}
use Rattle.std.specs.Prelude.{All, codes, decimal, if◌then◌else◌}
use Rattle.std.specs.List.{list_all, AllByRecursion}
use Rattle.std.specs.Char.{is_ascii_digit}
use Rattle.std.proofs.lemmas.Fmt.{decimal_injective}
use Rattle.std.proofs.lemmas.Bool.{cases_Bool, cond-true, cond-false, eqb-true, and_parts, both_ways}
use Rattle.std.proofs.lemmas.Option.{slice_get_within, get_or_from_slice_get}
use Rattle.ae_netlist.specs.declared.cell.Handshake.TheVariants.{SourceValid, SourceReady, SinkValid, SinkReady}
use Rattle.ae_netlist.specs.declared.cell.Port.{Port}
use Rattle.ae_netlist.specs.declared.cell.Port.TheVariants.{Reset, Enable, Stream, In, Out, Plain}
use Rattle.ae_netlist.specs.declared.cell.Cell.{Cell}
use Rattle.ae_netlist.specs.declared.cell.Cell.TheVariants.{Input, Const, Op, Reg, Mem, Peek}
use Rattle.ae_netlist.specs.declared.cell.SizedCell.{SizedCell}
use Rattle.ae_netlist.specs.declared.cell.Outlet.{Outlet}
use Rattle.ae_verilog.specs.NetlistModule.{clock_name, port_name, number_name, cell_name, IsInputPort, IsOutputPort}
use Rattle.ae_verilog.specs.Text.{PortFits, CellPortFits}
use Rattle.ae_verilog.specs.Written.{IsWritableNetlist}
use Rattle.ae_spelled.proofs.Pieces.{decimal_digits}

-- the numbers of a port have at most 64 bits
abbrev HasNumbers : Port → Type 0
HasNumbers Reset = Unit {0}
HasNumbers Enable = Unit {0}
HasNumbers (Stream wire) = Unit {0}
HasNumbers (In param lane word) = (param < 2 ^ 64) × (lane < 2 ^ 64) × (word < 2 ^ 64)
HasNumbers (Out result lane word) = (result < 2 ^ 64) × (lane < 2 ^ 64) × (word < 2 ^ 64)
HasNumbers (Plain k) = k < 2 ^ 64

wider : (k : ℕ) → k < 2 ^ 32 → k < 2 ^ 64
wider k h = omega arith

port_numbers : (p : Port) → PortFits p → HasNumbers p
port_numbers Reset h = tt
port_numbers Enable h = tt
port_numbers (Stream wire) h = tt
port_numbers (In param lane word) h = (wider param h.0, wider lane h.1, wider word h.2)
port_numbers (Out result lane word) h = (wider result h.0, wider lane h.1, wider word h.2)
port_numbers (Plain k) h = wider k h

all_at : {X : Type 0} (P : X → Type 0) (xs : List X) (k : ℕ) (x : X) → All P xs → slice_get xs k ≡ Some x → P x
all_at P xs k x h e = subst P (get_or_from_slice_get xs k x x e) (h k x (slice_get_within xs k x e))

first_byte : List ℕ → ℕ
first_byte [] = 0
first_byte (b ∷ bs) = b

-- no underscore in a list of bytes
abbrev Unbroken : List ℕ → Type 0
Unbroken bs = AllByRecursion (λ (b : ℕ). b ≡ 95 → ⊥) bs

digits_unbroken : (ds : List ℕ) → list_all is_ascii_digit ds ≡ true → Unbroken ds
digits_unbroken [] h = tt
digits_unbroken (d ∷ ds) h =
    let parts = and_parts _ (list_all is_ascii_digit ds) h in
    ((λ e. both_ways _ refl (subst (λ c. is_ascii_digit c ≡ true) e parts.0)), digits_unbroken ds parts.1)

decimal_unbroken : (n : ℕ) → Unbroken (decimal n)
decimal_unbroken n = digits_unbroken (decimal n) (decimal_digits n).all

-- texts with their first underscores at one place
cut_same : (a b x y : List ℕ) → Unbroken a → Unbroken b → a ++ 95 ∷ x ≡ b ++ 95 ∷ y → (a ≡ b) × (x ≡ y)
cut_same [] [] x y p q e = (refl, let t : x ≡ y = cc in t)
cut_same [] (c ∷ b) x y p q e = absurd (q.0 (let h : ◌≡◌ {A = ℕ} 95 c = cc in sym h))
cut_same (c ∷ a) [] x y p q e = absurd (p.0 (let h : ◌≡◌ {A = ℕ} c 95 = cc in h))
cut_same (c ∷ a) (d ∷ b) x y p q e =
    let head : ◌≡◌ {A = ℕ} c d = cc in
    let tail : a ++ 95 ∷ x ≡ b ++ 95 ∷ y = cc in
    let r = cut_same a b x y p.1 q.1 tail in
    (ap (λ k. k ∷ a) head ∙ ap (λ k. d ∷ k) r.0, r.1)

abbrev two : ℕ → ℕ → List ℕ
two lane word = decimal lane ++ (codes "_" ++ decimal word)

two_same : (l w m v : ℕ) → l < 2 ^ 64 → w < 2 ^ 64 → m < 2 ^ 64 → v < 2 ^ 64 → two l w ≡ two m v → (l ≡ m) × (w ≡ v)
two_same l w m v hl hw hm hv e =
    let r = cut_same (decimal l) (decimal m) (decimal w) (decimal v) (decimal_unbroken l) (decimal_unbroken m) e in
    (decimal_injective l m hl hm r.0, decimal_injective w v hw hv r.1)

three_same : (p l w q m v : ℕ) → p < 2 ^ 64 → l < 2 ^ 64 → w < 2 ^ 64 → q < 2 ^ 64 → m < 2 ^ 64 → v < 2 ^ 64 → decimal p ++ (codes "_" ++ two l w) ≡ decimal q
    ++ (codes "_" ++ two m v) → (p ≡ q) × ((l ≡ m) × (w ≡ v))
three_same p l w q m v hp hl hw hq hm hv e =
    let r = cut_same (decimal p) (decimal q) (two l w) (two m v) (decimal_unbroken p) (decimal_unbroken q) e in
    (decimal_injective p q hp hq r.0, two_same l w m v hl hw hm hv r.1)

tail_same : (b : ℕ) (xs ys : List ℕ) → b ∷ xs ≡ b ∷ ys → xs ≡ ys
tail_same b xs ys e = cc

-- inputs that have no numbers, by the first byte of their name
told_input : ℕ → Port
told_input b = if b == 114 then Reset else if b == 101 then Enable else if b == 115 then Stream SourceValid else Stream SinkReady

-- the first byte of a port's name, which is not that of a word's, tells the port
record IsToldByByte (told : ℕ → Port) (word outs : ℕ) (p : Port) : Type 0 where
  is : told (first_byte (port_name outs p)) ≡ p
  other : first_byte (port_name outs p) ≡ word → ⊥

by_byte_same : (told : ℕ → Port) (word outs : ℕ) (p q : Port) → IsToldByByte told word outs p → IsToldByByte told word outs q
    → port_name outs p ≡ port_name outs q → p ≡ q
by_byte_same told word outs p q t u e = sym t.is ∙ ap (λ n. told (first_byte n)) e ∙ u.is

-- how an input is told by its name
data IsInputName (p : Port) : Type 0 where
  by_byte : IsToldByByte told_input 105 1 p → IsInputName p
  by_word : (param lane word : ℕ) → p ≡ In param lane word → IsInputName p

input_is : (p : Port) → IsInputPort p → IsInputName p
unfolding first_byte told_input
input_is Reset h = by_byte (record { is = refl; other = λ e. omega (arith, e) })
input_is Enable h = by_byte (record { is = refl; other = λ e. omega (arith, e) })
input_is (Stream SourceValid) h = by_byte (record { is = refl; other = λ e. omega (arith, e) })
input_is (Stream SinkReady) h = by_byte (record { is = refl; other = λ e. omega (arith, e) })
input_is (In p l w) h = by_word p l w refl
input_is (Stream SourceReady) h = absurd h
input_is (Stream SinkValid) h = absurd h
input_is (Out p l w) h = absurd h
input_is (Plain k) h = absurd h

input_first : (p l w : ℕ) → first_byte (port_name 1 (In p l w)) ≡ 105
unfolding first_byte
input_first p l w = refl

input_words_same : (p l w q m v : ℕ) → HasNumbers (In p l w) → HasNumbers (In q m v) → port_name 1 (In p l w) ≡ port_name 1 (In q m v) → In p l w ≡ In q m v
input_words_same p l w q m v np nq e =
    let r = three_same p l w q m v np.0 np.1 np.2 nq.0 nq.1 nq.2 (tail_same 105 _ _ e) in
    (λ i. In (r.0 i) (r.1.0 i) (r.1.1 i))

input_name_same : (p q : Port) → IsInputPort p → IsInputPort q → HasNumbers p → HasNumbers q → port_name 1 p ≡ port_name 1 q → p ≡ q
input_name_same p q hp hq np nq e = elim (input_is p hp) [
  | by_byte t ↦ elim (input_is q hq) [
    | by_byte u ↦ by_byte_same told_input 105 1 p q t u e
    | by_word c m v y ↦ absurd (t.other (ap first_byte (e ∙ ap (port_name 1) y) ∙ input_first c m v))
  ]
  | by_word d l w x ↦ elim (input_is q hq) [
    | by_byte u ↦ absurd (u.other (ap first_byte (sym e ∙ ap (port_name 1) x) ∙ input_first d l w))
    | by_word c m v y ↦
        x ∙ input_words_same d l w c m v (subst HasNumbers x np) (subst HasNumbers y nq) (sym (ap (port_name 1) x) ∙ e ∙ ap (port_name 1) y) ∙ sym y
  ]
]

output_name_one : (outs p l w : ℕ) → (outs == 1) ≡ true → port_name outs (Out p l w) ≡ 111 ∷ 95 ∷ two l w
output_name_one outs p l w h = cond-true _ _ _ h

output_name_more : (outs p l w : ℕ) → (outs == 1) ≡ false → port_name outs (Out p l w) ≡ 111 ∷ (decimal p ++ (codes "_" ++ two l w))
output_name_more outs p l w h = cond-false _ _ _ h

output_words_same : (outs p l w q m v : ℕ) → p < outs → q < outs → HasNumbers (Out p l w) → HasNumbers (Out q m v)
    → port_name outs (Out p l w) ≡ port_name outs (Out q m v) → Out p l w ≡ Out q m v
output_words_same outs p l w q m v hp hq np nq e = elim (cases_Bool (outs == 1)) [
  | inl one ↦
      let same : 111 ∷ 95 ∷ two l w ≡ 111 ∷ 95 ∷ two m v = sym (output_name_one outs p l w one) ∙ e ∙ output_name_one outs q m v one in
      let r = two_same l w m v np.1 np.2 nq.1 nq.2 (tail_same 95 _ _ (tail_same 111 _ _ same)) in
      let o : outs ≡ 1 = eqb-true outs 1 one in
      let z : p ≡ q = omega arith in
      (λ i. Out (z i) (r.0 i) (r.1 i))
  | inr more ↦
      let same : 111 ∷ (decimal p ++ (codes "_" ++ two l w)) ≡ 111 ∷ (decimal q ++ (codes "_" ++ two m v)) = sym (output_name_more outs p l w more) ∙ e ∙
      output_name_more outs q m v more in
      let r = three_same p l w q m v np.0 np.1 np.2 nq.0 nq.1 nq.2 (tail_same 111 _ _ same) in
      (λ i. Out (r.0 i) (r.1.0 i) (r.1.1 i))
]

output_first : (outs p l w : ℕ) → first_byte (port_name outs (Out p l w)) ≡ 111
unfolding first_byte
output_first outs p l w = elim (cases_Bool (outs == 1)) [
  | inl one ↦ ap first_byte (output_name_one outs p l w one)
  | inr more ↦ ap first_byte (output_name_more outs p l w more)
]

-- outputs that have no numbers
told_output : ℕ → Port
told_output b = if b == 115 then Stream SourceReady else Stream SinkValid

-- how an output is told by its name
data IsOutputName (outs : ℕ) (p : Port) : Type 0 where
  shown_by_byte : IsToldByByte told_output 111 outs p → IsOutputName outs p
  shown_by_word : (result lane word : ℕ) → result < outs → p ≡ Out result lane word → IsOutputName outs p

output_is : (outs : ℕ) (p : Port) → IsOutputPort outs p → IsOutputName outs p
unfolding first_byte told_output
output_is outs (Stream SourceReady) h = shown_by_byte (record { is = refl; other = λ e. omega (arith, e) })
output_is outs (Stream SinkValid) h = shown_by_byte (record { is = refl; other = λ e. omega (arith, e) })
output_is outs (Out p l w) h = shown_by_word p l w h refl
output_is outs Reset h = absurd h
output_is outs Enable h = absurd h
output_is outs (Stream SourceValid) h = absurd h
output_is outs (Stream SinkReady) h = absurd h
output_is outs (In p l w) h = absurd h
output_is outs (Plain k) h = absurd h

output_name_same : (outs : ℕ) (p q : Port) → IsOutputPort outs p → IsOutputPort outs q → HasNumbers p → HasNumbers q → port_name outs p ≡ port_name outs q
    → p ≡ q
output_name_same outs p q hp hq np nq e = elim (output_is outs p hp) [
  | shown_by_byte t ↦ elim (output_is outs q hq) [
    | shown_by_byte u ↦ by_byte_same told_output 111 outs p q t u e
    | shown_by_word c m v low y ↦ absurd (t.other (ap first_byte (e ∙ ap (port_name outs) y) ∙ output_first outs c m v))
  ]
  | shown_by_word d l w low x ↦ elim (output_is outs q hq) [
    | shown_by_byte u ↦ absurd (u.other (ap first_byte (sym e ∙ ap (port_name outs) x) ∙ output_first outs d l w))
    | shown_by_word c m v few y ↦
        x ∙ output_words_same outs d l w c m v low few (subst HasNumbers x np) (subst HasNumbers y nq)
        (sym (ap (port_name outs) x) ∙ e ∙ ap (port_name outs) y) ∙ sym y
  ]
]

-- ---- whose names

-- of a wire of a stream, by what stands behind `s_` and `m_`: 2 where it begins with this byte, and else 1
side_by : ℕ → List ℕ → ℕ
side_by b (u ∷ c ∷ rest) = if c == b then 2 else 1
side_by b _ = 1

-- whose name it is: 0 of the clock, 1 of an input, 2 of an output, and 3 of another net
side : List ℕ → ℕ
side [] = 0
side (b ∷ bs) =
    if b == 99 then 0
    else if b == 111 then 2
    else if b == 110 then 3
    else if b == 108 then 3
    else if b == 115 then side_by 114 bs
    else if b == 109 then side_by 118 bs
    else 1

sides_apart : (m n : ℕ) (a b : List ℕ) → side a ≡ m → side b ≡ n → (m ≡ n → ⊥) → a ≡ b → ⊥
sides_apart m n a b h k differ e = differ (sym h ∙ ap side e ∙ k)

clock_side : side clock_name ≡ 0
unfolding side
clock_side = refl

input_side : (p : Port) → IsInputPort p → side (port_name 1 p) ≡ 1
unfolding side side_by
input_side Reset h = refl
input_side Enable h = refl
input_side (Stream SourceValid) h = refl
input_side (Stream SourceReady) h = absurd h
input_side (Stream SinkValid) h = absurd h
input_side (Stream SinkReady) h = refl
input_side (In p l w) h = refl
input_side (Out p l w) h = absurd h
input_side (Plain k) h = absurd h

word_side : (outs p l w : ℕ) → side (port_name outs (Out p l w)) ≡ 2
unfolding side
word_side outs p l w = elim (cases_Bool (outs == 1)) [
  | inl one ↦ ap side (output_name_one outs p l w one)
  | inr more ↦ ap side (output_name_more outs p l w more)
]

output_side : (outs : ℕ) (p : Port) → IsOutputPort outs p → side (port_name outs p) ≡ 2
unfolding side side_by
output_side outs Reset h = absurd h
output_side outs Enable h = absurd h
output_side outs (Stream SourceValid) h = absurd h
output_side outs (Stream SourceReady) h = refl
output_side outs (Stream SinkValid) h = refl
output_side outs (Stream SinkReady) h = absurd h
output_side outs (In p l w) h = absurd h
output_side outs (Out p l w) h = word_side outs p l w
output_side outs (Plain k) h = absurd h

without_line : (lines : ℕ → ℕ) → (k : ℕ) → (lines k == 0) ≡ true → number_name lines k ≡ 110 ∷ decimal k
unfolding number_name
without_line lines k h = cond-true _ _ _ h

with_line : (lines : ℕ → ℕ) → (k : ℕ) → (lines k == 0) ≡ false → number_name lines k ≡ 108 ∷ (decimal (lines k) ++ 95 ∷ 110 ∷ decimal k)
unfolding number_name
with_line lines k h = cond-false _ _ _ h

number_side : (lines : ℕ → ℕ) → (k : ℕ) → side (number_name lines k) ≡ 3
unfolding side
number_side lines k = elim (cases_Bool (lines k == 0)) [
  | inl none ↦ ap side (without_line lines k none)
  | inr some ↦ ap side (with_line lines k some)
]

mixed : (a b : List ℕ) → 110 ∷ a ≡ 108 ∷ b → ⊥
unfolding first_byte
mixed a b e = let h : ◌≡◌ {A = ℕ} 110 108 = ap first_byte e in omega (arith, h)

pub number_same : (lines : ℕ → ℕ) → (j k : ℕ) → j < 2 ^ 64 → k < 2 ^ 64 → number_name lines j ≡ number_name lines k → j ≡ k
number_same lines j k hj hk e = elim (cases_Bool (lines j == 0)) [
  | inl a ↦ elim (cases_Bool (lines k == 0)) [
    | inl b ↦ decimal_injective j k hj hk (tail_same 110 _ _ (sym (without_line lines j a) ∙ e ∙ without_line lines k b))
    | inr b ↦ absurd (mixed _ _ (sym (without_line lines j a) ∙ e ∙ with_line lines k b))
  ]
  | inr a ↦ elim (cases_Bool (lines k == 0)) [
    | inl b ↦ absurd (mixed _ _ (sym (without_line lines k b) ∙ sym e ∙ with_line lines j a))
    | inr b ↦
        let behind = tail_same 108 _ _ (sym (with_line lines j a) ∙ e ∙ with_line lines k b) in
        let parts = cut_same (decimal (lines j)) (decimal (lines k)) (110 ∷ decimal j) (110 ∷ decimal k) (decimal_unbroken (lines j))
        (decimal_unbroken (lines k)) behind in
        decimal_injective j k hj hk (tail_same 110 _ _ parts.1)
  ]
]

-- a cell's name is that of an input, or its number
cell_side : (lines : ℕ → ℕ) → (k : ℕ) (c : Cell) → ((port : Port) → c ≡ Input port → IsInputPort port) → (side (cell_name lines k c) ≡ 1)
    ⊎ (side (cell_name lines k c) ≡ 3)
cell_side lines k (Input port) h = inl (input_side port (h port refl))
cell_side lines k (Const v) h = inr (number_side lines k)
cell_side lines k (Op op args) h = inr (number_side lines k)
cell_side lines k (Reg next) h = inr (number_side lines k)
cell_side lines k (Mem depth at next enable) h = inr (number_side lines k)
cell_side lines k (Peek mem at) h = inr (number_side lines k)

-- the cell is an input, or it has the name of its number
pub data IsNamed (lines : ℕ → ℕ) (k : ℕ) (c : Cell) : Type 0 where
  by_port : (port : Port) → c ≡ Input port → IsNamed lines k c
  by_number : cell_name lines k c ≡ number_name lines k → IsNamed lines k c

pub named_by : (lines : ℕ → ℕ) → (k : ℕ) (c : Cell) → IsNamed lines k c
named_by lines k (Input port) = by_port port refl
named_by lines k (Const v) = by_number refl
named_by lines k (Op op args) = by_number refl
named_by lines k (Reg next) = by_number refl
named_by lines k (Mem depth at next enable) = by_number refl
named_by lines k (Peek mem at) = by_number refl

module _ (lines : ℕ → ℕ) (cells : List SizedCell) (outlets : List Outlet) (outs : ℕ) (ok : IsWritableNetlist cells outlets outs) where
  input_numbers : (n width : ℕ) (port : Port) → slice_get cells n ≡ Some (record { width = width; cell = Input port }) → HasNumbers port
  input_numbers n width port h = port_numbers port (all_at (λ (sized : SizedCell). CellPortFits sized.cell) cells n _ ok.inputs h)

  output_numbers : (k : ℕ) (o : Outlet) → slice_get outlets k ≡ Some o → HasNumbers o.port
  output_numbers k o h = port_numbers o.port (all_at (λ (outlet : Outlet). PortFits outlet.port) outlets k o ok.outputs h)

  input_at : (k : ℕ) (sized : SizedCell) (port : Port) → slice_get cells k ≡ Some sized → sized.cell ≡ Input port
      → slice_get cells k ≡ Some (record { width = sized.width; cell = Input port })
  input_at k sized port h e = h ∙ ap Some (ap (λ c. let s : SizedCell = record { width = sized.width; cell = c } in s) e)

  is_port : (k : ℕ) (sized : SizedCell) → slice_get cells k ≡ Some sized → (port : Port) → sized.cell ≡ Input port → IsInputPort port
  is_port k sized h port e = ok.ports.inputs k sized.width port (input_at k sized port h e)

  other_side : (k : ℕ) (sized : SizedCell) (n : List ℕ) (x : ℕ) → slice_get cells k ≡ Some sized → side n ≡ x → (1 ≡ x → ⊥) → (3 ≡ x → ⊥)
      → cell_name lines k sized.cell ≡ n → ⊥
  other_side k sized n x h s input number e = elim (cell_side lines k sized.cell (is_port k sized h)) [
    | inl p ↦ sides_apart 1 x _ n p s input e
    | inr p ↦ sides_apart 3 x _ n p s number e
  ]

  port_not_number : (k : ℕ) (sized : SizedCell) (port : Port) → slice_get cells k ≡ Some sized → sized.cell ≡ Input port → (j : ℕ)
      → cell_name lines k sized.cell ≡ number_name lines j → ⊥
  port_not_number k sized port h x j e =
      sides_apart 1 3 _ (number_name lines j) (input_side port (is_port k sized h port x)) (number_side lines j) (λ z. omega (arith, z))
      (ap (cell_name lines k) (sym x) ∙ e)

  -- a cell's name is not the clock's, and no output's
  pub cell_not_clock : (k : ℕ) (sized : SizedCell) → slice_get cells k ≡ Some sized → cell_name lines k sized.cell ≡ clock_name → ⊥
  cell_not_clock k sized h e = other_side k sized clock_name 0 h clock_side (λ z. omega (arith, z)) (λ z. omega (arith, z)) e

  pub cell_not_output : (k : ℕ) (sized : SizedCell) (j : ℕ) (o : Outlet) → slice_get cells k ≡ Some sized → slice_get outlets j ≡ Some o
      → cell_name lines k sized.cell ≡ port_name outs o.port → ⊥
  cell_not_output k sized j o h g e =
      other_side k sized (port_name outs o.port) 2 h (output_side outs o.port (ok.ports.outputs j o g)) (λ z. omega (arith, z)) (λ z. omega (arith, z)) e

  pub clock_not_output : (j : ℕ) (o : Outlet) → slice_get outlets j ≡ Some o → clock_name ≡ port_name outs o.port → ⊥
  clock_not_output j o g e = sides_apart 0 2 _ (port_name outs o.port) clock_side (output_side outs o.port (ok.ports.outputs j o g)) (λ z. omega (arith, z)) e

  pub output_once : (j k : ℕ) (a b : Outlet) → slice_get outlets j ≡ Some a → slice_get outlets k ≡ Some b → port_name outs a.port ≡ port_name outs b.port
      → j ≡ k
  output_once j k a b ha hb e =
      ok.ports.outputs_differ j k a b ha hb (output_name_same outs a.port b.port (ok.ports.outputs j a ha) (ok.ports.outputs k b hb) (output_numbers j a ha)
      (output_numbers k b hb) e)

  pub number_fits : (k : ℕ) (sized : SizedCell) → slice_get cells k ≡ Some sized → k < 2 ^ 64
  number_fits k sized h = let w = slice_get_within cells k sized h in let f = ok.few in omega arith

  pub cell_once : (j k : ℕ) (a b : SizedCell) → slice_get cells j ≡ Some a → slice_get cells k ≡ Some b → cell_name lines j a.cell ≡ cell_name lines k b.cell
      → j ≡ k
  cell_once j k a b ha hb e = elim (named_by lines j a.cell) [
    | by_port p x ↦ elim (named_by lines k b.cell) [
      | by_port q y ↦
          let here = input_at j a p ha x in
          let there = input_at k b q hb y in
          let names : port_name 1 p ≡ port_name 1 q = ap (cell_name lines j) (sym x) ∙ e ∙ ap (cell_name lines k) y in
          let same : p ≡ q = input_name_same p q (ok.ports.inputs j a.width p here) (ok.ports.inputs k b.width q there) (input_numbers j a.width p here)
          (input_numbers k b.width q there) names in
          ok.ports.inputs_differ j k a.width b.width q (subst (λ r. slice_get cells j ≡ Some (record { width = a.width; cell = Input r })) same here) there
      | by_number y ↦ absurd (port_not_number j a p ha x k (e ∙ y))
    ]
    | by_number x ↦ elim (named_by lines k b.cell) [
      | by_port q y ↦ absurd (port_not_number k b q hb y j (sym e ∙ x))
      | by_number y ↦ number_same lines j k (number_fits j a ha) (number_fits k b hb) (sym x ∙ e ∙ y)
    ]
  ]
