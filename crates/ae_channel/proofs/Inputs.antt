-- Where the inputs of a netlist stand among all its inputs.
use Rattle.std.proofs.Common.{ℕ, zero, suc, ◌≡◌, ◌+◌, Bool, true, false, cond, List, [], ◌∷◌, ◌++◌, length, map, drop, Some, slice_get, arith, refl, ap, sym, ◌∙◌}
use Rattle.std.proofs.lemmas.List.{append-nil, take-append-drop}
use Rattle.std.proofs.lemmas.List.Elements.{filter-append}
use Rattle.std.proofs.lemmas.Option.{none-some, same_Some}
use Rattle.ae_netlist.specs.declared.cell.SizedCell.{SizedCell}
use Rattle.ae_netlist.specs.Counts.{cells_of, is_input}
use Rattle.ae_ports.specs.Ports.{SizedPort, input_cell}
use Rattle.ae_correct.proofs.Nets.{HaveInputs, NoInputs, no_more}

-- ---- the list of all inputs of a netlist that has these

abbrev input_test : SizedCell → Bool
input_test c = is_input c.cell

kept : (ports : List SizedPort) → cells_of is_input (map input_cell ports) ≡ map input_cell ports
kept [] = refl
kept (p ∷ ports) = ap (λ (cells : List SizedCell). input_cell p ∷ cells) (kept ports)

none_kept : (cells : List SizedCell) → NoInputs cells → cells_of is_input cells ≡ []
none_kept [] h = refl
none_kept (c ∷ cells) h = ap (λ b. cond b (c ∷ cells_of is_input cells) (cells_of is_input cells)) h.0 ∙ none_kept cells h.1

pub all_inputs : (cells : List SizedCell) (ports : List SizedPort) → HaveInputs cells ports → cells_of is_input cells ≡ map input_cell ports
all_inputs cells ports h =
    let rest : List SizedCell = drop (length ports) cells in
    let whole : map input_cell ports ++ rest ≡ cells = ap (λ cs. cs ++ rest) (sym h.first) ∙ take-append-drop (length ports) cells in
    ap (cells_of is_input) (sym whole)
    ∙ (filter-append input_test (map input_cell ports) rest
    ∙ (ap (λ cs. cs ++ cells_of is_input rest) (kept ports)
    ∙ (ap (λ cs. map input_cell ports ++ cs) (none_kept rest (no_more cells ports h.first h.count)) ∙ append-nil (map input_cell ports))))

-- ---- the place of an input in this list

abbrev pub place : List SizedCell → ℕ → ℕ
place [] n = 0
place (x ∷ cells) zero = 0
place (x ∷ cells) (suc n) = cond (is_input x.cell) 1 0 + place cells n

behind : (b : Bool) (x y : SizedCell) (cells : List SizedCell) (k : ℕ) → slice_get cells k ≡ Some y
    → slice_get (cond b (x ∷ cells) cells) (cond b 1 0 + k) ≡ Some y
behind true x y cells k h = (let e : 1 + k ≡ suc k = omega arith in ap (slice_get (x ∷ cells)) e ∙ h)
behind false x y cells k h = (let e : 0 + k ≡ k = omega arith in ap (slice_get cells) e ∙ h)

pub placed : (cells : List SizedCell) (n : ℕ) (x : SizedCell) → slice_get cells n ≡ Some x → is_input x.cell ≡ true
    → slice_get (cells_of is_input cells) (place cells n) ≡ Some x
placed [] n x e i = absurd (none-some x e)
placed (y ∷ cells) zero x e i =
    let same : y ≡ x = same_Some y x e in
    ap (λ b. slice_get (cond b (y ∷ cells_of is_input cells) (cells_of is_input cells)) 0) (ap input_test same ∙ i) ∙ ap (λ (z : SizedCell). Some z) same
placed (y ∷ cells) (suc n) x e i = behind (is_input y.cell) y x (cells_of is_input cells) (place cells n) (placed cells n x e i)

first_alone : (b : Bool) (k : ℕ) → b ≡ true → 0 ≡ cond b 1 0 + k → ⊥
first_alone true k i e = omega (arith, e)
first_alone false k i e = cc

-- no two inputs have one place
pub one_place : (cells : List SizedCell) (m n : ℕ) (x y : SizedCell) → slice_get cells m ≡ Some x → slice_get cells n ≡ Some y → is_input x.cell ≡ true
    → is_input y.cell ≡ true → place cells m ≡ place cells n → m ≡ n
one_place [] m n x y e f i j same = absurd (none-some x e)
one_place (z ∷ cells) zero zero x y e f i j same = refl
one_place (z ∷ cells) zero (suc n) x y e f i j same = absurd (first_alone (is_input z.cell) (place cells n) (ap input_test (same_Some z x e) ∙ i) same)
one_place (z ∷ cells) (suc m) zero x y e f i j same = absurd (first_alone (is_input z.cell) (place cells m) (ap input_test (same_Some z y f) ∙ j) (sym same))
one_place (z ∷ cells) (suc m) (suc n) x y e f i j same = ap suc (one_place cells m n x y e f i j (omega (arith, same)))
