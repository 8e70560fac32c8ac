-- Inputs and products of a copy that grows or whose registers are connected.
use Rattle.std.proofs.Common.{ℕ, zero, suc, ◌≡◌, ◌+◌, ◌<◌, ◌≤◌, List, [], ◌∷◌, ◌++◌, length, length-append, length-take, length-set, take, set, Some, slice_get, Bool, true, false, cond, inl, inr, arith, refl, ap, sym, ◌∙◌}
use Rattle.std.specs.List.{count_by, filter}
use Rattle.std.proofs.lemmas.List.{take_more, take-append-le}
use Rattle.std.proofs.lemmas.List.Sums.{count_by-le-length, sum_by-cons}
use Rattle.std.proofs.lemmas.List.Elements.{filter-append}
use Rattle.std.proofs.lemmas.Bool.{cases_lt}
use Rattle.std.proofs.lemmas.Option.{slice_get_within, get_or_from_slice_get}
use Rattle.std.proofs.Math.Seq.{take-length}
use Rattle.ae_netlist.specs.declared.cell.Cell.{Cell}
use Rattle.ae_netlist.specs.declared.cell.SizedCell.{SizedCell}
use Rattle.ae_netlist.specs.Counts.{cells_of, count_of, number_of, is_input, is_mul}
use Rattle.ae_netlist.proofs.Counting.{count_push, count_replaced}
use Rattle.ae_netlist.proofs.Gets.{get_in_take}
use Rattle.ae_tidy.specs.Copies.{HasShape}

pub take_found : {X : Type 0} (xs : List X) (i : ℕ) (x : X) → slice_get xs i ≡ Some x → take (i + 1) xs ≡ take i xs ++ x ∷ []
take_found {X = X} xs i x h =
    take_more xs i x (slice_get_within xs i x h) ∙ ap (λ (y : X). take i xs ++ y ∷ []) (get_or_from_slice_get xs i x x h)

pub count_found : (kind : Cell → Bool) (cells : List SizedCell) (i : ℕ) (sized : SizedCell) → slice_get cells i ≡ Some sized
    → count_of kind (take (i + 1) cells) ≡ count_of kind (take i cells) + cond (kind sized.cell) 1 0
count_found kind cells i sized h = ap (count_of kind) (take_found cells i sized h) ∙ count_push (λ (x : SizedCell). kind x.cell) (take i cells) sized

filter_other : {X : Type 0} (p : X → Bool) (xs : List X) (y : X) → p y ≡ false → filter p (xs ++ y ∷ []) ≡ filter p xs
filter_other p xs y e = filter-append p xs (y ∷ []) ∙ (rw e (append_nil (filter p xs)))
  where
    append_nil : {X : Type 0} (xs : List X) → xs ++ [] ≡ xs
    append_nil [] = refl
    append_nil (x ∷ xs) = ap (λ l. x ∷ l) (append_nil xs)

-- what passes is the same where one that does not pass takes the place of another
filter_replaced : {X : Type 0} (p : X → Bool) (xs : List X) (i : ℕ) (x y : X) → slice_get xs i ≡ Some x → p x ≡ false → p y ≡ false
    → filter p (set xs i y) ≡ filter p xs
filter_replaced p [] i x y h e f = refl
filter_replaced p (z ∷ xs) zero x y h e f =
    let is : z ≡ x = cc in
    let g : p z ≡ false = ap p is ∙ e in
    rw (g, f) refl
filter_replaced {X = X} p (z ∷ xs) (suc i) x y h e f = ap (λ (l : List X). cond (p z) (z ∷ l) l) (filter_replaced p xs i x y h e f)

number_few : (cells : List SizedCell) (i : ℕ) → number_of is_input cells i ≤ i
number_few cells i =
    let c : count_of is_input (take i cells) ≤ length (take i cells) = count_by-le-length (λ (x : SizedCell). is_input x.cell) (take i cells) in
    omega (arith, length-take i cells, c)

-- a cell that is neither is passed over
pub shape_skip : (old new : List SizedCell) (i : ℕ) (sized : SizedCell) → slice_get old i ≡ Some sized → is_input sized.cell ≡ false
    → is_mul sized.cell ≡ false → HasShape old new i → HasShape old new (i + 1)
shape_skip old new i sized h no_input no_mul s = record {
  few = omega (arith, s.few);
  inputs = s.inputs ∙ (sym (filter_other (λ (x : SizedCell). is_input x.cell) (take i old) sized no_input) ∙
      ap (cells_of is_input) (sym (take_found old i sized h)));
  first = λ k l e. elim (cases_lt i k) [
    | inr le ↦ s.first k le e
    | inl g ↦
        let is : k ≡ i + 1 = omega arith in
        let c : number_of is_input old (i + 1) ≡ number_of is_input old i + cond (is_input sized.cell) 1 0 = count_found is_input old i sized h in
        let z : cond {A = ℕ} (is_input sized.cell) 1 0 ≡ 0 = ap (λ b. cond {A = ℕ} b 1 0) no_input in
        let few : number_of is_input old i ≤ i = number_few old i in
        let e2 : number_of is_input old (i + 1) ≡ i + 1 = rw is at e in
        absurd (omega arith)
  ];
  muls = s.muls ∙ sym (count_found is_mul old i sized h ∙ (ap (λ b. count_of is_mul (take i old) + cond b 1 0) no_mul ∙ omega arith));
}

cond_same : (b c : Bool) (x y : SizedCell) → b ≡ c → (c ≡ true → x ≡ y) → cond b (x ∷ []) [] ≡ cond c (y ∷ []) []
cond_same b true x y e f = rw (e, f refl) refl
cond_same b false x y e f = rw e refl

-- as many cells as two lists have in common are there
reaches : (old new : List SizedCell) (k : ℕ) → take k new ≡ take k old → k ≤ length old → k ≤ length new
reaches old new k e l =
    let a : length (take k new) ≡ length (take k old) = ap length e in
    omega (arith, length-take k new, length-take k old)

one_more : (b : Bool) (n i : ℕ) → n + cond b 1 0 ≡ i + 1 → n ≤ i → b ≡ true
one_more true n i e l = refl
one_more false n i e l = absurd (omega arith)

take_whole : (xs : List SizedCell) (k : ℕ) → length xs ≡ k → take k xs ≡ xs
take_whole xs k e = rw (← e) (take-length xs)

take_set : (xs : List SizedCell) (k r : ℕ) (y : SizedCell) → k ≤ r → take k (set xs r y) ≡ take k xs
take_set xs zero r y l = refl
take_set [] (suc k) r y l = refl
take_set (x ∷ xs) (suc k) zero y l = absurd (omega arith)
take_set (x ∷ xs) (suc k) (suc r) y l = ap (λ t. x ∷ t) (take_set xs k r y (omega arith))

count_set : {X : Type 0} (p : X → Bool) (xs : List X) (r : ℕ) (x y : X) → slice_get xs r ≡ Some x → p y ≡ p x → count_by p (set xs r y) ≡ count_by p xs
count_set p xs r x y h e =
    ap (count_by p) (sym (ap (λ i. take i (set xs r y)) (sym (length-set xs r y)) ∙ take-length (set xs r y)))
    ∙ (count_replaced p xs r (length xs) x y h e ∙ ap (count_by p) (take-length xs))

at_most : (b : Bool) → cond {A = ℕ} b 1 0 ≤ 1
at_most true = omega arith
at_most false = omega arith

missing : {X : Type 0} (p : X → Bool) (xs : List X) (r : ℕ) (x : X) → slice_get xs r ≡ Some x → p x ≡ false → count_by p xs < length xs
missing p [] r x h e = cc
missing p (z ∷ xs) zero x h e =
    let is : z ≡ x = cc in
    let g : p z ≡ false = ap p is ∙ e in
    let c : count_by p (z ∷ xs) ≡ cond {A = ℕ} (p z) 1 0 + count_by p xs = sum_by-cons (λ y. cond (p y) 1 0) z xs in
    let k : cond {A = ℕ} (p z) 1 0 ≡ 0 = ap (λ b. cond {A = ℕ} b 1 0) g in
    omega (arith, count_by-le-length p xs)
missing p (z ∷ xs) (suc r) x h e =
    let c : count_by p (z ∷ xs) ≡ cond {A = ℕ} (p z) 1 0 + count_by p xs = sum_by-cons (λ y. cond (p y) 1 0) z xs in
    let k : cond {A = ℕ} (p z) 1 0 ≤ 1 = at_most (p z) in
    omega (arith, missing p xs r x h e)

-- among first cells that are all inputs there is no other
none_first : (old new : List SizedCell) (k r : ℕ) (before : SizedCell) → slice_get new r ≡ Some before → is_input before.cell ≡ false
    → number_of is_input old k ≡ k → take k new ≡ take k old → r < k → ⊥
none_first old new k r before h other e same l =
    let there : slice_get (take k old) r ≡ Some before = ap (λ t. slice_get t r) (sym same) ∙ get_in_take new k r before l h in
    let few : count_of is_input (take k old) < length (take k old) = missing (λ (x : SizedCell). is_input x.cell) (take k old) r before there other in
    omega (arith, length-take k old)

-- a cell of the same kind is added, an input unchanged
pub shape_add : (old new : List SizedCell) (i : ℕ) (sized image : SizedCell) → slice_get old i ≡ Some sized → is_input image.cell ≡ is_input sized.cell
    → (is_input sized.cell ≡ true → image ≡ sized)
    → is_mul image.cell ≡ is_mul sized.cell → HasShape old new i → HasShape old (new ++ image ∷ []) (i + 1)
shape_add old new i sized image h same_input input same_mul s =
    let there : i < length old = slice_get_within old i sized h in
    record {
      few = omega (arith, s.few, length-append new (image ∷ []));
      inputs =
          filter-append (λ (x : SizedCell). is_input x.cell) new (image ∷ [])
          ∙ (rw (s.inputs, cond_same (is_input image.cell) (is_input sized.cell) image sized same_input input)
          (sym (filter-append (λ (x : SizedCell). is_input x.cell) (take i old) (sized ∷ [])))
          ∙ ap (cells_of is_input) (sym (take_found old i sized h)));
      first = λ k l e. elim (cases_lt i k) [
        | inr le ↦ take-append-le k new (image ∷ []) (reaches old new k (s.first k le e) (omega arith)) ∙ s.first k le e
        | inl g ↦
            let is : k ≡ i + 1 = omega arith in
            let c : number_of is_input old (i + 1) ≡ number_of is_input old i + cond (is_input sized.cell) 1 0 = count_found is_input old i sized h in
            let few : number_of is_input old i ≤ i = number_few old i in
            let e2 : number_of is_input old (i + 1) ≡ i + 1 = rw is at e in
            let last : is_input sized.cell ≡ true = one_more (is_input sized.cell) (number_of is_input old i) i (sym c ∙ e2) few in
            let all : number_of is_input old i ≡ i = (let z : cond {A = ℕ} (is_input sized.cell) 1 0 ≡ 1 = ap (λ b. cond {A = ℕ} b 1 0) last in omega arith) in
            let same : take i new ≡ take i old = s.first i (omega arith) all in
            let much : i ≤ length new = reaches old new i same (omega arith) in
            let long : length new ≡ i = omega (arith, s.few) in
            let whole : take i new ≡ new = (rw (← long) (take-length new)) in
            let last_same : image ≡ sized = input last in
            let front : new ≡ take i old = sym whole ∙ same in
            rw (is, last_same) (take_whole (new ++ sized ∷ []) (i + 1) (omega (arith, length-append new (sized ∷ []))) ∙
            (ap (λ l. l ++ sized ∷ []) front ∙ sym (take_found old i sized h)))
      ];
      muls =
          count_push (λ (x : SizedCell). is_mul x.cell) new image
          ∙ (rw (s.muls, same_mul) (sym (count_found is_mul old i sized h)));
    }

-- and a register, say, is connected
pub shape_set : (old new : List SizedCell) (i r : ℕ) (before after : SizedCell) → slice_get new r ≡ Some before → is_input before.cell ≡ false
    → is_input after.cell ≡ false → is_mul before.cell ≡ false → is_mul after.cell ≡ false
    → HasShape old new i → HasShape old (set new r after) i
shape_set old new i r before after h a b c d s = record {
  few = omega (arith, s.few, length-set new r after);
  inputs = filter_replaced (λ (x : SizedCell). is_input x.cell) new r before after h a b ∙ s.inputs;
  first = λ k l e. elim (cases_lt r k) [
    | inr le ↦ take_set new k r after le ∙ s.first k l e
    | inl g ↦ absurd (none_first old new k r before h a e (s.first k l e) g)
  ];
  muls = count_set (λ (x : SizedCell). is_mul x.cell) new r before after h (d ∙ sym c) ∙ s.muls;
}

-- no more cells are counted than there are
pub whole_count : (cells : List SizedCell) (k : ℕ) → number_of is_input cells k ≡ k → k ≤ length cells
whole_count cells k e =
    let few : count_of is_input (take k cells) ≤ length (take k cells) = count_by-le-length (λ (x : SizedCell). is_input x.cell) (take k cells) in
    omega (arith, length-take k cells)
