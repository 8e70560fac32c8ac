-- Cells that are added one behind the other, and registers that are connected one after another.
use Rattle.std.proofs.Common.{ℕ, zero, suc, ◌≡◌, ◌+◌, ◌-◌, ◌*◌, ◌<◌, ◌≤◌, ◌⊎◌, inl, inr, Bool, false, List, [], ◌∷◌, ◌++◌, length, length-append, length-set, map, take, set, cond, None, Some, slice_get, get_or, arith, refl, sym, ap, ◌∙◌, subst}
use Rattle.std.proofs.lemmas.Bool.{cases_eq, cases_lt}
use Rattle.std.proofs.lemmas.List.Sums.{length-filter, sum_by-cons}
use Rattle.std.proofs.lemmas.Option.{none-some, same_Some, slice_get_within}
use Rattle.ae_word.specs.declared.op.WordOp.TheVariants.{Mux}
use Rattle.ae_netlist.specs.declared.cell.NetId.{NetId}
use Rattle.ae_netlist.specs.declared.cell.Cell.{Cell}
use Rattle.ae_netlist.specs.declared.cell.Cell.TheVariants.{Input, Mem, Op, Peek, Reg}
use Rattle.ae_netlist.specs.declared.cell.SizedCell.{SizedCell}
use Rattle.ae_netlist.specs.Circuit.{Circuit, Extends, IsNet, IsOperation, IsRegister, new_register, operand, width_of}
use Rattle.ae_netlist.specs.Counts.{cells_of, count_of, is_input, is_mul}
use Rattle.ae_netlist.proofs.Gets.{get_left, get_pushed, get_set_other, get_set_same}
use Rattle.ae_netlist.proofs.Growing.{net_later, net_width, extends_append, extends_length, extends_refl, extends_trans, keeps_connected}
use Rattle.ae_stall.specs.Copies.{IsLogic}
use Rattle.ae_control.specs.Cells.{AddsControl, AreChoices, AreConnected, CanConnect, HasRegisters, IsControlCell, IsLonger, StandsBefore, choice, taking}

-- ---- lists

pub get_right : {X : Type 0} (xs ys : List X) (n : ℕ) → slice_get (xs ++ ys) (length xs + n) ≡ slice_get ys n
get_right [] ys n = (let e : 0 + n ≡ n = omega arith in ap (slice_get ys) e)
get_right (x ∷ xs) ys n =
    let e : suc (length xs) + n ≡ suc (length xs + n) = omega arith in
    ap (slice_get (x ∷ xs ++ ys)) e ∙ get_right xs ys n

pub get_behind : {X : Type 0} (xs ys : List X) (n k : ℕ) (x : X) → n ≡ length xs + k → slice_get ys k ≡ Some x → slice_get (xs ++ ys) n ≡ Some x
get_behind xs ys n k x e h = ap (slice_get (xs ++ ys)) e ∙ (get_right xs ys k ∙ h)

-- the first of a list, each by a function
pub get_mapped : {X Y : Type 0} (f : X → Y) (xs : List X) (n : ℕ) (x : X) → slice_get xs n ≡ Some x → slice_get (map f xs) n ≡ Some (f x)
get_mapped f [] n x h = cc
get_mapped f (y ∷ xs) zero x h = (let e : y ≡ x = cc in ap (λ v. Some (f v)) e)
get_mapped f (y ∷ xs) (suc n) x h = get_mapped f xs n x h

get_first : {X Y : Type 0} (f : X → Y) (xs : List X) (k n : ℕ) → n < k → k ≤ length xs → (x : X) × (slice_get (map f (take k xs)) n ≡ Some (f x))
get_first f xs zero n l m = absurd (omega arith)
get_first f [] (suc k) n l m = absurd (omega arith)
get_first f (y ∷ xs) (suc k) zero l m = (y, refl)
get_first f (y ∷ xs) (suc k) (suc n) l m = get_first f xs k n (omega arith) (omega arith)

pub next_first : {X Y : Type 0} (f : X → Y) (xs : List X) (k : ℕ) (x : X) → slice_get xs k ≡ Some x → map f (take (k + 1) xs) ≡ map f (take k xs) ++ f x ∷ []
next_first f [] k x h = cc
next_first f (y ∷ xs) zero x h = (let e : y ≡ x = cc in ap (λ v. f v ∷ []) e)
next_first f (y ∷ xs) (suc k) x h =
    let e : suc k + 1 ≡ suc (k + 1) = omega arith in
    ap (λ n. map f (take n (y ∷ xs))) e ∙ ap (λ vs. f y ∷ vs) (next_first f xs k x h)

choice_net : (cells : List SizedCell) (width : ℕ) (gates : List (List NetId)) (k n wide : ℕ) → k ≤ length gates → StandsBefore cells width k n wide
    → IsNet (cells ++ map (choice width) (take k gates)) n wide
choice_net cells width gates k n wide l h = elim h [
  | inl net ↦ net_later (extends_append cells (map (choice width) (take k gates))) net
  | inr made ↦
      let e : length cells + (n - length cells) ≡ n = omega (arith, made.0) in
      let there = get_first (choice width) gates k (n - length cells) (omega (arith, made.0, made.1)) l in
      record {
        sized = choice width there.0;
        found = get_behind cells (map (choice width) (take k gates)) n (n - length cells) (choice width there.0) (sym e) there.1;
        plain = tt;
        wide = made.2;
      }
]

pub choice_allowed : (cells : List SizedCell) (width : ℕ) (gates : List (List NetId)) (k : ℕ) (nets : List NetId) → AreChoices cells width gates
    → slice_get gates k ≡ Some nets
    → IsOperation (cells ++ map (choice width) (take k gates)) Mux nets width
choice_allowed cells width gates k nets h found =
    let now : List SizedCell = cells ++ map (choice width) (take k gates) in
    let within : k < length gates = slice_get_within gates k nets found in
    let c = h.each k nets found in
    let left : IsNet now (operand nets 1) width = choice_net cells width gates k (operand nets 1) width (omega arith) c.left in
    let right : IsNet now (operand nets 2) width = choice_net cells width gates k (operand nets 2) width (omega arith) c.right in
    let condition : IsNet now (operand nets 0) 1 = choice_net cells width gates k (operand nets 0) 1 (omega arith) c.condition in
    let e : width_of now (operand nets 1) ≡ width = net_width left in
    record { unsigned = refl; range = tt; operands = rw e (condition, left, right); result = sym e }

-- ---- longer netlists

pub there : {X : Type 0} (xs : List X) (n : ℕ) → n < length xs → (x : X) × (slice_get xs n ≡ Some x)
there [] n l = absurd (omega arith)
there (x ∷ xs) zero l = (x, refl)
there (x ∷ xs) (suc n) l = there xs n (omega arith)

-- only cells of a control
abbrev pub AreControlCells : List SizedCell → Type 0
AreControlCells [] = Unit {0}
AreControlCells (x ∷ xs) = IsControlCell x.cell × AreControlCells xs

pub choices_plain : (width : ℕ) (gates : List (List NetId)) → AreControlCells (map (choice width) gates)
choices_plain width [] = tt
choices_plain width (x ∷ gates) = (refl, choices_plain width gates)

control_at : (more : List SizedCell) → AreControlCells more → (n : ℕ) (sized : SizedCell) → slice_get more n ≡ Some sized → IsControlCell sized.cell
control_at [] h n sized found = cc
control_at (x ∷ more) h zero sized found = subst (λ (y : SizedCell). IsControlCell y.cell) (same_Some x sized found) h.0
control_at (x ∷ more) h (suc n) sized found = control_at more h.1 n sized found

control_behind : (cells more : List SizedCell) → AreControlCells more → (n : ℕ) (sized : SizedCell) → length cells ≤ n
    → slice_get (cells ++ more) n ≡ Some sized → IsControlCell sized.cell
control_behind [] more h n sized l found = control_at more h n sized found
control_behind (x ∷ cells) more h zero sized l found = absurd (omega (arith, l))
control_behind (x ∷ cells) more h (suc n) sized l found = control_behind cells more h n sized (omega (arith, l)) found

pub longer_refl : (a : Circuit) → IsLonger a a
longer_refl a = record { extends = extends_refl a.cells; added = control_none; limit = refl; outlets = refl }
  where
    control_none : AddsControl a.cells a.cells
    control_none n sized l found = (let m : n < length a.cells = slice_get_within a.cells n sized found in absurd (omega (arith, l, m)))

pub longer_trans : {a b c : Circuit} → IsLonger a b → IsLonger b c → IsLonger a c
longer_trans {a} {b} {c} p q = record { extends = extends_trans p.extends q.extends; added = both; limit = q.limit ∙ p.limit; outlets = q.outlets ∙ p.outlets }
  where
    both : AddsControl a.cells c.cells
    both n sized l found = elim (cases_lt n (length b.cells)) [
      | inl low ↦
          let x = there b.cells n low in
          p.added n sized l (x.1 ∙ (sym (q.extends.keeps n x.0 x.1) ∙ found))
      | inr high ↦ q.added n sized high found
    ]

pub longer_by : (a b : Circuit) (more : List SizedCell) → b ≡ record a { cells = a.cells ++ more } → AreControlCells more → IsLonger a b
longer_by a b more e control =
    rw e (record { extends = extends_append a.cells more; added = control_behind a.cells more control; limit = refl; outlets = refl })

-- a register behind the old cells is connected
pub longer_set : (a b c : Circuit) (r width : ℕ) (next : NetId) → IsLonger a b → IsRegister b.cells r width → length a.cells ≤ r
    → c ≡ record b { cells = set b.cells r (taking width next) } → IsLonger a c
longer_set a b c r width next h reg behind e = rw e (record {
  extends = record {
    keeps = λ n sized found.
        (let l : n < length a.cells = slice_get_within a.cells n sized found in
        get_set_other b.cells r n (taking width next) (λ z. omega (arith, z, l, behind)) ∙ h.extends.keeps n sized found);
  };
  added = λ n sized l found. elim (cases_eq n r) [
    | inl same ↦
        let is : taking width next ≡ sized = same_Some (taking width next) sized
        (sym (get_set_same b.cells r (taking width next) _ reg.found) ∙ (ap (slice_get (set b.cells r (taking width next))) (sym same) ∙ found)) in
        subst (λ (y : SizedCell). IsControlCell y.cell) is tt
    | inr apart ↦ h.added n sized l (sym (get_set_other b.cells r n (taking width next) apart) ∙ found)
  ];
  limit = h.limit;
  outlets = h.outlets;
})

-- ---- registers

pub registers_none : (a : Circuit) → HasRegisters a a 0
registers_none a = record { longer = longer_refl a; long = omega arith; each = λ k l. absurd (omega arith) }

pub registers_more : (a b new : Circuit) (k : ℕ) → HasRegisters a b k → new ≡ record b { cells = b.cells ++ new_register (length b.cells) 1 ∷ [] }
    → HasRegisters a new (k + 1)
registers_more a b new k h e =
    let sized : SizedCell = new_register (length b.cells) 1 in
    let last : slice_get (b.cells ++ sized ∷ []) (length a.cells + k) ≡ Some (new_register (length a.cells + k) 1) =
    ap (slice_get (b.cells ++ sized ∷ [])) (sym h.long) ∙ (get_pushed b.cells sized ∙ ap (λ n. Some (new_register n 1)) h.long) in
    rw e (record {
      longer = longer_trans h.longer (longer_by b _ (sized ∷ []) refl (tt, tt));
      long = omega (arith, length-append b.cells (sized ∷ []), h.long);
      each = λ i l. elim (cases_eq i k) [
        | inl same ↦ ap (λ n. slice_get (b.cells ++ sized ∷ []) (length a.cells + n)) same ∙
            (last ∙ ap (λ n. Some (new_register (length a.cells + n) 1)) (sym same))
        | inr apart ↦ get_left b.cells (sized ∷ []) (length a.cells + i) (new_register (length a.cells + i) 1) (h.each i (omega (arith, apart)))
      ];
    })

-- ---- connected registers

pub connected_none : (a : Circuit) (first next : ℕ) → AreConnected a a first next 0
connected_none a first next =
    record { each = λ k l. absurd (omega arith); others = λ n sized o h. h; nets = λ n w h. h; long = refl; limit = refl; outlets = refl }

-- the next one is still as it was
pub still_register : (a b : Circuit) (first count next k : ℕ) → CanConnect a.cells first count next → AreConnected a b first next k → k < count
    → IsRegister b.cells (first + k) 1
still_register a b first count next k can h l =
    let own = can.registers k l in
    record { next = own.0; found = h.others (first + k) _ (inr (omega arith)) own.1 }

pub connected_more : (a b new : Circuit) (first count next k w : ℕ) → CanConnect a.cells first count next → AreConnected a b first next k → k < count → w ≡ 1
    → new ≡ record b { cells = set b.cells (first + k) (record { width = w; cell = Reg (record { 0 = next + 2 * k }) }) }
    → AreConnected a new first next (k + 1)
connected_more a b new first count next k w can h l is e =
    let reg : IsRegister b.cells (first + k) 1 = still_register a b first count next k can h l in
    let sized : SizedCell = taking 1 (record { 0 = next + 2 * k }) in
    let one : new ≡ record b { cells = set b.cells (first + k) sized } = rw is at e in
    rw one (record {
      each = λ i m. elim (cases_eq i k) [
        | inl same ↦ rw same (get_set_same b.cells (first + k) sized _ reg.found)
        | inr apart ↦ get_set_other b.cells (first + k) (first + i) sized (λ z. omega (arith, z, apart)) ∙ h.each i (omega (arith, apart))
      ];
      others = λ n s o there. get_set_other b.cells (first + k) n sized (λ z. elim o [ inl x ↦ omega arith | inr x ↦ omega arith ])
          ∙ h.others n s (elim o [ inl x ↦ inl x | inr x ↦ inr (omega arith) ]) there;
      nets = λ n v there. (keeps_connected b.cells (first + k) 1 (record { 0 = next + 2 * k }) reg).nets n v (h.nets n v there);
      long = length-set b.cells (first + k) sized ∙ h.long;
      limit = h.limit;
      outlets = h.outlets;
    })

-- registers behind the old cells are connected
pub longer_connected : (a b c : Circuit) (first next count : ℕ) → IsLonger a b → AreConnected b c first next count → length a.cells ≤ first → IsLonger a c
longer_connected a b c first next count h connected behind = record {
  extends = record {
    keeps = λ n sized found.
        (let l : n < length a.cells = slice_get_within a.cells n sized found in
        connected.others n sized (inl (omega (arith, l, behind))) (h.extends.keeps n sized found));
  };
  added = λ n sized l found. elim (cases_lt n first) [
    | inl low ↦ same n sized l found (inl low)
    | inr high ↦ elim (cases_lt n (first + count)) [
      | inl low ↦
          let e : first + (n - first) ≡ n = omega (arith, high) in
          let is : taking 1 (record { 0 = next + 2 * (n - first) }) ≡ sized = same_Some _ sized
          (sym (connected.each (n - first) (omega (arith, high, low))) ∙ (ap (slice_get c.cells) e ∙ found)) in
          subst (λ (y : SizedCell). IsControlCell y.cell) is tt
      | inr far ↦ same n sized l found (inr far)
    ]
  ];
  limit = connected.limit ∙ h.limit;
  outlets = connected.outlets ∙ h.outlets;
}
  where
    same : (n : ℕ) (sized : SizedCell) → length a.cells ≤ n → slice_get c.cells n ≡ Some sized → (n < first) ⊎ (first + count ≤ n) → IsControlCell sized.cell
    same n sized l found o =
        let m : n < length c.cells = slice_get_within c.cells n sized found in
        let x = there b.cells n (omega (arith, m, connected.long)) in
        h.added n sized l (x.1 ∙ (sym (connected.others n x.0 o x.1) ∙ found))

-- ---- cells of a kind

abbrev kind_test : (Cell → Bool) → SizedCell → Bool
kind_test kind sized = kind sized.cell

none_of : (kind : Cell → Bool) (cells : List SizedCell) → ((n : ℕ) (sized : SizedCell) → slice_get cells n ≡ Some sized → kind sized.cell ≡ false)
    → cells_of kind cells ≡ []
none_of kind [] h = refl
none_of kind (x ∷ cells) h =
    ap (λ b. cond b (x ∷ cells_of kind cells) (cells_of kind cells)) (h 0 x refl) ∙ none_of kind cells (λ n sized found. h (suc n) sized found)

-- what is behind the old cells is none of a kind
pub same_kind : (kind : Cell → Bool) (old new : List SizedCell) → Extends old new
    → ((n : ℕ) (sized : SizedCell) → length old ≤ n → slice_get new n ≡ Some sized → kind sized.cell ≡ false) → cells_of kind new ≡ cells_of kind old
same_kind kind [] new e none = none_of kind new (λ n sized found. none n sized (omega arith) found)
same_kind kind (x ∷ old) [] e none = (let f : None ≡ Some x = e.keeps 0 x refl in absurd (none-some x f))
same_kind kind (x ∷ old) (y ∷ new) e none =
    let same : y ≡ x = same_Some y x (e.keeps 0 x refl) in
    let rest : cells_of kind new ≡ cells_of kind old = same_kind kind old new (record { keeps = λ n sized found. e.keeps (suc n) sized found })
    (λ n sized l found. none (suc n) sized (omega (arith, l)) found) in
    ap (λ (l : List SizedCell). cond (kind y.cell) (y ∷ l) l) rest ∙ ap (λ (z : SizedCell). cond (kind z.cell) (z ∷ cells_of kind old) (cells_of kind old)) same

pub same_count : (kind : Cell → Bool) (old new : List SizedCell) → cells_of kind new ≡ cells_of kind old → count_of kind new ≡ count_of kind old
same_count kind old new e = sym (length-filter (kind_test kind) new) ∙ (ap (λ (l : List SizedCell). length l) e ∙ length-filter (kind_test kind) old)

no_length : {X : Type 0} (xs : List X) → length xs ≡ 0 → xs ≡ []
no_length [] e = refl
no_length (x ∷ xs) e = absurd (omega (arith, e))

-- one of a kind, or none
abbrev counted : (Cell → Bool) → SizedCell → ℕ
counted kind sized = cond (kind sized.cell) 1 0

-- as many as before are the same
pub same_cells : (kind : Cell → Bool) (old new : List SizedCell) → Extends old new → count_of kind new ≡ count_of kind old
    → cells_of kind new ≡ cells_of kind old
same_cells kind [] new e count = no_length (cells_of kind new) (length-filter (kind_test kind) new ∙ count)
same_cells kind (x ∷ old) [] e count = (let f : None ≡ Some x = e.keeps 0 x refl in absurd (none-some x f))
same_cells kind (x ∷ old) (y ∷ new) e count =
    let same : y ≡ x = same_Some y x (e.keeps 0 x refl) in
    let a : count_of kind (y ∷ new) ≡ counted kind y + count_of kind new = sum_by-cons (counted kind) y new in
    let b : count_of kind (x ∷ old) ≡ counted kind x + count_of kind old = sum_by-cons (counted kind) x old in
    let rest : cells_of kind new ≡ cells_of kind old = same_cells kind old new (record { keeps = λ n sized found. e.keeps (suc n) sized found })
    (omega (arith, count, a, b, ap (counted kind) same)) in
    ap (λ (l : List SizedCell). cond (kind y.cell) (y ∷ l) l) rest ∙ ap (λ (z : SizedCell). cond (kind z.cell) (z ∷ cells_of kind old) (cells_of kind old)) same

pub no_input : (cell : Cell) → IsControlCell cell → is_input cell ≡ false
no_input (Input port) h = absurd h
no_input _ h = refl

pub no_mul : (cell : Cell) → IsControlCell cell → is_mul cell ≡ false
no_mul (Op op args) h = h
no_mul _ h = refl

pub is_logic : (cell : Cell) → IsControlCell cell → IsLogic cell
is_logic (Mem depth at next enable) h = absurd h
is_logic (Peek mem at) h = absurd h
is_logic _ h = tt

-- ---- what is there

pub found_at : {X : Type 0} (xs : List X) (k : ℕ) (d : X) → k < length xs → slice_get xs k ≡ Some (get_or xs k d)
found_at [] k d l = absurd (omega arith)
found_at (x ∷ xs) zero d l = refl
found_at (x ∷ xs) (suc k) d l = found_at xs k d (omega arith)

pub longer_length : {a b : Circuit} → IsLonger a b → length a.cells ≤ length b.cells
longer_length {a} {b} h = extends_length a.cells b.cells h.extends

pub last_choice : (a b : Circuit) (width n : ℕ) (nets : List NetId) → n ≡ length a.cells → b ≡ record a { cells = a.cells ++ choice width nets ∷ [] }
    → IsNet b.cells n width
last_choice a b width n nets e is = rw (is, e) (record { sized = choice width nets; found = get_pushed a.cells (choice width nets); plain = tt; wide = refl })
