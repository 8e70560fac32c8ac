-- How many cells of a copy stand between two marks.
use Rattle.std.proofs.Common.{ℕ, zero, suc, ◌≡◌, ◌+◌, ◌-◌, ◌<◌, ◌≤◌, List, length, take, take-take, Some, slice_get, get_or, Bool, cond, inl, inr, arith, refl, ap}
use Rattle.std.proofs.lemmas.Bool.{cases_lt}
use Rattle.std.proofs.lemmas.List.Sums.{sum_by-take-le}
use Rattle.std.proofs.lemmas.Option.{slice_get_within, slice_get-get_or}
use Rattle.std.proofs.Math.Seq.{take-length}
use Rattle.ae_netlist.specs.declared.cell.Cell.{Cell}
use Rattle.ae_netlist.specs.declared.cell.Cell.TheVariants.{Input, Const, Op, Reg, Mem, Peek}
use Rattle.ae_netlist.specs.declared.cell.SizedCell.{SizedCell}
use Rattle.ae_netlist.specs.Counts.{count_of, number_of, is_input, is_memory, is_mul}
use Rattle.ae_tidy.specs.Places.{AreMadeOf, IsLike, IsMoved}
use Rattle.ae_tidy.proofs.Shaping.{count_found}

pub like_mul : (cell image : Cell) → IsLike cell image → is_mul image ≡ is_mul cell
like_mul (Input port) image h = rw h refl
like_mul (Const k) image h = rw h refl
like_mul (Op op args) image h = rw h.1 refl
like_mul (Reg next) image h = rw h.1 refl
like_mul (Mem depth at next enable) image h = rw h.3 refl
like_mul (Peek mem at) image h = rw h.2 refl

pub like_input : (cell image : Cell) → IsLike cell image → is_input image ≡ is_input cell
like_input (Input port) image h = rw h refl
like_input (Const k) image h = rw h refl
like_input (Op op args) image h = rw h.1 refl
like_input (Reg next) image h = rw h.1 refl
like_input (Mem depth at next enable) image h = rw h.3 refl
like_input (Peek mem at) image h = rw h.2 refl

pub like_memory : (cell image : Cell) → IsLike cell image → is_memory image ≡ is_memory cell
like_memory (Input port) image h = rw h refl
like_memory (Const k) image h = rw h refl
like_memory (Op op args) image h = rw h.1 refl
like_memory (Reg next) image h = rw h.1 refl
like_memory (Mem depth at next enable) image h = rw h.3 refl
like_memory (Peek mem at) image h = rw h.2 refl

number_mono : (kind : Cell → Bool) (cells : List SizedCell) (a b : ℕ) → a ≤ b → number_of kind cells a ≤ number_of kind cells b
number_mono kind cells a b l =
    let c : count_of kind (take a (take b cells)) ≤ count_of kind (take b cells) = sum_by-take-le (λ (x : SizedCell). cond {A = ℕ} (kind x.cell) 1 0)
    (take b cells) a in
    let e : count_of kind (take a (take b cells)) ≡ count_of kind (take a cells) = ap (count_of kind) (take-take a b cells l) in
    omega arith

-- cells that are made of cells from one number to another are no more
between_counts : (kind : Cell → Bool) (old new : List SizedCell) (made : ℕ → ℕ) → ((cell image : Cell) → IsLike cell image → kind image ≡ kind cell)
    → AreMadeOf old new made → (n a from to : ℕ) → a + n ≤ length new → from ≤ to
    → ((m : ℕ) → a ≤ m → m < a + n → (from ≤ made m) × (made m < to))
    → number_of kind new (a + n) + number_of kind old from ≤ number_of kind old to + number_of kind new a
between_counts kind old new made like are zero a from to w l f =
    let e : a + 0 ≡ a = omega arith in
    let mono : number_of kind old from ≤ number_of kind old to = number_mono kind old from to l in
    rw e (omega arith)
between_counts kind old new made like are (suc n) a from to w l f =
    let m : ℕ = a + n in
    let e : a + suc n ≡ m + 1 = omega arith in
    let below : m < length new = omega arith in
    let image : SizedCell = get_or new m (record { width = 1; cell = Const 0 }) in
    let here : slice_get new m ≡ Some image = slice_get-get_or new m (record { width = 1; cell = Const 0 }) below in
    let own = are.each m image here in
    let range = f m (omega arith) (omega arith) in
    let first : number_of kind new m + number_of kind old from ≤ number_of kind old (made m) + number_of kind new a =
    between_counts kind old new made like are n a from (made m) (omega arith) range.0 (λ k ak km. ((f k ak (omega arith)).0, are.rising k m km below)) in
    let more_new : number_of kind new (m + 1) ≡ number_of kind new m + cond (kind image.cell) 1 0 = count_found kind new m image here in
    let more_old : number_of kind old (made m + 1) ≡ number_of kind old (made m) + cond (kind own.sized.cell) 1 0 = count_found kind old
    (made m) own.sized own.found in
    let same : cond {A = ℕ} (kind image.cell) 1 0 ≡ cond {A = ℕ} (kind own.sized.cell) 1 0 = ap (λ (b : Bool). cond {A = ℕ} b 1 0)
    (like own.sized.cell image.cell own.like) in
    let mono : number_of kind old (made m + 1) ≤ number_of kind old to = number_mono kind old (made m + 1) to (omega (arith, range.1)) in
    rw e (omega (arith, first, more_new, more_old, same, mono))

made_within : (old new : List SizedCell) (made : ℕ → ℕ) → AreMadeOf old new made → (m : ℕ) → m < length new → made m < length old
made_within old new made are m l =
    let own = are.each m (get_or new m (record { width = 1; cell = Const 0 })) (slice_get-get_or new m (record { width = 1; cell = Const 0 }) l) in
    slice_get_within old (made m) own.sized own.found

-- of no kind are there more
pub made_fewer : (kind : Cell → Bool) (old new : List SizedCell) (made : ℕ → ℕ) → ((cell image : Cell) → IsLike cell image → kind image ≡ kind cell)
    → AreMadeOf old new made → count_of kind new ≤ count_of kind old
made_fewer kind old new made like are =
    let all = between_counts kind old new made like are (length new) 0 0 (length old) (omega arith) (omega arith)
    (λ m am l. (omega arith, made_within old new made are m (omega arith))) in
    let front : 0 + length new ≡ length new = omega arith in
    let all2 = rw (front, take-length new, take-length old) at all in
    omega (arith, all2)

-- where all cells of a kind are in the copy, as many stand before a mark as before
pub moved_number : (kind : Cell → Bool) (old new : List SizedCell) (made : ℕ → ℕ) → ((cell image : Cell) → IsLike cell image → kind image ≡ kind cell)
    → AreMadeOf old new made → count_of kind new ≡ count_of kind old
    → (mark place : ℕ) → mark ≤ length old → IsMoved (length new) made mark place → number_of kind new place ≡ number_of kind old mark
moved_number kind old new made like are all mark place within moved =
    let low = between_counts kind old new made like are place 0 0 mark (omega (arith, moved.within)) (omega arith)
    (λ m am l. (omega arith, moved.before m (omega arith))) in
    let front : 0 + place ≡ place = omega arith in
    let low2 = rw front at low in
    let rest : ℕ = length new - place in
    let whole : place + rest ≡ length new = omega (arith, moved.within) in
    let high = between_counts kind old new made like are rest place mark (length old) (omega (arith, whole)) within
    (λ m am l. (moved.behind m am (omega (arith, whole)), made_within old new made are m (omega (arith, whole)))) in
    let high2 = rw (whole, take-length new, take-length old) at high in
    omega (arith, low2, high2, all)

rising_by : (old new : List SizedCell) (made : ℕ → ℕ) → AreMadeOf old new made → (n a : ℕ) → a + n < length new → made a + n ≤ made (a + n)
rising_by old new made are zero a l = let e : a + 0 ≡ a = omega arith in rw e (omega arith)
rising_by old new made are (suc n) a l =
    let e : a + suc n ≡ (a + n) + 1 = omega arith in
    let up : made (a + n) < made ((a + n) + 1) = are.rising (a + n) ((a + n) + 1) (omega arith) (omega arith) in
    let first = rising_by old new made are n a (omega arith) in
    rw e (omega (arith, up, first))

-- the places of two marks are no further apart
pub moved_apart : (old new : List SizedCell) (made : ℕ → ℕ) → AreMadeOf old new made → (from to a b : ℕ) → from ≤ to → IsMoved (length new) made from a
    → IsMoved (length new) made to b → (a ≤ b) × (b + from ≤ to + a)
moved_apart old new made are from to a b l p q = elim (cases_lt a b) [
  | inl lt ↦
      let n : ℕ = b - 1 - a in
      let last : a + n ≡ b - 1 = omega arith in
      let inside : a + n < length new = omega (arith, last, q.within) in
      let up : made a + n ≤ made (a + n) = rising_by old new made are n a inside in
      let low : from ≤ made a = p.behind a (omega arith) (omega (arith, q.within)) in
      let high : made (a + n) < to = q.before (a + n) (omega (arith, last)) in
      (omega arith, omega (arith, up, low, high, last))
  | inr ge ↦ elim (cases_lt b a) [
    | inr same ↦ (omega arith, omega arith)
    | inl less ↦
        let low : made b < from = p.before b less in
        let high : to ≤ made b = q.behind b (omega arith) (omega (arith, p.within)) in
        absurd (omega arith)
  ]
]

-- a mark behind all cells
pub moved_end : (old new : List SizedCell) (made : ℕ → ℕ) → AreMadeOf old new made → IsMoved (length new) made (length old) (length new)
moved_end old new made are = record {
  within = omega arith;
  before = λ m l. made_within old new made are m l;
  behind = λ m l b. absurd (omega arith);
}
