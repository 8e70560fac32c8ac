-- What the cells of a control make so in every run.
use Rattle.std.proofs.Common.{ℕ, zero, suc, ◌≡◌, ◌+◌, ◌*◌, ◌<◌, ◌≤◌, inl, inr, List, length, Some, slice_get, unwrap_or, Bool, true, false, arith, refl, sym, ap, ◌∙◌}
use Rattle.std.specs.Prelude.{◌&&◌, ◌||◌, ◌==◌, not, if◌then◌else◌}
use Rattle.std.proofs.lemmas.Bool.{cases_eq}
use Rattle.ae_netlist.specs.declared.cell.NetId.{NetId}
use Rattle.ae_netlist.specs.declared.cell.Cell.TheVariants.{Const}
use Rattle.ae_netlist.specs.declared.cell.SizedCell.{SizedCell}
use Rattle.ae_netlist.specs.Runs.{Clock, no_clock, word_at, IsRun}
use Rattle.ae_stream.specs.Queue.{next_one, next_two}
use Rattle.ae_stream.specs.Streams.{bit}
use Rattle.ae_stream.specs.Gates.{may_go}
use Rattle.ae_stream.specs.Wired.{IsWired}
use Rattle.ae_control.specs.declared.driver.Controlled.{Controlled}
use Rattle.ae_control.specs.declared.driver.Places.{Places}
use Rattle.ae_control.specs.declared.driver.Wires.{Wires}
use Rattle.ae_control.specs.Cells.{KeepsFrom, choice, taking}
use Rattle.ae_control.specs.Controls.{HasCells, IsControl, IsFlagGate, any_net, control_of, ends_of, flag_net, gate_rows, net, row}

-- ---- gates of bits

chosen : (v : Bool) (y a b : ℕ) → y ≡ (if v then a else b) → (y == 1) ≡ (if v then a == 1 else b == 1)
chosen true y a b e = ap (λ n. n == 1) e
chosen false y a b e = ap (λ n. n == 1) e

ready_is : (two takes first current : Bool) → (if two then false else (if takes then (if first then true else current) else false)) ≡ (not
    two && (takes && (first || current)))
ready_is true takes first current = refl
ready_is false false first current = refl
ready_is false true true current = refl
ready_is false true false current = refl

enable_is : (reset two first valid busy takes current : Bool)
    → (if reset then true else (if two then false else (if
    first then (if valid then true else busy) else (if takes then (if current then valid else true) else true))))
    ≡ (reset || (not two && may_go first valid busy takes current))
enable_is true two first valid busy takes current = refl
enable_is false true first valid busy takes current = refl
enable_is false false true true busy takes current = refl
enable_is false false true false busy takes current = refl
enable_is false false false valid busy true true = refl
enable_is false false false valid busy true false = refl
enable_is false false false valid busy false current = refl

or_is : (a b : Bool) → (if a then true else b) ≡ (a || b)
or_is true b = refl
or_is false b = refl

and_is : (a b : Bool) → (if a then b else false) ≡ (a && b)
and_is true b = refl
and_is false b = refl

one_is : (one two enable shows ready : Bool)
    → (if two then true else (if (if enable then shows else false) then true else (if (if one then ready else false) then false else one)))
    ≡ next_one one two (enable && shows) (one && ready)
one_is one true enable shows ready = refl
one_is one false true true ready = refl
one_is true false true false true = refl
one_is true false true false false = refl
one_is false false true false ready = refl
one_is true false false shows true = refl
one_is true false false shows false = refl
one_is false false false shows ready = refl

two_is : (one two enable shows ready : Bool)
    → (if (if one then ready else false) then false else (if two then true else (if one then (if enable then shows else false) else false)))
    ≡ next_two one two (enable && shows) (one && ready)
two_is true true enable shows true = two_taken enable shows
  where
    two_taken : (enable shows : Bool) → false ≡ next_two true true (enable && shows) true
    two_taken true true = refl
    two_taken true false = refl
    two_taken false shows = refl
two_is true true enable shows false = refl
two_is true false true true true = refl
two_is true false true true false = refl
two_is true false true false true = refl
two_is true false true false false = refl
two_is true false false shows true = refl
two_is true false false shows false = refl
two_is false true enable shows ready = refl
two_is false false enable shows ready = refl

flag_is : (reset enable last a b : Bool) → (if reset then false else (if (if enable then last else false) then a else b)) ≡ (if
    reset then false else (if enable then (if last then a else b) else b))
flag_is true enable last a b = refl
flag_is false true last a b = refl
flag_is false false last a b = refl

moves_is : (one ready : Bool) → (if one then (if one then ready else false) else true) ≡ ((one && ready) || not one)
moves_is true true = refl
moves_is true false = refl
moves_is false ready = refl

-- ---- in a run

module _ (all : List SizedCell) (w : Wires) (at : Places) (wait : ℕ) (busy : NetId) (h : HasCells all w at wait busy) (run : List Clock)
    (r : IsRun all run) where
  abbrev g : ℕ
  g = at.gates

  choice_at : (n c a b : ℕ) → slice_get all n ≡ Some (choice 1 (row c a b)) → (t : ℕ) → t < length run
      → bit n (unwrap_or (slice_get run t) no_clock) ≡ (if bit c (unwrap_or (slice_get run t) no_clock) then bit a
      (unwrap_or (slice_get run t) no_clock) else bit b (unwrap_or (slice_get run t) no_clock))
  unfolding word_at
  choice_at n c a b found t l = chosen (bit c (unwrap_or (slice_get run t) no_clock)) _ _ _ (r.settles t n (choice 1 (row c a b)) l found)

  gate : (k c a b : ℕ) → slice_get (gate_rows w at busy) k ≡ Some (row c a b) → (t : ℕ) → t < length run
      → bit (g + k) (unwrap_or (slice_get run t) no_clock) ≡ (if bit c (unwrap_or (slice_get run t) no_clock) then bit a
      (unwrap_or (slice_get run t) no_clock) else bit b (unwrap_or (slice_get run t) no_clock))
  gate k c a b there t l = choice_at (g + k) c a b (h.gates k (row c a b) there) t l

  low : (t : ℕ) → t < length run → bit at.base (unwrap_or (slice_get run t) no_clock) ≡ false
  unfolding word_at
  low t l = ap (λ n. n == 1) (r.settles t at.base (record { width = 1; cell = Const 0 }) l h.low)

  high : (t : ℕ) → t < length run → bit (at.base + 1) (unwrap_or (slice_get run t) no_clock) ≡ true
  unfolding word_at
  high t l = ap (λ n. n == 1) (r.settles t (at.base + 1) (record { width = 1; cell = Const 1 }) l h.high)

  register : (k n m : ℕ) → k < at.blocks + 4 → at.base + 2 + k ≡ n → g + 21 + 2 * k ≡ m → (t : ℕ) → t + 1 < length run
      → bit n (unwrap_or (slice_get run (t + 1)) no_clock) ≡ bit m (unwrap_or (slice_get run t) no_clock)
  unfolding word_at
  register k n m few e f t l =
      let step : word_at run (t + 1) (at.base + 2 + k) ≡ word_at run t (g + 21 + 2 * k) = r.steps t (at.base + 2 + k) (taking 1 (net (g + 21 + 2 * k))) l
      (h.registers k few) in
      ap (λ v. bit v (unwrap_or (slice_get run (t + 1)) no_clock)) (sym e) ∙ (ap (λ v. v == 1) step ∙ ap (λ v. bit v (unwrap_or (slice_get run t) no_clock)) f)

  here_at : (t : ℕ) → t < length run → bit g (unwrap_or (slice_get run t) no_clock) ≡ (if bit w.first.0
      (unwrap_or (slice_get run t) no_clock) then bit w.valid.0
      (unwrap_or (slice_get run t) no_clock) else bit (at.base + 2) (unwrap_or (slice_get run t) no_clock))
  here_at t l = (let e : g ≡ g + 0 = omega arith in ap (λ n. bit n (unwrap_or (slice_get run t) no_clock)) e ∙
      gate 0 w.first.0 w.valid.0 (at.base + 2) refl t l)

  takes_at : (t : ℕ) → t < length run → bit (g + 1) (unwrap_or (slice_get run t) no_clock) ≡ (bit w.first.0
      (unwrap_or (slice_get run t) no_clock) || bit w.wants.0 (unwrap_or (slice_get run t) no_clock))
  takes_at t l =
      let c : Clock = unwrap_or (slice_get run t) no_clock in
      gate 1 w.first.0 (at.base + 1) w.wants.0 refl t l
      ∙ (ap (λ v. if bit w.first.0 c then v else bit w.wants.0 c) (high t l) ∙ or_is (bit w.first.0 c) (bit w.wants.0 c))

  enable_at : (t : ℕ) → t < length run → bit (g + 7) (unwrap_or (slice_get run t) no_clock)
      ≡ (bit w.reset.0 (unwrap_or (slice_get run t) no_clock) || (not (bit (at.base + 4) (unwrap_or (slice_get run t) no_clock))
      && may_go (bit w.first.0 (unwrap_or (slice_get run t) no_clock)) (bit w.valid.0 (unwrap_or (slice_get run t) no_clock))
      (bit busy.0 (unwrap_or (slice_get run t) no_clock))
      (bit (g + 1) (unwrap_or (slice_get run t) no_clock)) (bit (at.base + 2) (unwrap_or (slice_get run t) no_clock))))
  enable_at t l =
      step (bit w.reset.0 (unwrap_or (slice_get run t) no_clock)) (bit (at.base + 4) (unwrap_or (slice_get run t) no_clock))
      (bit w.first.0 (unwrap_or (slice_get run t) no_clock))
      (bit w.valid.0 (unwrap_or (slice_get run t) no_clock)) (bit busy.0 (unwrap_or (slice_get run t) no_clock))
      (bit (g + 1) (unwrap_or (slice_get run t) no_clock))
      (bit (at.base + 2) (unwrap_or (slice_get run t) no_clock)) (gate 2 w.valid.0 (at.base + 1) busy.0 refl t l)
      (gate 3 (at.base + 2) w.valid.0 (at.base + 1) refl t l)
      (gate 4 (g + 1) (g + 3) (at.base + 1) refl t l)
      (gate 5 w.first.0 (g + 2) (g + 4) refl t l) (gate 6 (at.base + 4) at.base (g + 5) refl t l) (gate 7 w.reset.0 (at.base + 1) (g + 6) refl t l) (low t l)
      (high t l)
    where
      step : (reset two first valid busy takes current : Bool) {lo hi y2 y3 y4 y5 y6 y7 : Bool} → y2 ≡ (if valid then hi else busy)
          → y3 ≡ (if current then valid else hi) → y4 ≡ (if takes then y3 else hi)
          → y5 ≡ (if first then y2 else y4) → y6 ≡ (if two then lo else y5) → y7 ≡ (if reset then hi else y6) → lo ≡ false → hi ≡ true
          → y7 ≡ (reset || (not two && may_go first valid busy takes current))
      step reset two first valid busy takes current e2 e3 e4 e5 e6 e7 lo hi = rw (e7, e6, e5, e4, e3, e2, lo, hi)
          (enable_is reset two first valid busy takes current)

  ready_at : (t : ℕ) → t < length run → bit (g + 10) (unwrap_or (slice_get run t) no_clock)
      ≡ (not (bit (at.base + 4) (unwrap_or (slice_get run t) no_clock)) && (bit (g + 1)
      (unwrap_or (slice_get run t) no_clock) && (bit w.first.0 (unwrap_or (slice_get run t) no_clock) || bit (at.base + 2)
      (unwrap_or (slice_get run t) no_clock))))
  ready_at t l =
      step (bit (at.base + 4) (unwrap_or (slice_get run t) no_clock)) (bit (g + 1) (unwrap_or (slice_get run t) no_clock))
      (bit w.first.0 (unwrap_or (slice_get run t) no_clock))
      (bit (at.base + 2) (unwrap_or (slice_get run t) no_clock)) (gate 8 w.first.0 (at.base + 1) (at.base + 2) refl t l)
      (gate 9 (g + 1) (g + 8) at.base refl t l)
      (gate 10 (at.base + 4) at.base (g + 9) refl t l) (low t l) (high t l)
    where
      step : (two takes first current : Bool) {lo hi y8 y9 y10 : Bool} → y8 ≡ (if first then hi else current) → y9 ≡ (if takes then y8 else lo)
          → y10 ≡ (if two then lo else y9) → lo ≡ false → hi ≡ true
          → y10 ≡ (not two && (takes && (first || current)))
      step two takes first current e8 e9 e10 lo hi = rw (e10, e9, e8, lo, hi) (ready_is two takes first current)

  shows_at : (t : ℕ) → t < length run → bit (g + 12) (unwrap_or (slice_get run t) no_clock)
      ≡ (bit w.late.0 (unwrap_or (slice_get run t) no_clock) && (if bit w.behind.0 (unwrap_or (slice_get run t) no_clock) then bit (at.base + 5 + at.blocks)
      (unwrap_or (slice_get run t) no_clock) else bit
      (flag_net at at.blocks) (unwrap_or (slice_get run t) no_clock)))
  shows_at t l =
      step (bit w.late.0 (unwrap_or (slice_get run t) no_clock)) (gate 11 w.behind.0 (at.base + 5 + at.blocks) (flag_net at at.blocks) refl t l)
      (gate 12 w.late.0 (g + 11) at.base refl t l) (low t l)
    where
      step : (late : Bool) {lo read y11 y12 : Bool} → y11 ≡ read → y12 ≡ (if late then y11 else lo) → lo ≡ false → y12 ≡ (late && read)
      step late {read = read} e11 e12 off = rw (e12, e11, off) (and_is late read)

  put_at : (t : ℕ) → t < length run → bit (g + 13) (unwrap_or (slice_get run t) no_clock) ≡ (if bit (g + 7) (unwrap_or (slice_get run t) no_clock) then bit
      (g + 12)
      (unwrap_or (slice_get run t) no_clock) else false)
  put_at t l = gate 13 (g + 7) (g + 12) at.base refl t l ∙
      ap (λ v. if bit (g + 7) (unwrap_or (slice_get run t) no_clock) then bit (g + 12) (unwrap_or (slice_get run t) no_clock) else v) (low t l)

  pop_at : (t : ℕ) → t < length run → bit (g + 14) (unwrap_or (slice_get run t) no_clock) ≡ (if bit (at.base + 3)
      (unwrap_or (slice_get run t) no_clock) then bit w.ready.0
      (unwrap_or (slice_get run t) no_clock) else false)
  pop_at t l = gate 14 (at.base + 3) w.ready.0 at.base refl t l ∙
      ap (λ v. if bit (at.base + 3) (unwrap_or (slice_get run t) no_clock) then bit w.ready.0 (unwrap_or (slice_get run t) no_clock) else v) (low t l)

  one_at : (t : ℕ) → t + 1 < length run → bit (at.base + 3) (unwrap_or (slice_get run (t + 1)) no_clock)
      ≡ (if bit w.reset.0 (unwrap_or (slice_get run t) no_clock) then false
      else next_one (bit (at.base + 3) (unwrap_or (slice_get run t) no_clock)) (bit (at.base + 4) (unwrap_or (slice_get run t) no_clock))
      (bit (g + 7) (unwrap_or (slice_get run t) no_clock) && bit (g + 12) (unwrap_or (slice_get run t) no_clock))
      (bit (at.base + 3) (unwrap_or (slice_get run t) no_clock) && bit w.ready.0 (unwrap_or (slice_get run t) no_clock)))
  one_at t k =
      let l : t < length run = omega arith in
      register 1 (at.base + 3) (g + 23) (omega arith) (omega arith) (omega arith) t k
      ∙ step (bit w.reset.0 (unwrap_or (slice_get run t) no_clock)) (bit (at.base + 3) (unwrap_or (slice_get run t) no_clock))
      (bit (at.base + 4) (unwrap_or (slice_get run t) no_clock))
      (bit (g + 7) (unwrap_or (slice_get run t) no_clock)) (bit (g + 12) (unwrap_or (slice_get run t) no_clock))
      (bit w.ready.0 (unwrap_or (slice_get run t) no_clock)) (put_at t l) (pop_at t l)
      (gate 15 (g + 14) at.base (at.base + 3) refl t l) (gate 16 (g + 13) (at.base + 1) (g + 15) refl t l)
      (gate 22 (at.base + 4) (at.base + 1) (g + 16) refl t l) (gate 23 w.reset.0 at.base (g + 22) refl t l) (low t l) (high t l)
    where
      step : (reset one two enable shows ready : Bool) {lo hi y13 y14 y15 y16 y22 y23 : Bool} → y13 ≡ (if enable then shows else false)
          → y14 ≡ (if one then ready else false) → y15 ≡ (if y14 then lo else one)
          → y16 ≡ (if y13 then hi else y15) → y22 ≡ (if two then hi else y16) → y23 ≡ (if reset then lo else y22) → lo ≡ false → hi ≡ true
          → y23 ≡ (if reset then false else next_one one two (enable && shows) (one && ready))
      step reset one two enable shows ready e13 e14 e15 e16 e22 e23 lo hi = rw (e23, e22, e16, e15, e14, e13, lo, hi)
          (ap (λ v. if reset then false else v) (one_is one two enable shows ready))

  two_at : (t : ℕ) → t + 1 < length run → bit (at.base + 4) (unwrap_or (slice_get run (t + 1)) no_clock)
      ≡ (if bit w.reset.0 (unwrap_or (slice_get run t) no_clock) then false
      else next_two (bit (at.base + 3) (unwrap_or (slice_get run t) no_clock)) (bit (at.base + 4) (unwrap_or (slice_get run t) no_clock))
      (bit (g + 7) (unwrap_or (slice_get run t) no_clock) && bit (g + 12) (unwrap_or (slice_get run t) no_clock))
      (bit (at.base + 3) (unwrap_or (slice_get run t) no_clock) && bit w.ready.0 (unwrap_or (slice_get run t) no_clock)))
  two_at t k =
      let l : t < length run = omega arith in
      register 2 (at.base + 4) (g + 25) (omega arith) (omega arith) (omega arith) t k
      ∙ step (bit w.reset.0 (unwrap_or (slice_get run t) no_clock)) (bit (at.base + 3) (unwrap_or (slice_get run t) no_clock))
      (bit (at.base + 4) (unwrap_or (slice_get run t) no_clock))
      (bit (g + 7) (unwrap_or (slice_get run t) no_clock)) (bit (g + 12) (unwrap_or (slice_get run t) no_clock))
      (bit w.ready.0 (unwrap_or (slice_get run t) no_clock)) (put_at t l) (pop_at t l)
      (gate 17 (at.base + 3) (g + 13) at.base refl t l) (gate 18 (at.base + 4) (at.base + 1) (g + 17) refl t l)
      (gate 24 (g + 14) at.base (g + 18) refl t l) (gate 25 w.reset.0 at.base (g + 24) refl t l) (low t l) (high t l)
    where
      step : (reset one two enable shows ready : Bool) {lo hi y13 y14 y17 y18 y24 y25 : Bool} → y13 ≡ (if enable then shows else false)
          → y14 ≡ (if one then ready else false) → y17 ≡ (if one then y13 else lo)
          → y18 ≡ (if two then hi else y17) → y24 ≡ (if y14 then lo else y18) → y25 ≡ (if reset then lo else y24) → lo ≡ false → hi ≡ true
          → y25 ≡ (if reset then false else next_two one two (enable && shows) (one && ready))
      step reset one two enable shows ready e13 e14 e17 e18 e24 e25 lo hi = rw (e25, e24, e18, e17, e14, e13, lo, hi)
          (ap (λ v. if reset then false else v) (two_is one two enable shows ready))

  current_at : (t : ℕ) → t + 1 < length run → bit (at.base + 2) (unwrap_or (slice_get run (t + 1)) no_clock)
      ≡ (if bit (g + 7) (unwrap_or (slice_get run t) no_clock) then bit g (unwrap_or (slice_get run t) no_clock) else bit (at.base + 2)
      (unwrap_or (slice_get run t) no_clock))
  current_at t k =
      register 0 (at.base + 2) (g + 21) (omega arith) (omega arith) (omega arith) t k
      ∙ gate 21 (g + 7) g (at.base + 2) refl t (omega arith)

  flag_at : (j : ℕ) → j ≤ at.blocks → (t : ℕ) → t + 1 < length run → bit (at.base + 5 + j) (unwrap_or (slice_get run (t + 1)) no_clock)
      ≡ (if bit w.reset.0 (unwrap_or (slice_get run t) no_clock) then false
      else (if bit (g + 7) (unwrap_or (slice_get run t) no_clock)
      then (if bit w.last.0 (unwrap_or (slice_get run t) no_clock) then bit (flag_net at j) (unwrap_or (slice_get run t) no_clock) else bit (at.base + 5 + j)
      (unwrap_or (slice_get run t) no_clock))
      else bit (at.base + 5 + j) (unwrap_or (slice_get run t) no_clock)))
  flag_at j few t k =
      let l : t < length run = omega arith in
      let f : IsFlagGate all w.reset at j = h.flags j (omega arith) in
      register (3 + j) (at.base + 5 + j) (g + 27 + 2 * j) (omega arith) (omega arith) (omega arith) t k
      ∙ step (bit w.reset.0 (unwrap_or (slice_get run t) no_clock)) (bit (g + 7) (unwrap_or (slice_get run t) no_clock))
      (bit w.last.0 (unwrap_or (slice_get run t) no_clock))
      (bit (flag_net at j) (unwrap_or (slice_get run t) no_clock)) (bit (at.base + 5 + j) (unwrap_or (slice_get run t) no_clock))
      (gate 20 (g + 7) w.last.0 at.base refl t l)
      (choice_at (g + 26 + 2 * j) (g + 20) (flag_net at j) (at.base + 5 + j) f.turns t l)
      (choice_at (g + 27 + 2 * j) w.reset.0 at.base (g + 26 + 2 * j) f.clears t l) (low t l)
    where
      step : (reset enable last a b : Bool) {lo y20 y26 y27 : Bool} → y20 ≡ (if enable then last else lo) → y26 ≡ (if y20 then a else b)
          → y27 ≡ (if reset then lo else y26) → lo ≡ false
          → y27 ≡ (if reset then false else (if enable then (if last then a else b) else b))
      step reset enable last a b e20 e26 e27 lo = rw (e27, e26, e20, lo) (flag_is reset enable last a b)

  moves_at : (t : ℕ) → t < length run → bit (g + 19) (unwrap_or
      (slice_get run t) no_clock) ≡ ((bit (at.base + 3) (unwrap_or (slice_get run t) no_clock) && bit w.ready.0 (unwrap_or (slice_get run t) no_clock)) || not
      (bit (at.base + 3) (unwrap_or (slice_get run t) no_clock)))
  moves_at t l =
      step (bit (at.base + 3) (unwrap_or (slice_get run t) no_clock)) (bit w.ready.0 (unwrap_or (slice_get run t) no_clock)) (pop_at t l)
      (gate 19 (at.base + 3) (g + 14) (at.base + 1) refl t l) (high t l)
    where
      step : (one ready : Bool) {hi y14 y19 : Bool} → y14 ≡ (if one then ready else false) → y19 ≡ (if one then y14 else hi) → hi ≡ true
          → y19 ≡ ((one && ready) || not one)
      step one ready e14 e19 hi = rw (e19, e14, hi) (moves_is one ready)

  first_takes : (t : ℕ) → t < length run → bit w.first.0 (unwrap_or (slice_get run t) no_clock) ≡ true
      → bit (g + 1) (unwrap_or (slice_get run t) no_clock) ≡ true
  first_takes t l on = takes_at t l ∙ ap (λ v. v || bit w.wants.0 (unwrap_or (slice_get run t) no_clock)) on

  -- a bit of several that is 1 makes what is made of them 1
  any_at : (k : ℕ) → k ≤ wait → (j : ℕ) → j < k → (t : ℕ) → t < length run → bit (at.base + 5 + j) (unwrap_or (slice_get run t) no_clock) ≡ true
      → bit (any_net at.base (at.base + at.blocks + 6) k) (unwrap_or (slice_get run t) no_clock) ≡ true
  any_at zero few j soon t l on = absurd (omega arith)
  any_at (suc k) few j soon t l on =
      let c : Clock = unwrap_or (slice_get run t) no_clock in
      let is = choice_at (at.base + at.blocks + 6 + k) (at.base + 5 + k) (at.base + 1) (any_net at.base (at.base + at.blocks + 6) k)
      (h.any.each k (omega (arith, few))) t l in
      elim (cases_eq j k) [
        | inl same ↦
            let here : bit (at.base + 5 + k) c ≡ true = ap (λ n. bit (at.base + 5 + n) c) (sym same) ∙ on in
            is ∙ (ap (λ v. if v then bit (at.base + 1) c else bit (any_net at.base (at.base + at.blocks + 6) k) c) here ∙ high t l)
        | inr apart ↦ is ∙ either (bit (at.base + 5 + k) c) (high t l) (any_at k (omega (arith, few)) j (omega (arith, soon, apart)) t l on)
      ]
    where
      either : (v : Bool) {a b : Bool} → a ≡ true → b ≡ true → (if v then a else b) ≡ true
      either true e f = e
      either false e f = f

  abbrev pub nets : Controlled
  nets = record { enable = net (g + 7); asks = net (g + 10); one = net (at.base + 3); two = net (at.base + 4); moves = net (g + 19) }

  pub wired : (made second ins outs : ℕ → ℕ) (in_columns columns : ℕ)
      → IsWired (control_of nets (g + 1) g (g + 12) made second) (record { reset = w.reset.0; first = w.first.0; current = at.base + 2; busy = busy.0 })
      (record { flag = flag_net at; last = w.last.0; late = w.late.0; behind = w.behind.0 })
      (ends_of w nets in_columns columns ins outs) w.wants.0 at.blocks wait run
  wired made second ins outs in_columns columns = record {
    here = refl;
    valid = refl;
    gates = λ t l. record { begins = first_takes t l; here = here_at t l; ready = ready_at t l; enable = enable_at t l };
    takes = takes_at;
    shows = shows_at;
    current = current_at;
    flag = flag_at;
    busy = λ j soon t l on. ap (λ n. bit n (unwrap_or (slice_get run t) no_clock)) h.any.last ∙ any_at wait (omega arith) j soon t l on;
    one = one_at;
    two = two_at;
  }

-- the cells stand in every netlist that has the cells from the first of them on
pub cells_kept : (cells all : List SizedCell) (from : ℕ) (w : Wires) (at : Places) (wait : ℕ) (busy : NetId) → from ≤ at.base → from ≤ at.gates
    → KeepsFrom from cells all → HasCells cells w at wait busy → HasCells all w at wait busy
cells_kept cells all from w at wait busy low high k h = record {
  low = k at.base _ low h.low;
  high = k (at.base + 1) _ (omega arith) h.high;
  gates = λ i nets there. k (at.gates + i) _ (omega arith) (h.gates i nets there);
  flags = λ j l. record {
    turns = k (at.gates + 26 + 2 * j) _ (omega arith) (h.flags j l).turns;
    clears = k (at.gates + 27 + 2 * j) _ (omega arith) (h.flags j l).clears;
  };
  registers = λ i l. k (at.base + 2 + i) _ (omega arith) (h.registers i l);
  any = record { last = h.any.last; each = λ i l. k (at.base + at.blocks + 6 + i) _ (omega arith) (h.any.each i l) };
}

pub is_control : (cells : List SizedCell) (from : ℕ) (w : Wires) (at : Places) (wait : ℕ) (busy : NetId) → from ≤ at.base → from ≤ at.gates
    → HasCells cells w at wait busy
    → IsControl from cells w at.blocks wait (record {
      enable = net (at.gates + 7);
      asks = net (at.gates + 10);
      one = net (at.base + 3);
      two = net (at.base + 4);
      moves = net (at.gates + 19);
    })
is_control cells from w at wait busy low high h = record {
  gates = record { reset = w.reset.0; first = w.first.0; current = at.base + 2; busy = busy.0 };
  row = record { flag = flag_net at; last = w.last.0; late = w.late.0; behind = w.behind.0 };
  takes = at.gates + 1;
  here = at.gates;
  shows = at.gates + 12;
  reset = refl;
  first = refl;
  last = refl;
  late = refl;
  behind = refl;
  wired = λ made second ins outs in_columns columns all k run r. wired all w at wait busy
      (cells_kept cells all from w at wait busy low high k h) run r made second ins outs in_columns columns;
  moves = λ all k run r. moves_at all w at wait busy (cells_kept cells all from w at wait busy low high k h) run r;
}
