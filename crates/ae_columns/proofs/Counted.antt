-- Bounds on registers and comparisons add up.
use Rattle.std.proofs.Common.{ℕ, suc, ◌≡◌, ◌+◌, ◌≤◌, Bool, false, List, [], ◌∷◌, length, sum_by, Some, Option, is_some, cond, arith, refl}
use Rattle.std.proofs.lemmas.List.Sums.{sum_by-cons}
use Rattle.ae_netlist.specs.Circuit.{Circuit}
use Rattle.ae_columns.specs.Counts.{Counted, early_count, steps_tests}
use Rattle.ae_columns.specs.declared.steps.Step.{Step}
use Rattle.ae_columns.specs.Early.{is_early}

pub counted_none : (a : Circuit) (m : ℕ) → Counted a a m m 0 0
counted_none a m = record { registers = omega arith; tests = omega arith }

pub counted_trans : {a b c : Circuit} {k m n r s t u : ℕ} → Counted a b k m r t → Counted b c m n s u → Counted a c k n (r + s) (t + u)
counted_trans p q = record { registers = omega (arith, p.registers, q.registers); tests = omega (arith, p.tests, q.tests) }

pub counted_most : {a b : Circuit} {m n r t : ℕ} (s u : ℕ) → r ≤ s → t ≤ u → Counted a b m n r t → Counted a b m n s u
counted_most s u lr lt p = record { registers = omega (arith, p.registers, lr); tests = omega (arith, p.tests, lt) }

-- one that is known to be there
pub counted_if : {a b : Circuit} {m n : ℕ} (held : Option ℕ) (k : ℕ) → held ≡ Some k → Counted a b m n 1 1
    → Counted a b m n (cond (is_some held) 1 0) (cond (is_some held) 1 0)
counted_if held k is h = rw is h

-- no column is early
pub none_count : (early : List Bool) → ((q : ℕ) → is_early early q ≡ false) → early_count early ≡ 0
none_count [] h = refl
none_count (e ∷ early) h =
    let first : e ≡ false = h 0 in
    let rest : early_count early ≡ 0 = none_count early (λ q. h (suc q)) in
    rw first rest

-- a column has fewer comparisons than steps
pub tests_few : (columns : List (List Step)) → sum_by steps_tests columns ≤ sum_by length columns
tests_few [] = omega arith
tests_few (steps ∷ columns) = omega (arith, tests_few columns, sum_by-cons steps_tests steps columns, sum_by-cons length steps columns)
