-- What the definitions give on worked examples.
use Rattle.std.proofs.Common.{ℕ, ◌≡◌, List, [], ◌∷◌, true, false, refl, if◌then◌else◌}
use Rattle.std.specs.Prelude.{bytes_eq, codes, map}
use Rattle.ae_vmodule.specs.declared.module.NetKind.{NetKind}
use Rattle.ae_vmodule.specs.declared.module.NetKind.TheVariants.{Input, OutWire, OutReg, Memory}
use Rattle.ae_vmodule.specs.declared.module.UnOp.TheVariants.{Flip}
use Rattle.ae_vmodule.specs.declared.module.BinOp.TheVariants.{Add, Sub, Shl, Shr, Gt}
use Rattle.ae_vmodule.specs.ModuleTree.{ExprTree, name, constant, place, index, unary, binary, concat_one, set, put, when, block_end, block_more, NetTree, ItemTree, nets, assigns, always, ModuleTree}
use Rattle.ae_judge.specs.Names.{net_named, is_clock, equations}
use Rattle.ae_runs.specs.Values.{ModuleClock, value_at}
use Rattle.ae_runs.specs.Runs.{idle_clock, next_clock}
use Rattle.ae_runs.specs.PlainRun.{drive_named, recomputed, fed, plain_run}
use Rattle.ae_runs.specs.SameRuns.{output_words}
use Rattle.ae_judge.specs.Weight.{weight}

abbrev port : NetKind → ℕ → List ℕ → NetTree
port kind width n = record { name = n; width = width; ranged = true; kind = kind; item = 0 }

abbrev drives : List ℕ → ExprTree → ItemTree
drives n e = assigns (record { name = n; value = e } ∷ [])

-- a clock in which these names have these words
abbrev words : List ℕ → ℕ → List ℕ → ℕ → ModuleClock
words a x b y = record { word = λ n. if bytes_eq n a then x else (if bytes_eq n b then y else 0); store = λ n. [] }

-- s = a + b, n = ~a and k = {a + b} of 5 bits, and g = (a + b) > 4'd15, where a and b have 4 bits
abbrev sums : ModuleTree
sums = record {
  name = codes "m";
  nets = port Input 4 (codes "a") ∷ port Input 4 (codes "b") ∷ port OutWire 5 (codes "s") ∷ port OutWire 5 (codes "n") ∷ port OutWire 5 (codes "k")
      ∷ port OutWire 1 (codes "g") ∷ [];
  items =
      drives (codes "s") (binary Add (name (codes "a")) (name (codes "b")))
      ∷ drives (codes "n") (unary Flip (name (codes "a")))
      ∷ drives (codes "k") (concat_one (binary Add (name (codes "a")) (name (codes "b"))))
      ∷ drives (codes "g") (binary Gt (binary Add (name (codes "a")) (name (codes "b"))) (constant 4 15 true))
      ∷ [];
}

sums_of_nine_and_nine : map (output_words sums) (plain_run sums (words (codes "a") 9 (codes "b") 9 ∷ [])) ≡ (18 ∷ 22 ∷ 2 ∷ 0 ∷ []) ∷ []
unfolding net_named is_clock equations drive_named recomputed fed plain_run idle_clock next_clock
sums_of_nine_and_nine = refl

-- t <= t + a, where both have 4 bits
abbrev accumulator : ModuleTree
accumulator = record {
  name = codes "acc";
  nets = record { name = codes "clk"; width = 1; ranged = false; kind = Input; item = 0 } ∷ port Input 4 (codes "a") ∷ port OutReg 4 (codes "t") ∷ [];
  items = always (codes "clk") (set (codes "t") (binary Add (name (codes "t")) (name (codes "a")))) ∷ [];
}

abbrev fed_with : ℕ → ModuleClock
fed_with x = words (codes "a") x (codes "t") 0

sums_so_far : map (output_words accumulator) (plain_run accumulator (fed_with 3 ∷ fed_with 5 ∷ fed_with 9 ∷ fed_with 0 ∷ [])) ≡ (0 ∷ []) ∷ (3 ∷ []) ∷ (8 ∷ [])
    ∷ (1 ∷ []) ∷ []
unfolding net_named is_clock equations drive_named recomputed fed plain_run idle_clock next_clock
sums_so_far = refl

-- at most 8 cells for each of these: three names, an assignment and an operator
accumulator_weight : weight accumulator ≡ 5
accumulator_weight = refl

abbrev one_four : ModuleClock
one_four = words (codes "a") 9 (codes "b") 4

abbrev shifted : ExprTree → ExprTree
shifted by = binary Shl (name (codes "a")) by

-- a << b and a >> b with b of 4, and 4'd9 << 4'd1: the width that is handed down is the left operand's
shifts_by_the_width : (value_at sums.nets one_four 4 (shifted (name (codes "b")))
    ∷ value_at sums.nets one_four 4 (binary Shr (name (codes "a")) (name (codes "b"))) ∷ value_at sums.nets one_four 4 (shifted (constant 4 1 true))
    ∷ value_at sums.nets one_four 5 (shifted (constant 4 1 true)) ∷ []) ≡ 0 ∷ 0 ∷ 2 ∷ 18 ∷ []
unfolding net_named
shifts_by_the_width = refl

-- a - b of 4 and 9 bits: the sum is made at the width that is handed down
differences : (value_at sums.nets (words (codes "a") 3 (codes "b") 5) 4 (binary Sub (name (codes "a")) (name (codes "b")))
    ∷ value_at sums.nets (words (codes "a") 3 (codes "b") 5) 9 (binary Sub (name (codes "a")) (name (codes "b"))) ∷ []) ≡ 14 ∷ 510 ∷ []
unfolding net_named
differences = refl

-- a memory of two words, written where w is 1, at the place that p has, and read at place 1; q is assigned twice
abbrev memory : ModuleTree
memory = record {
  name = codes "mem";
  nets =
      record { name = codes "c"; width = 1; ranged = false; kind = Input; item = 0 } ∷ port Input 1 (codes "p") ∷ port Input 1 (codes "w")
      ∷ port OutWire 4 (codes "r") ∷ port OutReg 4 (codes "q") ∷ record { name = codes "m"; width = 4; ranged = true; kind = Memory 2; item = 1 } ∷ [];
  items =
      nets []
      ∷ drives (codes "r") (index (codes "m") (place 1))
      ∷ always (codes "c") (block_more (when (name (codes "w"))
      (put (codes "m") (name (codes "p")) (binary Add (index (codes "m") (name (codes "p"))) (constant 4 1 true))))
      (block_more (set (codes "q") (constant 4 7 true)) (block_more (when (name (codes "p")) (set (codes "q") (name (codes "r")))) block_end)))
      ∷ [];
}

abbrev holding : ℕ → ℕ → ModuleClock
holding p w = record { word = λ n. if bytes_eq n (codes "p") then p else (if bytes_eq n (codes "w") then w else 0); store = λ n. 3 ∷ 15 ∷ [] }

-- r and q in each clock
last_assignment_counts : map (output_words memory) (plain_run memory (holding 0 1 ∷ holding 1 0 ∷ holding 1 1 ∷ holding 0 0 ∷ [])) ≡ (15 ∷ 0 ∷ [])
    ∷ (15 ∷ 7 ∷ []) ∷ (15 ∷ 15 ∷ []) ∷ (0 ∷ 15 ∷ []) ∷ []
unfolding net_named is_clock equations drive_named recomputed fed plain_run idle_clock next_clock
last_assignment_counts = refl

-- six names; an assignment, a memory read and a decimal index; two `if`, three assignments, two of them below an `if`, a
-- sum, a memory read and two constants
memory_weight : weight memory ≡ 20
memory_weight = refl
