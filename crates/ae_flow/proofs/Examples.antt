-- What the definitions give on two schedules that are written out.
use Rattle.std.proofs.Common.{ℕ, ◌≡◌, List, [], ◌∷◌, refl}
use Rattle.ae_word.specs.declared.op.WordOp.TheVariants.{Add}
use Rattle.ae_word.specs.AtomTree.{AtomTree, pair, unsigned_word}
use Rattle.ae_sttype.specs.StTree.{StTree, atom, tseq, sseq}
use Rattle.ae_ops.specs.Folds.{fold_to}
use Rattle.ae_rewrite.specs.declared.st_program.MoveOp.TheVariants.{Shift, Select}
use Rattle.ae_rewrite.specs.StProgramTree.{StOpTree, word, join, first, second, fixed, move, fold, scan, body, StNodeTree, StFuncTree}
use Rattle.ae_flow.specs.Flow.{flow, no_callee}

abbrev node : StOpTree → List ℕ → StTree → (copies : ℕ) → StNodeTree
node op args s copies = record { op = op; args = args; type = s; copies = copies; line = 0 }

-- four elements in two clocks: two slots of two lanes
abbrev four_in_two : AtomTree → StTree
four_in_two a = tseq 2 0 (sseq 2 (atom a))

-- a byte and one more, in one clock
abbrev increment : StFuncTree
increment = record {
  func = 0;
  budget = 1;
  ins = atom (unsigned_word 8) ∷ [];
  nodes = node (fixed (1 ∷ [])) [] (atom (unsigned_word 8)) 1 ∷ node (word Add) (0 ∷ 1 ∷ []) (atom (unsigned_word 8)) 1 ∷ [];
  results = 2 ∷ [];
  end_line = 0;
}

-- this on each of four bytes
abbrev increments : StFuncTree
increments = record {
  func = 1;
  budget = 2;
  ins = four_in_two (unsigned_word 8) ∷ [];
  nodes = node (body 0) (0 ∷ []) (four_in_two (unsigned_word 8)) 2 ∷ [];
  results = 1 ∷ [];
  end_line = 0;
}

four_increments : flow (increment ∷ increments ∷ []) ((1 ∷ 255 ∷ 7 ∷ 254 ∷ []) ∷ []) ≡ (2 ∷ 0 ∷ 8 ∷ 255 ∷ []) ∷ []
unfolding flow no_callee
four_increments = refl

-- sums so far of four bytes, each beside its byte and again the sums alone, the whole sum, the bytes one place later, and the last byte
abbrev sums : StFuncTree
sums = record {
  func = 0;
  budget = 2;
  ins = four_in_two (unsigned_word 8) ∷ [];
  nodes =
      node (scan Add 2 2) (0 ∷ []) (four_in_two (unsigned_word 8)) 1
      ∷ node join (0 ∷ 1 ∷ []) (four_in_two (pair (unsigned_word 8) (unsigned_word 8))) 1
      ∷ node second (2 ∷ []) (four_in_two (unsigned_word 8)) 1
      ∷ node (fold Add 2 2 (tseq 1 1 (atom (unsigned_word 8)))) (0 ∷ []) (tseq 1 0 (tseq 1 1 (atom (unsigned_word 8)))) 1
      ∷ node (move (Shift 1)) (0 ∷ []) (four_in_two (unsigned_word 8)) 1
      ∷ node (move (Select 3)) (0 ∷ []) (tseq 1 0 (tseq 1 1 (atom (unsigned_word 8)))) 1
      ∷ [];
  results = 1 ∷ 2 ∷ 3 ∷ 4 ∷ 5 ∷ 6 ∷ [];
  end_line = 0;
}

four_sums : flow (sums ∷ []) ((200 ∷ 100 ∷ 3 ∷ 5 ∷ []) ∷ [])
    ≡ (200 ∷ 44 ∷ 47 ∷ 52 ∷ []) ∷ (200 ∷ 200 ∷ 100 ∷ 44 ∷ 3 ∷ 47 ∷ 5 ∷ 52 ∷ []) ∷ (200 ∷ 44 ∷ 47 ∷ 52 ∷ []) ∷ (52 ∷ []) ∷ (0 ∷ 200 ∷ 100 ∷ 3 ∷ []) ∷ (5 ∷ [])
    ∷ []
unfolding flow no_callee fold_to
four_sums = refl

-- the first parts of four pairs
abbrev firsts : StFuncTree
firsts = record {
  func = 0;
  budget = 2;
  ins = four_in_two (pair (unsigned_word 4) (unsigned_word 8)) ∷ [];
  nodes = node first (0 ∷ []) (four_in_two (unsigned_word 4)) 1 ∷ [];
  results = 1 ∷ [];
  end_line = 0;
}

four_firsts : flow (firsts ∷ []) ((1 ∷ 10 ∷ 2 ∷ 20 ∷ 3 ∷ 30 ∷ 4 ∷ 40 ∷ []) ∷ []) ≡ (1 ∷ 2 ∷ 3 ∷ 4 ∷ []) ∷ []
unfolding flow no_callee
four_firsts = refl
