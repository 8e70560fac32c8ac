-- The programs of demos, by their sizes, and that each of the 64 is accepted.
use Rattle.std.specs.Prelude.{◌≡◌, ℕ, ◌*◌, ◌≤◌, IsTrue, [], ◌∷◌, None, codes}
use Rattle.ae_word.specs.AtomTree.{unsigned_word}
use Rattle.ae_word.specs.declared.op.WordOp.TheVariants.{Add}
use Rattle.ae_seqtype.specs.SeqTree.{atom, seq}
use Rattle.ae_seq.specs.ProgramTree.{ProgramTree, FuncTree, word, shift, each_two, reduce}
use Rattle.ae_seq.specs.Formed.{formed}
use Rattle.ae_seq.specs.Typing.{refused_line}
use Rattle.ae_fields.specs.Grammar.{IsProgramText}
use Rattle.ae_print.specs.Printed.{program_text}
use Rattle.ae_rewrite.specs.FailingLine.{failing_line}
use Rattle.ae_alike.specs.ByFunction.{costs_of}

-- the sum of two words
abbrev pub sum_func : FuncTree
sum_func = record {
  name = codes "sum";
  params = record { name = codes "x"; type = atom (unsigned_word 16) }
      ∷ record { name = codes "y"; type = atom (unsigned_word 16) } ∷ [];
  nodes = record { name = codes "z"; op = word Add; args = 0 ∷ 1 ∷ []; line = 2 } ∷ [];
  results = 2 ∷ [];
  line = 1;
  end_line = 3;
}

-- 16 words for each unit of size: each is added to the one before it, and all that to a sum
abbrev pub whole_func : (size : ℕ) → FuncTree
whole_func n = record {
  name = codes "main";
  params = record { name = codes "a"; type = seq (16 * n) (atom (unsigned_word 16)) } ∷ [];
  nodes = record { name = codes "b"; op = shift 1; args = 0 ∷ []; line = 5 }
      ∷ record { name = codes "c"; op = each_two 0; args = 0 ∷ 1 ∷ []; line = 6 }
      ∷ record { name = codes "d"; op = reduce Add; args = 2 ∷ []; line = 7 }
      ∷ [];
  results = 3 ∷ [];
  line = 4;
  end_line = 8;
}

abbrev pub demo_tree : (size : ℕ) → ProgramTree
demo_tree n = record { version = 1; funcs = sum_func ∷ whole_func n ∷ [] }

-- its text reads as it, its lines have types and layouts at a slowdown of four clocks for each unit, and it costs little
pub record IsAcceptedDemo (n : ℕ) : Type 0 where
  pub formed_is : IsTrue (formed (demo_tree n))
  pub reads : IsProgramText (program_text (demo_tree n)) (demo_tree n)
  pub typed : refused_line (demo_tree n) ≡ None
  pub fine : failing_line (demo_tree n) (4 * n) ≡ None
  pub light : (costs_of (demo_tree n) 1 (4 * n)).load ≤ 100000
  pub soon : (costs_of (demo_tree n) 1 (4 * n)).latency ≤ 100000

abbrev pub DemosAreAccepted : Type 0
DemosAreAccepted = (n : ℕ) → 1 ≤ n → n ≤ 64 → IsAcceptedDemo n
