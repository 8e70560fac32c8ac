-- What the scheduler holds, as trees and lists.
use Rattle.std.specs.Prelude.{◌≡◌, ◌<◌, ◌≤◌, ℕ, Some, IsTrue}
use Rattle.ae_seq.specs.ProgramTree.{OpTree, word, cast_int, pair, fst, snd, const, zip, call, each, each_two, reduce, scan, shift, up, select, partition, unpartition}
use Rattle.ae_seqtype.specs.SeqTree.{seq_tree, parts_in_size}
use Rattle.ae_rewrite.specs.LayoutRule.{case_of}
use Rattle.ae_rewrite.specs.Calls.{Spreading}
use Rattle.ae_rewrite.specs.declared.calls.Spread.{Spread}

abbrev pub spread_tree : Spread → Spreading
spread_tree s = record { count = s.count; of = seq_tree s.of.now; case = s.case }

-- its case is that of so many clocks
pub record IsFitting (clocks : ℕ) (s : Spread) : Type 0 where
  pub some : 0 < s.count
  pub applies : case_of s.count clocks ≡ Some s.case
  pub sized : IsTrue (parts_in_size (seq_tree s.of.now))

-- a shift goes by at most 4,096 elements
abbrev pub IsShiftOfFew : OpTree → Type 0
IsShiftOfFew (word op) = Unit {0}
IsShiftOfFew (cast_int v) = Unit {0}
IsShiftOfFew pair = Unit {0}
IsShiftOfFew fst = Unit {0}
IsShiftOfFew snd = Unit {0}
IsShiftOfFew (const t ws) = Unit {0}
IsShiftOfFew zip = Unit {0}
IsShiftOfFew (call f) = Unit {0}
IsShiftOfFew (each f) = Unit {0}
IsShiftOfFew (each_two f) = Unit {0}
IsShiftOfFew (reduce op) = Unit {0}
IsShiftOfFew (scan op) = Unit {0}
IsShiftOfFew (shift k) = k ≤ 4096
IsShiftOfFew (up n) = Unit {0}
IsShiftOfFew (select k) = Unit {0}
IsShiftOfFew (partition n m) = Unit {0}
IsShiftOfFew unpartition = Unit {0}
