-- The first word of moves that stands before its source by so many clocks.
use Rattle.std.specs.Prelude.{◌≡◌, ℕ, ◌*◌, ◌/◌, ◌%◌, ◌<◌, ◌≤◌, List, Option, None, Some, slice_get}
use Rattle.ae_sttype.specs.StTree.{StTree, st_atoms, element_words}
use Rattle.ae_sttype.specs.Slots.{slots}
use Rattle.ae_sttype.specs.Moves.{OriginTree, from_input, fixed, lead_from, trip_number}
use Rattle.ae_moves.specs.Origins.{Move}
use Rattle.ae_trace.specs.Certificates.{CertificateTree}
use Rattle.ae_results.specs.declared.certificate.Certificate.{Certificate}

abbrev pub certificate_tree : Certificate → CertificateTree
certificate_tree c = record {
  result = c.result;
  lane = c.lane;
  word = c.word;
  clock = c.clock;
  param = c.param;
  from_lane = c.from_lane;
  from_word = c.from_word;
  from_clock = c.from_clock;
}

-- how many words a move makes
abbrev pub word_count : Move → ℕ
word_count m = st_atoms m.out * element_words m.out

-- by how many clocks word o of them stands before the word that it comes from, or 0
abbrev pub lead_at : Move → (o : ℕ) → ℕ
lead_at m o = let t = trip_number m.ins m.out m.origins o in lead_from t.clock t.source

-- each of the first words stands before its source by fewer clocks
abbrev pub AreEarly : (late : ℕ) → Move → (count : ℕ) → Type 0
AreEarly late m n = (o : ℕ) → o < n → lead_at m o < late

-- word o, which has this origin, and the word that it comes from stand in their slots
pub record IsWay (ins : List StTree) (out : StTree) (origin : OriginTree) (o : ℕ) (c : Certificate) : Type 0 where
  pub stands : slice_get (slots out) (o / element_words out) ≡ Some (record { clock = c.clock; lane = c.lane })
  pub word : c.word ≡ o % element_words out
  pub source : StTree
  pub from_element : ℕ
  pub found : slice_get ins c.param ≡ Some source
  pub source_stands : slice_get (slots source) from_element ≡ Some (record { clock = c.from_clock; lane = c.from_lane })
  pub comes : origin ≡ from_input c.param from_element c.from_word

-- there is such a way unless the word is fixed
abbrev pub IsWayOf : (ins : List StTree) (out : StTree) (origin : OriginTree) (o : ℕ) → Option Certificate → Type 0
IsWayOf ins out origin o None = (word : ℕ) × (origin ≡ fixed word)
IsWayOf ins out origin o (Some c) = IsWay ins out origin o c

-- a word of a move that stands so many clocks before its source, and no word before it does
pub record IsLateIn (late : ℕ) (m : Move) (c : Certificate) : Type 0 where
  pub place : ℕ
  pub inside : place < word_count m
  pub origin : OriginTree
  pub here : slice_get m.origins place ≡ Some origin
  pub way : IsWay m.ins m.out origin place c
  pub enough : late ≤ lead_at m place
  pub early : AreEarly late m place

-- the first such word of a move, if there is one
abbrev pub FirstIn : (late : ℕ) → Move → Option Certificate → Type 0
FirstIn late m None = AreEarly late m (word_count m)
FirstIn late m (Some c) = IsLateIn late m c

-- the first such word of moves
pub record IsFirstOf (late : ℕ) (ms : List Move) (c : Certificate) : Type 0 where
  pub some : 0 < late
  pub move : Move
  pub here : slice_get ms c.result ≡ Some move
  pub is : IsLateIn late move c
  pub before : (k : ℕ) (m : Move) → k < c.result → slice_get ms k ≡ Some m → AreEarly late m (word_count m)
