-- A move between layouts: where each output word comes from, and whether it is there.
use Rattle.std.specs.Prelude.{◌≡◌, ℕ, ◌*◌, ◌%◌, ◌^◌, ◌<◌, List, length, Option, Some, slice_get}
use Rattle.std.specs.Option.{option_map}
use Rattle.ae_word.specs.AtomTree.{WordKind, atom_kinds}
use Rattle.ae_sttype.specs.StTree.{StTree, time, st_atoms, element_atom, element_words}
use Rattle.ae_sttype.specs.Size.{IsInSize}
use Rattle.ae_sttype.specs.Moves.{OriginTree, TripTree, from_input, fixed, latency_of_trips, trips_of}

-- a move: the layouts of its inputs and of its output, and where each output word comes from, in element order
pub record Move : Type 0 where
  pub ins : List StTree
  pub out : StTree
  pub origins : List OriginTree

abbrev pub move_trips : Move → List TripTree
move_trips m = trips_of m.ins m.out m.origins

abbrev pub move_latency : Move → ℕ
move_latency m = latency_of_trips (move_trips m)

-- the width of word j of each element
abbrev pub width_at : StTree → ℕ → Option ℕ
width_at s j = option_map (λ (k : WordKind). k.width) (slice_get (atom_kinds (element_atom s)) j)

-- an origin that is there and has the width, or a fixed word that fits it
abbrev pub HasOrigin : List StTree → (width : ℕ) → OriginTree → Type 0
HasOrigin ins width (from_input i e j) =
    (s : StTree) × (slice_get ins i ≡ Some s) × (e < st_atoms s) × (width_at s j ≡ Some width)
HasOrigin ins width (fixed w) = w < 2 ^ width

-- types in size that take so many clocks
abbrev pub AllInSize : List StTree → (clocks : ℕ) → Type 0
AllInSize ins clocks = (i : ℕ) (s : StTree) → slice_get ins i ≡ Some s → IsInSize s × (time s ≡ clocks)

-- each output word has an origin of its width
abbrev pub AreOrigins : List StTree → StTree → List OriginTree → Type 0
AreOrigins ins out origins =
    (o width : ℕ) (origin : OriginTree) → slice_get origins o ≡ Some origin
    → width_at out (o % element_words out) ≡ Some width → HasOrigin ins width origin

-- types in size that take the same time, and as many origins as output words, each there and of its width
pub record IsMove (m : Move) : Type 0 where
  pub out : IsInSize m.out
  pub types : AllInSize m.ins (time m.out)
  pub count : length m.origins ≡ st_atoms m.out * element_words m.out
  pub origins : AreOrigins m.ins m.out m.origins
