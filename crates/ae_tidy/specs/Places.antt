-- Where the cells of parts of a netlist begin, and where in its copy.
use Rattle.std.specs.Prelude.{◌≡◌, ℕ, ◌<◌, ◌≤◌, List, length, Some, slice_get, get_or}
use Rattle.ae_netlist.specs.declared.cell.NetId.{NetId}
use Rattle.ae_netlist.specs.declared.cell.Cell.{Cell}
use Rattle.ae_netlist.specs.declared.cell.Cell.TheVariants.{Input, Const, Op, Reg, Mem, Peek}
use Rattle.ae_netlist.specs.declared.cell.SizedCell.{SizedCell}

-- for each of so many parts a number of cells, of so many at most, and none less than an earlier one
pub record AreMarks (cells count : ℕ) (marks : List ℕ) : Type 0 where
  pub long : length marks ≡ count
  pub within : (i m : ℕ) → slice_get marks i ≡ Some m → m ≤ cells
  pub rising : (i j m n : ℕ) → i ≤ j → slice_get marks i ≡ Some m → slice_get marks j ≡ Some n → m ≤ n

-- the same port, constant, operator, register, memory or look, maybe on other nets
abbrev pub IsLike : Cell → Cell → Type 0
IsLike (Input port) new = new ≡ Input port
IsLike (Const k) new = new ≡ Const k
IsLike (Op op args) new = (to : List NetId) × (new ≡ Op op to)
IsLike (Reg next) new = (to : NetId) × (new ≡ Reg to)
IsLike (Mem depth at next enable) new = (a : NetId) × (b : NetId) × (c : NetId) × (new ≡ Mem depth a b c)
IsLike (Peek mem at) new = (a : NetId) × (b : NetId) × (new ≡ Peek a b)

-- the cell is made of old cell number n
pub record IsMadeOf (old : List SizedCell) (n : ℕ) (image : SizedCell) : Type 0 where
  pub sized : SizedCell
  pub found : slice_get old n ≡ Some sized
  pub wide : image.width ≡ sized.width
  pub like : IsLike sized.cell image.cell

-- each cell is made of an old one, and they stand in the order of those
pub record AreMadeOf (old new : List SizedCell) (made : ℕ → ℕ) : Type 0 where
  pub each : (m : ℕ) (image : SizedCell) → slice_get new m ≡ Some image → IsMadeOf old (made m) image
  pub rising : (i j : ℕ) → i < j → j < length new → made i < made j

-- of so many cells those before this place are made of the cells before a mark, and no others
pub record IsMoved (cells : ℕ) (made : ℕ → ℕ) (mark place : ℕ) : Type 0 where
  pub within : place ≤ cells
  pub before : (m : ℕ) → m < place → made m < mark
  pub behind : (m : ℕ) → place ≤ m → m < cells → mark ≤ made m

-- each mark is where it was among the old cells
pub record AreMoved (old new : List SizedCell) (marks places : List ℕ) : Type 0 where
  pub made : ℕ → ℕ
  pub are : AreMadeOf old new made
  pub long : length places ≡ length marks
  pub each : (i mark place : ℕ) → slice_get marks i ≡ Some mark → slice_get places i ≡ Some place
      → IsMoved (length new) made mark place

-- the same, of a list of the old cells

pub record AreRising (made : List NetId) : Type 0 where
  pub each : (i j : ℕ) (a b : NetId) → i < j → slice_get made i ≡ Some a → slice_get made j ≡ Some b → a.0 < b.0

pub record AreBefore (made : List NetId) (count mark : ℕ) : Type 0 where
  pub each : (k : ℕ) (own : NetId) → k < count → slice_get made k ≡ Some own → own.0 < mark

pub record IsCut (made : List NetId) (mark place : ℕ) : Type 0 where
  pub within : place ≤ length made
  pub before : AreBefore made place mark
  pub behind : (k : ℕ) (own : NetId) → place ≤ k → slice_get made k ≡ Some own → mark ≤ own.0

pub record AreCut (made : List NetId) (marks places : List ℕ) : Type 0 where
  pub each : (i mark place : ℕ) → slice_get marks i ≡ Some mark → slice_get places i ≡ Some place
      → IsCut made mark place

abbrev pub made_of : List NetId → ℕ → ℕ
made_of made m = (get_or made m (record { 0 = 0 })).0

-- a list that tells for each new cell the old one that it is made of
pub record AreTraced (old new : List SizedCell) (made : List NetId) : Type 0 where
  pub long : length made ≡ length new
  pub are : AreMadeOf old new (made_of made)
  pub rising : AreRising made
