-- Which node of a program each cell of its netlist is made for.
use Rattle.std.specs.Prelude.{◌≡◌, ℕ, ◌<◌, ◌≤◌, List, [], ◌∷◌, length, Some, slice_get}
use Rattle.ae_rewrite.specs.StProgramTree.{StFuncTree, StNodeTree, body}
use Rattle.ae_lower.specs.declared.sections.Section.{Section}

-- sections of so many cells, each behind those before it
pub record AreSections (cells : ℕ) (sections : List Section) : Type 0 where
  pub within : (i : ℕ) (s : Section) → slice_get sections i ≡ Some s → s.cell ≤ cells
  pub rising : (i j : ℕ) (s t : Section) → i < j → slice_get sections i ≡ Some s → slice_get sections j ≡ Some t
      → s.cell < t.cell

-- the section in which a cell stands: the last that begins with it or before it
pub record IsSectionOf (sections : List Section) (cell : ℕ) (s : Section) : Type 0 where
  pub index : ℕ
  pub found : slice_get sections index ≡ Some s
  pub begun : s.cell ≤ cell
  pub last : (j : ℕ) (t : Section) → index < j → slice_get sections j ≡ Some t → cell < t.cell

-- a section is that of node j of instance k, or that of a node to which calls lead from it, each in the instance that the one
-- before it calls; behind an instance's nodes stands the number for the delays of its results
abbrev pub CallsLead : List StFuncTree → (k j : ℕ) → (path : List ℕ) → Section → Type 0
CallsLead instances k j [] s =
    (s.instance ≡ k) × (s.node ≡ j) × (f : StFuncTree) × (slice_get instances k ≡ Some f) × (j ≤ length f.nodes)
CallsLead instances k j (i ∷ path) s =
    (f : StFuncTree) × (n : StNodeTree) × (m : ℕ) × (slice_get instances k ≡ Some f) × (slice_get f.nodes j ≡ Some n)
    × (n.op ≡ body m) × CallsLead instances m i path s

-- a section of node j of instance k, or of one that it calls
pub record IsSectionFor (instances : List StFuncTree) (k j : ℕ) (s : Section) : Type 0 where
  pub path : List ℕ
  pub leads : CallsLead instances k j path s

-- a section of instance k, or of one that it calls
pub record IsSectionWithin (instances : List StFuncTree) (k : ℕ) (s : Section) : Type 0 where
  pub node : ℕ
  pub is : IsSectionFor instances k node s

-- each cell from one number to another stands in such a section
pub record AreCovered (Of : Section → Type 0) (from to : ℕ) (sections : List Section) : Type 0 where
  pub each : (cell : ℕ) → from ≤ cell → cell < to → (s : Section) × IsSectionOf sections cell s × Of s

-- so do the cells that are added, and those before them stand where they stood
pub record HaveSections (Of : Section → Type 0) (from to : ℕ) (old new : List Section) : Type 0 where
  pub are : AreSections to new
  pub stay : (cell : ℕ) (s : Section) → cell < from → IsSectionOf old cell s → IsSectionOf new cell s
  pub own : AreCovered Of from to new

-- a section begins behind the others, in the place of one without cells
pub record BeginsSection (s : Section) (old new : List Section) : Type 0 where
  pub are : AreSections s.cell new
  pub stay : (cell : ℕ) (t : Section) → cell < s.cell → IsSectionOf old cell t → IsSectionOf new cell t
  pub own : (cell : ℕ) → s.cell ≤ cell → IsSectionOf new cell s

-- the sections that begin before a cell
pub record AreThoseBefore (cell : ℕ) (old new : List Section) : Type 0 where
  pub each : (i : ℕ) (s : Section) → slice_get new i ≡ Some s → (slice_get old i ≡ Some s) × (s.cell < cell)
  pub all : (i : ℕ) (s : Section) → slice_get old i ≡ Some s → s.cell < cell → slice_get new i ≡ Some s

abbrev pub first_cell : Section → ℕ
first_cell s = s.cell

-- in whatever section an old cell stands, a new one stands in one of the same node
pub record IsCopiedSection (old new : List Section) (cell place : ℕ) : Type 0 where
  pub each : (s : Section) → IsSectionOf old cell s → (t : Section) × IsSectionOf new place t
      × (t.instance ≡ s.instance) × (t.node ≡ s.node)

-- the place of the first cell of section i, where it is the last that is not behind a cell, of so many sections
pub record IsLastPlace (places : List ℕ) (count cell i place : ℕ) : Type 0 where
  pub found : slice_get places i ≡ Some place
  pub first : i < count
  pub begun : place ≤ cell
  pub last : (j other : ℕ) → i < j → j < count → slice_get places j ≡ Some other → cell < other

-- so many sections are copied, each to the place of its first cell
pub record AreCopied (sections : List Section) (places : List ℕ) (count : ℕ) (copied : List Section) : Type 0 where
  pub each : (cell i place : ℕ) (s : Section) → IsLastPlace places count cell i place → slice_get sections i ≡ Some s
      → IsSectionOf copied cell (record { cell = place; instance = s.instance; node = s.node })
  pub are : (i place : ℕ) → count ≤ i → slice_get places i ≡ Some place → AreSections place copied
