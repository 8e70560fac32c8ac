-- What the walk keeps.
use Rattle.std.specs.Prelude.{◌≡◌, ℕ, ◌+◌, ◌<◌, ◌≤◌, List, [], ◌∷◌, ◌++◌, ◌-◌, length, Some, slice_get}
use Rattle.ae_order.specs.Graph.{Needs, Reaches}
use Rattle.ae_order.specs.declared.sort.Mark.{Mark}
use Rattle.ae_order.specs.declared.sort.Mark.TheVariants.{New, At, Done}
use Rattle.ae_order.specs.declared.sort.OrderFault.{OrderFault}
use Rattle.ae_order.specs.declared.sort.OrderFault.TheVariants.{Loop, Memory}

-- a node that the walk has come to
abbrev pub Begins : List Mark → ℕ → Type 0
Begins marks a = slice_get marks a ≡ Some New → ⊥

abbrev pub Fails : List ℕ → List ℕ → OrderFault → Type 0
Fails starts targets (Loop b) = Reaches starts targets b b
Fails starts targets Memory = Unit {0}

-- the targets of node a from its first up to place at are all done
pub record IsLooked (starts targets : List ℕ) (marks : List Mark) (a at : ℕ) : Type 0 where
  pub first : ℕ
  pub last : ℕ
  pub begins : slice_get starts a ≡ Some first
  pub ends : slice_get starts (a + 1) ≡ Some last
  pub from : first ≤ at
  pub upto : at ≤ last
  pub done : (i b : ℕ) → first ≤ i → i < at → slice_get targets i ≡ Some b → slice_get marks b ≡ Some Done

-- the stack is a path of needs with exactly the open nodes, and the order has exactly the done ones
pub record IsWalk (starts targets : List ℕ) (marks : List Mark) (stack order : List ℕ) : Type 0 where
  pub long : length marks + 1 ≡ length starts
  pub open_at : (k a : ℕ) → slice_get stack k ≡ Some a → (at : ℕ) × (slice_get marks a ≡ Some (At at))
  pub looked : (a at : ℕ) → slice_get marks a ≡ Some (At at) → IsLooked starts targets marks a at
  pub stacked : (a at : ℕ) → slice_get marks a ≡ Some (At at) → (k : ℕ) × (slice_get stack k ≡ Some a)
  pub single : (k l a : ℕ) → slice_get stack k ≡ Some a → slice_get stack l ≡ Some a → k ≡ l
  pub chain : (k a b : ℕ) → slice_get stack k ≡ Some a → slice_get stack (k + 1) ≡ Some b → Needs starts targets a b
  pub done : (a : ℕ) → slice_get marks a ≡ Some Done → (p : ℕ) × (slice_get order p ≡ Some a)
  pub ordered : (p a : ℕ) → slice_get order p ≡ Some a → slice_get marks a ≡ Some Done
  pub after : (p a b : ℕ) → slice_get order p ≡ Some a → Needs starts targets a b → (q : ℕ) × (q < p)
      × (slice_get order q ≡ Some b)
  pub once : (p q a : ℕ) → slice_get order p ≡ Some a → slice_get order q ≡ Some a → p ≡ q

abbrev pub IsTop : List ℕ → ℕ → Type 0
IsTop stack top = (below : List ℕ) × (stack ≡ below ++ top ∷ [])

-- how much of the walk is left: at each step one less
abbrev pub left_at : ℕ → ℕ → Mark → ℕ
left_at first last New = last + 2 - first
left_at first last (At at) = last + 1 - at
left_at first last Done = 0

abbrev pub left : List ℕ → List Mark → ℕ
left [] ms = 0
left (first ∷ ss) [] = 0
left (first ∷ []) (m ∷ ms) = 0
left (first ∷ last ∷ ss) (m ∷ ms) = left_at first last m + left (last ∷ ss) ms

-- a step of the walk
pub record Steps (starts targets : List ℕ) (old marks : List Mark) (stack order : List ℕ) : Type 0 where
  pub walk : IsWalk starts targets marks stack order
  pub begun : (a : ℕ) → Begins old a → Begins marks a
  pub less : left starts marks + 1 ≡ left starts old
