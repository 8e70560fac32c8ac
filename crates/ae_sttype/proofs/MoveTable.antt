-- Costs of small moves, computed and compared with numbers worked out by hand.
use Rattle.std.proofs.Common.{ℕ, ◌+◌, ◌-◌, List, [], ◌∷◌, map, nat_lt, if◌then◌else◌}
use Rattle.std.specs.List.{range_with_len}
use Rattle.ae_word.specs.AtomTree.{unsigned_word}
use Rattle.ae_sttype.specs.StTree.{StTree, atom, tseq, sseq}
use Rattle.ae_sttype.specs.Moves.{OriginTree, from_input, fixed, TripTree, trips_of}

abbrev byte : StTree
byte = atom (unsigned_word 8)

-- a move of one-word elements from one input, where an output element takes the element that a function names
abbrev moved : StTree → StTree → (count : ℕ) → (ℕ → OriginTree) → List TripTree
moved input out n f = trips_of (input ∷ []) out (map f (range_with_len 0 n))

-- ---- a shift by one, and by two, of eight elements on four lanes in two clocks

abbrev four_lanes : StTree
four_lanes = tseq 2 0 (sseq 4 byte)

abbrev shifted : ℕ → List TripTree
shifted k = moved four_lanes four_lanes 8 (λ e. if nat_lt e k then fixed 0 else from_input 0 (e - k) 0)

abbrev third : List TripTree
third = moved (tseq 4 0 byte) (tseq 1 0 (tseq 1 3 byte)) 1 (λ e. from_input 0 (2 + e) 0)

abbrev joined : List TripTree
joined = trips_of (tseq 2 0 byte ∷ tseq 2 0 byte ∷ []) (tseq 2 0 byte) (from_input 1 0 0 ∷ from_input 0 0 0 ∷ [])
