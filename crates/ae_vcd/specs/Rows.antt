-- The rows of a wave, as its pieces are read one by one.
use Rattle.std.specs.Prelude.{◌≡◌, ℕ, ◌<◌, List, [], ◌∷◌, ◌++◌, map, Some, None}
use Rattle.std.specs.List.{flat_map}
use Rattle.ae_vcd.specs.Forms.{Piece, Time, Variable}
use Rattle.ae_vcd.specs.Machine.{time_of}
use Rattle.ae_vcd.specs.Readings.{last_given, times_from, up_to, words_at_time}

-- no piece is a time
abbrev pub is_quiet : List Piece → Type 0
is_quiet [] = Unit {0}
is_quiet (Time digits ∷ ps) = ⊥
is_quiet (p ∷ ps) = is_quiet ps

abbrev pub AllBelow : ℕ → List ℕ → Type 0
AllBelow last [] = Unit {0}
AllBelow last (t ∷ ts) = (t < last) × AllBelow last ts

-- the words that the variables have after these pieces
abbrev pub words_now : List Variable → List Piece → List ℕ
words_now vs ps = map (λ (v : Variable). last_given v.code 0 ps) vs

-- the times but the last, the last, and the rows of all but the last
pub record HasRows (vs : List Variable) (ps : List Piece) (earlier : List ℕ) (last : ℕ) (rows : List ℕ) : Type 0 where
  pub times : times_from None ps ≡ earlier ++ last ∷ []
  pub time : time_of None ps ≡ Some last
  pub below : AllBelow last earlier
  pub closed : flat_map (words_at_time vs ps) earlier ≡ rows
  pub whole : up_to last ps ≡ ps
