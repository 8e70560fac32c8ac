-- The bytes that may stand outside comments.
use Rattle.std.specs.Prelude.{ℕ, Bool, ◌&&◌, ◌||◌, nat_lt, List}
use Rattle.std.specs.List.{list_all}
use Rattle.ae_fields.specs.Cut.{is_gap}

-- a blank, or a printable ASCII byte
abbrev pub may_stand : ℕ → Bool
may_stand b = is_gap b || (nat_lt 32 b && nat_lt b 127)

abbrev pub all_printed : List ℕ → Bool
all_printed bs = list_all may_stand bs
