-- The layout of a sequence type in T clocks: one of those that the types of Durst et al. (PLDI 2020) allow; docs/SPACE_TIME.md draws it.
use Rattle.std.specs.Prelude.{ℕ, zero, suc, ◌-◌, ◌/◌, ◌%◌, Option, Some, None, nat_eq, nat_lt, if◌then◌else◌}
use Rattle.std.specs.Option.{option_and_then, option_map}
use Rattle.ae_seqtype.specs.SeqTree.{SeqTree, atom, seq}
use Rattle.ae_sttype.specs.StTree.{StTree, atom as st_atom, tseq, sseq}
use Rattle.ae_rewrite.specs.declared.cases.Case.{Case}
use Rattle.ae_rewrite.specs.declared.cases.Case.TheVariants.{Parallel, Spread, Grouped, Padded, Folded}

-- the greatest divisor of n from 1 to m, and 0 where m is 0
abbrev pub greatest_divisor : (n m : ℕ) → ℕ
greatest_divisor n zero = 0
greatest_divisor n (suc m) = if nat_eq (n % suc m) 0 then suc m else greatest_divisor n m

-- slots for a divisor above 1
abbrev pub folded_by : (d : ℕ) → Option Case
folded_by d = if nat_lt 1 d then Some (Folded d) else None

-- by which case n elements are laid out in T clocks: the first that applies, or none
abbrev pub case_of : (n clocks : ℕ) → Option Case
case_of n clocks =
    if nat_eq clocks 1 then Some Parallel
    else if nat_eq (clocks % n) 0 then Some Spread
    else if nat_eq (n % clocks) 0 then Some Grouped
    else if nat_lt n clocks then Some Padded
    else folded_by (greatest_divisor n (clocks - 1))

-- the outer slots: how many, one after the other, have elements
abbrev pub slots_of : (n clocks : ℕ) → Case → ℕ
slots_of n clocks Parallel = 1
slots_of n clocks Spread = n
slots_of n clocks Grouped = clocks
slots_of n clocks Padded = n
slots_of n clocks (Folded d) = d

-- the elements side by side in an outer slot
abbrev pub lanes_of : (n clocks : ℕ) → Case → ℕ
lanes_of n clocks Parallel = n
lanes_of n clocks Spread = 1
lanes_of n clocks Grouped = n / clocks
lanes_of n clocks Padded = 1
lanes_of n clocks (Folded d) = n / d

-- the clocks of an outer slot: the budget of each element
abbrev pub inner_of : (n clocks : ℕ) → Case → ℕ
inner_of n clocks Parallel = 1
inner_of n clocks Spread = clocks / n
inner_of n clocks Grouped = 1
inner_of n clocks Padded = 1
inner_of n clocks (Folded d) = 1

-- how many outer slots, with elements or without, the clocks have
abbrev pub rounds_of : (n clocks : ℕ) → Case → ℕ
rounds_of n clocks Parallel = 1
rounds_of n clocks Spread = n
rounds_of n clocks Grouped = clocks
rounds_of n clocks Padded = clocks
rounds_of n clocks (Folded d) = clocks

-- n elements by the case, each laid out as t
abbrev pub arranged : (n clocks : ℕ) → Case → StTree → StTree
arranged n clocks Parallel t = sseq n t
arranged n clocks Spread t = tseq n 0 t
arranged n clocks Grouped t = tseq clocks 0 (sseq (n / clocks) t)
arranged n clocks Padded t = tseq n (clocks - n) t
arranged n clocks (Folded d) t = tseq d (clocks - d) (sseq (n / d) t)

-- the layout in T clocks, or none: an atom stands in the first clock
abbrev pub lay_of : SeqTree → (clocks : ℕ) → Option StTree
lay_of (atom a) clocks = Some (if nat_eq clocks 1 then st_atom a else tseq 1 (clocks - 1) (st_atom a))
lay_of (seq n t) clocks = option_and_then (λ c. option_map (arranged n clocks c) (lay_of t (inner_of n clocks c))) (case_of n clocks)
