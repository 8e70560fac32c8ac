-- How a field spells a type.
use Rattle.std.specs.Prelude.{ℕ, zero, suc, Bool, true, false, ◌&&◌, ◌==◌, nat_eq, nat_le, if◌then◌else◌, List, [], ◌∷◌, Option, Some, None}
use Rattle.ae_word.specs.AtomTree.{AtomTree, word, pair}
use Rattle.ae_seqtype.specs.SeqTree.{SeqTree, atom, seq}
use Rattle.ae_fields.specs.Number.{plain_of}
use Rattle.ae_seq.specs.Typing.{where_ok, ◌>>=◌}

abbrev pub is_digit : ℕ → Bool
is_digit b = nat_le 48 b && nat_le b 57

-- the digits at the head of some bytes, and what follows them
abbrev pub digits_of : List ℕ → List ℕ
digits_of [] = []
digits_of (b ∷ bs) = if is_digit b then b ∷ digits_of bs else []

abbrev pub after_digits : List ℕ → List ℕ
after_digits [] = []
after_digits (b ∷ bs) = if is_digit b then after_digits bs else b ∷ bs

-- what follows a byte at the head
abbrev pub past : ℕ → List ℕ → Option (List ℕ)
past mark [] = None
past mark (b ∷ bs) = where_ok (nat_eq b mark) (Some bs)

-- `u` for unsigned words, in version 2 also `i` for signed ones
abbrev pub letter_kind : (version letter : ℕ) → Option Bool
letter_kind version letter =
    if nat_eq letter 117 then Some false else where_ok (nat_eq letter 105 && (version == 2)) (Some true)

-- a word: a letter and its width of 1 to 64 bits; and what follows it
abbrev pub word_from : (version letter : ℕ) → List ℕ → Option (AtomTree × List ℕ)
word_from version letter bs =
    plain_of 1 64 (digits_of bs) >>= λ w. letter_kind version letter >>= λ s. Some
    (word (record { signed = s; width = w }), after_digits bs)

-- what stands in a pair after `(`: one atom, `,`, another, `)`
abbrev pub pair_from : (List ℕ → Option (AtomTree × List ℕ)) → List ℕ → Option (AtomTree × List ℕ)
pair_from read bs = read bs >>= λ a. past 44 a.1 >>= λ r. read r >>= λ b. past 41 b.1 >>= λ s. Some (pair a.0 b.0, s)

-- an atom whose pairs nest so many levels deep at most, and what follows it
abbrev pub atom_from : (version levels : ℕ) → List ℕ → Option (AtomTree × List ℕ)
atom_from version levels [] = None
atom_from version zero (b ∷ bs) = word_from version b bs
atom_from version (suc l) (b ∷ bs) = if nat_eq b 40 then pair_from (atom_from version l) bs else word_from version b bs

-- nothing follows
abbrev pub alone : AtomTree × List ℕ → Option SeqTree
alone (a, []) = Some (atom a)
alone (a, b ∷ bs) = None

-- a type that is an atom
abbrev pub atom_type_of : (version : ℕ) → List ℕ → Option SeqTree
atom_type_of version bs = atom_from version 6 bs >>= alone

-- a length of 1 to 4,096 and `]`, and what follows
abbrev pub length_from : List ℕ → Option (ℕ × List ℕ)
length_from bs = plain_of 1 4096 (digits_of bs) >>= λ n. past 93 (after_digits bs) >>= λ r. Some (n, r)

-- what stands in a sequence type after `[`: a length, `]` and the element's type
abbrev pub sequence_from : (List ℕ → Option SeqTree) → List ℕ → Option SeqTree
sequence_from read bs = length_from bs >>= λ n. read n.1 >>= λ t. Some (seq n.0 t)

-- a type whose sequences nest so many levels deep at most
abbrev pub type_from : (version levels : ℕ) → List ℕ → Option SeqTree
type_from version levels [] = None
type_from version zero (b ∷ bs) = atom_type_of version (b ∷ bs)
type_from version (suc l) (b ∷ bs) =
    if nat_eq b 91 then sequence_from (type_from version l) bs else atom_type_of version (b ∷ bs)

-- the type that a field spells, if it spells one
abbrev pub type_of : (version : ℕ) → List ℕ → Option SeqTree
type_of version f = type_from version 6 f
