-- What small programs compute, by computation.
use Rattle.std.proofs.Common.{◌≡◌, ℕ, List, [], ◌∷◌, Some, None, map, refl}
use Rattle.ae_word.specs.declared.op.WordOp.TheVariants.{Add, Mul, Max, Lt, Mux, Shr, Cast}
use Rattle.ae_word.specs.AtomTree.{pair as atom_pair, unsigned_word, signed_word}
use Rattle.ae_seqtype.specs.SeqTree.{SeqTree, atom, seq}
use Rattle.ae_seqtype.specs.ValueTree.{flat, value_of}
use Rattle.ae_seq.specs.ProgramTree.{OpTree, word, cast_int, fst, snd, const, zip, each, reduce, scan, shift, up, select, partition, unpartition, NodeTree, FuncTree, ProgramTree}
use Rattle.ae_seq.specs.Meaning.{mean}
use Rattle.ae_seq.specs.Typing.{refused_line, untyped, too_large}

abbrev node : OpTree → List ℕ → NodeTree
node op args = record { name = []; op = op; args = args; line = 2 }

abbrev func : List SeqTree → List NodeTree → List ℕ → FuncTree
func ts ns rs = record { name = []; params = map (λ (t : SeqTree). record { name = []; type = t }) ts; nodes = ns; results = rs; line = 1; end_line = 3 }

abbrev one : SeqTree → OpTree → FuncTree
one t op = func (t ∷ []) (node op (0 ∷ []) ∷ []) (1 ∷ [])

abbrev program : List FuncTree → ProgramTree
program fs = record { version = 2; funcs = fs }

-- the words of each result on these words of one argument
abbrev run : List FuncTree → SeqTree → List ℕ → List (List ℕ)
run fs t ws = map flat (mean (program fs) (value_of t ws ∷ []))

inc : FuncTree
inc = func (atom (unsigned_word 8) ∷ []) (node (const (atom (unsigned_word 8)) (1 ∷ [])) [] ∷ node (word Add) (0 ∷ 1 ∷ []) ∷ []) (2 ∷ [])

-- one more of each element
map_of_add : run (inc ∷ one (seq 4 (atom (unsigned_word 8))) (each 0) ∷ []) (seq 4 (atom (unsigned_word 8))) (1 ∷ 2 ∷ 3 ∷ 255 ∷ []) ≡ (2 ∷ 3 ∷ 4 ∷ 0 ∷ []) ∷ []
unfolding inc
map_of_add = refl

-- x * x + x, for each of two words
squares_and_words : run (func (atom (unsigned_word 8) ∷ []) (node (word Mul) (0 ∷ 0 ∷ []) ∷ node (word Add) (1 ∷ 0 ∷ []) ∷ []) (2 ∷ [])
    ∷ one (seq 2 (atom (unsigned_word 8))) (each 0) ∷ []) (seq 2 (atom (unsigned_word 8))) (3 ∷ 20 ∷ []) ≡ (12 ∷ 164 ∷ []) ∷ []
squares_and_words = refl

-- the square and the double of a word
square_and_double : run (func (atom (unsigned_word 8) ∷ []) (node (word Mul) (0 ∷ 0 ∷ []) ∷ node (word Add) (0 ∷ 0 ∷ []) ∷ []) (1 ∷ 2 ∷ []) ∷ [])
    (atom (unsigned_word 8)) (5 ∷ []) ≡ (25 ∷ []) ∷ (10 ∷ []) ∷ []
square_and_double = refl

shift_by_one : run (one (seq 6 (atom (unsigned_word 8))) (shift 1) ∷ []) (seq 6 (atom (unsigned_word 8)))
    (1 ∷ 2 ∷ 3 ∷ 4 ∷ 5 ∷ 6 ∷ []) ≡ (0 ∷ 1 ∷ 2 ∷ 3 ∷ 4 ∷ 5 ∷ []) ∷ []
shift_by_one = refl

sum_of_four : run (one (seq 4 (atom (unsigned_word 8))) (reduce Add) ∷ []) (seq 4 (atom (unsigned_word 8))) (1 ∷ 2 ∷ 3 ∷ 255 ∷ []) ≡ (5 ∷ []) ∷ []
sum_of_four = refl

sum_of_rows : run (one (seq 2 (seq 3 (atom (unsigned_word 8)))) (reduce Add) ∷ []) (seq 2 (seq 3 (atom (unsigned_word 8))))
    (1 ∷ 2 ∷ 3 ∷ 10 ∷ 20 ∷ 255 ∷ []) ≡ (11 ∷ 22 ∷ 2 ∷ []) ∷ []
sum_of_rows = refl

sums_so_far : run (one (seq 4 (atom (unsigned_word 8))) (scan Add) ∷ []) (seq 4 (atom (unsigned_word 8))) (1 ∷ 2 ∷ 3 ∷ 255 ∷ []) ≡ (1 ∷ 3 ∷ 6 ∷ 5 ∷ []) ∷ []
sums_so_far = refl

-- the greatest of -128 and 127, and of 128 and 127
greatest_signed : run (one (seq 2 (atom (signed_word 8))) (reduce Max) ∷ []) (seq 2 (atom (signed_word 8))) (128 ∷ 127 ∷ []) ≡ (127 ∷ []) ∷ []
greatest_signed = refl

greatest_unsigned : run (one (seq 2 (atom (unsigned_word 8))) (reduce Max) ∷ []) (seq 2 (atom (unsigned_word 8))) (128 ∷ 127 ∷ []) ≡ (128 ∷ []) ∷ []
greatest_unsigned = refl

-- -1 to 16 bits, and 255 to a signed word of 16 bits
casts : run (func (atom (signed_word 8) ∷ []) (node (word (Cast 16)) (0 ∷ []) ∷ node (word (Shr 1)) (0 ∷ []) ∷ []) (1 ∷ 2 ∷ []) ∷ []) (atom (signed_word 8))
    (255 ∷ []) ≡ (65535 ∷ []) ∷ (255 ∷ []) ∷ []
casts = refl

cast_of_unsigned : run (one (atom (unsigned_word 8)) (cast_int 16) ∷ []) (atom (unsigned_word 8)) (255 ∷ []) ≡ (255 ∷ []) ∷ []
cast_of_unsigned = refl

-- the third of four, three times
third_three_times : run (func (seq 4 (atom (unsigned_word 8)) ∷ []) (node (select 2) (0 ∷ []) ∷ node (up 3) (1 ∷ []) ∷ []) (2 ∷ []) ∷ [])
    (seq 4 (atom (unsigned_word 8))) (5 ∷ 6 ∷ 7 ∷ 8 ∷ []) ≡ (7 ∷ 7 ∷ 7 ∷ []) ∷ []
third_three_times = refl

four_pieces : run (one (seq 12 (atom (unsigned_word 8))) (partition 4 3) ∷ []) (seq 12 (atom (unsigned_word 8)))
    (0 ∷ 1 ∷ 2 ∷ 3 ∷ 4 ∷ 5 ∷ 6 ∷ 7 ∷ 8 ∷ 9 ∷ 10 ∷ 11 ∷ []) ≡ (0 ∷ 1 ∷ 2 ∷ 3 ∷ 4 ∷ 5 ∷ 6 ∷ 7 ∷ 8 ∷ 9 ∷ 10 ∷ 11 ∷ []) ∷ []
four_pieces = refl

-- pieces of 2, of which the second comes alone
second_piece : run (func (seq 6 (atom (unsigned_word 8)) ∷ []) (node (partition 3 2) (0 ∷ []) ∷ node (select 1) (1 ∷ []) ∷ node unpartition (2 ∷ []) ∷ [])
    (3 ∷ []) ∷ []) (seq 6 (atom (unsigned_word 8))) (1 ∷ 2 ∷ 3 ∷ 4 ∷ 5 ∷ 6 ∷ []) ≡ (3 ∷ 4 ∷ []) ∷ []
second_piece = refl

-- the smaller of each pair
smaller : FuncTree
smaller =
    func (atom (atom_pair (unsigned_word 8) (unsigned_word 8)) ∷ [])
    (node fst (0 ∷ []) ∷ node snd (0 ∷ []) ∷ node (word Lt) (1 ∷ 2 ∷ []) ∷ node (word Mux) (3 ∷ 1 ∷ 2 ∷ []) ∷ []) (4 ∷ [])

smaller_of_pairs : map flat (mean (program (smaller ∷ func (seq 3 (atom (unsigned_word 8)) ∷ seq 3 (atom (unsigned_word 8)) ∷ [])
    (node zip (0 ∷ 1 ∷ []) ∷ node (each 0) (2 ∷ []) ∷ []) (3 ∷ []) ∷ []))
    (value_of (seq 3 (atom (unsigned_word 8))) (5 ∷ 2 ∷ 9 ∷ []) ∷ value_of (seq 3 (atom (unsigned_word 8))) (3 ∷ 7 ∷ 9 ∷ []) ∷ [])) ≡ (3 ∷ 2 ∷ 9 ∷ []) ∷ []
unfolding smaller
smaller_of_pairs = refl

-- ---- types

-- element 4 of four has no type; a shift by 4 has one; a sequence of 20,480 words is too large
no_fifth : refused_line (program (one (seq 4 (atom (unsigned_word 8))) (select 4) ∷ [])) ≡ Some (record { line = 2; verdict = untyped })
no_fifth = refl

shift_by_all : refused_line (program (one (seq 4 (atom (unsigned_word 8))) (shift 4) ∷ [])) ≡ None
shift_by_all = refl

too_many_words : refused_line (program (one (seq 1 (seq 4096 (atom (unsigned_word 8)))) (up 5) ∷ [])) ≡ Some (record { line = 2; verdict = too_large })
too_many_words = refl
