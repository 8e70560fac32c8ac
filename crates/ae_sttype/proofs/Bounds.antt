-- What the size of a type says of its parts.
use Rattle.std.proofs.Common.{◌≡◌, ℕ, ◌+◌, ◌*◌, ◌<◌, ◌≤◌, IsTrue, arith}
use Rattle.ae_word.specs.AtomTree.{AtomTree, word, pair, atom_in_size, atom_words}
use Rattle.ae_sttype.specs.StTree.{StTree, atom, tseq, sseq, element_atom, time, lanes, st_atoms, element_words}
use Rattle.ae_sttype.specs.Size.{HasLengths, IsInSize}

pub atom_words_pos : (k : AtomTree) → 0 < atom_words k
atom_words_pos (word w) = omega arith
atom_words_pos (pair a b) = omega (arith, atom_words_pos a)

-- the atom of a type in size is in size
pub sized_atom : (s : StTree) → HasLengths s → IsTrue (atom_in_size (element_atom s))
sized_atom (atom a) h = h
sized_atom (tseq n i t) h = sized_atom t h.1
sized_atom (sseq n t) h = sized_atom t h.1

pub element_words_pos : (s : StTree) → 0 < element_words s
element_words_pos s = atom_words_pos (element_atom s)

-- a product of numbers above 0
pub product_pos : (a b : ℕ) → 0 < a → 0 < b → 0 < a * b
product_pos a b p q = grind arith

pub time_pos : (s : StTree) → HasLengths s → 0 < time s
time_pos (atom k) h = omega arith
time_pos (tseq n i t) h = product_pos (n + i) (time t) (omega (arith, h.0)) (time_pos t h.1)
time_pos (sseq n t) h = time_pos t h.1

pub lanes_pos : (s : StTree) → HasLengths s → 0 < lanes s
lanes_pos (atom k) h = omega arith
lanes_pos (tseq n i t) h = lanes_pos t h.1
lanes_pos (sseq n t) h = product_pos n (lanes t) h.0 (lanes_pos t h.1)

pub atoms_pos : (s : StTree) → HasLengths s → 0 < st_atoms s
atoms_pos (atom k) h = omega arith
atoms_pos (tseq n i t) h = product_pos n (st_atoms t) h.0 (atoms_pos t h.1)
atoms_pos (sseq n t) h = product_pos n (st_atoms t) h.0 (atoms_pos t h.1)

below_product : (a n b : ℕ) → a ≤ b → 0 < n → a ≤ n * b
below_product a n b h p = grind arith

product_le : (n a b : ℕ) → a ≤ b → n * a ≤ n * b
product_le n a b h = grind arith

pub lanes-le-atoms : (s : StTree) → HasLengths s → lanes s ≤ st_atoms s
lanes-le-atoms (atom k) h = omega arith
lanes-le-atoms (tseq n i t) h = below_product (lanes t) n (st_atoms t) (lanes-le-atoms t h.1) h.0
lanes-le-atoms (sseq n t) h = product_le n (lanes t) (st_atoms t) (lanes-le-atoms t h.1)

-- a product with a number above 0 bounds the other factor
factor_le : (a b m : ℕ) → 0 < b → a * b ≤ m → a ≤ m
factor_le a b m p h = grind arith

pub product_part : (a b m : ℕ) → 0 < a → a * b ≤ m → b ≤ m
product_part a b m p h = grind arith

pub atoms_below : (s : StTree) → IsInSize s → st_atoms s ≤ 16384
atoms_below s h = factor_le (st_atoms s) (element_words s) 16384 (element_words_pos s) h.in_words

pub lanes_below : (s : StTree) → IsInSize s → lanes s ≤ 16384
lanes_below s h = omega (arith, lanes-le-atoms s h.lengths, atoms_below s h)

pub slots_below : (n i : ℕ) (t : StTree) → IsInSize (tseq n i t) → n + i ≤ 4096
slots_below n i t h = factor_le (n + i) (time t) 4096 (time_pos t h.lengths.1) h.in_time

-- a part of a type in size is in size
pub part_of_tseq : (s t : StTree) (n i : ℕ) → s ≡ tseq n i t → IsInSize s → IsInSize t
part_of_tseq s t n i is whole =
    let h = rw is at whole in
    let p : 0 < n = h.lengths.0 in
    record {
      lengths = h.lengths.1;
      in_time = product_part (n + i) (time t) 4096 (omega arith) h.in_time;
      in_words = product_part n (st_atoms t * element_words t) 16384 p (omega (arith, h.in_words));
      in_depth = omega (arith, h.in_depth);
    }

pub part_of_sseq : (s t : StTree) (n : ℕ) → s ≡ sseq n t → IsInSize s → IsInSize t
part_of_sseq s t n is whole =
    let h = rw is at whole in
    let p : 0 < n = h.lengths.0 in
    record {
      lengths = h.lengths.1;
      in_time = h.in_time;
      in_words = product_part n (st_atoms t * element_words t) 16384 p (omega (arith, h.in_words));
      in_depth = omega (arith, h.in_depth);
    }

pub ruleset sizes = (atom_words_pos, element_words_pos, time_pos, lanes_pos, atoms_pos, lanes-le-atoms, atoms_below, lanes_below, slots_below)
