-- A simulator before the first clock.
use Rattle.std.proofs.Common.{ℕ, ◌≡◌, ◌%◌, ◌^◌, ◌<◌, List, [], ◌∷◌, length, map, replicate, Some, slice_get, get_or, arith, refl, ap, sym, ◌∙◌}
use Rattle.std.specs.Option.{option_map}
use Rattle.std.proofs.lemmas.Option.{slice_get-map}
use Rattle.ae_netlist.specs.declared.cell.Cell.{Cell}
use Rattle.ae_netlist.specs.declared.cell.Cell.TheVariants.{Mem}
use Rattle.ae_netlist.specs.declared.cell.SizedCell.{SizedCell}
use Rattle.ae_netlist.specs.declared.cell.Outlet.{Outlet}
use Rattle.ae_netlist.specs.Circuit.{depth_in_cell}
use Rattle.ae_netlist.specs.Counts.{is_register, is_memory, cells_of, number_of}
use Rattle.ae_netlist.specs.Rows.{filled}
use Rattle.ae_netlist.proofs.Given.{fill_begins_so}
use Rattle.ae_sim.specs.declared.plan.Register.{Register}
use Rattle.ae_sim.specs.declared.plan.Memory.{Memory}
use Rattle.ae_sim.specs.Planned.{IsPlanned, MemoryTree, WritesAs, held_of, memory_for, memory_tree, next_of, register_for, tree_of}
use Rattle.ae_sim.specs.Playing.{HasPlayed}

held_filled : (fill : ℕ) (xs : List SizedCell) → map (λ (r : Register). r.held) (map (register_for fill) xs) ≡ map (λ (s : SizedCell). fill % 2 ^ s.width) xs
held_filled fill [] = refl
held_filled fill (x ∷ xs) = ap (λ ys. (fill % 2 ^ x.width) ∷ ys) (held_filled fill xs)

nexts_filled : (fill : ℕ) (xs : List SizedCell) → map (λ (r : Register). r.next) (map (register_for fill) xs) ≡ map (λ (s : SizedCell). next_of s.cell) xs
nexts_filled fill [] = refl
nexts_filled fill (x ∷ xs) = ap (λ ys. next_of x.cell ∷ ys) (nexts_filled fill xs)

words_of_trees : (ms : List Memory) → map (λ (m : Memory). m.words.items) ms ≡ map (λ (t : MemoryTree). t.words) (map memory_tree ms)
words_of_trees [] = refl
words_of_trees (m ∷ ms) = ap (λ ys. m.words.items ∷ ys) (words_of_trees ms)

tree_filled : (word : ℕ) (cell : Cell) → (tree_of word cell).words ≡ replicate (depth_in_cell cell) word
tree_filled word (Mem depth at next enable) = refl
tree_filled word _ = refl

trees_filled : (fill : ℕ) (xs : List SizedCell) → map (λ (t : MemoryTree). t.words) (map (memory_for fill) xs) ≡ map
    (λ (s : SizedCell). replicate (depth_in_cell s.cell) (fill % 2 ^ s.width)) xs
trees_filled fill [] = refl
trees_filled fill (x ∷ xs) = rw (tree_filled (fill % 2 ^ x.width) x.cell, trees_filled fill xs) refl

writes_so : (word : ℕ) (cell : Cell) (m : Memory) → memory_tree m ≡ tree_of word cell → WritesAs m cell
writes_so word (Mem depth at next enable) m e = (ap (λ (t : MemoryTree). t.at) e, ap (λ (t : MemoryTree). t.next) e, ap (λ (t : MemoryTree). t.enable) e)
writes_so word _ m e = tt

-- what is held is the fill
pub is_filled : (cells : List SizedCell) (fill : ℕ) (registers : List Register) (memories : List Memory)
    → registers ≡ map (register_for fill) (cells_of is_register cells) → map memory_tree memories ≡ map (memory_for fill) (cells_of is_memory cells)
    → held_of registers memories ≡ filled cells fill
is_filled cells fill registers memories r m =
    let a : map (λ (x : Register). x.held) registers ≡ map (λ (s : SizedCell). fill % 2 ^ s.width) (cells_of is_register cells) = ap
    (map (λ (x : Register). x.held)) r ∙ held_filled fill (cells_of is_register cells) in
    let b : map (λ (x : Memory). x.words.items) memories ≡ map (λ (s : SizedCell). replicate (depth_in_cell s.cell) (fill % 2 ^ s.width))
    (cells_of is_memory cells) =
    words_of_trees memories ∙ (ap (map (λ (t : MemoryTree). t.words)) m ∙ trees_filled fill (cells_of is_memory cells)) in
    ap (λ x. record { registers = x; memories = map (λ (y : Memory). y.words.items) memories }) a ∙
    ap (λ x. record { registers = map (λ (s : SizedCell). fill % 2 ^ s.width) (cells_of is_register cells); memories = x }) b

pub begun : (cells : List SizedCell) (outlets : List Outlet) (fill : ℕ) (words : List ℕ) (registers : List Register) (memories : List Memory)
    → held_of registers memories ≡ filled cells fill
    → HasPlayed (record { cells = cells; outlets = outlets; words = words; held = held_of registers memories }) fill []
begun cells outlets fill words registers memories e = rw e
    (record {
      words = λ run n p l b. absurd (omega arith);
      registers = λ run n sized p l found is. sym (p.begins.registers n sized l found is);
      memories = λ run n sized p l found is. sym (p.begins.memories n sized l found is);
    })

pub planned : (cells : List SizedCell) (numbers : List ℕ) (words : List ℕ) (fill : ℕ) (registers : List Register) (memories : List Memory)
    → length numbers ≡ length cells → ((n : ℕ) → n < length cells → get_or numbers n 0 ≡ number_of is_memory cells n) → length words ≡ length cells
    → registers ≡ map (register_for fill) (cells_of is_register cells) → map memory_tree memories ≡ map (memory_for fill) (cells_of is_memory cells)
    → IsPlanned cells numbers words registers memories
planned cells numbers words fill registers memories all counts long r m = record {
  numbered = all;
  counts = counts;
  long = long;
  held = rw (is_filled cells fill registers memories r m) (fill_begins_so cells fill);
  nexts = ap (map (λ (x : Register). x.next)) r ∙ nexts_filled fill (cells_of is_register cells);
  ports = record {
    each = λ k sized memory found h.
        let a : slice_get (map memory_tree memories) k ≡ Some (memory_tree memory) = slice_get-map memory_tree memories k ∙ ap (option_map memory_tree) h in
        let b : slice_get (map (memory_for fill) (cells_of is_memory cells)) k ≡ Some (memory_for fill sized) = slice_get-map (memory_for fill)
        (cells_of is_memory cells) k ∙ ap (option_map (memory_for fill)) found in
        let same : Some (memory_tree memory) ≡ Some (memory_for fill sized) = sym a ∙ (ap (λ xs. slice_get xs k) m ∙ b) in
        writes_so (fill % 2 ^ sized.width) sized.cell memory (some_same (memory_tree memory) (memory_for fill sized) same);
  };
}
  where
    some_same : (a b : MemoryTree) → Some a ≡ Some b → a ≡ b
    some_same a b e = cc
