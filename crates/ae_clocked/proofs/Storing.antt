-- What one more memory, and a look into one, do to a netlist.
use Rattle.std.proofs.Common.{ℕ, ◌≡◌, ◌≢◌, ◌<◌, ◌≤◌, ◌^◌, ◌==◌, inl, inr, false, List, ◌++◌, ◌∷◌, [], length, set, take, Some, slice_get, Result, Ok, Err, IfOk, OnOk, arith, refl, sym, ap, ◌∙◌, subst, length-append}
use Rattle.std.proofs.lemmas.Bool.{ne_eqb}
use Rattle.std.proofs.lemmas.Option.{unwrap_or-slice_get, slice_get_within}
use Rattle.ae_netlist.specs.declared.cell.NetId.{NetId}
use Rattle.ae_netlist.specs.declared.cell.Cell.TheVariants.{Mem, Peek}
use Rattle.ae_netlist.specs.declared.cell.SizedCell.{SizedCell}
use Rattle.ae_netlist.specs.Circuit.{Circuit, IsNet, IsMemory, IsFormed, IsWritten, Extends, width_of, depth_of, depth_in, new_memory}
use Rattle.ae_netlist.specs.Counts.{AreWhole, is_input, is_memory, is_mul, count_of, is_register}
use Rattle.ae_netlist.specs.Runs.{word_at, store_at, InEveryRunFrom}
use Rattle.ae_netlist.proofs.Gets.{get_pushed, get_push_cases}
use Rattle.ae_netlist.proofs.Growing.{net_later, net_width, width_is, net_from_take, memory_from_take, extends_append}
use Rattle.ae_netlist.proofs.Carried.{carries_extends, carries_later, carries_trans}
use Rattle.ae_netlist.proofs.Counting.{count_push}
use Rattle.ae_netlist.proofs.ReadAt.{store_got}
use Rattle.ae_netlist.proofs.Shapes.{clock_shaped, cell_holds}
use Rattle.ae_gates.specs.Cells.{Grows, Adds, IsConstant, is_test}
use Rattle.ae_gates.proofs.Added.{IsAdded, grows_length, net_within, own_net}
use Rattle.ae_gates.proofs.Adding.{grows_trans, stays}
use Rattle.ae_clocked.specs.Rings.{AddsMemories, IsStore, IsLook}

abbrev pub memory_cell : (w d : ℕ) → NetId → NetId → NetId → SizedCell
memory_cell w d at next enable = record { width = w; cell = Mem d at next enable }

abbrev pub peek_cell : ℕ → NetId → NetId → SizedCell
peek_cell w m at = record { width = w; cell = Peek m at }

-- ---- what was there

written_in : (cells : List SizedCell) (m w d : ℕ) (at next enable : NetId) → IsFormed cells → slice_get cells m ≡ Some (memory_cell w d at next enable)
    → enable.0 ≢ m → IsNet cells at.0 (width_of cells at.0)
written_in cells m w d at next enable formed found ne =
    elim (formed.each m (memory_cell w d at next enable) found).cell.2 [ inl u ↦ absurd (ne u.enable_own) | inr u ↦ u.address.net ]

peeked_in : (cells : List SizedCell) (n w : ℕ) (mem from : NetId) → IsFormed cells → slice_get cells n ≡ Some (peek_cell w mem from) → (v : ℕ)
    × IsNet cells from.0 v
peeked_in cells n w mem from formed found =
    let fits = formed.each n (peek_cell w mem from) found in
    (width_of (take n cells) from.0, net_from_take cells n from.0 (width_of (take n cells) from.0) fits.cell.address.net)

-- a look is into a memory that is there
peeks_within : (cells : List SizedCell) (n w : ℕ) (mem from : NetId) → IsFormed cells → slice_get cells n ≡ Some (peek_cell w mem from) → mem.0 < length cells
peeks_within cells n w mem from formed found =
    let fits = formed.each n (peek_cell w mem from) found in
    let memory = memory_from_take cells n mem.0 w fits.cell.depth fits.cell.memory in
    slice_get_within cells mem.0 _ memory.found

-- ---- one more look

whole_peeked : (cells : List SizedCell) (w d : ℕ) (m at : NetId) → IsFormed cells → IsMemory cells m.0 w d → IsNet cells at.0 (width_of cells at.0)
    → 2 ^ width_of cells at.0 ≤ d → AreWhole cells → AreWhole (cells ++ peek_cell w m at ∷ [])
whole_peeked cells w d m at formed memory place deep h = record {
  each = λ k v e from next enable found. elim (get_push_cases cells (peek_cell w m at) k (memory_cell v e from next enable) found) [
    | inr u ↦ (let no : Peek m at ≡ Mem e from next enable = ap (λ (x : SizedCell). x.cell) u.1 in cc)
    | inl u ↦
        let was = h.each k v e from next enable u.0 in
        record {
          connected = was.connected;
          deep = rw (stays cells (peek_cell w m at) from.0 (width_of cells from.0) (written_in cells k v e from next enable formed u.0 was.connected)) was.deep;
          peeks = λ n j mem there seen is. elim (get_push_cases cells (peek_cell w m at) n (peek_cell j mem there) seen) [
            | inl q ↦
                let known = peeked_in cells n j mem there formed q.0 in
                rw (stays cells (peek_cell w m at) there.0 known.0 known.1) (was.peeks n j mem there q.0 is)
            | inr q ↦
                let cells_same : Peek m at ≡ Peek mem there = ap (λ (x : SizedCell). x.cell) q.1 in
                let same_mem : m ≡ mem = cc in
                let same_at : at ≡ there = cc in
                let at_k : slice_get cells k ≡ Some (memory_cell w d memory.at memory.next memory.enable) = ap (slice_get cells)
                (sym is ∙ ap (λ (x : NetId). x.0) (sym same_mem)) ∙ memory.found in
                let one : depth_in (Some (memory_cell w d memory.at memory.next memory.enable)) ≡ depth_in
                (Some (memory_cell v e from next enable)) = ap depth_in (sym at_k ∙ u.0) in
                let depth : d ≡ e = one in
                subst (λ (x : NetId). 2 ^ width_of (cells ++ peek_cell w m at ∷ []) x.0 ≤ e) same_at
                (rw (stays cells (peek_cell w m at) at.0 (width_of cells at.0) place) (omega (arith, deep, depth)))
          ];
        }
  ];
}

pub adds_peek : (old new : Circuit) (w d : ℕ) (m at : NetId) → IsFormed old.cells → IsMemory old.cells m.0 w d → IsNet old.cells at.0 (width_of old.cells at.0)
    → 2 ^ width_of old.cells at.0 ≤ d
    → new ≡ record old { cells = old.cells ++ peek_cell w m at ∷ [] } → Adds old new 1 0
adds_peek old new w d m at formed memory place deep e = rw e (record {
  grows = record {
    extends = extends_append old.cells (peek_cell w m at ∷ []);
    limit = refl;
    outlets = refl;
    inputs = count_push (λ x. is_input x.cell) old.cells (peek_cell w m at) ∙ omega arith;
  };
  cells = omega (arith, length-append old.cells (peek_cell w m at ∷ []));
  muls = count_push (λ x. is_mul x.cell) old.cells (peek_cell w m at);
  memories = count_push (λ x. is_memory x.cell) old.cells (peek_cell w m at) ∙ omega arith;
  whole = whole_peeked old.cells w d m at formed memory place deep;
})

pub added_peek : {E : Type 0} (old new : Circuit) (r : Result NetId E) (w d : ℕ) (m at : NetId) → IsFormed old.cells → IsMemory old.cells m.0 w d
    → IsNet old.cells at.0 (width_of old.cells at.0) → 2 ^ width_of old.cells at.0 ≤ d
    → OnOk r (new ≡ record old { cells = old.cells ++ peek_cell w m at ∷ [] }) → OnOk r (Adds old new 1 0)
added_peek old new (Ok x) w d m at formed memory place deep ok = adds_peek old new w d m at formed memory place deep ok
added_peek old new (Err x) w d m at formed memory place deep ok = tt

pub peek_net : {E : Type 0} (old new : Circuit) (r : Result NetId E) (w : ℕ) (m at : NetId) → IsAdded old new r (peek_cell w m at)
    → IfOk r (λ y. IsNet new.cells y.0 w)
peek_net old new (Ok y) w m at a = rw (a.1, a.0) (record { sized = peek_cell w m at; found = get_pushed old.cells _; plain = tt; wide = refl })
peek_net old new (Err e) w m at a = a.0

peek_word : (cells : List SizedCell) (w : ℕ) (m at : NetId)
    → InEveryRunFrom (length cells) (cells ++ peek_cell w m at ∷ []) (λ run. IsLook run (length cells) m.0 at.0)
peek_word cells w m at = λ all c run r t l. r.settles t (length cells) (peek_cell w m at) l (c.keeps (length cells) _ (omega arith) (get_pushed cells _))
    ∙ unwrap_or-slice_get (store_at run t m.0) (word_at run t at.0) 0

pub peek_words : {E : Type 0} (old new : Circuit) (r : Result NetId E) (w : ℕ) (m at : NetId) → IsAdded old new r (peek_cell w m at)
    → IfOk r (λ y. InEveryRunFrom (length old.cells) new.cells (λ run. IsLook run y.0 m.0 at.0))
peek_words old new (Ok y) w m at a = rw (a.1, a.0) (peek_word old.cells w m at)
peek_words old new (Err e) w m at a = a.0

-- ---- one more memory

-- the last element is written
pub set_pushed : {X : Type 0} (xs : List X) (y z : X) → set (xs ++ y ∷ []) (length xs) z ≡ xs ++ z ∷ []
set_pushed [] y z = refl
set_pushed (x ∷ xs) y z = ap (λ rest. x ∷ rest) (set_pushed xs y z)

whole_stored : (cells : List SizedCell) (w d : ℕ) (at next enable : NetId) → IsFormed cells → enable.0 ≢ length cells → IsNet cells at.0 (width_of cells at.0)
    → 2 ^ width_of cells at.0 ≤ d → AreWhole cells
    → AreWhole (cells ++ memory_cell w d at next enable ∷ [])
whole_stored cells w d at next enable formed ne place deep h = record {
  each = λ k v e from word bit found. elim (get_push_cases cells (memory_cell w d at next enable) k (memory_cell v e from word bit) found) [
    | inl u ↦
        let was = h.each k v e from word bit u.0 in
        record {
          connected = was.connected;
          deep = rw (stays cells (memory_cell w d at next enable) from.0 (width_of cells from.0)
              (written_in cells k v e from word bit formed u.0 was.connected)) was.deep;
          peeks = λ n j mem there seen is. elim (get_push_cases cells (memory_cell w d at next enable) n (peek_cell j mem there) seen) [
            | inl q ↦
                let known = peeked_in cells n j mem there formed q.0 in
                rw (stays cells (memory_cell w d at next enable) there.0 known.0 known.1) (was.peeks n j mem there q.0 is)
            | inr q ↦ (let no : Mem d at next enable ≡ Peek mem there = ap (λ (x : SizedCell). x.cell) q.1 in cc)
          ];
        }
    | inr u ↦
        let cells_same : Mem d at next enable ≡ Mem e from word bit = ap (λ (x : SizedCell). x.cell) u.1 in
        let depth : d ≡ e = cc in
        let place_same : at ≡ from = cc in
        let bit_same : enable ≡ bit = cc in
        record {
          connected = λ is. ne (ap (λ (x : NetId). x.0) bit_same ∙ (is ∙ u.0));
          deep = subst (λ (x : NetId). 2 ^ width_of (cells ++ memory_cell w d at next enable ∷ []) x.0 ≤ e) place_same
              (rw (stays cells (memory_cell w d at next enable) at.0 (width_of cells at.0) place) (omega (arith, deep, depth)));
          peeks = λ n j mem there seen is. elim (get_push_cases cells (memory_cell w d at next enable) n (peek_cell j mem there) seen) [
            | inl q ↦ (let within : mem.0 < length cells = peeks_within cells n j mem there formed q.0 in let same : mem.0 ≡ k = is in
                let last : k ≡ length cells = u.0 in absurd (omega arith))
            | inr q ↦ (let no : Mem d at next enable ≡ Peek mem there = ap (λ (x : SizedCell). x.cell) q.1 in cc)
          ];
        }
  ];
}

pub adds_store : (old new : Circuit) (w d : ℕ) (at next enable : NetId) → IsFormed old.cells → enable.0 ≢ length old.cells
    → IsNet old.cells at.0 (width_of old.cells at.0) → 2 ^ width_of old.cells at.0 ≤ d
    → new ≡ record old { cells = old.cells ++ memory_cell w d at next enable ∷ [] } → AddsMemories old new 1 1
adds_store old new w d at next enable formed ne place deep e = rw e (record {
  grows = record {
    extends = extends_append old.cells (memory_cell w d at next enable ∷ []);
    limit = refl;
    outlets = refl;
    inputs = count_push (λ x. is_input x.cell) old.cells (memory_cell w d at next enable) ∙ omega arith;
  };
  cells = omega (arith, length-append old.cells (memory_cell w d at next enable ∷ []));
  muls = count_push (λ x. is_mul x.cell) old.cells (memory_cell w d at next enable) ∙ omega arith;
  memories = omega (arith, count_push (λ x. is_memory x.cell) old.cells (memory_cell w d at next enable));
  whole = whole_stored old.cells w d at next enable formed ne place deep;
})

-- a memory that is written in every clock
pub store_words : (cells : List SizedCell) (w d : ℕ) (at next enable : NetId) → enable.0 ≢ length cells
    → InEveryRunFrom (length cells) (cells ++ memory_cell w d at next enable ∷ []) (λ run. IsConstant run enable.0 1 → IsStore run (length cells) at.0 next.0 d)
store_words cells w d at next enable ne = λ all c run r always.
    let there : slice_get all (length cells) ≡ Some (memory_cell w d at next enable) = c.keeps (length cells) _ (omega arith) (get_pushed cells _) in
    record {
      long = λ t l. rw (store_got run t (length cells)) (cell_holds (clock_shaped r t l) (length cells) _ there).1;
      takes = λ t l.
          let other : (enable.0 == length cells) ≡ false = ne_eqb enable.0 (length cells) ne in
          let one : word_at run t enable.0 ≡ 1 = always t (omega arith) in
          rw (other, one) at (r.steps t (length cells) (memory_cell w d at next enable) l there);
    }

depth_is : (cells : List SizedCell) (n : ℕ) (sized : SizedCell) → slice_get cells n ≡ Some sized → depth_of cells n ≡ depth_in (Some sized)
unfolding depth_of
depth_is cells n sized h = ap depth_in h

-- the memory that was just added, before and after it is connected
pub fresh_memory : (a b : Circuit) (m : NetId) (w d : ℕ) → m ≡ record { 0 = length a.cells }
    → b ≡ record a { cells = a.cells ++ new_memory (length a.cells) w d ∷ [] }
    → IsMemory b.cells m.0 (width_of b.cells m.0) (depth_of b.cells m.0)
fresh_memory a b m w d em eb =
    let there : slice_get (a.cells ++ new_memory (length a.cells) w d ∷ []) (length a.cells) ≡ Some (new_memory (length a.cells) w d) = get_pushed a.cells _ in
    let wide : width_of (a.cells ++ new_memory (length a.cells) w d ∷ []) (length a.cells) ≡ w = width_is _ _ _ there in
    let deep : depth_of (a.cells ++ new_memory (length a.cells) w d ∷ []) (length a.cells) ≡ d = depth_is _ _ _ there in
    rw (eb, em, wide, deep) (record {
      at = record { 0 = length a.cells };
      next = record { 0 = length a.cells };
      enable = record { 0 = length a.cells };
      found = there;
    })

pub fresh_written : (a b : Circuit) (m at x bit : NetId) (w v d : ℕ) → m ≡ record { 0 = length a.cells }
    → b ≡ record a { cells = a.cells ++ new_memory (length a.cells) w d ∷ [] }
    → IsNet a.cells at.0 v → 2 ^ v ≤ d → IsNet a.cells x.0 w → IsNet a.cells bit.0 1
    → IsWritten b.cells (width_of b.cells m.0) (depth_of b.cells m.0) at.0 x.0 bit.0
fresh_written a b m at x bit w v d em eb place room net one =
    let more : List SizedCell = a.cells ++ new_memory (length a.cells) w d ∷ [] in
    let there : slice_get more (length a.cells) ≡ Some (new_memory (length a.cells) w d) = get_pushed a.cells _ in
    let wide : width_of more (length a.cells) ≡ w = width_is _ _ _ there in
    let deep : depth_of more (length a.cells) ≡ d = depth_is _ _ _ there in
    let grown : Extends a.cells more = extends_append a.cells _ in
    let here : IsNet more at.0 v = net_later grown place in
    let is : width_of more at.0 ≡ v = net_width here in
    rw (eb, em, wide, deep) (record {
      address = record { net = own_net here; inside = inl (rw is room) };
      word = net_later grown net;
      bit = net_later grown one;
    })

pub stored_cells : (a b c : Circuit) (m at x bit : NetId) (w d : ℕ) → m ≡ record { 0 = length a.cells }
    → b ≡ record a { cells = a.cells ++ new_memory (length a.cells) w d ∷ [] }
    → c ≡ record b { cells = set b.cells m.0 (record { width = width_of b.cells m.0; cell = Mem (depth_of b.cells m.0) at x bit }) }
    → c ≡ record a { cells = a.cells ++ memory_cell w d at x bit ∷ [] }
stored_cells a b c m at x bit w d em eb ec =
    let there : slice_get (a.cells ++ new_memory (length a.cells) w d ∷ []) (length a.cells) ≡ Some (new_memory (length a.cells) w d) = get_pushed a.cells _ in
    let wide : width_of (a.cells ++ new_memory (length a.cells) w d ∷ []) (length a.cells) ≡ w = width_is _ _ _ there in
    let deep : depth_of (a.cells ++ new_memory (length a.cells) w d ∷ []) (length a.cells) ≡ d = depth_is _ _ _ there in
    rw (ec, eb, em, wide, deep) (ap (λ (cells : List SizedCell). record a { cells = cells }) (set_pushed a.cells _ (memory_cell w d at x bit)))

pub stored_memory : (a c : Circuit) (m at x bit : NetId) (w d : ℕ) → m ≡ record { 0 = length a.cells }
    → c ≡ record a { cells = a.cells ++ memory_cell w d at x bit ∷ [] } → IsMemory c.cells m.0 w d
stored_memory a c m at x bit w d em ec = rw (ec, em) (record { at = at; next = x; enable = bit; found = get_pushed a.cells _ })

pub stored_adds : (old a c : Circuit) (m at x bit : NetId) (w v d : ℕ) → IsFormed a.cells → Adds old a 1 0 → IsNet a.cells bit.0 1 → IsNet a.cells at.0 v
    → 2 ^ v ≤ d
    → c ≡ record a { cells = a.cells ++ memory_cell w d at x bit ∷ [] } → AddsMemories old c 2 1
stored_adds old a c m at x bit w v d formed before one place room ec =
    let is : width_of a.cells at.0 ≡ v = net_width place in
    let last : bit.0 < length a.cells = net_within one in
    let more : AddsMemories a c 1 1 = adds_store a c w d at x bit formed (λ e. absurd (omega arith)) (own_net place) (rw is room) ec in
    record {
      grows = grows_trans before.grows more.grows;
      cells = omega (arith, before.cells, more.cells);
      muls = omega (arith, before.muls, more.muls);
      memories = omega (arith, before.memories, more.memories);
      whole = λ h. more.whole (before.whole h);
    }

pub stored_words : (old a c : Circuit) (m at x bit : NetId) (w d : ℕ) → Grows old a → IsNet a.cells bit.0 1
    → InEveryRunFrom (length old.cells) a.cells (λ run. IsConstant run bit.0 1)
    → m ≡ record { 0 = length a.cells } → c ≡ record a { cells = a.cells ++ memory_cell w d at x bit ∷ [] }
    → InEveryRunFrom (length old.cells) c.cells (λ run. IsStore run m.0 at.0 x.0 d)
stored_words old a c m at x bit w d g one always em ec =
    let last : bit.0 < length a.cells = net_within one in
    let ne : bit.0 ≢ length a.cells = λ e. absurd (omega arith) in
    rw (ec, em) (λ all k run is. store_words a.cells w d at x bit ne all (carries_later _ _ (grows_length g) k) run is
    (always all (carries_trans (carries_extends _ (extends_append a.cells _)) k) run is))

-- it is no register and compares nothing
pub stored_registers : (a c : Circuit) (at x bit : NetId) (w d : ℕ) → c ≡ record a { cells = a.cells ++ memory_cell w d at x bit ∷ [] }
    → count_of is_register c.cells ≤ count_of is_register a.cells
stored_registers a c at x bit w d ec = rw ec (omega (arith, count_push (λ y. is_register y.cell) a.cells (memory_cell w d at x bit)))

pub stored_tests : (a c : Circuit) (at x bit : NetId) (w d : ℕ) → c ≡ record a { cells = a.cells ++ memory_cell w d at x bit ∷ [] }
    → count_of is_test c.cells ≤ count_of is_test a.cells
stored_tests a c at x bit w d ec = rw ec (omega (arith, count_push (λ y. is_test y.cell) a.cells (memory_cell w d at x bit)))
