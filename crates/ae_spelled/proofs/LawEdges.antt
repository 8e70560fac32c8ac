-- What the `always` items of a written module make of registers and memories.
use Rattle.std.proofs.Common.{ℕ, zero, suc, ◌≡◌, ◌==◌, ◌+◌, ◌^◌, ◌<◌, ◌≤◌, Bool, true, false, List, [], ◌∷◌, ◌++◌, length, Option, Some, None, slice_get, arith, refl, sym, ap, ◌∙◌}
use Rattle.std.specs.Prelude.{map, bytes_eq, slice_set, if◌then◌else◌}
use Rattle.std.proofs.lemmas.Bool.{cond-true, cond-false}
use Rattle.ae_netlist.specs.declared.cell.NetId.{NetId}
use Rattle.ae_netlist.specs.declared.cell.Cell.{Cell}
use Rattle.ae_netlist.specs.declared.cell.Cell.TheVariants.{Input, Const, Op, Reg, Mem, Peek}
use Rattle.ae_netlist.specs.declared.cell.SizedCell.{SizedCell}
use Rattle.ae_netlist.specs.declared.cell.Outlet.{Outlet}
use Rattle.ae_netlist.specs.Circuit as c
use Rattle.ae_vmodule.specs.ModuleTree.{NetTree, ItemTree}
use Rattle.ae_runs.specs.Values.{ModuleClock, assigned, with_stored}
use Rattle.ae_runs.specs.Runs.{after_item, after_items, next_clock}
use Rattle.ae_judge.proofs.Members.{bytes_same, other_bytes}
use Rattle.ae_verilog.specs.NetlistModule.{number_name, net_name, net_value, each_numbered, declaration, assignment, edge}
use Rattle.ae_verilog.specs.Written.{IsWritableNetlist}
use Rattle.ae_spelled.proofs.LawNames.{number_same, number_fits}
use Rattle.ae_spelled.proofs.LawNets.{written, name_of}
use Rattle.ae_spelled.proofs.LawItems.{declarations, edges}
use Rattle.ae_spelled.proofs.LawValues.{Reads, cell_wide, net_is}

by_bit : (t : ℕ) (a b : List ℕ) → t < 2 → (if t == 0 then b else a) ≡ (if t == 1 then a else b)
by_bit zero a b h = refl
by_bit (suc zero) a b h = refl
by_bit (suc (suc t)) a b h = absurd (omega arith)

module _ (lines : ℕ → ℕ) (ns : List NetTree) (m : ModuleClock) where
  after_append : (is js : List ItemTree) (next : ModuleClock) → after_items ns m (is ++ js) next ≡ after_items ns m js (after_items ns m is next)
  after_append [] js next = refl
  after_append (i ∷ is) js next = after_append is js (after_item ns m i next)

  module _ (cells : List SizedCell) (outs : ℕ) where
    quiet_declaration : (k width : ℕ) (cell : Cell) (next : ModuleClock) → after_items ns m (declaration lines cells k width cell) next ≡ next
    quiet_declaration k width (Input port) next = refl
    quiet_declaration k width (Const v) next = refl
    quiet_declaration k width (Op op args) next = refl
    quiet_declaration k width (Reg after) next = refl
    quiet_declaration k width (Mem depth at after enable) next = refl
    quiet_declaration k width (Peek mem at) next = refl

    quiet_declarations : (s : ℕ) (xs : List SizedCell) (next : ModuleClock)
        → after_items ns m (each_numbered (λ net (sized : SizedCell). declaration lines cells net sized.width sized.cell) s xs) next ≡ next
    quiet_declarations s [] next = refl
    quiet_declarations s (x ∷ xs) next =
        after_append (declaration lines cells s x.width x.cell)
        (each_numbered (λ net (sized : SizedCell). declaration lines cells net sized.width sized.cell) (s + 1) xs) next
        ∙ ap (λ u. after_items ns m (each_numbered (λ net (sized : SizedCell). declaration lines cells net sized.width sized.cell) (s + 1) xs) u)
        (quiet_declaration s x.width x.cell next)
        ∙ quiet_declarations (s + 1) xs next

    quiet_assignments : (os : List Outlet) (next : ModuleClock) → after_items ns m (map (assignment lines cells outs) os) next ≡ next
    quiet_assignments [] next = refl
    quiet_assignments (o ∷ os) next = quiet_assignments os next

    -- a cell's edge changes its own name alone
    module _ (k : ℕ) (small : k < 2 ^ 64) where
      differs : (j : ℕ) → j < 2 ^ 64 → (j ≡ k → ⊥) → bytes_eq (number_name lines k) (number_name lines j) ≡ false
      differs j h other = other_bytes (number_name lines k) (number_name lines j) (λ e. other (number_same lines j k h small (sym e)))

      both_word : (b : Bool) (next : ModuleClock) (n : List ℕ) (at x : ℕ)
          → (if b then next else with_stored next n at x).word (number_name lines k) ≡ next.word (number_name lines k)
      both_word true next n at x = refl
      both_word false next n at x = refl

      word_other : (j : ℕ) (cell : Cell) (next : ModuleClock) → j < 2 ^ 64 → (j ≡ k → ⊥)
          → (after_items ns m (edge lines cells j cell) next).word (number_name lines k) ≡ next.word (number_name lines k)
      word_other j (Input port) next h other = refl
      word_other j (Const v) next h other = refl
      word_other j (Op op args) next h other = refl
      word_other j (Peek mem at) next h other = refl
      word_other j (Reg after) next h other = cond-false _ _ _ (differs j h other)
      word_other j (Mem depth at after enable) next h other =
          both_word (m.word (net_name lines cells enable.0) == 0) next (number_name lines j) (m.word (net_name lines cells at.0))
          (assigned ns m (number_name lines j) (net_value lines cells after.0))

      store_of_two : (b : Bool) (next : ModuleClock) (n : List ℕ) (at x : ℕ) → bytes_eq (number_name lines k) n ≡ false
          → (if b then next else with_stored next n at x).store (number_name lines k) ≡ next.store (number_name lines k)
      store_of_two true next n at x e = refl
      store_of_two false next n at x e = cond-false _ _ _ e

      store_other : (j : ℕ) (cell : Cell) (next : ModuleClock) → j < 2 ^ 64 → (j ≡ k → ⊥)
          → (after_items ns m (edge lines cells j cell) next).store (number_name lines k) ≡ next.store (number_name lines k)
      store_other j (Input port) next h other = refl
      store_other j (Const v) next h other = refl
      store_other j (Op op args) next h other = refl
      store_other j (Peek mem at) next h other = refl
      store_other j (Reg after) next h other = refl
      store_other j (Mem depth at after enable) next h other =
          store_of_two (m.word (net_name lines cells enable.0) == 0) next (number_name lines j) (m.word (net_name lines cells at.0))
          (assigned ns m (number_name lines j) (net_value lines cells after.0)) (differs j h other)

      abbrev edges_from : ℕ → List SizedCell → List ItemTree
      edges_from s xs = each_numbered (λ net (sized : SizedCell). edge lines cells net sized.cell) s xs

      edges_after_word : (s : ℕ) (xs : List SizedCell) (next : ModuleClock) → k < s → s + length xs ≤ 2 ^ 64
          → (after_items ns m (edges_from s xs) next).word (number_name lines k) ≡ next.word (number_name lines k)
      edges_after_word s [] next l few = refl
      edges_after_word s (x ∷ xs) next l few =
          ap (λ (u : ModuleClock). u.word (number_name lines k)) (after_append (edge lines cells s x.cell) (edges_from (s + 1) xs) next)
          ∙ edges_after_word (s + 1) xs (after_items ns m (edge lines cells s x.cell) next) (omega arith) (omega arith)
          ∙ word_other s x.cell next (omega arith) (λ e. omega arith)

      edges_after_store : (s : ℕ) (xs : List SizedCell) (next : ModuleClock) → k < s → s + length xs ≤ 2 ^ 64
          → (after_items ns m (edges_from s xs) next).store (number_name lines k) ≡ next.store (number_name lines k)
      edges_after_store s [] next l few = refl
      edges_after_store s (x ∷ xs) next l few =
          ap (λ (u : ModuleClock). u.store (number_name lines k)) (after_append (edge lines cells s x.cell) (edges_from (s + 1) xs) next)
          ∙ edges_after_store (s + 1) xs (after_items ns m (edge lines cells s x.cell) next) (omega arith) (omega arith)
          ∙ store_other s x.cell next (omega arith) (λ e. omega arith)

      register_edge : (s : ℕ) (xs : List SizedCell) (next : ModuleClock) (j width : ℕ) (after : NetId)
          → slice_get xs j ≡ Some (record { width = width; cell = Reg after }) → s + j ≡ k → s + length xs ≤ 2 ^ 64
          → (after_items ns m (edges_from s xs) next).word (number_name lines k) ≡ assigned ns m (number_name lines k) (net_value lines cells after.0)
      register_edge s [] next j width after h e few = absurd
          (let z : ◌≡◌ {A = Option SizedCell} None (Some (record { width = width; cell = Reg after })) = h in cc)
      register_edge s (x ∷ xs) next zero width after h e few =
          let same : s ≡ k = omega arith in
          let is : x ≡ record { width = width; cell = Reg after } = (let z : Some x ≡ Some (record { width = width; cell = Reg after }) = h in cc) in
          ap (λ (u : ModuleClock). u.word (number_name lines k)) (after_append (edge lines cells s x.cell) (edges_from (s + 1) xs) next)
          ∙ edges_after_word (s + 1) xs (after_items ns m (edge lines cells s x.cell) next) (omega arith) (omega arith)
          ∙ (λ i. (after_items ns m (edge lines cells (same i) (is i).cell) next).word (number_name lines k))
          ∙ cond-true _ _ _ (bytes_same (number_name lines k) (number_name lines k) refl)
      register_edge s (x ∷ xs) next (suc j) width after h e few =
          ap (λ (u : ModuleClock). u.word (number_name lines k)) (after_append (edge lines cells s x.cell) (edges_from (s + 1) xs) next)
          ∙ register_edge (s + 1) xs (after_items ns m (edge lines cells s x.cell) next) j width after h (omega arith) (omega arith)

      abbrev written_store : NetId → NetId → NetId → List ℕ → List ℕ
      written_store at after enable old = if m.word (net_name lines cells enable.0) == 0 then old else slice_set old (m.word (net_name lines cells at.0))
          (assigned ns m (number_name lines k) (net_value lines cells after.0))

      own_store : (b : Bool) (next : ModuleClock) (at x : ℕ)
          → (if b then next else with_stored next (number_name lines k) at x).store
          (number_name lines k) ≡ (if b then next.store (number_name lines k) else slice_set (next.store (number_name lines k)) at x)
      own_store true next at x = refl
      own_store false next at x = cond-true _ _ _ (bytes_same (number_name lines k) (number_name lines k) refl)

      memory_edge : (s : ℕ) (xs : List SizedCell) (next : ModuleClock) (j width depth : ℕ) (at after enable : NetId)
          → slice_get xs j ≡ Some (record { width = width; cell = Mem depth at after enable }) → s + j ≡ k → s + length xs ≤ 2 ^ 64
          → (after_items ns m (edges_from s xs) next).store (number_name lines k) ≡ written_store at after enable (next.store (number_name lines k))
      memory_edge s [] next j width depth at after enable h e few = absurd
          (let z : ◌≡◌ {A = Option SizedCell} None (Some (record { width = width; cell = Mem depth at after enable })) = h in cc)
      memory_edge s (x ∷ xs) next zero width depth at after enable h e few =
          let same : s ≡ k = omega arith in
          let is : x ≡ record { width = width; cell = Mem depth at after enable } = (let z : Some x ≡ Some
          (record { width = width; cell = Mem depth at after enable }) = h in cc) in
          ap (λ (u : ModuleClock). u.store (number_name lines k)) (after_append (edge lines cells s x.cell) (edges_from (s + 1) xs) next)
          ∙ edges_after_store (s + 1) xs (after_items ns m (edge lines cells s x.cell) next) (omega arith) (omega arith)
          ∙ (λ i. (after_items ns m (edge lines cells (same i) (is i).cell) next).store (number_name lines k))
          ∙ own_store (m.word (net_name lines cells enable.0) == 0) next (m.word (net_name lines cells at.0))
          (assigned ns m (number_name lines k) (net_value lines cells after.0))
      memory_edge s (x ∷ xs) next (suc j) width depth at after enable h e few =
          ap (λ (u : ModuleClock). u.store (number_name lines k)) (after_append (edge lines cells s x.cell) (edges_from (s + 1) xs) next)
          ∙ memory_edge (s + 1) xs (after_items ns m (edge lines cells s x.cell) next) j width depth at after enable h (omega arith) (omega arith)
          ∙ ap (written_store at after enable) (store_other s x.cell next (omega arith) (λ q. omega arith))

module _ (lines : ℕ → ℕ) (cells : List SizedCell) (outlets : List Outlet) (outs : ℕ) (ok : IsWritableNetlist cells outlets outs) (m : ModuleClock) where
  edges_alone : next_clock (written lines cells outlets outs) m ≡ after_items (written lines cells outlets outs).nets m (edges lines cells outlets outs) m
  unfolding next_clock
  edges_alone =
      let ns : List NetTree = (written lines cells outlets outs).nets in
      after_append lines ns m (declarations lines cells outlets outs) (map (assignment lines cells outs) outlets ++ edges lines cells outlets outs) m
      ∙ ap (after_items ns m (map (assignment lines cells outs) outlets ++ edges lines cells outlets outs)) (quiet_declarations lines ns m cells outs 0 cells m)
      ∙ after_append lines ns m (map (assignment lines cells outs) outlets) (edges lines cells outlets outs) m
      ∙ ap (after_items ns m (edges lines cells outlets outs)) (quiet_assignments lines ns m cells outs outlets m)

  module _ (ws : ℕ → ℕ) (ss : ℕ → List ℕ) (r : Reads lines cells outlets outs ok m ws ss) where
    pub register_next : (k width : ℕ) (after : NetId) → slice_get cells k ≡ Some (record { width = width; cell = Reg after })
        → (next_clock (written lines cells outlets outs) m).word (number_name lines k) ≡ ws after.0
    register_next k width after h =
        ap (λ (u : ModuleClock). u.word (number_name lines k)) edges_alone
        ∙ register_edge lines (written lines cells outlets outs).nets m cells outs k (number_fits lines cells outlets outs ok k _ h) 0 cells m k width after h
        (omega arith) (let f = ok.few in omega arith)
        ∙ net_is lines cells outlets outs ok m ws ss r (number_name lines k) width after.0 (cell_wide lines cells outlets outs ok k _ h)
        (ok.formed.each k _ h).cell

    pub memory_next : (k width depth : ℕ) (at after enable : NetId) → slice_get cells k ≡ Some (record { width = width; cell = Mem depth at after enable })
        → c.IsWritten cells width depth at.0 after.0 enable.0
        → (next_clock (written lines cells outlets outs) m).store
        (number_name lines k) ≡ (if ws enable.0 == 1 then slice_set (ss k) (ws at.0) (ws after.0) else ss k)
    memory_next k width depth at after enable h w =
        let kept : c.IsMemory cells k width depth = record { at = at; next = after; enable = enable; found = h } in
        let store : m.store (number_name lines k) ≡ ss k = ap m.store (sym (name_of lines cells outlets outs k _ h)) ∙ r.store k width depth kept in
        let bit : m.word (net_name lines cells enable.0) ≡ ws enable.0 = r.word enable.0 1 w.bit in
        let place : m.word (net_name lines cells at.0) ≡ ws at.0 = r.word at.0 _ w.address.net in
        let value = net_is lines cells outlets outs ok m ws ss r (number_name lines k) width after.0 (cell_wide lines cells outlets outs ok k _ h) w.word in
        ap (λ (u : ModuleClock). u.store (number_name lines k)) edges_alone
        ∙ memory_edge lines (written lines cells outlets outs).nets m cells outs k
        (number_fits lines cells outlets outs ok k _ h) 0 cells m k width depth at after enable h (omega arith) (let f = ok.few in omega arith)
        ∙ (λ i. if bit i == 0 then store i else slice_set (store i) (place i) (value i))
        ∙ by_bit (ws enable.0) (slice_set (ss k) (ws at.0) (ws after.0)) (ss k) (r.fits enable.0 1 w.bit)
