-- What registers and memories read is there, and what they hold fits.
use Rattle.std.proofs.Common.{ℕ, zero, suc, ◌≡◌, ◌<◌, ◌^◌, ◌==◌, inl, inr, List, [], ◌∷◌, length, map, take, set, Option, Some, None, slice_get, get_or, Bool, true, false, cond, if◌then◌else◌, All, arith, refl, ap, sym, ◌∙◌, length-set}
use Rattle.std.specs.List.{filter}
use Rattle.std.specs.Option.{option_map}
use Rattle.std.proofs.lemmas.List.{length-map}
use Rattle.std.proofs.lemmas.List.Elements.{All-set}
use Rattle.std.proofs.lemmas.List.Sums.{length-filter}
use Rattle.std.proofs.lemmas.Option.{slice_get_within, slice_get-get_or, slice_get-map, get_or_from_slice_get}
use Rattle.ae_netlist.specs.declared.cell.NetId.{NetId}
use Rattle.ae_netlist.specs.declared.cell.Cell.{Cell}
use Rattle.ae_netlist.specs.declared.cell.Cell.TheVariants.{Const, Reg, Mem}
use Rattle.ae_netlist.specs.declared.cell.SizedCell.{SizedCell}
use Rattle.ae_netlist.specs.Circuit.{IsNet, IsFormed, CellFits, depth_in_cell}
use Rattle.ae_netlist.specs.Counts.{is_register, is_memory, count_of, number_of, cells_of}
use Rattle.ae_netlist.specs.Rows.{AreFirsts}
use Rattle.ae_netlist.proofs.Counting.{filter_at}
use Rattle.ae_sim.proofs.Played.{HasTurned}
use Rattle.ae_sim.specs.declared.plan.Register.{Register}
use Rattle.ae_sim.specs.declared.plan.Memory.{Memory}
use Rattle.ae_sim.specs.Planned.{IsAfter, AreMemories, FitBelow, WritesAs, held_of, next_of, turned, written}

-- an element that has passed stands in the list
pub record StandsIn {X : Type 0} (p : X → Bool) (xs : List X) (x : X) : Type 0 where
  pub place : ℕ
  pub there : slice_get xs place ≡ Some x
  pub passes : p x ≡ true

later : {X : Type 0} (p : X → Bool) (z : X) (xs : List X) (x : X) → StandsIn p xs x → StandsIn p (z ∷ xs) x
later p z xs x h = record { place = suc h.place; there = h.there; passes = h.passes }

passed_step : {X : Type 0} (p : X → Bool) (z : X) (xs : List X) (x : X) (b : Bool) (k : ℕ) → b ≡ p z
    → ((i : ℕ) → slice_get (filter p xs) i ≡ Some x → StandsIn p xs x) → slice_get (cond b (z ∷ filter p xs) (filter p xs)) k ≡ Some x → StandsIn p (z ∷ xs) x
passed_step p z xs x true zero e rest h = let is : z ≡ x = cc in record { place = 0; there = h; passes = ap p (sym is) ∙ sym e }
passed_step p z xs x true (suc k) e rest h = later p z xs x (rest k h)
passed_step p z xs x false k e rest h = later p z xs x (rest k h)

pub passed : {X : Type 0} (p : X → Bool) (xs : List X) (x : X) (k : ℕ) → slice_get (filter p xs) k ≡ Some x → StandsIn p xs x
passed p [] x k h = cc
passed p (z ∷ xs) x k h = passed_step p z xs x (p z) k refl (λ i g. passed p xs x i g) h

mapped_some : {A B : Type 0} (f : A → B) (o : Option A) (y : B) → option_map f o ≡ Some y → (x : A) × (o ≡ Some x) × (y ≡ f x)
mapped_some f None y h = cc
mapped_some f (Some a) y h = (a, refl, cc)

-- the register of a number, and the cell of that number
pub record IsRegisterAt (cells : List SizedCell) (k : ℕ) (r : Register) : Type 0 where
  pub sized : SizedCell
  pub found : slice_get (cells_of is_register cells) k ≡ Some sized
  pub next : r.next ≡ next_of sized.cell

pub register_at : (cells : List SizedCell) (registers : List Register) (k : ℕ) (r : Register)
    → map (λ x. x.next) registers ≡ map (λ s. next_of s.cell) (cells_of is_register cells) → slice_get registers k ≡ Some r → IsRegisterAt cells k r
register_at cells registers k r same h =
    let e : slice_get (map (λ (x : Register). x.next) registers) k ≡ Some r.next = slice_get-map (λ (x : Register). x.next) registers k ∙
    ap (option_map (λ (x : Register). x.next)) h in
    let f : option_map (λ (s : SizedCell). next_of s.cell) (slice_get (cells_of is_register cells) k) ≡ Some r.next =
    sym (slice_get-map (λ (s : SizedCell). next_of s.cell) (cells_of is_register cells) k) ∙ (ap (λ xs. slice_get xs k) (sym same) ∙ e) in
    let s = mapped_some (λ (s : SizedCell). next_of s.cell) (slice_get (cells_of is_register cells) k) r.next f in
    record { sized = s.0; found = s.1; next = s.2 }

next_fits : (before cells : List SizedCell) (own w : ℕ) (cell : Cell) → is_register cell ≡ true → CellFits before cells own w cell
    → IsNet cells (next_of cell) w
next_fits before cells own w (Reg next) is h = h
next_fits before cells own w _ is h = cc

-- what a register takes is a net of its width
register_net : (cells : List SizedCell) (k : ℕ) (r : Register) (sized : SizedCell) → IsFormed cells → IsRegisterAt cells k r
    → slice_get (cells_of is_register cells) k ≡ Some sized → IsNet cells r.next sized.width
register_net cells k r sized formed at found =
    let same : Some at.sized ≡ Some sized = sym at.found ∙ found in
    let is : at.sized ≡ sized = cc in
    let stands = passed (λ s. is_register s.cell) cells sized k found in
    let net = next_fits (take stands.place cells) cells stands.place sized.width sized.cell stands.passes (formed.each stands.place sized stands.there).cell in
    rw (at.next ∙ ap (λ (s : SizedCell). next_of s.cell) is) net

pub next_inside : (cells : List SizedCell) (registers : List Register) (k : ℕ) (r : Register) → IsFormed cells
    → map (λ x. x.next) registers ≡ map (λ s. next_of s.cell) (cells_of is_register cells) → slice_get registers k ≡ Some r → r.next < length cells
next_inside cells registers k r formed same h =
    let at = register_at cells registers k r same h in
    let net = register_net cells k r at.sized formed at at.found in
    slice_get_within cells r.next net.sized net.found

-- the memory of a number, and the cell of that number
record IsMemoryAt (cells : List SizedCell) (k : ℕ) (m : Memory) : Type 0 where
  sized : SizedCell
  found : slice_get (cells_of is_memory cells) k ≡ Some sized
  writes : WritesAs m sized.cell

memory_at : (cells : List SizedCell) (memories : List Memory) (k : ℕ) (m : Memory) → length memories ≡ count_of is_memory cells → AreMemories cells memories
    → slice_get memories k ≡ Some m → IsMemoryAt cells k m
memory_at cells memories k m long ports h =
    let d : SizedCell = record { width = 0; cell = Const 0 } in
    let l : k < length (cells_of is_memory cells) = omega (
      arith,
      slice_get_within memories k m h,
      long,
      length-filter (λ (s : SizedCell). is_memory s.cell) cells,
    ) in
    let found : slice_get (cells_of is_memory cells) k ≡ Some (get_or (cells_of is_memory cells) k d) = slice_get-get_or (cells_of is_memory cells) k d l in
    record { sized = get_or (cells_of is_memory cells) k d; found = found; writes = ports.each k _ m found h }

-- what a memory reads is there, and the word that it may write fits
pub record ReadsWithin (cells : List SizedCell) (words : List ℕ) (m : Memory) (width : ℕ) : Type 0 where
  pub at : m.at < length cells
  pub next : m.next < length cells
  pub enable : m.enable < length cells
  pub fits : FitBelow cells words (length cells) → get_or words m.next 0 < 2 ^ width

reads_within : (cells : List SizedCell) (words : List ℕ) (own width : ℕ) (cell : Cell) (m : Memory) → is_memory cell ≡ true
    → slice_get cells own ≡ Some (record { width = width; cell = cell })
    → CellFits (take own cells) cells own width cell → WritesAs m cell → ReadsWithin cells words m width
reads_within cells words own width (Mem depth at next enable) m is found h w =
    let here : own < length cells = slice_get_within cells own _ found in
    elim h.2 [
      | inl u ↦ record {
        at = rw (w.0, u.at_own) here;
        next = rw (w.1, u.next_own) here;
        enable = rw (w.2, u.enable_own) here;
        fits = λ f. rw (w.1, u.next_own) (f own _ here found);
      }
      | inr u ↦
          let net = u.word in
          let place : next.0 < length cells = slice_get_within cells next.0 net.sized net.found in
          record {
            at = rw w.0 (slice_get_within cells at.0 u.address.net.sized u.address.net.found);
            next = rw w.1 place;
            enable = rw w.2 (slice_get_within cells enable.0 u.bit.sized u.bit.found);
            fits = λ f. rw (w.1, ← net.wide) (f next.0 net.sized place net.found);
          }
    ]
reads_within cells words own width _ m is found h w = cc

memory_within : (cells : List SizedCell) (words : List ℕ) (k : ℕ) (m : Memory) → IsFormed cells → (at : IsMemoryAt cells k m)
    → ReadsWithin cells words m at.sized.width
memory_within cells words k m formed at =
    let stands = passed (λ s. is_memory s.cell) cells at.sized k at.found in
    reads_within cells words stands.place at.sized.width at.sized.cell m stands.passes stands.there
    (formed.each stands.place at.sized stands.there).cell at.writes

pub memory_inside : (cells : List SizedCell) (memories : List Memory) (words : List ℕ) (k : ℕ) (m : Memory) → IsFormed cells
    → length memories ≡ count_of is_memory cells → AreMemories cells memories → slice_get memories k ≡ Some m → (width : ℕ) × ReadsWithin cells words m width
memory_inside cells memories words k m formed long ports h =
    let at = memory_at cells memories k m long ports h in
    (at.sized.width, memory_within cells words k m formed at)

-- after a clock
nexts_same : (words : List ℕ) (registers : List Register)
    → map (λ (x : Register). x.next) (map (turned words) registers) ≡ map (λ (x : Register). x.next) registers
nexts_same words [] = refl
nexts_same words (r ∷ rs) = ap (λ xs. r.next ∷ xs) (nexts_same words rs)

pub held_turned : (words : List ℕ) (registers : List Register)
    → map (λ (x : Register). x.held) (map (turned words) registers) ≡ map (λ (x : Register). get_or words x.next 0) registers
held_turned words [] = refl
held_turned words (r ∷ rs) = ap (λ xs. get_or words r.next 0 ∷ xs) (held_turned words rs)

writes_same : (cell : Cell) (m n : Memory) → n.at ≡ m.at → n.next ≡ m.next → n.enable ≡ m.enable → WritesAs m cell → WritesAs n cell
writes_same (Mem depth at next enable) m n a b c w = (a ∙ w.0, b ∙ w.1, c ∙ w.2)
writes_same _ m n a b c w = tt

choice : (b : Bool) (P : List ℕ → Type 0) (x y : List ℕ) → P x → P y → P (if b then x else y)
choice true P x y p q = p
choice false P x y p q = q

-- the memory of a number after a clock
pub record IsNew (words : List ℕ) (old new : List Memory) (k : ℕ) (n : Memory) : Type 0 where
  pub was : Memory
  pub there : slice_get old k ≡ Some was
  pub same_at : n.at ≡ was.at
  pub same_next : n.next ≡ was.next
  pub same_enable : n.enable ≡ was.enable
  pub wrote : n.words.items ≡ written words was was.words.items

pub is_new : (words : List ℕ) (old new : List Memory) (k : ℕ) (n : Memory) → length new ≡ length old
    → ((k : ℕ) (m : Memory) → slice_get old k ≡ Some m → IsAfter words m new k) → slice_get new k ≡ Some n → IsNew words old new k n
is_new words old new k n long after h =
    let l : k < length old = omega (arith, slice_get_within new k n h, long) in
    let there : slice_get old k ≡ Some (get_or old k n) = slice_get-get_or old k n l in
    let a = after k (get_or old k n) there in
    let same : Some a.memory ≡ Some n = sym a.found ∙ h in
    let is : n ≡ a.memory = cc in
    record {
      was = get_or old k n;
      there = there;
      same_at = ap (λ (x : Memory). x.at) is ∙ a.same_at;
      same_next = ap (λ (x : Memory). x.next) is ∙ a.same_next;
      same_enable = ap (λ (x : Memory). x.enable) is ∙ a.same_enable;
      wrote = ap (λ (x : Memory). x.words.items) is ∙ a.wrote;
    }

pub stored_at : (memories : List Memory) (k : ℕ) (m : Memory) → slice_get memories k ≡ Some m
    → get_or (map (λ (x : Memory). x.words.items) memories) k [] ≡ m.words.items
stored_at memories k m h =
    get_or_from_slice_get (map (λ (x : Memory). x.words.items) memories) k m.words.items []
    (slice_get-map (λ (x : Memory). x.words.items) memories k ∙ ap (option_map (λ (x : Memory). x.words.items)) h)

pub taken_at : (words : List ℕ) (registers : List Register) (k : ℕ) (r : Register) → slice_get registers k ≡ Some r
    → get_or (map (λ (x : Register). get_or words x.next 0) registers) k 0 ≡ get_or words r.next 0
taken_at words registers k r h =
    get_or_from_slice_get (map (λ (x : Register). get_or words x.next 0) registers) k (get_or words r.next 0) 0
    (slice_get-map (λ (x : Register). get_or words x.next 0) registers k ∙ ap (option_map (λ (x : Register). get_or words x.next 0)) h)

pub some_register : (cells : List SizedCell) (registers : List Register) (k : ℕ) (sized : SizedCell) → length registers ≡ count_of is_register cells
    → slice_get (cells_of is_register cells) k ≡ Some sized → (r : Register) × (slice_get registers k ≡ Some r)
some_register cells registers k sized long h =
    let d : Register = record { next = 0; held = 0 } in
    let l : k < length registers = omega (
      arith,
      slice_get_within (cells_of is_register cells) k sized h,
      long,
      length-filter (λ (s : SizedCell). is_register s.cell) cells,
    ) in
    (get_or registers k d, slice_get-get_or registers k d l)

some_memory : (xs : List Memory) (k : ℕ) → k < length xs → (m : Memory) × (slice_get xs k ≡ Some m)
some_memory [] k l = absurd (omega arith)
some_memory (x ∷ xs) zero l = (x, refl)
some_memory (x ∷ xs) (suc k) l = some_memory xs k (omega arith)

net_word : (cells : List SizedCell) (words : List ℕ) (m w : ℕ) → FitBelow cells words (length cells) → IsNet cells m w → get_or words m 0 < 2 ^ w
net_word cells words m w fits net = rw (← net.wide) (fits m net.sized (slice_get_within cells m net.sized net.found) net.found)

-- and so what they hold after the clock fits
pub stepped : (cells : List SizedCell) (registers : List Register) (old new : List Memory) (words : List ℕ) → IsFormed cells
    → AreFirsts cells (held_of registers old)
    → map (λ x. x.next) registers ≡ map (λ s. next_of s.cell) (cells_of is_register cells) → AreMemories cells old
    → FitBelow cells words (length cells) → length new ≡ length old → ((k : ℕ) (m : Memory) → slice_get old k ≡ Some m → IsAfter words m new k)
    → AreFirsts cells (held_of (map (turned words) registers) new)
    × (map (λ x. x.next) (map (turned words) registers) ≡ map (λ s. next_of s.cell) (cells_of is_register cells)) × AreMemories cells new
stepped cells registers old new words formed first nexts ports fits long after = (
  record {
    registers = rw (held_turned words registers) (length-map registers (λ (x : Register). get_or words x.next 0) ∙ many_registers);
    memories = length-map new (λ (x : Memory). x.words.items) ∙ (long ∙ many_memories);
    words = λ k sized found.
        let r = some_register cells registers k sized many_registers found in
        let net = register_net cells k r.0 sized formed (register_at cells registers k r.0 nexts r.1) found in
        rw (held_turned words registers, taken_at words registers k r.0 r.1) (net_word cells words r.0.next sized.width fits net);
    depths = λ k sized found.
        let n = new_at k sized found in
        rw (stored_at new k n.0 n.1.0, n.1.1.wrote) (choice (get_or words n.1.1.was.enable 0 == 1) (λ s. length s ≡ depth_in_cell sized.cell)
        (set n.1.1.was.words.items (get_or words n.1.1.was.at 0) (get_or words n.1.1.was.next 0)) n.1.1.was.words.items
        (length-set n.1.1.was.words.items (get_or words n.1.1.was.at 0) (get_or words n.1.1.was.next 0) ∙ deep k sized n.1.1.was found n.1.1.there)
        (deep k sized n.1.1.was found n.1.1.there));
    stores = λ k sized found.
        let n = new_at k sized found in
        rw (stored_at new k n.0 n.1.0, n.1.1.wrote) (choice (get_or words n.1.1.was.enable 0 == 1) (All (λ w. w < 2 ^ sized.width))
        (set n.1.1.was.words.items (get_or words n.1.1.was.at 0) (get_or words n.1.1.was.next 0)) n.1.1.was.words.items
        (All-set (λ w. w < 2 ^ sized.width) n.1.1.was.words.items (get_or words n.1.1.was.at 0) (get_or words n.1.1.was.next 0)
        (small k sized n.1.1.was found n.1.1.there) (full k sized n.1.1.was found n.1.1.there)) (full k sized n.1.1.was found n.1.1.there));
  },
  nexts_same words registers ∙ nexts,
  record {
    each = λ k sized n found h.
        let i = is_new words old new k n long after h in
        writes_same sized.cell i.was n i.same_at i.same_next i.same_enable (ports.each k sized i.was found i.there);
  },
)
  where
    many_registers : length registers ≡ count_of is_register cells
    many_registers = sym (length-map registers (λ (x : Register). x.held)) ∙ first.registers

    many_memories : length old ≡ count_of is_memory cells
    many_memories = sym (length-map old (λ (x : Memory). x.words.items)) ∙ first.memories

    new_at : (k : ℕ) (sized : SizedCell) → slice_get (cells_of is_memory cells) k ≡ Some sized → (n : Memory)
        × ((slice_get new k ≡ Some n) × IsNew words old new k n)
    new_at k sized found =
        let l : k < length old = omega (
          arith,
          slice_get_within (cells_of is_memory cells) k sized found,
          many_memories,
          length-filter (λ (s : SizedCell). is_memory s.cell) cells,
        ) in
        let w = some_memory old k l in
        let a = after k w.0 w.1 in
        (a.memory, (a.found, is_new words old new k a.memory long after a.found))

    deep : (k : ℕ) (sized : SizedCell) (m : Memory) → slice_get (cells_of is_memory cells) k ≡ Some sized → slice_get old k ≡ Some m
        → length m.words.items ≡ depth_in_cell sized.cell
    deep k sized m found h = ap length (sym (stored_at old k m h)) ∙ first.depths k sized found

    full : (k : ℕ) (sized : SizedCell) (m : Memory) → slice_get (cells_of is_memory cells) k ≡ Some sized → slice_get old k ≡ Some m
        → All (λ w. w < 2 ^ sized.width) m.words.items
    full k sized m found h = rw (stored_at old k m h) at (first.stores k sized found)

    small : (k : ℕ) (sized : SizedCell) (m : Memory) → slice_get (cells_of is_memory cells) k ≡ Some sized → slice_get old k ≡ Some m
        → get_or words m.next 0 < 2 ^ sized.width
    small k sized m found h = (memory_within cells words k m formed (record { sized = sized; found = found; writes = ports.each k sized m found h })).fits fits

-- and is what the cells say
pub has_turned : (cells : List SizedCell) (registers : List Register) (old new : List Memory) (words : List ℕ) → AreFirsts cells (held_of registers old)
    → map (λ x. x.next) registers ≡ map (λ s. next_of s.cell) (cells_of is_register cells) → AreMemories cells old
    → ((k : ℕ) (m : Memory) → slice_get old k ≡ Some m → IsAfter words m new k)
    → HasTurned cells (held_of registers old) (held_of (map (turned words) registers) new) words
has_turned cells registers old new words first nexts ports after = record {
  registers = λ n width to found.
      let k : ℕ = number_of is_register cells n in
      let there : slice_get (cells_of is_register cells) k ≡ Some (record { width = width; cell = Reg to }) = filter_at
      (λ s. is_register s.cell) cells n _ found refl in
      let r = some_register cells registers k _ (sym (length-map registers (λ (x : Register). x.held)) ∙ first.registers) there in
      let at = register_at cells registers k r.0 nexts r.1 in
      let same : Some at.sized ≡ Some (record { width = width; cell = Reg to }) = sym at.found ∙ there in
      let is : at.sized ≡ record { width = width; cell = Reg to } = cc in
      ap (λ xs. get_or xs k 0) (held_turned words registers) ∙
      (taken_at words registers k r.0 r.1 ∙ ap (λ i. get_or words i 0) (at.next ∙ ap (λ (s : SizedCell). next_of s.cell) is));
  memories = λ n width depth at to enable found.
      let k : ℕ = number_of is_memory cells n in
      let there : slice_get (cells_of is_memory cells) k ≡ Some (record { width = width; cell = Mem depth at to enable }) = filter_at
      (λ s. is_memory s.cell) cells n _ found refl in
      let l : k < length old = omega (
        arith,
        slice_get_within (cells_of is_memory cells) k _ there,
        sym (length-map old (λ (x : Memory). x.words.items)) ∙
            first.memories,
        length-filter (λ (s : SizedCell). is_memory s.cell) cells,
      ) in
      let m = some_memory old k l in
      let w : WritesAs m.0 (Mem depth at to enable) = ports.each k _ m.0 there m.1 in
      let a = after k m.0 m.1 in
      stored_at new k a.memory a.found ∙ (a.wrote ∙ written_as words m.0 at to enable (get_or (map (λ (x : Memory). x.words.items) old) k [])
      (stored_at old k m.0 m.1) w.0 w.1 w.2);
}
  where
    written_as : (words : List ℕ) (m : Memory) (at to enable : NetId) (store : List ℕ) → store ≡ m.words.items → m.at ≡ at.0 → m.next ≡ to.0
        → m.enable ≡ enable.0
        → written words m m.words.items ≡ (if get_or words enable.0 0 == 1 then set store (get_or words at.0 0) (get_or words to.0 0) else store)
    written_as words m at to enable store s a b c = rw (s, a, b, c) refl
