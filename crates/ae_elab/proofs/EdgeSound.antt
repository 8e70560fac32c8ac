-- The statements of a regular module have values, and their names have nets.
use Rattle.std.proofs.Common.{ℕ, suc, ◌≡◌, ◌+◌, ◌^◌, inl, inr, true, false, List, [], ◌∷◌, ◌++◌, Option, Some, slice_get, refl, sym, ap, ◌∙◌, subst}
use Rattle.std.specs.Prelude.{nat_lt}
use Rattle.std.specs.List.{AllByRecursion}
use Rattle.std.proofs.lemmas.Bool.{cases_Bool, or_parts, both_ways, false_from_ne_true}
use Rattle.ae_netlist.specs.declared.cell.NetId.{NetId}
use Rattle.ae_vmodule.specs.declared.module.NetKind.{NetKind}
use Rattle.ae_vmodule.specs.declared.module.NetKind.TheVariants.{Input, Wire, OutWire, Reg, OutReg, Memory}
use Rattle.ae_vmodule.specs.ModuleTree.{ExprTree, index, StmtTree, set, put, when, either, block_end, block_more, NetTree, ItemTree, nets, assigns, always, ModuleTree}
use Rattle.ae_judge.specs.Names.{Among, is_input_kind, is_memory_name, is_memory_kind, is_register_name, is_register_kind, is_clock, depth_of, names_in, passes, stmt_reads, stmt_targets}
use Rattle.ae_judge.specs.Widths.{declared_width, own_width}
use Rattle.ae_judge.specs.Faults.{NetAt, is_place, is_misused, is_misused_in_stmt, is_outside, is_outside_of, is_too_wide, is_too_wide_in_stmt, is_too_wide_in_item}
use Rattle.ae_judge.specs.Shape.{IsLettered, IsPlaced, EachInStmt, IsShapely, IsLetteredItem, IsPlacedItem}
use Rattle.ae_judge.specs.Regular.{IsRegular}
use Rattle.ae_runs.specs.Named.{IsNamed, IsReady, place_of}
use Rattle.ae_order.specs.Sound.{IsSound, IsSoundIndex, place_number}
use Rattle.ae_elab.specs.Declaring.{HasNet}
use Rattle.ae_assign.specs.Edges.{IsSoundStmt, IsReadyStmt, IsActiveItem}
use Rattle.ae_judge.proofs.Members.{among_at, among_from, among_left, among_right}
use Rattle.ae_runs.proofs.Declared.{IsData, not_true, not_false, declared_or_not, item_at, body_readable}
use Rattle.ae_runs.proofs.Clocks.{clock_input}
use Rattle.ae_order.proofs.SoundOf.{all_at, inside_place, is_the_place, named_of, not_less, not_place, outside_varying, place_is, sound_of}
use Rattle.ae_elab.proofs.Wiring.{ready_for}

register_no_input : (k : NetKind) → is_register_kind k ≡ true → is_input_kind k ≡ false
register_no_input Input r = absurd (cc)
register_no_input Wire r = refl
register_no_input OutWire r = refl
register_no_input Reg r = refl
register_no_input OutReg r = refl
register_no_input (Memory depth) r = refl

memory_no_input : (k : NetKind) → is_memory_kind k ≡ true → is_input_kind k ≡ false
memory_no_input Input r = absurd (cc)
memory_no_input Wire r = refl
memory_no_input OutWire r = refl
memory_no_input Reg r = refl
memory_no_input OutReg r = refl
memory_no_input (Memory depth) r = refl

all_from : {X : Type 0} (P : X → Type 0) (xs : List X) → ((j : ℕ) (x : X) → slice_get xs j ≡ Some x → P x) → AllByRecursion P xs
all_from P [] h = tt
all_from P (x ∷ xs) h = (h 0 x refl, all_from P xs (λ j y e. h (suc j) y e))

module _ (m : ModuleTree) (ok : IsRegular m) (shape : IsShapely m) where
  -- the place of a word in a memory
  memory_index : (n : List ℕ) (at : ExprTree) → IsNamed m.nets n → is_memory_name m.nets n ≡ true → ((k : List ℕ) → Among k (names_in at) → IsData m k)
      → is_misused m.nets at ≡ false → is_too_wide m.nets at ≡ false → is_outside m.nets n at ≡ false → IsLettered at → IsPlaced true at
      → IsSound m.nets (index n at)
  memory_index n at named memory known right fits inside letters placed = (
    named,
    elim (cases_Bool (is_place at)) [
      | inl t ↦
          let e = is_the_place at t in
          let within = inside_place (is_memory_name m.nets n) (declared_width m.nets n) (depth_of m.nets n) (own_width m.nets at) (place_number at)
          (subst (λ u. is_outside_of (is_memory_name m.nets n) (declared_width m.nets n) (depth_of m.nets n) (own_width m.nets at) u ≡ false) e inside) in
          subst (λ b. IsSoundIndex b m.nets n (place_number at) (own_width m.nets at) (IsSound m.nets at)) (sym t) within
      | inr o ↦
          let deep : nat_lt (depth_of m.nets n) (2 ^ own_width m.nets at) ≡ false =
          sym (outside_varying at (declared_width m.nets n) (depth_of m.nets n) (own_width m.nets at) o)
          ∙ subst (λ b. is_outside_of b (declared_width m.nets n) (depth_of m.nets n) (own_width m.nets at) at ≡ false) memory inside in
          subst (λ b. IsSoundIndex b m.nets n (place_number at) (own_width m.nets at) (IsSound m.nets at)) (sym o)
          (record {
            memory = memory;
            inside = not_less (depth_of m.nets n) (2 ^ own_width m.nets at) deep;
            sound = sound_of m ok shape at known right fits letters (not_place at o placed);
          })
    ],
  )

  stmt_sound : (s : StmtTree) → ((n : List ℕ) → Among n (stmt_reads s) → IsData m n) → ((n : List ℕ) → Among n (stmt_targets s) → IsNamed m.nets n)
      → is_misused_in_stmt m.nets s ≡ false → is_too_wide_in_stmt m.nets s ≡ false
      → EachInStmt IsLettered IsLettered s → EachInStmt (IsPlaced false) (IsPlaced true) s → IsSoundStmt m.nets s
  stmt_sound (set n value) known targets right fits letters placed =
      let r = or_parts _ _ right in
      (targets n (inl refl), not_false _ r.0, sound_of m ok shape value known r.1 fits letters placed)
  stmt_sound (put n at value) known targets right fits letters placed =
      let r = or_parts _ _ right in
      let q = or_parts _ _ r.1 in
      let f = or_parts _ _ fits in
      let g = or_parts _ _ f.1 in
      let memory = not_false _ r.0 in (
        memory_index n at (targets n (inl refl)) memory (λ k a. known k (among_left k (names_in at) (names_in value) a)) q.0 f.0 g.0 letters.0 placed.0,
        memory,
        sound_of m ok shape value (λ k a. known k (among_right k (names_in at) (names_in value) a)) q.1 g.1 letters.1 placed.1,
      )
  stmt_sound (when test taken) known targets right fits letters placed =
      let r = or_parts _ _ right in
      let f = or_parts _ _ fits in (
        sound_of m ok shape test (λ k a. known k (among_left k (names_in test) (stmt_reads taken) a)) r.0 f.0 letters.0 placed.0,
        stmt_sound taken (λ k a. known k (among_right k (names_in test) (stmt_reads taken) a)) targets r.1 f.1 letters.1 placed.1,
      )
  stmt_sound (either test taken otherwise) known targets right fits letters placed =
      let r = or_parts _ _ right in
      let q = or_parts _ _ r.1 in
      let f = or_parts _ _ fits in
      let g = or_parts _ _ f.1 in (
        sound_of m ok shape test (λ k a. known k (among_left k (names_in test) (stmt_reads taken ++ stmt_reads otherwise) a)) r.0 f.0 letters.0 placed.0,
        stmt_sound taken (λ k a. known k (among_right k (names_in test) (stmt_reads taken ++ stmt_reads otherwise)
            (among_left k (stmt_reads taken) (stmt_reads otherwise) a)))
            (λ k a. targets k (among_left k (stmt_targets taken) (stmt_targets otherwise) a)) q.0 g.0 letters.1 placed.1,
        stmt_sound otherwise (λ k a. known k (among_right k (names_in test) (stmt_reads taken ++ stmt_reads otherwise)
            (among_right k (stmt_reads taken) (stmt_reads otherwise) a)))
            (λ k a. targets k (among_right k (stmt_targets taken) (stmt_targets otherwise) a)) q.1 g.1 letters.2 placed.2,
      )
  stmt_sound block_end known targets right fits letters placed = tt
  stmt_sound (block_more first rest) known targets right fits letters placed =
      let r = or_parts _ _ right in
      let f = or_parts _ _ fits in (
        stmt_sound first (λ k a. known k (among_left k (stmt_reads first) (stmt_reads rest) a))
            (λ k a. targets k (among_left k (stmt_targets first) (stmt_targets rest) a)) r.0 f.0 letters.0 placed.0,
        stmt_sound rest (λ k a. known k (among_right k (stmt_reads first) (stmt_reads rest) a))
            (λ k a. targets k (among_right k (stmt_targets first) (stmt_targets rest) a)) r.1 f.1 letters.1 placed.1,
      )

  -- what an `always` item assigns is declared
  target_named : (j : ℕ) (clock : List ℕ) (body : StmtTree) → slice_get m.items j ≡ Some (always clock body) → (n : List ℕ) → Among n (stmt_targets body)
      → IsNamed m.nets n
  target_named j clock body h n a = elim (declared_or_not m ok (j + 1) n) [
    | inl r ↦ subst (IsNamed m.nets) r.2 (named_of m ok shape r.0 r.1)
    | inr never ↦ absurd (ok.known (j + 1) (always clock body, n, item_at m ok j (always clock body) h, (inr (inl a), never)))
  ]

  body_sound : (j : ℕ) (clock : List ℕ) (body : StmtTree) → slice_get m.items j ≡ Some (always clock body) → IsSoundStmt m.nets body
  body_sound j clock body h =
      let read = body_readable m ok j clock body h in
      let fits : is_too_wide_in_item m.nets (always clock body) ≡ false = not_true _
      (λ t. ok.widths (j + 1) (inr (always clock body, item_at m ok j (always clock body) h, t))) in
      stmt_sound body read.known (target_named j clock body h) read.right fits
      (all_at m ok shape IsLetteredItem m.items j (always clock body) shape.lettered h)
      (all_at m ok shape IsPlacedItem m.items j (always clock body) shape.placed h)

  module _ (ys : List (Option NetId)) (each : (p : ℕ) (x : NetTree) → NetAt m p x → is_clock m x.name ≡ false → HasNet ys p) where
    data_ready : (n : List ℕ) → IsData m n → IsReady m.nets ys n
    data_ready n d =
        let p = among_at d.net m.nets d.there in
        let y = each p.0 d.net p.1 (subst (λ k. is_clock m k ≡ false) (sym d.named) d.data_name) in
        let place : place_of m.nets n ≡ p.0 = ap (place_of m.nets) (sym d.named) ∙ place_is m ok shape p.0 d.net p.1 in
        record { net = y.0; found = ap (slice_get ys) place ∙ y.1 }

    -- a name that is no input
    state_ready : (n : List ℕ) (here : IsNamed m.nets n) → is_input_kind here.net.kind ≡ false → IsReady m.nets ys n
    state_ready n here f =
        let a = among_from here.net m.nets (place_of m.nets n) here.at in
        let held : is_clock m here.net.name ≡ false = false_from_ne_true _ (λ c. both_ways _ f (clock_input m ok here.net a c)) in
        let y = each (place_of m.nets n) here.net here.at held in
        record { net = y.0; found = y.1 }

    register_ready : (n : List ℕ) (here : IsNamed m.nets n) → is_register_name m.nets n ≡ true → IsReady m.nets ys n
    register_ready n here r = state_ready n here (register_no_input here.net.kind
        (subst (λ o. passes (λ (x : NetTree). is_register_kind x.kind) o ≡ true) here.found r))

    memory_ready : (n : List ℕ) (here : IsNamed m.nets n) → is_memory_name m.nets n ≡ true → IsReady m.nets ys n
    memory_ready n here r = state_ready n here (memory_no_input here.net.kind
        (subst (λ o. passes (λ (x : NetTree). is_memory_kind x.kind) o ≡ true) here.found r))

    stmt_ready : (s : StmtTree) → ((n : List ℕ) → Among n (stmt_reads s) → IsReady m.nets ys n) → IsSoundStmt m.nets s → IsReadyStmt m.nets ys s
    stmt_ready (set n value) reads sound = (register_ready n sound.0 sound.1, ready_for m.nets ys value reads)
    stmt_ready (put n at value) reads sound = (
      (memory_ready n sound.0.0 sound.1, ready_for m.nets ys at (λ k a. reads k (among_left k (names_in at) (names_in value) a))),
      ready_for m.nets ys value (λ k a. reads k (among_right k (names_in at) (names_in value) a)),
    )
    stmt_ready (when test taken) reads sound = (
      ready_for m.nets ys test (λ k a. reads k (among_left k (names_in test) (stmt_reads taken) a)),
      stmt_ready taken (λ k a. reads k (among_right k (names_in test) (stmt_reads taken) a)) sound.1,
    )
    stmt_ready (either test taken otherwise) reads sound = (
      ready_for m.nets ys test (λ k a. reads k (among_left k (names_in test) (stmt_reads taken ++ stmt_reads otherwise) a)),
      stmt_ready taken (λ k a. reads k (among_right k (names_in test) (stmt_reads taken ++ stmt_reads otherwise)
          (among_left k (stmt_reads taken) (stmt_reads otherwise) a))) sound.1,
      stmt_ready otherwise (λ k a. reads k (among_right k (names_in test) (stmt_reads taken ++ stmt_reads otherwise)
          (among_right k (stmt_reads taken) (stmt_reads otherwise) a))) sound.2,
    )
    stmt_ready block_end reads sound = tt
    stmt_ready (block_more first rest) reads sound = (
      stmt_ready first (λ k a. reads k (among_left k (stmt_reads first) (stmt_reads rest) a)) sound.0,
      stmt_ready rest (λ k a. reads k (among_right k (stmt_reads first) (stmt_reads rest) a)) sound.1,
    )

    item_active : (j : ℕ) (i : ItemTree) → slice_get m.items j ≡ Some i → IsActiveItem m.nets ys i
    item_active j (nets drives) h = tt
    item_active j (assigns drives) h = tt
    item_active j (always clock body) h =
        let sound = body_sound j clock body h in
        let read = body_readable m ok j clock body h in
        (sound, stmt_ready body (λ n a. data_ready n (read.known n a)) sound)

    pub items_active : AllByRecursion (IsActiveItem m.nets ys) m.items
    items_active = all_from (IsActiveItem m.nets ys) m.items item_active
