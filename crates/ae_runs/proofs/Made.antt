-- The plain run of a module is a run, on the given inputs and first words.
use Rattle.std.proofs.Common.{ℕ, zero, suc, ◌≡◌, ◌==◌, ◌+◌, ◌^◌, ◌<◌, inl, inr, Bool, true, false, List, [], ◌∷◌, length, All, Some, None, arith, add-one, refl, sym, ap, ◌∙◌, subst}
use Rattle.std.specs.Prelude.{bytes_eq, slice_set, if◌then◌else◌}
use Rattle.std.proofs.lemmas.Nat.{pow_pos}
use Rattle.std.proofs.Math.Nat.{mod-lt}
use Rattle.std.proofs.lemmas.List.{length-set}
use Rattle.std.proofs.lemmas.List.Elements.{All-set}
use Rattle.std.proofs.lemmas.Bool.{cases_Bool, cond-true, cond-false, both_ways}
use Rattle.ae_vmodule.specs.declared.module.NetKind.{NetKind}
use Rattle.ae_vmodule.specs.declared.module.NetKind.TheVariants.{Input, Wire, OutWire, Reg, OutReg, Memory}
use Rattle.ae_vmodule.specs.ModuleTree.{ExprTree, StmtTree, put, set, when, either, block_end, block_more, NetTree, DriveTree, ItemTree, nets, assigns, always, ModuleTree}
use Rattle.ae_judge.specs.Names.{Among, is_input_kind, is_wire_kind, passes, is_input_name, is_clock, equations}
use Rattle.ae_judge.specs.Widths.{declared_width_in, declared_width}
use Rattle.ae_runs.specs.Values.{ModuleClock, own_value, assigned, after_stmt}
use Rattle.ae_runs.specs.Runs.{clock_at, FitsKind, IsModuleShaped, IsSettled, after_items, next_clock, StepsTo, IsStep, ModuleAgreesAt, ModuleAgrees, IsModuleRunOn}
use Rattle.ae_judge.specs.Faults.{IsWellFormed}
use Rattle.ae_runs.specs.PlainRun.{drive_named, driven_word, recomputed, recomputed_often, settled, fed, plain_clock, clocks_from, plain_run}
use Rattle.ae_judge.proofs.Members.{same_bytes}
use Rattle.ae_runs.proofs.Declared.{regular, named_or_not, net_found, found_drive, drive_of_name, free_kind, other_free, equation_readable}
use Rattle.ae_runs.proofs.Needs.{by_needs}
use Rattle.ae_runs.proofs.Same.{assigned_same}

assigned_fits : (ns : List NetTree) (c : ModuleClock) (n : List ℕ) (e : ExprTree) → assigned ns c n e < 2 ^ declared_width ns n
assigned_fits ns c n e = mod-lt _ (pow_pos (declared_width ns n))

branch_holds : (P : ModuleClock → Type 0) (b : Bool) (c d : ModuleClock) → P c → P d → P (if b then c else d)
branch_holds P true c d p q = p
branch_holds P false c d p q = q

-- the words after a statement fit where those before it do
module _ (ns : List NetTree) (c : ModuleClock) (k : List ℕ) where
  abbrev Fits : ModuleClock → Type 0
  Fits next = next.word k < 2 ^ declared_width ns k

  set_fits : (n : List ℕ) (value : ExprTree) (next : ModuleClock) → Fits next
      → (if bytes_eq k n then assigned ns c n value else next.word k) < 2 ^ declared_width ns k
  set_fits n value next h = elim (cases_Bool (bytes_eq k n)) [
    | inl t ↦ subst (λ x. x < 2 ^ declared_width ns k) (sym (cond-true _ (assigned ns c n value) (next.word k) t))
        (subst (λ i. assigned ns c n value < 2 ^ declared_width ns i) (sym (same_bytes k n t)) (assigned_fits ns c n value))
    | inr f ↦ subst (λ x. x < 2 ^ declared_width ns k) (sym (cond-false _ (assigned ns c n value) (next.word k) f)) h
  ]

  stmt_fits : (s : StmtTree) (next : ModuleClock) → Fits next → Fits (after_stmt ns c s next)
  stmt_fits (set n value) next h = set_fits n value next h
  stmt_fits (put n at value) next h = h
  stmt_fits (when test taken) next h = branch_holds Fits (own_value ns c test == 0) next (after_stmt ns c taken next) h (stmt_fits taken next h)
  stmt_fits (either test taken otherwise) next h =
      branch_holds Fits (own_value ns c test == 0) (after_stmt ns c otherwise next) (after_stmt ns c taken next) (stmt_fits otherwise next h)
      (stmt_fits taken next h)
  stmt_fits block_end next h = h
  stmt_fits (block_more first rest) next h = stmt_fits rest (after_stmt ns c first next) (stmt_fits first next h)

  abbrev StoreFits : ℕ → ModuleClock → Type 0
  StoreFits depth next = (length (next.store k) ≡ depth) × All (λ x. x < 2 ^ declared_width ns k) (next.store k)

  put_fits : (depth : ℕ) (n : List ℕ) (at : ℕ) (value : ExprTree) (next : ModuleClock) (b : Bool) → bytes_eq k n ≡ b → StoreFits depth next
      → (length (if b then slice_set (next.store k) at (assigned ns c n value) else next.store k) ≡ depth)
      × All (λ x. x < 2 ^ declared_width ns k) (if b then slice_set (next.store k) at (assigned ns c n value) else next.store k)
  put_fits depth n at value next true e h = (
    length-set (next.store k) at (assigned ns c n value) ∙ h.0,
    All-set (λ x. x < 2 ^ declared_width ns k) (next.store k) at (assigned ns c n value)
        (subst (λ i. assigned ns c n value < 2 ^ declared_width ns i) (sym (same_bytes k n e)) (assigned_fits ns c n value)) h.1,
  )
  put_fits depth n at value next false e h = h

  stmt_store_fits : (depth : ℕ) (s : StmtTree) (next : ModuleClock) → StoreFits depth next → StoreFits depth (after_stmt ns c s next)
  stmt_store_fits depth (set n value) next h = h
  stmt_store_fits depth (put n at value) next h = put_fits depth n (own_value ns c at) value next (bytes_eq k n) refl h
  stmt_store_fits depth (when test taken) next h = branch_holds (StoreFits depth) (own_value ns c test == 0) next (after_stmt ns c taken next) h
      (stmt_store_fits depth taken next h)
  stmt_store_fits depth (either test taken otherwise) next h =
      branch_holds (StoreFits depth) (own_value ns c test == 0) (after_stmt ns c otherwise next) (after_stmt ns c taken next)
      (stmt_store_fits depth otherwise next h) (stmt_store_fits depth taken next h)
  stmt_store_fits depth block_end next h = h
  stmt_store_fits depth (block_more first rest) next h = stmt_store_fits depth rest (after_stmt ns c first next) (stmt_store_fits depth first next h)

  items_fit : (is : List ItemTree) (next : ModuleClock) → Fits next → Fits (after_items ns c is next)
  items_fit [] next h = h
  items_fit (nets drives ∷ is) next h = items_fit is next h
  items_fit (assigns drives ∷ is) next h = items_fit is next h
  items_fit (always clock body ∷ is) next h = items_fit is (after_stmt ns c body next) (stmt_fits body next h)

  items_store_fit : (depth : ℕ) (is : List ItemTree) (next : ModuleClock) → StoreFits depth next → StoreFits depth (after_items ns c is next)
  items_store_fit depth [] next h = h
  items_store_fit depth (nets drives ∷ is) next h = items_store_fit depth is next h
  items_store_fit depth (assigns drives ∷ is) next h = items_store_fit depth is next h
  items_store_fit depth (always clock body ∷ is) next h = items_store_fit depth is (after_stmt ns c body next) (stmt_store_fits depth body next h)

holds_of_wire : (k : NetKind) (w x : ℕ) (s : List ℕ) → is_wire_kind k ≡ true → x < 2 ^ w → FitsKind k w x s
holds_of_wire Input w x s f h = absurd (cc)
holds_of_wire Wire w x s f h = h
holds_of_wire OutWire w x s f h = h
holds_of_wire Reg w x s f h = absurd (cc)
holds_of_wire OutReg w x s f h = absurd (cc)
holds_of_wire (Memory depth) w x s f h = absurd (cc)

module _ (m : ModuleTree) where
  recomputed_free : (c : ModuleClock) (n : List ℕ) → drive_named (equations m) n ≡ None → (recomputed m c).word n ≡ c.word n
  unfolding recomputed
  recomputed_free c n none = ap (λ o. driven_word m.nets c o (c.word n)) none

  recomputed_driven : (c : ModuleClock) (n : List ℕ) (d : DriveTree) → drive_named (equations m) n ≡ Some d
      → (recomputed m c).word n ≡ assigned m.nets c d.name d.value
  unfolding recomputed
  recomputed_driven c n d is = ap (λ o. driven_word m.nets c o (c.word n)) is

  recomputed_store : (c : ModuleClock) (n : List ℕ) → (recomputed m c).store n ≡ c.store n
  unfolding recomputed
  recomputed_store c n = refl

  often_free : (c : ModuleClock) (k : ℕ) (n : List ℕ) → drive_named (equations m) n ≡ None → (recomputed_often m c k).word n ≡ c.word n
  often_free c zero n none = refl
  often_free c (suc k) n none = recomputed_free (recomputed_often m c k) n none ∙ often_free c k n none

  often_store : (c : ModuleClock) (k : ℕ) (n : List ℕ) → (recomputed_often m c k).store n ≡ c.store n
  often_store c zero n = refl
  often_store c (suc k) n = recomputed_store (recomputed_often m c k) n ∙ often_store c k n

  fed_input : (g next : ModuleClock) (n : List ℕ) → is_input_name m.nets n ≡ true → (fed m g next).word n ≡ g.word n
  unfolding fed
  fed_input g next n h = cond-true _ _ _ h

  fed_other : (g next : ModuleClock) (n : List ℕ) → is_input_name m.nets n ≡ false → (fed m g next).word n ≡ next.word n
  unfolding fed
  fed_other g next n h = cond-false _ _ _ h

  fed_store : (g next : ModuleClock) (n : List ℕ) → (fed m g next).store n ≡ next.store n
  unfolding fed
  fed_store g next n = refl

  next_fits : (c : ModuleClock) (n : List ℕ) → c.word n < 2 ^ declared_width m.nets n → (next_clock m c).word n < 2 ^ declared_width m.nets n
  unfolding next_clock
  next_fits c n h = items_fit m.nets c n m.items c h

  next_store_fits : (c : ModuleClock) (n : List ℕ) (depth : ℕ) → (length (c.store n) ≡ depth) × All (λ x. x < 2 ^ declared_width m.nets n) (c.store n)
      → (length ((next_clock m c).store n) ≡ depth) × All (λ x. x < 2 ^ declared_width m.nets n) ((next_clock m c).store n)
  unfolding next_clock
  next_store_fits c n depth h = items_store_fit m.nets c n depth m.items c h

module _ (m : ModuleTree) (ok : IsWellFormed m) where
  -- nothing changes any more
  stays : (c : ModuleClock) (n : List ℕ) → (settled m c).word n ≡ (recomputed m (settled m c)).word n
  stays c =
      by_needs m ok (λ k n. (recomputed_often m c k).word n ≡ (recomputed_often m c (suc k)).word n)
      (λ k n none. sym (recomputed_free m (recomputed_often m c k) n none))
      (λ k d a found reads.
      let r = equation_readable m (regular ok) d a in
      let same : assigned m.nets (recomputed_often m c k) d.name d.value ≡ assigned m.nets (recomputed_often m c (suc k)) d.name d.value =
      assigned_same m.nets (recomputed_often m c k) (recomputed_often m c (suc k)) d.name d.value
      (λ n i. record { word = λ f. reads n i; store = λ t. sym (recomputed_store m (recomputed_often m c k) n) }) r.right in
      recomputed_driven m (recomputed_often m c k) d.name d found ∙ same ∙ sym (recomputed_driven m (recomputed_often m c (suc k)) d.name d found))

  settled_is : (c : ModuleClock) → IsSettled m (settled m c)
  settled_is c = record { wires = λ d a. stays c d.name ∙ recomputed_driven m (settled m c) d.name d (found_drive m (regular ok) d a) }

  -- a name without an equation, and a memory, keep their words
  free_word : (c : ModuleClock) (x : NetTree) → Among x m.nets → is_wire_kind x.kind ≡ false → (settled m c).word x.name ≡ c.word x.name
  free_word c x a f = often_free m c (length (equations m)) x.name (other_free m (regular ok) x a f)

  kept_store : (c : ModuleClock) (n : List ℕ) → (settled m c).store n ≡ c.store n
  kept_store c n = often_store m c (length (equations m)) n

  width_is : (x : NetTree) → Among x m.nets → declared_width m.nets x.name ≡ x.width
  width_is x a = ap declared_width_in (net_found m (regular ok) x a)

  input_is : (x : NetTree) (b : Bool) → Among x m.nets → is_input_kind x.kind ≡ b → is_input_name m.nets x.name ≡ b
  input_is x b a h = ap (passes (λ (y : NetTree). is_input_kind y.kind)) (net_found m (regular ok) x a) ∙ h

  -- a clock is shaped where its names without equations are
  shaped_settled : (c : ModuleClock) → ((x : NetTree) → Among x m.nets → is_clock m x.name ≡ false → is_wire_kind x.kind ≡ false
      → FitsKind x.kind x.width (c.word x.name) (c.store x.name)) → IsModuleShaped m (settled m c)
  shaped_settled c h = record {
    holds = λ x a data_name. elim (cases_Bool (is_wire_kind x.kind)) [
      | inl w ↦ elim (named_or_not (drive_named (equations m) x.name)) [
        | inl d ↦
            let word : (settled m c).word x.name ≡ assigned m.nets (settled m c) d.0.name d.0.value = stays c x.name ∙
            recomputed_driven m (settled m c) x.name d.0 d.1 in
            let r = drive_of_name m (regular ok) x.name d.0 d.1 in
            let fits : assigned m.nets (settled m c) d.0.name d.0.value < 2 ^ x.width = subst (λ v. assigned m.nets (settled m c) d.0.name d.0.value < 2 ^ v)
            (ap (declared_width m.nets) r.1 ∙ width_is x a) (assigned_fits m.nets (settled m c) d.0.name d.0.value) in
            holds_of_wire x.kind x.width _ _ w (subst (λ v. v < 2 ^ x.width) (sym word) fits)
        | inr none ↦ absurd (both_ways _ (free_kind m (regular ok) x a none) w)
      ]
      | inr f ↦ subst (λ v. FitsKind x.kind x.width v ((settled m c).store x.name)) (sym (free_word c x a f))
          (subst (FitsKind x.kind x.width (c.word x.name)) (sym (kept_store c x.name)) (h x a data_name f))
    ];
  }

  fed_register : (g c : ModuleClock) (x : NetTree) → Among x m.nets → is_input_kind x.kind ≡ false → c.word x.name < 2 ^ x.width
      → (fed m g (next_clock m c)).word x.name < 2 ^ x.width
  fed_register g c x a f h =
      subst (λ v. v < 2 ^ x.width) (sym (fed_other m g (next_clock m c) x.name (input_is x false a f)))
      (subst (λ w. (next_clock m c).word x.name < 2 ^ w) (width_is x a) (next_fits m c x.name (subst (λ w. c.word x.name < 2 ^ w) (sym (width_is x a)) h)))

  -- so is one that is fed with given inputs behind a shaped clock
  fed_holds : (g c : ModuleClock) → IsModuleShaped m g → IsModuleShaped m c → (x : NetTree) (k : NetKind) → x.kind ≡ k → Among x m.nets
      → is_clock m x.name ≡ false → is_wire_kind k ≡ false
      → FitsKind k x.width (g.word x.name) (g.store x.name) → FitsKind k x.width (c.word x.name) (c.store x.name)
      → FitsKind k x.width ((fed m g (next_clock m c)).word x.name) ((fed m g (next_clock m c)).store x.name)
  fed_holds g c p q x Input is a held f hg hc = subst (λ v. v < 2 ^ x.width)
      (sym (fed_input m g (next_clock m c) x.name (input_is x true a (ap is_input_kind is)))) hg
  fed_holds g c p q x Wire is a held f hg hc = absurd (cc)
  fed_holds g c p q x OutWire is a held f hg hc = absurd (cc)
  fed_holds g c p q x Reg is a held f hg hc = fed_register g c x a (ap is_input_kind is) hc
  fed_holds g c p q x OutReg is a held f hg hc = fed_register g c x a (ap is_input_kind is) hc
  fed_holds g c p q x (Memory depth) is a held f hg hc =
      subst (λ s. (length s ≡ depth) × All (λ v. v < 2 ^ x.width) s) (sym (fed_store m g (next_clock m c) x.name))
      (subst (λ w. (length ((next_clock m c).store x.name) ≡ depth) × All (λ v. v < 2 ^ w) ((next_clock m c).store x.name)) (width_is x a)
      (next_store_fits m c x.name depth (subst (λ w. (length (c.store x.name) ≡ depth) × All (λ v. v < 2 ^ w) (c.store x.name)) (sym (width_is x a)) hc)))

  shaped_next : (g c : ModuleClock) → IsModuleShaped m g → IsModuleShaped m c → IsModuleShaped m (settled m (fed m g (next_clock m c)))
  shaped_next g c p q =
      shaped_settled (fed m g (next_clock m c)) (λ x a held f. fed_holds g c p q x x.kind refl a held f (p.holds x a held) (q.holds x a held))

  steps_by : (g c : ModuleClock) (x : NetTree) (k : NetKind) → x.kind ≡ k → Among x m.nets
      → StepsTo k ((next_clock m c).word x.name) ((settled m (fed m g (next_clock m c))).word x.name) ((next_clock m c).store x.name)
      ((settled m (fed m g (next_clock m c))).store x.name)
  steps_by g c x Input is a = tt
  steps_by g c x Wire is a = tt
  steps_by g c x OutWire is a = tt
  steps_by g c x Reg is a = free_word (fed m g (next_clock m c)) x a (ap is_wire_kind is) ∙
      fed_other m g (next_clock m c) x.name (input_is x false a (ap is_input_kind is))
  steps_by g c x OutReg is a = free_word (fed m g (next_clock m c)) x a (ap is_wire_kind is) ∙
      fed_other m g (next_clock m c) x.name (input_is x false a (ap is_input_kind is))
  steps_by g c x (Memory depth) is a = kept_store (fed m g (next_clock m c)) x.name ∙ fed_store m g (next_clock m c) x.name

  agrees_first : (g : ModuleClock) (x : NetTree) (k : NetKind) → x.kind ≡ k → Among x m.nets
      → ModuleAgreesAt k 0 ((settled m g).word x.name) (g.word x.name) ((settled m g).store x.name) (g.store x.name)
  agrees_first g x Input is a = free_word g x a (ap is_wire_kind is)
  agrees_first g x Wire is a = tt
  agrees_first g x OutWire is a = tt
  agrees_first g x Reg is a = λ z. free_word g x a (ap is_wire_kind is)
  agrees_first g x OutReg is a = λ z. free_word g x a (ap is_wire_kind is)
  agrees_first g x (Memory depth) is a = λ z. kept_store g x.name

  agrees_next : (g c : ModuleClock) (t : ℕ) (x : NetTree) (k : NetKind) → x.kind ≡ k → Among x m.nets
      → ModuleAgreesAt k (suc t) ((settled m (fed m g (next_clock m c))).word x.name) (g.word x.name) ((settled m (fed m g (next_clock m c))).store x.name)
      (g.store x.name)
  agrees_next g c t x Input is a = free_word (fed m g (next_clock m c)) x a (ap is_wire_kind is) ∙
      fed_input m g (next_clock m c) x.name (input_is x true a (ap is_input_kind is))
  agrees_next g c t x Wire is a = tt
  agrees_next g c t x OutWire is a = tt
  agrees_next g c t x Reg is a = λ z. absurd (omega arith)
  agrees_next g c t x OutReg is a = λ z. absurd (omega arith)
  agrees_next g c t x (Memory depth) is a = λ z. absurd (omega arith)

  plain_shaped : (given : List ModuleClock) → ((t : ℕ) → t < length given → IsModuleShaped m (clock_at given t)) → (t : ℕ) → t < length given
      → IsModuleShaped m (plain_clock m given t)
  plain_shaped given shaped zero l = shaped_settled (clock_at given 0) (λ x a held f. (shaped 0 l).holds x a held)
  plain_shaped given shaped (suc t) l = shaped_next (clock_at given (suc t)) (plain_clock m given t) (shaped (suc t) l)
      (plain_shaped given shaped t (omega arith))

  plain_settles : (given : List ModuleClock) (t : ℕ) → IsSettled m (plain_clock m given t)
  plain_settles given zero = settled_is (clock_at given 0)
  plain_settles given (suc t) = settled_is (fed m (clock_at given (suc t)) (next_clock m (plain_clock m given t)))

  plain_steps : (given : List ModuleClock) (t : ℕ) → IsStep m (plain_clock m given t) (plain_clock m given (suc t))
  plain_steps given t = record { steps = λ x a. steps_by (clock_at given (suc t)) (plain_clock m given t) x x.kind refl a }

  plain_agrees : (given : List ModuleClock) (t : ℕ) → ModuleAgrees m t (clock_at given t) (plain_clock m given t)
  plain_agrees given zero = record { same = λ x a held. agrees_first (clock_at given 0) x x.kind refl a }
  plain_agrees given (suc t) = record { same = λ x a held. agrees_next (clock_at given (suc t)) (plain_clock m given t) t x x.kind refl a }

pub from_length : (f : ℕ → ModuleClock) (t n : ℕ) → length (clocks_from f t n) ≡ n
from_length f t zero = refl
from_length f t (suc n) = ap suc (from_length f (suc t) n)

pub from_at : (f : ℕ → ModuleClock) (t n i : ℕ) → i < n → clock_at (clocks_from f t n) i ≡ f (t + i)
from_at f t zero i l = absurd (omega arith)
from_at f t (suc n) zero l = ap f (let e : t ≡ t + 0 = omega arith in e)
from_at f t (suc n) (suc i) l = from_at f (suc t) n i (omega arith) ∙ ap f (let e : suc t + i ≡ t + suc i = omega arith in e)

pub plain_length : (m : ModuleTree) (given : List ModuleClock) → length (plain_run m given) ≡ length given
unfolding plain_run
plain_length m given = from_length (plain_clock m given) 0 (length given)

pub plain_at : (m : ModuleTree) (given : List ModuleClock) (t : ℕ) → t < length given → clock_at (plain_run m given) t ≡ plain_clock m given t
unfolding plain_run
plain_at m given t l = from_at (plain_clock m given) 0 (length given) t l ∙ ap (plain_clock m given) (let e : 0 + t ≡ t = omega arith in e)

module _ (m : ModuleTree) (ok : IsWellFormed m) (given : List ModuleClock) (shaped : (t : ℕ) → t < length given → IsModuleShaped m (clock_at given t)) where
  within : (t : ℕ) → t < length (plain_run m given) → t < length given
  within t l = let e = plain_length m given in omega arith

  pub plain_is_run : IsModuleRunOn m given (plain_run m given)
  plain_is_run = record {
    long = plain_length m given;
    runs = record {
      shaped = λ t l. subst (IsModuleShaped m) (sym (plain_at m given t (within t l))) (plain_shaped m ok given shaped t (within t l));
      settles = λ t l. subst (IsSettled m) (sym (plain_at m given t (within t l))) (plain_settles m ok given t);
      steps = λ t l.
          let h : t + 1 < length given = within (t + 1) l in
          let here : t < length given = omega arith in
          let next : clock_at (plain_run m given) (t + 1) ≡ plain_clock m given (suc t) = plain_at m given (t + 1) h ∙ ap (plain_clock m given) (add-one t) in
          subst (λ c. IsStep m c (clock_at (plain_run m given) (t + 1))) (sym (plain_at m given t here))
          (subst (IsStep m (plain_clock m given t)) (sym next) (plain_steps m ok given t));
    };
    agrees = λ t l. subst (ModuleAgrees m t (clock_at given t)) (sym (plain_at m given t l)) (plain_agrees m ok given t);
  }
