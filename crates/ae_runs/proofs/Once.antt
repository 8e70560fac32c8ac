-- Two runs of a module that begin alike are the same.
use Rattle.std.proofs.Common.{ℕ, zero, suc, ◌≡◌, ◌<◌, inl, inr, true, false, List, [], ◌∷◌, length, Some, None, slice_get, arith, add-one, refl, sym, ap, ◌∙◌, subst}
use Rattle.ae_vmodule.specs.declared.module.NetKind.{NetKind}
use Rattle.ae_vmodule.specs.declared.module.NetKind.TheVariants.{Input, Wire, OutWire, Reg, OutReg, Memory}
use Rattle.ae_vmodule.specs.ModuleTree.{NetTree, ItemTree, nets, assigns, always, ModuleTree}
use Rattle.ae_judge.specs.Names.{Among, is_memory_kind, is_wire_kind, passes, is_clock, equations}
use Rattle.ae_runs.specs.Values.{ModuleClock}
use Rattle.ae_runs.specs.Runs.{clock_at, IsSettled, after_item, after_items, next_clock, StepsTo, IsStep, ModuleAgreesAt, IsModuleRunOn, SameAt, IsSameClock}
use Rattle.ae_judge.specs.Faults.{IsWellFormed}
use Rattle.ae_runs.specs.PlainRun.{drive_named}
use Rattle.ae_judge.proofs.Members.{among_at}
use Rattle.ae_runs.proofs.Declared.{regular, IsData, found_net, equation_readable, body_readable, free_kind, driven_kind}
use Rattle.ae_runs.proofs.Needs.{by_needs}
use Rattle.ae_runs.proofs.Same.{IsSameName, assigned_same, stmt_same, stmt_same_store}

-- the words of a net that is no wire are the same
abbrev FreeSame : NetKind → (word other_word : ℕ) → (store other_store : List ℕ) → Type 0
FreeSame Wire word other_word store other_store = Unit {0}
FreeSame OutWire word other_word store other_store = Unit {0}
FreeSame (Memory depth) word other_word store other_store = store ≡ other_store
FreeSame _ word other_word store other_store = word ≡ other_word

same_of_free : (k : NetKind) (w v : ℕ) (s t : List ℕ) → is_wire_kind k ≡ false → FreeSame k w v s t → SameAt k w v s t
same_of_free Input w v s t f h = h
same_of_free Wire w v s t f h = absurd (cc)
same_of_free OutWire w v s t f h = absurd (cc)
same_of_free Reg w v s t f h = h
same_of_free OutReg w v s t f h = h
same_of_free (Memory depth) w v s t f h = h

same_of_wire : (k : NetKind) (w v : ℕ) (s t : List ℕ) → is_wire_kind k ≡ true → w ≡ v → SameAt k w v s t
same_of_wire Input w v s t f h = h
same_of_wire Wire w v s t f h = h
same_of_wire OutWire w v s t f h = h
same_of_wire Reg w v s t f h = h
same_of_wire OutReg w v s t f h = h
same_of_wire (Memory depth) w v s t f h = absurd (cc)

word_of_same : (k : NetKind) (w v : ℕ) (s t : List ℕ) → is_memory_kind k ≡ false → SameAt k w v s t → w ≡ v
word_of_same Input w v s t f h = h
word_of_same Wire w v s t f h = h
word_of_same OutWire w v s t f h = h
word_of_same Reg w v s t f h = h
word_of_same OutReg w v s t f h = h
word_of_same (Memory depth) w v s t f h = absurd (cc)

store_of_same : (k : NetKind) (w v : ℕ) (s t : List ℕ) → is_memory_kind k ≡ true → SameAt k w v s t → s ≡ t
store_of_same Input w v s t f h = absurd (cc)
store_of_same Wire w v s t f h = absurd (cc)
store_of_same OutWire w v s t f h = absurd (cc)
store_of_same Reg w v s t f h = absurd (cc)
store_of_same OutReg w v s t f h = absurd (cc)
store_of_same (Memory depth) w v s t f h = h

-- what begins alike, and what goes on alike
first_free : (k : NetKind) (w v g : ℕ) (s t h : List ℕ) → ModuleAgreesAt k 0 w g s h → ModuleAgreesAt k 0 v g t h → FreeSame k w v s t
first_free Input w v g s t h a b = a ∙ sym b
first_free Wire w v g s t h a b = tt
first_free OutWire w v g s t h a b = tt
first_free Reg w v g s t h a b = a refl ∙ sym (b refl)
first_free OutReg w v g s t h a b = a refl ∙ sym (b refl)
first_free (Memory depth) w v g s t h a b = a refl ∙ sym (b refl)

module _ (m : ModuleTree) (ok : IsWellFormed m) where
  -- the same for each declared name but the clock
  abbrev SameFor : ModuleClock → ModuleClock → List ℕ → Type 0
  SameFor c d n = (x : NetTree) → Among x m.nets → x.name ≡ n → is_clock m n ≡ false → SameAt x.kind (c.word n) (d.word n) (c.store n) (d.store n)

  same_name : (c d : ModuleClock) (n : List ℕ) → SameFor c d n → IsData m n → IsSameName m.nets c d n
  same_name c d n h i =
      let o = found_net m (regular ok) n i.net i.there i.named in
      record {
        word = λ f. word_of_same i.net.kind _ _ _ _ (subst (λ p. passes (λ (y : NetTree). is_memory_kind y.kind) p ≡ false) o f)
            (h i.net i.there i.named i.data_name);
        store = λ t. store_of_same i.net.kind _ _ _ _ (subst (λ p. passes (λ (y : NetTree). is_memory_kind y.kind) p ≡ true) o t)
            (h i.net i.there i.named i.data_name);
      }

  -- in a clock the wires are the same where the other names are
  pub settled_same : (c d : ModuleClock) → IsSettled m c → IsSettled m d
      → ((x : NetTree) → Among x m.nets → is_clock m x.name ≡ false → FreeSame x.kind (c.word x.name) (d.word x.name) (c.store x.name) (d.store x.name))
      → (n : List ℕ) → SameFor c d n
  settled_same c d p q free =
      by_needs m ok (λ k n. SameFor c d n)
      (λ k n none x a e held.
      let is : is_wire_kind x.kind ≡ false = free_kind m (regular ok) x a (subst (λ u. drive_named (equations m) u ≡ None) (sym e) none) in
      subst (λ u. SameAt x.kind (c.word u) (d.word u) (c.store u) (d.store u)) e
      (same_of_free x.kind (c.word x.name) (d.word x.name) (c.store x.name) (d.store x.name) is (free x a (subst (λ u. is_clock m u ≡ false) (sym e) held))))
      (λ k v a found reads x b e held.
      let r = equation_readable m (regular ok) v a in
      let same : c.word v.name ≡ d.word v.name =
      p.wires v a ∙ assigned_same m.nets c d v.name v.value (λ n i. same_name c d n (reads n i) (r.known n i)) r.right ∙ sym (q.wires v a) in
      same_of_wire x.kind _ _ _ _ (driven_kind m (regular ok) x v b a e) same)

  -- what the `always` items make of a name
  item_word_same : (c d : ModuleClock) → ((n : List ℕ) → SameFor c d n) → (j : ℕ) (i : ItemTree) → slice_get m.items j ≡ Some i
      → (next other : ModuleClock) (k : List ℕ)
      → next.word k ≡ other.word k → (after_item m.nets c i next).word k ≡ (after_item m.nets d i other).word k
  item_word_same c d h j (nets drives) at next other k e = e
  item_word_same c d h j (assigns drives) at next other k e = e
  item_word_same c d h j (always clock body) at next other k e =
      let r = body_readable m (regular ok) j clock body at in
      stmt_same m.nets c d body (λ n a. same_name c d n (h n) (r.known n a)) r.right next other k e

  item_store_same : (c d : ModuleClock) → ((n : List ℕ) → SameFor c d n) → (j : ℕ) (i : ItemTree) → slice_get m.items j ≡ Some i
      → (next other : ModuleClock) (k : List ℕ)
      → next.store k ≡ other.store k → (after_item m.nets c i next).store k ≡ (after_item m.nets d i other).store k
  item_store_same c d h j (nets drives) at next other k e = e
  item_store_same c d h j (assigns drives) at next other k e = e
  item_store_same c d h j (always clock body) at next other k e =
      let r = body_readable m (regular ok) j clock body at in
      stmt_same_store m.nets c d body (λ n a. same_name c d n (h n) (r.known n a)) r.right next other k e

  items_word_same : (c d : ModuleClock) → ((n : List ℕ) → SameFor c d n) → (is : List ItemTree)
      → ((i : ItemTree) → Among i is → (j : ℕ) × (slice_get m.items j ≡ Some i)) → (next other : ModuleClock) (k : List ℕ)
      → next.word k ≡ other.word k → (after_items m.nets c is next).word k ≡ (after_items m.nets d is other).word k
  items_word_same c d h [] at next other k e = e
  items_word_same c d h (i ∷ is) at next other k e =
      let p = at i (inl refl) in
      items_word_same c d h is (λ u a. at u (inr a)) (after_item m.nets c i next) (after_item m.nets d i other) k
      (item_word_same c d h p.0 i p.1 next other k e)

  items_store_same : (c d : ModuleClock) → ((n : List ℕ) → SameFor c d n) → (is : List ItemTree)
      → ((i : ItemTree) → Among i is → (j : ℕ) × (slice_get m.items j ≡ Some i)) → (next other : ModuleClock) (k : List ℕ)
      → next.store k ≡ other.store k → (after_items m.nets c is next).store k ≡ (after_items m.nets d is other).store k
  items_store_same c d h [] at next other k e = e
  items_store_same c d h (i ∷ is) at next other k e =
      let p = at i (inl refl) in
      items_store_same c d h is (λ u a. at u (inr a)) (after_item m.nets c i next) (after_item m.nets d i other) k
      (item_store_same c d h p.0 i p.1 next other k e)

  -- the next words of a register, and of a memory, are the same
  changed_free : (k : NetKind) (n : List ℕ) (x : NetTree) → x.kind ≡ k → Among x m.nets → x.name ≡ n → is_clock m n ≡ false
      → (c d : ModuleClock) (t v : ℕ) (w g : ℕ) (s u y : List ℕ)
      → ((n : List ℕ) → SameFor c d n) → ModuleAgreesAt k t w g s y → ModuleAgreesAt k t v g u y
      → StepsTo k ((next_clock m c).word n) w ((next_clock m c).store n) s → StepsTo k ((next_clock m d).word n) v ((next_clock m d).store n) u
      → FreeSame k w v s u
  unfolding next_clock
  changed_free Input n x is a e held c d t v w g s u y h i j p q = i ∙ sym j
  changed_free Wire n x is a e held c d t v w g s u y h i j p q = tt
  changed_free OutWire n x is a e held c d t v w g s u y h i j p q = tt
  changed_free Reg n x is a e held c d t v w g s u y h i j p q =
      let same : c.word n ≡ d.word n = word_of_same x.kind _ _ _ _ (ap is_memory_kind is) (h n x a e held) in
      p ∙ items_word_same c d h m.items (λ i b. among_at i m.items b) c d n same ∙ sym q
  changed_free OutReg n x is a e held c d t v w g s u y h i j p q =
      let same : c.word n ≡ d.word n = word_of_same x.kind _ _ _ _ (ap is_memory_kind is) (h n x a e held) in
      p ∙ items_word_same c d h m.items (λ i b. among_at i m.items b) c d n same ∙ sym q
  changed_free (Memory depth) n x is a e held c d t v w g s u y h i j p q =
      let same : c.store n ≡ d.store n = store_of_same x.kind _ _ _ _ (ap is_memory_kind is) (h n x a e held) in
      p ∙ items_store_same c d h m.items (λ i b. among_at i m.items b) c d n same ∙ sym q

  run_same : (given run other : List ModuleClock) → IsModuleRunOn m given run → IsModuleRunOn m given other → (t : ℕ) → t < length given → (n : List ℕ)
      → SameFor (clock_at run t) (clock_at other t) n
  run_same given run other p q zero l =
      let a : zero < length run = (let e = p.long in omega arith) in
      let b : zero < length other = (let e = q.long in omega arith) in
      settled_same (clock_at run 0) (clock_at other 0) (p.runs.settles 0 a) (q.runs.settles 0 b)
      (λ x i held. first_free x.kind _ _ _ _ _ _ ((p.agrees 0 l).same x i held) ((q.agrees 0 l).same x i held))
  run_same given run other p q (suc t) l =
      let old = run_same given run other p q t (omega arith) in
      let a : suc t < length run = (let e = p.long in omega arith) in
      let b : suc t < length other = (let e = q.long in omega arith) in
      let stepped : IsStep m (clock_at run t) (clock_at run (suc t)) = rw add-one at (p.runs.steps t (omega arith)) in
      let stepped_too : IsStep m (clock_at other t) (clock_at other (suc t)) = rw add-one at (q.runs.steps t (omega arith)) in
      settled_same (clock_at run (suc t)) (clock_at other (suc t)) (p.runs.settles (suc t) a) (q.runs.settles (suc t) b)
      (λ x i held. changed_free x.kind x.name x refl i refl held (clock_at run t) (clock_at other t) (suc t) _ _ _ _ _ _ old
      ((p.agrees (suc t) l).same x i held) ((q.agrees (suc t) l).same x i held) (stepped.steps x i) (stepped_too.steps x i))

  pub only_one : (given run other : List ModuleClock) → IsModuleRunOn m given run → IsModuleRunOn m given other → (t : ℕ) → t < length given
      → IsSameClock m (clock_at other t) (clock_at run t)
  only_one given run other p q t l = record { same = λ x a held. run_same given other run q p t l x.name x a refl held }
