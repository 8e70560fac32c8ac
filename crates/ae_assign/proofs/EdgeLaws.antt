-- What one assignment changes in what registers and memories take.
use Rattle.std.proofs.Common.{ℕ, ◌≡◌, ◌≢◌, ◌+◌, ◌==◌, ◌<◌, inl, inr, Bool, true, false, not, ◌&&◌, if◌then◌else◌, List, [], ◌∷◌, length, Option, Some, None, slice_get, arith, add-one, refl, sym, ap, ◌∙◌}
use Rattle.std.specs.Prelude.{bytes_eq, slice_set}
use Rattle.std.proofs.lemmas.Bool.{cases_Bool, cond-true, cond-false, both_ways}
use Rattle.std.proofs.lemmas.List.{get_or-set_same, get_or-set_other}
use Rattle.std.proofs.lemmas.Option.{slice_get_within}
use Rattle.ae_word.specs.WordTable.{bit, word_result}
use Rattle.ae_word.specs.declared.op.WordOp.TheVariants.{And}
use Rattle.ae_netlist.specs.declared.cell.NetId.{NetId}
use Rattle.ae_netlist.specs.declared.cell.SizedCell.{SizedCell}
use Rattle.ae_netlist.specs.Circuit.{Circuit}
use Rattle.ae_netlist.specs.Runs.{Clock, word_at, store_at}
use Rattle.ae_vmodule.specs.ModuleTree.{ExprTree, StmtTree, set, put, when, either, NetTree}
use Rattle.ae_runs.specs.Values.{ModuleClock, own_value, assigned, with_word, with_stored}
use Rattle.ae_gates.specs.Cells.{GrowsByGates, IsWord}
use Rattle.ae_runs.specs.Named.{IsNamed, place_of, read, AreNamed}
use Rattle.ae_runs.specs.Guards.{guarded}
use Rattle.ae_assign.specs.Edges.{IsGuardNet, IsGuard, IsAddressWord, next_at, next_word, next_store, next_read, Acts}
use Rattle.ae_assign.specs.declared.statements.Next.{Next}
use Rattle.ae_assign.specs.declared.statements.Next.TheVariants.{Keep, Word, Write}
use Rattle.ae_judge.proofs.Members.{same_bytes, bytes_same}
use Rattle.ae_gates.proofs.Words.{net_grows, word_grows, back}

pub and_bit : (a b : Bool) → word_result And 1 (bit a) (bit b) (bit a) ≡ bit (a && b)
and_bit true true = refl
and_bit true false = refl
and_bit false true = refl
and_bit false false = refl

-- a guard goes on to be one as the netlist grows
pub guard_grows : {a b : Circuit} (from : ℕ) (guard : Option NetId) (g : List Clock → ℕ → Bool) → GrowsByGates a b → IsGuard from a.cells guard g
    → IsGuard from b.cells guard g
guard_grows from None g grows h = h
guard_grows from (Some y) g grows h = word_grows grows h

pub guard_net_grows : {a b : Circuit} (guard : Option NetId) → GrowsByGates a b → IsGuardNet a.cells guard → IsGuardNet b.cells guard
guard_net_grows None grows h = tt
guard_net_grows (Some y) grows h = net_grows grows h

-- what stands at the place of a name has the name
place_names : (ns : List NetTree) (k : List ℕ) (x : NetTree) → slice_get ns (place_of ns k) ≡ Some x → x.name ≡ k
unfolding place_of
place_names [] k x h = absurd (let e : None ≡ Some x = h in cc)
place_names (z ∷ zs) k x h = elim (cases_Bool (bytes_eq z.name k)) [
  | inl t ↦
      let found : Some z ≡ Some x = sym (ap (slice_get (z ∷ zs)) (cond-true _ 0 (place_of zs k + 1) t)) ∙ h in
      let same : z ≡ x = cc in
      ap (λ (u : NetTree). u.name) (sym same) ∙ same_bytes z.name k t
  | inr f ↦ place_names zs k x (sym (ap (slice_get (z ∷ zs)) (cond-false _ 0 (place_of zs k + 1) f ∙ add-one (place_of zs k))) ∙ h)
]

-- another name has another place
pub place_other : (ns : List NetTree) (n k : List ℕ) (x : NetTree) → slice_get ns (place_of ns n) ≡ Some x → (k ≡ n → ⊥) → place_of ns k ≢ place_of ns n
place_other ns n k x h other e = other (sym (place_names ns k x (ap (slice_get ns) e ∙ h)) ∙ place_names ns n x h)

module _ (ns : List NetTree) (old : List Next) (n : List ℕ) (here : IsNamed ns n) (long : length old ≡ length ns) (k : Next) where
  abbrev pub set_at : List Next
  set_at = slice_set old (place_of ns n) k

  pub next_here : next_at ns set_at n ≡ k
  next_here = get_or-set_same old (place_of ns n) k Keep
      (let l : place_of ns n < length ns = slice_get_within ns (place_of ns n) here.net here.at in omega arith)

  pub next_other : (i : List ℕ) → (i ≡ n → ⊥) → next_at ns set_at i ≡ next_at ns old i
  next_other i other = get_or-set_other old (place_of ns n) (place_of ns i) k Keep (place_other ns n i here.net here.at other)

-- clocks are the same where each name has the same
pub same_clocks : (c d : ModuleClock) → ((i : List ℕ) → c.word i ≡ d.word i) → ((i : List ℕ) → c.store i ≡ d.store i) → c ≡ d
same_clocks c d p q = λ z. record { word = λ i. p i z; store = λ i. q i z }

other_name : (i n : List ℕ) → bytes_eq i n ≡ false → i ≡ n → ⊥
other_name i n f e = both_ways _ f (bytes_same i n e)

module _ (ns : List NetTree) (old : List Next) (n : List ℕ) (here : IsNamed ns n) (long : length old ≡ length ns) (at : List ℕ → ℕ) (run : List Clock)
    (t : ℕ) where
  -- a register takes another word
  register_next : (y : NetId) (x : ℕ) → word_at run t y.0 ≡ x → next_store (next_at ns old n) run t (at n) ≡ store_at run t (at n)
      → next_read ns (slice_set old (place_of ns n) (Word y)) at run t ≡ with_word (next_read ns old at run t) n x
  unfolding next_read
  register_next y x e kept =
      let now = next_here ns old n here long (Word y) in
      same_clocks _ _
      (λ i. elim (cases_Bool (bytes_eq i n)) [
        | inl s ↦
            let same = same_bytes i n s in
            ap (λ (u : List ℕ). next_word (next_at ns (slice_set old (place_of ns n) (Word y)) u) run t (at u)) same
            ∙ (ap (λ k. next_word k run t (at n)) now ∙ (e ∙ sym (cond-true _ x (next_word (next_at ns old i) run t (at i)) s)))
        | inr f ↦
            ap (λ k. next_word k run t (at i)) (next_other ns old n here long (Word y) i (other_name i n f))
            ∙ sym (cond-false _ x (next_word (next_at ns old i) run t (at i)) f)
      ])
      (λ i. elim (cases_Bool (bytes_eq i n)) [
        | inl s ↦
            let same = same_bytes i n s in
            ap (λ (u : List ℕ). next_store (next_at ns (slice_set old (place_of ns n) (Word y)) u) run t (at u)) same
            ∙ (ap (λ k. next_store k run t (at n)) now ∙ (sym kept ∙ ap (λ (u : List ℕ). next_store (next_at ns old u) run t (at u)) (sym same)))
        | inr f ↦ ap (λ k. next_store k run t (at i)) (next_other ns old n here long (Word y) i (other_name i n f))
      ])

  -- a memory that is not written yet is written
  memory_next : (a w e : NetId) (place word : ℕ) (g : Bool) → word_at run t a.0 ≡ place → word_at run t w.0 ≡ word → word_at run t e.0 ≡ bit g
      → next_at ns old n ≡ Keep
      → next_read ns (slice_set old (place_of ns n) (Write a w e)) at run
      t ≡ (if g then with_stored (next_read ns old at run t) n place word else next_read ns old at run t)
  unfolding next_read
  memory_next a w e place word true ea ew ee kept =
      let now = next_here ns old n here long (Write a w e) in
      let own : next_store (next_at ns old n) run t (at n) ≡ store_at run t (at n) = ap (λ k. next_store k run t (at n)) kept in
      same_clocks _ _
      (λ i. elim (cases_Bool (bytes_eq i n)) [
        | inl s ↦
            let same = same_bytes i n s in
            ap (λ (u : List ℕ). next_word (next_at ns (slice_set old (place_of ns n) (Write a w e)) u) run t (at u)) same
            ∙ (ap (λ k. next_word k run t (at n)) now ∙ (sym (ap (λ k. next_word k run t (at n)) kept) ∙
            ap (λ (u : List ℕ). next_word (next_at ns old u) run t (at u)) (sym same)))
        | inr f ↦ ap (λ k. next_word k run t (at i)) (next_other ns old n here long (Write a w e) i (other_name i n f))
      ])
      (λ i. elim (cases_Bool (bytes_eq i n)) [
        | inl s ↦
            let same = same_bytes i n s in
            let written : next_store (Write a w e) run t (at n) ≡ slice_set (store_at run t (at n)) place word =
            ap (λ x. if x == 1 then slice_set (store_at run t (at n)) (word_at run t a.0) (word_at run t w.0) else store_at run t (at n)) ee
            ∙ (ap (λ x. slice_set (store_at run t (at n)) x (word_at run t w.0)) ea ∙ ap (slice_set (store_at run t (at n)) place) ew) in
            ap (λ (u : List ℕ). next_store (next_at ns (slice_set old (place_of ns n) (Write a w e)) u) run t (at u)) same
            ∙ (ap (λ k. next_store k run t (at n)) now
            ∙ (written
            ∙ (ap (λ l. slice_set l place word) (sym own)
            ∙ (ap (λ (u : List ℕ). slice_set (next_store (next_at ns old u) run t (at u)) place word) (sym same)
            ∙ sym (cond-true _ (slice_set (next_store (next_at ns old i) run t (at i)) place word) (next_store (next_at ns old i) run t (at i)) s)))))
        | inr f ↦
            ap (λ k. next_store k run t (at i)) (next_other ns old n here long (Write a w e) i (other_name i n f))
            ∙ sym (cond-false _ (slice_set (next_store (next_at ns old i) run t (at i)) place word) (next_store (next_at ns old i) run t (at i)) f)
      ])
  memory_next a w e place word false ea ew ee kept =
      let now = next_here ns old n here long (Write a w e) in
      same_clocks _ _
      (λ i. elim (cases_Bool (bytes_eq i n)) [
        | inl s ↦
            let same = same_bytes i n s in
            ap (λ (u : List ℕ). next_word (next_at ns (slice_set old (place_of ns n) (Write a w e)) u) run t (at u)) same
            ∙ (ap (λ k. next_word k run t (at n)) now ∙ (sym (ap (λ k. next_word k run t (at n)) kept) ∙
            ap (λ (u : List ℕ). next_word (next_at ns old u) run t (at u)) (sym same)))
        | inr f ↦ ap (λ k. next_word k run t (at i)) (next_other ns old n here long (Write a w e) i (other_name i n f))
      ])
      (λ i. elim (cases_Bool (bytes_eq i n)) [
        | inl s ↦
            let same = same_bytes i n s in
            let unwritten : next_store (Write a w e) run t (at n) ≡ store_at run t (at n) =
            ap (λ x. if x == 1 then slice_set (store_at run t (at n)) (word_at run t a.0) (word_at run t w.0) else store_at run t (at n)) ee in
            ap (λ (u : List ℕ). next_store (next_at ns (slice_set old (place_of ns n) (Write a w e)) u) run t (at u)) same
            ∙ (ap (λ k. next_store k run t (at n)) now ∙ (unwritten ∙
            (sym (ap (λ k. next_store k run t (at n)) kept) ∙ ap (λ (u : List ℕ). next_store (next_at ns old u) run t (at u)) (sym same))))
        | inr f ↦ ap (λ k. next_store k run t (at i)) (next_other ns old n here long (Write a w e) i (other_name i n f))
      ])

-- a word that is chosen where a guard is true
choose_word : (next : ModuleClock) (n : List ℕ) (g : Bool) (x : ℕ) → with_word next n (if g then x else next.word n) ≡ (if g then with_word next n x else next)
choose_word next n true x = refl
choose_word next n false x =
    same_clocks _ _
    (λ i. elim (cases_Bool (bytes_eq i n)) [
      | inl s ↦ cond-true _ (next.word n) (next.word i) s ∙ ap next.word (sym (same_bytes i n s))
      | inr f ↦ cond-false _ (next.word n) (next.word i) f
    ])
    (λ i. refl)

module _ (from : ℕ) (ns : List NetTree) (ys : List (Option NetId)) where
  pub assign_acts : (guard : Option NetId) (before after : List SizedCell) (old : List Next) (n : List ℕ) (value : ExprTree) (y : NetId) (w : ℕ) → IsNamed ns n
      → length old ≡ length ns
      → ((run : List Clock) (t own : ℕ) → next_store (next_at ns old n) run t own ≡ store_at run t own)
      → ((at : List ℕ → ℕ) (g : List Clock → ℕ → Bool) → AreNamed ns ys at → IsGuard from before guard g
      → IsWord from after y.0 w (λ run t. if g run t then assigned ns (read at run t) n value else next_word (next_at ns old n) run t (at n)))
      → Acts from ns ys guard before after old (slice_set old (place_of ns n) (Word y)) (set n value)
  unfolding next_read
  assign_acts guard before after old n value y w here long kept word = λ at g named guards all k run is t l.
      register_next ns old n here long at run t y _ ((word at g named guards).words all k run is t l) (kept run t (at n))
      ∙ choose_word (next_read ns old at run t) n (g run t) (assigned ns (read at run t) n value)

  pub write_acts : (guard : Option NetId) (before after : List SizedCell) (old : List Next) (n : List ℕ) (spot value : ExprTree) (a x e : NetId) (w : ℕ)
      → IsNamed ns n → length old ≡ length ns → next_at ns old n ≡ Keep
      → ((at : List ℕ → ℕ) → AreNamed ns ys at → IsAddressWord from after a.0 (λ run t. own_value ns (read at run t) spot))
      → ((at : List ℕ → ℕ) → AreNamed ns ys at → IsWord from after x.0 w (λ run t. assigned ns (read at run t) n value))
      → ((g : List Clock → ℕ → Bool) → IsGuard from before guard g → IsWord from after e.0 1 (λ run t. bit (g run t)))
      → Acts from ns ys guard before after old (slice_set old (place_of ns n) (Write a x e)) (put n spot value)
  write_acts guard before after old n spot value a x e w here long kept address word enable = λ at g named guards all k run is t l.
      memory_next ns old n here long at run t a x e _ _ (g run t) (address at named all k run is t l) ((word at named).words all k run is t l)
      ((enable g guards).words all k run is t l) kept

  -- a branch, and two branches one behind the other
  pub when_acts : (guard : Option NetId) (m0 m1 m2 m3 : Circuit) (old new : List Next) (test : ExprTree) (s : StmtTree) (none first : NetId)
      → GrowsByGates m0 m1
      → ((at : List ℕ → ℕ) → AreNamed ns ys at → IsWord from m1.cells none.0 1 (λ run t. bit (own_value ns (read at run t) test == 0)))
      → ((g b : List Clock → ℕ → Bool) → IsGuard from m1.cells guard g → IsWord from m1.cells none.0 1 (λ run t. bit (b run t))
      → IsWord from m2.cells first.0 1 (λ run t. bit (g run t && not (b run t))))
      → Acts from ns ys (Some first) m2.cells m3.cells old new s
      → Acts from ns ys guard m0.cells m3.cells old new (when test s)
  when_acts guard m0 m1 m2 m3 old new test s none first grows fails unless acts = λ at g named guards.
      let b : List Clock → ℕ → Bool = λ run t. own_value ns (read at run t) test == 0 in
      acts at (λ run t. g run t && not (b run t)) named (unless g b (guard_grows from guard g grows guards) (fails at named))

  pub either_acts : (guard : Option NetId) (m0 m1 m2 m3 m4 m5 : Circuit) (old mid new : List Next) (test : ExprTree) (s u : StmtTree)
      (none first second : NetId) → GrowsByGates m0 m1 → GrowsByGates m1 m2 → GrowsByGates m2 m3 → GrowsByGates m3 m4 → GrowsByGates m4 m5
      → ((at : List ℕ → ℕ) → AreNamed ns ys at → IsWord from m1.cells none.0 1 (λ run t. bit (own_value ns (read at run t) test == 0)))
      → ((g b : List Clock → ℕ → Bool) → IsGuard from m1.cells guard g → IsWord from m1.cells none.0 1 (λ run t. bit (b run t))
      → IsWord from m2.cells first.0 1 (λ run t. bit (g run t && not (b run t))))
      → ((g b : List Clock → ℕ → Bool) → IsGuard from m2.cells guard g → IsWord from m2.cells none.0 1 (λ run t. bit (b run t))
      → IsWord from m3.cells second.0 1 (λ run t. bit (g run t && b run t)))
      → Acts from ns ys (Some first) m3.cells m4.cells old mid s → Acts from ns ys (Some second) m4.cells m5.cells mid new u
      → Acts from ns ys guard m0.cells m5.cells old new (either test s u)
  either_acts guard m0 m1 m2 m3 m4 m5 old mid new test s u none first second g1 g2 g3 g4 g5 fails unless also acts more = λ at g named guards all k run is t l.
      let b : List Clock → ℕ → Bool = λ run t. own_value ns (read at run t) test == 0 in
      let zeroes = fails at named in
      let here = guard_grows from guard g g1 guards in
      let yes = word_grows g3 (unless g b here zeroes) in
      let otherwise = word_grows g4 (also g b (guard_grows from guard g g2 here) (word_grows g2 zeroes)) in
      more at (λ run t. g run t && b run t) named otherwise all k run is t l
      ∙ ap (guarded ns (read at run t) u (g run t && b run t)) (acts at (λ run t. g run t && not (b run t)) named yes all (back g5 k) run is t l)
