-- A layout has the atoms of the type that it lays out, under any budget.
use Rattle.std.proofs.Common.{◌≡◌, ℕ, zero, suc, ◌-◌, ◌*◌, ◌/◌, ◌%◌, ◌<◌, Bool, true, false, nat_eq, if◌then◌else◌, List, [], ◌∷◌, Option, Some, None, IsTrue, refl, arith, sym, ap, ◌∙◌, mul_assoc, mod-eq_of_lt}
use Rattle.std.specs.Option.{option_map}
use Rattle.std.proofs.lemmas.Bool.Decides.{nat_tests}
use Rattle.std.proofs.lemmas.Option.{none-some, same_Some, option_and_then_some}
use Rattle.ae_word.specs.AtomTree.{AtomTree, atom_words}
use Rattle.ae_seqtype.specs.SeqTree.{SeqTree, atom, seq, atoms, atom_of, words, parts_in_size}
use Rattle.ae_sttype.specs.StTree.{StTree, atom as st_atom, tseq, st_atoms, element_atom, element_words}
use Rattle.ae_rewrite.specs.declared.cases.Case.{Case}
use Rattle.ae_rewrite.specs.declared.cases.Case.TheVariants.{Parallel, Spread, Grouped, Padded, Folded}
use Rattle.ae_rewrite.specs.LayoutRule.{arranged, case_of, inner_of, lanes_of, slots_of, lay_of}
use Rattle.ae_rewrite.proofs.Applies.{Applies, applies, whole}
use Rattle.ae_eval.proofs.Zips.{words-atoms}
use Rattle.ae_flow.specs.Flow.{layout_words}

-- the layout has the type's atoms, and each element is the type's atom
pub record LaysOut (t : SeqTree) (s : StTree) : Type 0 where
  pub atoms : st_atoms s ≡ atoms t
  pub atom : element_atom s ≡ atom_of t

abbrev pub AllLaidOut : List SeqTree → List StTree → Type 0
AllLaidOut [] [] = Unit {0}
AllLaidOut (t ∷ ts) (s ∷ ss) = LaysOut t s × AllLaidOut ts ss
AllLaidOut _ _ = ⊥

pub element-size : (t : SeqTree) (s : StTree) → LaysOut t s → element_words s ≡ atom_words (atom_of t)
element-size t s h = ap atom_words h.atom

pub layout-size : (t : SeqTree) (s : StTree) → LaysOut t s → layout_words s ≡ words t
layout-size t s h = ap (λ n. n * element_words s) h.atoms ∙ ap (λ k. atoms t * k) (element-size t s h) ∙ sym (words-atoms t)

-- ---- how many elements a case lays out

count-by : (n clocks : ℕ) (c : Case) → 0 < n → 0 < clocks → Applies n clocks c → slots_of n clocks c * lanes_of n clocks c ≡ n
count-by n clocks Parallel p q h = omega arith
count-by n clocks Spread p q h = omega arith
count-by n clocks Grouped p q h = whole n clocks q h
count-by n clocks Padded p q h = omega arith
count-by n clocks (Folded d) p q h = whole n d (omega (arith, h.0)) h.1

-- no clocks lay out one element after another
no-clocks : (n : ℕ) (c : Case) → 0 < n → case_of n 0 ≡ Some c → Spread ≡ c
no-clocks n c p h =
    let none : 0 % n ≡ 0 = mod-eq_of_lt p in
    let own : case_of n 0 ≡ Some Spread = rw none refl in
    same_Some Spread c (sym own ∙ h)

-- all elements are laid out
pub spread-all : (n clocks : ℕ) (c : Case) → 0 < n → case_of n clocks ≡ Some c → slots_of n clocks c * lanes_of n clocks c ≡ n
spread-all n zero c p h = rw (← no-clocks n c p h) (let e : n * 1 ≡ n = omega arith in e)
spread-all n (suc m) c p h = count-by n (suc m) c p (omega arith) (applies n (suc m) c (omega arith) h)

arranged-atoms : (n clocks : ℕ) (c : Case) (x : StTree) → st_atoms (arranged n clocks c x) ≡ slots_of n clocks c * lanes_of n clocks c * st_atoms x
arranged-atoms n clocks Parallel x = let e : n ≡ 1 * n = omega arith in ap (λ k. k * st_atoms x) e
arranged-atoms n clocks Spread x = let e : n ≡ n * 1 = omega arith in ap (λ k. k * st_atoms x) e
arranged-atoms n clocks Grouped x = sym (mul_assoc clocks (n / clocks) (st_atoms x))
arranged-atoms n clocks Padded x = let e : n ≡ n * 1 = omega arith in ap (λ k. k * st_atoms x) e
arranged-atoms n clocks (Folded d) x = sym (mul_assoc d (n / d) (st_atoms x))

arranged-atom : (n clocks : ℕ) (c : Case) (x : StTree) → element_atom (arranged n clocks c x) ≡ element_atom x
arranged-atom n clocks Parallel x = refl
arranged-atom n clocks Spread x = refl
arranged-atom n clocks Grouped x = refl
arranged-atom n clocks Padded x = refl
arranged-atom n clocks (Folded d) x = refl

-- ---- every layout

atom-laid : (b : Bool) (a : AtomTree) (m : ℕ) (s : StTree) → Some (if b then st_atom a else tseq 1 m (st_atom a)) ≡ Some s → LaysOut (atom a) s
atom-laid true a m s h = rw (← same_Some _ s h) (record { atoms = refl; atom = refl })
atom-laid false a m s h = rw (← same_Some _ s h) (record { atoms = refl; atom = refl })

pub map-some : {A B : Type 0} (f : A → B) (o : Option A) (y : B) → option_map f o ≡ Some y → (x : A) × (o ≡ Some x) × (f x ≡ y)
map-some f None y h = absurd (none-some y h)
map-some f (Some x) y h = (x, refl, same_Some (f x) y h)

pub lays-out : (t : SeqTree) (clocks : ℕ) (s : StTree) → IsTrue (parts_in_size t) → lay_of t clocks ≡ Some s → LaysOut t s
lays-out (atom a) clocks s sized h = atom-laid (nat_eq clocks 1) a (clocks - 1) s h
lays-out (seq n t) clocks s sized h =
    let some : 0 < n = grind (arith, nat_tests) in
    let part : IsTrue (parts_in_size t) = grind (arith, nat_tests) in
    option_and_then_some (λ c. option_map (arranged n clocks c) (lay_of t (inner_of n clocks c))) (case_of n clocks) s h (λ c at found.
    let r = map-some (arranged n clocks c) (lay_of t (inner_of n clocks c)) s found in
    let l = lays-out t (inner_of n clocks c) r.0 part r.1 in
    rw (← r.2) (record {
      atoms = arranged-atoms n clocks c r.0 ∙ ap (λ k. k * st_atoms r.0) (spread-all n clocks c some at) ∙ ap (λ k. n * k) l.atoms;
      atom = arranged-atom n clocks c r.0 ∙ l.atom;
    }))
