-- In a module without loops, what passes from the names that an equation reads to its own name holds of every name.
use Rattle.std.proofs.Common.{ℕ, zero, suc, ◌≡◌, ◌≤◌, ◌⊎◌, inl, inr, List, length, Some, None, arith, refl, sym, subst}
use Rattle.std.specs.Prelude.{map}
use Rattle.std.proofs.lemmas.List.{length-map}
use Rattle.ae_vmodule.specs.ModuleTree.{DriveTree, ModuleTree}
use Rattle.ae_judge.specs.Names.{Among, names_in, target_of, equations}
use Rattle.ae_judge.specs.Faults.{Feeds, Reaches, at_once, through, IsWellFormed}
use Rattle.ae_runs.specs.PlainRun.{drive_named}
use Rattle.ae_judge.proofs.Members.{among_at, among_map, without, among_without, without_shorter}
use Rattle.ae_runs.proofs.Declared.{regular, named_or_not, driven_net, found_drive, drive_of_name}

-- each name with an equation that a name is or reaches is among these
abbrev IsWithin : ModuleTree → List ℕ → List (List ℕ) → Type 0
IsWithin m n rest = (d : DriveTree) → Among d (equations m) → (n ≡ d.name) ⊎ Reaches m n d.name → Among d.name rest

module _ (m : ModuleTree) (ok : IsWellFormed m) where
  no_round : (d : DriveTree) → Among d (equations m) → Reaches m d.name d.name → ⊥
  no_round d a h =
      let x = driven_net m (regular ok) d a in
      let p = among_at x.0 m.nets x.1 in
      ok.no_loop p.0 (x.0, p.1, subst (λ n. Reaches m n n) (sym x.2) h)

  within_part : (d : DriveTree) (b : List ℕ) (rest : List (List ℕ)) → Among d (equations m) → Among b (names_in d.value) → IsWithin m d.name rest
      → IsWithin m b (without d.name rest)
  within_part d b rest a reads within e there goes =
      let feeds : Feeds m d.name b = (d, a, refl, reads) in
      let from : Reaches m d.name e.name = elim goes [
        | inl same ↦ subst (Reaches m d.name) same (at_once d.name b feeds)
        | inr later ↦ through d.name b e.name feeds later
      ] in
      among_without d.name e.name rest (within e there (inr from)) (λ same. no_round d a (subst (Reaches m d.name) same from))

  module _ (P : ℕ → List ℕ → Type 0)
      (free : (k : ℕ) (n : List ℕ) → drive_named (equations m) n ≡ None → P k n)
      (step : (k : ℕ) (d : DriveTree) → Among d (equations m) → drive_named (equations m) d.name ≡ Some d → ((b : List ℕ) → Among b (names_in d.value) → P k b)
      → P (suc k) d.name) where
    by_rest : (k : ℕ) (rest : List (List ℕ)) → length rest ≤ k → (n : List ℕ) → IsWithin m n rest → P k n
    by_rest zero rest few n within = elim (named_or_not (drive_named (equations m) n)) [
      | inr none ↦ free zero n none
      | inl d ↦
          let r = drive_of_name m (regular ok) n d.0 d.1 in
          let short = without_shorter d.0.name rest (within d.0 r.0 (inl (sym r.1))) in
          absurd (omega arith)
    ]
    by_rest (suc k) rest few n within = elim (named_or_not (drive_named (equations m) n)) [
      | inr none ↦ free (suc k) n none
      | inl d ↦
          let r = drive_of_name m (regular ok) n d.0 d.1 in
          let short = without_shorter d.0.name rest (within d.0 r.0 (inl (sym r.1))) in
          let here : IsWithin m d.0.name rest = subst (λ u. IsWithin m u rest) (sym r.1) within in
          subst (P (suc k)) r.1 (step k d.0 r.0 (found_drive m (regular ok) d.0 r.0)
          (λ b reads. by_rest k (without d.0.name rest) (omega arith) b (within_part d.0 b rest r.0 reads here)))
    ]

    -- as many steps as there are equations are enough
    pub by_needs : (n : List ℕ) → P (length (equations m)) n
    by_needs n = by_rest (length (equations m)) (map target_of (equations m)) (let e = length-map (equations m) target_of in omega arith) n
        (λ d a goes. among_map target_of d (equations m) a)
