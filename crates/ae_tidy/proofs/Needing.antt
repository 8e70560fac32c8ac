-- Only needed nets are kept, and their copies are needed.
use Rattle.std.proofs.Common.{ℕ, ◌≡◌, List, [], ◌∷◌, ◌++◌, set, None, Some, slice_get, Bool, true, inl, inr, ap, sym, ◌∙◌, subst}
use Rattle.std.proofs.lemmas.Bool.{cases_eq}
use Rattle.ae_netlist.specs.declared.cell.NetId.{NetId}
use Rattle.ae_netlist.specs.declared.cell.SizedCell.{SizedCell}
use Rattle.ae_netlist.specs.declared.cell.Outlet.{Outlet}
use Rattle.ae_netlist.specs.Circuit.{Circuit}
use Rattle.ae_netlist.proofs.Gets.{get_push_cases, get_set_other}
use Rattle.ae_tidy.specs.Marks.{IsKept, is_root}
use Rattle.ae_tidy.specs.Needed.{AreNeeded, IsNeeded, KeepsOnly, Reads, as_output, as_root, as_read}

pub only_refl : (P : ℕ → Type 0) (keep : List Bool) (line : List NetId) → KeepsOnly P keep line keep line
only_refl P keep line = record { kept = λ n k. inl k; waits = λ k n h. inl h }

pub only_trans : {P : ℕ → Type 0} {a b c : List Bool} {x y z : List NetId} → KeepsOnly P a x b y → KeepsOnly P b y c z → KeepsOnly P a x c z
only_trans p q = record {
  kept = λ n k. elim (q.kept n k) [ inl h ↦ p.kept n h | inr h ↦ inr h ];
  waits = λ k n h. elim (q.waits k n h) [ inl g ↦ p.waits k n g | inr g ↦ inr g ];
}

pub only_map : {P : ℕ → Type 0} {a b : List Bool} {x y : List NetId} (Q : ℕ → Type 0) → ((n : ℕ) → P n → Q n) → KeepsOnly P a x b y → KeepsOnly Q a x b y
only_map Q f p = record {
  kept = λ n k. elim (p.kept n k) [ inl h ↦ inl h | inr h ↦ inr (f n h) ];
  waits = λ k n h. elim (p.waits k n h) [ inl g ↦ inl g | inr g ↦ inr (f n.0 g) ];
}

-- one more net is kept, and waits
pub only_one : (keep : List Bool) (line : List NetId) (net : NetId) → KeepsOnly (λ n. n ≡ net.0) keep line (set keep net.0 true) (line ++ net ∷ [])
only_one keep line net = record {
  kept = λ n k. elim (cases_eq n net.0) [
    | inl e ↦ inr e
    | inr ne ↦ inl (record { kept = sym (get_set_other keep net.0 n true ne) ∙ k.kept })
  ];
  waits = λ k n h. elim (get_push_cases line net k n h) [
    | inl w ↦ inl w.0
    | inr w ↦ inr (ap (λ (x : NetId). x.0) (sym w.1))
  ];
}

-- an output, a root, and what a needed cell reads
pub only_output : {c : Circuit} {a b : List Bool} {x y : List NetId} (k : ℕ) (o : Outlet) → slice_get c.outlets k ≡ Some o
    → KeepsOnly (λ n. n ≡ o.net.0) a x b y → KeepsOnly (IsNeeded c) a x b y
only_output {c = c} k o h p = only_map (IsNeeded c) (λ n e. as_output n k o h e) p

pub only_root : {c : Circuit} {a b : List Bool} {x y : List NetId} (i : ℕ) (sized : SizedCell) → slice_get c.cells i ≡ Some sized
    → KeepsOnly (λ n. (n ≡ i) × (is_root sized.cell ≡ true)) a x b y → KeepsOnly (IsNeeded c) a x b y
only_root {c = c} i sized h p = only_map (IsNeeded c) (λ n e. as_root n sized (ap (slice_get c.cells) e.0 ∙ h) e.1) p

pub only_reads : {c : Circuit} {a b : List Bool} {x y : List NetId} (reader : ℕ) (sized : SizedCell) → IsNeeded c reader
    → slice_get c.cells reader ≡ Some sized → KeepsOnly (Reads sized.cell) a x b y → KeepsOnly (IsNeeded c) a x b y
only_reads {c = c} reader sized n h p = only_map (IsNeeded c) (λ m e. as_read m reader sized n h e) p

pub needed_more : (c : Circuit) (keep more : List Bool) (line longer : List NetId) → KeepsOnly (IsNeeded c) keep line more longer → AreNeeded c keep line
    → AreNeeded c more longer
needed_more c keep more line longer p a = record {
  kept = λ n k. elim (p.kept n k) [ inl h ↦ a.kept n h | inr h ↦ h ];
  waits = λ k n h. elim (p.waits k n h) [ inl g ↦ a.waits k n g | inr g ↦ g ];
}

-- at first nothing is kept, and the line is empty
pub needed_first : (c : Circuit) (none : List Bool) (line : List NetId) → line ≡ [] → ((n : ℕ) → IsKept none n → ⊥) → AreNeeded c none line
needed_first c none line is empty = record {
  kept = λ n k. absurd (empty n k);
  waits = λ k n h. (let q : None ≡ Some n = subst (λ (l : List NetId). slice_get l k ≡ Some n) is h in cc);
}
