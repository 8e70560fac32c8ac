-- The value of a concatenation, from its parts, one after the other.
use Rattle.std.proofs.Common.{ℕ, ◌≡◌, ◌+◌, ◌*◌, ◌^◌, List, refl, sym, ap, ◌∙◌, arith}
use Rattle.std.proofs.Math.Nat.{add-mul, mul_assoc}
use Rattle.std.proofs.lemmas.Nat.{pow-add}
use Rattle.ae_netlist.specs.declared.cell.SizedCell.{SizedCell}
use Rattle.ae_netlist.specs.Circuit.{Circuit}
use Rattle.ae_netlist.specs.Runs.{Clock}
use Rattle.ae_vmodule.specs.ModuleTree.{ExprTree, concat_more, NetTree}
use Rattle.ae_judge.specs.Widths.{own_width}
use Rattle.ae_runs.specs.Values.{value_at, own_value}
use Rattle.ae_runs.specs.Named.{read}
use Rattle.ae_gates.specs.Cells.{GrowsByGates, IsWord}
use Rattle.ae_gates.proofs.Words.{word_grows, same_word}

-- a net has a word that gives, with what is left of a concatenation behind it, the whole
pub record SoFar (from : ℕ) (cells : List SizedCell) (x w : ℕ) (ns : List NetTree) (at : List ℕ → ℕ) (left whole : ExprTree) : Type 0 where
  pub value : List Clock → ℕ → ℕ
  pub word : IsWord from cells x w value
  pub joined : (run : List Clock) (t : ℕ) → value run t * 2 ^ own_width ns left + own_value ns (read at run t) left ≡ own_value ns (read at run t) whole

regroup : (a b q v o x : ℕ) → x ≡ b * o → (a * b + v) * o + q ≡ a * x + (v * o + q)
regroup a b q v o x e =
    let s : (a * b + v) * o ≡ a * b * o + v * o = add-mul (a * b) v o in
    let t : a * b * o ≡ a * x = mul_assoc a b o ∙ ap (λ k. a * k) (sym e) in
    omega arith

module _ (from : ℕ) (ns : List NetTree) (at : List ℕ → ℕ) where
  -- the word at the width that an expression has by itself
  pub by_itself : (cells : List SizedCell) (x w : ℕ) (e : ExprTree) → w ≡ own_width ns e
      → IsWord from cells x w (λ run t. value_at ns (read at run t) w e) → IsWord from cells x w (λ run t. own_value ns (read at run t) e)
  by_itself cells x w e own = same_word _ _ (λ run t. ap (λ k. value_at ns (read at run t) k e) own)

  pub first_part : (cells : List SizedCell) (x w : ℕ) (a rest : ExprTree) → IsWord from cells x w (λ run t. own_value ns (read at run t) a)
      → SoFar from cells x w ns at rest (concat_more a rest)
  first_part cells x w a rest word = record { value = λ run t. own_value ns (read at run t) a; word = word; joined = λ run t. refl }

  pub next_part : (m0 m1 m2 : Circuit) (x y z w u : ℕ) (a rest whole : ExprTree) → SoFar from m0.cells x w ns at (concat_more a rest) whole
      → GrowsByGates m0 m1 → u ≡ own_width ns a → IsWord from m1.cells y u (λ run t. own_value ns (read at run t) a)
      → ((f g : List Clock → ℕ → ℕ) → IsWord from m1.cells x w f → IsWord from m1.cells y u g
      → IsWord from m2.cells z (w + u) (λ run t. f run t * 2 ^ u + g run t))
      → SoFar from m2.cells z (w + u) ns at rest whole
  next_part m0 m1 m2 x y z w u a rest whole s g own word linked = record {
    value = λ run t. s.value run t * 2 ^ u + own_value ns (read at run t) a;
    word = linked _ _ (word_grows g s.word) word;
    joined = λ run t.
        ap (λ k. (s.value run t * 2 ^ k + own_value ns (read at run t) a) * 2 ^ own_width ns rest + own_value ns (read at run t) rest) own
        ∙ regroup (s.value run t) (2 ^ own_width ns a) (own_value ns (read at run t) rest) (own_value ns (read at run t) a) (2 ^ own_width ns rest) _
        (pow-add 2 (own_width ns a) (own_width ns rest))
        ∙ s.joined run t;
  }

  pub last_part : (m0 m1 m2 : Circuit) (x y z w u : ℕ) (left whole : ExprTree) → SoFar from m0.cells x w ns at left whole
      → GrowsByGates m0 m1 → u ≡ own_width ns left → IsWord from m1.cells y u (λ run t. own_value ns (read at run t) left)
      → ((f g : List Clock → ℕ → ℕ) → IsWord from m1.cells x w f → IsWord from m1.cells y u g
      → IsWord from m2.cells z (w + u) (λ run t. f run t * 2 ^ u + g run t))
      → IsWord from m2.cells z (w + u) (λ run t. own_value ns (read at run t) whole)
  last_part m0 m1 m2 x y z w u left whole s g own word linked =
      same_word _ _ (λ run t. ap (λ k. s.value run t * 2 ^ k + own_value ns (read at run t) left) own ∙ s.joined run t)
      (linked _ _ (word_grows g s.word) word)
