-- What the cells of an accumulator hold.
use Rattle.std.proofs.Common.{ℕ, ◌≡◌, ◌+◌, ◌-◌, ◌<◌, ◌≤◌, List, ◌∷◌, [], length, arith, refl, ap, ◌∙◌, add-zero}
use Rattle.ae_word.specs.declared.op.WordOp.{WordOp}
use Rattle.ae_word.specs.declared.op.WordOp.TheVariants.{Mux}
use Rattle.ae_netlist.specs.declared.cell.NetId.{NetId}
use Rattle.ae_netlist.specs.declared.cell.SizedCell.{SizedCell}
use Rattle.ae_netlist.specs.Circuit.{Circuit}
use Rattle.ae_netlist.specs.Runs.{Clock, word_at, InEveryRunFrom}
use Rattle.ae_netlist.proofs.Carried.{carries_later}
use Rattle.ae_gates.specs.Cells.{Adds, Grows, IsResult}
use Rattle.ae_clocked.specs.Signals.{IsLater, IsNextOf}
use Rattle.ae_clocked.specs.Delays.{IsLate}
use Rattle.ae_gates.proofs.Added.{back, grows_length}
use Rattle.ae_fold.specs.Feedback.{Continues}

pub trail_none : (cells : List SizedCell) (x : ℕ) → InEveryRunFrom (length cells) cells (λ run. IsLate run x x 0)
trail_none cells x = λ all k run r t l. ap (λ n. word_at run n x) (add-zero t)

pub trail_more : (base a b : Circuit) (x d y z : ℕ) → Grows base a → Grows a b → InEveryRunFrom (length base.cells) a.cells (λ run. IsLate run y x d)
    → InEveryRunFrom (length a.cells) b.cells (λ run. IsNextOf run z y) → InEveryRunFrom (length base.cells) b.cells (λ run. IsLate run z x (d + 1))
trail_more base a b x d y z g h late next = λ all k run r t l.
    let s : t + (d + 1) ≡ t + d + 1 = omega arith in
    let n : word_at run (t + d + 1) z ≡ word_at run (t + d) y = next all (carries_later _ _ (grows_length g) k) run r (t + d) (omega arith) in
    rw s (n ∙ late all (back h k) run r t (omega arith))

pub continues : (run : List Clock) (op : WordOp) (w d y start : ℕ) (z old x first both next : NetId) → IsLater run start old.0 y d
    → IsResult run both.0 op w (old ∷ x ∷ old ∷ [])
    → IsResult run next.0 Mux w (first ∷ x ∷ both ∷ []) → IsNextOf run z.0 next.0 → Continues run start z.0 op w x.0 first.0 y d
continues run op w d y start z old x first both next late comb pick reg = record {
  loads = λ t l e. reg t l ∙ pick t (omega arith) ∙ rw e refl;
  goes_on = λ t s l e.
      let l0 : t + d < length run = omega arith in
      let here : start + (t + d - start) ≡ t + d = omega arith in
      let there : start + (t + d - start - d) ≡ t = omega arith in
      let b : word_at run (t + d) old.0 ≡ word_at run t y = rw here at (rw there at (late (t + d - start) (omega arith) (omega arith))) in
      reg (t + d) l ∙ pick (t + d) l0 ∙ rw e (comb (t + d) l0 ∙ rw b refl);
}

-- ---- at most so many cells

-- with a greater bound, and as many products in other words
pub adds_is : {a b : Circuit} {m n k j : ℕ} → m ≤ n → k ≡ j → Adds a b m k → Adds a b n j
adds_is l e p = record { grows = p.grows; cells = omega (arith, p.cells); muls = omega (arith, p.muls); memories = p.memories; whole = p.whole }
