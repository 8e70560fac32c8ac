-- What a loop over slots holds behind the folds of each slot's lanes.
use Rattle.std.proofs.Common.{ℕ, zero, suc, ◌≡◌, ◌+◌, ◌-◌, ◌*◌, ◌<◌, ◌≤◌, List, length, arith, sym, ap, ◌∙◌}
use Rattle.std.proofs.Math.Nat.{suc-mul}
use Rattle.ae_word.specs.declared.op.WordOp.{WordOp}
use Rattle.ae_netlist.specs.Runs.{Clock, word_at}
use Rattle.ae_ops.specs.Folds.{IsFold, combine, fold_to}
use Rattle.ae_fold.specs.Folding.{Fit}
use Rattle.ae_fold.specs.Feedback.{Continues}
use Rattle.ae_fold.proofs.Associative.{fold_zero, fold_suc, fold_same, fold_cut}

-- where the clock of slot 0 loads and those of the later slots go on, the loop has for slot q, one clock later, the fold up to slot q
pub accumulated : (run : List Clock) (start y : ℕ) (op : WordOp) (w x first inner k : ℕ) → start ≤ k → 1 ≤ inner
    → Continues run start y op w x first y (inner - 1)
    → word_at run k first ≡ 1 → (q : ℕ) → ((j : ℕ) → 1 ≤ j → j ≤ q → word_at run (k + j * inner) first ≡ 0) → k + q * inner + 1 < length run
    → word_at run (k + q * inner + 1) y ≡ fold_to op w (λ j. word_at run (k + j * inner) x) q
accumulated run start y op w x first inner k le pos h one zero none l =
    let t : k + 0 * inner ≡ k = omega arith in
    rw t (h.loads k (omega arith) one) ∙ sym (fold_zero op w (λ j. word_at run (k + j * inner) x) ∙ ap (λ n. word_at run n x) t)
accumulated run start y op w x first inner k le pos h one (suc q) none l =
    let more : suc q * inner ≡ q * inner + inner = suc-mul q inner in
    let before : word_at run (k + q * inner + 1) y ≡ fold_to op w (λ j. word_at run (k + j * inner) x) q =
    accumulated run start y op w x first inner k le pos h one q (λ j a b. none j a (omega arith)) (omega arith) in
    let at : k + suc q * inner ≡ k + q * inner + 1 + (inner - 1) = omega arith in
    let low : word_at run (k + suc q * inner) first ≡ 0 = none (suc q) (omega arith) (omega arith) in
    let step = h.goes_on (k + q * inner + 1) (omega arith) (omega arith) (rw at at low) in
    rw (fold_suc, at) (step ∙ ap (λ v. combine op w v (word_at run (k + q * inner + 1 + (inner - 1)) x)) before)

-- a net behind the loop of the last lane: slot q has what the last lane had up to the slot before, combined with its own
pub continued : (run : List Clock) (start z y : ℕ) (op : WordOp) (w x last first inner k : ℕ) → start ≤ k → 1 ≤ inner
    → Continues run start y op w last first y (inner - 1)
    → Continues run start z op w x first y (inner - 1)
    → word_at run k first ≡ 1 → (q : ℕ) → ((j : ℕ) → 1 ≤ j → j ≤ suc q → word_at run (k + j * inner) first ≡ 0) → k + suc q * inner + 1 < length run
    → word_at run (k + suc q * inner + 1) z ≡ combine op w (fold_to op w (λ j. word_at run (k + j * inner) last) q) (word_at run (k + suc q * inner) x)
continued run start z y op w x last first inner k le pos acc h one q none l =
    let more : suc q * inner ≡ q * inner + inner = suc-mul q inner in
    let before : word_at run (k + q * inner + 1) y ≡ fold_to op w (λ j. word_at run (k + j * inner) last) q =
    accumulated run start y op w last first inner k le pos acc one q (λ j a b. none j a (omega arith)) (omega arith) in
    let at : k + suc q * inner ≡ k + q * inner + 1 + (inner - 1) = omega arith in
    let low : word_at run (k + suc q * inner) first ≡ 0 = none (suc q) (omega arith) (omega arith) in
    let step = h.goes_on (k + q * inner + 1) (omega arith) (omega arith) (rw at at low) in
    rw at (step ∙ ap (λ v. combine op w v (word_at run (k + q * inner + 1 + (inner - 1)) x)) before)

-- ---- slots of lanes are one row

pub fold_grid : (op : WordOp) (w : ℕ) (f : ℕ → ℕ) (lanes q : ℕ) → IsFold op → 1 ≤ lanes → Fit w f (q * lanes + (lanes - 1))
    → fold_to op w (λ s. fold_to op w (λ l. f (s * lanes + l)) (lanes - 1)) q ≡ fold_to op w f (q * lanes + (lanes - 1))
fold_grid op w f lanes zero ok some fit =
    let z : 0 * lanes + (lanes - 1) ≡ lanes - 1 = omega arith in
    fold_zero op w (λ s. fold_to op w (λ l. f (s * lanes + l)) (lanes - 1)) ∙
    rw z (fold_same op w _ _ (lanes - 1) (λ i l. ap f (let y : 0 * lanes + i ≡ i = omega arith in y)))
fold_grid op w f lanes (suc q) ok some fit =
    let m : ℕ = q * lanes + (lanes - 1) in
    let more : suc q * lanes ≡ q * lanes + lanes = suc-mul q lanes in
    let at : suc q * lanes + (lanes - 1) ≡ suc (m + (lanes - 1)) = omega arith in
    let g : ℕ → ℕ = λ s. fold_to op w (λ l. f (s * lanes + l)) (lanes - 1) in
    let last : g (suc q) ≡ fold_to op w (λ i. f (suc (m + i))) (lanes - 1) = fold_same op w _ _ (lanes - 1)
    (λ i l. ap f (let y : suc q * lanes + i ≡ suc (m + i) = omega arith in y)) in
    let before : fold_to op w g q ≡ fold_to op w f m = fold_grid op w f lanes q ok some (record { each = λ i li. fit.each i (omega arith) }) in
    fold_suc op w g q ∙ rw (last, before, at) (sym (fold_cut op w f m (lanes - 1) ok (rw at at fit)))

-- a row of lanes behind the fold of the slots before
pub scan_grid : (op : WordOp) (w : ℕ) (f : ℕ → ℕ) (lanes q l : ℕ) → IsFold op → 1 ≤ lanes → Fit w f (suc q * lanes + l)
    → combine op w (fold_to op w (λ s. fold_to op w (λ i. f (s * lanes + i)) (lanes - 1)) q) (fold_to op w (λ i. f (suc q * lanes + i)) l) ≡ fold_to op w f
    (suc q * lanes + l)
scan_grid op w f lanes q l ok some fit =
    let m : ℕ = q * lanes + (lanes - 1) in
    let more : suc q * lanes ≡ q * lanes + lanes = suc-mul q lanes in
    let left : fold_to op w (λ s. fold_to op w (λ i. f (s * lanes + i)) (lanes - 1)) q ≡ fold_to op w f m = fold_grid op w f lanes q ok some
    (record { each = λ i li. fit.each i (omega arith) }) in
    let right : fold_to op w (λ i. f (suc q * lanes + i)) l ≡ fold_to op w (λ i. f (suc (m + i))) l = fold_same op w _ _ l
    (λ i li. ap f (let e : suc q * lanes + i ≡ suc (m + i) = omega arith in e)) in
    let end : suc q * lanes + l ≡ suc (m + l) = omega arith in
    rw (left, right, end) (sym (fold_cut op w f m l ok (rw end at fit)))

-- a lane's net has in slot q the fold of all elements up to its own, where the nets before it have the prefix folds over lanes of each slot
pub scanned : (run : List Clock) (start z y : ℕ) (op : WordOp) (w x last first inner k : ℕ) (f : ℕ → ℕ) (lanes l : ℕ) → start ≤ k → IsFold op → 1 ≤ inner
    → 1 ≤ lanes
    → Continues run start y op w last first y (inner - 1) → Continues run start z op w x first y (inner - 1) → word_at run k first ≡ 1 → (q : ℕ)
    → Fit w f (q * lanes + l)
    → ((j : ℕ) → 1 ≤ j → j ≤ q → word_at run (k + j * inner) first ≡ 0)
    → ((j : ℕ) → j ≤ q → word_at run (k + j * inner) x ≡ fold_to op w (λ i. f (j * lanes + i)) l)
    → ((j : ℕ) → j < q → word_at run (k + j * inner) last ≡ fold_to op w (λ i. f (j * lanes + i)) (lanes - 1))
    → k + q * inner + 1 < length run → word_at run (k + q * inner + 1) z ≡ fold_to op w f (q * lanes + l)
scanned run start z y op w x last first inner k f lanes l le ok pos wide acc h one zero fit none own all_of long =
    let t : k + 0 * inner ≡ k = omega arith in
    let here : word_at run k x ≡ fold_to op w (λ i. f (0 * lanes + i)) l = rw t at (own 0 (omega arith)) in
    let n : 0 * lanes + l ≡ l = omega arith in
    rw (t, n) (h.loads k (omega arith) one ∙ here ∙ fold_same op w _ f l (λ i li. ap f (let e : 0 * lanes + i ≡ i = omega arith in e)))
scanned run start z y op w x last first inner k f lanes l le ok pos wide acc h one (suc q) fit none own all_of long =
    let sums : fold_to op w (λ j. word_at run (k + j * inner) last) q ≡ fold_to op w
    (λ j. fold_to op w (λ i. f (j * lanes + i)) (lanes - 1)) q = fold_same op w _ _ q (λ j lj. all_of j (omega arith)) in
    continued run start z y op w x last first inner k le pos acc h one q none long ∙
    rw (sums, own (suc q) (omega arith)) (scan_grid op w f lanes q l ok wide fit)
