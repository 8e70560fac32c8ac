use Rattle.std.proofs.Common.{ℕ, ◌≡◌, sym, ◌∙◌, subst}
use Rattle.ae_gates.specs.Cells.{IsWord}
use Rattle.ae_order.proofs.Answered.{ok_map}
use Rattle.ae_gates.proofs.Words.{same_word}
use Rattle.ae_express.proofs.forms.combine.Goals as goal

pub returns-in-Word-clause-word : goal.returns-in-Word-clause-word
returns-in-Word-clause-word c =
    let form = c.in-Word.ensures in
    let left : c.args.wx ≡ c.args.w = c.requires.left_width ∙ form.left c.args.w c.args.wx c.args.wy in
    let right : c.args.wy ≡ c.args.w = c.requires.right_width ∙ form.right c.args.w c.args.wx c.args.wy in
    ok_map c.gate.result (λ z h f g p q. same_word _ _
    (λ run t. form.value c.args.w (f run t) (g run t) (f run t))
    (h f g (subst (λ (u : ℕ). IsWord c.args.from c.args.nl.now.cells c.args.x.0 u f) left p)
    (subst (λ (u : ℕ). IsWord c.args.from c.args.nl.now.cells c.args.y.0 u g) right q)))
    c.gate.ensures.word

pub returns-in-Shift-clause-word : goal.returns-in-Shift-clause-word
returns-in-Shift-clause-word c =
    let form = c.in-Shift.ensures in
    let left : c.args.wx ≡ c.args.w = c.requires.left_width ∙ form.left c.args.w c.args.wx c.args.wy in
    ok_map c.shifted.result (λ z h f g p q. same_word _ _
    (λ run t. form.value c.args.w (f run t) (g run t))
    (h f g (subst (λ (u : ℕ). IsWord c.args.from c.args.nl.now.cells c.args.x.0 u f) left p) q))
    c.shifted.ensures.word

pub returns-in-Comparison-clause-word : goal.returns-in-Comparison-clause-word
returns-in-Comparison-clause-word c =
    let form = c.in-Comparison.ensures in
    let same : c.args.wy ≡ c.args.wx = c.requires.right_width ∙ form.right c.args.w c.args.wx c.args.wy ∙
    sym (c.requires.left_width ∙ form.left c.args.w c.args.wx c.args.wy) in
    ok_map c.compare.result (λ z h f g p q. same_word _ _
    (λ run t. form.value c.args.w (f run t) (g run t))
    (h f g p (subst (λ (u : ℕ). IsWord c.args.from c.args.nl.now.cells c.args.y.0 u g) same q)))
    c.compare.ensures.word

pub returns-in-Test-clause-word : goal.returns-in-Test-clause-word
returns-in-Test-clause-word c =
    let form = c.in-Test.ensures in
    ok_map c.tested.result (λ z h f g p q. same_word _ _ (λ run t. form.value c.args.w (f run t) (g run t)) (h f g p q)) c.tested.ensures.word
