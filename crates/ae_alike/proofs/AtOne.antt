-- Each line of a typed program has a layout in one clock.
use Rattle.std.proofs.Common.{◌≡◌, ℕ, zero, suc, ◌+◌, ◌-◌, ◌<◌, Option, Some, None, is_some, true, ◌&&◌, List, [], ◌∷◌, length, slice_get, refl, arith, sym, ap, ◌∙◌, subst, inl, inr, if◌then◌else◌}
use Rattle.std.specs.Option.{option_map}
use Rattle.std.proofs.lemmas.Bool.{cases_lt}
use Rattle.std.proofs.lemmas.Option.{slice_get_within}
use Rattle.ae_seqtype.specs.SeqTree.{SeqTree, atom, seq}
use Rattle.ae_seq.specs.Formed.{item_count}
use Rattle.ae_seq.specs.ProgramTree.{ProgramTree, FuncTree, NodeTree, ParamTree}
use Rattle.ae_seq.specs.Typing.{◌>>=◌}
use Rattle.ae_sttype.specs.StTree.{StTree, sseq}
use Rattle.ae_eval.specs.Stack.{IsTyped, types_in}
use Rattle.ae_eval.proofs.Items.{entry-at}
use Rattle.ae_eval.proofs.Starting.{count-items}
use Rattle.ae_eval.proofs.Typing.{type-at-is}
use Rattle.ae_rewrite.specs.LayoutRule.{lay_of}
use Rattle.ae_rewrite.specs.declared.calls.Call.{Call}
use Rattle.ae_rewrite.specs.Calls.{called_by, layout_at}
use Rattle.ae_rewrite.specs.FailingLine.{call_line, failing, node_line, nodes_line, or_line, params_laid, unless_laid}
use Rattle.ae_rewrite.proofs.Forms.{some-funcs}
use Rattle.ae_rewrite.proofs.Lines.{called-above, failing_is}
use Rattle.ae_rewrite.proofs.Reached.{called-within}
use Rattle.ae_alike.specs.There.{SchedulesAtOne}
use Rattle.ae_alike.proofs.There.{schedules_there}

lay-one : (t : SeqTree) → (s : StTree) × (lay_of t 1 ≡ Some s)
lay-one (atom a) = (_, refl)
lay-one (seq n t) = (let r = lay-one t in (sseq n r.0, ap (λ (o : Option StTree). option_map (sseq n) o) r.1))

params-one : (ps : List ParamTree) → params_laid 1 ps ≡ true
params-one [] = refl
params-one (q ∷ ps) = let r = lay-one q.type in (λ i. is_some (r.1 i) && params-one ps i)

module _ (p : ProgramTree) (typed : IsTyped p) where
  abbrev IsFine : ℕ → Type 0
  IsFine f = f < length p.funcs → failing p f 1 ≡ None

  module _ (f : ℕ) (of : FuncTree) (inside : f < length p.funcs) (known : slice_get p.funcs f ≡ Some of) (before : (g : ℕ) → g < f → IsFine g) where
    item-laid : (i : ℕ) → i < item_count of → (s : StTree) × (layout_at p f 1 i ≡ Some s)
    item-laid i low =
        let long : length (types_in p f) ≡ item_count of = count-items p f of typed known in
        let e = entry-at (types_in p f) i (omega arith) in
        let r = lay-one e.0 in
        (r.0, ap (λ o. o >>= λ t. lay_of t 1) (type-at-is p f i typed ∙ e.1) ∙ r.1)

    call-fine : (o : Option Call) → ((c : Call) → o ≡ Some c → failing p c.func c.budget ≡ None) → call_line (failing p) o ≡ None
    call-fine None each = refl
    call-fine (Some c) each = each c refl

    nodes-fine : (k : ℕ) (ns : List NodeTree) → ((j : ℕ) (n : NodeTree) → slice_get ns j ≡ Some n → slice_get of.nodes (k + j) ≡ Some n)
        → nodes_line p (failing p) f 1 (length of.params + k) ns ≡ None
    nodes-fine k [] follow = refl
    nodes-fine k (n ∷ ns) follow =
        let i : ℕ = length of.params + k in
        let start : k + 0 ≡ k = omega arith in
        let here : slice_get of.nodes k ≡ Some n = subst (λ j. slice_get of.nodes j ≡ Some n) start (follow 0 n refl) in
        let within = slice_get_within of.nodes k n here in
        let r = item-laid i (omega arith) in
        let called : call_line (failing p) (called_by p f 1 n) ≡ None = call-fine (called_by p f 1 n) (λ c e.
        (let low = called-above p f 1 of k n c typed.is_formed known here e in
        let w = called-within p f 1 n c (omega arith) e in
        let one : c.budget ≡ 1 = omega (arith, w.0, w.1) in
        ap (failing p c.func) one ∙ before c.func low (omega arith))) in
        let own : node_line p (failing p) f 1 i n ≡ None = ap (λ o. unless_laid o n.line (call_line (failing p) (called_by p f 1 n))) r.1 ∙ called in
        let next : i + 1 ≡ length of.params + (k + 1) = omega arith in
        ap (λ o. or_line o (nodes_line p (failing p) f 1 (i + 1) ns)) own ∙ ap (λ j. nodes_line p (failing p) f 1 j ns) next
        ∙ nodes-fine (k + 1) ns (λ j m e. (let x : k + suc j ≡ k + 1 + j = omega arith in subst (λ t. slice_get of.nodes t ≡ Some m) x (follow (suc j) m e)))

    func-fine : failing p f 1 ≡ None
    func-fine =
        let start : length of.params + 0 ≡ length of.params = omega arith in
        failing_is p f 1 of typed.is_formed known
        ∙ ap (λ b. if b then nodes_line p (failing p) f 1 (length of.params) of.nodes else Some of.line) (params-one of.params)
        ∙ ap (λ j. nodes_line p (failing p) f 1 j of.nodes) (sym start)
        ∙ nodes-fine 0 of.nodes (λ j n e. (let x : 0 + j ≡ j = omega arith in subst (λ t. slice_get of.nodes t ≡ Some n) (sym x) e))

  one-more : (f : ℕ) → ((g : ℕ) → g < f → IsFine g) → IsFine f
  one-more f before inside = let e = entry-at p.funcs f inside in func-fine f e.0 inside e.1 before

  all-below : (f g : ℕ) → g < f → IsFine g
  all-below zero g low = absurd (omega arith)
  all-below (suc f) g low = elim (cases_lt g f) [
    | inl less ↦ all-below f g less
    | inr high ↦ (let same : f ≡ g = omega arith in subst IsFine same (one-more f (all-below f)))
  ]

pub schedules_at_one : SchedulesAtOne
schedules_at_one p typed =
    let some = some-funcs p typed.is_formed in
    schedules_there p 1 typed.is_formed (one-more p typed (length p.funcs - 1) (all-below p typed (length p.funcs - 1)) (omega arith))
