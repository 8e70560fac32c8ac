-- The layouts of a typed program's parameters and results: their sizes, and how many there are.
use Rattle.std.proofs.Common.{ℕ, zero, suc, ◌≡◌, ◌<◌, ◌≤◌, List, [], ◌∷◌, length, map, Option, None, Some, IsTrue, slice_get, arith, refl, ap, sym, ◌∙◌, subst}
use Rattle.std.proofs.lemmas.List.{length-map}
use Rattle.std.proofs.lemmas.Option.{none-some}
use Rattle.ae_seqtype.specs.SeqTree.{SeqTree, in_size}
use Rattle.ae_seqtype.specs.ValueTree.{ValueTree}
use Rattle.ae_sttype.specs.StTree.{StTree}
use Rattle.ae_seq.specs.ProgramTree.{FuncTree, ParamTree, ProgramTree}
use Rattle.ae_seq.specs.Typing.{◌>>=◌, type_at, types_of_params}
use Rattle.ae_seq.proofs.Types.{item-sized}
use Rattle.ae_eval.specs.Lines.{input_types}
use Rattle.ae_eval.specs.Stack.{IsTyped, params_for, types_in}
use Rattle.ae_eval.proofs.Accepting.{func-types}
use Rattle.ae_eval.proofs.Items.{entry-at}
use Rattle.ae_eval.proofs.Typing.{type-at-is}
use Rattle.ae_rewrite.specs.Interface as interface
use Rattle.ae_rewrite.specs.Interface.{AreValues, main_of, parameter_types, result_types, results_in}
use Rattle.ae_rewrite.specs.LayoutRule.{lay_of}
use Rattle.ae_rewrite.specs.Scheduled.{AreFilling, IsFilling}
use Rattle.ae_rewrite.proofs.Forms.{formed-of, some-funcs}
use Rattle.ae_rewrite.proofs.Items.{param-type}
use Rattle.ae_rewrite.proofs.Laid.{laid_whole, laid_in_size}
use Rattle.ae_correct.specs.Laws.{IsLaidOut}

-- what a list of layouts was made of, by its number
made_from : {A : Type 0} (f : A → Option StTree) (os : List A) (ss : List StTree) → map f os ≡ map (λ (x : StTree). Some x) ss → (r : ℕ) (s : StTree)
    → slice_get ss r ≡ Some s → (o : A) × (slice_get os r ≡ Some o) × (f o ≡ Some s)
made_from f [] [] h r s e = absurd (none-some s e)
made_from f [] (x ∷ ss) h r s e = absurd (let i : [] ≡ Some x ∷ map (λ x. Some x) ss = h in cc)
made_from f (o ∷ os) [] h r s e = absurd (none-some s e)
made_from f (o ∷ os) (x ∷ ss) h zero s e =
    let i : f o ∷ map f os ≡ Some x ∷ map (λ x. Some x) ss = h in
    let first : f o ≡ Some x = cc in
    (o, refl, first ∙ e)
made_from f (o ∷ os) (x ∷ ss) h (suc r) s e =
    let i : f o ∷ map f os ≡ Some x ∷ map (λ x. Some x) ss = h in
    let rest : map f os ≡ map (λ x. Some x) ss = cc in
    made_from f os ss rest r s e

as_many_made : {A : Type 0} (f : A → Option StTree) (os : List A) (ss : List StTree) → map f os ≡ map (λ (x : StTree). Some x) ss → length os ≡ length ss
as_many_made f os ss h = sym (length-map os f) ∙ ap length h ∙ length-map ss (λ (x : StTree). Some x)

as_many_types : (ts : List SeqTree) (vs : List ValueTree) → AreValues ts vs → length vs ≡ length ts
as_many_types [] [] h = refl
as_many_types [] (v ∷ vs) h = absurd h
as_many_types (t ∷ ts) [] h = absurd h
as_many_types (t ∷ ts) (v ∷ vs) h = ap suc (as_many_types ts vs h.1)

same_types : (o : Option FuncTree) → interface.types_in o ≡ params_for o
same_types None = refl
same_types (Some f) = refl

filling : (slowdown : ℕ) (t : SeqTree) (s : StTree) → 0 < slowdown → slowdown ≤ 4096 → IsTrue (in_size t) → lay_of t slowdown ≡ Some s → IsFilling slowdown s
filling slowdown t s some few sized lay = record { time = (laid_whole t slowdown s sized some lay).time; size = laid_in_size t slowdown s sized some few lay }

-- the program function of a typed program
record HasMainFunc (p : ProgramTree) : Type 0 where
  func : FuncTree
  known : slice_get p.funcs (main_of p) ≡ Some func

main_func : (p : ProgramTree) → IsTyped p → HasMainFunc p
main_func p typed = let e = entry-at p.funcs (main_of p) (let some = some-funcs p typed.is_formed in omega (arith, some)) in record { func = e.0; known = e.1 }

module _ (p : ProgramTree) (typed : IsTyped p) where
  abbrev func : FuncTree
  func = (main_func p typed).func

  known : slice_get p.funcs (main_of p) ≡ Some func
  known = (main_func p typed).known

  item_in_size : (i : ℕ) (t : SeqTree) → type_at p (main_of p) i ≡ Some t → IsTrue (in_size t)
  item_in_size i t e = item-sized (types_in p (main_of p)) i t (func-types p (main_of p) func typed known).sized (sym (type-at-is p (main_of p) i typed) ∙ e)

  own_types : parameter_types p ≡ types_of_params func.params
  own_types = ap interface.types_in known

  param_at : (ps : List ParamTree) (i : ℕ) (t : SeqTree) → slice_get (types_of_params ps) i ≡ Some t → (q : ParamTree) × (slice_get ps i ≡ Some q)
      × (q.type ≡ t)
  param_at [] i t e = absurd (none-some t e)
  param_at (q ∷ ps) zero t e = (let same : q.type ≡ t = cc in (q, refl, same))
  param_at (q ∷ ps) (suc i) t e = param_at ps i t e

  param_in_size : (i : ℕ) (t : SeqTree) → slice_get (parameter_types p) i ≡ Some t → IsTrue (in_size t)
  param_in_size i t e =
      let q = param_at func.params i t (ap (λ ts. slice_get ts i) (sym own_types) ∙ e) in
      item_in_size i t (param-type p (main_of p) i func q.0 known q.1 ∙ ap (λ (u : SeqTree). Some u) q.2)

  result_at : (rs : List ℕ) (r : ℕ) (o : Option SeqTree) → slice_get (map (type_at p (main_of p)) rs) r ≡ Some o → (i : ℕ) × (type_at p (main_of p) i ≡ o)
  result_at [] r o e = absurd (none-some o e)
  result_at (i ∷ rs) zero o e = (let same : type_at p (main_of p) i ≡ o = cc in (i, same))
  result_at (i ∷ rs) (suc r) o e = result_at rs r o e

  few_params : length (parameter_types p) ≤ 8
  few_params = (let few = (formed-of p (main_of p) func typed.is_formed known).few_params in
      omega (arith, few, ap length own_types, length-map func.params (λ (q : ParamTree). q.type)))

  few_result_types : length (result_types p) ≤ 8
  few_result_types = (let few = (formed-of p (main_of p) func typed.is_formed known).few_results in
      omega (arith, few, length-map (results_in (slice_get p.funcs (main_of p))) (type_at p (main_of p)), ap (λ o. length (results_in o)) known))

-- ---- the layouts

pub ins_filling : (p : ProgramTree) (slowdown : ℕ) (ins outs : List StTree) → IsLaidOut p slowdown ins outs → AreFilling slowdown ins
ins_filling p slowdown ins outs h q s found =
    let r = made_from (λ t. lay_of t slowdown) (parameter_types p) ins h.layouts.parameters q s found in
    filling slowdown r.0 s h.some h.most (param_in_size p h.typed q r.0 r.1) r.2

result_filling : (slowdown : ℕ) (s : StTree) (o : Option SeqTree) → 0 < slowdown → slowdown ≤ 4096 → ((t : SeqTree) → o ≡ Some t → IsTrue (in_size t))
    → (o >>= λ t. lay_of t slowdown) ≡ Some s → IsFilling slowdown s
result_filling slowdown s None some few sized lay = absurd (none-some s lay)
result_filling slowdown s (Some t) some few sized lay = filling slowdown t s some few (sized t refl) lay

pub outs_filling : (p : ProgramTree) (slowdown : ℕ) (ins outs : List StTree) → IsLaidOut p slowdown ins outs → AreFilling slowdown outs
outs_filling p slowdown ins outs h q s found =
    let r = made_from (λ (o : Option SeqTree). o >>= λ t. lay_of t slowdown) (result_types p) outs h.layouts.results q s found in
    let i = result_at p h.typed (results_in (slice_get p.funcs (main_of p))) q r.0 r.1 in
    result_filling slowdown s r.0 h.some h.most (λ t e. item_in_size p h.typed i.0 t (i.1 ∙ e)) r.2

pub few_ins : (p : ProgramTree) (slowdown : ℕ) (ins outs : List StTree) → IsLaidOut p slowdown ins outs → length ins ≤ 8
few_ins p slowdown ins outs h = omega (arith, few_params p h.typed, as_many_made (λ t. lay_of t slowdown) (parameter_types p) ins h.layouts.parameters)

pub few_outs : (p : ProgramTree) (slowdown : ℕ) (ins outs : List StTree) → IsLaidOut p slowdown ins outs → length outs ≤ 8
few_outs p slowdown ins outs h =
    omega (arith, few_result_types p h.typed, as_many_made (λ (o : Option SeqTree). o >>= λ t. lay_of t slowdown) (result_types p) outs h.layouts.results)

-- a value of each parameter is one for each layout
pub as_many : (p : ProgramTree) (slowdown : ℕ) (ins outs : List StTree) (block : List ValueTree) → IsLaidOut p slowdown ins outs
    → AreValues (input_types p) block → length block ≡ length ins
as_many p slowdown ins outs block h values =
    as_many_types (parameter_types p) block (subst (λ ts. AreValues ts block) (sym (same_types (slice_get p.funcs (main_of p)))) values)
    ∙ as_many_made (λ t. lay_of t slowdown) (parameter_types p) ins h.layouts.parameters
