-- The results of a typed program on values are values of the types of its results.
use Rattle.std.proofs.Common.{◌≡◌, ℕ, ◌-◌, List, [], ◌∷◌, length, take, map, Option, None, Some, slice_get, refl, sym, ap, ◌∙◌, subst}
use Rattle.std.specs.Prelude.{unwrap_or}
use Rattle.std.proofs.lemmas.Option.{slice_get_within}
use Rattle.ae_seqtype.specs.SeqTree.{SeqTree}
use Rattle.ae_seqtype.specs.ValueTree.{ValueTree, flat, Stands}
use Rattle.ae_seq.specs.ProgramTree.{ProgramTree, FuncTree}
use Rattle.ae_seq.specs.Typing.{type_at, ◌>>=◌}
use Rattle.ae_seq.specs.Meaning.{Meaning, at, item_values, mean, meaning, meanings, no_function}
use Rattle.ae_sttype.specs.StTree.{StTree}
use Rattle.ae_rewrite.specs.LayoutRule.{lay_of}
use Rattle.ae_rewrite.specs.StProgramTree.{StFuncTree}
use Rattle.ae_rewrite.specs.Scheduled.{HasKey, IsSchedule}
use Rattle.ae_rewrite.specs.Interface.{AreValues, main_of, parameter_types, result_types, results_in, types_in as params_of}
use Rattle.ae_eval.specs.Stack.{IsTyped, params_in, params_for, types_in}
use Rattle.ae_eval.proofs.Items.{meaning-of}
use Rattle.ae_eval.proofs.Typing.{type-at-is}
use Rattle.ae_flow.specs.Flow.{callees, item_words, words_at}
use Rattle.ae_flow.proofs.MeaningProgram.{all-before, items-stand, known-compute, values-fit}

-- ---- the types of results, where each has a layout

abbrev pub lays : (slowdown : ℕ) → Option SeqTree → Option StTree
lays slowdown o = o >>= λ t. lay_of t slowdown

pub record AreTypes (slowdown : ℕ) (os : List (Option SeqTree)) (ss : List StTree) : Type 0 where
  pub types : List SeqTree
  pub are : os ≡ map (λ (t : SeqTree). Some t) types
  pub laid : map (λ t. lay_of t slowdown) types ≡ map (λ (s : StTree). Some s) ss

pub are-types : (slowdown : ℕ) (os : List (Option SeqTree)) (ss : List StTree) → map (lays slowdown) os ≡ map (λ (s : StTree). Some s) ss
    → AreTypes slowdown os ss
are-types slowdown [] ss h = record { types = []; are = refl; laid = h }
are-types slowdown (o ∷ os) [] h = absurd (let e : lays slowdown o ∷ map (lays slowdown) os ≡ [] = h in cc)
are-types slowdown (None ∷ os) (s ∷ ss) h = absurd (let e : None ∷ map (lays slowdown) os ≡ Some s ∷ map (λ (s : StTree). Some s) ss = h in cc)
are-types slowdown (Some t ∷ os) (s ∷ ss) h =
    let e : lay_of t slowdown ∷ map (lays slowdown) os ≡ Some s ∷ map (λ (s : StTree). Some s) ss = h in
    let first : lay_of t slowdown ≡ Some s = cc in
    let rest : map (lays slowdown) os ≡ map (λ (s : StTree). Some s) ss = cc in
    let r = are-types slowdown os ss rest in
    record { types = t ∷ r.types; are = ap (λ l. Some t ∷ l) r.are; laid = (λ i. first i ∷ r.laid i) }

values-at : (type : ℕ → Option SeqTree) (value : ℕ → ValueTree) (is : List ℕ) (ts : List SeqTree) → map type is ≡ map (λ (t : SeqTree). Some t) ts
    → ((i : ℕ) (t : SeqTree) → type i ≡ Some t → (ws : List ℕ) × Stands t ws (value i)) → AreValues ts (map value is)
values-at type value [] [] h each = tt
values-at type value [] (t ∷ ts) h each = absurd (let e : [] ≡ Some t ∷ map (λ (t : SeqTree). Some t) ts = h in cc)
values-at type value (i ∷ is) [] h each = absurd (let e : type i ∷ map type is ≡ [] = h in cc)
values-at type value (i ∷ is) (t ∷ ts) h each =
    let e : type i ∷ map type is ≡ Some t ∷ map (λ (t : SeqTree). Some t) ts = h in
    let first : type i ≡ Some t = cc in
    let rest : map type is ≡ map (λ (t : SeqTree). Some t) ts = cc in
    (each i t first, values-at type value is ts rest each)

-- the two forms of the parameters' types
same-params : (o : Option FuncTree) → params_of o ≡ params_for o
same-params None = refl
same-params (Some f) = refl

pub answers : (p : ProgramTree) (slowdown : ℕ) (instances : List StFuncTree) (ts : List SeqTree) → IsTyped p → IsSchedule p slowdown instances
    → result_types p ≡ map (λ (t : SeqTree). Some t) ts
    → (vs : List ValueTree) → AreValues (parameter_types p) vs → AreValues ts (mean p vs)
answers p slowdown instances ts typed h types vs values =
    let k = length instances - 1 in
    let s = h.last.instance in
    let keys = HasKey (take k instances) in
    let right = h.right k s h.last.here in
    let f = s.func in
    let last : f ≡ main_of p = h.last.is_func in
    let params : parameter_types p ≡ params_in p f = same-params (slice_get p.funcs (main_of p)) ∙ ap (params_in p) (sym last) in
    let args = values-fit (params_in p f) vs (subst (λ ts. AreValues ts vs) params values) in
    let all = known-compute p slowdown instances typed h k (all-before p slowdown instances typed h k) in
    let means = take f (meanings p.funcs) in
    let st = items-stand p keys s typed right (callees (take k instances)) all (map flat vs) args.0 in
    let function : unwrap_or (slice_get (meanings p.funcs) f) no_function ≡ meaning means right.of = ap (λ (o : Option Meaning). unwrap_or o no_function)
    (meaning-of p f right.of right.known) in
    let meant : map (at (item_values means right.of vs)) right.of.results ≡ mean p vs = sym (ap (λ (m : Meaning). m vs) function) ∙
    ap (λ j. unwrap_or (slice_get (meanings p.funcs) j) no_function vs) last in
    let results : result_types p ≡ map (type_at p f) right.of.results =
    ap (λ j. map (type_at p j) (results_in (slice_get p.funcs j))) (sym last) ∙ ap (λ o. map (type_at p f) (results_in o)) right.known in
    let each : (i : ℕ) (t : SeqTree) → type_at p f i ≡ Some t → (ws : List ℕ) × Stands t ws (at (item_values means right.of vs) i) = λ i t e.
    (let there : slice_get (types_in p f) i ≡ Some t = sym (type-at-is p f i typed) ∙ e in (
      words_at (item_words (callees (take k instances)) s (map flat vs)) i,
      subst (λ xs. Stands t (words_at (item_words (callees (take k instances)) s (map flat vs)) i) (at (item_values means right.of xs) i)) args.1
          (st.each i t (slice_get_within (types_in p f) i t there) there),
    )) in
    subst (AreValues ts) meant (values-at (type_at p f) (at (item_values means right.of vs)) right.of.results ts (sym results ∙ types) each)
