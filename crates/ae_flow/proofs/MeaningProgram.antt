-- Each instance makes of the words of values the words of what its function means, and so does the whole schedule.
use Rattle.std.proofs.Common.{◌≡◌, ℕ, zero, suc, ◌+◌, ◌-◌, ◌<◌, ◌≤◌, List, [], ◌∷◌, ◌++◌, length, take, map, Some, IsTrue, slice_get, get_or, refl, arith, sym, ap, ◌∙◌, subst, inl, inr, length-take, take-take, Option}
use Rattle.std.specs.Option.{option_map}
use Rattle.std.proofs.lemmas.Bool.{cases_lt}
use Rattle.std.proofs.lemmas.Bool.Decides.{nat_tests}
use Rattle.std.proofs.lemmas.List.{length-map, get_or_past}
use Rattle.std.proofs.lemmas.Option.{none-some, same_Some, option_and_then_some, slice_get-map, slice_get_within, get_or_from_slice_get, unwrap_or-slice_get}
use Rattle.std.specs.Prelude.{unwrap_or}
use Rattle.ae_seqtype.specs.SeqTree.{SeqTree, in_size, parts_in_size}
use Rattle.ae_seqtype.specs.ValueTree.{ValueTree, end, flat, value_of, Fit, Stands}
use Rattle.ae_seqtype.proofs.Stands.{length-Fit}
use Rattle.ae_seqtype.proofs.Values.{flat-value_of}
use Rattle.ae_seq.specs.ProgramTree.{ProgramTree, NodeTree, ParamTree}
use Rattle.ae_seq.specs.Formed.{item_count}
use Rattle.ae_seq.specs.Typing.{type_at, param_types, types_of_params, ◌>>=◌}
use Rattle.ae_seq.specs.Meaning.{Meaning, applied, at, item_values, mean, meaning, meanings, no_function, node_value}
use Rattle.ae_seq.proofs.Types.{item-sized}
use Rattle.ae_sttype.specs.StTree.{StTree, atom as st_atom, sseq}
use Rattle.ae_word.specs.AtomTree.{unsigned_word}
use Rattle.ae_rewrite.specs.LayoutRule.{lay_of}
use Rattle.ae_rewrite.specs.StProgramTree.{StNodeTree, StFuncTree}
use Rattle.ae_rewrite.specs.Scheduled.{Keys, HasKey, IsStNode, AreStNodes, IsInstance, IsSchedule, node_layouts, param_layouts}
use Rattle.ae_rewrite.specs.Sound.{item_layout, item_layouts}
use Rattle.ae_rewrite.proofs.Grown.{get_in_front}
use Rattle.ae_rewrite.proofs.Items.{param-type}
use Rattle.ae_eval.specs.Stack.{AllFit, IsTyped, first_type, params_for, params_in, result_of, types_in, values_of}
use Rattle.ae_eval.specs.Lines.{input_types, item_of, nodes_for, nodes_in}
use Rattle.ae_eval.proofs.Accepting.{func-types}
use Rattle.ae_eval.proofs.Items.{entry-at, entry-grown, meaning-of, slice_get-take}
use Rattle.ae_eval.proofs.Starting.{count-items}
use Rattle.ae_eval.proofs.Typing.{type-at-is}
use Rattle.ae_flow.specs.Flow.{Callee, callee, callee_at, callees, first_result, flow, item_words, no_callee, node_words, results_in, words_at}
use Rattle.ae_rewrite.specs.Interface.{AreValues}
use Rattle.ae_flow.specs.Laws.{FlowsMean}
use Rattle.ae_flow.proofs.MeaningLayouts.{LaysOut, AllLaidOut, lays-out}
use Rattle.ae_flow.proofs.MeaningBodies.{Computes}
use Rattle.ae_flow.proofs.MeaningNodes.{Adds, Standing, LaidItems, SizedItems, AllCompute, grown-stands, node-stands}

-- ---- the layouts of an instance's items

pub whole-sized : (t : SeqTree) → IsTrue (in_size t) → IsTrue (parts_in_size t)
whole-sized t h = grind (arith, nat_tests)

-- the layout of a parameter
param-at : (clocks : ℕ) (ps : List ParamTree) (ss : List StTree) (i : ℕ) (q : ParamTree) → param_layouts clocks ps ≡ map (λ (x : StTree). Some x) ss
    → slice_get ps i ≡ Some q → (x : StTree) × (slice_get ss i ≡ Some x) × (lay_of q.type clocks ≡ Some x)
param-at clocks [] ss i q h at = absurd (none-some q at)
param-at clocks (r ∷ ps) [] i q h at = cc
param-at clocks (r ∷ ps) (x ∷ ss) zero q h at =
    let a : lay_of r.type clocks ≡ Some x = cc in
    (x, refl, sym (ap (λ (z : ParamTree). lay_of z.type clocks) (same_Some r q at)) ∙ a)
param-at clocks (r ∷ ps) (x ∷ ss) (suc i) q h at =
    let rest : param_layouts clocks ps ≡ map (λ (x : StTree). Some x) ss = cc in
    param-at clocks ps ss i q rest at

as-many : (clocks : ℕ) (ps : List ParamTree) (ss : List StTree) → param_layouts clocks ps ≡ map (λ (x : StTree). Some x) ss → length ss ≡ length ps
as-many clocks ps ss h = sym (length-map ss (λ (x : StTree). Some x)) ∙ (ap length (sym h) ∙ length-map ps (λ (q : ParamTree). lay_of q.type clocks))

params-laid : (clocks : ℕ) (ps : List ParamTree) (ss : List StTree) → param_layouts clocks ps ≡ map (λ (x : StTree). Some x) ss
    → ((i : ℕ) (q : ParamTree) → slice_get ps i ≡ Some q → IsTrue (in_size q.type)) → AllLaidOut (types_of_params ps) ss
params-laid clocks [] [] h sized = tt
params-laid clocks [] (x ∷ ss) h sized = cc
params-laid clocks (q ∷ ps) [] h sized = cc
params-laid clocks (q ∷ ps) (x ∷ ss) h sized =
    let a : lay_of q.type clocks ≡ Some x = cc in
    let rest : param_layouts clocks ps ≡ map (λ (x : StTree). Some x) ss = cc in
    (lays-out q.type clocks x (whole-sized q.type (sized 0 q refl)) a, params-laid clocks ps ss rest (λ i r e. sized (suc i) r e))

-- what a node comes to be
node-at : (p : ProgramTree) (keys : Keys) (f u i : ℕ) (ns : List NodeTree) (ss : List StNodeTree) (j : ℕ) (n : NodeTree) → AreStNodes p keys f u i ns ss
    → slice_get ns j ≡ Some n → (s : StNodeTree) × (slice_get ss j ≡ Some s) × IsStNode p keys f u (i + j) n s
node-at p keys f u i [] ss j n h at = absurd (none-some n at)
node-at p keys f u i (m ∷ ns) [] j n h at = absurd h
node-at p keys f u i (m ∷ ns) (s ∷ ss) zero n h at =
    let none : i ≡ i + 0 = omega arith in
    (s, refl, subst (λ k. IsStNode p keys f u k n s) none (subst (λ x. IsStNode p keys f u i x s) (same_Some m n at) h.0))
node-at p keys f u i (m ∷ ns) (s ∷ ss) (suc j) n h at =
    let r = node-at p keys f u (i + 1) ns ss j n h.1 at in
    let sum : i + 1 + j ≡ i + suc j = omega arith in
    (r.0, r.1, subst (λ k. IsStNode p keys f u k n r.0) sum r.2)

get-back : {A : Type 0} (xs ys : List A) (j : ℕ) → slice_get (xs ++ ys) (length xs + j) ≡ slice_get ys j
get-back [] ys j = let e : 0 + j ≡ j = omega arith in ap (slice_get ys) e
get-back (x ∷ xs) ys j = let e : length (x ∷ xs) + j ≡ suc (length xs + j) = omega arith in ap (slice_get (x ∷ (xs ++ ys))) e ∙ get-back xs ys j

layout-here : (layouts : List StTree) (i : ℕ) (x : StTree) → slice_get layouts i ≡ Some x → item_layout layouts i ≡ x
layout-here layouts i x h = ap (λ o. unwrap_or o (sseq 0 (st_atom (unsigned_word 1)))) h

module _ (p : ProgramTree) (keys : Keys) (s : StFuncTree) (typed : IsTyped p) (h : IsInstance p keys s) where
  abbrev types : List SeqTree
  types = types_in p s.func

  inside : s.func < length p.funcs
  inside = slice_get_within p.funcs s.func h.of h.known

  sized : SizedItems types
  sized i t e = item-sized types i t (func-types p s.func h.of typed h.known).sized e

  param-here : (i : ℕ) (q : ParamTree) → slice_get h.of.params i ≡ Some q → slice_get types i ≡ Some q.type
  param-here i q e = sym (type-at-is p s.func i typed) ∙ param-type p s.func i h.of q h.known e

  param-laid : (i : ℕ) (t : SeqTree) (q : ParamTree) → slice_get types i ≡ Some t → slice_get h.of.params i ≡ Some q
      → LaysOut t (item_layout (item_layouts s) i)
  param-laid i t q e at =
      let r = param-at s.budget h.of.params s.ins i q h.ins at in
      let same : q.type ≡ t = same_Some _ t (sym (param-here i q at) ∙ e) in
      let here = layout-here (item_layouts s) i r.0 (get_in_front s.ins (node_layouts s.nodes) i r.0 r.1) in
      let small = whole-sized t (sized i t e) in
      subst (LaysOut t) (sym here) (lays-out t s.budget r.0 small (sym (ap (λ z. lay_of z s.budget) same) ∙ r.2))

  node-laid : (i j : ℕ) (t : SeqTree) (n : NodeTree) → length s.ins + j ≡ i → slice_get types i ≡ Some t → slice_get h.of.nodes j ≡ Some n
      → LaysOut t (item_layout (item_layouts s) i)
  node-laid i j t n place e at =
      let r = node-at p keys s.func s.budget (length h.of.params) h.of.nodes s.nodes j n h.nodes at in
      let count = as-many s.budget h.of.params s.ins h.ins in
      let own : length h.of.params + j ≡ i = ap (λ k. k + j) (sym count) ∙ place in
      let there : slice_get (item_layouts s) i ≡ Some r.0.type = ap (slice_get (item_layouts s)) (sym place) ∙ get-back s.ins (node_layouts s.nodes) j ∙
      slice_get-map (λ (x : StNodeTree). x.type) s.nodes j ∙ ap (option_map (λ (x : StNodeTree). x.type)) r.1 in
      let here = layout-here (item_layouts s) i r.0.type there in
      let type : type_at p s.func (length h.of.params + j) ≡ Some t = ap (type_at p s.func) own ∙ type-at-is p s.func i typed ∙ e in
      let lay : lay_of t s.budget ≡ Some r.0.type = sym (ap (λ o. o >>= λ z. lay_of z s.budget) type) ∙ r.2.type in
      subst (LaysOut t) (sym here) (lays-out t s.budget r.0.type (whole-sized t (sized i t e)) lay)

  items-laid : LaidItems types (item_layouts s)
  items-laid i t e =
      let count = as-many s.budget h.of.params s.ins h.ins in
      let all : length types ≡ item_count h.of = count-items p s.func h.of typed h.known in
      let low = slice_get_within types i t e in
      elim (cases_lt i (length h.of.params)) [
        | inl first ↦ let q = entry-at h.of.params i first in param-laid i t q.0 e q.1
        | inr later ↦
            let j = i - length s.ins in
            let place : length s.ins + j ≡ i = omega arith in
            let n = entry-at h.of.nodes j (omega arith) in
            node-laid i j t n.0 place e n.1
      ]

  -- ---- what it makes of words

  own-params : params_in p s.func ≡ param_types h.of
  own-params = ap params_for h.known

  all-fit-at : (ts : List SeqTree) (wss : List (List ℕ)) (i : ℕ) (t : SeqTree) → AllFit ts wss → slice_get ts i ≡ Some t
      → Stands t (words_at wss i) (at (values_of ts wss) i)
  all-fit-at [] wss i t f e = absurd (none-some t e)
  all-fit-at (u ∷ ts) [] i t f e = absurd f
  all-fit-at (u ∷ ts) (ws ∷ wss) zero t f e = subst (λ z. Stands z ws (value_of u ws)) (same_Some u t e) (record { fits = f.0; value = refl })
  all-fit-at (u ∷ ts) (ws ∷ wss) (suc i) t f e = all-fit-at ts wss i t f.1 e

  fit-count : (ts : List SeqTree) (wss : List (List ℕ)) → AllFit ts wss → (length wss ≡ length ts) × (length (values_of ts wss) ≡ length ts)
  fit-count [] [] f = (refl, refl)
  fit-count [] (ws ∷ wss) f = absurd f
  fit-count (u ∷ ts) [] f = absurd f
  fit-count (u ∷ ts) (ws ∷ wss) f = let r = fit-count ts wss f.1 in (ap suc r.0, ap suc r.1)

  params-stand : (wss : List (List ℕ)) → AllFit (param_types h.of) wss → Standing types (length h.of.params) wss (values_of (param_types h.of) wss)
  params-stand wss f =
      let many : length (param_types h.of) ≡ length h.of.params = length-map h.of.params (λ (q : ParamTree). q.type) in
      let count = fit-count (param_types h.of) wss f in
      record {
        words = count.0 ∙ many;
        values = count.1 ∙ many;
        each = λ i t lt e.
            (let q = entry-at h.of.params i lt in
            let same : q.0.type ≡ t = same_Some _ t (sym (param-here i q.0 q.1) ∙ e) in
            all-fit-at (param_types h.of) wss i t f (slice_get-map (λ (x : ParamTree). x.type) h.of.params i ∙
            ap (option_map (λ (x : ParamTree). x.type)) q.1 ∙ ap (λ (z : SeqTree). Some z) same));
      }

  pub items-stand : (known : List Callee) → AllCompute p keys known → (wss : List (List ℕ)) → AllFit (params_in p s.func) wss
      → Standing types (length types) (item_words known s wss) (item_values (take s.func (meanings p.funcs)) h.of (values_of (params_in p s.func) wss))
  items-stand known all wss fit =
      let means = take s.func (meanings p.funcs) in
      let count : length h.of.params + length h.of.nodes ≡ length types = sym (count-items p s.func h.of typed h.known) in
      let many : length (params_in p s.func) ≡ length h.of.params = ap length own-params ∙ length-map h.of.params (λ (q : ParamTree). q.type) in
      let own : (q : ℕ) → item_of p s.func q ≡ length h.of.params + q = λ q. ap (λ k. k + q) many in
      let start = params-stand wss (subst (λ ts. AllFit ts wss) own-params fit) in
      let nodes : nodes_in p s.func ≡ h.of.nodes = ap nodes_for h.known in
      let each : Adds types p keys s.func s.budget (node_words known (item_layouts s)) (node_value means)
      (length h.of.params) h.of.nodes = λ q n x us vs t e is st at.
      node-stands p keys known s.func s.budget (item_layouts s) typed inside all items-laid sized q n x us vs t (ap (λ ns. slice_get ns q) nodes ∙ e)
      (subst (λ k. IsStNode p keys s.func s.budget k n x) (sym (own q)) is)
      (subst (λ k. Standing types k us vs) (sym (own q)) st) (subst (λ k. slice_get types k ≡ Some t) (sym (own q)) at) in
      let done = grown-stands types p keys s.func s.budget (node_words known (item_layouts s)) (node_value means) (length h.of.params) h.of.nodes s.nodes wss
      (values_of (param_types h.of) wss) each h.nodes start in
      let P : ℕ → Type 0 = λ k. Standing types k (item_words known s wss) (item_values means h.of (values_of (param_types h.of) wss)) in
      let Q : List SeqTree → Type 0 = λ ts. Standing types (length types) (item_words known s wss) (item_values means h.of (values_of ts wss)) in
      subst Q (sym own-params) (subst P count done)

  -- the first result, as a caller sees it
  first-at : (u : SeqTree) → result_of p s.func ≡ Some u → (r : ℕ) × (slice_get h.of.results 0 ≡ Some r) × (slice_get types r ≡ Some u)
  first-at u e =
      let own = sym (ap (first_type types) h.known) ∙ e in
      option_and_then_some (λ k. slice_get types k) (slice_get h.of.results 0) u own (λ r here there. (r, here, there))

  first-is : (r : ℕ) → slice_get h.of.results 0 ≡ Some r → first_result s ≡ r
  first-is r e = ap (λ is. get_or is 0 0) h.results ∙ get_or_from_slice_get h.of.results 0 r 0 e

  at-first : (g : ℕ → ValueTree) (xs : List ℕ) (r : ℕ) → slice_get xs 0 ≡ Some r → at (map g xs) 0 ≡ g r
  at-first g [] r e = absurd (none-some r e)
  at-first g (x ∷ xs) r e = ap g (same_Some x r e)

  pub instance-computes : (known : List Callee) → AllCompute p keys known → Computes p s.func (callee known s)
  instance-computes known all = record {
    ins = subst (λ ts. AllLaidOut ts s.ins) (sym own-params) (params-laid s.budget h.of.params s.ins h.ins (λ i q e. sized i q.type (param-here i q e)));
    out = λ u e. (let r = first-at u e in subst (λ k. LaysOut u (item_layout (item_layouts s) k)) (sym (first-is r.0 r.1)) (items-laid r.0 u r.2));
    flow = λ wss u fit e.
        (let r = first-at u e in
        let means = take s.func (meanings p.funcs) in
        let args = values_of (params_in p s.func) wss in
        let st = items-stand known all wss fit in
        let one = st.each r.0 u (slice_get_within types r.0 u r.2) r.2 in
        let function : unwrap_or (slice_get (meanings p.funcs) s.func) no_function ≡ meaning means h.of =
        ap (λ (o : Option Meaning). unwrap_or o no_function) (meaning-of p s.func h.of h.known) in
        let value : at (item_values means h.of args) r.0 ≡ applied (meanings p.funcs) s.func args = sym
        (ap (λ (m : Meaning). at (m args) 0) function ∙ at-first (at (item_values means h.of args)) h.of.results r.0 r.1) in
        let P : ℕ → Type 0 = λ k. Stands u (words_at (item_words known s wss) k) (applied (meanings p.funcs) s.func args) in
        let Q : ValueTree → Type 0 = λ v. Stands u (words_at (item_words known s wss) r.0) v in
        subst P (sym (first-is r.0 r.1)) (subst Q value one));
  }

-- ---- all instances

long-take : (k : ℕ) (xs : List StFuncTree) → length (take k xs) ≤ k
long-take k xs = omega (arith, length-take k xs)

module _ (p : ProgramTree) (slowdown : ℕ) (instances : List StFuncTree) (typed : IsTyped p) (h : IsSchedule p slowdown instances) where
  -- each of the first ones makes what its function means
  abbrev pub Before : ℕ → Type 0
  Before k = (m : ℕ) (s : StFuncTree) → m < k → slice_get instances m ≡ Some s → Computes p s.func (callee (callees (take m instances)) s)

  pub known-compute : (k : ℕ) → Before k → AllCompute p (HasKey (take k instances)) (callees (take k instances))
  known-compute k before m func budget key =
      let s = key.instance in
      let low = slice_get_within (take k instances) m s key.here in
      let few = long-take k instances in
      let within : m < k = omega arith in
      let there : slice_get instances m ≡ Some s = sym (slice_get-take k m instances within) ∙ key.here in
      let first : take m (take k instances) ≡ take m instances = take-take m k instances (omega arith) in
      let entry : slice_get (callees (take k instances)) m ≡ Some (callee (callees (take m instances)) s) =
      entry-grown callee (take k instances) m s key.here ∙ ap (λ xs. Some (callee (callees xs) s)) first in
      let own : callee_at (callees (take k instances)) m ≡ callee (callees (take m instances)) s = get_or_from_slice_get
      (callees (take k instances)) m _ no_callee entry in
      subst (Computes p func) (sym own) (subst (λ g. Computes p g (callee (callees (take m instances)) s)) key.is_func (before m s within there))

  pub all-before : (k : ℕ) → Before k
  all-before zero m s lt e = absurd (omega arith)
  all-before (suc k) m s lt e = elim (cases_lt m k) [
    | inl low ↦ all-before k m s low e
    | inr high ↦
        let same : k ≡ m = omega arith in
        let P : ℕ → Type 0 = λ j. slice_get instances j ≡ Some s → Computes p s.func (callee (callees (take j instances)) s) in
        subst P same (λ q. instance-computes p (HasKey (take k instances)) s typed (h.right k s q) (callees (take k instances))
        (known-compute k (all-before k))) e
  ]

-- ---- the whole

pub flat-stands : (t : SeqTree) (ws : List ℕ) (v : ValueTree) → Stands t ws v → flat v ≡ ws
flat-stands t ws v h = ap flat (sym h.value) ∙ flat-value_of t ws (length-Fit t ws h.fits)

-- values and their words
pub values-fit : (ts : List SeqTree) (vs : List ValueTree) → AreValues ts vs → AllFit ts (map flat vs) × (values_of ts (map flat vs) ≡ vs)
values-fit [] [] h = (tt, refl)
values-fit [] (v ∷ vs) h = absurd h
values-fit (t ∷ ts) [] h = absurd h
values-fit (t ∷ ts) (v ∷ vs) h =
    let r = values-fit ts vs h.1 in
    let st = h.0.1 in
    let e : h.0.0 ≡ flat v = sym (flat-stands t h.0.0 v st) in (
      (subst (λ ws. Fit t ws) e st.fits, r.0),
      ap (λ ws. value_of t ws ∷ values_of ts (map flat vs)) (sym e) ∙
          ap (λ x. x ∷ values_of ts (map flat vs)) st.value ∙ ap (λ xs. v ∷ xs) r.1,
    )

-- the words of each item
item-flat : (ts : List SeqTree) (wss : List (List ℕ)) (vs : List ValueTree) (i : ℕ) → Standing ts (length ts) wss vs → words_at wss i ≡ flat (at vs i)
item-flat ts wss vs i st =
    let a = st.words in
    let b = st.values in
    elim (cases_lt i (length ts)) [
      | inl low ↦ let t = entry-at ts i low in sym (flat-stands t.0 _ _ (st.each i t.0 low t.1))
      | inr high ↦ get_or_past wss i [] (omega arith) ∙ sym (ap flat (unwrap_or-slice_get vs i end ∙ get_or_past vs i end (omega arith)))
    ]

items-flat : (ts : List SeqTree) (wss : List (List ℕ)) (vs : List ValueTree) (is : List ℕ) → Standing ts (length ts) wss vs
    → map (words_at wss) is ≡ map flat (map (at vs) is)
items-flat ts wss vs [] st = refl
items-flat ts wss vs (i ∷ is) st =
    ap (λ ws. ws ∷ map (words_at wss) is) (item-flat ts wss vs i st) ∙ ap (λ wss. flat (at vs i) ∷ wss) (items-flat ts wss vs is st)

pub flows-mean : FlowsMean
unfolding flow
flows-mean p slowdown instances vs typed h values =
    let k = length instances - 1 in
    let s = h.last.instance in
    let known = callees (take k instances) in
    let keys = HasKey (take k instances) in
    let right = h.right k s h.last.here in
    let f = s.func in
    let last : f ≡ length p.funcs - 1 = h.last.is_func in
    let params : input_types p ≡ params_in p f = ap (params_in p) (sym last) in
    let args = values-fit (params_in p f) vs (subst (λ ts. AreValues ts vs) params values) in
    let all = known-compute p slowdown instances typed h k (all-before p slowdown instances typed h k) in
    let means = take f (meanings p.funcs) in
    let st = items-stand p keys s typed right known all (map flat vs) args.0 in
    let own = subst (λ xs. Standing (types_in p f) (length (types_in p f)) (item_words known s (map flat vs)) (item_values means right.of xs)) args.1 st in
    let function : unwrap_or (slice_get (meanings p.funcs) f) no_function ≡ meaning means right.of =
    ap (λ (o : Option Meaning). unwrap_or o no_function) (meaning-of p f right.of right.known) in
    let meant : map (at (item_values means right.of vs)) right.of.results ≡ mean p vs = sym (ap (λ (m : Meaning). m vs) function) ∙
    ap (λ j. unwrap_or (slice_get (meanings p.funcs) j) no_function vs) last in
    ap (λ o. results_in known o (map flat vs)) h.last.here ∙ ap (map (words_at (item_words known s (map flat vs)))) right.results
    ∙ items-flat (types_in p f) (item_words known s (map flat vs)) (item_values means right.of vs) right.of.results own ∙ ap (map flat) meant
