-- Values that go in and come out.
use Rattle.std.proofs.Common.{◌≡◌, ℕ, suc, ◌+◌, ◌<◌, ◌≤◌, List, [], ◌∷◌, ◌++◌, length, take, drop, map, get_or, Option, Some, None, slice_get, refl, arith, sym, ap, ◌∙◌, subst, append-nil}
use Rattle.std.specs.List.{concat}
use Rattle.std.proofs.lemmas.List.{length-map, map-append, take_more, take_all}
use Rattle.std.proofs.lemmas.List.Folds.{concat-append}
use Rattle.std.proofs.lemmas.Option.{slice_get-map, slice_get_read}
use Rattle.std.specs.Option.{option_map}
use Rattle.std.specs.Prelude.{unwrap_or}
use Rattle.std.proofs.Math.Seq.{drop-append_seam, take-append_seam}
use Rattle.ae_seqtype.specs.SeqTree.{SeqTree, words, kinds, seq_tree}
use Rattle.ae_seqtype.specs.ValueTree.{value_of, Fit, flat}
use Rattle.ae_seqtype.proofs.Stands.{length-Fit, FitKinds-append}
use Rattle.ae_seqtype.proofs.Values.{flat-value_of}
use Rattle.ae_seq.specs.declared.program.Param.{Param}
use Rattle.ae_seq.specs.ProgramTree.{ParamTree, ProgramTree, param_tree}
use Rattle.ae_seq.specs.Trees.{param_trees}
use Rattle.ae_seq.specs.Typing.{type_at, types_of_params}
use Rattle.ae_seq.proofs.Types.{slice_get-view}
use Rattle.ae_seq.specs.Meaning.{Meaning, at, item_values, mean, meaning, meanings, no_function}
use Rattle.ae_eval.specs.Stack.{AllFit, Evaluated, FitIn, IsTyped, items_in, kinds_of, params_in, somes, types_in, values_for, values_in, values_of, window, words_of}
use Rattle.ae_eval.specs.Lines.{last_func, results_for, results_in, types_of_items}
use Rattle.ae_eval.proofs.Items.{drop-at, entry-at, meaning-of}
use Rattle.ae_eval.proofs.Placing.{placed-in}
use Rattle.ae_eval.proofs.Typing.{type-at-is}

-- one more value
pub concat-more : (xss : List (List ℕ)) (i : ℕ) (xs : List ℕ) → i < length xss → xs ≡ get_or xss i xs → concat (take (i + 1) xss) ≡ concat (take i xss) ++ xs
concat-more xss i xs h e =
    ap concat (take_more xss i xs h) ∙ concat-append (take i xss) (get_or xss i xs ∷ []) ∙
    ap (λ ys. concat (take i xss) ++ ys) (append-nil (get_or xss i xs) ∙ sym e)

pub concat-all : (xss : List (List ℕ)) (i : ℕ) → length xss ≤ i → concat (take i xss) ≡ concat xss
concat-all xss i h = ap concat (take_all i xss h)

-- values one after another
pub all-fit : (ts : List SeqTree) (wss : List (List ℕ)) → AllFit ts wss → FitIn ts (concat wss)
all-fit [] [] h = tt
all-fit [] (ws ∷ wss) h = absurd h
all-fit (t ∷ ts) [] h = absurd h
all-fit (t ∷ ts) (ws ∷ wss) h = FitKinds-append ws (concat wss) (kinds t) (kinds_of ts) h.0 (all-fit ts wss h.1)

pub all-values : (ts : List SeqTree) (wss : List (List ℕ)) → AllFit ts wss → values_in ts (concat wss) ≡ values_of ts wss
all-values [] [] h = refl
all-values [] (ws ∷ wss) h = absurd h
all-values (t ∷ ts) [] h = absurd h
all-values (t ∷ ts) (ws ∷ wss) h =
    let long = length-Fit t ws h.0 in
    let first : take (words t) (ws ++ concat wss) ≡ ws = ap (λ n. take n (ws ++ concat wss)) (sym long) ∙ take-append_seam ws (concat wss) in
    let rest : drop (words t) (ws ++ concat wss) ≡ concat wss = ap (λ n. drop n (ws ++ concat wss)) (sym long) ∙ drop-append_seam ws (concat wss) in
    ap (λ ys. value_of t ys ∷ values_in ts (drop (words t) (ws ++ concat wss))) first ∙ ap (λ ys. value_of t ws ∷ values_in ts ys) rest ∙
    ap (λ vs. value_of t ws ∷ vs) (all-values ts wss h.1)

AllFit-push : (ts : List SeqTree) (wss : List (List ℕ)) (t : SeqTree) (ws : List ℕ) → AllFit ts wss → Fit t ws → AllFit (ts ++ t ∷ []) (wss ++ ws ∷ [])
AllFit-push [] [] t ws h g = (g, tt)
AllFit-push [] (us ∷ wss) t ws h g = absurd h
AllFit-push (u ∷ ts) [] t ws h g = absurd h
AllFit-push (u ∷ ts) (us ∷ wss) t ws h g = (h.0, AllFit-push ts wss t ws h.1 g)

-- ---- the value of an item

pub record Output (p : ProgramTree) (k item start size : ℕ) (stack : List ℕ) : Type 0 where
  pub room : start + size ≤ length stack
  pub words : take (size) (drop start stack) ≡ flat (at (values_in (types_in p k) stack) item)
  pub fits : (t : SeqTree) → slice_get (types_in p k) item ≡ Some t → Fit t (take (size) (drop start stack))

pub output-is : (p : ProgramTree) (k item start size : ℕ) (stack : List ℕ) (t : SeqTree) → FitIn (types_in p k) stack → slice_get (types_in p k) item ≡ Some t
    → start ≡ 0 + words_of (take item (types_in p k)) → size ≡ words t → Output p k item start size stack
output-is p k item start size stack t fit e es ew =
    let ts = types_in p k in
    let q = placed-in ts 0 item stack t (omega arith) fit e in
    let room = q.room in
    let form : take (size) (drop start stack) ≡ window t (0 + words_of (take item ts)) stack = ap (λ n. take n (drop start stack)) ew ∙
    ap (λ s. window t s stack) es in
    record {
      room = omega arith;
      words = form ∙ sym (flat-value_of t (window t (0 + words_of (take item ts)) stack)
          (length-Fit t (window t (0 + words_of (take item ts)) stack) q.fits.fits)) ∙ ap flat (sym q.value);
      fits = λ u g.
          (let same : t ≡ u = cc in
          let P : SeqTree → Type 0 = λ z. Fit z (take (size) (drop start stack)) in
          subst P same (subst (Fit t) (sym form) q.fits.fits));
    }

pub item-room : (p : ProgramTree) (k item : ℕ) (stack : List ℕ) → FitIn (types_in p k) stack → item < length (types_in p k)
    → 0 + words_of (take item (types_in p k)) ≤ length stack
item-room p k item stack fit h =
    let there = entry-at (types_in p k) item h in
    let q = placed-in (types_in p k) 0 item stack there.0 (omega arith) fit there.1 in
    let room = q.room in
    omega arith

-- ---- the values of items

pub record Outputs (p : ProgramTree) (k : ℕ) (stack : List ℕ) (items : List ℕ) (found : List (List ℕ)) : Type 0 where
  pub words : found ≡ map flat (map (at (values_in (types_in p k) stack)) items)
  pub fits : AllFit (types_of_items p k items) found

somes-push : (os : List (Option SeqTree)) (t : SeqTree) → somes (os ++ Some t ∷ []) ≡ somes os ++ t ∷ []
somes-push [] t = refl
somes-push (None ∷ os) t = somes-push os t
somes-push (Some u ∷ os) t = ap (λ ts. u ∷ ts) (somes-push os t)

pub outputs-next : (p : ProgramTree) (k i : ℕ) (stack items : List ℕ) (old new : List (List ℕ)) (v : List ℕ) → IsTyped p → i < length items
    → get_or items i 0 < length (types_in p k) → Outputs p k stack (take i items) old
    → v ≡ flat (at (values_in (types_in p k) stack) (get_or items i 0)) → ((t : SeqTree) → slice_get (types_in p k) (get_or items i 0) ≡ Some t → Fit t v)
    → new ≡ old ++ v ∷ [] → Outputs p k stack (take (i + 1) items) new
outputs-next p k i stack items old new v h lt inside o ev fit en =
    let item = get_or items i 0 in
    let there = entry-at (types_in p k) item inside in
    let t = there.0 in
    let vs = values_in (types_in p k) stack in
    let more = take_more items i 0 lt in
    let type : type_at p k item ≡ Some t = type-at-is p k item h ∙ there.1 in
    let types : types_of_items p k (take i items ++ item ∷ []) ≡ types_of_items p k (take i items) ++ t ∷ [] =
    ap somes (map-append (type_at p k) (take i items) (item ∷ [])) ∙ ap (λ o. somes (map (type_at p k) (take i items) ++ o ∷ [])) type ∙
    somes-push (map (type_at p k) (take i items)) t in
    let words : old ++ v ∷ [] ≡ map flat (map (at vs) (take i items ++ item ∷ [])) =
    ap (λ ws. ws ++ v ∷ []) o.words ∙ ap (λ w. map flat (map (at vs) (take i items)) ++ w ∷ []) ev
    ∙ sym (map-append flat (map (at vs) (take i items)) (at vs item ∷ [])) ∙ ap (map flat) (sym (map-append (at vs) (take i items) (item ∷ []))) in
    let F : List SeqTree → Type 0 = λ ts. AllFit ts (old ++ v ∷ []) in
    let P : List ℕ → Type 0 = λ is. Outputs p k stack is new in
    let Q : List (List ℕ) → Type 0 = λ ws. Outputs p k stack (take i items ++ item ∷ []) ws in
    subst P (sym more) (subst Q (sym en) (record {
      words = words;
      fits = subst F (sym types) (AllFit-push (types_of_items p k (take i items)) old t v o.fits (fit t there.1));
    }))

-- ---- the results of the program function

pub mean-is : (p : ProgramTree) (stack old : List ℕ) (inputs : List (List ℕ)) → IsTyped p → last_func p < length p.funcs
    → AllFit (params_in p (last_func p)) inputs → old ≡ concat inputs → Evaluated p (last_func p) 0 old stack
    → map (at (values_in (types_in p (last_func p)) stack)) (results_in p (last_func p)) ≡ mean p (values_of (params_in p (last_func p)) inputs)
mean-is p stack old inputs h known fit eo e =
    let k = last_func p in
    let at-k = entry-at p.funcs k known in
    let f = at-k.0 in
    let means = take k (meanings p.funcs) in
    let args = values_of (params_in p k) inputs in
    let given : values_in (params_in p k) old ≡ args = ap (values_in (params_in p k)) eo ∙ all-values (params_in p k) inputs fit in
    let items : values_in (types_in p k) stack ≡ item_values means f args = e.values ∙ ap (items_in p k) given ∙ ap (λ o. values_for means o args) at-k.1 in
    let function : unwrap_or (slice_get (meanings p.funcs) k) no_function ≡ meaning means f =
    ap (λ (o : Option Meaning). unwrap_or o no_function) (meaning-of p k f at-k.1) in
    ap (λ is. map (at (values_in (types_in p k) stack)) is) (ap results_for at-k.1) ∙ ap (λ vs. map (at vs) f.results) items ∙
    sym (ap (λ (m : Meaning). m args) function)

pub outputs-first : (p : ProgramTree) (k : ℕ) (stack : List ℕ) (found : List (List ℕ)) → found ≡ [] → Outputs p k stack [] found
outputs-first p k stack found e = subst (λ ws. Outputs p k stack [] ws) (sym e) (record { words = refl; fits = tt })

pub mean-by : (p : ProgramTree) (last : ℕ) (given stack old : List ℕ) (inputs : List (List ℕ)) → IsTyped p → last ≡ last_func p → last < length p.funcs
    → AllFit (params_in p (last_func p)) inputs → old ≡ concat inputs → Evaluated p last 0 old stack → given ≡ stack
    → map flat (map (at (values_in (types_in p last) given)) (results_in p last)) ≡ map flat (mean p (values_of (params_in p (last_func p)) inputs))
mean-by p last given stack old inputs h el known fit eo e eg =
    let E : ℕ → Type 0 = λ k. Evaluated p k 0 old stack in
    let K : ℕ → Type 0 = λ k. k < length p.funcs in
    ap (λ ys. map flat (map (at (values_in (types_in p last) ys)) (results_in p last))) eg
    ∙ ap (λ k. map flat (map (at (values_in (types_in p k) stack)) (results_in p k))) el
    ∙ ap (map flat) (mean-is p stack old inputs h (subst K el known) fit eo (subst E el e))

-- ---- whether all values fit

pub record Fitting (ts : List SeqTree) (wss : List (List ℕ)) (i : ℕ) : Type 0 where
  pub later : AllFit (drop i ts) (drop i wss) → AllFit ts wss
  pub earlier : AllFit ts wss → AllFit (drop i ts) (drop i wss)

pub fitting-next : (ts : List SeqTree) (wss : List (List ℕ)) (i : ℕ) (t : SeqTree) (ws : List ℕ) → slice_get ts i ≡ Some t → slice_get wss i ≡ Some ws
    → Fit t ws → Fitting ts wss i → Fitting ts wss (i + 1)
fitting-next ts wss i t ws h g fit f =
    let a = drop-at ts i t h in
    let b = drop-at wss i ws g in
    let P : List SeqTree → Type 0 = λ zs. AllFit zs (drop i wss) in
    let Q : List (List ℕ) → Type 0 = λ zs. AllFit (t ∷ drop (i + 1) ts) zs in
    record {
      later = λ r. f.later (subst P (sym a) (subst Q (sym b) (fit, r)));
      earlier = λ r. (subst Q b (subst P a (f.earlier r))).1;
    }

pub fitting-not : (ts : List SeqTree) (wss : List (List ℕ)) (i : ℕ) (t : SeqTree) (ws : List ℕ) → slice_get ts i ≡ Some t → slice_get wss i ≡ Some ws
    → (Fit t ws → ⊥) → Fitting ts wss i → AllFit ts wss → ⊥
fitting-not ts wss i t ws h g not f all =
    let a = drop-at ts i t h in
    let b = drop-at wss i ws g in
    let P : List SeqTree → Type 0 = λ zs. AllFit zs (drop i wss) in
    let Q : List (List ℕ) → Type 0 = λ zs. AllFit (t ∷ drop (i + 1) ts) zs in
    not (subst Q b (subst P a (f.earlier all))).0

pub all-fit-count : (ts : List SeqTree) (wss : List (List ℕ)) → AllFit ts wss → length ts ≡ length wss
all-fit-count [] [] h = refl
all-fit-count [] (ws ∷ wss) h = absurd h
all-fit-count (t ∷ ts) [] h = absurd h
all-fit-count (t ∷ ts) (ws ∷ wss) h = ap suc (all-fit-count ts wss h.1)

param-type : (xs : List Param) (i : ℕ) (x : Param) → i < length xs → x ≡ get_or xs i x → slice_get (types_of_params (param_trees xs)) i ≡ Some (seq_tree x.ty)
param-type xs i x h e =
    slice_get-map (λ (q : ParamTree). q.type) (param_trees xs) i ∙ ap (option_map (λ (q : ParamTree). q.type)) (slice_get-view param_tree xs i x h e)

param-count : (xs : List Param) → length (types_of_params (param_trees xs)) ≡ length xs
param-count xs = length-map (param_trees xs) (λ (q : ParamTree). q.type) ∙ length-map xs param_tree

pub read-fitting : (ts : List SeqTree) (xs : List Param) (wss : List (List ℕ)) (i : ℕ) (x : Param) (ws : List ℕ) → types_of_params (param_trees xs) ≡ ts
    → length xs ≡ length wss → i < length wss → x ≡ get_or xs i x → ws ≡ get_or wss i ws → Fit (seq_tree x.ty) ws → Fitting ts wss i → Fitting ts wss (i + 1)
read-fitting ts xs wss i x ws e count lt ex ew fit f =
    let P : List SeqTree → Type 0 = λ zs. slice_get zs i ≡ Some (seq_tree x.ty) in
    fitting-next ts wss i (seq_tree x.ty) ws (subst P e (param-type xs i x (omega arith) ex)) (slice_get_read wss (length wss) i ws refl lt ew) fit f

pub read-unfit : (ts : List SeqTree) (xs : List Param) (wss : List (List ℕ)) (i : ℕ) (x : Param) (ws : List ℕ) → types_of_params (param_trees xs) ≡ ts
    → length xs ≡ length wss → i < length wss → x ≡ get_or xs i x → ws ≡ get_or wss i ws → (Fit (seq_tree x.ty) ws → ⊥) → Fitting ts wss i → AllFit ts wss → ⊥
read-unfit ts xs wss i x ws e count lt ex ew not f =
    let P : List SeqTree → Type 0 = λ zs. slice_get zs i ≡ Some (seq_tree x.ty) in
    fitting-not ts wss i (seq_tree x.ty) ws (subst P e (param-type xs i x (omega arith) ex)) (slice_get_read wss (length wss) i ws refl lt ew) not f

pub read-count : (ts : List SeqTree) (xs : List Param) (wss : List (List ℕ)) → types_of_params (param_trees xs) ≡ ts → AllFit ts wss → length xs ≡ length wss
read-count ts xs wss e h = sym (param-count xs) ∙ ap length e ∙ all-fit-count ts wss h
