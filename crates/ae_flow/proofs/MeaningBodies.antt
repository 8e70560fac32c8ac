-- A body on each element makes the words of the function's values.
use Rattle.std.proofs.Common.{◌≡◌, ℕ, ◌*◌, ◌/◌, ◌<◌, List, [], ◌∷◌, take, drop, map, get_or, Some, refl, arith, sym, ap, ◌∙◌, subst, append-nil, mul-div_cancel}
use Rattle.std.proofs.lemmas.List.{take_all}
use Rattle.ae_seqtype.specs.SeqTree.{SeqTree, seq, words, atoms}
use Rattle.ae_seqtype.specs.ValueTree.{ValueTree, end, elements, listed, value_of, Fit, Stands}
use Rattle.ae_seqtype.proofs.Stands.{length-Fit}
use Rattle.ae_seq.specs.ProgramTree.{ProgramTree}
use Rattle.ae_seq.specs.Meaning.{applied, map_two, meanings}
use Rattle.ae_sttype.specs.StTree.{StTree, st_atoms}
use Rattle.ae_eval.specs.Stack.{AllFit, values_of, params_in, result_of}
use Rattle.ae_eval.proofs.Pieces.{count-elements, element-stands}
use Rattle.ae_flow.specs.Flow.{Callee, layout_words, pieces, mapped, element_count}
use Rattle.ae_flow.proofs.MeaningTables.{table, stands-table, map-table, map_two-table}
use Rattle.ae_flow.proofs.MeaningLayouts.{LaysOut, AllLaidOut, layout-size}

-- a callee makes of the words of values those of what the function means
pub record Computes (p : ProgramTree) (func : ℕ) (c : Callee) : Type 0 where
  pub ins : AllLaidOut (params_in p func) c.ins
  pub out : (u : SeqTree) → result_of p func ≡ Some u → LaysOut u c.out
  pub flow : (wss : List (List ℕ)) (u : SeqTree) → AllFit (params_in p func) wss → result_of p func ≡ Some u
      → Stands u (c.flow wss) (applied (meanings p.funcs) func (values_of (params_in p func) wss))

-- ---- how many elements there are

counted : (n k : ℕ) → 0 < k → n * k / k ≡ n
counted n k h = mul-div_cancel n h

count-of : (n : ℕ) (u : SeqTree) (c : Callee) (s : StTree) → 0 < atoms u → LaysOut u c.out → LaysOut (seq n u) s → element_count c s ≡ n
count-of n u c s some o l = ap (λ k. k / st_atoms c.out) l.atoms ∙ ap (λ k. n * atoms u / k) o.atoms ∙ counted n (atoms u) some

one-of : (u : SeqTree) (c : Callee) (s : StTree) → 0 < atoms u → LaysOut u c.out → LaysOut u s → element_count c s ≡ 1
one-of u c s some o l =
    let e : atoms u ≡ 1 * atoms u = omega arith in
    ap (λ k. k / st_atoms c.out) l.atoms ∙ ap (λ k. atoms u / k) o.atoms ∙ ap (λ k. k / atoms u) e ∙ counted 1 (atoms u) some

-- ---- a call

whole-pieces : (ts : List SeqTree) (xs : List StTree) (wss : List (List ℕ)) → AllLaidOut ts xs → AllFit ts wss → pieces xs 0 wss ≡ wss
whole-pieces [] [] [] l h = refl
whole-pieces [] [] (ws ∷ wss) l h = absurd h
whole-pieces [] (x ∷ xs) wss l h = absurd l
whole-pieces (t ∷ ts) [] wss l h = absurd l
whole-pieces (t ∷ ts) (x ∷ xs) [] l h = absurd h
whole-pieces (t ∷ ts) (x ∷ xs) (ws ∷ wss) l h =
    let size = layout-size t x l.0 in
    let long = length-Fit t ws h.0 in
    let none : 0 * layout_words x ≡ 0 = omega arith in
    let first : take (layout_words x) (drop (0 * layout_words x) ws) ≡ ws = ap (λ i. take (layout_words x) (drop i ws)) none ∙
    take_all (layout_words x) ws (omega arith) in
    ap (λ us. us ∷ pieces xs 0 wss) first ∙ ap (λ us. ws ∷ us) (whole-pieces ts xs wss l.1 h.1)

pub call-words : (p : ProgramTree) (func : ℕ) (c : Callee) (u : SeqTree) (s : StTree) (wss : List (List ℕ)) → Computes p func c → result_of p func ≡ Some u
    → 0 < atoms u → LaysOut u s → AllFit (params_in p func) wss
    → Stands u (mapped c (element_count c s) wss) (applied (meanings p.funcs) func (values_of (params_in p func) wss))
call-words p func c u s wss h result some l fit =
    let one = one-of u c s some (h.out u result) l in
    let form : c.flow wss ≡ mapped c (element_count c s) wss = sym
    (ap (λ n. mapped c n wss) one ∙ append-nil (c.flow (pieces c.ins 0 wss)) ∙ ap c.flow (whole-pieces (params_in p func) c.ins wss h.ins fit)) in
    subst (λ ws. Stands u ws (applied (meanings p.funcs) func (values_of (params_in p func) wss))) form (h.flow wss u fit result)

-- ---- a body on each element of one argument, of two

one-piece : (t : SeqTree) (xs : List StTree) (e : ℕ) (ws : List ℕ) → AllLaidOut (t ∷ []) xs → pieces xs e (ws ∷ []) ≡ take (words t) (drop (e * words t) ws)
    ∷ []
one-piece t [] e ws l = absurd l
one-piece t (x ∷ []) e ws l = ap (λ k. take k (drop (e * k) ws) ∷ []) (layout-size t x l.0)
one-piece t (x ∷ y ∷ xs) e ws l = absurd l.1

two-pieces : (t z : SeqTree) (xs : List StTree) (e : ℕ) (ws us : List ℕ) → AllLaidOut (t ∷ z ∷ []) xs
    → pieces xs e (ws ∷ us ∷ []) ≡ take (words t) (drop (e * words t) ws) ∷ take (words z) (drop (e * words z) us) ∷ []
two-pieces t z [] e ws us l = absurd l
two-pieces t z (x ∷ []) e ws us l = absurd l.1
two-pieces t z (x ∷ y ∷ []) e ws us l =
    ap (λ k. take k (drop (e * k) ws) ∷ take (layout_words y) (drop (e * layout_words y) us) ∷ []) (layout-size t x l.0)
    ∙ ap (λ k. take (words t) (drop (e * words t) ws) ∷ take k (drop (e * k) us) ∷ []) (layout-size z y l.1.0)
two-pieces t z (x ∷ y ∷ w ∷ xs) e ws us l = absurd l.1.1

-- a body on one value, on two
one-flow : (p : ProgramTree) (func : ℕ) (c : Callee) (t u : SeqTree) (e : ℕ) (ws : List ℕ) (v : ValueTree) → Computes p func c → result_of p func ≡ Some u
    → params_in p func ≡ t ∷ [] → Stands t (take (words t) (drop (e * words t) ws)) v
    → Stands u (c.flow (pieces c.ins e (ws ∷ []))) (applied (meanings p.funcs) func (v ∷ []))
one-flow p func c t u e ws v h result params st =
    let r = take (words t) (drop (e * words t) ws) in
    let form : r ∷ [] ≡ pieces c.ins e (ws ∷ []) = sym (one-piece t c.ins e ws (subst (λ ts. AllLaidOut ts c.ins) params h.ins)) in
    let fit : AllFit (params_in p func) (r ∷ []) = subst (λ ts. AllFit ts (r ∷ [])) (sym params) (st.fits, tt) in
    let value : values_of (params_in p func) (r ∷ []) ≡ v ∷ [] = ap (λ ts. values_of ts (r ∷ [])) params ∙ ap (λ x. x ∷ []) st.value in
    let P : List (List ℕ) → Type 0 = λ wss. Stands u (c.flow wss) (applied (meanings p.funcs) func (v ∷ [])) in
    let Q : List ValueTree → Type 0 = λ vs. Stands u (c.flow (r ∷ [])) (applied (meanings p.funcs) func vs) in
    subst P form (subst Q value (h.flow (r ∷ []) u fit result))

two-flow : (p : ProgramTree) (func : ℕ) (c : Callee) (t z u : SeqTree) (e : ℕ) (ws us : List ℕ) (v w : ValueTree) → Computes p func c
    → result_of p func ≡ Some u → params_in p func ≡ t ∷ z ∷ []
    → Stands t (take (words t) (drop (e * words t) ws)) v → Stands z (take (words z) (drop (e * words z) us)) w
    → Stands u (c.flow (pieces c.ins e (ws ∷ us ∷ []))) (applied (meanings p.funcs) func (v ∷ w ∷ []))
two-flow p func c t z u e ws us v w h result params st sz =
    let r = take (words t) (drop (e * words t) ws) in
    let q = take (words z) (drop (e * words z) us) in
    let form : r ∷ q ∷ [] ≡ pieces c.ins e (ws ∷ us ∷ []) = sym (two-pieces t z c.ins e ws us (subst (λ ts. AllLaidOut ts c.ins) params h.ins)) in
    let fit : AllFit (params_in p func) (r ∷ q ∷ []) = subst (λ ts. AllFit ts (r ∷ q ∷ [])) (sym params) (st.fits, (sz.fits, tt)) in
    let value : values_of (params_in p func) (r ∷ q ∷ []) ≡ v ∷ w ∷ [] = ap (λ ts. values_of ts (r ∷ q ∷ [])) params ∙
    ap (λ x. x ∷ value_of z q ∷ []) st.value ∙ ap (λ x. v ∷ x ∷ []) sz.value in
    let P : List (List ℕ) → Type 0 = λ wss. Stands u (c.flow wss) (applied (meanings p.funcs) func (v ∷ w ∷ [])) in
    let Q : List ValueTree → Type 0 = λ vs. Stands u (c.flow (r ∷ q ∷ [])) (applied (meanings p.funcs) func vs) in
    subst P form (subst Q value (h.flow (r ∷ q ∷ []) u fit result))

pub each-words : (p : ProgramTree) (func n : ℕ) (c : Callee) (t u : SeqTree) (s : StTree) (ws : List ℕ) → Computes p func c → result_of p func ≡ Some u
    → params_in p func ≡ t ∷ [] → 0 < atoms u → LaysOut (seq n u) s → Fit (seq n t) ws
    → Stands (seq n u) (mapped c (element_count c s) (ws ∷ []))
    (listed (map (λ x. applied (meanings p.funcs) func (x ∷ [])) (elements (value_of (seq n t) ws))))
each-words p func n c t u s ws h result params some l fit =
    let xs = elements (value_of (seq n t) ws) in
    let g : ValueTree → ValueTree = λ x. applied (meanings p.funcs) func (x ∷ []) in
    let count = count-of n u c s some (h.out u result) l in
    let all = stands-table u n (λ e. c.flow (pieces c.ins e (ws ∷ []))) (λ e. g (get_or xs e end))
    (λ e lt. one-flow p func c t u e ws (get_or xs e end) h result params (element-stands n e t ws lt fit)) in
    let P : ℕ → Type 0 = λ k. Stands (seq n u) (mapped c k (ws ∷ [])) (listed (table n (λ e. g (get_or xs e end)))) in
    let Q : List ValueTree → Type 0 = λ vs. Stands (seq n u) (mapped c (element_count c s) (ws ∷ [])) (listed vs) in
    subst Q (sym (map-table g xs n (count-elements n t ws))) (subst P (sym count) all)

pub each-two-words : (p : ProgramTree) (func n : ℕ) (c : Callee) (t z u : SeqTree) (s : StTree) (ws us : List ℕ) → Computes p func c
    → result_of p func ≡ Some u → params_in p func ≡ t ∷ z ∷ [] → 0 < atoms u → LaysOut (seq n u) s → Fit (seq n t) ws → Fit (seq n z) us
    → Stands (seq n u) (mapped c (element_count c s) (ws ∷ us ∷ []))
    (listed (map_two (λ x y. applied (meanings p.funcs) func (x ∷ y ∷ [])) (elements (value_of (seq n t) ws)) (elements (value_of (seq n z) us))))
each-two-words p func n c t z u s ws us h result params some l fit gfit =
    let xs = elements (value_of (seq n t) ws) in
    let ys = elements (value_of (seq n z) us) in
    let g : ValueTree → ValueTree → ValueTree = λ x y. applied (meanings p.funcs) func (x ∷ y ∷ []) in
    let count = count-of n u c s some (h.out u result) l in
    let all = stands-table u n (λ e. c.flow (pieces c.ins e (ws ∷ us ∷ []))) (λ e. g (get_or xs e end) (get_or ys e end))
    (λ e lt. two-flow p func c t z u e ws us (get_or xs e end) (get_or ys e end) h result params (element-stands n e t ws lt fit)
    (element-stands n e z us lt gfit)) in
    let P : ℕ → Type 0 = λ k. Stands (seq n u) (mapped c k (ws ∷ us ∷ [])) (listed (table n (λ e. g (get_or xs e end) (get_or ys e end)))) in
    let Q : List ValueTree → Type 0 = λ vs. Stands (seq n u) (mapped c (element_count c s) (ws ∷ us ∷ [])) (listed vs) in
    subst Q (sym (map_two-table g xs ys n (count-elements n t ws) (count-elements n z us))) (subst P (sym count) all)
