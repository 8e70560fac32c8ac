-- Nodes that call a function on elements.
use Rattle.std.proofs.Common.{◌≡◌, ℕ, ◌+◌, ◌<◌, ◌==◌, true, List, [], ◌∷◌, length, take, map, get_or, Option, Some, slice_get, refl, arith, sym, ap, ◌∙◌, subst}
use Rattle.std.proofs.lemmas.Bool.Decides.{nat_tests}
use Rattle.ae_seqtype.specs.SeqTree.{SeqTree, atom, seq}
use Rattle.ae_seqtype.specs.ValueTree.{ValueTree, value_of, elements, listed}
use Rattle.ae_seq.specs.ProgramTree.{OpTree, each, each_two, NodeTree, ProgramTree}
use Rattle.ae_seq.specs.Formed.{has_arguments, is_line}
use Rattle.ae_seq.specs.Typing.{called, each_type, each_two_type, op_type, signatures, ◌>>=◌}
use Rattle.ae_seq.specs.Meaning.{applied, at, map_two, meanings, op_value}
use Rattle.ae_eval.specs.Stack.{FitAt, IsTyped, Pushed, params_in, result_of, types_in, window, words_of}
use Rattle.ae_eval.specs.Lines.{ItemsHave, Laid, TakesEach, TakesEachTwo, each_of, item_of, line_value, nodes_in, value_for, values_at}
use Rattle.ae_eval.proofs.Arms.{one-shape, two-shape, same-items}
use Rattle.ae_eval.proofs.Calling.{applied-above}
use Rattle.ae_eval.proofs.Items.{call-facts, line-facts, option-both}
use Rattle.ae_eval.proofs.Mapping.{one_by, two_by}
use Rattle.ae_eval.proofs.Moving.{where_ok-some}
use Rattle.ae_eval.proofs.Placing.{arg-placed}

-- ---- the types of such a node

record Each (p : ProgramTree) (c : ℕ) (t z : SeqTree) : Type 0 where
  known : c < length p.funcs
  takes : TakesEach t (params_in p c)
  type : each_of t (result_of p c) ≡ Some z

each-typed : (p : ProgramTree) (k c : ℕ) (t z : SeqTree) → IsTyped p → c < k → k < length p.funcs → each_type (signatures (take k p.funcs)) c t ≡ Some z
    → Each p c t z
each-typed p k c (atom a) z h below known e = cc
each-typed p k c (seq n t) z h below known e =
    let r = option-both (called (signatures (take k p.funcs)) c (t ∷ [])) (λ (u : SeqTree). Some (seq n u)) z e in
    let facts = call-facts p k c (t ∷ []) r.0 h below known r.1 in
    record { known = facts.known; takes = facts.params; type = ap (each_of (seq n t)) facts.result ∙ r.2 }

record EachTwo (p : ProgramTree) (c : ℕ) (t u z : SeqTree) : Type 0 where
  known : c < length p.funcs
  takes : TakesEachTwo t u (params_in p c)
  type : each_of t (result_of p c) ≡ Some z

each-two-typed : (p : ProgramTree) (k c : ℕ) (t u z : SeqTree) → IsTyped p → c < k → k < length p.funcs
    → each_two_type (signatures (take k p.funcs)) c t u ≡ Some z → EachTwo p c t u z
each-two-typed p k c (atom a) (atom b) z h below known e = cc
each-two-typed p k c (atom a) (seq m u) z h below known e = cc
each-two-typed p k c (seq n t) (atom b) z h below known e = cc
each-two-typed p k c (seq n t) (seq m u) z h below known e =
    let ok = where_ok-some (n == m) (called (signatures (take k p.funcs)) c (t ∷ u ∷ []) >>= λ (v : SeqTree). Some (seq n v)) z e in
    let same : n ≡ m = grind (arith, nat_tests, ok.0) in
    let r = option-both (called (signatures (take k p.funcs)) c (t ∷ u ∷ [])) (λ (v : SeqTree). Some (seq n v)) z ok.1 in
    let facts = call-facts p k c (t ∷ u ∷ []) r.0 h below known r.1 in
    record { known = facts.known; takes = (same, facts.params); type = ap (each_of (seq n t)) facts.result ∙ r.2 }

-- ---- the values

map-above : (p : ProgramTree) (k c : ℕ) (xs : List ValueTree) → c < k
    → map (one_by p c) xs ≡ map (λ (x : ValueTree). applied (take k (meanings p.funcs)) c (x ∷ [])) xs
map-above p k c [] h = refl
map-above p k c (x ∷ xs) h =
    ap (λ v. v ∷ map (one_by p c) xs) (sym (applied-above p k c (x ∷ []) h)) ∙
    ap (λ vs. applied (take k (meanings p.funcs)) c (x ∷ []) ∷ vs) (map-above p k c xs h)

map-two-above : (p : ProgramTree) (k c : ℕ) (xs ys : List ValueTree) → c < k
    → map_two (two_by p c) xs ys ≡ map_two (λ (x y : ValueTree). applied (take k (meanings p.funcs)) c (x ∷ y ∷ [])) xs ys
map-two-above p k c [] ys h = refl
map-two-above p k c (x ∷ xs) [] h = refl
map-two-above p k c (x ∷ xs) (y ∷ ys) h =
    ap (λ v. v ∷ map_two (two_by p c) xs ys) (sym (applied-above p k c (x ∷ y ∷ []) h)) ∙
    ap (λ vs. applied (take k (meanings p.funcs)) c (x ∷ y ∷ []) ∷ vs) (map-two-above p k c xs ys h)

each-above : (v k c : ℕ) (op : OpTree) → is_line v k op ≡ true → op ≡ each c → c < k
each-above v k c op h e = let q = subst (λ o. is_line v k o ≡ true) e h in grind (arith, nat_tests, q)

each-two-above : (v k c : ℕ) (op : OpTree) → is_line v k op ≡ true → op ≡ each_two c → c < k
each-two-above v k c op h e = let q = subst (λ o. is_line v k o ≡ true) e h in grind (arith, nat_tests, q)

pub each-count : (p : ProgramTree) (k j c : ℕ) (l : NodeTree) → IsTyped p → k < length p.funcs → slice_get (nodes_in p k) j ≡ Some l → l.op ≡ each c
    → length l.args ≡ 1
each-count p k j c l h known node e =
    let facts = line-facts p k j l h known node in
    let q = subst (λ o. has_arguments o (length l.args) ≡ true) e facts.arity in
    grind (arith, nat_tests, q)

pub each-two-count : (p : ProgramTree) (k j c : ℕ) (l : NodeTree) → IsTyped p → k < length p.funcs → slice_get (nodes_in p k) j ≡ Some l → l.op ≡ each_two c
    → length l.args ≡ 2
each-two-count p k j c l h known node e =
    let facts = line-facts p k j l h known node in
    let q = subst (λ o. has_arguments o (length l.args) ≡ true) e facts.arity in
    grind (arith, nat_tests, q)

-- ---- the arguments

pub record EachArgs (p : ProgramTree) (k j c base start : ℕ) (old : List ℕ) (t : SeqTree) : Type 0 where
  pub below : c < k
  pub known : c < length p.funcs
  pub fits : FitAt t start old
  pub takes : TakesEach t (params_in p c)
  pub pushed : (new : List ℕ) → Pushed (each_of t (result_of p c)) old new (listed (map (one_by p c) (elements (value_of t (window t start old)))))
      → Pushed (slice_get (types_in p k) (item_of p k j)) old new (line_value p k j (values_at p k (item_of p k j) base old))

pub each-args : (p : ProgramTree) (k j c : ℕ) (l : NodeTree) (base start : ℕ) (old : List ℕ) (t : SeqTree) → IsTyped p → k < length p.funcs
    → slice_get (nodes_in p k) j ≡ Some l → l.op ≡ each c → Laid p k (item_of p k j) base old
    → slice_get (types_in p k) (get_or l.args 0 0) ≡ Some t → start ≡ base + words_of (take (get_or l.args 0 0) (types_in p k))
    → EachArgs p k j c base start old t
each-args p k j c l base start old t h known node eo laid e es =
    let ts = types_in p k in
    let sigs = signatures (take k p.funcs) in
    let means = take k (meanings p.funcs) in
    let vs = values_at p k (item_of p k j) base old in
    let facts = line-facts p k j l h known node in
    let below = each-above p.version k c l.op facts.line eo in
    let count = each-count p k j c l h known node eo in
    let shape = one-shape l.args count in
    let q = arg-placed p k j base 0 old l t h known node laid (omega arith) e in
    let have : ItemsHave ts l.args (t ∷ []) = subst (λ xs. ItemsHave ts xs (t ∷ [])) (sym shape) (e, tt) in
    let same = same-items ts l.args (t ∷ []) facts.args have facts.have in
    let typed : op_type sigs (each c) (t ∷ []) ≡ Some facts.type = ap (λ o. op_type sigs o (t ∷ [])) (sym eo) ∙ ap (op_type sigs l.op) same ∙ facts.typed in
    let r = each-typed p k c t facts.type h below known typed in
    let xs = elements (value_of t (window t start old)) in
    let value : at vs (get_or l.args 0 0) ≡ value_of t (window t start old) = q.value ∙ ap (λ s. value_of t (window t s old)) (sym es) in
    let values : map (at vs) l.args ≡ value_of t (window t start old) ∷ [] = ap (map (at vs)) shape ∙ ap (λ v. v ∷ []) value in
    let line : listed (map (one_by p c) xs) ≡ line_value p k j vs =
    ap listed (map-above p k c xs below) ∙ ap (op_value means (each c)) (sym values) ∙ ap (λ o. op_value means o (map (at vs) l.args)) (sym eo) ∙
    sym (ap (value_for means vs) node) in
    let F : ℕ → Type 0 = λ s. FitAt t s old in
    record {
      below = below;
      known = r.known;
      fits = subst F (sym es) q.fits;
      takes = r.takes;
      pushed = λ new push.
          (let P : Option SeqTree → Type 0 = λ o. Pushed o old new (line_value p k j vs) in
          let V : ValueTree → Type 0 = λ v. Pushed (each_of t (result_of p c)) old new v in
          subst P (r.type ∙ sym facts.own) (subst V line push));
    }

pub record EachTwoArgs (p : ProgramTree) (k j c base start place : ℕ) (old : List ℕ) (t u : SeqTree) : Type 0 where
  pub below : c < k
  pub known : c < length p.funcs
  pub fits : FitAt t start old
  pub fits_too : FitAt u place old
  pub takes : TakesEachTwo t u (params_in p c)
  pub pushed : (new : List ℕ) → Pushed (each_of t (result_of p c)) old new
      (listed (map_two (two_by p c) (elements (value_of t (window t start old))) (elements (value_of u (window u place old)))))
      → Pushed (slice_get (types_in p k) (item_of p k j)) old new (line_value p k j (values_at p k (item_of p k j) base old))

pub each-two-args : (p : ProgramTree) (k j c : ℕ) (l : NodeTree) (base start place : ℕ) (old : List ℕ) (t u : SeqTree) → IsTyped p → k < length p.funcs
    → slice_get (nodes_in p k) j ≡ Some l → l.op ≡ each_two c → Laid p k (item_of p k j) base old
    → slice_get (types_in p k) (get_or l.args 0 0) ≡ Some t → start ≡ base + words_of (take (get_or l.args 0 0) (types_in p k))
    → slice_get (types_in p k) (get_or l.args 1 0) ≡ Some u → place ≡ base + words_of (take (get_or l.args 1 0) (types_in p k))
    → EachTwoArgs p k j c base start place old t u
each-two-args p k j c l base start place old t u h known node eo laid e es f fs =
    let ts = types_in p k in
    let sigs = signatures (take k p.funcs) in
    let means = take k (meanings p.funcs) in
    let vs = values_at p k (item_of p k j) base old in
    let facts = line-facts p k j l h known node in
    let below = each-two-above p.version k c l.op facts.line eo in
    let count = each-two-count p k j c l h known node eo in
    let shape = two-shape l.args count in
    let q = arg-placed p k j base 0 old l t h known node laid (omega arith) e in
    let place-two = arg-placed p k j base 1 old l u h known node laid (omega arith) f in
    let have : ItemsHave ts l.args (t ∷ u ∷ []) = subst (λ xs. ItemsHave ts xs (t ∷ u ∷ [])) (sym shape) (e, (f, tt)) in
    let same = same-items ts l.args (t ∷ u ∷ []) facts.args have facts.have in
    let typed : op_type sigs (each_two c) (t ∷ u ∷ []) ≡ Some facts.type = ap (λ o. op_type sigs o (t ∷ u ∷ [])) (sym eo) ∙ ap (op_type sigs l.op) same ∙
    facts.typed in
    let r = each-two-typed p k c t u facts.type h below known typed in
    let xs = elements (value_of t (window t start old)) in
    let ys = elements (value_of u (window u place old)) in
    let first : at vs (get_or l.args 0 0) ≡ value_of t (window t start old) = q.value ∙ ap (λ s. value_of t (window t s old)) (sym es) in
    let second : at vs (get_or l.args 1 0) ≡ value_of u (window u place old) = place-two.value ∙ ap (λ s. value_of u (window u s old)) (sym fs) in
    let values : map (at vs) l.args ≡ value_of t (window t start old) ∷ value_of u (window u place old) ∷ [] =
    ap (map (at vs)) shape ∙ ap (λ v. v ∷ at vs (get_or l.args 1 0) ∷ []) first ∙ ap (λ v. value_of t (window t start old) ∷ v ∷ []) second in
    let line : listed (map_two (two_by p c) xs ys) ≡ line_value p k j vs =
    ap listed (map-two-above p k c xs ys below) ∙ ap (op_value means (each_two c)) (sym values) ∙ ap (λ o. op_value means o (map (at vs) l.args)) (sym eo) ∙
    sym (ap (value_for means vs) node) in
    let F : ℕ → Type 0 = λ s. FitAt t s old in
    let G : ℕ → Type 0 = λ s. FitAt u s old in
    record {
      below = below;
      known = r.known;
      fits = subst F (sym es) q.fits;
      fits_too = subst G (sym fs) place-two.fits;
      takes = r.takes;
      pushed = λ new push.
          (let P : Option SeqTree → Type 0 = λ o. Pushed o old new (line_value p k j vs) in
          let V : ValueTree → Type 0 = λ v. Pushed (each_of t (result_of p c)) old new v in
          subst P (r.type ∙ sym facts.own) (subst V line push));
    }

-- ---- the same by the arguments that the code reads

module _ (p : ProgramTree) (k j c : ℕ) (l : NodeTree) (args : List ℕ) (base : ℕ) (old : List ℕ) (h : IsTyped p) (known : k < length p.funcs)
    (node : slice_get (nodes_in p k) j ≡ Some l) (same : args ≡ l.args) (laid : Laid p k (item_of p k j) base old) where
  pub read-each : (start : ℕ) (t : SeqTree) → l.op ≡ each c → slice_get (types_in p k) (get_or args 0 0) ≡ Some t
      → start ≡ base + words_of (take (get_or args 0 0) (types_in p k)) → EachArgs p k j c base start old t
  read-each start t eo = subst (λ xs. slice_get (types_in p k) (get_or xs 0 0) ≡ Some t → start ≡ base + words_of (take (get_or xs 0 0) (types_in p k))
      → EachArgs p k j c base start old t) (sym same) (each-args p k j c l base start old t h known node eo laid)

  pub read-each-two : (start place : ℕ) (t u : SeqTree) → l.op ≡ each_two c
      → slice_get (types_in p k) (get_or args 0 0) ≡ Some t → start ≡ base + words_of (take (get_or args 0 0) (types_in p k))
      → slice_get (types_in p k) (get_or args 1 0) ≡ Some u → place ≡ base + words_of (take (get_or args 1 0) (types_in p k))
      → EachTwoArgs p k j c base start place old t u
  read-each-two start place t u eo = subst (λ xs. slice_get (types_in p k) (get_or xs 0 0) ≡ Some t
      → start ≡ base + words_of (take (get_or xs 0 0) (types_in p k)) → slice_get (types_in p k) (get_or xs 1 0) ≡ Some u
      → place ≡ base + words_of (take (get_or xs 1 0) (types_in p k)) → EachTwoArgs p k j c base start place old t u) (sym same)
      (each-two-args p k j c l base start place old t u h known node eo laid)
