-- A written program is read back, with the numbers of its lines.
use Rattle.std.proofs.Common.{◌≡◌, ℕ, suc, ◌+◌, ◌≤◌, Bool, true, false, not, ◌&&◌, ◌||◌, ◌==◌, nat_le, nat_lt, List, [], ◌∷◌, ◌++◌, length, map, Some, None, if◌then◌else◌, refl, sym, ap, ◌∙◌, arith, codes, append_assoc, length-append}
use Rattle.std.proofs.lemmas.Bool.{leb-true, le-leb, ltb-true, eqb-true, eq-eqb}
use Rattle.std.specs.List.{list_all}
use Rattle.ae_seq.specs.ProgramTree.{ParamTree, NodeTree, FuncTree, ProgramTree}
use Rattle.ae_seq.specs.Formed.{all_below, all_distinct, all_names, apart, formed, formed_func, formed_funcs, formed_nodes, formed_params, func_lines, func_names, is_among, is_name, item_count, line_count, most_results, node_names, param_names, within}
use Rattle.ae_fields.specs.Grammar.{Known, Part, Head, program, IsProgramText, no_params, params_of, few_params, begun, begin_named, begin, ended, ended_with, inside, by_part, is_version_line, of_version, by_state, whole, start}
use Rattle.ae_seq.specs.Typing.{where_ok, ◌>>=◌}
use Rattle.ae_print.specs.Printed.{name_at, node_fields, param_field, nodes_fit, funcs_fit, nodes_from, func_from, funcs_from, numbered, end_fields, item_names, func_statements, funcs_statements, statements, program_text}
use Rattle.ae_print.proofs.LineRead.{append-none, Extends, extends-append, places-read, funcs-found, params-read, step-later, nodes-read}
use Rattle.ae_fields.proofs.NameForms.{known-agree, distinct-new, distinct-front, not-so}
use Rattle.ae_print.proofs.OpRead.{FuncsFound}
use Rattle.ae_fields.proofs.StepCases.{begun_state}
use Rattle.ae_print.proofs.TextForms.{reading_of, text-read, stated}
use Rattle.ae_seq.proofs.Judging.{left as and-first, right as and-second}
use Rattle.ae_fields.proofs.PartLemmas.{and-both}

-- ---- names of a formed function

or-false : (a b : Bool) → a ≡ false → b ≡ false → (a || b) ≡ false
or-false a b h g = (λ i. h i || g i)

among-append : (n : List ℕ) (ms ns : List (List ℕ)) → is_among n ms ≡ false → is_among n ns ≡ false → is_among n (ms ++ ns) ≡ false
among-append n [] ns h g = g
among-append n (m ∷ ms) ns h g = by _ _ h (among-append n ms ns) g
  where
    by : (x y : Bool) → (x || y) ≡ false → (y ≡ false → is_among n ns ≡ false → is_among n (ms ++ ns) ≡ false) → is_among n ns ≡ false
        → (x || is_among n (ms ++ ns)) ≡ false
    by true y e rest i = absurd cc
    by false y e rest i = rest e i

distinct-append : (ms ns : List (List ℕ)) → all_distinct ms ≡ true → all_distinct ns ≡ true → apart ms ns ≡ true → all_distinct (ms ++ ns) ≡ true
distinct-append [] ns h g a = g
distinct-append (m ∷ ms) ns h g a =
    and-both _ _ (ap not (among-append m ms ns (not-so (is_among m ms) (and-first _ _ h)) (not-so (is_among m ns) (and-first _ _ a))))
    (distinct-append ms ns (and-second (not (is_among m ms)) _ h) g (and-second (not (is_among m ns)) _ a))

-- the parts of a formed function
pub record FuncFits (version funcs most : ℕ) (f : FuncTree) : Type 0 where
  pub name : is_name f.name ≡ true
  pub few : within 1 8 (length f.params) ≡ true
  pub types : formed_params version f.params ≡ true
  pub nodes : formed_nodes version funcs (length f.params) f.nodes ≡ true
  pub results : within 1 most (length f.results) ≡ true
  pub below : all_below (item_count f) f.results ≡ true
  pub param_names_are : all_names (param_names f.params) ≡ true
  pub node_names_are : all_names (node_names f.nodes) ≡ true
  pub distinct : all_distinct (item_names f) ≡ true

pub func-fits : (version funcs most : ℕ) (f : FuncTree) → formed_func version funcs most f ≡ true → FuncFits version funcs most f
func-fits version funcs most f h =
    let ps = param_names f.params in
    let ns = node_names f.nodes in
    let items = and-second (is_name f.name && within 1 8 (length f.params) && formed_params version f.params && formed_nodes version funcs
    (length f.params) f.nodes && within 1 most (length f.results) && all_below (item_count f) f.results) _ h in
    let a = and-first _ _ h in
    let b = and-first _ _ a in
    let c = and-first _ _ b in
    let d = and-first _ _ c in
    let e = and-first _ _ d in
    let i = and-first _ _ items in
    let j = and-first _ _ i in
    let k = and-first _ _ j in
    record {
      name = and-first _ _ e;
      few = and-second (is_name f.name) _ e;
      types = and-second (is_name f.name && within 1 8 (length f.params)) _ d;
      nodes = and-second (is_name f.name && within 1 8 (length f.params) && formed_params version f.params) _ c;
      results = and-second (is_name f.name && within 1 8 (length f.params) && formed_params version f.params && formed_nodes version funcs
          (length f.params) f.nodes) _ b;
      below = and-second (is_name f.name && within 1 8 (length f.params) && formed_params version f.params && formed_nodes version funcs
          (length f.params) f.nodes && within 1 most (length f.results)) _ a;
      param_names_are = and-first _ _ k;
      node_names_are = and-second (all_names ps) _ k;
      distinct = distinct-append ps ns (and-second (all_names ps && all_names ns) _ j) (and-second (all_names ps && all_names ns && all_distinct ps) _ i)
          (and-second (all_names ps && all_names ns && all_distinct ps && all_distinct ns) _ items);
    }

-- ---- a function

pub length-params : (ps : List ParamTree) → length (param_names ps) ≡ length ps
length-params [] = refl
length-params (p ∷ ps) = ap (λ n. suc n) (length-params ps)

pub length-nodes : (ns : List NodeTree) → length (node_names ns) ≡ length ns
length-nodes [] = refl
length-nodes (n ∷ ns) = ap (λ k. suc k) (length-nodes ns)

pub head-read : (n : ℕ) (k : Known) (f : FuncTree) (funcs most : ℕ) → k.closed ≡ false → FuncFits k.version funcs most f → is_among f.name k.names ≡ false
    → begin n k (codes "fn") (f.name ∷ map param_field f.params) ≡ Some (begun_state n k f.name (record { params = f.params; items = param_names f.params }))
head-read n k f funcs most shut fits new =
    let h : Head = record { params = f.params; items = param_names f.params } in
    ap (λ t. where_ok (not t) (begin_named n k f.name (map param_field f.params))) shut
    ∙ ap (λ t. where_ok t (params_of k.version (map param_field f.params) >>= begun n k f.name)) fits.name
    ∙ ap (λ o. o >>= few_params >>= begun n k f.name) (params-read k.version no_params f.params fits.types fits.param_names_are
    (distinct-front (param_names f.params) (node_names f.nodes) fits.distinct))
    ∙ ap (λ t. where_ok t (Some h) >>= begun n k f.name) fits.few
    ∙ ap (λ t. where_ok (not t) (Some (begun_state n k f.name h))) (known-agree f.name k.names ∙ new)

pub end-read : (n : ℕ) (k : Known) (p : Part) (items : List (List ℕ)) (rs : List ℕ) → Extends items p.items → all_distinct p.items ≡ true
    → all_below (length p.items) rs ≡ true
    → within 1 (most_results k.version []) (length rs) ≡ true → inside n k p (codes "end") (map (name_at items) rs) ≡ Some (ended n k p rs)
end-read n k p items rs x d below few =
    ap (λ o. o >>= ended_with n k p) (places-read items p.items [] rs x d below) ∙ ap (λ t. where_ok t (Some (ended n k p rs))) few

-- what is known behind a function on the lines from n on
abbrev pub known_after : (n : ℕ) → Known → FuncTree → Known
known_after n k f = record { version = k.version; closed = nat_lt 1 (length f.results); funcs = k.funcs ++ func_from n f ∷ []; names = k.names ++ f.name ∷ [] }

pub func-read : (n most : ℕ) (k : Known) (f : FuncTree) (all : List (List ℕ)) (rest : List (List (List ℕ)))
    → (k.version == 0) ≡ false → k.closed ≡ false → FuncFits k.version (length k.funcs) most f → most ≤ most_results k.version [] → nodes_fit f.nodes ≡ true
    → Extends all (k.names ++ f.name ∷ []) → all_distinct (k.names ++ f.name ∷ []) ≡ true → length k.names ≡ length k.funcs → n + 1 + length f.nodes ≤ 4096
    → reading_of (func_statements all f ++ rest) n (record { known = k; part = None }) ≡ reading_of rest (n + 1 + length f.nodes + 1)
    (record { known = known_after n k f; part = None })
func-read n most k f all rest v shut fits less fit x d same low =
    let items = item_names f in
    let e : List (List ℕ) = end_fields items f.results in
    let body : List (List (List ℕ)) = map (node_fields all items) f.nodes in
    let head : Head = record { params = f.params; items = param_names f.params } in
    let s = begun_state n k f.name head in
    let p : Part = record { name = f.name; params = f.params; nodes = []; items = param_names f.params; line = n } in
    let q : Part = record { name = f.name; params = f.params; nodes = nodes_from (n + 1) f.nodes; items = items; line = n } in
    let named = length-append k.names (f.name ∷ []) in
    let found : FuncsFound (length k.funcs) all (k.names ++ f.name ∷ []) = funcs-found (length k.funcs) all (k.names ++ f.name ∷ []) x d (omega arith) in
    let count : length items ≡ item_count f = length-append (param_names f.params) (node_names f.nodes) ∙
    (λ i. length-params f.params i + length-nodes f.nodes i) in
    let high = leb-true (length f.results) most (and-second (nat_le 1 (length f.results)) _ fits.results) in
    let few : within 1 (most_results k.version []) (length f.results) ≡ true = and-both _ _ (and-first _ _ fits.results)
    (le-leb (length f.results) (most_results k.version []) (omega arith)) in
    let after : List (List (List ℕ)) = e ∷ rest in
    ap (λ o. by_state n o (reading_of ((body ++ e ∷ []) ++ rest) (n + 1)))
    (step-later n (record { known = k; part = None }) (codes "fn") (f.name ∷ map param_field f.params) (omega arith) v ∙
    head-read n k f (length k.funcs) most shut fits (distinct-new k.names f.name [] d))
    ∙ ap (λ sts. reading_of sts (n + 1) s) (append_assoc body (e ∷ []) rest)
    ∙ nodes-read f.nodes (n + 1) s.known p all items after v found refl fits.distinct
    (ap (λ j. formed_nodes k.version (length k.funcs) j f.nodes) (length-params f.params) ∙ fits.nodes) fits.node_names_are fit (omega arith)
    ∙ ap (λ o. by_state (n + 1 + length f.nodes) o (reading_of rest (n + 1 + length f.nodes + 1)))
    (step-later (n + 1 + length f.nodes) (record { known = s.known; part = Some q }) (codes "end") (map (name_at items) f.results) (omega arith) v
    ∙ end-read (n + 1 + length f.nodes) s.known q items f.results (λ j h. refl) fits.distinct (ap (λ j. all_below j f.results) count ∙ fits.below) few)

-- ---- functions

func-names-push : (fs : List FuncTree) (f : FuncTree) → func_names (fs ++ f ∷ []) ≡ func_names fs ++ f.name ∷ []
func-names-push [] f = refl
func-names-push (e ∷ fs) f = ap (λ ns. e.name ∷ ns) (func-names-push fs f)

pub length-names : (fs : List FuncTree) → length (func_names fs) ≡ length fs
length-names [] = refl
length-names (f ∷ fs) = ap (λ n. suc n) (length-names fs)

-- no function has ended with several results, if another one follows
abbrev pub IsOpen : Known → List FuncTree → Type 0
IsOpen k [] = Unit {0}
IsOpen k (f ∷ fs) = k.closed ≡ false

whole-some : (n version : ℕ) (fs : List FuncTree) → 1 ≤ length fs → whole n version fs None ≡ program (record { version = version; funcs = fs })
whole-some n version [] h = absurd (omega arith)
whole-some n version (f ∷ fs) h = refl

pub most-all : (version : ℕ) (fs : List FuncTree) → most_results version fs ≤ most_results version []
most-all version [] = omega arith
most-all version (f ∷ fs) = by (version == 2)
  where
    by : (b : Bool) → 1 ≤ (if b then 8 else 1)
    by true = omega arith
    by false = omega arith

pub still-open : (k : Known) (n : ℕ) (f : FuncTree) (fs : List FuncTree) → within 1 (most_results k.version fs) (length f.results) ≡ true
    → IsOpen (known_after n k f) fs
still-open k n f [] h = tt
still-open k n f (g ∷ fs) h = by (nat_lt 1 (length f.results)) refl
  where
    by : (b : Bool) → nat_lt 1 (length f.results) ≡ b → b ≡ false
    by false e = refl
    by true e = let a = ltb-true 1 (length f.results) e in let l = leb-true (length f.results) 1 (and-second (nat_le 1 (length f.results)) _ h) in
        absurd (omega arith)

pub funcs-read : (fs : List FuncTree) (n : ℕ) (k : Known) (all : List (List ℕ)) → (k.version == 0) ≡ false → IsOpen k fs → length k.names ≡ length k.funcs
    → all ≡ k.names ++ func_names fs → all_distinct all ≡ true → formed_funcs k.version (length k.funcs) fs ≡ true → funcs_fit fs ≡ true
    → n + func_lines fs ≤ 4097 → 1 ≤ length k.funcs + length fs
    → reading_of (funcs_statements all fs) n (record { known = k; part = None }) ≡ program (record { version = k.version; funcs = k.funcs ++ funcs_from n fs })
funcs-read [] n k all v shut same is d formed_are fit low some =
    whole-some n k.version k.funcs (omega arith) ∙ (λ i. program (record { version = k.version; funcs = sym (append-none k.funcs) i }))
funcs-read (f ∷ fs) n k all v shut same is d formed_are fit low some =
    let most = most_results k.version fs in
    let fits = func-fits k.version (length k.funcs) most f (and-first _ _ formed_are) in
    let next = known_after n k f in
    let front : all ≡ (k.names ++ f.name ∷ []) ++ func_names fs = is ∙ sym (append_assoc k.names (f.name ∷ []) (func_names fs)) in
    let x : Extends all (k.names ++ f.name ∷ []) = λ j h. ap (λ ns. name_at ns j) front ∙ extends-append (k.names ++ f.name ∷ []) (func_names fs) j h in
    let d_front : all_distinct (k.names ++ f.name ∷ []) ≡ true = distinct-front (k.names ++ f.name ∷ []) (func_names fs) (ap all_distinct (sym front) ∙ d) in
    let more_funcs : length next.funcs ≡ length k.funcs + 1 = length-append k.funcs (func_from n f ∷ []) in
    let more_names : length next.names ≡ length k.names + 1 = length-append k.names (f.name ∷ []) in
    func-read n most k f all (funcs_statements all fs) v shut fits (most-all k.version fs) (and-first _ _ fit) x d_front same (omega arith)
    ∙ funcs-read fs (n + 1 + length f.nodes + 1) next all v (still-open k n f fs fits.results) (omega arith) front d
    (ap (λ j. formed_funcs k.version j fs) more_funcs ∙ and-second (formed_func k.version (length k.funcs) most f) _ formed_are)
    (and-second (nodes_fit f.nodes) _ fit) (omega arith) (omega arith)
    ∙ (λ i. program (record { version = k.version; funcs = append_assoc k.funcs (func_from n f ∷ []) (funcs_from (n + 1 + length f.nodes + 1) fs) i }))

-- ---- programs

pub no-version : (name : List ℕ) (ps : List (List ℕ)) → is_version_line (codes "fn") (name ∷ ps) ≡ false
no-version name [] = refl
no-version name (p ∷ ps) = refl

abbrev pub opened : ℕ → Known
opened version = record { version = version; closed = false; funcs = []; names = [] }

-- the first function line of version 1
first-read : (f : FuncTree) (fs : List FuncTree) (all : List (List ℕ))
    → reading_of (funcs_statements all (f ∷ fs)) 1 start ≡ reading_of (funcs_statements all (f ∷ fs)) 1 (record { known = opened 1; part = None })
first-read f fs all =
    let later : List (List (List ℕ)) = (map (node_fields all (item_names f)) f.nodes ++ end_fields (item_names f) f.results ∷ []) ++ funcs_statements all fs in
    ap (λ t. by_state 1 (if t then Some (record { known = of_version 2 start.known; part = None }) else by_part 1 (of_version 1 start.known) None (codes "fn")
    (f.name ∷ map param_field f.params)) (reading_of later 2))
    (no-version f.name (map param_field f.params))

pub open-first : (version : ℕ) (fs : List FuncTree) → IsOpen (opened version) fs
open-first version [] = tt
open-first version (f ∷ fs) = refl

read-1 : (fs : List FuncTree) → all_distinct (func_names fs) ≡ true → formed_funcs 1 0 fs ≡ true → funcs_fit fs ≡ true → func_lines fs ≤ 4096 → 1 ≤ length fs
    → reading_of (funcs_statements (func_names fs) fs) 1 start ≡ program (record { version = 1; funcs = funcs_from 1 fs })
read-1 [] d f fit low some = absurd (omega arith)
read-1 (g ∷ fs) d f fit low some =
    first-read g fs (func_names (g ∷ fs)) ∙ funcs-read (g ∷ fs) 1 (opened 1) (func_names (g ∷ fs)) refl refl refl refl d f fit (omega arith) (omega arith)

read-2 : (fs : List FuncTree) → all_distinct (func_names fs) ≡ true → formed_funcs 2 0 fs ≡ true → funcs_fit fs ≡ true → func_lines fs + 1 ≤ 4096
    → 1 ≤ length fs
    → reading_of ((codes "aeth" ∷ codes "2" ∷ []) ∷ funcs_statements (func_names fs) fs) 1 start ≡ program (record { version = 2; funcs = funcs_from 2 fs })
read-2 fs d f fit low some = funcs-read fs 2 (opened 2) (func_names fs) refl (open-first 2 fs) refl refl d f fit (omega arith) (omega arith)

statements-read : (p : ProgramTree) → formed p ≡ true → funcs_fit p.funcs ≡ true → reading_of (statements p) 1 start ≡ program (numbered p)
statements-read p h fit = by (p.version == 2) refl
  where
    a : (within 1 2 p.version && nat_le 1 (length p.funcs) && nat_le (line_count p) 4096 && all_distinct (func_names p.funcs)) ≡ true
    a = and-first _ _ h

    b : (within 1 2 p.version && nat_le 1 (length p.funcs) && nat_le (line_count p) 4096) ≡ true
    b = and-first _ _ a

    distinct : all_distinct (func_names p.funcs) ≡ true
    distinct = and-second (within 1 2 p.version && nat_le 1 (length p.funcs) && nat_le (line_count p) 4096) _ a

    funcs : formed_funcs p.version 0 p.funcs ≡ true
    funcs = and-second (within 1 2 p.version && nat_le 1 (length p.funcs) && nat_le (line_count p) 4096 && all_distinct (func_names p.funcs)) _ h

    c : (within 1 2 p.version && nat_le 1 (length p.funcs)) ≡ true
    c = and-first _ _ b

    lines_few : line_count p ≤ 4096
    lines_few = leb-true (line_count p) 4096 (and-second (within 1 2 p.version && nat_le 1 (length p.funcs)) _ b)

    some : 1 ≤ length p.funcs
    some = leb-true 1 (length p.funcs) (and-second (within 1 2 p.version) _ c)

    low : 1 ≤ p.version
    low = leb-true 1 p.version (and-first _ _ (and-first _ _ c))

    high : p.version ≤ 2
    high = leb-true p.version 2 (and-second (nat_le 1 p.version) _ (and-first _ _ c))

    one : (p.version ≡ 2 → ⊥) → p.version ≡ 1
    one other = let l = low in let r = high in omega arith

    by : (t : Bool) → (p.version == 2) ≡ t
        → reading_of ((if t then (codes "aeth" ∷ codes "2" ∷ []) ∷ [] else []) ++ funcs_statements (func_names p.funcs) p.funcs) 1 start ≡ program
        (record { version = p.version; funcs = funcs_from (if t then 2 else 1) p.funcs })
    by true e =
        let v : p.version ≡ 2 = eqb-true p.version 2 e in
        let l : func_lines p.funcs + 1 ≤ 4096 = rw (ap (λ t. func_lines p.funcs + (if t then 1 else 0)) e) at lines_few in
        read-2 p.funcs distinct (ap (λ w. formed_funcs w 0 p.funcs) (sym v) ∙ funcs) fit l some ∙
        (λ i. program (record { version = sym v i; funcs = funcs_from 2 p.funcs }))
    by false e =
        let v : p.version ≡ 1 = one (λ w. absurd (let x = eq-eqb p.version 2 w in cc)) in
        let l : func_lines p.funcs + 0 ≤ 4096 = rw (ap (λ t. func_lines p.funcs + (if t then 1 else 0)) e) at lines_few in
        read-1 p.funcs distinct (ap (λ w. formed_funcs w 0 p.funcs) (sym v) ∙ funcs) fit (omega arith) some ∙
        (λ i. program (record { version = sym v i; funcs = funcs_from 1 p.funcs }))

-- the text of a program is that program
pub text-is-program : (p : ProgramTree) → formed p ≡ true → funcs_fit p.funcs ≡ true → list_all stated (statements p) ≡ true
    → IsProgramText (program_text p) (numbered p)
text-is-program p h fit all = text-read (statements p) 1 start all ∙ statements-read p h fit
