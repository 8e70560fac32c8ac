-- The failing lines of a formed program, as a recursion over functions.
use Rattle.std.proofs.Common.{◌≡◌, ℕ, suc, ◌+◌, ◌<◌, List, [], ◌∷◌, length, get_or, Option, Some, None, refl, ap, sym, ◌∙◌, arith, slice_get, cond, IsTrue}
use Rattle.std.specs.Prelude.{unwrap_or}
use Rattle.std.proofs.lemmas.Bool.Decides.{nat_tests}
use Rattle.std.proofs.lemmas.Option.{slice_get-get_or, none-some, same_Some}
use Rattle.ae_seq.specs.ProgramTree.{ProgramTree, FuncTree, NodeTree, OpTree, call, each, each_two}
use Rattle.ae_seq.specs.Formed.{formed, is_line}
use Rattle.ae_seq.specs.Typing.{grown}
use Rattle.ae_rewrite.specs.declared.calls.Call.{Call}
use Rattle.ae_rewrite.specs.Calls.{Spreading, called_by, call_of, each_call, layout_at, spread_at, head}
use Rattle.ae_rewrite.specs.FailingLine.{failing, func_line, nodes_line, node_line, unless_laid, call_line, params_laid, or_line, lines_in, next_lines, no_line}
use Rattle.ae_rewrite.proofs.Grown.{entry}
use Rattle.ae_rewrite.proofs.Forms.{node-of}

-- ---- what is called stands above

each-func : (g clocks : ℕ) (o : Option Spreading) (c : Call) → each_call g clocks o ≡ Some c → c.func ≡ g
each-func g clocks None c h = absurd (none-some c h)
each-func g clocks (Some s) c h = sym (ap (λ (x : Call). x.func) (same_Some _ c h))

call-func : (v m : ℕ) (op : OpTree) (clocks : ℕ) (o : Option Spreading) (c : Call) → IsTrue (is_line v m op) → call_of op clocks o ≡ Some c → c.func < m
call-func v m (call g) clocks o c h is = let e = ap (λ (x : Call). x.func) (same_Some _ c is) in let p : g < m = grind (arith, nat_tests) in omega (arith, e, p)
call-func v m (each g) clocks o c h is = let e = each-func g clocks o c is in let p : g < m = grind (arith, nat_tests) in omega (arith, e, p)
call-func v m (each_two g) clocks o c h is = let e = each-func g clocks o c is in let p : g < m = grind (arith, nat_tests) in omega (arith, e, p)
call-func v m _ clocks o c h is = absurd (none-some c is)

pub called-above : (p : ProgramTree) (f clocks : ℕ) (of : FuncTree) (k : ℕ) (n : NodeTree) (c : Call) → IsTrue (formed p) → slice_get p.funcs f ≡ Some of
    → slice_get of.nodes k ≡ Some n →
    called_by p f clocks n ≡ Some c → c.func < f
called-above p f clocks of k n c h at here is = call-func p.version f n.op clocks (spread_at p f clocks (head n.args)) c (node-of p f of k n h at here).line is

-- ---- the equation

-- two ways to know that agree below m
abbrev SameBelow : (m : ℕ) → (known other : ℕ → ℕ → Option ℕ) → Type 0
SameBelow m known other = (g u : ℕ) → g < m → known g u ≡ other g u

call-same : (m : ℕ) (known other : ℕ → ℕ → Option ℕ) (o : Option Call) → SameBelow m known other → ((c : Call) → o ≡ Some c → c.func < m)
    → call_line known o ≡ call_line other o
call-same m known other None same low = refl
call-same m known other (Some c) same low = same c.func c.budget (low c refl)

nodes-same : (p : ProgramTree) (f clocks : ℕ) (known other : ℕ → ℕ → Option ℕ) (i : ℕ) (ns : List NodeTree) → SameBelow f known other →
    ((k : ℕ) (n : NodeTree) (c : Call) → slice_get ns k ≡ Some n → called_by p f clocks n ≡ Some c → c.func < f)
    → nodes_line p known f clocks i ns ≡ nodes_line p other f clocks i ns
nodes-same p f clocks known other i [] same low = refl
nodes-same p f clocks known other i (n ∷ ns) same low =
    ap (λ o. or_line (unless_laid (layout_at p f clocks i) n.line o) (nodes_line p known f clocks (i + 1) ns))
    (call-same f known other (called_by p f clocks n) same (λ c is. low 0 n c refl is))
    ∙ ap (or_line (node_line p other f clocks i n)) (nodes-same p f clocks known other (i + 1) ns same (λ k m c at is. low (suc k) m c at is))

-- a function's failing line from those of the functions that it calls
pub failing_is : (p : ProgramTree) (f clocks : ℕ) (of : FuncTree) → IsTrue (formed p) → slice_get p.funcs f ≡ Some of
    → failing p f clocks ≡ func_line p (failing p) f clocks of
unfolding failing
failing_is p f clocks of h at =
    let e = entry (next_lines p) [] p.funcs f of at in
    let all = grown (next_lines p) [] p.funcs in
    let long : length e.before ≡ f = omega (arith, e.long) in
    let z : 0 + f ≡ f = omega arith in
    let read : slice_get all f ≡ Some (next_lines p e.before of) = rw z at e.is in
    let same : SameBelow f (lines_in e.before) (lines_in all) = λ g u below.
    let inside : g < length e.before = omega arith in
    let there = slice_get-get_or e.before g no_line inside in
    ap (λ (o : Option (ℕ → Option ℕ)). unwrap_or o no_line u) (there ∙ sym (e.same g (get_or e.before g no_line) there)) in
    ap (λ (o : Option (ℕ → Option ℕ)). unwrap_or o no_line clocks) read
    ∙ ap (λ m. func_line p (lines_in e.before) m clocks of) long
    ∙ ap (λ o. cond (params_laid clocks of.params) o (Some of.line))
    (nodes-same p f clocks (lines_in e.before) (lines_in all) (length of.params) of.nodes same (λ k n c here is. called-above p f clocks of k n c h at here is))
