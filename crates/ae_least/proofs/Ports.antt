-- The nets of a module by its ports.
use Rattle.std.proofs.Common.{◌≡◌, ℕ, zero, suc, ◌+◌, ◌*◌, ◌<◌, ◌≤◌, inl, inr, Bool, true, false, ◌||◌, ◌==◌, List, [], ◌∷◌, ◌++◌, length, map, None, Some, slice_get, refl, arith, sym, ap, ◌∙◌, subst, length-append}
use Rattle.std.specs.Prelude.{unwrap_or, codes, bytes_eq, filter}
use Rattle.std.proofs.lemmas.Bool.{cases_Bool, cond-true, cond-false}
use Rattle.ae_word.specs.AtomTree.{WordKind, atom_kinds}
use Rattle.ae_seqtype.specs.SeqTree.{atom}
use Rattle.ae_seqtype.proofs.Sizes.{length-kinds}
use Rattle.ae_sttype.specs.StTree.{StTree, lanes, element_atom, element_words}
use Rattle.ae_netlist.specs.declared.cell.Port.TheVariants.{In, Out}
use Rattle.ae_vmodule.specs.declared.module.NetKind.{NetKind}
use Rattle.ae_vmodule.specs.declared.module.NetKind.TheVariants.{Input, Wire, OutWire, Reg, OutReg, Memory}
use Rattle.ae_vmodule.specs.ModuleTree.{NetTree, ModuleTree}
use Rattle.ae_judge.specs.Names.{Among, is_input_kind, is_output_kind, clock_name, is_clock, is_named}
use Rattle.ae_judge.proofs.Members.{same_bytes, among_left, among_right, among_split, among_from, among_unmap}
use Rattle.ae_verilog.specs.NetlistModule.{port_name}
use Rattle.ae_trace.proofs.Laying.{AllWide}
use Rattle.ae_correct.specs.Correct.{ModulePort, port_of, is_port, ports_of, ports_of_words, ports_of_lanes, bundle_ports, param_ports, result_ports, bundles_from, program_ports, name_of}

-- ---- bundles

-- the name of a port begins with this byte, and it has a bit at least
pub record IsPort (first : ℕ) (out : Bool) (p : ModulePort) : Type 0 where
  pub tail : List ℕ
  pub named : p.name ≡ first ∷ tail
  pub low : 1 ≤ p.width
  pub way : p.is_output ≡ out

-- names that begin with a byte
abbrev Begins : ℕ → List ℕ → Type 0
Begins first n = (tail : List ℕ) × (n ≡ first ∷ tail)

words-are : (first : ℕ) (named : ℕ → List ℕ) (out : Bool) → ((k : ℕ) → Begins first (named k)) → (k : ℕ) (ws : List WordKind) → AllWide ws → (p : ModulePort)
    → Among p (ports_of_words named out k ws) → IsPort first out p
words-are first named out b k [] wide p h = absurd h
words-are first named out b k (w ∷ ws) wide p (inl e) =
    subst (IsPort first out) e (record { tail = (b k).0; named = (b k).1; low = wide.0; way = refl })
words-are first named out b k (w ∷ ws) wide p (inr h) = words-are first named out b (k + 1) ws wide.1 p h

lanes-are : (first : ℕ) (named : ℕ → ℕ → List ℕ) (out : Bool) → ((l k : ℕ) → Begins first (named l k)) → (ws : List WordKind) → AllWide ws
    → (l : ℕ) (p : ModulePort) → Among p (ports_of_lanes named out ws l) → IsPort first out p
lanes-are first named out b ws wide zero p h = absurd h
lanes-are first named out b ws wide (suc l) p h = elim (among_split p (ports_of_lanes named out ws l) (ports_of_words (named l) out 0 ws) h) [
  | inl before ↦ lanes-are first named out b ws wide l p before
  | inr here ↦ words-are first (named l) out (b l) 0 ws wide p here
]

length-words : (named : ℕ → List ℕ) (out : Bool) (k : ℕ) (ws : List WordKind) → length (ports_of_words named out k ws) ≡ length ws
length-words named out k [] = refl
length-words named out k (w ∷ ws) = ap suc (length-words named out (k + 1) ws)

length-lanes : (named : ℕ → ℕ → List ℕ) (out : Bool) (ws : List WordKind) (l : ℕ) → length (ports_of_lanes named out ws l) ≡ l * length ws
length-lanes named out ws zero = omega arith
length-lanes named out ws (suc l) =
    omega (
      arith,
      length-append (ports_of_lanes named out ws l) (ports_of_words (named l) out 0 ws),
      length-lanes named out ws l,
      length-words (named l) out 0 ws,
    )

pub length-bundle : (named : ℕ → ℕ → List ℕ) (out : Bool) (s : StTree) → length (bundle_ports named out s) ≡ lanes s * element_words s
length-bundle named out s = length-lanes named out (atom_kinds (element_atom s)) (lanes s) ∙ ap (λ n. lanes s * n) (length-kinds (atom (element_atom s)))

-- ---- the names of inputs and outputs

in-begins : (q l k : ℕ) → Begins 105 (port_name 1 (In q l k))
in-begins q l k = (_, refl)

out-begins : (outs r l k : ℕ) → Begins 111 (port_name outs (Out r l k))
out-begins outs r l k = elim (cases_Bool (outs == 1)) [
  | inl t ↦ (_, cond-true _ _ _ t)
  | inr f ↦ (_, cond-false _ _ _ f)
]

-- ---- the port of a column

pub record HasPort (first : ℕ) (out : Bool) (ports : List ModulePort) (column : ℕ) : Type 0 where
  pub port : ModulePort
  pub there : Among port ports
  pub is : IsPort first out port
  pub named : unwrap_or (slice_get (map name_of ports) column) [] ≡ port.name

entry-at : (ports : List ModulePort) (k : ℕ) → k < length ports → (p : ModulePort) × (slice_get ports k ≡ Some p)
    × (unwrap_or (slice_get (map name_of ports) k) [] ≡ p.name)
entry-at [] k h = absurd (omega arith)
entry-at (p ∷ ports) zero h = (p, refl, refl)
entry-at (p ∷ ports) (suc k) h = entry-at ports k (omega arith)

has-port : (first : ℕ) (named : ℕ → ℕ → List ℕ) (out : Bool) (s : StTree) → ((l k : ℕ) → Begins first (named l k)) → AllWide (atom_kinds (element_atom s))
    → (column : ℕ) → column < lanes s * element_words s → HasPort first out (bundle_ports named out s) column
has-port first named out s b wide column h =
    let ports : List ModulePort = bundle_ports named out s in
    let e = entry-at ports column (omega (arith, length-bundle named out s)) in
    let there : Among e.0 ports = among_from e.0 ports column e.1 in
    record { port = e.0; there = there; is = lanes-are first named out b (atom_kinds (element_atom s)) wide (lanes s) e.0 there; named = e.2 }

pub input-port : (q : ℕ) (s : StTree) → AllWide (atom_kinds (element_atom s)) → (column : ℕ) → column < lanes s * element_words s
    → HasPort 105 false (param_ports q s) column
input-port q s = has-port 105 (λ lane word. port_name 1 (In q lane word)) false s (in-begins q)

pub output-port : (outs r : ℕ) (s : StTree) → AllWide (atom_kinds (element_atom s)) → (column : ℕ) → column < lanes s * element_words s
    → HasPort 111 true (result_ports outs r s) column
output-port outs r s = has-port 111 (λ lane word. port_name outs (Out r lane word)) true s (out-begins outs r)

-- ---- the ports of a module

among-from : (bundle : ℕ → StTree → List ModulePort) (p : ModulePort) (k : ℕ) (ss : List StTree) (q : ℕ) (s : StTree) → slice_get ss q ≡ Some s
    → Among p (bundle (k + q) s) → Among p (bundles_from bundle k ss)
among-from bundle p k [] q s f h = absurd (let e : None ≡ Some s = f in cc)
among-from bundle p k (x ∷ ss) zero s f h =
    let e : x ≡ s = cc in
    let z : k + 0 ≡ k = omega arith in
    among_left p (bundle k x) (bundles_from bundle (k + 1) ss) (subst (λ y. Among p (bundle k y)) (sym e) (subst (λ i. Among p (bundle i s)) z h))
among-from bundle p k (x ∷ ss) (suc q) s f h =
    let z : k + suc q ≡ k + 1 + q = omega arith in
    among_right p (bundle k x) (bundles_from bundle (k + 1) ss) (among-from bundle p (k + 1) ss q s f (subst (λ i. Among p (bundle i s)) z h))

module _ (ins outs : List StTree) where
  abbrev behind : List ModulePort
  behind = bundles_from param_ports 0 ins ++ bundles_from (result_ports (length outs)) 0 outs

  pub input-among : (p : ModulePort) (q : ℕ) (s : StTree) → slice_get ins q ≡ Some s → Among p (param_ports q s) → Among p (program_ports ins outs)
  input-among p q s f h =
      let z : 0 + q ≡ q = omega arith in
      inr (inr (among_left p (bundles_from param_ports 0 ins) (bundles_from (result_ports (length outs)) 0 outs)
      (among-from param_ports p 0 ins q s f (subst (λ i. Among p (param_ports i s)) (sym z) h))))

  pub output-among : (p : ModulePort) (r : ℕ) (s : StTree) → slice_get outs r ≡ Some s → Among p (result_ports (length outs) r s)
      → Among p (program_ports ins outs)
  output-among p r s f h =
      let z : 0 + r ≡ r = omega arith in
      inr (inr (among_right p (bundles_from param_ports 0 ins) (bundles_from (result_ports (length outs)) 0 outs)
      (among-from (result_ports (length outs)) p 0 outs r s f (subst (λ i. Among p (result_ports (length outs) i s)) (sym z) h))))

-- ---- nets

among-filter : (test : NetTree → Bool) (x : NetTree) (xs : List NetTree) → Among x (filter test xs) → Among x xs × (test x ≡ true)
among-filter test x [] h = absurd h
among-filter test x (y ∷ xs) h = elim (cases_Bool (test y)) [
  | inl t ↦ elim (subst (Among x) (cond-true _ (y ∷ filter test xs) (filter test xs) t) h) as (λ _. Among x (y ∷ xs) × (test x ≡ true)) [
    | inl e ↦ (inl e, ap test (sym e) ∙ t)
    | inr r ↦ (let g = among-filter test x xs r in (inr g.0, g.1))
  ]
  | inr f ↦ (let g = among-filter test x xs (subst (Among x) (cond-false _ (y ∷ filter test xs) (filter test xs) f) h) in (inr g.0, g.1))
]

pub record HasNet (m : ModuleTree) (p : ModulePort) : Type 0 where
  pub net : NetTree
  pub there : Among net m.nets
  pub named : net.name ≡ p.name
  pub wide : net.width ≡ p.width
  pub way : is_output_kind net.kind ≡ p.is_output
  pub port : is_port net ≡ true

pub net-of-port : (m : ModuleTree) (p : ModulePort) → Among p (ports_of m) → HasNet m p
net-of-port m p h =
    let u = among_unmap port_of p (filter is_port m.nets) h in
    let g = among-filter is_port u.0 m.nets u.1 in
    record {
      net = u.0;
      there = g.0;
      named = ap (λ (x : ModulePort). x.name) u.2;
      wide = ap (λ (x : ModulePort). x.width) u.2;
      way = ap (λ (x : ModulePort). x.is_output) u.2;
      port = g.1;
    }

pub input-kind : (k : NetKind) → is_output_kind k ≡ false → (is_input_kind k || is_output_kind k) ≡ true → k ≡ Input
input-kind Input o h = refl
input-kind OutWire o h = absurd (cc)
input-kind OutReg o h = absurd (cc)
input-kind Wire o h = absurd (cc)
input-kind Reg o h = absurd (cc)
input-kind (Memory d) o h = absurd (cc)

-- a name that does not begin as `clk` does is not that of the clock
pub not-clock : (m : ModuleTree) (n tail : List ℕ) (first : ℕ) → clock_name m ≡ Some (codes "clk") → n ≡ first ∷ tail → (first ≡ 99 → ⊥) → is_clock m n ≡ false
unfolding is_clock
not-clock m n tail first c e other =
    let is : is_clock m n ≡ bytes_eq (codes "clk") n = ap (is_named n) c in
    elim (cases_Bool (bytes_eq (codes "clk") n)) [
      | inl t ↦ absurd (other (let s : codes "clk" ≡ first ∷ tail = same_bytes (codes "clk") n t ∙ e in cc))
      | inr f ↦ is ∙ f
    ]
