-- What a line that is not refused does.
use Rattle.std.proofs.Common.{◌≡◌, ℕ, ◌≤◌, Bool, true, false, ◌==◌, List, [], ◌∷◌, ◌++◌, length, Option, Some, None, if◌then◌else◌, refl, sym, codes}
use Rattle.std.proofs.lemmas.Bool.{leb-true, eqb-true, eq-eqb}
use Rattle.std.specs.Str.{bytes_eq}
use Rattle.ae_seq.specs.ProgramTree.{OpTree}
use Rattle.ae_seq.specs.Formed.{has_arguments, within, most_results}
use Rattle.ae_fields.specs.Grammar.{Known, Part, State, Head, params_of, begin, places_after, node, ended, finish, by_part, is_version_line, of_version, first_line, step}
use Rattle.ae_seq.specs.Formed.{is_name}
use Rattle.ae_fields.specs.Scopes.{is_known}
use Rattle.ae_fields.specs.Words.{operator_from}
use Rattle.ae_fields.proofs.OptionLemmas.{bind-some, where-some, some-is}
use Rattle.ae_fields.proofs.NameForms.{not-so as not-true}
use Rattle.ae_seq.proofs.Judging.{right as and-second}

abbrev pub begun_state : ℕ → Known → List ℕ → Head → State
begun_state n k name h = record {
  known = record { version = k.version; closed = k.closed; funcs = k.funcs; names = k.names ++ name ∷ [] };
  part = Some (record { name = name; params = h.params; nodes = []; items = h.items; line = n });
}

abbrev pub node_state : ℕ → Known → Part → List ℕ → OpTree → List ℕ → State
node_state n k p name op args = record {
  known = k;
  part = Some (record {
    name = p.name;
    params = p.params;
    nodes = p.nodes ++ record { name = name; op = op; args = args; line = n } ∷ [];
    items = p.items
        ++ name ∷ [];
    line = p.line;
  });
}

-- a function line, a node line or an end line
pub data Placed (n : ℕ) (k : Known) (part : Option Part) (s : State) : Type 0 where
  began : (name : List ℕ) (h : Head) (fs : List (List ℕ)) → part ≡ None → k.closed ≡ false → is_name name ≡ true → is_known name k.names ≡ false
      → params_of k.version fs ≡ Some h → s ≡ begun_state n k name h → Placed n k part s
  noded : (p : Part) (name : List ℕ) (w : List ℕ) (fs : List (List ℕ)) (o : OpTree × List (List ℕ)) (args : List ℕ) → part ≡ Some p → is_name name ≡ true
      → is_known name p.items ≡ false
      → operator_from k.version (length k.funcs) k.names w fs ≡ Some o → places_after p.items [] o.1 ≡ Some args → has_arguments o.0 (length args) ≡ true
      → s ≡ node_state n k p name o.0 args → Placed n k part s
  finished : (p : Part) (fs : List (List ℕ)) (rs : List ℕ) → part ≡ Some p → places_after p.items [] fs ≡ Some rs
      → within 1 (most_results k.version []) (length rs) ≡ true → s ≡ ended n k p rs → Placed n k part s

begin-placed : (n : ℕ) (k : Known) (f : List ℕ) (fs : List (List ℕ)) (s : State) → begin n k f fs ≡ Some s → Placed n k None s
begin-placed n k f [] s e = absurd cc
begin-placed n k f (name ∷ fs) s e =
    let a = where-some _ _ _ e in
    let b = where-some _ _ _ a.1 in
    let c = bind-some (params_of k.version fs) _ _ b.1 in
    let d = where-some _ _ _ c.2 in
    began name c.0 fs refl (not-true k.closed (and-second (bytes_eq f (codes "fn")) _ a.0)) b.0 (not-true (is_known name k.names) d.0) c.1
    (sym (some-is _ _ d.1))

node-placed : (n : ℕ) (k : Known) (p : Part) (f : List ℕ) (fs : List (List ℕ)) (s : State) → node n k p f fs ≡ Some s → Placed n k (Some p) s
node-placed n k p f [] s e = absurd cc
node-placed n k p f (eq ∷ []) s e = let a = where-some _ _ _ e in absurd (none a.1)
  where
    none : {A : Type 0} {x : A} → None ≡ Some x → ⊥
    none h = cc
node-placed n k p f (eq ∷ w ∷ fs) s e =
    let a = where-some _ _ _ e in
    let b = bind-some (operator_from k.version (length k.funcs) k.names w fs) _ _ a.1 in
    let c = bind-some (places_after p.items [] b.0.1) _ _ b.2 in
    let d = where-some _ _ _ c.2 in
    let g = where-some _ _ _ d.1 in
    noded p f w fs b.0 c.0 refl (and-second (bytes_eq eq (codes "=")) _ a.0) (not-true (is_known f p.items) g.0) b.1 c.1 d.0 (sym (some-is _ _ g.1))

finish-placed : (n : ℕ) (k : Known) (p : Part) (fs : List (List ℕ)) (s : State) → finish n k p fs ≡ Some s → Placed n k (Some p) s
finish-placed n k p fs s e =
    let a = bind-some (places_after p.items [] fs) _ _ e in
    let b = where-some _ _ _ a.2 in
    finished p fs a.0 refl a.1 b.0 (sym (some-is _ _ b.1))

pub placed : (n : ℕ) (k : Known) (part : Option Part) (f : List ℕ) (fs : List (List ℕ)) (s : State) → by_part n k part f fs ≡ Some s → Placed n k part s
placed n k None f fs s e = begin-placed n k f fs s e
placed n k (Some p) f fs s e = by (bytes_eq f (codes "end")) e
  where
    by : (b : Bool) → (if b then finish n k p fs else node n k p f fs) ≡ Some s → Placed n k (Some p) s
    by true h = finish-placed n k p fs s h
    by false h = node-placed n k p f fs s h

-- nothing, the version line, or a line of a function
pub data Stepped (n : ℕ) (s t : State) : Type 0 where
  silent : t ≡ s → Stepped n s t
  versioned : n ≤ 4096 → s.known.version ≡ 0 → t ≡ record { known = of_version 2 s.known; part = s.part } → Stepped n s t
  first : n ≤ 4096 → s.known.version ≡ 0 → Placed n (of_version 1 s.known) s.part t → Stepped n s t
  later : n ≤ 4096 → (s.known.version ≡ 0 → ⊥) → Placed n s.known s.part t → Stepped n s t

pub stepped : (n : ℕ) (s : State) (fs : List (List ℕ)) (t : State) → step n s fs ≡ Some t → Stepped n s t
stepped n s [] t e = silent (sym (some-is _ _ e))
stepped n s (f ∷ fs) t e =
    let a = where-some _ _ _ e in
    let low = leb-true n 4096 a.0 in
    by (s.known.version == 0) refl low a.1
  where
    versioned_or : (b : Bool) → n ≤ 4096 → s.known.version ≡ 0
        → (if b then Some (record { known = of_version 2 s.known; part = s.part }) else by_part n (of_version 1 s.known) s.part f fs) ≡ Some t → Stepped n s t
    versioned_or true low z h = versioned low z (sym (some-is _ _ h))
    versioned_or false low z h = first low z (placed n (of_version 1 s.known) s.part f fs t h)

    by : (b : Bool) → (s.known.version == 0) ≡ b → n ≤ 4096 → (if b then first_line n s f fs else by_part n s.known s.part f fs) ≡ Some t → Stepped n s t
    by true z low h = versioned_or (is_version_line f fs) low (eqb-true s.known.version 0 z) h
    by false z low h = later low (λ v. absurd (let x = eq-eqb s.known.version 0 v in cc)) (placed n s.known s.part f fs t h)
