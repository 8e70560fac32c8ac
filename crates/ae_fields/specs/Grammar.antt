-- What the lines of a program text say, one after the other, by the names in scope.
use Rattle.std.specs.Prelude.{◌≡◌, ℕ, ◌+◌, Bool, false, not, ◌&&◌, ◌==◌, nat_le, nat_lt, if◌then◌else◌, List, [], ◌∷◌, ◌++◌, length, Option, Some, None, codes}
use Rattle.std.specs.Str.{bytes_eq}
use Rattle.ae_seq.specs.ProgramTree.{OpTree, ParamTree, NodeTree, FuncTree, ProgramTree}
use Rattle.ae_seq.specs.Formed.{has_arguments, is_name, within, most_results}
use Rattle.ae_fields.specs.Cut.{lines, pieces, said, fields}
use Rattle.ae_fields.specs.Cleaned.{all_printed}
use Rattle.ae_seq.specs.Typing.{where_ok, ◌>>=◌}
use Rattle.ae_fields.specs.Parts.{is_mark}
use Rattle.ae_fields.specs.Scopes.{place, is_known}
use Rattle.ae_fields.specs.TypeForm.{type_of}
use Rattle.ae_fields.specs.Words.{operator_from}

-- ---- what is known between two lines

-- what came before a function: the version (0 before the first line that says something), whether a function with several
-- results has ended, the functions, and their names with that of a function that is not at its end
pub record Known : Type 0 where
  pub version : ℕ
  pub closed : Bool
  pub funcs : List FuncTree
  pub names : List (List ℕ)

-- a function that is not at its end, and the names of its items
pub record Part : Type 0 where
  pub name : List ℕ
  pub params : List ParamTree
  pub nodes : List NodeTree
  pub items : List (List ℕ)
  pub line : ℕ

pub record State : Type 0 where
  pub known : Known
  pub part : Option Part

-- ---- function lines

-- two pieces, if there are no more and no less
abbrev pub two_of : List (List ℕ) → Option (List ℕ × List ℕ)
two_of (a ∷ b ∷ []) = Some (a, b)
two_of _ = None

-- a parameter from its name and its type
abbrev pub param_of : (version : ℕ) → List ℕ × List ℕ → Option ParamTree
param_of version q = where_ok (is_name q.0) (type_of version q.1 >>= λ t. Some (record { name = q.0; type = t }))

-- a parameter NAME:TYPE, cut at its only colon
abbrev pub param_from : (version : ℕ) → List ℕ → Option ParamTree
param_from version f = two_of (pieces 58 f) >>= param_of version

-- parameters and their names
pub record Head : Type 0 where
  pub params : List ParamTree
  pub items : List (List ℕ)

abbrev pub no_params : Head
no_params = record { params = []; items = [] }

-- one more parameter, if its name is a new one
abbrev pub with_param : Head → ParamTree → Option Head
with_param h p =
    where_ok (not (is_known p.name h.items))
    (Some (record { params = h.params ++ p ∷ []; items = h.items ++ p.name ∷ [] }))

-- the parameters after some others
abbrev pub params_after : (version : ℕ) → Head → List (List ℕ) → Option Head
params_after version h [] = Some h
params_after version h (f ∷ fs) = param_from version f >>= λ p. with_param h p >>= λ g. params_after version g fs

-- 1 to 8 parameters
abbrev pub few_params : Head → Option Head
few_params h = where_ok (within 1 8 (length h.params)) (Some h)

abbrev pub params_of : (version : ℕ) → List (List ℕ) → Option Head
params_of version fs = params_after version no_params fs >>= few_params

-- line n opens a function with a new name
abbrev pub begun : (n : ℕ) → Known → List ℕ → Head → Option State
begun n k name h = where_ok (not (is_known name k.names)) (Some (record {
  known = record { version = k.version; closed = k.closed; funcs = k.funcs; names = k.names ++ name ∷ [] };
  part = Some (record { name = name; params = h.params; nodes = []; items = h.items; line = n });
}))

abbrev pub begin_named : (n : ℕ) → Known → List ℕ → List (List ℕ) → Option State
begin_named n k name fs = where_ok (is_name name) (params_of k.version fs >>= begun n k name)

-- a line outside a function: `fn NAME` and parameters
abbrev pub begin : (n : ℕ) → Known → List ℕ → List (List ℕ) → Option State
begin n k f [] = None
begin n k f (name ∷ fs) = where_ok (bytes_eq f (codes "fn") && not k.closed) (begin_named n k name fs)

-- ---- node lines

-- the items with these names, after some others
abbrev pub places_after : List (List ℕ) → List ℕ → List (List ℕ) → Option (List ℕ)
places_after items ks [] = Some ks
places_after items ks (f ∷ fs) = place f items >>= λ k. places_after items (ks ++ k ∷ []) fs

-- one more node, if its name is a new one
abbrev pub with_node : (n : ℕ) → Known → Part → List ℕ → OpTree → List ℕ → Option State
with_node n k p name op args = where_ok (not (is_known name p.items)) (Some (record {
  known = k;
  part = Some (record {
    name = p.name;
    params = p.params;
    nodes = p.nodes
        ++ record { name = name; op = op; args = args; line = n } ∷ [];
    items = p.items ++ name ∷ [];
    line = p.line;
  });
}))

-- as many arguments as the operator's line form has
abbrev pub node_on : (n : ℕ) → Known → Part → List ℕ → OpTree → List ℕ → Option State
node_on n k p name op args = where_ok (has_arguments op (length args)) (with_node n k p name op args)

-- the arguments are in scope
abbrev pub node_with : (n : ℕ) → Known → Part → List ℕ → OpTree × List (List ℕ) → Option State
node_with n k p name o = places_after p.items [] o.1 >>= node_on n k p name o.0

abbrev pub node_named : (n : ℕ) → Known → Part → List ℕ → List (List ℕ) → Option State
node_named n k p name [] = None
node_named n k p name (w ∷ fs) = operator_from k.version (length k.funcs) k.names w fs >>= node_with n k p name

-- line n is a node: `NAME = OP ARGS`
abbrev pub node : (n : ℕ) → Known → Part → List ℕ → List (List ℕ) → Option State
node n k p name [] = None
node n k p name (e ∷ fs) = where_ok (bytes_eq e (codes "=") && is_name name) (node_named n k p name fs)

-- ---- end lines

abbrev pub ended : (n : ℕ) → Known → Part → List ℕ → State
ended n k p results = record {
  known = record {
    version = k.version;
    closed = nat_lt 1 (length results);
    funcs = k.funcs ++ record {
      name = p.name;
      params = p.params;
      nodes = p.nodes;
      results = results;
      line = p.line;
      end_line = n;
    } ∷ [];
    names = k.names;
  };
  part = None;
}

-- one result, in version 2 up to 8 of them
abbrev pub ended_with : (n : ℕ) → Known → Part → List ℕ → Option State
ended_with n k p results = where_ok (within 1 (most_results k.version []) (length results)) (Some (ended n k p results))

-- line n is an end line: the field `end` and names of items
abbrev pub finish : (n : ℕ) → Known → Part → List (List ℕ) → Option State
finish n k p fs = places_after p.items [] fs >>= ended_with n k p

-- ---- lines

abbrev pub inside : (n : ℕ) → Known → Part → List ℕ → List (List ℕ) → Option State
inside n k p f fs = if bytes_eq f (codes "end") then finish n k p fs else node n k p f fs

abbrev pub by_part : (n : ℕ) → Known → Option Part → List ℕ → List (List ℕ) → Option State
by_part n k None f fs = begin n k f fs
by_part n k (Some p) f fs = inside n k p f fs

abbrev pub is_version_line : List ℕ → List (List ℕ) → Bool
is_version_line f (g ∷ []) = bytes_eq f (codes "aeth") && bytes_eq g (codes "2")
is_version_line f _ = false

abbrev pub of_version : (version : ℕ) → Known → Known
of_version version k = record { version = version; closed = k.closed; funcs = k.funcs; names = k.names }

-- the first line that says something: the version line, or a line of version 1
abbrev pub first_line : (n : ℕ) → State → List ℕ → List (List ℕ) → Option State
first_line n s f fs =
    if is_version_line f fs then Some (record { known = of_version 2 s.known; part = s.part })
    else by_part n (of_version 1 s.known) s.part f fs

-- after line n with these fields; a line after line 4,096 that says something is refused
abbrev pub step : (n : ℕ) → State → List (List ℕ) → Option State
step n s [] = Some s
step n s (f ∷ fs) =
    where_ok (nat_le n 4096) (if s.known.version == 0 then first_line n s f fs else by_part n s.known s.part f fs)

-- after a line that says so
abbrev pub after_line : (n : ℕ) → State → List ℕ → Option State
after_line n s l = where_ok (all_printed l) (step n s (fields l))

-- ---- texts

-- a program, or the line that is refused
pub data Reading : Type 0 where
  program : ProgramTree → Reading
  refused : ℕ → Reading

-- at the end of the program part, which line n follows
abbrev pub whole : (n version : ℕ) → List FuncTree → Option Part → Reading
whole n version [] p = refused n
whole n version (f ∷ fs) None = program (record { version = version; funcs = f ∷ fs })
whole n version (f ∷ fs) (Some p) = refused n

abbrev pub at_end : (n : ℕ) → State → Reading
at_end n s = whole n s.known.version s.known.funcs s.part

-- line n is refused, or what comes later decides
abbrev pub by_state : (n : ℕ) → Option State → (State → Reading) → Reading
by_state n None later = refused n
by_state n (Some s) later = later s

-- the lines from number n on, as far as the first `%%` line: refused at the first that is not fine
abbrev pub reading_from : List (List ℕ) → (n : ℕ) → State → Reading
reading_from [] n s = at_end n s
reading_from (l ∷ ls) n s =
    if is_mark (fields (said l)) then at_end n s else by_state n (after_line n s (said l)) (reading_from ls (n + 1))

abbrev pub start : State
start = record { known = record { version = 0; closed = false; funcs = []; names = [] }; part = None }

abbrev pub reading : List ℕ → Reading
reading text = reading_from (lines text) 1 start

-- the text is this program
abbrev pub IsProgramText : List ℕ → ProgramTree → Type 0
IsProgramText text p = reading text ≡ program p

-- the line that a reading refuses
abbrev pub line_refused : Reading → Option ℕ
line_refused (program p) = None
line_refused (refused n) = Some n

-- the first line that is refused
abbrev pub bad_line : List ℕ → Option ℕ
bad_line text = line_refused (reading text)
