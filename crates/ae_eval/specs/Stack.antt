-- Values of several types one after another, and what stands on a stack of words.
use Rattle.std.specs.Prelude.{◌≡◌, ℕ, zero, suc, ◌+◌, ◌<◌, ◌≤◌, List, [], ◌∷◌, ◌++◌, length, take, drop, map, Option, Some, None, IsTrue, slice_get, Bool, true, false, ◌==◌, Vec}
use Rattle.std.specs.declared.alloc.Global.{Global}
use Rattle.ae_word.specs.declared.op.WordOp.{WordOp}
use Rattle.ae_word.specs.AtomTree.{WordKind}
use Rattle.ae_seqtype.specs.SeqTree.{SeqTree, words, kinds}
use Rattle.ae_seqtype.specs.ValueTree.{ValueTree, FitKinds, Fit, Stands, value_of}
use Rattle.ae_word.specs.WordTable.{arity_of, folds}
use Rattle.ae_seq.specs.ProgramTree.{FuncTree, ProgramTree, OpTree, word, cast_int, pair, fst, snd, const, zip, call, each, each_two, reduce, scan, shift, up, select, partition, unpartition}
use Rattle.ae_seq.specs.Formed.{formed}
use Rattle.ae_seq.specs.Typing.{Signature, item_types, param_types, refused_line, signatures}
use Rattle.ae_seq.specs.Signatures.{result_in}
use Rattle.ae_seq.specs.Meaning.{Meaning, coded, item_values, meanings}

-- as many words as there are types, each those of a value of its type
abbrev pub AllFit : List SeqTree → List (List ℕ) → Type 0
AllFit [] [] = Unit {0}
AllFit (t ∷ ts) (ws ∷ wss) = Fit t ws × AllFit ts wss
AllFit _ _ = ⊥

-- the values of these types with these words
abbrev pub values_of : List SeqTree → List (List ℕ) → List ValueTree
values_of (t ∷ ts) (ws ∷ wss) = value_of t ws ∷ values_of ts wss
values_of _ _ = []

-- the kinds of the words of values of these types, one value after another, and how many there are
abbrev pub kinds_of : List SeqTree → List WordKind
kinds_of [] = []
kinds_of (t ∷ ts) = kinds t ++ kinds_of ts

abbrev pub words_of : List SeqTree → ℕ
words_of [] = 0
words_of (t ∷ ts) = words t + words_of ts

-- the values of these types whose words stand one after another
abbrev pub values_in : List SeqTree → List ℕ → List ValueTree
values_in [] ws = []
values_in (t ∷ ts) ws = value_of t (take (words t) ws) ∷ values_in ts (drop (words t) ws)

abbrev pub FitIn : List SeqTree → List ℕ → Type 0
FitIn ts ws = FitKinds ws (kinds_of ts)

-- the words of a type from a place on
abbrev pub window : SeqTree → ℕ → List ℕ → List ℕ
window t start stack = take (words t) (drop start stack)

pub record FitAt (t : SeqTree) (start : ℕ) (stack : List ℕ) : Type 0 where
  pub room : start + words t ≤ length stack
  pub fits : Fit t (window t start stack)

-- the words are those of this value of the type that there is
abbrev pub StandsFor : Option SeqTree → List ℕ → ValueTree → Type 0
StandsFor o ws v = (t : SeqTree) → o ≡ Some t → Stands t ws v

-- a value was put on top
pub record Pushed (o : Option SeqTree) (old new : List ℕ) (v : ValueTree) : Type 0 where
  pub kept : take (length old) new ≡ old
  pub stands : StandsFor o (drop (length old) new) v

-- an operator on the words of two values, each by its own kind
abbrev pub combined : WordOp → List WordKind → (us vs : List ℕ) → List ℕ
combined op (k ∷ ks) (a ∷ us) (b ∷ vs) = coded op k a b 0 ∷ combined op ks us vs
combined op _ _ _ = []

-- so many pieces of the one list, each before a piece of the other
abbrev pub paired : (n k l : ℕ) (us vs : List ℕ) → List ℕ
paired zero k l us vs = []
paired (suc n) k l us vs = (take k us ++ take l vs) ++ paired n k l (drop k us) (drop l vs)

-- ---- the types of a program's items

abbrev pub somes : List (Option SeqTree) → List SeqTree
somes [] = []
somes (None ∷ os) = somes os
somes (Some t ∷ os) = t ∷ somes os

abbrev pub types_for : List Signature → Option FuncTree → List SeqTree
types_for known None = []
types_for known (Some f) = somes (item_types known f)

abbrev pub types_in : ProgramTree → ℕ → List SeqTree
types_in p k = types_for (signatures (take k p.funcs)) (slice_get p.funcs k)

abbrev pub params_for : Option FuncTree → List SeqTree
params_for None = []
params_for (Some f) = param_types f

-- the types of the parameters of function number k
abbrev pub params_in : ProgramTree → ℕ → List SeqTree
params_in p k = params_for (slice_get p.funcs k)

pub record IsTyped (p : ProgramTree) : Type 0 where
  pub is_formed : IsTrue (formed p)
  pub accepted : refused_line p ≡ None

-- where the items of function number k begin, and where they end
abbrev pub starts_from : ℕ → List SeqTree → List ℕ
starts_from at [] = at ∷ []
starts_from at (t ∷ ts) = at ∷ starts_from (at + words t) ts

-- for each function where its items begin, and where they end
abbrev pub HaveStarts : ProgramTree → List (List ℕ) → Type 0
HaveStarts p starts = (k : ℕ) → k < length p.funcs → slice_get starts k ≡ Some (starts_from 0 (types_in p k))

abbrev pub starts_of : List (Vec ℕ Global) → List (List ℕ)
starts_of vs = map (λ (v : Vec ℕ Global). v.items) vs

-- the type of the first result of function number k
abbrev pub first_type : List SeqTree → Option FuncTree → Option SeqTree
first_type ts None = None
first_type ts (Some f) = result_in f ts

abbrev pub result_of : ProgramTree → ℕ → Option SeqTree
result_of p k = first_type (types_in p k) (slice_get p.funcs k)

abbrev pub values_for : List Meaning → Option FuncTree → List ValueTree → List ValueTree
values_for known None vs = []
values_for known (Some f) vs = item_values known f vs

-- the values of all items of function number k on these arguments
abbrev pub items_in : ProgramTree → ℕ → List ValueTree → List ValueTree
items_in p k vs = values_for (take k (meanings p.funcs)) (slice_get p.funcs k) vs

-- the values of all items of a function stand from base on, in place of its arguments
pub record Evaluated (p : ProgramTree) (k base : ℕ) (old new : List ℕ) : Type 0 where
  pub kept : take base new ≡ take base old
  pub fits : FitIn (types_in p k) (drop base new)
  pub values : values_in (types_in p k) (drop base new) ≡ items_in p k (values_in (params_in p k) (drop base old))

-- the operators of one argument, of two
abbrev pub takes_one : OpTree → Bool
takes_one (word op) = arity_of op == 1
takes_one (cast_int v) = true
takes_one pair = false
takes_one fst = true
takes_one snd = true
takes_one (const t ws) = false
takes_one zip = false
takes_one (call f) = false
takes_one (each f) = true
takes_one (each_two f) = false
takes_one (reduce op) = true
takes_one (scan op) = true
takes_one (shift k) = true
takes_one (up n) = true
takes_one (select k) = true
takes_one (partition n m) = true
takes_one unpartition = true

abbrev pub takes_two : OpTree → Bool
takes_two (word op) = arity_of op == 2
takes_two (cast_int v) = false
takes_two pair = true
takes_two fst = false
takes_two snd = false
takes_two (const t ws) = false
takes_two zip = true
takes_two (call f) = false
takes_two (each f) = false
takes_two (each_two f) = true
takes_two (reduce op) = false
takes_two (scan op) = false
takes_two (shift k) = false
takes_two (up n) = false
takes_two (select k) = false
takes_two (partition n m) = false
takes_two unpartition = false

-- elements are folded by an operator that folds
abbrev pub AreFolds : OpTree → Type 0
AreFolds (word op) = Unit {0}
AreFolds (cast_int v) = Unit {0}
AreFolds pair = Unit {0}
AreFolds fst = Unit {0}
AreFolds snd = Unit {0}
AreFolds (const t ws) = Unit {0}
AreFolds zip = Unit {0}
AreFolds (call f) = Unit {0}
AreFolds (each f) = Unit {0}
AreFolds (each_two f) = Unit {0}
AreFolds (reduce op) = IsTrue (folds op)
AreFolds (scan op) = IsTrue (folds op)
AreFolds (shift k) = Unit {0}
AreFolds (up n) = Unit {0}
AreFolds (select k) = Unit {0}
AreFolds (partition n m) = Unit {0}
AreFolds unpartition = Unit {0}
