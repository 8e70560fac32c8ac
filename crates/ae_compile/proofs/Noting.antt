-- The names in what is told of a program's lines can be written.
use Rattle.std.proofs.Common.{◌≡◌, ℕ, zero, suc, ◌+◌, ◌-◌, Bool, true, false, if◌then◌else◌, List, [], ◌∷◌, ◌++◌, length, map, Result, Ok, Err, IfOk, IsTrue, Some, slice_get, refl, sym, ◌∙◌, subst, arith}
use Rattle.std.specs.List.{list_all}
use Rattle.std.specs.Prelude.{unwrap_or, Vec}
use Rattle.std.proofs.lemmas.Bool.{and_parts, and_from}
use Rattle.std.proofs.lemmas.Bool.Decides.{nat_tests}
use Rattle.std.proofs.lemmas.Option.{none-some, same_Some}
use Rattle.ae_seq.specs.ProgramTree.{FuncTree, NodeTree, ProgramTree}
use Rattle.ae_seq.specs.Formed.{all_name_bytes, all_names, is_name, is_name_byte, named_items, node_names, param_names}
use Rattle.ae_sttype.specs.StTree.{StTree}
use Rattle.ae_rewrite.specs.StProgramTree.{StFuncTree}
use Rattle.ae_rewrite.specs.Sound.{item_layout, item_layouts}
use Rattle.ae_rewrite.specs.Interface.{main_of}
use Rattle.ae_verilog.specs.declared.notes.Note.{Note}
use Rattle.ae_verilog.specs.Notes.{NoteTree, ArePrinted, is_printed, note_tree}
use Rattle.ae_trace.specs.Traces.{is_movement}
use Rattle.ae_compile.specs.LineNotes.{AllNamed, item_note, node_note, node_notes, result_notes, told_notes}
use Rattle.ae_compile.proofs.Mains.{name_plain}
use Rattle.ae_rewrite.proofs.Forms.{both-left as both_left, both-right as both_right}

byte_printed : (b : ℕ) → is_name_byte b ≡ true → is_printed b ≡ true
byte_printed b h = grind (arith, nat_tests)

name_printed : (name : List ℕ) → all_name_bytes name ≡ true → list_all is_printed name ≡ true
name_printed [] h = refl
name_printed (b ∷ bs) h = let parts = and_parts _ (all_name_bytes bs) h in and_from _ _ (byte_printed b parts.0) (name_printed bs parts.1)

all_printed : (layouts : List StTree) (i : ℕ) (ns : List NodeTree) (ms : List ℕ) → AllNamed ns → ArePrinted (node_notes layouts i ns ms)
all_printed layouts i [] ms named k n e = absurd (none-some n e)
all_printed layouts i (x ∷ xs) [] named k n e = absurd (none-some n e)
all_printed layouts i (x ∷ xs) (m ∷ ms) named zero n e =
    subst (λ (y : NoteTree). IsTrue (list_all is_printed y.name)) (same_Some (node_note m x (item_layout layouts i)) n e) (name_printed x.name named.0)
all_printed layouts i (x ∷ xs) (m ∷ ms) named (suc k) n e = all_printed layouts (i + 1) xs ms named.1 k n e

pub notes_printed : {A E : Type 0} (r : Result (Vec Note A) E) (layouts : List StTree) (i : ℕ) (ns : List NodeTree) (ms : List ℕ) → AllNamed ns
    → IfOk r (λ v. map note_tree v.items ≡ node_notes layouts i ns ms) → IfOk r (λ v. ArePrinted (map note_tree v.items))
notes_printed (Ok v) layouts i ns ms named is = subst ArePrinted (sym is) (all_printed layouts i ns ms named)
notes_printed (Err e) layouts i ns ms named is = tt

-- the names of parameters and of nodes
items_printed : (ps ns : List (List ℕ)) → IsTrue (all_names ps) → IsTrue (all_names ns) → (i : ℕ)
    → list_all is_printed (unwrap_or (slice_get (ps ++ ns) i) []) ≡ true
items_printed [] [] h g i = refl
items_printed [] (n ∷ ns) h g zero = name_printed n (name_plain n (both_left (is_name n) (all_names ns) g))
items_printed [] (n ∷ ns) h g (suc i) = items_printed [] ns h (both_right (is_name n) (all_names ns) g) i
items_printed (p ∷ ps) ns h g zero = name_printed p (name_plain p (both_left (is_name p) (all_names ps) h))
items_printed (p ∷ ps) ns h g (suc i) = items_printed ps ns (both_right (is_name p) (all_names ps) h) g i

results_printed : (layouts : List StTree) (f : FuncTree) (is ms : List ℕ) → IsTrue (named_items f) → ArePrinted (result_notes layouts f is ms)
results_printed layouts f [] ms named k n e = absurd (none-some n e)
results_printed layouts f (i ∷ is) [] named k n e = absurd (none-some n e)
results_printed layouts f (i ∷ is) (m ∷ ms) named zero n e =
    let ps : IsTrue (all_names (param_names f.params)) = grind (arith, nat_tests) in
    let ns : IsTrue (all_names (node_names f.nodes)) = grind (arith, nat_tests) in
    subst (λ (y : NoteTree). IsTrue (list_all is_printed y.name)) (same_Some (item_note f i m (item_layout layouts i)) n e)
    (items_printed (param_names f.params) (node_names f.nodes) ps ns i)
results_printed layouts f (i ∷ is) (m ∷ ms) named (suc k) n e = results_printed layouts f is ms named k n e

pub moves_printed : {A E : Type 0} (r : Result (Vec Note A) E) (layouts : List StTree) (f : FuncTree) (ms : List ℕ) → IsTrue (named_items f)
    → IfOk r (λ v. map note_tree v.items ≡ result_notes layouts f f.results ms) → IfOk r (λ v. ArePrinted (map note_tree v.items))
moves_printed (Ok v) layouts f ms named is = subst ArePrinted (sym is) (results_printed layouts f f.results ms named)
moves_printed (Err e) layouts f ms named is = tt

-- the notes of the program function's instance, by the kind of the program
told_same : {A E : Type 0} (b : Bool) (r : Result (Vec Note A) E) (p : ProgramTree) (instances : List StFuncTree) (f : FuncTree) (s : StFuncTree)
    (marks : List ℕ) → is_movement p ≡ b
    → slice_get p.funcs (main_of p) ≡ Some f → slice_get instances (length instances - 1) ≡ Some s
    → IfOk r (λ v. map note_tree v.items ≡ (if b then result_notes (item_layouts s) f f.results marks else node_notes (item_layouts s)
    (length f.params) f.nodes marks))
    → IfOk r (λ v. (t : StFuncTree) (g : FuncTree) → slice_get instances (length instances - 1) ≡ Some t → slice_get p.funcs (main_of p) ≡ Some g
    → map note_tree v.items ≡ told_notes p g (item_layouts t) marks)
told_same b (Ok v) p instances f s marks kind main last is = λ t g there here.
    (let e : s ≡ t = same_Some s t (sym last ∙ there) in
    let h : f ≡ g = same_Some f g (sym main ∙ here) in
    is ∙ (λ i. if sym kind i then result_notes (item_layouts (e i)) (h i) (h i).results marks else node_notes (item_layouts (e i)) (length (h i).params)
    (h i).nodes marks))
told_same b (Err e) p instances f s marks kind main last is = tt

pub nodes_told : {A E : Type 0} (r : Result (Vec Note A) E) (p : ProgramTree) (instances : List StFuncTree) (f : FuncTree) (s : StFuncTree) (marks : List ℕ)
    → is_movement p ≡ false
    → slice_get p.funcs (main_of p) ≡ Some f → slice_get instances (length instances - 1) ≡ Some s
    → IfOk r (λ v. map note_tree v.items ≡ node_notes (item_layouts s) (length f.params) f.nodes marks)
    → IfOk r (λ v. (t : StFuncTree) (g : FuncTree) → slice_get instances (length instances - 1) ≡ Some t → slice_get p.funcs (main_of p) ≡ Some g
    → map note_tree v.items ≡ told_notes p g (item_layouts t) marks)
nodes_told r p instances f s marks kind main last is = told_same false r p instances f s marks kind main last is

pub results_told : {A E : Type 0} (r : Result (Vec Note A) E) (p : ProgramTree) (instances : List StFuncTree) (f : FuncTree) (s : StFuncTree) (marks : List ℕ)
    → is_movement p ≡ true
    → slice_get p.funcs (main_of p) ≡ Some f → slice_get instances (length instances - 1) ≡ Some s
    → IfOk r (λ v. map note_tree v.items ≡ result_notes (item_layouts s) f f.results marks)
    → IfOk r (λ v. (t : StFuncTree) (g : FuncTree) → slice_get instances (length instances - 1) ≡ Some t → slice_get p.funcs (main_of p) ≡ Some g
    → map note_tree v.items ≡ told_notes p g (item_layouts t) marks)
results_told r p instances f s marks kind main last is = told_same true r p instances f s marks kind main last is
