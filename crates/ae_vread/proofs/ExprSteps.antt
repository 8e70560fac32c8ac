-- What reading an expression gives where its parts are read.
use Rattle.std.proofs.Common.{rules, ◌≡◌, ℕ, zero, suc, ◌+◌, ◌-◌, ◌<◌, ◌≤◌, List, [], ◌∷◌, ◌++◌, Bool, true, Option, Some, None, Result, Ok, Err, ap, ◌∙◌, sym, refl, subst, arith, length, map, max, drop}
use Rattle.std.specs.Prelude.{slice_get, nat_le}
use Rattle.std.proofs.lemmas.Bool.{cond-true}
use Rattle.std.proofs.lemmas.List.{map-append}
use Rattle.ae_vtoken.specs.Tokens.{TokenTree, Sized, Mark}
use Rattle.ae_vtoken.specs.declared.token.Sign.TheVariants.{Bang, Tilde, Open, Close, CloseBracket, CloseBrace, Colon, Comma, Question}
use Rattle.ae_vmodule.specs.ModuleTree.{ExprTree, concat_more, index, part, place, constant}
use Rattle.ae_vmodule.specs.Numbered as n
use Rattle.ae_vmodule.specs.Numbered.{NumberedExpr, Piece}
use Rattle.ae_vmodule.specs.declared.module.BinOp.{BinOp}
use Rattle.ae_vmodule.specs.declared.module.UnOp.TheVariants.{Not, Flip}
use Rattle.ae_vread.specs.declared.reading.ReadFault.{ReadFault}
use Rattle.ae_vread.specs.declared.reading.ReadFault.TheVariants.{Syntax, Memory}
use Rattle.ae_vread.specs.declared.reading.Reader as code
use Rattle.ae_vread.specs.ExprForms.{strength}
use Rattle.ae_vmodule.specs.Words.{Extends}
use Rattle.ae_vread.specs.TokenTests.{◌>>=◌, after_mark, first_number}
use Rattle.ae_vread.specs.Reading.{Found, found, Reader, Parts, parts_of, parts, part_then, by_comma, braces, braced, concat_of, concat_behind, deeper, closed, indexed, placed, selected, operand, prefixed, unary_at, infix_at, joined, after_operator, operators, chosen, by_question, chosen_of, joined_at, expression}
use Rattle.ae_vread.specs.Read.{Fails}
use Rattle.ae_vread.specs.ReadExpr.{Means, Reads}
use Rattle.ae_vmodule.specs.View.{expr_tree}
use Rattle.ae_vread.specs.Parts.{MeanAll, concat_parts}
use Rattle.ae_vread.proofs.Meanings.{deep_then, then_is, extends_by}
use Rattle.ae_vread.proofs.TokenFronts.{mark_was}

-- what is read on the way is what is read in the end
pub reads_from : (below : List Piece) (w0 w1 : List (List ℕ)) (r : code.Reader) (res : Result ℕ ReadFault) (o o' : Option Found) → o ≡ o' → Extends w0 w1
    → Reads below w1 r res o' → Reads below w0 r res o
reads_from below w0 w1 r (Ok d) o o' e ext h = (h.0, e ∙ h.1, h.2, extends_by w0 w1 r.words ext h.3)
reads_from below w0 w1 r (Err Syntax) o o' e ext h = e ∙ h
reads_from below w0 w1 r (Err Memory) o o' e ext h = tt

pub reads_under : (b b' : List Piece) (w : List (List ℕ)) (r : code.Reader) (res : Result ℕ ReadFault) (o : Option Found) → b ≡ b' → Reads b w r res o
    → Reads b' w r res o
reads_under b b' w r res o same h = subst (λ b. Reads b w r res o) same h

pub means_later : (w0 w1 : List (List ℕ)) (t : NumberedExpr) (e : ExprTree) → Extends w0 w1 → Means w0 t e → Means w1 t e
means_later w0 w1 t e ext h ws g = h ws (extends_by w0 w1 ws ext g)

pub closed_is : (x : Found) (ts : List TokenTree) (d e : ℕ) → after_mark Close x.rest ≡ Some ts → d ≡ x.depth → deeper d ≡ Some e
    → closed x ≡ Some (found x.tree e ts)
closed_is x ts d e mark same deep =
    then_is (λ us. deeper x.depth >>= λ k. Some (found x.tree k us)) _ ts mark ∙ deep_then (λ k. Some (found x.tree k ts)) d x.depth e same deep

pub indexed_is : (n : List ℕ) (x : Found) (ts : List TokenTree) (d e : ℕ) → after_mark CloseBracket x.rest ≡ Some ts → d ≡ x.depth → deeper d ≡ Some e
    → indexed n x ≡ Some (found (index n x.tree) e ts)
indexed_is n x ts d e mark same deep =
    then_is (λ us. deeper x.depth >>= λ k. Some (found (index n x.tree) k us)) _ ts mark
    ∙ deep_then (λ k. Some (found (index n x.tree) k ts)) d x.depth e same deep

pub part_is : (n : List ℕ) (k l : ℕ) (ts us vs ws : List TokenTree) → after_mark Colon ts ≡ Some us → first_number us ≡ Some (l, vs)
    → after_mark CloseBracket vs ≡ Some ws → placed n k ts (after_mark Colon ts) ≡ Some (found (part n k l) 2 ws)
part_is n k l ts us vs ws colon number mark =
    ap (placed n k ts) colon ∙ then_is (λ p. after_mark CloseBracket p.1 >>= λ rest. Some (found (part n k p.0) 2 rest)) _ (l, vs) number
    ∙ then_is (λ rest. Some (found (part n k l) 2 rest)) _ ws mark

pub place_is : (n : List ℕ) (k : ℕ) (ts us : List TokenTree) → after_mark Colon ts ≡ None → after_mark CloseBracket ts ≡ Some us
    → placed n k ts (after_mark Colon ts) ≡ Some (found (index n (place k)) 2 us)
place_is n k ts us colon mark = ap (placed n k ts) colon ∙ then_is (λ rest. Some (found (index n (place k)) 2 rest)) _ us mark

pub selected_is : (read : Reader) (n : List ℕ) (ts : List TokenTree) (x : Found) → first_number ts ≡ None → read 1 ts ≡ Some x
    → selected read n ts (first_number ts) ≡ indexed n x
selected_is read n ts x none here = ap (selected read n ts) none ∙ then_is (indexed n) _ x here

pub constant_is : (read : Reader) (ts : List TokenTree) (size value : ℕ) (fits : Bool) → slice_get ts 0 ≡ Some (Sized size value fits)
    → operand read ts ≡ Some (found (constant size value fits) 1 (drop 1 ts))
constant_is read [] size value fits first = absurd (let e : None ≡ Some (Sized size value fits) = first in cc)
constant_is read (t ∷ ts) size value fits first =
    let e : t ≡ Sized size value fits = (let f : Some t ≡ Some (Sized size value fits) = first in cc) in ap (λ t. operand read (t ∷ ts)) e

pub paren_is : (read : Reader) (ts : List TokenTree) (x : Found) → slice_get ts 0 ≡ Some (Mark Open) → read 1 (drop 1 ts) ≡ Some x
    → operand read ts ≡ closed x
paren_is read [] x first here = absurd (let e : None ≡ Some (Mark Open) = first in cc)
paren_is read (t ∷ ts) x first here =
    let e : t ≡ Mark Open = (let f : Some t ≡ Some (Mark Open) = first in cc) in
    ap (λ t. operand read (t ∷ ts)) e ∙ then_is closed _ x here

pub not_is : (read : Reader) (ts us : List TokenTree) (x : Found) → after_mark Bang ts ≡ Some us → operand read us ≡ Some x
    → unary_at read ts ≡ prefixed Not x
not_is read ts us x mark here = ap (unary_at read) (mark_was Bang ts us mark) ∙ then_is (prefixed Not) _ x here

pub flip_is : (read : Reader) (ts us : List TokenTree) (x : Found) → after_mark Tilde ts ≡ Some us → operand read us ≡ Some x
    → unary_at read ts ≡ prefixed Flip x
flip_is read ts us x mark here = ap (unary_at read) (mark_was Tilde ts us mark) ∙ then_is (prefixed Flip) _ x here

pub chosen_is : (read : Reader) (least : ℕ) (x y z : Found) (us vs : List TokenTree) → nat_le least 1 ≡ true → after_mark Question x.rest ≡ Some us
    → read 1 us ≡ Some y → after_mark Colon y.rest ≡ Some vs → read 1 vs ≡ Some z → chosen read least x ≡ chosen_of x y z
chosen_is read least x y z us vs weak question first colon second =
    cond-true _ _ _ weak ∙ ap (by_question read x) question ∙ then_is (λ a. after_mark Colon a.rest >>= λ ws. read 1 ws >>= chosen_of x a) _ y first
    ∙ then_is (λ ws. read 1 ws >>= chosen_of x y) _ vs colon ∙ then_is (chosen_of x y) _ z second

pub expression_is : (d least : ℕ) (ts : List TokenTree) (x : Found) → (d ≡ 0 → ⊥) → joined_at (expression (d - 1)) least ts ≡ Some x
    → expression d least ts ≡ chosen (expression (d - 1)) least x
expression_is zero least ts x some here = absurd (some refl)
expression_is (suc d) least ts x some here =
    let less : suc d - 1 ≡ d = omega arith in
    then_is (chosen (expression d) least) _ x (subst (λ d. joined_at (expression d) least ts ≡ Some x) less here)
    ∙ ap (λ d. chosen (expression d) least x) (sym less)

-- an operator is in front: its right side is read, and the loop goes on
one_turn : (read : Reader) (n least : ℕ) (x : Found) (op : BinOp) (ts : List TokenTree) → n < 256 → infix_at least x.rest ≡ Some (op, ts)
    → operators read (256 - n) least x ≡ (read (strength op + 1) ts >>= joined op x >>= operators read (256 - (n + 1)) least)
one_turn read n least x op ts below here =
    ap (λ k. operators read k least x) (let e : 256 - n ≡ suc (256 - (n + 1)) = omega arith in e)
    ∙ ap (after_operator read (operators read (256 - (n + 1)) least) x) here

pub next_turn : (e : Option Found) (read : Reader) (n least : ℕ) (x y z : Found) (op : BinOp) (s : ℕ) (ts : List TokenTree) → n < 256 → s ≡ strength op + 1
    → e ≡ operators read (256 - n) least x → infix_at least x.rest ≡ Some (op, ts) → read s ts ≡ Some y → joined op x y ≡ Some z
    → e ≡ operators read (256 - (n + 1)) least z
next_turn e read n least x y z op s ts below is so_far here right both =
    so_far ∙ one_turn read n least x op ts below here
    ∙ ap (λ o. o >>= joined op x >>= operators read (256 - (n + 1)) least) (ap (λ s. read s ts) (sym is) ∙ right)
    ∙ ap (λ o. o >>= operators read (256 - (n + 1)) least) both

pub failed_turn : (fault : ReadFault) (e : Option Found) (read : Reader) (n least : ℕ) (x : Found) (op : BinOp) (s : ℕ) (ts : List TokenTree) → n < 256
    → s ≡ strength op + 1 → e ≡ operators read (256 - n) least x → infix_at least x.rest ≡ Some (op, ts) → Fails fault (read s ts) → Fails fault e
failed_turn Syntax e read n least x op s ts below is so_far here right =
    so_far ∙ one_turn read n least x op ts below here
    ∙ ap (λ o. o >>= joined op x >>= operators read (256 - (n + 1)) least) (ap (λ s. read s ts) (sym is) ∙ right)
failed_turn Memory e read n least x op s ts below is so_far here right = tt

pub failed_join : (fault : ReadFault) (e : Option Found) (read : Reader) (n least : ℕ) (x y : Found) (op : BinOp) (s : ℕ) (ts : List TokenTree) → n < 256
    → s ≡ strength op + 1 → e ≡ operators read (256 - n) least x → infix_at least x.rest ≡ Some (op, ts) → read s ts ≡ Some y → Fails fault (joined op x y)
    → Fails fault e
failed_join Syntax e read n least x y op s ts below is so_far here right both =
    so_far ∙ one_turn read n least x op ts below here
    ∙ ap (λ o. o >>= joined op x >>= operators read (256 - (n + 1)) least) (ap (λ s. read s ts) (sym is) ∙ right)
    ∙ ap (λ o. o >>= operators read (256 - (n + 1)) least) both
failed_join Memory e read n least x y op s ts below is so_far here right both = tt

pub last_turn : (e : Option Found) (read : Reader) (n least : ℕ) (x : Found) → 256 ≤ n → e ≡ operators read (256 - n) least x → e ≡ None
last_turn e read n least x past so_far = so_far ∙ ap (λ k. operators read k least x) (let e : 256 - n ≡ 0 = omega arith in e)

-- the parts with one more
abbrev pub with : Parts → Found → List TokenTree → Parts
with p x ts = parts_of (p.trees ++ x.tree ∷ []) (max p.depth x.depth) ts

parts_turn : (read : Reader) (m n : ℕ) (p : Parts) → n < m → parts read (m - n) p ≡ part_then read (parts read (m - (n + 1))) p
parts_turn read m n p below = ap (λ k. parts read k p) (let e : m - n ≡ suc (m - (n + 1)) = omega arith in e)

pub next_part : (e : Option Parts) (read : Reader) (m n : ℕ) (p : Parts) (x : Found) (ts : List TokenTree) → n < m → e ≡ parts read (m - n) p
    → read 1 p.rest ≡ Some x → after_mark Comma x.rest ≡ Some ts → e ≡ parts read (m - (n + 1)) (with p x ts)
next_part e read m n p x ts below so_far here comma =
    let go_on = parts read (m - (n + 1)) in
    so_far ∙ parts_turn read m n p below ∙ then_is (λ y. by_comma go_on (with p y y.rest) (after_mark Comma y.rest)) _ x here
    ∙ ap (by_comma go_on (with p x x.rest)) comma

pub last_part : (e : Option Parts) (read : Reader) (m n : ℕ) (p : Parts) (x : Found) (ts : List TokenTree) → n < m → e ≡ parts read (m - n) p
    → read 1 p.rest ≡ Some x → after_mark Comma x.rest ≡ None → after_mark CloseBrace x.rest ≡ Some ts → e ≡ Some (with p x ts)
last_part e read m n p x ts below so_far here comma brace =
    let go_on = parts read (m - (n + 1)) in
    so_far ∙ parts_turn read m n p below ∙ then_is (λ y. by_comma go_on (with p y y.rest) (after_mark Comma y.rest)) _ x here
    ∙ ap (by_comma go_on (with p x x.rest)) comma ∙ then_is (λ us. Some (with p x us)) _ ts brace

pub braces_are : (read : Reader) (ts : List TokenTree) (p : Parts) (d e : ℕ) → parts read (length ts) (parts_of [] 0 ts) ≡ Some p → d ≡ p.depth
    → deeper d ≡ Some e → braces read ts ≡ Some (found (concat_of p.trees) e p.rest)
braces_are read ts p d e are same deep = then_is braced _ p are ∙ deep_then (λ k. Some (found (concat_of p.trees) k p.rest)) d p.depth e same deep

pub braces_fail : (fault : ReadFault) (read : Reader) (ts : List TokenTree) (p : Parts) (d : ℕ) → parts read (length ts) (parts_of [] 0 ts) ≡ Some p
    → d ≡ p.depth → Fails fault (deeper d) → Fails fault (braces read ts)
braces_fail Syntax read ts p d are same deep =
    then_is braced _ p are ∙ ap (λ n. deeper n >>= λ k. Some (found (concat_of p.trees) k p.rest)) (sym same)
    ∙ ap (λ o. o >>= λ k. Some (found (concat_of p.trees) k p.rest)) deep
braces_fail Memory read ts p d are same deep = tt

-- the concatenation of parts has the concatenation of their trees
concat_from : (ws : List (List ℕ)) (p : NumberedExpr) (ps : List NumberedExpr)
    → expr_tree ws (concat_parts (p ∷ ps)) ≡ concat_behind (expr_tree ws p) (map (expr_tree ws) ps)
concat_from ws p [] = refl
concat_from ws p (q ∷ ps) = ap (λ t. concat_more (expr_tree ws p) t) (concat_from ws q ps)

pub concat_means : (words : List (List ℕ)) (ps : List NumberedExpr) (trees : List ExprTree) → 1 ≤ length ps → MeanAll words ps trees
    → Means words (concat_parts ps) (concat_of trees)
concat_means words [] trees some h ws g = absurd (omega (arith, some))
concat_means words (p ∷ ps) trees some h ws g = concat_from ws p ps ∙ ap concat_of (h ws g)

pub mean_more : (w0 w1 : List (List ℕ)) (ps : List NumberedExpr) (trees : List ExprTree) (t : NumberedExpr) (e : ExprTree) → Extends w0 w1
    → MeanAll w0 ps trees → Means w1 t e → MeanAll w1 (ps ++ t ∷ []) (trees ++ e ∷ [])
mean_more w0 w1 ps trees t e ext all one ws g =
    map-append (expr_tree ws) ps (t ∷ []) ∙ (λ i. all ws (extends_by w0 w1 ws ext g) i ++ one ws g i ∷ [])

pub weak : (least : ℕ) → least ≤ 1 → nat_le least 1 ≡ true
weak least h = search rules
