-- A symbol behind pieces in postfix code.
use Rattle.std.proofs.Common.{◌≡◌, ℕ, ◌+◌, ◌-◌, ◌≤◌, ◌*◌, ◌/◌, ◌%◌, ◌^◌, List, [], ◌∷◌, ◌++◌, length, refl, sym, ap, subst, ◌∙◌, arith, take, drop, length-append, append_assoc, append-nil, get_or}
use Rattle.std.proofs.lemmas.List.{get_or_push, get_or_append_left}
use Rattle.std.proofs.Math.Seq.{take-append_seam, drop-append_seam}
use Rattle.ae_vmodule.specs.Numbered as n
use Rattle.ae_vmodule.specs.Numbered.{Piece, expr, stmt}
use Rattle.ae_vmodule.specs.Postfix.{coded_piece, run, step}
use Rattle.ae_vmodule.specs.Stacks.{codes, starts_of, IsStack, IsOperator, IsLeaf, HasExprs, HasChoice, HasStmts, HasWhen, HasEither}
use Rattle.ae_vmodule.proofs.PostfixLaws.{run_append, run_piece}
use Rattle.ae_vmodule.specs.declared.symbols.Symbol.{Symbol}
use Rattle.ae_vmodule.specs.declared.symbols.Symbol.TheVariants.{Name, Number, Const, Part, Index, Unary, Binary, Choose, One, More, Set, Put, When, Either, End, Then}
use Rattle.ae_vmodule.specs.declared.module.BinOp.{BinOp}

pub starts_long : (ps : List Piece) → length (starts_of ps) ≡ length ps
starts_long [] = refl
starts_long (p ∷ below) = omega (arith, starts_long below, length-append (starts_of below) (length (codes below) ∷ []))

-- a symbol that is a piece begins one more
pub leaf_codes : (s : Symbol) (ps : List Piece) → IsLeaf s → codes (step s ps) ≡ codes ps ++ s ∷ []
leaf_codes (Name k) ps h = refl
leaf_codes (Number p) ps h = refl
leaf_codes (Const size fits high low) ps h =
    let e_high : (high * 2 ^ 32 + low) / 2 ^ 32 ≡ high = omega (arith, h) in
    let e_low : (high * 2 ^ 32 + low) % 2 ^ 32 ≡ low = omega (arith, h) in
    ap (λ u. codes ps ++ Const size fits u ((high * 2 ^ 32 + low) % 2 ^ 32) ∷ []) e_high ∙ ap (λ v. codes ps ++ Const size fits high v ∷ []) e_low
leaf_codes (Part _) ps h = elim h [ ]
leaf_codes (Index _) ps h = elim h [ ]
leaf_codes (Unary _) ps h = elim h [ ]
leaf_codes (Binary _ _) ps h = elim h [ ]
leaf_codes (Choose _ _) ps h = elim h [ ]
leaf_codes One ps h = elim h [ ]
leaf_codes (More _) ps h = elim h [ ]
leaf_codes (Set _) ps h = elim h [ ]
leaf_codes (Put _ _) ps h = elim h [ ]
leaf_codes (When _) ps h = elim h [ ]
leaf_codes (Either _ _) ps h = elim h [ ]
leaf_codes End ps h = refl
leaf_codes (Then _) ps h = elim h [ ]

pub leaf_starts : (s : Symbol) (ps : List Piece) → IsLeaf s → starts_of (step s ps) ≡ starts_of ps ++ length (codes ps) ∷ []
leaf_starts (Name k) ps h = refl
leaf_starts (Number p) ps h = refl
leaf_starts (Const size fits high low) ps h = refl
leaf_starts (Part _) ps h = elim h [ ]
leaf_starts (Index _) ps h = elim h [ ]
leaf_starts (Unary _) ps h = elim h [ ]
leaf_starts (Binary _ _) ps h = elim h [ ]
leaf_starts (Choose _ _) ps h = elim h [ ]
leaf_starts One ps h = elim h [ ]
leaf_starts (More _) ps h = elim h [ ]
leaf_starts (Set _) ps h = elim h [ ]
leaf_starts (Put _ _) ps h = elim h [ ]
leaf_starts (When _) ps h = elim h [ ]
leaf_starts (Either _ _) ps h = elim h [ ]
leaf_starts End ps h = refl
leaf_starts (Then _) ps h = elim h [ ]

-- symbols and places behind a symbol
pub next_stack : (ss : List Symbol) (starts next : List ℕ) (s : Symbol) → IsStack ss starts → codes (step s (run ss [])) ≡ codes (run ss []) ++ s ∷ []
    → next ≡ starts_of (step s (run ss [])) → IsStack (ss ++ s ∷ []) next
next_stack ss starts next s h same places =
    let here = run_append ss (s ∷ []) [] in
    (ap (λ xs. xs ++ s ∷ []) h.0 ∙ sym same ∙ ap codes (sym here), places ∙ ap starts_of (sym here))

-- what is left of a list without its end
without_end : (xs ys : List ℕ) (n : ℕ) → length ys ≡ n → take (length (xs ++ ys) - n) (xs ++ ys) ≡ xs
without_end xs ys n same =
    let at : length (xs ++ ys) - n ≡ length xs = omega (arith, same, length-append xs ys) in
    ap (λ k. take k (xs ++ ys)) at ∙ take-append_seam xs ys

all_taken : (xs : List ℕ) → take (length xs - 0) xs ≡ xs
all_taken xs = ap (λ ys. take (length ys - 0) ys) (sym (append-nil xs)) ∙ without_end xs [] 0 refl

two_operator : (s : Symbol) (p a b : Piece) (below : List Piece) → coded_piece p ≡ coded_piece a ++ (coded_piece b ++ s ∷ [])
    → codes (p ∷ below) ≡ codes (b ∷ a ∷ below) ++ s ∷ []
two_operator s p a b below same =
    ap (λ xs. codes below ++ xs) same ∙ sym (append_assoc (codes below) (coded_piece a) _)
    ∙ sym (append_assoc (codes below ++ coded_piece a) (coded_piece b) _)

three_operator : (s : Symbol) (p a b c : Piece) (below : List Piece)
    → coded_piece p ≡ coded_piece a ++ (coded_piece b ++ (coded_piece c ++ s ∷ [])) → codes (p ∷ below) ≡ codes (c ∷ b ∷ a ∷ below) ++ s ∷ []
three_operator s p a b c below same =
    ap (λ xs. codes below ++ xs) same ∙ sym (append_assoc (codes below) (coded_piece a) _)
    ∙ sym (append_assoc (codes below ++ coded_piece a) (coded_piece b) _)
    ∙ sym (append_assoc (codes below ++ coded_piece a ++ coded_piece b) (coded_piece c) _)

one_less : (p a : Piece) (below : List Piece) → starts_of (p ∷ below) ≡ take (length (starts_of (a ∷ below)) - 0) (starts_of (a ∷ below))
one_less p a below = sym (all_taken (starts_of (a ∷ below)))

two_less : (p b a : Piece) (below : List Piece) → starts_of (p ∷ below) ≡ take (length (starts_of (b ∷ a ∷ below)) - 1) (starts_of (b ∷ a ∷ below))
two_less p b a below = sym (without_end (starts_of (a ∷ below)) (length (codes (a ∷ below)) ∷ []) 1 refl)

three_less : (p c b a : Piece) (below : List Piece)
    → starts_of (p ∷ below) ≡ take (length (starts_of (c ∷ b ∷ a ∷ below)) - 2) (starts_of (c ∷ b ∷ a ∷ below))
three_less p c b a below =
    let first = starts_of (a ∷ below) in
    let s = length (codes (a ∷ below)) in
    let t = length (codes (b ∷ a ∷ below)) in
    sym (ap (λ xs. take (length xs - 2) xs) (append_assoc first (s ∷ []) (t ∷ [])) ∙ without_end first (s ∷ t ∷ []) 2 refl)

-- the size of the piece on top, and of the one under it
abbrev pub IsTopSize : ℕ → List Piece → Type 0
IsTopSize size ps = (p : Piece) (below : List Piece) → ps ≡ p ∷ below → size ≡ length (coded_piece p)

abbrev pub IsSecondSize : ℕ → List Piece → Type 0
IsSecondSize size ps = (q p : Piece) (below : List Piece) → ps ≡ q ∷ p ∷ below → size ≡ length (coded_piece p)

two : (s : ℕ → Symbol) (p a b : Piece) (below : List Piece) (size : ℕ) → size ≡ length (coded_piece b)
    → coded_piece p ≡ coded_piece a ++ (coded_piece b ++ s (length (coded_piece b)) ∷ []) → codes (p ∷ below) ≡ codes (b ∷ a ∷ below) ++ s size ∷ []
two s p a b below size is same =
    two_operator (s size) p a b below (same ∙ ap (λ k. coded_piece a ++ (coded_piece b ++ s k ∷ [])) (sym is))

pub binary_operator : (op : BinOp) (size : ℕ) (ps : List Piece) → HasExprs ps → IsTopSize size ps → IsOperator (Binary op size) 1 ps
binary_operator op size ps h is =
    let p = expr (n.binary op h.1 h.0) in
    subst (IsOperator (Binary op size) 1) (sym h.3)
    (two (Binary op) p (expr h.1) (expr h.0) h.2 size (is (expr h.0) (expr h.1 ∷ h.2) h.3) refl, two_less p (expr h.0) (expr h.1) h.2)

pub more_operator : (size : ℕ) (ps : List Piece) → HasExprs ps → IsTopSize size ps → IsOperator (More size) 1 ps
more_operator size ps h is =
    let p = expr (n.concat_more h.1 h.0) in
    subst (IsOperator (More size) 1) (sym h.3)
    (two More p (expr h.1) (expr h.0) h.2 size (is (expr h.0) (expr h.1 ∷ h.2) h.3) refl, two_less p (expr h.0) (expr h.1) h.2)

pub put_operator : (k size : ℕ) (ps : List Piece) → HasExprs ps → IsTopSize size ps → IsOperator (Put k size) 1 ps
put_operator k size ps h is =
    let p = stmt (n.put k h.1 h.0) in
    subst (IsOperator (Put k size) 1) (sym h.3)
    (two (Put k) p (expr h.1) (expr h.0) h.2 size (is (expr h.0) (expr h.1 ∷ h.2) h.3) refl, two_less p (expr h.0) (expr h.1) h.2)

pub when_operator : (size : ℕ) (ps : List Piece) → HasWhen ps → IsTopSize size ps → IsOperator (When size) 1 ps
when_operator size ps h is =
    let p = stmt (n.when h.1 h.0) in
    subst (IsOperator (When size) 1) (sym h.3)
    (two When p (expr h.1) (stmt h.0) h.2 size (is (stmt h.0) (expr h.1 ∷ h.2) h.3) refl, two_less p (stmt h.0) (expr h.1) h.2)

pub then_operator : (size : ℕ) (ps : List Piece) → HasStmts ps → IsTopSize size ps → IsOperator (Then size) 1 ps
then_operator size ps h is =
    let p = stmt (n.block_more h.1 h.0) in
    subst (IsOperator (Then size) 1) (sym h.3)
    (two Then p (stmt h.1) (stmt h.0) h.2 size (is (stmt h.0) (stmt h.1 ∷ h.2) h.3) refl, two_less p (stmt h.0) (stmt h.1) h.2)

three : (s : ℕ → ℕ → Symbol) (p a b c : Piece) (below : List Piece) (size_b size_c : ℕ) → size_b ≡ length (coded_piece b) → size_c ≡ length (coded_piece c)
    → coded_piece p ≡ coded_piece a ++ (coded_piece b ++ (coded_piece c ++ s (length (coded_piece b)) (length (coded_piece c)) ∷ []))
    → codes (p ∷ below) ≡ codes (c ∷ b ∷ a ∷ below) ++ s size_b size_c ∷ []
three s p a b c below size_b size_c is_b is_c same =
    three_operator (s size_b size_c) p a b c below (same
    ∙ ap (λ m. coded_piece a ++ (coded_piece b ++ (coded_piece c ++ s m (length (coded_piece c)) ∷ []))) (sym is_b)
    ∙ ap (λ m. coded_piece a ++ (coded_piece b ++ (coded_piece c ++ s size_b m ∷ []))) (sym is_c))

pub choice_operator : (size_a size_b : ℕ) (ps : List Piece) → HasChoice ps → IsSecondSize size_a ps → IsTopSize size_b ps
    → IsOperator (Choose size_a size_b) 2 ps
choice_operator size_a size_b ps h is_a is_b =
    let p = expr (n.choice h.2 h.1 h.0) in
    subst (IsOperator (Choose size_a size_b) 2) (sym h.4) (
      three Choose p (expr h.2) (expr h.1) (expr h.0) h.3 size_a size_b (is_a (expr h.0) (expr h.1) (expr h.2 ∷ h.3) h.4)
          (is_b (expr h.0) (expr h.1 ∷ expr h.2 ∷ h.3) h.4) refl,
      three_less p (expr h.0) (expr h.1) (expr h.2) h.3,
    )

pub either_operator : (size_a size_b : ℕ) (ps : List Piece) → HasEither ps → IsSecondSize size_a ps → IsTopSize size_b ps
    → IsOperator (Either size_a size_b) 2 ps
either_operator size_a size_b ps h is_a is_b =
    let p = stmt (n.either h.2 h.1 h.0) in
    subst (IsOperator (Either size_a size_b) 2) (sym h.4) (
      three Either p (expr h.2) (stmt h.1) (stmt h.0) h.3 size_a size_b (is_a (stmt h.0) (stmt h.1) (expr h.2 ∷ h.3) h.4)
          (is_b (stmt h.0) (stmt h.1 ∷ expr h.2 ∷ h.3) h.4) refl,
      three_less p (stmt h.0) (stmt h.1) (expr h.2) h.3,
    )

pub many_starts : (ss : List Symbol) (starts : List ℕ) → IsStack ss starts → length starts ≡ length (run ss [])
many_starts ss starts h = ap length h.1 ∙ starts_long (run ss [])

-- the symbols of the last piece begin at the last place
pub top_start : (ss : List Symbol) (starts : List ℕ) (a : Piece) (below : List Piece) (i d : ℕ) → IsStack ss starts → run ss [] ≡ a ∷ below
    → i + 1 ≡ length starts → (get_or starts i d ≡ length (codes below)) × (ss ≡ codes below ++ coded_piece a)
top_start ss starts a below i d h is at =
    let places : starts ≡ starts_of below ++ length (codes below) ∷ [] = h.1 ∙ ap starts_of is in
    let long : length (starts_of below) ≡ i = omega (arith, at, ap length places, length-append (starts_of below) (length (codes below) ∷ [])) in
    (ap (λ xs. get_or xs i d) places ∙ get_or_push (starts_of below) (length (codes below)) d i long, h.0 ∙ ap codes is)

pub second_start : (ss : List Symbol) (starts : List ℕ) (b a : Piece) (below : List Piece) (i d : ℕ) → IsStack ss starts
    → run ss [] ≡ b ∷ a ∷ below → i + 2 ≡ length starts → get_or starts i d ≡ length (codes below)
second_start ss starts b a below i d h is at =
    let first = starts_of (a ∷ below) in
    let places : starts ≡ first ++ length (codes (a ∷ below)) ∷ [] = h.1 ∙ ap starts_of is in
    let long : length (starts_of below) ≡ i =
    omega (arith, at, ap length places, length-append first (length (codes (a ∷ below)) ∷ []), length-append (starts_of below) (length (codes below) ∷ [])) in
    ap (λ xs. get_or xs i d) places
    ∙ get_or_append_left first (length (codes (a ∷ below)) ∷ []) d i (omega (arith, long, length-append (starts_of below) (length (codes below) ∷ [])))
    ∙ get_or_push (starts_of below) (length (codes below)) d i long

-- where the last two begin
pub top_within : (ss : List Symbol) (starts : List ℕ) (i d : ℕ) → IsStack ss starts → 1 ≤ length (run ss []) → i + 1 ≡ length starts
    → get_or starts i d ≤ length ss
top_within ss starts i d h some at =
    elim (run ss []) as (λ ps. run ss [] ≡ ps → get_or starts i d ≤ length ss) [
      | [] ↦ λ is. absurd (omega (arith, some, ap length is))
      | a ∷ below ↦ λ is.
          let top = top_start ss starts a below i d h is at in
          omega (arith, top.0, ap length top.1, length-append (codes below) (coded_piece a))
    ] refl

pub second_within : (ss : List Symbol) (starts : List ℕ) (i j d e : ℕ) → IsStack ss starts → 2 ≤ length (run ss []) → i + 1 ≡ length starts → j + 1 ≡ i
    → get_or starts j e ≤ get_or starts i d
second_within ss starts i j d e h some at next =
    elim (run ss []) as (λ ps. run ss [] ≡ ps → get_or starts j e ≤ get_or starts i d) [
      | [] ↦ λ is. absurd (omega (arith, some, ap length is))
      | a ∷ [] ↦ λ is. absurd (omega (arith, some, ap length is))
      | b ∷ a ∷ below ↦ λ is.
          let top = top_start ss starts b (a ∷ below) i d h is at in
          let low = second_start ss starts b a below j e h is (omega (arith, at, next)) in
          omega (arith, top.0, low, length-append (codes below) (coded_piece a))
    ] refl

pub run_codes : (ps : List Piece) → run (codes ps) [] ≡ ps
run_codes [] = refl
run_codes (p ∷ below) = run_append (codes below) (coded_piece p) [] ∙ ap (run (coded_piece p)) (run_codes below) ∙ run_piece p below

pub codes_stack : (ps : List Piece) → IsStack (codes ps) (starts_of ps)
codes_stack ps = (ap codes (sym (run_codes ps)), ap starts_of (sym (run_codes ps)))

pub some_top : (ps : List Piece) → 1 ≤ length ps → (p : Piece) × (below : List Piece) × (ps ≡ p ∷ below)
some_top [] h = absurd (omega (arith, h))
some_top (p ∷ below) h = (p, below, refl)

-- the symbols and places of a stack apart from its last piece
pub record Taken (ss : List Symbol) (starts : List ℕ) (from i : ℕ) (a : Piece) (below : List Piece) : Type 0 where
  pub within : from ≤ length ss
  pub front : take from ss ≡ codes below
  pub back : drop from ss ≡ coded_piece a
  pub places : take i starts ≡ starts_of below

pub taken : (ss : List Symbol) (starts : List ℕ) (a : Piece) (below : List Piece) (from i d : ℕ) → IsStack ss starts → run ss [] ≡ a ∷ below
    → i + 1 ≡ length starts → from ≡ get_or starts i d → Taken ss starts from i a below
taken ss starts a below from i d h is at begin =
    let top = top_start ss starts a below i d h is at in
    let here : from ≡ length (codes below) = begin ∙ top.0 in
    let places : starts ≡ starts_of below ++ length (codes below) ∷ [] = h.1 ∙ ap starts_of is in
    let long : i ≡ length (starts_of below) = omega (arith, at, ap length places, length-append (starts_of below) (length (codes below) ∷ [])) in
    record {
      within = omega (arith, here, ap length top.1, length-append (codes below) (coded_piece a));
      front = ap (λ n. take n ss) here ∙ ap (take (length (codes below))) top.1 ∙ take-append_seam (codes below) (coded_piece a);
      back = ap (λ n. drop n ss) here ∙ ap (drop (length (codes below))) top.1 ∙ drop-append_seam (codes below) (coded_piece a);
      places = ap (λ n. take n starts) long ∙ ap (take (length (starts_of below))) places ∙ take-append_seam (starts_of below) _;
    }

pub one_more : (ps qs : List Piece) (s : Symbol) → qs ≡ step s ps → codes (step s ps) ≡ codes ps ++ s ∷ [] → length (codes qs) ≤ length (codes ps) + 1
one_more ps qs s is same = omega (arith, ap (λ rs. length (codes rs)) is, ap length same, length-append (codes ps) (s ∷ []))
